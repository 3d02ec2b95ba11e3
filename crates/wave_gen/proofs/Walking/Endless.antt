-- Where the graph's walk takes every turn, the draft's costs no bounded number of instances.
use Rattle.std.proofs.Common.{ℕ, suc, ◌-◌, ◌*◌, ◌<◌, ◌≤◌, [], length, arith}
use Rattle.std.proofs.lemmas.Bool.{cases_lt}
use Rattle.std.proofs.lemmas.Nat.{mul-le}
use Rattle.ws_words.specs.Outside.{World}
use Rattle.ws_isa.specs.Image.{Image}
use Rattle.ws_isa.specs.Walk.{walk as instances}
use Rattle.cfg_core.specs.Graph.{Graph, spots, entry_of}
use Rattle.wave_gen.specs.Keeps.{KeepsWalk, EndlessWith}
use Rattle.wave_gen.proofs.Walking.Paced.{spots_most, last_block}

less_times : (m n t : ℕ) → suc m * t < suc n * t → m < n
less_times m n t h = grind (arith, cases_lt, mul-le)

pub endless : (g : Graph) (draft : Image) (world : World) → ((turns : ℕ) → KeepsWalk g draft world turns)
    → EndlessWith g draft world
endless g draft world keeps all k cost =
    let M = length draft.blocks * suc k in
    let turns = suc M * suc (spots_most (spots g)) in
    let o = all turns in
    let l = last_block g o.1.0 (entry_of g (length g.procs - 1)) _ [] turns o.0 o.1.1 in
    let u : M < l.place = less_times M l.place (suc (spots_most (spots g))) l.late in
    let w = (keeps turns).goes_on l.place l.block l.state l.frames l.left l.at in
    let c : length (instances draft world w.0) ≤ k = cost w.0 in
    let a : l.place < length draft.blocks * suc (length (instances draft world w.0)) = w.3 in
    let e : length draft.blocks * suc (length (instances draft world w.0)) ≤ length draft.blocks * suc k =
    mul-le (length draft.blocks) (suc (length (instances draft world w.0))) (length draft.blocks) (suc k)
    (omega arith) (omega (arith, c)) in
    omega (arith, u, a, e)
