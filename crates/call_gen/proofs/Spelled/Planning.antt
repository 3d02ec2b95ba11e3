-- Numbers of blocks and procedures, as the code finds them.
use Rattle.std.proofs.Common.{ℕ, zero, suc, ◌+◌, ◌-◌, ◌≡◌, ◌<◌, ◌≤◌, ◌^◌, Bool, if◌then◌else◌, List, [], ◌∷◌}
use Rattle.std.proofs.Common.{◌++◌, length, map, take, drop, get_or, replicate, refl, ap, ◌∙◌, append_assoc}
use Rattle.std.proofs.Common.{Some, arith}
use Rattle.std.proofs.lemmas.List.{length-map, take_all, length-take-le, map-append}
use Rattle.std.specs.List.{filter}
use Rattle.cfg_core.specs.Graph.{Graph, Op, Spot, spots, spots_in, spots_from, spot_at, block_at, proc_at}
use Rattle.cfg_core.specs.Graph.{entry_of}
use Rattle.cfg_core.specs.Rules.{calls, IsGraph}
use Rattle.cfg_core.specs.View as view
use Rattle.cfg_core.specs.declared.blocks.GraphProc.{GraphProc}
use Rattle.cfg_core.specs.declared.blocks.GraphBlock.{GraphBlock}
use Rattle.call_gen.specs.Spelled.{callee_is, count_of, is_call, is_calling, moved, door, own_cells}
use Rattle.call_gen.specs.Spelled.{first_cell, cells_in_all, landings_from, landings, below, clear}
use Rattle.call_gen.specs.Plans.{Few}
use Rattle.call_gen.proofs.Spelled.Counting.{count_next, home_at, take_next}
use Rattle.call_gen.proofs.Spelled.Placing.{home_is}
use Rattle.call_gen.proofs.Spelled.Places.{all_placed}
use Rattle.ws_words.specs.Items.{nth}
use Rattle.ws_words.proofs.Places.{nth_there}

map_both : (xs ys : List Spot) → map (λ (s : Spot). s.home) (xs ++ ys) ≡ map (λ (s : Spot). s.home) xs ++ map
    (λ (s : Spot). s.home) ys
map_both [] ys = refl
map_both (x ∷ xs) ys = ap (λ (ns : List ℕ). x.home ∷ ns) (map_both xs ys)

same_homes : (f vars : ℕ) (xs : List GraphBlock) → map (λ (s : Spot). s.home)
    (spots_in f vars (map view.block xs)) ≡ replicate (length xs) f
same_homes f vars [] = refl
same_homes f vars (x ∷ xs) = ap (λ (ns : List ℕ). f ∷ ns) (same_homes f vars xs)

pub homes_more : (items : List GraphProc) (i j n : ℕ) (p : GraphProc) (old new whole : List ℕ) → j ≡ suc i
    → drop i items ≡ p ∷ drop j items → n ≡ length p.blocks.items → new ≡ old ++ replicate n i
    → old ++ map (λ (s : Spot). s.home) (spots_from i (map view.proc (drop i items))) ≡ whole
    → new ++ map (λ (s : Spot). s.home) (spots_from j (map view.proc (drop j items))) ≡ whole
homes_more items i j n p old new whole ej e en enew h = grind (arith, append_assoc, same_homes, map_both)

pub spot_is : (g : Graph) (b : ℕ) → b < length (spots g) → nth (spots g) b ≡ Some (spot_at g b)
unfolding spot_at
spot_is g b lt = grind (arith, nth_there (spots g) b lt)

pub home_there : (g : Graph) (b : ℕ) → b < length (spots g) → (spot_at g b).home < length g.procs
home_there g b lt = grind (arith, home_is g [] 0 g.procs b (spot_at g b) (spot_is g b lt), spot_is g b lt)

pub homes_there : (g : Graph) (homes : List ℕ) (b : ℕ) → homes ≡ map (λ (s : Spot). s.home) (spots g)
    → b < length homes → (b < length (spots g)) × (get_or homes b 0 ≡ (spot_at g b).home)
    × (get_or homes b 0 < length g.procs)
homes_there g homes b e lt =
    let there : b < length (spots g) =
    omega (arith, lt, ap length e, length-map (spots g) (λ (s : Spot). s.home)) in
    let home = home_at g homes b e there in
    (there, home, omega (arith, home, home_there g b there))

pub place_is : (g : Graph) (b k home : ℕ) → k ≡ count_of is_call (take b (spots g))
    → home ≡ (spot_at g b).home → b + k + home + 1 ≡ moved g b
unfolding moved
place_is g b k home ek eh = omega arith

pub calls_next : (g : Graph) (b k one : ℕ) (hit : Bool) → b < length (spots g)
    → k ≡ count_of is_call (take b (spots g)) → one ≡ (if hit then 1 else 0) → hit ≡ calls (block_at g b).exit
    → k + one ≡ count_of is_call (take (b + 1) (spots g))
calls_next g b k one hit lt e eo eh = grind (arith, count_next)

pub own_is : (g : Graph) (f n : ℕ) (hit : Bool) → hit ≡ is_calling g f → n ≡ (proc_at g f).vars
    → (if hit then n + 1 else 0) ≡ own_cells g f
unfolding own_cells
own_is g f n hit eh en = grind arith

pub moved_is : (g : Graph) (b : ℕ) → moved g b ≡ b + count_of is_call (take b (spots g)) + suc
    (spot_at g b).home
unfolding moved
moved_is g b = refl

pub door_is : (g : Graph) (f : ℕ) → (spot_at g (entry_of g f)).home ≡ f → (1 ≤ moved g (entry_of g f))
    × (moved g (entry_of g f) - 1 ≡ door g f)
unfolding moved door
door_is g f home = (omega arith, omega arith)

more_cells : (g : Graph) (f d n : ℕ) → n ≡ f + d → first_cell g f ≤ first_cell g n
more_cells g f zero n e = let same : f ≡ n = omega arith in omega (arith, ap (first_cell g) same)
more_cells g f (suc d) zero e = absurd (omega arith)
more_cells g f (suc d) (suc n) e = omega (arith, more_cells g f d n (omega arith))

pub first_in_all : (g : Graph) (f : ℕ) → f ≤ length g.procs → first_cell g f ≤ cells_in_all g
unfolding cells_in_all
first_in_all g f le = more_cells g f (length g.procs - f) (length g.procs) (omega arith)

pub cells_all : (g : Graph) (f : ℕ) → f ≡ length g.procs → first_cell g f ≡ cells_in_all g
unfolding cells_in_all
cells_all g f e = ap (first_cell g) e

landings_push : (f b k : ℕ) (xs : List Spot) (s : Spot) → landings_from f b k (xs ++ s ∷ [])
    ≡ (if callee_is s.block.exit f then landings_from f b k xs ++ suc
    ((b + length xs) + (k + count_of is_call xs) + suc s.home) ∷ [] else landings_from f b k xs)
landings_push f b k [] s = grind arith
landings_push f b k (x ∷ xs) s =
    let one = if is_call x then 1 else 0 in
    let place : suc ((suc b + length xs) + ((one + k) + count_of is_call xs) + suc s.home) ≡ suc ((b + suc
    (length xs)) + (k + (one + count_of is_call xs)) + suc s.home) = omega arith in
    grind (arith, landings_push f (suc b) (one + k) xs s)

pub landings_next : (g : Graph) (f b place : ℕ) (old new : List ℕ) (hit : Bool) → b < length (spots g)
    → place ≡ moved g b → hit ≡ callee_is (block_at g b).exit f → old ≡ landings_from f 0 0 (take b (spots g))
    → new ≡ (if hit then old ++ (place + 1) ∷ [] else old) → new ≡ landings_from f 0 0
    (take (b + 1) (spots g))
unfolding spot_at
landings_next g f b place old new hit lt ep eh eo en =
    grind (
      arith,
      length-take-le b (spots g) (omega arith),
      moved_is g b,
      landings_push,
      take_next (spots g) b (b + 1) (omega arith) lt,
    )

pub landings_all : (g : Graph) (f b : ℕ) (points : List ℕ) → length (spots g) ≤ b
    → points ≡ landings_from f 0 0 (take b (spots g)) → points ≡ landings g f
unfolding landings
landings_all g f b points le e = e ∙ ap (landings_from f 0 0) (take_all b (spots g) le)

few_counted : (p : Spot → Bool) (xs : List Spot) → count_of p xs ≤ length xs
few_counted p [] = omega arith
few_counted p (x ∷ xs) = grind (arith, few_counted p xs)

-- the next number after that of a block has 32 bits
pub small_place : (g : Graph) (b : ℕ) → Few g → b < length (spots g) → moved g b + 1 < 2 ^ 32
small_place g b few lt = grind (arith, length-take-le, moved_is, few_counted, home_there)

pub entry_there : (g : Graph) (f : ℕ) → IsGraph g → f < length g.procs → (entry_of g f < length (spots g))
    × ((spot_at g (entry_of g f)).home ≡ f)
entry_there g f rules lt = (all_placed g [] rules).first f lt

-- numbers that pass a test, one more
pub filter_push : (p : ℕ → Bool) (xs : List ℕ) (x : ℕ) → filter p (xs ++ x ∷ [])
    ≡ (if p x then filter p xs ++ x ∷ [] else filter p xs)
filter_push p [] x = refl
filter_push p (y ∷ xs) x = grind (arith, filter_push p xs x)

pub clears_next : (p : ℕ → Bool) (x y : ℕ) (old new : List Op) (hit : Bool) → y ≡ suc x → hit ≡ p x
    → old ≡ map clear (filter p (below x)) → new ≡ (if hit then old ++ clear x ∷ [] else old)
    → new ≡ map clear (filter p (below y))
clears_next p x y old new hit ey eh eo en = grind (arith, filter_push, map-append)

pub saved_end : (p : ℕ → Bool) (x n : ℕ) (list : List ℕ) → x ≡ suc n → list ≡ filter p (below x)
    → list ≡ filter p (below (suc n))
saved_end p x n list ex e = e ∙ ap (λ m. filter p (below m)) ex
