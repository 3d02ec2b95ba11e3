use Rattle.std.proofs.Common.{ℕ, ◌-◌, ◌≡◌, ◌∷◌, ◌++◌, Bool, false, List, [], length, replicate, ap, ◌∙◌}
use Rattle.std.proofs.Common.{subst, arith}
use Rattle.std.proofs.lemmas.Grind.{common_steps}
use Rattle.std.proofs.lemmas.List.{length-replicate}
use Rattle.cfg_core.specs.Graph.{entry_of}
use Rattle.cfg_core.specs.Tables.{graph_in}
use Rattle.cfg_core.specs.View as view
use Rattle.call_gen.specs.Part.{FlagsMore}
use Rattle.call_gen.proofs.Parted.Marking.{found_main, found_more, found_all}
use Rattle.call_gen.proofs.find.find.Goals as goal

pub loop-b-init : goal.loop-b-init
loop-b-init c =
    let t = c.args.table.now in let g = view.graph (graph_in t) in let n = c.block_count.result in
    let main = c.room.result.entry in
    let new = c.mark.new.self.flags.items in let waits = c.mark.new.self.waits.items in
    let items : c.in_ok-vec.field-0.items ≡ replicate n false = c.in_ok-vec.ensures.items_if_clones_equal
    (λ y e. e) in
    let empty : c.new.result.items ≡ [] = c.new.ensures.items in
    let last : c.saturating_sub.result ≡ length g.procs - 1 =
    omega (arith, c.proc_count.ensures) in
    found_main g c.requires.rules c.requires.no_send n main new waits
    (omega (arith, c.block_count.ensures)) (length-replicate n false)
    (c.room.ensures.entry ∙ ap (entry_of g) last)
    (subst (λ (ws : List ℕ). FlagsMore (λ k. k ≡ main) (replicate n false) new ws waits) empty
    (subst (λ (fs : List Bool). FlagsMore (λ k. k ≡ main) fs new c.new.result.items waits) items
    c.in_ok-mark.ensures))

pub loop-b-preserved : goal.loop-b-preserved
loop-b-preserved c =
    let g = view.graph (graph_in c.args.table.now) in let b = c.in-Some.b in
    let waited = c.loop-b.finder.waits.items in let rest = c.pop.new.self.items in
    let e : waited ≡ rest ++ b ∷ [] = c.in-Some.ensures.items in
    found_more g c.requires.rules c.requires.no_send b c.loop-b.finder.flags.items c.look.new.self.flags.items
    waited rest c.look.new.self.waits.items e c.loop-b.invariant c.in_ok-look.ensures

pub returns : goal.returns
returns c =
    let g = view.graph (graph_in c.args.table.now) in
    let e : c.loop-b.finder.waits.items ≡ [] = grind (arith, common_steps) in
    found_all g c.requires.rules c.requires.no_send c.loop-b.finder.flags.items c.loop-b.finder.waits.items e
    c.loop-b.invariant
