use Rattle.std.proofs.Common.{List, sym, ◌∙◌, subst, arith}
use Rattle.std.proofs.lemmas.List.{take_all}
use Rattle.ws_isa.specs.declared.instr.Dest.{Dest}
use Rattle.ws_isa.specs.Image.{tokens_to}
use Rattle.match_table.specs.Together.{part_of}
use Rattle.store_buf.specs.Runs.{AllReach}
use Rattle.fire_crew.proofs.Paid.{is_come, reach_sent}
use Rattle.fire_crew.proofs.told.have_come.Goals as goal

pub loop-dest-preserved : goal.loop-dest-preserved
loop-dest-preserved g c = λ way word. reach_sent _ _ _ _ _ _ _ c.loop-dest-test.true (is_come (part_of
    c.args.tables.now).held way _ _ _ (sym c.holds.ensures ∙ c.if-not-holds.false)) (c.loop-dest.invariant way
    word)

pub returns : goal.returns
returns g c = λ _ way word. subst
    (λ (ds : List Dest). AllReach (part_of c.args.tables.now).held way (tokens_to c.args.wave word ds))
    (take_all c.loop-dest.dest-index c.args.dests.now (let t = c.loop-dest-test.false in omega (arith, t)))
    (c.loop-dest.invariant way word)
