use Rattle.std.proofs.Common.{ℕ, ◌≡◌, true, sym, refl, ap, ◌∙◌, subst}
use Rattle.std.proofs.lemmas.Bool.{both_ways}
use Rattle.ws_isa.specs.Walk.{gather}
use Rattle.df_core.specs.Core.{is_full, operands_in}
use Rattle.match_table.specs.declared.entry.Arrived.{Arrived}
use Rattle.match_table.specs.Ports.{alone}
use Rattle.match_table.specs.Tables.{held_in, TableContent}
use Rattle.match_table.proofs.Answered.{count_is}
use Rattle.match_table.proofs.Listed.{table_fired}
use Rattle.match_table.proofs.table.Table.fired_with.Goals as goal
use Rattle.ws_words.proofs.Options.{some_same}

pub unreachable-requires : goal.unreachable-requires
unreachable-requires g c =
    let fired = (table_fired _ _ _ _ _ _ _ _ c.self.invariant.0 (ap (λ (s : TableContent). s.fired)
    c.self.view_is) c.requires) in
    c.in_default.not-Some fired.arrived (c.look_on.ensures ∙ fired.is)

pub unreachable-requires-in-None : goal.unreachable-requires-in-None
unreachable-requires-in-None g c =
    let fired = (table_fired _ _ _ _ _ _ _ _ c.self.invariant.0 (ap (λ (s : TableContent). s.fired)
    c.self.view_is) c.requires) in
    let count = count_is _ _ _ _ _ c.op.ensures c.program.ensures.image refl _ c.ports-ports.ensures in
    let same : fired.arrived ≡ c.in-Some.arrived = some_same
    (sym fired.is ∙ sym c.look_on.ensures ∙ c.in-Some.is) in
    both_ways (is_full (alone c.in-Some.arrived) 0 0 c.ports-ports.result) c.in-None.ensures (subst (λ (x :
    Arrived × ℕ). is_full (alone x.0) 0 0 x.1 ≡ true) (λ j. (same j, sym count.0 j)) fired.full)

pub returns-clause-operands : goal.returns-clause-operands
returns-clause-operands g c =
    let fired = (table_fired _ _ _ _ _ _ _ _ c.self.invariant.0 (ap (λ (s : TableContent). s.fired)
    c.self.view_is) c.requires) in
    let count = count_is _ _ _ _ _ c.op.ensures c.program.ensures.image refl _ c.ports-ports.ensures in
    let same : fired.arrived ≡ c.in-Some.arrived = some_same
    (sym fired.is ∙ sym c.look_on.ensures ∙ c.in-Some.is) in
    c.in-Some-operands_of.ensures.1 ∙ ap (λ (x : Arrived × ℕ). gather (alone x.0) 0 0 0 x.1) (λ j.
    (sym same j, count.0 j)) ∙ fired.operands ∙ ap (λ (s : TableContent). operands_in g.J.Job.image (held_in
    s.entries) c.args.instance.wave c.args.instance.instr) c.self.view_is
