use Rattle.std.proofs.Common.{arith, ◌∙◌, Option, sym, subst, eqb, eq-eqb, ne_eqb}
use Rattle.std.proofs.lemmas.Bool.{cond-true, cond-false}
use Rattle.ws_isa.specs.View as view
use Rattle.df_core.specs.declared.program.PlacedInstr.{PlacedInstr}
use Rattle.df_core.specs.Places.{PlaceIs, image_of}
use Rattle.df_core.proofs.Parts.Look.{to_steer, to_all, to_none}
use Rattle.match_table.specs.Tables.{IsPlacedAt}
use Rattle.match_table.proofs.ops.dests_of.Goals as goal

pub returns-then-selector-eq0 : goal.returns-then-selector-eq0
returns-then-selector-eq0 c = let p = c.in-Some.placed in let i = p.instr.now in
    let place : PlaceIs (image_of c.args.program.now) c.args.instr (view.instr i) p.block =
    subst (λ (o : Option PlacedInstr). IsPlacedAt (image_of c.args.program.now) c.args.instr o)
    c.in-Some.is c.requires.placed in
    c.deref.ensures.value ∙ sym (cond-true (eqb c.args.selector 0) i.others.items i.dests.items (eq-eqb
    c.args.selector 0 c.if-selector-eq0.true)) ∙ to_steer _ _ _ _ place.instr c.in-Steer.is

pub returns-else-selector-eq0 : goal.returns-else-selector-eq0
returns-else-selector-eq0 c = let p = c.in-Some.placed in let i = p.instr.now in
    let place : PlaceIs (image_of c.args.program.now) c.args.instr (view.instr i) p.block =
    subst (λ (o : Option PlacedInstr). IsPlacedAt (image_of c.args.program.now) c.args.instr o)
    c.in-Some.is c.requires.placed in
    c.deref-else-selector-eq0.ensures.value ∙ sym (cond-false (eqb c.args.selector 0) i.others.items
    i.dests.items (ne_eqb c.args.selector 0 c.if-selector-eq0.false)) ∙ to_steer _ _ _ _ place.instr
    c.in-Steer.is

pub returns-in_default : goal.returns-in_default
returns-in_default c = grind (arith, to_all)

pub returns-in-None : goal.returns-in-None
returns-in-None c = grind (arith, to_none)
