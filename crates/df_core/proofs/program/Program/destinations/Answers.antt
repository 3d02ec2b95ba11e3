use Rattle.std.proofs.Common.{◌∙◌, sym, eqb, eq-eqb, ne_eqb}
use Rattle.std.proofs.lemmas.Bool.{cond-true, cond-false}
use Rattle.ws_isa.specs.View as view
use Rattle.df_core.specs.Places.{image_of}
use Rattle.df_core.proofs.Parts.Look.{to_steer, to_pad, to_all, to_none}
use Rattle.df_core.proofs.program.Program.destinations.Goals as goal

pub returns-then-selector-eq0 : goal.returns-then-selector-eq0
returns-then-selector-eq0 c = let i = c.in-Some.place.instr.now in
    c.deref.ensures.value ∙ sym (cond-true (eqb c.args.selector 0) i.others.items i.dests.items
    (eq-eqb c.args.selector 0 c.if-selector-eq0.true))
    ∙ to_steer (image_of c.args.self.now) c.args.number c.args.selector (view.instr i) c.in-Some.ensures.instr
    c.in-Steer.is

pub returns-else-selector-eq0 : goal.returns-else-selector-eq0
returns-else-selector-eq0 c = let i = c.in-Some.place.instr.now in
    c.deref-else-selector-eq0.ensures.value
    ∙ sym (cond-false (eqb c.args.selector 0) i.others.items i.dests.items
    (ne_eqb c.args.selector 0 c.if-selector-eq0.false))
    ∙ to_steer (image_of c.args.self.now) c.args.number c.args.selector (view.instr i) c.in-Some.ensures.instr
    c.in-Steer.is

pub returns-in-Send : goal.returns-in-Send
returns-in-Send c = let i = c.in-Some.place.instr.now in
    c.landed.ensures ∙ to_pad (image_of c.args.self.now) c.args.number c.args.selector (view.instr i)
    c.in-Send.pad c.in-Some.place.block c.in-Some.ensures.instr c.in-Some.ensures.block c.in-Send.is

pub returns-in_default : goal.returns-in_default
returns-in_default c = let i = c.in-Some.place.instr.now in
    c.deref-in_default.ensures.value ∙ to_all (image_of c.args.self.now) c.args.number c.args.selector
    (view.instr i) c.in-Some.ensures.instr c.in_default.not-Steer (λ p. c.in_default.not-Send p)

pub returns-in-None : goal.returns-in-None
returns-in-None c = to_none (image_of c.args.self.now) c.args.number c.args.selector c.in-None.ensures
