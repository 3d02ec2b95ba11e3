use Rattle.std.proofs.Common.{◌≡◌, ◌∙◌, sym, ap, inr, subst, true, false, ℕ}
use Rattle.ws_isa.specs.Image.{is_first, first_number, target, IsBlock}
use Rattle.annot_check.specs.Order.{LastsOk}
use Rattle.annot_check.specs.Seen.{order_image}
use Rattle.annot_check.proofs.Chained.Leaving.{end_breach, edge_ok}
use Rattle.annot_check.proofs.links.WaveLinks.leave_by.Goals as goal

pub returns-in-Some-clause-refused : goal.returns-in-Some-clause-refused
returns-in-Some-clause-refused c =
    let f : is_first (order_image c.args.self.now) (target
    (order_image c.args.self.now) c.args.number c.args.choice) ≡ true =
    ap (is_first (order_image c.args.self.now)) (sym c.target_of-to.ensures) ∙
    (sym c.starts_wave.ensures ∙ c.if-starts_wave.true) in
    end_breach (order_image c.args.self.now) c.args.number c.args.lasts.now c.in-Some.bad c.requires.comes
    (inr (c.requires.goes_on, (c.args.choice, f))) c.in-Some.ensures.some

pub deliver-requires-clause-comes : goal.deliver-requires-clause-comes
deliver-requires-clause-comes c =
    let f : is_first (order_image c.args.self.now) (target
    (order_image c.args.self.now) c.args.number c.args.choice) ≡ false =
    ap (is_first (order_image c.args.self.now)) (sym c.target_of-to.ensures) ∙
    (sym c.starts_wave.ensures ∙ c.if-starts_wave.false) in
    subst (λ (m : ℕ). LastsOk (order_image c.args.self.now) m
    (first_number (order_image c.args.self.now) m) c.args.lasts.now) (sym c.target_of-to.ensures)
    (edge_ok (order_image c.args.self.now) c.args.number c.args.choice c.args.lasts.now c.requires.goes_on f
    c.requires.comes)

pub starts_wave-requires : goal.starts_wave-requires
starts_wave-requires c = subst (IsBlock (order_image c.args.self.now)) (sym c.target_of-to.ensures)
    ((c.requires.ready.shape.blocks c.args.number c.requires.block).edges.there c.args.choice
    c.requires.goes_on)

pub deliver-requires-clause-block : goal.deliver-requires-clause-block
deliver-requires-clause-block c = subst (IsBlock (order_image c.args.self.now)) (sym c.target_of-to.ensures)
    ((c.requires.ready.shape.blocks c.args.number c.requires.block).edges.there c.args.choice
    c.requires.goes_on)
