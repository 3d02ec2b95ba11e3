use Rattle.std.proofs.Common.{◌∙◌, sym, ap, Some, None, ℕ, arith, subst}
use Rattle.ws_isa.specs.View as view
use Rattle.ws_isa.specs.Image.{Image, IsBlock}
use Rattle.annot_check.specs.Order.{LastsOk}
use Rattle.annot_check.specs.Seen.{order_image}
use Rattle.annot_check.proofs.Shaped.Edges.{on_ok_three}
use Rattle.annot_check.proofs.Chained.Visiting.{visit_none, visit_some, entry_read}
use Rattle.annot_check.proofs.links.WaveLinks.visit.Goals as goal

pub returns-in-None-clause-ok : goal.returns-in-None-clause-ok
returns-in-None-clause-ok c =
    let h : IsBlock (order_image c.enter.new.self) c.args.number =
    subst (λ (x : Image). IsBlock x c.args.number) (sym
    (ap view.image c.enter.ensures.image)) c.requires.block in
    visit_none c.enter.new.self c.args.number c.enter.ensures.entered h
    (entry_read c.enter.new.self c.args.number _ None c.enter.ensures.entered h (sym c.in-None.is ∙
    c.index.ensures))

pub pass_all-requires-clause-ok : goal.pass_all-requires-clause-ok
pass_all-requires-clause-ok c =
    let h : IsBlock (order_image c.enter.new.self) c.args.number =
    subst (λ (x : Image). IsBlock x c.args.number) (sym
    (ap view.image c.enter.ensures.image)) c.requires.block in
    let e = entry_read c.enter.new.self c.args.number _ (Some c.in-Some.start) c.enter.ensures.entered h
    (sym c.in-Some.is ∙ c.index.ensures) in
    let r = c.enter.ensures.entered.ready in
    subst (λ (m : ℕ). LastsOk (order_image c.enter.new.self) c.args.number m c.in-Some.start)
    (sym (r.starts_are.1 c.args.number (omega (arith, h.1)))) (r.ok c.args.number c.in-Some.start e).1

pub returns-clause-ok : goal.returns-clause-ok
returns-clause-ok c =
    let h : IsBlock (order_image c.enter.new.self) c.args.number =
    subst (λ (x : Image). IsBlock x c.args.number) (sym
    (ap view.image c.enter.ensures.image)) c.requires.block in
    let e = entry_read c.enter.new.self c.args.number _ (Some c.in-Some.start) c.enter.ensures.entered h
    (sym c.in-Some.is ∙ c.index.ensures) in
    on_ok_three c.end.result c.end.ensures.ready c.end.ensures.left c.end.ensures.left
    (λ r s u. visit_some c.enter.new.self c.end.new.self c.args.number c.in-Some.start c.in_ok-lasts.lasts
    c.enter.ensures.entered h e (rw c.end.ensures.same.2 c.in_ok-lasts.ensures.state) c.end.ensures.same.0
    r s)
