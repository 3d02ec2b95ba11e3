use Rattle.std.proofs.Common.{◌≡◌, ◌∙◌, refl, sym, ap, subst, true, false, ℕ, suc, arith, List, Option}
use Rattle.ws_isa.specs.View as view
use Rattle.ws_isa.specs.Image.{Image, is_first, first_number, target, stops, IsBlock}
use Rattle.annot_check.specs.declared.lasts.Lasts.{Lasts}
use Rattle.annot_check.specs.Order.{LastsOk, EndOk}
use Rattle.annot_check.specs.Seen.{order_image, lasts_at, LeaveState, Delivered}
use Rattle.annot_check.proofs.Chained.Leaving.{leave_init, leave_next}
use Rattle.annot_check.proofs.links.WaveLinks.leave.Goals as goal

pub loop-choice-init : goal.loop-choice-init
loop-choice-init c = record {
  same = (refl, refl, refl);
  ready = c.requires.ready;
  left = leave_init (order_image c.args.self.now) (lasts_at c.args.self.now.table.items) c.args.number
      c.args.lasts.now;
}

pub leave_by-requires-clause-block : goal.leave_by-requires-clause-block
leave_by-requires-clause-block c = subst (λ (x : Image). IsBlock x c.args.number)
    (sym (ap view.image c.loop-choice.invariant.same.0)) c.requires.block

pub leave_by-requires-clause-goes_on : goal.leave_by-requires-clause-goes_on
leave_by-requires-clause-goes_on c = subst (λ (x : Image). stops x c.args.number ≡ false)
    (sym (ap view.image c.loop-choice.invariant.same.0)) c.requires.goes_on

pub leave_by-requires-clause-comes : goal.leave_by-requires-clause-comes
leave_by-requires-clause-comes c = subst (λ (x : Image). LastsOk x c.args.number
    (first_number x (suc c.args.number)) c.args.lasts.now)
    (sym (ap view.image c.loop-choice.invariant.same.0)) c.requires.comes

pub loop-choice-preserved : goal.loop-choice-preserved
loop-choice-preserved c =
    let i : order_image c.loop-choice.self ≡ order_image c.args.self.now =
    ap view.image c.loop-choice.invariant.same.0 in
    let was = c.loop-choice.invariant.same in
    let is = c.leave_by.ensures.same in
    record {
      same = (is.0 ∙ was.0, is.1 ∙ was.1, is.2 ∙ was.2);
      ready = c.in_ok-leave_by.ensures.ready;
      left = leave_next (order_image c.args.self.now) (lasts_at c.args.self.now.table.items) (lasts_at
          c.loop-choice.self.table.items) (lasts_at c.leave_by.new.self.table.items) c.args.number
          c.loop-choice.choice c.args.lasts.now c.requires.ready.shape c.requires.block c.requires.goes_on
          c.loop-choice.invariant.left (λ f. (let x = (subst (λ (y : Image). is_first y (target y
          c.args.number c.loop-choice.choice) ≡ true → (c.leave_by.new.self.table.items ≡
          c.loop-choice.self.table.items) × EndOk c.args.lasts.now) i c.in_ok-leave_by.ensures.crosses) f in
          ((λ n. ap (λ (t : List (Option Lasts)). lasts_at t n) x.0), x.1)))
          (subst (λ (y : Image). is_first y (target y c.args.number c.loop-choice.choice) ≡ false →
          Delivered y (lasts_at c.loop-choice.self.table.items) (lasts_at c.leave_by.new.self.table.items)
          (target y c.args.number c.loop-choice.choice) c.args.lasts.now) i c.in_ok-leave_by.ensures.inside);
    }

pub returns-clause-left : goal.returns-clause-left
returns-clause-left c = subst (λ (n : ℕ). LeaveState (order_image c.args.self.now) (lasts_at
    c.args.self.now.table.items) (lasts_at c.loop-choice.self.table.items) c.args.number n c.args.lasts.now)
    (omega (arith, c.choices-choice-end.ensures)) c.loop-choice.invariant.left
