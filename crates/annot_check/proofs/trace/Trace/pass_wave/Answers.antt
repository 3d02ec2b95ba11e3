use Rattle.std.proofs.Common.{rules, ◌∙◌, refl, ap, subst, arith}
use Rattle.ws_isa.specs.View as view
use Rattle.ws_isa.specs.declared.image.Image.{Image as CodeImage}
use Rattle.ws_isa.specs.Image.{is_first, IsBlock}
use Rattle.annot_check.specs.declared.trace.Trace.{Trace}
use Rattle.annot_check.specs.Done.{CameTo, WaveDone}
use Rattle.annot_check.specs.Table.{HasNumber, Ready}
use Rattle.annot_check.proofs.Slotted.Whole.{InTable, begun_wave, begun_in, passed_more, all_in_grown}
use Rattle.annot_check.proofs.Slotted.Whole.{all_in_front}
use Rattle.annot_check.proofs.Slotted.Whole.{all_in_more, todo_in, came_in, all_left_passed, wave_done}
use Rattle.annot_check.proofs.Slotted.Whole.{ends_number}
use Rattle.annot_check.proofs.Slotted.Whole.{nil_left, none_has}
use Rattle.annot_check.proofs.Slotted.Entries.{ready_stays}
use Rattle.annot_check.proofs.trace.Trace.pass_wave.Goals as goal

pub loop-number-init : goal.loop-number-init
loop-number-init c = record {
  image = c.in_ok-begin_wave.ensures.grows.image;
  ready = c.in_ok-begin_wave.ensures.ready;
  shut = c.in_ok-begin_wave.ensures.shut;
  all_passed = begun_wave c.args.self.now c.begin_wave.new.self c.args.first _ c.requires.between.blank
      c.in_ok-begin_wave.ensures.grows;
  todo_in = begun_in c.args.self.now c.begin_wave.new.self c.requires.between.no_todo
      c.in_ok-begin_wave.ensures.grows;
  passed_in = λ b h. absurd (none_has _ b c.new-passed.ensures.items h);
  entered = c.in_ok-begin_wave.ensures.entered;
}

pub pass-requires-clause-ready : goal.pass-requires-clause-ready
pass-requires-clause-ready c = ready_stays c.loop-number.self _ c.loop-number.invariant.ready (record {
  ok = c.loop-number.invariant.ready.held.nodes;
  more = omega arith;
  same = λ s l. refl;
}) refl refl refl refl c.loop-number.invariant.ready.held refl

pub pass-requires-clause-block : goal.pass-requires-clause-block
pass-requires-clause-block c =
    let i : InTable c.loop-number.self c.in-Some.number = c.loop-number.invariant.todo_in c.in-Some.number
    (rw c.in-Some.ensures.items (ends_number c.pop.new.self.items c.in-Some.number)) in
    (c.loop-number.invariant.ready.table_ok c.in-Some.number i.0 i.1).here

pub loop-number-preserved : goal.loop-number-preserved
loop-number-preserved c =
    let t : Trace = record c.loop-number.self {
      todo = c.pop.new.self;
    } in
    let r : Ready t = ready_stays c.loop-number.self t c.loop-number.invariant.ready (record {
      ok = c.loop-number.invariant.ready.held.nodes;
      more = omega arith;
      same = λ s l. refl;
    }) refl refl refl refl c.loop-number.invariant.ready.held refl in
    let g = c.in_ok-pass.ensures.grows in
    let i : InTable c.loop-number.self c.in-Some.number = c.loop-number.invariant.todo_in c.in-Some.number
    (rw c.in-Some.ensures.items (ends_number c.pop.new.self.items c.in-Some.number)) in
    record {
      image = g.image ∙ c.loop-number.invariant.image;
      ready = c.in_ok-pass.ensures.ready;
      shut = c.in_ok-pass.ensures.shut;
      all_passed = passed_more t c.pass.new.self c.loop-number.self.todo.items c.in-Some.number c.args.first
          c.loop-number.passed.items _ c.in-Some.ensures.items c.in_ok-add.ensures r g
          c.loop-number.invariant.all_passed c.in_ok-pass.ensures.done;
      todo_in = todo_in t c.pass.new.self g (all_in_front c.loop-number.self c.loop-number.self.todo.items
          c.pop.new.self.items c.in-Some.number c.in-Some.ensures.items c.loop-number.invariant.todo_in);
      passed_in = all_in_grown t c.pass.new.self _ g (all_in_more c.loop-number.self
          c.loop-number.passed.items _ c.in-Some.number c.in_ok-add.ensures c.loop-number.invariant.passed_in
          i);
      entered = let e = c.loop-number.invariant.entered in (e.0, g.table.keeps c.args.first e.0 e.1);
    }

pub returns-clause-ready : goal.returns-clause-ready
returns-clause-ready c = ready_stays c.loop-number.self _ c.loop-number.invariant.ready (record {
  ok = c.loop-number.invariant.ready.held.nodes;
  more = omega arith;
  same = λ s l. refl;
}) refl refl refl refl c.loop-number.invariant.ready.held refl

pub returns-clause-all : goal.returns-clause-all
returns-clause-all c = all_left_passed c.loop-number.self c.args.first c.loop-number.passed.items
    (nil_left c.loop-number.self.todo.items c.pop.new.self.items _
    (search rules) c.in_default.ensures.items c.in_default.ensures.rest) c.loop-number.invariant.all_passed

pub returns-clause-blocks : goal.returns-clause-blocks
returns-clause-blocks c b h =
    let i : InTable c.loop-number.self b = c.loop-number.invariant.passed_in b h in
    subst (λ (x : CodeImage). IsBlock (view.image x) b) c.loop-number.invariant.image
    (c.loop-number.invariant.ready.table_ok b i.0 i.1).here

pub returns-clause-came : goal.returns-clause-came
returns-clause-came c b h f = subst (λ (x : CodeImage). CameTo (view.image x) b) c.loop-number.invariant.image
    (came_in c.loop-number.self b c.loop-number.invariant.ready (c.loop-number.invariant.passed_in b h) (ap (λ
    (x : CodeImage). is_first (view.image x) b) c.loop-number.invariant.image ∙ f))

pub returns-clause-done : goal.returns-clause-done
returns-clause-done c = subst (λ (x : CodeImage). WaveDone (view.image x) (λ b. HasNumber
    c.loop-number.passed.items b) c.args.first) c.loop-number.invariant.image (wave_done c.loop-number.self
    c.args.first c.loop-number.passed.items (nil_left c.loop-number.self.todo.items c.pop.new.self.items _
    (search rules) c.in_default.ensures.items c.in_default.ensures.rest) c.loop-number.invariant.ready
    c.loop-number.invariant.all_passed c.loop-number.invariant.entered (ap (λ (x : CodeImage). is_first
    (view.image x) c.args.first) c.loop-number.invariant.image ∙ c.requires.came.first))
