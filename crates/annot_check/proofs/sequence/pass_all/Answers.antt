use Rattle.std.proofs.Common.{◌≡◌, ◌+◌, ◌<◌, ℕ, suc, length, arith, sym, subst, add-one}
use Rattle.ws_isa.specs.View as view
use Rattle.ws_isa.specs.Image.{instr_at, first_number}
use Rattle.ws_isa.specs.Formed.{most_instrs}
use Rattle.annot_check.specs.Seen.{op_with, PassState}
use Rattle.annot_check.proofs.Slotted.Entries.{instrs_read, instrs_count}
use Rattle.annot_check.proofs.Chained.Passing.{instr_here, step_breach, state_init, state_step, state_end}
use Rattle.annot_check.proofs.Chained.Passing.{within_read, ends_read}
use Rattle.annot_check.proofs.sequence.pass_all.Goals as goal
use Rattle.ws_isa.proofs.Steps.{first_le}
use Rattle.ws_isa.proofs.Blocks.{number_last}

pub loop-instr-init : goal.loop-instr-init
loop-instr-init c = record {
  op = omega arith;
  state = state_init
      (view.image c.args.image.now) c.args.number c.args.first c.args.start
      (op_with c.args.seen.now) c.requires.first c.requires.ok c.requires.came c.requires.fewer;
}

pub returns-in-Err-clause-refused : goal.returns-in-Err-clause-refused
returns-in-Err-clause-refused c =
    let e : c.deref-instr-items.result.now ≡ c.block.result.now.instrs.items =
    c.deref-instr-items.ensures.value in
    let k : c.loop-instr.op ≡ first_number
    (view.image c.args.image.now) c.args.number + c.loop-instr.instr-index =
    omega (arith, c.loop-instr.invariant.op, c.requires.first) in
    let at : instr_at (view.image c.args.image.now) c.loop-instr.op ≡ view.instr c.instr-item.result =
    instr_here
    (view.image c.args.image.now) c.args.number c.loop-instr.op c.loop-instr.instr-index
    c.deref-instr-items.result.now c.instr-item.result c.requires.block
    (instrs_read (view.image c.args.image.now) c.args.number c.block.result.now
    c.deref-instr-items.result.now c.block.ensures e) k c.loop-instr-test.true c.instr-item.is in
    let w : c.loop-instr.op < first_number (view.image c.args.image.now) (suc c.args.number) =
    within_read
    (view.image c.args.image.now) c.args.number c.loop-instr.op c.loop-instr.instr-index _ c.requires.block k
    (instrs_count
    (view.image c.args.image.now) c.args.number c.block.result.now c.deref-instr-items.result.now
    c.block.ensures e) c.loop-instr-test.true in
    step_breach (view.image c.args.image.now) c.args.number c.loop-instr.op c.loop-instr.lasts
    (view.instr c.instr-item.result)
    (op_with c.loop-instr.seen) c.in-Err.fault at c.requires.block c.loop-instr.invariant.state.low w
    c.loop-instr.invariant.state.ok c.loop-instr.invariant.state.came c.loop-instr.invariant.state.fewer
    c.in-Err.ensures.refused

pub overflow_add-op : goal.overflow_add-op
unfolding most_instrs
overflow_add-op c =
    let e : c.deref-instr-items.result.now ≡ c.block.result.now.instrs.items =
    c.deref-instr-items.ensures.value in
    let k : c.loop-instr.op ≡ first_number
    (view.image c.args.image.now) c.args.number + c.loop-instr.instr-index =
    omega (arith, c.loop-instr.invariant.op, c.requires.first) in
    let w : c.loop-instr.op < first_number (view.image c.args.image.now) (suc c.args.number) =
    within_read
    (view.image c.args.image.now) c.args.number c.loop-instr.op c.loop-instr.instr-index _ c.requires.block k
    (instrs_count
    (view.image c.args.image.now) c.args.number c.block.result.now c.deref-instr-items.result.now
    c.block.ensures e) c.loop-instr-test.true in
    omega (
      arith,
      w,
      c.requires.formed.few_instrs,
      number_last (view.image c.args.image.now),
      first_le (view.image c.args.image.now) (suc c.args.number)
          (suc (length (view.image c.args.image.now).blocks)) (omega (arith, c.requires.block.1)),
    )

pub loop-instr-preserved : goal.loop-instr-preserved
loop-instr-preserved c =
    let e : c.deref-instr-items.result.now ≡ c.block.result.now.instrs.items =
    c.deref-instr-items.ensures.value in
    let k : c.loop-instr.op ≡ first_number
    (view.image c.args.image.now) c.args.number + c.loop-instr.instr-index =
    omega (arith, c.loop-instr.invariant.op, c.requires.first) in
    let at : instr_at (view.image c.args.image.now) c.loop-instr.op ≡ view.instr c.instr-item.result =
    instr_here
    (view.image c.args.image.now) c.args.number c.loop-instr.op c.loop-instr.instr-index
    c.deref-instr-items.result.now c.instr-item.result c.requires.block
    (instrs_read (view.image c.args.image.now) c.args.number c.block.result.now
    c.deref-instr-items.result.now c.block.ensures e) k c.loop-instr-test.true c.instr-item.is in
    let w : c.loop-instr.op < first_number (view.image c.args.image.now) (suc c.args.number) =
    within_read
    (view.image c.args.image.now) c.args.number c.loop-instr.op c.loop-instr.instr-index _ c.requires.block k
    (instrs_count
    (view.image c.args.image.now) c.args.number c.block.result.now c.deref-instr-items.result.now
    c.block.ensures e) c.loop-instr-test.true in
    let next = state_step (view.image c.args.image.now) c.args.number c.loop-instr.op
    (view.instr c.instr-item.result) c.args.start c.loop-instr.lasts (op_with c.args.seen.now)
    (op_with c.loop-instr.seen)
    (op_with c.pass.new.seen) c.loop-instr.invariant.state w at c.in-Ok.ensures.seen c.in-Ok.more
    c.in-Ok.ensures.kept c.in-Ok.ensures.ok in
    record {
      op = omega (arith, c.loop-instr.invariant.op);
      state = subst (λ (m : ℕ). PassState (view.image c.args.image.now) c.args.number c.args.start (op_with
          c.args.seen.now) m c.in-Ok.more (op_with c.pass.new.seen)) (sym (add-one c.loop-instr.op)) next;
    }

pub returns-clause-state : goal.returns-clause-state
returns-clause-state c =
    let e : c.deref-instr-items.result.now ≡ c.block.result.now.instrs.items =
    c.deref-instr-items.ensures.value in
    let k : c.loop-instr.op ≡ first_number
    (view.image c.args.image.now) c.args.number + c.loop-instr.instr-index =
    omega (arith, c.loop-instr.invariant.op, c.requires.first) in
    state_end (view.image c.args.image.now) c.args.number c.loop-instr.op c.args.start c.loop-instr.lasts
    (op_with c.args.seen.now) (op_with c.loop-instr.seen) c.loop-instr.invariant.state
    (ends_read
    (view.image c.args.image.now) c.args.number c.loop-instr.op c.loop-instr.instr-index _ c.requires.block k
    (instrs_count
    (view.image c.args.image.now) c.args.number c.block.result.now c.deref-instr-items.result.now
    c.block.ensures e) (omega arith))
