use Rattle.std.proofs.Common.{ℕ, ◌+◌, suc, subst, arith}
use Rattle.ws_isa.specs.Image.{first_number}
use Rattle.ws_isa.specs.Shows.{image_of, At}
use Rattle.ws_isa.proofs.Programs.{number_below, number_end, fire_more}
use Rattle.ws_isa.proofs.walker.Walker.run_block.Goals as goal

pub returns-then-self-firings-clause-walk : goal.returns-then-self-firings-clause-walk
returns-then-self-firings-clause-walk c = λ world t at.
    let p = c.args.program.now in
    let u = c.loop-i.invariant.walk world t at in
    record {
      steps = u.0;
      instr = first_number (image_of p) (suc c.args.place) + c.loop-i.i;
      at = u.1;
      within = number_below p c.args.place c.requires.place c.block.result.now
          c.block.ensures c.deref-instr-items.result.now c.deref-instr-items.ensures.value
          c.first-first.result c.first-first.ensures.number c.loop-i.i (omega arith);
      spent = c.if-self-firings.true;
    }

pub loop-i-preserved : goal.loop-i-preserved
loop-i-preserved c =
    let p = c.args.program.now in
    record {
      left = omega (arith, c.in_ok-fire.ensures.count, c.loop-i.invariant.left);
      count = omega (arith, c.in_ok-fire.ensures.count, c.loop-i.invariant.count);
      walk = λ world t at.
          (let u = c.loop-i.invariant.walk world t at in (
            suc u.0,
            fire_more p c.args.place c.requires.place c.block.result.now c.block.ensures
                c.deref-instr-items.result.now c.deref-instr-items.ensures.value c.first-first.result
                c.first-first.ensures.number
                c.loop-i.i (c.loop-i.i + 1) c.instr-item.result c.loop-i.self c.fire.new.self (omega arith)
                c.instr-item.is (omega arith) c.in_ok-fire.ensures.walk world u.0 u.1,
          ));
    }

pub returns-clause-walk : goal.returns-clause-walk
returns-clause-walk c = λ world t at.
    let p = c.args.program.now in
    let u = c.loop-i.invariant.walk world t at in (
      u.0,
      subst (λ (k : ℕ). At (image_of p) world u.0 (suc c.args.place) k c.loop-i.self)
          (number_end p c.args.place c.requires.place c.block.result.now c.block.ensures
          c.deref-instr-items.result.now c.deref-instr-items.ensures.value c.first-first.result
          c.first-first.ensures.number c.loop-i.i (omega arith)) u.1,
    )
