use Rattle.std.proofs.Common.{◌≡◌, ◌∙◌, suc, ◌+◌, arith}
use Rattle.seq_run.specs.View as source
use Rattle.cfg_core.specs.View as view
use Rattle.cfg_build.specs.Lowered.{begun}
use Rattle.cfg_build.proofs.Lists.{one_more}
use Rattle.cfg_build.proofs.CodeProcs.{count_made, fit_now, count_now, next_made}
use Rattle.cfg_build.proofs.procs.lower_procs.Goals as goal

pub overflow_cast-first : goal.overflow_cast-first
overflow_cast-first c =
    let n = count_made c.proc-item.result c.loop-proc.first c.len.result c.in_ok-made.made
    c.in_ok-made.ensures (c.len.ensures ∙ c.in_ok-made.made.blocks.ok.0) in
    let m = count_now c.args.procs.now c.loop-proc.proc-index c.proc-item.result c.loop-proc-test.true
    c.proc-item.is in
    omega (arith, n, m, c.loop-proc.invariant.count, c.requires.room)

pub overflow_add-first : goal.overflow_add-first
overflow_add-first c =
    let n = count_made c.proc-item.result c.loop-proc.first c.len.result c.in_ok-made.made
    c.in_ok-made.ensures (c.len.ensures ∙ c.in_ok-made.made.blocks.ok.0) in
    let m = count_now c.args.procs.now c.loop-proc.proc-index c.proc-item.result c.loop-proc-test.true
    c.proc-item.is in
    omega (arith, n, m, c.loop-proc.invariant.count, c.requires.room)

pub loop-proc-preserved : goal.loop-proc-preserved
loop-proc-preserved c =
    let n = count_made c.proc-item.result c.loop-proc.first c.len.result c.in_ok-made.made
    c.in_ok-made.ensures (c.len.ensures ∙ c.in_ok-made.made.blocks.ok.0) in
    let m = count_now c.args.procs.now c.loop-proc.proc-index c.proc-item.result c.loop-proc-test.true
    c.proc-item.is in
    let next : c.loop-proc.first + c.len.result
    ≡ suc (c.loop-proc.first + begun (source.proc c.proc-item.result).body) = omega (arith, n) in
    record {
      made = one_more view.proc c.loop-proc.list.items c.push.new.self.items c.in_ok-made.made _ _ _
          c.in_ok-push.ensures.items (next_made c.args.procs.now c.loop-proc.proc-index c.proc-item.result
          c.loop-proc-test.true c.proc-item.is c.loop-proc.first (c.loop-proc.first + c.len.result)
          c.in_ok-made.made next c.in_ok-made.ensures) c.loop-proc.invariant.made;
      count = omega (arith, n, m, c.loop-proc.invariant.count);
      fit = (fit_now c.args.procs.now c.loop-proc.proc-index c.proc-item.result c.loop-proc-test.true
          c.proc-item.is c.loop-proc.invariant.fit).1;
    }
