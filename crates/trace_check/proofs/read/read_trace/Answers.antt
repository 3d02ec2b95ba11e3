use Rattle.std.proofs.Common.{◌≡◌, ◌+◌, ◌==◌, count_by, length, sym, ap, ◌∙◌, arith}
use Rattle.std.specs.Option.{option_copied}
use Rattle.asm_text.specs.Reading.{lines_of, fault_of}
use Rattle.asm_text.proofs.Scanning.Cutting.{line_count}
use Rattle.trace_check.specs.Traces.{events_from, events_in}
use Rattle.trace_check.proofs.Lines.{on_more, on_last, off, fails_along, nothing_before}
use Rattle.trace_check.proofs.read.read_trace.Goals as goal

pub lines-init : goal.lines-init
unfolding events_in
lines-init c = record {
  same = rw c.empty-trace.ensures (nothing_before (events_from c.args.first_line (lines_of c.args.text.now)));
  few = (let e : length (lines_of c.args.text.now) ≡ count_by (λ b. b == 10) c.args.text.now + 1 =
      line_count c.args.text.now in omega (arith, c.requires));
}

pub returns-in-Err : goal.returns-in-Err
returns-in-Err c =
    rw c.on_line.ensures
    (fails_along (fault_of c.in-Err.stop c.lines.line) _ _ c.lines.invariant.same
    (off c.lines.trace c.lines.line c.lines.rest.now c.cut.result.0.now
    (option_copied c.cut.result.1) c.in-Err.stop c.cut.ensures c.in-Err.ensures))

pub overflow_add-line : goal.overflow_add-line
overflow_add-line c =
    let k = rw c.in-Some.is at c.cut.ensures in
    let e = ap length k.0 in
    let n : length (lines_of c.in-Some.more.now) ≡ count_by (λ b. b == 10) c.in-Some.more.now + 1 =
    line_count c.in-Some.more.now in
    omega (arith, c.lines.invariant.few)

pub lines-preserved : goal.lines-preserved
lines-preserved c =
    let k = rw c.in-Some.is at c.cut.ensures in
    record {
      same = rw c.in_ok-add-in-Ok.ensures.added (sym (on_more c.lines.trace c.lines.line c.lines.rest.now _
          c.in-Some.more.now c.in-Ok.event k c.in-Ok.ensures) ∙ c.lines.invariant.same);
      few = let e = ap length k.0 in omega (arith, c.lines.invariant.few);
    }

pub returns-in-None : goal.returns-in-None
returns-in-None c =
    let k = rw c.in-None.is at c.cut.ensures in
    rw c.in_ok-add-in-Ok.ensures.added (sym c.lines.invariant.same ∙ on_last c.lines.trace c.lines.line
    c.lines.rest.now _ c.in-Ok.event k c.in-Ok.ensures)
