use Rattle.std.proofs.Common.{arith}
use Rattle.wsc_top.specs.Jobs.{crowded}
use Rattle.wsc_top.proofs.Reading.JobTexts.{reads_more, reads_last, reads_fault}
use Rattle.wsc_top.proofs.batch.read.Goals as goal

pub returns-in-Some-clause-refused : goal.returns-in-Some-clause-refused
returns-in-Some-clause-refused c = crowded c.in-Some.line c.in-Some.ensures.some

pub returns-in-Err-clause-refused : goal.returns-in-Err-clause-refused
returns-in-Err-clause-refused c = reads_fault _ _ _ _ _ _ c.jobs.invariant.read c.split.ensures.job
    c.in_default.ensures.none _ c.in-Err.ensures.refused

pub returns-then-is_last-clause-ok : goal.returns-then-is_last-clause-ok
returns-then-is_last-clause-ok c = reads_last _ _ _ _ _ _ c.jobs.invariant.read c.split.ensures.job _ _
    c.in-Ok.ensures.ok _ _ c.in_ok-keep.ensures.images c.in_ok-keep.ensures.inputs c.in_default.ensures.none
    (c.is_last.ensures.last c.if-is_last.true)

pub jobs-preserved : goal.jobs-preserved
jobs-preserved c = record {
  read = reads_more _ _ _ _ _ _ c.jobs.invariant.read c.split.ensures.job _ _ c.in-Ok.ensures.ok _ _
      c.in_ok-keep.ensures.images c.in_ok-keep.ensures.inputs _ _ c.next.ensures.place c.next.ensures.rest
      (c.is_last.ensures.further c.if-is_last.false);
  line = c.next.ensures.line;
  column = c.next.ensures.column;
  room = c.next.ensures.room;
  short = let one = c.next.ensures.within in let two = c.jobs.invariant.short in omega (arith, one, two);
}
