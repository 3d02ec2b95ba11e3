use Rattle.std.proofs.Common.{◌+◌, ◌<◌, ◌≤◌, ◌^◌, length}
use Rattle.job_read.specs.Job.{job_limit}
use Rattle.wsc_top.proofs.Reading.JobTexts.{Reading}
use Rattle.wsc_top.proofs.batch.read.Given as goal

abbrev pub invariant-jobs : goal.invariant-jobs
invariant-jobs l = record {
  read : Reading l.fn.text l.read.images.items l.read.inputs.items l.at l.rest;
  line : 0 < l.at.line;
  column : 0 < l.at.column;
  room : l.at.line + l.at.column + length l.rest ≤ 2 ^ 32;
  short : length l.rest ≤ job_limit;
}

abbrev pub decreases-jobs : goal.decreases-jobs
decreases-jobs l = length l.rest
