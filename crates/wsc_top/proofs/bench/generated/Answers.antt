use Rattle.std.proofs.Common.{◌∙◌}
use Rattle.src_ast.specs.View as view
use Rattle.job_read.proofs.Jobs.{job_written}
use Rattle.wsc_top.proofs.Reading.Benches.{bench_short, bench_refused, bench_job}
use Rattle.wsc_top.proofs.bench.generated.Goals as goal

pub read-requires : goal.read-requires
read-requires c = bench_short c.args.number _ (c.as_slice.ensures ∙ c.in_ok-text.ensures)
    (c.each_generated_job_is_a_job.ensures c.args.number)

pub checked_image-requires : goal.checked_image-requires
checked_image-requires c = job_written _ (view.parts c.in-Ok.accepted.program.items.items) c.in-Ok.input
    c.read_is_written.ensures c.in-Ok.ensures.ok

pub returns-in-Ok : goal.returns-in-Ok
returns-in-Ok c = bench_job c.args.number _ (view.parts c.in-Ok.accepted.program.items.items) c.in-Ok.input _
    (c.as_slice.ensures ∙ c.in_ok-text.ensures) (c.each_generated_job_is_a_job.ensures c.args.number)
    c.in-Ok.ensures.same c.in_ok-checked_image-in-Ok.ensures

pub unreachable-requires : goal.unreachable-requires
unreachable-requires c =
    let law = c.each_generated_job_is_a_job.ensures c.args.number in
    let refusal = bench_refused c.args.number _ (c.as_slice.ensures ∙ c.in_ok-text.ensures) _ law
    c.in-Err-Refused.ensures.only in
    let bad = refusal in
    cc
