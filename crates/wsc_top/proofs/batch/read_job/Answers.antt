use Rattle.src_ast.specs.View as view
use Rattle.job_read.proofs.Jobs.{job_written}
use Rattle.wsc_top.proofs.batch.read_job.Goals as goal

pub checked_image-requires : goal.checked_image-requires
checked_image-requires c = job_written _ (view.parts c.in-Ok.accepted.program.items.items) c.in-Ok.input
    c.read_is_written.ensures c.in-Ok.ensures.ok
