use Rattle.std.proofs.Common.{ℕ, ap, ◌∙◌, ◌++◌, List, ◌-◌, ◌*◌, refl, subst, ◌≡◌}
use Rattle.work_gen.specs.Job.{size, square, job_text}
use Rattle.work_gen.specs.Lines.{program_text}
use Rattle.work_gen.proofs.Pieces.{job_is}
use Rattle.work_gen.proofs.job.workload.Goals as goal

pub returns : goal.returns
returns c =
    let n = c.from-number.result in
    subst (λ (m : ℕ). c.put_input.new.text ≡ job_text m) c.from-number.ensures
    (job_is n (2 * square n - 1) _ _ _ (c.in_ok-put_program.ensures
    ∙ ap (λ (t : List ℕ). t ++ program_text (size n) (square n)) c.empty-text.ensures)
    c.in_ok-extend.ensures.ok refl c.in_ok-put_input.ensures)
