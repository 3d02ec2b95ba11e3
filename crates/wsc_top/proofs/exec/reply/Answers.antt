use Rattle.std.proofs.Common.{map, ◌≡◌, ◌∙◌, ap}
use Rattle.ws_isa.specs.View as view
use Rattle.wsc_top.proofs.Told.Runs.{executed_so, run_begun}
use Rattle.wsc_top.proofs.exec.reply.Goals as goal
use Rattle.ws_words.proofs.Results.{on_err}

pub returns-clause-answered : goal.returns-clause-answered
returns-clause-answered g c = λ world handed tells.
    let arrays : map view.array c.as_slice-arrays.result.now ≡ c.args.image.now.arrays =
    ap (map view.array) c.as_slice-arrays.ensures.value ∙ ap (λ i. i.arrays) c.image.ensures.image in
    record {
      executes = executed_so c.args.options c.args.image.now world handed _ _ _ _ tells arrays
          c.answer-answer.ensures;
      begun =
          on_err _ (run_begun c.args.options c.args.image.now world handed _ c.args.options.budget _ tells);
    }
