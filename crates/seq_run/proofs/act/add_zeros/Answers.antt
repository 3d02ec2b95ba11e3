use Rattle.std.proofs.Common.{◌+◌, [], ◌∷◌, ◌++◌, List, ℕ, ap, ◌∙◌, append_assoc, arith}
use Rattle.ws_words.specs.Outside.{zeros}
use Rattle.ws_words.proofs.Rows.{zeros_more}
use Rattle.seq_run.proofs.act.add_zeros.Goals as goal

pub loop-preserved : goal.loop-preserved
loop-preserved c =
    c.in_ok-push.ensures.ok ∙ ap (λ (xs : List ℕ). xs ++ 0 ∷ []) c.loop.invariant
    ∙ append_assoc c.args.vars.now (zeros c.loop.counter) (0 ∷ [])
    ∙ ap (λ (xs : List ℕ). c.args.vars.now ++ xs) (zeros_more c.loop.counter (c.loop.counter + 1)
    (omega arith))
