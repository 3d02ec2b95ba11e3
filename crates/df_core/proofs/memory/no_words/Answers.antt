use Rattle.std.proofs.Common.{◌+◌, ◌∙◌, ap, ◌++◌, ◌∷◌, [], arith}
use Rattle.df_core.specs.Outdoors.{rows_of}
use Rattle.df_core.proofs.Walked.Acts.{took_nothing}
use Rattle.df_core.proofs.Sizes.Trays.{rows_push}
use Rattle.df_core.proofs.memory.no_words.Goals as goal

pub loop-preserved : goal.loop-preserved
loop-preserved c =
    ap rows_of c.in_ok-push.ensures.items ∙ rows_push c.loop.took.items c.new.result
    ∙ ap (λ r. rows_of c.loop.took.items ++ r ∷ []) c.new.ensures.items
    ∙ took_nothing c.loop.counter (c.loop.counter + 1) (rows_of c.loop.took.items) (omega arith)
    c.loop.invariant
