-- What the parts of a run report at its end.
use Rattle.std.specs.Prelude.{ℕ, List}
use Rattle.df_core.specs.declared.answer.Done.{Done}
use Rattle.df_core.specs.declared.answer.RunAnswer.{RunAnswer}
use Rattle.df_core.specs.declared.answer.RunAnswer.TheVariants as run
use Rattle.df_core.specs.declared.drive.Finish.{Finish}
use Rattle.df_core.specs.declared.drive.Finish.TheVariants as finish
use Rattle.df_core.specs.declared.flow.Flow.{Flow}
use Rattle.df_core.specs.Outdoors.{rows_of}

-- if these are all words that were printed
abbrev pub done_with : List ℕ → Flow → Done
done_with words flow = record {
  printed = words;
  arrays = flow.memory.cells;
  took = rows_of flow.memory.took.items;
  fired = flow.fired;
}

abbrev pub done_of : Flow → Done
done_of flow = done_with flow.memory.printed.items flow

abbrev pub run_from : Finish → Done → RunAnswer
run_from finish.Rest done = run.Rest done
run_from finish.Budget done = run.Budget done
run_from (finish.Fault array) done = run.Fault array done

abbrev pub run_of : Finish → Flow → RunAnswer
run_of ended flow = run_from ended (done_of flow)
