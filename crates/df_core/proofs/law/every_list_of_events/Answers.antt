use Rattle.df_core.proofs.Walked.PortsThere.{ports_there}
use Rattle.df_core.proofs.Walked.FromSound.{facts_of}
use Rattle.df_core.proofs.Keeping.Reachable.{step_kept, step_grounded}
use Rattle.df_core.proofs.Keeping.Reached.{reached}
use Rattle.df_core.proofs.Keeping.Making.{makes, alone}
use Rattle.df_core.proofs.Keeping.IssueKept.{stop_fault}
use Rattle.df_core.proofs.Telling.Ends.{rest_ends, at_fault, same_memory}
use Rattle.df_core.proofs.law.every_list_of_events.Goals as goal

pub returns : goal.returns
returns c = record {
  reach = λ image world formed sound state reach.
      (let k = reached image world (facts_of image world (ports_there image formed) sound) state reach in
      (k.fit, k.grounded, k.once));
  makes = λ image world formed sound state fit event on. makes image world
      (facts_of image world (ports_there image formed) sound) sound.shape state fit event on;
  alone = λ image world formed sound state fit event one other a b. alone image world
      (facts_of image world (ports_there image formed) sound) sound.shape state fit event one other a b;
  kept = λ image world formed sound event old new fit step. step_kept image world
      (facts_of image world (ports_there image formed) sound) old new event fit step;
  both_kept = λ image world formed sound event old new fit grounded step.
      step_grounded image world (facts_of image world (ports_there image formed) sound) old new event fit
      grounded step;
  rest = λ image world formed sound state fit rest. rest_ends image world
      (facts_of image world (ports_there image formed) sound) state fit rest;
  stopped = λ image world formed sound state fit e. at_fault image world
      (facts_of image world (ports_there image formed) sound) state fit e;
  meets = λ image world formed sound state fit wave instr operands ready past.
      stop_fault image world (facts_of image world (ports_there image formed) sound) state fit wave instr
      operands ready.waits ready.issuable past;
  determined = λ image world formed sound one other a b c d. same_memory image world
      (facts_of image world (ports_there image formed) sound) one other
      (rest_ends image world (facts_of image world (ports_there image formed) sound) one a b)
      (rest_ends image world (facts_of image world (ports_there image formed) sound) other c d);
}
