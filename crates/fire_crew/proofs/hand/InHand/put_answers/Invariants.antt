use Rattle.std.proofs.Common.{length}
use Rattle.fire_crew.proofs.hand.InHand.put_answers.Given as goal

abbrev pub decreases-loop-token : goal.decreases-loop-token
decreases-loop-token g l = length l.self.answers
