use Rattle.std.proofs.Common.{length}
use Rattle.src_lex.proofs.Reached.{Reached}
use Rattle.src_lex.proofs.text.read.Given as goal

abbrev pub invariant-loop-alloc : goal.invariant-loop-alloc
invariant-loop-alloc l = Reached l.fn.text l.items.items l.place l.rest l.counts.depth l.counts.row

abbrev pub decreases-loop-alloc : goal.decreases-loop-alloc
decreases-loop-alloc l = length l.rest
