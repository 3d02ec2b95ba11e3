use Rattle.std.proofs.Common.{ℕ, List, map}
use Rattle.ws_words.specs.Outside.{ProcState}
use Rattle.cfg_core.specs.Walk.{Frame as Waiting, run_ops}
use Rattle.cfg_core.specs.View.{op as op_of}
use Rattle.cfg_core.specs.Shows.{Shows}
use Rattle.cfg_core.proofs.Follows.{Upto, from}
use Rattle.cfg_core.proofs.walker.Walker.run_ops.Given as goal

abbrev pub invariant-loop-op : goal.invariant-loop-op
invariant-loop-op l = (s : ProcState) (frames : List Waiting) (k : ℕ) → Shows s frames k l.initial.self
    → Upto (from l.ops l.op-index) (run_ops (map op_of l.ops) s k) frames l.self
