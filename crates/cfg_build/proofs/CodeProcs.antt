-- Procedures that the code makes, one after another.
use Rattle.std.proofs.Common.{◌≡◌, ℕ, suc, ◌+◌, ◌<◌, List, [], ◌∷◌, length, drop, slice_index_or, ap, subst}
use Rattle.std.proofs.Common.{arith}
use Rattle.std.proofs.lemmas.List.{drop_more, length-map}
use Rattle.std.specs.List.{AllByRecursion}
use Rattle.seq_run.specs.Resolved as resolved
use Rattle.seq_run.specs.View as source
use Rattle.seq_run.specs.declared.tree.Proc.{Proc}
use Rattle.cfg_core.specs.Graph.{Block}
use Rattle.cfg_core.specs.View as view
use Rattle.cfg_core.specs.declared.blocks.GraphProc.{GraphProc}
use Rattle.cfg_build.specs.Lowered as lowered
use Rattle.cfg_build.specs.Lowered.{begun, last_part, made, whole}
use Rattle.cfg_build.specs.Building.{Builder, emit, ended, ProcFits, blocks_of}
use Rattle.cfg_build.proofs.Stand.{proc_end}
use Rattle.cfg_build.proofs.Emitted.{emit_made}

-- what is emitted from the beginning is the blocks of a procedure
pub emitted_blocks : (body : resolved.Steps) (result : _) (first : ℕ) (begin d : Builder)
    (blocks : List Block) → begin ≡ record { first = first; done = []; ops = [] } → d ≡ emit body begin
    → blocks ≡ ended d (last_part result) → blocks ≡ whole (made body first (last_part result))
emitted_blocks body result first begin d blocks eb ed e = grind (arith, emit_made)

-- the next procedure, and those after it
next_proc : (ps : List Proc) (i : ℕ) (p : Proc) → i < length ps → p ≡ slice_index_or ps i p
    → source.procs (drop i ps) ≡ source.proc p ∷ source.procs (drop (i + 1) ps)
next_proc ps i p lt is = grind (arith, drop_more)

-- how many blocks it has
pub count_made : (p : Proc) (first len : ℕ) (made : GraphProc) → view.proc made ≡ lowered.proc (source.proc p)
    first → len ≡ length made.blocks.items → len ≡ suc (begun (source.proc p).body)
count_made p first len made same e =
    grind (arith, length-map made.blocks.items view.block, proc_end (source.proc p) first)

module _ (ps : List Proc) (i : ℕ) (p : Proc) (lt : i < length ps) (is : p ≡ slice_index_or ps i p) where
  pub fit_now : AllByRecursion ProcFits (source.procs (drop i ps)) → ProcFits (source.proc p)
      × AllByRecursion ProcFits (source.procs (drop (i + 1) ps))
  fit_now fit = subst (λ (qs : List resolved.Proc). AllByRecursion ProcFits qs) (next_proc ps i p lt is) fit

  pub count_now : blocks_of (source.procs (drop i ps))
      ≡ suc (begun (source.proc p).body + blocks_of (source.procs (drop (i + 1) ps)))
  count_now = ap blocks_of (next_proc ps i p lt is)

  pub next_made : (first next : ℕ) (made : GraphProc) → next ≡ suc (first + begun (source.proc p).body)
      → view.proc made ≡ lowered.proc (source.proc p) first → lowered.procs (source.procs (drop i ps)) first
      ≡ view.proc made ∷ lowered.procs (source.procs (drop (i + 1) ps)) next
  next_made first next made en same = grind (arith, next_proc)
