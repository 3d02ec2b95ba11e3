use Rattle.std.proofs.Common.{List, sym, subst, ◌<◌, ◌^◌}
use Rattle.std.specs.List.{AllByRecursion}
use Rattle.seq_run.specs.View as source
use Rattle.seq_run.specs.declared.tree.Proc.{Proc}
use Rattle.seq_run.specs.declared.tree.ArrayShape.{ArrayShape}
use Rattle.cfg_build.specs.Building.{LengthFits, ProcFits, blocks_of}
use Rattle.cfg_build.proofs.Bounds.{room_for, procs_fit, lengths_fit}
use Rattle.cfg_build.proofs.program.graph_of.Goals as goal

pub arrays-requires : goal.arrays-requires
arrays-requires c = subst (λ (shapes : List ArrayShape). AllByRecursion LengthFits (source.lengths shapes))
    (sym c.deref.ensures.value) (lengths_fit (source.program c.args.resolved.now) c.requires)

pub lower_procs-requires-clause-room : goal.lower_procs-requires-clause-room
lower_procs-requires-clause-room c = subst (λ (ps : List Proc). blocks_of (source.procs ps) < 2 ^ 32)
    (sym c.deref-2.ensures.value) (room_for (source.program c.args.resolved.now) c.requires)

pub lower_procs-requires-clause-fit : goal.lower_procs-requires-clause-fit
lower_procs-requires-clause-fit c = subst (λ (ps : List Proc). AllByRecursion ProcFits (source.procs ps))
    (sym c.deref-2.ensures.value) (procs_fit (source.program c.args.resolved.now) c.requires)
