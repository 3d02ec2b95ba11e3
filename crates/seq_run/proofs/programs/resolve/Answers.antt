use Rattle.std.proofs.Common.{List, length, sym, ap, subst, ◌∙◌, arith}
use Rattle.src_ast.specs.View as ast
use Rattle.std.specs.List.{AllByRecursion}
use Rattle.src_ast.specs.declared.tree.Item.{Item}
use Rattle.src_ast.specs.Meaning.{procs_of}
use Rattle.seq_run.specs.Resolved.{ResolvedProgram}
use Rattle.seq_run.specs.Resolving as resolving
use Rattle.seq_run.specs.InRange.{ProgramIn}
use Rattle.seq_run.specs.Tables.{FewVars}
use Rattle.seq_run.proofs.Declares.{length_parts}
use Rattle.seq_run.proofs.InPrograms.{accepted_in}
use Rattle.seq_run.proofs.FewNames.{accepted_few, accepted_vars}
use Rattle.seq_run.proofs.programs.resolve.Goals as goal

pub returns-clause-in_range : goal.returns-clause-in_range
returns-clause-in_range c =
    let program = c.program.result.now in
    subst (λ (p : ResolvedProgram). ProgramIn p)
    (sym (c.in_ok-resolved.ensures ∙ ap (λ (items : List Item). resolving.program (ast.parts items))
    c.deref.ensures.value))
    (accepted_in (ast.parts program.items.items) program.finish c.program.ensures.accepted)

pub numbered-requires-clause-few : goal.numbered-requires-clause-few
numbered-requires-clause-few c =
    let program = c.program.result.now in
    let few = accepted_few (ast.parts program.items.items) program.finish c.program.ensures.accepted in
    let parts = length_parts program.items.items in
    let same = ap (λ (items : List Item). length items) c.deref.ensures.value in
    omega (arith, few, parts, same)

pub numbered-requires-clause-vars : goal.numbered-requires-clause-vars
numbered-requires-clause-vars c =
    let program = c.program.result.now in
    subst (λ (items : List Item). AllByRecursion FewVars (procs_of (ast.parts items)))
    (sym c.deref.ensures.value)
    (accepted_vars (ast.parts program.items.items) program.finish c.program.ensures.accepted)
