use Rattle.std.proofs.Common.{◌≡◌, Some, None}
use Rattle.src_ast.specs.View as view
use Rattle.src_ast.specs.Rules.{rules_of}
use Rattle.src_check.specs.Rule.{first_broken}
use Rattle.src_check.proofs.First.{kept_where_none, none_where_kept, first_where_some}
use Rattle.src_check.proofs.checker.check.Goals as goal

pub invariant_of-result : goal.invariant_of-result
invariant_of-result c =
    record {
      accepted = kept_where_none (rules_of (view.parts c.args.program.items.items)
          c.args.program.finish) c.in-Ok.ensures;
    }

pub returns-clause-refused : goal.returns-clause-refused
returns-clause-refused c =
    let all = rules_of (view.parts c.args.program.items.items) c.args.program.finish in
    first_where_some all c.in-Err-Broken.refusal (rw c.in-Err-Broken.field-0-is at c.in-Err-Broken.ensures)

pub returns-clause-only : goal.returns-clause-only
returns-clause-only c = λ accepted.
    let all = rules_of (view.parts c.args.program.items.items) c.args.program.finish in
    let some : first_broken all ≡ Some c.in-Err-Broken.refusal = rw c.in-Err-Broken.field-0-is at
    c.in-Err-Broken.ensures in
    let none : first_broken all ≡ None = none_where_kept all accepted in
    cc
