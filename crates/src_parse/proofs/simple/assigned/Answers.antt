use Rattle.std.proofs.Common.{Some}
use Rattle.src_ast.specs.Syntax.{Assign, Call}
use Rattle.src_parse.proofs.Loops.{assigned_calls}
use Rattle.src_parse.proofs.simple.assigned.Goals as goal

pub returns-in-Some-clause-read : goal.returns-in-Some-clause-read
returns-in-Some-clause-read c =
    rw (assigned_calls (Assign c.args.name.place c.args.name)
    (λ y. Call c.args.name.place (Some c.args.name) y) c.args.lexemes.now c.in-Some.callee
    c.in-Some.rest.now (rw c.in-Some.is at c.in_ok-callee.ensures)) c.call.ensures.read
