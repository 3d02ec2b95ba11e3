use Rattle.std.proofs.Common.{◌++◌, [], length, arith}
use Rattle.src_ast.specs.View as ast
use Rattle.src_ast.specs.Meaning.{Scope}
use Rattle.seq_run.specs.Resolving as resolving
use Rattle.seq_run.specs.Tables.{AreNames}
use Rattle.seq_run.specs.View as view
use Rattle.seq_run.proofs.Declares.{same_proc, count_front, front_at_most, count_back}
use Rattle.seq_run.proofs.programs.proc.Goals as goal

pub overflow_sub-result : goal.overflow_sub-result
overflow_sub-result c =
    let front = c.in_ok-declare.ensures 0 [] c.from-table.ensures in
    let all = c.in_ok-declare-2.ensures 0 c.args.params.now front in
    front_at_most c.args.params.now c.args.vars.now c.declare.new.table.next c.declare-2.new.table.next
    front.next all.next

pub returns-clause-resolves : goal.returns-clause-resolves
returns-clause-resolves c = λ arrays procs name ia ip.
    let front = c.in_ok-declare.ensures 0 [] c.from-table.ensures in
    let all = c.in_ok-declare-2.ensures 0 c.args.params.now front in
    let scope : Scope = record {
      names = c.args.params.now ++ c.args.vars.now;
      arrays = arrays;
      procs = procs;
    } in
    let are : AreNames scope (record c.args.names.now { vars = c.declare-2.new.table }) =
    record { vars = all; arrays = ia; procs = ip } in
    same_proc c.declare.new.table.next _ (length c.args.params.now) (length c.args.vars.now)
    (view.steps c.in_ok-body.body.items) (resolving.all scope (ast.statements c.args.body.now))
    (view.result c.in_ok-result.result) (resolving.result scope (ast.maybe_last c.args.ending.now))
    (count_front c.args.params.now c.declare.new.table.next front.next)
    (count_back c.args.params.now c.args.vars.now c.declare.new.table.next c.declare-2.new.table.next
    front.next all.next)
    (c.in_ok-body.ensures scope are)
    (c.in_ok-result.ensures scope are)

pub declare-requires-2 : goal.declare-requires-2
declare-requires-2 c =
    let front = c.in_ok-declare.ensures 0 [] c.from-table.ensures in
    let next = front.next in
    let room = c.requires in
    omega (arith, next, room)
