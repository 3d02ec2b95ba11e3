use Rattle.std.proofs.Common.{List, ◌++◌, take, subst}
use Rattle.src_ast.specs.declared.lexeme.Name.{Name}
use Rattle.seq_run.specs.Tables.{IsTable}
use Rattle.seq_run.proofs.Declares.{one_further, declared_more, take_whole}
use Rattle.seq_run.proofs.programs.declare.Goals as goal

pub loop-name-preserved : goal.loop-name-preserved
loop-name-preserved c = record {
  next = one_further c.args.table.now.next c.loop-name.name-index c.loop-name.table.next c.add.new.self.next
      c.loop-name.invariant.next c.in_ok-add.ensures.next;
  table = λ first names is. declared_more first names c.args.list.now c.loop-name.name-index
      c.name-item.result c.add.new.self c.loop-name-test.true c.name-item.is
      (c.in_ok-add.ensures.table first (names ++ take c.loop-name.name-index c.args.list.now)
      (c.loop-name.invariant.table first names is));
}

pub returns : goal.returns
returns c = λ first names is. subst (λ (ns : List Name). IsTable first (names ++ ns) c.loop-name.table)
    (take_whole c.args.list.now c.loop-name.name-index c.loop-name-test.false)
    (c.loop-name.invariant.table first names is)
