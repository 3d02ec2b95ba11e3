use Rattle.std.proofs.Common.{List, length, sym, ap, subst, ◌∙◌, arith}
use Rattle.std.specs.Prelude.{Vec}
use Rattle.std.specs.declared.alloc.Global.{Global}
use Rattle.src_ast.specs.declared.lexeme.Name.{Name}
use Rattle.src_ast.specs.View as ast
use Rattle.seq_run.specs.Tables.{IsTable}
use Rattle.seq_run.specs.View as view
use Rattle.seq_run.specs.declared.names.NameMaps.{NameMaps}
use Rattle.seq_run.specs.declared.table.NameNumbers.{NameNumbers}
use Rattle.seq_run.specs.declared.tree.Proc.{Proc}
use Rattle.seq_run.proofs.Declares.{array_procs_same, procs_more, moved, few_at}
use Rattle.seq_run.proofs.programs.procs.Goals as goal
use Rattle.seq_run.proofs.programs.procs.Goals.{in-Array, in-Proc+in_ok-proc-in-Proc+in_ok-push-in-Proc}

pub loop-item-preserved : goal.loop-item-preserved
loop-item-preserved c =
    elim c.match-item.branch [
      | in-Array w ↦ record {
        arrays = ap (λ (n : NameMaps). n.arrays) w.names-is ∙ c.loop-item.invariant.arrays;
        procs = ap (λ (n : NameMaps). n.procs) w.names-is ∙ c.loop-item.invariant.procs;
        list = λ arrays procs ia ip. ap (λ (v : Vec Proc Global). view.procs v.items) w.list-is
            ∙ c.loop-item.invariant.list arrays procs ia ip
            ∙ sym (array_procs_same c.args.items.now c.loop-item.item-index c.item-item.result
            c.loop-item-test.true c.item-item.is w.in-Array.name w.in-Array.length w.in-Array.length_place
            w.in-Array.is arrays procs);
      }
      | in-Proc+in_ok-proc-in-Proc+in_ok-push-in-Proc w ↦ record {
        arrays = ap (λ (n : NameMaps). n.arrays) w.names-is ∙ w.proc.ensures.arrays
            ∙ c.loop-item.invariant.arrays;
        procs = ap (λ (n : NameMaps). n.procs) w.names-is ∙ w.proc.ensures.procs
            ∙ c.loop-item.invariant.procs;
        list = λ arrays procs ia ip. ap (λ (v : Vec Proc Global). view.procs v.items) w.list-is
            ∙ procs_more c.args.items.now c.loop-item.item-index c.item-item.result c.loop-item-test.true
            c.item-item.is (record {
              name = w.in-Proc.name;
              params = w.in-Proc.params.items;
              vars = w.in-Proc.vars.items;
              body = ast.statements w.in-Proc.body.items;
              ending = ast.maybe_last w.in-Proc.ending;
            }) (ap ast.part w.in-Proc.is) arrays procs
            c.loop-item.list.items w.push.new.self.items w.in_ok-proc-in-Proc.field-0
            (c.loop-item.invariant.list arrays procs ia ip) w.in_ok-push-in-Proc.ensures.items
            (moved arrays procs w.in-Proc.name (ast.maybe_last w.in-Proc.ending)
            (view.proc w.in_ok-proc-in-Proc.field-0) w.deref.result.now w.in-Proc.params.items
            w.deref-in-Proc.result.now w.in-Proc.vars.items w.deref-in-Proc-2.result.now
            w.in-Proc.body.items w.deref.ensures.value w.deref-in-Proc.ensures.value
            w.deref-in-Proc-2.ensures.value
            (w.in_ok-proc-in-Proc.ensures.resolves arrays procs w.in-Proc.name
            (subst (λ (t : NameNumbers). IsTable 1 arrays t) (sym c.loop-item.invariant.arrays) ia)
            (subst (λ (t : NameNumbers). IsTable 0 procs t) (sym c.loop-item.invariant.procs) ip)));
      }
    ]

pub proc-requires : goal.proc-requires
proc-requires c =
    let few = few_at c.args.items.now c.loop-item.item-index c.item-item.result
    (record {
      name = c.in-Proc.name;
      params = c.in-Proc.params.items;
      vars = c.in-Proc.vars.items;
      body = ast.statements c.in-Proc.body.items;
      ending = ast.maybe_last c.in-Proc.ending;
    }) c.requires
    c.loop-item-test.true c.item-item.is (ap ast.part c.in-Proc.is) in
    let params = ap (λ (ns : List Name). length ns) c.deref.ensures.value in
    let vars = ap (λ (ns : List Name). length ns) c.deref-in-Proc.ensures.value in
    omega (arith, few, params, vars)
