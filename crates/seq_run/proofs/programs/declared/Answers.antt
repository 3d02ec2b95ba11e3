use Rattle.std.proofs.Common.{◌+◌, sym, ap, subst, take, arith}
use Rattle.src_ast.specs.View as ast
use Rattle.src_ast.specs.Meaning.{arrays_of, procs_of, names_of}
use Rattle.seq_run.specs.Tables.{IsTable}
use Rattle.seq_run.specs.declared.table.NameNumbers.{NameNumbers}
use Rattle.seq_run.proofs.Declares.{array_more, array_no_proc, proc_more, proc_no_array, few_arrays}
use Rattle.seq_run.proofs.Declares.{few_procs}
use Rattle.seq_run.proofs.programs.declared.Goals as goal
use Rattle.seq_run.proofs.programs.declared.Goals.{in-Array+in_ok-add-in-Array, in-Proc+in_ok-add-in-Proc}

pub loop-item-preserved : goal.loop-item-preserved
loop-item-preserved c =
    elim c.match-item.branch [
      | in-Array+in_ok-add-in-Array w ↦ record {
        arrays = subst
            (λ (t : NameNumbers).
            IsTable 1 (arrays_of (ast.parts (take (c.loop-item.item-index + 1) c.args.items.now))) t)
            (sym w.arrays-is) (array_more c.args.items.now c.loop-item.item-index c.item-item.result
            c.loop-item-test.true c.item-item.is w.in-Array.name w.in-Array.length w.in-Array.length_place
            w.in-Array.is w.add.new.self (w.in_ok-add-in-Array.ensures.table 1
            (arrays_of (ast.parts (take c.loop-item.item-index c.args.items.now)))
            c.loop-item.invariant.arrays));
        procs = subst
            (λ (t : NameNumbers).
            IsTable 0 (names_of (procs_of (ast.parts (take (c.loop-item.item-index + 1) c.args.items.now))))
            t) (sym w.procs-is) (array_no_proc c.args.items.now c.loop-item.item-index c.item-item.result
            c.loop-item-test.true c.item-item.is w.in-Array.name w.in-Array.length w.in-Array.length_place
            w.in-Array.is c.loop-item.procs c.loop-item.invariant.procs);
      }
      | in-Proc+in_ok-add-in-Proc w ↦ record {
        arrays = subst
            (λ (t : NameNumbers).
            IsTable 1 (arrays_of (ast.parts (take (c.loop-item.item-index + 1) c.args.items.now))) t)
            (sym w.arrays-is) (proc_no_array c.args.items.now c.loop-item.item-index c.item-item.result
            c.loop-item-test.true c.item-item.is
            (record {
              name = w.in-Proc.name;
              params = w.in-Proc.params.items;
              vars = w.in-Proc.vars.items;
              body = ast.statements w.in-Proc.body.items;
              ending = ast.maybe_last w.in-Proc.ending;
            })
            (ap ast.part w.in-Proc.is) c.loop-item.arrays c.loop-item.invariant.arrays);
        procs = subst
            (λ (t : NameNumbers).
            IsTable 0 (names_of (procs_of (ast.parts (take (c.loop-item.item-index + 1) c.args.items.now))))
            t) (sym w.procs-is) (proc_more c.args.items.now c.loop-item.item-index c.item-item.result
            c.loop-item-test.true c.item-item.is
            (record {
              name = w.in-Proc.name;
              params = w.in-Proc.params.items;
              vars = w.in-Proc.vars.items;
              body = ast.statements w.in-Proc.body.items;
              ending = ast.maybe_last w.in-Proc.ending;
            })
            (ap ast.part w.in-Proc.is) w.add-in-Proc.new.self
            (w.in_ok-add-in-Proc.ensures.table 0
            (names_of (procs_of (ast.parts (take c.loop-item.item-index c.args.items.now))))
            c.loop-item.invariant.procs));
      }
    ]

pub add-requires : goal.add-requires
add-requires c =
    let few = few_arrays c.args.items.now c.loop-item.item-index in
    let next = c.loop-item.invariant.arrays.next in
    let more = c.loop-item-test.true in
    let room = c.requires in
    omega (arith, few, next, more, room)

pub add-requires-in-Proc : goal.add-requires-in-Proc
add-requires-in-Proc c =
    let few = few_procs c.args.items.now c.loop-item.item-index in
    let next = c.loop-item.invariant.procs.next in
    let more = c.loop-item-test.true in
    let room = c.requires in
    omega (arith, few, next, more, room)
