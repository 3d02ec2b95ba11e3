use Rattle.std.proofs.Common.{refl, sym, ap, ◌∙◌}
use Rattle.std.specs.Prelude.{Vec}
use Rattle.std.specs.declared.alloc.Global.{Global}
use Rattle.src_ast.specs.View as ast
use Rattle.seq_run.specs.View as view
use Rattle.seq_run.specs.declared.tree.ArrayShape.{ArrayShape}
use Rattle.seq_run.proofs.Declares.{shape_name, shape_length, proc_no_name, proc_no_length}
use Rattle.seq_run.proofs.programs.shapes.Goals as goal
use Rattle.seq_run.proofs.programs.shapes.Goals.{in-Array+in_ok-name-in-Array+in_ok-push-in-Array, in-Proc}

pub loop-item-preserved : goal.loop-item-preserved
loop-item-preserved c =
    elim c.match-item.branch [
      | in-Array+in_ok-name-in-Array+in_ok-push-in-Array w ↦ record {
        names = ap (λ (v : Vec ArrayShape Global). view.names v.items) w.list-is
            ∙ shape_name c.args.items.now c.loop-item.item-index c.item-item.result c.loop-item-test.true
            c.item-item.is w.in-Array.name w.in-Array.length w.in-Array.length_place w.in-Array.is
            c.loop-item.list.items w.push.new.self.items
            (record { name = w.in_ok-name-in-Array.name; length = w.in-Array.length })
            c.loop-item.invariant.names w.in_ok-push-in-Array.ensures.items w.in_ok-name-in-Array.ensures;
        lengths = ap (λ (v : Vec ArrayShape Global). view.lengths v.items) w.list-is
            ∙ shape_length c.args.items.now c.loop-item.item-index c.item-item.result c.loop-item-test.true
            c.item-item.is w.in-Array.name w.in-Array.length w.in-Array.length_place w.in-Array.is
            c.loop-item.list.items w.push.new.self.items
            (record { name = w.in_ok-name-in-Array.name; length = w.in-Array.length })
            c.loop-item.invariant.lengths w.in_ok-push-in-Array.ensures.items refl;
      }
      | in-Proc w ↦ record {
        names = ap (λ (v : Vec ArrayShape Global). view.names v.items) w.list-is ∙ c.loop-item.invariant.names
            ∙ sym (proc_no_name c.args.items.now c.loop-item.item-index c.item-item.result
            c.loop-item-test.true c.item-item.is
            (record {
              name = w.in-Proc.name;
              params = w.in-Proc.params.items;
              vars = w.in-Proc.vars.items;
              body = ast.statements w.in-Proc.body.items;
              ending = ast.maybe_last w.in-Proc.ending;
            })
            (ap ast.part w.in-Proc.is));
        lengths = ap (λ (v : Vec ArrayShape Global). view.lengths v.items) w.list-is
            ∙ c.loop-item.invariant.lengths
            ∙ sym (proc_no_length c.args.items.now c.loop-item.item-index c.item-item.result
            c.loop-item-test.true c.item-item.is
            (record {
              name = w.in-Proc.name;
              params = w.in-Proc.params.items;
              vars = w.in-Proc.vars.items;
              body = ast.statements w.in-Proc.body.items;
              ending = ast.maybe_last w.in-Proc.ending;
            })
            (ap ast.part w.in-Proc.is));
      }
    ]
