use Rattle.std.proofs.Common.{Some, ap, arith}
use Rattle.cfg_core.specs.View as view
use Rattle.cfg_core.specs.declared.blocks.GraphArray.{GraphArray}
use Rattle.cfg_build.proofs.Lists.{one_more, next_array, length_few}
use Rattle.cfg_build.proofs.arrays.arrays.Goals as goal

pub overflow_cast-shape : goal.overflow_cast-shape
overflow_cast-shape c = let few = length_few c.args.shapes.now c.loop-shape.shape-index c.shape-item.result
    c.loop-shape-test.true c.shape-item.is c.requires in omega (arith, few)

pub loop-shape-preserved : goal.loop-shape-preserved
loop-shape-preserved c =
    let made : GraphArray = record { name = Some c.in_ok-name.name; length = c.shape-item.result.length } in
    one_more view.array c.loop-shape.list.items c.push.new.self.items made _ _ _ c.in_ok-push.ensures.items
    (next_array c.args.shapes.now c.loop-shape.shape-index c.shape-item.result made c.loop-shape-test.true
    c.shape-item.is (ap (λ name. record { name = Some name; length = c.shape-item.result.length })
    c.in_ok-name.ensures))
    c.loop-shape.invariant
