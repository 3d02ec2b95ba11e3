use Rattle.std.proofs.Common.{◌≡◌, ◌+◌, get_or, arith}
use Rattle.std.proofs.lemmas.List.{length_push}
use Rattle.live_vars.proofs.Planes.{pushed}
use Rattle.cfg_core.specs.Tables.{graph_in}
use Rattle.cfg_core.specs.View as view
use Rattle.call_gen.specs.Spelled.{moved}
use Rattle.call_gen.proofs.Spelled.Counting.{one_at_most}
use Rattle.call_gen.proofs.Spelled.Planning.{homes_there, place_is, calls_next}
use Rattle.call_gen.proofs.numbering.places.Goals as goal

pub overflow_add-b-in-loop-b : goal.overflow_add-b-in-loop-b
overflow_add-b-in-loop-b c = let h = homes_there (view.graph (graph_in c.args.table.now)) c.args.homes.now
    c.loop-b.b c.requires.homes c.loop-b-test.true in
    omega (arith, h, c.requires.few.blocks, c.loop-b.invariant.few)

pub overflow_add-b-in-loop-b-2 : goal.overflow_add-b-in-loop-b-2
overflow_add-b-in-loop-b-2 c = let h = homes_there (view.graph (graph_in c.args.table.now)) c.args.homes.now
    c.loop-b.b c.requires.homes c.loop-b-test.true in
    omega (arith, h, c.requires.few.blocks, c.loop-b.invariant.few)

pub loop-b-preserved : goal.loop-b-preserved
loop-b-preserved c =
    let g = view.graph (graph_in c.args.table.now) in let b = c.loop-b.b in let i = c.loop-b.invariant in
    let h = homes_there g c.args.homes.now b c.requires.homes c.loop-b-test.true in
    let w = b + c.loop-b.calls + get_or c.args.homes.now b 0 + 1 in
    rw c.in_ok-push.ensures.items (record {
      count = omega (arith, length_push c.loop-b.places.items w, i.count);
      places = pushed (λ k v. v ≡ moved g k) c.loop-b.places.items b w i.count i.places
          (place_is g b c.loop-b.calls (get_or c.args.homes.now b 0) i.calls h.1);
      calls = calls_next g b c.loop-b.calls c.one_if-calls.result c.calls_at.result h.0 i.calls
          c.one_if-calls.ensures c.calls_at.ensures;
      few = omega (arith, i.few, c.one_if-calls.ensures, one_at_most c.calls_at.result);
    })
