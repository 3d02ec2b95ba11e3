use Rattle.std.proofs.Common.{◌≡◌, length, replicate, ap, arith}
use Rattle.std.proofs.lemmas.List.{length_push}
use Rattle.live_vars.proofs.Planes.{pushed}
use Rattle.cfg_core.specs.Tables.{graph_in}
use Rattle.cfg_core.specs.View as view
use Rattle.call_gen.specs.Plans.{CallPlaced}
use Rattle.call_gen.proofs.Spelled.Tallying.{tallied_none}
use Rattle.call_gen.proofs.numbering.addresses.Goals as goal

pub loop-b-init : goal.loop-b-init
loop-b-init c =
    let t = c.args.table.now in let g = view.graph (graph_in t) in let n = c.proc_count.result in
    let items : c.in_ok-counts.counts.items ≡ replicate n 0 = c.in_ok-counts.ensures.items_if_clones_equal
    (λ y e. e) in
    record {
      count = ap length c.new-list.ensures.items;
      tallied = tallied_none g n (omega (arith, c.proc_count.ensures)) c.in_ok-counts.counts.items items;
      list = λ k lt. absurd (omega (arith, lt));
    }

pub next_place-requires-clause-there : goal.next_place-requires-clause-there
next_place-requires-clause-there c = omega (arith, c.block_count-b-end.ensures)

pub next_place-requires-clause-counts : goal.next_place-requires-clause-counts
next_place-requires-clause-counts c = c.loop-b.invariant.tallied

pub loop-b-preserved : goal.loop-b-preserved
loop-b-preserved c =
    let g = view.graph (graph_in c.args.table.now) in let b = c.loop-b.b in let i = c.loop-b.invariant in
    let n = c.next_place.result in
    rw c.in_ok-push.ensures.items (record {
      count = omega (arith, length_push c.loop-b.list.items n, i.count);
      tallied = c.next_place.ensures.counts;
      list = pushed (λ k v. CallPlaced g k v) c.loop-b.list.items b n i.count i.list
          c.next_place.ensures.place;
    })

pub returns : goal.returns
returns c = λ b lt. c.loop-b.invariant.list b (omega (arith, lt, c.block_count-b-end.ensures))
