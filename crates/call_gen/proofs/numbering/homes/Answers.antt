use Rattle.std.proofs.Common.{◌≡◌, ◌+◌, ◌∷◌, suc, drop, arith}
use Rattle.call_gen.proofs.Spelled.Planning.{homes_more}
use Rattle.call_gen.proofs.numbering.homes.Goals as goal
use Rattle.ws_words.proofs.Lists.{drop_next}

pub loop-f-preserved : goal.loop-f-preserved
loop-f-preserved c =
    let items = c.args.graph.now.procs.items in let i = c.loop-f.f in let p = c.proc-item.result in
    let one : i + 1 ≡ suc i = omega arith in
    let next : drop i items ≡ p ∷ drop (i + 1) items = drop_next items i (i + 1) p one
    (rw c.deref-proc-items.ensures.value at c.loop-f-test.true)
    (rw c.deref-proc-items.ensures.value at c.proc-item.is) in
    homes_more items i (i + 1) c.len.result p c.loop-f.homes.items c.add_homes.new.homes.items _ one next
    (omega (arith, p.blocks.ok.0)) c.in_ok-add_homes.ensures c.loop-f.invariant
