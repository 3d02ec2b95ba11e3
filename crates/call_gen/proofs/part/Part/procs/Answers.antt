use Rattle.std.proofs.Common.{◌≡◌, ◌+◌, ◌∷◌, suc, drop, length, map, refl, rules, arith}
use Rattle.std.specs.List.{AllByRecursion}
use Rattle.cfg_core.specs.Graph as plain
use Rattle.cfg_core.specs.Tables.{graph_in}
use Rattle.cfg_core.specs.View as view
use Rattle.call_gen.specs.Part.{name, BlocksThere}
use Rattle.call_gen.proofs.Spelled.Making.{count_next}
use Rattle.call_gen.proofs.Parted.PartMaking.{all_there, part_next}
use Rattle.call_gen.proofs.part.Part.procs.Goals as goal
use Rattle.ws_words.proofs.Lists.{drop_next}
use Rattle.ws_words.specs.Items.{flag_at}

pub loop-proc-init : goal.loop-proc-init
loop-proc-init c = record {
  made = search rules;
  there = all_there (view.graph (graph_in c.args.self.now.table)) c.requires.rules;
  count = omega arith;
}

pub add_proc-requires-clause-count : goal.add_proc-requires-clause-count
add_proc-requires-clause-count c =
    let items = (graph_in c.args.self.now.table).procs.items in let i = c.loop-proc.proc-index in
    let p = c.proc-item.result in
    let one : i + 1 ≡ suc i = omega arith in
    let next : drop i items ≡ p ∷ drop (i + 1) items = drop_next items i (i + 1) p one
    (rw (c.deref-proc-items.ensures.value, c.graph.ensures) at c.loop-proc-test.true)
    (rw (c.deref-proc-items.ensures.value, c.graph.ensures) at c.proc-item.is) in
    omega (arith, count_next items i (i + 1) p one next, c.loop-proc.invariant.count, c.requires.part.count)

pub loop-proc-preserved : goal.loop-proc-preserved
loop-proc-preserved c =
    let g = view.graph (graph_in c.args.self.now.table) in let keep = flag_at c.args.self.now.flags.items in
    let items = (graph_in c.args.self.now.table).procs.items in let i = c.loop-proc.proc-index in
    let p = c.proc-item.result in
    let one : i + 1 ≡ suc i = omega arith in
    let next : drop i items ≡ p ∷ drop (i + 1) items = drop_next items i (i + 1) p one
    (rw (c.deref-proc-items.ensures.value, c.graph.ensures) at c.loop-proc-test.true)
    (rw (c.deref-proc-items.ensures.value, c.graph.ensures) at c.proc-item.is) in
    let len : c.len-first.result ≡ length p.blocks.items =
    omega (arith, c.len-first.ensures, p.blocks.ok.0) in
    let there : AllByRecursion (λ (q : plain.GraphProc). BlocksThere g q.blocks)
    (map view.proc (p ∷ drop (i + 1) items)) = rw next at c.loop-proc.invariant.there in
    record {
      made = part_next items i (i + 1) p next keep (name g keep) c.loop-proc.first
          (c.loop-proc.first + c.len-first.result) c.len-first.result c.loop-proc.procs.items
          c.add_proc.new.procs.items _ refl len c.in_ok-add_proc.ensures c.loop-proc.invariant.made;
      there = there.1;
      count = omega (arith, count_next items i (i + 1) p one next, c.loop-proc.invariant.count, len);
    }
