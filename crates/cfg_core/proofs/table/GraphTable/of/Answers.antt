use Rattle.std.proofs.Common.{ℕ, ap, suc, ◌≡◌, ◌+◌, ◌∷◌, length, drop, arith}
use Rattle.cfg_core.specs.declared.blocks.GraphProc.{GraphProc}
use Rattle.cfg_core.specs.declared.table.Room.{Room}
use Rattle.cfg_core.proofs.Tables.{spots_more, rooms_more, count_more}
use Rattle.cfg_core.proofs.table.GraphTable.of.Goals as goal
use Rattle.ws_words.proofs.Lists.{drop_next}

abbrev room_at : GraphProc → ℕ → Room
room_at p n = record { entry = n; params = p.params; vars = p.vars }

pub loop-proc-preserved : goal.loop-proc-preserved
loop-proc-preserved c =
    let items = c.deref-proc-items.result.now in
    let i = c.loop-proc.proc-index in
    let p = c.proc-item.result in
    let one : i + 1 ≡ suc i = omega arith in
    let next : drop i items ≡ p ∷ drop (i + 1) items = drop_next items i (i + 1) p one (omega arith)
    c.proc-item.is in
    let count : c.len.result ≡ length c.loop-proc.spots.items = omega (arith, c.loop-proc.spots.ok.0) in
    record {
      spots = spots_more items i (i + 1) p _ _ _ one next (c.in_ok-add_blocks.ensures)
          c.loop-proc.invariant.spots;
      rooms = rooms_more items i (i + 1) p (length c.loop-proc.spots.items) _ _ _ _
          (record { entry = c.len.result; params = p.params; vars = p.vars }) next
          (count_more p.vars c.loop-proc.spots.items c.add_blocks.new.spots.items p.blocks.items
          c.in_ok-add_blocks.ensures) c.in_ok-push.ensures.items (ap (room_at p) count)
          c.loop-proc.invariant.rooms;
    }
