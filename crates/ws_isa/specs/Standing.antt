-- Serves the proof of the code alone; nobody has to believe it.
-- Where a walk stands: the slots that are open along it, and the number of the wave under which an
-- instruction fires next.
use Rattle.std.specs.Prelude.{ℕ, zero, suc, ◌-◌, cond, ◌&&◌, ltb}
use Rattle.ws_words.specs.Outside.{World}
use Rattle.ws_isa.specs.Image.{Image, first_number, is_advance, now_dests, start_dests}
use Rattle.ws_isa.specs.Walk.{Pos, pos, is_within, choice}
use Rattle.ws_isa.specs.Sound.{OpenSlots, none_open, all_opened, closed, opens_at}

-- an advance that still stands ahead in this block has the number before the wave's
unfoldable pub turn_number : Image → Pos → ℕ → ℕ
turn_number image p j = cond (is_advance image j &&
    (ltb p.next (suc j) && ltb j (first_number image (suc p.block)))) (p.wave - 1) p.wave

abbrev pub slots_step : Image → Pos → OpenSlots → OpenSlots
slots_step image p o = cond p.over o
    (cond (is_within image p) (all_opened (now_dests image p.next) (closed p.next o))
    (all_opened (opens_at image p.block (choice image p)) o))

-- the slots that are open before step t
unfoldable pub slots_at : Image → World → ℕ → OpenSlots
slots_at image world zero = all_opened (start_dests image) none_open
slots_at image world (suc t) = slots_step image (pos image world t) (slots_at image world t)
