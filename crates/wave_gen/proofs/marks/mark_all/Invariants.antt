use Rattle.std.proofs.Common.{ℕ, ◌≡◌, ◌<◌, ◌||◌, length, drop}
use Rattle.wave_gen.specs.Plans.{is_among}
use Rattle.wave_gen.proofs.marks.mark_all.Given as goal
use Rattle.ws_words.specs.Items.{flag_at}

abbrev pub invariant-loop-b : goal.invariant-loop-b
invariant-loop-b l = record {
  count : length l.flags.items ≡ length l.initial.flags.items;
  marked : (c : ℕ) → c < length l.initial.flags.items
      → (flag_at l.flags.items c || is_among c (drop l.b-index l.blocks))
      ≡ (flag_at l.initial.flags.items c || is_among c l.blocks);
}
