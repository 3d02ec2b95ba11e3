use Rattle.std.proofs.Common.{ℕ, ◌≡◌, ◌<◌, ◌≤◌, ◌+◌, length, Some, Vec, Global, vec_len, vec_capacity}
use Rattle.df_core.specs.Outdoors.{rows_of, HasSpace}
use Rattle.df_core.proofs.memory.reserve_rows.Given as goal
use Rattle.ws_words.specs.Items.{nth}

abbrev pub invariant-loop-place : goal.invariant-loop-place
invariant-loop-place l = record {
  same : rows_of l.rows.items ≡ rows_of l.initial.rows.items;
  kept : (n : ℕ) → HasSpace l.initial.rows.items n → HasSpace l.rows.items n;
  size : length l.rows.items ≡ l.place-end;
  later : (p : ℕ) (row : Vec ℕ Global) → l.place ≤ p → nth l.rows.items p ≡ Some row
      → nth l.initial.rows.items p ≡ Some row;
  done : (p : ℕ) (row : Vec ℕ Global) → p < l.place → nth l.rows.items p ≡ Some row
      → vec_len row + l.more ≤ vec_capacity row;
}
