use Rattle.std.proofs.Common.{◌≡◌, ℕ, Some, drop, length}
use Rattle.annot_check.specs.declared.trace.Entry.{Entry}
use Rattle.annot_check.specs.Table.{HasNumber, entry_at}
use Rattle.annot_check.proofs.tables.forget_all.Given as goal

abbrev pub invariant-loop-number : goal.invariant-loop-number
invariant-loop-number l = record {
  size : length l.table.items ≡ length l.fn.table.items;
  kept : (b : ℕ) (e : Entry) → entry_at l.table.items b ≡ Some e →
      (entry_at l.fn.table.items b ≡ Some e) ×
      (HasNumber l.numbers b → HasNumber (drop l.number-index l.numbers) b);
}
