use Rattle.std.proofs.Common.{◌≡◌, take}
use Rattle.ws_words.proofs.cells.Cells.copy.Given as goal

abbrev pub invariant-loop-words : goal.invariant-loop-words
invariant-loop-words l = l.rows.items ≡ take l.words-index l.words-items
