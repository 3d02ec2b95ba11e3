use Rattle.std.proofs.Common.{slice_set, List, ℕ, arith}
use Rattle.ws_words.proofs.Rows.{written, written_past}
use Rattle.ws_words.proofs.cells.Cells.set.Goals as goal

pub returns-then-list-len : goal.returns-then-list-len
returns-then-list-len c = written c.self.inside.rows.items _ c.args.list c.index_mut.result.now c.set.new.self
    (λ (r : List ℕ). slice_set r c.args.place c.args.word) c.self.view_is (omega arith)
    c.index_mut.ensures.value c.set.ensures

pub returns-else-list-len : goal.returns-else-list-len
returns-else-list-len c = written_past c.self.inside.rows.items _ c.args.list _ c.self.view_is (omega arith)
