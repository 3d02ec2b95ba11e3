use Rattle.std.proofs.Common.{List, ℕ, [], ◌∷◌, ◌++◌, arith}
use Rattle.ws_words.proofs.Rows.{written, written_past}
use Rattle.ws_words.proofs.cells.Cells.add.Goals as goal

pub returns-in_ok-push-clause-ok : goal.returns-in_ok-push-clause-ok
returns-in_ok-push-clause-ok c = written c.self.inside.rows.items _ c.args.list c.index_mut.result.now
    c.push.new.self (λ (r : List ℕ). r ++ c.args.word ∷ []) c.self.view_is (omega arith)
    c.index_mut.ensures.value c.in_ok-push.ensures.ok

pub returns-else-list-len-clause-ok : goal.returns-else-list-len-clause-ok
returns-else-list-len-clause-ok c = written_past c.self.inside.rows.items _ c.args.list _ c.self.view_is
    (omega arith)
