use Rattle.std.proofs.Common.{◌≡◌, [], slice_index, ap, ◌∙◌, sym, List, ℕ}
use Rattle.ws_words.specs.Outside.{row}
use Rattle.ws_words.proofs.Rows.{word_in, word_past}
use Rattle.ws_words.proofs.cells.Cells.word.Goals as goal

pub returns-in-Some : goal.returns-in-Some
returns-in-Some c =
    let l = c.in-Some.ensures.lookup in
    let e : row c.args.self.now c.args.list ≡ c.in-Some.words.now = word_in c.self.inside.rows.items _
    c.args.list c.in-Some.words.now c.self.view_is (rw c.deref.ensures.value at (l.3).0)
    (rw c.deref.ensures.value at l.1) in
    c.word.ensures ∙ ap (λ (r : List ℕ). slice_index r c.args.place) (sym e)

pub returns-in-None : goal.returns-in-None
returns-in-None c =
    let e : row c.args.self.now c.args.list ≡ [] = word_past c.self.inside.rows.items _ c.args.list
    c.self.view_is (rw c.deref.ensures.value at c.in-None.ensures.lookup.3) in
    ap (λ (r : List ℕ). slice_index r c.args.place) (sym e)
