use Rattle.std.proofs.Common.{slice_set, ap, ◌∙◌}
use Rattle.ws_words.specs.Outside.{row, with_row}
use Rattle.ws_words.proofs.Held.{stored}
use Rattle.ws_words.proofs.memory.Memory.store.Goals as goal

pub returns : goal.returns
returns c = λ o h.
    let m = c.args.self.now in
    stored o m h c.args.array c.args.index c.args.word c.set.new.self
    (c.set.ensures ∙ ap (λ n. with_row m.cells n (slice_set (row m.cells n) c.args.index c.args.word))
    c.place_of.ensures)
