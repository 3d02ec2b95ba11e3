use Rattle.std.proofs.Common.{refl, ◌≡◌, ◌∙◌, ap, sym, [], arith}
use Rattle.ws_words.specs.Outside.{head_or_zero, rest_of, row}
use Rattle.ws_words.proofs.Rows.{written, written_past, word_in, word_past}
use Rattle.ws_words.proofs.tape.next_of.Goals as goal

pub returns-then-place-len-clause-word : goal.returns-then-place-len-clause-word
returns-then-place-len-clause-word c =
    let items = c.args.tapes.now.items in
    let same : row items c.args.place ≡ c.index_mut.result.now = word_in items items c.args.place
    c.index_mut.result.now refl (omega arith) c.index_mut.ensures.value in
    c.next.ensures.word ∙ ap head_or_zero (sym same)

pub returns-then-place-len-clause-rest : goal.returns-then-place-len-clause-rest
returns-then-place-len-clause-rest c =
    let items = c.args.tapes.now.items in
    written items items c.args.place c.index_mut.result.now c.next.new.self rest_of refl (omega arith)
    c.index_mut.ensures.value c.next.ensures.rest

pub returns-else-place-len-clause-word : goal.returns-else-place-len-clause-word
returns-else-place-len-clause-word c =
    let items = c.args.tapes.now.items in
    let past : row items c.args.place ≡ [] = word_past items items c.args.place refl (omega arith) in
    ap head_or_zero (sym past)

pub returns-else-place-len-clause-rest : goal.returns-else-place-len-clause-rest
returns-else-place-len-clause-rest c =
    let items = c.args.tapes.now.items in
    written_past items items c.args.place (rest_of (row items c.args.place)) refl (omega arith)
