use Rattle.std.proofs.Common.{◌++◌, ◌∷◌, [], ◌∙◌, ap, arith}
use Rattle.ws_words.specs.Outside.{row, with_row}
use Rattle.df_core.specs.Outdoors.{rows_of}
use Rattle.df_core.proofs.Sizes.Trays.{set_rows, value_in, set_space, written_past}
use Rattle.df_core.proofs.memory.add_word.Goals as goal

pub returns-then-place-len-clause-rows : goal.returns-then-place-len-clause-rows
returns-then-place-len-clause-rows c =
    let items = c.args.rows.now.items in
    set_rows items c.args.place c.push_reserved.new.self
    ∙ ap (with_row (rows_of items) c.args.place) (c.push_reserved.ensures.items
    ∙ ap (λ r. r ++ c.args.word ∷ []) (value_in items c.args.place c.index_mut.result.now (omega arith)
    c.index_mut.ensures.value))

pub returns-then-place-len-clause-space : goal.returns-then-place-len-clause-space
returns-then-place-len-clause-space c = λ n h.
    set_space c.args.rows.now.items c.args.place c.index_mut.result.now c.push_reserved.new.self n
    (omega arith) c.index_mut.ensures.value (omega (arith, c.push_reserved.ensures.len))
    (omega (arith, c.push_reserved.ensures.capacity)) h

pub returns-else-place-len-clause-rows : goal.returns-else-place-len-clause-rows
returns-else-place-len-clause-rows c = written_past c.args.rows.now.items c.args.place
    (row (rows_of c.args.rows.now.items) c.args.place ++ c.args.word ∷ []) (omega arith)
