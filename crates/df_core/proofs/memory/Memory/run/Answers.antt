use Rattle.std.proofs.Common.{◌≡◌, ◌∙◌, ◌-◌, ap, slice_index, slice_set, arith}
use Rattle.ws_words.specs.Outside.{row, with_row, head_or_zero, rest_of}
use Rattle.ws_isa.specs.declared.instr.Op.TheVariants as code
use Rattle.df_core.proofs.Walked.Held.{from_op, load_is, store_is, read_is, print_is, give_is}
use Rattle.df_core.proofs.memory.Memory.run.Goals as goal

pub returns-in-Load-clause-answer : goal.returns-in-Load-clause-answer
returns-in-Load-clause-answer c = λ o third h.
    let m = c.args.self.now in
    from_op (code.Load c.in-Load.array) c.args.op _ o _ _ c.in-Load.is
    (load_is o m h c.in-Load.array c.args.first c.args.second third c.word.result
    (c.word.ensures ∙ ap (λ n. slice_index (row m.cells n) c.args.first) c.place_of.ensures))

pub returns-in-Store-clause-answer : goal.returns-in-Store-clause-answer
returns-in-Store-clause-answer c = λ o third h.
    let m = c.args.self.now in
    from_op (code.Store c.in-Store.array) c.args.op _ o _ _ c.in-Store.is
    (store_is o m h c.in-Store.array c.args.first c.args.second third c.set.new.self
    (c.set.ensures ∙ ap (λ n. with_row m.cells n (slice_set (row m.cells n) c.args.first c.args.second))
    c.place_of-in-Store.ensures))

pub returns-in-Input-clause-answer : goal.returns-in-Input-clause-answer
returns-in-Input-clause-answer c = λ o third h.
    from_op code.Input c.args.op _ o _ _ c.in-Input.is
    (read_is o c.args.self.now h c.args.first c.args.second third c.next.result c.next.new.self
    c.next.ensures.word c.next.ensures.rest)

pub returns-in-Output-clause-answer : goal.returns-in-Output-clause-answer
returns-in-Output-clause-answer c = λ o third h.
    from_op code.Output c.args.op _ o _ _ c.in-Output.is
    (print_is o c.args.self.now h c.args.first c.args.second third c.push_reserved.new.self
    c.push_reserved.ensures.items)

pub returns-in-Give-clause-answer : goal.returns-in-Give-clause-answer
returns-in-Give-clause-answer c = λ o third h.
    let m = c.args.self.now in
    let place : c.saturating_sub.result ≡ c.in-Give.port - 1 = omega arith in
    from_op (code.Give c.in-Give.port) c.args.op _ o _ _ c.in-Give.is
    (give_is o m h c.in-Give.port c.args.first c.args.second third c.next_of.result c.next_of.new.tapes
    (c.next_of.ensures.word ∙ ap (λ n. head_or_zero (row m.left.items n)) place)
    (c.next_of.ensures.rest ∙ ap (λ n. with_row m.left.items n (rest_of (row m.left.items n))) place))
