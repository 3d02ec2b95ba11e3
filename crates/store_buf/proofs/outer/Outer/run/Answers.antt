use Rattle.std.proofs.Common.{◌≤◌, ◌∙◌, ap, subst, slice_index, slice_set}
use Rattle.ws_words.specs.Outside.{row, with_row}
use Rattle.ws_isa.specs.declared.instr.Op.TheVariants as code
use Rattle.store_buf.specs.Outdoors.{PortIn}
use Rattle.store_buf.specs.Outers.{holding}
use Rattle.store_buf.proofs.Outside as O
use Rattle.store_buf.proofs.outer.Outer.run.Goals as goal

pub returns-in-Load-clause-answer : goal.returns-in-Load-clause-answer
returns-in-Load-clause-answer g c = λ began o third h.
    O.from_op began (code.Load c.in-Load.array) c.args.op _ o _ _ c.in-Load.is
    (O.load_is began o (holding c.args.self.now) h c.in-Load.array c.args.first c.args.second third
    c.word.result (c.word.ensures ∙ ap (λ n. slice_index (row c.args.self.now.cells n) c.args.first)
    c.place_of.ensures))

pub returns-in-Store-clause-answer : goal.returns-in-Store-clause-answer
returns-in-Store-clause-answer g c = λ began o third h.
    O.from_op began (code.Store c.in-Store.array) c.args.op _ o _ _ c.in-Store.is
    (O.store_is began o (holding c.args.self.now) h c.in-Store.array c.args.first c.args.second third
    c.set.new.self
    (c.set.ensures
    ∙ ap (λ n. with_row c.args.self.now.cells n (slice_set (row c.args.self.now.cells n) c.args.first
    c.args.second)) c.place_of-in-Store.ensures))

pub returns-in-Input-clause-answer : goal.returns-in-Input-clause-answer
returns-in-Input-clause-answer g c = λ began o third h.
    O.from_op began code.Input c.args.op _ o _ _ c.in-Input.is
    (O.read_is began o (holding c.args.self.now) h c.args.first c.args.second third c.next_word.result
    (holding c.next_word.new.self) c.next_word.ensures.word c.next_word.ensures.rest
    c.next_word.ensures.cells
    (ap (λ v. v.items) c.next_word.ensures.printed) c.next_word.ensures.ports)

pub returns-in-Output-clause-answer : goal.returns-in-Output-clause-answer
returns-in-Output-clause-answer g c = λ began o third h.
    O.from_op began code.Output c.args.op _ o _ _ c.in-Output.is
    (O.print_is began o (holding c.args.self.now) h c.args.first c.args.second third
    c.push_reserved.new.self.items c.push_reserved.ensures.items)

pub returns-in-Ok-take-clause-answer : goal.returns-in-Ok-take-clause-answer
returns-in-Ok-take-clause-answer g c = λ began o third h.
    let p : (1 ≤ c.in-Take.port) × (c.in-Take.port ≤ 7) = subst PortIn c.in-Take.is c.requires.port in
    O.from_op began (code.Take c.in-Take.port) c.args.op _ o _ _ c.in-Take.is
    (O.take_is began o (holding c.args.self.now) h c.in-Take.port c.args.first c.args.second third
    c.take.new.self p.0 p.1 c.in-Ok-take.ensures.took c.take.ensures.others)

pub returns-in-Ok-clause-answer : goal.returns-in-Ok-clause-answer
returns-in-Ok-clause-answer g c = λ began o third h.
    let p : (1 ≤ c.in-Give.port) × (c.in-Give.port ≤ 7) = subst PortIn c.in-Give.is c.requires.port in
    O.from_op began (code.Give c.in-Give.port) c.args.op _ o _ _ c.in-Give.is
    (O.give_is began o (holding c.args.self.now) h c.in-Give.port c.args.first c.args.second third
    c.in-Ok.word c.give.new.self p.0 p.1 c.in-Ok.ensures.gave c.give.ensures.others)
