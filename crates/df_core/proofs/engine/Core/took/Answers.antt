use Rattle.std.proofs.Common.{List, ℕ, ◌-◌, ◌∙◌, ap, sym, arith}
use Rattle.ws_words.specs.Outside.{row}
use Rattle.df_core.proofs.Sizes.Trays.{value_in, past_row}
use Rattle.df_core.proofs.engine.Core.took.Goals as goal

pub returns-then-place-len-clause-words : goal.returns-then-place-len-clause-words
returns-then-place-len-clause-words c =
    c.deref.ensures.value ∙ value_in c.args.self.now.flow.memory.took.items (c.args.port - 1)
    c.index.result.now (omega (
      arith,
      c.if-place-len.true,
      c.len.ensures,
      c.args.self.now.flow.memory.took.ok.0,
    )) c.index.ensures

pub returns-then-place-len-clause-state : goal.returns-then-place-len-clause-state
returns-then-place-len-clause-state c = λ image world state at.
    ap (λ (rows : List (List ℕ)). row rows (c.args.port - 1)) at.holds.memory_is.same_took
    ∙ sym (c.deref.ensures.value ∙ value_in c.args.self.now.flow.memory.took.items (c.args.port - 1)
    c.index.result.now (omega (
      arith,
      c.if-place-len.true,
      c.len.ensures,
      c.args.self.now.flow.memory.took.ok.0,
    )) c.index.ensures)

pub returns-else-place-len-clause-words : goal.returns-else-place-len-clause-words
returns-else-place-len-clause-words c = past_row c.args.self.now.flow.memory.took.items (c.args.port - 1)
    (omega (arith, c.if-place-len.false, c.len.ensures, c.args.self.now.flow.memory.took.ok.0))
