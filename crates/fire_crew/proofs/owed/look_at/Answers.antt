use Rattle.std.proofs.Common.{sym, ◌∙◌, true≢false}
use Rattle.fire_crew.proofs.Rights.{code_memory, code_op, code_sent, sent_is}
use Rattle.fire_crew.proofs.owed.look_at.Goals as goal

pub returns-then-is_memory-clause-reach : goal.returns-then-is_memory-clause-reach
returns-then-is_memory-clause-reach g c = λ way k. (
  k,
  λ m. absurd (true≢false (sym (code_memory _ _ _ _ _ c.op-op.ensures c.program.ensures.image
      c.is_memory.ensures ∙ c.if-is_memory.true) ∙ m)),
)

pub keep_sent-requires-clause-right : goal.keep_sent-requires-clause-right
keep_sent-requires-clause-right g c = λ w i p v s.
    let op = code_op _ _ _ _ c.op-op.ensures c.program.ensures.image in
    c.requires.right (code_memory _ _ _ _ _ c.op-op.ensures c.program.ensures.image c.is_memory.ensures ∙
    c.if-is_memory.false) w i p v (rw (← code_sent _ _ _ _ _ _ _ _ _ op c.in-Some.ensures.number
    c.destinations-dests.ensures c.program-2.ensures.image ∙ sent_is _ _ _ _ _ _ _ op
    c.selector-choice.ensures c.result_of-word.ensures) s)

pub returns-clause-reach : goal.returns-clause-reach
returns-clause-reach g c = λ way k. (let r = c.in_ok-keep_sent.ensures.reach way k in
    let op = code_op _ _ _ _ c.op-op.ensures c.program.ensures.image in (
      r.0,
      λ m. rw (← code_sent _ _ _ _ _ _ _ _ _ op c.in-Some.ensures.number c.destinations-dests.ensures
          c.program-2.ensures.image ∙ sent_is _ _ _ _ _ _ _ op c.selector-choice.ensures
          c.result_of-word.ensures) r.1,
    ))
