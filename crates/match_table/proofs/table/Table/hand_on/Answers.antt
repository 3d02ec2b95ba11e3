use Rattle.std.proofs.Common.{arith, ℕ, List, subst, sym, ap, ◌∙◌}
use Rattle.ws_isa.specs.Image.{Token, instr_at, ports}
use Rattle.df_core.specs.Core.{IsSent}
use Rattle.df_core.specs.Fit.{RightRequest}
use Rattle.df_core.proofs.Walked.Few.{few}
use Rattle.df_core.specs.Places.{image_of}
use Rattle.df_core.specs.Rights.{Asked, operands_of}
use Rattle.match_table.specs.Ports.{listed}
use Rattle.match_table.proofs.Answered.{ok_now, fills, memory_is, sent_is, sends_right, asks_right}
use Rattle.match_table.proofs.Answered.{request_right}
use Rattle.match_table.proofs.table.Table.hand_on.Goals as goal
use Rattle.match_table.specs.Spots.{instances}
use Rattle.match_table.specs.Tables.{TableContent}

pub right-request-requires : goal.right-request-requires
right-request-requires g c =
    let ok = ok_now g.J.Job.image g.J.Job.world c.self.inside.pages.entries
    (instances c.self.inside.pages.entries.slots c.self.inside.fired)
    (instances c.self.inside.pages.entries.slots c.self.inside.asked) c.self.invariant.0 c.args.self.now
    (ap (λ (s : TableContent). s.entries) c.self.view_is) in
    subst (λ (k : ℕ × ℕ × ℕ × ℕ). RightRequest g.J.Job.image g.J.Job.world k.0 k.1 (operands_of (ports
    g.J.Job.image k.1) k.2 k.3)) (λ j. (
      sym c.wave-wave.ensures.wave j,
      sym c.instr-instr.ensures j,
      sym c.first.ensures j,
      sym c.second.ensures j,
    )) (request_right g.J.Job.image g.J.Job.world c.requires.formed c.requires.sound c.args.self.now _ _ ok
    c.args.token.now c.wave-wave.ensures.right c.args.operands (fills g.J.Job.image g.J.Job.world
    c.requires.formed c.requires.sound c.args.self.now _ _ ok c.args.token.now c.wave-wave.ensures.right
    c.args.operands c.requires.seen) (memory_is _ _ _ _ _ ((c.op_of-op.ensures (image_of c.args.program.now)
    c.args.token.now.instr c.requires.placed) ∙ ap (λ (k : ℕ). (instr_at (image_of c.args.program.now) k).op)
    (sym c.instr-instr.ensures)) c.requires.image c.instr-instr.ensures _ c.is_memory.ensures ∙
    c.if-is_memory.true))

pub returns-then-is_memory-clause-outcome : goal.returns-then-is_memory-clause-outcome
returns-then-is_memory-clause-outcome g c =
    let ok = ok_now g.J.Job.image g.J.Job.world c.self.inside.pages.entries
    (instances c.self.inside.pages.entries.slots c.self.inside.fired)
    (instances c.self.inside.pages.entries.slots c.self.inside.asked) c.self.invariant.0 c.args.self.now
    (ap (λ (s : TableContent). s.entries) c.self.view_is) in (
      c.right-request.result,
      c.ask.ensures.request,
      c.ask.ensures.sent,
      (
        (grind (arith, memory_is)),
        ap (λ (r : Asked). r.wave) c.right-request.ensures ∙ c.wave-wave.ensures.wave,
        ap (λ (r : Asked). r.instr) c.right-request.ensures ∙ c.instr-instr.ensures,
        ap (λ (r : Asked). r.second) c.right-request.ensures ∙ c.second.ensures,
        ap (λ (k : ℕ × ℕ). operands_of (ports g.J.Job.image c.args.token.now.instr) k.0 k.1)
            (λ j. (
              (ap (λ (r : Asked). r.first) c.right-request.ensures ∙ c.first.ensures) j,
              (ap (λ (r : Asked). r.second) c.right-request.ensures ∙ c.second.ensures) j,
            ))
            ∙ asks_right g.J.Job.image g.J.Job.world c.requires.formed c.requires.sound c.args.self.now _ _ ok
            c.args.token.now c.wave-wave.ensures.right c.args.operands
            (fills g.J.Job.image g.J.Job.world c.requires.formed c.requires.sound c.args.self.now _ _ ok
            c.args.token.now c.wave-wave.ensures.right c.args.operands c.requires.seen)
            (grind (arith, memory_is)),
      ),
    )

pub right-requires-clause-few : goal.right-requires-clause-few
right-requires-clause-few g c = grind (arith, few)

pub right-requires-clause-right : goal.right-requires-clause-right
right-requires-clause-right g c =
    let ok = ok_now g.J.Job.image g.J.Job.world c.self.inside.pages.entries
    (instances c.self.inside.pages.entries.slots c.self.inside.fired)
    (instances c.self.inside.pages.entries.slots c.self.inside.asked) c.self.invariant.0 c.args.self.now
    (ap (λ (s : TableContent). s.entries) c.self.view_is) in
    λ w i p v s. sends_right g.J.Job.image g.J.Job.world c.requires.formed c.requires.sound c.args.self.now _
    _ ok c.args.token.now c.wave-wave.ensures.right (listed c.args.operands)
    (fills g.J.Job.image g.J.Job.world c.requires.formed c.requires.sound c.args.self.now _ _ ok
    c.args.token.now c.wave-wave.ensures.right c.args.operands c.requires.seen)
    (memory_is g.J.Job.image (image_of c.args.program.now) c.args.token.now.instr c.instr-instr.result
    c.op_of-op.result
    ((c.op_of-op.ensures (image_of c.args.program.now) c.args.token.now.instr c.requires.placed)
    ∙ ap (λ (k : ℕ). (instr_at (image_of c.args.program.now) k).op) (sym c.instr-instr.ensures))
    c.requires.image c.instr-instr.ensures c.is_memory.result c.is_memory.ensures ∙ c.if-is_memory.false)
    w i p v
    (subst (λ (ts : List Token). IsSent ts w i p v) (grind (arith, sent_is)) s)

pub returns-clause-outcome : goal.returns-clause-outcome
returns-clause-outcome g c = (
  (
    (memory_is _ _ _ _ _ ((c.op_of-op.ensures (image_of c.args.program.now) c.args.token.now.instr
        c.requires.placed) ∙ ap (λ (k : ℕ). (instr_at (image_of c.args.program.now) k).op) (sym
        c.instr-instr.ensures)) c.requires.image c.instr-instr.ensures _ c.is_memory.ensures ∙
        c.if-is_memory.false),
    c.send.ensures.sent ∙ c.right.ensures ∙ sent_is _ _ _ _ _ ((c.op_of-op.ensures (image_of
        c.args.program.now) c.args.token.now.instr c.requires.placed) ∙ ap (λ (k : ℕ). (instr_at (image_of
        c.args.program.now) k).op) (sym c.instr-instr.ensures)) c.requires.image c.instr-instr.ensures _ _ _ _
        _ _ _ c.wave-wave.ensures.wave c.in-Some.ensures.number c.result_of-word.ensures c.selector.ensures
        c.dests_of-dests.ensures,
  ),
  c.send.ensures.request,
)
