use Rattle.std.proofs.Common.{arith, ℕ, refl, subst}
use Rattle.df_core.specs.Places.{image_of}
use Rattle.match_table.specs.declared.meeting.Seen.{Seen}
use Rattle.match_table.specs.Pages.{arrived_in}
use Rattle.match_table.specs.Ports.{SeenSo}
use Rattle.match_table.proofs.Answered.{count_is, memory_is, answered}
use Rattle.match_table.proofs.table.Table.take.Goals as goal

pub meet-seen-requires-clause-ports : goal.meet-seen-requires-clause-ports
meet-seen-requires-clause-ports g c = count_is _ _ _ _ _ (c.op_of-op.ensures (image_of c.args.program.now)
    c.args.token.now.instr c.requires.placed) c.requires.image refl _ c.ports-count.ensures

pub keep-requires-clause-ports : goal.keep-requires-clause-ports
keep-requires-clause-ports g c = count_is _ _ _ _ _ (c.op_of-op.ensures (image_of c.args.program.now)
    c.args.token.now.instr c.requires.placed) c.requires.image refl _ c.ports-count.ensures

pub hand_on-requires-clause-seen : goal.hand_on-requires-clause-seen
hand_on-requires-clause-seen g c =
    let count = count_is _ _ _ _ _ (c.op_of-op.ensures (image_of c.args.program.now) c.args.token.now.instr
    c.requires.placed) c.requires.image refl _ c.ports-count.ensures in
    subst (λ (k : ℕ × Seen). SeenSo (arrived_in c.args.self.now.entries c.args.token.now.wave
    c.args.token.now.instr) c.args.token.now.port c.args.token.now.value k.0 k.1)
    (λ j. (count.0 j, c.in-Fills.is j)) c.meet-seen.ensures.seen

pub fire-requires-clause-asks : goal.fire-requires-clause-asks
fire-requires-clause-asks g c = memory_is _ _ _ _ _ (c.op_of-op.ensures (image_of c.args.program.now)
    c.args.token.now.instr c.requires.placed) c.requires.image refl _ c.is_memory.ensures

pub fire-requires-clause-full : goal.fire-requires-clause-full
fire-requires-clause-full g c =
    let count = count_is g.J.Job.image (image_of c.args.program.now) c.args.token.now.instr
    c.args.token.now.instr c.op_of-op.result (c.op_of-op.ensures (image_of c.args.program.now)
    c.args.token.now.instr c.requires.placed) c.requires.image refl c.ports-count.result
    c.ports-count.ensures in
    grind arith

pub returns-else-is_err-2-clause-answer : goal.returns-else-is_err-2-clause-answer
returns-else-is_err-2-clause-answer g c =
    let count = count_is g.J.Job.image (image_of c.args.program.now) c.args.token.now.instr
    c.args.token.now.instr c.op_of-op.result (c.op_of-op.ensures (image_of c.args.program.now)
    c.args.token.now.instr c.requires.placed) c.requires.image refl c.ports-count.result
    c.ports-count.ensures in
    grind (arith, answered)
