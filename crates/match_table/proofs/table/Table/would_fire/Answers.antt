use Rattle.std.proofs.Common.{arith, ℕ, ap, subst}
use Rattle.df_core.specs.Places.{image_of}
use Rattle.match_table.specs.declared.meeting.Seen.{Seen}
use Rattle.match_table.specs.Pages.{arrived_in}
use Rattle.match_table.specs.Ports.{SeenSo}
use Rattle.match_table.proofs.Answered.{count_is, ok_now, fills_fires, waits_open}
use Rattle.match_table.proofs.table.Table.would_fire.Goals as goal
use Rattle.match_table.specs.Spots.{instances}
use Rattle.match_table.specs.Tables.{TableContent}

pub meet-seen-requires-clause-ports : goal.meet-seen-requires-clause-ports
meet-seen-requires-clause-ports g c = count_is _ _ _ _ _ c.op.ensures c.program-program.ensures.image
    c.instr-instr.ensures _ c.ports-count.ensures

pub returns-in-Fills : goal.returns-in-Fills
returns-in-Fills g c =
    let ok = ok_now g.J.Job.image g.J.Job.world c.self.inside.pages.entries
    (instances c.self.inside.pages.entries.slots c.self.inside.fired)
    (instances c.self.inside.pages.entries.slots c.self.inside.asked) c.self.invariant.0 c.args.self.now
    (ap (λ (s : TableContent). s.entries) c.self.view_is) in
    let count = count_is g.J.Job.image (image_of c.program-program.result.now) c.args.token.now.instr
    c.instr-instr.result c.op.result c.op.ensures c.program-program.ensures.image c.instr-instr.ensures
    c.ports-count.result c.ports-count.ensures in
    fills_fires g.J.Job.image g.J.Job.world c.program-program.ensures.formed c.program-program.ensures.sound
    c.args.self.now _ _ ok c.args.token.now c.wave-wave.ensures.right c.in-Fills.field-0
    (grind arith)

pub returns-in-Waits : goal.returns-in-Waits
returns-in-Waits g c =
    let ok = ok_now g.J.Job.image g.J.Job.world c.self.inside.pages.entries
    (instances c.self.inside.pages.entries.slots c.self.inside.fired)
    (instances c.self.inside.pages.entries.slots c.self.inside.asked) c.self.invariant.0 c.args.self.now
    (ap (λ (s : TableContent). s.entries) c.self.view_is) in
    let count = count_is _ _ _ _ _ c.op.ensures c.program-program.ensures.image c.instr-instr.ensures _
    c.ports-count.ensures in
    waits_open g.J.Job.image g.J.Job.world c.program-program.ensures.formed c.program-program.ensures.sound
    c.args.self.now _ _ ok c.args.token.now c.wave-wave.ensures.right (subst (λ (k : ℕ × Seen). SeenSo
    (arrived_in c.args.self.now.entries c.args.token.now.wave c.args.token.now.instr) c.args.token.now.port
    c.args.token.now.value k.0 k.1) (λ j. (count.0 j, c.in-Waits.is j)) c.meet-seen.ensures.seen)
