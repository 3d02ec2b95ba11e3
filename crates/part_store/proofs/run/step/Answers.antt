use Rattle.std.proofs.Common.{◌≡◌, ℕ, ◌∙◌, ap, sym, true}
use Rattle.df_core.specs.Core.{has}
use Rattle.match_table.specs.Tables.{held, part}
use Rattle.part_store.proofs.Running.Paying.{pay_held}
use Rattle.part_store.proofs.run.step.Goals as goal
use Rattle.df_core.proofs.Keeping.Ports.{has_some}

pub returns-then-holds-clause-paid : goal.returns-then-holds-clause-paid
returns-then-holds-clause-paid g c = λ going.
    let image = g.J.Job.image in
    let table = c.args.run.now.table in
    let buffer = c.args.run.now.buffer in
    let t = c.in-Some.token in
    let h : has (held table t.wave t.instr t.port) ≡ true = sym (ap (λ (k : ℕ × ℕ × ℕ). has (held table k.0
    k.1 k.2)) (λ j. (c.wave.ensures.wave j, c.instr.ensures j, c.port.ensures j))) ∙ sym c.holds.ensures ∙
    c.if-holds.true in
    pay_held image (part table) buffer c.take.new.self t (has_some (held table t.wave t.instr t.port) h) (rw
    (← c.in-Some.ensures) (c.requires.paid going))
