use Rattle.std.proofs.Common.{ℕ, ◌≡◌, ◌∙◌, Some, subst, sym}
use Rattle.match_table.specs.declared.table.Accept.TheVariants.{Waits, Fires, Asks}
use Rattle.match_table.specs.declared.table.AcceptFault.TheVariants.{Old}
use Rattle.match_table.specs.Matching.{Accepted, Refused}
use Rattle.match_table.specs.Tables.{held, part}
use Rattle.part_store.specs.Runs.{IsWhole}
use Rattle.part_store.proofs.Running.Bringing.{both_ok}
use Rattle.store_buf.proofs.Paying.{not_fired}
use Rattle.part_store.proofs.Running.Paying.{pay_held, taken_waits, taken_fires, taken_asks}
use Rattle.part_store.proofs.run.bring.Goals as goal
use Rattle.df_core.proofs.Keeping.Ports.{has_some}
use Rattle.ws_words.proofs.Results.{on_ok}

pub returns-in-Some-clause-paid : goal.returns-in-Some-clause-paid
returns-in-Some-clause-paid g c =
    let image = g.J.Job.image in
    let world = g.J.Job.world in
    let old = c.args.run.now.table in
    let x = c.args.token in
    let answer : Accepted {J = g.row.J.Denot} image old x c.accept_into-took.new.self Waits =
    c.in-Waits.ensures.answer.0 in
    let fresh = not_fired image world c.facts-2.ensures.formed c.facts-2.ensures.sound
    (part old) c.facts.ensures.part x c.facts-3.ensures.right answer.0.free in
    on_ok c.tell.result (λ tell. tell (part c.accept_into-took.new.self)
    (taken_waits image old x c.accept_into-took.new.self answer.0 fresh c.args.run.now.buffer
    c.args.run.now.way c.requires.paid answer.2)) c.tell.ensures.paid

pub returns-in-None-clause-paid : goal.returns-in-None-clause-paid
returns-in-None-clause-paid g c = λ going.
    let image = g.J.Job.image in
    let world = g.J.Job.world in
    let old = c.args.run.now.table in
    let x = c.args.token in
    let answer : Accepted {J = g.row.J.Denot} image old x c.accept_into-took.new.self Waits =
    c.in-Waits.ensures.answer.0 in
    let fresh = not_fired image world c.facts-2.ensures.formed c.facts-2.ensures.sound
    (part old) c.facts.ensures.part x c.facts-3.ensures.right answer.0.free in
    taken_waits image old x c.accept_into-took.new.self answer.0 fresh c.args.run.now.buffer
    c.args.run.now.way c.requires.paid answer.2

pub returns-in-Fires-clause-paid : goal.returns-in-Fires-clause-paid
returns-in-Fires-clause-paid g c =
    let image = g.J.Job.image in
    let world = g.J.Job.world in
    let old = c.args.run.now.table in
    let x = c.args.token in
    let answer : Accepted {J = g.row.J.Denot} image old x c.accept_into-took.new.self
    (Fires c.accept_into-took.new.results.sent) = c.in-Fires.ensures.answer.0 in
    let fresh = not_fired _ _ c.facts-2.ensures.formed c.facts-2.ensures.sound
    _ c.facts.ensures.part _ c.facts-3.ensures.right answer.0.free in
    let full = answer.1 in
    both_ok c.send_all.result (λ keep sent going. taken_fires image old x c.accept_into-took.new.self answer.0
    fresh c.args.run.now.buffer c.args.run.now.way c.requires.paid c.send_all.new.self
    c.accept_into-took.new.results.sent full.0 full.1 full.2.0 full.2.1 keep sent) c.send_all.ensures.old
    c.send_all.ensures.taken

pub returns-in-Some-request-clause-paid : goal.returns-in-Some-request-clause-paid
returns-in-Some-request-clause-paid g c =
    let image = g.J.Job.image in
    let world = g.J.Job.world in
    let old = c.args.run.now.table in
    let x = c.args.token in
    let asks = c.in-Asks.ensures.answer in
    let some : Some asks.0 ≡ Some c.in-Some-request.request = sym asks.1 ∙ c.in-Some-request.is in
    let same : asks.0 ≡ c.in-Some-request.request = cc in
    let answer : Accepted {J = g.row.J.Denot} image old x c.accept_into-took.new.self
    (Asks c.in-Some-request.request) = rw (← same) asks.3 in
    let fresh = not_fired image world c.facts-2.ensures.formed c.facts-2.ensures.sound
    (part old) c.facts.ensures.part x c.facts-3.ensures.right answer.0.free in
    let full = answer.1 in
    both_ok c.ask.result (λ tell whole going. taken_asks image old x c.accept_into-took.new.self answer.0
    fresh c.args.run.now.buffer c.args.run.now.way c.requires.paid c.ask.new.buffer c.ask.new.way full.0
    full.1 full.2.0 (λ t paid. tell t paid going) (subst (λ (k : ℕ × ℕ). IsWhole c.ask.new.buffer k.0 k.1) (λ
    j. (full.2.1 j, full.2.2 j)) (whole going))) c.ask.ensures.paid c.ask.ensures.asked

pub returns-in-Old-clause-paid : goal.returns-in-Old-clause-paid
returns-in-Old-clause-paid g c = λ going.
    let image = g.J.Job.image in
    let old = c.args.run.now.table in
    let x = c.args.token in
    let way = c.args.run.now.way in
    let refused : Refused {J = g.row.J.Denot} old x c.accept_into-took.new.self (Old x) =
    c.in-Old.ensures.answer.0 in
    rw refused.1 (pay_held image (part old) c.args.run.now.buffer way x (has_some (held old x.wave x.instr
    x.port) refused.2) c.requires.paid)
