use Rattle.std.proofs.Common.{◌≡◌, ◌-◌, ℕ, sym, ap, ◌∙◌, subst, arith}
use Rattle.df_core.specs.Rights.{Asked}
use Rattle.match_table.specs.Rows.{contents}
use Rattle.match_table.specs.Together.{together}
use Rattle.match_table.proofs.Brought.{count_same, count_one}
use Rattle.fire_crew.specs.Solo.{Knows}
use Rattle.fire_crew.proofs.Alone.{come_waits, come_fires, come_asks, come_old, come_on}
use Rattle.fire_crew.proofs.solo.bring_on.Goals as goal

pub returns-in-Waits-clause-count : goal.returns-in-Waits-clause-count
returns-in-Waits-clause-count g c = grind (arith, count_same)

pub returns-in-Waits-clause-goes : goal.returns-in-Waits-clause-goes
returns-in-Waits-clause-goes g c =
    let b = c.in-Waits.ensures.brought in
    let buffer = c.args.run.now.buffer in
    let way = c.args.run.now.way in
    let new = contents c.bring-took.new.tables in (
      c.requires.going,
      rw b.1.1.0 (come_waits g.J.Job.image g.J.Job.world c.facts.ensures.formed c.facts.ensures.sound
          (contents c.args.run.now.tables) new c.args.token b.0 buffer way c.facts-3.ensures.part
          c.facts-2.ensures.right c.requires.paid b.1.0.0 b.1.0.2),
    )

pub returns-in-Fires-clause-count : goal.returns-in-Fires-clause-count
returns-in-Fires-clause-count g c =
    let b = c.in-Fires.ensures.brought in
    let full = b.1.0.1 in
    let n = count_one (contents c.args.run.now.tables) (contents c.bring-took.new.tables) c.args.token b.0
    g.J.Job.image full.0 full.1 in
    let some = c.requires.some in
    omega (arith, n, some)

pub returns-in-Fires-clause-goes : goal.returns-in-Fires-clause-goes
returns-in-Fires-clause-goes g c =
    let b = c.in-Fires.ensures.brought in
    let full = b.1.0.1 in (
      c.requires.going,
      come_fires g.J.Job.image g.J.Job.world c.facts.ensures.formed c.facts.ensures.sound
          (contents c.args.run.now.tables) (contents c.bring-took.new.tables) c.args.token b.0
          c.args.run.now.buffer c.args.run.now.way c.facts-3.ensures.part c.facts-2.ensures.right
          c.requires.paid c.bring-took.new.results.sent full.0 b.1.0.0 full.1 full.2.0 full.2.1,
    )

pub returns-in-Some-clause-count : goal.returns-in-Some-clause-count
returns-in-Some-clause-count g c =
    let b = c.in-Asks.ensures.brought in
    let full = b.1.3.1 in
    let n = count_one (contents c.args.run.now.tables) (contents c.bring-took.new.tables) c.args.token b.0
    g.J.Job.image full.0 full.1 in
    let some = c.requires.some in
    omega (arith, n, some)

pub returns-in-Old-clause-count : goal.returns-in-Old-clause-count
returns-in-Old-clause-count g c = grind (arith, count_same)

pub returns-in-NoMemory-clause-count : goal.returns-in-NoMemory-clause-count
returns-in-NoMemory-clause-count g c = grind (arith, count_same)

pub returns-in-Some-clause-goes : goal.returns-in-Some-clause-goes
returns-in-Some-clause-goes g c =
    let b = c.in-Asks.ensures.brought in
    let r = c.in-Some.request in
    let full = b.1.3.1 in
    let same : b.1.0 ≡ r = cc in
    let wave : r.wave ≡ c.args.token.wave = sym (ap (λ (a : Asked). a.wave) same) ∙ full.2.1 in
    let instr : r.instr ≡ c.args.token.instr = sym (ap (λ (a : Asked). a.instr) same) ∙ full.2.2 in
    let new = contents c.bring-took.new.tables in
    come_on g.J.Job.image g.J.Job.world g.J.Job.began c.ask.result (together new) (c.args.run.now.left - 1)
    c.args.run.now.buffer c.ask.new.buffer r c.args.run.now.way c.bring-took.new.results.sent c.ask.new.way
    b.1.2 c.ask.ensures (λ tell known. come_asks g.J.Job.image g.J.Job.world c.facts.ensures.formed
    c.facts.ensures.sound (contents c.args.run.now.tables) new c.args.token b.0 c.args.run.now.buffer
    c.args.run.now.way c.facts-3.ensures.part c.facts-2.ensures.right c.requires.paid c.ask.new.buffer
    c.ask.new.way full.0 b.1.3.0 full.1 full.2.0 tell
    (subst (λ (q : ℕ × ℕ). Knows c.ask.new.buffer q.0 q.1) (λ j. (wave j, instr j)) known))

pub returns-in-Old-clause-goes : goal.returns-in-Old-clause-goes
returns-in-Old-clause-goes g c =
    let b = c.in-Old.ensures.brought in
    let buffer = c.args.run.now.buffer in
    let way = c.args.run.now.way in
    let new = contents c.bring-took.new.tables in (
      c.requires.going,
      rw b.1.1.0 (come_old g.J.Job.image g.J.Job.world c.facts.ensures.formed c.facts.ensures.sound (contents
          c.args.run.now.tables) new c.args.token b.0 buffer way c.facts-3.ensures.part
          c.facts-2.ensures.right c.requires.paid b.1.0.1 b.1.0.2),
    )
