use Rattle.std.proofs.Common.{arith, ◌≡◌, List, Some, sym, ◌∙◌, subst}
use Rattle.ws_isa.specs.Image.{Token, ports}
use Rattle.df_core.specs.Rights.{operands_of}
use Rattle.match_table.specs.Together.{part_of}
use Rattle.store_buf.specs.Runs.{AllReach}
use Rattle.fire_crew.proofs.Rights.{answer_is, code_op, code_sent}
use Rattle.fire_crew.proofs.owed.look_up.Goals as goal

pub keep_sent-requires-clause-right : goal.keep_sent-requires-clause-right
keep_sent-requires-clause-right g c =
    λ w i p v s. c.requires.right c.in-Some.word w i p v c.in-Some.is
    (grind (arith, code_sent, code_op, answer_is))

pub returns-clause-reach : goal.returns-clause-reach
returns-clause-reach g c = λ way k. (let r = c.in_ok-keep_sent.ensures.reach way k in (
  r.0,
  λ a is. (let xs = operands_of (ports g.J.Job.image c.args.kept.instr) c.args.kept.first
      c.args.kept.second in
      let word : c.in-Some.word ≡ a = (let q : Some c.in-Some.word ≡ Some a = sym c.in-Some.is ∙ is in cc) in
      subst (λ (ts : List Token). AllReach (part_of c.args.tables.now).held way ts)
      (grind (arith, code_sent, code_op, answer_is)) r.1),
))
