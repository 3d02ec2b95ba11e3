use Rattle.std.proofs.Common.{◌+◌, ◌≤◌, take, rules, arith}
use Rattle.std.proofs.lemmas.Grind.{common_steps}
use Rattle.ws_words.specs.Digits.{value_of}
use Rattle.ws_io.proofs.Digits.{value_of_more, value_of_front}
use Rattle.ws_io.proofs.number.decimal.Goals as goal

pub loop-byte-preserved : goal.loop-byte-preserved
loop-byte-preserved c = record {
  digits = grind (arith, common_steps);
  value = rw (value_of_more c.args.text.now c.loop-byte.byte-index c.loop-byte-test.true) (search rules);
}

pub returns-in_err-value-clause-none : goal.returns-in_err-value-clause-none
returns-in_err-value-clause-none c =
    let front : value_of (take (c.loop-byte.byte-index + 1) c.args.text.now) ≤ value_of c.args.text.now =
    value_of_front c.args.text.now (c.loop-byte.byte-index + 1) in
    let more = value_of_more c.args.text.now c.loop-byte.byte-index c.loop-byte-test.true in
    rw c.from_residual.ensures (λ _. omega (arith, front, more, c.in_err-value.ensures))
