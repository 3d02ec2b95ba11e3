use Rattle.std.proofs.Common.{arith}
use Rattle.df_core.proofs.Walked.Held.{taken_is, taken_by_none}
use Rattle.df_core.proofs.memory.Memory.take.Goals as goal

pub returns-then-port-gt0-clause-taken : goal.returns-then-port-gt0-clause-taken
returns-then-port-gt0-clause-taken c = λ o h. taken_is o c.args.self.now h c.args.port c.args.word
    c.add_word.new.rows (omega arith) c.add_word.ensures.rows

pub returns-then-port-gt0-clause-space : goal.returns-then-port-gt0-clause-space
returns-then-port-gt0-clause-space c = λ n s. record {
  printed = omega (arith, s.printed);
  took = c.add_word.ensures.space n s.took;
}

pub returns-else-port-gt0-clause-taken : goal.returns-else-port-gt0-clause-taken
returns-else-port-gt0-clause-taken c = λ o h. taken_by_none o c.args.self.now h c.args.port c.args.word
    (omega arith)
