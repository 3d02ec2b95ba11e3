use Rattle.std.proofs.Common.{arith, Some}
use Rattle.std.proofs.lemmas.List.Elements.{All-pop}
use Rattle.match_table.specs.Together.{part_of}
use Rattle.fire_crew.specs.Owing.{IsMissing}
use Rattle.fire_crew.proofs.judge.settle.Goals as goal

pub see_whole-requires-clause-paid : goal.see_whole-requires-clause-paid
see_whole-requires-clause-paid g c = grind arith

pub some_run-requires-clause-missing : goal.some_run-requires-clause-missing
some_run-requires-clause-missing g c =
    (All-pop (IsMissing (part_of c.args.tables.now).held) c.args.owed c.pop.new.self (Some c.in-Some.token)
    c.in-Some.ensures c.requires.missing).1
