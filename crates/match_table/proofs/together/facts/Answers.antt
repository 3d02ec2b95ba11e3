use Rattle.std.proofs.Common.{arith}
use Rattle.std.proofs.lemmas.Bool.{cases_lt}
use Rattle.match_table.specs.Rows.{contents}
use Rattle.match_table.proofs.Union.{PartsOk, parts_from, union_ok, union_once, union_held}
use Rattle.match_table.proofs.together.facts.Goals as goal

pub loop-number-preserved : goal.loop-number-preserved
loop-number-preserved g c k lt = grind (arith, cases_lt k c.loop-number.number)

parts : (g : _) (c : goal.After-loop-number g)
    → PartsOk g.J.Job.image g.J.Job.world 0 (contents c.args.tables.now)
parts g c = grind (arith, parts_from)

pub returns-clause-part : goal.returns-clause-part
returns-clause-part g c = union_ok g.J.Job.image g.J.Job.world (contents c.args.tables.now) (parts g c)

pub returns-clause-once : goal.returns-clause-once
returns-clause-once g c = union_once g.J.Job.image g.J.Job.world (contents c.args.tables.now) (parts g c)

pub returns-clause-operands : goal.returns-clause-operands
returns-clause-operands g c k = union_held _ g.J.Job.world _ (parts g c) _
