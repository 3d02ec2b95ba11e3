use Rattle.std.proofs.Common.{◌≡◌, ◌+◌, ◌%◌, length, arith}
use Rattle.match_table.proofs.Phased.{fresh_empty, fresh_fit, fresh_more}
use Rattle.match_table.proofs.tables.Tables.new.Goals as goal

pub loop-alloc-preserved : goal.loop-alloc-preserved
loop-alloc-preserved g c = grind (arith, fresh_more)

pub returns-clause-all : goal.returns-clause-all
returns-clause-all g c = grind arith

pub returns-clause-fits : goal.returns-clause-fits
returns-clause-fits g c = fresh_fit 0 c.loop-alloc.all.items c.loop-alloc.invariant.0

pub returns-clause-empty : goal.returns-clause-empty
returns-clause-empty g c = λ w i p. (let e : length c.loop-alloc.all.items ≡ 16 = grind arith in
    fresh_empty c.loop-alloc.all.items c.loop-alloc.invariant.0 ((w + i) % 16) w i p (omega (arith, e)))
