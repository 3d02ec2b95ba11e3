use Rattle.std.proofs.Common.{Bool, ◌≡◌, ◌+◌, ◌-◌, ◌∙◌, suc, sym, length, subst, arith}
use Rattle.ws_isa.specs.Shows.{image_of, block_in, Ran}
use Rattle.ws_isa.proofs.Ending.{short_final, over_final}
use Rattle.ws_isa.proofs.Measure.{lighter}
use Rattle.ws_isa.proofs.Programs.{dead_at, some_block}
use Rattle.ws_isa.proofs.walk.walk.Goals as goal

pub returns-then-is_dead-clause-walk : goal.returns-then-is_dead-clause-walk
returns-then-is_dead-clause-walk c = λ world at.
    let p = c.args.program.now in
    dead_at p c.requires.walks 0 (some_block p c.requires.walks)
    c.is_dead.result c.is_dead.ensures c.if-is_dead.true world c.args.firings 0 c.args.walker.now at

pub returns-then-not-branch-clause-walk : goal.returns-then-not-branch-clause-walk
returns-then-not-branch-clause-walk c = λ world at.
    let image = image_of c.args.program.now in
    let u = c.loop-walker.invariant.walk world at in
    short_final image world c.requires.walks (suc c.loop-walker.place) c.args.firings c.run_block.new.self
    (subst (λ (b : Bool). Ran image world (suc c.loop-walker.place) c.args.firings b c.run_block.new.self)
    c.if-not-branch.true (c.in_ok-run_block.ensures.walk world u.0 u.1))

pub returns-then-is_dead-2-clause-walk : goal.returns-then-is_dead-2-clause-walk
returns-then-is_dead-2-clause-walk c = λ world at.
    let p = c.args.program.now in
    let u = c.loop-walker.invariant.walk world at in
    let r = subst (λ (b : Bool). Ran (image_of p) world (suc c.loop-walker.place) c.args.firings b
    c.run_block.new.self) c.if-not-branch.false (c.in_ok-run_block.ensures.walk world u.0 u.1) in
    let s = c.in-Some.ensures.walk world r.0 r.1 in
    dead_at p c.requires.walks c.in-Some.next c.in-Some.ensures.inside
    c.is_dead-in-Some.result c.is_dead-in-Some.ensures c.if-is_dead-2.true world c.args.firings s.0
    c.leave.new.self s.1

pub loop-walker-smaller : goal.loop-walker-smaller
loop-walker-smaller c =
    let p = c.args.program.now in
    let n = length (block_in p c.loop-walker.place).instrs in
    let count : c.run_block.new.self.fired ≡ c.loop-walker.walker.fired + n =
    c.in_ok-run_block.ensures.count c.if-not-branch.false in
    let left : c.leave.new.self.fired ≡ c.run_block.new.self.fired = c.in-Some.ensures.fired in
    let e : (c.args.firings - c.leave.new.self.fired) + n ≡ c.args.firings - c.loop-walker.walker.fired =
    omega (arith, count, left, c.in_ok-run_block.ensures.within) in
    lighter p c.loop-walker.place c.in-Some.next (c.args.firings - c.loop-walker.walker.fired)
    (c.args.firings - c.leave.new.self.fired) c.in-Some.ensures.inside
    (sym c.is_dead-in-Some.ensures ∙ c.if-is_dead-2.false) c.in-Some.ensures.ahead e

pub returns-in-None-clause-walk : goal.returns-in-None-clause-walk
returns-in-None-clause-walk c = λ world at.
    let image = image_of c.args.program.now in
    let u = c.loop-walker.invariant.walk world at in
    let r = subst (λ (b : Bool). Ran image world (suc c.loop-walker.place) c.args.firings b
    c.run_block.new.self) c.if-not-branch.false (c.in_ok-run_block.ensures.walk world u.0 u.1) in
    let s = c.in-None.ensures.walk world r.0 r.1 in
    over_final image world c.args.firings s.0 c.leave.new.self s.1 s.2
