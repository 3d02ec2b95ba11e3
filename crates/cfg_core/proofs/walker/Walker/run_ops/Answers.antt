use Rattle.std.proofs.Common.{◌+◌, ◌≡◌, [], ◌∷◌, drop, sym, ◌∙◌, arith}
use Rattle.cfg_core.proofs.Follows.{one_more, stopped_at, no_more, is_done, is_out}
use Rattle.cfg_core.proofs.walker.Walker.run_ops.Goals as goal
use Rattle.ws_words.proofs.Lists.{drop_next, drop_all}

pub loop-op-preserved : goal.loop-op-preserved
loop-op-preserved c = λ s frames k sh.
    let ops = c.args.ops.now in
    let i = c.loop-op.op-index in
    let next : drop i ops ≡ c.op-item.result ∷ drop (i + 1) ops = drop_next ops i (i + 1) c.op-item.result
    (omega arith) (omega arith) c.op-item.is in
    one_more ops i (i + 1) c.op-item.result frames c.loop-op.self c.run_op.new.self _ next
    (c.loop-op.invariant s frames k sh)
    (λ t j st. is_done _ frames c.in_ok-pace.pace c.run_op.new.self (sym c.is_out.ensures ∙ c.if-is_out.false)
    (c.in_ok-pace.ensures t frames j st))

pub returns-then-is_out : goal.returns-then-is_out
returns-then-is_out c = λ s frames k sh.
    let ops = c.args.ops.now in
    let i = c.loop-op.op-index in
    let next : drop i ops ≡ c.op-item.result ∷ drop (i + 1) ops = drop_next ops i (i + 1) c.op-item.result
    (omega arith) (omega arith) c.op-item.is in
    stopped_at ops i (i + 1) c.op-item.result frames c.loop-op.self c.run_op.new.self _ next
    (c.loop-op.invariant s frames k sh)
    (λ t j st. is_out _ frames c.in_ok-pace.pace c.run_op.new.self (sym c.is_out.ensures ∙ c.if-is_out.true)
    (c.in_ok-pace.ensures t frames j st))

pub returns : goal.returns
returns c = λ s frames k sh.
    let ops = c.args.ops.now in
    let none : drop c.loop-op.op-index ops ≡ [] = drop_all ops c.loop-op.op-index (omega arith) in
    no_more ops c.loop-op.op-index frames c.loop-op.self _ none (c.loop-op.invariant s frames k sh)
