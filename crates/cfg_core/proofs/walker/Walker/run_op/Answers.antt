use Rattle.std.proofs.Common.{◌≡◌, ◌∙◌, ◌==◌, slice_set, ap, subst}
use Rattle.ws_words.specs.Outside.{stored, printed, taken, has_read, given}
use Rattle.ws_words.specs.Memory.{OutIs}
use Rattle.cfg_core.specs.Walk.{value_of}
use Rattle.cfg_core.specs.View.{term as term_of}
use Rattle.cfg_core.specs.declared.blocks.GraphOp.TheVariants as code
use Rattle.cfg_core.specs.declared.walker.Pace.TheVariants as pace
use Rattle.cfg_core.proofs.Follows.{value_is, loaded, written_is, acted_is, got_is, chosen_is, from_op}
use Rattle.cfg_core.proofs.Follows.{if_true, if_false, zero_test, other_test}
use Rattle.cfg_core.proofs.walker.Walker.run_op.Goals as goal

pub returns-in-Assign : goal.returns-in-Assign
returns-in-Assign c = λ s frames k sh.
    let w = c.args.self.now in
    let t = term_of c.in-Assign.t in
    let v : c.value-word.result ≡ (value_of t s).0 = c.value-word.ensures ∙ value_is s frames k w sh t in
    from_op (code.Assign c.in-Assign.x c.in-Assign.t) c.args.op.now s frames k pace.Done _ c.in-Assign.is
    (written_is (value_of t s).1 frames k w (loaded s frames k w sh t) c.in-Assign.x (value_of t s).0
    c.set.new.self (c.set.ensures ∙ ap (λ n. slice_set w.vars c.in-Assign.x n) v))

pub returns-in-Store : goal.returns-in-Store
returns-in-Store c = λ s frames k sh.
    let w = c.args.self.now in
    let t = term_of c.in-Store.t in let u = term_of c.in-Store.u in
    let s1 = (value_of t s).1 in let s2 = (value_of u s1).1 in
    let sh2 = loaded s1 frames k w (loaded s frames k w sh t) u in
    let i : c.value-index.result ≡ (value_of t s).0 = c.value-index.ensures ∙ value_is s frames k w sh t in
    let v : c.value-word-in-Store.result ≡ (value_of u s).0 = c.value-word-in-Store.ensures
    ∙ value_is s frames k w sh u in
    from_op (code.Store c.in-Store.a c.in-Store.t c.in-Store.u) c.args.op.now s frames k pace.Done _
    c.in-Store.is
    (acted_is s2 frames k w sh2 _ c.store.new.self
    (subst (λ n. OutIs (stored s2 c.in-Store.a n (value_of u s).0).out c.store.new.self) i
    (subst (λ n. OutIs (stored s2 c.in-Store.a c.value-index.result n).out c.store.new.self) v
    (c.store.ensures s2.out sh2.outside))))

pub returns-in_ok-print-in-Print : goal.returns-in_ok-print-in-Print
returns-in_ok-print-in-Print c = λ s frames k sh.
    let w = c.args.self.now in
    let t = term_of c.in-Print.t in
    let s1 = (value_of t s).1 in let sh1 = loaded s frames k w sh t in
    let v : c.value-word-in-Print.result ≡ (value_of t s).0 = c.value-word-in-Print.ensures
    ∙ value_is s frames k w sh t in
    from_op (code.Print c.in-Print.t) c.args.op.now s frames k pace.Done _ c.in-Print.is
    (acted_is s1 frames k w sh1 _ c.print.new.self
    (subst (λ n. OutIs (printed s1 n).out c.print.new.self) v
    (c.in_ok-print-in-Print.ensures s1.out sh1.outside)))

pub returns-in-Read : goal.returns-in-Read
returns-in-Read c = λ s frames k sh.
    from_op (code.Read c.in-Read.x) c.args.op.now s frames k pace.Done _ c.in-Read.is
    (got_is s frames k c.args.self.now sh (has_read s c.in-Read.x).out c.read-word.new.self c.in-Read.x _
    c.read-word.result c.set-in-Read.new.self
    (c.read-word.ensures.acts s.out sh.outside) (c.read-word.ensures.word s.out sh.outside)
    c.set-in-Read.ensures)

pub returns-in-Give : goal.returns-in-Give
returns-in-Give c = λ s frames k sh.
    from_op (code.Give c.in-Give.port c.in-Give.x) c.args.op.now s frames k pace.Done _ c.in-Give.is
    (got_is s frames k c.args.self.now sh (given s c.in-Give.port c.in-Give.x).out c.give-word.new.self
    c.in-Give.x _ c.give-word.result c.set-in-Give.new.self
    (c.give-word.ensures.acts s.out sh.outside) (c.give-word.ensures.word s.out sh.outside)
    c.set-in-Give.ensures)

pub returns-in_ok-take-in-Take : goal.returns-in_ok-take-in-Take
returns-in_ok-take-in-Take c = λ s frames k sh.
    let w = c.args.self.now in
    let t = term_of c.in-Take.t in
    let s1 = (value_of t s).1 in let sh1 = loaded s frames k w sh t in
    let v : c.value-word-in-Take.result ≡ (value_of t s).0 = c.value-word-in-Take.ensures
    ∙ value_is s frames k w sh t in
    from_op (code.Take c.in-Take.port c.in-Take.t) c.args.op.now s frames k pace.Done _ c.in-Take.is
    (acted_is s1 frames k w sh1 _ c.take.new.self
    (subst (λ n. OutIs (taken s1 c.in-Take.port n).out c.take.new.self) v
    (c.in_ok-take-in-Take.ensures s1.out sh1.outside)))

pub returns-in-Choose : goal.returns-in-Choose
returns-in-Choose c = λ s frames k sh.
    from_op (code.Choose c.in-Choose.x c.in-Choose.test c.in-Choose.a c.in-Choose.b) c.args.op.now s frames k
    pace.Done _ c.in-Choose.is
    (chosen_is s frames k c.args.self.now sh c.in-Choose.x c.chosen-word.result (term_of c.in-Choose.test)
    (term_of c.in-Choose.a) (term_of c.in-Choose.b) c.set-in-Choose.new.self c.chosen-word.ensures
    c.set-in-Choose.ensures)

pub returns-then-value-eq0 : goal.returns-then-value-eq0
returns-then-value-eq0 c = λ s frames k sh.
    let w = c.args.self.now in
    let t = term_of c.in-TickBy.test in
    let test : c.value.result ≡ (value_of t s).0 = c.value.ensures ∙ value_is s frames k w sh t in
    from_op (code.TickBy c.in-TickBy.test c.in-TickBy.n c.in-TickBy.m) c.args.op.now s frames k _ _
    c.in-TickBy.is
    (if_true ((value_of t s).0 == 0) _ _ frames _ _ (zero_test (value_of t s).0 c.value.result test
    c.if-value-eq0.true)
    (c.spend-then-value-eq0.ensures (value_of t s).1 frames k (loaded s frames k w sh t)))

pub returns-else-value-eq0 : goal.returns-else-value-eq0
returns-else-value-eq0 c = λ s frames k sh.
    let w = c.args.self.now in
    let t = term_of c.in-TickBy.test in
    let test : c.value.result ≡ (value_of t s).0 = c.value.ensures ∙ value_is s frames k w sh t in
    from_op (code.TickBy c.in-TickBy.test c.in-TickBy.n c.in-TickBy.m) c.args.op.now s frames k _ _
    c.in-TickBy.is
    (if_false ((value_of t s).0 == 0) _ _ frames _ _ (other_test (value_of t s).0 c.value.result test
    c.if-value-eq0.false)
    (c.spend-else-value-eq0.ensures (value_of t s).1 frames k (loaded s frames k w sh t)))
