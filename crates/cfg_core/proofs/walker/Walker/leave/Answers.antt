use Rattle.std.proofs.Common.{ℕ, List, ◌≡◌, ◌∙◌, ◌==◌, ◌++◌, ◌∷◌, [], map, refl, ap, subst}
use Rattle.cfg_core.specs.Walk as walks
use Rattle.cfg_core.specs.Walk.{value_of}
use Rattle.cfg_core.specs.Shows.{NextIs}
use Rattle.cfg_core.specs.View as view
use Rattle.cfg_core.specs.View.{term as term_of}
use Rattle.cfg_core.specs.declared.blocks.Leave.TheVariants as code
use Rattle.cfg_core.specs.Tables.{graph_in}
use Rattle.cfg_core.specs.declared.blocks.Term.{Term as CodeTerm}
use Rattle.cfg_core.proofs.Follows.{value_is, loaded, zero_test, other_test}
use Rattle.cfg_core.proofs.Leaving.{from_exit, if_true, if_false, called, sent}
use Rattle.cfg_core.proofs.walker.Walker.leave.Goals as goal

pub returns-then-value-eq0 : goal.returns-then-value-eq0
returns-then-value-eq0 c = λ s frames k sh.
    let w = c.args.self.now in
    let t = term_of c.in-Branch.test in
    let test : c.value.result ≡ (value_of t s).0 = c.value.ensures ∙ value_is s frames k w sh t in
    from_exit (view.graph (graph_in c.args.table.now)) (code.Branch c.in-Branch.test c.in-Branch.a
    c.in-Branch.b) c.args.exit.now s frames k _ _ c.in-Branch.is
    (if_true ((value_of t s).0 == 0) _ _ _ _ (zero_test (value_of t s).0 c.value.result test
    c.if-value-eq0.true) (refl, loaded s frames k w sh t))

pub returns-else-value-eq0 : goal.returns-else-value-eq0
returns-else-value-eq0 c = λ s frames k sh.
    let w = c.args.self.now in
    let t = term_of c.in-Branch.test in
    let test : c.value.result ≡ (value_of t s).0 = c.value.ensures ∙ value_is s frames k w sh t in
    from_exit (view.graph (graph_in c.args.table.now)) (code.Branch c.in-Branch.test c.in-Branch.a
    c.in-Branch.b) c.args.exit.now s frames k _ _ c.in-Branch.is
    (if_false ((value_of t s).0 == 0) _ _ _ _ (other_test (value_of t s).0 c.value.result test
    c.if-value-eq0.false) (refl, loaded s frames k w sh t))

pub returns-in-Return : goal.returns-in-Return
returns-in-Return c = λ s frames k sh.
    let w = c.args.self.now in
    let t = term_of c.in-Return.t in
    let v : c.value-word.result ≡ (value_of t s).0 = c.value-word.ensures ∙ value_is s frames k w sh t in
    from_exit (view.graph (graph_in c.args.table.now)) (code.Return c.in-Return.t) c.args.exit.now s frames k
    _ _ c.in-Return.is
    (subst (λ n. NextIs (walks.returned n (value_of t s).1.out frames k) c.give_back.result
    c.give_back.new.self) v (c.give_back.ensures (value_of t s).1 frames k (loaded s frames k w sh t)))

pub returns-in_ok-push-in-Call : goal.returns-in_ok-push-in-Call
returns-in_ok-push-in-Call c = λ s frames k sh.
    let w = c.args.self.now in
    let g = view.graph (graph_in c.args.table.now) in
    let words : c.in_ok-words-in-Call.words ≡ walks.values (map term_of c.in-Call.terms.items) w.vars
    w.memory.cells = c.in_ok-words-in-Call.ensures
    ∙ ap (λ (ts : List CodeTerm). walks.values (map term_of ts) w.vars w.memory.cells)
    c.deref.ensures.value in
    from_exit g (code.Call c.in-Call.result c.in-Call.callee c.in-Call.terms c.in-Call.back) c.args.exit.now s
    frames k _ _ c.in-Call.is
    (called g s frames k w sh c.in-Call.result c.in-Call.callee (map term_of c.in-Call.terms.items)
    c.in-Call.back c.room-room.result c.in_ok-words-in-Call.words c.replace-vars.new.dest c.push.new.self
    c.room-room.ensures.entry c.room-room.ensures.params c.room-room.ensures.vars words
    (c.replace-vars.ensures.after ∙ c.in_ok-fresh-in-Call.ensures)
    (c.in_ok-push-in-Call.ensures.items
    ∙ ap (λ vs. w.frames.items ++ record { result = c.in-Call.result; back = c.in-Call.back; vars = vs }
    ∷ []) c.replace-vars.ensures.value))

pub returns-in_ok-self-in-Send : goal.returns-in_ok-self-in-Send
returns-in_ok-self-in-Send c = λ s frames k sh.
    let w = c.args.self.now in
    let g = view.graph (graph_in c.args.table.now) in
    let words : c.in_ok-words-in-Send.words ≡ walks.values (map term_of c.in-Send.terms.items) w.vars
    w.memory.cells = c.in_ok-words-in-Send.ensures
    ∙ ap (λ (ts : List CodeTerm). walks.values (map term_of ts) w.vars w.memory.cells)
    c.deref-in-Send.ensures.value in
    from_exit g (code.Send c.in-Send.address c.in-Send.terms c.in-Send.landings) c.args.exit.now s frames k _
    _ c.in-Send.is
    (sent g s frames k w sh (term_of c.in-Send.address) (map term_of c.in-Send.terms.items)
    c.in-Send.landings.items c.value-place.result c.choose-b.result c.in_ok-words-in-Send.words
    c.in_ok-self-in-Send.field-0
    c.value-place.ensures words
    (c.choose-b.ensures ∙ ap (λ (ls : List ℕ). walks.landing c.value-place.result ls)
    c.deref-in-Send-2.ensures.value) c.in_ok-self-in-Send.ensures)
