use Rattle.std.proofs.Common.{ℕ, ◌≡◌, Option, refl, ap, sym, ◌∙◌}
use Rattle.ws_words.specs.Memory.{lengths_of}
use Rattle.ws_words.specs.Outside.{loads}
use Rattle.cfg_core.specs.Walk.{loads_of}
use Rattle.cfg_core.specs.View as graph
use Rattle.seq_run.specs.Firsts.{past_array, first_past}
use Rattle.seq_run.specs.declared.tree.Action.TheVariants as code
use Rattle.seq_run.proofs.Actions.{assign_holds, assign_stops, print_holds, print_stops, take_holds}
use Rattle.seq_run.proofs.Actions.{take_stops, read_holds, give_holds, noted, none_noted, some_done}
use Rattle.seq_run.proofs.Actions.{none_done, some_there, none_there, from_action}
use Rattle.seq_run.proofs.act.act.Goals as goal
use Rattle.ws_words.specs.Items.{first_some}

pub returns-then-is_some : goal.returns-then-is_some
returns-then-is_some c = λ start s h.
    some_done start (code.Assign c.in-Assign.x c.in-Assign.t) c.args.action.now s c.quick-v.new.past
    c.args.memory.now c.args.vars.now c.in-Assign.is
    (λ d e. assign_stops start s c.args.memory.now c.args.vars.now h c.in-Assign.x d
    (graph.term c.in-Assign.t) (sym c.quick-v.ensures.past ∙ e))
    (some_there c.quick-v.new.past c.if-is_some.ensures)

pub returns-else-is_some : goal.returns-else-is_some
returns-else-is_some c = λ start s h.
    let none = none_there c.quick-v.new.past c.if-is_some.ensures in
    none_done start (code.Assign c.in-Assign.x c.in-Assign.t) c.args.action.now s c.quick-v.new.past
    c.args.memory.now c.set.new.self c.in-Assign.is none
    (assign_holds start s c.args.memory.now c.args.vars.now h c.in-Assign.x c.quick-v.result
    (graph.term c.in-Assign.t) c.set.new.self (sym c.quick-v.ensures.past ∙ none) c.quick-v.ensures.value
    c.set.ensures)

pub returns-then-is_some-2 : goal.returns-then-is_some-2
returns-then-is_some-2 c = λ start s h.
    let m = c.args.memory.now in let vars = c.args.vars.now in
    let one = first_past (lengths_of m.cells) (loads_of (graph.term c.in-Store.t) vars m.cells) in
    let two = first_past (lengths_of m.cells) (loads_of (graph.term c.in-Store.u) vars m.cells) in
    let own = past_array (lengths_of m.cells) (loads c.in-Store.a c.value-i.result) in
    let e : c.note.new.past ≡ first_some (first_some one two) own = c.note.ensures
    ∙ ap (λ (x : Option ℕ). first_some x own) (c.value-v.ensures.past
    ∙ ap (λ (x : Option ℕ). first_some x two) c.value-i.ensures.past) in
    some_done start (code.Store c.in-Store.a c.in-Store.t c.in-Store.u) c.args.action.now s c.note.new.past m
    vars c.in-Store.is
    (λ d is. noted start s m vars h c.in-Store.a c.value-i.result c.value-v.result (graph.term c.in-Store.t)
    (graph.term c.in-Store.u) c.value-i.ensures.value c.value-v.ensures.value one two own refl refl refl d
    (sym e ∙ is)) (some_there c.note.new.past c.if-is_some-2.ensures)

pub returns-else-is_some-2 : goal.returns-else-is_some-2
returns-else-is_some-2 c = λ start s h.
    let m = c.args.memory.now in let vars = c.args.vars.now in
    let one = first_past (lengths_of m.cells) (loads_of (graph.term c.in-Store.t) vars m.cells) in
    let two = first_past (lengths_of m.cells) (loads_of (graph.term c.in-Store.u) vars m.cells) in
    let own = past_array (lengths_of m.cells) (loads c.in-Store.a c.value-i.result) in
    let e : c.note.new.past ≡ first_some (first_some one two) own = c.note.ensures
    ∙ ap (λ (x : Option ℕ). first_some x own) (c.value-v.ensures.past
    ∙ ap (λ (x : Option ℕ). first_some x two) c.value-i.ensures.past) in
    let none = none_there c.note.new.past c.if-is_some-2.ensures in
    none_done start (code.Store c.in-Store.a c.in-Store.t c.in-Store.u) c.args.action.now s c.note.new.past
    c.store.new.self vars c.in-Store.is none
    (none_noted start s m vars h c.in-Store.a c.value-i.result c.value-v.result (graph.term c.in-Store.t)
    (graph.term c.in-Store.u) c.value-i.ensures.value c.value-v.ensures.value c.store.new.self one two own
    refl refl refl (sym e ∙ none) c.store.ensures)

pub returns-then-is_some-3 : goal.returns-then-is_some-3
returns-then-is_some-3 c = λ start s h.
    some_done start (code.Print c.in-Print.t) c.args.action.now s c.value-v-in-Print.new.past
    c.args.memory.now c.args.vars.now c.in-Print.is
    (λ d e. print_stops start s c.args.memory.now c.args.vars.now h d (graph.term c.in-Print.t)
    (sym c.value-v-in-Print.ensures.past ∙ e))
    (some_there c.value-v-in-Print.new.past c.if-is_some-3.ensures)

pub returns-in_ok-print-in-Print : goal.returns-in_ok-print-in-Print
returns-in_ok-print-in-Print c = λ start s h.
    let none = none_there c.value-v-in-Print.new.past c.if-is_some-3.ensures in
    none_done start (code.Print c.in-Print.t) c.args.action.now s c.value-v-in-Print.new.past c.print.new.self
    c.args.vars.now c.in-Print.is none
    (print_holds start s c.args.memory.now c.args.vars.now h c.value-v-in-Print.result
    (graph.term c.in-Print.t) c.print.new.self (sym c.value-v-in-Print.ensures.past ∙ none)
    c.value-v-in-Print.ensures.value c.in_ok-print-in-Print.ensures)

pub returns-then-is_some-4 : goal.returns-then-is_some-4
returns-then-is_some-4 c = λ start s h.
    some_done start (code.Take c.in-Take.port c.in-Take.t) c.args.action.now s c.value-v-in-Take.new.past
    c.args.memory.now c.args.vars.now c.in-Take.is
    (λ d e. take_stops start s c.args.memory.now c.args.vars.now h c.in-Take.port d (graph.term c.in-Take.t)
    (sym c.value-v-in-Take.ensures.past ∙ e))
    (some_there c.value-v-in-Take.new.past c.if-is_some-4.ensures)

pub returns-in_ok-take-in-Take : goal.returns-in_ok-take-in-Take
returns-in_ok-take-in-Take c = λ start s h.
    let none = none_there c.value-v-in-Take.new.past c.if-is_some-4.ensures in
    none_done start (code.Take c.in-Take.port c.in-Take.t) c.args.action.now s c.value-v-in-Take.new.past
    c.take.new.self c.args.vars.now c.in-Take.is none
    (take_holds start s c.args.memory.now c.args.vars.now h c.in-Take.port c.value-v-in-Take.result
    (graph.term c.in-Take.t) c.take.new.self (sym c.value-v-in-Take.ensures.past ∙ none)
    c.value-v-in-Take.ensures.value c.in_ok-take-in-Take.ensures)

pub returns-in-Read : goal.returns-in-Read
returns-in-Read c = λ start s h. from_action start (code.Read c.in-Read.x) c.args.action.now s
    c.read-word.new.self c.set-in-Read.new.self c.in-Read.is
    (read_holds start s c.args.memory.now c.args.vars.now h c.in-Read.x c.read-word.result
    c.read-word.new.self c.set-in-Read.new.self c.read-word.ensures.word c.read-word.ensures.acts
    c.set-in-Read.ensures)

pub returns-in-Give : goal.returns-in-Give
returns-in-Give c = λ start s h. from_action start (code.Give c.in-Give.port c.in-Give.x) c.args.action.now s
    c.give-word.new.self c.set-in-Give.new.self c.in-Give.is
    (give_holds start s c.args.memory.now c.args.vars.now h c.in-Give.port c.in-Give.x c.give-word.result
    c.give-word.new.self c.set-in-Give.new.self c.give-word.ensures.word c.give-word.ensures.acts
    c.set-in-Give.ensures)
