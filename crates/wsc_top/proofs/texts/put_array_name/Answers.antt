use Rattle.std.proofs.Common.{◌≡◌, ◌++◌, List, ℕ, OnOk, ap, ◌∙◌, subst, sym, append-nil}
use Rattle.src_ast.specs.View as view
use Rattle.wsc_top.specs.Texts.{names_of, array_name}
use Rattle.wsc_top.proofs.Reading.PlainTexts.{name_here, name_none}
use Rattle.wsc_top.proofs.texts.put_array_name.Goals as goal

pub returns-then-before-eq0 : goal.returns-then-before-eq0
returns-then-before-eq0 c =
    let name = name_here c.args.items.now c.loop-item.item-index c.loop-item.before c.item-item.result _
    c.loop-item-test.true c.item-item.is c.loop-item.invariant.name
    c.in-Array.name c.in-Array.length c.in-Array.length_place c.in-Array.is c.if-before-eq0.true in
    let put = subst (λ (bytes : List ℕ). OnOk c.extend.result (c.extend.new.self ≡ c.loop-item.text ++ bytes))
    (c.as_slice.ensures ∙ name) c.extend.ensures.ok in
    subst (λ (text : List ℕ). OnOk c.extend.result
    (c.extend.new.self ≡ text ++ array_name (names_of (view.parts c.args.items.now)) c.args.array))
    c.loop-item.invariant.text put

pub returns : goal.returns
returns c =
    let none = name_none c.args.items.now c.loop-item.item-index c.loop-item.before _ c.loop-item-test.false
    c.loop-item.invariant.name in
    c.loop-item.invariant.text ∙ sym (append-nil c.args.text.now)
    ∙ ap (λ (bytes : List ℕ). c.args.text.now ++ bytes) none
