use Rattle.std.proofs.Common.{◌+◌, ◌++◌, List, ℕ, drop, ap, ◌∙◌, arith}
use Rattle.src_ast.specs.View as view
use Rattle.wsc_top.specs.Texts.{names_of}
use Rattle.run_text.specs.Texts.{array_lines}
use Rattle.wsc_top.proofs.Reading.PlainTexts.{after_array, after_procedure}
use Rattle.wsc_top.proofs.texts.put_arrays.Goals as goal
use Rattle.wsc_top.proofs.texts.put_arrays.Goals.{in-Array+in_ok-put_array_at, in_default}

pub loop-item-preserved : goal.loop-item-preserved
loop-item-preserved c =
    let items = c.args.items.now in
    let rows = c.args.arrays.now in
    let i = c.loop-item.item-index in
    let k = c.loop-item.count in
    let whole = c.args.text.now ++ array_lines (names_of (view.parts items)) rows in
    let rest = names_of (view.parts (drop (i + 1) items)) in
    elim c.match-item.branch [
      | in-Array+in_ok-put_array_at w ↦ record {
        place = omega (arith, w.count-is, c.loop-item.invariant.place);
        text = ap (λ (n : ℕ). c.match-item.text ++ array_lines rest (drop n rows)) w.count-is ∙ after_array
            items rows i k c.item-item.result c.loop-item.text whole c.loop-item-test.true c.item-item.is
            c.loop-item.invariant.text w.in-Array.name w.in-Array.length w.in-Array.length_place
            c.match-item.text w.in-Array.is (w.text-is ∙ w.in_ok-put_array_at.ensures);
      }
      | in_default w ↦ record {
        place = omega (arith, w.count-is, c.loop-item.invariant.place);
        text = ap (λ (t : List ℕ). t ++ array_lines rest (drop c.match-item.count rows)) w.text-is ∙ ap (λ (n
            : ℕ). c.loop-item.text ++ array_lines rest (drop n rows)) w.count-is ∙ after_procedure items rows
            i k c.item-item.result c.loop-item.text whole c.loop-item-test.true c.item-item.is
            c.loop-item.invariant.text w.in_default.not-Array;
      }
    ]
