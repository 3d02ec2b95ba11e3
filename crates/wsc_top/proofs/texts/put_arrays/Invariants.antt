use Rattle.std.proofs.Common.{◌≡◌, ◌≤◌, ◌++◌, drop}
use Rattle.src_ast.specs.View as view
use Rattle.wsc_top.specs.Texts.{names_of}
use Rattle.run_text.specs.Texts.{array_lines}
use Rattle.wsc_top.proofs.texts.put_arrays.Given as goal

abbrev pub invariant-loop-item : goal.invariant-loop-item
invariant-loop-item l = record {
  place : l.count ≤ l.item-index;
  text : l.text ++ array_lines (names_of (view.parts (drop l.item-index l.items))) (drop l.count l.arrays)
      ≡ l.initial.text ++ array_lines (names_of (view.parts l.items)) l.arrays;
}
