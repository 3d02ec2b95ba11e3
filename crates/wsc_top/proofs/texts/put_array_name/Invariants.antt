use Rattle.std.proofs.Common.{◌≡◌, drop}
use Rattle.src_ast.specs.View as view
use Rattle.wsc_top.specs.Texts.{names_of, name_at, array_name}
use Rattle.wsc_top.proofs.texts.put_array_name.Given as goal

abbrev pub invariant-loop-item : goal.invariant-loop-item
invariant-loop-item l = record {
  text : l.text ≡ l.initial.text;
  name : name_at (names_of (view.parts (drop l.item-index l.items))) l.before ≡ array_name
      (names_of (view.parts l.items)) l.array;
}
