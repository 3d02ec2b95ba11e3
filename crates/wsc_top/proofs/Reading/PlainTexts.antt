-- A line for each array, item by item.
use Rattle.std.specs.Prelude.{◌≡◌, ℕ, zero, suc, ◌+◌, ◌<◌, ◌≤◌, List, [], ◌∷◌, ◌++◌, length, slice_get}
use Rattle.std.specs.Prelude.{slice_index_or, refl}
use Rattle.std.proofs.Common.{sym, ap, ◌∙◌, drop, arith, append_assoc}
use Rattle.std.proofs.Math.Seq.{drop-cons}
use Rattle.std.proofs.lemmas.List.{drop_all}
use Rattle.src_ast.specs.declared.lexeme.Name.{Name}
use Rattle.src_ast.specs.declared.lexeme.Place.{Place}
use Rattle.src_ast.specs.declared.tree.Item.{Item}
use Rattle.src_ast.specs.declared.tree.Item.TheVariants.{Array, Proc}
use Rattle.src_ast.specs.View as view
use Rattle.wsc_top.specs.Texts.{names_of, name_at}
use Rattle.run_text.specs.Texts.{maybe_line, array_lines}

-- the line of the next array, and the lines of the others
lines_more : (n : List ℕ) (ns : List (List ℕ)) (rows : List (List ℕ)) (k : ℕ)
    → array_lines (n ∷ ns) (drop k rows) ≡ maybe_line n (slice_get rows k) ++ array_lines ns
    (drop (suc k) rows)
lines_more n [] [] zero = refl
lines_more n (m ∷ ns) [] zero = refl
lines_more n [] [] (suc k) = refl
lines_more n (m ∷ ns) [] (suc k) = refl
lines_more n ns (row ∷ rows) zero = refl
lines_more n ns (row ∷ rows) (suc k) = lines_more n ns rows k

items_more : (items : List Item) (i : ℕ) (x : Item) → i < length items → x ≡ slice_index_or items i x
    → drop i items ≡ x ∷ drop (i + 1) items
items_more items i x lt is = grind (arith, drop-cons)

module _ (items : List Item) (rows : List (List ℕ)) (i k : ℕ) (x : Item) (text whole : List ℕ)
    (lt : i < length items) (is : x ≡ slice_index_or items i x)
    (so : text ++ array_lines (names_of (view.parts (drop i items))) (drop k rows) ≡ whole) where
  next : text ++ array_lines (names_of (view.parts (x ∷ drop (i + 1) items))) (drop k rows) ≡ whole
  next = grind (arith, items_more)

  -- after the line of an array
  pub after_array : (name : Name) (n : ℕ) (at : Place) (now : List ℕ) → x ≡ Array name n at
      → now ≡ text ++ maybe_line name.text (slice_get rows k)
      → now ++ array_lines (names_of (view.parts (drop (i + 1) items))) (drop (k + 1) rows) ≡ whole
  after_array name n at now e h = grind (arith, append_assoc, lines_more, next)

-- after a procedure
pub after_procedure : (items : List Item) (rows : List (List ℕ)) (i k : ℕ) (x : Item) (text whole : List ℕ)
    → i < length items → x ≡ slice_index_or items i x
    → text ++ array_lines (names_of (view.parts (drop i items))) (drop k rows) ≡ whole
    → ((name : Name) (n : ℕ) (at : Place) → x ≡ Array name n at → ⊥)
    → text ++ array_lines (names_of (view.parts (drop (i + 1) items))) (drop k rows) ≡ whole
after_procedure items rows i k (Array name n at) text whole lt is so none = absurd (none name n at refl)
after_procedure items rows i k (Proc name params vars body ending) text whole lt is so none =
    next items rows i k (Proc name params vars body ending) text whole lt is so

-- the name of the array at a place is that of the array that is sought
module _ (items : List Item) (i k : ℕ) (x : Item) (whole : List ℕ) (lt : i < length items)
    (is : x ≡ slice_index_or items i x)
    (so : name_at (names_of (view.parts (drop i items))) k ≡ whole) where
  name_next : name_at (names_of (view.parts (x ∷ drop (i + 1) items))) k ≡ whole
  name_next = ap (λ rest. name_at (names_of (view.parts rest)) k) (sym (items_more items i x lt is)) ∙ so

  -- at the array that is sought
  pub name_here : (name : Name) (n : ℕ) (at : Place) → x ≡ Array name n at → k ≡ 0 → name.text ≡ whole
  name_here name n at e z = grind (arith, name_next)

-- after the last item there is no name
pub name_none : (items : List Item) (i k : ℕ) (whole : List ℕ) → length items ≤ i
    → name_at (names_of (view.parts (drop i items))) k ≡ whole → [] ≡ whole
name_none items i k whole h so = grind (arith, drop_all)
