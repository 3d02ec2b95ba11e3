-- The arrays of an accepted program keep the limits of the language.
use Rattle.std.proofs.Common.{ℕ, ◌+◌, ◌<◌, ◌≤◌, List, [], ◌∷◌, ◌++◌, length, Some, arith}
use Rattle.std.specs.List.{AllByRecursion, sum_by}
use Rattle.std.proofs.lemmas.List.Sums.{sum_by-cons}
use Rattle.std.proofs.lemmas.List.Folds.{list_all-append}
use Rattle.std.proofs.lemmas.Bool.{ltb-true, leb-true}
use Rattle.src_ast.specs.declared.lexeme.Place.{Place}
use Rattle.src_ast.specs.declared.lexeme.Name.{Name}
use Rattle.src_ast.specs.Syntax.{Part, Array, Proc}
use Rattle.src_ast.specs.Rules.{Rule, arrays_in, cells_in, part_rules, rules_after, IsAccepted}
use Rattle.cfg_core.specs.Graph.{GraphArray}
use Rattle.cfg_build.specs.Keeps.{arrays_of}
use Rattle.src_ast.specs.LanguageLimits.{most_arrays, most_array_cells, most_cells}
use Rattle.ws_words.proofs.Bools.{and_parts}
use Rattle.src_check.proofs.Parts.{arrays_in-append as arrays_both, cells_in-append as cells_both}
use Rattle.seq_run.proofs.InBodies.{Kept}

pub kept_both : (xs ys : List Rule) → Kept (xs ++ ys) → Kept xs × Kept ys
kept_both xs ys h = grind (arith, and_parts, list_all-append)

-- an array after these parts
record ArrayKept (before : List Part) (n : ℕ) : Type 0 where
  room : arrays_in before < most_arrays
  short : n ≤ most_array_cells
  cells : cells_in before + n ≤ most_cells

array_kept : (before : List Part) (x : Name) (n : ℕ) (at : Place) → Kept (part_rules before (Array x n at))
    → ArrayKept before n
array_kept before x n at h = grind (arith, and_parts, ltb-true, leb-true)

-- the arrays of these parts after so many others with so many cells
pub record FewArrays (others cells_before : ℕ) (parts : List Part) : Type 0 where
  pub count : others + length (arrays_of parts) ≤ most_arrays
  pub lengths : AllByRecursion (λ (a : GraphArray). a.length ≤ most_array_cells) (arrays_of parts)
  pub cells : cells_before + sum_by (λ (a : GraphArray). a.length) (arrays_of parts) ≤ most_cells

few_from : (before parts : List Part) → arrays_in before ≤ most_arrays → cells_in before ≤ most_cells
    → Kept (rules_after before parts) → FewArrays (arrays_in before) (cells_in before) parts
few_from before [] le ce h = record { count = omega (arith, le); lengths = tt; cells = omega (arith, ce) }
few_from before (Array x n at ∷ parts) le ce h =
    let next = before ++ Array x n at ∷ [] in
    let both = kept_both (part_rules before (Array x n at)) (rules_after next parts) h in
    let here = array_kept before x n at both.0 in
    let e = arrays_both before (Array x n at ∷ []) in let d = cells_both before (Array x n at ∷ []) in
    let more = few_from next parts (omega (arith, here.room, e)) (omega (arith, here.cells, d)) both.1 in
    let a : GraphArray = record { name = Some x.text; length = n } in record {
      count = omega (arith, more.count, e);
      lengths = (here.short, more.lengths);
      cells = omega (arith, more.cells, d, sum_by-cons (λ (a : GraphArray). a.length) a (arrays_of parts));
    }
few_from before (Proc p ∷ parts) le ce h =
    let next = before ++ Proc p ∷ [] in
    let both = kept_both (part_rules before (Proc p)) (rules_after next parts) h in
    let e = arrays_both before (Proc p ∷ []) in let d = cells_both before (Proc p ∷ []) in
    let more = few_from next parts (omega (arith, le, e)) (omega (arith, ce, d)) both.1 in
    record {
      count = omega (arith, more.count, e);
      lengths = more.lengths;
      cells = omega (arith, more.cells, d);
    }

pub few_arrays : (parts : List Part) (finish : Place) → IsAccepted parts finish → FewArrays 0 0 parts
few_arrays parts finish h = grind (arith, few_from, kept_both)
