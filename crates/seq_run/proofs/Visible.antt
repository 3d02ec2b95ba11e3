-- Names that are visible have places among the names declared.
use Rattle.std.proofs.Common.{◌≡◌, ℕ, suc, ◌<◌, ◌==◌, ◌⊎◌, inl, inr, Bool, true, false, ◌&&◌, ◌||◌, nat_eq}
use Rattle.std.proofs.Common.{if◌then◌else◌, List, [], ◌∷◌, ◌++◌, length, refl, ap, ◌∙◌, subst, arith}
use Rattle.std.proofs.lemmas.List.Folds.{list_any-append}
use Rattle.std.proofs.lemmas.Bool.{eqb-true}
use Rattle.std.specs.Cmp.Lexicographic.{bytes_decides}
use lib.Pointwise.{pointwise}
use Rattle.src_ast.specs.declared.lexeme.Name.{Name}
use Rattle.src_ast.specs.Syntax.{Part, Array, Proc, Procedure}
use Rattle.src_ast.specs.Rules.{Sort, variable, array, procedure, Declared, declared_by, variables}
use Rattle.src_ast.specs.Rules.{is_visible, has_sort, same_sort}
use Rattle.src_ast.specs.Meaning.{place_of, arrays_of, procs_of, names_of, nth_procedure}
use Rattle.seq_run.proofs.Declares.{arrays_append, procs_append, names_append}
use Rattle.ws_words.proofs.Bools.{and_parts as both_hold, either_right as not_second, or_comes as or_cases}
use Rattle.ws_words.proofs.Bools.{no_both}
use Rattle.src_check.proofs.Parts.{declared_by-append as declared_append}

-- among names in a row, a name is the first or the others
pub in_front_or_after : (xs ys : List Declared) (text : List ℕ) (s : Sort) → has_sort (xs ++ ys) text s ≡ true
    → (has_sort xs text s ≡ true) ⊎ (has_sort ys text s ≡ true)
in_front_or_after xs ys text s h = grind (arith, or_cases, list_any-append, pointwise, nat_eq)

-- a variable that is visible has a place
pub variable_place : (ns : List Name) (text : List ℕ) → has_sort (variables ns) text variable ≡ true
    → place_of ns text < length ns
variable_place [] text h = absurd (cc)
variable_place (n ∷ ns) text h = by_flag (pointwise nat_eq n.text text) h (variable_place ns text)
  where
    by_flag : (b : Bool) → ((b && true) || has_sort (variables ns) text variable) ≡ true
        → (has_sort (variables ns) text variable ≡ true → place_of ns text < length ns)
        → (if b then 0 else suc (place_of ns text)) < suc (length ns)
    by_flag b h f = grind arith

no_test : (b c : Bool) → c ≡ false → ((b && false) || c) ≡ false
no_test b c e = grind arith

-- parts declare no variable
pub no_variable : (parts : List Part) (text : List ℕ) → has_sort (declared_by parts) text variable ≡ false
no_variable [] text = refl
no_variable (Array x n at ∷ parts) text = grind (arith, no_test, pointwise, nat_eq, no_variable parts text)
no_variable (Proc p ∷ parts) text = no_test (pointwise nat_eq p.name.text text) _ (no_variable parts text)

-- variables are nothing else
pub only_variables : (ns : List Name) (text : List ℕ) (s : Sort) → same_sort variable s ≡ false
    → has_sort (variables ns) text s ≡ false
only_variables [] text s e = refl
only_variables (n ∷ ns) text s e =
    ap (λ (c : Bool). (pointwise nat_eq n.text text && c) || has_sort (variables ns) text s) e
    ∙ no_test (pointwise nat_eq n.text text) _ (only_variables ns text s e)

-- the place of an array that is declared
pub array_place : (parts : List Part) (text : List ℕ) → has_sort (declared_by parts) text array ≡ true
    → place_of (arrays_of parts) text < length (arrays_of parts)
array_place [] text h = absurd (cc)
array_place (Array x n at ∷ parts) text h = by_flag (pointwise nat_eq x.text text) h (array_place parts text)
  where
    by_flag : (b : Bool) → ((b && true) || has_sort (declared_by parts) text array) ≡ true
        → (has_sort (declared_by parts) text array ≡ true → place_of (arrays_of parts) text
        < length (arrays_of parts)) → (if b then 0 else suc (place_of (arrays_of parts) text))
        < suc (length (arrays_of parts))
    by_flag b h f = grind arith
array_place (Proc p ∷ parts) text h = elim (or_cases (pointwise nat_eq p.name.text text && false) _ h) [
  | inl i ↦ grind (arith, no_both, both_hold, pointwise, nat_eq)
  | inr i ↦ array_place parts text i
]

-- the place of a name of a procedure
abbrev pub proc_place : List Part → List ℕ → ℕ
proc_place parts text = place_of (names_of (procs_of parts)) text

-- the place of a procedure that is declared
pub procedure_place : (parts : List Part) (text : List ℕ) (n : ℕ) → has_sort (declared_by parts) text
    (procedure n) ≡ true → proc_place parts text < length (procs_of parts)
procedure_place [] text n h = absurd (cc)
procedure_place (Array x m at ∷ parts) text n h =
    elim (or_cases (pointwise nat_eq x.text text && false) _ h) [
      | inl i ↦ grind (arith, no_both, both_hold, pointwise, nat_eq)
      | inr i ↦ procedure_place parts text n i
    ]
procedure_place (Proc p ∷ parts) text n h = by_flag (pointwise nat_eq p.name.text text) h
    (procedure_place parts text n)
  where
    by_flag : (b : Bool) → ((b && (length p.params == n)) || has_sort (declared_by parts) text (procedure n))
        ≡ true → (has_sort (declared_by parts) text (procedure n) ≡ true
        → proc_place parts text < length (procs_of parts)) → (if b then 0 else suc (proc_place parts text))
        < suc (length (procs_of parts))
    by_flag b h f = grind arith

-- a name that is not visible has no place
pub hidden_place : (parts : List Part) (text : List ℕ) → is_visible (declared_by parts) text ≡ false
    → proc_place parts text ≡ length (procs_of parts)
hidden_place [] text h = refl
hidden_place (Array x m at ∷ parts) text h =
    hidden_place parts text (not_second (pointwise nat_eq x.text text) _ h)
hidden_place (Proc p ∷ parts) text h = by_flag (pointwise nat_eq p.name.text text) h (hidden_place parts text)
  where
    by_flag : (b : Bool) → (b || is_visible (declared_by parts) text) ≡ false
        → (is_visible (declared_by parts) text ≡ false → proc_place parts text ≡ length (procs_of parts))
        → (if b then 0 else suc (proc_place parts text)) ≡ suc (length (procs_of parts))
    by_flag b h f = grind arith

-- more names after change no place
pub place_front : (xs ys : List Name) (text : List ℕ) → place_of xs text < length xs
    → place_of (xs ++ ys) text ≡ place_of xs text
place_front [] ys text lt = absurd (omega arith)
place_front (x ∷ xs) ys text lt = by_flag (pointwise nat_eq x.text text) lt (place_front xs ys text)
  where
    by_flag : (b : Bool) → (if b then 0 else suc (place_of xs text)) < suc (length xs)
        → (place_of xs text < length xs → place_of (xs ++ ys) text ≡ place_of xs text)
        → (if b then 0 else suc (place_of (xs ++ ys) text)) ≡ (if b then 0 else suc (place_of xs text))
    by_flag b lt f = grind arith

place_next : (xs : List Name) (y : Name) (text : List ℕ) → place_of xs text ≡ length xs
    → pointwise nat_eq y.text text ≡ true → place_of (xs ++ y ∷ []) text ≡ length xs
place_next [] y text e h = ap (λ (b : Bool). if b then 0 else 1) h
place_next (x ∷ xs) y text e h = by_flag (pointwise nat_eq x.text text) e (λ d. place_next xs y text d h)
  where
    by_flag : (b : Bool) → (if b then 0 else suc (place_of xs text)) ≡ suc (length xs)
        → (place_of xs text ≡ length xs → place_of (xs ++ y ∷ []) text ≡ length xs)
        → (if b then 0 else suc (place_of (xs ++ y ∷ []) text)) ≡ suc (length xs)
    by_flag b e f = grind arith

pub nth_front : (ps qs : List Procedure) (k : ℕ) → k < length ps → nth_procedure (ps ++ qs) k ≡ nth_procedure
    ps k
nth_front (p ∷ ps) qs (suc k) lt = nth_front ps qs k (omega (arith, lt))
nth_front ps qs k lt = grind arith

nth_next : (ps : List Procedure) (q : Procedure) → nth_procedure (ps ++ q ∷ []) (length ps) ≡ q
nth_next [] q = refl
nth_next (p ∷ ps) q = nth_next ps q

length_names : (ps : List Procedure) → length (names_of ps) ≡ length ps
length_names [] = refl
length_names (p ∷ ps) = ap suc (length_names ps)

-- parts after change no place of what is declared in front
module _ (before rest : List Part) (text : List ℕ) where
  -- an array keeps its place
  pub array_stays : place_of (arrays_of before) text < length (arrays_of before)
      → place_of (arrays_of (before ++ rest)) text ≡ place_of (arrays_of before) text
  array_stays lt = grind (arith, arrays_append, place_front)

  -- a procedure keeps its place
  pub proc_stays : proc_place before text < length (procs_of before) → proc_place (before ++ rest) text
      ≡ proc_place before text
  proc_stays lt = grind (arith, length_names, procs_append, names_append, place_front)

  -- and stands there
  pub nth_stays : (k : ℕ) → k < length (procs_of before) → nth_procedure (procs_of (before ++ rest)) k
      ≡ nth_procedure (procs_of before) k
  nth_stays k lt = grind (arith, procs_append, nth_front)

-- The first procedure of a name has as many parameters as the rules know.
abbrev pub Known : List Part → Type 0
Known before = (text : List ℕ) (n : ℕ) → has_sort (declared_by before) text (procedure n) ≡ true
    → length (nth_procedure (procs_of before) (proc_place before text)).params ≡ n

-- nothing is known yet
pub known_none : Known []
known_none text n h = absurd (cc)

module _ (before : List Part) (known : Known before) where
  known_front : (part : Part) (text : List ℕ) (n : ℕ) → has_sort (declared_by before) text (procedure n)
      ≡ true → length
      (nth_procedure (procs_of (before ++ part ∷ [])) (proc_place (before ++ part ∷ []) text)).params ≡ n
  known_front part text n h = grind (arith, procedure_place, proc_stays, nth_stays)

  split : (part : Part) (text : List ℕ) (n : ℕ) → has_sort (declared_by (before ++ part ∷ [])) text
      (procedure n) ≡ true → (has_sort (declared_by before) text (procedure n) ≡ true)
      ⊎ (has_sort (declared_by (part ∷ [])) text (procedure n) ≡ true)
  split part text n h = grind (arith, in_front_or_after, declared_append)

  -- an array more
  pub known_array : (x : Name) (m : ℕ) (at : _) → Known (before ++ Array x m at ∷ [])
  known_array x m at text n h = elim (split (Array x m at) text n h) [
    | inl i ↦ known_front (Array x m at) text n i
    | inr i ↦ grind (arith, no_both, no_test, pointwise, nat_eq)
  ]

  -- a procedure more
  pub known_procedure : (p : Procedure) → is_visible (declared_by before) p.name.text ≡ false
      → Known (before ++ Proc p ∷ [])
  known_procedure p new text n h = elim (split (Proc p) text n h) [
    | inl i ↦ known_front (Proc p) text n i
    | inr i ↦ elim (or_cases (pointwise nat_eq p.name.text text && (length p.params == n)) false i) [
      | inl j ↦ here (both_hold (pointwise nat_eq p.name.text text) (length p.params == n) j).0
          (both_hold (pointwise nat_eq p.name.text text) (length p.params == n) j).1
      | inr j ↦ absurd (no_both j refl)
    ]
  ]
    where
      here : pointwise nat_eq p.name.text text ≡ true → (length p.params == n) ≡ true
          → length (nth_procedure (procs_of (before ++ Proc p ∷ []))
          (proc_place (before ++ Proc p ∷ []) text)).params ≡ n
      here same count =
          let hidden =
          hidden_place before text (subst (λ (t : List ℕ). is_visible (declared_by before) t ≡ false)
          ((bytes_decides p.name.text text).0 same) new) in
          grind (arith, length_names, procs_append, names_append, place_next, nth_next, eqb-true)
