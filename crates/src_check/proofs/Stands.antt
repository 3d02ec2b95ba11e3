-- Which declared names stand for what is found, as names are put in.
use Rattle.std.proofs.Common.{arith, ◌≡◌, ℕ, ◌+◌, ◌<◌, List, [], ◌∷◌, ◌++◌, Bool, true, false, ◌&&◌, ◌||◌}
use Rattle.std.proofs.Common.{nat_eq, Option, Some, if◌then◌else◌, length, get_or, take, refl, sym, ap, subst}
use Rattle.std.proofs.Common.{◌∙◌, add-one}
use Rattle.std.proofs.Math.Seq.{take-suc}
use Rattle.std.proofs.lemmas.List.Folds.{list_any-append}
use Rattle.std.specs.List.{list_any}
use Rattle.std.specs.Cmp.Lexicographic.{pointwise, bytes_decides}
use Rattle.src_ast.specs.declared.lexeme.Name.{Name}
use Rattle.src_ast.specs.Rules.{Sort, variable, Declared, variables}
use Rattle.src_check.specs.Names.{StandsFor, passes}
use Rattle.ws_words.proofs.Bools.{or_comm}

abbrev finds : List Declared → List ℕ → (Sort → Bool) → Bool
finds declared text test = list_any (λ d. pointwise nat_eq d.text text && test d.sort) declared

-- the same is found
pub stands_same : {f g : List ℕ → Option Sort} {visible : List Declared} → ((text : List ℕ) → g text ≡ f text)
    → StandsFor f visible → StandsFor g visible
stands_same e st = record { agrees = grind (arith, st.agrees) }

-- lists that change places
pub stands_moved : {f : List ℕ → Option Sort} (xs ys : List Declared) → StandsFor f (xs ++ ys)
    → StandsFor f (ys ++ xs)
stands_moved xs ys st = grind (arith, list_any-append, nat_eq, or_comm, st.agrees)

none_passes : (test : Sort → Bool) (o : Option Sort) → passes (λ _. true) o ≡ false → passes test o ≡ false
none_passes test o e = grind arith

put_by : (x text : List ℕ) (b : Bool) (s : Sort) (test : Sort → Bool) (rest : Bool) (o : Option Sort)
    → b ≡ pointwise nat_eq x text → rest ≡ passes test o → (b ≡ true → passes (λ _. true) o ≡ false)
    → ((b && test s) || rest) ≡ passes test (if b then Some s else o)
put_by x text b s test rest o is agrees apart = grind (arith, none_passes, or_comm)

-- a name that nothing was found for is put in
pub stands_with : {f g : List ℕ → Option Sort} {visible : List Declared} (x : List ℕ) (s : Sort)
    → StandsFor f visible → passes (λ _. true) (f x) ≡ false
    → ((text : List ℕ) → g text ≡ (if pointwise nat_eq x text then Some s else f text))
    → StandsFor g (record { text = x; sort = s } ∷ visible)
stands_with {f} {g} {visible} x s st free puts = record {
  agrees = λ text test.
      put_by x text (pointwise nat_eq x text) s test (finds visible text test) (f text) refl
      (st.agrees text test)
      (λ e. subst (λ t. passes (λ _. true) (f t) ≡ false) ((bytes_decides x text).0 e) free)
      ∙ ap (passes test) (sym (puts text));
}

-- variables put in one after another
abbrev pub pushed : List Name → List Declared → List Declared
pushed [] visible = visible
pushed (x ∷ xs) visible = pushed xs (record { text = x.text; sort = variable } ∷ visible)

pushed-append : (xs : List Name) (x : Name) (visible : List Declared) → pushed (xs ++ x ∷ []) visible
    ≡ variables (x ∷ []) ++ pushed xs visible
pushed-append [] x visible = refl
pushed-append (y ∷ xs) x visible =
    grind (arith, pushed-append xs x (record { text = y.text; sort = variable } ∷ visible))

-- one more name put in
pub pushed_next : (xs : List Name) (i : ℕ) (x : Name) (visible : List Declared) → i < length xs
    → x ≡ get_or xs i x → pushed (take (i + 1) xs) visible ≡ variables (x ∷ []) ++ pushed (take i xs) visible
pushed_next xs i x visible h is =
    grind (arith, add-one i, take-suc xs i x h, pushed-append (take i xs) x visible)

or_moved : (a b c : Bool) → (a || (b || c)) ≡ ((b || a) || c)
or_moved a b c = grind arith

finds-pushed : (xs : List Name) (visible : List Declared) (text : List ℕ) (test : Sort → Bool)
    → finds (pushed xs visible) text test ≡ (finds (variables xs) text test || finds visible text test)
finds-pushed [] visible text test = refl
finds-pushed (x ∷ xs) visible text test =
    finds-pushed xs (record { text = x.text; sort = variable } ∷ visible) text test
    ∙ or_moved (finds (variables xs) text test) (pointwise nat_eq x.text text && test variable)
    (finds visible text test)

-- names put in one after another are the variables
pub stands_for_pushed : {f : List ℕ → Option Sort} (xs : List Name) (visible : List Declared)
    → StandsFor f (pushed xs visible) → StandsFor f (variables xs ++ visible)
stands_for_pushed xs visible st = grind (arith, list_any-append, nat_eq, finds-pushed, st.agrees)

variables-append : (xs ys : List Name) → variables (xs ++ ys) ≡ variables xs ++ variables ys
variables-append [] ys = refl
variables-append (x ∷ xs) ys = grind (arith, variables-append xs ys)

finds-append : (xs ys : List Declared) (text : List ℕ) (test : Sort → Bool)
    → finds (xs ++ ys) text test ≡ (finds xs text test || finds ys text test)
finds-append xs ys text test = list_any-append (λ d. pointwise nat_eq d.text text && test d.sort) xs ys

-- parameters and variables in their order
pub stands_for_locals : {f : List ℕ → Option Sort} (params vars : List Name) (visible : List Declared)
    → StandsFor f (variables vars ++ (variables params ++ visible))
    → StandsFor f (variables (params ++ vars) ++ visible)
stands_for_locals params vars visible st = grind (arith, variables-append, finds-append, or_moved, st.agrees)
