-- The first broken rule of rules in a row, and at the use of a name.
use Rattle.std.proofs.Common.{arith, ◌≡◌, List, [], ◌∷◌, ◌++◌, Option, Some, None, Bool, true, false, ◌&&◌}
use Rattle.std.proofs.Common.{nat_eq, if◌then◌else◌, Result, refl, sym, ap, subst, ◌∙◌}
use Rattle.std.specs.List.{list_any}
use Rattle.std.specs.Result.{IsErrAnd}
use Rattle.std.proofs.lemmas.Result.{err_from_is_err_and}
use lib.Pointwise.{pointwise}
use Rattle.src_ast.specs.declared.lexeme.Name.{Name}
use Rattle.src_ast.specs.declared.lexeme.Place.{Place}
use Rattle.src_ast.specs.declared.fault.RefusalKind.{RefusalKind}
use Rattle.src_ast.specs.declared.fault.Refusal.{Refusal}
use Rattle.src_ast.specs.declared.fault.RefusalKind.TheVariants.{Unknown, Kind, Count}
use Rattle.src_ast.specs.Rules.{Rule, rule, Sort, Declared, same_kind, same_sort, is_visible, use_rules}
use Rattle.src_check.specs.declared.stop.Stop.{Stop}
use Rattle.src_check.specs.declared.stop.Stop.TheVariants.{Broken}
use Rattle.src_check.specs.Names.{StandsFor, passes}
use Rattle.src_check.specs.Rule.{first_broken}
use Rattle.src_check.specs.Keeps.{Keeps, StopsAt, KeepsInMemory}

abbrev fault : Rule → Refusal
fault r = record { kind = r.kind; place = r.place }

-- no rule is broken where there is none
pub none_broken : first_broken [] ≡ None
unfolding first_broken
none_broken = refl

-- after rules that are kept, the rest decides
pub after_kept : (xs ys : List Rule) → first_broken xs ≡ None → first_broken (xs ++ ys) ≡ first_broken ys
unfolding first_broken
after_kept [] ys h = refl
after_kept (r ∷ xs) ys h =
    elim r.kept as (λ b. (if b then first_broken xs else Some (fault r)) ≡ None
    → (if b then first_broken (xs ++ ys) else Some (fault r)) ≡ first_broken ys)
    [ true ↦ (λ e. after_kept xs ys e) | false ↦ (λ e. cc) ] h

-- a broken rule stays the first, whatever comes after it
pub before_broken : (xs ys : List Rule) (f : Refusal) → first_broken xs ≡ Some f
    → first_broken (xs ++ ys) ≡ Some f
unfolding first_broken
before_broken [] ys f h = cc
before_broken (r ∷ xs) ys f h =
    elim r.kept as (λ b. (if b then first_broken xs else Some (fault r)) ≡ Some f
    → (if b then first_broken (xs ++ ys) else Some (fault r)) ≡ Some f)
    [ true ↦ (λ e. before_broken xs ys f e) | false ↦ (λ e. e) ] h

-- what the checker answers on the rest is the answer for all
pub answers_after : {X : Type 0} (xs ys : List Rule) (r : Result X Refusal) → first_broken xs ≡ None
    → Keeps ys r → Keeps (xs ++ ys) r
answers_after xs ys r h k = grind (arith, after_kept)

-- a rule that is kept is not broken
pub rule_kept : (place : Place) (any : RefusalKind) → first_broken (rule place any true ∷ []) ≡ None
unfolding first_broken
rule_kept place any = refl

and_true : (b : Bool) → (b && true) ≡ b
and_true b = grind arith

any_and_true : (text : List _) (visible : List Declared)
    → list_any (λ d. pointwise nat_eq d.text text && true) visible ≡ is_visible visible text
any_and_true text visible = simp and_true

-- a name is visible where something is found
pub visible_where_found : {find : _} {visible : List Declared} (text : List _) → StandsFor find visible
    → is_visible visible text ≡ passes (λ _. true) (find text)
visible_where_found {find} {visible} text st = sym (any_and_true text visible) ∙ st.agrees text (λ _. true)

module _ {find : List _ → Option Sort} {visible : List Declared} (x : Name) (wanted : Sort)
    (stands : StandsFor find visible) where
  -- a name that is not found is unknown
  pub use_where_none : find x.text ≡ None → first_broken (use_rules visible x wanted)
      ≡ Some (record { kind = Unknown; place = x.place })
  unfolding first_broken
  use_where_none e = grind (arith, visible_where_found x.text stands)

  -- the rules on a name that is found
  pub use_where_some : (s : Sort) (kind count : Bool) → find x.text ≡ Some s → kind ≡ same_kind s wanted
      → count ≡ same_sort s wanted
      → use_rules visible x wanted ≡ rule x.place Unknown true ∷ rule x.place Kind kind ∷ rule x.place Count
      count ∷ []
  use_where_some s kind count e k n =
      let v = visible_where_found x.text stands ∙ ap (passes (λ _. true)) e in
      let is_kind = stands.agrees x.text (λ t. same_kind t wanted) ∙ ap (passes (λ t. same_kind t wanted)) e
      ∙ sym k in
      let is_count = stands.agrees x.text (λ t. same_sort t wanted) ∙ ap (passes (λ t. same_sort t wanted)) e
      ∙ sym n in
      λ i. rule x.place Unknown (v i) ∷ rule x.place Kind (is_kind i) ∷ rule x.place Count (is_count i) ∷ []

-- a checker that ends at a broken rule answers with it
pub leaves : {Y : Type 0} (rules : List Rule) (r : Result Y Refusal) (f : Refusal) → IsErrAnd r (λ g. g ≡ f)
    → first_broken rules ≡ Some f → Keeps rules r
leaves rules r f is h = let p = err_from_is_err_and r is in rw (p.1, p.2) h

-- the same answer for the same rules
pub keeps_as : {X : Type 0} (xs ys : List Rule) (r : Result X Refusal) → xs ≡ ys → Keeps ys r → Keeps xs r
keeps_as xs ys r e h = subst (λ zs. Keeps zs r) (sym e) h

-- the same where memory may run out
pub leaves_in_memory : {Y : Type 0} (rules : List Rule) (r : Result Y Stop) (f : Refusal)
    → IsErrAnd r (λ s. s ≡ Broken f) → first_broken rules ≡ Some f → KeepsInMemory rules r
leaves_in_memory rules r f is h = let p = err_from_is_err_and r is in rw (p.1, p.2) h

-- a stop at some rules is passed on
pub passes_on : {Y : Type 0} (rules : List Rule) (r : Result Y Stop) (s : Stop) → IsErrAnd r (λ t. t ≡ s)
    → StopsAt rules s → KeepsInMemory rules r
passes_on rules r s is h = let p = err_from_is_err_and r is in rw (p.1, p.2) h

-- a stop after rules that are kept
pub stop_after : (xs ys : List Rule) (s : Stop) → first_broken xs ≡ None → StopsAt ys s → StopsAt (xs ++ ys) s
stop_after xs ys s h k = grind (arith, after_kept)

-- a stop before others
pub stop_before : (xs ys : List Rule) (s : Stop) → StopsAt xs s → StopsAt (xs ++ ys) s
stop_before xs ys s h = grind (arith, before_broken)

-- a stop at rules with the same first broken one
pub stop_as : (xs ys : List Rule) (s : Stop) → first_broken xs ≡ first_broken ys → StopsAt ys s → StopsAt xs s
stop_as xs ys s e h = grind arith
