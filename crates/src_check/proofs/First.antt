-- What the first broken rule says of all the rules.
use Rattle.std.proofs.Common.{arith, ◌≡◌, List, [], ◌∷◌, ◌++◌, Option, Some, None, true, false, ◌&&◌}
use Rattle.std.proofs.Common.{if◌then◌else◌, IsTrue, refl, sym, ap}
use Rattle.std.specs.List.{list_all}
use Rattle.std.proofs.lemmas.Bool.{and_parts}
use Rattle.src_ast.specs.declared.lexeme.Place.{Place}
use Rattle.src_ast.specs.Once.{ExactlyOne}
use Rattle.src_ast.specs.Syntax.{Part}
use Rattle.src_ast.specs.declared.fault.Refusal.{Refusal}
use Rattle.src_ast.specs.Rules.{Rule, rules_of, IsFirstBroken, IsRuleAnswer}
use Rattle.src_check.specs.Rule.{first_broken}

abbrev fault : Rule → Refusal
fault r = record { kind = r.kind; place = r.place }

-- where none is broken, all are kept
pub kept_where_none : (rs : List Rule) → first_broken rs ≡ None → IsTrue (list_all (λ r. r.kept) rs)
unfolding first_broken
kept_where_none [] h = refl
kept_where_none (r ∷ rs) h =
    elim r.kept as (λ b. (if b then first_broken rs else Some (fault r)) ≡ None
    → IsTrue (b && list_all (λ s. s.kept) rs))
    [ true ↦ (λ e. kept_where_none rs e) | false ↦ (λ e. cc) ] h

-- where all are kept, none is broken
pub none_where_kept : (rs : List Rule) → IsTrue (list_all (λ r. r.kept) rs) → first_broken rs ≡ None
unfolding first_broken
none_where_kept [] h = refl
none_where_kept (r ∷ rs) h =
    elim r.kept as (λ b. IsTrue (b && list_all (λ s. s.kept) rs)
    → (if b then first_broken rs else Some (fault r)) ≡ None)
    [ true ↦ (λ e. none_where_kept rs e) | false ↦ (λ e. cc) ] h

here : (r : Rule) (rs : List Rule) (f : Refusal) → r.kept ≡ false → fault r ≡ f → IsFirstBroken (r ∷ rs) f
here r rs f k e = record {
  before = [];
  following = rs;
  is = λ i. record { place = (e i).place; kind = (e i).kind; kept = k i } ∷ rs;
  kept = refl;
}

further : (r : Rule) (rs : List Rule) (f : Refusal) → r.kept ≡ true → IsFirstBroken rs f
    → IsFirstBroken (r ∷ rs) f
further r rs f k b = record {
  before = r ∷ b.before;
  following = b.following;
  is = ap (λ l. r ∷ l) b.is;
  kept = rw k b.kept;
}

same_fault : (f g : Refusal) → Some f ≡ Some g → f ≡ g
same_fault f g e = cc

-- the first broken rule, among the others
pub first_where_some : (rs : List Rule) (f : Refusal) → first_broken rs ≡ Some f → IsFirstBroken rs f
unfolding first_broken
first_where_some [] f h = cc
first_where_some (r ∷ rs) f h =
    elim r.kept as (λ b. r.kept ≡ b → (if b then first_broken rs else Some (fault r)) ≡ Some f
    → IsFirstBroken (r ∷ rs) f) [
      | true ↦ (λ k e. further r rs f k (first_where_some rs f e))
      | false ↦ grind (arith, here, same_fault)
    ] refl h

past_kept : (before following : List Rule) (r : Rule) → IsTrue (list_all (λ s. s.kept) before)
    → r.kept ≡ false → first_broken (before ++ r ∷ following) ≡ Some (fault r)
unfolding first_broken
past_kept [] following r h k = rw k refl
past_kept (s ∷ before) following r h k =
    let parts = and_parts s.kept (list_all (λ s. s.kept) before) h in
    rw parts.0 (past_kept before following r parts.1 k)

some_where_first : (rs : List Rule) (f : Refusal) → IsFirstBroken rs f → first_broken rs ≡ Some f
some_where_first rs f b = grind (arith, past_kept, b.before, b.kept)

-- the answer to the rules of a program, by the first that isn't kept
answer_is : (parts : List Part) (finish : Place) (answer : Option Refusal) → IsRuleAnswer parts finish answer
    → first_broken (rules_of parts finish) ≡ answer
answer_is parts finish answer h = grind (arith, none_where_kept, some_where_first)

is_answer : (parts : List Part) (finish : Place) (answer : Option Refusal)
    → first_broken (rules_of parts finish) ≡ answer → IsRuleAnswer parts finish answer
is_answer parts finish answer h = grind (arith, kept_where_none, first_where_some)

-- a program is accepted or has a first broken rule, and one of them alone
pub checked_once : (parts : List Part) (finish : Place) → ExactlyOne (IsRuleAnswer parts finish)
checked_once parts finish =
    record {
      answer = first_broken (rules_of parts finish);
      holds = is_answer parts finish (first_broken (rules_of parts finish)) refl;
      only = λ other h. sym (answer_is parts finish other h);
    }
