-- The first act that is past.
use Rattle.std.proofs.Common.{ℕ, ◌≡◌, ◌<◌, ◌≤◌, Bool, List, [], ◌∷◌, ◌++◌, Option, Some, None}
use Rattle.std.proofs.Common.{if◌then◌else◌, refl, sym, ap, ◌∙◌, subst, arith}
use Rattle.std.specs.Prelude.{nat_lt}
use Rattle.std.proofs.lemmas.Bool.{ltb-true, lt-ltb}
use Rattle.std.proofs.lemmas.Bool.Decides.{nat_tests}
use Rattle.ws_words.specs.Outside.{Act}
use Rattle.ws_words.specs.Past.{ActsBegin, IsPast, IsWithin, AreWithin, FirstPast}
use Rattle.seq_run.specs.Firsts.{past_array, first_past}
use Rattle.ws_words.specs.Items.{first_some}

-- one index against one length
module _ (a i n : ℕ) where
  none_less : (b : Bool) → nat_lt i n ≡ b → (if b then None else Some a) ≡ None → i < n
  none_less b e h = grind (arith, ltb-true)

  some_not_less : (c : ℕ) (b : Bool) → nat_lt i n ≡ b → (if b then None else Some a) ≡ Some c
      → (a ≡ c) × (n ≤ i)
  some_not_less c b e h = grind (arith, nat_tests)

  less_none : i < n → (if nat_lt i n then None else Some a) ≡ None
  less_none lt = ap (λ (b : Bool). if b then None else Some a) (lt-ltb i n lt)

  not_less_some : (c : ℕ) → a ≡ c → n ≤ i → (if nat_lt i n then None else Some a) ≡ Some c
  not_less_some c e le = grind (arith, nat_tests)

-- an act that is not past
pub none_within : (lengths : List ℕ) (act : Act) → past_array lengths act ≡ None → IsWithin lengths act
none_within lengths act h = grind (arith, none_less)

-- one that is
pub some_past : (lengths : List ℕ) (act : Act) (c : ℕ) → past_array lengths act ≡ Some c
    → IsPast lengths c act
some_past lengths act c h = grind (arith, some_not_less)

within_none : (lengths : List ℕ) (act : Act) → IsWithin lengths act → past_array lengths act ≡ None
within_none lengths act h = grind (arith, less_none)

past_some : (lengths : List ℕ) (act : Act) (c : ℕ) → IsPast lengths c act → past_array lengths act ≡ Some c
past_some lengths act c h = grind (arith, not_less_some)

-- none is past
pub all_within : (lengths : List ℕ) (acts : List Act) → first_past lengths acts ≡ None
    → AreWithin lengths acts
all_within lengths [] h = tt
all_within lengths (act ∷ acts) h = by_act (past_array lengths act) refl h (all_within lengths acts)
  where
    by_act : (r : Option ℕ) → past_array lengths act ≡ r → first_some r (first_past lengths acts) ≡ None
        → (first_past lengths acts ≡ None → AreWithin lengths acts) → AreWithin lengths (act ∷ acts)
    by_act r e d f = grind (arith, none_within)

pub within_all : (lengths : List ℕ) (acts : List Act) → AreWithin lengths acts
    → first_past lengths acts ≡ None
within_all lengths [] h = refl
within_all lengths (act ∷ acts) h = grind (arith, within_none, within_all lengths acts h.1)

-- the acts before the first that is past
pub record Found (lengths : List ℕ) (acts : List Act) (array : ℕ) : Type 0 where
  pub before : List Act
  pub first : FirstPast lengths acts before array

-- one is past
pub found : (lengths : List ℕ) (acts : List Act) (c : ℕ) → first_past lengths acts ≡ Some c
    → Found lengths acts c
found lengths [] c h = absurd (cc)
found lengths (act ∷ acts) c h = by_act (past_array lengths act) refl h (found lengths acts c)
  where
    by_act : (r : Option ℕ) → past_array lengths act ≡ r → first_some r (first_past lengths acts) ≡ Some c
        → (first_past lengths acts ≡ Some c → Found lengths acts c) → Found lengths (act ∷ acts) c
    by_act (Some d) e f next = grind (arith, some_past)
    by_act None e f next =
        let r = next f in
        record {
          before = act ∷ r.before;
          first = record {
            within = (none_within lengths act e, r.first.within);
            act = r.first.act;
            past = r.first.past;
            after = r.first.after;
            split = ap (λ (xs : List Act). act ∷ xs)
                r.first.split;
          };
        }

-- the acts before the first that is past
abbrev before_with : Option ℕ → Act → List Act → List Act
before_with (Some c) act acts = []
before_with None act acts = act ∷ acts

abbrev before_past : List ℕ → List Act → List Act
before_past lengths [] = []
before_past lengths (act ∷ acts) = before_with (past_array lengths act) act (before_past lengths acts)

module _ (lengths : List ℕ) (act : Act) (after : List Act) (c : ℕ) (past : IsPast lengths c act) where
  first_at : (before : List Act) → AreWithin lengths before → first_past lengths (before ++ act ∷ after)
      ≡ Some c
  first_at [] w = grind (arith, past_some)
  first_at (x ∷ before) w = grind (arith, within_none, first_at before w.1)

  before_at : (before : List Act) → AreWithin lengths before → before_past lengths (before ++ act ∷ after)
      ≡ before
  before_at [] w = grind (arith, past_some)
  before_at (x ∷ before) w = grind (arith, within_none, before_at before w.1)

pub first_is : (lengths : List ℕ) (acts before : List Act) (c : ℕ) → FirstPast lengths acts before c
    → first_past lengths acts ≡ Some c
first_is lengths acts before c h = grind (arith, first_at, h.act)

-- one list of acts has one first act that is past
pub one_array : (lengths : List ℕ) (acts before began : List Act) (c d : ℕ) → FirstPast lengths acts before c
    → FirstPast lengths acts began d → c ≡ d
one_array lengths acts before began c d h i = let e : Some c ≡ Some d = sym (first_is lengths acts before c h)
    ∙ first_is lengths acts began d i in cc

-- and it has the same acts before it
pub one_before : (lengths : List ℕ) (acts before began : List Act) (c d : ℕ) → FirstPast lengths acts before c
    → FirstPast lengths acts began d → before ≡ began
one_before lengths acts before began c d h i = sym (at before c h) ∙ at began d i
  where
    at : (xs : List Act) (a : ℕ) → FirstPast lengths acts xs a → before_past lengths acts ≡ xs
    at xs a f = ap (before_past lengths) f.split ∙ before_at lengths f.act f.after a f.past xs f.within

-- where one is past, not all are within
pub not_within : (lengths : List ℕ) (acts before : List Act) (c : ℕ) → FirstPast lengths acts before c
    → AreWithin lengths acts → ⊥
not_within lengths acts before c h w = let e : Some c ≡ None = sym (first_is lengths acts before c h)
    ∙ within_all lengths acts w in absurd (cc)

within_take : (lengths : List ℕ) (xs ys : List Act) → AreWithin lengths (xs ++ ys) → AreWithin lengths xs
within_take lengths [] ys h = tt
within_take lengths (x ∷ xs) ys h = (h.0, within_take lengths xs ys h.1)

-- acts that are within, one list after another
pub within_both : (lengths : List ℕ) (xs ys : List Act) → AreWithin lengths xs → AreWithin lengths ys
    → AreWithin lengths (xs ++ ys)
within_both lengths [] ys h i = i
within_both lengths (x ∷ xs) ys h i = (h.0, within_both lengths xs ys h.1 i)

-- what stands first among acts that are within is within
pub within_front : (lengths : List ℕ) (xs ys : List Act) → ActsBegin xs ys → AreWithin lengths ys
    → AreWithin lengths xs
within_front lengths xs ys b h = within_take lengths xs b.0 (subst (AreWithin lengths) b.1 h)

or_assoc : (a b c : Option ℕ) → first_some (first_some a b) c ≡ first_some a (first_some b c)
or_assoc a b c = grind arith

-- the first past act of one list after another
pub first_append : (lengths : List ℕ) (xs ys : List Act) → first_past lengths (xs ++ ys) ≡ first_some
    (first_past lengths xs) (first_past lengths ys)
first_append lengths [] ys = refl
first_append lengths (x ∷ xs) ys = grind (arith, or_assoc, first_append lengths xs ys)

-- nothing more is noted
pub or_none : (b : Option ℕ) → first_some b None ≡ b
or_none b = grind arith

-- what is noted in acts one list after another
pub noted_then : (lengths : List ℕ) (xs ys : List Act) (p q r : Option ℕ)
    → q ≡ first_some p (first_past lengths xs) → r ≡ first_some q (first_past lengths ys)
    → r ≡ first_some p (first_past lengths (xs ++ ys))
noted_then lengths xs ys p q r h i = grind (arith, or_assoc, first_append)

-- what is noted in one act more
pub noted_one : (lengths : List ℕ) (xs : List Act) (act : Act) (p q r : Option ℕ)
    → q ≡ first_some p (first_past lengths xs) → r ≡ first_some q (past_array lengths act)
    → r ≡ first_some p (first_past lengths (xs ++ act ∷ []))
noted_one lengths xs act p q r h i = grind (arith, noted_then, or_none)
