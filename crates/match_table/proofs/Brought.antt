-- A token that comes to one of the tables comes to all of them together.
use Rattle.std.proofs.Common.{◌≡◌, ◌+◌, ◌%◌, ◌⊎◌, inl, inr, ℕ, suc, List, [], ◌∷◌, ◌++◌, Some}
use Rattle.std.proofs.Common.{length, length-append, slice_set, sym, ap, ◌∙◌, arith}
use Rattle.std.proofs.lemmas.Bool.{cases_eq}
use Rattle.std.proofs.lemmas.List.{append-nil, get_or-set_other, set-get_or}
use Rattle.ws_isa.specs.Image.{Image, Token}
use Rattle.ws_isa.specs.Walk.{Ports}
use Rattle.df_core.specs.Core.{Key, HasFired, operands_in, with_at}
use Rattle.df_core.proofs.Keeping.Ports.{with_at_cases}
use Rattle.df_core.proofs.Parts.StandsMatch.{gather_agree}
use Rattle.match_table.specs.Matching.{Arrives, Full}
use Rattle.match_table.specs.Tables.{held, TableContent}
use Rattle.match_table.specs.Growth.{content_at, no_content}
use Rattle.match_table.specs.Together.{all_fired, together}
use Rattle.match_table.specs.Coming.{served}
use Rattle.match_table.proofs.Union.{fired_cases, fired_left, fired_right}

-- what they list where one lists these more
set_fired : (cs : List TableContent) (k : ℕ) (c : TableContent) (more : List Key)
    → c.fired ≡ (content_at cs k).fired ++ more → (w i : ℕ) → HasFired (all_fired (slice_set cs k c)) w i
    → HasFired (all_fired cs) w i ⊎ HasFired more w i
set_fired (d ∷ cs) (suc k) c more e w i h =
    elim (fired_cases d.fired (all_fired (slice_set cs k c)) w i h) [
      | inl x ↦ inl (fired_left d.fired (all_fired cs) w i x)
      | inr x ↦ grind (arith, fired_right, set_fired cs k c more e w i x)
    ]
set_fired cs k c more e w i h = grind (arith, fired_cases, c.fired, fired_left, fired_right)

set_length : (cs : List TableContent) (k : ℕ) (c : TableContent) (more : List Key)
    → c.fired ≡ (content_at cs k).fired ++ more → c ≡ content_at (slice_set cs k c) k
    → length (all_fired (slice_set cs k c)) ≡ length (all_fired cs) + length more
set_length (d ∷ cs) (suc k) c more e there =
    grind (arith, length-append, d.fired, slice_set, there, set_length cs k c more e there)
set_length cs k c more e there = grind (arith, there, length-append, c.fired)

-- what is held of a table's instances, where one table holds a value more
more_in : (h : TableContent → Ports) (old new : List TableContent) (t : Token)
    → new ≡ slice_set old (served t) (content_at new (served t))
    → ((w i p : ℕ) → h (content_at new (served t)) w i p
    ≡ with_at t.wave t.instr t.port (Some t.value) (h (content_at old (served t))) w i p) → (w i p : ℕ)
    → h (content_at new ((w + i) % 16)) w i p ≡ with_at t.wave t.instr t.port (Some t.value)
    (λ a b q. h (content_at old ((a + b) % 16)) a b q) w i p
more_in h old new t set more w i p =
    grind (arith, cases_eq, t.instr, t.port, more, get_or-set_other, with_at_cases)

module _ (old new : List TableContent) (t : Token)
    (set : new ≡ slice_set old (served t) (content_at new (served t))) where
  abbrev k : ℕ
  k = served t

  abbrev one : TableContent
  one = content_at new k

  -- where that table stays as it was, so do all
  pub brought_none : one ≡ content_at old k → new ≡ old
  brought_none e = set ∙ ap (λ (c : TableContent). slice_set old k c) e ∙ set-get_or old k no_content

  pub brought_more : Arrives (content_at old k) t one → (w i p : ℕ) → (together new).held w i p
      ≡ with_at t.wave t.instr t.port (Some t.value) (together old).held w i p
  brought_more a = more_in held old new t set a.more

  -- none more has fired
  no_more : one.fired ≡ (content_at old k).fired → one.fired ≡ (content_at old k).fired ++ []
  no_more e = e ∙ sym (append-nil (content_at old k).fired)

  pub brought_same : one.fired ≡ (content_at old k).fired → (w i : ℕ) → HasFired (all_fired new) w i
      → HasFired (all_fired old) w i
  brought_same e w i h = grind (arith, set_fired old k one [] (no_more e) w i (grind arith))

  -- the token's instance has
  pub brought_fired : (image : Image) (xs : List ℕ) → Full image (content_at old k) t one xs → (w i : ℕ)
      → HasFired (all_fired new) w i → HasFired (all_fired old) w i ⊎ ((t.wave ≡ w) × (t.instr ≡ i))
  brought_fired image xs full w i h =
      elim (set_fired old k one (record { wave = t.wave; instr = t.instr } ∷ []) full.fired w i
      (grind arith)) [
        | inl x ↦ inl x
        | inr x ↦ elim x [ inl y ↦ inr y | inr y ↦ absurd y ]
      ]

  pub brought_operands : (image : Image) (xs : List ℕ) → Full image (content_at old k) t one xs
      → xs ≡ operands_in image (together new).held t.wave t.instr
  brought_operands image xs full = grind (arith, gather_agree, t.instr)

  there : one ≡ content_at (slice_set old k one) k
  there = ap (λ (cs : List TableContent). content_at cs k) set

  pub count_same : one.fired ≡ (content_at old k).fired → length (all_fired new) ≡ length (all_fired old)
  count_same e = grind (arith, set_length old k one [] (no_more e) there)

  pub count_one : (image : Image) (xs : List ℕ) → Full image (content_at old k) t one xs
      → length (all_fired new) ≡ length (all_fired old) + 1
  count_one image xs full = let l = ap (λ (cs : List TableContent). length (all_fired cs)) set in
      let m = set_length old k one (record { wave = t.wave; instr = t.instr } ∷ []) full.fired there in
      omega (arith, l, m)
