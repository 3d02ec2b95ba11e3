-- A table of a phase keeps its facts where it takes a token.
use Rattle.std.proofs.Common.{◌≡◌, ◌+◌, ◌<◌, ◌≤◌, ◌%◌, ⊎_elim, ℕ, Bool, true, List, [], Some}
use Rattle.std.proofs.Common.{None, length, length-append, ap, sym, ◌∙◌, subst, arith}
use Rattle.std.proofs.lemmas.List.{get_or_past}
use Rattle.ws_isa.specs.Image.{Image, Token}
use Rattle.df_core.specs.Core.{with_at}
use Rattle.df_core.proofs.Keeping.Ports.{SamePlace, with_at_cases}
use Rattle.match_table.specs.declared.table.Results.{Results}
use Rattle.match_table.specs.declared.table.Took.{Took}
use Rattle.match_table.specs.declared.table.Took.TheVariants as took
use Rattle.match_table.specs.Matching.{Arrives, Full, TookAs, FiresSo, will_fire}
use Rattle.match_table.specs.Tables.{held, TableContent}
use Rattle.match_table.specs.Limits.{Serves}
use Rattle.match_table.specs.Growth.{content_at, no_content}
use Rattle.match_table.specs.Ports.{held_at}
use Rattle.match_table.proofs.Halves.{nothing_in}

arrives_serves : (k : ℕ) (old new : TableContent) (t : Token) → Serves k old → (t.wave + t.instr) % 16 ≡ k
    → Arrives old t new → Serves k new
arrives_serves k old new t s serves a w i p v e = ⊎_elim
    (λ (y : SamePlace t.wave t.instr t.port w i p × (with_at t.wave t.instr t.port (Some t.value)
    (held old) w i p ≡ Some t.value)). subst (λ (x : ℕ × ℕ). (x.0 + x.1) % 16 ≡ k)
    (λ j. (y.0.wave j, y.0.instr j)) serves)
    (λ (n : (SamePlace t.wave t.instr t.port w i p → ⊥) × (with_at t.wave t.instr t.port (Some t.value)
    (held old) w i p ≡ held old w i p)). s w i p v (sym n.1 ∙ sym (a.more w i p) ∙ e))
    (with_at_cases t.wave t.instr t.port (Some t.value) (held old) w i p)

same_serves : (k : ℕ) (old new : TableContent) → Serves k old → new.entries ≡ old.entries → Serves k new
same_serves k old new s e w i p v h = grind arith

-- a table that holds nothing serves any instances
pub fresh_serves : (k : ℕ) (c : TableContent) → ((w i p : ℕ) → held c w i p ≡ None) → Serves k c
fresh_serves k c none w i p v e = absurd (let g : None ≡ Some v = sym (none w i p) ∙ e in cc)

pub nothing_held : (w i p : ℕ) → held no_content w i p ≡ None
nothing_held w i p = ap (λ o. held_at o p) (nothing_in [] w i)

pub none_serves : (k : ℕ) → Serves k no_content
none_serves k = fresh_serves k no_content nothing_held

pub past_serves : (n k : ℕ) → Serves n (content_at [] k)
past_serves n k = let e : content_at [] k ≡ no_content = get_or_past [] k no_content (omega arith) in
    subst (λ c. Serves n c) (sym e) (none_serves n)

one_longer : (image : Image) (old new : TableContent) (t : Token) (xs : List ℕ) → Full image old t new xs
    → length new.fired ≡ length old.fired + 1
one_longer image old new t xs f = grind (arith, length-append, old.fired)

within : (image : Image) (old new : TableContent) (t : Token) (xs : List ℕ) (fires : Bool) (most : ℕ)
    → Full image old t new xs → true ≡ fires → (fires ≡ true → length old.fired < most)
    → length new.fired ≤ most
within image old new t xs fires most f is less = grind (arith, one_longer)

module _ {J : Type 0} where
  pub all_ok : (image : Image) (old new : TableContent) (t : Token) (rs : Results J) (answer : Took)
      (k most : ℕ) → Serves k old → length old.fired ≤ most → (t.wave + t.instr) % 16 ≡ k
      → (will_fire image old t ≡ true → length old.fired < most) → TookAs image old t new rs answer
      → FiresSo answer (will_fire image old t) → Serves k new × (length new.fired ≤ most)
  all_ok image old new t rs took.Waits k most s le serves less m h =
      (arrives_serves k old new t s serves m.0.0, subst (λ l. length l ≤ most) (sym m.0.2) le)
  all_ok image old new t rs took.Fires k most s le serves less m h = grind (
    arith,
    arrives_serves k old new t
        s serves m.0.0,
    within image old new t m.0.1.0 (will_fire image old t) most m.0.1.1 (sym h) less,
  )
  all_ok image old new t rs took.Asks k most s le serves less m h = grind (
    arith,
    arrives_serves k old new t
        s serves m.3.0,
    within image old new t m.3.1.0 (will_fire image old t) most m.3.1.1 (sym h) less,
  )
  all_ok image old new t rs took.Old k most s le serves less m h = grind (arith, same_serves)
  all_ok image old new t rs took.NoMemory k most s le serves less m h = grind (arith, same_serves)
