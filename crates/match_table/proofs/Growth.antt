-- A table grows where it takes a token.
use Rattle.std.proofs.Common.{arith, ◌≡◌, ⊎_elim, ℕ, List, [], ◌∷◌, Some, append-nil}
use Rattle.std.proofs.Common.{append_assoc, length, suc, sym, ap, ◌∙◌}
use Rattle.ws_isa.specs.Image.{Image, Token}
use Rattle.df_core.specs.Core.{with_at}
use Rattle.df_core.proofs.Keeping.Ports.{SamePlace, with_at_cases}
use Rattle.match_table.specs.Pages.{Paged}
use Rattle.match_table.specs.declared.table.Results.{Results}
use Rattle.match_table.specs.declared.table.Took.{Took}
use Rattle.match_table.specs.declared.table.Took.TheVariants as took
use Rattle.match_table.specs.Matching.{Arrives, TookAs}
use Rattle.match_table.specs.Tables.{held, held_in, TableContent}
use Rattle.match_table.specs.Growth.{Grows, AllGrow}

pub grows_same : (c : TableContent) → Grows c c
grows_same c = record { keeps = λ w i p v e. e; goes_on = ([], sym (append-nil c.fired)) }

pub grows_on : (a b c : TableContent) → Grows a b → Grows b c → Grows a c
grows_on a b c g h = grind (arith, h.keeps, g.keeps, append_assoc, a.fired)

pub all_grow_same : (cs : List TableContent) → AllGrow cs cs
all_grow_same [] = tt
all_grow_same (c ∷ cs) = (grows_same c, all_grow_same cs)

pub all_grow_on : (xs ys zs : List TableContent) → AllGrow xs ys → AllGrow ys zs → AllGrow xs zs
all_grow_on (x ∷ xs) (y ∷ ys) (z ∷ zs) g h = (grows_on x y z g.0 h.0, all_grow_on xs ys zs g.1 h.1)
all_grow_on xs ys zs g h = grind arith

pub grow_many : (xs ys : List TableContent) → AllGrow xs ys → length ys ≡ length xs
grow_many (x ∷ xs) (y ∷ ys) g = ap suc (grow_many xs ys g.1)
grow_many xs ys g = grind arith

arrives_keeps : (old new : TableContent) (t : Token) → Arrives old t new → (w i p v : ℕ)
    → held old w i p ≡ Some v → held new w i p ≡ Some v
arrives_keeps old new t a w i p v e = ⊎_elim
    (λ (y : SamePlace t.wave t.instr t.port w i p × (with_at t.wave t.instr t.port (Some t.value)
    (held old) w i p ≡ Some t.value)).
    absurd (grind arith))
    (λ (n : (SamePlace t.wave t.instr t.port w i p → ⊥) × (with_at t.wave t.instr t.port (Some t.value)
    (held old) w i p ≡ held old w i p)). a.more w i p ∙ n.1 ∙ e)
    (with_at_cases t.wave t.instr t.port (Some t.value) (held old) w i p)

same_keeps : (old new : TableContent) → new.entries ≡ old.entries → (w i p v : ℕ) → held old w i p ≡ Some v
    → held new w i p ≡ Some v
same_keeps old new e w i p v h = ap (λ (x : Paged). held_in x w i p) e ∙ h

module _ {J : Type 0} where
  pub all_grows : (image : Image) (old new : TableContent) (t : Token) (rs : Results J) (answer : Took)
      → TookAs image old t new rs answer → Grows old new
  all_grows image old new t rs took.Waits m =
      grind (arith, arrives_keeps old new t m.0.0, append-nil old.fired)
  all_grows image old new t rs took.Fires m = grind (arith, arrives_keeps old new t m.0.0)
  all_grows image old new t rs took.Asks m = grind (arith, arrives_keeps old new t m.3.0)
  all_grows image old new t rs took.Old m = grind (arith, grows_same old)
  all_grows image old new t rs took.NoMemory m = grind (arith, same_keeps, append-nil)
