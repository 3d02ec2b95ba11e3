-- An answer that is Ok has what its one value has.
use Rattle.std.proofs.Common.{◌≡◌, Result, Ok, Err, IfOk, Option, Some, None, is_some, MatchOption, true}
use Rattle.std.proofs.Common.{false, refl, sym, subst}
use Rattle.std.proofs.lemmas.Bool.{both_ways}

pub ok_so : {A E : Type 0} (P : A → Type 0) (y : A) (r : Result A E) → IfOk r (λ x. x ≡ y) → P y → IfOk r P
ok_so P y (Ok x) e p = subst P (sym e) p
ok_so P y (Err x) e p = tt

pub none_if : {A : Type 0} (o : Option A) (P : Type 0) (Q : A → Type 0) → is_some o ≡ false
    → MatchOption o P Q → P
none_if None P Q e m = m
none_if (Some x) P Q e m = absurd (both_ways true e refl)
