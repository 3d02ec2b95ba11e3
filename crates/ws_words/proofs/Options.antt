-- Lemmas on options.
use Rattle.std.proofs.Common.{◌≡◌, ℕ, is_none, true, Option, Some, None, refl}
use Rattle.std.proofs.lemmas.Bool.{false≢true}

pub none_of : (o : Option ℕ) → is_none o ≡ true → o ≡ None
none_of None e = refl
none_of (Some n) e = absurd (false≢true e)

pub some_same : {A : Type 0} {x y : A} → Some x ≡ Some y → x ≡ y
some_same e = cc
