-- Lemmas on results.
use Rattle.std.proofs.Common.{Result, Ok, Err, OnOk, OnErr}

-- what follows from the fact follows where the answer is Ok
pub on_ok : {A E : Type 0} {P Q : Type 0} (r : Result A E) → (P → Q) → OnOk r P → OnOk r Q
on_ok (Ok x) f h = f h
on_ok (Err e) f h = h

-- what is so in any case
pub on_err : {A E : Type 0} {X : Type 0} (r : Result A E) → X → OnErr r X
on_err (Ok a) h = tt
on_err (Err e) h = h
