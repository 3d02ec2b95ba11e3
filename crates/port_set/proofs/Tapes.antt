-- What a tape gives: the word behind those that it gave, or 0 at the end.
use Rattle.std.proofs.Common.{◌+◌, ◌<◌, ◌≤◌, ℕ, zero, suc, List, [], ◌∷◌, Some, length, drop, slice_index}
use Rattle.std.proofs.Common.{refl, arith, add-one}
use Rattle.port_set.specs.Ports.{Gives}

gives_suc : (words : List ℕ) (given : ℕ) → given < length words → Gives (Some (drop given words))
    (slice_index words given) (Some (drop (suc given) words))
gives_suc [] given lt = absurd (omega arith)
gives_suc (x ∷ words) zero lt = (refl, refl)
gives_suc (x ∷ words) (suc given) lt = gives_suc words given (omega arith)

pub gives_next : (words : List ℕ) (given : ℕ) → given < length words
    → Gives (Some (drop given words)) (slice_index words given) (Some (drop (given + 1) words))
gives_next words given lt = rw (add-one given) (gives_suc words given lt)

pub gives_none : (words : List ℕ) (given : ℕ) → length words ≤ given → Gives (Some (drop given words)) 0
    (Some (drop given words))
gives_none [] zero le = (refl, refl)
gives_none [] (suc given) le = (refl, refl)
gives_none (x ∷ words) zero le = absurd (omega arith)
gives_none (x ∷ words) (suc given) le = gives_none words given (omega arith)
