-- What operations write, others after them or before them write too.
use Rattle.std.proofs.Common.{ℕ, List, [], ◌∷◌, ◌++◌, inl, inr}
use Rattle.cfg_core.specs.Graph.{Op}
use Rattle.live_vars.specs.Live.{WrittenIn}

pub written_left : (xs ys : List Op) (x : ℕ) → WrittenIn xs x → WrittenIn (xs ++ ys) x
written_left [] ys x w = absurd w
written_left (op ∷ xs) ys x (inl o) = inl o
written_left (op ∷ xs) ys x (inr o) = inr (written_left xs ys x o)

pub written_right : (xs ys : List Op) (x : ℕ) → WrittenIn ys x → WrittenIn (xs ++ ys) x
written_right [] ys x w = w
written_right (op ∷ xs) ys x w = inr (written_right xs ys x w)
