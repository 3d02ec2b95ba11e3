-- One piece after another: what several calls took away or added.
use Rattle.std.proofs.Common.{◌≡◌, ℕ, ◌+◌, List, ◌++◌, take, drop, Option, Some, None, sym, ap, ◌∙◌}
use Rattle.std.proofs.Common.{append_assoc, subst, refl}
use Rattle.std.proofs.lemmas.List.{take-append-drop}
use Rattle.std.proofs.Math.Seq.{take-add}
use Rattle.ws_io.specs.Streams.{Takes, Adds}

pub Adds-more : (a : Option (List ℕ)) (xs : List ℕ) (b : Option (List ℕ)) (ys : List ℕ) (c : Option (List ℕ))
    → Adds a xs b → Adds b ys c → Adds a (xs ++ ys) c
Adds-more None xs b ys c first second = let P : Option (List ℕ) → Type 0 = λ o. Adds o ys c in
    subst P first second
Adds-more (Some held) xs b ys c first second =
    let P : Option (List ℕ) → Type 0 = λ o. Adds o ys c in
    let there : Adds (Some (held ++ xs)) ys c = subst P first second in
    there ∙ ap Some (append_assoc held xs ys)

-- a front is added, and then the next piece
pub Adds-front : (a b c : Option (List ℕ)) (xs : List ℕ) (i n : ℕ) → Adds a (take i xs) b
    → Adds b (take n (drop i xs)) c → Adds a (take (i + n) xs) c
Adds-front a b c xs i n first second =
    rw (take-add i n xs) (Adds-more a (take i xs) b (take n (drop i xs)) c first second)

pub Takes-more : (a : Option (List ℕ)) (xs : List ℕ) (b : Option (List ℕ)) (ys : List ℕ) (c : Option (List ℕ))
    → Takes a xs b → Takes b ys c → Takes a (xs ++ ys) c
Takes-more None xs b ys c first second = let P : Option (List ℕ) → Type 0 = λ o. Takes o ys c in
    subst P first second
Takes-more (Some left) xs b ys c first second =
    let P : Option (List ℕ) → Type 0 = λ o. Takes o ys c in
    let there : Takes (Some first.0) ys c = subst P first.2 second in
    (there.0, first.1 ∙ ap (λ (r : List ℕ). xs ++ r) there.1 ∙ sym (append_assoc xs ys there.0), there.2)

-- a front was taken
pub Takes-front : (left : List ℕ) (n : ℕ) (piece after : List ℕ) → piece ≡ take n left → after ≡ drop n left
    → Takes (Some left) piece (Some after)
Takes-front left n piece after front rest =
    (after, sym (take-append-drop n left) ∙ sym (rw (front, rest) refl), refl)
