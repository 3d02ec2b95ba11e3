-- The value of digits, byte by byte.
use Rattle.std.proofs.Common.{◌≡◌, ℕ, ◌+◌, ◌-◌, ◌*◌, ◌<◌, ◌≤◌, List, [], ◌∷◌, ◌++◌, length, take, drop}
use Rattle.std.proofs.Common.{get_or, ap, arith}
use Rattle.std.proofs.lemmas.List.{take_more, take-append-drop}
use Rattle.ws_words.specs.Digits.{value_from, value_of}
use Rattle.ws_words.proofs.Lists.{value_from-append}

-- more digits never make less
value_from-ge : (n : ℕ) (ds : List ℕ) → n ≤ value_from n ds
value_from-ge n [] = omega arith
value_from-ge n (d ∷ ds) = let rest : 10 * n + (d - 48) ≤ value_from (10 * n + (d - 48)) ds =
    value_from-ge (10 * n + (d - 48)) ds in omega arith

-- one digit more
pub value_of_more : (bs : List ℕ) (i : ℕ) → i < length bs → value_of (take (i + 1) bs) ≡ 10 * value_of
    (take i bs) + (get_or bs i 0 - 48)
value_of_more bs i h = rw (take_more bs i 0 h) (value_from-append 0 (take i bs) (get_or bs i 0 ∷ []))

-- a front has no more than the whole
pub value_of_front : (bs : List ℕ) (i : ℕ) → value_of (take i bs) ≤ value_of bs
value_of_front bs i =
    let whole : value_of (take i bs ++ drop i bs) ≡ value_from (value_of (take i bs)) (drop i bs) =
    value_from-append 0 (take i bs) (drop i bs) in
    let same : value_of (take i bs ++ drop i bs) ≡ value_of bs = ap value_of (take-append-drop i bs) in
    omega (arith, value_from-ge (value_of (take i bs)) (drop i bs))
