-- The entries of a page, from the numbers that say which ports have had values, and these.
use Rattle.std.proofs.Common.{◌≡◌, ◌<◌, ◌/◌, ◌%◌, eqb, ℕ, suc, Bool, true, List, ◌∷◌, length, get_or}
use Rattle.std.proofs.Common.{set, ap}
use Rattle.std.proofs.Common.{arith}
use Rattle.match_table.specs.declared.entry.Half.{Half}
use Rattle.match_table.specs.declared.entry.PageName.{PageName}
use Rattle.match_table.specs.declared.entry.Pair.{Pair}
use Rattle.match_table.specs.Pages.{PageContent, all_halves, code_of, had_of, half_of}
use Rattle.match_table.specs.Ports.{none_half, set_half}

pub entry_of : (ns : List ℕ) (vs : List Pair) (k n : ℕ) (v : Pair) (d : Half) → k < length ns
    → k < length vs → half_of (get_or ns k n) (get_or vs k v) ≡ get_or (all_halves ns vs) k d
entry_of (x ∷ ns) (y ∷ vs) (suc k) n v d lt lt' =
    entry_of ns vs k n v d (omega (arith, lt)) (omega (arith, lt'))
entry_of v0 v1 v2 v3 v4 v5 v6 v7 = grind arith

entry_set : (ns : List ℕ) (vs : List Pair) (k n : ℕ) (v : Pair)
    → all_halves (set ns k n) (set vs k v) ≡ set (all_halves ns vs) k (half_of n v)
entry_set (x ∷ ns) (y ∷ vs) (suc k) n v = ap (λ l. half_of x y ∷ l) (entry_set ns vs k n v)
entry_set v0 v1 v2 v3 v4 = grind arith

-- the entry at a place
abbrev pub entry : List ℕ → List Pair → ℕ → Half
entry ns vs k = half_of (get_or ns k 0) (get_or vs k (record { first = 0; second = 0 }))

-- a value more at the first port, or at the second
pub first_more : (m n word : ℕ) (wide : Bool) (v : Pair) → had_of n ≡ record (had_of m) { first = true }
    → eqb (n / 8 % 2) 1 ≡ wide → n / 16 % 2 ≡ m / 16 % 2
    → half_of n (record { first = word; second = v.second }) ≡ set_half (half_of m v) 0 (code_of wide word)
first_more m n word wide v had first second j = record {
  had = had j;
  first = code_of (first j) word;
  second = code_of (eqb (second j) 1) v.second;
}

pub second_more : (m n word : ℕ) (wide : Bool) (v : Pair) → had_of n ≡ record (had_of m) { second = true }
    → n / 8 % 2 ≡ m / 8 % 2 → eqb (n / 16 % 2) 1 ≡ wide
    → half_of n (record { first = v.first; second = word }) ≡ set_half (half_of m v) 1 (code_of wide word)
second_more m n word wide v had first second j = record {
  had = had j;
  first = code_of (eqb (first j) 1) v.first;
  second = code_of (second j) word;
}

pub third_more : (m n code : ℕ) (v : Pair) → had_of n ≡ record (had_of m) { third = true }
    → n / 8 % 2 ≡ m / 8 % 2 → n / 16 % 2 ≡ m / 16 % 2 → half_of n v ≡ set_half (half_of m v) 2 code
third_more m n code v had first second j = record {
  had = had j;
  first = code_of (eqb (first j) 1) v.first;
  second = code_of (eqb (second j) 1) v.second;
}

-- entries of which one has had one value more
pub value_set : (ns : List ℕ) (vs : List Pair) (k p code n : ℕ) (next : Pair) (now : PageContent)
    → all_halves ns vs ≡ now.entries → length ns ≡ 16 → length vs ≡ 16 → k < 16
    → half_of n next ≡ set_half (entry ns vs k) p code
    → all_halves (set ns k n) (set vs k next)
    ≡ set now.entries k (set_half (get_or now.entries k none_half) p code)
value_set ns vs k p code n next now is had values below more = grind (arith, entry_set, entry_of)

-- or a value of the third port has come
had_set : (ns : List ℕ) (vs : List Pair) (k n : ℕ) (v : Pair) → k < length ns → k < length vs
    → all_halves (set ns k n) vs ≡ set (all_halves ns vs) k (half_of n (get_or vs k v))
had_set (x ∷ ns) (y ∷ vs) (suc k) n v lt lt' =
    ap (λ l. half_of x y ∷ l) (had_set ns vs k n v (omega (arith, lt)) (omega (arith, lt')))
had_set v0 v1 v2 v3 v4 v5 v6 = grind arith

pub third_set : (ns : List ℕ) (vs : List Pair) (k p code n : ℕ) (now : PageContent)
    → all_halves ns vs ≡ now.entries → length ns ≡ 16 → length vs ≡ 16 → k < 16
    → half_of n (get_or vs k (record { first = 0; second = 0 })) ≡ set_half (entry ns vs k) p code
    → all_halves (set ns k n) vs ≡ set now.entries k (set_half (get_or now.entries k none_half) p code)
third_set ns vs k p code n now is had values below more = grind (arith, had_set, entry_of)

-- a page with other entries
pub page_is : (name : PageName) (even odd : ℕ) (before after now : List Half) (page : PageContent)
    → record { name = name; even = even; odd = odd; entries = before } ≡ page → after ≡ now
    → record { name = name; even = even; odd = odd; entries = after } ≡ record page { entries = now }
page_is name even odd before after now page is more j =
    record { name = (is j).name; even = (is j).even; odd = (is j).odd; entries = more j }
