-- Calls among the first blocks, one block more.
use Rattle.std.proofs.Common.{ℕ, suc, ◌+◌, ◌≡◌, ◌<◌, ◌≤◌, ◌||◌, nat_lt, Bool, if◌then◌else◌, List, [], ◌∷◌}
use Rattle.std.proofs.Common.{◌++◌, length, map, take, get_or, refl, sym, ap, ◌∙◌, arith}
use Rattle.std.proofs.lemmas.List.{take_all}
use Rattle.cfg_core.specs.Graph.{Graph, Exit, Spot, Stop, no_spot, spots, spot_at}
use Rattle.call_gen.specs.Spelled.{count_of, some_of}
use Rattle.ws_words.specs.Items.{nth, or_else}

pub exit_of_none : {A : Type 0} (f : Exit → A) (s : Spot) → s ≡ no_spot → f Stop ≡ f s.block.exit
unfolding no_spot
exit_of_none f s e = sym (ap (λ (s : Spot). f s.block.exit) e)

pub take_next : (xs : List Spot) (b c : ℕ) → c ≡ suc b → b < length xs
    → take c xs ≡ take b xs ++ or_else (nth xs b) no_spot ∷ []
take_next xs b c e lt = ap (λ n. take n xs) e ∙ at xs b lt
  where
    at : (xs : List Spot) (b : ℕ) → b < length xs → take (suc b) xs ≡ take b xs ++ or_else (nth xs b) no_spot
        ∷ []
    at (x ∷ xs) (suc b) lt = ap (λ (zs : List Spot). x ∷ zs) (at xs b (omega arith))
    at xs b lt = grind arith

count_push : (p : Spot → Bool) (xs : List Spot) (s : Spot) → count_of p (xs ++ s ∷ []) ≡ count_of p xs
    + (if p s then 1 else 0)
count_push p [] s = omega arith
count_push p (x ∷ xs) s = omega (arith, count_push p xs s)

some_push : (p : Spot → Bool) (xs : List Spot) (s : Spot) → some_of p (xs ++ s ∷ []) ≡ (some_of p xs || p s)
some_push p [] s = grind arith
some_push p (x ∷ xs) s = grind (arith, some_push p xs s)

pub count_next : (g : Graph) (p : Spot → Bool) (b c : ℕ) → c ≡ suc b → b < length (spots g)
    → count_of p (take c (spots g)) ≡ count_of p (take b (spots g)) + (if p (spot_at g b) then 1 else 0)
unfolding spot_at
count_next g p b c e lt = ap (count_of p) (take_next (spots g) b c e lt)
    ∙ count_push p (take b (spots g)) (spot_at g b)

pub some_next : (g : Graph) (p : Spot → Bool) (b c : ℕ) → c ≡ suc b → b < length (spots g)
    → some_of p (take c (spots g)) ≡ (some_of p (take b (spots g)) || p (spot_at g b))
unfolding spot_at
some_next g p b c e lt = ap (some_of p) (take_next (spots g) b c e lt) ∙ some_push p (take b (spots g))
    (spot_at g b)

pub count_all : (g : Graph) (p : Spot → Bool) (n : ℕ) → length (spots g) ≤ n
    → count_of p (take n (spots g)) ≡ count_of p (spots g)
count_all g p n le = ap (count_of p) (take_all n (spots g) le)

pub some_all : (g : Graph) (p : Spot → Bool) (n : ℕ) → length (spots g) ≤ n
    → some_of p (take n (spots g)) ≡ some_of p (spots g)
some_all g p n le = ap (some_of p) (take_all n (spots g) le)

pub some_count : (p : Spot → Bool) (xs : List Spot) → nat_lt 0 (count_of p xs) ≡ some_of p xs
some_count p [] = refl
some_count p (x ∷ xs) = grind (arith, some_count p xs)

pub home_of : (xs : List Spot) (b : ℕ) → b < length xs → get_or (map (λ (s : Spot). s.home) xs) b 0
    ≡ (or_else (nth xs b) no_spot).home
home_of (x ∷ xs) (suc b) lt = home_of xs b (omega arith)
home_of xs b lt = grind arith

pub one_at_most : (b : Bool) → (if b then 1 else 0) ≤ 1
one_at_most b = grind arith

pub home_at : (g : Graph) (homes : List ℕ) (b : ℕ) → homes ≡ map (λ (s : Spot). s.home) (spots g)
    → b < length (spots g) → get_or homes b 0 ≡ (spot_at g b).home
unfolding spot_at
home_at g homes b e lt = ap (λ (ns : List ℕ). get_or ns b 0) e ∙ home_of (spots g) b lt
