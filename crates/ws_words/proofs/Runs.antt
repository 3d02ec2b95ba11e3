-- The longest run of bytes that pass a test.
use Rattle.std.proofs.Common.{ℕ, ◌+◌, ◌≡◌, Bool, true, false, IsTrue, cond, List, [], ◌∷◌, take, drop, refl}
use Rattle.std.specs.List.{list_all, prefix_len}
use Rattle.ws_words.specs.Letters.{starts_without}
use Rattle.ws_words.proofs.Numbers.{one_more}

-- its bytes pass the test
pub prefix_all : (p : ℕ → Bool) (xs : List ℕ) → IsTrue (list_all p (take (prefix_len p xs) xs))
prefix_all p [] = refl
prefix_all p (x ∷ xs) =
    (elim (p x) as (λ b. p x ≡ b → IsTrue (list_all p (take (cond b (1 + prefix_len p xs) 0) (x ∷ xs))))
    [ true ↦ λ e. rw (one_more (prefix_len p xs), e) (prefix_all p xs) | false ↦ λ e. refl ]) refl

-- the byte behind it doesn't
pub prefix_stops : (p : ℕ → Bool) (xs : List ℕ) → IsTrue (starts_without p (drop (prefix_len p xs) xs))
prefix_stops p [] = refl
prefix_stops p (x ∷ xs) =
    (elim (p x) as (λ b. p x ≡ b → IsTrue (starts_without p (drop (cond b (1 + prefix_len p xs) 0) (x ∷ xs))))
    [ true ↦ λ e. rw (one_more (prefix_len p xs)) (prefix_stops p xs) | false ↦ λ e. rw e refl ]) refl
