-- Blanks and comments in front of a text.
use Rattle.std.specs.Prelude.{◌≡◌, ℕ, suc, ◌+◌, ◌≤◌, ◌<◌, ◌==◌, not, length, cond, true, false, IsTrue, ◌&&◌}
use Rattle.std.specs.Prelude.{List, [], ◌∷◌, ◌++◌, refl}
use Rattle.std.specs.List.{list_all, prefix_len}
use Rattle.std.proofs.Common.{take, drop, arith}
use Rattle.std.proofs.Math.Seq.{take-add}
use Rattle.std.proofs.lemmas.Bool.{both_ways}
use Rattle.std.proofs.lemmas.List.Sums.{prefix_len-le-length}
use Rattle.src_ast.specs.Lexemes.{is_gap, is_comment, is_blank}
use Rattle.ws_words.specs.Letters.{not_feed}

mutual
  -- two gaps in a row are a gap
  pub gap_append : (g h : List ℕ) → IsTrue (is_gap g) → IsTrue (is_gap h) → IsTrue (is_gap (g ++ h))
  gap_append [] h p q = q
  gap_append (b ∷ g) h p q =
      (elim (is_blank b) as (λ t. IsTrue (cond t (is_gap g) ((b == 35) && is_comment g))
      → IsTrue (cond t (is_gap (g ++ h)) ((b == 35) && is_comment (g ++ h)))) [
        | true ↦ λ p. gap_append g h p q
        | false ↦
            λ p. (elim (b == 35) as (λ t. IsTrue (t && is_comment g) → IsTrue (t && is_comment (g ++ h))) [
              | true ↦ λ p. comment_append g h p q
              | false ↦ λ p. p
            ]) p
      ]) p

  pub comment_append : (g h : List ℕ) → IsTrue (is_comment g) → IsTrue (is_gap h)
      → IsTrue (is_comment (g ++ h))
  comment_append [] h p q = absurd (both_ways false refl p)
  comment_append (b ∷ g) h p q =
      (elim (b == 10) as (λ t. IsTrue (cond t (is_gap g) (is_comment g))
      → IsTrue (cond t (is_gap (g ++ h)) (is_comment (g ++ h)))) [
        | true ↦ λ p. gap_append g h p q
        | false ↦ λ p. comment_append g h p q
      ]) p

pub gap_more : (xs : List ℕ) (i n : ℕ) → IsTrue (is_gap (take i xs)) → IsTrue (is_gap (take n (drop i xs)))
    → IsTrue (is_gap (take (i + n) xs))
gap_more xs i n p q = rw (take-add i n xs) (gap_append (take i xs) (take n (drop i xs)) p q)

shift : (n : ℕ) → 1 + n + 1 ≡ suc (n + 1)
shift n = omega arith

-- a line that ends: with its line feed it is the rest of a comment
pub comment_closed : (xs : List ℕ) → prefix_len not_feed xs < length xs
    → IsTrue (is_comment (take (prefix_len not_feed xs + 1) xs))
comment_closed [] h = absurd (omega arith)
comment_closed (x ∷ xs) h =
    let n = prefix_len not_feed xs in
    (elim (x == 10) as (λ t. (x == 10) ≡ t → cond (not t) (1 + n) 0 < length (x ∷ xs)
    → IsTrue (is_comment (take (cond (not t) (1 + n) 0 + 1) (x ∷ xs)))) [
      | true ↦ λ e h. rw e refl
      | false ↦ λ e h. rw (shift n, e) (comment_closed xs (omega arith))
    ]) refl h

-- a line that the end of the text closes
pub comment_open : (xs : List ℕ) → length xs ≤ prefix_len not_feed xs → IsTrue (list_all not_feed xs)
comment_open [] h = refl
comment_open (x ∷ xs) h =
    let n = prefix_len not_feed xs in
    (elim (not_feed x) as (λ t. length (x ∷ xs) ≤ cond t (1 + n) 0 → IsTrue (t && list_all not_feed xs)) [
      | true ↦ λ h. comment_open xs (omega arith)
      | false ↦ λ h. absurd (omega arith)
    ]) h

-- a line that ends is no comment to the end of the text
pub comment_ends : (xs : List ℕ) → prefix_len not_feed xs < length xs → list_all not_feed xs ≡ false
comment_ends [] h = absurd (omega arith)
comment_ends (x ∷ xs) h =
    let n = prefix_len not_feed xs in
    (elim (not_feed x) as (λ t. cond t (1 + n) 0 < length (x ∷ xs) → (t && list_all not_feed xs) ≡ false) [
      | true ↦ λ h. comment_ends xs (omega arith)
      | false ↦ λ h. refl
    ]) h

pub ruleset pieces = (comment_closed, comment_open)

pub ruleset gaps = (gap_more)

pub ruleset ends = (comment_open, comment_ends, prefix_len-le-length)
