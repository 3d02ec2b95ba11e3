-- Tables that serve apart are one part of the core's state.
use Rattle.std.proofs.Common.{◌≡◌, ◌+◌, ◌<◌, ◌%◌, ◌⊎◌, inl, inr, ℕ, zero, suc, List, [], ◌∷◌, ◌++◌, All}
use Rattle.std.proofs.Common.{length, slice_index_or, subst, arith}
use Rattle.std.proofs.lemmas.List.Elements.{All-from_get_or}
use Rattle.ws_words.specs.Outside.{World}
use Rattle.ws_isa.specs.Image.{Image}
use Rattle.df_core.specs.Core.{Key, HasFired, Once, operands_in}
use Rattle.df_core.specs.Shown.{TablesOk}
use Rattle.match_table.specs.Tables.{held, part, TableContent}
use Rattle.match_table.specs.Limits.{Serves}
use Rattle.match_table.proofs.FiredPlaces.{none_fired, fired_there}
use Rattle.match_table.specs.Together.{ServeFrom, all_fired, together}
use Rattle.match_table.proofs.Served.{past_serves}
use Rattle.match_table.proofs.Halves.{nothing_in}
use Rattle.match_table.proofs.Kept.{fresh_ok, table_part}
use Rattle.match_table.specs.Growth.{content_at, no_content}
use Rattle.df_core.proofs.Parts.StandsMatch.{gather_agree as gather_same}

pub fired_left : (ks ls : List Key) (w i : ℕ) → HasFired ks w i → HasFired (ks ++ ls) w i
fired_left [] ls w i h = absurd h
fired_left (k ∷ ks) ls w i (inl h) = inl h
fired_left (k ∷ ks) ls w i (inr h) = inr (fired_left ks ls w i h)

pub fired_right : (ks ls : List Key) (w i : ℕ) → HasFired ls w i → HasFired (ks ++ ls) w i
fired_right [] ls w i h = h
fired_right (k ∷ ks) ls w i h = inr (fired_right ks ls w i h)

pub fired_cases : (ks ls : List Key) (w i : ℕ) → HasFired (ks ++ ls) w i → HasFired ks w i ⊎ HasFired ls w i
fired_cases [] ls w i h = inr h
fired_cases (k ∷ ks) ls w i (inl h) = inl (inl h)
fired_cases (k ∷ ks) ls w i (inr h) = grind (arith, fired_cases ks ls w i h)

once_append : (ks ls : List Key) → Once ks → Once ls → ((w i : ℕ) → HasFired ks w i → HasFired ls w i → ⊥)
    → Once (ks ++ ls)
once_append [] ls a b apart = b
once_append (k ∷ ks) ls a b apart = (
    grind (arith, fired_cases, once_append ks ls a.1 b (λ w i x y. apart w i (inr x) y)))

module _ (image : Image) (world : World) where
  -- what is true of tables from a number on
  abbrev pub PartsOk : ℕ → List TableContent → Type 0
  PartsOk n [] = Unit {0}
  PartsOk n (c ∷ cs) = (Serves n c × TablesOk image world (part c) × Once c.fired) × PartsOk (suc n) cs

  -- tables that serve apart, of each of which that is true
  pub parts_from : (n : ℕ) (cs : List TableContent) → ServeFrom n cs
      → ((k : ℕ) → k < length cs → TablesOk image world (part (content_at cs k)) × Once
      (content_at cs k).fired) → PartsOk n cs
  parts_from n [] s each = tt
  parts_from n (c ∷ cs) s each = let h = each 0 (omega arith) in
      ((s.0, h.0, h.1), parts_from (suc n) cs s.1 (λ k lt. each (suc k) (omega (arith, lt))))

  none_ok : TablesOk image world (part no_content)
  none_ok = table_part image world no_content.entries [] []
      (fresh_ok image world no_content.entries (nothing_in []))

  number_is : (n : ℕ) (c : TableContent) → Serves n c → TablesOk image world (part c) → (w i : ℕ)
      → HasFired c.fired w i → (w + i) % 16 ≡ n
  number_is n c s ok w i f = let e = ok.fired_full w i f in let h = e.1 0 e.0 in s w i 0 h.0 h.1

  record At (n : ℕ) (cs : List TableContent) (w i : ℕ) : Type 0 where
    pub place : ℕ
    pub below : place < length cs
    pub fired : HasFired (content_at cs place).fired w i
    pub number : (w + i) % 16 ≡ n + place

  find : (n : ℕ) (cs : List TableContent) → PartsOk n cs → (w i : ℕ) → HasFired (all_fired cs) w i
      → At n cs w i
  find n [] ok w i h = absurd h
  find n (c ∷ cs) ok w i h = elim (fired_cases c.fired (all_fired cs) w i h) [
    | inl x ↦
        (let e = number_is n c ok.0.0 ok.0.1 w i x in grind arith)
    | inr x ↦ (let r = find (suc n) cs ok.1 w i x in let e = r.number in let b = r.below in
        record { place = suc r.place; below = omega (arith, b); fired = r.fired; number = omega (arith, e) })
  ]

  fired_at : (cs : List TableContent) (k w i : ℕ) → HasFired (content_at cs k).fired w i
      → HasFired (all_fired cs) w i
  fired_at (c ∷ cs) (suc k) w i h = grind (arith, fired_right, c.fired, fired_at cs k w i h)
  fired_at cs k w i h = grind (arith, fired_left)

  part_ok : (n : ℕ) (cs : List TableContent) → PartsOk n cs → (k : ℕ)
      → TablesOk image world (part (content_at cs k))
  part_ok n (c ∷ cs) ok (suc k) = part_ok (suc n) cs ok.1 k
  part_ok n cs ok k = grind (arith, none_ok)

  serves : (n : ℕ) (cs : List TableContent) → PartsOk n cs → (k : ℕ) → Serves (n + k) (content_at cs k)
  serves n (c ∷ cs) ok (suc k) = grind (arith, serves (suc n) cs ok.1 k)
  serves n (c ∷ cs) ok zero = subst (λ m. Serves m c) (omega arith) ok.0.0
  serves n [] ok k = past_serves (n + k) k

  all_once : (n : ℕ) (cs : List TableContent) → PartsOk n cs → Once (all_fired cs)
  all_once n [] ok = tt
  all_once n (c ∷ cs) ok = once_append c.fired (all_fired cs) ok.0.2 (all_once (suc n) cs ok.1)
      (λ w i x y. let e = number_is n c ok.0.0 ok.0.1 w i x in let r = find (suc n) cs ok.1 w i y in
      let f = r.number in absurd (omega (arith, e, f)))

  module _ (cs : List TableContent) (ok : PartsOk 0 cs) where
    here : (w i : ℕ) → TablesOk image world (part (content_at cs ((w + i) % 16)))
    here w i = part_ok 0 cs ok ((w + i) % 16)

    pub union_ok : TablesOk image world (together cs)
    union_ok = record {
      right = λ w i p v e. (here w i).right w i p v e;
      fired_full = λ w i f. (let a = find 0 cs ok w i f in
          (here w i).fired_full w i (rw (← let e = a.number in let g : a.place ≡ (w + i) % 16 = omega
          (arith, e) in g) a.fired));
      full_fired = λ w i some full. fired_at cs ((w + i) % 16) w i ((here w i).full_fired w i some full);
    }

    same_held : (k w i : ℕ) → (w + i) % 16 ≡ k → operands_in image (held (content_at cs k)) w i ≡ operands_in
        image (together cs).held w i
    same_held k w i e = grind (arith, gather_same)

    -- the operands that a table holds of those that it lists are those that all hold together
    pub union_held : (k : ℕ)
        → All (λ (f : Key). operands_in image (held (content_at cs k)) f.wave f.instr ≡ operands_in image
        (together cs).held f.wave f.instr) (content_at cs k).fired
    union_held k = All-from_get_or (λ (f : Key). operands_in image (held (content_at cs k)) f.wave f.instr
        ≡ operands_in image (together cs).held f.wave f.instr) (content_at cs k).fired none_fired
        (λ j within. (let f : Key = slice_index_or (content_at cs k).fired j none_fired in
        let e = number_is (0 + k) (content_at cs k) (serves 0 cs ok k) (part_ok 0 cs ok k) f.wave f.instr
        (fired_there (content_at cs k).fired j within) in
        same_held k f.wave f.instr (omega (arith, e))))

    pub union_once : Once (together cs).fired
    union_once = all_once 0 cs ok

-- where an instance that is listed stands
pub listed_at : (cs : List TableContent) (w i : ℕ) → HasFired (all_fired cs) w i → (k : ℕ) × (k < length cs)
    × HasFired (content_at cs k).fired w i
listed_at [] w i h = absurd h
listed_at (c ∷ cs) w i h = elim (fired_cases c.fired (all_fired cs) w i h) [
  | inl x ↦ (0, (let lt : 0 < length (c ∷ cs) = omega arith in lt), x)
  | inr x ↦
      (let r = listed_at cs w i x in
      (suc r.0, (let b = r.1 in let lt : suc r.0 < length (c ∷ cs) = omega (arith, b) in lt), r.2))
]
