-- Waves in the draft's order.
use Rattle.std.proofs.Common.{ℕ, suc, ◌+◌, ◌-◌, ◌≡◌, ◌<◌, ◌≤◌, Bool, true, cond, ltb, length, slice_index}
use Rattle.std.proofs.Common.{refl, sym, ap, ◌∙◌, inl, inr, arith}
use Rattle.std.proofs.lemmas.Bool.{cases_lt, lt-ltb, le-ltb}
use Rattle.cfg_core.specs.Graph.{Graph, spots}
use Rattle.cfg_core.specs.Rules.{IsGraph}
use Rattle.wave_cut.specs.Cut.{Cut, wave, head, is_first, IsCut, InsidePath, one, more}
use Rattle.wave_gen.specs.Listing.{turned}
use Rattle.wave_gen.specs.Fitting.{Fits}
use Rattle.wave_gen.proofs.OfGraphs.Chains.{HeadIs, Waving}
use Rattle.wave_gen.proofs.Walking.Keeping_walks.{main_entry}
use Rattle.wave_link.proofs.Grown.GrownEdges.{not_true}
use Rattle.ws_words.proofs.Acts.{equal as same_test}
use Rattle.cfg_core.specs.Weights.{first_block}

-- n waves of which the one with number s comes first
abbrev turn : ℕ → ℕ → ℕ → ℕ
turn s n w = cond (ltb w s) (w + n - s + 1) (w - s + 1)

turn_low : (s n w : ℕ) → w < s → turn s n w ≡ w + n - s + 1
turn_low s n w l = rw (lt-ltb w s l) refl

turn_high : (s n w : ℕ) → s ≤ w → turn s n w ≡ w - s + 1
turn_high s n w l = rw (le-ltb w s l) refl

turn_lies : (s n w : ℕ) → 1 ≤ s → s ≤ n → 1 ≤ w → w ≤ n → (1 ≤ turn s n w) × (turn s n w ≤ n)
turn_lies s n w o a b c = grind (arith, cases_lt, turn, turn_low, turn_high)

turn_once : (s n v w : ℕ) → 1 ≤ s → s ≤ n → 1 ≤ v → v ≤ n → 1 ≤ w → w ≤ n → turn s n v ≡ turn s n w → v ≡ w
turn_once s n v w a a' b b' c c' f = grind (arith, cases_lt, turn, turn_low, turn_high)

turn_back : (s n k : ℕ) → 1 ≤ s → s ≤ n → 1 ≤ k → k ≤ n → (w : ℕ) × (w < n) × (turn s n (suc w) ≡ k)
turn_back s n k a b c d = elim (cases_lt (n - s + 1) k) [
  | inl l ↦ (let v : suc (k + s - 2 - n) < s = omega (arith, l, a, b, c, d) in
      let e : turn s n (suc (k + s - 2 - n)) ≡ suc (k + s - 2 - n) + n - s + 1 =
      turn_low s n (suc (k + s - 2 - n)) v in (
        k + s - 2 - n,
        omega (arith, l, a, b, c, d),
        omega (arith, e, l, a, b, c, d),
      ))
  | inr l ↦ (let v : s ≤ suc (k + s - 2) = omega (arith, l, a, b, c, d) in
      let e : turn s n (suc (k + s - 2)) ≡ suc (k + s - 2) - s + 1 = turn_high s n (suc (k + s - 2)) v in
      (k + s - 2, omega (arith, l, a, b, c, d), omega (arith, e, l, a, b, c, d)))
]

path_forward : (g : Graph) (cut : Cut) → IsCut g cut → (p b : ℕ) → InsidePath g cut p b
    → (p < b) × (is_first cut b ≡ true → ⊥)
path_forward g cut h _ _ (one p b l i) = ((h.inside p b l i).0, i.1)
path_forward g cut h _ _ (more p b c q l i) = grind (arith, path_forward g cut h p b q)

less : (v w : ℕ) → v ≡ suc w → v - 1 ≡ w
less v w e = omega (arith, e)

pub start_there : (g : Graph) → IsGraph g → first_block g < length (spots g)
start_there g r = (main_entry g r).0

module _ (g : Graph) (live : ℕ → ℕ → Bool) (cut : Cut) (fit : Fits g live cut) where
  start_lies : (1 ≤ wave cut (first_block g)) × (wave cut (first_block g) ≤ length cut.heads)
  start_lies = fit.cuts.lies (first_block g) (start_there g fit.graph)

  pub start_first : is_first cut (first_block g) ≡ true
  start_first = grind (arith, start_there)

  pub start_wave : turned g cut (first_block g) ≡ 1
  start_wave = grind (arith, turn, turn_high)

  -- blocks of one wave
  pub turned_same : (b c : ℕ) → wave cut b ≡ wave cut c → turned g cut b ≡ turned g cut c
  turned_same b c e = ap (turn (wave cut (first_block g)) (length cut.heads)) e

  head_is : (k : ℕ) → 1 ≤ k → k ≤ length cut.heads → HeadIs (length (spots g)) (turned g cut) (is_first cut) k
  head_is k a b = go (turn_back (wave cut (first_block g)) (length cut.heads) k start_lies.0 start_lies.1 a b)
    where
      go : (w : ℕ) × (w < length cut.heads) × (turn (wave cut (first_block g)) (length cut.heads) (suc w) ≡ k)
          → HeadIs (length (spots g)) (turned g cut) (is_first cut) k
      go (w, l, e) =
          let h = slice_index cut.heads w in
          let hw : wave cut h ≡ suc w = (fit.cuts.heads w l).1 in
          let hf : is_first cut h ≡ true =
          same_test (head cut h) h (ap (slice_index cut.heads) (less (wave cut h) w hw)) in
          record {
            block = h;
            there = (fit.cuts.heads w l).0;
            wave = ap (turn (wave cut (first_block g)) (length cut.heads)) hw ∙ e;
            first = hf;
            others = λ c u f. (
                let cw : wave cut c ≡ suc w = turn_once (wave cut (first_block g)) (length cut.heads)
                (wave cut c) (suc w) start_lies.0 start_lies.1 (fit.cuts.lies c u).0 (fit.cuts.lies c u).1
                (omega arith) (omega (arith, l)) (f ∙ sym e) in
                elim (fit.waves.reached c u) [
                  | inl cf ↦ inl (fit.waves.one_first c h cf hf (cw ∙ sym hw))
                  | inr p ↦ (let q = path_forward g cut fit.cuts (head cut c) c p in
                      let hc : head cut c ≡ h = ap (slice_index cut.heads) (less (wave cut c) w cw) in
                      let q0 : head cut c < c = q.0 in
                      inr (omega (arith, q0, hc), not_true (is_first cut c) q.1))
                ]);
          }

  pub waving : Waving (length (spots g)) (turned g cut) (is_first cut) (length cut.heads)
  waving = grind (arith, turn_lies, start_lies, head_is)
