-- Where blocks start, and how they end.
use Rattle.std.proofs.Common.{ℕ, zero, suc, ◌+◌, ◌-◌, ◌≡◌, ◌<◌, ◌≤◌, true, false, List, [], ◌∷◌, ◌++◌, length}
use Rattle.std.proofs.Common.{map, reverse, drop, get_or, refl, ap, ◌∙◌, arith}
use Rattle.std.proofs.lemmas.Bool.{cases_Bool}
use Rattle.std.proofs.lemmas.List.{drop_more, reverse-append, length-reverse, get_or-reverse}
use Rattle.wave_gen.specs.declared.plan.Plan as code
use Rattle.wave_gen.specs.declared.kept.Kept.{Kept}
use Rattle.wave_gen.specs.Wire.{Target, Front, Wants, no_wants, Made, with_wants, wire}
use Rattle.wave_gen.specs.View as view
use Rattle.wave_gen.specs.Plans.{HowLeft, Plan, selected, tails_of, end_wants, behind_source, exit_made}
use Rattle.wave_gen.specs.Plans.{block_made, fronts, no_plan, no_made, plan_at, start_of, blocks_from, mades}
use Rattle.wave_gen.specs.Plans.{made_at, starts_at}
use Rattle.wave_gen.specs.declared.maker.Maker.{Maker}
use Rattle.wave_gen.specs.Tables.{listed, behind_of, HasMade, leaves_made, begun}
use Rattle.wave_gen.specs.Kept.{wanted, IsKept, AreKept, KeptBehind, Ahead, LeadsAhead}
use Rattle.ws_words.specs.Items.{nth, or_else}

nth_plan : (ps : List code.Plan) (k : ℕ) (p : code.Plan) → k < length ps → p ≡ get_or ps k p
    → or_else (nth (map view.plan ps) k) no_plan ≡ view.plan p
nth_plan (q ∷ ps) (suc k) p lt e = nth_plan ps k p (omega arith) e
nth_plan ps k p lt e = grind arith

nth_none : (ps : List code.Plan) (k : ℕ) → length ps ≤ k → (or_else (nth (map view.plan ps) k) no_plan).first
    ≡ false
unfolding no_plan
nth_none (q ∷ ps) (suc k) le = nth_none ps k (omega arith)
nth_none ps k le = grind arith

pub plan_is : (ps : List code.Plan) (b k : ℕ) (p : code.Plan) → b ≡ suc k → b ≤ length ps → p ≡ get_or ps k p
    → plan_at (map view.plan ps) b ≡ view.plan p
unfolding plan_at
plan_is ps b k p eb le e = ap (plan_at (map view.plan ps)) eb ∙ nth_plan ps k p (omega arith) e

pub plan_zero : (ps : List Plan) (b : ℕ) → b ≡ 0 → (plan_at ps b).first ≡ false
unfolding plan_at no_plan
plan_zero ps b e = ap (λ n. (plan_at ps n).first) e

pub plan_past : (ps : List code.Plan) (b : ℕ) → length ps < b → (plan_at (map view.plan ps) b).first ≡ false
unfolding plan_at
plan_past ps b lt = grind (arith, nth_none)

-- entries
pub front_more : (b k : ℕ) (xs : List ℕ) (w v : Wants) (l : List Target) (d : ℕ) → 0 < k → k ≤ length xs
    → ◌≡◌ {A = Wants} w (fronts b k (drop k xs)) → l ≡ Front b (k - 1) ∷ []
    → ◌≡◌ {A = Wants} v (with_wants w (get_or xs (k - 1) d) l)
    → ◌≡◌ {A = Wants} v (fronts b (k - 1) (drop (k - 1) xs))
front_more b k xs w v l d pos le ew el ev = grind (arith, drop_more)

pub start_first : (all : List Plan) (n : ℕ) (later : List Made) (c : ℕ) (xs : List ℕ)
    → (plan_at all c).first ≡ true → (plan_at all c).entries ≡ xs → ◌≡◌ {A = Wants} (fronts c 0 xs)
    (start_of all n later c)
start_first all n later c xs e ex = grind arith

pub start_later : (all : List Plan) (n : ℕ) (later : List Made) (c k : ℕ) (w : Wants)
    → (plan_at all c).first ≡ false → k ≡ c - n → ◌≡◌ {A = Wants} w (or_else (nth later k) no_made).wants
    → ◌≡◌ {A = Wants} w (start_of all n later c)
start_later all n later c k w e ek ew = grind arith

module _ (width : ℕ) (ps : List Plan) where
  kept_at : (b : ℕ) (ks : List Kept) (ss : List Made) (k : ℕ) (x : Kept) → AreKept width ps b ks ss
      → k < length ks → x ≡ get_or ks k x → ◌≡◌ {A = Wants} (wanted x.wants.items)
      (or_else (nth ss k) no_made).wants
  kept_at b [] ss k x h lt e = absurd (omega arith)
  kept_at b (y ∷ ks) [] k x h lt e = absurd h
  kept_at b (y ∷ ks) (s ∷ ss) zero x h lt e = ap (λ (z : Kept). wanted z.wants.items) e ∙ h.0.wants
  kept_at b (y ∷ ks) (s ∷ ss) (suc k) x h lt e = kept_at (suc b) ks ss k x h.1 (omega arith) e

  pub kept_from_end : (b : ℕ) (ks : List Kept) (ss : List Made) (k : ℕ) (x : Kept)
      → AreKept width ps b (reverse ks) ss → k < length ks → x ≡ get_or ks (length ks - 1 - k) x
      → ◌≡◌ {A = Wants} (wanted x.wants.items) (or_else (nth ss k) no_made).wants
  kept_from_end b ks ss k x h lt e = grind (arith, kept_at, length-reverse, get_or-reverse)

  kept_past : (b : ℕ) (ks : List Kept) (ss : List Made) (k : ℕ) → AreKept width ps b ks ss → length ks ≤ k
      → ◌≡◌ {A = Wants} no_wants (or_else (nth ss k) no_made).wants
  unfolding no_made
  kept_past b [] [] k h le = refl
  kept_past b [] (s ∷ ss) k h le = absurd h
  kept_past b (y ∷ ks) [] k h le = absurd h
  kept_past b (y ∷ ks) (s ∷ ss) zero h le = absurd (omega arith)
  kept_past b (y ∷ ks) (s ∷ ss) (suc k) h le = kept_past (suc b) ks ss k h.1 (omega arith)

  pub kept_none : (b : ℕ) (ks : List Kept) (ss : List Made) (k : ℕ) → AreKept width ps b (reverse ks) ss
      → length ks ≤ k → ◌≡◌ {A = Wants} no_wants (or_else (nth ss k) no_made).wants
  kept_none b ks ss k h le = kept_past b (reverse ks) ss k h (omega (arith, length-reverse ks))

-- Blocks.

left_is : (width b : ℕ) (starts : ℕ → Wants) (p : Plan) (x : HowLeft)
    → leaves_made b p.test x (behind_source width starts b p) ≡ exit_made width starts b p x
left_is width b starts p x = grind arith

nth_drop : {A : Type 0} (xs : List A) (j k : ℕ) → nth (drop j xs) k ≡ nth xs (j + k)
nth_drop xs zero k = let e : k ≡ 0 + k = omega arith in ap (nth xs) e
nth_drop [] (suc j) k = refl
nth_drop (x ∷ xs) (suc j) k = grind (arith, nth_drop xs j k)

drop_nth : {A : Type 0} (xs : List A) (k : ℕ) (d : A) → k < length xs → drop k xs ≡ or_else (nth xs k) d
    ∷ drop (suc k) xs
drop_nth (x ∷ xs) (suc k) d lt = drop_nth xs k d (omega arith)
drop_nth xs k d lt = grind arith

drop_plan : (ps : List Plan) (k : ℕ) → k < length ps → drop k ps ≡ plan_at ps (suc k) ∷ drop (suc k) ps
unfolding plan_at
drop_plan ps k lt = drop_nth ps k no_plan lt

module _ (width : ℕ) (ps : List Plan) where
  drop_blocks : (a j : ℕ) (qs : List Plan) → drop j (blocks_from width ps a qs) ≡ blocks_from width ps (a + j)
      (drop j qs)
  drop_blocks a (suc j) (q ∷ qs) = grind (arith, drop_blocks (suc a) j qs)
  drop_blocks a j qs = grind arith

  abbrev Behind : ℕ → List Made
  Behind b = blocks_from width ps (suc b) (drop b ps)

  behind_is : (b : ℕ) → Behind b ≡ drop b (mades width ps)
  unfolding mades
  behind_is b = grind (arith, drop_blocks)

  found : (b c : ℕ) → b < c → or_else (nth (Behind b) (c - suc b)) no_made ≡ made_at width ps c
  unfolding made_at
  found b c lt = grind (arith, behind_is, nth_drop)

  start_agrees : (b c : ℕ) → Ahead ps b c → ◌≡◌ {A = Wants} (start_of ps (suc b) (Behind b) c)
      (starts_at width ps c)
  unfolding starts_at
  start_agrees b c a = grind (arith, cases_Bool, found)

  tails_same : (b : ℕ) (x : HowLeft) → LeadsAhead ps b x → tails_of width (start_of ps (suc b) (Behind b)) x
      ≡ tails_of width (starts_at width ps) x
  tails_same b x a = grind (arith, start_agrees)

  end_same : (b : ℕ) (x : HowLeft) → LeadsAhead ps b x
      → ◌≡◌ {A = Wants} (end_wants width (start_of ps (suc b) (Behind b)) x)
      (end_wants width (starts_at width ps) x)
  end_same b x a = grind (arith, start_agrees)

  behind_same : (b : ℕ) (p : Plan) → LeadsAhead ps b p.exit
      → behind_source width (start_of ps (suc b) (Behind b)) b p ≡ behind_source width (starts_at width ps) b
      p
  behind_same b p a = λ i. selected b p.test (tails_same b p.exit a i) (end_same b p.exit a i)

  pub block_kept : (b : ℕ) (p : Plan) (k : Kept) (m : Maker) → p ≡ plan_at ps b
      → LeadsAhead ps b (plan_at ps b).exit
      → HasMade b m
      (begun b p
      (wire b p.items
      (leaves_made b p.test p.exit
      (behind_source width (start_of ps (suc b) (blocks_from width ps (suc b) (drop b ps))) b p))))
      → k.code.items ≡ m.code.items → ◌≡◌ {A = Wants} (wanted k.wants.items) (listed m.wants.lists.items)
      → k.behind ≡ behind_of b p.exit
      (behind_source width (start_of ps (suc b) (blocks_from width ps (suc b) (drop b ps))) b p)
      → IsKept width ps b k (block_made width (start_of ps (suc b) (blocks_from width ps (suc b) (drop b ps)))
      b (plan_at ps b))
  block_kept b p k m e a st ec ew eb = grind (arith, left_is, behind_same)

  -- one block more is kept
  pub kept_more : (l b : ℕ) (ks : List Kept) (k : Kept) → b ≡ suc l → b ≤ length ps → KeptBehind width ps b ks
      → IsKept width ps b k (block_made width (start_of ps (suc b) (blocks_from width ps (suc b) (drop b ps)))
      b (plan_at ps b)) → KeptBehind width ps l (ks ++ k ∷ [])
  kept_more l b ks k e le h here = grind (arith, reverse-append, drop_plan)

  pub all_kept : (n : ℕ) (ks : List Kept) → n ≡ 0 → KeptBehind width ps n ks
      → AreKept width ps 1 (reverse ks) (mades width ps)
  unfolding mades
  all_kept n ks e h = rw e at h
