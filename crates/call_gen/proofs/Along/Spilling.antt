-- Saves, loads and clears, as they run.
use Rattle.std.proofs.Common.{ℕ, suc, ◌+◌, ◌-◌, ◌/◌, ◌%◌, ◌≡◌, ◌<◌, ◌≤◌, min, List, [], ◌∷◌, length, map}
use Rattle.std.proofs.Common.{get_or, set, refl, ◌∙◌, inl, inr, arith}
use Rattle.std.specs.List.{AllByRecursion}
use Rattle.std.proofs.lemmas.List.{length-set, get_or-set_other}
use Rattle.ws_words.specs.Outside.{Act, loads, stores, Outside, ProcState, row, stored, write, with_acts}
use Rattle.cfg_core.specs.Graph.{Graph}
use Rattle.cfg_core.specs.Walk.{Done, run_ops}
use Rattle.call_gen.specs.Spelled.{cell, array_of, index_of, save, load, clear}
use Rattle.call_gen.proofs.Along.Visible.{Same, same_unseen, load_unseen, store_unseen, row_right}
use Rattle.call_gen.proofs.Along.Visible.{with_row_right}
use Rattle.call_gen.proofs.Along.Agreeing.{States}
use Rattle.call_gen.proofs.Spelled.Slots.{peek, poke, pokes, peeks}
use Rattle.ws_words.specs.Items.{In}
use Rattle.ws_words.proofs.Acts.{with_more}

module _ (g : Graph) (total : ℕ) where
  abbrev pub n : ℕ
  n = length g.arrays

  abbrev pub rows : ℕ
  rows = min 192 total

  abbrev pub size : ℕ
  size = suc (total / 192)

  after : (k : ℕ) → n < array_of g k
  after k = omega arith

  inside : (k : ℕ) → k < total → (array_of g k ≤ n + rows) × (index_of k < size)
  inside k lt = (omega arith, omega arith)

  place : (k : ℕ) → array_of g k - 1 ≡ n + k % 192
  place k = omega arith

  pub same_nil : (hidden : List (List ℕ)) (o p : Outside) → Same n rows size hidden o p
      → Same n rows size hidden o (with_more p [])
  same_nil hidden o p h = same_unseen n rows size hidden o p h [] refl tt

  -- the state after a save
  abbrev pub with_saved : ProcState → ℕ → ℕ → ProcState
  with_saved t k x = stored (with_acts (with_acts t []) []) (array_of g k) (index_of k) (get_or t.vars x 0)

  saved_out : (hidden : List (List ℕ)) (o : Outside) (t : ProcState) (k x : ℕ) → k < total
      → Same n rows size hidden o t.out → Same n rows size (poke hidden k (get_or t.vars x 0)) o
      (with_saved t k x).out
  saved_out hidden o t k x lt h =
      let w = get_or t.vars x 0 in
      let i = k / 192 in
      let r = k % 192 in
      let two = same_nil hidden o (with_more t.out []) (same_nil hidden o t.out h) in
      let act : List Act = stores (array_of g k) i w ∷ [] in
      let m = same_unseen n rows size hidden o (with_more (with_more t.out []) []) two act
      (grind (arith, store_unseen, after)) ((λ l. inside k lt), tt) in
      grind (arith, place, row_right, with_row_right)

  -- the state after a load
  abbrev pub with_loaded : ProcState → ℕ → ℕ → ProcState
  with_loaded t k x = write (with_acts t (loads (array_of g k) (index_of k) ∷ [])) x
      (get_or (row t.out.cells (array_of g k - 1)) (index_of k) 0)

  loaded_out : (hidden : List (List ℕ)) (o : Outside) (t : ProcState) (k x : ℕ) → k < total
      → Same n rows size hidden o t.out → Same n rows size hidden o (with_loaded t k x).out
  loaded_out hidden o t k x lt h = same_unseen n rows size hidden o t.out h (loads (array_of g k) (index_of k)
      ∷ []) (grind (arith, load_unseen, after)) ((λ l. inside k lt), tt)

  loaded_word : (hidden : List (List ℕ)) (o : Outside) (t : ProcState) (k : ℕ)
      → Same n rows size hidden o t.out → get_or (row t.out.cells (array_of g k - 1)) (index_of k) 0
      ≡ peek hidden k
  loaded_word hidden o t k h = grind (arith, place, n, row_right)

  module _ (f : ℕ) where
    abbrev pub at : ℕ → ℕ
    at x = cell g f x

    pub record Saved (v extra : ℕ) (hidden : List (List ℕ)) (P : ℕ → Type 0) (s t : ProcState) (xs : List ℕ)
        (k : ℕ) : Type 0 where
      pub state : ProcState
      pub run : run_ops (map (save g f) xs) t k ≡ Done state k
      pub vars : state.vars ≡ t.vars
      pub states : States g rows size v extra (pokes at hidden xs t.vars) P s state

    pub saves_run : (v extra : ℕ) (hidden : List (List ℕ)) (P : ℕ → Type 0) (s t : ProcState) (xs : List ℕ)
        (k : ℕ) → AllByRecursion (λ x. at x < total) xs → States g rows size v extra hidden P s t
        → Saved v extra hidden P s t xs k
    saves_run v extra hidden P s t [] k i h = record { state = t; run = refl; vars = refl; states = h }
    saves_run v extra hidden P s t (x ∷ xs) k i h =
        let next = with_saved t (at x) x in
        let st : States g rows size v extra (poke hidden (at x) (get_or t.vars x 0)) P s next =
        record {
          vars = h.vars;
          long = h.long;
          longer = h.longer;
          more = h.more;
          out = saved_out hidden s.out t (at x) x i.0 h.out;
        } in
        grind (arith, poke, saves_run v extra (poke hidden (at x) (get_or t.vars x 0)) P s next xs k i.1 st)

    pub record Loaded (hidden : List (List ℕ)) (o : Outside) (t : ProcState) (xs : List ℕ) (k : ℕ) : Type
        0 where
      pub state : ProcState
      pub run : run_ops (map (load g f) xs) t k ≡ Done state k
      pub vars : state.vars ≡ peeks at hidden xs t.vars
      pub out : Same n rows size hidden o state.out

    pub loads_run : (hidden : List (List ℕ)) (o : Outside) (t : ProcState) (xs : List ℕ) (k : ℕ)
        → AllByRecursion (λ x. at x < total) xs → Same n rows size hidden o t.out → Loaded hidden o t xs k
    loads_run hidden o t [] k i h = record { state = t; run = refl; vars = refl; out = h }
    loads_run hidden o t (x ∷ xs) k i h = let next = with_loaded t (at x) x in
        grind (
          arith,
          loaded_out,
          peeks,
          loaded_word,
          loads_run hidden o next xs k i.1 (loaded_out hidden o t (at x) x i.0 h),
        )

  pub record Cleared (hidden : List (List ℕ)) (o : Outside) (t : ProcState) (xs : List ℕ) (k : ℕ) : Type
      0 where
    pub state : ProcState
    pub run : run_ops (map clear xs) t k ≡ Done state k
    pub zero_still : (x : ℕ) → get_or t.vars x 0 ≡ 0 → get_or state.vars x 0 ≡ 0
    pub others : (x : ℕ) → (In x xs → ⊥) → get_or state.vars x 0 ≡ get_or t.vars x 0
    pub count : length state.vars ≡ length t.vars
    pub out : Same n rows size hidden o state.out

  pub clears_run : (hidden : List (List ℕ)) (o : Outside) (t : ProcState) (xs : List ℕ) (k : ℕ)
      → Same n rows size hidden o t.out → Cleared hidden o t xs k
  clears_run hidden o t [] k h = grind arith
  clears_run hidden o t (x ∷ xs) k h =
      let next = write (with_acts t []) x 0 in
      let r = clears_run hidden o next xs k (same_nil hidden o t.out h) in
      record {
        state = r.state;
        run = r.run;
        zero_still = λ y e. r.zero_still y (stays t.vars x y e);
        others = λ y ne. r.others y (λ i. ne (inr i)) ∙ get_or-set_other t.vars x y 0 0 (λ e. ne (inl e));
        count = r.count ∙ length-set t.vars x 0;
        out = r.out;
      }
    where
      stays : (vs : List ℕ) (x y : ℕ) → get_or vs y 0 ≡ 0 → get_or (set vs x 0) y 0 ≡ 0
      stays (v ∷ vs) (suc x) (suc y) e = stays vs x y e
      stays vs x y e = grind arith
