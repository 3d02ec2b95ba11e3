-- What is shown of both walks.
use Rattle.std.proofs.Common.{ℕ, zero, suc, ◌+◌, ◌-◌, ◌≡◌, ◌<◌, ◌≤◌, ◌⊎◌, true, List, [], ◌∷◌, ◌++◌, length}
use Rattle.std.proofs.Common.{replicate, refl, sym, ap, ◌∙◌, Some, None, arith}
use Rattle.std.specs.List.{AllByRecursion}
use Rattle.std.proofs.lemmas.Bool.{cases_lt}
use Rattle.std.proofs.lemmas.List.{append-nil}
use Rattle.ws_words.specs.Operators.{flag}
use Rattle.ws_words.specs.Outside.{Act, loads, stores, reads, Outside}
use Rattle.cfg_core.specs.Graph.{GraphArray, Graph}
use Rattle.cfg_core.specs.Shown.{has_name, shown_arrays, shown_cells, shown_among, hidden, cell_count}
use Rattle.cfg_core.specs.Shown.{is_hidden, length_of, shown_act, shown_acts, SameShown, IsInside, AllInside}
use Rattle.call_gen.specs.Spelled.{hidden_arrays, spelled}
use Rattle.call_gen.specs.Visible.{visible_one, visible, OwnInside}
use Rattle.call_gen.proofs.Along.Visible.{load_seen, load_unseen, store_seen, store_unseen}
use Rattle.call_gen.proofs.Along.Standing.{rows, size, Alike}
use Rattle.cfg_core.proofs.Spots.{nth_right}
use Rattle.ws_words.specs.Items.{nth}
use Rattle.ws_words.proofs.Places.{nth_append_left}

-- arrays with as many hidden ones after them
module _ (xs : List GraphArray) (count len : ℕ) where
  abbrev ys : List GraphArray
  ys = replicate count (record { name = None; length = len })

  abbrev n : ℕ
  n = length xs

  in_hidden : (m k : ℕ) → k < m → nth {A = GraphArray} (replicate m (record { name = None; length = len })) k
      ≡ Some (record { name = None; length = len })
  in_hidden (suc m) (suc k) lt = in_hidden m k (omega arith)
  in_hidden m k lt = grind arith

  past_hidden : (m k : ℕ) → hidden (nth (replicate m (record { name = None; length = len })) k) ≡ true
  past_hidden (suc m) (suc k) = past_hidden m k
  past_hidden m k = refl

  same_place : (a : ℕ) → a ≤ n → (nth (xs ++ ys) (a - 1) ≡ nth xs (a - 1)) ⊎ (n ≡ 0)
  same_place a le = grind (arith, cases_lt, n, nth_append_left, ys)

  none : n ≡ 0 → (k : ℕ) → nth xs k ≡ None
  none e k = at xs e k
    where
      at : (zs : List GraphArray) → length zs ≡ 0 → (k : ℕ) → nth zs k ≡ None
      at [] e k = refl
      at (z ∷ zs) e k = absurd (omega arith)

  all_hidden : n ≡ 0 → (k : ℕ) → hidden (nth (xs ++ ys) k) ≡ true
  all_hidden e k = ap hidden (nth_right xs ys 0 k k e (omega arith)) ∙ past_hidden count k

  hidden_same : (a : ℕ) → a ≤ n → is_hidden (xs ++ ys) a ≡ is_hidden xs a
  hidden_same a le = grind (arith, same_place, all_hidden, none)

  length_kept : (a : ℕ) → a ≤ n → length_of xs a ≤ length_of (xs ++ ys) a
  length_kept a le = grind (arith, same_place, none)

  after_hidden : (a : ℕ) → n < a → is_hidden (xs ++ ys) a ≡ true
  after_hidden a lt = ap hidden (grind (arith, nth_right)) ∙ past_hidden count (a - 1 - n)

  after_length : (a : ℕ) → n < a → a ≤ n + count → length_of (xs ++ ys) a ≡ len
  after_length a lt le = ap cell_count (nth_right xs ys n (a - 1 - n) (a - 1) refl (omega arith)
      ∙ in_hidden count (a - 1 - n) (omega arith))

  among_same : (zs : List GraphArray) (a : ℕ) → a ≤ length zs → shown_among a (zs ++ ys) ≡ shown_among a zs
  among_same (z ∷ zs) (suc a) le = ap (λ m. flag (has_name z) + m) (among_same zs a (omega arith))
  among_same zs a le = grind arith

  load_shown : (a i : ℕ) → shown_act (xs ++ ys) (loads a i) ≡ shown_acts xs (visible_one n (loads a i))
  load_shown a i =
      grind (arith, cases_lt, after_hidden, load_unseen, hidden_same, among_same, load_seen, append-nil)

  store_shown : (a i w : ℕ) → shown_act (xs ++ ys) (stores a i w) ≡ shown_acts xs
      (visible_one n (stores a i w))
  store_shown a i w =
      grind (arith, cases_lt, after_hidden, store_unseen, hidden_same, among_same, store_seen, append-nil)

  act_shown : (act : Act) → shown_act (xs ++ ys) act ≡ shown_acts xs (visible_one n act)
  act_shown (loads a i) = load_shown a i
  act_shown (stores a i w) = store_shown a i w
  act_shown reads = refl
  act_shown _ = refl

  shown_both : (ps qs : List Act) → shown_acts xs (ps ++ qs) ≡ shown_acts xs ps ++ shown_acts xs qs
  shown_both [] qs = refl
  shown_both (p ∷ ps) qs = grind (arith, shown_both ps qs)

  pub acts_shown : (acts : List Act) → shown_acts (xs ++ ys) acts ≡ shown_acts xs (visible n acts)
  acts_shown [] = refl
  acts_shown (act ∷ acts) = grind (arith, ys, act_shown, n, shown_both, acts_shown acts)

  pub cells_shown : (zs : List GraphArray) (cells more : List (List ℕ)) → length cells ≡ length zs
      → shown_cells (zs ++ ys) (cells ++ more) ≡ shown_cells zs cells
  cells_shown [] [] more e = only_hidden count more
    where
      only_hidden : (m : ℕ) (cells : List (List ℕ))
          → shown_cells (replicate m (record { name = None; length = len })) cells ≡ []
      only_hidden (suc m) (r ∷ cells) = only_hidden m cells
      only_hidden m cells = refl
  cells_shown [] (r ∷ cells) more e = absurd (omega arith)
  cells_shown (z ∷ zs) [] more e = absurd (omega arith)
  cells_shown (z ∷ zs) (r ∷ cells) more e = grind (arith, cells_shown zs cells more (omega arith))

  pub arrays_shown : (zs : List GraphArray) → shown_arrays zs ≡ shown_arrays (zs ++ ys)
  arrays_shown [] = sym (only_hidden count)
    where
      only_hidden : (m : ℕ) → shown_arrays (replicate m (record { name = None; length = len })) ≡ []
      only_hidden zero = refl
      only_hidden (suc m) = only_hidden m
  arrays_shown (z ∷ zs) = grind (arith, arrays_shown zs)

  -- acts inside hidden arrays
  split_all : (P : Act → Type 0) (ps qs : List Act) → AllByRecursion P (ps ++ qs)
      → AllByRecursion P ps × AllByRecursion P qs
  split_all P [] qs h = (tt, h)
  split_all P (p ∷ ps) qs h = let r = split_all P ps qs h.1 in ((h.0, r.0), r.1)

  one_inside : (act : Act) → OwnInside n count len act → AllInside xs (visible_one n act)
      → IsInside (xs ++ ys) act
  one_inside (loads a i) own h = grind (arith, cases_lt, n, after_length, load_seen, hidden_same, length_kept)
  one_inside (stores a i w) own h =
      grind (arith, cases_lt, n, after_length, store_seen, hidden_same, length_kept)
  one_inside reads own h = tt
  one_inside _ own h = tt

  pub acts_inside : (acts : List Act) → AllByRecursion (OwnInside n count len) acts
      → AllInside xs (visible n acts) → AllInside (xs ++ ys) acts
  acts_inside [] own h = tt
  acts_inside (act ∷ acts) own h =
      let r = split_all (IsInside xs) (visible_one n act) (visible n acts) h in
      (one_inside act own.0 r.0, acts_inside acts own.1 r.1)

module _ (g : Graph) (live : List (List ℕ)) (o p : Outside) (h : Alike g live o p) where
  pub same_shown : SameShown g (spelled g live) o p
  unfolding hidden_arrays
  same_shown = grind (arith, acts_shown, rows, size, cells_shown)

  pub inside_too : AllInside g.arrays o.acts → AllInside (spelled g live).arrays p.acts
  unfolding hidden_arrays
  inside_too i = acts_inside g.arrays (rows g live) (size g live) p.acts h.same.own (grind arith)
