-- What acts show where some arrays are hidden: they stay within the ends, pass the same end first, print the
-- same words and leave the same cells.
use Rattle.std.specs.Prelude.{◌≡◌, ℕ, zero, suc, ◌+◌, ◌-◌, ◌<◌, ◌≤◌, Bool, true, false, List, [], ◌∷◌, ◌++◌}
use Rattle.std.specs.Prelude.{length, map, if◌then◌else◌, slice_index, slice_set, refl}
use Rattle.std.proofs.Common.{sym, ap, ◌∙◌, subst, arith}
use Rattle.ws_words.specs.Operators.{flag}
use Rattle.ws_words.specs.Outside.{Act, loads, stores, reads, prints, gives, takes, Outside, row, with_row}
use Rattle.ws_words.specs.Outside.{printed_words}
use Rattle.ws_words.specs.Past.{IsPast, IsWithin, AreWithin, FirstPast, after_act, after_acts}
use Rattle.ws_words.specs.Past as past
use Rattle.cfg_core.specs.Graph.{GraphArray}
use Rattle.cfg_core.specs.Shown.{has_name, shown_arrays, shown_cells, shown_among, hidden, cell_count}
use Rattle.cfg_core.specs.Shown.{is_hidden, shown_act, shown_acts, IsInside, AllInside}
use Rattle.seq_run.proofs.FirstPasts.{within_both}
use Rattle.ws_words.specs.Items.{nth}
use Rattle.cfg_core.proofs.ArraysThere.{length_with_row}
use Rattle.wave_build.proofs.CompilingShown.{shown_both}

abbrev pub lengths : List GraphArray → List ℕ
lengths arrays = map (λ a. a.length) arrays

open_so : (b : Bool) → (if b then false else true) ≡ false → b ≡ true
open_so b h = grind arith

-- a shown array is among the shown ones
some_shown : (k : ℕ) (arrays : List GraphArray) → hidden (nth arrays k) ≡ false
    → 0 < shown_among (suc k) arrays
some_shown (suc k) (a ∷ arrays) h = let n : 0 < shown_among (suc k) arrays = some_shown k arrays h in
    omega (arith, n)
some_shown k arrays h = grind (arith, open_so)

-- it stands there at its number
same_place : (k : ℕ) (arrays : List GraphArray) → hidden (nth arrays k) ≡ false
    → nth (shown_arrays arrays) (shown_among (suc k) arrays - 1) ≡ nth arrays k
same_place k [] h = absurd (cc)
same_place zero (a ∷ arrays) h = grind (arith, open_so)
same_place (suc k) (a ∷ arrays) h = go (has_name a) (same_place k arrays h)
  where
    go : (b : Bool) → nth (shown_arrays arrays) (shown_among (suc k) arrays - 1) ≡ nth arrays k
        → nth (if b then a ∷ shown_arrays arrays else shown_arrays arrays)
        (flag b + shown_among (suc k) arrays - 1) ≡ nth arrays k
    go true more =
        let n : 0 < shown_among (suc k) arrays = some_shown k arrays h in
        let e : 1 + shown_among (suc k) arrays - 1 ≡ suc (shown_among (suc k) arrays - 1) =
        omega (arith, n) in
        ap (nth (a ∷ shown_arrays arrays)) e ∙ more
    go false more =
        let e : 0 + shown_among (suc k) arrays - 1 ≡ shown_among (suc k) arrays - 1 = omega arith in
        ap (nth (shown_arrays arrays)) e ∙ more

-- numbers count from 1
number_place : (a : ℕ) (arrays : List GraphArray) → shown_among a arrays - 1 ≡ shown_among (suc (a - 1))
    arrays - 1
number_place zero [] = refl
number_place zero (x ∷ xs) = grind arith
number_place (suc a) arrays = grind arith

-- the shown array of a number is the array
pub shown_place : (arrays : List GraphArray) (a : ℕ) → is_hidden arrays a ≡ false
    → nth (shown_arrays arrays) (shown_among a arrays - 1) ≡ nth arrays (a - 1)
shown_place arrays a h = ap (nth (shown_arrays arrays)) (number_place a arrays) ∙ same_place (a - 1) arrays h

pub at_length : (xs : List GraphArray) (k : ℕ) → slice_index (lengths xs) k ≡ cell_count (nth xs k)
at_length (x ∷ xs) (suc k) = at_length xs k
at_length xs k = refl

shown_length : (arrays : List GraphArray) (a : ℕ) → is_hidden arrays a ≡ false
    → past.length_of (lengths (shown_arrays arrays)) (shown_among a arrays) ≡ past.length_of (lengths arrays)
    a
shown_length arrays a h = grind (arith, at_length, shown_place)

module _ (arrays : List GraphArray) where
  one_within : (act : Act) → IsWithin (lengths arrays) act → AreWithin (lengths (shown_arrays arrays))
      (shown_act arrays act)
  one_within (loads a i) h = grind (arith, shown_length)
  one_within (stores a i w) h = grind (arith, shown_length)
  one_within reads h = (tt, tt)
  one_within (prints w) h = (tt, tt)
  one_within (gives p) h = (tt, tt)
  one_within (takes p w) h = (tt, tt)

  -- what acts within the ends show is within the ends
  pub shown_within : (acts : List Act) → AreWithin (lengths arrays) acts
      → AreWithin (lengths (shown_arrays arrays)) (shown_acts arrays acts)
  shown_within [] h = tt
  shown_within (act ∷ acts) h = grind (arith, within_both, one_within, shown_within acts h.1)

  inside_at : (before : List Act) (act : Act) (after : List Act) → AllInside arrays (before ++ act ∷ after)
      → IsInside arrays act
  inside_at [] act after h = h.0
  inside_at (x ∷ before) act after h = inside_at before act after h.1

  -- an act past the end of an array whose number is this is on a shown one, and shows the same
  pub record ShowsPast (array : ℕ) (act : Act) : Type 0 where
    pub open_array : is_hidden arrays array ≡ false
    pub shows : Act
    pub is : shown_act arrays act ≡ shows ∷ []
    pub past : IsPast (lengths (shown_arrays arrays)) (shown_among array arrays) shows

  open_at : (a i : ℕ) → past.length_of (lengths arrays) a ≤ i
      → (is_hidden arrays a ≡ true → i < cell_count (nth arrays (a - 1))) → (b : Bool)
      → is_hidden arrays a ≡ b → is_hidden arrays a ≡ false
  open_at a i le inside b e = grind (arith, at_length)

  past_shows : (array : ℕ) (act : Act) → IsPast (lengths arrays) array act → IsInside arrays act
      → ShowsPast array act
  past_shows array (loads a i) h inside =
      let e = open_at a i h.1 inside (is_hidden arrays a) refl in
      record {
        open_array = subst (λ n. is_hidden arrays n ≡ false) h.0 e;
        shows = loads (shown_among a arrays) i;
        is = ap (λ (b : Bool). if b then [] else loads (shown_among a arrays) i ∷ []) e;
        past = (ap (λ n. shown_among n arrays) h.0, subst (λ n. n ≤ i) (sym (shown_length arrays a e)) h.1);
      }
  past_shows array (stores a i w) h inside =
      let e = open_at a i h.1 inside (is_hidden arrays a) refl in
      record {
        open_array = subst (λ n. is_hidden arrays n ≡ false) h.0 e;
        shows = stores (shown_among a arrays) i w;
        is = ap (λ (b : Bool). if b then [] else stores (shown_among a arrays) i w ∷ []) e;
        past = (ap (λ n. shown_among n arrays) h.0, subst (λ n. n ≤ i) (sym (shown_length arrays a e)) h.1);
      }
  past_shows array reads h inside = absurd h
  past_shows array (prints w) h inside = absurd h
  past_shows array (gives p) h inside = absurd h
  past_shows array (takes p w) h inside = absurd h

  module _ (acts before : List Act) (array : ℕ) (f : FirstPast (lengths arrays) acts before array)
      (inside : AllInside arrays acts) where
    first_shows : ShowsPast array f.act
    first_shows = grind (arith, past_shows, inside_at)

    pub open_first : is_hidden arrays array ≡ false
    open_first = first_shows.open_array

    -- the first act past an end is shown as the first one
    pub shown_first : FirstPast (lengths (shown_arrays arrays)) (shown_acts arrays acts)
        (shown_acts arrays before) (shown_among array arrays)
    shown_first = record {
      within = shown_within before f.within;
      act = first_shows.shows;
      past = first_shows.past;
      after = shown_acts arrays f.after;
      split = grind (arith, shown_both);
    }

  -- the words printed are shown
  pub shown_words : (acts : List Act) → printed_words (shown_acts arrays acts) ≡ printed_words acts
  shown_words [] = refl
  shown_words (loads a i ∷ acts) = grind (arith, shown_words acts)
  shown_words (stores a i w ∷ acts) = grind (arith, shown_words acts)
  shown_words (reads ∷ acts) = shown_words acts
  shown_words (prints w ∷ acts) = ap (λ (ws : List ℕ). w ∷ ws) (shown_words acts)
  shown_words (gives p ∷ acts) = shown_words acts
  shown_words (takes p w ∷ acts) = shown_words acts

-- the cells that acts leave
abbrev pub cells_after : List (List ℕ) → List Act → List (List ℕ)
cells_after cells [] = cells
cells_after cells (stores a i w ∷ acts) =
    cells_after (with_row cells (a - 1) (slice_set (row cells (a - 1)) i w)) acts
cells_after cells (_ ∷ acts) = cells_after cells acts

pub left_cells : (o : Outside) (acts : List Act) → (after_acts o acts).cells ≡ cells_after o.cells acts
left_cells o [] = refl
left_cells o (loads a i ∷ acts) = left_cells (after_act o (loads a i)) acts
left_cells o (stores a i w ∷ acts) = left_cells (after_act o (stores a i w)) acts
left_cells o (reads ∷ acts) = left_cells (after_act o reads) acts
left_cells o (prints w ∷ acts) = left_cells (after_act o (prints w)) acts
left_cells o (gives p ∷ acts) = left_cells (after_act o (gives p)) acts
left_cells o (takes p w ∷ acts) = left_cells (after_act o (takes p w)) acts

-- a hidden row is not shown
hidden_row : (arrays : List GraphArray) (cells : List (List ℕ)) (k : ℕ) (r : List ℕ)
    → hidden (nth arrays k) ≡ true → shown_cells arrays (with_row cells k r) ≡ shown_cells arrays cells
hidden_row [] cells k r h = refl
hidden_row (a ∷ arrays) [] k r h = refl
hidden_row (a ∷ arrays) (x ∷ cells) zero r h = grind arith
hidden_row (a ∷ arrays) (x ∷ cells) (suc k) r h = grind (arith, hidden_row arrays cells k r h)

-- a shown one is shown at its number
shown_row : (arrays : List GraphArray) (cells : List (List ℕ)) (k : ℕ) (r : List ℕ)
    → hidden (nth arrays k) ≡ false → length cells ≡ length arrays
    → with_row (shown_cells arrays cells) (shown_among (suc k) arrays - 1) r ≡ shown_cells arrays
    (with_row cells k r)
shown_row [] cells k r h l = absurd (cc)
shown_row (a ∷ arrays) [] k r h l = absurd (omega (arith, l))
shown_row (a ∷ arrays) (x ∷ cells) zero r h l = grind (arith, open_so)
shown_row (a ∷ arrays) (x ∷ cells) (suc k) r h l =
    grind (arith, some_shown, shown_row arrays cells k r h (omega (arith, l)))

row_there : (arrays : List GraphArray) (cells : List (List ℕ)) (k : ℕ) → hidden (nth arrays k) ≡ false
    → length cells ≡ length arrays
    → row (shown_cells arrays cells) (shown_among (suc k) arrays - 1) ≡ row cells k
row_there [] cells k h l = absurd (cc)
row_there (a ∷ arrays) [] k h l = absurd (omega (arith, l))
row_there (a ∷ arrays) (x ∷ cells) zero h l = grind (arith, open_so)
row_there (a ∷ arrays) (x ∷ cells) (suc k) h l =
    go (has_name a) (row_there arrays cells k h (omega (arith, l)))
  where
    go : (b : Bool) → row (shown_cells arrays cells) (shown_among (suc k) arrays - 1) ≡ row cells k
        → row (if b then x ∷ shown_cells arrays cells else shown_cells arrays cells)
        (flag b + shown_among (suc k) arrays - 1) ≡ row cells k
    go true more =
        let n : 0 < shown_among (suc k) arrays = some_shown k arrays h in
        let e : 1 + shown_among (suc k) arrays - 1 ≡ suc (shown_among (suc k) arrays - 1) =
        omega (arith, n) in
        ap (row (x ∷ shown_cells arrays cells)) e ∙ more
    go false more = grind arith

stored_after : (arrays : List GraphArray) (a i w : ℕ) (acts : List Act) (cells : List (List ℕ))
    → length cells ≡ length arrays → (b : Bool) → is_hidden arrays a ≡ b
    → cells_after (shown_cells arrays (with_row cells (a - 1) (slice_set (row cells (a - 1)) i w)))
    (shown_acts arrays acts)
    ≡ shown_cells arrays (cells_after (with_row cells (a - 1) (slice_set (row cells (a - 1)) i w)) acts)
    → cells_after (shown_cells arrays cells) ((if b then [] else stores (shown_among a arrays) i w ∷ [])
    ++ shown_acts arrays acts)
    ≡ shown_cells arrays (cells_after (with_row cells (a - 1) (slice_set (row cells (a - 1)) i w)) acts)
stored_after arrays a i w acts cells l b e rest =
    grind (arith, hidden_row, number_place, row_there, shown_row)

-- what acts show leaves the shown cells
pub shown_after : (arrays : List GraphArray) (acts : List Act) (cells : List (List ℕ))
    → length cells ≡ length arrays
    → cells_after (shown_cells arrays cells) (shown_acts arrays acts) ≡ shown_cells arrays
    (cells_after cells acts)
shown_after arrays [] cells l = refl
shown_after arrays (loads a i ∷ acts) cells l = grind (arith, shown_after arrays acts cells l)
shown_after arrays (stores a i w ∷ acts) cells l = stored_after arrays a i w acts cells l (is_hidden arrays a)
    refl (shown_after arrays acts (with_row cells (a - 1) (slice_set (row cells (a - 1)) i w))
    (grind (arith, length_with_row)))
shown_after arrays (reads ∷ acts) cells l = shown_after arrays acts cells l
shown_after arrays (prints w ∷ acts) cells l = shown_after arrays acts cells l
shown_after arrays (gives p ∷ acts) cells l = shown_after arrays acts cells l
shown_after arrays (takes p w ∷ acts) cells l = shown_after arrays acts cells l
