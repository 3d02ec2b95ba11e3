-- What the code holds after each act is what is outside after it.
use Rattle.std.proofs.Common.{ℕ, zero, suc, ◌-◌, ◌≡◌, ◌<◌, List, [], ◌∷◌, ◌++◌, length, drop, Some, None}
use Rattle.std.proofs.Common.{slice_get, slice_set, slice_index, refl, sym, ap, ◌∙◌, arith}
use Rattle.std.specs.Prelude.{Vec}
use Rattle.std.proofs.lemmas.List.{append_assoc}
use Rattle.std.specs.declared.alloc.Global.{Global}
use Rattle.ws_words.specs.Outside.{Act, loads, stores, reads, prints, gives, takes, Outside, row, with_row}
use Rattle.ws_words.specs.Outside.{rest_of}
use Rattle.ws_words.specs.Past.{length_of, after_act, after_acts}
use Rattle.ws_words.specs.Plain.{took_by_ports}
use Rattle.ws_words.specs.Memory.{OutIs, lengths_of}
use Rattle.ws_words.specs.declared.memory.Memory.{Memory}
use Rattle.ws_words.proofs.Acts.{Silent, printed_append, printed_same, took_same, took_more, took_none}

module _ (o : Outside) (m : Memory) (h : OutIs o m) where
  -- silent acts more, that leave cells, input and ports as they are
  pub silently : (acts : List Act) → Silent acts
      → OutIs (record { cells = o.cells; input = o.input; left = o.left; acts = o.acts ++ acts }) m
  silently acts s = record {
    same_cells = h.same_cells;
    same_input = h.same_input;
    same_left = h.same_left;
    same_printed = printed_same o.acts acts s.printed ∙ h.same_printed;
    same_took = took_same o.acts acts s.took ∙ h.same_took;
  }

  -- a load
  pub loaded : (a i : ℕ) → OutIs (after_act o (loads a i)) m
  loaded a i = silently (loads a i ∷ []) (record { printed = refl; took = λ p. refl })

  -- a store
  pub stored : (a i v : ℕ) (now : List (List ℕ)) → now ≡ with_row m.cells (a - 1)
      (slice_set (row m.cells (a - 1)) i v) → OutIs (after_act o (stores a i v)) (record m { cells = now })
  stored a i v now e = record {
    same_cells = ap (λ (cs : List (List ℕ)). with_row cs (a - 1) (slice_set (row cs (a - 1)) i v))
        h.same_cells ∙ sym e;
    same_input = h.same_input;
    same_left = h.same_left;
    same_printed = printed_same o.acts (stores a i v ∷ []) refl ∙ h.same_printed;
    same_took = took_same o.acts (stores a i v ∷ []) (λ p. refl) ∙ h.same_took;
  }

  -- a read
  pub read : (now : List ℕ) → now ≡ rest_of m.input → OutIs (after_act o reads) (record m { input = now })
  read now e = record {
    same_cells = h.same_cells;
    same_input = ap rest_of h.same_input ∙ sym e;
    same_left = h.same_left;
    same_printed = printed_same o.acts (reads ∷ []) refl ∙ h.same_printed;
    same_took = took_same o.acts (reads ∷ []) (λ p. refl) ∙ h.same_took;
  }

  -- a word printed
  pub printed : (v : ℕ) (now : List ℕ) → now ≡ m.printed ++ v ∷ []
      → OutIs (after_act o (prints v)) (record m { printed = now })
  printed v now e = record {
    same_cells = h.same_cells;
    same_input = h.same_input;
    same_left = h.same_left;
    same_printed = printed_append o.acts (prints v ∷ []) ∙ ap (λ (ws : List ℕ). ws ++ v ∷ []) h.same_printed
        ∙ sym e;
    same_took = took_same o.acts (prints v ∷ []) (λ p. refl) ∙ h.same_took;
  }

  -- a word given by a port
  pub given : (p k : ℕ) (left : Vec (List ℕ) Global) → k ≡ p - 1 → left.items ≡ with_row m.left.items k
      (rest_of (row m.left.items k)) → OutIs (after_act o (gives p)) (record m { left = left })
  given p k left ek e = record {
    same_cells = h.same_cells;
    same_input = h.same_input;
    same_left = ap (λ (rs : List (List ℕ)). with_row rs (p - 1) (rest_of (row rs (p - 1)))) h.same_left
        ∙ ap (λ n. with_row m.left.items n (rest_of (row m.left.items n))) (sym ek) ∙ sym e;
    same_printed = printed_same o.acts (gives p ∷ []) refl ∙ h.same_printed;
    same_took = took_same o.acts (gives p ∷ []) (λ q. refl) ∙ h.same_took;
  }

  -- a word taken by a port
  pub taken : (p k v : ℕ) (now : List (List ℕ)) → 0 < p → k ≡ p - 1
      → now ≡ with_row m.took k (row m.took k ++ v ∷ []) → OutIs (after_act o (takes p v))
      (record m { took = now })
  taken p k v now lt ek e = record {
    same_cells = h.same_cells;
    same_input = h.same_input;
    same_left = h.same_left;
    same_printed = printed_same o.acts (takes p v ∷ []) refl ∙ h.same_printed;
    same_took = took_more p v o.acts lt
        ∙ ap (λ (rs : List (List ℕ)). with_row rs (p - 1) (row rs (p - 1) ++ v ∷ [])) h.same_took
        ∙ ap (λ n. with_row m.took n (row m.took n ++ v ∷ [])) (sym ek) ∙ sym e;
  }

  -- a word that no port takes
  pub taken_by_none : (p v : ℕ) → p ≡ 0 → OutIs (after_act o (takes p v)) m
  taken_by_none p v e = record {
    same_cells = h.same_cells;
    same_input = h.same_input;
    same_left = h.same_left;
    same_printed = printed_same o.acts (takes p v ∷ []) refl ∙ h.same_printed;
    same_took = ap (λ n. took_by_ports (o.acts ++ takes n v ∷ [])) e ∙ took_none v o.acts ∙ h.same_took;
  }

-- the list that is got at a place
pub got : (rows : List (List ℕ)) (k : ℕ) (r : List ℕ) → Some r ≡ slice_get rows k → r ≡ row rows k
got [] k r e = absurd (cc)
got (x ∷ rows) zero r e = cc
got (x ∷ rows) (suc k) r e = got rows k r e

-- none is got past the end
pub got_none : (rows : List (List ℕ)) (k : ℕ) → None ≡ slice_get rows k → [] ≡ row rows k
got_none [] k e = refl
got_none (x ∷ rows) zero e = absurd (cc)
got_none (x ∷ rows) (suc k) e = got_none rows k e

-- the length of an array is that of its cells
pub length_is : (cells : List (List ℕ)) (k : ℕ) → slice_index (lengths_of cells) k ≡ length (row cells k)
length_is [] k = refl
length_is (x ∷ cells) zero = refl
length_is (x ∷ cells) (suc k) = length_is cells k

-- past the last array nothing is within
pub none_within : (cells : List (List ℕ)) (k a i : ℕ) → k ≡ a - 1 → None ≡ slice_get cells k
    → i < length_of (lengths_of cells) a → ⊥
none_within cells k a i ek none lt =
    let none_there : length_of (lengths_of cells) a ≡ 0 = ap (λ n. slice_index (lengths_of cells) n) (sym ek)
    ∙ length_is cells k ∙ ap (λ (r : List ℕ). length r) (sym (got_none cells k none)) in
    absurd (omega (arith, lt, none_there))

pub rows_next : (rows : List (List ℕ)) (i : ℕ) → i < length rows → drop i rows ≡ row rows i ∷ drop (suc i)
    rows
rows_next [] i lt = absurd (omega arith)
rows_next (r ∷ rows) zero lt = refl
rows_next (r ∷ rows) (suc i) lt = rows_next rows i (omega arith)

-- one list more
pub rows_more : (rows done next : List (List ℕ)) (i j : ℕ) (r : List ℕ) → j ≡ suc i → i < length rows
    → r ≡ row rows i → next ≡ done ++ r ∷ [] → done ++ drop i rows ≡ rows → next ++ drop j rows ≡ rows
rows_more rows done next i j r ej lt er en h =
    ap (λ (rs : List (List ℕ)). rs ++ drop j rows) en
    ∙ append_assoc done (r ∷ []) (drop j rows)
    ∙ ap (λ (rs : List (List ℕ)). done ++ rs)
    (sym (rows_next rows i lt ∙ ap (λ n. row rows i ∷ drop n rows) (sym ej)
    ∙ ap (λ (x : List ℕ). x ∷ drop j rows) (sym er)))
    ∙ h

pub set_length : (xs : List ℕ) (i v : ℕ) → length (slice_set xs i v) ≡ length xs
set_length [] i v = refl
set_length (x ∷ xs) zero v = refl
set_length (x ∷ xs) (suc i) v = ap suc (set_length xs i v)

row_length : (cells : List (List ℕ)) (k i v : ℕ) → lengths_of (with_row cells k (slice_set (row cells k) i v))
    ≡ lengths_of cells
row_length [] k i v = refl
row_length (x ∷ cells) zero i v = ap (λ n. n ∷ lengths_of cells) (set_length x i v)
row_length (x ∷ cells) (suc k) i v = ap (λ (ns : List ℕ). length x ∷ ns) (row_length cells k i v)

-- no act changes the length of an array
pub lengths_stay : (o : Outside) (x : Act) → lengths_of (after_act o x).cells ≡ lengths_of o.cells
lengths_stay o (loads a i) = refl
lengths_stay o (stores a i w) = row_length o.cells (a - 1) i w
lengths_stay o reads = refl
lengths_stay o (prints w) = refl
lengths_stay o (gives p) = refl
lengths_stay o (takes p w) = refl

-- nor do acts one after another
pub lengths_stay_all : (o : Outside) (xs : List Act) → lengths_of (after_acts o xs).cells ≡ lengths_of o.cells
lengths_stay_all o [] = refl
lengths_stay_all o (x ∷ xs) = lengths_stay_all (after_act o x) xs ∙ lengths_stay o x
