-- Cells: what a store leaves, and how the walk changes them.
use Rattle.std.proofs.Common.{ℕ, zero, suc, ◌-◌, ◌≡◌, ◌<◌, ◌≤◌, true, false, List, [], ◌∷◌, length, Some}
use Rattle.std.proofs.Common.{slice_index, slice_set, refl, sym, ap, ◌∙◌, inl, inr, arith, eq-eqb}
use Rattle.std.proofs.lemmas.Bool.{both_ways, cases_Bool, cases_eq}
use Rattle.ws_words.specs.Outside.{Outside, World, row, with_row}
use Rattle.ws_isa.specs.declared.instr.Op.{Op}
use Rattle.ws_isa.specs.declared.instr.Op.TheVariants.{Store}
use Rattle.ws_isa.specs.Image.{Image, instr_at, is_memory, after_op, after}
use Rattle.ws_isa.specs.Walk.{Inst, fires}
use Rattle.df_core.specs.Effect.{effect_at, effect_after}
use Rattle.df_core.proofs.Walked.Facts.{WalkFacts}
use Rattle.df_core.proofs.Walked.Pauses.{cases_fires}
use Rattle.part_store.specs.Contents.{cell, is_on_row}
use Rattle.part_store.specs.Parted.{is_store_op}
use Rattle.ws_words.proofs.Held.{set_length}

-- this place isn't that one
abbrev pub Differ : ℕ → ℕ → ℕ → ℕ → Type 0
Differ r j q k = r ≡ q → j ≡ k → ⊥

set_there : (xs : List ℕ) (j k v : ℕ) → (j ≡ k → ⊥) → slice_index (slice_set xs j v) k ≡ slice_index xs k
set_there (x ∷ xs) (suc j) (suc k) v n = set_there xs j k v (λ e. n (ap suc e))
set_there xs j k v n = grind arith

set_here : (xs ys : List ℕ) (j v : ℕ) → length xs ≡ length ys →
    slice_index (slice_set xs j v) j ≡ slice_index (slice_set ys j v) j
set_here [] [] j v e = refl
set_here (x ∷ xs) (y ∷ ys) zero v e = refl
set_here (x ∷ xs) (y ∷ ys) (suc j) v e = set_here xs ys j v (omega (arith, e))
set_here xs ys j v e = absurd (omega (arith, e))

row_here : (cs : List (List ℕ)) (r j v : ℕ) →
    row (with_row cs r (slice_set (row cs r) j v)) r ≡ slice_set (row cs r) j v
row_here (c ∷ cs) (suc r) j v = row_here cs r j v
row_here cs r j v = refl

row_there : (cs : List (List ℕ)) (r q : ℕ) (xs : List ℕ) → (r ≡ q → ⊥) → row (with_row cs r xs) q ≡ row cs q
row_there (c ∷ cs) (suc r) (suc q) xs n = row_there cs r q xs (λ e. n (ap suc e))
row_there cs r q xs n = grind arith

-- the cells after a store
abbrev pub stored : List (List ℕ) → ℕ → ℕ → ℕ → List (List ℕ)
stored cs r j v = with_row cs r (slice_set (row cs r) j v)

pub stored_there : (cs : List (List ℕ)) (r j v q k : ℕ) → Differ r j q k →
    cell (stored cs r j v) q k ≡ cell cs q k
stored_there cs r j v q k n = grind (arith, cases_eq, row_here, set_there, row_there)

pub stored_here : (cs ds : List (List ℕ)) (r j v : ℕ) → length (row cs r) ≡ length (row ds r) →
    cell (stored cs r j v) r j ≡ cell (stored ds r j v) r j
stored_here cs ds r j v e = grind (arith, row_here, set_here)

pub stored_shape : (cs : List (List ℕ)) (r j v q : ℕ) → length (row (stored cs r j v) q) ≡ length (row cs q)
stored_shape cs r j v q = grind (arith, cases_eq, row_here, set_length, row_there)

pub stored_rows : (cs : List (List ℕ)) (r j v : ℕ) → length (stored cs r j v) ≡ length cs
stored_rows cs r j v = go cs r (slice_set (row cs r) j v)
  where
    go : (xs : List (List ℕ)) (q : ℕ) (x : List ℕ) → length (with_row xs q x) ≡ length xs
    go (y ∷ ys) (suc q) x = ap suc (go ys q x)
    go xs q x = refl

-- the cells after an operation
op_cells : (op : Op) (xs : List ℕ) (o : Outside) → is_store_op op ≡ false → (after_op op xs o).cells ≡ o.cells
op_cells op xs o e = grind arith

op_stores : (op : Op) (xs : List ℕ) (o : Outside) (r : ℕ) → is_store_op op ≡ true → is_on_row op r ≡ true →
    (after_op op xs o).cells ≡ stored o.cells r (slice_index xs 0) (slice_index xs 1)
op_stores op xs o r e f = grind arith

op_row : (op : Op) → is_store_op op ≡ true → (r : ℕ) × (is_on_row op r ≡ true)
op_row (Store a) e = (a - 1, eq-eqb (a - 1) (a - 1) refl)
op_row _ e = absurd (both_ways false refl e)

module _ (image : Image) where
  pub store_row : (i : ℕ) → is_store_op (instr_at image i).op ≡ true →
      (r : ℕ) × (is_on_row (instr_at image i).op r ≡ true)
  store_row i e = op_row (instr_at image i).op e

  pub plain_cells : (i : ℕ) (xs : List ℕ) (o : Outside) → is_store_op (instr_at image i).op ≡ false →
      (effect_after image i xs o).cells ≡ o.cells
  unfolding effect_after after
  plain_cells i xs o e = op_cells (instr_at image i).op xs o e

  pub store_cells : (i : ℕ) (xs : List ℕ) (o : Outside) (r : ℕ) → is_store_op (instr_at image i).op ≡ true →
      is_on_row (instr_at image i).op r ≡ true →
      (effect_after image i xs o).cells ≡ stored o.cells r (slice_index xs 0) (slice_index xs 1)
  unfolding effect_after after
  store_cells i xs o r e f = op_stores (instr_at image i).op xs o r e f

  pub after_shape : (i : ℕ) (xs : List ℕ) (o : Outside) (q : ℕ) →
      length (row (effect_after image i xs o).cells q) ≡ length (row o.cells q)
  after_shape i xs o q = elim (cases_Bool (is_store_op (instr_at image i).op)) [
    | inl s ↦ (let r = store_row i s in ap (λ (cs : List (List ℕ)). length (row cs q))
        (store_cells i xs o r.0 s r.1) ∙ stored_shape o.cells r.0 (slice_index xs 0) (slice_index xs 1) q)
    | inr s ↦ ap (λ (cs : List (List ℕ)). length (row cs q)) (plain_cells i xs o s)
  ]

  pub after_rows : (i : ℕ) (xs : List ℕ) (o : Outside) →
      length (effect_after image i xs o).cells ≡ length o.cells
  after_rows i xs o = elim (cases_Bool (is_store_op (instr_at image i).op)) [
    | inl s ↦ (let r = store_row i s in ap (λ (cs : List (List ℕ)). length cs) (store_cells i xs o r.0 s r.1)
        ∙ stored_rows o.cells r.0 (slice_index xs 0) (slice_index xs 1))
    | inr s ↦ ap (λ (cs : List (List ℕ)). length cs) (plain_cells i xs o s)
  ]

  module _ (world : World) (facts : WalkFacts image world) where
    -- the walk's step is a store on the cell
    pub record StoreAt (r j t : ℕ) : Type 0 where
      pub inst : Inst
      pub fires : fires image world t ≡ Some inst
      pub store : is_store_op (instr_at image inst.instr).op ≡ true
      pub row : is_on_row (instr_at image inst.instr).op r ≡ true
      pub index : slice_index inst.operands 0 ≡ j

    shape_step : (t q : ℕ) → length (row (effect_at image world (suc t)).cells q) ≡ length
        (row (effect_at image world t).cells q)
    shape_step t q = elim (cases_fires image world t) [
      | inl n ↦ ap (λ (o : Outside). length (row o.cells q)) (facts.mem_none t n)
      | inr r ↦ elim (cases_Bool (is_memory image r.0.instr)) [
        | inl m ↦ ap (λ (o : Outside). length (row o.cells q)) (facts.mem_op t r.0 r.1 m)
            ∙ after_shape r.0.instr r.0.operands (effect_at image world t) q
        | inr m ↦ ap (λ (o : Outside). length (row o.cells q)) (facts.mem_plain t r.0 r.1 m)
      ]
    ]

    -- arrays keep their lengths
    pub shape_at : (t q : ℕ) → length (row (effect_at image world t).cells q) ≡ length
        (row (effect_at image world 0).cells q)
    shape_at zero q = refl
    shape_at (suc t) q = shape_step t q ∙ shape_at t q

    pub shapes : (t u q : ℕ) → length (row (effect_at image world t).cells q) ≡ length
        (row (effect_at image world u).cells q)
    shapes t u q = shape_at t q ∙ sym (shape_at u q)

    stays_op : (t r j : ℕ) (x : Inst) → fires image world t ≡ Some x → is_memory image x.instr ≡ true →
        (StoreAt r j t → ⊥) → cell (effect_at image world (suc t)).cells r j ≡ cell
        (effect_at image world t).cells r j
    stays_op t r j x fx m none = ap (λ (o : Outside). cell o.cells r j) (facts.mem_op t x fx m)
        ∙ elim (cases_Bool (is_store_op (instr_at image x.instr).op)) [
          | inl s ↦ (let q = store_row x.instr s in
              ap (λ (cs : List (List ℕ)). cell cs r j)
              (store_cells x.instr x.operands (effect_at image world t) q.0 s q.1)
              ∙ stored_there (effect_at image world t).cells q.0 (slice_index x.operands 0)
              (slice_index x.operands 1) r j
              (λ e f. none (grind arith)))
          | inr s ↦ ap (λ (cs : List (List ℕ)). cell cs r j)
              (plain_cells x.instr x.operands (effect_at image world t) s)
        ]

    stays : (t r j : ℕ) → (StoreAt r j t → ⊥) →
        cell (effect_at image world (suc t)).cells r j ≡ cell (effect_at image world t).cells r j
    stays t r j none = elim (cases_fires image world t) [
      | inl n ↦ ap (λ (o : Outside). cell o.cells r j) (facts.mem_none t n)
      | inr f ↦ elim (cases_Bool (is_memory image f.0.instr)) [
        | inl m ↦ stays_op t r j f.0 f.1 m none
        | inr m ↦ ap (λ (o : Outside). cell o.cells r j) (facts.mem_plain t f.0 f.1 m)
      ]
    ]

    -- where no store on the cell is between, it keeps its value
    pub between : (t u r j : ℕ) → t ≤ u → ((k : ℕ) → t ≤ k → k < u → StoreAt r j k → ⊥) →
        cell (effect_at image world u).cells r j ≡ cell (effect_at image world t).cells r j
    between t zero r j l none = let e : t ≡ zero = omega (arith, l) in
        ap (λ (n : ℕ). cell (effect_at image world n).cells r j) (sym e)
    between t (suc u) r j l none = elim (cases_eq t (suc u)) [
      | inl e ↦ ap (λ (n : ℕ). cell (effect_at image world n).cells r j) (sym e)
      | inr n ↦ (let m : t ≤ u = omega (arith, l, n) in
          stays u r j (none u m (omega arith)) ∙ between t u r j m (λ k a b. none k a (omega (arith, b))))
    ]

    -- after a store on the cell
    pub store_leaves : (t r j : ℕ) (s : StoreAt r j t) (cs : List (List ℕ)) →
        is_memory image s.inst.instr ≡ true →
        length (row cs r) ≡ length (row (effect_at image world t).cells r) →
        cell (stored cs r j (slice_index s.inst.operands 1)) r j ≡ cell
        (effect_at image world (suc t)).cells r j
    store_leaves t r j s cs m e = stored_here cs (effect_at image world t).cells r j (slice_index
        s.inst.operands 1) e ∙ ap (λ (n : ℕ). cell (stored (effect_at image world t).cells r n (slice_index
        s.inst.operands 1)) r j) (sym s.index) ∙ sym (ap (λ (o : Outside). cell o.cells r j) (facts.mem_op t
        s.inst s.fires m) ∙ ap (λ (ds : List (List ℕ)). cell ds r j) (store_cells _ _ _ _ s.store s.row))

-- the same of the operation alone
pub op_plain : (image : Image) (i : ℕ) (xs : List ℕ) (o : Outside) →
    is_store_op (instr_at image i).op ≡ false → (after_op (instr_at image i).op xs o).cells ≡ o.cells
op_plain image i xs o e = op_cells (instr_at image i).op xs o e

pub op_store : (image : Image) (i : ℕ) (xs : List ℕ) (o : Outside) (r : ℕ) →
    is_store_op (instr_at image i).op ≡ true → is_on_row (instr_at image i).op r ≡ true →
    (after_op (instr_at image i).op xs o).cells ≡ stored o.cells r (slice_index xs 0) (slice_index xs 1)
op_store image i xs o r e f = op_stores (instr_at image i).op xs o r e f
