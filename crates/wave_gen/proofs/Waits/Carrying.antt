-- The instruction by which an edge is chosen carries its result to each tail.
use Rattle.std.proofs.Common.{ℕ, zero, suc, ◌+◌, ◌≡◌, ◌≤◌, ◌⊎◌, ◌&&◌, not, Bool, cond, ltb, List, [], ◌∷◌}
use Rattle.std.proofs.Common.{length, Some, None, refl, sym, ap, ◌∙◌, inl, inr, arith}
use Rattle.std.proofs.lemmas.Bool.{cases_eq}
use Rattle.ws_isa.specs.declared.instr.Op.{Op}
use Rattle.ws_isa.specs.declared.instr.Op.TheVariants.{Merge, Send}
use Rattle.ws_isa.specs.declared.instr.Dest.{Dest}
use Rattle.ws_isa.specs.Image.{Image, instr_at, now_dests, first_number, IsIn, is_memory_op}
use Rattle.ws_isa.specs.Sound.{HasDest, BringsResult, direct, through}
use Rattle.wave_gen.specs.Waits.{Owner, without, Step, Fires, Rests, Skips, Copies, own, Stands}
use Rattle.wave_gen.specs.Wire.{Wants, Made, skip, gather, with_room, with_rooms, make, wire, most, is_nil}
use Rattle.wave_gen.specs.Plans.{Tail, operands_of, hang, more, chain, selected}
use Rattle.wave_gen.proofs.Waits.Turns.{without_keeps, ports_here, ports_other, stands_end}
use Rattle.ws_words.specs.Items.{nth}

-- the port of the selector
abbrev pub selector_port : Op → ℕ
selector_port (Send p) = 0
selector_port op = 1

-- the selector of a tail is one of these names
abbrev pub Selects : ℕ → ℕ → Op → List ℕ → Type 0
Selects z top op from = (y : ℕ) × (nth from (selector_port op) ≡ Some y) × (z ≤ y) × (y ≤ top)

-- steps that carry the names from z to n
abbrev pub Sel : ℕ → ℕ → List Step → Type 0
Sel z n [] = Unit {0}
Sel z n (Fires x op from ∷ ss) = (op ≡ Merge) × (((x ≡ suc n) × (from ≡ n ∷ []) × Sel z (suc n) ss)
    ⊎ ((from ≡ x ∷ []) × Sel z n ss))
Sel z n (Rests op from ∷ ss) = Selects z n op from × Sel z n ss
Sel z n (Skips x op from ∷ ss) = (x ≡ suc n) × Sel z (suc n) ss
Sel z n (Copies x y ∷ ss) = ⊥

dest_place : (ds : List Dest) (j q : ℕ) → HasDest ds j q → (place : ℕ) × (d : Dest) × (nth ds place ≡ Some d)
    × (d.instr ≡ j) × (d.port ≡ q)
dest_place [] j q h = absurd h
dest_place (d ∷ ds) j q (inl h) = (0, d, refl, h.0, h.1)
dest_place (d ∷ ds) j q (inr h) = let r = dest_place ds j q h in (suc r.0, r.1, r.2, r.3, r.4)

module _ (image : Image) (b : ℕ) (Kept : ℕ → ℕ → Type 0) (o : Owner) where
  pub at_once : (k j q : ℕ) → HasDest (now_dests image k) j q → BringsResult image b k j q
  at_once k j q h = let r = dest_place (now_dests image k) j q h in direct r.0 r.1 r.2 r.3 r.4

  -- carried on by a merge
  carried_on : (s k j q : ℕ) → BringsResult image b s k 0 → IsIn image b k → (instr_at image k).op ≡ Merge
      → BringsResult image b k j q → BringsResult image b s j q
  carried_on s k j q (direct place d e f g) i m c = through place d e g (rw f i) (rw f m) (rw f c)
  carried_on s k j q (through place d e g i' m' c') i m c = through place d e g i' m'
      (carried_on d.instr k j q c' i m c)

  -- every slot that waits for one of these names is reached from s
  abbrev pub Reached : ℕ → ℕ → ℕ → ℕ → List Step → Type 0
  Reached s z n k ss = (y j q : ℕ) → z ≤ y → y ≤ n → own k ss o j q ≡ Some y → BringsResult image b s j q

  not_there : (k q y : ℕ) (p : Owner) → p k q ≡ None → (j : ℕ) → p j q ≡ Some y → j ≡ k → ⊥
  not_there k q y p f j e g = let a : p k q ≡ Some y = rw g at e in let c : None ≡ Some y = sym f ∙ a in cc

  -- each tail among the steps
  abbrev pub Carried : ℕ → ℕ → List Step → Type 0
  Carried s k [] = Unit {0}
  Carried s k (Fires x op from ∷ ss) = Carried s (suc k) ss
  Carried s k (Rests op from ∷ ss) = BringsResult image b s k (selector_port op) × Carried s (suc k) ss
  Carried s k (Skips x op from ∷ ss) = Carried s k ss
  Carried s k (Copies x y ∷ ss) = Carried s k ss

  pub carried : (s z n k : ℕ) (ss : List Step) → Stands image b Kept k ss o → first_number image b ≤ k → z ≤ n
      → Sel z n ss → Reached s z n k ss → Carried s k ss
  carried s z n k (Fires x op from ∷ ss) st lo zn sel r = elim sel.1 [
    | inl a ↦ carried s z (suc n) (suc k) ss st.1 (omega arith) (omega arith) a.2
        (λ y j q l u e. elim (cases_eq x y) [
          | inl f ↦ onto n a.1 zn (omega arith) y j q f e
          | inr f ↦ r y j q l (let g : x ≡ suc n = a.0 in omega arith) (before y j q f e)
        ])
    | inr a ↦ carried s z n (suc k) ss st.1 (omega arith) zn a.1 (λ y j q l u e. elim (cases_eq x y) [
      | inl f ↦ onto x a.0 (omega arith) (omega arith) y j q f e
      | inr f ↦ r y j q l u (before y j q f e)
    ])
  ]
    where
      here : IsIn image b k
      here = grind (arith, stands_end)

      before : (y j q : ℕ) → (x ≡ y → ⊥) → own (suc k) ss o j q ≡ Some y
          → own k (Fires x op from ∷ ss) o j q ≡ Some y
      before y j q n e = grind (arith, ports_other, not_there, without_keeps)

      onto : (m : ℕ) → from ≡ m ∷ [] → z ≤ m → m ≤ n → (y j q : ℕ) → x ≡ y → own (suc k) ss o j q ≡ Some y
          → BringsResult image b s j q
      onto m f l u y j q g e =
          carried_on s k j q
          (r m k 0 l u (ports_here k from (without x (own (suc k) ss o)) 0
          ∙ ap (λ (xs : List ℕ). nth xs 0) f)) here (st.0.op_is ∙ sel.0)
          (at_once k j q (st.0.lists_all j q (e ∙ ap Some (sym g))))
  carried s z n k (Rests op from ∷ ss) st lo zn sel r = (
    r sel.0.0 k (selector_port op) sel.0.2 sel.0.3 (ports_here k from (own (suc k) ss o) (selector_port op)
        ∙ sel.0.1),
    carried s z n (suc k) ss st.1 (omega arith) zn sel.1
        (λ y j q l u e. r y j q l u (ports_other k from (own (suc k) ss o) j q
        (not_there k q y (own (suc k) ss o) (st.0.fresh q) j e) ∙ e)),
  )
  carried s z n k (Skips x op from ∷ ss) st lo zn sel r = carried s z (suc n) k ss st.2 lo (omega arith) sel.1
      (λ y j q l u e. elim (cases_eq x y) [
        | inl f ↦ absurd (st.0 j q (e ∙ ap Some (sym f)))
        | inr f ↦ r y j q l (let g : x ≡ suc n = sel.0 in omega arith) e
      ])
  carried s z n k ss st lo zn sel r = grind arith

-- the steps behind the choice carry the selector's names
module _ (z : ℕ) where
  rooms_sel : (b n : ℕ) (xs : List ℕ) (s : Made) (c : ℕ) → Sel z c s.steps
      → Sel z c (with_rooms b n xs s).steps
  rooms_sel b n [] s c h = h
  rooms_sel b n (x ∷ xs) s c h = rooms_sel b n xs (with_room b n x s) c
      (go (ltb most (length (s.wants x) + n)))
    where
      go : (f : Bool) → Sel z c (cond f (gather b x s) s).steps
      go f = grind arith

  pub sel_rooms : (b n : ℕ) (xs : List ℕ) (s : Made) (c : ℕ) → Sel z c s.steps
      → Sel z c (with_rooms b n xs s).steps
  sel_rooms = rooms_sel

  chain_sel : (b y n : ℕ) (s : Made) → Sel z (y + n) s.steps → Sel z y (wire b (chain y n) s).steps
  chain_sel b y zero s h = let e : y + 0 ≡ y = omega arith in rw e at h
  chain_sel b y (suc n) s h =
      go (chain_sel b (suc y) n s (let e : y + suc n ≡ suc y + n = omega arith in rw e at h))
      (is_nil ((wire b (chain (suc y) n) s).wants (suc y)) && not (is_memory_op Merge))
    where
      go : Sel z (suc y) (wire b (chain (suc y) n) s).steps → (f : Bool)
          → Sel z y (cond f (skip (suc y) Merge (y ∷ []) (wire b (chain (suc y) n) s))
          (make b (suc y) Merge (y ∷ []) (wire b (chain (suc y) n) s))).steps
      go k f = grind (arith, rooms_sel)

  operand_selects : (op : Op) (x y : ℕ) → nth (operands_of op x y) (selector_port op) ≡ Some y
  operand_selects op x y = grind arith

  hang_sel : (b n y : ℕ) (ts : List Tail) (w : Wants) (top : ℕ) → z ≤ y → y + more n ts ≤ top
      → Sel z top (hang b n y ts w).steps
  hang_sel b n y [] w top l u = tt
  hang_sel b zero y (t ∷ ts) w top l u = (
    (suc y, operand_selects t.line.op t.held (suc y), omega arith, omega arith),
    hang_sel b 5 (suc y) ts w top (omega arith) (omega arith),
  )
  hang_sel b (suc n) y (t ∷ ts) w top l u = (
    (y, operand_selects t.line.op t.held y, l, omega arith),
    hang_sel b n y ts w top l u,
  )

  pub selected_sel : (b : ℕ) (ts : List Tail) (w : Wants) → Sel z z (selected b z ts w).steps
  selected_sel b ts w = grind (arith, chain_sel, hang_sel)
