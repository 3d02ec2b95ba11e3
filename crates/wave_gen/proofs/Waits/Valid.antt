-- Where a slot that waits stands: ahead, at a port that is there.
use Rattle.std.proofs.Common.{ℕ, zero, suc, ◌+◌, ◌≡◌, ◌<◌, ◌≤◌, ◌⊎◌, true, false, List, [], ◌∷◌, length, Some}
use Rattle.std.proofs.Common.{◌∙◌, inl, inr, arith}
use Rattle.std.proofs.lemmas.Bool.{cases_Bool, cases_eq, cond-false}
use Rattle.ws_isa.specs.declared.instr.Op.{Op}
use Rattle.ws_isa.specs.Image.{Image, instr_at, block_at, first_number, ports, ports_of, is_advance, is_first}
use Rattle.ws_isa.specs.Image.{now_dests, edge_dests, stops, target, IsIn, IsBlock}
use Rattle.ws_isa.specs.Sound.{HasDest, IsAhead}
use Rattle.wave_gen.specs.Waits.{Owner, Step, Fires, Rests, Skips, Copies, without, with_ports, renamed}
use Rattle.wave_gen.specs.Waits.{own, count, Stands, Code, starts, Waits}
use Rattle.wave_gen.proofs.Waits.Turns.{name_is, without_is, ports_here, ports_other, stands_end}
use Rattle.wave_gen.proofs.Waits.WalkShape.{WalkShape}
use Rattle.ws_isa.proofs.Steps.{first_up, block_of_is, first_le}
use Rattle.ws_words.proofs.Places.{nth_short}

renamed_from : (x y : ℕ) (p : Owner) (j q z : ℕ) → renamed x y p j q ≡ Some z → (w : ℕ) × (p j q ≡ Some w)
renamed_from x y p j q z e = grind (arith, cases_Bool, name_is, cond-false)

-- a slot of this block from instruction k on
record Here (image : Image) (b k j q : ℕ) : Type 0 where
  pub inside : IsIn image b j
  pub low : k ≤ j
  pub port : q < ports image j

module _ (image : Image) (b : ℕ) (Kept : ℕ → ℕ → Type 0) (o : Owner) where
  port_here : (k j q x : ℕ) (op : Op) (from : List ℕ) (p : Owner) → first_number image b ≤ k
      → k < first_number image (suc b) → (instr_at image k).op ≡ op → length from ≡ ports_of op
      → with_ports k from p j q ≡ Some x → Here image b k j q ⊎ ((j ≡ k → ⊥) × (p j q ≡ Some x))
  unfolding ports
  port_here k j q x op from p lo hi e n h = grind (arith, cases_eq, ports_here, nth_short, ports_other)

  later_here : (k l j q : ℕ) → k ≤ l → Here image b l j q → Here image b k j q
  later_here k l j q u h = grind arith

  -- a slot that waits is one of the block, or waits at its end
  own_found : (k : ℕ) (ss : List Step) (j q x : ℕ) → Stands image b Kept k ss o → first_number image b ≤ k
      → own k ss o j q ≡ Some x → Here image b k j q ⊎ ((y : ℕ) × (o j q ≡ Some y))
  own_found k [] j q x s lo e = inr (x, e)
  own_found k (Fires y op from ∷ ss) j q x s lo e =
      let w : suc k + count ss ≡ first_number image (suc b) = stands_end image b Kept (suc k) ss o s.1 in
      elim (port_here k j q x op from (without y (own (suc k) ss o)) lo (omega arith) s.0.op_is s.0.ports e) [
        | inl h ↦ inl h
        | inr h ↦
            elim (own_found (suc k) ss j q x s.1 (omega arith) (without_is y (own (suc k) ss o) j q x h.1).0)
            [ inl g ↦ inl (later_here k (suc k) j q (omega arith) g) | inr g ↦ inr g ]
      ]
  own_found k (Rests op from ∷ ss) j q x s lo e =
      let w : suc k + count ss ≡ first_number image (suc b) = stands_end image b Kept (suc k) ss o s.1 in
      elim (port_here k j q x op from (own (suc k) ss o) lo (omega arith) s.0.op_is s.0.ports e) [
        | inl h ↦ inl h
        | inr h ↦ elim (own_found (suc k) ss j q x s.1 (omega arith) h.1)
            [ inl g ↦ inl (later_here k (suc k) j q (omega arith) g) | inr g ↦ inr g ]
      ]
  own_found k (Skips y op from ∷ ss) j q x s lo e = own_found k ss j q x s.2 lo e
  own_found k (Copies y z ∷ ss) j q x s lo e = let r = renamed_from y z (own k ss o) j q x e in
      own_found k ss j q r.0 s.1 lo r.1

  -- the list of an instruction
  listed : (k : ℕ) (ss : List Step) (m j q : ℕ) → Stands image b Kept k ss o → first_number image b ≤ k
      → k ≤ m → m < k + count ss → HasDest (now_dests image m) j q → Here image b (suc m) j q
      ⊎ ((y : ℕ) × (o j q ≡ Some y))
  listed k [] m j q s lo l u d = absurd (omega arith)
  listed k (Fires y op from ∷ ss) m j q s lo l u d = elim (cases_eq m k) [
    | inl e ↦ grind (arith, own_found, s.0.lists)
    | inr n ↦ listed (suc k) ss m j q s.1 (omega arith) (omega arith) (omega arith) d
  ]
  listed k (Rests op from ∷ ss) m j q s lo l u d = elim (cases_eq m k) [
    | inl e ↦ grind (arith, s.0.none)
    | inr n ↦ listed (suc k) ss m j q s.1 (omega arith) (omega arith) (omega arith) d
  ]
  listed k (Skips y op from ∷ ss) m j q s lo l u d = listed k ss m j q s.2 lo l u d
  listed k (Copies y z ∷ ss) m j q s lo l u d = listed k ss m j q s.1 lo l u d

module _ (image : Image) (c : Code) (shape : WalkShape image) (waits : Waits image c) where
  -- a slot ahead of instruction k of block b
  pub record Slot (b k j q : ℕ) : Type 0 where
    pub block : ℕ
    pub there : IsBlock image block
    pub inside : IsIn image block j
    pub port : q < ports image j
    pub ahead : (is_advance image j ≡ true)
        ⊎ ((k ≤ j) × ((block_at image block).wave ≡ (block_at image b).wave))

  one_port : (j : ℕ) → is_advance image j ≡ true → 1 ≤ ports image j
  unfolding ports is_advance
  one_port j a = grind arith

  here_slot : (b k j q : ℕ) → IsBlock image b → Here image b k j q → Slot b k j q
  here_slot b k j q h g = grind arith

  weaker : (b k l j q : ℕ) → k ≤ l → Slot b l j q → Slot b k j q
  weaker b k l j q u s = grind arith

  first_here : (t j q x : ℕ) → IsBlock image t → is_first image t ≡ true → starts image c t j q ≡ Some x
      → (b k : ℕ) → Slot b k j q
  first_here t j q x h f e b k = grind (arith, one_port)

  -- a slot that waits at a block's end
  onward : (b j q x : ℕ) → IsBlock image b → c.ends b j q ≡ Some x
      → ((t y : ℕ) → IsBlock image t → b < t → starts image c t j q ≡ Some y
      → Slot t (first_number image t) j q) → Slot b (first_number image (suc b)) j q
  onward b j q x h e later = go (cases_Bool (stops image b)) (cases_Bool (is_first image (target image b 0)))
    where
      go : (stops image b ≡ true) ⊎ (stops image b ≡ false) → (is_first image (target image b 0) ≡ true)
          ⊎ (is_first image (target image b 0) ≡ false) → Slot b (first_number image (suc b)) j q
      go (inl s) f = grind (arith, waits.stop)
      go (inr s) (inl f) = let r = waits.past_on b 0 j q x h s e in first_here (target image b 0) j q r.0
          ((shape.edges b h).there 0 s) f r.1 b (first_number image (suc b))
      go (inr s) (inr f) =
          let r = waits.past_on b 0 j q x h s e in
          let l = (shape.edges b h).later 0 s f in
          let t = later (target image b 0) r.0 ((shape.edges b h).there 0 s) l.0 r.1 in
          let u : first_number image (suc b) ≤ first_number image (target image b 0) =
          first_le image (suc b) (target image b 0) l.0 in
          record {
            block = t.block;
            there = t.there;
            inside = t.inside;
            port = t.port;
            ahead = elim t.ahead [
              | inl a ↦ inl a
              | inr a ↦
                  inr (let m : first_number image (target image b 0) ≤ j = a.0 in omega arith, a.1 ∙ l.1)
            ];
          }

  -- a slot that waits at a block's start, for blocks from the last one on
  start_slot : (n b j q x : ℕ) → IsBlock image b → length image.blocks < b + n → starts image c b j q ≡ Some x
      → Slot b (first_number image b) j q
  start_slot zero b j q x h l e = absurd (omega (arith, h.1))
  start_slot (suc n) b j q x h l e =
      let r = own_found image b (c.Kept b) (c.ends b) (first_number image b) (c.steps b) j q x
      (waits.stands b h) (omega arith) e in
      elim r [
        | inl g ↦ here_slot b (first_number image b) j q h g
        | inr g ↦ weaker b (first_number image b) (first_number image (suc b)) j q (first_up image b)
            (onward b j q g.0 h g.1 (λ t y ht m f. start_slot n t j q y ht (omega arith) f))
      ]

  pub starts_slot : (b j q x : ℕ) → IsBlock image b → starts image c b j q ≡ Some x
      → Slot b (first_number image b) j q
  starts_slot b j q x h e = start_slot (suc (length image.blocks)) b j q x h (omega (arith, h.0)) e

  -- what an instruction sends to at its turn, and on an edge
  pub now_slot : (b k j q : ℕ) → IsBlock image b → IsIn image b k → HasDest (now_dests image k) j q
      → Slot b (suc k) j q
  now_slot b k j q h i d = grind (
    arith,
    stands_end,
    c.ends,
    waits.stands,
    listed,
    here_slot,
    weaker,
    onward,
    starts_slot,
  )

  pub edge_slot : (b r k j q : ℕ) → IsBlock image b → stops image b ≡ false → IsIn image b k
      → HasDest (edge_dests image b r k) j q → Slot b (suc k) j q
  edge_slot b r k j q h s i d = go (cases_Bool (is_first image (target image b r)))
    where
      e : (y : ℕ) × (starts image c (target image b r) j q ≡ Some y)
      e = (waits.sent_on b r k j q h s i d).1

      go : (is_first image (target image b r) ≡ true) ⊎ (is_first image (target image b r) ≡ false)
          → Slot b (suc k) j q
      go (inl f) = first_here (target image b r) j q e.0 ((shape.edges b h).there r s) f e.1 b (suc k)
      go (inr f) =
          let l = (shape.edges b h).later r s f in
          let t = starts_slot (target image b r) j q e.0 ((shape.edges b h).there r s) e.1 in
          let u : first_number image (suc b) ≤ first_number image (target image b r) =
          first_le image (suc b) (target image b r) l.0 in
          record {
            block = t.block;
            there = t.there;
            inside = t.inside;
            port = t.port;
            ahead = elim t.ahead [
              | inl a ↦ inl a
              | inr a ↦
                  inr (
                    let m : first_number image (target image b r) ≤ j = a.0 in omega (arith, i.1, m, u),
                    a.1 ∙ l.1,
                  )
            ];
          }

  -- the rule on destinations
  pub slot_ahead : (b k j q : ℕ) → Slot b (suc k) j q → IsAhead image b k j
  slot_ahead b k j q s = grind (arith, block_of_is)
