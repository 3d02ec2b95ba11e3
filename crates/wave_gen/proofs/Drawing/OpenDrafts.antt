-- Drafts of plans are open to notes.
use Rattle.std.proofs.Common.{ℕ, suc, ◌+◌, ◌-◌, ◌≡◌, ◌<◌, ◌≤◌, ◌⊎◌, true, false, cond, eqb, List, [], ◌∷◌}
use Rattle.std.proofs.Common.{length, refl, sym, ap, ◌∙◌, subst, inl, inr, arith}
use Rattle.std.proofs.lemmas.Bool.{cases_Bool, cases_lt, both_ways}
use Rattle.std.specs.List.{AllByRecursion}
use Rattle.ws_isa.specs.declared.instr.Op.{Op}
use Rattle.ws_isa.specs.declared.instr.Op.TheVariants.{Merge, Advance, Steer, Send}
use Rattle.ws_isa.specs.declared.instr.Dest.{Dest}
use Rattle.ws_isa.specs.Image.{Image, Instr, Pad, Array, instr_at, block_at, first_number, ports}
use Rattle.ws_isa.specs.Image.{is_giving_op, is_stop, stops, now_of, now_dests, edge_of, edge_dests, IsIn}
use Rattle.ws_isa.specs.Image.{IsBlock, IsInstr, is_steer_op}
use Rattle.ws_isa.specs.Formed.{DestsIn, OpIn, ExitIn, References, DestsSuit, OthersSuit, SomeLanding, Suited}
use Rattle.ws_isa.specs.Sound.{HasDest, BlockShape, ShapeRules}
use Rattle.ws_isa.specs.Open.{OpenToNotes}
use Rattle.wave_gen.specs.Waits.{Code}
use Rattle.wave_gen.specs.Wire.{WiredInstr, Wants, dests_of}
use Rattle.wave_gen.specs.Plans.{HowLeft, Onto, Either, Lands, Halts, Plan, fronts, plan_at, made_at, begins}
use Rattle.wave_gen.specs.Plans.{instr_of, draft_of, code_of, exit_of, source_of}
use Rattle.wave_gen.proofs.Planning.Planned.{AllIn, PadsFit, PlansAre, EdgesAre, Outer}
use Rattle.wave_gen.proofs.Planning.More.{PlansGive}
use Rattle.wave_gen.proofs.Planning.Opening.{PlansOpen}
use Rattle.wave_gen.proofs.Waits.Turns.{waits_slots}
use Rattle.wave_gen.proofs.Drawing.Number.{is_block, block_is, block_at_is}
use Rattle.wave_gen.proofs.OfItems.Lines.{Items}
use Rattle.wave_gen.proofs.Drawing.Drafts.{Kind, LineOf, line_in, inner_line, outer_line, front_line}
use Rattle.wave_gen.proofs.Drawing.Starts.{first_is, starts_has}
use Rattle.wave_gen.proofs.Drawing.Blocks.{starts_outer}
use Rattle.wave_gen.proofs.Drawing.Edges.{exit_is}
use Rattle.wave_gen.proofs.Drawing.Waiting.{target_there, waits}
use Rattle.wave_gen.proofs.Drawing.Shape.{shape, shape_front, shape_source, shape_address, shape_steers}
use Rattle.wave_gen.proofs.Drawing.Shape.{shape_sends}
use Rattle.wave_gen.proofs.Waits.Valid.{Slot, now_slot, edge_slot, starts_slot, slot_ahead}
use Rattle.wave_gen.proofs.Drawing.MoreShapes.{more_waves, more_pad_zero, more_pads_first, pad_front}
use Rattle.wave_gen.proofs.Drawing.MoreShapes.{more_pads, more_source, more_address, more_landing_first}
use Rattle.wave_gen.proofs.Drawing.MoreShapes.{more_landing_pad, more_halt_stops, more_stop_halts}
use Rattle.wave_gen.proofs.Drawing.MoreShapes.{more_halt_last}
use Rattle.wave_gen.proofs.Drawing.OpenArms.{draft_bare, draft_arms, draft_givers}
use Rattle.wave_gen.proofs.Drawing.SuitLines.{Suits, suits_at, lines_suit}
use Rattle.wave_gen.proofs.Drawing.AllInstrs.{all_instrs, all_blocks}
use Rattle.wave_link.proofs.Sound.FormedOf.{all_members as all_of_in}
use Rattle.wave_link.proofs.Grown.GrownOrigin.{is_instr as in_image}
use Rattle.ws_words.specs.Items.{In}

-- which lists an operation has
sort : (op : Op) → (op ≡ Steer)
    ⊎ (((p : ℕ) × (op ≡ Send p)) ⊎ ((is_steer_op op ≡ false) × ((ds : List Dest) → now_of op ds ≡ ds)))
sort op = grind arith

record InstrSuits (n : Instr) : Type 0 where
  pub dests : is_giving_op n.op ≡ false → is_steer_op n.op ≡ false → n.dests ≡ []
  pub others : is_steer_op n.op ≡ false → n.others ≡ []

instr_suits : (first : ℕ → ℕ) (l : WiredInstr) → Suits l → InstrSuits (instr_of first l)
instr_suits first l s = grind arith

suit_dests : (op : Op) (ds : List Dest) → (is_giving_op op ≡ false → is_steer_op op ≡ false → ds ≡ [])
    → DestsSuit op ds
suit_dests op ds h = grind (arith, both_ways)

suit_others : (op : Op) (ds : List Dest) → (is_steer_op op ≡ false → ds ≡ []) → OthersSuit op ds
suit_others op ds h = grind arith

all_dests : (image : Image) (ds : List Dest)
    → ((j q : ℕ) → HasDest ds j q → IsInstr image j × (q < ports image j)) → DestsIn image ds
all_dests image [] h = tt
all_dests image (d ∷ ds) h =
    (h d.instr d.port (inl (refl, refl)), all_dests image ds (λ j q i. h j q (inr i)))

module _ (arrays : List Array) (width : ℕ) (ps : List Plan) (Live : ℕ → ℕ → Type 0)
    (plans : PlansAre ps width Live) (gives : PlansGive ps) (opens : PlansOpen ps) where
  abbrev I : Image
  I = draft_of arrays width ps

  abbrev C : Code
  C = code_of width ps

  abbrev Is : ℕ → Type 0
  Is b = (1 ≤ b) × (b ≤ length ps)

  abbrev SlotAt : ℕ → ℕ → ℕ → ℕ → Type 0
  SlotAt b k j q = Slot I C (shape arrays width ps Live plans) (waits arrays width ps Live plans) b k j q

  suits_in : (b k : ℕ) → IsBlock I b → IsIn I b k → InstrSuits (instr_at I k)
  suits_in b k hb i =
      let h : Is b = is_block arrays width ps b hb in
      let l = line_in arrays width ps Live plans.each b h k i in
      subst InstrSuits (sym l.is) (instr_suits (begins width ps) l.line
      (suits_at (made_at width ps b).code l.place l.line (lines_suit width ps Live plans gives b h)
      l.found))

  now_is : (k : ℕ) → ((ds : List Dest) → now_of (instr_at I k).op ds ≡ ds)
      → now_dests I k ≡ (instr_at I k).dests
  unfolding now_dests
  now_is k h = h (instr_at I k).dests

  steer_dests : (b r k : ℕ) → (instr_at I k).op ≡ Steer → edge_dests I b r k ≡ cond (eqb r 0)
      (instr_at I k).others (instr_at I k).dests
  unfolding edge_dests
  steer_dests b r k e = ap (edge_of I b r (instr_at I k)) e

  steer_runs : (b k : ℕ) → IsBlock I b → IsIn I b k → (instr_at I k).op ≡ Steer → stops I b ≡ false
  unfolding stops
  steer_runs b k hb i e = let r = shape_steers arrays width ps Live plans b k hb i e in ap is_stop r.3

  -- where an instruction's lists lead
  dest_slot : (b k j q : ℕ) → IsBlock I b → IsIn I b k → HasDest (instr_at I k).dests j q
      → SlotAt b (suc k) j q
  dest_slot b k j q hb i d = elim (sort (instr_at I k).op) [
    | inl e ↦ edge_slot I C (shape arrays width ps Live plans) (waits arrays width ps Live plans) b 1 k j q hb
        (steer_runs b k hb i e) i (rw (steer_dests b 1 k e) d)
    | inr s ↦ elim s [
      | inl p ↦ absurd (let z : (instr_at I k).dests ≡ [] = (suits_in b k hb i).dests (ap is_giving_op p.1)
          (ap is_steer_op p.1) in rw z at d)
      | inr n ↦ grind (arith, now_slot, shape, waits, now_is)
    ]
  ]

  other_slot : (b k j q : ℕ) → IsBlock I b → IsIn I b k → HasDest (instr_at I k).others j q
      → SlotAt b (suc k) j q
  other_slot b k j q hb i d = elim (sort (instr_at I k).op) [
    | inl e ↦ edge_slot I C (shape arrays width ps Live plans) (waits arrays width ps Live plans) b 0 k j q hb
        (steer_runs b k hb i e) i (grind (arith, steer_dests))
    | inr s ↦
        absurd (subst (λ (ds : List Dest). HasDest ds j q)
        ((suits_in b k hb i).others (elim s [ inl p ↦ ap is_steer_op p.1 | inr n ↦ n.0 ])) d)
  ]

  slot_there : (b k j q : ℕ) → SlotAt b k j q → IsInstr I j × (q < ports I j)
  slot_there b k j q s = (in_image I s.block j s.there s.inside, s.port)

  block_shape : (b : ℕ) → IsBlock I b → BlockShape I b
  block_shape b hb = record {
    opening = λ e. rw e (more_pad_zero arrays width ps Live plans gives);
    edges = (shape arrays width ps Live plans).edges b hb;
    front = record {
      advances = λ k i a. (shape arrays width ps Live plans).advances b k hb i a;
      front = λ j k i a l u. shape_front arrays width ps Live plans b j k hb i a l u;
      pads = more_pads_first arrays width ps Live plans gives b hb;
    };
    exit = record {
      source = λ s x y e. shape_source arrays width ps Live plans b s x y hb e;
      address = λ s ls e. shape_address arrays width ps Live plans b s ls hb e;
      source_gives = λ s x y e. more_source arrays width ps Live plans gives b s x y hb e;
      address_gives = λ s ls e. more_address arrays width ps Live plans gives b s ls hb e;
    };
    hang = record {
      steers = λ k i e. shape_steers arrays width ps Live plans b k hb i e;
      sends = λ k p i e. shape_sends arrays width ps Live plans b k p hb i e;
      landing_pad = λ k p r i e. more_landing_pad arrays width ps Live plans gives b k p r hb i e;
      landing_first = λ s r ls e. more_landing_first arrays width ps Live plans gives b s r ls hb e;
    };
    halt = record {
      halt_stops = λ k i e. more_halt_stops arrays width ps Live plans gives b k hb i e;
      stop_halts = more_stop_halts arrays width ps Live plans gives b hb;
      halt_last = λ j k i e l m. more_halt_last arrays width ps Live plans gives b j k hb i e l m;
    };
    dests = record {
      dests = λ k j q i d. slot_ahead I C (shape arrays width ps Live plans)
          (waits arrays width ps Live plans) b k j q (dest_slot b k j q hb i d);
      others = λ k j q i d. slot_ahead I C (shape arrays width ps Live plans)
          (waits arrays width ps Live plans) b k j q (other_slot b k j q hb i d);
      pads = λ p j q i d. more_pads arrays width ps Live plans gives b p j q hb i d;
    };
  }

  shape_rules : ShapeRules I
  shape_rules = record {
    has_block = (shape arrays width ps Live plans).has_block;
    waves = more_waves arrays width ps Live plans gives;
    blocks = block_shape;
  }

  -- pads
  pad_there : (b : ℕ) (p : Pad) (j q : ℕ) → IsBlock I b → In p (block_at I b).pads → HasDest p.dests j q
      → IsInstr I j × (q < ports I j)
  pad_there b p j q hb i d = go (cases_Bool (plan_at ps b).first)
    where
      h : Is b
      h = is_block arrays width ps b hb

      f : (x : ℕ) × HasDest (dests_of (begins width ps) (fronts b 0 (plan_at ps b).entries x)) j q
      f = pad_front arrays width ps Live plans gives b 0 (plan_at ps b).entries (plan_at ps b).pads p j q
          (grind (arith, block_at_is, h)) d

      go : ((plan_at ps b).first ≡ true) ⊎ ((plan_at ps b).first ≡ false) → IsInstr I j × (q < ports I j)
      go (inl e) = slot_there b (first_number I b) j q (starts_slot I C (shape arrays width ps Live plans)
          (waits arrays width ps Live plans) b j q f.0 hb
          (starts_has arrays width ps Live plans b h f.0 j q
          (subst (λ (w : Wants). HasDest (dests_of (begins width ps) (w f.0)) j q)
          (sym (starts_outer width ps b e)) f.1)))
      go (inr e) = absurd (let z : (block_at I b).pads ≡ [] = more_pads_first arrays width ps Live plans gives
          b hb (first_is arrays width ps Live plans b h ∙ e) in subst (λ (l : List Pad). In p l) z i)

  -- exits
  landings_in : (values ls : List ℕ) → AllIn ls (λ c. Outer ps c × PadsFit ps values c)
      → AllByRecursion (IsBlock I) ls
  landings_in values [] a = tt
  landings_in values (c ∷ ls) a = (
    block_is arrays width ps c (a.0.0.some, a.0.0.there),
    landings_in values ls a.1,
  )

  exit_in : (b : ℕ) → IsBlock I b → ExitIn I (block_at I b).exit
  exit_in b hb = go (plan_at ps b).exit refl (plans.each b (is_block arrays width ps b hb)).edges
    where
      h : Is b
      h = is_block arrays width ps b hb

      is : (e : HowLeft) → (plan_at ps b).exit ≡ e → (block_at I b).exit ≡ exit_of (source_of width ps b) e
      is e q = exit_is arrays width ps Live plans b h ∙ ap (exit_of (source_of width ps b)) q

      go : (e : HowLeft) → (plan_at ps b).exit ≡ e → EdgesAre ps b e → ExitIn I (block_at I b).exit
      go (Onto c) q g = subst (ExitIn I) (sym (is (Onto c) q))
          (block_is arrays width ps c (target_there arrays width ps Live plans b c h g))
      go (Either op from c d) q g = subst (ExitIn I) (sym (is (Either op from c d) q)) (
        in_image I b (source_of width ps b) hb (shape_source arrays width ps Live plans b
            (source_of width ps b) c d hb (is (Either op from c d) q)),
        block_is arrays width ps c (target_there arrays width ps Live plans b c h (inl g.0)),
        block_is arrays width ps d (target_there arrays width ps Live plans b d h (inl g.1)),
      )
      go (Lands op from values ls) q g = subst (ExitIn I) (sym (is (Lands op from values ls) q)) (
        in_image I b (source_of width ps b) hb (shape_address arrays width ps Live plans b
            (source_of width ps b) ls hb (is (Lands op from values ls) q)),
        landings_in values ls g.1,
      )
      go Halts q g = subst (ExitIn I) (sym (is Halts q)) tt

  lands : (b : ℕ) → IsBlock I b → SomeLanding (block_at I b).exit
  lands b hb = go (plan_at ps b).exit refl (plans.each b (is_block arrays width ps b hb)).edges
    where
      is : (e : HowLeft) → (plan_at ps b).exit ≡ e → (block_at I b).exit ≡ exit_of (source_of width ps b) e
      is e q = exit_is arrays width ps Live plans b (is_block arrays width ps b hb)
          ∙ ap (exit_of (source_of width ps b)) q

      go : (e : HowLeft) → (plan_at ps b).exit ≡ e → EdgesAre ps b e → SomeLanding (block_at I b).exit
      go (Onto c) q g = subst SomeLanding (sym (is (Onto c) q)) tt
      go (Either op from c d) q g = subst SomeLanding (sym (is (Either op from c d) q)) tt
      go (Lands op from values ls) q g = subst SomeLanding (sym (is (Lands op from values ls) q)) g.0
      go Halts q g = subst SomeLanding (sym (is Halts q)) tt

  -- an operation of a property that plans keep
  pub op_has : (P : Op → Type 0) → P Merge → P Advance → ((b : ℕ) → Is b → Items P (plan_at ps b).items)
      → ((b : ℕ) → Is b → Kind P (plan_at ps b).exit) → (b k : ℕ) → IsBlock I b → IsIn I b k
      → P (instr_at I k).op
  op_has P merge advance items kind b k hb i = go (cases_Bool (plan_at ps b).first)
    where
      h : Is b
      h = is_block arrays width ps b hb

      l : LineOf arrays width ps Live plans.each b h k
      l = line_in arrays width ps Live plans.each b h k i

      to : P l.line.op → P (instr_at I k).op
      to p = subst P (sym (ap (λ (n : Instr). n.op) l.is)) p

      go : ((plan_at ps b).first ≡ true) ⊎ ((plan_at ps b).first ≡ false) → P (instr_at I k).op
      go (inr f) = to (inner_line arrays width ps Live plans.each b h P merge (kind b h) (items b h) f l.place
          l.line l.found)
      go (inl f) = elim (cases_lt l.place (length (plan_at ps b).entries)) [
        | inl u ↦
            to (subst P (sym (front_line arrays width ps Live plans.each b h f l.place l.line u l.found))
            advance)
        | inr u ↦ (let n : length (plan_at ps b).entries + (l.place - length (plan_at ps b).entries)
            ≡ l.place = omega arith in
            to (outer_line arrays width ps Live plans.each b h P merge (kind b h) (items b h) f
            (l.place - length (plan_at ps b).entries) l.line (rw n l.found)))
      ]

  module _ (items : (b : ℕ) → Is b → Items (OpIn I) (plan_at ps b).items) (kind : (b : ℕ) → Is b
      → Kind (OpIn I) (plan_at ps b).exit) where
    references : References I
    references = record {
      dests = all_instrs arrays width ps (λ n. DestsIn I n.dests)
          (λ b k hb i. all_dests I (instr_at I k).dests
          (λ j q d. slot_there b (suc k) j q (dest_slot b k j q hb i d)));
      others = all_instrs arrays width ps (λ n. DestsIn I n.others)
          (λ b k hb i. all_dests I (instr_at I k).others
          (λ j q d. slot_there b (suc k) j q (other_slot b k j q hb i d)));
      ops = all_instrs arrays width ps (λ n. OpIn I n.op) (op_has (OpIn I) tt tt items kind);
      pads = all_blocks arrays width ps (λ k. AllByRecursion (λ p. DestsIn I p.dests) k.pads)
          (λ b hb. all_of_in (λ p. DestsIn I p.dests) (block_at I b).pads
          (λ p i. all_dests I p.dests (λ j q d. pad_there b p j q hb i d)));
      exits = all_blocks arrays width ps (λ k. ExitIn I k.exit) exit_in;
    }

    suited : Suited I
    suited = record {
      references = references;
      lists = record {
        dests = all_instrs arrays width ps (λ n. DestsSuit n.op n.dests)
            (λ b k hb i. suit_dests (instr_at I k).op (instr_at I k).dests (suits_in b k hb i).dests);
        others = all_instrs arrays width ps (λ n. OthersSuit n.op n.others)
            (λ b k hb i. suit_others (instr_at I k).op (instr_at I k).others (suits_in b k hb i).others);
      };
      landings = all_blocks arrays width ps (λ k. SomeLanding k.exit) lands;
    }

    -- a draft of plans is open to notes
    pub draft_open : OpenToNotes I
    draft_open = record {
      bare = draft_bare arrays width ps;
      walkable = record {
        suited = suited;
        shape = shape_rules;
        slots = waits_slots I C (shape arrays width ps Live plans) (waits arrays width ps Live plans);
      };
      arms = draft_arms arrays width ps Live plans opens;
      givers = draft_givers arrays width ps Live plans opens;
    }
