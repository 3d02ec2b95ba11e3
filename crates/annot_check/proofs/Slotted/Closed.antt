-- Closed tables of waves give the slot rules of all paths.
use Rattle.std.proofs.Common.{ℕ, suc, ◌≡◌, ◌<◌, ◌⊎◌, Bool, true, false, List, [], ◌∷◌, Option, Some, None}
use Rattle.std.proofs.Common.{refl, sym, ap, ◌∙◌, inl, inr, subst, arith}
use Rattle.std.proofs.lemmas.Bool.{cases_Bool}
use Rattle.ws_isa.specs.Image.{Instr, Image, block_at, first_number, ports, ports_of, stops, target}
use Rattle.ws_isa.specs.Image.{now_dests, now_of, start_dests, is_first, IsBlock}
use Rattle.ws_isa.specs.Formed.{WavesInOrder}
use Rattle.ws_isa.specs.Sound.{OpenSlots, none_open, all_opened, closed, opens_at, Opens, begin, turn, edge}
use Rattle.ws_isa.specs.Sound.{AdvancesOpen, TurnSlots, EndSlots, EdgeInto, ShapeRules, SlotRules}
use Rattle.annot_check.specs.Runs.{run, GoodTurn, GoodRun}
use Rattle.annot_check.specs.Done.{EdgeDone, BlockDone, CameTo, PassedWith, WaveTable, Closed}
use Rattle.annot_check.proofs.Shaped.Blocks.{Tail, whole, tail_rest}
use Rattle.annot_check.proofs.Slotted.Firsts.{one_first, one_opening}
use Rattle.annot_check.proofs.Shaped.Paths.{now_tail, ports_tail}
use Rattle.ws_words.proofs.Options.{some_same}

-- the table of each wave
module _ (image : Image) (come : ℕ → Bool) (all : Closed image come) where
  abbrev pub table_by : (f : ℕ) (v : Bool) → come f ≡ v → ℕ → Option OpenSlots
  table_by f true e = (all.waves f e).known
  table_by f false e = λ b. None

  abbrev pub table_of : ℕ → ℕ → Option OpenSlots
  table_of f = table_by f (come f) refl

  is_table : (f : ℕ) (v : Bool) (e : come f ≡ v) → v ≡ true →
      WaveTable image (λ c. come c ≡ true) f (table_by f v e)
  is_table f true e h = (all.waves f e).table
  is_table f false e h = absurd (cc)

  pub table_at : (f : ℕ) → come f ≡ true → WaveTable image (λ c. come c ≡ true) f (table_of f)
  table_at f h = is_table f (come f) refl h

module _ (image : Image) (come : ℕ → Bool) (all : Closed image come) (shape : ShapeRules image)
    (order : WavesInOrder image.blocks) where
  abbrev pub known : ℕ → ℕ → Option OpenSlots
  known = table_of image come all

  at_wave : (f : ℕ) → come f ≡ true → WaveTable image (λ c. come c ≡ true) f (known f)
  at_wave = table_at image come all

  -- the path stands before these instructions of block b, and the table of its wave has the slots with which
  -- it
  -- came into b
  pub record Covered (b k : ℕ) (o : OpenSlots) : Type 0 where
    pub first : ℕ
    pub is_come : come first ≡ true
    pub wave : (block_at image b).wave ≡ (block_at image first).wave
    pub inner : PassedWith image first b
    pub slots : OpenSlots
    pub entry : known first b ≡ Some slots
    pub rest : List Instr
    pub tail : Tail image b k rest
    pub good : GoodRun rest k o
    pub out : run rest k o ≡ run (block_at image b).instrs (first_number image b) slots

  entered : (f b : ℕ) (slots : OpenSlots) (o : OpenSlots) → come f ≡ true →
      (block_at image b).wave ≡ (block_at image f).wave → PassedWith image f b → known f b ≡ Some slots →
      o ≡ slots → Covered b (first_number image b) o
  entered f b slots o c w i e g = let d : BlockDone image (known f) b slots = (at_wave f c).done b slots e i
      in grind (arith, whole)

  -- the first block of a wave is come into
  entered_first : (f : ℕ) (o : OpenSlots) → come f ≡ true → AdvancesOpen image f o →
      Covered f (first_number image f) o
  entered_first f o c a = let t : WaveTable image (λ c. come c ≡ true) f (known f) = at_wave f c in entered f
      f t.slots o c refl (inl refl) t.starts (grind (arith, one_opening))

  -- the turn of the instruction at hand
  pub record Turn (b k : ℕ) (o : OpenSlots) : Type 0 where
    pub instr : Instr
    pub ports_are : ports image k ≡ ports_of instr.op
    pub dests_are : now_dests image k ≡ now_of instr.op instr.dests
    pub good : GoodTurn instr k o
    pub after : Covered b (suc k) (all_opened (now_dests image k) (closed k o))

  at_turn : (b k : ℕ) (o : OpenSlots) → Covered b k o → k < first_number image (suc b) → Turn b k o
  at_turn b k o c w = go c.rest c.tail c.good c.out
    where
      go : (rest : List Instr) → Tail image b k rest → GoodRun rest k o →
          run rest k o ≡ run (block_at image b).instrs (first_number image b) c.slots → Turn b k o
      go [] t g e = absurd (omega (arith, t.ends))
      go (i ∷ is) t g e = grind (
        arith,
        ports_tail image b k i is t,
        now_tail image b k i is t,
        tail_rest
            image b k i is t,
      )

  -- at the end of a block
  at_end : (b k : ℕ) (o : OpenSlots) (c : Covered b k o) → k ≡ first_number image (suc b) →
      o ≡ run (block_at image b).instrs (first_number image b) c.slots
  at_end b k o c e = go c.rest c.tail c.out
    where
      go : (rest : List Instr) → Tail image b k rest → run rest k o ≡ run (block_at image b).instrs
          (first_number image b) c.slots →
          o ≡ run (block_at image b).instrs (first_number image b) c.slots
      go [] t f = f
      go (i ∷ is) t f = absurd (omega (arith, t.ends))

  block_done : (b k : ℕ) (o : OpenSlots) (c : Covered b k o) → BlockDone image (known c.first) b c.slots
  block_done b k o c = (at_wave c.first c.is_come).done b c.slots c.entry c.inner

  at_edge : (b k : ℕ) (o : OpenSlots) (c : Covered b k o) → k ≡ first_number image (suc b)
      → stops image b ≡ false →
      (r : ℕ) → EdgeDone image (known c.first) b r o
  at_edge b k o c e s r = subst (EdgeDone image (known c.first) b r) (sym (at_end b k o c e))
      ((block_done b k o c).ended.edges s r)

  -- an edge leads on in its wave, or to the first block of one
  led : (b k : ℕ) (o : OpenSlots) (c : Covered b k o) → k ≡ first_number image (suc b) → stops image b ≡ false
      → (r : ℕ) → (is_first image (target image b r) ≡ true) ⊎ (is_first image (target image b r) ≡ false) →
      Covered (target image b r) (first_number image (target image b r)) (all_opened (opens_at image b r) o)
  led b k o c e s r (inl f) = let d : EdgeDone image (known c.first) b r o = at_edge b k o c e s r in let t :
      WaveTable image (λ x. come x ≡ true) c.first (known c.first) = at_wave c.first c.is_come in
      entered_first (target image b r) (all_opened (opens_at image b r) o) (grind arith) (subst (AdvancesOpen
      image (target image b r)) (sym d.leaves) (d.crossing f))
  led b k o c e s r (inr f) = grind (arith, at_edge b k o c e s r, entered, block_done b k o c)

  pub covered : (b k : ℕ) (o : OpenSlots) → Opens image b k o → Covered b k o
  covered b k o begin = entered_first 1 (all_opened (start_dests image) none_open) all.one all.begun.begins
  covered b k o (turn {b = c} {k = l} {o = p} path w) = (at_turn c l p (covered c l p path) w).after
  covered b k o (edge {b = c} {k = l} {o = p} path e s r) = grind (arith, led, cases_Bool, covered c l p path)

  -- an edge that a path takes is done in the table of its wave
  record Taken (c b : ℕ) (o : OpenSlots) : Type 0 where
    pub first : ℕ
    pub is_come : come first ≡ true
    pub here : IsBlock image c
    pub wave : (block_at image c).wave ≡ (block_at image first).wave
    pub slots : OpenSlots
    pub lands : known first b ≡ Some slots
    pub leaves : o ≡ slots
    pub crossing : is_first image b ≡ true → AdvancesOpen image b slots
    pub same_wave : is_first image b ≡ false → (block_at image b).wave ≡ (block_at image c).wave

  taken : (c b : ℕ) (o : OpenSlots) → EdgeInto image c b o → Taken c b o
  taken c b o e = let x : Covered c (first_number image (suc c)) e.before = grind (arith, covered) in let d :
      EdgeDone image (known x.first) c e.choice e.before = at_edge c (first_number image (suc c)) e.before x
      refl e.goes_on e.choice in let h : IsBlock image c = grind (arith, block_done) in record {
        first = x.first;
        is_come = x.is_come;
        here = h;
        wave = x.wave;
        slots = d.slots;
        lands = grind arith;
        leaves = sym e.opens ∙ d.leaves;
        crossing = grind arith;
        same_wave = grind arith;
      }

  -- two paths into one block that isn't the first of its wave come with the slots of one table
  agree : (c d b : ℕ) (o p : OpenSlots) → EdgeInto image c b o → EdgeInto image d b p
      → is_first image b ≡ false → o ≡ p
  agree c d b o p e f i = let x : Taken c b o = taken c b o e in let y : Taken d b p = taken d b p f in let m
      : CameTo image x.first = all.came x.first x.is_come in let n : CameTo image y.first = all.came y.first
      y.is_come in let one : x.first ≡ y.first = grind (arith, one_first) in let eq : x.slots ≡ y.slots =
      some_same (sym x.lands ∙ (ap (λ (t : ℕ). known t b) one ∙ y.lands)) in grind arith

  turn_slots : (b k : ℕ) (o : OpenSlots) → Opens image b k o → k < first_number image (suc b)
      → TurnSlots image k o
  turn_slots b k o path w = grind (arith, at_turn b k o (covered b k o path) w, covered b k o path)

  end_slots : (b : ℕ) (o : OpenSlots) → Opens image b (first_number image (suc b)) o → EndSlots image b o
  end_slots b o path = let c : Covered b (first_number image (suc b)) o = grind (arith, covered) in record {
    edges = λ s r. (at_edge b (first_number image (suc b)) o c refl s r).fresh;
    stop = λ s j q. ap (λ (x : OpenSlots). x j q) (at_end b (first_number image (suc b)) o c refl) ∙
        (block_done b (first_number image (suc b)) o c).ended.stop s j q;
  }

  pub slot_rules : SlotRules image
  slot_rules = record {
    start = all.begun.fresh;
    begins = all.begun.begins;
    turns = turn_slots;
    ends = end_slots;
    crossing = λ c b o e f. (let x : Taken c b o = taken c b o e in
        subst (AdvancesOpen image b) (sym x.leaves) (x.crossing f));
    pending = λ c d b o p e f i j q. ap (λ (x : OpenSlots). x j q) (agree c d b o p e f i);
  }
