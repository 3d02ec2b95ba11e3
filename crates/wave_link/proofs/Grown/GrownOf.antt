-- The image of a draft that is open to notes is the draft with no-ops added.
use Rattle.std.proofs.Common.{ℕ, suc, ◌+◌, ◌-◌, ◌≡◌, ◌<◌, ◌≤◌, ◌⊎◌, Bool, true, false, cond, eqb, List, []}
use Rattle.std.proofs.Common.{◌∷◌, ◌++◌, Some, None, refl, sym, ap, ap₂, ◌∙◌, inl, inr, subst, arith}
use Rattle.std.proofs.lemmas.Bool.{cases_Bool, cases_eq}
use Rattle.ws_words.specs.Outside.{World}
use Rattle.ws_isa.specs.declared.instr.Op.{Op}
use Rattle.ws_isa.specs.declared.instr.Op.TheVariants.{Steer, Nop, Halt}
use Rattle.ws_isa.specs.declared.instr.Dest.{Dest}
use Rattle.ws_isa.specs.Image.{Instr, Exit, Goto, Branch, Landings, Stop, Image, instr_at, block_at}
use Rattle.ws_isa.specs.Image.{first_number, size_of, ports, ports_of, is_memory, is_memory_op, is_advance}
use Rattle.ws_isa.specs.Image.{is_advance_op, is_giving, stops, is_stop, target, is_first, edges_of, leave_to}
use Rattle.ws_isa.specs.Image.{now_of, now_dests, edge_of, edge_dests, IsIn, IsBlock, IsInstr, is_steer_op}
use Rattle.ws_isa.specs.Formed.{References}
use Rattle.ws_isa.specs.Sound.{OpenSlots, HasDest, all_opened, Fresh, edge_all, opens_at, ShapeRules}
use Rattle.ws_isa.specs.Open.{EnteredBySteer}
use Rattle.wave_link.specs.Fit.{FitForNotes}
use Rattle.ws_isa.specs.Walk.{choice_of, opening_memory}
use Rattle.ws_isa.proofs.Steps.{first_le}
use Rattle.ws_isa.proofs.There.{now_there, start_there, edge_there, edges_there}
use Rattle.wave_link.specs.Grown.{grown_exit, annotated}
use Rattle.wave_link.specs.Adds.{adds}
use Rattle.wave_link.proofs.Parted.Parts.{tables_in}
use Rattle.wave_link.proofs.Parted.Edges.{exit_kept, target_kept, stops_kept, first_kept, count_kept}
use Rattle.wave_link.proofs.Parted.Numbers.{one_if, shift, new, nop, first_is, ends_are, new_is}
use Rattle.wave_link.proofs.Parted.Numbers.{instr_is_grown, nop_is_there}
use Rattle.wave_link.proofs.Grown.GrownRows.{Located, located, instr_positive, no_memory}
use Rattle.wave_link.proofs.Grown.GrownOrigin.{origin, is_instr, origin_new, origin_is, origin_none}
use Rattle.wave_link.proofs.Grown.GrownTables.{NoneIn, OneIn, giver, steer_in, giver_cases, steer_cases}
use Rattle.wave_link.proofs.Grown.GrownForm.{Trigger, Own, Before, renamed, before_slot, extra, Grown}
use Rattle.wave_link.proofs.Grown.GrownEdges.{gather, gather_none, gather_one, all_alike, fresh_alike}
use Rattle.wave_link.proofs.Grown.GrownEdges.{edge_all_more}
use Rattle.wave_link.proofs.Grown.GrownTriggers.{trigger, whole, before, own, trigger_case, extra_is}
use Rattle.wave_link.proofs.Grown.GrownTriggers.{added_if, not_added_if, now_grown, start_grown, extras_at}
use Rattle.wave_link.proofs.Grown.GrownTriggers.{edge_grown, extras_steer, extras_else}
use Rattle.wave_link.proofs.Sound.WalksForm.{ResultsLike, choice_at, WalksAlike}
use Rattle.ws_words.specs.Items.{nth}

pub steer_is : (op : Op) → is_steer_op op ≡ true → op ≡ Steer
steer_is op e = grind arith

before_none : (t : Trigger) (n : ℕ) → (t ≡ Before → ⊥) → before_slot t n ≡ []
before_none t n h = grind arith

-- the edge that an exit takes where its instruction's result is r is one of its edges
edge_place : (exit : Exit) (r : ℕ) → is_stop exit ≡ false → ((s : ℕ) (ls : List ℕ) → exit ≡ Landings s ls → ⊥)
    → (place : ℕ) × (nth (edges_of exit) place ≡ Some (leave_to exit r))
edge_place (Goto b) r s l = (0, refl)
edge_place (Branch t x y) r s l = go (eqb r 0)
  where
    go : (v : Bool) → (place : ℕ) × (nth (x ∷ y ∷ []) place ≡ Some (cond v y x))
    go true = (1, refl)
    go false = (0, refl)
edge_place (Landings t ls) r s l = absurd (l t ls refl)
edge_place Stop r s l = absurd (cc)

-- The image's no-ops.

nop_op : (draft : Image) (b : ℕ) → IsBlock draft b → adds draft b ≡ true
    → (instr_at (annotated draft) (nop draft b)).op ≡ Nop
nop_op draft b h a = ap (λ (x : Instr). x.op) (nop_is_there draft b h a)

pub nop_ports : (draft : Image) (b : ℕ) → IsBlock draft b → adds draft b ≡ true
    → ports (annotated draft) (nop draft b) ≡ 1
unfolding ports
nop_ports draft b h a = ap ports_of (nop_op draft b h a)

pub nop_advance : (draft : Image) (b : ℕ) → IsBlock draft b → adds draft b ≡ true
    → is_advance (annotated draft) (nop draft b) ≡ false
unfolding is_advance
nop_advance draft b h a = ap is_advance_op (nop_op draft b h a)

pub nop_now : (draft : Image) (b : ℕ) → IsBlock draft b → adds draft b ≡ true
    → now_dests (annotated draft) (nop draft b) ≡ []
unfolding now_dests
nop_now draft b h a = ap (λ (x : Instr). now_of x.op x.dests) (nop_is_there draft b h a)

pub nop_edge : (draft : Image) (b r : ℕ) → IsBlock draft b → adds draft b ≡ true
    → edge_dests (annotated draft) b r (nop draft b) ≡ []
unfolding edge_dests
nop_edge draft b r h a = ap (λ (x : Instr). edge_of (annotated draft) b r x x.op) (nop_is_there draft b h a)

pub op_kept : (draft : Image) (b k : ℕ) → IsBlock draft b → IsIn draft b k
    → (instr_at (annotated draft) (k + shift draft b)).op ≡ (instr_at draft k).op
op_kept draft b k h i = ap (λ (x : Instr). x.op) (instr_is_grown draft b k h i)

pub ports_kept : (draft : Image) (b k : ℕ) → IsBlock draft b → IsIn draft b k
    → ports (annotated draft) (k + shift draft b) ≡ ports draft k
unfolding ports
ports_kept draft b k h i = ap ports_of (op_kept draft b k h i)

pub advance_kept : (draft : Image) (b k : ℕ) → IsBlock draft b → IsIn draft b k
    → is_advance (annotated draft) (k + shift draft b) ≡ is_advance draft k
unfolding is_advance
advance_kept draft b k h i = ap is_advance_op (op_kept draft b k h i)

end_of : (draft : Image) (b : ℕ) → first_number draft b ≤ first_number draft (suc b)
    → first_number draft b + size_of draft b ≡ first_number draft (suc b)
unfolding size_of
end_of draft b l = omega arith

size_grown : (draft : Image) (b : ℕ) → IsBlock draft b → first_number draft b ≤ first_number draft (suc b)
    → size_of (annotated draft) b ≡ one_if (adds draft b) + size_of draft b
unfolding size_of
size_grown draft b h l = omega (arith, first_is draft b h, ends_are draft b h)

pub sizes : (draft : Image) (b : ℕ) → IsBlock draft b → size_of (annotated draft) b - size_of draft b
    ≡ one_if (adds draft b)
sizes draft b h = omega (arith, size_grown draft b h (first_le draft b (suc b) (omega arith)))

nop_at_end : (draft : Image) (b : ℕ) → first_number draft b ≤ first_number draft (suc b)
    → (first_number draft b + shift draft b) + size_of draft b ≡ nop draft b
unfolding size_of nop
nop_at_end draft b l = omega arith

-- what an edge opens, without the no-op of the block that it leaves
opens_same : (draft : Image) (b r : ℕ) → IsBlock draft b → opens_at (annotated draft) b r ≡ edge_all
    (annotated draft) b r (first_number draft b + shift draft b) (size_of draft b)
unfolding opens_at
opens_same draft b r h = grind (
  arith,
  first_is,
  size_grown,
  cases_Bool,
  first_le,
  edge_all_more,
  nop_at_end,
  nop_edge,
)

opens_draft : (draft : Image) (b r : ℕ) → opens_at draft b r ≡ edge_all draft b r (first_number draft b)
    (size_of draft b)
unfolding opens_at
opens_draft draft b r = refl

memory_of : (draft : Image) (k : ℕ) → (instr_at draft k).op ≡ Halt → is_memory draft k ≡ false → ⊥
unfolding is_memory
memory_of draft k e f = cc (ap is_memory_op e, f)

module _ (draft : Image) (ok : FitForNotes draft) where
  shape : ShapeRules draft
  shape = ok.walkable.shape

  refs : References draft
  refs = ok.walkable.suited.references

  real : (j : ℕ) → IsInstr draft j → origin draft (new draft j) ≡ Some j
  real j h = origin_new draft j h

  -- a block with a no-op and without a giving instruction is entered from a steer, inside its wave
  steered : (b : ℕ) → IsBlock draft b → trigger draft b ≡ Before
      → EnteredBySteer draft b × (is_first draft b ≡ false)
  unfolding is_giving
  steered b h t = elim (trigger_case draft b) [
    | whole a e ↦ absurd (cc)
    | own a n e ↦ absurd (cc)
    | before a g e ↦ elim (ok.triggers b h a) [
      | inr y ↦ y
      | inl x ↦ elim (giver_cases draft b h) [
        | inl n ↦ absurd (cc (n.none x.instr x.inside, x.gives))
        | inr o ↦ absurd (omega (arith, g, instr_positive draft b (giver draft b) h o.inside))
      ]
    ]
  ]

  pub entered : (b : ℕ) → IsBlock draft b → trigger draft b ≡ Before → EnteredBySteer draft b
  entered b h t = (steered b h t).0

  pub before_first : (b : ℕ) → IsBlock draft b → trigger draft b ≡ Before → is_first draft b ≡ false
  before_first b h t = (steered b h t).1

  -- the block before it holds a steer
  before_steered : (b r : ℕ) → IsBlock draft b → stops draft b ≡ false → trigger draft (target draft b r)
      ≡ Before → OneIn is_steer_op draft b (steer_in draft b)
  unfolding target stops
  before_steered b r h s t =
      let c : ℕ = target draft b r in
      let hc : IsBlock draft c = (shape.blocks b h).edges.there r s in
      let e : EnteredBySteer draft c = entered c hc t in
      let p = edge_place (block_at draft b).exit r s
      (λ i ls q. clash (is_first draft c) ((shape.blocks b h).hang.landing_first i r ls q)
      (before_first c hc t)) in
      grind (arith, steer_cases)
    where
      clash : (v : Bool) → v ≡ true → v ≡ false → ⊥
      clash v e f = cc

  -- what the steers of a block open besides is what the block behind the edge waits for
  gathered : (b r : ℕ) → IsBlock draft b → stops draft b ≡ false
      → gather (extras_at draft r) (first_number draft b) (size_of draft b) ≡ before_slot
      (trigger draft (target draft b r)) (nop draft (target draft b r))
  gathered b r h s = elim (steer_cases draft b h) [
    | inr x ↦
        (let e = (shape.blocks b h).hang.steers (steer_in draft b) x.inside
        (steer_is (instr_at draft (steer_in draft b)).op x.is_one) in
        gather_one (extras_at draft r) (before_slot (trigger draft (target draft b r))
        (nop draft (target draft b r))) (steer_in draft b) (first_number draft b) (size_of draft b)
        x.inside.0 (omega (arith, x.inside.1, end_of draft b l))
        (extras_steer draft b r (steer_in draft b) e.0 e.1 e.2 h x.inside ((shape.blocks b h).edges.there r s)
        e.3 (steer_is (instr_at draft (steer_in draft b)).op x.is_one) refl)
        (λ j p q n. extras_else draft b r j h (p, omega (arith, q, end_of draft b l)) (λ m. n (sym m))))
    | inl n ↦ gather_none (extras_at draft r) (first_number draft b) (size_of draft b)
        (λ j p q. extras_else draft b r j h (p, omega (arith, q, end_of draft b l))
        (λ m. omega (
          arith,
          m,
          n.zero_is,
          instr_positive draft b j h
              (p, omega (arith, q, end_of draft b l)),
        )))
        ∙ sym (grind (arith, before_none, trigger, nop, before_steered))
  ]
    where
      l : first_number draft b ≤ first_number draft (suc b)
      l = first_le draft b (suc b) (omega arith)

      none_one : NoneIn is_steer_op draft b (steer_in draft b) → OneIn is_steer_op draft b (steer_in draft b)
          → ⊥
      none_one n o = omega (arith, n.zero_is, instr_positive draft b (steer_in draft b) h o.inside)

  each_edge : (b r : ℕ) → IsBlock draft b → (k : ℕ) → first_number draft b ≤ k
      → k < first_number draft (suc b) →
      edge_dests (annotated draft) b r (k + shift draft b) ≡ renamed (new draft) (edge_dests draft b r k)
      ++ extras_at draft r k
  each_edge b r h k p q = edge_grown draft b r k h (p, q)

  edge_opens : (b r : ℕ) (o : OpenSlots) → IsBlock draft b → stops draft b ≡ false →
      all_opened (opens_at (annotated draft) b r) o ≡ all_opened
      (renamed (new draft) (opens_at draft b r) ++ before_slot (trigger draft (target draft b r))
      (nop draft (target draft b r))) o
  edge_opens b r o h s =
      ap (λ (ds : List Dest). all_opened ds o) (opens_same draft b r h)
      ∙ (all_alike draft (annotated draft) (new draft) b r (shift draft b) (first_number draft b)
      (first_number draft (suc b)) (extras_at draft r) (each_edge b r h) (first_number draft b)
      (size_of draft b) o (omega arith)
      (omega (arith, end_of draft b (first_le draft b (suc b) (omega arith))))
      ∙ ap₂ (λ (u v : List Dest). all_opened (renamed (new draft) u ++ v) o) (sym (opens_draft draft b r))
      (gathered b r h s))

  edge_fresh : (b r : ℕ) (o : OpenSlots) → IsBlock draft b → stops draft b ≡ false →
      Fresh (renamed (new draft) (opens_at draft b r) ++ before_slot (trigger draft (target draft b r))
      (nop draft (target draft b r))) o → Fresh (opens_at (annotated draft) b r) o
  edge_fresh b r o h s f =
      subst (λ (ds : List Dest). Fresh ds o) (sym (opens_same draft b r h))
      (fresh_alike draft (annotated draft) (new draft) b r (shift draft b) (first_number draft b)
      (first_number draft (suc b)) (extras_at draft r) (each_edge b r h) (first_number draft b)
      (size_of draft b) o (omega arith)
      (omega (arith, end_of draft b (first_le draft b (suc b) (omega arith))))
      (grind (arith, renamed, new, opens_draft, gathered)))

  ends_grown : (b : ℕ) → IsBlock draft b → first_number (annotated draft) (suc b) ≡ extra (trigger draft b)
      + (first_number draft (suc b) + shift draft b)
  ends_grown b h = grind (arith, ends_are, shift, extra_is)

  nop_number : (b : ℕ) → nop draft b ≡ first_number draft (suc b) + shift draft b
  unfolding nop
  nop_number b = refl

  own_inside : (b t : ℕ) → IsBlock draft b → trigger draft b ≡ Own t → IsIn draft b t
  own_inside b t h e = elim (trigger_case draft b) [
    | whole a f ↦ absurd (cc)
    | before a g f ↦ absurd (cc)
    | own a n f ↦ grind (arith, giver_cases)
  ]

  opens_real : (b r j q : ℕ) → HasDest (opens_at draft b r) j q → IsInstr draft j
  opens_real b r j q x = grind (arith, edges_there, refs, opens_draft)

  pub grown : Grown draft (annotated draft)
  grown = record {
    trigger = trigger draft;
    shift = shift draft;
    new = new draft;
    origin = origin draft;
    nop = nop draft;
    blocks = λ b h. (h.0, omega (arith, h.1, count_kept draft));
    first_block = shape.has_block;
    edges = λ b r h s. (shape.blocks b h).edges.there r s;
    first = first_is draft;
    ends = ends_grown;
    nop_is = λ b h. nop_number b;
    new_is = new_is draft;
    origin_real = λ b k h i. origin_new draft k (is_instr draft b k h i);
    origin_only = λ m k e. (origin_is draft m k e).0;
    origin_in = λ m k e. (let x : Located draft k = located draft k (origin_is draft m k e).1 in
        (x.block, x.there, x.inside));
    origin_nop = λ b h x. origin_none draft b h (added_if draft b x);
    own_in = own_inside;
    before_inside = before_first;
    ports_are = ports_kept draft;
    advance_are = advance_kept draft;
    nop_ports = λ b h x. nop_ports draft b h (added_if draft b x);
    nop_advance = λ b h x. nop_advance draft b h (added_if draft b x);
    nop_now = λ b h x. nop_now draft b h (added_if draft b x);
    now = now_grown draft;
    now_real = λ b k j q h i x. real j (now_there draft refs k j q x).0;
    start = start_grown draft;
    start_real = λ j q x. real j (start_there draft refs j q x).0;
    stops_are = stops_kept draft;
    targets_are = target_kept draft;
    firsts_are = first_kept draft;
    edge_real = λ b r j q h x. real j (opens_real b r j q x);
    edge_opens = edge_opens;
    edge_fresh = edge_fresh;
  }

  pub grown_trigger : (b : ℕ) → grown.trigger b ≡ trigger draft b
  unfolding grown
  grown_trigger b = refl

  -- The walk.

  same_memory : (world : World) → opening_memory (annotated draft) world ≡ opening_memory draft world
  unfolding opening_memory annotated
  same_memory world = refl

  same_choice : (b : ℕ) (new_results old : ℕ → ℕ) → IsBlock draft b → ResultsLike (origin draft) new_results
      old → choice_at (annotated draft) b new_results ≡ choice_at draft b old
  unfolding choice_at new
  same_choice b new_results old h like = ap (λ (x : Exit). choice_of x new_results) (exit_kept draft b)
      ∙ go (block_at draft b).exit refl
    where
      go : (x : Exit) → (block_at draft b).exit ≡ x → choice_of (grown_exit (tables_in draft.blocks) x)
          new_results ≡ choice_of x old
      go (Goto c) e = refl
      go Stop e = refl
      go (Branch s x y) e =
          like (new draft s) s
          (origin_new draft s (is_instr draft b s h ((shape.blocks b h).exit.source s x y e)))
      go (Landings s ls) e =
          like (new draft s) s
          (origin_new draft s (is_instr draft b s h ((shape.blocks b h).exit.address s ls e)))

  not_stop : (b s x y : ℕ) → (block_at draft b).exit ≡ Branch s x y → stops draft b ≡ false
  unfolding stops
  not_stop b s x y e = ap is_stop e

  -- a block that stops holds a halt, and gets no no-op
  stop_whole : (b : ℕ) → IsBlock draft b → stops draft b ≡ true → extra (trigger draft b) ≡ 0
  stop_whole b h s = elim (cases_Bool (adds draft b)) [
    | inr a ↦ not_added_if draft b a
    | inl a ↦ (let x = (shape.blocks b h).halt.stop_halts s in
        absurd (halt_not x.0 x.2 (no_memory draft b x.0 h a x.1)))
  ]
    where
      halt_not : (k : ℕ) → (instr_at draft k).op ≡ Halt → is_memory draft k ≡ false → ⊥
      halt_not k e f = memory_of draft k e f

  extras_hidden : (b r k j q : ℕ) → IsBlock draft b → IsIn draft b k → HasDest (extras_at draft r k) j q
      → origin draft j ≡ None
  extras_hidden b r k j q h i x = go (cases_eq (steer_in draft b) k)
    where
      none_here : (t : Trigger) (c : ℕ) → IsBlock draft c → trigger draft c ≡ t
          → HasDest (before_slot t (nop draft c)) j q → origin draft j ≡ None
      none_here t c hc e z = grind (arith, origin, origin_none, added_if, extra)

      go : (steer_in draft b ≡ k) ⊎ (steer_in draft b ≡ k → ⊥) → origin draft j ≡ None
      go (inr n) = absurd (rw (extras_else draft b r k h i n) at x)
      go (inl f) = elim (steer_cases draft b h) [
        | inl n ↦ absurd (omega (arith, n.zero_is, f, instr_positive draft b k h i))
        | inr o ↦ (let op : (instr_at draft k).op ≡ Steer = grind (arith, steer_is, steer_in) in
            let e = (shape.blocks b h).hang.steers k i op in
            let s : stops draft b ≡ false = not_stop b e.0 e.1 e.2 e.3 in
            let c : IsBlock draft (target draft b r) = (shape.blocks b h).edges.there r s in
            none_here (trigger draft (target draft b r)) (target draft b r) c refl
            (rw (extras_steer draft b r k e.0 e.1 e.2 h i c e.3 op f) at x))
      ]

  pub alike : WalksAlike draft (annotated draft) grown
  unfolding grown
  alike = record {
    memory = same_memory;
    ops = op_kept draft;
    choices = same_choice;
    extras = λ b r k. extras_at draft r k;
    each = λ b r k h i. edge_grown draft b r k h i;
    extras_none = extras_hidden;
    each_real = grind (arith, real, edge_there, refs);
    nop_edge = λ b r h x. nop_edge draft b r h (added_if draft b x);
    nop_op = λ b h x. nop_op draft b h (added_if draft b x);
    stop_whole = stop_whole;
  }
