-- The trigger of each no-op, and the lists of an image's instructions.
use Rattle.std.proofs.Common.{ℕ, suc, ◌+◌, ◌≡◌, ◌<◌, ◌≤◌, Bool, true, false, cond, eqb, List, [], ◌∷◌, ◌++◌}
use Rattle.std.proofs.Common.{length, map, get_or, refl, sym, ap, ap₂, ◌∙◌, inl, inr, arith, eq-eqb, ne_eqb}
use Rattle.std.proofs.lemmas.Bool.{cases_Bool, cases_eq}
use Rattle.std.proofs.lemmas.List.{get_or-set_same, get_or-set_other}
use Rattle.std.proofs.Math.ListN.{length-set}
use Rattle.ws_isa.specs.declared.instr.Op.{Op}
use Rattle.ws_isa.specs.declared.instr.Op.TheVariants.{Const, Alu, Merge, Advance, Steer, Phi, Send, Load}
use Rattle.ws_isa.specs.declared.instr.Op.TheVariants.{Store, Input, Output, Give, Take, Nop, Halt}
use Rattle.ws_isa.specs.declared.instr.Dest.{Dest}
use Rattle.ws_isa.specs.Image.{Instr, Exit, Branch, Pad, Block, Image, no_block, instr_at, block_at, pad_of}
use Rattle.ws_isa.specs.Image.{is_giving_op, target, now_of, now_dests, edge_of, edge_dests}
use Rattle.ws_isa.specs.Image.{start_dests, IsIn, IsBlock, is_steer_op}
use Rattle.wave_link.specs.declared.links.Passage.{Passage}
use Rattle.wave_link.specs.Layout.{Tables, Extras, steered, extras_step}
use Rattle.wave_link.specs.Grown.{extra_dest, grown_instr, grown_pad, grown_from, annotated}
use Rattle.wave_link.specs.Grown.{renamed as table_renamed}
use Rattle.wave_link.specs.Adds.{adds}
use Rattle.wave_link.proofs.Parted.Parts.{tables_in, places_in}
use Rattle.wave_link.proofs.Parted.Edges.{target_kept}
use Rattle.wave_link.proofs.Parted.Numbers.{one_if, shift, new, nop, nops_are, nop_positive, note_in}
use Rattle.wave_link.proofs.Parted.Numbers.{instr_is_grown}
use Rattle.wave_link.proofs.Grown.GrownRows.{instr_positive}
use Rattle.wave_link.proofs.Grown.GrownTables.{giver, steer_in, giver_cases, steer_cases, nops_in, givings_in}
use Rattle.wave_link.proofs.Grown.GrownTables.{steers_in, now_table, other_table, writes}
use Rattle.wave_link.proofs.Grown.GrownForm.{Trigger, Whole, Own, Before, renamed, nop_slot, own_slot}
use Rattle.wave_link.proofs.Grown.GrownForm.{before_slot, extra}
use Rattle.ws_words.specs.Items.{nth, or_else}

-- what triggers the no-op of block b
unfoldable pub trigger : Image → ℕ → Trigger
trigger draft b = cond (adds draft b) (cond (eqb (giver draft b) 0) Before (Own (giver draft b))) Whole

pub data TriggerCase (draft : Image) (b : ℕ) : Type 0 where
  whole : adds draft b ≡ false → trigger draft b ≡ Whole → TriggerCase draft b
  before : adds draft b ≡ true → giver draft b ≡ 0 → trigger draft b ≡ Before → TriggerCase draft b
  own : adds draft b ≡ true → (giver draft b ≡ 0 → ⊥) → trigger draft b ≡ Own (giver draft b)
      → TriggerCase draft b

pub trigger_case : (draft : Image) (b : ℕ) → TriggerCase draft b
unfolding trigger
trigger_case draft b = grind (arith, cases_Bool, cases_eq, giver)

pub extra_is : (draft : Image) (b : ℕ) → extra (trigger draft b) ≡ one_if (adds draft b)
extra_is draft b = grind (arith, trigger_case, extra, one_if)

pub added_if : (draft : Image) (b : ℕ) → extra (trigger draft b) ≡ 1 → adds draft b ≡ true
added_if draft b x = grind (arith, cases_Bool, extra_is, one_if)

pub not_added_if : (draft : Image) (b : ℕ) → adds draft b ≡ false → extra (trigger draft b) ≡ 0
not_added_if draft b a = extra_is draft b ∙ ap one_if a

-- The tables.

step_now_giver : (exit : Exit) (b : ℕ) (nops givings steers : List ℕ) (e : Extras) (k : ℕ)
    → get_or givings b 0 ≡ k → (get_or steers b 0 ≡ k → ⊥) → k < length e.now
    → get_or (extras_step exit b nops givings steers e).now k 0 ≡ get_or nops b 0
step_now_giver exit b nops givings steers e k g s l = grind (arith, get_or-set_same, get_or-set_other)

step_now_none : (exit : Exit) (b : ℕ) (nops givings steers : List ℕ) (e : Extras) (k : ℕ)
    → (get_or givings b 0 ≡ k → ⊥) → (get_or steers b 0 ≡ k → ⊥)
    → get_or (extras_step exit b nops givings steers e).now k 0 ≡ get_or e.now k 0
step_now_none exit b nops givings steers e k g s = grind (arith, get_or-set_other)

step_other_none : (exit : Exit) (b : ℕ) (nops givings steers : List ℕ) (e : Extras) (k : ℕ)
    → (get_or steers b 0 ≡ k → ⊥) → get_or (extras_step exit b nops givings steers e).other k 0
    ≡ get_or e.other k 0
step_other_none exit b nops givings steers e k s = grind (arith, get_or-set_other)

-- the giver triggers the no-op of its block
pub now_giver : (draft : Image) (b k : ℕ) → IsBlock draft b → IsIn draft b k → giver draft b ≡ k
    → (steer_in draft b ≡ k → ⊥) → get_or (tables_in draft.blocks).now k 0 ≡ cond (adds draft b) (nop draft b)
    0
unfolding giver steer_in
now_giver draft b k h i g s =
    let w = writes draft b k h i in
    ap (λ (l : List ℕ). get_or l k 0) (now_table draft) ∙ (w.now_is
    ∙ (step_now_giver (block_at draft b).exit b (nops_in draft) (givings_in draft) (steers_in draft) w.before
    k g s w.blank.now_fits ∙ nops_are draft b h))

pub now_none : (draft : Image) (b k : ℕ) → IsBlock draft b → IsIn draft b k → (giver draft b ≡ k → ⊥)
    → (steer_in draft b ≡ k → ⊥) → get_or (tables_in draft.blocks).now k 0 ≡ 0
unfolding giver steer_in
now_none draft b k h i g s =
    let w = writes draft b k h i in
    ap (λ (l : List ℕ). get_or l k 0) (now_table draft) ∙ (w.now_is
    ∙ (step_now_none (block_at draft b).exit b (nops_in draft) (givings_in draft) (steers_in draft) w.before k
    g s ∙ w.blank.now_zero))

pub other_none : (draft : Image) (b k : ℕ) → IsBlock draft b → IsIn draft b k → (steer_in draft b ≡ k → ⊥)
    → get_or (tables_in draft.blocks).other k 0 ≡ 0
unfolding steer_in
other_none draft b k h i s =
    let w = writes draft b k h i in
    ap (λ (l : List ℕ). get_or l k 0) (other_table draft) ∙ (w.other_is
    ∙ (step_other_none (block_at draft b).exit b (nops_in draft) (givings_in draft) (steers_in draft) w.before
    k s ∙ w.blank.other_zero))

-- the no-op of block c, if a steer before it triggers it
unfoldable pub steered_by : Image → ℕ → ℕ
steered_by draft c = steered (nops_in draft) (givings_in draft) c

pub now_steer : (draft : Image) (b k s x y : ℕ) → IsBlock draft b → IsIn draft b k
    → (block_at draft b).exit ≡ Branch s x y → steer_in draft b ≡ k → get_or (tables_in draft.blocks).now k 0
    ≡ steered_by draft x
unfolding steer_in steered_by
now_steer draft b k s x y h i e f =
    let w = writes draft b k h i in grind (arith, now_table, w.before.now, get_or-set_same, length-set)

pub other_steer : (draft : Image) (b k s x y : ℕ) → IsBlock draft b → IsIn draft b k
    → (block_at draft b).exit ≡ Branch s x y → steer_in draft b ≡ k → get_or (tables_in draft.blocks).other k
    0 ≡ steered_by draft y
unfolding steer_in steered_by
other_steer draft b k s x y h i e f =
    let w = writes draft b k h i in grind (arith, other_table, w.before.other, get_or-set_same)

some_dest : (n : ℕ) → 1 ≤ n → extra_dest n ≡ nop_slot n
some_dest n l = rw (ne_eqb n 0 (λ e. omega arith)) refl

no_dest : (n : ℕ) → n ≡ 0 → extra_dest n ≡ []
no_dest n e = rw e refl

pub steered_is : (draft : Image) (c : ℕ) → IsBlock draft c → extra_dest (steered_by draft c) ≡ before_slot
    (trigger draft c) (nop draft c)
unfolding steered_by giver
steered_is draft c h = grind (arith, trigger_case, no_dest, nops_are, eq-eqb, some_dest, nop_positive, ne_eqb)

-- what an instruction opens for the no-op of its block
pub own_is : (draft : Image) (b k : ℕ) → 1 ≤ k → giver draft b ≡ k → own_slot (trigger draft b) (nop draft b)
    k ≡ extra_dest (cond (adds draft b) (nop draft b) 0)
own_is draft b k l g = grind (arith, trigger_case, no_dest, eq-eqb, some_dest, nop_positive)

pub own_else : (draft : Image) (b k : ℕ) → (giver draft b ≡ k → ⊥) → own_slot (trigger draft b) (nop draft b)
    k ≡ []
own_else draft b k g = elim (trigger_case draft b) [
  | whole a t ↦ ap (λ (z : Trigger). own_slot z (nop draft b) k) t
  | before a f t ↦ ap (λ (z : Trigger). own_slot z (nop draft b) k) t
  | own a f t ↦ grind (arith, ne_eqb)
]

-- The kinds of operations.

pub data OpCase (op : Op) : Type 0 where
  steers : op ≡ Steer → OpCase op
  sends : (p : ℕ) → op ≡ Send p → OpCase op
  plain : is_steer_op op ≡ false → ((ds : List Dest) → now_of op ds ≡ ds)
      → ((image : Image) (b r : ℕ) (i : Instr) → edge_of image b r i op ≡ []) → OpCase op

pub op_case : (op : Op) → OpCase op
op_case Steer = steers refl
op_case (Send p) = sends p refl
op_case (Const n) = plain refl (λ ds. refl) (λ i b r x. refl)
op_case (Alu o) = plain refl (λ ds. refl) (λ i b r x. refl)
op_case Merge = plain refl (λ ds. refl) (λ i b r x. refl)
op_case Advance = plain refl (λ ds. refl) (λ i b r x. refl)
op_case Phi = plain refl (λ ds. refl) (λ i b r x. refl)
op_case (Load a) = plain refl (λ ds. refl) (λ i b r x. refl)
op_case (Store a) = plain refl (λ ds. refl) (λ i b r x. refl)
op_case Input = plain refl (λ ds. refl) (λ i b r x. refl)
op_case Output = plain refl (λ ds. refl) (λ i b r x. refl)
op_case (Give p) = plain refl (λ ds. refl) (λ i b r x. refl)
op_case (Take p) = plain refl (λ ds. refl) (λ i b r x. refl)
op_case Nop = plain refl (λ ds. refl) (λ i b r x. refl)
op_case Halt = plain refl (λ ds. refl) (λ i b r x. refl)

-- an instruction that gives is no steer and no send
pub giver_gives : (draft : Image) (b k : ℕ) → IsBlock draft b → 1 ≤ k → is_giving_op (instr_at draft k).op
    ≡ false → giver draft b ≡ k → ⊥
giver_gives draft b k h l e g = grind (arith, giver_cases)

-- an instruction that is no steer isn't the block's
pub steer_steers : (draft : Image) (b k : ℕ) → IsBlock draft b → 1 ≤ k → is_steer_op (instr_at draft k).op
    ≡ false → steer_in draft b ≡ k → ⊥
steer_steers draft b k h l e g = grind (arith, steer_cases)

pub same_renamed : (draft : Image) (ds : List Dest) → table_renamed (tables_in draft.blocks) ds
    ≡ renamed (new draft) ds
unfolding new
same_renamed draft [] = refl
same_renamed draft (d ∷ ds) = grind (arith, tables_in, same_renamed draft ds)

abbrev pub grown_at : Image → ℕ → ℕ → Instr
grown_at draft b k = grown_instr (tables_in draft.blocks) k (note_in draft b k) (instr_at draft k)

pub now_grown : (draft : Image) (b k : ℕ) → IsBlock draft b → IsIn draft b k →
    now_dests (annotated draft) (k + shift draft b) ≡ renamed (new draft) (now_dests draft k) ++ own_slot
    (trigger draft b) (nop draft b) k
unfolding now_dests
now_grown draft b k h i = ap (λ (x : Instr). now_of x.op x.dests) (instr_is_grown draft b k h i)
    ∙ go (op_case (instr_at draft k).op)
  where
    l : 1 ≤ k
    l = instr_positive draft b k h i

    op : Op
    op = (instr_at draft k).op

    ds : List Dest
    ds = (instr_at draft k).dests

    n : ℕ
    n = get_or (tables_in draft.blocks).now k 0

    extra_own : is_steer_op op ≡ false → extra_dest n ≡ own_slot (trigger draft b) (nop draft b) k
    extra_own e = elim (cases_eq (giver draft b) k) [
      | inl g ↦ ap extra_dest (now_giver draft b k h i g (steer_steers draft b k h l e))
          ∙ sym (own_is draft b k l g)
      | inr g ↦ no_dest n (now_none draft b k h i g (steer_steers draft b k h l e))
          ∙ sym (own_else draft b k g)
    ]

    go : OpCase op → now_of op (table_renamed (tables_in draft.blocks) ds ++ extra_dest n)
        ≡ renamed (new draft) (now_of op ds) ++ own_slot (trigger draft b) (nop draft b) k
    go (steers e) = ap (λ (o : Op). now_of o (table_renamed (tables_in draft.blocks) ds ++ extra_dest n)) e
        ∙ sym (ap₂ (λ (o : Op) (u : List Dest). renamed (new draft) (now_of o ds) ++ u) e
        (own_else draft b k (giver_gives draft b k h l (ap is_giving_op e))))
    go (sends p e) = ap (λ (o : Op). now_of o (table_renamed (tables_in draft.blocks) ds ++ extra_dest n)) e
        ∙ sym (ap₂ (λ (o : Op) (u : List Dest). renamed (new draft) (now_of o ds) ++ u) e
        (own_else draft b k (giver_gives draft b k h l (ap is_giving_op e))))
    go (plain e f g) = f (table_renamed (tables_in draft.blocks) ds ++ extra_dest n)
        ∙ (ap₂ (λ (u v : List Dest). u ++ v) (same_renamed draft ds) (extra_own e)
        ∙ sym (grind (arith, renamed, new, own_slot, nop)))

-- Pads.

pads_there : (t : Tables) (ps : List Passage) (b k : ℕ) (xs : List Block) (n : ℕ)
    → (or_else (nth (grown_from t ps b k xs) n) no_block).pads ≡ map (grown_pad t)
    (or_else (nth xs n) no_block).pads
unfolding no_block
pads_there t ps b k (x ∷ xs) (suc n) = pads_there t ps (b + 1) (k + length x.instrs) xs n
pads_there t ps b k xs n = grind arith

pub pads_kept : (draft : Image) (b : ℕ) → (block_at (annotated draft) b).pads
    ≡ map (grown_pad (tables_in draft.blocks)) (block_at draft b).pads
unfolding annotated block_at no_block
pads_kept draft b = grind (arith, pads_there, tables_in, places_in)

pad_renamed : (t : Tables) (pads : List Pad) (k : ℕ) → pad_of (map (grown_pad t) pads) k ≡ table_renamed t
    (pad_of pads k)
pad_renamed t [] k = refl
pad_renamed t (p ∷ pads) k = grind (arith, pad_renamed t pads k)

pub pad_grown : (draft : Image) (b k : ℕ) → pad_of (block_at (annotated draft) b).pads k ≡ renamed (new draft)
    (pad_of (block_at draft b).pads k)
pad_grown draft b k = grind (arith, pads_kept, pad_renamed, tables_in, same_renamed)

pub start_grown : (draft : Image) → start_dests (annotated draft) ≡ renamed (new draft) (start_dests draft)
unfolding start_dests
start_grown draft = pad_grown draft 1 0

-- Edges.

-- what an instruction opens besides on the edge at r
unfoldable pub extras_at : Image → ℕ → ℕ → List Dest
extras_at draft r k = cond (is_steer_op (instr_at draft k).op)
    (cond (eqb r 0) (extra_dest (get_or (tables_in draft.blocks).other k 0))
    (extra_dest (get_or (tables_in draft.blocks).now k 0))) []

pub edge_grown : (draft : Image) (b r k : ℕ) → IsBlock draft b → IsIn draft b k →
    edge_dests (annotated draft) b r (k + shift draft b) ≡ renamed (new draft) (edge_dests draft b r k)
    ++ extras_at draft r k
unfolding edge_dests extras_at
edge_grown draft b r k h i = ap (λ (x : Instr). edge_of (annotated draft) b r x x.op)
    (instr_is_grown draft b k h i) ∙ go (op_case x.op)
  where
    x : Instr
    x = instr_at draft k

    t : Tables
    t = tables_in draft.blocks

    o : ℕ
    o = get_or t.other k 0

    n : ℕ
    n = get_or t.now k 0

    both : (v : Bool) → cond v (table_renamed t x.others ++ extra_dest o)
        (table_renamed t x.dests ++ extra_dest n) ≡ renamed (new draft) (cond v x.others x.dests) ++ cond v
        (extra_dest o) (extra_dest n)
    both v = grind (arith, o, same_renamed, x, n)

    nil : (xs : List Dest) → xs ≡ xs ++ []
    nil [] = refl
    nil (y ∷ ys) = ap (λ (l : List Dest). y ∷ l) (nil ys)

    go : OpCase x.op → edge_of (annotated draft) b r (grown_at draft b k) x.op ≡ renamed (new draft)
        (edge_of draft b r x x.op) ++ cond (is_steer_op x.op) (cond (eqb r 0) (extra_dest o) (extra_dest n))
        []
    go h = grind (arith, grown_at, both, renamed, new, x, o, n, target_kept, pad_grown, nil)

-- those of the block's first steer are what the block behind the edge waits for, and there are no others
pub extras_steer : (draft : Image) (b r k s x y : ℕ) → IsBlock draft b → IsIn draft b k
    → IsBlock draft (target draft b r) → (block_at draft b).exit ≡ Branch s x y
    → (instr_at draft k).op ≡ Steer → steer_in draft b ≡ k →
    extras_at draft r k ≡ before_slot (trigger draft (target draft b r)) (nop draft (target draft b r))
unfolding extras_at target
extras_steer draft b r k s x y h i c e o f = grind (arith, other_steer, now_steer, pick, steered_is)
  where
    pick : (v : Bool) → cond v (extra_dest (steered_by draft y)) (extra_dest (steered_by draft x))
        ≡ extra_dest (steered_by draft (cond v y x))
    pick v = grind arith

pub extras_else : (draft : Image) (b r k : ℕ) → IsBlock draft b → IsIn draft b k → (steer_in draft b ≡ k → ⊥)
    → extras_at draft r k ≡ []
unfolding extras_at
extras_else draft b r k h i f = go (op_case (instr_at draft k).op)
  where
    l : 1 ≤ k
    l = instr_positive draft b k h i

    pick : (v : Bool) → cond v (extra_dest 0) (extra_dest 0) ≡ []
    pick v = grind arith

    go : OpCase (instr_at draft k).op → cond (is_steer_op (instr_at draft k).op)
        (cond (eqb r 0) (extra_dest (get_or (tables_in draft.blocks).other k 0))
        (extra_dest (get_or (tables_in draft.blocks).now k 0))) [] ≡ []
    go (steers e) =
        ap (λ (p : Op). cond (is_steer_op p)
        (cond (eqb r 0) (extra_dest (get_or (tables_in draft.blocks).other k 0))
        (extra_dest (get_or (tables_in draft.blocks).now k 0))) []) e
        ∙ (ap₂ (λ (n m : ℕ). cond (eqb r 0) (extra_dest n) (extra_dest m)) (other_none draft b k h i f)
        (now_none draft b k h i (giver_gives draft b k h l (ap is_giving_op e)) f)
        ∙ pick (eqb r 0))
    go (sends p e) = grind (arith, tables_in)
    go (plain e g j) = grind (arith, tables_in)
