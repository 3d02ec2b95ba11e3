-- A walk can go over the draft of a formed image whose shape and slots are right; and a draft that lacks
-- nothing is fit for notes.
use Rattle.std.proofs.Common.{ℕ, ◌≡◌, ◌≤◌, List, length, None, refl, sym, subst, arith}
use Rattle.std.specs.List.{AllByRecursion}
use Rattle.ws_isa.specs.declared.instr.Op.{Op}
use Rattle.ws_isa.specs.declared.instr.Dest.{Dest}
use Rattle.ws_isa.specs.Image.{Instr, Exit, Goto, Branch, Landings, Stop, Pad, Block, Array, Image, flat}
use Rattle.ws_isa.specs.Image.{block_at, IsBlock, IsInstr}
use Rattle.ws_isa.specs.Formed.{DestIn, DestsIn, OpIn, ExitIn, References, DestsSuit, OthersSuit, SomeLanding}
use Rattle.ws_isa.specs.Formed.{Suited, Formed, NoNotes}
use Rattle.ws_isa.specs.Sound.{ShapeRules, SlotRules}
use Rattle.ws_isa.specs.Open.{Walkable}
use Rattle.ws_isa.proofs.Blocks.{at_block}
use Rattle.ws_words.proofs.Lists.{all_have}
use Rattle.wave_link.specs.Fit.{FitForNotes}
use Rattle.wave_link.proofs.Sound.Unnoted.{SameShape, block_on, ports_same, slots_on, shape_on}
use Rattle.asm_link.specs.Bare.{bare}
use Rattle.asm_link.specs.Unfit.{lack_in}
use Rattle.asm_link.proofs.Alike.{AlikeInstr, AlikeBlock, AlikeBlocks, instrs_length, flat_alike, all_alike}
use Rattle.asm_link.proofs.Alike.{blocks_alike, same_shape}
use Rattle.asm_link.proofs.Drafts.{blocks_bare, same}
use Rattle.asm_link.proofs.Arms.{branches, triggers}

-- An image that is alike but for notes has its references too.

module _ (image new : Image) (arrays : new.arrays ≡ image.arrays)
    (alike : AlikeBlocks image.blocks new.blocks) where
  shape : SameShape image new
  shape = same_shape image new alike

  instr_on : (k : ℕ) → IsInstr image k → IsInstr new k
  instr_on k h = grind (arith, instrs_length, flat_alike)

  dest_on : (d : Dest) → DestIn image d → DestIn new d
  dest_on d h = (instr_on d.instr h.0, grind (arith, ports_same, shape))

  dests_on : (ds : List Dest) → DestsIn image ds → DestsIn new ds
  dests_on ds h = all_have (DestIn image) (DestIn new) ds dest_on h

  array_on : (a : ℕ) → a ≤ length image.arrays → a ≤ length new.arrays
  array_on a h = subst (λ (xs : List Array). a ≤ length xs) (sym arrays) h

  op_on : (op : Op) → OpIn image op → OpIn new op
  op_on op h = grind (arith, array_on)

  exit_on : (e : Exit) → ExitIn image e → ExitIn new e
  exit_on (Goto b) h = block_on image new shape b h
  exit_on (Branch s b c) h = (instr_on s h.0, block_on image new shape b h.1, block_on image new shape c h.2)
  exit_on (Landings s ls) h = (instr_on s h.0, grind (arith, all_have, block_on, shape))
  exit_on Stop h = tt

  -- what holds of all instructions of the image, for those of the other
  pub instrs_on : (P Q : Instr → Type 0) → ((i j : Instr) → AlikeInstr i j → P i → Q j)
      → AllByRecursion P (flat image.blocks) → AllByRecursion Q (flat new.blocks)
  instrs_on P Q f h = grind (arith, all_alike, flat_alike)

  pub blocks_on : (P Q : Block → Type 0) → ((x y : Block) → AlikeBlock x y → P x → Q y)
      → AllByRecursion P image.blocks → AllByRecursion Q new.blocks
  blocks_on P Q f h = blocks_alike P Q image.blocks new.blocks alike f h

  pads_on : (ps : List Pad) → AllByRecursion (λ (p : Pad). DestsIn image p.dests) ps
      → AllByRecursion (λ (p : Pad). DestsIn new p.dests) ps
  pads_on ps h = grind (arith, all_have, dests_on)

  references : References image → References new
  references r = record {
    dests = instrs_on (λ (i : Instr). DestsIn image i.dests) (λ (i : Instr). DestsIn new i.dests)
        (grind (arith, dests_on)) r.dests;
    others = instrs_on (λ (i : Instr). DestsIn image i.others) (λ (i : Instr). DestsIn new i.others)
        (grind (arith, dests_on)) r.others;
    ops = instrs_on (λ (i : Instr). OpIn image i.op) (λ (i : Instr). OpIn new i.op) (grind (arith, op_on))
        r.ops;
    pads = blocks_on (λ (b : Block). AllByRecursion (λ (p : Pad). DestsIn image p.dests) b.pads) (λ (b :
        Block). AllByRecursion (λ (p : Pad). DestsIn new p.dests) b.pads) (grind (arith, pads_on)) r.pads;
    exits = blocks_on (λ (b : Block). ExitIn image b.exit) (λ (b : Block). ExitIn new b.exit)
        (grind (arith, exit_on)) r.exits;
  }

  dests_suit : (i j : Instr) → AlikeInstr i j → DestsSuit i.op i.dests → DestsSuit j.op j.dests
  dests_suit i j a h = grind arith

  others_suit : (i j : Instr) → AlikeInstr i j → OthersSuit i.op i.others → OthersSuit j.op j.others
  others_suit i j a h = grind arith

  pub suited_on : Suited image → Suited new
  suited_on s = record {
    references = references s.references;
    lists = record {
      dests = instrs_on (λ (i : Instr). DestsSuit i.op i.dests) (λ (i : Instr). DestsSuit i.op i.dests)
          dests_suit s.lists.dests;
      others = instrs_on (λ (i : Instr). OthersSuit i.op i.others) (λ (i : Instr). OthersSuit i.op i.others)
          others_suit s.lists.others;
    };
    landings = blocks_on (λ (b : Block). SomeLanding b.exit) (λ (b : Block). SomeLanding b.exit)
        (λ x y a h. subst SomeLanding (sym a.exit) h) s.landings;
  }

pub exits_in : (draft : Image) → Suited draft → (b : ℕ) → IsBlock draft b
    → ExitIn draft (block_at draft b).exit
exits_in draft s b h = at_block (λ (x : Block). ExitIn draft x.exit) draft b s.references.exits h

-- a draft over which a walk can go, and which lacks nothing
pub fits : (draft : Image) → NoNotes draft → Walkable draft → lack_in draft.blocks ≡ None → FitForNotes draft
fits draft bare walkable none = record {
  bare = bare;
  walkable = walkable;
  branches = branches draft walkable.shape (exits_in draft walkable.suited) none;
  triggers = triggers draft walkable.shape (exits_in draft walkable.suited) none;
}

-- that of a formed image whose shape and slots are right
pub walkable : (image : Image) → Formed image → ShapeRules image → SlotRules image → Walkable (bare image)
walkable image formed shape slots = record {
  suited = suited_on image (bare image) refl (blocks_bare image.blocks) formed.suited;
  shape = shape_on image (bare image) (same image) shape;
  slots = slots_on image (bare image) (same image) slots;
}
