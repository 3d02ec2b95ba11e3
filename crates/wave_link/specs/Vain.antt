-- When an added no-op is needed: without it, no annotations would keep the rules on links.
use Rattle.std.specs.Prelude.{ℕ, suc, ◌+◌, ◌-◌, ◌≡◌, cond, List, [], ◌∷◌, length, map, Option, Some, None}
use Rattle.std.specs.Prelude.{eqb, ltb}
use Rattle.ws_isa.specs.declared.instr.Op.TheVariants.{Nop}
use Rattle.ws_isa.specs.declared.instr.Dest.{Dest}
use Rattle.ws_isa.specs.Image.{Instr, Exit, Goto, Branch, Landings, Stop, Pad, Block, Image, instr_at}
use Rattle.ws_isa.specs.Image.{block_at, IsBlock}
use Rattle.ws_isa.specs.Sound.{ComesNext, PathEnds, wave_at}
use Rattle.wave_link.specs.Triggers.{IsAdded}

-- The image without instruction x and without the destinations that name it. Those behind x move
-- up.

abbrev pub moved : ℕ → ℕ → ℕ
moved x k = cond (ltb x k) (k - 1) k

abbrev pub dests_but : ℕ → List Dest → List Dest
dests_but x [] = []
dests_but x (d ∷ ds) = cond (eqb d.instr x) (dests_but x ds)
    (record { instr = moved x d.instr; port = d.port } ∷ dests_but x ds)

abbrev pub instr_but : ℕ → Instr → Instr
instr_but x i = record {
  op = i.op;
  note = i.note;
  dests = dests_but x i.dests;
  others = dests_but x i.others;
}

-- these are the instructions from number k on
abbrev pub instrs_but : ℕ → ℕ → List Instr → List Instr
instrs_but x k [] = []
instrs_but x k (i ∷ is) =
    cond (eqb k x) (instrs_but x (suc k) is) (instr_but x i ∷ instrs_but x (suc k) is)

abbrev pub exit_but : ℕ → Exit → Exit
exit_but x (Goto b) = Goto b
exit_but x (Branch s b c) = Branch (moved x s) b c
exit_but x (Landings s ls) = Landings (moved x s) ls
exit_but x Stop = Stop

abbrev pub pad_but : ℕ → Pad → Pad
pad_but x p = record { number = p.number; dests = dests_but x p.dests }

abbrev pub block_but : ℕ → ℕ → Block → Block
block_but x k b = record {
  wave = b.wave;
  pads = map (pad_but x) b.pads;
  instrs = instrs_but x k b.instrs;
  exit = exit_but x b.exit;
}

abbrev pub blocks_but : ℕ → ℕ → List Block → List Block
blocks_but x k [] = []
blocks_but x k (b ∷ bs) = block_but x k b ∷ blocks_but x (k + length b.instrs) bs

unfoldable pub without : Image → ℕ → Image
without image x = record { arrays = image.arrays; blocks = blocks_but x 1 image.blocks }

-- Paths of a wave.

-- on a path in wave w operation k comes right after this one, or first
pub record FollowsIn (image : Image) (w : ℕ) (last : Option ℕ) (k : ℕ) : Type 0 where
  pub follows : ComesNext image last k
  pub wave_is : wave_at follows ≡ w

-- a path in wave w ends after this operation, or has none
pub record EndsIn (image : Image) (w : ℕ) (last : Option ℕ) : Type 0 where
  pub ends : PathEnds image last
  pub wave_is : (block_at image ends.block).wave ≡ w

-- on some path through operation j another operation than k follows it, or none
pub data OtherNext (image : Image) (w j k : ℕ) : Type 0 where
  other : (m : ℕ) → FollowsIn image w (Some j) m → (m ≡ k → ⊥) → OtherNext image w j k
  none : EndsIn image w (Some j) → OtherNext image w j k

-- on some path through operation k another operation than j stands before it, or none
pub data OtherBefore (image : Image) (w j k : ℕ) : Type 0 where
  other : (i : ℕ) → FollowsIn image w (Some i) k → (i ≡ j → ⊥) → OtherBefore image w j k
  none : FollowsIn image w None k → OtherBefore image w j k

pub data Unlinkable (image : Image) (w : ℕ) : Type 0 where
  -- some path has no operation
  no_operation : EndsIn image w None → Unlinkable image w
  -- some operation is first on one path and not first on another
  first_and_not : (j k : ℕ) → FollowsIn image w None k → FollowsIn image w (Some j) k → Unlinkable
      image w
  -- some operation is last on one path and not last on another
  last_and_not : (j k : ℕ) → EndsIn image w (Some j) → FollowsIn image w (Some j) k → Unlinkable
      image w
  -- two neighbours each have others on other paths
  neighbours : (j k : ℕ) → FollowsIn image w (Some j) k → OtherNext image w j k → OtherBefore image
      w j k →
      Unlinkable image w

-- instruction n, which block b of the draft gets, is a no-op, and its wave needs it
pub record NeededNop (draft image : Image) (b n : ℕ) : Type 0 where
  pub is_nop : (instr_at image n).op ≡ Nop
  pub needed : Unlinkable (without image n) (block_at draft b).wave

-- each instruction that is added is needed
abbrev pub NoneInVain : Image → Image → Type 0
NoneInVain draft image = (b n : ℕ) → IsBlock draft b → IsAdded draft image b n →
    NeededNop draft image b n
