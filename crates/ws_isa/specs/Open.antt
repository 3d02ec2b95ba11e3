-- Drafts: what a walk needs of one, and when it is open to annotations.
use Rattle.std.specs.Prelude.{ℕ, ◌≡◌, ◌⊎◌, true, false, Some}
use Rattle.ws_isa.specs.declared.instr.Op.TheVariants.{Steer}
use Rattle.ws_isa.specs.Image.{Branch, Image, instr_at, block_at, is_giving, is_first, edges_of, IsIn}
use Rattle.ws_isa.specs.Image.{IsBlock}
use Rattle.ws_isa.specs.Formed.{Suited, NoNotes}
use Rattle.ws_isa.specs.Sound.{ShapeRules, SlotRules}
use Rattle.ws_words.specs.Items.{nth}

-- references exist, lists suit, and the rules on shape and slots are kept: each formed and sound
-- image has this too
pub record Walkable (image : Image) : Type 0 where
  pub suited : Suited image
  pub shape : ShapeRules image
  pub slots : SlotRules image

-- edge number `place` of block b, counted from 0, leads to block c, and no other edge does
pub record OnlyEdge (image : Image) (b place c : ℕ) : Type 0 where
  pub is : nth (edges_of (block_at image b).exit) place ≡ Some c
  pub only : (d e : ℕ) → IsBlock image d → nth (edges_of (block_at image d).exit) e ≡ Some c →
      (d ≡ b) × (e ≡ place)

-- an arm of a branch: a block of the same wave, not its first, that no other edge enters
pub record IsArm (image : Image) (b place c : ℕ) : Type 0 where
  pub not_first : is_first image c ≡ false
  pub same_wave : (block_at image c).wave ≡ (block_at image b).wave
  pub only : OnlyEdge image b place c

-- an instruction that has a result and is neither a steer nor a send
pub record HasGiver (image : Image) (b : ℕ) : Type 0 where
  pub instr : ℕ
  pub inside : IsIn image b instr
  pub gives : is_giving image instr ≡ true

-- exactly one edge enters, from a block that holds a steer
pub record EnteredBySteer (image : Image) (b : ℕ) : Type 0 where
  pub before : ℕ
  pub place : ℕ
  pub instr : ℕ
  pub block : IsBlock image before
  pub edge : OnlyEdge image before place b
  pub inside : IsIn image before instr
  pub steers : (instr_at image instr).op ≡ Steer

pub record OpenToNotes (image : Image) : Type 0 where
  pub bare : NoNotes image
  pub walkable : Walkable image
  pub arms : (b s x y : ℕ) → IsBlock image b → (block_at image b).exit ≡ Branch s x y →
      IsArm image b 0 x × IsArm image b 1 y
  pub givers : (b : ℕ) → IsBlock image b → HasGiver image b ⊎ EnteredBySteer image b
