-- From where the token of an added no-op comes.
use Rattle.std.specs.Prelude.{ℕ, suc, ◌≡◌, ◌⊎◌}
use Rattle.ws_isa.specs.declared.instr.Op.TheVariants.{Steer}
use Rattle.ws_isa.specs.Image.{Image, instr_at, first_number, size_of, IsIn, IsBlock}
use Rattle.ws_isa.specs.Sound.{HasDest}
use Rattle.ws_isa.specs.Open.{OnlyEdge}

-- instruction n of the image is the last one of block b, and the draft's block has one less
pub record IsAdded (draft image : Image) (b n : ℕ) : Type 0 where
  pub more : size_of image b ≡ suc (size_of draft b)
  pub last : suc n ≡ first_number image (suc b)

-- a list of instruction m names instruction n
abbrev pub NamesInstr : Image → ℕ → ℕ → Type 0
NamesInstr image m n = (port : ℕ) × (HasDest (instr_at image m).dests n port
    ⊎ HasDest (instr_at image m).others n port)

-- instruction m is a steer of the one block before b
pub record IsSteerBefore (image : Image) (b m : ℕ) : Type 0 where
  pub before : ℕ
  pub place : ℕ
  pub block : IsBlock image before
  pub edge : OnlyEdge image before place b
  pub inside : IsIn image before m
  pub steers : (instr_at image m).op ≡ Steer

-- Each added instruction is named, by instructions of its block or by a steer of the one block
-- before it alone.
pub record TriggeredNear (draft image : Image) : Type 0 where
  pub some : (b n : ℕ) → IsBlock draft b → IsAdded draft image b n → (m : ℕ) × NamesInstr image m n
  pub near : (b n m : ℕ) → IsBlock draft b → IsAdded draft image b n → NamesInstr image m n →
      IsIn image b m ⊎ IsSteerBefore image b m
