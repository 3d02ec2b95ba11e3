-- A position of the image's walk stands for one of the draft's.
use Rattle.std.proofs.Common.{ℕ, suc, ◌+◌, ◌≡◌, ◌≤◌, true, List, [], ◌++◌, Option, Some, None}
use Rattle.ws_words.specs.Outside.{World}
use Rattle.ws_isa.specs.declared.instr.Dest.{Dest}
use Rattle.ws_isa.specs.declared.instr.Op.{Op}
use Rattle.ws_isa.specs.declared.instr.Op.TheVariants.{Nop}
use Rattle.ws_isa.specs.Image.{Image, instr_at, block_at, first_number, edge_dests, stops, IsIn, IsBlock}
use Rattle.ws_isa.specs.Sound.{HasDest}
use Rattle.ws_isa.specs.Walk.{Ports, Pos, choice_of, opening_memory}
use Rattle.wave_link.proofs.Grown.GrownForm.{Grown, renamed, extra}

abbrev pub SentLike : (ℕ → Option ℕ) → Ports → Ports → Type 0
SentLike origin new old = (u m p k : ℕ) → origin m ≡ Some k → new u m p ≡ old u k p

abbrev pub ResultsLike : (ℕ → Option ℕ) → (ℕ → ℕ) → (ℕ → ℕ) → Type 0
ResultsLike origin new old = (m k : ℕ) → origin m ≡ Some k → new m ≡ old k

abbrev pub op_at : Image → ℕ → Op
op_at image k = (instr_at image k).op

-- the number by which the exit of block b chooses
unfoldable pub choice_at : Image → ℕ → (ℕ → ℕ) → ℕ
choice_at image b results = choice_of (block_at image b).exit results

-- what the walk needs beside the laws on slots
pub record WalksAlike (draft image : Image) (g : Grown draft image) : Type 0 where
  pub memory : (world : World) → opening_memory image world ≡ opening_memory draft world
  pub ops : (b k : ℕ) → IsBlock draft b → IsIn draft b k → op_at image (k + g.shift b) ≡ op_at draft k
  pub choices : (b : ℕ) (new old : ℕ → ℕ) → IsBlock draft b → ResultsLike g.origin new old
      → choice_at image b new ≡ choice_at draft b old
  pub extras : ℕ → ℕ → ℕ → List Dest
  pub each : (b r k : ℕ) → IsBlock draft b → IsIn draft b k → edge_dests image b r (k + g.shift b)
      ≡ renamed g.new (edge_dests draft b r k) ++ extras b r k
  pub extras_none : (b r k j q : ℕ) → IsBlock draft b → IsIn draft b k → HasDest (extras b r k) j q
      → g.origin j ≡ None
  pub each_real : (b r k j q : ℕ) → IsBlock draft b → IsIn draft b k → HasDest (edge_dests draft b r k) j q
      → g.origin (g.new j) ≡ Some j
  pub nop_edge : (b r : ℕ) → IsBlock draft b → extra (g.trigger b) ≡ 1 → edge_dests image b r (g.nop b) ≡ []
  pub nop_op : (b : ℕ) → IsBlock draft b → extra (g.trigger b) ≡ 1 → op_at image (g.nop b) ≡ Nop
  pub stop_whole : (b : ℕ) → IsBlock draft b → stops draft b ≡ true → extra (g.trigger b) ≡ 0

-- before a step of the draft
pub record StandsFor (draft image : Image) (g : Grown draft image) (old new : Pos) : Type 0 where
  pub here : IsBlock draft old.block
  pub low : first_number draft old.block ≤ old.next
  pub high : old.next ≤ first_number draft (suc old.block)
  pub over : new.over ≡ old.over
  pub block : new.block ≡ old.block
  pub wave : new.wave ≡ old.wave
  pub next : new.next ≡ old.next + g.shift old.block
  pub sent : SentLike g.origin new.sent old.sent
  pub results : ResultsLike g.origin new.results old.results
  pub same_memory : new.memory ≡ old.memory

-- all but the place within the block
pub record AtEnd (draft image : Image) (g : Grown draft image) (old mid : Pos) : Type 0 where
  pub here : IsBlock draft old.block
  pub block : mid.block ≡ old.block
  pub wave : mid.wave ≡ old.wave
  pub sent : SentLike g.origin mid.sent old.sent
  pub results : ResultsLike g.origin mid.results old.results
  pub same_memory : mid.memory ≡ old.memory
