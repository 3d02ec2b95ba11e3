-- When there is room for what is added to a draft.
use Rattle.std.specs.Prelude.{ℕ, ◌+◌, ◌≡◌, ◌<◌, ◌≤◌, List, length}
use Rattle.std.specs.List.{AllByRecursion}
use Rattle.ws_isa.specs.declared.instr.Op.TheVariants.{Send}
use Rattle.ws_isa.specs.Image.{Landings, Pad, Image, flat, instr_at, block_at, IsIn, IsBlock}
use Rattle.ws_isa.specs.Formed.{most_instrs, most_blocks, most_waves, most_dests, most_pads, most_landings}
use Rattle.ws_isa.specs.Formed.{ArraysFormed, ConstWithin, PadsRise}
use Rattle.ws_words.specs.Items.{In}

-- It is within the limits that have nothing to do with what is added.
pub record WithinLimits (draft : Image) : Type 0 where
  pub arrays : ArraysFormed draft.arrays
  pub blocks : length draft.blocks ≤ most_blocks
  pub waves : (b : ℕ) → IsBlock draft b → (block_at draft b).wave ≤ most_waves
  pub consts : AllByRecursion (λ i. ConstWithin i.op) (flat draft.blocks)
  pub sends : (b k p : ℕ) → IsBlock draft b → IsIn draft b k →
      (instr_at draft k).op ≡ Send p → p < most_pads
  pub numbers : AllByRecursion (λ b. AllByRecursion (λ p. p.number < most_pads) b.pads) draft.blocks
  pub pads : (b : ℕ) (p : Pad) → IsBlock draft b → In p (block_at draft b).pads →
      length p.dests ≤ most_dests
  pub rise : AllByRecursion (λ b. PadsRise b.pads) draft.blocks
  pub landings : (b s : ℕ) (ls : List ℕ) → IsBlock draft b →
      (block_at draft b).exit ≡ Landings s ls → length ls ≤ most_landings

-- It is within the limits, with room for one more instruction in each block and for one more
-- destination in each list of an instruction.
pub record LeavesRoom (draft : Image) : Type 0 where
  pub limits : WithinLimits draft
  pub instrs : length (flat draft.blocks) + length draft.blocks ≤ most_instrs
  pub dests : (b k : ℕ) → IsBlock draft b → IsIn draft b k →
      length (instr_at draft k).dests < most_dests
  pub others : (b k : ℕ) → IsBlock draft b → IsIn draft b k →
      length (instr_at draft k).others < most_dests

-- An image has no more instructions than it may, and no list of one has more destinations.
pub record MadeWithin (image : Image) : Type 0 where
  pub instrs : length (flat image.blocks) ≤ most_instrs
  pub lists : AllByRecursion (λ i. (length i.dests ≤ most_dests) × (length i.others ≤ most_dests))
      (flat image.blocks)
