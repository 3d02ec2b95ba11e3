-- How far the numbers of a draft go.
use Rattle.std.specs.Prelude.{ℕ, suc, ◌+◌, ◌*◌, ◌≡◌, ◌≤◌, Bool, List, length}
use Rattle.std.specs.List.{AllByRecursion, sum_by, range_with_len}
use Rattle.ws_isa.specs.declared.instr.Op.TheVariants as op
use Rattle.ws_isa.specs.Image as image
use Rattle.ws_isa.specs.Image.{Image, IsBlock, IsIn, flat, instr_at}
use Rattle.ws_isa.specs.Formed.{ConstWithin, PadsRise}
use Rattle.cfg_core.specs.Graph.{Term, Send, Graph, spots, spot_at, block_at}
use Rattle.wave_gen.specs.Words.{GraphOfWords}
use Rattle.wave_gen.specs.Cost.{quarters}
use Rattle.cfg_core.specs.Weights.{first_block}

-- How many quarters of an instruction the code of a block has at most: what the block weighs, and
-- seven for the pulse and for each variable, which after the block's end is wanted at no more places.
abbrev pub most_quarters : Graph → (ℕ → ℕ → Bool) → ℕ → ℕ
most_quarters g live b = quarters g live b + 7 * suc (spot_at g b).vars

-- each Send has at most so many values, and the block where the walk begins names no more variables
pub record BringsAtMost (n : ℕ) (g : Graph) : Type 0 where
  pub sends : (b : ℕ) (t : Term) (ts : List Term) (ls : List ℕ) →
      (block_at g b).exit ≡ Send t ts ls → length ts ≤ n
  pub start : length (block_at g (first_block g)).named ≤ n

-- each Send has at most so many landings
abbrev pub LandsAtMost : ℕ → Graph → Type 0
LandsAtMost n g = (b : ℕ) (t : Term) (ts : List Term) (ls : List ℕ) →
    (block_at g b).exit ≡ Send t ts ls → length ls ≤ n

-- The numbers of the draft of a graph with these live variables: no more blocks than the graph has,
-- no more waves than blocks, and no more instructions than its blocks may have; constants are words;
-- pads rise, and their numbers are at most the most values of a Send.
pub record KeepsLimits (g : Graph) (live : ℕ → ℕ → Bool) (draft : Image) : Type 0 where
  pub blocks : length draft.blocks ≤ length (spots g)
  pub waves : (b : ℕ) → IsBlock draft b → (image.block_at draft b).wave ≤ length draft.blocks
  pub instrs : 4 * length (flat draft.blocks)
      ≤ sum_by (most_quarters g live) (range_with_len 0 (length (spots g)))
  pub consts : GraphOfWords g → AllByRecursion (λ i. ConstWithin i.op) (flat draft.blocks)
  pub rise : AllByRecursion (λ b. PadsRise b.pads) draft.blocks
  pub pads : (n : ℕ) → BringsAtMost n g →
      AllByRecursion (λ b. AllByRecursion (λ p. p.number ≤ n) b.pads) draft.blocks
  pub sends : (n : ℕ) → BringsAtMost n g → (b k p : ℕ) → IsBlock draft b → IsIn draft b k →
      (instr_at draft k).op ≡ op.Send p → p ≤ n
  pub landings : (n : ℕ) → LandsAtMost n g → (b s : ℕ) (ls : List ℕ) → IsBlock draft b →
      (image.block_at draft b).exit ≡ image.Landings s ls → length ls ≤ n
