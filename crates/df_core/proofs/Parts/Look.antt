-- What is looked up in an image.
use Rattle.std.proofs.Common.{ℕ, suc, ◌≡◌, ◌<◌, ◌≤◌, cond, eqb, List, [], ◌++◌, length, map, Option}
use Rattle.std.proofs.Common.{slice_index_or, unwrap_or, refl, sym, ap, arith}
use Rattle.std.proofs.lemmas.List.{append-nil}
use Rattle.ws_isa.specs.declared.instr.Op.{Op}
use Rattle.ws_isa.specs.declared.instr.Op.TheVariants.{Steer, Send}
use Rattle.ws_isa.specs.declared.instr.Note.{Note}
use Rattle.ws_isa.specs.Image.{Image, Instr, Block, instr_at, block_at, block_of, note_of, no_note, no_instr}
use Rattle.ws_isa.specs.Image.{no_block, now_of, now_dests, edge_of, edge_dests, pad_of, target, leave_to}
use Rattle.ws_isa.specs.View as view
use Rattle.ws_isa.specs.declared.image.Block as code
use Rattle.df_core.specs.Places.{destinations}
use Rattle.df_core.proofs.Parts.Placed.{nth_of, nth_none}
use Rattle.ws_words.proofs.Lists.{length_map}
use Rattle.ws_words.specs.Items.{or_else}

pub op_none : (image : Image) (k : ℕ) → instr_at image k ≡ no_instr → (instr_at image k).op ≡ no_instr.op
op_none image k e = ap (λ (i : Instr). i.op) e

pub note_is : (image : Image) (k : ℕ) (i : Instr) → i ≡ instr_at image k
    → or_else i.note no_note ≡ note_of image k
unfolding note_of
note_is image k i e = ap (λ (j : Instr). or_else j.note no_note) e

pub note_none : (image : Image) (k : ℕ) → instr_at image k ≡ no_instr → no_note ≡ note_of image k
unfolding note_of no_instr
note_none image k e = sym (ap (λ (j : Instr). or_else j.note no_note) e)

module _ (image : Image) (k r : ℕ) where
  pub to_none : instr_at image k ≡ no_instr → [] ≡ destinations image k r
  unfolding destinations now_dests edge_dests no_instr
  to_none e = sym (grind arith)

  pub to_steer : (i : Instr) → i ≡ instr_at image k → i.op ≡ Steer → cond (eqb r 0) i.others i.dests
      ≡ destinations image k r
  unfolding destinations now_dests edge_dests
  to_steer i e f = grind arith

  pub to_pad : (i : Instr) (p b : ℕ) → i ≡ instr_at image k → b ≡ block_of image k → i.op ≡ Send p
      → pad_of (block_at image (target image b r)).pads p ≡ destinations image k r
  unfolding destinations now_dests edge_dests
  to_pad i p b e g f = grind arith

  other_op : (i : Instr) (o : Op) → (o ≡ Steer → ⊥) → ((p : ℕ) → o ≡ Send p → ⊥)
      → i.dests ≡ now_of o i.dests ++ edge_of image (block_of image k) r i o
  other_op i o n m = grind (arith, append-nil)

  pub to_all : (i : Instr) → i ≡ instr_at image k → (i.op ≡ Steer → ⊥) → ((p : ℕ) → i.op ≡ Send p → ⊥)
      → i.dests ≡ destinations image k r
  unfolding destinations now_dests edge_dests
  to_all i e n m = grind (arith, other_op)

pub block_none : (image : Image) (n : ℕ) → n ≡ 0 → block_at image n ≡ no_block
unfolding block_at
block_none image n e = rw e refl

pub target_is : (image : Image) (b r : ℕ) (x : Block) → x ≡ block_at image b
    → leave_to x.exit r ≡ target image b r
unfolding target
target_is image b r x e = ap (λ (y : Block). leave_to y.exit r) e

pub target_none : (image : Image) (b r : ℕ) → block_at image b ≡ no_block → 0 ≡ target image b r
unfolding target no_block
target_none image b r e = sym (ap (λ (y : Block). leave_to y.exit r) e)

pub pads_none : (image : Image) (b p : ℕ) → block_at image b ≡ no_block
    → [] ≡ pad_of (block_at image b).pads p
unfolding no_block
pads_none image b p e = sym (ap (λ (y : Block). pad_of y.pads p) e)

pub unwrapped : (o : Option Note) (d : Note) → unwrap_or o d ≡ or_else o d
unwrapped o d = grind arith

pub block_is : (image : Image) (bs : List code.Block) → map view.block bs ≡ image.blocks
    → (n at : ℕ) (b : code.Block) → n ≡ suc at → at < length bs → b ≡ slice_index_or bs at b
    → view.block b ≡ block_at image n
unfolding block_at
block_is image bs e n at b f l h = grind (arith, nth_of)

pub block_past : (image : Image) (bs : List code.Block) → map view.block bs ≡ image.blocks → (n at : ℕ)
    → n ≡ suc at → length bs ≤ at → block_at image n ≡ no_block
unfolding block_at
block_past image bs e n at f l = grind (arith, nth_none, length_map)
