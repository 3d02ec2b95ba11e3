-- What a formed image says of each of its blocks, pads and instructions.
use Rattle.std.proofs.Common.{◌≡◌, ◌^◌, ◌<◌, ◌≤◌, length, Bool, true, List, [], ◌∷◌, ◌++◌, arith}
use Rattle.std.specs.List.{AllByRecursion, list_all}
use Rattle.std.proofs.lemmas.Bool.{and_parts}
use Rattle.ws_isa.specs.declared.instr.Dest.{Dest}
use Rattle.ws_isa.specs.Image.{Instr, Block, Image, flat, ports}
use Rattle.ws_isa.specs.Formed.{most_instrs, DestIn, DestsIn, OpIn, ExitIn, DestsSuit, OthersSuit}
use Rattle.ws_isa.specs.Formed.{SomeLanding, PadsRise, NoteSuits, InstrWithin, BlockWithin, Formed}
use Rattle.asm_text.specs.Limits.{first_most_instrs, first_most_blocks}
use Rattle.asm_text.specs.Printed.{keeps_first_block, keeps_first_limits}

pub record InstrIn (image : Image) (i : Instr) : Type 0 where
  pub within : InstrWithin i
  pub dests : DestsIn image i.dests
  pub others : DestsIn image i.others
  pub op : OpIn image i.op
  pub list : DestsSuit i.op i.dests
  pub other : OthersSuit i.op i.others
  pub note : NoteSuits i.op i.note

-- first tells whether the image keeps the limits of version 1
pub record BlockIn (image : Image) (first : Bool) (b : Block) : Type 0 where
  pub within : BlockWithin b
  pub keeps : first ≡ true → keeps_first_block b ≡ true
  pub instrs : AllByRecursion (InstrIn image) b.instrs
  pub pads : AllByRecursion (λ p. DestsIn image p.dests) b.pads
  pub exit : ExitIn image b.exit
  pub landing : SomeLanding b.exit
  pub rise : PadsRise b.pads

instrs_in : (image : Image) (is : List Instr) → AllByRecursion InstrWithin is
    → AllByRecursion (λ i. DestsIn image i.dests) is → AllByRecursion (λ i. DestsIn image i.others) is
    → AllByRecursion (λ i. OpIn image i.op) is → AllByRecursion (λ i. DestsSuit i.op i.dests) is
    → AllByRecursion (λ i. OthersSuit i.op i.others) is
    → AllByRecursion (λ i. NoteSuits i.op i.note) is → AllByRecursion (InstrIn image) is
instrs_in image [] w d o p l s n = tt
instrs_in image (i ∷ is) w d o p l s n = grind (arith, instrs_in image is w.1 d.1 o.1 p.1 l.1 s.1 n.1)

all_split : {A : Type 0} (P : A → Type 0) (xs ys : List A) → AllByRecursion P (xs ++ ys)
    → AllByRecursion P xs × AllByRecursion P ys
all_split P [] ys h = (tt, h)
all_split P (x ∷ xs) ys h = let r = all_split P xs ys h.1 in ((h.0, r.0), r.1)

-- what holds of all instructions holds of those of each block
all_flat : (P : Instr → Type 0) (bs : List Block) → AllByRecursion P (flat bs)
    → AllByRecursion (λ b. AllByRecursion P b.instrs) bs
all_flat P [] h = tt
all_flat P (b ∷ bs) h = let r = all_split P b.instrs (flat bs) h in (r.0, all_flat P bs r.1)

blocks_in : (image : Image) (first : Bool) (bs : List Block) → AllByRecursion BlockWithin bs
    → (first ≡ true → list_all keeps_first_block bs ≡ true)
    → AllByRecursion (λ b. AllByRecursion (InstrIn image) b.instrs) bs
    → AllByRecursion (λ b. AllByRecursion (λ p. DestsIn image p.dests) b.pads) bs
    → AllByRecursion (λ b. ExitIn image b.exit) bs → AllByRecursion (λ b. SomeLanding b.exit) bs
    → AllByRecursion (λ b. PadsRise b.pads) bs
    → AllByRecursion (BlockIn image first) bs
blocks_in image first [] w k i p e l r = tt
blocks_in image first (b ∷ bs) w k i p e l r =
    (grind (arith, and_parts), blocks_in image first bs w.1 (grind (arith, and_parts)) i.1 p.1 e.1 l.1 r.1)

-- What an image within the limits of version 1 keeps.
pub record First (image : Image) : Type 0 where
  pub instrs : length (flat image.blocks) ≤ first_most_instrs
  pub blocks : length image.blocks ≤ first_most_blocks
  pub each : list_all keeps_first_block image.blocks ≡ true

pub firsts_of : (image : Image) → keeps_first_limits image ≡ true → First image
unfolding keeps_first_limits
firsts_of image h = grind arith

pub blocks_formed : (image : Image) → Formed image
    → AllByRecursion (BlockIn image (keeps_first_limits image)) image.blocks
blocks_formed image f = grind (arith, instrs_in, blocks_in, firsts_of, all_flat)

-- a destination that is there has small numbers
pub record Small (d : Dest) : Type 0 where
  pub instr : d.instr < 2 ^ 32
  pub port : d.port ≤ 2

pub dest_small : (image : Image) (d : Dest) → Formed image → DestIn image d → Small d
unfolding most_instrs ports
dest_small image d f h = grind arith

pub dests_small : (image : Image) (ds : List Dest) → Formed image → DestsIn image ds → AllByRecursion Small ds
dests_small image [] f h = tt
dests_small image (d ∷ ds) f h = (dest_small image d f h.0, dests_small image ds f h.1)
