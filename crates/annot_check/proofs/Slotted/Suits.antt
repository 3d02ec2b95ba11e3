-- What a formed image gives to the checker of slots.
use Rattle.std.proofs.Common.{ℕ, zero, suc, ◌+◌, ◌*◌, ◌≡◌, ◌≤◌, false, List, [], ◌∷◌, ◌++◌, length, arith}
use Rattle.std.specs.List.{AllByRecursion}
use Rattle.ws_isa.specs.declared.instr.Dest.{Dest}
use Rattle.ws_isa.specs.declared.instr.Op.{Op}
use Rattle.ws_isa.specs.Image.{Instr, Exit, Goto, Landings, Pad, Block, Image, no_block, flat, block_at}
use Rattle.ws_isa.specs.Image.{first_number, ports, stops, is_stop, target, leave_to, landing_of, pad_of}
use Rattle.ws_isa.specs.Image.{start_dests, IsBlock}
use Rattle.ws_isa.specs.Formed.{Formed, Suited, DestIn, DestsIn, ExitIn, SomeLanding}
use Rattle.ws_isa.specs.Sound.{opens_at}
use Rattle.annot_check.specs.Runs.{OnBoard, AllOn, AllRunOn, edge_list}
use Rattle.annot_check.specs.Table.{board_size}
use Rattle.annot_check.proofs.Shaped.Blocks.{Tail, whole}
use Rattle.annot_check.proofs.Shaped.Paths.{edge_is}
use Rattle.ws_isa.proofs.Images.{few_ports}
use Rattle.ws_words.specs.Items.{nth, or_else}
use Rattle.ws_isa.proofs.Blocks.{at_block, number_last}
use Rattle.ws_isa.proofs.Steps.{first_le}
use Rattle.ws_isa.specs.Shows.{edge_by}

on_board : (image : Image) (d : Dest) → DestIn image d → OnBoard (board_size image) d
unfolding board_size ports
on_board image d h = grind (arith, few_ports, number_last)

pub all_on : (image : Image) (ds : List Dest) → DestsIn image ds → AllOn (board_size image) ds
all_on image [] h = tt
all_on image (d ∷ ds) h = (on_board image d h.0, all_on image ds h.1)

all_left : (P : Instr → Type 0) (xs ys : List Instr) → AllByRecursion P (xs ++ ys) → AllByRecursion P xs
all_left P [] ys h = tt
all_left P (x ∷ xs) ys h = (h.0, all_left P xs ys h.1)

all_right : (P : Instr → Type 0) (xs ys : List Instr) → AllByRecursion P (xs ++ ys) → AllByRecursion P ys
all_right P [] ys h = h
all_right P (x ∷ xs) ys h = all_right P xs ys h.1

all_flat : (P : Instr → Type 0) (bs : List Block) (b : ℕ) → AllByRecursion P (flat bs) →
    AllByRecursion P (or_else (nth bs b) no_block).instrs
unfolding no_block
all_flat P (x ∷ xs) (suc b) h = all_flat P xs b (all_right P x.instrs (flat xs) h)
all_flat P bs b h = grind (arith, all_left)

-- what is said of all instructions is said of a block's
pub all_in_block : (P : Instr → Type 0) (image : Image) (b : ℕ) → AllByRecursion P (flat image.blocks) →
    AllByRecursion P (block_at image b).instrs
unfolding block_at no_block
all_in_block P image zero h = tt
all_in_block P image (suc b) h = all_flat P image.blocks b h

run_on : (image : Image) (is : List Instr) (k m : ℕ) → AllByRecursion (λ i. DestsIn image i.dests) is →
    AllByRecursion (λ i. DestsIn image i.others) is → k + length is ≡ m → 4 * m ≤ board_size image →
    AllRunOn (board_size image) is k
run_on image [] k m d o e l = tt
run_on image (i ∷ is) k m d o e l = grind (
  arith,
  all_on,
  run_on image is (suc k) m d.1 o.1 (omega (arith, e))
      l,
)

pub block_on : (image : Image) (b : ℕ) → Formed image → IsBlock image b →
    AllRunOn (board_size image) (block_at image b).instrs (first_number image b)
unfolding board_size
block_on image b f h =
    let t : Tail image b (first_number image b) (block_at image b).instrs = whole image b h in
    run_on image (block_at image b).instrs (first_number image b) (first_number image (suc b))
    (all_in_block (λ i. DestsIn image i.dests) image b f.suited.references.dests)
    (all_in_block (λ i. DestsIn image i.others) image b f.suited.references.others)
    t.ends (omega (arith, first_le image (suc b) (suc (length image.blocks)) (omega (arith, h.1))))

pads_on : (image : Image) (ps : List Pad) (k : ℕ) → AllByRecursion (λ p. DestsIn image p.dests) ps →
    AllOn (board_size image) (pad_of ps k)
pads_on image [] k h = tt
pads_on image (p ∷ ps) k h = grind (arith, all_on, pads_on image ps k h.1)

sent_on : (image : Image) (r : ℕ) (ps : List Pad) (i : Instr) (op : Op) → DestsIn image i.dests →
    DestsIn image i.others → AllByRecursion (λ p. DestsIn image p.dests) ps →
    AllOn (board_size image) (edge_by ps r i op)
sent_on image r ps i op d o p = grind (arith, all_on, pads_on)

on_append : (n : ℕ) (xs ys : List Dest) → AllOn n xs → AllOn n ys → AllOn n (xs ++ ys)
on_append n [] ys a b = b
on_append n (x ∷ xs) ys a b = (a.0, on_append n xs ys a.1 b)

edges_on : (image : Image) (r : ℕ) (ps : List Pad) (is : List Instr) →
    AllByRecursion (λ i. DestsIn image i.dests) is → AllByRecursion (λ i. DestsIn image i.others) is →
    AllByRecursion (λ p. DestsIn image p.dests) ps →
    AllOn (board_size image) (edge_list ps r is)
edges_on image r ps [] d o p = tt
edges_on image r ps (i ∷ is) d o p = grind (arith, on_append, sent_on, edges_on image r ps is d.1 o.1 p)

pub opens_on : (image : Image) (b r : ℕ) → Formed image → IsBlock image b → IsBlock image (target image b r) →
    AllOn (board_size image) (opens_at image b r)
opens_on image b r f h t = rw (edge_is image b r h) (edges_on image r (block_at image (target image b r)).pads
    (block_at image b).instrs
    (all_in_block (λ i. DestsIn image i.dests) image b f.suited.references.dests)
    (all_in_block (λ i. DestsIn image i.others) image b f.suited.references.others)
    (at_block (λ x. AllByRecursion (λ p. DestsIn image p.dests) x.pads) image
    (target image b r) f.suited.references.pads t))

pub start_on : (image : Image) → Formed image → IsBlock image 1 → AllOn (board_size image) (start_dests image)
unfolding start_dests
start_on image f h = pads_on image (block_at image 1).pads 0
    (at_block (λ x. AllByRecursion (λ p. DestsIn image p.dests) x.pads) image 1 f.suited.references.pads h)

landing_in : (image : Image) (ls : List ℕ) (r : ℕ) → 1 ≤ length ls → AllByRecursion (IsBlock image) ls →
    IsBlock image (landing_of ls r)
landing_in image (x ∷ y ∷ ls) (suc r) l h = landing_in image (y ∷ ls) r (omega arith) h.1
landing_in image ls r l h = grind arith

leads_in : (image : Image) (x : Exit) (r : ℕ) → ExitIn image x → SomeLanding x → is_stop x ≡ false →
    IsBlock image (leave_to x r)
leads_in image (Goto b) r h s e = h
leads_in image (Landings s ls) r h l e = landing_in image ls r l h.1
leads_in image x r h l e = grind arith

pub targets_in : (image : Image) (b r : ℕ) → Suited image → IsBlock image b → stops image b ≡ false →
    IsBlock image (target image b r)
unfolding target stops
targets_in image b r f h s = grind (
  arith,
  leads_in,
  at_block (λ x. ExitIn image x.exit) image b
      f.references.exits h,
  at_block (λ x. SomeLanding x.exit) image b f.landings h,
)

pub has_block : (image : Image) → Formed image → IsBlock image 1
has_block image f = grind arith
