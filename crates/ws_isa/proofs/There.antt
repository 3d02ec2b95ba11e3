-- References of an image: what they name is there.
use Rattle.std.proofs.Common.{arith, ℕ, zero, suc, ◌<◌, Bool, cond, List, [], ◌∷◌, sym, inl, inr}
use Rattle.std.specs.List.{AllByRecursion}
use Rattle.ws_isa.specs.declared.instr.Op.{Op}
use Rattle.ws_isa.specs.declared.instr.Dest.{Dest}
use Rattle.ws_isa.specs.Image.{Instr, Pad, Block, Image, no_instr, no_block, flat, instr_at, block_at, ports}
use Rattle.ws_isa.specs.Image.{pad_of, now_of, now_dests, edge_of, edge_dests, start_dests, IsInstr}
use Rattle.ws_isa.specs.Formed.{DestIn, DestsIn, References}
use Rattle.ws_isa.specs.Sound.{HasDest, PortsThere, edge_all}
use Rattle.ws_isa.proofs.Slots.{edge_all_from}
use Rattle.ws_words.specs.Items.{nth, or_else}

pub all_nth : {A : Type 0} (P : A → Type 0) (xs : List A) (k : ℕ) (d : A) → P d → AllByRecursion P xs
    → P (or_else (nth xs k) d)
all_nth P [] k d h all = h
all_nth P (x ∷ xs) zero d h all = all.0
all_nth P (x ∷ xs) (suc k) d h all = all_nth P xs k d h all.1

-- what is known of a destination
abbrev pub There : Image → List Dest → Type 0
There image ds = (j q : ℕ) → HasDest ds j q → IsInstr image j × (q < ports image j)

-- destinations that are there are ports
pub there : (image : Image) (ds : List Dest) → DestsIn image ds → There image ds
there image [] all j q h = absurd h
there image (d ∷ ds) all j q (inl h) = let a : DestIn image d = all.0 in rw (sym h.0, sym h.1) a
there image (d ∷ ds) all j q (inr h) = there image ds all.1 j q h

none_there : (image : Image) → There image []
none_there image j q h = absurd h

module _ (image : Image) (refs : References image) where
  pub dests_there : (k : ℕ) → There image (instr_at image k).dests
  unfolding instr_at no_instr
  dests_there zero = none_there image
  dests_there (suc k) = there image _ (all_nth (λ (i : Instr). DestsIn image i.dests) (flat image.blocks) k
      no_instr tt refs.dests)

  pub others_there : (k : ℕ) → There image (instr_at image k).others
  unfolding instr_at no_instr
  others_there zero = none_there image
  others_there (suc k) = there image _ (all_nth (λ (i : Instr). DestsIn image i.others) (flat image.blocks) k
      no_instr tt refs.others)

  cond_there : (b : Bool) (ds es : List Dest) → There image ds → There image es → There image (cond b ds es)
  cond_there b ds es h g = grind arith

  pad_there : (pads : List Pad) (n : ℕ) → AllByRecursion (λ (p : Pad). DestsIn image p.dests) pads
      → There image (pad_of pads n)
  pad_there [] n all = none_there image
  pad_there (p ∷ pads) n all = grind (arith, cond_there, p.dests, there, pad_there pads n all.1)

  pub pads_there : (b n : ℕ) → There image (pad_of (block_at image b).pads n)
  unfolding block_at no_block
  pads_there zero n = none_there image
  pads_there (suc b) n =
      pad_there _ n (all_nth (λ (b : Block). AllByRecursion (λ (p : Pad). DestsIn image p.dests) b.pads)
      image.blocks b no_block tt refs.pads)

  now_of_there : (op : Op) (ds : List Dest) → There image ds → There image (now_of op ds)
  now_of_there op ds h = grind (arith, none_there)

  -- so are those that an instruction opens at its turn
  pub now_there : (k : ℕ) → There image (now_dests image k)
  unfolding now_dests
  now_there k = now_of_there (instr_at image k).op (instr_at image k).dests (dests_there k)

  edge_of_there : (b r k : ℕ) (op : Op) → There image (edge_of image b r (instr_at image k) op)
  edge_of_there b r k op = grind (arith, cond_there, others_there, dests_there, pads_there, none_there)

  pub edge_there : (b r k : ℕ) → There image (edge_dests image b r k)
  unfolding edge_dests
  edge_there b r k = edge_of_there b r k (instr_at image k).op

  -- and those of the start pulse
  pub start_there : There image (start_dests image)
  unfolding start_dests
  start_there = pads_there 1 0

  -- and those that an edge opens
  pub edges_there : (b r k n : ℕ) → There image (edge_all image b r k n)
  edges_there b r k n j q h = grind (arith, edge_all_from, edge_there)

  -- in an image whose references are there all destinations are ports
  pub ports_there : PortsThere image
  ports_there = grind (arith, start_there, now_there, edge_there)
