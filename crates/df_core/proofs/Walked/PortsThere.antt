-- In a formed image destinations name ports that are there.
use Rattle.std.proofs.Common.{arith, ℕ, zero, suc, ◌<◌, List, [], ◌∷◌, inl, inr}
use Rattle.std.specs.List.{AllByRecursion}
use Rattle.std.proofs.lemmas.Bool.{cond_both}
use Rattle.ws_isa.specs.declared.instr.Op.{Op}
use Rattle.ws_isa.specs.declared.instr.Dest.{Dest}
use Rattle.ws_isa.specs.Image.{Image, Instr, Pad, Block, flat, ports, pad_of, instr_at, block_at, no_instr}
use Rattle.ws_isa.specs.Image.{no_block, now_of, now_dests, edge_of, edge_dests, start_dests}
use Rattle.ws_isa.specs.Formed.{Formed, DestsIn}
use Rattle.ws_isa.specs.Sound.{HasDest, PortsThere}
use Rattle.ws_isa.proofs.There.{all_nth}

module _ (image : Image) where
  in_there : (ds : List Dest) (j q : ℕ) → DestsIn image ds → HasDest ds j q → q < ports image j
  in_there [] j q a h = absurd h
  in_there (d ∷ ds) j q a (inl h) = grind arith
  in_there (d ∷ ds) j q a (inr h) = in_there ds j q a.1 h

  pads_in : (pads : List Pad) (k : ℕ) → AllByRecursion (λ (p : Pad). DestsIn image p.dests) pads
      → DestsIn image (pad_of pads k)
  pads_in [] k a = tt
  pads_in (p ∷ ps) k a = grind (arith, cond_both, p.dests, pads_in ps k a.1)

  module _ (formed : Formed image) where
    pad_in : (b k : ℕ) → DestsIn image (pad_of (block_at image b).pads k)
    unfolding block_at no_block
    pad_in zero k = tt
    pad_in (suc b) k = pads_in (block_at image (suc b)).pads k
        (all_nth (λ (x : Block). AllByRecursion (λ (p : Pad). DestsIn image p.dests) x.pads) image.blocks b
        no_block tt formed.suited.references.pads)

    dests_in : (k : ℕ) → DestsIn image (instr_at image k).dests
    unfolding instr_at no_instr
    dests_in zero = tt
    dests_in (suc k) = all_nth (λ (i : Instr). DestsIn image i.dests) (flat image.blocks) k no_instr tt
        formed.suited.references.dests

    others_in : (k : ℕ) → DestsIn image (instr_at image k).others
    unfolding instr_at no_instr
    others_in zero = tt
    others_in (suc k) = all_nth (λ (i : Instr). DestsIn image i.others) (flat image.blocks) k no_instr tt
        formed.suited.references.others

    now_in : (op : Op) (ds : List Dest) → DestsIn image ds → DestsIn image (now_of op ds)
    now_in op ds a = grind arith

    edge_in : (b r k : ℕ) (op : Op) → DestsIn image (edge_of image b r (instr_at image k) op)
    edge_in b r k op = grind (arith, cond_both, others_in, dests_in, pad_in)

    pub ports_there : PortsThere image
    unfolding start_dests now_dests edge_dests
    ports_there = grind (arith, in_there, pad_in, now_in, dests_in, edge_in)
