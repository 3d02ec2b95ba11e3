-- A formed image sends a result to at most eight destinations.
use Rattle.std.proofs.Common.{ℕ, ◌≡◌, ◌≤◌, ◌<◌, eqb, List, [], ◌∷◌, ◌++◌, length, arith, length-append}
use Rattle.std.specs.List.{AllByRecursion}
use Rattle.std.proofs.lemmas.Bool.{cond_both}
use Rattle.ws_isa.specs.declared.instr.Op.{Op}
use Rattle.ws_isa.specs.declared.instr.Op.TheVariants.{Steer, Send}
use Rattle.ws_isa.specs.declared.instr.Dest.{Dest}
use Rattle.ws_isa.specs.Image.{Image, Pad, pad_of, instr_at, block_at, block_of, no_instr, no_block, now_of}
use Rattle.ws_isa.specs.Image.{now_dests, edge_of, edge_dests, target}
use Rattle.ws_isa.specs.Formed.{Formed, most_dests, most_pads}
use Rattle.df_core.specs.Places.{destinations}
use Rattle.ws_isa.proofs.There.{all_nth}

pads_few : (pads : List Pad) (k : ℕ)
    → AllByRecursion (λ (p : Pad). (p.number < most_pads) × (length p.dests ≤ most_dests)) pads
    → length (pad_of pads k) ≤ 8
unfolding most_dests
pads_few [] k a = omega arith
pads_few (p ∷ ps) k a = grind (arith, cond_both, pads_few ps k a.1)

module _ (image : Image) (formed : Formed image) where
  pub pad_few : (b k : ℕ) → length (pad_of (block_at image b).pads k) ≤ 8
  unfolding block_at no_block
  pad_few b k = grind (arith, pads_few, all_nth)

  dests_few : (k : ℕ) → (length (instr_at image k).dests ≤ 8) × (length (instr_at image k).others ≤ 8)
  unfolding instr_at no_instr most_dests
  dests_few k = grind (arith, all_nth)

  both_few : (k b r : ℕ) (o : Op)
      → length (now_of o (instr_at image k).dests ++ edge_of image b r (instr_at image k) o) ≤ 8
  both_few k b r Steer = cond_both (eqb r 0) (instr_at image k).others (instr_at image k).dests
      (λ (ds : List Dest). length ds ≤ 8) (λ e. (dests_few k).1) (λ e. (dests_few k).0)
  both_few k b r (Send p) = pad_few (target image b r) p
  both_few k b r _ = grind (arith, length-append, dests_few)

  pub few : (k r : ℕ) → length (destinations image k r) ≤ 8
  unfolding destinations now_dests edge_dests
  few k r = both_few k (block_of image k) r (instr_at image k).op

-- of a list that is said to be those
pub few_sent : (image : Image) → Formed image → (ds : List Dest) (i : ℕ) → ds ≡ destinations image i 0
    → length ds ≤ 8
few_sent image formed ds i e = rw e (few image formed i 0)
