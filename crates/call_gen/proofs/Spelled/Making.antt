-- The spelled graph, as the code makes it.
use Rattle.std.proofs.Common.{ℕ, suc, ◌+◌, ◌/◌, ◌≡◌, min, List, [], ◌∷◌, ◌++◌, length, map, drop, replicate}
use Rattle.std.proofs.Common.{None, refl, ap, append_assoc, arith}
use Rattle.std.specs.List.{AllByRecursion}
use Rattle.std.proofs.lemmas.List.{map-append, length-map, length-append}
use Rattle.cfg_core.specs.Graph as plain
use Rattle.cfg_core.specs.Graph.{Graph, GraphArray, Spot, spots_in, spots_from, block_at}
use Rattle.cfg_core.specs.Rules.{IsGraph}
use Rattle.cfg_core.specs.Shape.{ArmsAlone}
use Rattle.cfg_core.specs.Weights.{first_block}
use Rattle.cfg_core.specs.Shown.{SameWalks, SameArrays}
use Rattle.cfg_core.specs.View as view
use Rattle.cfg_core.specs.declared.blocks.GraphProc.{GraphProc}
use Rattle.cfg_core.specs.declared.blocks.GraphBlock.{GraphBlock}
use Rattle.call_gen.specs.Spelled.{cells_in_all, hidden_arrays, spelled_proc, spelled_procs, spelled}
use Rattle.call_gen.specs.Keeps.{HasNoCall, NoneLiveAcross, ParamsAtMost, SendsAtMost}
use Rattle.call_gen.specs.Sizes.{Sizes, KeepsSizes, spelled_sizes}
use Rattle.call_gen.specs.Charged.{CallsCharged}
use Rattle.call_gen.proofs.Spelled.Facts.{Given}
use Rattle.call_gen.proofs.Ruling.Sizing.{is_within}
use Rattle.call_gen.proofs.Ruling.Charging.{calls_charged}
use Rattle.call_gen.proofs.Ruling.Arms.{arms_alone}
use Rattle.call_gen.proofs.Along.Kept.{walks_kept, arrays_kept}
use Rattle.call_gen.proofs.Ruling.Ruled.{is_graph, has_no_call}
use Rattle.call_gen.proofs.Ruling.Crossing.{none_live_across, none_named, few_sent}

pub split_all : (P : Spot → Type 0) (xs ys : List Spot) → AllByRecursion P (xs ++ ys)
    → AllByRecursion P xs × AllByRecursion P ys
split_all P [] ys h = (tt, h)
split_all P (x ∷ xs) ys h = let r = split_all P xs ys h.1 in ((h.0, r.0), r.1)

in_count : (f vars : ℕ) (xs : List GraphBlock) → length (spots_in f vars (map view.block xs)) ≡ length xs
in_count f vars [] = refl
in_count f vars (x ∷ xs) = ap suc (in_count f vars xs)

module _ (items : List GraphProc) (i j : ℕ) (p : GraphProc) (ej : j ≡ suc i)
    (e : drop i items ≡ p ∷ drop j items) where
  spots_next : spots_from i (map view.proc (drop i items)) ≡ spots_in i p.vars (map view.block p.blocks.items)
      ++ spots_from j (map view.proc (drop j items))
  spots_next = grind arith

  pub numbers_next : (P : Spot → Type 0) → AllByRecursion P (spots_from i (map view.proc (drop i items)))
      → AllByRecursion P (spots_in i p.vars (map view.block p.blocks.items))
      × AllByRecursion P (spots_from j (map view.proc (drop j items)))
  numbers_next P h = split_all P (spots_in i p.vars (map view.block p.blocks.items)) (spots_from j (map
      view.proc (drop j items))) (grind (arith, spots_next))

  pub count_next : length (spots_from i (map view.proc (drop i items))) ≡ length p.blocks.items + length
      (spots_from j (map view.proc (drop j items)))
  count_next = grind (arith, spots_next, length-append, in_count)

  pub procs_next : (g : Graph) (live : List (List ℕ)) (first next n : ℕ) (m : GraphProc)
      (old new : List GraphProc) (whole : List plain.GraphProc) → next ≡ first + n → n ≡ length p.blocks.items
      → new ≡ old ++ m ∷ [] → view.proc m ≡ spelled_proc g live i first (view.proc p)
      → map view.proc old ++ spelled_procs g live i first (map view.proc (drop i items)) ≡ whole
      → map view.proc new ++ spelled_procs g live j next (map view.proc (drop j items)) ≡ whole
  procs_next g live first next n m old new whole en ec enew em h =
      grind (arith, length-map, map-append, append_assoc)

pub hidden_is : (g : Graph) (arrays old : List GraphArray) (count total : ℕ) → count ≡ min 192 total
    → total ≡ cells_in_all g
    → arrays ≡ old ++ replicate count (record { name = None; length = total / 192 + 1 })
    → arrays ≡ old ++ hidden_arrays g
unfolding hidden_arrays
hidden_is g arrays old count total ec et e = grind arith

-- all that is said of it
pub record AllKept (g : Graph) (live : List (List ℕ)) (made : Graph) : Type 0 where
  pub walks : SameWalks g made
  pub arrays : SameArrays g made
  pub rules : IsGraph made
  pub no_call : HasNoCall made
  pub across : NoneLiveAcross made
  pub values : (n : ℕ) → ParamsAtMost n g → (b : ℕ) → SendsAtMost (suc n) (block_at made b).exit
  pub sizes : (z : Sizes) → KeepsSizes z g → KeepsSizes (spelled_sizes z) made
  pub arms : ArmsAlone g → ArmsAlone made
  pub charged : CallsCharged g live made
  pub start : (block_at made (first_block made)).named ≡ []

pub all_kept : (g : Graph) (live : List (List ℕ)) (made : Graph) → made ≡ spelled g live → Given g live
    → AllKept g live made
all_kept g live made e G = rw e (record {
  walks = walks_kept g live G;
  arrays = arrays_kept g live G;
  rules = is_graph g live G;
  no_call = has_no_call g live G;
  across = none_live_across g live G;
  values = few_sent g live G;
  sizes = is_within g live G;
  arms = arms_alone g live G;
  charged = calls_charged g live G;
  start = none_named g live G;
})
