-- The part of a graph, as the code makes it.
use Rattle.std.proofs.Common.{ℕ, suc, ◌+◌, ◌≡◌, Bool, if◌then◌else◌, List, [], ◌∷◌, ◌++◌, length, map, drop}
use Rattle.std.proofs.Common.{append_assoc, arith}
use Rattle.std.specs.List.{AllByRecursion}
use Rattle.std.proofs.lemmas.List.{length-map}
use Rattle.cfg_core.specs.Graph as plain
use Rattle.cfg_core.specs.Graph.{Exit, Block, Graph, spots_in, spots_from}
use Rattle.cfg_core.specs.Rules.{ExitIn, BlockNumbers, IsGraph}
use Rattle.cfg_core.specs.Shape.{IsShaped, ArmsAlone}
use Rattle.cfg_core.specs.Shown.{SameWalks, SameArrays}
use Rattle.cfg_core.specs.View as view
use Rattle.cfg_core.specs.declared.blocks.GraphProc.{GraphProc}
use Rattle.call_gen.specs.Keeps.{HasNoSend}
use Rattle.call_gen.specs.Reached.{AllReached}
use Rattle.call_gen.specs.Sizes.{Sizes, KeepsSizes}
use Rattle.call_gen.specs.Charged.{ReachedInPlace}
use Rattle.call_gen.specs.Part.{before, part_proc, part_procs, part, ExitThere, BlocksThere, AreReached}
use Rattle.call_gen.proofs.Spelled.Making.{split_all}
use Rattle.call_gen.proofs.Parted.PartWalk.{walks_kept, arrays_kept, weighs_no_more}
use Rattle.call_gen.proofs.Parted.PartRules.{kept_at, is_graph, sends_nothing, is_shaped, arms_alone}
use Rattle.call_gen.proofs.Parted.PartSame.{does_the_same, begins_there}
use Rattle.call_gen.proofs.Parted.PartSizing.{is_within}
use Rattle.call_gen.proofs.Parted.PartReached.{closed, all_reached}
use Rattle.ws_words.specs.Items.{flag_at}

module _ (g : Graph) where
  exit_there : (home v : ℕ) (x : Exit) → ExitIn g home v x → ExitThere g x
  exit_there home v x i = grind arith

  blocks_there : (home v : ℕ) (xs : List Block) → AllByRecursion (BlockNumbers g) (spots_in home v xs)
      → BlocksThere g xs
  blocks_there home v [] h = tt
  blocks_there home v (x ∷ xs) h = (exit_there home v x.exit h.0.exit, blocks_there home v xs h.1)

  procs_there : (f : ℕ) (ps : List plain.GraphProc) → AllByRecursion (BlockNumbers g) (spots_from f ps)
      → AllByRecursion (λ p. BlocksThere g p.blocks) ps
  procs_there f [] h = tt
  procs_there f (p ∷ ps) h = let r = split_all (BlockNumbers g) (spots_in f p.vars p.blocks)
      (spots_from (suc f) ps) h in (blocks_there f p.vars p.blocks r.0, procs_there (suc f) ps r.1)

  -- what exits name is there
  pub all_there : IsGraph g → AllByRecursion (λ p. BlocksThere g p.blocks) g.procs
  all_there rules = procs_there 0 g.procs rules.numbers.blocks

-- one procedure more, or none
pub part_next : (items : List GraphProc) (i j : ℕ) (p : GraphProc) → drop i items ≡ p ∷ drop j items
    → (keep : ℕ → Bool) (name : Exit → Exit) (first next n : ℕ) (old new : List GraphProc)
    (whole : List plain.GraphProc) → next ≡ first + n → n ≡ length p.blocks.items
    → map view.proc new ≡ (if keep first then map view.proc old ++ part_proc keep name first (view.proc p)
    ∷ [] else map view.proc old)
    → map view.proc old ++ part_procs keep name first (map view.proc (drop i items)) ≡ whole
    → map view.proc new ++ part_procs keep name next (map view.proc (drop j items)) ≡ whole
part_next items i j p e keep name first next n old new whole en ec em h =
    grind (arith, length-map, append_assoc)

-- all that is said of it
pub record ReachedKept (g made : Graph) : Type 0 where
  pub walks : SameWalks g made
  pub arrays : SameArrays g made
  pub all : AllReached made
  pub rules : IsGraph made
  pub no_send : HasNoSend made
  pub shape : IsShaped g → IsShaped made
  pub sizes : (z : Sizes) → KeepsSizes z g → KeepsSizes z made
  pub arms : ArmsAlone g → ArmsAlone made
  pub places : ReachedInPlace g made

pub reached_kept : (g made : Graph) (flags : List Bool) → made ≡ part g (flag_at flags) → IsGraph g
    → HasNoSend g → AreReached g flags → ReachedKept g made
reached_kept g made flags e rules no_send A =
    let C = closed g rules no_send flags A in
    rw e (record {
      walks = grind (arith, walks_kept);
      arrays = arrays_kept g (flag_at flags) rules C no_send;
      all = all_reached g rules no_send flags A;
      rules = is_graph g (flag_at flags) rules C no_send;
      no_send = grind (arith, sends_nothing);
      shape = grind (arith, is_shaped);
      sizes = is_within g (flag_at flags) rules C no_send;
      arms = grind (arith, arms_alone);
      places = record {
        place = λ b. before (flag_at flags) b;
        each = λ c lt. (let k = kept_at g (flag_at flags) rules C no_send c lt in grind arith);
        begins = grind (arith, begins_there);
        same = λ b lt r. does_the_same g (flag_at flags) rules C no_send b (A.all b lt r);
        walks = λ w given base pay fits. weighs_no_more g (flag_at flags) rules C no_send w given (grind
            arith) base pay;
      };
    })
