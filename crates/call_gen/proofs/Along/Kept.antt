-- The spelled graph keeps the walks of the given graph.
use Rattle.std.proofs.Common.{ℕ, List, arith}
use Rattle.ws_words.specs.Outside.{World}
use Rattle.cfg_core.specs.Graph.{Graph}
use Rattle.cfg_core.specs.Shown.{SameWalks, SameArrays}
use Rattle.cfg_core.proofs.Paired as paired
use Rattle.call_gen.specs.Spelled.{spelled, hidden_arrays}
use Rattle.call_gen.proofs.Spelled.Facts.{Given}
use Rattle.call_gen.proofs.Along.Standing.{Alike, rows, size}
use Rattle.call_gen.proofs.Along.Alongside.{forth}
use Rattle.call_gen.proofs.Spelled.Places.{all_placed, all_celled}
use Rattle.call_gen.proofs.Along.Showing.{same_shown, inside_too, arrays_shown}

module _ (g : Graph) (live : List (List ℕ)) (G : Given g live) where
  abbrev h : Graph
  h = spelled g live

  goes_along : (world : World) (turns m : ℕ) → Rattle.cfg_core.specs.Walk.IsOver
      (Rattle.cfg_core.specs.Walk.walk g m (Rattle.cfg_core.specs.Walk.opening g world turns))
      → (n : ℕ) × paired.Match (Alike g live)
      (Rattle.cfg_core.specs.Walk.walk g m (Rattle.cfg_core.specs.Walk.opening g world turns))
      (Rattle.cfg_core.specs.Walk.walk h n (Rattle.cfg_core.specs.Walk.opening h world turns))
  goes_along = forth g live G (all_placed g live G.rules) (all_celled g live G.rules) (λ b. 0)

  pub walks_kept : SameWalks g h
  walks_kept = record {
    ends = λ world turns o e. let r = paired.ends g h G.rules (Alike g live) goes_along world turns o e in
        (r.0, r.1, same_shown g live o r.0 r.2);
    ends_only = λ world turns p e. let r = paired.ends_only g h G.rules (Alike g live) goes_along world turns
        p e in (r.0, r.1, same_shown g live r.0 p r.2);
    goes = grind (arith, paired.goes, goes_along, same_shown);
    goes_only = λ world turns p e. let r = paired.goes_only g h G.rules (Alike g live) goes_along world turns
        p e in (r.0, r.1, same_shown g live r.0 p r.2);
  }

  pub arrays_kept : SameArrays g h
  unfolding hidden_arrays
  arrays_kept = record {
    shown = arrays_shown g.arrays (rows g live) (size g live) g.arrays;
    inside = λ world s. record {
      ends = λ turns p e. let r = paired.ends_only g h G.rules (Alike g live) goes_along world turns p e in
          inside_too g live r.0 p r.2 (s.ends turns r.0 r.1);
      goes = λ turns p e. let r = paired.goes_only g h G.rules (Alike g live) goes_along world turns p e in
          inside_too g live r.0 p r.2 (s.goes turns r.0 r.1);
    };
  }
