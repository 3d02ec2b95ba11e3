-- The joined graph keeps the walks of the given graph, with the very same outside.
use Rattle.std.proofs.Common.{arith, ℕ, ◌≡◌, List, refl, subst}
use Rattle.ws_words.specs.Outside.{Outside, World}
use Rattle.cfg_core.specs.Graph.{Graph}
use Rattle.cfg_core.specs.Rules.{IsGraph}
use Rattle.cfg_core.specs.Walk.{walk, opening, IsOver}
use Rattle.cfg_core.specs.Shown.{AllInside, SameShown, SameWalks, SameArrays}
use Rattle.cfg_core.proofs.Paired as paired
use Rattle.live_vars.specs.Marks.{AreLive}
use Rattle.phi_conv.specs.Joined.{joined}
use Rattle.phi_conv.proofs.Alongside.{forth}

module _ (g : Graph) (live : List (List ℕ)) (rules : IsGraph g) (is : AreLive g live) where
  abbrev h : Graph
  h = joined g live

  abbrev Same : Outside → Outside → Type 0
  Same o p = o ≡ p

  along : (world : World) (turns m : ℕ) → IsOver (walk g m (opening g world turns))
      → (n : ℕ) × paired.Match Same (walk g m (opening g world turns)) (walk h n (opening h world turns))
  along = forth g rules live is

  shown : (o p : Outside) → o ≡ p → SameShown g h o p
  shown o p e = grind arith

  -- the walks show the same
  pub walks_kept : SameWalks g h
  walks_kept = record {
    ends = λ world turns o e. let r = paired.ends g h rules Same along world turns o e in
        (r.0, r.1, shown o r.0 r.2);
    ends_only = λ world turns p e. let r = paired.ends_only g h rules Same along world turns p e in
        (r.0, r.1, shown r.0 p r.2);
    goes = λ world turns o e. let r = paired.goes g h rules Same along world turns o e in
        (r.0, r.1, shown o r.0 r.2);
    goes_only = λ world turns p e. let r = paired.goes_only g h rules Same along world turns p e in
        (r.0, r.1, shown r.0 p r.2);
  }

  -- the arrays are the same, and what is past the end of a hidden one is so in both
  pub arrays_kept : SameArrays g h
  arrays_kept = record {
    shown = refl;
    inside = λ world s. record {
      ends = λ turns p e. let r = paired.ends_only g h rules Same along world turns p e in
          subst (λ (q : Outside). AllInside g.arrays q.acts) r.2 (s.ends turns r.0 r.1);
      goes = λ turns p e. let r = paired.goes_only g h rules Same along world turns p e in
          subst (λ (q : Outside). AllInside g.arrays q.acts) r.2 (s.goes turns r.0 r.1);
    };
  }
