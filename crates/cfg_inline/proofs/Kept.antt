-- The inlined graph keeps the walks of the given graph, with the very same outside.
use Rattle.std.proofs.Common.{arith, ℕ, ◌≡◌, refl, sym, subst, inl, inr}
use Rattle.ws_words.specs.Outside.{Outside, World}
use Rattle.cfg_core.specs.Graph.{Block, Graph, block_at}
use Rattle.cfg_core.specs.Rules.{IsGraph}
use Rattle.cfg_core.specs.Walk.{Config, walk, opening, IsOver}
use Rattle.cfg_core.specs.Shown.{AllInside, SameShown, SameWalks, SameArrays}
use Rattle.cfg_core.proofs.Paired as paired
use Rattle.cfg_inline.specs.Inlined.{Plan, inlined}
use Rattle.cfg_inline.specs.Keeps.{SameOrBack, ExitsKept}
use Rattle.cfg_core.specs.Passing.{PassesNoMore}
use Rattle.cfg_inline.proofs.Placing.{block_is}
use Rattle.cfg_inline.proofs.Ruled.{by_call}
use Rattle.cfg_inline.proofs.Alongside.{forth}

module _ (plan : Plan) (g : Graph) (rules : IsGraph g) where
  abbrev h : Graph
  h = inlined plan g

  abbrev Same : Outside → Outside → Type 0
  Same o p = o ≡ p

  along : (world : World) (turns m : ℕ) → IsOver (walk g m (opening g world turns))
      → (n : ℕ) × paired.Match Same (walk g m (opening g world turns)) (walk h n (opening h world turns))
  along world turns m over = let r = forth plan g rules world turns m over in (r.0, r.2)

  shown : (o p : Outside) → o ≡ p → SameShown g h o p
  shown o p e = grind arith

  -- the walks show the same
  pub walks_kept : SameWalks g h
  walks_kept = record {
    ends = λ world turns o e. let r = paired.ends g h rules Same along world turns o e in
        (r.0, r.1, shown o r.0 r.2);
    ends_only = λ world turns p e. let r = paired.ends_only g h rules Same along world turns p e in
        (r.0, r.1, shown r.0 p r.2);
    goes = λ world turns o e. let r = paired.goes g h rules Same along world turns o e in
        (r.0, r.1, shown o r.0 r.2);
    goes_only = λ world turns p e. let r = paired.goes_only g h rules Same along world turns p e in
        (r.0, r.1, shown r.0 p r.2);
  }

  -- the arrays are the same, and what is past the end of a hidden one is so in both
  pub arrays_kept : SameArrays g h
  arrays_kept = record {
    shown = refl;
    inside = λ world s. record {
      ends = λ turns p e. let r = paired.ends_only g h rules Same along world turns p e in
          subst (λ (q : Outside). AllInside g.arrays q.acts) r.2 (s.ends turns r.0 r.1);
      goes = λ turns p e. let r = paired.goes_only g h rules Same along world turns p e in
          subst (λ (q : Outside). AllInside g.arrays q.acts) r.2 (s.goes turns r.0 r.1);
    };
  }

  match_over : (c d : Config) → paired.Match Same c d → IsOver d
  match_over c d e = grind arith

  -- in no more blocks
  pub no_more : PassesNoMore g h
  no_more world turns m over = let r = forth plan g rules world turns m over in
      (r.0, r.1, match_over _ _ r.2)

  -- each exit is the old one, or its call is inlined
  pub exits_kept : ExitsKept g h
  exits_kept = record {
    exits = λ b. subst (λ (x : Block). SameOrBack (block_at g b).exit x.exit) (sym (block_is plan g b))
        (by_call plan g rules (λ (x : Block). SameOrBack (block_at g b).exit x.exit) b (inl refl)
        (λ s i. inr (s.result, i.callee, s.values, s.back, i.call, refl)));
  }
