-- Arms of branches that no other block has an edge to.
use Rattle.std.proofs.Common.{arith, ℕ, ◌≡◌, List, sym, ap, ◌∙◌, inl, inr}
use Rattle.cfg_core.specs.Graph.{Term, Exit, Goto, Branch, Block, Graph, block_at}
use Rattle.cfg_core.specs.Shape.{OnlyFrom, ArmsAlone}
use Rattle.phi_conv.specs.Short.{Short}
use Rattle.phi_conv.specs.IsShort.{Way}
use Rattle.phi_conv.specs.Joined.{joined}
use Rattle.phi_conv.proofs.Sizing.{short_joined}

no_both : (x : Exit) (t : Term) (b c d : ℕ) → x ≡ Branch t b c → x ≡ Goto d → ⊥
no_both x t b c d e f = let z : Branch t b c ≡ Goto d = sym e ∙ f in absurd (cc)

module _ (g : Graph) (live : List (List ℕ)) where
  abbrev h : Graph
  h = joined g live

  -- a branch of the joined graph is one of the given graph
  old_branch : (a : ℕ) (t : Term) (b c : ℕ) → (block_at h a).exit ≡ Branch t b c
      → (block_at g a).exit ≡ Branch t b c
  old_branch a t b c e = elim ((short_joined g live).others a) [
    | inl same ↦ ap (λ (x : Block). x.exit) (sym same) ∙ e
    | inr new ↦ grind (arith, no_both)
  ]

  module _ (a : ℕ) (t : Term) (b c d : ℕ) (branch : (block_at g a).exit ≡ Branch t b c)
      (only : OnlyFrom g a d) where
    by_way : (other m n : ℕ) (u : Term) (s : Short) → (block_at g other).exit ≡ Branch u m n → d ≡ s.join
        → Way g m s.join s.first → other ≡ a
    by_way other m n u s e same h = grind (arith, no_both)

    still_only : OnlyFrom h a d
    still_only other edge = elim ((short_joined g live).others other) [
      | inl same ↦ grind arith
      | inr new ↦ grind (arith, by_way, new.first, new.branch, new.goes)
    ]

  -- they are so in the joined graph
  pub arms_alone : ArmsAlone g → ArmsAlone h
  arms_alone alone = record {
    apart = λ a t b c e.
        let old = old_branch a t b c e in let own = alone.apart a t b c old in
        record {
          differ = own.differ;
          first = still_only a t b c b old own.first;
          second = still_only a t b c c old own.second;
        };
    ahead = λ a t b c e. alone.ahead a t b c (old_branch a t b c e);
  }
