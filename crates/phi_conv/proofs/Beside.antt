-- A short branch of the graph, after the operations of its block: what stands for it goes along.
use Rattle.std.proofs.Common.{arith, ℕ, ◌≡◌, ◌<◌, ◌==◌, Bool, true, false, List, [], ◌∷◌, length, Some, refl}
use Rattle.std.proofs.Common.{sym, ap, ◌∙◌, subst, inl, inr}
use Rattle.std.specs.List.{AllByRecursion}
use Rattle.ws_words.specs.Outside.{ProcState}
use Rattle.cfg_core.specs.Graph.{Term, Op, Branch, Graph, spots, spot_at, block_at}
use Rattle.cfg_core.specs.Rules.{TermIn, OpIn, ExitIn, IsGraph}
use Rattle.cfg_core.specs.Walk.{value_of, run_ops}
use Rattle.live_vars.specs.Live.{Mentions, Live}
use Rattle.live_vars.specs.Marks.{AreLive}
use Rattle.phi_conv.specs.Short.{Short, all_light, short_to}
use Rattle.phi_conv.specs.Joined.{joining}
use Rattle.phi_conv.proofs.Choices.{by_zero}
use Rattle.phi_conv.proofs.Agreeing.{States, Outcomes}
use Rattle.phi_conv.proofs.Branching.{arm_run, join_same}
use Rattle.phi_conv.specs.IsShort.{Way, direct, through}
use Rattle.phi_conv.proofs.Ways.{ways}
use Rattle.cfg_core.proofs.Homes.{vars_at, same_vars}
use Rattle.cfg_core.proofs.Spots.{numbers_at}
use Rattle.live_vars.proofs.Needed.{Needs, After, needed_is_live}

needs_more : (ops : List Op) (P Q : ℕ → Type 0) → ((x : ℕ) → P x → Q x) → (x : ℕ) → Needs ops P x
    → Needs ops Q x
needs_more [] P Q f x n = f x n
needs_more (op ∷ ops) P Q f x (inl r) = inl r
needs_more (op ∷ ops) P Q f x (inr n) = inr (n.0, needs_more ops P Q f x n.1)

way_light : (g : Graph) (b j : ℕ) (ops : List Op) → Way g b j ops → all_light ops ≡ true
way_light g b j ops h = grind arith

-- what an arm needs is live at its start
way_live : (g : Graph) (b j : ℕ) (ops : List Op) → Way g b j ops → (x : ℕ) → Needs ops (Live g j) x
    → Live g b x
way_live g b j ops h x n = grind (arith, needs_more, needed_is_live)

module _ (g : Graph) (rules : IsGraph g) (live : List (List ℕ)) (is : AreLive g live) (b : ℕ)
    (there : b < length (spots g)) where
  abbrev v : ℕ
  v = vars_at g rules b

  way_in : (c j : ℕ) (ops : List Op) → c < length (spots g) → (spot_at g c).home ≡ (spot_at g b).home
      → Way g c j ops → AllByRecursion (OpIn (length g.arrays) v) ops
  way_in c j ops lt home (direct e empty) = grind arith
  way_in c j ops lt home (through same exit light) =
      subst (λ (o : List Op). AllByRecursion (OpIn (length g.arrays) v) o) (sym same)
      (subst (λ n. AllByRecursion (OpIn (length g.arrays) n) (block_at g c).ops)
      (same_vars g rules b c there lt home) (numbers_at g rules c).ops)

  module _ (t : Term) (c d : ℕ) (s : Short) (exit : ExitIn g (spot_at g b).home v (Branch t c d))
      (short : short_to g t c d ≡ Some s) (joins : s.join < length (spots g))
      (home : (spot_at g s.join).home ≡ (spot_at g b).home) where
    -- the branch and the arm that it takes, beside what stands for them
    pub beside : (a r : ProcState) (k : ℕ) (z : Bool) → ((value_of t a).0 == 0) ≡ z
        → States v (After g (Branch t c d)) a r →
        Outcomes v (Live g s.join) (arm_run (by_zero z s.first s.second) (value_of t a).1 k)
        (run_ops (joining live v s) r k)
    beside a r k z e st =
        let w = ways g t c d s short in
        let A : ℕ → Type 0 = After g (Branch t c d) in
        let to_live : (y : Bool) (x : ℕ) → Needs (by_zero y s.first s.second) (Live g s.join) x
        → A x = λ y. at y w.first w.second in
        subst (λ (u : Term). Outcomes v (Live g s.join) (arm_run (by_zero z s.first s.second) (value_of u a).1
        k) (run_ops (joining live v s) r k)) w.test (
        join_same g live v s (Live g s.join) A (subst (λ (u : Term). TermIn (length g.arrays) v u)
        (sym w.test) exit.0)
        (way_in c s.join s.first exit.1.0 exit.1.1 w.first)
        (way_in d s.join s.second exit.2.0 exit.2.1 w.second)
        (way_light g c s.join s.first w.first) (way_light g d s.join s.second w.second)
        (λ x lt l.
        (is s.join x joins (subst (λ n. x < n) (sym (same_vars g rules b s.join there joins home)) lt)).1
        l)
        a r k z (ap (λ (u : Term). (value_of u a).0 == 0) w.test ∙ e)
        (λ x m. inl (subst (λ (u : Term). Mentions u x) w.test m)) (to_live z) st
        )
      where
        at : (y : Bool) → Way g c s.join s.first → Way g d s.join s.second → (x : ℕ)
            → Needs (by_zero y s.first s.second) (Live g s.join) x → After g (Branch t c d) x
        at true f h x n = inr ((λ q. q), (d, inr refl, way_live g d s.join s.second h x n))
        at false f h x n = inr ((λ q. q), (c, inl refl, way_live g c s.join s.first f x n))
