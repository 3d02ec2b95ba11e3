-- No arm of a branch begins a wave.
use Rattle.std.proofs.Common.{ℕ, suc, ◌+◌, ◌≡◌, ◌<◌, ◌≤◌, ◌⊎◌, Bool, true, false, List, [], ◌∷◌, ◌++◌}
use Rattle.std.proofs.Common.{length, Some, None, sym, subst, inl, inr, arith}
use Rattle.std.proofs.lemmas.Bool.{both_ways}
use Rattle.cfg_core.specs.Graph as graph
use Rattle.cfg_core.specs.Graph.{Term, Branch, Block, GraphProc, Graph, Spot, spots, spot_at, block_at}
use Rattle.cfg_core.specs.Graph.{entry_of, entry_from}
use Rattle.cfg_core.specs.Rules.{Leads}
use Rattle.cfg_core.specs.Edges.{Edge}
use Rattle.cfg_core.specs.Shape.{OnlyFrom}
use Rattle.wave_cut.specs.Cut.{Cut, is_first}
use Rattle.wave_gen.specs.Fitting.{Fits}
use Rattle.wave_gen.proofs.Walking.Tied.{spot_nth}
use Rattle.wave_link.proofs.Grown.GrownEdges.{not_true}
use Rattle.ws_words.specs.Items.{nth}

entry_low : (first : ℕ) (ps : List GraphProc) (f : ℕ) → f < length ps → first ≤ entry_from first ps f
entry_low first (p ∷ ps) (suc f) l = grind (arith, entry_low (first + length p.blocks) ps f (omega arith))
entry_low first ps f l = grind arith

-- a block before a procedure's first one belongs to an earlier procedure, one from it on to no earlier one
abbrev Sides : ℕ → ℕ → List GraphProc → ℕ → Spot → Type 0
Sides first h ps n s = (h ≤ s.home)
    × ((f : ℕ) → f < length ps → ((first + n < entry_from first ps f → s.home < h + f)
    × (entry_from first ps f ≤ first + n → h + f ≤ s.home)))

in_or_after : (h vars : ℕ) (xs : List Block) (rest : List Spot) (k : ℕ) (s : Spot)
    → nth (graph.spots_in h vars xs ++ rest) k ≡ Some s → ((k < length xs) × (s.home ≡ h))
    ⊎ ((i : ℕ) × (k ≡ length xs + i) × (nth rest i ≡ Some s))
in_or_after h vars (x ∷ xs) rest (suc k) s q = grind (arith, in_or_after h vars xs rest k s q)
in_or_after h vars xs rest k s q = grind arith

sides : (first h : ℕ) (ps : List GraphProc) (n : ℕ) (s : Spot) → nth (graph.spots_from h ps) n ≡ Some s
    → Sides first h ps n s
sides first h [] n s e = absurd (let z : None ≡ Some s = e in cc)
sides first h (p ∷ ps) n s e = go (in_or_after h p.vars p.blocks (graph.spots_from (suc h) ps) n s e)
    (λ i q. sides (first + length p.blocks) (suc h) ps i s q)
  where
    go : ((n < length p.blocks) × (s.home ≡ h)) ⊎ ((i : ℕ) × (n ≡ length p.blocks + i)
        × (nth (graph.spots_from (suc h) ps) i ≡ Some s))
        → ((i : ℕ) → nth (graph.spots_from (suc h) ps) i ≡ Some s → Sides (first + length p.blocks) (suc h) ps
        i s) → Sides first h (p ∷ ps) n s
    go h ih = grind (arith, entry_low)

-- a block to which an earlier one of its procedure leads is no procedure's first one
not_entry : (g : Graph) (a c f : ℕ) → a < length (spots g) → c < length (spots g)
    → (spot_at g c).home ≡ (spot_at g a).home → a < c → f < length g.procs → c ≡ entry_of g f → ⊥
unfolding entry_of spot_at
not_entry g a c f la lc h l lf e =
    let x = (sides 0 0 g.procs a (spot_at g a) (spot_nth (spots g) a la)).1 f lf in
    let y = (sides 0 0 g.procs c (spot_at g c) (spot_nth (spots g) c lc)).1 f lf in
    let u : (spot_at g a).home < 0 + f = x.0 (omega (arith, l, e)) in
    let v : 0 + f ≤ (spot_at g c).home = y.1 (omega (arith, e)) in
    omega (arith, u, v, h)

module _ (g : Graph) (live : ℕ → ℕ → Bool) (cut : Cut) (fit : Fits g live cut) where
  -- an arm of block a's branch that is entered from there alone
  alone : (a : ℕ) (t : Term) (x y c : ℕ) → a < length (spots g) → (block_at g a).exit ≡ Branch t x y
      → OnlyFrom g a c → a < c → Edge g a c → c < length (spots g) → (spot_at g c).home ≡ (spot_at g a).home
      → is_first cut c ≡ true → ⊥
  alone a t x y c la q only l k lc h f = grind (arith, not_entry, both_ways, fit.no_call)

  -- no arm of a branch begins a wave
  pub arm_inside : (a : ℕ) (t : Term) (x y c : ℕ) → a < length (spots g) → (block_at g a).exit ≡ Branch t x y
      → (c ≡ x) ⊎ (c ≡ y) → c < length (spots g) → (spot_at g c).home ≡ (spot_at g a).home
      → is_first cut c ≡ false
  arm_inside a t x y c la q (inl e) lc h =
      let o : OnlyFrom g a c = subst (λ z. OnlyFrom g a z) (sym e) (fit.apart a t x y q).first in
      let l : a < c = (let u : a < x = (fit.ahead a t x y q).0 in omega (arith, u, e)) in
      not_true (is_first cut c) (alone a t x y c la q o l (subst (λ z. Leads z c) (sym q) (inl e)) lc h)
  arm_inside a t x y c la q (inr e) lc h =
      let o : OnlyFrom g a c = subst (λ z. OnlyFrom g a z) (sym e) (fit.apart a t x y q).second in
      let l : a < c = (let u : a < y = (fit.ahead a t x y q).1 in omega (arith, u, e)) in
      not_true (is_first cut c) (alone a t x y c la q o l (subst (λ z. Leads z c) (sym q) (inr e)) lc h)
