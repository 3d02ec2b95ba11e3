-- Blocks of one procedure have as many variables, a procedure's first block is there and has them, and a
-- result changes no count of them.
use Rattle.std.proofs.Common.{ℕ, zero, suc, ◌+◌, ◌-◌, ◌≡◌, ◌<◌, ◌≤◌, List, [], ◌∷◌, ◌++◌, length, Option}
use Rattle.std.proofs.Common.{Some, None, refl, sym, ap, ◌∙◌, subst, inl, inr, arith}
use Rattle.std.proofs.Common.{append_assoc, length-append}
use Rattle.std.proofs.lemmas.Bool.{cases_lt}
use Rattle.std.proofs.lemmas.List.{length-set}
use Rattle.std.specs.List.{AllByRecursion}
use Rattle.cfg_core.specs.Graph.{Block, GraphProc, Graph, Spot, spots_in, spots_from, spots, no_spot, no_proc}
use Rattle.cfg_core.specs.Graph.{spot_at, proc_at, entry_from, entry_of}
use Rattle.cfg_core.specs.Rules.{ProcNumbers, IsGraph}
use Rattle.cfg_core.specs.Walk.{with_result}
use Rattle.cfg_core.proofs.Spots.{nth_right}
use Rattle.cfg_core.proofs.Weighing.{count_in as spots_count}
use Rattle.ws_words.specs.Items.{nth, or_else}
use Rattle.ws_words.proofs.Places.{nth_or, nth_append_left}

record HomeIs (f : ℕ) (ps : List GraphProc) (s : Spot) : Type 0 where
  pub place : ℕ
  pub home : s.home ≡ f + place
  pub there : place < length ps
  pub vars : s.vars ≡ (or_else (nth ps place) no_proc).vars

in_blocks : (home vars : ℕ) (xs : List Block) (i : ℕ) (s : Spot) → nth (spots_in home vars xs) i ≡ Some s
    → (s.home ≡ home) × (s.vars ≡ vars)
in_blocks home vars (x ∷ xs) (suc i) s e = in_blocks home vars xs i s e
in_blocks home vars xs i s e = grind arith

home_is : (f : ℕ) (ps : List GraphProc) (i : ℕ) (s : Spot) → nth (spots_from f ps) i ≡ Some s → HomeIs f ps s
home_is f [] i s e = absurd (cc)
home_is f (p ∷ ps) i s e = elim (cases_lt i (length (spots_in f p.vars p.blocks))) [
  | inl lt ↦ grind (arith, in_blocks, p.vars, p.blocks, nth_append_left)
  | inr ge ↦
      let n = length (spots_in f p.vars p.blocks) in
      let k = i - n in
      let r = home_is (suc f) ps k s
      (sym (nth_right (spots_in f p.vars p.blocks) (spots_from (suc f) ps) n k i refl (omega (arith, ge)))
      ∙ e) in
      record {
        place = suc r.place;
        home = omega (arith, r.home);
        there = omega (arith, r.there);
        vars = r.vars;
      }
]

-- the first block of a procedure is there, and has the procedure's variables
abbrev HasVars : ℕ → Option Spot → Type 0
HasVars v None = ⊥
HasVars v (Some s) = s.vars ≡ v

nth_after : (xs ys : List Spot) (k : ℕ) → nth (xs ++ ys) (length xs + k) ≡ nth ys k
nth_after [] ys k = ap (nth ys) (omega arith)
nth_after (x ∷ xs) ys k = grind (arith, nth_after xs ys k)

first_has : (home : ℕ) (p : GraphProc) (rest : List Spot) → 1 ≤ length p.blocks
    → HasVars p.vars (nth (spots_in home p.vars p.blocks ++ rest) 0)
first_has home p rest some = by_blocks p.blocks some
  where
    by_blocks : (bs : List Block) → 1 ≤ length bs → HasVars p.vars (nth (spots_in home p.vars bs ++ rest) 0)
    by_blocks [] h = absurd (omega arith)
    by_blocks (b ∷ bs) h = refl

entry_has : (home first : ℕ) (ps : List GraphProc) (before : List Spot) (f : ℕ) → length before ≡ first
    → AllByRecursion ProcNumbers ps → f < length ps → HasVars (or_else (nth ps f) no_proc).vars
    (nth (before ++ spots_from home ps) (entry_from first ps f))
entry_has home first [] before f e h lt = absurd (omega arith)
entry_has home first (p ∷ ps) before zero e h lt =
    let at : length before + 0 ≡ first = omega (arith, e) in grind (arith, p.vars, nth_after, first_has)
entry_has home first (p ∷ ps) before (suc f) e h lt =
    subst (λ (zs : List Spot). HasVars (or_else (nth ps f) no_proc).vars
    (nth zs (entry_from (first + length p.blocks) ps f)))
    (append_assoc before (spots_in home p.vars p.blocks) (spots_from (suc home) ps))
    (entry_has (suc home) (first + length p.blocks) ps (before ++ spots_in home p.vars p.blocks) f
    (length-append before (spots_in home p.vars p.blocks) ∙ ap (λ n. length before + n)
    (spots_count home p.vars p.blocks) ∙ ap (λ n. n + length p.blocks) e) h.1 (omega arith))

there_by : (v : ℕ) (xs : List Spot) (k : ℕ) → HasVars v (nth xs k) → (k < length xs)
    × ((or_else (nth xs k) no_spot).vars ≡ v)
there_by v (x ∷ xs) (suc k) h = let r = there_by v xs k h in (omega (arith, r.0), r.1)
there_by v xs k h = grind arith

pub result_count : (x : Option ℕ) (v : ℕ) (vars : List ℕ) → length (with_result x v vars) ≡ length vars
result_count None v vars = refl
result_count (Some x) v vars = length-set vars x v

module _ (g : Graph) (rules : IsGraph g) where
  -- how many variables a block's procedure has
  abbrev pub vars_at : ℕ → ℕ
  vars_at b = (spot_at g b).vars

  -- blocks of one procedure have as many variables
  pub same_vars : (b c : ℕ) → b < length (spots g) → c < length (spots g)
      → (spot_at g c).home ≡ (spot_at g b).home → vars_at c ≡ vars_at b
  unfolding spot_at
  same_vars b c lb lc e =
      let hb = home_is 0 g.procs b (spot_at g b) (nth_or (spots g) b no_spot lb) in
      let hc = home_is 0 g.procs c (spot_at g c) (nth_or (spots g) c no_spot lc) in grind (arith, g.procs)

  -- the first block of a procedure is there, and has its variables
  pub entry_there : (f : ℕ) → f < length g.procs → (entry_of g f < length (spots g))
      × (vars_at (entry_of g f) ≡ (proc_at g f).vars)
  unfolding spot_at proc_at entry_of
  entry_there f lt = there_by (or_else (nth g.procs f) no_proc).vars (spots g) (entry_from 0 g.procs f)
      (entry_has 0 0 g.procs [] f refl rules.numbers.procs lt)

  -- a procedure's parameters are among its variables
  pub params_at : (f : ℕ) → (proc_at g f).params ≤ (proc_at g f).vars
  unfolding proc_at no_proc
  params_at f = by_list g.procs f rules.numbers.procs
    where
      by_list : (ps : List GraphProc) (k : ℕ) → AllByRecursion ProcNumbers ps
          → (or_else (nth ps k) no_proc).params ≤ (or_else (nth ps k) no_proc).vars
      by_list (p ∷ ps) (suc k) i = by_list ps k i.1
      by_list ps k i = grind arith
