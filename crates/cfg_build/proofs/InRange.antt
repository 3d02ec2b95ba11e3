-- Each number in a lowered block names something of the graph.
use Rattle.std.proofs.Common.{ℕ, suc, ◌+◌, ◌≡◌, ◌<◌, List, [], ◌∷◌, ◌++◌, length, Option, refl, sym, subst}
use Rattle.std.proofs.Common.{ap, arith}
use Rattle.std.specs.List.{AllByRecursion}
use Rattle.seq_run.specs.Resolved.{Action, Do, Call, If, While, Steps, Nothing, Then, Proc, nth_proc}
use Rattle.seq_run.specs.InRange as source
use Rattle.seq_run.specs.InRange.{StepsIn}
use Rattle.cfg_core.specs.Graph as graph
use Rattle.cfg_core.specs.Graph.{Term, Block, Graph, Spot, proc_at}
use Rattle.cfg_core.specs.Rules.{TermIn, OpIn, StaysIn, ExitIn, CallsEarlier}
use Rattle.cfg_build.specs.Lowered.{op, BlockRest, leaves, goes_to, last_part, begun, block, Made, led_by}
use Rattle.cfg_build.specs.Lowered.{whole, made}
use Rattle.cfg_build.proofs.Stand.{HasAt, front, next_at}
use Rattle.ws_words.proofs.Lists.{all_append as all_both}

module _ (g : Graph) (arrays : ℕ) (same : length g.arrays ≡ arrays) where
  -- a term of the program names arrays and variables of the graph
  pub term_in : (vars : ℕ) (t : Term) → TermIn arrays vars t → TermIn (length g.arrays) vars t
  term_in vars t h = subst (λ n. TermIn n vars t) (sym same) h

  terms_in : (vars : ℕ) (ts : List Term) → AllByRecursion (TermIn arrays vars) ts
      → AllByRecursion (TermIn (length g.arrays) vars) ts
  terms_in vars ts h = subst (λ n. AllByRecursion (TermIn n vars) ts) (sym same) h

  op_in : (vars : ℕ) (a : Action) → source.ActionIn arrays vars a → OpIn (length g.arrays) vars (op a)
  op_in vars a h = grind (arith, term_in)

  -- of a block of the procedure with this number and so many variables
  pub record BlockIn (home vars : ℕ) (x : Block) : Type 0 where
    pub ops : AllByRecursion (OpIn (length g.arrays) vars) x.ops
    pub exit : ExitIn g home vars x.exit
    pub earlier : CallsEarlier home x.exit
    pub named : x.named ≡ []

  abbrev pub BlocksIn : ℕ → ℕ → List Block → Type 0
  BlocksIn home vars xs = AllByRecursion (BlockIn home vars) xs

  stays_in : (home vars b : ℕ) (x : Block) (xs : List Block) → HasAt g home vars b (x ∷ xs) → StaysIn g home b
  stays_in home vars b x xs h = (h.0, ap (λ (s : Spot). s.home) h.1)

  goes_in : (home vars b : ℕ) → StaysIn g home b → BlockIn home vars (block (goes_to b))
  goes_in home vars b h = record { ops = tt; exit = h; earlier = tt; named = refl }

  tests_in : (home vars : ℕ) (t : Term) (b c : ℕ) → TermIn arrays vars t → StaysIn g home b → StaysIn g home c
      → BlockIn home vars (block (leaves (graph.Branch t b c)))
  tests_in home vars t b c h i j = grind (arith, term_in)

  pub last_in : (home vars : ℕ) (r : Option Term) → source.ResultIn arrays vars r
      → BlockIn home vars (block (last_part r))
  last_in home vars r h = grind (arith, term_in)

  led_in : (home vars : ℕ) (a : Action) (m : Made) → source.ActionIn arrays vars a
      → BlocksIn home vars (whole m) → BlocksIn home vars (whole (led_by (op a) m))
  led_in home vars a m i h = grind (arith, op_in)

  -- where earlier procedures of the graph have the parameters that calls want
  module _ (home : ℕ) (ps : List Proc) (few : home < length g.procs) (params : (f : ℕ) → f < home
      → (proc_at g f).params ≡ (nth_proc ps f).params) where
    calls_in : (vars : ℕ) (x : Option ℕ) (f : ℕ) (ts : List Term) (b : ℕ)
        → source.StepIn arrays ps home vars (Call x f ts) → StaysIn g home b
        → BlockIn home vars (block (leaves (graph.Call x f ts b)))
    calls_in vars x f ts b h i = grind (arith, terms_in vars ts h.3)

    -- the blocks of steps, of which the last one ends with `rest`
    pub made_in : (vars : ℕ) (st : Steps) (c : ℕ) (rest : BlockRest) → StepsIn arrays ps home vars st
        → HasAt g home vars (suc c) (made st c rest).blocks → BlockIn home vars (block rest)
        → BlocksIn home vars (whole (made st c rest))
    made_in vars Nothing c rest i h r = (r, tt)
    made_in vars (Then (Do a) more) c rest i h r = grind (arith, led_in, made_in vars more c rest i.1 h r)
    made_in vars (Then (Call x f ts) more) c rest i h r =
        grind (arith, calls_in, stays_in, made_in vars more (suc c) rest i.1 h.2 r)
    made_in vars (Then (If t a b) more) c rest i h r =
        let second = suc (suc c + begun a) in let join = suc (second + begun b) in
        let ma = made a (suc c) (goes_to join) in let mb = made b second (goes_to join) in let mm =
        made more join rest in
        let hb : HasAt g home vars second (whole mb ++ whole mm) = next_at g home vars a (suc c)
        (goes_to join) (whole mb ++ whole mm) h in
        let hm : HasAt g home vars join (whole mm) = next_at g home vars b second (goes_to join) (whole mm)
        hb in
        let at_join : StaysIn g home join = stays_in home vars join (block mm.front) mm.blocks hm in (
          tests_in home vars t (suc c) second i.0.0 (stays_in home vars (suc c) (block ma.front)
              (ma.blocks ++ (whole mb ++ whole mm)) h) (stays_in home vars second (block mb.front)
              (mb.blocks ++ whole mm) hb),
          all_both (BlockIn home vars) (whole ma) (whole mb ++ whole mm) (made_in vars a (suc c) (goes_to
              join) i.0.1 (front g home vars (suc c) (whole ma) (whole mb ++ whole mm) h).2 (goes_in home
              vars join at_join)) (all_both (BlockIn home vars) (whole mb) (whole mm) (made_in vars b
              second (goes_to join) i.0.2 (front g home vars second (whole mb) (whole mm) hb).2 (goes_in
              home vars join at_join)) (made_in vars more join rest i.1 hm.2 r)),
        )
    made_in vars (Then (While t body) more) c rest i h r =
        let inside = suc (suc c) in let after = suc (inside + begun body) in
        let mb = made body inside (goes_to (suc c)) in let mm = made more after rest in
        let hm : HasAt g home vars after (whole mm) = next_at g home vars body inside (goes_to (suc c))
        (whole mm) h.2 in
        let at_head : StaysIn g home (suc c) = (h.0, ap (λ (s : Spot). s.home) h.1) in (
          goes_in home vars (suc c) at_head,
          (
            tests_in home vars t inside after i.0.0 (stays_in home vars inside (block mb.front)
                (mb.blocks ++ whole mm) h.2) (stays_in home vars after (block mm.front) mm.blocks hm),
            all_both (BlockIn home vars) (whole mb) (whole mm)
                (made_in vars body inside (goes_to (suc c)) i.0.1
                (front g home vars inside (whole mb) (whole mm) h.2).2
                (goes_in home vars (suc c) at_head))
                (made_in vars more after rest i.1 hm.2 r),
          ),
        )
