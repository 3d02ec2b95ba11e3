-- Each edge of a lowered block leads on to a later block or back to one that tests in a turn, and enters a
-- block with a label from the block of that label alone.
use Rattle.std.proofs.Common.{ℕ, suc, ◌+◌, ◌≡◌, ◌≢◌, ◌<◌, ◌⊎◌, true, List, [], ◌++◌, Option, Some, None, ap}
use Rattle.std.proofs.Common.{subst, arith}
use Rattle.std.specs.List.{AllByRecursion}
use Rattle.seq_run.specs.Resolved.{Action, Do, Call, If, While, Steps, Nothing, Then}
use Rattle.cfg_core.specs.Graph as graph
use Rattle.cfg_core.specs.Graph.{Term, Goto, Branch, Block, Graph, Spot}
use Rattle.cfg_core.specs.Rules.{Leads, calls, has_tick}
use Rattle.cfg_build.specs.Lowered.{op, BlockRest, leaves, goes_to, last_part, begun, block, Made, led_by}
use Rattle.cfg_build.specs.Lowered.{whole, made}
use Rattle.cfg_core.specs.Shape.{is_branch, TestsInATurn}
use Rattle.cfg_build.specs.Keeps.{IsFirstOp, IsFirstExit}
use Rattle.cfg_build.proofs.Stand.{HasAt, front, next_at, length_made}
use Rattle.cfg_build.proofs.Places.{Each, each_both}
use Rattle.cfg_build.proofs.Labels.{labels, label_in, LabelsAt, first_label, labels_front, labels_back}

pub first_op : (a : Action) → IsFirstOp (op a)
first_op a = grind arith

-- in this graph, whose blocks have these labels
module _ (g : Graph) (all : List (Option ℕ)) where
  pub record Fine (b : ℕ) (x : Block) : Type 0 where
    pub on : (d : ℕ) → Leads x.exit d → (b < d) ⊎ ((x.exit ≡ Goto d) × TestsInATurn g d)
    pub kept : (d : ℕ) → Leads x.exit d → (label_in all d ≡ None) ⊎ (label_in all d ≡ Some b)
    pub apart : (t : Term) (c d : ℕ) → x.exit ≡ Branch t c d → (c ≢ d) × (label_in all c ≡ Some b)
        × (label_in all d ≡ Some b)
    pub ops : AllByRecursion IsFirstOp x.ops
    pub exit : IsFirstExit x.exit
    pub named : x.named ≡ []
    pub ticks : calls x.exit ≡ true → has_tick x.ops ≡ true

  abbrev pub FineAll : ℕ → List Block → Type 0
  FineAll b xs = Each Fine b xs

  goes_on : (b c : ℕ) → b < c → label_in all c ≡ None → Fine b (block (goes_to c))
  goes_on b c lt h = grind (arith, label_in)

  goes_back : (b c : ℕ) → TestsInATurn g c → label_in all c ≡ None → Fine b (block (goes_to c))
  goes_back b c head h = grind (arith, label_in)

  tests : (t : Term) (b c d : ℕ) → b < c → c < d → label_in all c ≡ Some b → label_in all d ≡ Some b
      → Fine b (block (leaves (Branch t c d)))
  tests t b c d lt lu h i = grind (arith, label_in)

  calls_on : (x : Option ℕ) (f : ℕ) (ts : List Term) (b : ℕ) → label_in all (suc b) ≡ None
      → Fine b (block (leaves (graph.Call x f ts (suc b))))
  calls_on x f ts b h = grind (arith, label_in)

  pub last_fine : (r : Option Term) (b : ℕ) → Fine b (block (last_part r))
  last_fine r b = grind arith

  led_fine : (b : ℕ) (a : Action) (m : Made) → FineAll b (whole m) → FineAll b (whole (led_by (op a) m))
  led_fine b a m h = grind (arith, first_op)

  then_blocks : (st : Steps) (c : ℕ) (rest : BlockRest) (ys : List Block) → FineAll c (whole (made st c rest))
      → FineAll (suc (c + begun st)) ys → FineAll c (whole (made st c rest) ++ ys)
  then_blocks st c rest ys h i = grind (arith, each_both, length_made)

  -- the blocks of steps, of which the last one ends with `rest`
  pub made_fine : (home vars : ℕ) (st : Steps) (c : ℕ) (l : Option ℕ) (rest : BlockRest)
      → HasAt g home vars (suc c) (made st c rest).blocks → LabelsAt all c (labels st c l)
      → Fine (c + begun st) (block rest) → FineAll c (whole (made st c rest))
  made_fine home vars Nothing c l rest h i f = grind arith
  made_fine home vars (Then (Do a) more) c l rest h i f = led_fine c a (made more c rest)
      (made_fine home vars more c l rest h i f)
  made_fine home vars (Then (Call x p ts) more) c l rest h i f =
      let e : c + suc (begun more) ≡ suc c + begun more = omega arith in (
        calls_on x p ts c (first_label all more (suc c) None i.2),
        made_fine home vars more (suc c) None rest h.2 i.2 (subst (λ n. Fine n (block rest)) e f),
      )
  made_fine home vars (Then (If t a b) more) c l rest h i f =
      let second = suc (suc c + begun a) in let join = suc (second + begun b) in
      let wb = whole (made b second (goes_to join)) in let wm = whole (made more join rest) in
      let lb = labels b second (Some c) in let lm = labels more join None in
      let hb : HasAt g home vars second (wb ++ wm) = next_at g home vars a (suc c) (goes_to join) (wb ++ wm)
      h in
      let hm : HasAt g home vars join wm = next_at g home vars b second (goes_to join) wm hb in
      let ia : LabelsAt all (suc c) (labels a (suc c) (Some c)) = labels_front all a (suc c) (Some c)
      (lb ++ lm) i.2 in
      let ibm : LabelsAt all second (lb ++ lm) = labels_back all a (suc c) (Some c) (lb ++ lm) i.2 in
      let ib : LabelsAt all second lb = labels_front all b second (Some c) lm ibm in
      let im : LabelsAt all join lm = labels_back all b second (Some c) lm ibm in
      let at_join : label_in all join ≡ None = first_label all more join None im in
      let e : c + suc (begun a + suc (begun b + suc (begun more))) ≡ join + begun more = omega arith in (
        tests t c (suc c) second (omega arith) (omega arith) (first_label all a (suc c) (Some c) ia)
            (first_label all b second (Some c) ib),
        then_blocks a (suc c) (goes_to join) (wb ++ wm) (made_fine home vars a (suc c) (Some c) (goes_to
            join) (front g home vars (suc c) (whole (made a (suc c) (goes_to join))) (wb ++ wm) h).2 ia
            (goes_on (suc c + begun a) join (omega arith) at_join)) (then_blocks b second (goes_to join)
            wm (made_fine home vars b second (Some c) (goes_to join) (front g home vars second wb wm hb).2
            ib (goes_on (second + begun b) join (omega arith) at_join)) (made_fine home vars more join
            None rest hm.2 im (subst (λ n. Fine n (block rest)) e f))),
      )
  made_fine home vars (Then (While t body) more) c l rest h i f =
      let inside = suc (suc c) in let after = suc (inside + begun body) in
      let wb = whole (made body inside (goes_to (suc c))) in let wm = whole (made more after rest) in
      let lb = labels body inside (Some (suc c)) in let lm = labels more after (Some (suc c)) in
      let hm : HasAt g home vars after wm = next_at g home vars body inside (goes_to (suc c)) wm h.2 in
      let ib : LabelsAt all inside lb = labels_front all body inside (Some (suc c)) lm i.2.2 in
      let im : LabelsAt all after lm = labels_back all body inside (Some (suc c)) lm i.2.2 in
      let e : c + suc (suc (begun body + suc (begun more))) ≡ after + begun more = omega arith in
      let head : TestsInATurn g (suc c) = record {
        ticks = ap (λ (s : Spot). has_tick s.block.ops) h.1;
        tests = ap (λ (s : Spot). is_branch s.block.exit) h.1;
      } in (
        goes_on c (suc c) (omega arith) i.2.1,
        (
          tests t (suc c) inside after (omega arith) (omega arith)
              (first_label all body inside (Some (suc c)) ib) (first_label all more after (Some (suc c)) im),
          then_blocks body inside (goes_to (suc c)) wm
              (made_fine home vars body inside (Some (suc c)) (goes_to (suc c))
              (front g home vars inside wb wm h.2).2 ib
              (goes_back (inside + begun body) (suc c) head i.2.1))
              (made_fine home vars more after (Some (suc c)) rest hm.2 im
              (subst (λ n. Fine n (block rest)) e f)),
        ),
      )
