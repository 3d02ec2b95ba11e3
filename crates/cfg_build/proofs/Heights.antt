-- A potential of the blocks of a program: 1, one more for each `if` around a block, and one less at a loop's
-- header. Two blocks are paid by each turn.
use Rattle.std.proofs.Common.{ℕ, zero, suc, ◌+◌, ◌-◌, ◌*◌, ◌≡◌, ◌<◌, ◌≤◌, List, [], ◌∷◌, ◌++◌, length, Option}
use Rattle.std.proofs.Common.{refl, sym, subst, arith}
use Rattle.std.specs.List.{sum_by}
use Rattle.std.proofs.lemmas.List.{length-append}
use Rattle.std.proofs.lemmas.List.Sums.{sum_by-cons}
use Rattle.seq_run.specs.Resolved.{Action, Do, Call, If, While, Steps, Nothing, Then, Proc, ResolvedProgram}
use Rattle.cfg_core.specs.Graph as graph
use Rattle.cfg_core.specs.Graph.{Tick, Exit, Branch, Block, Graph, Spot, no_spot, spots, spots_in, spot_at}
use Rattle.cfg_core.specs.Graph.{entry_from, entry_of}
use Rattle.cfg_core.specs.Weights.{turns_of, handed_on, TwoBlocksATurn}
use Rattle.cfg_build.specs.Lowered.{BlockRest, leaves, goes_to, last_part, ticked, op, begun, block, whole}
use Rattle.cfg_build.specs.Lowered.{made, proc_blocks, procs, lowered}
use Rattle.cfg_build.proofs.Places.{StandAt, stand_all, stand_front, stand_back}
use Rattle.cfg_build.proofs.Stand.{proc_end, proc_spots}
use Rattle.ws_words.specs.Items.{nth, or_else}

-- of the blocks of steps with so many `if`s around them
abbrev heights : Steps → ℕ → List ℕ
heights Nothing d = suc d ∷ []
heights (Then (Do a) more) d = heights more d
heights (Then (Call x f ts) more) d = suc d ∷ heights more d
heights (Then (If t a b) more) d = suc d ∷ heights a (suc d) ++ (heights b (suc d) ++ heights more d)
heights (Then (While t body) more) d = suc d ∷ d ∷ (heights body d ++ heights more d)

length_heights : (st : Steps) (d : ℕ) → length (heights st d) ≡ suc (begun st)
length_heights Nothing d = refl
length_heights (Then (Do a) more) d = length_heights more d
length_heights (Then (Call x f ts) more) d = omega (arith, length_heights more d)
length_heights (Then (If t a b) more) d =
    grind (arith, length-append, length_heights a (suc d), length_heights b (suc d), length_heights more d)
length_heights (Then (While t body) more) d =
    grind (arith, length-append, length_heights body d, length_heights more d)

abbrev all_heights : List Proc → List ℕ
all_heights [] = []
all_heights (p ∷ ps) = heights p.body 0 ++ all_heights ps

abbrev height_in : List ℕ → ℕ → ℕ
height_in all b = or_else (nth all b) 0

-- each block with its height
abbrev Both : {A : Type 0} → (ℕ → A → Type 0) → List ℕ → List A → Type 0
Both P [] [] = Unit {0}
Both P [] (x ∷ xs) = ⊥
Both P (h ∷ hs) [] = ⊥
Both P (h ∷ hs) (x ∷ xs) = P h x × Both P hs xs

both_more : {A : Type 0} (P : ℕ → A → Type 0) (hs ks : List ℕ) (xs ys : List A) → Both P hs xs → Both P ks ys
    → Both P (hs ++ ks) (xs ++ ys)
both_more P (n ∷ hs) ks (x ∷ xs) ys h i = (h.0, both_more P hs ks xs ys h.1 i)
both_more P hs ks xs ys h i = grind arith

both_at : {A : Type 0} (P : ℕ → A → Type 0) (none : A) (hs : List ℕ) (xs : List A) → Both P hs xs → (k : ℕ)
    → k < length xs → P (or_else (nth hs k) 0) (or_else (nth xs k) none)
both_at P none (n ∷ hs) (x ∷ xs) h (suc k) lt = both_at P none hs xs h.1 k (omega arith)
both_at P none hs xs h k lt = grind arith

both_spots : (P : ℕ → Block → Type 0) (home vars : ℕ) (hs : List ℕ) (xs : List Block) → Both P hs xs
    → Both (λ n (s : Spot). P n s.block) hs (spots_in home vars xs)
both_spots P home vars (n ∷ hs) (x ∷ xs) h = (h.0, both_spots P home vars hs xs h.1)
both_spots P home vars hs xs h = grind arith

-- in this graph, with these heights
module _ (g : Graph) (all : List ℕ) (entries : (f : ℕ) → height_in all (entry_of g f) ≤ 1) where
  abbrev Paid : ℕ → Block → Type 0
  Paid h x = 1 + handed_on g (height_in all) x.exit ≤ h + 2 * sum_by turns_of x.ops

  abbrev HeightsAt : ℕ → List ℕ → Type 0
  HeightsAt b hs = StandAt (height_in all) (length all) b hs

  first_height : (st : Steps) (c d : ℕ) → HeightsAt c (heights st d) → height_in all c ≡ suc d
  first_height (Then (Do a) more) c d h = first_height more c d h
  first_height st c d h = h.1

  heights_front : (st : Steps) (c d : ℕ) (hs : List ℕ) → HeightsAt c (heights st d ++ hs)
      → HeightsAt c (heights st d)
  heights_front st c d hs h = stand_front (height_in all) (length all) c (heights st d) hs h

  heights_back : (st : Steps) (c d : ℕ) (hs : List ℕ) → HeightsAt c (heights st d ++ hs)
      → HeightsAt (suc (c + begun st)) hs
  heights_back st c d hs h = grind (arith, stand_back, length_heights st d)

  -- a block goes on to one that is lower
  goes_on : (h c : ℕ) → height_in all c < h → Paid h (block (goes_to c))
  goes_on h c lt = omega arith

  -- an exit that takes a turn hands on at most one more
  in_turn : (h : ℕ) (exit : Exit) → handed_on g (height_in all) exit ≤ suc h → Paid h (block (leaves exit))
  in_turn h exit le = omega (arith, sum_by-cons turns_of (Tick 1) [], le)

  acts_more : (h : ℕ) (a : Action) (m : BlockRest) → Paid h (block m) → Paid h (block (ticked (op a) m))
  acts_more h a m paid =
      grind (arith, sum_by-cons turns_of (Tick 1) (op a ∷ m.ops), sum_by-cons turns_of (op a) m.ops)

  -- the blocks of steps, of which the last one ends with `rest`
  made_paid : (st : Steps) (c d : ℕ) (rest : BlockRest) → HeightsAt c (heights st d)
      → Paid (suc d) (block rest) → Both Paid (heights st d) (whole (made st c rest))
  made_paid Nothing c d rest h last = (last, tt)
  made_paid (Then (Do a) more) c d rest h last = first_more (heights more d) (made_paid more c d rest h last)
    where
      first_more : (hs : List ℕ) → Both Paid hs (whole (made more c rest))
          → Both Paid hs (whole (made (Then (Do a) more) c rest))
      first_more [] i = absurd i
      first_more (n ∷ hs) i = (acts_more n a (made more c rest).front i.0, i.1)
  made_paid (Then (Call x f ts) more) c d rest h last =
      grind (arith, in_turn, first_height, made_paid more (suc c) d rest h.2 last)
  made_paid (Then (If t a b) more) c d rest h last =
      let second = suc (suc c + begun a) in let join = suc (second + begun b) in
      let hb = heights b (suc d) in let hm = heights more d in
      let ia : HeightsAt (suc c) (heights a (suc d)) = heights_front a (suc c) (suc d) (hb ++ hm) h.2 in
      let ibm : HeightsAt second (hb ++ hm) = heights_back a (suc c) (suc d) (hb ++ hm) h.2 in
      let ib : HeightsAt second hb = heights_front b second (suc d) hm ibm in
      let im : HeightsAt join hm = heights_back b second (suc d) hm ibm in
      let low : height_in all join ≡ suc d = first_height more join d im in
      let on : Paid (suc (suc d)) (block (goes_to join)) = goes_on (suc (suc d)) join
      (omega (arith, low)) in (
        in_turn (suc d) (Branch t (suc c) second)
            (omega (arith, first_height a (suc c) (suc d) ia, first_height b second (suc d) ib)),
        both_more Paid (heights a (suc d)) (hb ++ hm) (whole (made a (suc c) (goes_to join))) _
            (made_paid a (suc c) (suc d) (goes_to join) ia on)
            (both_more Paid hb hm (whole (made b second (goes_to join))) (whole (made more join rest))
            (made_paid b second (suc d) (goes_to join) ib on) (made_paid more join d rest im last)),
      )
  made_paid (Then (While t body) more) c d rest h last =
      let inside = suc (suc c) in let after = suc (inside + begun body) in
      let hb = heights body d in let hm = heights more d in
      let ib : HeightsAt inside hb = heights_front body inside d hm h.2.2 in
      let im : HeightsAt after hm = heights_back body inside d hm h.2.2 in
      let on : Paid (suc d) (block (goes_to (suc c))) = goes_on (suc d) (suc c) (omega (arith, h.2.1)) in (
        on,
        (
          in_turn d (Branch t inside after)
              (omega (arith, first_height body inside d ib, first_height more after d im)),
          both_more Paid hb hm (whole (made body inside (goes_to (suc c)))) (whole (made more after rest))
              (made_paid body inside d (goes_to (suc c)) ib on) (made_paid more after d rest im last),
        ),
      )

  last_paid : (r : Option graph.Term) → Paid 1 (block (last_part r))
  last_paid r = grind (arith, in_turn)

  procs_paid : (home : ℕ) (ps : List Proc) (c : ℕ) → HeightsAt c (all_heights ps)
      → Both (λ n (s : Spot). Paid n s.block) (all_heights ps) (proc_spots home ps c)
  procs_paid home [] c h = tt
  procs_paid home (p ∷ ps) c h =
      let next = suc (c + begun p.body) in
      both_more (λ n (s : Spot). Paid n s.block) (heights p.body 0) (all_heights ps)
      (spots_in home (p.params + p.locals) (proc_blocks p c)) (proc_spots (suc home) ps next)
      (both_spots Paid home (p.params + p.locals) (heights p.body 0) (proc_blocks p c)
      (made_paid p.body c 0 (last_part p.result) (heights_front p.body c 0 (all_heights ps) h)
      (last_paid p.result)))
      (procs_paid (suc home) ps next (heights_back p.body c 0 (all_heights ps) h))

-- Procedures begin at height 1.

module _ (all : List ℕ) (low : height_in all 0 ≤ 1) where
  entries_low : (ps : List Proc) (c : ℕ) → StandAt (height_in all) (length all) c (all_heights ps) → (f : ℕ)
      → height_in all (entry_from c (procs ps c) f) ≤ 1
  entries_low [] c h f = low
  entries_low (p ∷ ps) c h zero = let e = first_height_of p.body c (stand_front (height_in all) (length all) c
      (heights p.body 0) (all_heights ps) h) in omega (arith, e)
    where
      first_height_of : (st : Steps) (c : ℕ) → StandAt (height_in all) (length all) c (heights st 0)
          → height_in all c ≡ 1
      first_height_of (Then (Do a) more) c h = first_height_of more c h
      first_height_of st c h = h.1
  entries_low (p ∷ ps) c h (suc f) =
      let next = suc (c + begun p.body) in
      subst (λ n. height_in all (entry_from n (procs ps next) f) ≤ 1) (sym (proc_end p c))
      (entries_low ps next (stand_back (height_in all) (length all) c next (heights p.body 0) (all_heights ps)
      (omega (arith, length_heights p.body 0)) h) f)

lowest : (ps : List Proc) → height_in (all_heights ps) 0 ≤ 1
lowest [] = omega arith
lowest (p ∷ ps) = first_of_steps p.body
  where
    first_of_steps : (st : Steps) → or_else (nth (heights st 0 ++ all_heights ps) 0) 0 ≤ 1
    first_of_steps (Then (Do a) more) = first_of_steps more
    first_of_steps st = omega arith

pub two_blocks_a_turn : (program : ResolvedProgram) → TwoBlocksATurn (lowered program)
unfolding spot_at entry_of
two_blocks_a_turn program =
    let g = lowered program in let all = all_heights program.procs in
    let entries : (f : ℕ) → height_in all (entry_of g f) ≤ 1 = entries_low all (lowest program.procs)
    program.procs 0 (stand_all all 0) in
    record {
      potential = height_in all;
      pays = λ b lt. both_at (λ n (s : Spot). Paid g all entries n s.block) no_spot all (spots g)
          (procs_paid g all entries 0 program.procs 0 (stand_all all 0)) b lt;
      begins = entries (length g.procs - 1);
    }
