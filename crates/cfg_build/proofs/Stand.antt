-- Where the blocks of a lowered graph stand, and what holds of each of them.
use Rattle.std.proofs.Common.{ℕ, suc, ◌+◌, ◌≡◌, ◌<◌, List, [], ◌∷◌, ◌++◌, length, refl, sym, ap, subst, arith}
use Rattle.std.proofs.lemmas.List.{length-append}
use Rattle.seq_run.specs.Resolved.{Do, Call, If, While, Steps, Nothing, Then, Proc, nth_proc, ResolvedProgram}
use Rattle.cfg_core.specs.Graph.{Block, Graph, Spot, spots, spots_in, spots_from, spot_at, proc_at}
use Rattle.cfg_core.specs.Graph.{entry_from, entry_of, no_spot, no_proc}
use Rattle.cfg_build.specs.Lowered.{BlockRest, goes_to, begun, whole, made, proc, procs, proc_blocks}
use Rattle.cfg_build.specs.Lowered.{last_part, lowered}
use Rattle.cfg_build.proofs.Places.{StandAt, stand_all, stand_front, stand_back, Each, each_both}
use Rattle.cfg_core.proofs.Weighing.{count_in as count_spots}
use Rattle.cfg_core.proofs.Spots.{spots_in_both as spots_both}
use Rattle.ws_words.specs.Items.{nth, or_else}

-- how many blocks stand after the first one
pub length_made : (st : Steps) (c : ℕ) (rest : BlockRest) → length (made st c rest).blocks ≡ begun st
length_made Nothing c rest = refl
length_made (Then (Do a) more) c rest = length_made more c rest
length_made (Then (Call x f ts) more) c rest = ap suc (length_made more (suc c) rest)
length_made (Then (If t a b) more) c rest =
    let second = suc (suc c + begun a) in let join = suc (second + begun b) in
    let xs = (made a (suc c) (goes_to join)).blocks in let ys = (made b second (goes_to join)).blocks in
    let zs = whole (made more join rest) in
    omega (
      arith,
      length-append xs (whole (made b second (goes_to join)) ++ zs),
      length-append ys zs,
      length_made a (suc c) (goes_to join),
      length_made b second (goes_to join),
      length_made more join rest,
    )
length_made (Then (While t body) more) c rest =
    let inside = suc (suc c) in let after = suc (inside + begun body) in
    omega (
      arith,
      length-append (made body inside (goes_to (suc c))).blocks (whole (made more after rest)),
      length_made body inside (goes_to (suc c)),
      length_made more after rest,
    )

-- where the blocks of a procedure end
pub proc_end : (p : Proc) (c : ℕ) → c + length (proc_blocks p c) ≡ suc (c + begun p.body)
proc_end p c = omega (arith, length_made p.body c (last_part p.result))

-- the blocks of these procedures, of which the first has this number and begins at this block
abbrev pub proc_spots : ℕ → List Proc → ℕ → List Spot
proc_spots home ps c = spots_from home (procs ps c)

module _ (g : Graph) where
  -- these spots are those of the graph from this block on
  abbrev pub SpotsAt : ℕ → List Spot → Type 0
  SpotsAt b ss = StandAt (spot_at g) (length (spots g)) b ss

  -- these blocks stand in the graph from block b on, in the procedure with this number and so many variables
  abbrev pub HasAt : ℕ → ℕ → ℕ → List Block → Type 0
  HasAt home vars b xs = SpotsAt b (spots_in home vars xs)

  apart : (home vars b : ℕ) (xs ys : List Block) → HasAt home vars b (xs ++ ys)
      → SpotsAt b (spots_in home vars xs ++ spots_in home vars ys)
  apart home vars b xs ys h = subst (λ ss. SpotsAt b ss) (spots_both home vars xs ys) h

  pub front : (home vars b : ℕ) (xs ys : List Block) → HasAt home vars b (xs ++ ys) → HasAt home vars b xs
  front home vars b xs ys h = grind (arith, stand_front, apart)

  -- after the blocks of steps stand those of what follows
  pub next_at : (home vars : ℕ) (st : Steps) (c : ℕ) (rest : BlockRest) (ys : List Block)
      → HasAt home vars c (whole (made st c rest) ++ ys) → HasAt home vars (suc (c + begun st)) ys
  next_at home vars st c rest ys h = grind (arith, stand_back, count_spots, length_made st c rest, apart)

  module _ (home : ℕ) (p : Proc) (ps : List Proc) (c : ℕ) (at : SpotsAt c (proc_spots home (p ∷ ps) c)) where
    pub proc_at_front : HasAt home (p.params + p.locals) c (proc_blocks p c)
    proc_at_front = grind (arith, stand_front)

    pub procs_after : SpotsAt (suc (c + begun p.body)) (proc_spots (suc home) ps (suc (c + begun p.body)))
    procs_after =
        grind (arith, stand_back, count_spots home (p.params + p.locals) (proc_blocks p c), proc_end p c)

  proc_blocks_at : (home : ℕ) (ps : List Proc) (c : ℕ) → SpotsAt c (proc_spots home ps c) → (i n : ℕ)
      → home + i ≡ n → i < length ps →
      let p = nth_proc ps i in let first = entry_from c (procs ps c) i in
      HasAt n (p.params + p.locals) first (proc_blocks p first)
  proc_blocks_at home (p ∷ ps) c at (suc i) n is lt =
      let next = suc (c + begun p.body) in let q = nth_proc ps i in
      subst (λ b. let first = entry_from b (procs ps next) i in HasAt n (q.params + q.locals) first
      (proc_blocks q first)) (sym (proc_end p c))
      (proc_blocks_at (suc home) ps next (procs_after home p ps c at) i n (omega (arith, is)) (omega arith))
  proc_blocks_at home ps c at i n is lt = grind (arith, proc_at_front)

pub all_spots_at : (program : ResolvedProgram) → SpotsAt (lowered program) 0 (proc_spots 0 program.procs 0)
unfolding spot_at
all_spots_at program = stand_all (spots (lowered program)) no_spot

pub has_blocks : (program : ResolvedProgram) (n : ℕ) → n < length program.procs → let p =
    nth_proc program.procs n in
    HasAt (lowered program) n (p.params + p.locals) (entry_of (lowered program) n)
    (proc_blocks p (entry_of (lowered program) n))
unfolding entry_of
has_blocks program n lt = let same : 0 + n ≡ n = omega arith in proc_blocks_at (lowered program) 0
    program.procs 0 (all_spots_at program) n n same lt

proc_from : (ps : List Proc) (c n : ℕ) → n < length ps → or_else (nth (procs ps c) n) no_proc
    ≡ proc (nth_proc ps n) (entry_from c (procs ps c) n)
proc_from (p ∷ ps) c (suc n) lt =
    let next = suc (c + begun p.body) in
    subst (λ (b : ℕ). or_else (nth (procs ps next) n) no_proc ≡ proc (nth_proc ps n)
    (entry_from b (procs ps next) n)) (sym (proc_end p c)) (proc_from ps next n (omega arith))
proc_from ps c n lt = grind arith

-- the procedure with this number
pub proc_is : (program : ResolvedProgram) (n : ℕ) → n < length program.procs
    → proc_at (lowered program) n ≡ proc (nth_proc program.procs n) (entry_of (lowered program) n)
unfolding proc_at entry_of
proc_is program n lt = proc_from program.procs 0 n lt

-- as many procedures as the program has
pub count_procs : (ps : List Proc) (c : ℕ) → length (procs ps c) ≡ length ps
count_procs [] c = refl
count_procs (p ∷ ps) c = ap suc (count_procs ps (suc (c + begun p.body)))

-- what holds of each numbered block holds of each spot
pub each_spot : (P : ℕ → Block → Type 0) (home vars b : ℕ) (xs : List Block) → Each P b xs
    → Each (λ n s. P n s.block) b (spots_in home vars xs)
each_spot P home vars b [] h = tt
each_spot P home vars b (x ∷ xs) h = (h.0, each_spot P home vars (suc b) xs h.1)

-- what holds of the blocks of a procedure and of those after it
pub then_procs : (P : ℕ → Block → Type 0) (home : ℕ) (p : Proc) (ps : List Proc) (c : ℕ)
    → Each P c (proc_blocks p c) → Each (λ n s. P n s.block) (suc (c + begun p.body))
    (proc_spots (suc home) ps (suc (c + begun p.body))) → Each (λ n s. P n s.block) c
    (proc_spots home (p ∷ ps) c)
then_procs P home p ps c h i = grind (arith, each_both, count_spots, proc_end, each_spot)
