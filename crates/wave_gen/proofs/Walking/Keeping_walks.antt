-- Drafts keep walks.
use Rattle.std.proofs.Common.{ℕ, zero, suc, ◌+◌, ◌-◌, ◌*◌, ◌≡◌, ◌<◌, ◌≤◌, Bool, true, false, List, [], ◌∷◌}
use Rattle.std.proofs.Common.{◌++◌, length, Option, Some, refl, sym, ap, ◌∙◌, subst, inl, inr, arith}
use Rattle.std.proofs.lemmas.Bool.{cond-true}
use Rattle.std.specs.List.{AllByRecursion}
use Rattle.ws_words.specs.Past.{ActsBegin}
use Rattle.ws_words.specs.Outside.{Act, Outside, ProcState, World}
use Rattle.ws_isa.specs.Image.{Image, Array, first_number, is_first, IsBlock}
use Rattle.ws_isa.specs.Walk.{opening_memory, mem, has_ended, CostAtMost, walk as instances}
use Rattle.ws_isa.proofs.Ending.{over_is_whole}
use Rattle.cfg_core.specs.Graph as graph
use Rattle.cfg_core.specs.Graph.{Graph, Spot, spots, spot_at, block_at, no_spot, no_proc, proc_at, entry_of}
use Rattle.cfg_core.specs.Rules.{IsGraph, ProcNumbers}
use Rattle.cfg_core.specs.Walk.{Config, At, Over, Going, Frame, leave, passed, step, walk, opening}
use Rattle.wave_gen.specs.Waits.{Code, RunPlace, count, places}
use Rattle.wave_gen.specs.Wire.{Made}
use Rattle.wave_gen.proofs.Planning.Planned.{PlansAre}
use Rattle.wave_gen.specs.Plans.{Plan, pulse, body_made, renew, plan_at, made_at, starts_at, begins, draft_of}
use Rattle.wave_gen.specs.Plans.{code_of}
use Rattle.wave_gen.proofs.Planning.DrawnPlans.{WalkFine}
use Rattle.wave_gen.specs.Keeps.{KeepsWalk}
use Rattle.wave_gen.proofs.Planning.IsDrawn.{IsDrawn}
use Rattle.wave_gen.specs.Lists.{ListsFit}
use Rattle.wave_gen.proofs.Drawing.ShortLists.{lists_fit}
use Rattle.wave_gen.proofs.Waits.Turns.{stands_end}
use Rattle.wave_gen.proofs.Waits.Fronts.{advances_count}
use Rattle.wave_gen.proofs.Drawing.Blocks.{made_is, begins_next}
use Rattle.wave_gen.proofs.Drawing.Starts.{first_is}
use Rattle.wave_gen.proofs.Drawing.Number.{number_is, is_block}
use Rattle.wave_gen.proofs.Walking.Growth.{fires_enough}
use Rattle.wave_gen.proofs.Walking.Paced.{ops_most, Leaves, exit_leaves, last_block}
use Rattle.wave_gen.proofs.Walking.OutOfTurns.{append_assoc, outside, front_run, exit_longer}
use Rattle.wave_gen.proofs.Waits.Passes.{forth, Same}
use Rattle.wave_gen.proofs.Drawing.Waiting.{waits}
use Rattle.wave_gen.proofs.Waits.WalkShape.{WalkShape}
use Rattle.wave_gen.proofs.Drawing.Shape.{shape}
use Rattle.wave_gen.proofs.Walking.Tied.{AtBlock, Tied, at_block, at_end, out_of_turns, next, block_step}
use Rattle.wave_gen.proofs.Walking.Tied.{next_place, begins_so, follows}
use Rattle.ws_words.specs.Items.{nth, or_else, In}

-- the entry of a procedure
spots_skip : (h v : ℕ) (bs : List graph.Block) (rest : List Spot) (i : ℕ)
    → nth (graph.spots_in h v bs ++ rest) (length bs + i) ≡ nth rest i
spots_skip h v [] rest i = let z : 0 + i ≡ i = omega arith in rw z refl
spots_skip h v (b ∷ bs) rest i = grind (arith, spots_skip h v bs rest i)

record EntryOf (first h : ℕ) (procs : List graph.GraphProc) (f : ℕ) : Type 0 where
  pub place : ℕ
  pub number : graph.entry_from first procs f ≡ first + place
  pub spot : Spot
  pub is : nth (graph.spots_from h procs) place ≡ Some spot
  pub vars : spot.vars ≡ (or_else (nth procs f) no_proc).vars

entry_first : (first h : ℕ) (p : graph.GraphProc) (procs : List graph.GraphProc) → 1 ≤ length p.blocks
    → EntryOf first h (p ∷ procs) zero
entry_first first h p procs l = go p.blocks refl l
  where
    go : (bs : List graph.Block) → p.blocks ≡ bs → 1 ≤ length bs → EntryOf first h (p ∷ procs) zero
    go [] e l = absurd (omega arith)
    go (b ∷ bs) e l =
        record {
          place = 0;
          number = omega arith;
          spot = record { home = h; vars = p.vars; block = b };
          is = rw e refl;
          vars = refl;
        }

entry_is : (first h : ℕ) (procs : List graph.GraphProc) (f : ℕ) → AllByRecursion ProcNumbers procs
    → f < length procs → EntryOf first h procs f
entry_is first h (p ∷ procs) (suc f) a l =
    let r = entry_is (first + length p.blocks) (suc h) procs f a.1 (omega arith) in
    let n : graph.entry_from (first + length p.blocks) procs f ≡ first + length p.blocks + r.place =
    r.number in
    record {
      place = length p.blocks + r.place;
      number = omega arith;
      spot = r.spot;
      is = spots_skip h p.vars p.blocks (graph.spots_from (suc h) procs) r.place ∙ r.is;
      vars = r.vars;
    }
entry_is first h procs f a l = grind (arith, entry_first)

nth_low : (xs : List Spot) (i : ℕ) (s : Spot) → nth xs i ≡ Some s → i < length xs
nth_low (x ∷ xs) (suc i) s e = let l : i < length xs = nth_low xs i s e in omega arith
nth_low xs i s e = grind arith

pub main_entry : (g : Graph) → IsGraph g → (entry_of g (length g.procs - 1) < length (spots g))
    × ((spot_at g (entry_of g (length g.procs - 1))).vars ≡ (proc_at g (length g.procs - 1)).vars)
unfolding entry_of spot_at proc_at
main_entry g r =
    let e = entry_is 0 0 g.procs (length g.procs - 1) r.numbers.procs
    (grind arith) in
    let n : graph.entry_from 0 g.procs (length g.procs - 1) ≡ 0 + e.place = e.number in
    let z : graph.entry_from 0 g.procs (length g.procs - 1) ≡ e.place = omega arith in (
      rw z (nth_low (graph.spots_from 0 g.procs) e.place e.spot e.is),
      ap (λ (s : Option Spot). (or_else s no_spot).vars) (ap (nth (graph.spots_from 0 g.procs)) z ∙ e.is)
          ∙ e.vars,
    )

-- a first block has an instruction
first_line : (arrays : List Array) (width : ℕ) (ps : List Plan) (Live : ℕ → ℕ → Type 0)
    (plans : PlansAre ps width Live) (b : ℕ) → (1 ≤ b) × (b ≤ length ps) → (plan_at ps b).first ≡ true
    → first_number (draft_of arrays width ps) b < first_number (draft_of arrays width ps) (suc b)
first_line arrays width ps Live plans b h f =
    let s : 1 ≤ length (plan_at ps b).entries = some_entry (plan_at ps b).entries pulse
    ((plans.each b h).entries f pulse (plans.each b h).pulse_live) in
    let core = renew b (plan_at ps b).entries (body_made width (starts_at width ps) b (plan_at ps b)) in
    let m : length (made_at width ps b).code ≡ length (plan_at ps b).entries + length core.code =
    ap (λ (x : Made). length x.code) (made_is width ps b h (plans.each b h).edges
    ∙ cond-true (plan_at ps b).first _ _ f) ∙ advances_count b (plan_at ps b).entries core in
    let n : begins width ps (suc b) ≡ begins width ps b + length (made_at width ps b).code =
    begins_next width ps b h in
    let y : first_number (draft_of arrays width ps) b ≡ begins width ps b = number_is arrays width ps b in
    let w : first_number (draft_of arrays width ps) (suc b) ≡ begins width ps (suc b) =
    number_is arrays width ps (suc b) in
    omega (arith, s, m, n, y, w)
  where
    some_entry : (xs : List ℕ) (x : ℕ) → In x xs → 1 ≤ length xs
    some_entry [] x i = absurd i
    some_entry (y ∷ xs) x i = omega arith

module _ (g : Graph) (arrays : List Array) (width : ℕ) (ps : List Plan) (live : ℕ → ℕ → Bool) (place : ℕ → ℕ)
    (zeroed : ℕ → List ℕ) (d : IsDrawn g arrays width ps live place zeroed) where
  abbrev I : Image
  I = draft_of arrays width ps

  abbrev C : Code
  C = code_of width ps

  pub draft_shape : WalkShape I
  draft_shape = shape arrays width ps (λ b x. live b x ≡ true) d.plans

  pub draft_lists : ListsFit I
  draft_lists = lists_fit arrays width ps (λ b x. live b x ≡ true) d.plans

  -- a first block fires the advance of the pulse
  busy : (b : ℕ) → IsBlock I b → is_first I b ≡ true → 1 ≤ count ((code_of width ps).steps b)
  unfolding code_of
  busy b hb f =
      let h = is_block arrays width ps b hb in
      let w = waits arrays width ps (λ b x. live b x ≡ true) d.plans in
      let e : first_number I b + count ((code_of width ps).steps b) ≡ first_number I (suc b) =
      stands_end I b (C.Kept b) (first_number I b) (C.steps b) (C.ends b) (w.stands b hb) in
      let i = first_line arrays width ps (λ b x. live b x ≡ true) d.plans b h
      (sym (first_is arrays width ps (λ b x. live b x ≡ true) d.plans b h) ∙ f) in
      let l : first_number I b < first_number I (suc b) = i in
      omega (arith, e, l)

  module _ (world : World) (turns : ℕ) (fine : WalkFine g (opening g world turns)) where
    abbrev S : ℕ → RunPlace
    S m = places I C (opening_memory I world) m

    ties : (m : ℕ) → Tied arrays width ps (λ b x. live b x ≡ true) d.plans g d.rules place zeroed d.drawn
        (S m) (walk g m (opening g world turns))
    ties m =
        let e = main_entry g d.rules in
        let b = begins_so arrays width ps (λ b x. live b x ≡ true) d.plans g d.rules place zeroed d.drawn
        world turns d.cells e.0 e.1 in
        let f = follows arrays width ps (λ b x. live b x ≡ true) d.plans g d.rules place zeroed d.drawn m
        (S 0) (opening g world turns) b fine in
        subst (λ (p : RunPlace). Tied arrays width ps (λ b x. live b x ≡ true) d.plans g d.rules place zeroed
        d.drawn p (walk g m (opening g world turns)))
        (next_place arrays width ps (λ b x. live b x ≡ true) d.plans g d.rules place zeroed d.drawn
        (opening_memory I world) 0 m ∙ ap S (let z : 0 + m ≡ m = omega arith in z)) f

    timed : (j : ℕ) → (t : ℕ) × Same I world C (shape arrays width ps (λ b x. live b x ≡ true) d.plans)
        (waits arrays width ps (λ b x. live b x ≡ true) d.plans) j t
    timed j = forth I world C (shape arrays width ps (λ b x. live b x ≡ true) d.plans)
        (waits arrays width ps (λ b x. live b x ≡ true) d.plans) j

    end_case : (p : RunPlace) (c : Config) → Tied arrays width ps (λ b x. live b x ≡ true) d.plans g d.rules
        place zeroed d.drawn p c → (o : Outside) (left : ℕ) → c ≡ Over o left → (p.over ≡ true) × (p.out ≡ o)
    end_case p c (at_block b st k a) o left e = absurd (let z : At b st [] k ≡ Over o left = e in cc)
    end_case p c (at_end o' k x y) o left e = grind arith
    end_case p c (out_of_turns o') o left e = absurd (let z : Going o' ≡ Over o left = e in cc)

    block_case : (p : RunPlace) (c : Config) → Tied arrays width ps (λ b x. live b x ≡ true) d.plans g d.rules
        place zeroed d.drawn p c → (b : ℕ) (st : ProcState) (frames : List Frame) (left : ℕ)
        → c ≡ At b st frames left → (p.over ≡ false) × (p.out ≡ st.out)
    block_case p c (at_block b' st' k a) b st frames left e = grind arith
    block_case p c (at_end o' k x y) b st frames left e = grind arith
    block_case p c (out_of_turns o') b st frames left e = grind arith

    ended : (m : ℕ) (o : Outside) (left : ℕ) → walk g m (opening g world turns) ≡ Over o left →
        (t : ℕ) × (has_ended I world t ≡ true) × (mem I world t ≡ o) × CostAtMost I world
        (length (instances I world t))
    unfolding has_ended mem
    ended m o left e =
        let q = end_case (S m) (walk g m (opening g world turns)) (ties m) o left e in
        let t = timed m in
        (t.0, t.1.over ∙ q.0, t.1.out ∙ q.1, over_is_whole I world t.0 (t.1.over ∙ q.0))

    going_on : (m b : ℕ) (st : ProcState) (frames : List Frame) (left : ℕ)
        → walk g m (opening g world turns) ≡ At b st frames left →
        (t : ℕ) × (has_ended I world t ≡ false) × (mem I world t ≡ st.out)
        × (m < length I.blocks * suc (length (instances I world t)))
    unfolding has_ended mem
    going_on m b st frames left e =
        let q = block_case (S m) (walk g m (opening g world turns)) (ties m) b st frames left e in
        let t = timed m in
        let f : m < length I.blocks * suc (S m).fired = fires_enough I C draft_shape busy
        (opening_memory I world) m q.0 in
        let w : length I.blocks * suc (S m).fired ≡ length I.blocks * suc (length (instances I world t.0)) =
        ap (λ (n : ℕ). length I.blocks * suc n) (sym t.1.cost) in
        (t.0, t.1.over ∙ q.0, t.1.out ∙ q.1, omega (arith, f, w))

    -- what the walk has done before it is out of turns
    tied_block : (p : RunPlace) (c : Config) → Tied arrays width ps (λ b x. live b x ≡ true) d.plans g d.rules
        place zeroed d.drawn p c → (b : ℕ) (st : ProcState) (frames : List Frame) (left : ℕ)
        → c ≡ At b st frames left → AtBlock arrays width ps (λ b x. live b x ≡ true) d.plans g d.rules place
        zeroed d.drawn b st p
    tied_block p c (at_block b' st' k a) b st frames left e = grind arith
    tied_block p c (at_end o' k x y) b st frames left e = grind arith
    tied_block p c (out_of_turns o') b st frames left e = grind arith

    left_out : (p : RunPlace) (c : Config) (k : ℕ) → Tied arrays width ps (λ b x. live b x ≡ true) d.plans g
        d.rules place zeroed d.drawn p c → Leaves c k → p.out ≡ outside c
    left_out p c k t (inl (b, st, frames, e)) = (block_case p c t b st frames k e).1 ∙ ap outside (sym e)
    left_out p c k t (inr (o, e)) = (end_case p c t o k e).1 ∙ ap outside (sym e)

    stopped : (m : ℕ) (o : Outside) → walk g m (opening g world turns) ≡ Going o
        → (t : ℕ) × ActsBegin o.acts (mem I world t).acts
    unfolding mem
    stopped m o e =
        let l = last_block g m (entry_of g (length g.procs - 1)) _ [] turns o e in
        let n = ops_most (block_at g l.block).ops in
        let r = front_run (block_at g l.block).ops l.state l.left n o l.out (omega arith) in
        let k = leave g (block_at g l.block).exit r.state [] r.left in
        let to : step g (At l.block l.state [] n) ≡ k = ap (λ z. passed g z (block_at g l.block).exit [])
        r.done in
        let s = block_step arrays width ps (λ b x. live b x ≡ true) d.plans g d.rules place zeroed d.drawn
        l.block l.state (S l.place)
        (tied_block (S l.place) (walk g l.place (opening g world turns)) (ties l.place) l.block l.state
        l.frames l.left l.at)
        (fine l.place l.block l.state l.frames l.left l.at) n in
        let q = left_out (next arrays width ps (λ b x. live b x ≡ true) d.plans g d.rules place zeroed d.drawn
        (S l.place)) k r.left
        (subst (Tied arrays width ps (λ b x. live b x ≡ true) d.plans g d.rules place zeroed d.drawn
        (next arrays width ps (λ b x. live b x ≡ true) d.plans g d.rules place zeroed d.drawn
        (S l.place))) to s)
        (exit_leaves g (block_at g l.block).exit r.state [] r.left) in
        let t = timed (suc l.place) in
        let y = exit_longer g (block_at g l.block).exit r.state [] r.left in
        let w = r.longer in (
          t.0,
          (
            w.0 ++ y.0,
            ap (λ (z : Outside). z.acts) (t.1.out ∙ q)
                ∙ y.1 ∙ ap (λ (z : List Act). z ++ y.0) w.1 ∙ append_assoc o.acts w.0 y.0,
          ),
        )

    pub keeps_walk : KeepsWalk g I world turns
    keeps_walk = record { ends = ended; goes_on = going_on; out_of_turns = stopped }
