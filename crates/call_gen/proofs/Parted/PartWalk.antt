-- A closed part of a graph keeps its walk, block by block.
use Rattle.std.proofs.Common.{ℕ, zero, suc, ◌+◌, ◌-◌, ◌≡◌, ◌<◌, ◌≤◌, Bool, true, List, [], length, map, refl}
use Rattle.std.proofs.Common.{sym, ap, subst, inl, inr, Option, Some, arith}
use Rattle.std.specs.List.{AllByRecursion, sum_by}
use Rattle.std.proofs.lemmas.List.Sums.{sum_by-append}
use Rattle.ws_words.specs.Outside.{Outside, ProcState, World, zeros, opening_out}
use Rattle.cfg_core.specs.Graph.{Exit, Goto, Branch, Call, Return, Send, Stop, GraphProc, Graph, Spot, spots}
use Rattle.cfg_core.specs.Graph.{no_spot, no_proc, spot_at, block_at, proc_at, entry_of}
use Rattle.cfg_core.specs.Rules.{ExitIn, Leads, CallsEarlier, IsGraph}
use Rattle.cfg_core.specs.Edges.{Edge}
use Rattle.cfg_core.specs.Walk.{value_of, OpsOutcome, Frame, Config, At, Over, Going, returned, leave, passed}
use Rattle.cfg_core.specs.Walk.{step, walk, cells_of, opening, IsOver}
use Rattle.cfg_core.specs.Shown.{SameShown, SameWalks, SameArrays, AllInside}
use Rattle.cfg_core.specs.Weights.{block_left, path, WalksWeigh}
use Rattle.cfg_core.proofs.Paired as paired
use Rattle.cfg_core.proofs.Paired.{Match}
use Rattle.call_gen.specs.Keeps.{NoSend, HasNoSend}
use Rattle.call_gen.specs.Reached.{Enters}
use Rattle.call_gen.specs.Part.{before, part_proc, keeps, number, name, part}
use Rattle.call_gen.proofs.Parted.PartPlaces.{before_kept, part_at, part_spot, part_spots, Whole, spots_part}
use Rattle.call_gen.proofs.Parted.PartPlaces.{procs_count, Stands, proc_placed}
use Rattle.ws_words.specs.Items.{nth, or_else}
use Rattle.ws_words.proofs.Places.{nth_there, nth_short}
use Rattle.cfg_core.proofs.Spots.{each_at, numbers_at}

-- what is kept is there; with a block are kept where it leads to, what it calls, and its procedure's first
-- block
pub record Closed (g : Graph) (keep : ℕ → Bool) : Type 0 where
  pub there : (b : ℕ) → keep b ≡ true → b < length (spots g)
  pub main : keep (entry_of g (length g.procs - 1)) ≡ true
  pub edge : (b c : ℕ) → keep b ≡ true → Edge g b c → keep c ≡ true
  pub call : (b c : ℕ) → keep b ≡ true → Enters g (block_at g b).exit c → keep c ≡ true
  pub home : (b : ℕ) → keep b ≡ true → keep (entry_of g (spot_at g b).home) ≡ true

pub spot_is : (g : Graph) (b : ℕ) → b < length (spots g) → nth (spots g) b ≡ Some (spot_at g b)
unfolding spot_at
spot_is g b lt = grind (arith, nth_there (spots g) b lt)

pub spot_from : (g : Graph) (k : ℕ) (s : Spot) → nth (spots g) k ≡ Some s → spot_at g k ≡ s
unfolding spot_at
spot_from g k s e = ap (λ (o : Option Spot). or_else o no_spot) e

pub exit_in : (g : Graph) → IsGraph g → (b : ℕ) (x : Exit) → (block_at g b).exit ≡ x
    → ExitIn g (spot_at g b).home (spot_at g b).vars x
exit_in g rules b x e = grind (arith, numbers_at)

pub earlier_at : (g : Graph) → IsGraph g → (b : ℕ) → CallsEarlier (spot_at g b).home (block_at g b).exit
unfolding spot_at no_spot
earlier_at g rules b = grind (arith, each_at)

module _ (g : Graph) (keep : ℕ → Bool) (rules : IsGraph g) (C : Closed g keep) where
  abbrev pub h : Graph
  h = part g keep

  abbrev pub place : ℕ → ℕ
  place = before keep

  abbrev pub named : Exit → Exit
  named = name g keep

  whole : Whole keep named (keeps g keep) 0 0 g.procs
  unfolding entry_of
  whole = grind (arith, spot_from)

  -- the blocks, procedures and entries of the part
  pub spots_are : spots h ≡ part_spots keep named (number g keep) 0 (spots g)
  unfolding part
  spots_are = spots_part keep named (keeps g keep) 0 0 g.procs whole

  pub placed : (b : ℕ) → keep b ≡ true → nth (spots h) (place b) ≡ Some
      (part_spot keep named (number g keep) (spot_at g b))
  placed b k = grind (arith, spots_are, part_at, spot_is g b (C.there b k))

  pub block_there : (b : ℕ) → keep b ≡ true → place b < length (spots h)
  block_there b k = nth_short (spots h) (place b) _ (placed b k)

  pub block_is : (b : ℕ) → keep b ≡ true → spot_at h (place b) ≡ part_spot keep named (number g keep)
      (spot_at g b)
  block_is b k = spot_from h (place b) _ (placed b k)

  proc_stands : (f : ℕ) → f < length g.procs → keep (entry_of g f) ≡ true
      → Stands keep named (keeps g keep) h.procs (proc_at g f) (entry_of g f) 0 0 (number g keep f)
  unfolding part proc_at entry_of
  proc_stands f lt k =
      let z : f ≡ 0 + f = omega arith in
      proc_placed keep named (keeps g keep) 0 0 0 g.procs whole f (number g keep f) lt k
      (omega (arith, ap (number g keep) z))

  pub proc_is : (f : ℕ) → f < length g.procs → keep (entry_of g f) ≡ true
      → proc_at h (number g keep f) ≡ part_proc keep named (entry_of g f) (proc_at g f)
  unfolding proc_at
  proc_is f lt k = ap (λ (o : Option GraphProc). or_else o no_proc) (proc_stands f lt k).proc

  pub entry_is : (f : ℕ) → f < length g.procs → keep (entry_of g f) ≡ true
      → entry_of h (number g keep f) ≡ place (entry_of g f)
  unfolding entry_of
  entry_is f lt k = omega (arith, (proc_stands f lt k).entry)

  pub procs_are : length h.procs ≡ number g keep (length g.procs)
  unfolding part
  procs_are = grind (arith, procs_count, named, whole)

  abbrev main : ℕ
  main = length g.procs - 1

  pub main_there : main < length g.procs
  main_there = omega arith

  pub main_is : length h.procs - 1 ≡ number g keep main
  main_is = grind (arith, procs_are, before_kept (keeps g keep) main C.main)

  -- The walk.

  abbrev moved_frame : Frame → Frame
  moved_frame f = record { result = f.result; back = place f.back; vars = f.vars }

  abbrev moved_frames : List Frame → List Frame
  moved_frames frames = map moved_frame frames

  abbrev Waiting : List Frame → Type 0
  Waiting frames = AllByRecursion (λ f. keep f.back ≡ true) frames

  -- the same, but for the numbers of blocks
  abbrev Relates : Config → Config → Type 0
  Relates (At b s frames k) d = (keep b ≡ true) × Waiting frames
      × (d ≡ At (place b) s (moved_frames frames) k)
  Relates (Over o k) d = d ≡ Over o k
  Relates (Going o) d = d ≡ Going o

  module _ (no_send : HasNoSend g) where
    module _ (b : ℕ) (kept : keep b ≡ true) (frames : List Frame) (waiting : Waiting frames) where
      returns : (v : ℕ) (o : Outside) (fs : List Frame) (k : ℕ) → Waiting fs
          → Relates (returned v o fs k) (returned v o (moved_frames fs) k)
      returns v o fs k w = grind arith

      edge_is : (x : Exit) (c : ℕ) → (block_at g b).exit ≡ x → Leads x c → keep c ≡ true
      edge_is x c e l = C.edge b c kept (subst (λ (y : Exit). Leads y c) (sym e) l)

      leaves : (x : Exit) → (block_at g b).exit ≡ x → (s : ProcState) (k : ℕ)
          → Relates (leave g x s frames k) (leave h (named x) s (moved_frames frames) k)
      leaves (Goto c) e s k = (edge_is (Goto c) c e refl, waiting, refl)
      leaves (Branch t c d) e s k =
          grind (arith, edge_is (Branch t c d) d e (inr refl), edge_is (Branch t c d) c e (inl refl))
      leaves (Call r f ts back) e s k =
          let there : f < length g.procs = (exit_in g rules b (Call r f ts back) e).1 in
          let k_entry : keep (entry_of g f) ≡ true = C.call b (entry_of g f) kept (grind arith) in
          grind (arith, edge_is, entry_is, proc_is)
      leaves (Return t) e s k = returns (value_of t s).0 (value_of t s).1.out frames k waiting
      leaves (Send t ts ls) e s k = absurd (subst NoSend e (no_send b))
      leaves Stop e s k = refl

    passes : (b : ℕ) → keep b ≡ true → (frames : List Frame) → Waiting frames → (o : OpsOutcome)
        → Relates (passed g o (block_at g b).exit frames)
        (passed h o (named (block_at g b).exit) (moved_frames frames))
    passes b kept frames waiting o = grind (arith, leaves)

    steps : (c d : Config) → Relates c d → Relates (step g c) (step h d)
    steps c d r = grind (arith, block_is, passes)

    along : (m : ℕ) (c d : Config) → Relates c d → Relates (walk g m c) (walk h m d)
    along zero c d r = r
    along (suc m) c d r = along m (step g c) (step h d) (steps c d r)

    opened : (world : World) (k : ℕ) → opening h world k ≡ At (place (entry_of g main))
        (record { vars = zeros (proc_at g main).vars; out = opening_out (cells_of g.arrays) world }) [] k
    unfolding part
    opened world k = grind (arith, h, main_is, main, entry_is, main_there, place, proc_is)

    -- the configurations that the walks open with
    opens : (world : World) (turns : ℕ) → Relates (opening g world turns) (opening h world turns)
    opens world turns = (C.main, tt, opened world turns)

    -- What the walks weigh, where blocks that are kept weigh as much as those in their places or more.
    module _ (w given : ℕ → ℕ) (fits : (b : ℕ) → keep b ≡ true → w (place b) ≤ given b) where
      left_few : (b : ℕ) → keep b ≡ true → (s t : ProcState) (frames fs : List Frame) (k j : ℕ) (c d : Config)
          → Relates c d → sum_by w (block_left (At (place b) t fs j) d) ≤ sum_by given
          (block_left (At b s frames k) c)
      left_few b kept s t frames fs k j c d r = grind arith

      path_few : (m : ℕ) (c d : Config) → Relates c d → sum_by w (path h m d) ≤ sum_by given (path g m c)
      path_few zero c d r = omega arith
      path_few (suc m) (At b s frames k) d r =
          let from = At b s frames k in
          let to = At (place b) s (moved_frames frames) k in
          let next = steps from to (r.0, r.1, refl) in
          let le = left_few b r.0 s s frames (moved_frames frames) k k (step g from) (step h to) next in
          grind (arith, sum_by-append, path_few m (step g from) (step h to) next)
      path_few (suc m) (Over o k) d r = grind (arith, h, path_few m (Over o k) (Over o k) refl)
      path_few (suc m) (Going o) d r = grind (arith, h, path_few m (Going o) (Going o) refl)

      -- the walks of the part weigh no more
      pub weighs_no_more : (base pay : ℕ) → WalksWeigh g given base pay → WalksWeigh h w base pay
      weighs_no_more base pay most world turns m =
          omega (
            arith,
            path_few m (opening g world turns) (opening h world turns) (opens world turns),
            most world turns m,
          )

    abbrev Same : Outside → Outside → Type 0
    Same o p = o ≡ p

    final : (c d : Config) → IsOver c → Relates c d → Match Same c d
    final c d over r = grind arith

    forth : (world : World) (turns m : ℕ) → IsOver (walk g m (opening g world turns))
        → (n : ℕ) × Match Same (walk g m (opening g world turns)) (walk h n (opening h world turns))
    forth world turns m over = (
      m,
      final (walk g m (opening g world turns)) (walk h m (opening h world turns)) over
          (along m (opening g world turns) (opening h world turns) (opens world turns)),
    )

    shown_same : (o p : Outside) → o ≡ p → SameShown g h o p
    unfolding part
    shown_same o p e = grind (arith, h)

    pub walks_kept : SameWalks g h
    walks_kept = record {
      ends = λ world turns o e. let r = paired.ends g h rules Same forth world turns o e in
          (r.0, r.1, shown_same o r.0 r.2);
      ends_only = λ world turns p e. let r = paired.ends_only g h rules Same forth world turns p e in
          (r.0, r.1, shown_same r.0 p r.2);
      goes = λ world turns o e. let r = paired.goes g h rules Same forth world turns o e in
          (r.0, r.1, shown_same o r.0 r.2);
      goes_only = λ world turns p e. let r = paired.goes_only g h rules Same forth world turns p e in
          (r.0, r.1, shown_same r.0 p r.2);
    }

    inside_too : (o p : Outside) → o ≡ p → AllInside g.arrays o.acts → AllInside h.arrays p.acts
    unfolding part
    inside_too o p e i = rw e at i

    pub arrays_kept : SameArrays g h
    unfolding part
    arrays_kept = record {
      shown = refl;
      inside = λ world s. record {
        ends = λ turns p e. let r = paired.ends_only g h rules Same forth world turns p e in
            inside_too r.0 p r.2 (s.ends turns r.0 r.1);
        goes = λ turns p e. let r = paired.goes_only g h rules Same forth world turns p e in
            inside_too r.0 p r.2 (s.goes turns r.0 r.1);
      };
    }
