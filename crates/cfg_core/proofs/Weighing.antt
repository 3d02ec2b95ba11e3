-- What the blocks of a walk weigh is paid by a potential and by the turns.
use Rattle.std.proofs.Common.{ℕ, zero, suc, ◌+◌, ◌*◌, ◌≡◌, ◌<◌, ◌≤◌, ◌==◌, max, Bool, List, [], ◌∷◌, length}
use Rattle.std.proofs.Common.{if◌then◌else◌, refl, sym, ap, subst, inl, inr, arith}
use Rattle.std.specs.List.{AllByRecursion, sum_by}
use Rattle.std.proofs.Math.Nat.{mul-add, add-mul, mul_assoc, mul_comm}
use Rattle.std.proofs.lemmas.Nat.{mul-le}
use Rattle.std.proofs.lemmas.List.{length-append}
use Rattle.std.proofs.lemmas.List.Sums.{sum_by-cons, sum_by-append}
use Rattle.ws_words.specs.Outside.{Outside, ProcState, zeros}
use Rattle.cfg_core.specs.Graph.{Op, Exit, Goto}
use Rattle.cfg_core.specs.Graph.{Branch, Call, Return, Send, Stop, Block, GraphProc, Graph, no_spot, spots_in}
use Rattle.cfg_core.specs.Graph.{spots_from, spots, spot_at, block_at, proc_at, entry_from, entry_of}
use Rattle.cfg_core.specs.Walk.{value_of, values_of, OpsOutcome, Done, Out, and_then, spend, run_op, run_ops}
use Rattle.cfg_core.specs.Walk.{Frame, Config, At, Over, Going, landed, landing, with_result, entered}
use Rattle.cfg_core.specs.Walk.{returned, leave, passed, step}
use Rattle.cfg_core.specs.Rules.{Lands, ExitIn, ProcNumbers, BlockNumbers, IsGraph}
use Rattle.cfg_core.specs.Weights.{turns_of, turns_at, block_left, path, highest, handed_on, IsPotential}
use Rattle.cfg_core.specs.Weights.{WeighsAtMost, first_block, WalksWeigh}
use Rattle.cfg_core.proofs.Total.{in_landing, lands_at}
use Rattle.ws_words.specs.Items.{In}
use Rattle.cfg_core.proofs.Spots.{each_at}

-- Operations take at least the turns that are counted for them.

abbrev Takes : ℕ → ℕ → OpsOutcome → Type 0
Takes n k (Done s j) = j + n ≤ k
Takes n k (Out o) = Unit {0}

no_turn : (s : ProcState) (k : ℕ) → Takes 0 k (Done s k)
no_turn s k = omega arith

one_more : (n k : ℕ) (o : OpsOutcome) → Takes n k o → Takes (suc n) (suc k) o
one_more n k o h = grind arith

less : (n m k : ℕ) (o : OpsOutcome) → m ≤ n → Takes n k o → Takes m k o
less n m k o le h = grind arith

if_takes : (n k : ℕ) (b : Bool) (o u : OpsOutcome) → Takes n k o → Takes n k u
    → Takes n k (if b then o else u)
if_takes n k b o u h i = grind arith

spend_takes : (n : ℕ) (s : ProcState) (k : ℕ) → Takes n k (spend n s k)
spend_takes (suc n) s (suc k) = one_more n k (spend n s k) (spend_takes n s k)
spend_takes n s k = grind (arith, no_turn)

op_takes : (op : Op) (s : ProcState) (k : ℕ) → Takes (turns_of op) k (run_op op s k)
op_takes op s k = grind (arith, no_turn, if_takes, value_of, spend_takes, less)

then_takes : (n m k : ℕ) (o : OpsOutcome) (go : ProcState → ℕ → OpsOutcome) → Takes n k o
    → ((s : ProcState) (j : ℕ) → Takes m j (go s j)) → Takes (n + m) k (and_then o go)
then_takes n m k o go h f = grind arith

ops_take : (ops : List Op) (s : ProcState) (k : ℕ) → Takes (sum_by turns_of ops) k (run_ops ops s k)
ops_take [] s k = no_turn s k
ops_take (op ∷ ops) s k =
    subst (λ n. Takes n k (run_ops (op ∷ ops) s k)) (sym (sum_by-cons turns_of op ops))
    (grind (arith, then_takes, op_takes, ops_take ops))

-- Procedures begin at blocks that are there.

pub count_in : (home vars : ℕ) (xs : List Block) → length (spots_in home vars xs) ≡ length xs
count_in home vars [] = refl
count_in home vars (x ∷ xs) = ap suc (count_in home vars xs)

entry_there : (home first : ℕ) (ps : List GraphProc) → AllByRecursion ProcNumbers ps → (f : ℕ) → f < length ps
    → entry_from first ps f < first + length (spots_from home ps)
entry_there home first (p ∷ ps) h (suc f) lt =
    omega (
      arith,
      length-append (spots_in home p.vars p.blocks) (spots_from (suc home) ps),
      count_in home p.vars p.blocks,
      entry_there (suc home) (first + length p.blocks) ps h.1 f
          (omega arith),
    )
entry_there home first ps h f lt = grind (arith, length-append, count_in)

highest_of : (p : ℕ → ℕ) (b : ℕ) (bs : List ℕ) → In b bs → p b ≤ highest p bs
highest_of p b (c ∷ bs) (inl e) = let h : p b ≡ p c = ap p e in omega (arith, h)
highest_of p b (c ∷ bs) (inr i) = let h = highest_of p b bs i in omega (arith, h)
highest_of p b [] i = absurd i

paid_by_turns : (pay j n k : ℕ) → j + n ≤ k → pay * j + pay * n ≤ pay * k
paid_by_turns pay j n k le = let e = mul-add pay j n in grind (arith, mul-le)

all_in : (P : ℕ → Type 0) (bs : List ℕ) → AllByRecursion P bs → (b : ℕ) → In b bs → P b
all_in P [] h b i = absurd i
all_in P (c ∷ bs) h b (inl e) = subst P (sym e) h.0
all_in P (c ∷ bs) h b (inr i) = all_in P bs h.1 b i

module _ (g : Graph) (rules : IsGraph g) (weight : ℕ → ℕ) (pay : ℕ) (p : ℕ → ℕ)
    (paid : IsPotential g weight pay p) where
  abbrev There : ℕ → Type 0
  There b = b < length (spots g)

  entry_in : (f : ℕ) → f < length g.procs → There (entry_of g f)
  unfolding entry_of
  entry_in f lt = grind (arith, entry_there, g.procs, rules.numbers.procs)

  numbers_at : (b : ℕ) → BlockNumbers g (spot_at g b)
  unfolding spot_at no_spot
  numbers_at b = each_at (BlockNumbers g) (spots g) no_spot rules.numbers.blocks
      (record { ops = tt; exit = tt; named = tt; once = tt }) b

  -- the potential of the return blocks of the calls that wait
  abbrev waiting : List Frame → ℕ
  waiting [] = 0
  waiting (f ∷ frames) = p f.back + waiting frames

  abbrev AllThere : List Frame → Type 0
  AllThere [] = Unit {0}
  AllThere (f ∷ frames) = There f.back × AllThere frames

  -- what is left to pay with
  abbrev left : Config → ℕ
  left (At b s frames k) = p b + waiting frames + pay * k
  left (Over o k) = 0
  left (Going o) = 0

  abbrev IsThere : Config → Type 0
  IsThere (At b s frames k) = There b × AllThere frames
  IsThere (Over o k) = Unit {0}
  IsThere (Going o) = Unit {0}

  module _ (b : ℕ) (s : ProcState) (frames : List Frame) (k : ℕ) (there : AllThere frames) where
    -- a configuration to which a step from here leads, its block there and paid
    abbrev Stepped : Config → Type 0
    Stepped d = IsThere d × (sum_by weight (block_left (At b s frames k) d) + left d ≤ left (At b s frames k))

    leads_to : (c : ℕ) (t : ProcState) (fs : List Frame) (j : ℕ) → There c → AllThere fs
        → weight b + (p c + waiting fs) ≤ p b + pay * turns_at g b + waiting frames → j + turns_at g b ≤ k
        → Stepped (At c t fs j)
    leads_to c t fs j here all h le = grind (arith, sum_by-cons, paid_by_turns)

    ends_at : (o : Outside) (j : ℕ) → weight b ≤ p b + pay * turns_at g b → j + turns_at g b ≤ k
        → Stepped (Over o j)
    ends_at o j h le = grind (arith, sum_by-cons, paid_by_turns)

    if_stepped : (v : Bool) (c d : Config) → Stepped c → Stepped d → Stepped (if v then c else d)
    if_stepped v c d h i = grind arith

    returned_pays : (v : ℕ) (o : Outside) (fs : List Frame) (j : ℕ) → AllThere fs
        → waiting fs ≡ waiting frames → weight b ≤ p b + pay * turns_at g b → j + turns_at g b ≤ k
        → Stepped (returned v o fs j)
    returned_pays v o [] j all e h le = ends_at o j h le
    returned_pays v o (f ∷ fs) j all e h le =
        leads_to f.back (record { vars = with_result f.result v f.vars; out = o }) fs j all.0 all.1
        (omega (arith, e, h)) le

    leave_pays : (exit : Exit) (home vars : ℕ) → ExitIn g home vars exit → Lands g exit
        → weight b + handed_on g p exit ≤ p b + pay * turns_at g b → (t : ProcState) (j : ℕ)
        → j + turns_at g b ≤ k → Stepped (leave g exit t frames j)
    leave_pays (Goto c) home vars fit lands h t j le = leads_to c t frames j fit.0 there (omega (arith, h)) le
    leave_pays (Branch u c d) home vars fit lands h t j le =
        let v = value_of u t in
        if_stepped (v.0 == 0) (At d v.1 frames j) (At c v.1 frames j)
        (leads_to d v.1 frames j fit.2.0 there (omega (arith, h)) le)
        (leads_to c v.1 frames j fit.1.0 there (omega (arith, h)) le)
    leave_pays (Call x f ts back) home vars fit lands h t j le =
        let vs = values_of ts t in
        leads_to (entry_of g f) (record { vars = entered (proc_at g f) vs.0; out = vs.1.out })
        (record { result = x; back = back; vars = vs.1.vars } ∷ frames) j (entry_in f fit.1)
        (fit.4.0, there) (omega (arith, h)) le
    leave_pays (Return u) home vars fit lands h t j le = grind (arith, returned_pays, value_of)
    leave_pays (Send u ts ls) home vars fit lands h t j le =
        let a = value_of u t in let c = landing a.0 ls in
        let i : In c ls = in_landing a.0 ls lands.0 in
        let vs = values_of ts a.1 in
        leads_to c (record {
          vars = landed (block_at g c).named vs.0 (zeros (spot_at g c).vars);
          out = vs.1.out;
        }) frames j (all_in There ls fit.2 c i) there
        (omega (arith, h, highest_of p c ls i)) le
    leave_pays Stop home vars fit lands h t j le = ends_at t.out j (omega (arith, h)) le

    passed_pays : (o : OpsOutcome) → Takes (turns_at g b) k o → There b
        → Stepped (passed g o (block_at g b).exit frames)
    passed_pays (Done t j) le here = leave_pays (block_at g b).exit (spot_at g b).home (spot_at g b).vars
        (numbers_at b).exit (lands_at g rules b) (paid b here) t j le
    passed_pays (Out o) le here = (tt, omega arith)

    step_pays : There b → Stepped (step g (At b s frames k))
    step_pays here = passed_pays (run_ops (block_at g b).ops s k) (ops_take (block_at g b).ops s k) here

  none_left : (n : ℕ) (c : Config) → step g c ≡ c → block_left c c ≡ [] → path g n c ≡ []
  none_left zero c e h = refl
  none_left (suc n) c e h = grind (arith, none_left n c e h)

  path_paid : (n : ℕ) (c : Config) → IsThere c → sum_by weight (path g n c) ≤ left c
  path_paid (suc n) (At b s frames k) h =
      let c = At b s frames k in let d = step g c in
      let r : IsThere d × (sum_by weight (block_left c d) + left d ≤ left c) =
      step_pays b s frames k h.1 h.0 in
      omega (arith, sum_by-append weight (block_left c d) (path g n d), path_paid n d r.0, r.1)
  path_paid n c h = grind (arith, none_left)

  -- from the first block of the last procedure, with n turns
  pub walk_paid : WalksWeigh g weight (p (first_block g)) pay
  walk_paid world n m = grind (arith, path_paid, entry_in)

-- Weights of one kind have a potential that is a multiple of the one of weights 1.

highest_times : (d : ℕ) (p : ℕ → ℕ) (bs : List ℕ) → highest (λ b. d * p b) bs ≤ d * highest p bs
highest_times d p [] = omega arith
highest_times d p (b ∷ bs) = most_times d (p b) (highest p bs) _ (highest_times d p bs)
  where
    most_times : (d m n k : ℕ) → k ≤ d * n → max (d * m) k ≤ d * max m n
    most_times d m n k le = grind (arith, mul-le)

max_times : (d m n : ℕ) → max (d * m) (d * n) ≤ d * max m n
max_times d m n = grind (arith, mul-le)

handed_times : (g : Graph) (d : ℕ) (p : ℕ → ℕ) (exit : Exit) → handed_on g (λ b. d * p b) exit ≤ d * handed_on
    g p exit
handed_times g d p exit = grind (arith, max_times, mul-add, highest_times)

scale : (base pay more weight turns p after times : ℕ) → weight ≤ base + pay * turns
    → 1 + after ≤ p + more * turns → times ≤ base * after → weight + times ≤ base * p + (pay + more * base)
    * turns
scale base pay more weight turns p after times h i j =
    let a = mul-le base (1 + after) base (p + more * turns) (omega arith) i in
    grind (arith, mul-add, add-mul, mul_assoc, mul_comm)

pub multiple_pays : (g : Graph) (weight p : ℕ → ℕ) (base pay more : ℕ) → IsPotential g (λ b. 1) more p
    → WeighsAtMost g weight base pay → IsPotential g weight (pay + more * base) (λ b. base * p b)
multiple_pays g weight p base pay more one most b lt = grind (arith, scale, handed_times)

-- where the walk begins at a potential of at most 1
pub walk_bounded : (g : Graph) (weight p : ℕ → ℕ) (base pay more : ℕ) → IsGraph g
    → IsPotential g (λ b. 1) more p → p (first_block g) ≤ 1 → WeighsAtMost g weight base pay
    → WalksWeigh g weight base (pay + more * base)
walk_bounded g weight p base pay more rules one low most world n m =
    let h = walk_paid g rules weight (pay + more * base) (λ b. base * p b)
    (multiple_pays g weight p base pay more one most) world n m in
    omega (arith, h, mul-le base (p (first_block g)) base 1 (omega arith) low)
