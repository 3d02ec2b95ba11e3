-- The walk of the inlined graph goes along with that of the given graph, which passes a callee's blocks where
-- a call is inlined.
use Rattle.std.proofs.Common.{ℕ, zero, suc, ◌+◌, ◌-◌, ◌≡◌, ◌<◌, ◌≤◌, Bool, true, false, ◌&&◌, List, []}
use Rattle.std.proofs.Common.{◌==◌, if◌then◌else◌, ◌∷◌, ◌++◌, length, nat_lt, Option, Some, None, refl, sym}
use Rattle.std.proofs.Common.{ap, ◌∙◌}
use Rattle.std.proofs.Common.{subst, inl, inr, arith}
use Rattle.std.proofs.lemmas.Bool.{cases_lt}
use Rattle.std.proofs.lemmas.Bool.Decides.{nat_tests}
use Rattle.std.specs.List.{AllByRecursion, sum_by}
use Rattle.std.proofs.lemmas.List.Sums.{sum_by-cons}
use Rattle.ws_words.specs.Outside.{Outside, ProcState, World, zeros, opening_out}
use Rattle.ws_words.proofs.Bools.{and_right}
use Rattle.ws_words.proofs.Lists.{length_map as map_count}
use Rattle.ws_words.proofs.Numbers.{zeros_count}
use Rattle.cfg_core.specs.Graph.{Op, Exit, Goto, Branch, Call, Return, Send, Stop, Block, Graph}
use Rattle.cfg_core.specs.Graph.{spots, spot_at, block_at, proc_at, entry_of}
use Rattle.cfg_core.specs.Rules.{TermIn, OpIn, TargetIn, ExitIn, Lands, IsGraph}
use Rattle.cfg_core.specs.Walk.{value_of, values_of, OpsOutcome, Done, Out, and_then, run_ops, Frame, Config}
use Rattle.cfg_core.specs.Walk.{At, Over, Going, entered, returned, leave, passed, step, walk, cells_of}
use Rattle.cfg_core.specs.Walk.{opening, IsOver}
use Rattle.cfg_core.specs.Weights.{path}
use Rattle.cfg_core.proofs.Paired.{Match, walk_add}
use Rattle.cfg_core.proofs.Total.{lands_at}
use Rattle.cfg_core.proofs.Cost.{walk_over, walk_going}
use Rattle.cfg_core.proofs.Outcomes.{run_append}
use Rattle.cfg_core.proofs.Spots.{numbers_at}
use Rattle.cfg_inline.specs.Straight.{Straight, straight}
use Rattle.cfg_inline.specs.Inlined.{Plan, Site, site, site_of, site_ops, inlinable, most_blocks}
use Rattle.cfg_inline.specs.Inlined.{inlined_if, inlined}
use Rattle.cfg_inline.specs.Charged.{straight_row, callee_weight, if_inlined}
use Rattle.ws_words.specs.Items.{flag_at}
use Rattle.cfg_inline.proofs.Embedded.{wider, all_wider, ops_wider, Counts, ops_count}
use Rattle.cfg_core.proofs.Homes.{result_count, entry_there, params_at}
use Rattle.cfg_inline.proofs.Placing.{block_is, entry_is, proc_is}
use Rattle.cfg_inline.proofs.Straightened.{straight_in, IsDone, straight_run}
use Rattle.cfg_inline.proofs.Calling.{inside as at_entry, back, Finished, site_run}
use Rattle.cfg_inline.proofs.Standing.{Stack, Along, goes_to, zeros_both}
use Rattle.cfg_inline.proofs.Standing.{same_exit}

-- what is known of a call that is inlined
pub record IsSite (plan : Plan) (g : Graph) (x : Exit) (s : Site) : Type 0 where
  pub callee : ℕ
  pub call : x ≡ Call s.result callee s.values s.back
  pub code : straight g most_blocks (entry_of g callee) ≡ Some s.body
  pub params : s.params ≡ (proc_at g callee).params
  pub vars : s.vars ≡ (proc_at g callee).vars
  pub fits : s.vars < plan.room

-- code that is inlined is straight-line code, and there is room for its variables
fitting : (chosen : Bool) (vars room : ℕ) (found : Option Straight) (s : Straight)
    → (if chosen && nat_lt vars room then found else None) ≡ Some s → (found ≡ Some s) × (vars < room)
fitting chosen vars room found s e = by_test (chosen && nat_lt vars room) refl e
  where
    by_test : (b : Bool) → (chosen && nat_lt vars room) ≡ b → (if b then found else None) ≡ Some s
        → (found ≡ Some s) × (vars < room)
    by_test true t d =
        let low : nat_lt vars room ≡ true = and_right chosen (nat_lt vars room) t in
        (d, grind (arith, nat_tests))
    by_test false t d = absurd (cc)

module _ (plan : Plan) (g : Graph) where
  pub site_is : (x : Exit) (s : Site) → site plan g x ≡ Some s → IsSite plan g x s
  site_is (Call x f ts back) s e = by_found (inlinable plan g f) refl e
    where
      by_found : (found : Option Straight) → inlinable plan g f ≡ found
          → site_of (proc_at g f) x ts back found ≡ Some s → IsSite plan g (Call x f ts back) s
      by_found None i d = absurd (cc)
      by_found (Some r) i d =
          let is : record {
            result = x;
            params = (proc_at g f).params;
            vars = (proc_at g f).vars;
            body = r;
            values = ts;
            back = back;
          } ≡ s = cc in
          let known = fitting (flag_at plan.chosen f)
          (proc_at g f).vars plan.room (straight g most_blocks (entry_of g f)) r i in
          subst (IsSite plan g (Call x f ts back)) is (record {
            callee = f;
            call = refl;
            code = known.0;
            params = refl;
            vars = refl;
            fits = known.1;
          })
  site_is (Goto c) s e = absurd (cc)
  site_is (Branch t c d) s e = absurd (cc)
  site_is (Return t) s e = absurd (cc)
  site_is (Send t ts ls) s e = absurd (cc)
  site_is Stop s e = absurd (cc)

module _ (plan : Plan) (g : Graph) (rules : IsGraph g) where
  abbrev room : ℕ
  room = plan.room

  abbrev h : Graph
  h = inlined plan g

  abbrev A : ℕ
  A = length g.arrays

  abbrev V : ℕ → ℕ
  V b = (spot_at g b).vars

  pub named_is : (b : ℕ) → (block_at h b).named ≡ (block_at g b).named
  named_is b = ap (λ (x : Block). x.named) (block_is plan g b) ∙ by_site (site plan g (block_at g b).exit)
    where
      by_site : (s : Option Site) → (inlined_if (V b) (block_at g b) s).named ≡ (block_at g b).named
      by_site None = refl
      by_site (Some s) = refl

  -- the block that led to a configuration, if its exit was taken
  abbrev pub left_from : ℕ → Config → List ℕ
  left_from b (At c s fs k) = b ∷ []
  left_from b (Over o k) = b ∷ []
  left_from b (Going o) = []

  -- What the first walk passes in m blocks pays for the block that the second leaves, where that weighs as
  -- much as the block of the first and so much more.
  abbrev pub Pays : ℕ → ((ℕ → ℕ) → ℕ) → ℕ → Config → Config → Type 0
  Pays b more m c d = (weight given : ℕ → ℕ) → weight b ≤ given b + more given
      → sum_by weight (left_from b d) ≤ sum_by given (left_from b c ++ path g m c)

  -- the first walk comes to a configuration that goes along, after some blocks, and has paid
  abbrev pub Follows : ℕ → ((ℕ → ℕ) → ℕ) → Config → Config → Type 0
  Follows b more c d = (m : ℕ) × Along plan g rules (walk g m c) d × Pays b more m c d

  -- what the blocks of a callee weigh, where the call of the block is inlined
  abbrev pub beyond : ℕ → (ℕ → ℕ) → ℕ
  beyond b given =
      if_inlined (site plan g (block_at g b).exit) (callee_weight g given (block_at g b).exit)

  returned_from : (b v : ℕ) (o : Outside) (fs : List Frame) (k : ℕ) → left_from b (returned v o fs k) ≡ b ∷ []
  returned_from b v o [] k = refl
  returned_from b v o (f ∷ fs) k = refl

  chosen_from : (b : ℕ) (x : Bool) (s : ProcState) (fs : List Frame) (k c d : ℕ)
      → left_from b (if x then At d s fs k else At c s fs k) ≡ b ∷ []
  chosen_from b true s fs k c d = refl
  chosen_from b false s fs k c d = refl

  -- an exit that is taken leaves its block
  leaves_from : (q : Graph) (b : ℕ) (x : Exit) (s : ProcState) (fs : List Frame) (k : ℕ)
      → left_from b (leave q x s fs k) ≡ b ∷ []
  leaves_from q b (Goto c) s fs k = refl
  leaves_from q b (Branch t c d) s fs k =
      let v = value_of t s in chosen_from b (v.0 == 0) v.1 fs k c d
  leaves_from q b (Call x f ts back) s fs k = refl
  leaves_from q b (Return t) s fs k = let v = value_of t s in returned_from b v.0 v.1.out fs k
  leaves_from q b (Send t ts ls) s fs k = refl
  leaves_from q b Stop s fs k = refl

  pays_one : (b : ℕ) (c d : Config) → left_from b c ≡ b ∷ [] → left_from b d ≡ b ∷ []
      → Pays b (λ given. 0) 0 c d
  pays_one b c d e f weight given le =
      let l = ap (λ (zs : List ℕ). sum_by weight zs) f in
      let r = ap (λ (zs : List ℕ). sum_by given (zs ++ [])) e in
      let m = sum_by-cons weight b [] in
      let n = sum_by-cons given b [] in
      omega (arith, le, l, r, m, n)

  module _ (b : ℕ) (there : b < length (spots g)) (fs es : List Frame)
      (stack : Stack plan g rules fs es) where
    -- a block that both graphs have
    same_passed : (x : Exit) → ExitIn g (spot_at g b).home (V b) x → Lands g x → (post : List ℕ)
        → length post ≡ room → (o : OpsOutcome) → Counts (V b) o
        → Follows b (λ given. 0) (passed g o x fs) (passed h (all_wider A post o) x es)
    same_passed x i l post more (Done s k) n = (
      0,
      same_exit plan g rules b there fs es stack s post n more k x i l named_is,
      pays_one b (leave g x s fs k) (leave h x (wider A post s) es k) (leaves_from g b x s fs k)
          (leaves_from h b x (wider A post s) es k),
    )
    same_passed x i l post more (Out o) n = (0, refl, λ weight given le. omega arith)

    module _ (s : Site) (x : Exit) (i : ExitIn g (spot_at g b).home (V b) x) (is : IsSite plan g x s) where
      exit_in : ExitIn g (spot_at g b).home (V b) (Call s.result is.callee s.values s.back)
      exit_in = subst (ExitIn g (spot_at g b).home (V b)) is.call i

      entry : (entry_of g is.callee < length (spots g)) × (V (entry_of g is.callee) ≡ s.vars)
      entry = let e = entry_there g rules is.callee exit_in.1 in (e.0, e.1 ∙ sym is.vars)

      -- the blocks of the callee
      abbrev row : List ℕ
      row = straight_row g most_blocks (entry_of g is.callee)

      paid : (o p : OpsOutcome) (u : ProcState) → Finished A room s u o p → (weight given : ℕ → ℕ)
          (passes : List ℕ) → (IsDone o → sum_by given row ≤ sum_by given passes)
          → weight b ≤ given b + sum_by given row
          → sum_by weight (left_from b (passed h p (Goto s.back) es)) ≤ sum_by given (b ∷ passes)
      paid (Done r j) (Done w l) u f weight given passes all le =
          let i = all tt in
          let m = sum_by-cons weight b [] in
          let n = sum_by-cons given b passes in
          omega (arith, i, m, n, le)
      paid (Out o) (Out p) u f weight given passes all le = omega arith
      paid (Done r j) (Out p) u f weight given passes all le = absurd f
      paid (Out o) (Done w l) u f weight given passes all le = absurd f

      code_in : AllByRecursion (OpIn A s.vars) s.body.ops × TermIn A s.vars s.body.result
      code_in = let w = straight_in g rules most_blocks (entry_of g is.callee) s.body entry.0 is.code in (
        subst (λ n. AllByRecursion (OpIn A n) s.body.ops) entry.1 w.0,
        subst (λ n. TermIn A n s.body.result) entry.1 w.1,
      )

      module _ (u : ProcState) (post : List ℕ) (k : ℕ) (n : length u.vars ≡ V b) (more : length post ≡ room)
        where
          vals_in : AllByRecursion (TermIn A (length u.vars)) s.values
          vals_in = subst (λ m. AllByRecursion (TermIn A m) s.values) (sym n) exit_in.3

          aim_in : TargetIn (length u.vars) s.result
          aim_in = subst (λ m. TargetIn m s.result) (sym n) exit_in.0

          as_many : length s.values ≡ s.params
          as_many = exit_in.2 ∙ sym is.params

          low : s.params ≤ s.vars
          low = let le = params_at g rules is.callee in omega (arith, le, is.params, is.vars)

          abbrev inside : ProcState
          inside = record {
            vars = entered (proc_at g is.callee) (values_of s.values u).0;
            out = (values_of s.values u).1.out;
          }

          abbrev frame : Frame
          frame = record { result = s.result; back = s.back; vars = u.vars }

          entry_is_so : at_entry A room s u post k vals_in as_many low code_in.0 code_in.1 aim_in more is.fits
              ≡ inside
          entry_is_so =
              ap (λ m. record {
                vars = (values_of s.values u).0 ++ zeros (m - s.params);
                out = (values_of s.values u).1.out;
              }) is.vars
              ∙ ap (λ m. record {
                vars = (values_of s.values u).0 ++ zeros ((proc_at g is.callee).vars - m);
                out = (values_of s.values u).1.out;
              }) is.params

          -- the call and what stands for it come to the same
          closes : (o p : OpsOutcome) → Finished A room s u o p
              → Along plan g rules (passed g o (Return s.body.result) (frame ∷ fs))
              (passed h p (Goto s.back) es)
          closes (Done r j) (Done w l) f =
              subst (λ (y : ProcState). Along plan g rules (At s.back (back A room s u r) fs j)
              (At s.back y es l)) (sym f.1.2)
              (subst (λ m. Along plan g rules (At s.back (back A room s u r) fs j)
              (At s.back (wider A f.1.0 (back A room s u r)) es m)) (sym f.0)
              (goes_to plan g rules b s.back there exit_in.4 (back A room s u r) f.1.0
              (result_count s.result (value_of s.body.result r).0 u.vars ∙ n) f.1.1 fs es j stack))
          closes (Out o) (Out p) f = f
          closes (Done r j) (Out p) f = absurd f
          closes (Out o) (Done w l) f = absurd f

          abbrev outcome : OpsOutcome
          outcome = run_ops (site_ops (length u.vars) s) (wider A post u) k

          done : Finished A room s u (run_ops s.body.ops inside k) outcome
          done = subst (λ (q : ProcState). Finished A room s u (run_ops s.body.ops q k) outcome) entry_is_so
              (site_run A room s u post k vals_in as_many low code_in.0 code_in.1 aim_in more is.fits)

          called : Follows b (λ given. callee_weight g given x) (leave g x u fs k)
              (passed h outcome (Goto s.back) es)
          called =
              let ran = straight_run g (frame ∷ fs) most_blocks (entry_of g is.callee) s.body is.code inside k
              in (
                suc ran.0,
                subst (λ c. Along plan g rules c (passed h outcome (Goto s.back) es))
                    (sym (ap (λ y. walk g (suc ran.0) (leave g y u fs k)) is.call ∙ ran.1))
                    (closes _ _ done),
                λ weight given. subst (λ (y : Exit). weight b ≤ given b + callee_weight g given y
                    → sum_by weight (left_from b (passed h outcome (Goto s.back) es))
                    ≤ sum_by given (left_from b (leave g y u fs k) ++ path g (suc ran.0) (leave g y u fs k)))
                    (sym is.call)
                    (paid (run_ops s.body.ops inside k) outcome u done weight given
                    (path g (suc ran.0) (At (entry_of g is.callee) inside (frame ∷ fs) k)) (ran.2 given)),
              )

      after_ops : (post : List ℕ) → length post ≡ room → (o : OpsOutcome) → Counts (V b) o
          → Follows b (λ given. callee_weight g given x) (passed g o x fs)
          (passed h (and_then (all_wider A post o) (run_ops (site_ops (V b) s))) (Goto s.back) es)
      after_ops post more (Done u k) n =
          subst (λ v. Follows b (λ given. callee_weight g given x) (leave g x u fs k)
          (passed h (run_ops (site_ops v s) (wider A post u) k) (Goto s.back) es)) n
          (called u post k n more)
      after_ops post more (Out o) n = (0, refl, λ weight given le. omega arith)

    module _ (s : ProcState) (post : List ℕ) (k : ℕ) (n : length s.vars ≡ V b) (more : length post ≡ room)
      where
        abbrev exit : Exit
        exit = (block_at g b).exit

        abbrev ops : List Op
        ops = (block_at g b).ops

        counts : Counts (V b) (run_ops ops s k)
        counts = subst (λ m. Counts m (run_ops ops s k)) n (ops_count ops s k)

        ran : run_ops ops (wider A post s) k ≡ all_wider A post (run_ops ops s k)
        ran = ops_wider A post ops s k
            (subst (λ m. AllByRecursion (OpIn A m) ops) (sym n) (numbers_at g rules b).ops)

        by_found : (found : Option Site) → site plan g exit ≡ found
            → Follows b (λ given. if_inlined found (callee_weight g given exit))
            (passed g (run_ops ops s k) exit fs)
            (passed h (run_ops (inlined_if (V b) (block_at g b) found).ops (wider A post s) k)
            (inlined_if (V b) (block_at g b) found).exit es)
        by_found None e =
            subst (λ o. Follows b (λ given. 0) (passed g (run_ops ops s k) exit fs) (passed h o exit es))
            (sym ran)
            (same_passed exit (numbers_at g rules b).exit (lands_at g rules b) post more (run_ops ops s k)
            counts)
        by_found (Some q) e =
            subst (λ o. Follows b (λ given. callee_weight g given exit) (passed g (run_ops ops s k) exit fs)
            (passed h o (Goto q.back) es))
            (sym (run_append ops (site_ops (V b) q) (wider A post s) k
            ∙ ap (λ o. and_then o (run_ops (site_ops (V b) q))) ran))
            (after_ops q exit (numbers_at g rules b).exit (site_is plan g exit q e) post more
            (run_ops ops s k) counts)

        at_block : Follows b (beyond b) (step g (At b s fs k)) (step h (At b (wider A post s) es k))
        at_block =
            subst (λ (y : Block). Follows b (beyond b) (passed g (run_ops ops s k) exit fs)
            (passed h (run_ops y.ops (wider A post s) k) y.exit es)) (sym (block_is plan g b))
            (by_found (site plan g exit) refl)

  pub one_block : (b : ℕ) (s : ProcState) (fs : List Frame) (k : ℕ) (d : Config)
      → Along plan g rules (At b s fs k) d → Follows b (beyond b) (step g (At b s fs k)) (step h d)
  one_block b s fs k (At c r es j) a =
      subst (λ (y : ProcState). Follows b (beyond b) (step g (At b s fs k)) (step h (At c y es j)))
      (sym a.3.is)
      (subst (λ m. Follows b (beyond b) (step g (At b s fs k)) (step h (At c (wider A a.3.post s) es m))) a.1
      (subst (λ m. Follows b (beyond b) (step g (At b s fs k)) (step h (At m (wider A a.3.post s) es k))) a.0
      (at_block b a.2 fs es a.4 s a.3.post k a.3.long a.3.more)))
  one_block b s fs k (Over o j) a = absurd a
  one_block b s fs k (Going o) a = absurd a

  -- the second walk comes to an answer that goes with this one, in at most m blocks
  abbrev Answers : ℕ → Config → Config → Type 0
  Answers m c d = (n : ℕ) × (n ≤ m) × Match (λ (o p : Outside). o ≡ p) c (walk h n d)

  at_once : (c d : Config) → IsOver c → Along plan g rules c d → Match (λ (o p : Outside). o ≡ p) c d
  at_once (Over o k) (Over p j) over a = a
  at_once (Going o) (Going p) over a = a
  at_once (At b s fs k) d over a = absurd over
  at_once (Over o k) (At b s fs j) over a = absurd a
  at_once (Over o k) (Going p) over a = absurd a
  at_once (Going o) (At b s fs j) over a = absurd a
  at_once (Going o) (Over p j) over a = absurd a

  stays : (c : Config) (n : ℕ) → IsOver c → walk g n c ≡ c
  stays (Over o k) n over = walk_over g n o k
  stays (Going o) n over = walk_going g n o
  stays (At b s fs k) n over = absurd over

  later : (m i : ℕ) (c e d : Config) → i ≤ m → walk g m c ≡ walk g i e
      → Answers i (walk g i e) (step h d) → Answers (suc m) (walk g m c) d
  later m i c e d less same r =
      let few = r.1 in (
        suc r.0,
        omega (arith, few, less),
        subst (λ (x : Config). Match (λ (o p : Outside). o ≡ p) x (walk h r.0 (step h d))) (sym same) r.2,
      )

  -- after the first block, given the same of shorter walks
  after_one : (b : ℕ) (beside : (ℕ → ℕ) → ℕ) (most m : ℕ) (c d : Config) → m ≤ most
      → Follows b beside c (step h d) → IsOver (walk g m c)
      → ((i : ℕ) (e f : Config) → i ≤ most → Along plan g rules e f → IsOver (walk g i e)
      → Answers i (walk g i e) f)
      → Answers (suc m) (walk g m c) d
  after_one b beside most m c d le f over shorter = elim (cases_lt m f.0) [
    | inl lt ↦
        let z : f.0 ≡ m + (f.0 - m) = omega (arith, lt) in
        let same : walk g f.0 c ≡ walk g m c = ap (λ i. walk g i c) z ∙ walk_add g m (f.0 - m) c
        ∙ stays (walk g m c) (f.0 - m) over in (
          1,
          omega arith,
          at_once (walk g m c) (step h d) over
              (subst (λ (x : Config). Along plan g rules x (step h d)) same f.1),
        )
    | inr ge ↦
        let z : m ≡ f.0 + (m - f.0) = omega (arith, ge) in
        let same : walk g m c ≡ walk g (m - f.0) (walk g f.0 c) = ap (λ i. walk g i c) z
        ∙ walk_add g f.0 (m - f.0) c in
        later m (m - f.0) c (walk g f.0 c) d (omega arith) same
        (shorter (m - f.0) (walk g f.0 c) (step h d) (omega (arith, le)) f.1 (subst IsOver same over))
  ]

  -- where the first comes to one in m blocks, m no more than so many
  answers : (most m : ℕ) (c d : Config) → m ≤ most → Along plan g rules c d → IsOver (walk g m c)
      → Answers m (walk g m c) d
  answers most zero c d le a over = (0, omega arith, at_once c d over a)
  answers zero (suc m) c d le a over = absurd (omega (arith, le))
  answers (suc most) (suc m) (Over o k) d le a over = (
    0,
    omega arith,
    subst (λ c. Match (λ (o p : Outside). o ≡ p) c d) (sym (walk_over g m o k))
        (at_once (Over o k) d tt a),
  )
  answers (suc most) (suc m) (Going o) d le a over = (
    0,
    omega arith,
    subst (λ c. Match (λ (o p : Outside). o ≡ p) c d) (sym (walk_going g m o))
        (at_once (Going o) d tt a),
  )
  answers (suc most) (suc m) (At b s fs k) d le a over =
      after_one b (beyond b) most m (step g (At b s fs k)) d (omega (arith, le)) (one_block b s fs k d a) over
      (λ i e f. answers most i e f)

  abbrev main : ℕ
  main = length g.procs - 1

  main_there : main < length g.procs
  main_there = omega (arith, rules.numbers.some_proc)

  opened : (world : World) (k : ℕ) → opening h world k ≡ At (entry_of g main)
      (record { vars = zeros ((proc_at g main).vars + room); out = opening_out (cells_of g.arrays) world })
      [] k
  opened world k = grind (arith, map_count, entry_is, proc_is, main_there)

  pub opens : (world : World) (k : ℕ) → Along plan g rules (opening g world k) (opening h world k)
  opens world k =
      let e = entry_there g rules main main_there in
      let v : ℕ = (proc_at g main).vars in
      subst (λ (c : Config). Along plan g rules (opening g world k) c) (sym (opened world k)) (
        refl,
        refl,
        e.0,
        record {
          long = zeros_count v ∙ sym e.1;
          post = zeros room;
          more = zeros_count room;
          is = ap (λ (zs : List ℕ). record { vars = zs; out = opening_out (cells_of g.arrays) world })
              (zeros_both v room);
        },
        tt,
      )

  -- where the walk of the given graph comes to an answer, that of the inlined graph comes to the same, in no
  -- more blocks
  pub forth : (world : World) (turns m : ℕ) → IsOver (walk g m (opening g world turns))
      → (n : ℕ) × (n ≤ m) × Match (λ (o p : Outside). o ≡ p) (walk g m (opening g world turns))
      (walk h n (opening h world turns))
  forth world turns m over = answers m m (opening g world turns) (opening h world turns) (omega arith)
      (opens world turns) over
