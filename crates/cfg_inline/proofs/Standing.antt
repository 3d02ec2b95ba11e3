-- Two walks beside one another: at the same block, the second with more variables after those of the first.
use Rattle.std.proofs.Common.{ℕ, zero, suc, ◌+◌, ◌-◌, ◌≡◌, ◌<◌, ◌==◌, Bool, true, false, if◌then◌else◌}
use Rattle.std.proofs.Common.{List, [], ◌∷◌, ◌++◌, length, slice_set, Option, Some, None, refl, sym, ap}
use Rattle.std.proofs.Common.{◌∙◌, subst, arith, append_assoc, length-append}
use Rattle.std.specs.List.{AllByRecursion}
use Rattle.std.proofs.lemmas.List.{set-append_left, length-set}
use Rattle.ws_words.specs.Outside.{Act, Outside, ProcState, zeros, with_acts}
use Rattle.ws_words.proofs.Numbers.{zeros_count}
use Rattle.cfg_core.specs.Graph.{Term, Exit, Goto, Branch, Call, Return, Send, Stop, Graph, Spot, spots}
use Rattle.cfg_core.specs.Graph.{spot_at, block_at, proc_at, entry_of}
use Rattle.cfg_core.specs.Rules.{TermIn, StaysIn, TargetIn, ExitIn, Lands, IsGraph}
use Rattle.cfg_core.specs.Walk.{value, values, loads_of, all_loads, value_of, values_of, Frame, Config, At}
use Rattle.cfg_core.specs.Walk.{Over}
use Rattle.cfg_core.specs.Walk.{Going, landing, landed, with_result, returned, entered}
use Rattle.cfg_core.specs.Walk.{leave}
use Rattle.cfg_core.proofs.Spots.{landed_count, values_count, numbers_at}
use Rattle.cfg_core.proofs.Total.{in_landing}
use Rattle.cfg_inline.specs.Inlined.{Plan, inlined}
use Rattle.cfg_inline.proofs.Embedded.{wider, value_wider, loads_wider}
use Rattle.cfg_core.proofs.Every.{all_in}
use Rattle.cfg_core.proofs.Homes.{result_count, same_vars, entry_there, params_at}
use Rattle.cfg_inline.proofs.Placing.{spot_is, entry_is, proc_is}

module _ (arrays : ℕ) (post : List ℕ) where
  -- after a term
  pub after_wider : {A : Type 0} (t : Term) (s : ProcState) (go : ProcState → ℕ → A)
      → TermIn arrays (length s.vars) t
      → go (value_of t (wider arrays post s)).1 (value_of t (wider arrays post s)).0
      ≡ go (wider arrays post (value_of t s).1) (value_of t s).0
  after_wider {A} t s go i =
      ap (λ (zs : List Act). go (with_acts (wider arrays post s) zs) (value t (s.vars ++ post) s.out.cells))
      (loads_wider arrays post t s.vars s.out.cells i)
      ∙ ap (λ n. go (wider arrays post (value_of t s).1) n) (value_wider arrays post t s.vars s.out.cells i)

  values_wider : (ts : List Term) (vs : List ℕ) (cells : List (List ℕ))
      → AllByRecursion (TermIn arrays (length vs)) ts → values ts (vs ++ post) cells ≡ values ts vs cells
  values_wider [] vs cells i = refl
  values_wider (t ∷ ts) vs cells i =
      ap (λ n. n ∷ values ts (vs ++ post) cells) (value_wider arrays post t vs cells i.0)
      ∙ ap (λ (ns : List ℕ). value t vs cells ∷ ns) (values_wider ts vs cells i.1)

  all_loads_wider : (ts : List Term) (vs : List ℕ) (cells : List (List ℕ))
      → AllByRecursion (TermIn arrays (length vs)) ts
      → all_loads ts (vs ++ post) cells ≡ all_loads ts vs cells
  all_loads_wider [] vs cells i = refl
  all_loads_wider (t ∷ ts) vs cells i =
      ap (λ (zs : List Act). zs ++ all_loads ts (vs ++ post) cells)
      (loads_wider arrays post t vs cells i.0)
      ∙ ap (λ (zs : List Act). loads_of t vs cells ++ zs) (all_loads_wider ts vs cells i.1)

  -- after terms
  pub after_all : {A : Type 0} (ts : List Term) (s : ProcState) (go : ProcState → List ℕ → A)
      → AllByRecursion (TermIn arrays (length s.vars)) ts
      → go (values_of ts (wider arrays post s)).1 (values_of ts (wider arrays post s)).0
      ≡ go (wider arrays post (values_of ts s).1) (values_of ts s).0
  after_all {A} ts s go i =
      ap (λ (zs : List Act). go (with_acts (wider arrays post s) zs) (values ts (s.vars ++ post) s.out.cells))
      (all_loads_wider ts s.vars s.out.cells i)
      ∙ ap (λ (ns : List ℕ). go (wider arrays post (values_of ts s).1) ns)
      (values_wider ts s.vars s.out.cells i)

pub zeros_both : (n m : ℕ) → zeros (n + m) ≡ zeros n ++ zeros m
zeros_both zero m = let z : 0 + m ≡ m = omega arith in ap (λ k. zeros k) z
zeros_both (suc n) m =
    let z : suc n + m ≡ suc (n + m) = omega arith in
    ap (λ k. zeros k) z ∙ ap (λ (zs : List ℕ). 0 ∷ zs) (zeros_both n m)

-- a landing fills variables with others after them
landed_wider : (names ws vs post : List ℕ) → AllByRecursion (λ x. x < length vs) names
    → landed names ws (vs ++ post) ≡ landed names ws vs ++ post
landed_wider [] ws vs post i = refl
landed_wider (x ∷ names) [] vs post i = refl
landed_wider (x ∷ names) (w ∷ ws) vs post i =
    ap (λ (zs : List ℕ). landed names ws zs) (set-append_left vs post x w i.0)
    ∙ landed_wider names ws (slice_set vs x w) post
    (subst (λ n. AllByRecursion (λ y. y < n) names) (sym (length-set vs x w)) i.1)

result_wider : (x : Option ℕ) (v : ℕ) (vs post : List ℕ) → TargetIn (length vs) x
    → with_result x v (vs ++ post) ≡ with_result x v vs ++ post
result_wider None v vs post i = refl
result_wider (Some x) v vs post i = set-append_left vs post x v i

module _ (plan : Plan) (g : Graph) (rules : IsGraph g) where
  abbrev room : ℕ
  room = plan.room

  abbrev pub h : Graph
  h = inlined plan g

  abbrev pub A : ℕ
  A = length g.arrays

  abbrev pub V : ℕ → ℕ
  V b = (spot_at g b).vars

  -- so many variables, and in the second state others after them
  pub record Beside (v : ℕ) (s r : ProcState) : Type 0 where
    pub long : length s.vars ≡ v
    pub post : List ℕ
    pub more : length post ≡ room
    pub is : r ≡ wider A post s

  -- a call that waits in both walks
  pub record Waits (f e : Frame) : Type 0 where
    pub there : f.back < length (spots g)
    pub long : length f.vars ≡ V f.back
    pub inside : TargetIn (V f.back) f.result
    pub post : List ℕ
    pub more : length post ≡ room
    pub is : e ≡ record { result = f.result; back = f.back; vars = f.vars ++ post }

  abbrev pub Stack : List Frame → List Frame → Type 0
  Stack [] [] = Unit {0}
  Stack (f ∷ fs) (e ∷ es) = Waits f e × Stack fs es
  Stack _ _ = ⊥

  -- the same block, turns left and variables, and frames that go together; or the same answer
  abbrev pub Along : Config → Config → Type 0
  Along (At b s fs k) (At c r es j) = (b ≡ c) × (k ≡ j) × (b < length (spots g)) × Beside (V b) s r
      × Stack fs es
  Along (Over o k) (Over p j) = (k ≡ j) × (o ≡ p)
  Along (Going o) (Going p) = o ≡ p
  Along _ _ = ⊥

  -- on to a block of the same procedure
  pub goes_to : (b c : ℕ) → b < length (spots g) → StaysIn g (spot_at g b).home c → (s : ProcState)
      (post : List ℕ) → length s.vars ≡ V b → length post ≡ room → (fs es : List Frame) (k : ℕ)
      → Stack fs es → Along (At c s fs k) (At c (wider A post s) es k)
  goes_to b c there stays s post n more fs es k stack = (
    refl,
    refl,
    stays.0,
    record {
      long = n ∙ sym (same_vars g rules b c there stays.0 stays.1);
      post = post;
      more = more;
      is = refl;
    },
    stack,
  )

  if_along : (x : Bool) (c c' d d' : Config) → Along c c' → Along d d'
      → Along (if x then c else d) (if x then c' else d')
  if_along true c c' d d' i j = i
  if_along false c c' d d' i j = j

  -- a return into the frames
  pub returns : (v : ℕ) (o : Outside) (fs es : List Frame) (k : ℕ) → Stack fs es
      → Along (returned v o fs k) (returned v o es k)
  returns v o [] [] k stack = (refl, refl)
  returns v o (f ∷ fs) (e ∷ es) k stack =
      let m = stack.0 in
      subst (λ (x : Frame). Along (returned v o (f ∷ fs) k) (returned v o (x ∷ es) k)) (sym m.is) (
        refl,
        refl,
        m.there,
        record {
          long = result_count f.result v f.vars ∙ m.long;
          post = m.post;
          more = m.more;
          is = ap (λ (zs : List ℕ). record { vars = zs; out = o })
              (result_wider f.result v f.vars m.post
              (subst (λ n. TargetIn n f.result) (sym m.long) m.inside));
        },
        stack.1,
      )
  returns v o [] (e ∷ es) k stack = absurd stack
  returns v o (f ∷ fs) [] k stack = absurd stack

  module _ (b : ℕ) (there : b < length (spots g)) (fs es : List Frame) (stack : Stack fs es) (s : ProcState)
      (post : List ℕ) (n : length s.vars ≡ V b) (more : length post ≡ room) (k : ℕ) where
    in_state : (t : Term) → TermIn A (V b) t → TermIn A (length s.vars) t
    in_state t i = subst (λ m. TermIn A m t) (sym n) i

    all_in_state : (ts : List Term) → AllByRecursion (TermIn A (V b)) ts
        → AllByRecursion (TermIn A (length s.vars)) ts
    all_in_state ts i = subst (λ m. AllByRecursion (TermIn A m) ts) (sym n) i

    branches : (t : Term) (c d : ℕ) → ExitIn g (spot_at g b).home (V b) (Branch t c d)
        → Along (leave g (Branch t c d) s fs k) (leave h (Branch t c d) (wider A post s) es k)
    branches t c d i =
        subst (Along (leave g (Branch t c d) s fs k))
        (sym (after_wider A post t s (λ u v. if v == 0 then At d u es k else At c u es k)
        (in_state t i.0)))
        (if_along ((value_of t s).0 == 0) _ _ _ _
        (goes_to b d there i.2 (value_of t s).1 post n more fs es k stack)
        (goes_to b c there i.1 (value_of t s).1 post n more fs es k stack))

    -- a procedure is entered on the same words
    enters : (f : ℕ) → f < length g.procs → (ws : List ℕ) (o : Outside) (gs hs : List Frame)
        → length ws ≡ (proc_at g f).params → Stack gs hs
        → Along (At (entry_of g f) (record { vars = entered (proc_at g f) ws; out = o }) gs k)
        (At (entry_of h f) (record { vars = entered (proc_at h f) ws; out = o }) hs k)
    enters f lt ws o gs hs count waiting =
        let e = entry_there g rules f lt in
        let le = params_at g rules f in
        let p = proc_at g f in
        let cut : (p.vars + room) - p.params ≡ (p.vars - p.params) + room = omega (arith, le) in
        let sum = length-append ws (zeros (p.vars - p.params)) in
        let z = zeros_count (p.vars - p.params) in
        let all : length (entered p ws) ≡ p.vars = omega (arith, sum, z, count, le) in
        let same : entered (proc_at h f) ws ≡ entered p ws ++ zeros room =
        ap (λ q. entered q ws) (proc_is plan g f lt)
        ∙ ap (λ m. ws ++ zeros m) cut
        ∙ ap (λ (zs : List ℕ). ws ++ zs) (zeros_both (p.vars - p.params) room)
        ∙ sym (append_assoc ws (zeros (p.vars - p.params)) (zeros room)) in
        subst (λ c. Along (At (entry_of g f) (record { vars = entered p ws; out = o }) gs k)
        (At c (record { vars = entered (proc_at h f) ws; out = o }) hs k)) (sym (entry_is plan g f)) (
          refl,
          refl,
          e.0,
          record {
            long = all ∙ sym e.1;
            post = zeros room;
            more = zeros_count room;
            is = ap (λ (zs : List ℕ). record { vars = zs; out = o }) same;
          },
          waiting,
        )

    calls : (x : Option ℕ) (f : ℕ) (ts : List Term) (back : ℕ)
        → ExitIn g (spot_at g b).home (V b) (Call x f ts back)
        → Along (leave g (Call x f ts back) s fs k) (leave h (Call x f ts back) (wider A post s) es k)
    calls x f ts back i =
        let vs = values_of ts s in
        let same = same_vars g rules b back there i.4.0 i.4.1 in
        let f1 : Frame = record { result = x; back = back; vars = s.vars } in
        let f2 : Frame = record { result = x; back = back; vars = s.vars ++ post } in
        subst (Along (leave g (Call x f ts back) s fs k))
        (sym (after_all A post ts s (λ (u : ProcState) ws. At (entry_of h f)
        (record { vars = entered (proc_at h f) ws; out = u.out })
        (record { result = x; back = back; vars = u.vars } ∷ es) k) (all_in_state ts i.3)))
        (enters f i.1 vs.0 vs.1.out (f1 ∷ fs) (f2 ∷ es)
        (values_count ts s.vars s.out.cells ∙ i.2) (
          record {
            there = i.4.0;
            long = n ∙ sym same;
            inside = subst (λ m. TargetIn m x) (sym same) i.0;
            post = post;
            more = more;
            is = refl;
          },
          stack,
        ))

    gives_back : (t : Term) → TermIn A (V b) t
        → Along (leave g (Return t) s fs k) (leave h (Return t) (wider A post s) es k)
    gives_back t i =
        subst (Along (leave g (Return t) s fs k))
        (sym (after_wider A post t s (λ (u : ProcState) v. returned v u.out es k) (in_state t i)))
        (returns (value_of t s).0 (value_of t s).1.out fs es k stack)

    sends : (t : Term) (ts : List Term) (ls : List ℕ) → ExitIn g (spot_at g b).home (V b) (Send t ts ls)
        → Lands g (Send t ts ls) → ((c : ℕ) → (block_at h c).named ≡ (block_at g c).named)
        → Along (leave g (Send t ts ls) s fs k) (leave h (Send t ts ls) (wider A post s) es k)
    sends t ts ls i l named =
        let a = value_of t s in
        let vs = values_of ts a.1 in
        let c : ℕ = landing a.0 ls in
        let lt : c < length (spots g) = all_in (λ m. m < length (spots g)) ls c i.2 (in_landing a.0 ls l.0) in
        let to : ℕ → ProcState → List ℕ → Config = λ m (u : ProcState) ws. At (landing m ls)
        (record {
          vars = landed (block_at h (landing m ls)).named ws (zeros (spot_at h (landing m ls)).vars);
          out = u.out;
        }) es k in
        let z = zeros_count (V c) in
        let vars : landed (block_at h c).named vs.0 (zeros (spot_at h c).vars)
        ≡ landed (block_at g c).named vs.0 (zeros (V c)) ++ zeros room =
        ap (λ (ns : List ℕ). landed ns vs.0 (zeros (spot_at h c).vars)) (named c)
        ∙ ap (λ (q : Spot). landed (block_at g c).named vs.0 (zeros q.vars)) (spot_is plan g c lt)
        ∙ ap (λ (zs : List ℕ). landed (block_at g c).named vs.0 zs) (zeros_both (V c) room)
        ∙ landed_wider (block_at g c).named vs.0 (zeros (V c)) (zeros room)
        (subst (λ m. AllByRecursion (λ y. y < m) (block_at g c).named) (sym z)
        (numbers_at g rules c).named) in
        subst (Along (leave g (Send t ts ls) s fs k))
        (sym (after_wider A post t s (λ u m. to m (values_of ts u).1 (values_of ts u).0) (in_state t i.0)
        ∙ after_all A post ts a.1 (to a.0) (all_in_state ts i.1))) (
          refl,
          refl,
          lt,
          record {
            long = landed_count (block_at g c).named vs.0 (zeros (V c)) ∙ z;
            post = zeros room;
            more = zeros_count room;
            is = ap (λ (zs : List ℕ). record { vars = zs; out = vs.1.out }) vars;
          },
          stack,
        )

    -- an exit that both graphs have
    pub same_exit : (x : Exit) → ExitIn g (spot_at g b).home (V b) x → Lands g x
        → ((c : ℕ) → (block_at h c).named ≡ (block_at g c).named)
        → Along (leave g x s fs k) (leave h x (wider A post s) es k)
    same_exit (Goto c) i l named = goes_to b c there i s post n more fs es k stack
    same_exit (Branch t c d) i l named = branches t c d i
    same_exit (Call x f ts back) i l named = calls x f ts back i
    same_exit (Return t) i l named = gives_back t i
    same_exit (Send t ts ls) i l named = sends t ts ls i l named
    same_exit Stop i l named = (refl, refl)
