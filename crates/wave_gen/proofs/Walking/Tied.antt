-- The walk of a graph and the run of a draft that is drawn from it.
use Rattle.std.proofs.Common.{ℕ, zero, suc, ◌+◌, ◌-◌, ◌≡◌, ◌<◌, ◌≤◌, ◌⊎◌, ◌==◌, Bool, true, false, cond, eqb}
use Rattle.std.proofs.Common.{List, [], ◌∷◌, ◌++◌, length, map, min, Some, None, if◌then◌else◌, slice_index}
use Rattle.std.proofs.Common.{slice_set, refl, sym, ap, ◌∙◌, subst, inl, inr, arith, eq-eqb, ne_eqb}
use Rattle.std.proofs.lemmas.Bool.{cases_eq, cond-true, cond-false}
use Rattle.std.specs.List.{AllByRecursion}
use Rattle.ws_words.specs.Outside.{Outside, ProcState, World, zeros, opening_out}
use Rattle.ws_isa.specs.declared.instr.Op.TheVariants.{Merge}
use Rattle.ws_isa.specs.Image as image
use Rattle.ws_isa.specs.Image.{Image, Array}
use Rattle.cfg_core.specs.Graph as graph
use Rattle.cfg_core.specs.Graph.{Graph, Spot, spots, spot_at, no_spot}
use Rattle.cfg_core.specs.Rules as rules
use Rattle.cfg_core.specs.Rules.{IsGraph, BlockNumbers, TermIn, StaysIn, ExitIn, ChoosesBare}
use Rattle.cfg_core.specs.Walk as walks
use Rattle.cfg_core.specs.Walk.{OpsOutcome, Done, Out, run_ops, Config, At, Over, Going, value, value_of}
use Rattle.cfg_core.specs.Walk.{leave, passed, step, walk}
use Rattle.wave_gen.specs.Waits.{NameState, set, Code, RunPlace, names_at, pass, places}
use Rattle.wave_gen.specs.Wire.{Item, Make, Same}
use Rattle.wave_gen.specs.Plans.{HowLeft, Onto, Either, Lands, Halts, Plan, plan_at, pulse, draft_of, code_of}
use Rattle.wave_gen.specs.Plans.{filled}
use Rattle.wave_gen.proofs.Planning.Planned.{PlansAre, Inner, Outer, EdgesAre, AllIn, PadsFit}
use Rattle.wave_gen.proofs.OfItems.Runs.{run_item, run_items, run_choice}
use Rattle.wave_gen.specs.Gen.{gen_term, gen_ops, Agrees, FlipsWords}
use Rattle.wave_gen.specs.Drawn.{Source, gen_source, gen_terms}
use Rattle.wave_gen.proofs.Planning.DrawnPlans.{zero_items, Leads, here, zeroed_at, Keeps, LandsAt, LandsAll}
use Rattle.wave_gen.proofs.Planning.DrawnPlans.{ExitDrawn, BlockDrawn, Drawn, ExitFine, BlockFine, WalkFine}
use Rattle.wave_gen.proofs.OfItems.Terms.{run_append, agrees_on, set_here, set_other}
use Rattle.wave_gen.proofs.OfItems.Ops.{IsState, Left, ops_left, get_set, get_other}
use Rattle.wave_gen.proofs.OfItems.Sources.{Last, source_last, GiveMany, terms_give}
use Rattle.wave_gen.proofs.OfItems.Running.{Chained}
use Rattle.wave_gen.proofs.Drawing.Waiting.{target_there}
use Rattle.wave_gen.proofs.Walking.Following.{ending, left, stopped, To, onto, either, lands}
use Rattle.ws_words.proofs.Numbers.{zeros_count as zeros_length}
use Rattle.ws_isa.proofs.Opening.{zeros_index as zeros_at}
use Rattle.ws_words.proofs.Held.{set_length}
use Rattle.cfg_core.proofs.Spots.{landed_count as landed_length}
use Rattle.ws_words.specs.Items.{nth, or_else, In, Distinct}
use Rattle.ws_words.proofs.Acts.{with_more}

pub all_at : {A : Type 0} (P : A → Type 0) (xs : List A) (d : A) (i : ℕ) → AllByRecursion P xs → i < length xs
    → P (or_else (nth xs i) d)
all_at P [] d i h l = absurd (omega arith)
all_at P (x ∷ xs) d zero h l = h.0
all_at P (x ∷ xs) d (suc i) h l = all_at P xs d i h.1 (omega arith)

-- blocks of one procedure have as many variables
in_proc : (h v : ℕ) (bs : List graph.Block) (rest : List Spot) (i : ℕ) (s : Spot)
    → nth (graph.spots_in h v bs ++ rest) i ≡ Some s → ((s.home ≡ h) × (s.vars ≡ v))
    ⊎ ((j : ℕ) × (nth rest j ≡ Some s))
in_proc h v (b ∷ bs) rest (suc i) s e = in_proc h v bs rest i s e
in_proc h v bs rest i s e = grind arith

record HomeOf (h : ℕ) (procs : List graph.GraphProc) (s : Spot) : Type 0 where
  pub proc : graph.GraphProc
  pub low : h ≤ s.home
  pub is : nth procs (s.home - h) ≡ Some proc
  pub vars : proc.vars ≡ s.vars

home_of : (h : ℕ) (procs : List graph.GraphProc) (i : ℕ) (s : Spot) → nth (graph.spots_from h procs) i
    ≡ Some s → HomeOf h procs s
home_of h [] i s e = absurd (let a : None ≡ Some s = e in cc)
home_of h (p ∷ procs) i s e = go (in_proc h p.vars p.blocks (graph.spots_from (suc h) procs) i s e)
    (λ j f. home_of (suc h) procs j s f)
  where
    go : ((s.home ≡ h) × (s.vars ≡ p.vars)) ⊎ ((j : ℕ) × (nth (graph.spots_from (suc h) procs) j ≡ Some s))
        → ((j : ℕ) → nth (graph.spots_from (suc h) procs) j ≡ Some s → HomeOf (suc h) procs s)
        → HomeOf h (p ∷ procs) s
    go h ih = grind arith

pub spot_nth : (xs : List Spot) (i : ℕ) → i < length xs → nth xs i ≡ Some (or_else (nth xs i) no_spot)
spot_nth (x ∷ xs) (suc i) l = spot_nth xs i (omega arith)
spot_nth xs i l = grind arith

pub same_home : (g : Graph) (b c : ℕ) → b < length (spots g) → c < length (spots g)
    → (spot_at g c).home ≡ (spot_at g b).home → (spot_at g c).vars ≡ (spot_at g b).vars
unfolding spot_at
same_home g b c l m e =
    let x = home_of 0 g.procs b (spot_at g b) (spot_nth (spots g) b l) in
    let y = home_of 0 g.procs c (spot_at g c) (spot_nth (spots g) c m) in
    let f : Some y.proc ≡ Some x.proc = sym y.is ∙ ap (λ (h : ℕ). nth g.procs (h - 0)) e ∙ x.is in
    let q : y.proc ≡ x.proc = cc in
    sym y.vars ∙ ap (λ (p : graph.GraphProc). p.vars) q ∙ x.vars

-- what a Send leaves in a landing's variables
landed_other : (xs vs vars : List ℕ) (y : ℕ) → (In y xs → ⊥) → slice_index (walks.landed xs vs vars) y
    ≡ slice_index vars y
landed_other (x ∷ xs) (v ∷ vs) vars y n =
    grind (arith, get_other, landed_other xs vs (slice_set vars x v) y (λ h. n (inr h)))
landed_other xs vs vars y n = grind arith

-- as names: the pads' names have the values, all others 0
fills : (xs names vs vars : List ℕ) (env : ℕ → ℕ) (y : ℕ) → Distinct xs → map env names ≡ vs → y < length vars
    → slice_index vars y ≡ 0 → length names ≡ length xs →
    filled (map suc xs) names env (suc y) ≡ slice_index (walks.landed xs vs vars) y
fills (x ∷ xs) (m ∷ names) (v ∷ vs) vars env y a e l z n =
    let q : env m ∷ map env names ≡ v ∷ vs = e in
    let hd : env m ≡ v = cc in
    let tl : map env names ≡ vs = cc in
    elim (cases_eq y x) [
      | inl f ↦ rw (eq-eqb (suc y) (suc x) (ap suc f))
          (hd ∙ sym (landed_other xs vs (slice_set vars x v) y (λ h. a.0 (rw f at h))
          ∙ ap (slice_index (slice_set vars x v)) f ∙ get_set vars x v (omega arith)))
      | inr f ↦ rw (ne_eqb (suc y) (suc x) (λ h. f (let w : y ≡ x = omega arith in w)))
          (fills xs names vs (slice_set vars x v) env y a.1 tl
          (let u : length (slice_set vars x v) ≡ length vars = set_length vars x v in omega (arith, l))
          (get_other vars x y v f ∙ z) (omega arith))
    ]
fills xs names vs vars env y a e l z n = grind (arith, z)

-- the landing that is chosen
landing_pair : (g : Graph) (ps : List Plan) (place : ℕ → ℕ) (zeroed : ℕ → List ℕ) (ns cs : List ℕ) (a : ℕ)
    → 1 ≤ length cs → LandsAll g ps place zeroed ns cs → LandsAt g ps place zeroed (image.landing_of ns a)
    (walks.landing a cs)
landing_pair g ps place zeroed [] [] a l h = absurd (omega arith)
landing_pair g ps place zeroed [] (c ∷ cs) a l h = absurd h
landing_pair g ps place zeroed (n ∷ ns) [] a l h = absurd h
landing_pair g ps place zeroed (n ∷ []) (c ∷ []) a l h = rw (only a) h.0
  where
    only : (a : ℕ) → slice_index (c ∷ []) (min a (1 - 1)) ≡ c
    only a = let z : min a 0 ≡ 0 = omega arith in rw z refl
landing_pair g ps place zeroed (n ∷ []) (c ∷ d ∷ cs) a l h = absurd h.1
landing_pair g ps place zeroed (n ∷ m ∷ ns) (c ∷ []) a l h = absurd h.1
landing_pair g ps place zeroed (n ∷ m ∷ ns) (c ∷ d ∷ cs) zero l h = let z : min 0 (suc (suc (length cs)) - 1)
    ≡ 0 = omega arith in rw z h.0
landing_pair g ps place zeroed (n ∷ m ∷ ns) (c ∷ d ∷ cs) (suc a) l h =
    let z : min (suc a) (suc (suc (length cs)) - 1) ≡ suc (min a (suc (length cs) - 1)) = omega arith in
    rw z (landing_pair g ps place zeroed (m ∷ ns) (d ∷ cs) a (omega arith) h.1)

landing_in : (cs : List ℕ) (a : ℕ) (P : ℕ → Type 0) → 1 ≤ length cs → AllByRecursion P cs
    → P (walks.landing a cs)
landing_in [] a P l h = absurd (omega arith)
landing_in (c ∷ []) a P l h = let z : min a (1 - 1) ≡ 0 = omega arith in rw z h.0
landing_in (c ∷ d ∷ cs) zero P l h = let z : min 0 (suc (suc (length cs)) - 1) ≡ 0 = omega arith in rw z h.0
landing_in (c ∷ d ∷ cs) (suc a) P l h = grind (arith, landing_in (d ∷ cs) a P (omega arith) h.1)

names_count : (k : ℕ) (ts : List graph.Term) → length (gen_terms k ts).names ≡ length ts
names_count k [] = refl
names_count k (t ∷ ts) = ap suc (names_count (suc (gen_term k t).next) ts)

term_next : (k : ℕ) (t : graph.Term) → k ≤ (gen_term k t).next
term_next k (graph.Cell a t) = grind (arith, term_next k t)
term_next k (graph.Flip t) = grind (arith, term_next k t)
term_next k (graph.Not t) = grind (arith, term_next k t)
term_next k (graph.Neg t) = grind (arith, term_next k t)
term_next k (graph.Binary op a b) = grind (arith, term_next k a, term_next (gen_term k a).next b)
term_next k t = grind arith

terms_next : (k : ℕ) (ts : List graph.Term) → k ≤ (gen_terms k ts).next
terms_next k [] = omega arith
terms_next k (t ∷ ts) = grind (arith, term_next, terms_next (suc (gen_term k t).next) ts)

-- the names of values are below the next free one
map_below : (k : ℕ) (ts : List graph.Term) (f h : ℕ → ℕ) → ((y : ℕ) → y < (gen_terms k ts).next → f y ≡ h y)
    → map f (gen_terms k ts).names ≡ map h (gen_terms k ts).names
map_below k [] f h e = refl
map_below k (t ∷ ts) f h e = grind (arith, terms_next, map_below (suc (gen_term k t).next) ts f h e)

landing_outer : (ps : List Plan) (values ls : List ℕ) (r : ℕ) → 1 ≤ length ls
    → AllIn ls (λ c. Outer ps c × PadsFit ps
    values c) → Outer ps (image.landing_of ls r)
landing_outer ps values (c ∷ d ∷ ls) (suc r) l a = landing_outer ps values (d ∷ ls) r (omega arith) a.1
landing_outer ps values ls r l a = grind arith

agrees_zero : (vars : List ℕ) (env : ℕ → ℕ) (x : ℕ) → slice_index vars x ≡ 0 → Agrees vars env
    → Agrees vars (set env (suc x) (env pulse))
agrees_zero vars env x z a = grind (arith, set_other, cases_eq, set_here)

-- zeroing variables that are 0
zeroes : (zs : List ℕ) (st : ProcState) (s : NameState) → ((x : ℕ) → In x zs → slice_index st.vars x ≡ 0)
    → IsState st s → IsState st (run_items (zero_items zs) s)
zeroes [] st s z i = i
zeroes (x ∷ xs) st s z i = zeroes xs st (run_item (Same (suc x) pulse) s) (λ y h. z y (inr h))
    (record { agrees = agrees_zero st.vars s.env x (z x (inl refl)) i.agrees; out = i.out })

module _ (arrays : List Array) (width : ℕ) (ps : List Plan) (Live : ℕ → ℕ → Type 0)
    (plans : PlansAre ps width Live) (g : Graph) (is_graph : IsGraph g)
    (place : ℕ → ℕ) (zeroed : ℕ → List ℕ) (drawn : Drawn g ps width place zeroed) where
  abbrev I : Image
  I = draft_of arrays width ps

  abbrev C : Code
  C = code_of width ps

  abbrev There : ℕ → Type 0
  There n = (1 ≤ n) × (n ≤ length ps)

  abbrev pub next : RunPlace → RunPlace
  next p = cond p.over p (pass I C p)

  abbrev pub nexts : ℕ → RunPlace → RunPlace
  nexts zero p = p
  nexts (suc i) p = nexts i (next p)

  -- the draft stands at the start of the plan with this number, with the values of a state, some of which are
  -- 0
  pub record Stands (n : ℕ) (zs : List ℕ) (st : ProcState) (p : RunPlace) : Type 0 where
    pub over : p.over ≡ false
    pub there : There n
    pub block : p.block ≡ n
    pub state : IsState st (record { env = p.env; out = p.out })
    pub wide : length st.vars < width
    pub zero : (x : ℕ) → In x zs → slice_index st.vars x ≡ 0

  -- and so at a block of the graph
  pub record AtBlock (b : ℕ) (st : ProcState) (p : RunPlace) : Type 0 where
    pub there : b < length (spots g)
    pub vars : (spot_at g b).vars ≡ length st.vars
    pub stands : Stands (place b) (zeroed b) st p

  wide_test : (n : ℕ) → There n → width ≤ (plan_at ps n).test
  wide_test n h = (plans.each n h).test

  one_next : (p : RunPlace) → p.over ≡ false → next p ≡ pass I C p
  one_next p o = cond-false p.over p (pass I C p) o

  -- a state that holds at a block's end holds behind the edge
  state_on : (p : RunPlace) (n : ℕ) (h : There n) (b : p.block ≡ n) (st : ProcState)
      → IsState st (ending arrays width ps Live plans p n h b) → length st.vars < width →
      ((x : ℕ) → (pass I C p).env x ≡ (names_at C p).env x) → (pass I C p).out
      ≡ (ending arrays width ps Live plans p n h b).out
      → IsState st (record { env = (pass I C p).env; out = (pass I C p).out })
  state_on p n h b st i w e o =
      let t : width ≤ (plan_at ps n).test = wide_test n h in
      let c = left arrays width ps Live plans p n h b in
      record {
        agrees = agrees_on st.vars width (length st.vars) (ending arrays width ps Live plans p n h b).env
            (pass I C p).env (omega arith) w (λ y l. e y ∙ c.env y (omega arith)) i.agrees;
        out = o ∙ i.out;
      }

  target_of : (n c : ℕ) → There n → (e : HowLeft) → (plan_at ps n).exit ≡ e → EdgesAre ps n e
  target_of n c h e q = rw q at (plans.each n h).edges

  -- the draft stands at the block
  arrives : (n c : ℕ) (leads : Leads ps place zeroed n c) (st : ProcState) (p : RunPlace)
      → c < length (spots g) → (spot_at g c).vars ≡ length st.vars → Stands n (zeroed_at leads) st p
      → AtBlock c st p
  arrives n c (here e) st p l v s = grind arith

  -- an edge that keeps the variables
  keeps_on : (n c : ℕ) → Keeps ps place zeroed n c → (st : ProcState) (p : RunPlace) → c < length (spots g)
      → (spot_at g c).vars ≡ length st.vars → p.over ≡ false → There n → p.block ≡ n
      → IsState st (record { env = p.env; out = p.out }) → length st.vars < width → AtBlock c st p
  keeps_on n c k st p l v o h b s w = grind (arith, arrives)

  -- the draft's place says of the graph's walk
  pub data Tied (p : RunPlace) : Config → Type 0 where
    at_block : (b : ℕ) (st : ProcState) (k : ℕ) → AtBlock b st p → Tied p (At b st [] k)
    at_end : (o : Outside) (k : ℕ) → p.over ≡ true → p.out ≡ o → Tied p (Over o k)
    out_of_turns : (o : Outside) → Tied p (Going o)

  spot_numbers : (c : ℕ) → c < length (spots g) → BlockNumbers g (spot_at g c)
  unfolding spot_at
  spot_numbers c l = all_at (BlockNumbers g) (spots g) no_spot c is_graph.numbers.blocks l

  lands_at : (c : ℕ) → c < length (spots g) → rules.Lands g (graph.block_at g c).exit
  unfolding spot_at
  lands_at c l = all_at (λ s. rules.Lands g s.block.exit) (spots g) no_spot c is_graph.landings l

  -- one block of the graph
  module _ (b : ℕ) (st : ProcState) (p : RunPlace) (a : AtBlock b st p) (fine : BlockFine g b st) where
    spot : BlockNumbers g (spot_at g b)
    unfolding spot_at
    spot = all_at (BlockNumbers g) (spots g) no_spot b is_graph.numbers.blocks a.there

    bare : AllByRecursion ChoosesBare (graph.block_at g b).ops
    unfolding spot_at
    bare = all_at (λ s. AllByRecursion ChoosesBare s.block.ops) (spots g) no_spot b is_graph.bare a.there

    d : BlockDrawn g ps width place zeroed b
    d = drawn.blocks b a.there

    n : ℕ
    n = place b

    abbrev s0 : NameState
    s0 = record { env = p.env; out = p.out }

    abbrev s1 : NameState
    s1 = run_items (zero_items (zeroed b)) s0

    abbrev s2 : NameState
    s2 = run_items (gen_ops width (graph.block_at g b).ops).items s1

    state1 : IsState st s1
    state1 = zeroes (zeroed b) st s0 a.stands.zero a.stands.state

    items_run : run_items (plan_at ps (place b)).items s0 ≡ run_items d.first s2
    items_run = grind (arith, d, s0, run_append, zero_items, s1)

    ops_done : (st' : ProcState) (k l : ℕ) → run_ops (graph.block_at g b).ops st k ≡ Done st' l
        → Left width st st' (gen_ops width (graph.block_at g b).ops).items
        (gen_ops width (graph.block_at g b).ops).next s1
    ops_done st' k l e = ops_left g (graph.block_at g b).ops width (spot_at g b).vars st st' s1 k l spot.ops
        bare a.vars d.wide fine.ops state1 e

    abbrev E : NameState
    E = ending arrays width ps Live plans p (place b) a.stands.there a.stands.block

    ending_is : (e : HowLeft) → (plan_at ps (place b)).exit ≡ e → E ≡ run_choice (plan_at ps (place b)).test e
        (run_items d.first s2)
    ending_is e q = grind (arith, run_choice, run_items, s0, items_run)

    -- one more plan, and the draft's place says of the graph's walk
    abbrev pub More : Config → Type 0
    More c = Tied (next p) c

    -- one more plan
    after : (q : RunPlace) → q ≡ pass I C p → (c : Config) → Tied q c → More c
    after q e c t = rw (e ∙ sym (one_next p a.stands.over)) at t

    tie_at : (c : ℕ) (st' : ProcState) (k : ℕ) → AtBlock c st' (pass I C p) → More (At c st' [] k)
    tie_at c st' k r = after (pass I C p) refl (At c st' [] k) (at_block c st' k r)

    tie_over : (o : Outside) (k : ℕ) → (pass I C p).over ≡ true → (pass I C p).out ≡ o → More (Over o k)
    tie_over o k x y = after (pass I C p) refl (Over o k) (at_end o k x y)

    -- the exits
    module _ (st' : ProcState) (k l : ℕ) (e : run_ops (graph.block_at g b).ops st k ≡ Done st' l) where
      z : Left width st st' (gen_ops width (graph.block_at g b).ops).items
          (gen_ops width (graph.block_at g b).ops).next s1
      z = ops_done st' k l e

      len : (spot_at g b).vars ≡ length st'.vars
      len = a.vars ∙ sym z.length_same

      small : length st'.vars < width
      small = grind (arith, d, len)

      high : (spot_at g b).vars < (gen_ops width (graph.block_at g b).ops).next
      high = grind (arith, d, z)

      same_vars : (c : ℕ) → StaysIn g (spot_at g b).home c → (spot_at g c).vars ≡ length st'.vars
      same_vars c h = same_home g b c a.there h.0 h.1 ∙ len

      there_of : (m : ℕ) → Inner ps (place b) m ⊎ Outer ps m → There m
      there_of m x = target_there arrays width ps Live plans (place b) m a.stands.there x

      go_goto : (c : ℕ) → StaysIn g (spot_at g b).home c → (m : ℕ) → d.first ≡ []
          → (plan_at ps (place b)).exit ≡ Onto m → Keeps ps place zeroed m c → More (At c st' [] l)
      go_goto c h m f q keep =
          let t = onto arrays width ps Live plans p (place b) a.stands.there a.stands.block m q in
          let s : E ≡ s2 = ending_is (Onto m) q ∙ ap (λ (x : List Item). run_items x s2) f in
          let i : IsState st' E = rw s z.is in
          tie_at c st' l (keeps_on m c keep st' (pass I C p) h.0 (same_vars c h) t.over
          (there_of m (target_of (place b) m a.stands.there (Onto m) q)) t.block
          (state_on p (place b) a.stands.there a.stands.block st' i small t.env_is t.out) small)

      go_halt : (o : Outside) → (plan_at ps (place b)).exit ≡ Halts → (run_items d.first s2).out ≡ o
          → More (Over o l)
      go_halt o q f =
          let t = stopped arrays width ps Live plans p (place b) a.stands.there a.stands.block q in
          tie_over o l t.0 (t.1 ∙ ap (λ (x : NameState). x.out) (ending_is Halts q) ∙ f)

      go_return : (t : graph.Term) → TermIn (length g.arrays) (spot_at g b).vars t
          → FlipsWords t st'.vars st'.out.cells
          → d.first ≡ (gen_term (gen_ops width (graph.block_at g b).ops).next t).items
          → (plan_at ps (place b)).exit ≡ Halts → More (Over (value_of t st').1.out l)
      go_return t i f u q = go_halt (value_of t st').1.out q (ap (λ (x : List Item). (run_items x s2).out) u
          ∙ (Rattle.wave_gen.proofs.OfItems.Ops.behind_term g t (gen_ops width (graph.block_at g b).ops).next
          (spot_at g b).vars st' s2 i len high z.is f).out)

      go_branch : (t : graph.Term) (x y : ℕ) → ExitIn g (spot_at g b).home (spot_at g b).vars
          (graph.Branch t x y) → FlipsWords t st'.vars st'.out.cells → (m n : ℕ)
          → d.first ≡ (gen_source (gen_ops width (graph.block_at g b).ops).next t).items →
          (plan_at ps (place b)).exit ≡ Either (gen_source (gen_ops width (graph.block_at g b).ops).next t).op
          (gen_source (gen_ops width (graph.block_at g b).ops).next t).from m n
          → Keeps ps place zeroed m x → Keeps ps place zeroed n y →
          More (leave g (graph.Branch t x y) st' [] l)
      go_branch t x y i f m n u q kx ky = go (value t st'.vars st'.out.cells == 0) refl
        where
          K : ℕ
          K = (gen_ops width (graph.block_at g b).ops).next

          src : Source
          src = gen_source (gen_ops width (graph.block_at g b).ops).next t

          cells : s2.out.cells ≡ st'.out.cells
          cells = ap (λ (o : Outside). o.cells) z.is.out

          w : Last (gen_ops width (graph.block_at g b).ops).next s2
              (gen_source (gen_ops width (graph.block_at g b).ops).next t) (value t st'.vars st'.out.cells)
              (walks.loads_of t st'.vars st'.out.cells)
          w = subst (λ (cs : List (List ℕ)). Last (gen_ops width (graph.block_at g b).ops).next s2
              (gen_source (gen_ops width (graph.block_at g b).ops).next t) (value t st'.vars cs)
              (walks.loads_of t st'.vars cs)) cells
              (source_last g t (gen_ops width (graph.block_at g b).ops).next (spot_at g b).vars st'.vars s2
              i.0 len high z.is.agrees (subst (λ (cs : List (List ℕ)). FlipsWords t st'.vars cs)
              (sym cells) f))

          E_is : E ≡ run_item (Make (plan_at ps (place b)).test src.op src.from) (run_items src.items s2)
          E_is = ending_is (Either src.op src.from m n) q
              ∙ ap (λ (r : List Item). run_item (Make (plan_at ps (place b)).test src.op src.from)
              (run_items r s2)) u

          test_value : E.env (plan_at ps (place b)).test ≡ value t st'.vars st'.out.cells
          test_value = ap (λ (r : NameState). r.env (plan_at ps (place b)).test) E_is
              ∙ set_here (run_items src.items s2).env (plan_at ps (place b)).test _ ∙ w.value

          end_state : IsState (value_of t st').1 E
          end_state = record {
            agrees = agrees_on st'.vars width (length st'.vars) s2.env E.env (omega arith) small
                (λ r v. ap (λ (x : NameState). x.env r) E_is ∙ set_other (run_items src.items s2).env
                (plan_at ps (place b)).test _ r
                (λ e'. (let lt : width ≤ (plan_at ps (place b)).test = wide_test (place b)
                a.stands.there in omega arith))
                ∙ w.keeps r (let lt : width ≤ (gen_ops width (graph.block_at g b).ops).next = z.next in
                omega arith)) z.is.agrees;
            out = ap (λ (r : NameState). r.out) E_is ∙ w.out
                ∙ ap (λ (o : Outside). with_more o (walks.loads_of t st'.vars st'.out.cells)) z.is.out;
          }

          t0 : To arrays width ps Live plans p (place b) a.stands.there a.stands.block
              (cond (eqb (E.env (plan_at ps (place b)).test) 0) n m) (names_at C p).env
          t0 = either arrays width ps Live plans p (place b) a.stands.there a.stands.block src.op src.from m n
              q

          to : (c r : ℕ) → StaysIn g (spot_at g b).home c → Inner ps (place b) r → Keeps ps place zeroed r c
              → cond (eqb (E.env (plan_at ps (place b)).test) 0) n m ≡ r → More (At c (value_of t st').1 [] l)
          to c r h inn keep e' =
              tie_at c (value_of t st').1 l (keeps_on r c keep (value_of t st').1 (pass I C p) h.0
              (same_vars c h) t0.over (there_of r (inl inn)) (t0.block ∙ e')
              (state_on p (place b) a.stands.there a.stands.block (value_of t st').1 end_state small t0.env_is
              t0.out) small)

          edges : Inner ps (place b) m × Inner ps (place b) n
          edges = target_of (place b) m a.stands.there (Either src.op src.from m n) q

          go : (v : Bool) → (value t st'.vars st'.out.cells == 0) ≡ v
              → More (if v then At y (value_of t st').1 [] l else At x (value_of t st').1 [] l)
          go true v = to y n i.2 edges.1 ky (ap (λ (r : ℕ). cond (eqb r 0) n m) test_value
              ∙ ap (λ (c : Bool). cond c n m) v)
          go false v = to x m i.1 edges.0 kx (ap (λ (r : ℕ). cond (eqb r 0) n m) test_value
              ∙ ap (λ (c : Bool). cond c n m) v)

      go_send : (t : graph.Term) (ts : List graph.Term) (ls : List ℕ)
          → (gen_terms (gen_term (gen_ops width (graph.block_at g b).ops).next t).next ts).next
          ≤ (plan_at ps (place b)).test → ExitIn g (spot_at g b).home (spot_at g b).vars (graph.Send t ts ls)
          → rules.Lands g (graph.Send t ts ls) →
          FlipsWords t st'.vars st'.out.cells × AllByRecursion (λ u. FlipsWords u st'.vars st'.out.cells) ts →
          (let A = gen_term (gen_ops width (graph.block_at g b).ops).next t in let M = gen_terms A.next ts in
          (ns : List ℕ) → d.first ≡ A.items ++ M.items → (plan_at ps (place b)).exit ≡ Lands Merge
          (A.name ∷ []) (pulse ∷ M.names) ns → LandsAll g ps place zeroed ns ls
          → More (leave g (graph.Send t ts ls) st' [] l))
      go_send t ts ls high_test i lands' f ns u q all = tie_at c' land l
          (arrives (image.landing_of ns v) c' at.leads land (pass I C p) c_there c_vars standing)
        where
          K : ℕ
          K = (gen_ops width (graph.block_at g b).ops).next

          A : Rattle.wave_gen.specs.Gen.Got
          A = gen_term (gen_ops width (graph.block_at g b).ops).next t

          M : Rattle.wave_gen.specs.Drawn.Many
          M = gen_terms (gen_term (gen_ops width (graph.block_at g b).ops).next t).next ts

          v : ℕ
          v = value t st'.vars st'.out.cells

          stA : ProcState
          stA = (value_of t st').1

          cells : s2.out.cells ≡ st'.out.cells
          cells = ap (λ (o : Outside). o.cells) z.is.out

          hA : Rattle.wave_gen.proofs.OfItems.Terms.Gives (gen_ops width (graph.block_at g b).ops).next s2
              (gen_term (gen_ops width (graph.block_at g b).ops).next t) (value t st'.vars st'.out.cells)
              (walks.loads_of t st'.vars st'.out.cells)
          hA = Rattle.wave_gen.proofs.OfItems.Ops.on_state g t (gen_ops width (graph.block_at g b).ops).next
              (spot_at g b).vars st' s2 i.0 len high z.is f.0

          sA : NameState
          sA = run_items (gen_term (gen_ops width (graph.block_at g b).ops).next t).items s2

          iA : IsState (value_of t st').1
              (run_items (gen_term (gen_ops width (graph.block_at g b).ops).next t).items s2)
          iA = Rattle.wave_gen.proofs.OfItems.Ops.behind_term g t
              (gen_ops width (graph.block_at g b).ops).next (spot_at g b).vars st' s2 i.0 len high z.is f.0

          highA : (spot_at g b).vars < A.next
          highA = let x : K ≤ A.next = hA.next in omega (arith, high)

          cA : sA.out.cells ≡ st'.out.cells
          cA = ap (λ (o : Outside). o.cells) iA.out

          hM : GiveMany g A.next sA M.items M.names (walks.values ts st'.vars st'.out.cells)
              (walks.all_loads ts st'.vars st'.out.cells)
          hM = subst (λ (cs : List (List ℕ)). GiveMany g A.next sA M.items M.names
              (walks.values ts st'.vars cs) (walks.all_loads ts st'.vars cs)) cA
              (terms_give g ts A.next (spot_at g b).vars st'.vars sA i.1 len highA iA.agrees
              (subst (λ (cs : List (List ℕ)). AllByRecursion (λ u. FlipsWords u st'.vars cs) ts) (sym cA)
              f.1))

          sM : NameState
          sM = run_items M.items sA

          E_is : E ≡ run_item (Make (plan_at ps (place b)).test Merge (A.name ∷ [])) (run_items M.items sA)
          E_is = ending_is (Lands Merge (A.name ∷ []) (pulse ∷ M.names) ns) q
              ∙ ap (λ (r : List Item). run_item (Make (plan_at ps (place b)).test Merge (A.name ∷ []))
              (run_items r s2)) u
              ∙ ap (run_item (Make (plan_at ps (place b)).test Merge (A.name ∷ [])))
              (run_append A.items M.items s2)

          test_value : E.env (plan_at ps (place b)).test ≡ value t st'.vars st'.out.cells
          test_value = ap (λ (r : NameState). r.env (plan_at ps (place b)).test) E_is
              ∙ set_here (run_items M.items sA).env (plan_at ps (place b)).test
              ((run_items M.items sA).env A.name) ∙ hM.keeps A.name hA.named ∙ hA.value

          c' : ℕ
          c' = walks.landing (value t st'.vars st'.out.cells) ls

          land : ProcState
          land = record {
            vars = walks.landed (graph.block_at g c').named
                (walks.values ts stA.vars stA.out.cells) (zeros (spot_at g c').vars);
            out = (walks.values_of ts stA).1.out;
          }

          at : LandsAt g ps place zeroed (image.landing_of ns (value t st'.vars st'.out.cells)) c'
          at = landing_pair g ps place zeroed ns ls (value t st'.vars st'.out.cells) lands'.0 all

          c_there : c' < length (spots g)
          c_there = landing_in ls (value t st'.vars st'.out.cells) (λ r. r < length (spots g)) lands'.0 i.2

          c_vars : (spot_at g c').vars ≡ length land.vars
          c_vars = sym (landed_length (graph.block_at g c').named (walks.values ts stA.vars stA.out.cells)
              (zeros (spot_at g c').vars) ∙ zeros_length (spot_at g c').vars)

          standing : Stands (image.landing_of ns (value t st'.vars st'.out.cells)) (zeroed_at at.leads) land
              (pass I C p)
          standing = record {
            over = t0.over;
            there = (out_of.some, out_of.there);
            block = t0.block ∙ ap (image.landing_of ns) test_value;
            state = record {
              agrees = record { zero_pulse = pass_zero; var = pass_var };
              out = t0.out ∙ ap (λ (r : NameState). r.out) E_is ∙ hM.out
                  ∙ ap (λ (o : Outside). with_more o (walks.all_loads ts st'.vars st'.out.cells)) iA.out;
            };
            wide = (let x : (spot_at g c').vars < width = (drawn.blocks c' c_there).wide in
                let y : (spot_at g c').vars ≡ length land.vars = c_vars in omega arith);
            zero = λ x h. landed_other (graph.block_at g c').named (walks.values ts stA.vars stA.out.cells)
                (zeros (spot_at g c').vars) x (at.apart x h) ∙ zeros_at (spot_at g c').vars x;
          }
            where
              t0 : To arrays width ps Live plans p (place b) a.stands.there a.stands.block
                  (image.landing_of ns (E.env (plan_at ps (place b)).test))
                  (filled (plan_at ps (image.landing_of ns (E.env (plan_at ps (place b)).test))).pads
                  (pulse ∷ M.names) (names_at C p).env)
              t0 = lands arrays width ps Live plans p (place b) a.stands.there a.stands.block Merge
                  (A.name ∷ []) (pulse ∷ M.names) ns q

              out_of : Outer ps (image.landing_of ns (value t st'.vars st'.out.cells))
              out_of = let x = target_of (place b) 0 a.stands.there
                  (Lands Merge (A.name ∷ []) (pulse ∷ M.names) ns) q in grind (arith, landing_outer)

              pads_are : (plan_at ps (image.landing_of ns (E.env (plan_at ps (place b)).test))).pads ≡ pulse
                  ∷ map suc (graph.block_at g c').named
              pads_are = ap (λ (r : ℕ). (plan_at ps (image.landing_of ns r)).pads) test_value ∙ at.pads

              chain : Chained (plan_at ps (place b)).test E (names_at C p)
              chain = left arrays width ps Live plans p (place b) a.stands.there a.stands.block

              pass_env : (x : ℕ) → (pass I C p).env x ≡ filled (pulse ∷ map suc (graph.block_at g c').named)
                  (pulse ∷ M.names) (names_at C p).env x
              pass_env x = t0.env_is x ∙ ap (λ (r : List ℕ). filled r (pulse ∷ M.names) (names_at C p).env x)
                  pads_are

              below_test : (y : ℕ) → y < (plan_at ps (place b)).test → (names_at C p).env y ≡ sM.env y
              below_test y u = chain.env y (omega arith) ∙ ap (λ (r : NameState). r.env y) E_is
                  ∙ set_other (run_items M.items sA).env (plan_at ps (place b)).test
                  ((run_items M.items sA).env A.name) y (λ r. omega arith)

              values_are : map (names_at C p).env M.names ≡ walks.values ts st'.vars st'.out.cells
              values_are = map_below A.next ts (names_at C p).env sM.env
                  (λ y u. below_test y (let x : M.next ≤ (plan_at ps (place b)).test = high_test in
                  omega arith)) ∙ hM.values

              pass_zero : (pass I C p).env pulse ≡ 0
              pass_zero = pass_env pulse ∙ below_test pulse (grind (arith, wide_test)) ∙ hM.keeps pulse
                  (let x : K ≤ A.next = hA.next in let y : (spot_at g b).vars < K = high in omega arith)
                  ∙ iA.agrees.zero_pulse

              named_as_many : length M.names ≡ length (graph.block_at g c').named
              named_as_many = names_count A.next ts
                  ∙ sym (landing_in ls (value t st'.vars st'.out.cells)
                  (λ r. length (graph.block_at g r).named ≡ length ts) lands'.0 lands'.1)

              numbers : BlockNumbers g (spot_at g c')
              numbers = spot_numbers c' c_there

              pass_var : (x : ℕ) → x < length land.vars → (pass I C p).env (suc x) ≡ slice_index land.vars x
              pass_var x u = pass_env (suc x)
                  ∙ rw (ne_eqb (suc x) pulse (λ r. omega arith))
                  (fills (graph.block_at g c').named M.names (walks.values ts st'.vars st'.out.cells)
                  (zeros (spot_at g c').vars) (names_at C p).env x numbers.once values_are
                  (let y : (spot_at g c').vars ≡ length land.vars = c_vars in
                  let w : length (zeros (spot_at g c').vars) ≡ (spot_at g c').vars =
                  zeros_length (spot_at g c').vars in omega arith) (zeros_at (spot_at g c').vars x)
                  named_as_many)

    -- a block, with its exit
    leaves_so : (st' : ProcState) (k l : ℕ) → run_ops (graph.block_at g b).ops st k ≡ Done st' l
        → (x : graph.Exit) → (graph.block_at g b).exit ≡ x → More (leave g x st' [] l)
    leaves_so st' k l e x q =
        go x q (subst (λ (y : graph.Exit). ExitDrawn g ps place zeroed
        (gen_ops width (graph.block_at g b).ops).next y d.first (plan_at ps (place b)).exit) q d.exit)
        (subst (λ (y : graph.Exit). ExitIn g (spot_at g b).home (spot_at g b).vars y) q spot.exit)
        (subst (λ (y : graph.Exit). ExitFine y st') q (fine.exit st' k l e))
        (subst (λ (y : graph.Exit). rules.Lands g y) q lands_rule)
        (subst (λ (y : graph.Exit). Rattle.wave_gen.specs.Drawn.exit_next
        (gen_ops width (graph.block_at g b).ops).next y ≤ (plan_at ps (place b)).test) q d.test)
      where
        lands_rule : rules.Lands g (graph.block_at g b).exit
        lands_rule = lands_at b a.there

        go : (x : graph.Exit) → (graph.block_at g b).exit ≡ x → ExitDrawn g ps place zeroed
            (gen_ops width (graph.block_at g b).ops).next x d.first (plan_at ps (place b)).exit
            → ExitIn g (spot_at g b).home (spot_at g b).vars x → ExitFine x st' → rules.Lands g x →
            Rattle.wave_gen.specs.Drawn.exit_next (gen_ops width (graph.block_at g b).ops).next x
            ≤ (plan_at ps (place b)).test → More (leave g x st' [] l)
        go (graph.Goto c) r w i f m t = go_goto st' k l e c i w.0 w.1 w.2 w.3
        go (graph.Branch u x y) r w i f m t = go_branch st' k l e u x y i f w.0 w.1 w.2 w.3 w.4 w.5
        go (graph.Call v f' ts back) r w i f m t = absurd w
        go (graph.Return u) r w i f m t = go_return st' k l e u i f w.0 w.1
        go (graph.Send u ts ls) r w i f m t = go_send st' k l e u ts ls t i m f w.0 w.1 w.2 w.3
        go graph.Stop r w i f m t =
            go_halt st' k l e st'.out w.1 (ap (λ (x : List Item). (run_items x s2).out) w.0
            ∙ (z st' k l e).is.out)

    pub block_step : (k : ℕ) → More (step g (At b st [] k))
    block_step k = go (run_ops (graph.block_at g b).ops st k) refl
      where
        go : (r : OpsOutcome) → run_ops (graph.block_at g b).ops st k ≡ r
            → More (passed g r (graph.block_at g b).exit [])
        go (Out o) e = out_of_turns o
        go (Done st' l) e = leaves_so st' k l e (graph.block_at g b).exit refl

  -- one block
  pub one_more : (p : RunPlace) (c : Config) → Tied p c → WalkFine g c → Tied (next p) (step g c)
  one_more p c (at_block b st k a) f = block_step b st p a (f 0 b st [] k refl) k
  one_more p c (at_end o k x y) f = subst (λ (q : RunPlace). Tied q (Over o k))
      (sym (cond-true p.over p (pass I C p) x)) (at_end o k x y)
  one_more p c (out_of_turns o) f = out_of_turns o

  -- after m blocks of the graph, as many plans
  pub follows : (m : ℕ) (p : RunPlace) (c : Config) → Tied p c → WalkFine g c → Tied (nexts m p) (walk g m c)
  follows zero p c t f = t
  follows (suc m) p c t f = follows m (next p) (step g c) (one_more p c t f)
      (λ n b st fr k e. f (suc n) b st fr k e)

  pub next_place : (o : Outside) (m i : ℕ) → nexts i (places I C o m) ≡ places I C o (m + i)
  next_place o m zero = let z : m + 0 ≡ m = omega arith in rw z refl
  next_place o m (suc i) = let z : m + suc i ≡ suc m + i = omega arith in rw z (next_place o (suc m) i)

  -- from the opening
  module _ (world : World) (turns : ℕ) (cells : image.cells_of arrays ≡ walks.cells_of g.arrays) where
    pub begins_so : graph.entry_of g (length g.procs - 1) < length (spots g)
        → (spot_at g (graph.entry_of g (length g.procs - 1))).vars
        ≡ (graph.proc_at g (length g.procs - 1)).vars
        → Tied (places I C (Rattle.ws_isa.specs.Walk.opening_memory I world) 0) (walks.opening g world turns)
    unfolding Rattle.ws_isa.specs.Walk.opening_memory draft_of
    begins_so l v =
        let w : (spot_at g (graph.entry_of g (length g.procs - 1))).vars < width =
        (drawn.blocks (graph.entry_of g (length g.procs - 1)) l).wide in
        let n : length (zeros (graph.proc_at g (length g.procs - 1)).vars)
        ≡ (graph.proc_at g (length g.procs - 1)).vars =
        zeros_length (graph.proc_at g (length g.procs - 1)).vars in
        let st : ProcState = record {
          vars = zeros (graph.proc_at g (length g.procs - 1)).vars;
          out = opening_out (walks.cells_of g.arrays) world;
        } in
        let r = arrives 1 (graph.entry_of g (length g.procs - 1)) drawn.start st
        (places I C (opening_out (image.cells_of arrays) world) 0) l (v ∙ sym n) (record {
          over = refl;
          there = (omega arith, plans.some);
          block = refl;
          state = record {
            agrees = record {
              zero_pulse = refl;
              var = λ x u.
                  sym (zeros_at (graph.proc_at g (length g.procs - 1)).vars x);
            };
            out = ap (λ (cs : List (List ℕ)). opening_out cs world) cells;
          };
          wide = omega arith;
          zero = λ x h. zeros_at (graph.proc_at g (length g.procs - 1)).vars x;
        }) in
        at_block (graph.entry_of g (length g.procs - 1)) st turns r
