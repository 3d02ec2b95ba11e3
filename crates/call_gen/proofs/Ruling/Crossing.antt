-- No variable is live across a call of the spelled graph.
use Rattle.std.proofs.Common.{ℕ, suc, ◌-◌, ◌==◌, ◌&&◌, ◌≡◌, ◌<◌, ◌≤◌, ◌⊎◌, not, nat_lt, Bool, true, false}
use Rattle.std.proofs.Common.{if◌then◌else◌, List, [], ◌∷◌, ◌++◌, length, map, refl, sym, ap, ◌∙◌, subst, inl}
use Rattle.std.proofs.Common.{inr, Option, arith}
use Rattle.std.specs.List.{AllByRecursion, filter}
use Rattle.std.proofs.lemmas.Bool.{cases_lt}
use Rattle.std.proofs.lemmas.Bool.Decides.{nat_tests}
use Rattle.std.proofs.lemmas.List.{length_push}
use Rattle.cfg_core.specs.Graph.{Term, Number, Var, Op, Exit, Goto, Branch, Call, Return, Send, Stop, Graph}
use Rattle.cfg_core.specs.Graph.{Spot, spots, spot_at, no_spot, block_at, proc_at, entry_of}
use Rattle.cfg_core.specs.Rules.{OpIn}
use Rattle.cfg_core.specs.Weights.{first_block}
use Rattle.live_vars.specs.Live.{Mentions, OneMentions, OpReads, OpWrites, ExitReads, ExitWrites, Carries}
use Rattle.live_vars.specs.Live.{WrittenIn, ReadsFirst, Live, reads, passes}
use Rattle.live_vars.specs.Marks.{has}
use Rattle.call_gen.specs.Spelled.{is_called, moved, door, landings, address, below, is_result, is_saved}
use Rattle.call_gen.specs.Spelled.{saved, save, load, saves, left, clear, is_unset, spelled}
use Rattle.call_gen.specs.Keeps.{NoneAcross, NoneAtStart, NoneLiveAcross, SendsAtMost, ParamsAtMost}
use Rattle.call_gen.proofs.Spelled.Facts.{Given, Placed}
use Rattle.call_gen.proofs.Spelled.Slots.{in_below, below_all}
use Rattle.call_gen.proofs.Along.Standing.{exit_in}
use Rattle.call_gen.proofs.Along.Leaves.{kept_live, kept_address}
use Rattle.call_gen.proofs.Spelled.Places.{all_placed, all_celled}
use Rattle.call_gen.proofs.Ruling.Cycles.{Sort, is_plain, is_none, every_spot, lands_at}
use Rattle.cfg_core.proofs.Spots.{filter_in, in_filter, each_at, numbers_at}
use Rattle.ws_words.specs.Items.{or_else, In}
use Rattle.live_vars.proofs.Needed.{first_exit}
use Rattle.live_vars.proofs.Written.{written_left}
use Rattle.live_vars.proofs.Below.{low, all_low, op_low}

-- read before it is written
abbrev pub ReadsIn : List Op → ℕ → Type 0
ReadsIn [] x = ⊥
ReadsIn (op ∷ ops) x = OpReads op x ⊎ ((OpWrites op x → ⊥) × ReadsIn ops x)

split : (xs ys : List Op) (exit : Exit) (x : ℕ) → ReadsFirst (xs ++ ys) exit x
    → ReadsIn xs x ⊎ ((WrittenIn xs x → ⊥) × ReadsFirst ys exit x)
split [] ys exit x h = inr ((λ w. w), h)
split (op ∷ xs) ys exit x (inl r) = inl (inl r)
split (op ∷ xs) ys exit x (inr n) = grind (arith, split xs ys exit x n.1)

first_in : (ops : List Op) (exit : Exit) (x : ℕ) → ReadsIn ops x → ReadsFirst ops exit x
first_in [] exit x h = absurd h
first_in (op ∷ ops) exit x (inl r) = inl r
first_in (op ∷ ops) exit x (inr n) = inr (n.0, first_in ops exit x n.1)

ops_low : (g : Graph) (v : ℕ) (ops : List Op) (x : ℕ) → AllByRecursion (OpIn (length g.arrays) v) ops
    → ReadsIn ops x → x < v
ops_low g v [] x i r = absurd r
ops_low g v (op ∷ ops) x i (inl r) = op_low g v op x i.0 r
ops_low g v (op ∷ ops) x i (inr r) = ops_low g v ops x i.1 r.1

push_mentions : (ts : List Term) (n x : ℕ) → OneMentions (ts ++ Number n ∷ []) x → OneMentions ts x
push_mentions (t ∷ ts) n x (inl m) = inl m
push_mentions (t ∷ ts) n x (inr m) = inr (push_mentions ts n x m)
push_mentions [] n x y = grind arith

module _ (g : Graph) (live : List (List ℕ)) (G : Given g live) where
  abbrev pub F : Placed g live
  F = all_placed g live G.rules

  abbrev h : Graph
  h = spelled g live

  saves_read : (home : ℕ) (xs : List ℕ) (exit : Exit) (x : ℕ) → ReadsFirst (map (save g home) xs) exit x
      → In x xs ⊎ ExitReads exit x
  saves_read home [] exit x h = inr h
  saves_read home (y ∷ xs) exit x (inl (inl m)) = absurd m
  saves_read home (y ∷ xs) exit x (inl (inr m)) = inl (inl m)
  saves_read home (y ∷ xs) exit x (inr n) = grind (arith, saves_read home xs exit x n.1)

  loads_read : (home : ℕ) (xs : List ℕ) (c x : ℕ) → ReadsFirst (map (load g home) xs) (Goto c) x → ⊥
  loads_read home [] c x h = h
  loads_read home (y ∷ xs) c x (inl m) = m
  loads_read home (y ∷ xs) c x (inr n) = loads_read home xs c x n.1

  loads_write : (home : ℕ) (xs : List ℕ) (x : ℕ) → In x xs → WrittenIn (map (load g home) xs) x
  loads_write home [] x h = absurd h
  loads_write home (y ∷ xs) x (inl e) = inl e
  loads_write home (y ∷ xs) x (inr i) = inr (loads_write home xs x i)

  clears_read : (xs : List ℕ) (c x : ℕ) → ReadsFirst (map clear xs) (Goto c) x → ⊥
  clears_read [] c x h = h
  clears_read (y ∷ xs) c x (inl m) = m
  clears_read (y ∷ xs) c x (inr n) = clears_read xs c x n.1

  clears_write : (xs : List ℕ) (x : ℕ) → In x xs → WrittenIn (map clear xs) x
  clears_write [] x h = absurd h
  clears_write (y ∷ xs) x (inl e) = inl e
  clears_write (y ∷ xs) x (inr i) = inr (clears_write xs x i)

  -- live in the given graph, or the return address of a procedure that is called
  abbrev pub Known : ℕ → ℕ → Type 0
  Known b x = ((x < (spot_at g b).vars) × Live g b x)
      ⊎ ((x ≡ (spot_at g b).vars) × (is_called g (spot_at g b).home ≡ true))

  same_vars : (b c : ℕ) → b < length (spots g) → c < length (spots g)
      → (spot_at g c).home ≡ (spot_at g b).home → (spot_at g c).vars ≡ (spot_at g b).vars
  same_vars b c lb lc e = (F.home c lc).1 ∙ ap (λ n. (proc_at g n).vars) e ∙ sym (F.home b lb).1

  module _ (b : ℕ) (there : b < length (spots g)) where
    abbrev v : ℕ
    v = (spot_at g b).vars

    abbrev home : ℕ
    home = (spot_at g b).home

    from_saved : (r : Option ℕ) (f : ℕ) (ts : List Term) (back x : ℕ) → (block_at g b).exit ≡ Call r f ts back
        → (WrittenIn (block_at g b).ops x → ⊥) → In x (saved g live home v r back) → Known b x
    from_saved r f ts back x e never i =
        let p = filter_in (is_saved g live home v r back) (below (suc v)) x i in
        let le = below_all (suc v) x p.0 in
        let ex = exit_in g live G F b (Call r f ts back) e in
        by_test (x == v) refl le p.1 ex.4.0 (same_vars b back there ex.4.0 ex.4.1)
      where
        and_true : (a c : Bool) → (a && c) ≡ true → (a ≡ true) × (c ≡ true)
        and_true a c e = grind arith

        by_test : (t : Bool) → (x == v) ≡ t → x < suc v
            → (if t then is_called g home else (has live back x && not (is_result r x))) ≡ true
            → back < length (spots g) → (spot_at g back).vars ≡ v → Known b x
        by_test true ev le h lb vars = inr (grind (arith, nat_tests), h)
        by_test false ev le h lb vars =
            let ne : x ≡ v → ⊥ = grind arith in
            let lt : x < v = strictly x v le ne in
            let p = and_true (has live back x) (not (is_result r x)) h in
            let l : Live g back x = grind arith in
            inl (lt, passes b back x never (grind arith) (rw e refl) l)
          where
            strictly : (x v : ℕ) → x < suc v → (x ≡ v → ⊥) → x < v
            strictly x v le ne = grind (arith, cases_lt)

    from_reads : (y : Exit) → (block_at g b).exit ≡ y → (x : ℕ)
        → ReadsFirst ((block_at g b).ops ++ saves g live home v y) (left g home v b y) x → Known b x
    from_reads y e x h = elim (split (block_at g b).ops (saves g live home v y) (left g home v b y) x h) [
      | inl r ↦ inl (
        ops_low g v (block_at g b).ops x (numbers_at g G.rules b).ops r,
        reads b x (first_in (block_at g b).ops (block_at g b).exit x r),
      )
      | inr r ↦ after y e r.0 r.1
    ]
      where
        exit_reads : (y : Exit) → (block_at g b).exit ≡ y → (WrittenIn (block_at g b).ops x → ⊥)
            → ExitReads y x → Live g b x
        exit_reads y e never r = reads b x (grind (arith, first_exit))

        after : (y : Exit) → (block_at g b).exit ≡ y → (WrittenIn (block_at g b).ops x → ⊥)
            → ReadsFirst (saves g live home v y) (left g home v b y) x → Known b x
        after (Branch t c d) e never r = inl
            (low g v t x (exit_in g live G F b (Branch t c d) e).0 r, exit_reads (Branch t c d) e never r)
        after (Call r f ts back) e never h =
            elim (saves_read home (saved g live home v r back) (left g home v b (Call r f ts back)) x h) [
              | inl i ↦ from_saved r f ts back x e never i
              | inr m ↦ elim m [
                | inl z ↦ absurd z
                | inr ms ↦ let one = push_mentions ts (address g f b) x ms in
                    inl (
                      all_low g v ts x (exit_in g live G F b (Call r f ts back) e).3 one,
                      exit_reads (Call r f ts back) e never one,
                    )
              ]
            ]
        after (Return t) e never h = by_called (is_called g home) refl h
          where
            plain : Mentions t x → Known b x
            plain m = inl (low g v t x (exit_in g live G F b (Return t) e) m, exit_reads (Return t) e never m)

            by_called : (c : Bool) → is_called g home ≡ c
                → ExitReads (if c then Send (Var v) (t ∷ []) (landings g home) else Return t) x → Known b x
            by_called true ec (inl m) = inr (m, ec)
            by_called true ec (inr (inl m)) = plain m
            by_called true ec (inr (inr m)) = absurd m
            by_called false ec m = plain m
        after y e never r = absurd r

    -- where an edge of the new block that keeps variables leads
    from_edge : (y : Exit) → (block_at g b).exit ≡ y → (x c : ℕ) → (WrittenIn (block_at g b).ops x → ⊥)
        → Carries (left g home v b y) c → ((d : ℕ) → d < length (spots g) → c ≡ moved g d → Known d x)
        → Known b x
    from_edge (Goto d) e x c never k rest = on (Goto d) e d (exit_in g live G F b (Goto d) e).0
        (exit_in g live G F b (Goto d) e).1 refl (λ w. w) (rest d (exit_in g live G F b (Goto d) e).0 k)
      where
        on : (y : Exit) → (block_at g b).exit ≡ y → (d : ℕ) → d < length (spots g) → (spot_at g d).home ≡ home
            → Carries y d → (ExitWrites y x → ⊥) → Known d x → Known b x
        on y e d lt eh k nw (inl p) = inl (
          omega (arith, p.0, same_vars b d there lt eh),
          passes b d x never (λ w. nw (subst (λ (z : Exit). ExitWrites z x) e w))
              (subst (λ (z : Exit). Carries z d) (sym e) k) p.1,
        )
        on y e d lt eh k nw (inr p) = inr (p.0 ∙ same_vars b d there lt eh, sym (ap (is_called g) eh) ∙ p.1)
    from_edge (Branch t d u) e x c never k rest = elim k [
      | inl a ↦ on d (exit_in g live G F b (Branch t d u) e).1.0 (exit_in g live G F b (Branch t d u) e).1.1
          (inl refl) (rest d (exit_in g live G F b (Branch t d u) e).1.0 a)
      | inr a ↦ on u (exit_in g live G F b (Branch t d u) e).2.0 (exit_in g live G F b (Branch t d u) e).2.1
          (inr refl) (rest u (exit_in g live G F b (Branch t d u) e).2.0 a)
    ]
      where
        on : (w : ℕ) → w < length (spots g) → (spot_at g w).home ≡ home → Carries (Branch t d u) w → Known w x
            → Known b x
        on w lt eh k (inl p) = inl (
          omega (arith, p.0, same_vars b w there lt eh),
          passes b w x never (λ i. subst (λ (z : Exit). ExitWrites z x) e i)
              (subst (λ (z : Exit). Carries z w) (sym e) k) p.1,
        )
        on w lt eh k (inr p) = inr (p.0 ∙ same_vars b w there lt eh, sym (ap (is_called g) eh) ∙ p.1)
    from_edge y e x c never k rest = grind arith

  -- what is live at the place of a block
  pub live_there : (m x : ℕ) → Live h m x → (b : ℕ) → b < length (spots g) → m ≡ moved g b → Known b x
  live_there m x (reads _ _ r) b lt e = let same = ap (spot_at h) e ∙ F.plain b lt in
      grind (arith, from_reads)
  live_there m x (passes _ c _ nw ne k l) b lt e = let same = ap (spot_at h) e ∙ F.plain b lt in
      from_edge b lt (block_at g b).exit refl x c (grind (arith, written_left)) (grind arith) (λ d ld ed.
      live_there c x l d ld ed)

  in_left : (xs ys : List ℕ) (x : ℕ) → In x xs → In x (xs ++ ys)
  in_left [] ys x i = absurd i
  in_left (y ∷ xs) ys x (inl e) = inl e
  in_left (y ∷ xs) ys x (inr i) = inr (in_left xs ys x i)

  in_right : (xs ys : List ℕ) (x : ℕ) → In x ys → In x (xs ++ ys)
  in_right [] ys x i = i
  in_right (y ∷ xs) ys x i = inr (in_right xs ys x i)

  -- At a door all that is live is what a call gives.
  module _ (f : ℕ) (there : f < length g.procs) where
    abbrev params : ℕ
    params = (proc_at g f).params

    abbrev vf : ℕ
    vf = (proc_at g f).vars

    abbrev names : Bool → List ℕ
    names c = if c then below params ++ vf ∷ [] else []

    entry_vars : (spot_at g (entry_of g f)).vars ≡ vf
    entry_vars = (F.home (entry_of g f) (F.first f there).0).1 ∙ ap (λ n. (proc_at g n).vars)
        (F.first f there).1

    at_door : (x : ℕ) → (WrittenIn (map clear (filter (is_unset g live f params) (below vf))) x → ⊥)
        → Known (entry_of g f) x → In x (names (is_called g f))
    at_door x never (inr p) = subst (λ c. In x (names c)) (sym (sym (ap (is_called g) (F.first f there).1) ∙
        p.1)) (grind (arith, in_right, entry_vars))
    at_door x never (inl p) = by_called (is_called g f) refl
      where
        lt : x < vf
        lt = omega (arith, p.0, entry_vars)

        known : has live (entry_of g f) x ≡ true
        known = G.known (entry_of g f) x (F.first f there).0 p.0 p.1

        cleared : is_unset g live f params x ≡ true → ⊥
        cleared e = never (clears_write (filter (is_unset g live f params) (below vf)) x (in_filter (is_unset
            g live f params) (below vf) x (in_below vf x lt) e))

        by_called : (c : Bool) → is_called g f ≡ c → In x (names c)
        by_called true e = elim (cases_lt x params) [
          | inl small ↦ in_left (below params) (vf ∷ []) x (in_below params x small)
          | inr big ↦
              absurd (cleared (ap (λ t. t && (if is_called g f then not (nat_lt x params) else true)) known
              ∙ ap (λ (c : Bool). if c then not (nat_lt x params) else true) e
              ∙ not_less (nat_lt x params) refl big))
        ]
          where
            not_less : (t : Bool) → nat_lt x params ≡ t → params ≤ x → not t ≡ true
            not_less t e le = grind arith
        by_called false e = absurd (cleared (ap (λ t. t && (if is_called g f then not (nat_lt x params) else
            true)) known ∙ ap (λ (c : Bool). if c then not (nat_lt x params) else true) e))

    pub door_live : (m : ℕ) → m ≡ door g f → (x : ℕ) → Live h m x → In x (names (is_called g f))
    door_live m e x (reads _ _ r) = let same = ap (spot_at h) e ∙ F.entry f there in
        grind (arith, clears_read)
    door_live m e x (passes _ c _ nw ne k l) = let same = ap (spot_at h) e ∙ F.entry f there in
        at_door x (grind arith) (live_there c x l (entry_of g f) (F.first f there).0 (grind arith))

  -- At a return point all that is live is the result.
  module _ (b : ℕ) (r : Option ℕ) (f : ℕ) (ts : List Term) (back : ℕ) (there : b < length (spots g))
      (is : (block_at g b).exit ≡ Call r f ts back) where
    abbrev vb : ℕ
    vb = (spot_at g b).vars

    abbrev kept : List ℕ
    kept = saved g live (spot_at g b).home vb r back

    back_there : back < length (spots g)
    back_there = (exit_in g live G F b (Call r f ts back) is).4.0

    back_home : (spot_at g back).home ≡ (spot_at g b).home
    back_home = (exit_in g live G F b (Call r f ts back) is).4.1

    back_vars : (spot_at g back).vars ≡ vb
    back_vars = same_vars b back there back_there back_home

    at_point : (x : ℕ) → (WrittenIn (map (load g (spot_at g b).home) kept) x → ⊥) → Known back x
        → x ≡ or_else r vb
    at_point x never (inr p) =
        let called : is_called g (spot_at g b).home ≡ true = sym (ap (is_called g) back_home) ∙ p.1 in
        let is_v : x ≡ vb = p.0 ∙ back_vars in
        absurd (never (subst (λ y. WrittenIn (map (load g (spot_at g b).home) kept) y) (sym is_v)
        (loads_write (spot_at g b).home kept vb (kept_address g live G F (all_celled g live G.rules) b
        there r back called))))
    at_point x never (inl p) = by_result r refl
      where
        result_place : (q : Option ℕ) → is_result q x ≡ true → x ≡ or_else q vb
        result_place q e = grind arith

        by_test : (t : Bool) → is_result r x ≡ t → x ≡ or_else r vb
        by_test true e = result_place r e
        by_test false e = absurd (never (loads_write (spot_at g b).home kept x (kept_live g live G F
            (all_celled g live G.rules) b there r back x (omega (arith, p.0, back_vars)) (G.known back x
            back_there p.0 p.1) e)))

        by_result : (q : Option ℕ) → q ≡ r → x ≡ or_else r vb
        by_result q e = by_test (is_result r x) refl

    pub point_live : (m : ℕ) → m ≡ suc (moved g b) → (x : ℕ) → Live h m x → x ≡ or_else r vb
    point_live m e x (reads _ _ q) = let same = ap (spot_at h) e ∙ F.point b r f ts back there is in
        grind (arith, loads_read)
    point_live m e x (passes _ c _ nw ne k l) =
        let same = ap (spot_at h) e ∙ F.point b r f ts back there is in
        grind (arith, at_point, live_there, back_there)

  -- what a door names
  pub named_door : (f : ℕ) → f < length g.procs → (block_at h (door g f)).named
      ≡ (if is_called g f then below (proc_at g f).params ++ (proc_at g f).vars ∷ [] else [])
  named_door f lt = ap (λ (s : Spot). s.block.named) (F.entry f lt)

  landing_live : (b : ℕ) → b < length (spots g) → (y : Exit) → (block_at g b).exit ≡ y
      → NoneAcross h (left g (spot_at g b).home (spot_at g b).vars b y)
  landing_live b lt (Goto c) e = tt
  landing_live b lt (Branch t c d) e = tt
  landing_live b lt (Call r f ts back) e =
      grind (arith, exit_in g live G F b (Call r f ts back) e, named_door, door_live)
  landing_live b lt (Return t) e = by_called (is_called g (spot_at g b).home)
    where
      point : (l x : ℕ) → In l (landings g (spot_at g b).home) → Live h l x → In x (block_at h l).named
      point l x i lv =
          let p = lands_at g live G F (spot_at g b).home l i in
          let at = point_live p.block p.result (spot_at g b).home p.terms p.back p.there p.exit l p.place x
          lv in
          let named = ap (λ m. (block_at h m).named) p.place ∙ ap (λ (s : Spot). s.block.named)
          (F.point p.block p.result (spot_at g b).home p.terms p.back p.there p.exit) in
          subst (λ (xs : List ℕ). In x xs) (sym named) (inl at)

      by_called : (c : Bool)
          → NoneAcross h (if c then Send (Var (spot_at g b).vars) (t ∷ []) (landings g (spot_at g b).home)
          else Return t)
      by_called true = point
      by_called false = tt
  landing_live b lt (Send t ts ls) e = tt
  landing_live b lt Stop e = tt

  none_across : (s : Spot) → Sort g live G F s → NoneAcross h s.block.exit
  unfolding no_spot
  none_across s x = grind (arith, landing_live)

  all_have : {A : Type 0} (P Q : A → Type 0) (xs : List A) → ((x : A) → P x → Q x) → AllByRecursion P xs
      → AllByRecursion Q xs
  all_have P Q [] f h = tt
  all_have P Q (x ∷ xs) f h = (f x h.0, all_have P Q xs f h.1)

  at_start : NoneAtStart h
  at_start x lv =
      let main = length g.procs - 1 in
      let there : main < length g.procs = omega arith in
      let place : entry_of h (length h.procs - 1) ≡ door g main = ap (λ n. entry_of h (n - 1)) F.count
      ∙ F.entry_is main there in
      by_called (is_called g main) refl (door_live main there (entry_of h (length h.procs - 1)) place x lv)
    where
      by_called : (c : Bool) → is_called g (length g.procs - 1) ≡ c
          → In x (if c then below (proc_at g (length g.procs - 1)).params
          ++ (proc_at g (length g.procs - 1)).vars ∷ [] else []) → ⊥
      by_called true e i = omega (arith, F.last (length g.procs - 1) e)
      by_called false e i = i

  -- where the walk begins no variable is named
  pub none_named : (block_at h (first_block h)).named ≡ []
  none_named =
      let main = length g.procs - 1 in
      let there : main < length g.procs = omega arith in
      let place : first_block h ≡ door g main = ap (λ n. entry_of h (n - 1)) F.count
      ∙ F.entry_is main there in
      ap (λ n. (block_at h n).named) place ∙ named_door main there ∙ by_called (is_called g main) refl
    where
      by_called : (c : Bool) → is_called g (length g.procs - 1) ≡ c
          → (if c then below (proc_at g (length g.procs - 1)).params ++ (proc_at g (length g.procs - 1)).vars
          ∷ [] else []) ≡ []
      by_called true e = absurd (omega (arith, F.last (length g.procs - 1) e))
      by_called false e = refl

  pub none_live_across : NoneLiveAcross h
  unfolding spot_at
  none_live_across = record {
    landings = λ b. each_at (λ (s : Spot). NoneAcross h s.block.exit) (spots h) no_spot
        (all_have (Sort g live G F) (λ s. NoneAcross h s.block.exit) (spots h) none_across
        (every_spot g live G F)) (none_across no_spot is_none) b;
    start = at_start;
  }

  -- how many values are sent
  few_values : (n : ℕ) → ParamsAtMost n g → (b : ℕ) → b < length (spots g) → (y : Exit)
      → (block_at g b).exit ≡ y → SendsAtMost (suc n) (left g (spot_at g b).home (spot_at g b).vars b y)
  few_values n p b lt (Call r f ts back) e = let i = exit_in g live G F b (Call r f ts back) e in
      omega (arith, length_push ts (Number (address g f b)), i.2, p f i.1)
  few_values n p b lt y e = grind arith

  pub few_at : (n : ℕ) → ParamsAtMost n g → (s : Spot) → Sort g live G F s → SendsAtMost (suc n) s.block.exit
  unfolding no_spot
  few_at n p _ (is_plain b lt) = few_values n p b lt (block_at g b).exit refl
  few_at n p _ x = tt

  pub few_sent : (n : ℕ) → ParamsAtMost n g → (b : ℕ) → SendsAtMost (suc n) (block_at h b).exit
  unfolding spot_at
  few_sent n p b =
      grind (arith, each_at, all_have, few_at n p, every_spot g live G F, few_at n p no_spot is_none, is_none)
