-- Making code from its end keeps this: what is wanted of a name are the slots that wait for it.
use Rattle.std.proofs.Common.{ℕ, suc, ◌+◌, ◌-◌, ◌≡◌, ◌<◌, ◌≤◌, ◌⊎◌, ◌&&◌, not, Bool, true, false, cond}
use Rattle.std.proofs.Common.{ltb, List, [], ◌∷◌, ◌++◌, length, Option, Some, None, refl, sym, ap, ◌∙◌, subst}
use Rattle.std.proofs.Common.{inl, inr, arith, eq-eqb, ne_eqb}
use Rattle.std.proofs.lemmas.Bool.{cases_Bool, cases_eq, both_ways, cond-true, cond-false}
use Rattle.ws_isa.specs.declared.instr.Op.{Op}
use Rattle.ws_isa.specs.declared.instr.Op.TheVariants.{Merge}
use Rattle.ws_isa.specs.declared.instr.Dest.{Dest}
use Rattle.ws_isa.specs.Image.{ports_of, is_memory_op, now_of}
use Rattle.ws_isa.specs.Sound.{HasDest}
use Rattle.wave_gen.specs.Waits.{DistinctDests, Owner, Step, Fires, Rests, Skips, Copies, is_name, without}
use Rattle.wave_gen.specs.Waits.{with_ports, renamed, own}
use Rattle.wave_gen.specs.Wire.{Target, Back, Front, dest_of, dests_of, WiredInstr, Wants, Made, with_wants}
use Rattle.wave_gen.specs.Wire.{with_uses, moved, emit, rest, skip, copy, gather, with_room, with_rooms, Item}
use Rattle.wave_gen.specs.Wire.{Make, Act, Same, is_nil, make, alias, wire_item, wire, most}
use Rattle.wave_gen.proofs.Waits.Turns.{name_is, name_of, without_is, without_keeps, ports_here, ports_other}
use Rattle.wave_gen.proofs.Waits.Turns.{none_of}
use Rattle.ws_isa.proofs.Slots.{has_append_cases, has_append_left, has_append_right}
use Rattle.ws_words.specs.Items.{nth, In}
use Rattle.ws_words.proofs.Places.{in_both}

-- an instruction that sends its result at its turn
abbrev pub SendsNow : Op → Type 0
SendsNow op = (ds : List Dest) → now_of op ds ≡ ds

wants_here : (w : Wants) (x : ℕ) (l : List Target) → with_wants w x l x ≡ l
wants_here w x l = rw (eq-eqb x x refl) refl

wants_other : (w : Wants) (x y : ℕ) (l : List Target) → (y ≡ x → ⊥) → with_wants w x l y ≡ w y
wants_other w x y l n = rw (ne_eqb y x n) refl

dests_append : (first : ℕ → ℕ) (ss ts : List Target) → dests_of first (ss ++ ts) ≡ dests_of first ss
    ++ dests_of first ts
dests_append first [] ts = refl
dests_append first (s ∷ ss) ts = ap (λ (r : List Dest). dest_of first s ∷ r) (dests_append first ss ts)

distinct_append : (ds es : List Dest) → DistinctDests ds → DistinctDests es
    → ((j q : ℕ) → HasDest ds j q → HasDest es j q → ⊥) → DistinctDests (ds ++ es)
distinct_append [] es a b n = b
distinct_append (d ∷ ds) es a b n = (
  grind (arith, has_append_cases, d.instr, d.port),
  distinct_append ds es a.1 b (λ j q g. n j q (inr g)),
)

-- a spot is an instruction from number k on, or an entry that is there
abbrev pub Ahead : (ℕ → ℕ) → (ℕ → ℕ → Type 0) → ℕ → Target → Type 0
Ahead first IsFront k (Back c r q) = k ≤ first (suc c) - suc r
Ahead first IsFront k (Front c i) = IsFront c i

ahead_less : (first : ℕ → ℕ) (IsFront : ℕ → ℕ → Type 0) (k : ℕ) (p : Target) → Ahead first IsFront (suc k) p
    → Ahead first IsFront k p
ahead_less first IsFront k p a = grind arith

-- the spot of a destination
pub record SpotOf (first : ℕ → ℕ) (l : List Target) (j q : ℕ) : Type 0 where
  pub spot : Target
  pub inside : In spot l
  pub instr : (dest_of first spot).instr ≡ j
  pub port : (dest_of first spot).port ≡ q

pub spot_of : (first : ℕ → ℕ) (l : List Target) (j q : ℕ) → HasDest (dests_of first l) j q
    → SpotOf first l j q
spot_of first [] j q h = absurd h
spot_of first (p ∷ l) j q (inl h) = grind arith
spot_of first (p ∷ l) j q (inr h) = grind (arith, spot_of first l j q h)

module _ (first : ℕ → ℕ) (o : Owner) where
  -- the line makes x, where p is open behind it
  pub record LineFires (k x : ℕ) (op : Op) (from : List ℕ) (line : WiredInstr) (p : Owner) : Type 0 where
    pub op_is : line.op ≡ op
    pub sends_now : SendsNow op
    pub ports : length from ≡ ports_of op
    pub lists : (j q : ℕ) → HasDest (dests_of first line.dests) j q → p j q ≡ Some x
    pub lists_all : (j q : ℕ) → p j q ≡ Some x → HasDest (dests_of first line.dests) j q
    pub once : DistinctDests (dests_of first line.dests)
    pub fresh : (q : ℕ) → p k q ≡ None

  pub record LineRests (k : ℕ) (op : Op) (from : List ℕ) (line : WiredInstr) (p : Owner) : Type 0 where
    pub op_is : line.op ≡ op
    pub none : now_of op (dests_of first line.dests) ≡ []
    pub ports : length from ≡ ports_of op
    pub fresh : (q : ℕ) → p k q ≡ None

  -- the lines, from number k on, are those of the steps
  abbrev pub CodeOk : ℕ → List WiredInstr → List Step → Type 0
  CodeOk k code [] = code ≡ []
  CodeOk k [] (Fires x op from ∷ ss) = ⊥
  CodeOk k (l ∷ code) (Fires x op from ∷ ss) = LineFires k x op from l (own (suc k) ss o)
      × CodeOk (suc k) code ss
  CodeOk k [] (Rests op from ∷ ss) = ⊥
  CodeOk k (l ∷ code) (Rests op from ∷ ss) = LineRests k op from l (own (suc k) ss o) × CodeOk (suc k) code ss
  CodeOk k code (Skips x op from ∷ ss) = ((j q : ℕ) → own k ss o j q ≡ Some x → ⊥) × CodeOk k code ss
  CodeOk k code (Copies x y ∷ ss) = CodeOk k code ss

module _ (first : ℕ → ℕ) (b : ℕ) (o : Owner) (IsFront : ℕ → ℕ → Type 0) where
  pub record Inv (k : ℕ) (s : Made) : Type 0 where
    pub at : k + length s.code ≡ first (suc b)
    pub has : (x j q : ℕ) → HasDest (dests_of first (s.wants x)) j q → own k s.steps o j q ≡ Some x
    pub all : (x j q : ℕ) → own k s.steps o j q ≡ Some x → HasDest (dests_of first (s.wants x)) j q
    pub once : (x : ℕ) → DistinctDests (dests_of first (s.wants x))
    pub ahead : (x : ℕ) (p : Target) → In p (s.wants x) → Ahead first IsFront k p
    pub lines : CodeOk first o k s.code s.steps

  some_none : (x : ℕ) (v : Option ℕ) → v ≡ Some x → v ≡ None → ⊥
  some_none x v e f = let a : None ≡ Some x = sym f ∙ e in cc

  -- the slots that a list of names adds
  pub data Used (k i : ℕ) (from : List ℕ) (y j q : ℕ) : Type 0 where
    used : (t : ℕ) → j ≡ k → q ≡ i + t → nth from t ≡ Some y → Used k i from y j q

  uses_from : (r k i : ℕ) (from : List ℕ) (w : Wants) (y j q : ℕ) → k ≡ first (suc b) - suc r
      → HasDest (dests_of first (with_uses b r i from w y)) j q → Used k i from y j q
      ⊎ HasDest (dests_of first (w y)) j q
  uses_from r k i [] w y j q e h = inr h
  uses_from r k i (x ∷ from) w y j q e h =
      elim (uses_from r k (suc i) from (with_wants w x (Back b r i ∷ w x)) y j q e h) [
        | inl g ↦ inl (later g)
        | inr g ↦ here (cases_eq y x) g
      ]
    where
      later : Used k (suc i) from y j q → Used k i (x ∷ from) y j q
      later (used t a c d) = used (suc t) a (let z : q ≡ suc i + t = c in omega arith) d

      here : (y ≡ x) ⊎ (y ≡ x → ⊥) → HasDest (dests_of first (with_wants w x (Back b r i ∷ w x) y)) j q
          → Used k i (x ∷ from) y j q ⊎ HasDest (dests_of first (w y)) j q
      here (inr n) g = grind (arith, wants_other)
      here (inl m) g =
          elim (subst (λ (l : List Target). HasDest (dests_of first l) j q)
          (ap (with_wants w x (Back b r i ∷ w x)) m ∙ wants_here w x (Back b r i ∷ w x)) g) [
            | inl z ↦ inl (used 0 (sym z.0 ∙ sym e) (let a : i ≡ q = z.1 in omega arith) (ap Some (sym m)))
            | inr z ↦ inr (subst (λ (n : ℕ). HasDest (dests_of first (w n)) j q) (sym m) z)
          ]

  uses_keeps : (r i : ℕ) (from : List ℕ) (w : Wants) (y j q : ℕ) → HasDest (dests_of first (w y)) j q
      → HasDest (dests_of first (with_uses b r i from w y)) j q
  uses_keeps r i [] w y j q h = h
  uses_keeps r i (x ∷ from) w y j q h = uses_keeps r (suc i) from (with_wants w x (Back b r i ∷ w x)) y j q
      (grind (arith, cases_eq, wants_here, wants_other))

  uses_has : (r k i : ℕ) (from : List ℕ) (w : Wants) (y t : ℕ) → k ≡ first (suc b) - suc r
      → nth from t ≡ Some y → HasDest (dests_of first (with_uses b r i from w y)) k (i + t)
  uses_has r k i (x ∷ from) w y (suc t) e f =
      grind (arith, uses_has r k (suc i) from (with_wants w x (Back b r i ∷ w x)) y t e f)
  uses_has r k i from w y t e f = grind (arith, uses_keeps, wants_here)

  uses_once : (r k i : ℕ) (from : List ℕ) (w : Wants) → k ≡ first (suc b) - suc r
      → ((y : ℕ) → DistinctDests (dests_of first (w y)))
      → ((y q : ℕ) → i ≤ q → HasDest (dests_of first (w y)) k q → ⊥) →
      (y : ℕ) → DistinctDests (dests_of first (with_uses b r i from w y))
  uses_once r k i [] w e d n y = d y
  uses_once r k i (x ∷ from) w e d n y = uses_once r k (suc i) from (with_wants w x (Back b r i ∷ w x)) e d'
      n' y
    where
      w' : Wants
      w' = with_wants w x (Back b r i ∷ w x)

      at_x : (z : ℕ) → z ≡ x → w' z ≡ Back b r i ∷ w x
      at_x z m = ap w' m ∙ wants_here w x (Back b r i ∷ w x)

      d' : (z : ℕ) → DistinctDests (dests_of first (w' z))
      d' z = grind (arith, cases_eq, at_x, wants_other)

      n' : (z q : ℕ) → suc i ≤ q → HasDest (dests_of first (w' z)) k q → ⊥
      n' z q l h = grind (arith, cases_eq, at_x, wants_other)

  nth_used : (k : ℕ) (from : List ℕ) (p : Owner) (y j q : ℕ) → j ≡ k → nth from q ≡ Some y
      → with_ports k from p j q ≡ Some y
  nth_used k from p y j q e f = ap (λ (a : ℕ). with_ports k from p a q) e ∙ ports_here k from p q ∙ f

  -- the slots before an instruction that drops what waited for x, if it makes x
  uses_spot : (r i : ℕ) (from : List ℕ) (w : Wants) (y : ℕ) (p : Target) → In p (with_uses b r i from w y)
      → ((q : ℕ) × (p ≡ Back b r q)) ⊎ In p (w y)
  uses_spot r i [] w y p h = inr h
  uses_spot r i (x ∷ from) w y p h =
      grind (
        arith,
        cases_eq,
        wants_here,
        wants_other,
        uses_spot r (suc i) from (with_wants w x (Back b r i ∷ w x)) y p h,
      )

  module _ (k : ℕ) (s : Made) (inv : Inv (suc k) s) (clear : (c i : ℕ) → IsFront c i → first c + i ≡ k
      → ⊥) where
    k_is : k ≡ first (suc b) - suc (length s.code)
    k_is = let e : suc k + length s.code ≡ first (suc b) = inv.at in omega arith

    fresh_k : (q : ℕ) → own (suc k) s.steps o k q ≡ None
    fresh_k q = none_of (own (suc k) s.steps o k q)
        (λ x e. (let g = spot_of first (s.wants x) k q (inv.all x k q e) in
        away g.spot (inv.ahead x g.spot g.inside) g.instr))
      where
        away : (p : Target) → Ahead first IsFront (suc k) p → (dest_of first p).instr ≡ k → ⊥
        away p a e = grind arith

    ahead_uses : (from : List ℕ) (w : Wants) → ((x : ℕ) (p : Target) → In p (w x)
        → Ahead first IsFront (suc k) p) → (y : ℕ) (p : Target)
        → In p (with_uses b (length s.code) 0 from w y) → Ahead first IsFront k p
    ahead_uses from w a y p h = grind (arith, uses_spot, ahead_less, k_is)

    not_k : (x j q : ℕ) → own (suc k) s.steps o j q ≡ Some x → j ≡ k → ⊥
    not_k x j q e f = grind (arith, some_none, fresh_k)

    no_dest_k : (y q : ℕ) → HasDest (dests_of first (s.wants y)) k q → ⊥
    no_dest_k y q h = not_k y k q (inv.has y k q h) refl

    rest_inv : (line : WiredInstr) (from : List ℕ) → length from ≡ ports_of line.op
        → ((ds : List Dest) → now_of line.op ds ≡ []) ⊎ (line.dests ≡ []) → Inv k (rest b line from s)
    rest_inv line from pt silent = record {
      at = grind arith;
      has = λ x j q h. has x j q (uses_from (length s.code) k 0 from s.wants x j q k_is h);
      all = λ x j q e. all x j q e (cases_eq j k);
      once = grind (arith, uses_once, s.wants, k_is, inv.once, no_dest_k);
      ahead = ahead_uses from s.wants inv.ahead;
      lines = grind (arith, quiet, fresh_k);
    }
      where
        P : Owner
        P = own (suc k) s.steps o

        quiet : ((ds : List Dest) → now_of line.op ds ≡ []) ⊎ (line.dests ≡ [])
            → now_of line.op (dests_of first line.dests) ≡ []
        quiet h = grind arith

        has : (x j q : ℕ) → Used k 0 from x j q ⊎ HasDest (dests_of first (s.wants x)) j q
            → with_ports k from (own (suc k) s.steps o) j q ≡ Some x
        has x j q (inl (used t e f g)) = grind (arith, nth_used)
        has x j q (inr h) = grind (arith, ports_other, not_k)

        all : (x j q : ℕ) → with_ports k from (own (suc k) s.steps o) j q ≡ Some x → (j ≡ k) ⊎ (j ≡ k → ⊥)
            → HasDest (dests_of first (with_uses b (length s.code) 0 from s.wants x)) j q
        all x j q e (inl f) = rw f (let z : 0 + q ≡ q = omega arith in
            subst (λ (i : ℕ). HasDest (dests_of first (with_uses b (length s.code) 0 from s.wants x)) k i) z
            (uses_has (length s.code) k 0 from s.wants x q k_is
            (sym (ap (λ (a : ℕ). with_ports k from (own (suc k) s.steps o) a q) f
            ∙ ports_here k from (own (suc k) s.steps o) q) ∙ e)))
        all x j q e (inr n) = grind (arith, uses_keeps, ports_other)

    pub emit_inv : (x : ℕ) (op : Op) (from : List ℕ) → SendsNow op → length from ≡ ports_of op
        → Inv k (emit b x op from s)
    emit_inv x op from sn pt = record {
      at = let e : suc k + length s.code ≡ first (suc b) = inv.at in omega arith;
      has = λ y j q h. has y j q (uses_from (length s.code) k 0 from (with_wants s.wants x []) y j q k_is h);
      all = λ y j q e. all y j q e (cases_eq j k);
      once = uses_once (length s.code) k 0 from (with_wants s.wants x []) k_is once_w
          (λ y q l h. no_dest_w y q h);
      ahead = ahead_uses from (with_wants s.wants x []) ahead_w;
      lines = (
        record {
          op_is = refl;
          sends_now = sn;
          ports = pt;
          lists = λ j q h. inv.has x j q h;
          lists_all = λ j q e. inv.all x j q e;
          once = inv.once x;
          fresh = fresh_k;
        },
        inv.lines,
      );
    }
      where
        from_w : (y j q : ℕ) → HasDest (dests_of first (with_wants s.wants x [] y)) j q
            → (y ≡ x → ⊥) × HasDest (dests_of first (s.wants y)) j q
        from_w y j q h = grind (arith, cases_eq, wants_here, wants_other)

        to_w : (y j q : ℕ) → (y ≡ x → ⊥) → HasDest (dests_of first (s.wants y)) j q
            → HasDest (dests_of first (with_wants s.wants x [] y)) j q
        to_w y j q n h = grind (arith, wants_other)

        once_w : (y : ℕ) → DistinctDests (dests_of first (with_wants s.wants x [] y))
        once_w y = grind (arith, cases_eq, wants_here, wants_other)

        no_dest_w : (y q : ℕ) → HasDest (dests_of first (with_wants s.wants x [] y)) k q → ⊥
        no_dest_w y q h = no_dest_k y q (from_w y k q h).1

        has : (y j q : ℕ) → Used k 0 from y j q ⊎ HasDest (dests_of first (with_wants s.wants x [] y)) j q
            → with_ports k from (without x (own (suc k) s.steps o)) j q ≡ Some y
        has y j q (inl (used t e f g)) = grind (arith, nth_used)
        has y j q (inr h) = grind (arith, from_w, ports_other, not_k, without_keeps)

        all : (y j q : ℕ) → with_ports k from (without x (own (suc k) s.steps o)) j q ≡ Some y
            → (j ≡ k) ⊎ (j ≡ k → ⊥)
            → HasDest (dests_of first (with_uses b (length s.code) 0 from (with_wants s.wants x []) y)) j q
        all y j q e (inl f) = rw f (let z : 0 + q ≡ q = omega arith in
            subst (λ (i : ℕ).
            HasDest (dests_of first (with_uses b (length s.code) 0 from (with_wants s.wants x []) y)) k i)
            z
            (uses_has (length s.code) k 0 from (with_wants s.wants x []) y q k_is
            (sym (ap (λ (a : ℕ). with_ports k from (without x (own (suc k) s.steps o)) a q) f
            ∙ ports_here k from (without x (own (suc k) s.steps o)) q) ∙ e)))
        all y j q e (inr n) = grind (arith, without_is, ports_other, uses_keeps, to_w)

        ahead_w : (y : ℕ) (p : Target) → In p (with_wants s.wants x [] y) → Ahead first IsFront (suc k) p
        ahead_w y p h = grind (arith, cases_eq, wants_here, wants_other)

  skip_inv : (k : ℕ) (s : Made) (x : ℕ) (op : Op) (from : List ℕ) → Inv k s → s.wants x ≡ []
      → Inv k (skip x op from s)
  skip_inv k s x op from inv e = record {
    at = inv.at;
    has = inv.has;
    all = inv.all;
    once = inv.once;
    ahead = inv.ahead;
    lines = (
      (λ j q f. (let h : HasDest (dests_of first (s.wants x)) j q = inv.all x j q f in
          subst (λ (l : List Target). HasDest (dests_of first l) j q) e h)),
      inv.lines,
    );
  }

  renamed_is : (x y : ℕ) (p : Owner) (j q z : ℕ) → renamed x y p j q ≡ Some z → ((p j q ≡ Some x) × (z ≡ y))
      ⊎ ((p j q ≡ Some z) × (z ≡ x → ⊥))
  renamed_is x y p j q z e = grind (arith, cases_Bool, cond-true, name_is, cond-false, both_ways, name_of)

  renamed_x : (x y : ℕ) (p : Owner) (j q : ℕ) → p j q ≡ Some x → renamed x y p j q ≡ Some y
  renamed_x x y p j q e = cond-true (is_name x (p j q)) (Some y) (p j q) (name_of x (p j q) e)

  renamed_z : (x y : ℕ) (p : Owner) (j q z : ℕ) → p j q ≡ Some z → (z ≡ x → ⊥) → renamed x y p j q ≡ Some z
  renamed_z x y p j q z e n = rw e (rw (ne_eqb x z (λ f. n (sym f))) refl)

  -- what waits for x may wait for y, if they are one name
  renamed_same : (x : ℕ) (p : Owner) (j q z : ℕ) → renamed x x p j q ≡ Some z → p j q ≡ Some z
  renamed_same x p j q z e = elim (renamed_is x x p j q z e) [ inl h ↦ h.0 ∙ ap Some (sym h.1) | inr h ↦ h.0 ]

  renamed_back : (x : ℕ) (p : Owner) (j q z : ℕ) → p j q ≡ Some z → renamed x x p j q ≡ Some z
  renamed_back x p j q z e = grind (arith, cases_eq, renamed_x, renamed_z)

  module _ (k : ℕ) (s : Made) (x y : ℕ) (inv : Inv k s) where
    P : Owner
    P = own k s.steps o

    same_inv : x ≡ y → Inv k (record { code = s.code; steps = Copies x y ∷ s.steps; wants = s.wants })
    same_inv e = grind (arith, renamed_back, renamed_same)

    at_y : moved x y s.wants y ≡ s.wants x ++ s.wants y
    at_y = rw (eq-eqb y y refl) refl

    at_x : (x ≡ y → ⊥) → moved x y s.wants x ≡ []
    at_x n = rw (ne_eqb x y n, eq-eqb x x refl) refl

    at_z : (z : ℕ) → (z ≡ y → ⊥) → (z ≡ x → ⊥) → moved x y s.wants z ≡ s.wants z
    at_z z n m = rw (ne_eqb z y n, ne_eqb z x m) refl

    moved_inv : (x ≡ y → ⊥)
        → Inv k (record { code = s.code; steps = Copies x y ∷ s.steps; wants = moved x y s.wants })
    moved_inv n = record {
      at = inv.at;
      has = λ z j q h. has z j q h (cases_eq z y) (cases_eq z x);
      all = λ z j q e. all z j q (renamed_is x y (own k s.steps o) j q z e) (cases_eq z y);
      once = λ z. once z (cases_eq z y) (cases_eq z x);
      ahead = λ z p h. ahead z p h (cases_eq z y) (cases_eq z x);
      lines = inv.lines;
    }
      where
        has : (z j q : ℕ) → HasDest (dests_of first (moved x y s.wants z)) j q → (z ≡ y) ⊎ (z ≡ y → ⊥)
            → (z ≡ x) ⊎ (z ≡ x → ⊥) → renamed x y (own k s.steps o) j q ≡ Some z
        has z j q h (inl e) g = grind (arith, has_append_cases, dests_append, at_y, renamed_x, renamed_z)
        has z j q h (inr m) (inl e) = grind (arith, at_x)
        has z j q h (inr m) (inr g) = grind (arith, renamed_z, at_z)

        to_y : (j q : ℕ) → HasDest (dests_of first (s.wants x) ++ dests_of first (s.wants y)) j q
            → HasDest (dests_of first (moved x y s.wants y)) j q
        to_y j q h = grind (arith, at_y, dests_append)

        all : (z j q : ℕ) → ((own k s.steps o j q ≡ Some x) × (z ≡ y))
            ⊎ ((own k s.steps o j q ≡ Some z) × (z ≡ x → ⊥)) → (z ≡ y) ⊎ (z ≡ y → ⊥)
            → HasDest (dests_of first (moved x y s.wants z)) j q
        all z j q (inl a) g = grind (arith, to_y, has_append_left)
        all z j q (inr a) (inl e) = grind (arith, to_y, has_append_right)
        all z j q (inr a) (inr m) = grind (arith, at_z)

        ahead : (z : ℕ) (p : Target) → In p (moved x y s.wants z) → (z ≡ y) ⊎ (z ≡ y → ⊥)
            → (z ≡ x) ⊎ (z ≡ x → ⊥) → Ahead first IsFront k p
        ahead z p h (inl e) g =
            elim (in_both p (s.wants x) (s.wants y)
            (subst (λ (l : List Target). In p l) (ap (moved x y s.wants) e ∙ at_y) h))
            [ inl a ↦ inv.ahead x p a | inr a ↦ inv.ahead y p a ]
        ahead z p h (inr m) (inl e) = grind (arith, at_x)
        ahead z p h (inr m) (inr g) = inv.ahead z p (rw (at_z z m g) at h)

        once : (z : ℕ) → (z ≡ y) ⊎ (z ≡ y → ⊥) → (z ≡ x) ⊎ (z ≡ x → ⊥)
            → DistinctDests (dests_of first (moved x y s.wants z))
        once z (inl e) g = grind (arith, at_y, dests_append, distinct_append)
        once z (inr m) (inl e) = grind (arith, at_x)
        once z (inr m) (inr g) = grind (arith, at_z)

    copy_inv : Inv k (copy x y s)
    copy_inv = elim (cases_eq x y) [
      | inl e ↦ rw (eq-eqb x y e) (same_inv e)
      | inr n ↦ rw (ne_eqb x y n) (moved_inv n)
    ]

  -- the tie, wherever the numbers suffice; no entry has a number from low on
  module _ (low : ℕ) (clear : (c i : ℕ) → IsFront c i → low ≤ first c + i → first c + i < first (suc b)
      → ⊥) where
    abbrev pub Good : Made → Type 0
    Good s = low + length s.code ≤ first (suc b) → Inv (first (suc b) - length s.code) s

    pub emit_good : (x : ℕ) (op : Op) (from : List ℕ) (s : Made) → SendsNow op → length from ≡ ports_of op
        → Good s → Good (emit b x op from s)
    emit_good x op from s sn pt g l =
        let z : first (suc b) - length s.code ≡ suc (first (suc b) - suc (length s.code)) = omega arith in
        emit_inv (first (suc b) - suc (length s.code)) s (rw z at (g (omega arith)))
        (λ c i f e. clear c i f (omega arith) (omega arith)) x op from sn pt

    pub rest_good : (line : WiredInstr) (from : List ℕ) (s : Made) → length from ≡ ports_of line.op
        → ((ds : List Dest) → now_of line.op ds ≡ []) ⊎ (line.dests ≡ []) → Good s → Good (rest b line from s)
    rest_good line from s pt q g l =
        let z : first (suc b) - length s.code ≡ suc (first (suc b) - suc (length s.code)) = omega arith in
        rest_inv (first (suc b) - suc (length s.code)) s (rw z at (g (omega arith)))
        (λ c i f e. clear c i f (omega arith) (omega arith)) line from pt q

    pub gather_good : (x : ℕ) (s : Made) → Good s → Good (gather b x s)
    gather_good x s g = emit_good x Merge (x ∷ []) s (λ ds. refl) refl g

    room_good : (n x : ℕ) (s : Made) → Good s → Good (with_room b n x s)
    room_good n x s g = grind (arith, s.wants, gather_good)

    rooms_good : (n : ℕ) (xs : List ℕ) (s : Made) → Good s → Good (with_rooms b n xs s)
    rooms_good n [] s g = g
    rooms_good n (x ∷ xs) s g = rooms_good n xs (with_room b n x s) (room_good n x s g)

    pub make_good : (x : ℕ) (op : Op) (from : List ℕ) (s : Made) → SendsNow op → length from ≡ ports_of op
        → Good s → Good (make b x op from s)
    make_good x op from s sn pt g = emit_good x op from (with_rooms b (length from) from s) sn pt
        (rooms_good (length from) from s g)

    copy_good : (x y : ℕ) (s : Made) → Good s → Good (copy x y s)
    copy_good x y s g l = copy_inv (first (suc b) - length s.code) s x y (g l)

    alias_good : (x y : ℕ) (s : Made) → Good s → Good (alias b x y s)
    alias_good x y s g =
        copy_good x y (cond (ltb most (length (s.wants x) + length (s.wants y))) (gather b y (gather b x s))
        s) (go (ltb most (length (s.wants x) + length (s.wants y))))
      where
        go : (f : Bool) → Good (cond f (gather b y (gather b x s)) s)
        go true = gather_good y (gather b x s) (gather_good x s g)
        go false = g

    skip_good : (x : ℕ) (op : Op) (from : List ℕ) (s : Made) → s.wants x ≡ [] → Good s
        → Good (skip x op from s)
    skip_good x op from s e g l = skip_inv (first (suc b) - length s.code) s x op from (g l) e

    -- an item has as many operands as ports, and a value is sent on at once
    abbrev pub ItemOk : Item → Type 0
    ItemOk (Make x op from) = SendsNow op × (length from ≡ ports_of op)
    ItemOk (Act op from) = length from ≡ ports_of op
    ItemOk (Same x y) = Unit {0}

    nil_is : (l : List Target) (m : Bool) → (is_nil l && m) ≡ true → l ≡ []
    nil_is l m e = grind (arith, both_ways)

    item_good : (i : Item) (s : Made) → ItemOk i → Good s → Good (wire_item b i s)
    item_good (Make x op from) s h g = go (is_nil (s.wants x) && not (is_memory_op op)) refl
      where
        go : (f : Bool) → (is_nil (s.wants x) && not (is_memory_op op)) ≡ f
            → Good (cond f (skip x op from s) (make b x op from s))
        go true e = skip_good x op from s (nil_is (s.wants x) (not (is_memory_op op)) e) g
        go false e = make_good x op from s h.0 h.1 g
    item_good (Act op from) s h g = rest_good (record { op = op; dests = []; others = [] }) from
        (with_rooms b (length from) from s) h (inr refl) (rooms_good (length from) from s g)
    item_good (Same x y) s h g = alias_good x y s g

    abbrev pub ItemsOk : List Item → Type 0
    ItemsOk [] = Unit {0}
    ItemsOk (i ∷ is) = ItemOk i × ItemsOk is

    pub wire_good : (is : List Item) (s : Made) → ItemsOk is → Good s → Good (wire b is s)
    wire_good [] s h g = g
    wire_good (i ∷ is) s h g = item_good i (wire b is s) h.0 (wire_good is s h.1 g)
