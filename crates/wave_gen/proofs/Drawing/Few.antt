-- No list of destinations is long.
use Rattle.std.proofs.Common.{ℕ, zero, suc, ◌+◌, ◌≡◌, ◌<◌, ◌≤◌, ◌⊎◌, ◌&&◌, not, Bool, true, false, cond}
use Rattle.std.proofs.Common.{eqb, List, [], ◌∷◌, ◌++◌, length, refl, sym, ap, ◌∙◌, subst, inl, inr, arith}
use Rattle.std.proofs.Common.{eq-eqb, ne_eqb}
use Rattle.std.proofs.lemmas.Bool.{cases_eq, cases_lt, cases_order, lt-ltb, le-ltb}
use Rattle.ws_isa.specs.declared.instr.Op.{Op}
use Rattle.ws_isa.specs.declared.instr.Op.TheVariants.{Send}
use Rattle.ws_isa.specs.Image.{is_memory_op, ports_of}
use Rattle.wave_gen.specs.Wire.{Target, Back, WiredInstr, Wants, Made, with_wants, with_uses, moved, emit}
use Rattle.wave_gen.specs.Wire.{rest, skip, copy, gather, with_room, with_rooms, Item, Make, Act, Same}
use Rattle.wave_gen.specs.Wire.{is_nil, make, alias, wire, most}
use Rattle.wave_gen.specs.Plans.{Tail, operands_of, hung, hang, chain, renew, advances, has_front}
use Rattle.wave_gen.proofs.Planning.Planned.{ItemsAre, Apart, AllBelow}
use Rattle.wave_gen.proofs.Waits.Flow.{helds}
use Rattle.wave_gen.proofs.Waits.Fronts.{in_or_not}
use Rattle.ws_isa.proofs.Images.{three_ports as ports_few}
use Rattle.ws_words.specs.Items.{In}

abbrev pub Short : List WiredInstr → Type 0
Short [] = Unit {0}
Short (l ∷ ls) = (length l.dests ≤ 7) × (length l.others ≤ 7) × Short ls

pub record Few (s : Made) : Type 0 where
  pub wants : (x : ℕ) → length (s.wants x) ≤ 7
  pub lines : Short s.code

-- uses add to the lists of the names that are used
uses_other : (b r q : ℕ) (from : List ℕ) (w : Wants) (y : ℕ) → (In y from → ⊥)
    → with_uses b r q from w y ≡ w y
uses_other b r q [] w y n = refl
uses_other b r q (x ∷ from) w y n = uses_other b r (suc q) from (with_wants w x (Back b r q ∷ w x)) y
    (λ h. n (inr h)) ∙ rw (ne_eqb y x (λ e. n (inl e))) refl

uses_most : (b r q : ℕ) (from : List ℕ) (w : Wants) (y : ℕ) → length (with_uses b r q from w y) ≤ length (w y)
    + length from
uses_most b r q [] w y = omega arith
uses_most b r q (x ∷ from) w y =
    grind (arith, cases_eq, uses_most b r (suc q) from (with_wants w x (Back b r q ∷ w x)) y)

emptied : (w : Wants) (x y : ℕ) → length (with_wants w x [] y) ≤ length (w y)
emptied w x y = grind (arith, cases_eq)

-- room for n more on each name that is used
abbrev Room : ℕ → List ℕ → Made → Type 0
Room n from s = (y : ℕ) → In y from → length (s.wants y) + n ≤ 7

emit_few : (b x : ℕ) (op : Op) (from : List ℕ) (s : Made) → Few s → Room (length from) from s
    → Few (emit b x op from s)
emit_few b x op from s f r = grind (arith, in_or_not, uses_most, emptied, uses_other)

pub rest_few : (b : ℕ) (line : WiredInstr) (from : List ℕ) (s : Made) → length line.dests ≤ 7
    → length line.others ≤ 7 → Few s → Room (length from) from s → Few (rest b line from s)
rest_few b line from s d e f r = grind (arith, in_or_not, uses_most, uses_other)

gather_one : (b x : ℕ) (s : Made) → length ((gather b x s).wants x) ≡ 1
gather_one b x s = rw (eq-eqb x x refl) refl

gather_other : (b x y : ℕ) (s : Made) → (y ≡ x → ⊥) → (gather b x s).wants y ≡ s.wants y
gather_other b x y s n = rw (ne_eqb y x n) refl

gather_few : (b x : ℕ) (s : Made) → Few s → Few (gather b x s)
gather_few b x s f = grind (arith, cases_eq, gather_one, gather_other)

-- the room that a merge makes stays
room_here : (b n x : ℕ) (s : Made) → suc n ≤ 7 → length ((with_room b n x s).wants x) + n ≤ 7
room_here b n x s l = grind (arith, cases_lt, s.wants, lt-ltb, gather_one, le-ltb)

room_keeps : (b n x y : ℕ) (s : Made) → suc n ≤ 7 → length (s.wants y) + n ≤ 7
    → length ((with_room b n x s).wants y) + n ≤ 7
room_keeps b n x y s l h = grind (arith, cases_eq, room_here, s.wants, gather_other)

rooms_keep : (b n : ℕ) (xs : List ℕ) (y : ℕ) (s : Made) → suc n ≤ 7 → length (s.wants y) + n ≤ 7
    → length ((with_rooms b n xs s).wants y) + n ≤ 7
rooms_keep b n [] y s l h = h
rooms_keep b n (x ∷ xs) y s l h = grind (
  arith,
  room_keeps,
  rooms_keep b n xs y (with_room b n x s) l (room_keeps b n x y s l h),
)

rooms_here : (b n : ℕ) (xs : List ℕ) (s : Made) → suc n ≤ 7 → Room n xs (with_rooms b n xs s)
rooms_here b n [] s l y i = absurd i
rooms_here b n (x ∷ xs) s l y (inr i) = rooms_here b n xs (with_room b n x s) l y i
rooms_here b n (x ∷ xs) s l y (inl e) = grind (arith, rooms_keep, room_here)

room_few : (b n x : ℕ) (s : Made) → Few s → Few (with_room b n x s)
room_few b n x s f = grind (arith, s.wants, gather_few)

rooms_few : (b n : ℕ) (xs : List ℕ) (s : Made) → Few s → Few (with_rooms b n xs s)
rooms_few b n [] s f = f
rooms_few b n (x ∷ xs) s f = rooms_few b n xs (with_room b n x s) (room_few b n x s f)

pub make_few : (b x : ℕ) (op : Op) (from : List ℕ) (s : Made) → length from ≡ ports_of op → Few s
    → Few (make b x op from s)
make_few b x op from s e f = let p : ports_of op ≤ 3 = ports_few op in
    emit_few b x op from (with_rooms b (length from) from s) (rooms_few b (length from) from s f)
    (rooms_here b (length from) from s (omega arith))

app_length : (xs ys : List Target) → length (xs ++ ys) ≡ length xs + length ys
app_length [] ys = omega arith
app_length (x ∷ xs) ys = grind (arith, app_length xs ys)

copy_few : (x y : ℕ) (s : Made) → Few s → ((x ≡ y → ⊥) → length (s.wants x) + length (s.wants y) ≤ 7)
    → Few (copy x y s)
copy_few x y s f h = record { wants = λ z. go z (cases_eq x y); lines = f.lines }
  where
    moved_most : (x ≡ y → ⊥) → (z : ℕ) → length (moved x y s.wants z) ≤ 7
    moved_most n z = elim (cases_eq z y) [
      | inl e ↦ grind (arith, eq-eqb, s.wants, app_length)
      | inr d ↦ grind (arith, cases_eq, ne_eqb, eq-eqb, f.wants)
    ]

    go : (z : ℕ) → (x ≡ y) ⊎ (x ≡ y → ⊥) → length ((copy x y s).wants z) ≤ 7
    go z (inl e) = rw (eq-eqb x y e) (f.wants z)
    go z (inr n) = rw (ne_eqb x y n) (moved_most n z)

alias_few : (b x y : ℕ) (s : Made) → Few s → Few (alias b x y s)
alias_few b x y s f = go (cases_lt most (length (s.wants x) + length (s.wants y)))
  where
    go : (most < length (s.wants x) + length (s.wants y)) ⊎ (length (s.wants x) + length (s.wants y) ≤ most)
        → Few (alias b x y s)
    go (inl u) = rw (lt-ltb most (length (s.wants x) + length (s.wants y)) u)
        (grind (arith, copy_few, gather_few, gather_one, gather_other))
    go (inr u) = grind (arith, le-ltb, s.wants, copy_few)

pub wire_few : (b : ℕ) (is : List Item) (s : Made) → ItemsAre is → Few s → Few (wire b is s)
wire_few b [] s h f = f
wire_few b (Make x op from ∷ is) s h f =
    go (wire_few b is s h.1 f) (is_nil ((wire b is s).wants x) && not (is_memory_op op))
  where
    go : Few (wire b is s) → (c : Bool)
        → Few (cond c (skip x op from (wire b is s)) (make b x op from (wire b is s)))
    go g true = record { wants = g.wants; lines = g.lines }
    go g false = make_few b x op from (wire b is s) h.0.1 g
wire_few b (Act op from ∷ is) s h f = let p : ports_of op ≤ 3 = ports_few op in
    let e : length from ≡ ports_of op = h.0.0 in
    rest_few b (record { op = op; dests = []; others = [] }) from
    (with_rooms b (length from) from (wire b is s)) (omega arith) (omega arith)
    (rooms_few b (length from) from (wire b is s) (wire_few b is s h.1 f))
    (rooms_here b (length from) from (wire b is s) (omega arith))
wire_few b (Same x y ∷ is) s h f = alias_few b x y (wire b is s) (wire_few b is s h.1 f)

pub renew_few : (b : ℕ) (xs : List ℕ) (s : Made) → Few s → Few (renew b xs s)
renew_few b [] s f = f
renew_few b (x ∷ xs) s f = renew_few b xs (cond (has_front b (s.wants x)) (gather b x s) s)
    (go (has_front b (s.wants x)))
  where
    go : (c : Bool) → Few (cond c (gather b x s) s)
    go c = grind (arith, gather_few)

pub merge_few : (b x : ℕ) (s : Made) → Few s → Few (gather b x s)
merge_few = gather_few

pub again_few : (b x : ℕ) (op : Op) (s : Made) → Few s → Few (emit b x op (x ∷ []) s)
again_few b x op s f = grind (arith, gather_few)

pub advances_few : (b : ℕ) (xs : List ℕ) (s : Made) → Few s → Few (advances b xs s)
advances_few b [] s f = f
advances_few b (x ∷ xs) s f = grind (arith, again_few, advances_few b xs s f)

-- two uses
record TwoUses (w v : Wants) (a c : ℕ) : Type 0 where
  pub first : length (v a) ≡ suc (length (w a))
  pub second : length (v c) ≡ suc (length (w c))
  pub other : (y : ℕ) → (y ≡ a → ⊥) → (y ≡ c → ⊥) → v y ≡ w y

two_uses : (b r : ℕ) (w : Wants) (a c : ℕ) → (a ≡ c → ⊥) → TwoUses w (with_uses b r 0 (a ∷ c ∷ []) w) a c
two_uses b r w a c n = grind arith

turned : {w v : Wants} (a c : ℕ) → TwoUses w v a c → TwoUses w v c a
turned a c t = record { first = t.second; second = t.first; other = λ y d e. t.other y e d }

tail_uses : (b r : ℕ) (op : Op) (w : Wants) (h s : ℕ) → (h ≡ s → ⊥)
    → TwoUses w (with_uses b r 0 (operands_of op h s) w) h s
tail_uses b r (Send p) w h s n = turned s h (two_uses b r w s h (λ e. n (sym e)))
tail_uses b r _ w h s n = two_uses b r w h s n

abbrev pub Emptied : Wants → List ℕ → Type 0
Emptied w [] = Unit {0}
Emptied w (x ∷ xs) = (w x ≡ []) × Emptied w xs

abbrev pub TailsShort : List Tail → Type 0
TailsShort [] = Unit {0}
TailsShort (t ∷ ts) = (length t.line.dests ≤ 7) × (length t.line.others ≤ 7) × TailsShort ts

-- how much is wanted at a block's end
record Hung (z c n : ℕ) (ts : List Tail) (w : Wants) (s : Made) : Type 0 where
  pub low : (y : ℕ) → y < z → length (s.wants y) ≤ 7
  pub held : (y : ℕ) → y < z → In y (helds ts) → length (s.wants y) ≤ 1
  pub other : (y : ℕ) → y < z → (In y (helds ts) → ⊥) → s.wants y ≡ w y
  pub before : (y : ℕ) → z ≤ y → y < c → length (s.wants y) ≡ 0
  pub here : length (s.wants c) ≤ n
  pub behind : (y : ℕ) → c < y → length (s.wants y) ≤ 6
  pub lines : Short s.code

module _ (b z : ℕ) (w : Wants) (w_few : (x : ℕ) → length (w x) ≤ 7) (w_none : (y : ℕ) → z ≤ y
    → w y ≡ []) where
  one_tail : (c n sel : ℕ) (t : Tail) (ts : List Tail) (s : Made) → z ≤ c → c ≤ sel
      → AllBelow z (helds (t ∷ ts)) → Apart (helds (t ∷ ts)) → w t.held ≡ [] → TailsShort (t ∷ ts)
      → Hung z sel n ts w s →
      ((y : ℕ) → z ≤ y → y < c → length (s.wants y) ≡ 0) → (m : ℕ) → length (s.wants c) + cond (eqb c sel) 1 0
      ≤ m → ((y : ℕ) → c < y → length (s.wants y) + cond (eqb y sel) 1 0 ≤ 6)
      → Hung z c m (t ∷ ts) w (hung b t sel s)
  one_tail c n sel t ts s lc ls below apart empty short h bf m hm hb = record {
    low = λ y l. elim (cases_eq y t.held) [
      | inl e ↦ (let k : length ((hung b t sel s).wants y) ≤ 1 = at_held y e in omega arith)
      | inr d ↦ rw (u.other y d (λ e. omega arith)) (h.low y l)
    ];
    held = λ y l i. elim (cases_eq y t.held) [
      | inl e ↦ at_held y e
      | inr d ↦ rw (u.other y d (λ e. omega arith)) (h.held y l (elim i [ inl e ↦ absurd (d e) | inr j ↦ j ]))
    ];
    other = λ y l n'. u.other y (λ e. n' (inl e)) (λ e. omega arith) ∙ h.other y l (λ i. n' (inr i));
    before = λ y l r. ap length (u.other y (λ e. (let q : t.held < z = below.0 in omega arith))
        (λ e. omega arith)) ∙ bf y l r;
    here = sel_case c m (λ e. (let q : t.held < z = below.0 in omega arith)) hm;
    behind = λ y l. sel_case y 6 (λ e. (let q : t.held < z = below.0 in omega arith)) (hb y l);
    lines = (short.0, short.1, h.lines);
  }
    where
      u : TwoUses s.wants (hung b t sel s).wants t.held sel
      u = tail_uses b (length s.code) t.line.op s.wants t.held sel
          (λ e. (let q : t.held < z = below.0 in omega arith))

      at_held : (y : ℕ) → y ≡ t.held → length ((hung b t sel s).wants y) ≤ 1
      at_held y e =
          let f : length ((hung b t sel s).wants t.held) ≡ suc (length (s.wants t.held)) = u.first in
          let g : length (s.wants t.held) ≡ 0 = ap length (h.other t.held below.0 apart.0 ∙ empty) in
          let k : length ((hung b t sel s).wants y) ≡ length ((hung b t sel s).wants t.held) =
          ap (λ (x : ℕ). length ((hung b t sel s).wants x)) e in omega arith

      sel_case : (y m : ℕ) → (y ≡ t.held → ⊥) → length (s.wants y) + cond (eqb y sel) 1 0 ≤ m
          → length ((hung b t sel s).wants y) ≤ m
      sel_case y m d r = elim (cases_eq y sel) [
        | inl e ↦ (let f : length ((hung b t sel s).wants sel) ≡ suc (length (s.wants sel)) = u.second in
            let k : length ((hung b t sel s).wants y) ≡ length ((hung b t sel s).wants sel) =
            ap (λ (x : ℕ). length ((hung b t sel s).wants x)) e in
            let j : length (s.wants y) ≡ length (s.wants sel) = ap (λ (x : ℕ). length (s.wants x)) e in
            let q : length (s.wants y) + 1 ≤ m = subst (λ (c : Bool). length (s.wants y) + cond c 1 0 ≤ m)
            (eq-eqb y sel e) r in omega arith)
        | inr e ↦
            rw (u.other y d e) (let q : length (s.wants y) + 0 ≤ m = subst
            (λ (c : Bool). length (s.wants y) + cond c 1 0 ≤ m) (ne_eqb y sel e) r in omega arith)
      ]

  hang_few : (n c : ℕ) (ts : List Tail) → n ≤ 6 → z ≤ c → AllBelow z (helds ts) → Apart (helds ts)
      → Emptied w (helds ts) → TailsShort ts → Hung z c n ts w (hang b n c ts w)
  hang_few n c [] ln lc below apart empty short = grind arith
  hang_few zero c (t ∷ ts) ln lc below apart empty short =
      let h = hang_few 5 (suc c) ts (omega arith) (omega arith) below.1 apart.1 empty.1 short.2 in
      one_tail c 5 (suc c) t ts (hang b 5 (suc c) ts w) lc (omega arith) below apart empty.0 short h
      (λ y l r. h.before y l (omega arith)) 0
      (rw (ne_eqb c (suc c) (λ e. omega arith)) (let e : length ((hang b 5 (suc c) ts w).wants c) ≡ 0 =
      h.before c lc (omega arith) in omega arith))
      (λ y l. elim (cases_eq y (suc c)) [
        | inl e ↦ rw (eq-eqb y (suc c) e) (let k : length ((hang b 5 (suc c) ts w).wants (suc c)) ≤ 5 =
            h.here in let j : length ((hang b 5 (suc c) ts w).wants y) ≡ length
            ((hang b 5 (suc c) ts w).wants (suc c)) = ap (λ (x : ℕ). length ((hang b 5 (suc c) ts w).wants x))
            e in omega arith)
        | inr d ↦ rw (ne_eqb y (suc c) d) (let k : length ((hang b 5 (suc c) ts w).wants y) ≤ 6 =
            h.behind y (omega arith) in omega arith)
      ])
  hang_few (suc n) c (t ∷ ts) ln lc below apart empty short =
      let h = hang_few n c ts (omega arith) lc below.1 apart.1 empty.1 short.2 in
      one_tail c n c t ts (hang b n c ts w) lc (omega arith) below apart empty.0 short h
      (λ y l r. h.before y l r) (suc n)
      (rw (eq-eqb c c refl) (let k : length ((hang b n c ts w).wants c) ≤ n = h.here in omega arith))
      (λ y l. rw (ne_eqb y c (λ e. omega arith)) (let k : length ((hang b n c ts w).wants y) ≤ 6 =
      h.behind y l in omega arith))

  pub hung_few : (ts : List Tail) → AllBelow z (helds ts) → Apart (helds ts) → Emptied w (helds ts)
      → TailsShort ts → Few (hang b 6 z ts w)
  hung_few ts below apart empty short =
      let h = hang_few 6 z ts (omega arith) (omega arith) below apart empty short in
      grind (arith, cases_order, h.low, h.behind)

pub chain_are : (z n : ℕ) → ItemsAre (chain z n)
chain_are z zero = tt
chain_are z (suc n) = (((λ ds. refl, refl), refl), chain_are (suc z) n)
