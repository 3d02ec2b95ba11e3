-- Merges are paid for by the spots that they gather.
use Rattle.std.proofs.Common.{ℕ, zero, suc, ◌+◌, ◌≡◌, ◌<◌, ◌≤◌, ◌⊎◌, ◌&&◌, not, Bool, true, false, cond}
use Rattle.std.proofs.Common.{List, [], ◌∷◌, ◌++◌, length, refl, inl, inr, arith, eq-eqb, ne_eqb}
use Rattle.std.proofs.lemmas.Bool.{cases_eq, cases_lt, lt-ltb, le-ltb}
use Rattle.ws_isa.specs.declared.instr.Op.{Op}
use Rattle.wave_gen.specs.Wire.{Target, Back, WiredInstr, Wants, Made, with_wants, with_uses, moved, emit}
use Rattle.wave_gen.specs.Wire.{rest, skip, copy, gather, with_room, with_rooms, Item, Make, Act, Same}
use Rattle.wave_gen.specs.Wire.{is_nil, make, alias, wire_item, wire, most}
use Rattle.wave_gen.proofs.Planning.Planned.{AllBelow}
use Rattle.wave_gen.proofs.Weighing.Weights.{total, charge, weights, ItemsBelow}

-- a name past the bound
pub set_out : (w : Wants) (x : ℕ) (l : List Target) (n : ℕ) → n ≤ x → total (with_wants w x l) n ≡ total w n
set_out w x l zero u = refl
set_out w x l (suc n) u = grind (arith, total, set_out w x l n (omega arith))

-- another list for a name
pub set_total : (w : Wants) (x : ℕ) (l : List Target) (n : ℕ) → x < n → total (with_wants w x l) n + length
    (w x) ≡ total w n + length l
set_total w x l zero u = absurd (omega arith)
set_total w x l (suc n) u = elim (cases_eq n x) [
  | inl e ↦ grind (arith, set_out, eq-eqb)
  | inr d ↦ (let h : total (with_wants w x l) n + length (w x) ≡ total w n + length l =
      set_total w x l n (omega arith) in rw (ne_eqb n x d) (omega arith))
]

add_total : (w : Wants) (x : ℕ) (p : Target) (n : ℕ) → total (with_wants w x (p ∷ w x)) n ≤ suc (total w n)
add_total w x p n = grind (arith, cases_lt, total, set_total, set_out)

uses_total : (b r q : ℕ) (from : List ℕ) (w : Wants) (n : ℕ) → total (with_uses b r q from w) n ≤ total w n
    + length from
uses_total b r q [] w n = omega arith
uses_total b r q (x ∷ from) w n =
    grind (arith, add_total, uses_total b r (suc q) from (with_wants w x (Back b r q ∷ w x)) n)

empty_total : (w : Wants) (x n : ℕ) → total (with_wants w x []) n ≤ total w n
empty_total w x n = grind (arith, cases_lt, total, set_total, set_out)

-- one more instruction
pub emit_charge : (n b x : ℕ) (op : Op) (from : List ℕ) (s : Made) → charge n (emit b x op from s) ≤ charge n
    s + (4 + length from)
emit_charge n b x op from s = grind (arith, total, uses_total, empty_total)

pub rest_charge : (n b : ℕ) (line : WiredInstr) (from : List ℕ) (s : Made)
    → charge n (rest b line from s) ≤ charge n s + (4 + length from)
rest_charge n b line from s = grind (arith, total, uses_total)

-- a merge takes what it gathers
pub gather_charge : (n b x : ℕ) (s : Made) → x < n → charge n (gather b x s) + length (s.wants x) ≤ charge n s
    + 5
gather_charge n b x s l = grind (arith, total, uses_total, set_total)

room_charge : (n b k x : ℕ) (s : Made) → x < n → k < 4 → charge n (with_room b k x s) ≤ charge n s
room_charge n b k x s l u = grind (arith, cases_lt, s.wants, lt-ltb, gather_charge, le-ltb)

rooms_charge : (n b k : ℕ) (xs : List ℕ) (s : Made) → AllBelow n xs → k < 4
    → charge n (with_rooms b k xs s) ≤ charge n s
rooms_charge n b k [] s a u = omega arith
rooms_charge n b k (x ∷ xs) s a u =
    grind (arith, room_charge, rooms_charge n b k xs (with_room b k x s) a.1 u)

pub make_charge : (n b x : ℕ) (op : Op) (from : List ℕ) (s : Made) → AllBelow n from → length from < 4
    → charge n (make b x op from s) ≤ charge n s + (4 + length from)
make_charge n b x op from s a u =
    let h : charge n (emit b x op from (with_rooms b (length from) from s)) ≤ charge n
    (with_rooms b (length from) from s) + (4 + length from) = emit_charge n b x op from
    (with_rooms b (length from) from s) in grind (arith, rooms_charge)

-- what is wanted stays wanted
room_wanted : (b k x y : ℕ) (s : Made) → 1 ≤ length (s.wants y) → 1 ≤ length ((with_room b k x s).wants y)
room_wanted b k x y s l = grind (arith, s.wants, cases_eq)

rooms_wanted : (b k : ℕ) (xs : List ℕ) (y : ℕ) (s : Made) → 1 ≤ length (s.wants y)
    → 1 ≤ length ((with_rooms b k xs s).wants y)
rooms_wanted b k [] y s l = l
rooms_wanted b k (x ∷ xs) y s l = grind (
  arith,
  room_wanted,
  rooms_wanted b k xs y (with_room b k x s) (room_wanted b k x y s l),
)

-- a value that is wanted
wanted_charge : (n b x : ℕ) (op : Op) (from : List ℕ) (s : Made) → x < n → AllBelow n from → length from < 4
    → 1 ≤ length (s.wants x) → charge n (make b x op from s) ≤ charge n s + (3 + length from)
wanted_charge n b x op from s l a u w = grind (arith, rooms_wanted, uses_total, set_total, rooms_charge)

app_length : (xs ys : List Target) → length (xs ++ ys) ≡ length xs + length ys
app_length [] ys = omega arith
app_length (x ∷ xs) ys = grind (arith, app_length xs ys)

moved_is : (x y : ℕ) (w : Wants) (n : ℕ) → (x ≡ y → ⊥) → total (moved x y w) n
    ≡ total (with_wants (with_wants w x []) y (w x ++ w y)) n
moved_is x y w zero d = refl
moved_is x y w (suc n) d = grind (arith, total, moved_is x y w n d)

copy_charge : (n x y : ℕ) (s : Made) → x < n → y < n → charge n (copy x y s) ≤ charge n s
copy_charge n x y s l u = grind (arith, cases_eq, total, moved_is, set_total, app_length)

alias_charge : (n b x y : ℕ) (s : Made) → x < n → y < n → charge n (alias b x y s) ≤ charge n s + 5
alias_charge n b x y s l u = go (cases_lt most (length (s.wants x) + length (s.wants y)))
  where
    two : charge n (gather b y (gather b x s)) + length ((gather b x s).wants y) + length (s.wants x)
        ≤ charge n s + 10
    two = let h : charge n (gather b y (gather b x s)) + length ((gather b x s).wants y) ≤ charge n
        (gather b x s) + 5 = gather_charge n b y (gather b x s) u in
        let g : charge n (gather b x s) + length (s.wants x) ≤ charge n s + 5 = gather_charge n b x s l in
        omega arith

    taken : most < length (s.wants x) + length (s.wants y) → 5 ≤ length ((gather b x s).wants y) + length
        (s.wants x)
    taken v = grind (arith, cases_eq, one, s.wants, other)
      where
        one : length ((gather b x s).wants x) ≡ 1
        one = rw (eq-eqb x x refl) refl

        other : (y ≡ x → ⊥) → length ((gather b x s).wants y) ≡ length (s.wants y)
        other d = rw (ne_eqb y x d) refl

    go : (most < length (s.wants x) + length (s.wants y)) ⊎ (length (s.wants x) + length (s.wants y) ≤ most)
        → charge n (alias b x y s) ≤ charge n s + 5
    go h = grind (arith, lt-ltb, charge, copy_charge, two, taken, le-ltb)

-- the code of items, with what is wanted before it, against what they weigh and what is wanted behind it
pub wire_charge : (n b : ℕ) (is : List Item) (s : Made) → ItemsBelow n is
    → charge n (wire b is s) ≤ charge n s + weights is
wire_charge n b [] s h = omega arith
wire_charge n b (Make x op from ∷ is) s h = grind (arith, go, wire_charge n b is s h.1)
  where
    go : (l : List Target) → (wire b is s).wants x ≡ l → (m : Bool)
        → charge n (cond (is_nil ((wire b is s).wants x) && not m) (skip x op from (wire b is s))
        (make b x op from (wire b is s))) ≤ charge n (wire b is s) + cond m (4 + length from)
        (3 + length from)
    go [] e true = rw e (make_charge n b x op from (wire b is s) h.0.1 h.0.2)
    go [] e false = rw e (omega arith)
    go (p ∷ l) e true = rw e (make_charge n b x op from (wire b is s) h.0.1 h.0.2)
    go (p ∷ l) e false =
        rw e (wanted_charge n b x op from (wire b is s) h.0.0 h.0.1 h.0.2 (rw e (omega arith)))
wire_charge n b (Act op from ∷ is) s h =
    let ih : charge n (wire b is s) ≤ charge n s + weights is = wire_charge n b is s h.1 in
    let g : charge n (wire_item b (Act op from) (wire b is s)) ≤ charge n
    (with_rooms b (length from) from (wire b is s)) + (4 + length from) =
    rest_charge n b (record { op = op; dests = []; others = [] }) from
    (with_rooms b (length from) from (wire b is s)) in grind (arith, rooms_charge)
wire_charge n b (Same x y ∷ is) s h =
    let ih : charge n (wire b is s) ≤ charge n s + weights is = wire_charge n b is s h.1 in
    let g : charge n (alias b x y (wire b is s)) ≤ charge n (wire b is s) + 5 =
    alias_charge n b x y (wire b is s) h.0.0 h.0.1 in omega arith
