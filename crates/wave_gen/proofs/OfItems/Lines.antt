-- The instructions of a block, as made from its end.
use Rattle.std.proofs.Common.{ℕ, zero, suc, ◌+◌, ◌≡◌, ◌≤◌, Bool, true, false, cond, ltb, List, []}
use Rattle.std.proofs.Common.{◌∷◌, ◌++◌, length, Some, None, refl, sym, ap, arith}
use Rattle.ws_isa.specs.declared.instr.Op.{Op}
use Rattle.ws_isa.specs.declared.instr.Op.TheVariants.{Merge, Advance}
use Rattle.wave_gen.specs.Waits.{Step, Fires, Rests, Skips, Copies, count}
use Rattle.wave_gen.specs.Wire.{WiredInstr, Made, emit, rest, skip, gather, with_room, with_rooms, Item, Make}
use Rattle.wave_gen.specs.Wire.{Act, Same, make, alias, wire_item, wire, most}
use Rattle.wave_gen.specs.Plans.{Tail, hang, more, chain, selected, renew, advances, has_front}
use Rattle.ws_words.specs.Items.{nth}

-- all lines have such an operation
abbrev pub Lines : (Op → Type 0) → List WiredInstr → Type 0
Lines P [] = Unit {0}
Lines P (l ∷ ls) = P l.op × Lines P ls

pub line_at : (P : Op → Type 0) (ls : List WiredInstr) (i : ℕ) (l : WiredInstr) → Lines P ls
    → nth ls i ≡ Some l → P l.op
line_at P [] i l h e = absurd (let a : None ≡ Some l = e in cc)
line_at P (m ∷ ls) zero l h e = let g : m ≡ l = cc in rw (sym g) h.0
line_at P (m ∷ ls) (suc i) l h e = line_at P ls i l h.1 e

abbrev pub Items : (Op → Type 0) → List Item → Type 0
Items P [] = Unit {0}
Items P (Make x op from ∷ is) = P op × Items P is
Items P (Act op from ∷ is) = P op × Items P is
Items P (Same x y ∷ is) = Items P is

abbrev pub Tails : (Op → Type 0) → List Tail → Type 0
Tails P [] = Unit {0}
Tails P (t ∷ ts) = P t.line.op × Tails P ts

module _ (P : Op → Type 0) (merge : P Merge) where
  -- more lines of this kind
  pub record More (s t : Made) : Type 0 where
    pub long : length s.code ≤ length t.code
    pub lines : Lines P s.code → Lines P t.code
    pub front : List WiredInstr
    pub split : t.code ≡ front ++ s.code
    pub kind : Lines P front
    pub prior : List Step
    pub steps : t.steps ≡ prior ++ s.steps
    pub balance : count prior ≡ length front

  count_append : (xs ys : List Step) → count (xs ++ ys) ≡ count xs + count ys
  count_append [] ys = omega arith
  count_append (Fires x op from ∷ xs) ys = grind (arith, count_append xs ys)
  count_append (Rests op from ∷ xs) ys = grind (arith, count_append xs ys)
  count_append (Skips x op from ∷ xs) ys = count_append xs ys
  count_append (Copies x y ∷ xs) ys = count_append xs ys

  steps_assoc : (xs ys zs : List Step) → (xs ++ ys) ++ zs ≡ xs ++ (ys ++ zs)
  steps_assoc [] ys zs = refl
  steps_assoc (x ∷ xs) ys zs = ap (λ (r : List Step). x ∷ r) (steps_assoc xs ys zs)

  length_append : (xs ys : List WiredInstr) → length (xs ++ ys) ≡ length xs + length ys
  length_append [] ys = omega arith
  length_append (x ∷ xs) ys = grind (arith, length_append xs ys)

  pub same_more : (s : Made) → More s s
  same_more s = record {
    long = omega arith;
    lines = λ l. l;
    front = [];
    split = refl;
    kind = tt;
    prior = [];
    steps = refl;
    balance = refl;
  }

  lines_append : (xs ys : List WiredInstr) → Lines P xs → Lines P ys → Lines P (xs ++ ys)
  lines_append [] ys a b = b
  lines_append (x ∷ xs) ys a b = (a.0, lines_append xs ys a.1 b)

  append_assoc : (xs ys zs : List WiredInstr) → (xs ++ ys) ++ zs ≡ xs ++ (ys ++ zs)
  append_assoc [] ys zs = refl
  append_assoc (x ∷ xs) ys zs = ap (λ (r : List WiredInstr). x ∷ r) (append_assoc xs ys zs)

  pub then_more : (s t u : Made) → More s t → More t u → More s u
  then_more s t u f g =
      record {
        long = grind arith;
        lines = λ l. g.lines (f.lines l);
        front = g.front ++ f.front;
        split = grind (arith, append_assoc, g.front, f.front);
        kind = lines_append g.front f.front g.kind f.kind;
        prior = g.prior ++ f.prior;
        steps = grind (arith, steps_assoc);
        balance = grind (arith, count_append, length_append, g.front);
      }

  pub emit_more : (b x : ℕ) (op : Op) (from : List ℕ) (s : Made) → P op → More s (emit b x op from s)
  emit_more b x op from s h = record {
    long = omega arith;
    lines = λ l. (h, l);
    front = record { op = op; dests = s.wants x; others = [] } ∷ [];
    split = refl;
    kind = (h, tt);
    prior = Fires x op from ∷ [];
    steps = refl;
    balance = refl;
  }

  pub rest_more : (b : ℕ) (line : WiredInstr) (from : List ℕ) (s : Made) → P line.op
      → More s (rest b line from s)
  rest_more b line from s h = record {
    long = omega arith;
    lines = λ l. (h, l);
    front = line ∷ [];
    split = refl;
    kind = (h, tt);
    prior = Rests line.op from ∷ [];
    steps = refl;
    balance = refl;
  }

  room_more : (b n x : ℕ) (s : Made) → More s (with_room b n x s)
  room_more b n x s = go (ltb most (length (s.wants x) + n))
    where
      go : (f : Bool) → More s (cond f (gather b x s) s)
      go true = emit_more b x Merge (x ∷ []) s merge
      go false = same_more s

  pub rooms_more : (b n : ℕ) (xs : List ℕ) (s : Made) → More s (with_rooms b n xs s)
  rooms_more b n [] s = same_more s
  rooms_more b n (x ∷ xs) s = then_more s (with_room b n x s) (with_rooms b n xs (with_room b n x s))
      (room_more b n x s) (rooms_more b n xs (with_room b n x s))

  pub make_more : (b x : ℕ) (op : Op) (from : List ℕ) (s : Made) → P op → More s (make b x op from s)
  make_more b x op from s h = then_more s (with_rooms b (length from) from s) (make b x op from s)
      (rooms_more b (length from) from s) (grind (arith, emit_more))

  copied_more : (b x y : ℕ) (s : Made) → More s (alias b x y s)
  copied_more b x y s = let g = go (ltb most (length (s.wants x) + length (s.wants y))) in
      record {
        long = g.long;
        lines = g.lines;
        front = g.front;
        split = g.split;
        kind = g.kind;
        prior = Copies x y ∷ g.prior;
        steps = ap (λ (r : List Step). Copies x y ∷ r) g.steps;
        balance =
            g.balance;
      }
    where
      go : (f : Bool) → More s (cond f (gather b y (gather b x s)) s)
      go true = then_more s (gather b x s) (gather b y (gather b x s)) (emit_more b x Merge (x ∷ []) s merge)
          (emit_more b y Merge (y ∷ []) (gather b x s) merge)
      go false = same_more s

  pub wire_more : (b : ℕ) (is : List Item) (s : Made) → Items P is → More s (wire b is s)
  wire_more b [] s h = same_more s
  wire_more b (Make x op from ∷ is) s h = grind (arith, then_more, go, wire_more b is s h.1)
    where
      go : (f : Bool)
          → More (wire b is s) (cond f (skip x op from (wire b is s)) (make b x op from (wire b is s)))
      go true = record {
        long = omega arith;
        lines = λ l. l;
        front = [];
        split = refl;
        kind = tt;
        prior = Skips x op from ∷ [];
        steps = refl;
        balance = refl;
      }
      go false = make_more b x op from (wire b is s) h.0
  wire_more b (Act op from ∷ is) s h = then_more s (with_rooms b (length from) from (wire b is s))
      (wire_item b (Act op from) (wire b is s))
      (grind (arith, then_more, rooms_more, wire_more b is s h.1))
      (grind (arith, rest_more))
  wire_more b (Same x y ∷ is) s h = grind (arith, then_more, copied_more, wire_more b is s h)

  pub renew_more : (b : ℕ) (xs : List ℕ) (s : Made) → More s (renew b xs s)
  renew_more b [] s = same_more s
  renew_more b (x ∷ xs) s = grind (
    arith,
    then_more,
    s.wants,
    go,
    renew_more b xs (cond (has_front b (s.wants x)) (gather b x s) s),
  )
    where
      go : (f : Bool) → More s (cond f (gather b x s) s)
      go true = emit_more b x Merge (x ∷ []) s merge
      go false = same_more s

  chain_items : (z n : ℕ) → Items P (chain z n)
  chain_items z zero = tt
  chain_items z (suc n) = (merge, chain_items (suc z) n)

  pub hang_lines : (b n z : ℕ) (ts : List Tail) (w : ℕ → List _) → Tails P ts → Lines P (hang b n z ts w).code
  hang_lines b n z [] w h = tt
  hang_lines b zero z (t ∷ ts) w h = (h.0, hang_lines b 5 (suc z) ts w h.1)
  hang_lines b (suc n) z (t ∷ ts) w h = (h.0, hang_lines b n z ts w h.1)

  pub selected_more : (b z : ℕ) (ts : List Tail) (w : ℕ → List _) → More (hang b 6 z ts w) (selected b z ts w)
  selected_more b z ts w = wire_more b (chain z (more 6 ts)) (hang b 6 z ts w) (chain_items z (more 6 ts))

  pub advances_more : (b : ℕ) (xs : List ℕ) (s : Made) → P Advance → More s (advances b xs s)
  advances_more b [] s h = same_more s
  advances_more b (x ∷ xs) s h = then_more s (advances b xs s) (advances b (x ∷ xs) s)
      (advances_more b xs s h) (emit_more b x Advance (x ∷ []) (advances b xs s) h)

pub hang_nth : (b n z : ℕ) (ts : List Tail) (w : ℕ → List _) (i : ℕ) (t : Tail) → nth ts i ≡ Some t
    → nth (hang b n z ts w).code i ≡ Some t.line
hang_nth b zero z (u ∷ ts) w (suc i) t e = hang_nth b 5 (suc z) ts w i t e
hang_nth b (suc n) z (u ∷ ts) w (suc i) t e = hang_nth b n z ts w i t e
hang_nth b n z ts w i t e = grind arith
