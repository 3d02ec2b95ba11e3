-- What a maker has made stands for what the definitions make.
use Rattle.std.proofs.Common.{ℕ, ◌+◌, ◌-◌, ◌<◌, ◌≤◌, ◌&&◌, not, drop, get_or, arith, ◌≡◌, Bool, true, false}
use Rattle.std.proofs.Common.{cond, ltb, List, [], ◌∷◌, ◌++◌, length, map, reverse, refl, ap, ◌∙◌}
use Rattle.ws_isa.specs.Image.{is_memory_op}
use Rattle.std.proofs.lemmas.List.{drop_more, length-map, length-reverse, reverse-append, map_push}
use Rattle.ws_isa.specs.declared.instr.Op.{Op}
use Rattle.ws_isa.specs.declared.instr.Op.TheVariants.{Merge}
use Rattle.wave_gen.specs.declared.spot.Line.{Line}
use Rattle.wave_gen.specs.declared.maker.Maker.{Maker}
use Rattle.wave_gen.specs.Wire as plain
use Rattle.wave_gen.specs.Wire.{Target, Wants, Made, with_wants, with_uses, most, emit, rest, gather}
use Rattle.wave_gen.specs.Wire.{with_room, with_rooms, make, alias, copy, is_nil, Make, wire_item}
use Rattle.wave_gen.specs.Plans.{Plan, pulse, has_front, renew, advances, gives}
use Rattle.wave_gen.specs.Tables.{listed, line_of, HasMade, begun}

code_push : (ls : List Line) (l : Line) → reverse (map line_of (ls ++ l ∷ [])) ≡ line_of l ∷ reverse
    (map line_of ls)
code_push ls l = grind (arith, map_push, reverse-append)

code_length : (b : ℕ) (m : Maker) (s : Made) → HasMade b m s → length m.code.items ≡ length s.code
code_length b m s st = grind (arith, length-map, length-reverse)

pub rest_stands : (b : ℕ) (m n : Maker) (s : Made) (l : Line) (back : ℕ) (from : List ℕ) → n.block ≡ m.block
    → n.code.items ≡ m.code.items ++ l ∷ [] → back ≡ length m.code.items
    → ◌≡◌ {A = Wants} (listed n.wants.lists.items)
    (with_uses m.block back 0 from (listed m.wants.lists.items)) → HasMade b m s
    → HasMade b n (rest b (line_of l) from s)
rest_stands b m n s l back from eb ec ek ew st = grind (arith, code_push, code_length)

-- without what is wanted of x
abbrev emptied : ℕ → Made → Made
emptied x s = record { code = s.code; steps = s.steps; wants = with_wants s.wants x [] }

pub emit_stands : (b x : ℕ) (op : Op) (from : List ℕ) (m k n : Maker) (s : Made) (l : Line)
    → k.block ≡ m.block → k.code.items ≡ m.code.items
    → ◌≡◌ {A = Wants} (listed k.wants.lists.items) (with_wants (listed m.wants.lists.items) x []) → l.op ≡ op
    → l.dests.items ≡ listed m.wants.lists.items x → l.others.items ≡ []
    → ((s : Made) → HasMade b k s → HasMade b n (rest b (line_of l) from s)) → HasMade b m s
    → HasMade b n (emit b x op from s)
emit_stands b x op from m k n s l eb ec ew eo ed eq step st =
    let mid : HasMade b k (emptied x s) = grind arith in
    let end = step (emptied x s) mid in grind (arith, s.wants)

full_is : (b n x : ℕ) (m : Maker) (s : Made) (r : Bool)
    → r ≡ ltb most (length (listed m.wants.lists.items x) + n) → HasMade b m s
    → r ≡ ltb most (length (s.wants x) + n)
full_is b n x m s r e st = e ∙ ap (λ (w : Wants). ltb most (length (w x) + n)) st.wants

pub room_made : (b n x : ℕ) (m k : Maker) (s : Made) (r : Bool)
    → r ≡ ltb most (length (listed m.wants.lists.items x) + n) → r ≡ true → HasMade b m s
    → HasMade b k (gather b x s) → HasMade b k (with_room b n x s)
room_made b n x m k s r e t st end = grind (arith, full_is)

pub alias_stands : (b x y : ℕ) (m k n : Maker) (s : Made) (r : Bool) (l : List Target)
    → l ≡ listed m.wants.lists.items y → r ≡ ltb most (length (listed m.wants.lists.items x) + length l)
    → (r ≡ true → HasMade b k (gather b y (gather b x s))) → (r ≡ false → HasMade b k s)
    → ((s : Made) → HasMade b k s → HasMade b n (copy x y s)) → HasMade b m s
    → HasMade b n (alias b x y s)
alias_stands b x y m k n s r l el e th el_ step st =
    let test : r ≡ ltb most (length (s.wants x) + length (s.wants y)) = grind (arith, full_is, s.wants) in
    step _ (rw test at (by r th el_))
  where
    by : (r : Bool) → (r ≡ true → HasMade b k (gather b y (gather b x s))) → (r ≡ false → HasMade b k s)
        → HasMade b k (cond r (gather b y (gather b x s)) s)
    by true t f = t refl
    by false t f = f refl

-- one name more
pub rooms_push : (b n : ℕ) (xs : List ℕ) (x : ℕ) (s : Made) → with_rooms b n (xs ++ x ∷ []) s ≡ with_room b n
    x (with_rooms b n xs s)
rooms_push b n [] x s = refl
rooms_push b n (y ∷ xs) x s = rooms_push b n xs x (with_room b n y s)

pub make_busy : (b x : ℕ) (op : Op) (from : List ℕ) (m n : Maker) (s : Made) (r : Bool)
    → r ≡ (is_nil (listed m.wants.lists.items x) && not (is_memory_op op)) → r ≡ false
    → HasMade b m s → HasMade b n (make b x op from s) → HasMade b n (wire_item b (Make x op from) s)
make_busy b x op from m n s r e f st end = grind arith

-- an instruction without destinations
pub bare_line : (l : Line) → l.dests.items ≡ [] → l.others.items ≡ []
    → line_of l ≡ record { op = l.op; dests = []; others = [] }
bare_line l ed eo = λ i. record { op = l.op; dests = ed i; others = eo i }

-- one more from the end
pub back_one : {X : Type 0} (xs : List X) (k : ℕ) (x : X) → 0 < k → k ≤ length xs → x ≡ get_or xs (k - 1) x
    → drop (k - 1) xs ≡ x ∷ drop k xs
back_one xs k x pos le e = grind (arith, drop_more)

front_is : (b x : ℕ) (m : Maker) (s : Made) (l : List Target) (r : Bool) → l ≡ listed m.wants.lists.items x
    → r ≡ has_front m.block l → HasMade b m s → r ≡ has_front b (s.wants x)
front_is b x m s l r el er st = grind arith

pub renewed : (b x : ℕ) (m n : Maker) (s : Made) (l : List Target) (r : Bool)
    → l ≡ listed m.wants.lists.items x → r ≡ has_front m.block l → r ≡ true → HasMade b m s
    → HasMade b n (gather b x s) → HasMade b n (renew b (x ∷ []) s)
renewed b x m n s l r el er t st end = grind (arith, front_is)

pub not_renewed : (b x : ℕ) (m : Maker) (s : Made) (l : List Target) (r : Bool)
    → l ≡ listed m.wants.lists.items x → r ≡ has_front m.block l → r ≡ false → HasMade b m s
    → HasMade b m (renew b (x ∷ []) s)
not_renewed b x m s l r el er t st = grind (arith, front_is)

pub renew_push : (b : ℕ) (xs : List ℕ) (x : ℕ) (s : Made) → renew b (xs ++ x ∷ []) s ≡ renew b (x ∷ [])
    (renew b xs s)
renew_push b [] x s = refl
renew_push b (y ∷ xs) x s = grind (
  arith,
  s.wants,
  renew_push b xs x (cond (has_front b (s.wants y)) (gather b y s) s),
)

pub begun_first : (b : ℕ) (p : Plan) (n : Maker) (s : Made) → p.first ≡ true
    → HasMade b n (advances b p.entries (renew b p.entries s)) → HasMade b n (begun b p s)
begun_first b p n s e st = grind arith

pub begun_other : (b : ℕ) (p : Plan) (m n : Maker) (s : Made) (r : Bool) → p.first ≡ false
    → r ≡ (p.joined && not (gives (reverse (map line_of m.code.items)))) → HasMade b m s
    → HasMade b n (cond r (emit b pulse Merge (pulse ∷ []) s) s) → HasMade b n (begun b p s)
begun_other b p m n s r e er st end = grind arith

pub back_number : (xs : List ℕ) (k : ℕ) → 0 < k → k ≤ length xs → drop (k - 1) xs ≡ get_or xs (k - 1) 0 ∷ drop
    k xs
back_number xs k pos le = grind (arith, drop_more)
