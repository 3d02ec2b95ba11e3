-- What is kept of a table is what the table wants, and which names are steered.
use Rattle.std.proofs.Common.{ℕ, zero, suc, ◌-◌, ◌≡◌, ◌<◌, ◌≤◌, ◌||◌, ◌&&◌, Bool, true, false, cond, List, []}
use Rattle.std.proofs.Common.{◌∷◌, ◌++◌, length, map, reverse, drop, get_or, refl, sym, ap, ◌∙◌, inl, inr}
use Rattle.std.proofs.Common.{arith, eq-eqb, ne_eqb}
use Rattle.std.proofs.lemmas.Bool.{cases_eq, cases_lt}
use Rattle.std.proofs.lemmas.List.{length-map, length-reverse, drop_more, append-nil, map_push, map-append}
use Rattle.std.proofs.lemmas.List.{reverse-append}
use Rattle.ws_isa.specs.declared.instr.Op.TheVariants.{Steer}
use Rattle.wave_gen.specs.declared.spot.Line.{Line}
use Rattle.wave_gen.specs.declared.kept.Want.{Want}
use Rattle.wave_gen.specs.declared.tails.Tail.{Tail}
use Rattle.wave_gen.specs.declared.fork.Arms.{Arms}
use Rattle.wave_gen.specs.Wire.{Target, Wants, with_wants}
use Rattle.wave_gen.specs.Plans as plans
use Rattle.wave_gen.specs.Plans.{pulse, or_pulse, same_spots, differing, is_among, past, steer_of, steers}
use Rattle.wave_gen.specs.Tables.{listed, tail_of}
use Rattle.wave_gen.specs.Kept.{wanted, wants_of, wants_below, Forked}
use Rattle.wave_gen.proofs.Tables.Listed.{Lists, list_past}

wanted_append : (ps qs : List Want) (x : ℕ) → wanted (ps ++ qs) x ≡ wanted ps x ++ wanted qs x
wanted_append [] qs x = refl
wanted_append (p ∷ ps) qs x = grind (arith, cases_eq, wanted_append ps qs p.name, wanted_append ps qs x)

wanted_here : (x : ℕ) (l : List Target) → wanted (wants_of x l) x ≡ l
wanted_here x [] = refl
wanted_here x (p ∷ l) = grind (arith, eq-eqb, wanted_here x l)

wanted_there : (x y : ℕ) (l : List Target) → (y ≡ x → ⊥) → wanted (wants_of x l) y ≡ []
wanted_there x y [] n = refl
wanted_there x y (p ∷ l) n = rw (ne_eqb y x n) (wanted_there x y l n)

wanted_beyond : (w : Wants) (n x : ℕ) → n ≤ x → wanted (wants_below w n) x ≡ []
wanted_beyond w zero x le = refl
wanted_beyond w (suc n) x le = grind (arith, wanted_append, wanted_there, wanted_beyond w n x (omega arith))

wanted_below : (w : Wants) (n x : ℕ) → x < n → wanted (wants_below w n) x ≡ w x
wanted_below w zero x lt = absurd (omega arith)
wanted_below w (suc n) x lt = wanted_append (wants_below w n) (wants_of n (w n)) x ∙ elim (cases_eq x n) [
  | inl e ↦ grind (arith, wanted_beyond, wanted_here)
  | inr d ↦ ap (λ (l : List Target). wanted (wants_below w n) x ++ l) (wanted_there n x (w n) d)
      ∙ append-nil (wanted (wants_below w n) x) ∙ wanted_below w n x (omega arith)
]

kept_at : (vs : Lists) (n x : ℕ) → length vs ≤ n → wanted (wants_below (listed vs) n) x ≡ listed vs x
kept_at vs n x le = grind (arith, cases_lt, wanted_below, wanted_beyond, list_past)

pub kept_all : (vs : Lists) (n : ℕ) (ws : List Want) → length vs ≤ n → ws ≡ wants_below (listed vs) n
    → ◌≡◌ {A = Wants} (wanted ws) (listed vs)
kept_all vs n ws le e = ap wanted e ∙ (λ i x. kept_at vs n x le i)

pub back_at : {X : Type 0} (xs : List X) (k : ℕ) (d : X) → 0 < k → k ≤ length xs
    → drop (k - 1) xs ≡ get_or xs (k - 1) d ∷ drop k xs
back_at xs k d pos le = grind (arith, drop_more)

-- one more is loaded
pub load_more : (ws : List Want) (k : ℕ) (d : Want) (w v : Wants) → 0 < k → k ≤ length ws
    → ◌≡◌ {A = Wants} w (wanted (drop k ws))
    → ◌≡◌ {A = Wants} v
    (with_wants w (get_or ws (k - 1) d).name ((get_or ws (k - 1) d).spot ∷ w (get_or ws (k - 1) d).name))
    → ◌≡◌ {A = Wants} v (wanted (drop (k - 1) ws))
load_more ws k d w v pos le ew ev = grind (arith, back_at)

-- Steers.

not_among : (x : ℕ) (xs : List ℕ) (w : Wants) → is_among x xs ≡ false → past xs w x ≡ w x
not_among x xs w e = ap (λ b. cond b [] (w x)) e

past_or : (a b : Bool) (l : List Target) → cond a [] (cond b [] l) ≡ cond (a || b) [] l
past_or a b l = grind arith

past_more : (x : ℕ) (xs : List ℕ) (w u v : Wants) → ◌≡◌ {A = Wants} u (past xs w)
    → ◌≡◌ {A = Wants} v (with_wants u x []) → ◌≡◌ {A = Wants} v (past (x ∷ xs) w)
past_more x xs w u v eu ev = grind (arith, past_or)

pub forked_more : (x : ℕ) (xs : List ℕ) (w v : Wants) (f g : Arms) (l : Line) → is_among x xs ≡ false
    → l.op ≡ Steer → l.dests.items ≡ listed f.some.lists.items x → l.others.items ≡ listed f.none.lists.items
    x
    → ◌≡◌ {A = Wants} (listed g.some.lists.items) (with_wants (listed f.some.lists.items) x [])
    → ◌≡◌ {A = Wants} (listed g.none.lists.items) (with_wants (listed f.none.lists.items) x [])
    → g.tails.items ≡ f.tails.items ++ record { held = x; line = l } ∷ [] → Forked w v xs f
    → Forked w v (x ∷ xs) g
forked_more x xs w v f g l free op ed eo es en et was =
    let t : Tail = record { held = x; line = l } in
    let ts : List Tail = f.tails.items in
    let dests : l.dests.items ≡ w x = ed ∙ ap (λ (z : Wants). z x) was.some ∙ not_among x xs w free in
    let others : l.others.items ≡ v x = eo ∙ ap (λ (z : Wants). z x) was.none ∙ not_among x xs v free in
    let steer : tail_of t ≡ steer_of w v x =
    λ i. record { held = x; line = record { op = op i; dests = dests i; others = others i } } in
    record {
      tails = ap (λ (us : List Tail). reverse (map tail_of us)) et
          ∙ ap (λ (us : List plans.Tail). reverse us) (map_push tail_of ts t)
          ∙ reverse-append (map tail_of ts) (tail_of t ∷ [])
          ∙ ap (λ (us : List plans.Tail). tail_of t ∷ us) was.tails
          ∙ ap (λ (u : plans.Tail). u ∷ steers w v xs) steer;
      some = past_more x xs w (listed f.some.lists.items) (listed g.some.lists.items) was.some es;
      none = past_more x xs v (listed f.none.lists.items) (listed g.none.lists.items) was.none en;
    }

same_is : (x : ℕ) (xs : List ℕ) (w v : Wants) (f : Arms) (l k : List Target) (r : Bool)
    → is_among x xs ≡ false → l ≡ listed f.some.lists.items x → k ≡ listed f.none.lists.items x
    → r ≡ same_spots l k → Forked w v xs f → r ≡ same_spots (w x) (v x)
same_is x xs w v f l k r free el ek er was =
    let here : l ≡ w x = el ∙ ap (λ (z : Wants). z x) was.some ∙ not_among x xs w free in
    let there : k ≡ v x = ek ∙ ap (λ (z : Wants). z x) was.none ∙ not_among x xs v free in grind arith

pub compared_same : (x : ℕ) (xs : List ℕ) (w v : Wants) (f : Arms) (l k : List Target) (r : Bool)
    → l ≡ listed f.some.lists.items x → k ≡ listed f.none.lists.items x → r ≡ same_spots l k → r ≡ true
    → is_among x xs ≡ false
    → Forked w v xs f → Forked w v (cond (same_spots (w x) (v x)) xs (x ∷ xs)) f
compared_same x xs w v f l k r el ek er t free was = grind (arith, same_is)

pub compared_other : (x : ℕ) (xs : List ℕ) (w v : Wants) (f g : Arms) (l k : List Target) (r : Bool)
    → l ≡ listed f.some.lists.items x → k ≡ listed f.none.lists.items x → r ≡ same_spots l k → r ≡ false
    → is_among x xs ≡ false
    → Forked w v xs f → Forked w v (x ∷ xs) g → Forked w v (cond (same_spots (w x) (v x)) xs (x ∷ xs)) g
compared_other x xs w v f g l k r el ek er t free was end = grind (arith, same_is)

among_either : (x y : ℕ) (ys : List ℕ) (b : Bool) → x < y → is_among x ys ≡ false
    → is_among x (cond b ys (y ∷ ys)) ≡ false
among_either x y ys b lt e = grind arith

-- names before x are not among those from x on
pub differing_from : (w v : Wants) (x y n : ℕ) → x < y → is_among x (differing w v y n) ≡ false
differing_from w v x y zero lt = refl
differing_from w v x y (suc n) lt = grind (arith, among_either, differing_from w v x (suc y) n (omega arith))

-- one name more, from the end
pub forked_next : (w v : Wants) (width k j : ℕ) (f : Arms) → k ≡ suc j → k ≤ width
    → Forked w v (cond (same_spots (w j) (v j)) (differing w v k (width - k))
    (j ∷ differing w v k (width - k))) f → Forked w v (differing w v j (width - j)) f
forked_next w v width k j f ek le was = grind arith

steers_count : (w v : Wants) (xs : List ℕ) → length (steers w v xs) ≡ length xs
steers_count w v [] = refl
steers_count w v (x ∷ xs) = ap suc (steers_count w v xs)

tails_count : (w v : Wants) (xs : List ℕ) (f : Arms) → Forked w v xs f → length f.tails.items ≡ length xs
tails_count w v xs f was = grind (arith, length-map, length-reverse, steers_count)

pub last_name : (w v : Wants) (n k : ℕ) (f : Arms) → k ≤ 0 → Forked w v (differing w v k (n - k)) f
    → Forked w v (differing w v 0 n) f
last_name w v n k f hi was = grind arith

-- some name is steered, where there are tails
pub steered_some : (w v : Wants) (xs : List ℕ) (f : Arms) (n : ℕ) → length f.tails.items ≡ suc n
    → Forked w v xs f → Forked w v (or_pulse xs) f
steered_some w v [] f n e was = absurd (omega (arith, tails_count w v [] f was))
steered_some w v (x ∷ xs) f n e was = was

pub steered_none : (w v : Wants) (xs : List ℕ) (f g : Arms) → length f.tails.items ≡ 0 → Forked w v xs f
    → (is_among pulse [] ≡ false → Forked w v [] f → Forked w v (pulse ∷ []) g) → Forked w v (or_pulse xs) g
steered_none w v [] f g e was step = step refl was
steered_none w v (x ∷ xs) f g e was step = absurd (omega (arith, tails_count w v (x ∷ xs) f was))

pub map_reverse : (ts : List Tail) → map tail_of (reverse ts) ≡ reverse (map tail_of ts)
map_reverse ts = mapped ts []
  where
    mapped : (ts us : List Tail) → map tail_of (reverse ts) ≡ reverse (map tail_of ts)
    mapped [] us = refl
    mapped (t ∷ ts) us =
        ap (λ (z : List Tail). map tail_of z) (reverse-append (t ∷ []) ts)
        ∙ map-append tail_of (reverse ts) (t ∷ [])
        ∙ ap (λ (z : List plans.Tail). z ++ tail_of t ∷ []) (mapped ts us)
        ∙ sym (reverse-append (tail_of t ∷ []) (map tail_of ts))

false_and : (a b : Bool) → false ≡ b → false ≡ a && b
false_and a b e = grind arith

pub lengths_differ : (ps qs : List Target) → (length ps ≡ length qs → ⊥) → false ≡ same_spots ps qs
lengths_differ (p ∷ ps) (q ∷ qs) n = grind (arith, false_and, lengths_differ ps qs (λ e. n (ap suc e)))
lengths_differ ps qs n = grind arith
