-- The ends of blocks: what goes past an exit and what is sent along its edges.
use Rattle.std.proofs.Common.{ℕ, zero, suc, ◌+◌, ◌-◌, ◌≡◌, ◌<◌, ◌≤◌, ◌⊎◌, ◌&&◌, Bool, true, false, cond, eqb}
use Rattle.std.proofs.Common.{List, [], ◌∷◌, length, Some, None, refl, ap, ◌∙◌, subst, inl, inr, arith}
use Rattle.std.proofs.Common.{is_some}
use Rattle.std.proofs.lemmas.Bool.{cases_Bool, cases_eq, both_ways, cond-true, cond-false}
use Rattle.ws_isa.specs.declared.instr.Op.TheVariants.{Merge, Halt}
use Rattle.ws_isa.specs.declared.instr.Dest.{Dest}
use Rattle.ws_isa.specs.Image.{ports_of, now_of}
use Rattle.ws_isa.specs.Sound.{HasDest}
use Rattle.wave_gen.specs.Waits.{DistinctDests, Owner}
use Rattle.wave_gen.specs.Wire.{Target, dests_of, Wants, Made, emit, gather, Item, Make, Act, Same}
use Rattle.wave_gen.specs.Plans.{HowLeft, Onto, Either, Lands, Halts, Plan, pulse, Tail, steers, sends}
use Rattle.wave_gen.specs.Plans.{operands_of, hang, more, chain, selected, tails_of, end_wants, behind_source}
use Rattle.wave_gen.specs.Plans.{exit_made, body_made, has_front, renew, has_dest, owner_of}
use Rattle.wave_gen.proofs.Planning.Planned.{ItemsAre, SourceIs}
use Rattle.wave_gen.proofs.Waits.Turns.{some_of}
use Rattle.wave_gen.proofs.Waits.Wiring.{Ahead, Good, ItemsOk, rest_good, gather_good, make_good, wire_good}
use Rattle.wave_gen.proofs.Waits.Flow.{Wanted}
use Rattle.ws_words.proofs.Numbers.{eqb_is}
use Rattle.ws_words.proofs.Bools.{and_parts as and_both, or_comes as or_cases, or_left, or_right}
use Rattle.ws_words.specs.Items.{In}

-- wants that can stand at a block's end: a slot is wanted once, by a name below the width, and lies ahead
pub record Clean (first : ℕ → ℕ) (Fine : ℕ → ℕ → Type 0) (k width : ℕ) (w : Wants) : Type 0 where
  pub apart : (x y j q : ℕ) → HasDest (dests_of first (w x)) j q → HasDest (dests_of first (w y)) j q → x ≡ y
  pub once : (x : ℕ) → DistinctDests (dests_of first (w x))
  pub few : (x : ℕ) → Wanted w x → x < width
  pub ahead : (x : ℕ) (p : Target) → In p (w x) → Ahead first Fine k p

pub has_dest_is : (ds : List Dest) (j q : ℕ) → has_dest ds j q ≡ true → HasDest ds j q
has_dest_is [] j q e = absurd (both_ways false refl e)
has_dest_is (d ∷ ds) j q e = elim (or_cases (eqb d.instr j && eqb d.port q) (has_dest ds j q) e) [
  | inl h ↦ grind (arith, and_both, d.instr, d.port, eqb_is)
  | inr h ↦ inr (has_dest_is ds j q h)
]

pub is_dest : (ds : List Dest) (j q : ℕ) → HasDest ds j q → has_dest ds j q ≡ true
is_dest [] j q h = absurd h
is_dest (d ∷ ds) j q (inl h) = grind (arith, or_left)
is_dest (d ∷ ds) j q (inr h) = grind (arith, or_right, d.instr, d.port, is_dest ds j q h)

pub owner_from : (first : ℕ → ℕ) (n : ℕ) (w : Wants) (j q x : ℕ) → owner_of first n w j q ≡ Some x
    → HasDest (dests_of first (w x)) j q
owner_from first zero w j q x e = absurd (let a : None ≡ Some x = e in cc)
owner_from first (suc n) w j q x e =
    go (owner_from first n w j q x) (cases_Bool (has_dest (dests_of first (w n)) j q))
  where
    go : (owner_of first n w j q ≡ Some x → HasDest (dests_of first (w x)) j q)
        → (has_dest (dests_of first (w n)) j q ≡ true) ⊎ (has_dest (dests_of first (w n)) j q ≡ false)
        → HasDest (dests_of first (w x)) j q
    go ih h = grind (arith, cond-true, has_dest_is, cond-false)

owner_some : (first : ℕ → ℕ) (n : ℕ) (w : Wants) (j q x : ℕ) → x < n → HasDest (dests_of first (w x)) j q
    → is_some (owner_of first n w j q) ≡ true
owner_some first zero w j q x l h = absurd (omega arith)
owner_some first (suc n) w j q x l h =
    go (owner_some first n w j q x) (cases_Bool (has_dest (dests_of first (w n)) j q)) (cases_eq x n)
  where
    go : (x < n → HasDest (dests_of first (w x)) j q → is_some (owner_of first n w j q) ≡ true)
        → (has_dest (dests_of first (w n)) j q ≡ true) ⊎ (has_dest (dests_of first (w n)) j q ≡ false)
        → (x ≡ n) ⊎ (x ≡ n → ⊥) → is_some (owner_of first (suc n) w j q) ≡ true
    go ih (inl e) m = rw e refl
    go ih (inr e) (inl m) = grind (arith, both_ways, is_dest)
    go ih (inr e) (inr m) = rw e (ih (omega arith) h)

wanted_by : (first : ℕ → ℕ) (w : Wants) (x j q : ℕ) → HasDest (dests_of first (w x)) j q → Wanted w x
wanted_by first w x j q h e = rw e at h

module _ (first : ℕ → ℕ) (Fine : ℕ → ℕ → Type 0) (k width : ℕ) (w : Wants)
    (clean : Clean first Fine k width w) where
  pub owner_has : (x j q : ℕ) → HasDest (dests_of first (w x)) j q → owner_of first width w j q ≡ Some x
  owner_has x j q h =
      let s = some_of (owner_of first width w j q)
      (grind (arith, owner_some, clean.few, wanted_by)) in
      s.1 ∙ ap Some (clean.apart s.0 x j q (owner_from first width w j q s.0 s.1) h)

-- the tails of an exit
pub record TailIs (t : Tail) : Type 0 where
  pub silent : (ds : List Dest) → now_of t.line.op ds ≡ []
  pub two : (x z : ℕ) → length (operands_of t.line.op x z) ≡ ports_of t.line.op

abbrev pub TailsAre : List Tail → Type 0
TailsAre [] = Unit {0}
TailsAre (t ∷ ts) = TailIs t × TailsAre ts

steers_are : (w v : Wants) (xs : List ℕ) → TailsAre (steers w v xs)
steers_are w v [] = tt
steers_are w v (x ∷ xs) = grind (arith, steers_are w v xs)

sends_are : (p : ℕ) (xs : List ℕ) → TailsAre (sends p xs)
sends_are p [] = tt
sends_are p (x ∷ xs) = grind (arith, sends_are (suc p) xs)

pub tails_are : (width : ℕ) (starts : ℕ → Wants) (e : HowLeft) → TailsAre (tails_of width starts e)
tails_are width starts e = grind (arith, steers_are, sends_are)

module _ (first : ℕ → ℕ) (b width : ℕ) (Fine : ℕ → ℕ → Type 0) (low : ℕ) (clear : (c i : ℕ) → Fine c i
    → low ≤ first c + i → first c + i < first (suc b) → ⊥) (e : Wants)
    (clean : Clean first Fine (first (suc b)) width e) where
  abbrev pub O : Owner
  O = owner_of first width e

  abbrev pub G : Made → Type 0
  G s = Good first b O Fine low clear s

  base_good : G (record { code = []; steps = []; wants = e })
  base_good l = record {
    at = omega arith;
    has = λ x j q h. owner_has first Fine (first (suc b)) width e clean x j q h;
    all = λ x j q h. owner_from first width e j q x h;
    once = clean.once;
    ahead = λ x p h. (let z : first (suc b) - 0 ≡ first (suc b) = omega arith in rw z (clean.ahead x p h));
    lines = refl;
  }

  hang_good : (n z : ℕ) (ts : List Tail) → TailsAre ts → G (hang b n z ts e)
  hang_good n z [] h = base_good
  hang_good zero z (t ∷ ts) h = rest_good first b O Fine low clear t.line
      (operands_of t.line.op t.held (suc z)) (hang b 5 (suc z) ts e) (h.0.two t.held (suc z)) (inl h.0.silent)
      (hang_good 5 (suc z) ts h.1)
  hang_good (suc n) z (t ∷ ts) h = rest_good first b O Fine low clear t.line (operands_of t.line.op t.held z)
      (hang b n z ts e) (h.0.two t.held z) (inl h.0.silent) (hang_good n z ts h.1)

  chain_ok : (z n : ℕ) → ItemsOk first b O Fine low clear (chain z n)
  chain_ok z zero = tt
  chain_ok z (suc n) = ((λ ds. refl, refl), chain_ok (suc z) n)

  selected_good : (z : ℕ) (ts : List Tail) → TailsAre ts → G (selected b z ts e)
  selected_good z ts h = wire_good first b O Fine low clear (chain z (more 6 ts)) (hang b 6 z ts e)
      (chain_ok z (more 6 ts)) (hang_good 6 z ts h)

  items_ok : (is : List Item) → ItemsAre is → ItemsOk first b O Fine low clear is
  items_ok [] h = tt
  items_ok (Make x op from ∷ is) h = ((h.0.0.0, h.0.1), items_ok is h.1)
  items_ok (Act op from ∷ is) h = (h.0.0, items_ok is h.1)
  items_ok (Same x y ∷ is) h = (tt, items_ok is h.1)

  -- the whole block behind its front
  pub body_good : (starts : ℕ → Wants) (p : Plan) → e ≡ end_wants width starts p.exit → ItemsAre p.items
      → SourceIs p.exit → G (body_made width starts b p)
  body_good starts p same is src = wire_good first b O Fine low clear p.items
      (exit_made width starts b p p.exit) (items_ok p.items is) (exit_good p.exit src)
    where
      behind : G (behind_source width starts b p)
      behind = subst (λ (w : Wants). G (selected b p.test (tails_of width starts p.exit) w)) same
          (selected_good p.test (tails_of width starts p.exit) (tails_are width starts p.exit))

      exit_good : (x : HowLeft) → SourceIs x → G (exit_made width starts b p x)
      exit_good (Onto c) src = behind
      exit_good (Either op from c d) src = make_good first b O Fine low clear p.test op from
          (behind_source width starts b p) src.0.0 src.1 behind
      exit_good (Lands op from values ls) src = make_good first b O Fine low clear p.test op from
          (behind_source width starts b p) src.0.0 src.1 behind
      exit_good Halts src = rest_good first b O Fine low clear (record { op = Halt; dests = []; others = [] })
          (pulse ∷ []) (behind_source width starts b p) refl (inr refl) behind

  pub renew_good : (xs : List ℕ) (s : Made) → G s → G (renew b xs s)
  renew_good [] s g = g
  renew_good (x ∷ xs) s g = renew_good xs (cond (has_front b (s.wants x)) (gather b x s) s)
      (go (has_front b (s.wants x)))
    where
      go : (f : Bool) → G (cond f (gather b x s) s)
      go true = gather_good first b O Fine low clear x s g
      go false = g

  pub merge_good : (s : Made) → G s → G (emit b pulse Merge (pulse ∷ []) s)
  merge_good s g = gather_good first b O Fine low clear pulse s g
