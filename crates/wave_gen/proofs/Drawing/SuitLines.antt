-- Lists of destinations suit the operations of lines.
use Rattle.std.proofs.Common.{arith, ℕ, zero, suc, ◌+◌, ◌≡◌, ◌≤◌, ◌&&◌, not, Bool, true, false, cond, ltb}
use Rattle.std.proofs.Common.{List, [], ◌∷◌, length, Some, refl}
use Rattle.std.proofs.lemmas.Bool.{both_ways}
use Rattle.ws_isa.specs.declared.instr.Op.{Op}
use Rattle.ws_isa.specs.declared.instr.Op.TheVariants.{Merge, Send}
use Rattle.ws_isa.specs.Image.{is_memory_op, is_giving_op, is_steer_op}
use Rattle.wave_gen.specs.Wire.{WiredInstr, Wants, Made, emit, gather, with_room, with_rooms, Item, Make, Act}
use Rattle.wave_gen.specs.Wire.{Same, is_nil, skip, make, alias, wire, most}
use Rattle.wave_gen.specs.Plans.{merges, Tail, HowLeft, Plan, pulse, steers, sends, hang, chain, tails_of}
use Rattle.wave_gen.specs.Plans.{behind_source, exit_made, body_made, renew, advances, has_front, plan_at}
use Rattle.wave_gen.specs.Plans.{made_at, starts_at}
use Rattle.wave_gen.proofs.Planning.Planned.{PlansAre}
use Rattle.wave_gen.proofs.Planning.More.{ItemsGive, SourceGives, PlansGive}
use Rattle.wave_gen.proofs.Drawing.Blocks.{made_is}
use Rattle.ws_words.specs.Items.{nth}

-- an operation without a result and a send have no list, and a steer alone has two
pub record Suits (l : WiredInstr) : Type 0 where
  pub dests : is_giving_op l.op ≡ false → is_steer_op l.op ≡ false → l.dests ≡ []
  pub others : is_steer_op l.op ≡ false → l.others ≡ []

abbrev pub SuitAll : List WiredInstr → Type 0
SuitAll [] = Unit {0}
SuitAll (l ∷ ls) = Suits l × SuitAll ls

pub suits_at : (ls : List WiredInstr) (i : ℕ) (l : WiredInstr) → SuitAll ls → nth ls i ≡ Some l → Suits l
suits_at (m ∷ ls) (suc i) l h e = suits_at ls i l h.1 e
suits_at ls i l h e = grind arith

bare_suits : (op : Op) → Suits (record { op = op; dests = []; others = [] })
bare_suits op = record { dests = λ g s. refl; others = λ s. refl }

emit_suits : (b x : ℕ) (op : Op) (from : List ℕ) (s : Made) → is_giving_op op ≡ true → SuitAll s.code
    → SuitAll (emit b x op from s).code
emit_suits b x op from s g h = grind (arith, both_ways)

gather_suits : (b x : ℕ) (s : Made) → SuitAll s.code → SuitAll (gather b x s).code
gather_suits b x s h = emit_suits b x Merge (x ∷ []) s refl h

rooms_suit : (b n : ℕ) (xs : List ℕ) (s : Made) → SuitAll s.code → SuitAll (with_rooms b n xs s).code
rooms_suit b n [] s h = h
rooms_suit b n (x ∷ xs) s h = rooms_suit b n xs (with_room b n x s) (go (ltb most (length (s.wants x) + n)))
  where
    go : (f : Bool) → SuitAll (cond f (gather b x s) s).code
    go f = grind (arith, gather_suits)

make_suits : (b x : ℕ) (op : Op) (from : List ℕ) (s : Made) → is_giving_op op ≡ true → SuitAll s.code
    → SuitAll (make b x op from s).code
make_suits b x op from s g h = grind (arith, emit_suits, rooms_suit)

alias_suits : (b x y : ℕ) (s : Made) → SuitAll s.code → SuitAll (alias b x y s).code
alias_suits b x y s h = grind (arith, s.wants, gather_suits)

wire_suits : (b : ℕ) (is : List Item) (s : Made) → ItemsGive is → SuitAll s.code → SuitAll (wire b is s).code
wire_suits b [] s g h = h
wire_suits b (Make x op from ∷ is) s g h = go (wire_suits b is s g.1 h)
    (is_nil ((wire b is s).wants x) && not (is_memory_op op))
  where
    go : SuitAll (wire b is s).code → (f : Bool)
        → SuitAll (cond f (skip x op from (wire b is s)) (make b x op from (wire b is s))).code
    go w f = grind (arith, make_suits)
wire_suits b (Act op from ∷ is) s g h = grind (arith, bare_suits, rooms_suit, wire_suits b is s g h)
wire_suits b (Same x y ∷ is) s g h = alias_suits b x y (wire b is s) (wire_suits b is s g h)

abbrev TailsSuit : List Tail → Type 0
TailsSuit [] = Unit {0}
TailsSuit (t ∷ ts) = Suits t.line × TailsSuit ts

steers_suit : (w v : Wants) (xs : List ℕ) → TailsSuit (steers w v xs)
steers_suit w v [] = tt
steers_suit w v (x ∷ xs) = grind (arith, both_ways, steers_suit w v xs)

sends_suit : (p : ℕ) (xs : List ℕ) → TailsSuit (sends p xs)
sends_suit p [] = tt
sends_suit p (x ∷ xs) = (bare_suits (Send p), sends_suit (suc p) xs)

tails_suit : (width : ℕ) (starts : ℕ → Wants) (e : HowLeft) → TailsSuit (tails_of width starts e)
tails_suit width starts e = grind (arith, steers_suit, sends_suit)

hang_suits : (b n z : ℕ) (ts : List Tail) (w : Wants) → TailsSuit ts → SuitAll (hang b n z ts w).code
hang_suits b n z [] w h = tt
hang_suits b zero z (t ∷ ts) w h = (h.0, hang_suits b 5 (suc z) ts w h.1)
hang_suits b (suc n) z (t ∷ ts) w h = (h.0, hang_suits b n z ts w h.1)

chain_gives : (z n : ℕ) → ItemsGive (chain z n)
chain_gives z zero = tt
chain_gives z (suc n) = (refl, chain_gives (suc z) n)

renew_suits : (b : ℕ) (xs : List ℕ) (s : Made) → SuitAll s.code → SuitAll (renew b xs s).code
renew_suits b [] s h = h
renew_suits b (x ∷ xs) s h = renew_suits b xs (cond (has_front b (s.wants x)) (gather b x s) s)
    (go (has_front b (s.wants x)))
  where
    go : (f : Bool) → SuitAll (cond f (gather b x s) s).code
    go f = grind (arith, gather_suits)

advances_suit : (b : ℕ) (xs : List ℕ) (s : Made) → SuitAll s.code → SuitAll (advances b xs s).code
advances_suit b [] s h = h
advances_suit b (x ∷ xs) s h = grind (arith, emit_suits, advances_suit b xs s h)

module _ (width : ℕ) (starts : ℕ → Wants) (b : ℕ) (p : Plan) where
  behind_suits : SuitAll (behind_source width starts b p).code
  behind_suits = grind (arith, wire_suits, chain_gives, hang_suits, tails_suit)

  exit_suits : (e : HowLeft) → SourceGives e → SuitAll (exit_made width starts b p e).code
  exit_suits e g = grind (arith, behind_suits, make_suits, bare_suits)

  body_suits : ItemsGive p.items → SourceGives p.exit → SuitAll (body_made width starts b p).code
  body_suits i g = wire_suits b p.items (exit_made width starts b p p.exit) i (exit_suits p.exit g)

-- the lines of a block
pub lines_suit : (width : ℕ) (ps : List Plan) (Live : ℕ → ℕ → Type 0) → PlansAre ps width Live → PlansGive ps
    → (b : ℕ) → (1 ≤ b) × (b ≤ length ps) → SuitAll (made_at width ps b).code
lines_suit width ps Live plans gives b h = rw (made_is width ps b h (plans.each b h).edges)
    (go (plan_at ps b).first)
  where
    body : SuitAll (body_made width (starts_at width ps) b (plan_at ps b)).code
    body = body_suits width (starts_at width ps) b (plan_at ps b) (gives.items b h) (gives.source b h)

    inner : (j : Bool)
        → SuitAll
        (cond j (emit b pulse Merge (pulse ∷ []) (body_made width (starts_at width ps) b (plan_at ps b)))
        (body_made width (starts_at width ps) b (plan_at ps b))).code
    inner true = grind (arith, emit_suits, body)
    inner false = body

    go : (f : Bool)
        → SuitAll
        (cond f (advances b (plan_at ps b).entries
        (renew b (plan_at ps b).entries (body_made width (starts_at width ps) b (plan_at ps b))))
        (cond (merges (plan_at ps b) (body_made width (starts_at width ps) b (plan_at ps b)))
        (emit b pulse Merge (pulse ∷ []) (body_made width (starts_at width ps) b (plan_at ps b)))
        (body_made width (starts_at width ps) b (plan_at ps b)))).code
    go true = grind (arith, advances_suit, renew_suits, body)
    go false = grind (arith, inner)
