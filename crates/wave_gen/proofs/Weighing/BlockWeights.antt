-- The instructions of a block, with what is wanted before them, against what the block weighs and what is
-- wanted behind it.
use Rattle.std.proofs.Common.{ℕ, zero, suc, ◌+◌, ◌*◌, ◌≡◌, ◌<◌, ◌≤◌, Bool, true, false, cond, List, [], ◌∷◌}
use Rattle.std.proofs.Common.{length, refl, ap, ◌∙◌, inl, inr, arith}
use Rattle.std.proofs.lemmas.Bool.{cases_Bool, cases_lt, cond-true, cond-false}
use Rattle.ws_isa.specs.declared.instr.Op.{Op}
use Rattle.ws_isa.specs.declared.instr.Op.TheVariants.{Merge, Advance, Halt}
use Rattle.ws_isa.specs.Image.{ports_of}
use Rattle.wave_gen.specs.Wire.{Front, Wants, Made, with_wants, emit, gather}
use Rattle.wave_gen.specs.Plans.{merges, Tail, HowLeft, Onto, Either, Lands, Halts, Plan, pulse, operands_of}
use Rattle.wave_gen.specs.Plans.{hung, hang, more, chain, tails_of, end_wants, behind_source, exit_made}
use Rattle.wave_gen.specs.Plans.{body_made, has_front, renew, advances, fronts, operands_needed, plan_at}
use Rattle.wave_gen.specs.Plans.{made_at, starts_at}
use Rattle.wave_gen.proofs.Planning.Planned.{SourceIs, PlansAre}
use Rattle.wave_gen.proofs.Weighing.Weights.{total, charge, weights, ItemsBelow}
use Rattle.wave_gen.proofs.Weighing.Weighs.{set_out, set_total, emit_charge, rest_charge, gather_charge}
use Rattle.wave_gen.proofs.Weighing.Weighs.{make_charge, wire_charge}
use Rattle.wave_gen.proofs.Weighing.ItemWeights.{above, items_above, all_below, items_below}
use Rattle.wave_gen.proofs.Drawing.Blocks.{made_is, starts_inner, starts_outer}
use Rattle.ws_isa.proofs.Images.{few_ports as ports_few}

-- tails
operands_two : (op : Op) (x z : ℕ) → length (operands_of op x z) ≡ 2
operands_two op x z = grind arith

hang_charge : (n b k z : ℕ) (ts : List Tail) (w : Wants) → charge n (hang b k z ts w) ≤ total w n + 6 * length
    ts
hang_charge n b k z [] w = omega arith
hang_charge n b zero z (t ∷ ts) w =
    let i : charge n (hang b 5 (suc z) ts w) ≤ total w n + 6 * length ts = hang_charge n b 5 (suc z) ts w in
    let r : charge n (hung b t (suc z) (hang b 5 (suc z) ts w)) ≤ charge n (hang b 5 (suc z) ts w)
    + (4 + length (operands_of t.line.op t.held (suc z))) = rest_charge n b t.line
    (operands_of t.line.op t.held (suc z)) (hang b 5 (suc z) ts w) in grind (arith, t.held, operands_two)
hang_charge n b (suc k) z (t ∷ ts) w =
    let i : charge n (hang b k z ts w) ≤ total w n + 6 * length ts = hang_charge n b k z ts w in
    let r : charge n (hung b t z (hang b k z ts w)) ≤ charge n (hang b k z ts w)
    + (4 + length (operands_of t.line.op t.held z)) = rest_charge n b t.line
    (operands_of t.line.op t.held z) (hang b k z ts w) in grind (arith, t.held, operands_two)

more_few : (k : ℕ) (ts : List Tail) → k ≤ 6 → 6 * more k ts + k ≤ length ts + 6
more_few k [] l = omega (arith, l)
more_few zero (t ∷ ts) l = grind (arith, more_few 5 ts (omega arith))
more_few (suc k) (t ∷ ts) l = grind (arith, more_few k ts (omega (arith, l)))

chain_weight : (z m : ℕ) → weights (chain z m) ≡ 4 * m
chain_weight z zero = omega arith
chain_weight z (suc m) = grind (arith, weights, chain_weight (suc z) m)

chain_below : (n z m : ℕ) → z + m < n → ItemsBelow n (chain z m)
chain_below n z zero l = tt
chain_below n z (suc m) l = grind (arith, chain_below n (suc z) m (omega (arith, l)))

-- entries
fronts_total : (n b i : ℕ) (ys : List ℕ) → total (fronts b i ys) n ≤ length ys
fronts_total n b i [] = nothing n
  where
    nothing : (m : ℕ) → total (λ x. []) m ≤ 0
    nothing zero = omega arith
    nothing (suc m) = let h = nothing m in omega (arith, h)
fronts_total n b i (y ∷ ys) =
    let h : total (fronts b (suc i) ys) n ≤ length ys = fronts_total n b (suc i) ys in
    elim (cases_lt y n) [
      | inl l ↦
          (let e : total (with_wants (fronts b (suc i) ys) y (Front b i ∷ [])) n + length
          (fronts b (suc i) ys y) ≡ total (fronts b (suc i) ys) n + 1 =
          set_total (fronts b (suc i) ys) y (Front b i ∷ []) n l in
          let g : total (fronts b i (y ∷ ys)) n ≡ total (with_wants (fronts b (suc i) ys) y (Front b i ∷ []))
          n = refl in omega (arith, e, h, g))
      | inr l ↦ (let e : total (with_wants (fronts b (suc i) ys) y (Front b i ∷ [])) n
          ≡ total (fronts b (suc i) ys) n = set_out (fronts b (suc i) ys) y (Front b i ∷ []) n l in
          let g : total (fronts b i (y ∷ ys)) n ≡ total (with_wants (fronts b (suc i) ys) y (Front b i ∷ []))
          n = refl in omega (arith, e, h, g))
    ]

renew_charge : (n b : ℕ) (xs : List ℕ) (s : Made) → above xs ≤ n → charge n (renew b xs s) ≤ charge n s + 5
    * length xs
renew_charge n b [] s l = omega arith
renew_charge n b (x ∷ xs) s l =
    let i : charge n (renew b xs (cond (has_front b (s.wants x)) (gather b x s) s)) ≤ charge n
    (cond (has_front b (s.wants x)) (gather b x s) s) + 5 * length xs =
    renew_charge n b xs (cond (has_front b (s.wants x)) (gather b x s) s) (omega (arith, l)) in
    grind (arith, s.wants, go)
  where
    go : (f : Bool) → charge n (cond f (gather b x s) s) ≤ charge n s + 5
    go f = grind (arith, charge, gather_charge)

advances_charge : (n b : ℕ) (xs : List ℕ) (s : Made) → charge n (advances b xs s) ≤ charge n s + 5 * length xs
advances_charge n b [] s = omega arith
advances_charge n b (x ∷ xs) s =
    let i : charge n (advances b xs s) ≤ charge n s + 5 * length xs = advances_charge n b xs s in
    let g : charge n (emit b x Advance (x ∷ []) (advances b xs s)) ≤ charge n (advances b xs s) + 5 =
    emit_charge n b x Advance (x ∷ []) (advances b xs s) in
    omega (arith, i, g)

-- what the instruction weighs by which an edge is chosen, or that ends the walk
abbrev pub exit_own : HowLeft → ℕ
exit_own (Onto c) = 0
exit_own (Either op from c d) = 7
exit_own (Lands op from values ls) = 4 + length from
exit_own Halts = 5

module _ (width : ℕ) (starts : ℕ → Wants) (n b : ℕ) (p : Plan) where
  abbrev ts : List Tail
  ts = tails_of width starts p.exit

  behind_charge : p.test + length (tails_of width starts p.exit) < n
      → charge n (behind_source width starts b p) ≤ total (end_wants width starts p.exit) n + 7 * length
      (tails_of width starts p.exit)
  behind_charge l =
      let m = more 6 ts in
      let few : 6 * more 6 ts + 6 ≤ length ts + 6 = more_few 6 ts (omega arith) in
      let h : charge n (hang b 6 p.test ts (end_wants width starts p.exit))
      ≤ total (end_wants width starts p.exit) n + 6 * length ts = hang_charge n b 6 p.test ts
      (end_wants width starts p.exit) in
      let w : charge n (behind_source width starts b p) ≤ charge n
      (hang b 6 p.test ts (end_wants width starts p.exit)) + weights (chain p.test (more 6 ts)) =
      wire_charge n b (chain p.test (more 6 ts)) (hang b 6 p.test ts (end_wants width starts p.exit))
      (chain_below n p.test (more 6 ts) (omega arith)) in
      let e : weights (chain p.test (more 6 ts)) ≡ 4 * more 6 ts = chain_weight p.test (more 6 ts) in
      omega arith

  exit_charge : (e : HowLeft) → SourceIs e → above (operands_needed e) ≤ n
      → charge n (exit_made width starts b p e) ≤ charge n (behind_source width starts b p) + exit_own e
  exit_charge (Onto c) s l = omega arith
  exit_charge (Either op from c d) s l =
      let u : length from ≡ ports_of op = s.1 in let v = ports_few op in
      let h : charge n (exit_made width starts b p (Either op from c d)) ≤ charge n
      (behind_source width starts b p) + (4 + length from) = make_charge n b p.test op from
      (behind_source width starts b p) (all_below n from l) (omega (arith, u, v)) in
      omega (arith, h, u, v)
  exit_charge (Lands op from values ls) s l =
      let u : length from ≡ ports_of op = s.1 in let v = ports_few op in
      let h : charge n (exit_made width starts b p (Lands op from values ls)) ≤ charge n
      (behind_source width starts b p) + (4 + length from) = make_charge n b p.test op from
      (behind_source width starts b p) (all_below n from l) (omega (arith, u, v)) in omega (arith, h)
  exit_charge Halts s l =
      let h : charge n (exit_made width starts b p Halts) ≤ charge n (behind_source width starts b p) + 5 =
      rest_charge n b (record { op = Halt; dests = []; others = [] }) (pulse ∷ [])
      (behind_source width starts b p) in omega (arith, h)

-- a number above all names of a plan
abbrev pub plan_above : ℕ → (ℕ → Wants) → Plan → ℕ
plan_above width starts p =
    items_above p.items
    + (above p.entries
    + (above (operands_needed p.exit) + suc (p.test + length (tails_of width starts p.exit))))

module _ (width : ℕ) (ps : List Plan) (Live : ℕ → ℕ → Type 0) (plans : PlansAre ps width Live) (n b : ℕ)
    (h : (1 ≤ b) × (b ≤ length ps)) (high : plan_above width (starts_at width ps) (plan_at ps b) ≤ n) where
  abbrev S : ℕ → Wants
  S = starts_at width ps

  -- what the block takes: tails, source, items
  abbrev pub taken : ℕ
  taken = total (end_wants width (starts_at width ps) (plan_at ps b).exit) n + 7 * length
      (tails_of width (starts_at width ps) (plan_at ps b).exit) + exit_own (plan_at ps b).exit + weights
      (plan_at ps b).items

  body_charge : charge n (body_made width (starts_at width ps) b (plan_at ps b)) ≤ taken
  body_charge =
      let p = plan_at ps b in
      let a : charge n (behind_source width S b p) ≤ total (end_wants width S p.exit) n + 7 * length
      (tails_of width S p.exit) = behind_charge width S n b p (omega (arith, high)) in
      let c : charge n (exit_made width S b p p.exit) ≤ charge n (behind_source width S b p) + exit_own
      p.exit = grind (arith, exit_charge, p.exit, plans.each) in
      grind (arith, wire_charge, p.items, items_below, plans.each)

  -- the instructions of a block, and what is wanted at its start
  pub block_charge : 4 * length (made_at width ps b).code + total (starts_at width ps b) n ≤ taken + 11
      * length (plan_at ps b).entries + 5
  block_charge = elim (cases_Bool (plan_at ps b).first) [
    | inl f ↦ outer f
    | inr f ↦
        inner f (merges (plan_at ps b) (body_made width (starts_at width ps) b (plan_at ps b))) refl
  ]
    where
      outer : (plan_at ps b).first ≡ true → 4 * length (made_at width ps b).code + total
          (starts_at width ps b) n ≤ taken + 11 * length (plan_at ps b).entries + 5
      outer f =
          let xs = (plan_at ps b).entries in
          let body : Made = body_made width (starts_at width ps) b (plan_at ps b) in
          let m : made_at width ps b ≡ advances b xs (renew b xs body) =
          made_is width ps b h (plans.each b h).edges ∙ cond-true (plan_at ps b).first _ _ f in
          let c : length (made_at width ps b).code ≡ length (advances b xs (renew b xs body)).code =
          ap (λ (s : Made). length s.code) m in
          let t : total (starts_at width ps b) n ≡ total (fronts b 0 xs) n =
          ap (λ (w : Wants). total w n) (starts_outer width ps b f) in
          let a : charge n (advances b xs (renew b xs body)) ≤ charge n (renew b xs body) + 5 * length xs =
          advances_charge n b xs (renew b xs body) in
          let r : charge n (renew b xs body) ≤ charge n body + 5 * length xs =
          renew_charge n b xs body (omega (arith, high)) in
          let u : total (fronts b 0 xs) n ≤ length xs = fronts_total n b 0 xs in
          let g : charge n body ≤ taken = body_charge in
          omega arith

      inner : (plan_at ps b).first ≡ false → (j : Bool)
          → merges (plan_at ps b) (body_made width (starts_at width ps) b (plan_at ps b)) ≡ j
          → 4 * length (made_at width ps b).code + total (starts_at width ps b) n ≤ taken + 11 * length
          (plan_at ps b).entries + 5
      inner f true j =
          let body : Made = body_made width (starts_at width ps) b (plan_at ps b) in
          let m : made_at width ps b ≡ emit b pulse Merge (pulse ∷ []) body =
          made_is width ps b h (plans.each b h).edges ∙ cond-false (plan_at ps b).first _ _ f
          ∙ cond-true (merges (plan_at ps b) body) _ _ j in
          let c : charge n (made_at width ps b) ≡ charge n (emit b pulse Merge (pulse ∷ []) body) =
          ap (charge n) m in
          let t : total (starts_at width ps b) n ≡ total (made_at width ps b).wants n =
          ap (λ (w : Wants). total w n) (starts_inner width ps b f) in
          let a : charge n (emit b pulse Merge (pulse ∷ []) body) ≤ charge n body + 5 =
          emit_charge n b pulse Merge (pulse ∷ []) body in
          let g : charge n body ≤ taken = body_charge in
          omega arith
      inner f false j = grind (arith, made_is, cond-false, charge, total, starts_inner, taken, body_charge)
