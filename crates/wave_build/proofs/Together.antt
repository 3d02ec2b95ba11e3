-- What the blocks of the last graph weigh together, and that their code leaves room.
use Rattle.std.proofs.Common.{ℕ, zero, suc, ◌+◌, ◌*◌, ◌≡◌, ◌<◌, ◌≤◌, ◌⊎◌, Bool, true, if◌then◌else◌, List, []}
use Rattle.std.proofs.Common.{◌∷◌, length, refl, ap, inl, inr, arith}
use Rattle.std.specs.List.{AllByRecursion, sum_by, range_with_len}
use Rattle.std.proofs.Math.Nat.{mul-le-mul_right}
use Rattle.src_ast.specs.Syntax.{Part}
use Rattle.src_ast.specs.Bound.{widest, most_variables}
use Rattle.src_ast.specs.LanguageLimits.{most_locals, most_statements, most_statement_nodes}
use Rattle.ws_isa.specs.Image.{Image, flat}
use Rattle.ws_isa.specs.Formed.{most_instrs}
use Rattle.cfg_core.specs.Graph.{Exit, Goto, Branch, Call, Return, Send, Stop, GraphProc, Graph, Spot, spots}
use Rattle.cfg_core.specs.Graph.{spot_at, no_spot, block_at, no_proc, proc_at}
use Rattle.cfg_core.specs.Rules.{calls}
use Rattle.cfg_core.specs.Weights.{turns_of, turns_at}
use Rattle.live_vars.specs.Marks.{has}
use Rattle.wave_cut.specs.Cut.{Cut}
use Rattle.call_gen.specs.Reached.{Reached}
use Rattle.call_gen.specs.Charged.{beside, charged, CallsCharged, ReachedInPlace}
use Rattle.call_gen.specs.Sizes.{Sizes, ProcWithin, KeepsSizes, spelled_sizes}
use Rattle.wave_gen.specs.Limits.{most_quarters, KeepsLimits}
use Rattle.wave_build.specs.Charges.{charge}
use Rattle.wave_build.specs.Passed.{Costed, PassGraphs}
use Rattle.wave_build.specs.Small.{lowered_sizes, joined_sizes}
use Rattle.wave_build.proofs.Sums.{low, low_is, spots_low, low_both, low_less, low_few, low_more, low_turns}
use Rattle.wave_build.proofs.Sums.{in_range, Pays, paid}
use Rattle.wave_build.proofs.Sizing.{vars_within, joined_within, kept_within, last_within}
use Rattle.wave_build.proofs.Weights.{clears_weigh}
use Rattle.wave_build.proofs.Paying.{in_procs, charge_few, joined_costs}
use Rattle.wave_build.proofs.Costing.{weight, goes_weigh, fits}
use Rattle.ws_words.specs.Items.{nth, or_else}
use Rattle.cfg_core.proofs.Spots.{each_at}

-- whatever blocks weigh, what each is charged pays for all, with the doors
module _ (k : Graph) (needed : List (List ℕ)) (s : Graph) (C : CallsCharged k needed s) (w : ℕ → ℕ) where
  -- what the point weighs to which the call of a block returns
  abbrev at_point : ℕ → ℕ
  at_point b = if calls (block_at k b).exit then w (C.places.point b) else 0

  abbrev blocks : List ℕ
  blocks = range_with_len 0 (length (spots k))

  abbrev procs : List ℕ
  procs = range_with_len 0 (length k.procs)

  placed : (c : ℕ) → c < length (spots s) → Pays w C.places.block (λ b. w (C.places.block b)) blocks c
      ⊎ (Pays w C.places.door (λ f. w (C.places.door f)) procs c ⊎ Pays w C.places.point at_point blocks c)
  placed c lt = elim (C.each c lt) [
    | inl p ↦ inl (
      p.0,
      in_range 0 (length (spots k)) p.0 (omega arith) (omega (arith, p.1)),
      p.2,
      (let e = ap w p.2 in omega (arith, e)),
    )
    | inr q ↦ elim q [
      | inl p ↦
          inr (inl (
            p.0,
            in_range 0 (length k.procs) p.0 (omega arith) (omega (arith, p.1)),
            p.2,
            (let e = ap w p.2 in omega (arith, e)),
          ))
      | inr p ↦
          inr (inr (
            p.0,
            in_range 0 (length (spots k)) p.0 (omega arith) (omega (arith, p.1)),
            p.3,
            returns c p.0 p.2 p.3,
          ))
    ]
  ]
    where
      returns : (c b : ℕ) → calls (block_at k b).exit ≡ true → c ≡ C.places.point b → w c ≤ at_point b
      returns c b call e =
          let one : 0 + (if calls (block_at k b).exit then w (C.places.point b) else 0)
          ≡ 0 + w (C.places.point b) = ap (λ (v : Bool). 0 + (if v then w (C.places.point b) else 0))
          call in
          let f = ap w e in omega (arith, one, f)

  beside_pays : (b : ℕ) (x : Exit) → (if calls x then w (C.places.point b) else 0) ≤ beside w C.places b x
  beside_pays b (Call r f ts back) = omega arith
  beside_pays b (Goto c) = omega arith
  beside_pays b (Branch t c d) = omega arith
  beside_pays b (Return t) = omega arith
  beside_pays b (Send t ts ls) = omega arith
  beside_pays b Stop = omega arith

  pub all_paid : low w (length (spots s)) ≤ low (charged k C.places w) (length (spots k)) + low
      (λ f. w (C.places.door f)) (length k.procs)
  all_paid =
      let n = length (spots k) in
      let own : ℕ → ℕ = λ b. w (C.places.block b) in
      let door : ℕ → ℕ = λ f. w (C.places.door f) in
      let p = paid w C.places.block C.places.door C.places.point own door at_point (length (spots s)) blocks
      procs blocks placed in
      let a = low_is own n in let d = low_is door (length k.procs) in let t = low_is at_point n in
      let both = low_both own at_point n in
      let less = low_less (λ b. own b + at_point b) (charged k C.places w) n
      (λ b lt. (let h = beside_pays b (block_at k b).exit in omega (arith, h))) in
      omega (arith, p, a, d, t, both, less)

-- what the reached blocks are given pays for those that are kept
module _ (j k : Graph) (R : ReachedInPlace j k) (w given : ℕ → ℕ) (enough : (b : ℕ) → b < length (spots j)
    → Reached j b → w (R.place b) ≤ given b) where
  none : ℕ → ℕ
  none b = 0

  pub kept_paid : low w (length (spots k)) ≤ low given (length (spots j))
  kept_paid =
      let n = length (spots j) in
      let p = paid w R.place none none given none none (length (spots k)) (range_with_len 0 n) [] [] (λ c lt.
      (let r = R.each c lt in let e = ap w r.3 in let f = enough r.0 r.1 r.2 in
      inl (r.0, in_range 0 n r.0 (omega arith) (omega (arith, r.1)), r.3, omega (arith, e, f)))) in
      let z : sum_by none [] ≡ 0 = refl in
      let a = low_is given n in
      omega (arith, p, z, a)

proc_few : (z : Sizes) (ps : List GraphProc) (f : ℕ) → AllByRecursion (ProcWithin z) ps
    → ((or_else (nth ps f) no_proc).params ≤ z.params) × ((or_else (nth ps f) no_proc).vars ≤ z.vars)
unfolding no_proc
proc_few z [] f h = (omega arith, omega arith)
proc_few z (p ∷ ps) zero h = (h.0.params, h.0.vars)
proc_few z (p ∷ ps) (suc f) h = proc_few z ps f h.1

module _ (parts : List Part) (l j k s : Graph) (needed live : List (List ℕ)) (cut : Cut)
    (P : PassGraphs parts l j k s needed live cut) (narrow : widest parts ≤ most_statement_nodes)
    (locals : most_variables parts ≤ most_locals) where
  abbrev z : Sizes
  z = joined_sizes (lowered_sizes parts)

  J : KeepsSizes (joined_sizes (lowered_sizes parts)) j
  J = joined_within parts l j P.lowering P.joining

  C : Costed parts j
  C = joined_costs parts l j P.lowering P.joining

  W : KeepsSizes (spelled_sizes (joined_sizes (lowered_sizes parts))) s
  W = last_within j k s needed live cut P.last z J

  K : KeepsSizes (joined_sizes (lowered_sizes parts)) k
  K = kept_within j k s needed live cut P.last z J

  -- a block of the last graph with one instruction more, and what a block of the joined one is charged
  abbrev w : ℕ → ℕ
  w = weight s live

  abbrev paying : ℕ → ℕ
  paying = charge (most_variables parts) j

  few_vars : (b : ℕ) → (spot_at s b).vars ≤ 98
  unfolding spot_at no_spot
  few_vars b = each_at (λ (x : Spot). x.vars ≤ 98) (spots s) no_spot
      (in_procs 98 0 s.procs (vars_within (spelled_sizes (joined_sizes (lowered_sizes parts))) 98
      (omega (arith, locals)) s.procs W.procs)) (omega arith) b

  few_in_proc : (f : ℕ) → ((proc_at k f).params ≤ 8) × ((proc_at k f).vars ≤ 97)
  unfolding proc_at
  few_in_proc f = let h = proc_few (joined_sizes (lowered_sizes parts)) k.procs f K.procs in
      (omega (arith, h.0), omega (arith, h.1, locals))

  -- a door names parameters and clears variables
  door_few : (f : ℕ) → f < length k.procs → weight s live
      (P.last.spelling.charged.places.door f) ≤ 653
  door_few f lt =
      let at = P.last.spelling.charged.places.door f in
      let door = P.last.spelling.charged.doors f lt in
      let few = few_in_proc f in
      let both = P.last.spelling.charged.clears f 97 lt (omega (arith, few.0))
      (λ x lx h. omega (arith, lx, few.1)) in
      let named = door.named in
      let g = goes_weigh parts j k s needed live cut C P.last at door.goes.0 (length (block_at s at).ops * 6)
      door.goes.1 door.held (clears_weigh (block_at s at).ops door.ops) in
      omega (arith, g, both, named, few.0)

  -- each statement has one turn
  few_turns : low (turns_at l) (length (spots l)) ≤ most_statements
  unfolding spot_at
  few_turns =
      let e = spots_low (turns_at l) (λ (x : Spot). sum_by turns_of x.block.ops) (spots l) (λ i lt. refl) in
      let t = P.lowering.small.turns in omega (arith, e, t)

  each_few : (b : ℕ) → charge (most_variables parts) j b ≤ 412 + 3819 * turns_at l b
  each_few b =
      let c = charge_few parts l j P.lowering P.joining b in
      let m : (42 * most_variables parts + 180 + 9 * widest parts) * turns_at l b ≤ 3819 * turns_at l b =
      mul-le-mul_right (turns_at l b) (omega (arith, narrow, locals)) in
      omega (arith, c, m, locals)

  joined_few : low paying (length (spots j)) ≤ length (spots j) * 412 + 3819 * most_statements
  joined_few =
      let t = low_turns paying (turns_at l) 412 3819 (length (spots j)) (λ b lt. each_few b) in
      let e = ap (low (turns_at l)) P.joining.sizes.count in
      let f = few_turns in omega (arith, t, e, f)

  last_few : low w (length (spots s)) ≤ length (spots j) * 412 + 3819 * most_statements + length k.procs * 653
  last_few =
      let a = all_paid k needed s P.last.spelling.charged w in
      let b = kept_paid j k P.last.keeping.places (charged k P.last.spelling.charged.places w) paying
      (λ b lt r. fits parts j k s needed live cut C P.last b lt r) in
      let d = low_few (λ f. w (P.last.spelling.charged.places.door f)) 653 (length k.procs)
      (λ f lt. door_few f lt) in
      let f = joined_few in omega (arith, a, b, d, f)

  -- with what is wanted past the ends of blocks
  quarters_few : low (most_quarters s (has live)) (length (spots s)) + length (spots s) * 4
      ≤ low w (length (spots s)) + length (spots s) * 693
  quarters_few = low_more (most_quarters s (has live)) w 4 693 (length (spots s))
      (λ b lt. (let v = few_vars b in omega (arith, v)))

  -- the instructions of the draft, with one more in each block, are few enough
  pub room : (draft : Image) → KeepsLimits s (has live) draft → length (flat draft.blocks) + length
      draft.blocks ≤ most_instrs
  unfolding most_instrs
  room draft keeps =
      let i = keeps.instrs in let b = keeps.blocks in
      let e = low_is (most_quarters s (has live)) (length (spots s)) in
      let q = quarters_few in let f = last_few in
      let n = W.count_blocks in let m = P.lowering.small.blocks in let c = P.joining.sizes.count in
      let p = K.count_procs in
      omega (arith, i, b, e, q, f, n, m, c, p)
