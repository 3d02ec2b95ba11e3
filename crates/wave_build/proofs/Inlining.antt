-- What the blocks of an inlined graph are charged, at most what the given graph's blocks are, a callee's at
-- its call: so its walks are charged no more.
use Rattle.std.proofs.Common.{ℕ, zero, suc, ◌+◌, ◌-◌, ◌*◌, ◌≡◌, ◌≤◌, List, [], ◌∷◌, ◌++◌, length, map, Option}
use Rattle.std.proofs.Common.{Some, None, refl, sym, ap, subst, arith}
use Rattle.std.specs.List.{sum_by}
use Rattle.std.proofs.lemmas.List.Sums.{sum_by-cons, sum_by-append}
use Rattle.cfg_core.specs.Graph.{Term, Number, Var, Cell, Flip, Not, Neg, Binary, Op, Assign, Store, Print}
use Rattle.cfg_core.specs.Graph.{Read, Give, Take, Choose, Tick, TickBy, Exit, Goto, Branch, Call, Return}
use Rattle.cfg_core.specs.Graph.{Send, Stop, Block, Graph, spot_at, block_at, entry_of}
use Rattle.cfg_core.specs.Rules.{IsGraph}
use Rattle.cfg_core.specs.Weights.{WalksWeigh}
use Rattle.cfg_inline.specs.Straight.{Straight, after, straight_on, straight}
use Rattle.cfg_inline.specs.Inlined.{moved, moved_op, assigns, blanks, Plan, Site, site, target, site_ops}
use Rattle.cfg_inline.specs.Inlined.{most_blocks, inlined_if, inlined}
use Rattle.cfg_inline.specs.Charged.{straight_row_on, straight_row, callee_weight, if_inlined, inlined_weight}
use Rattle.cfg_inline.specs.Charged.{BlocksCharged}
use Rattle.cfg_inline.proofs.Placing.{block_is}
use Rattle.cfg_inline.proofs.Calling.{blanks_count}
use Rattle.cfg_inline.proofs.Alongside.{IsSite, site_is}
use Rattle.wave_gen.specs.Cost.{term_quarters, op_quarters}
use Rattle.wave_build.specs.Charges.{exit_charge, charge}

-- Moved terms and operations weigh what they weighed.

moved_same : (v : ℕ) (t : Term) → term_quarters (moved v t) ≡ term_quarters t
moved_same v (Number n) = refl
moved_same v (Var x) = refl
moved_same v (Cell a t) = ap (λ n. 5 + n) (moved_same v t)
moved_same v (Flip t) = ap (λ n. 9 + n) (moved_same v t)
moved_same v (Not t) = ap (λ n. 5 + n) (moved_same v t)
moved_same v (Neg t) = ap (λ n. 5 + n) (moved_same v t)
moved_same v (Binary op a b) = let p = moved_same v a in let q = moved_same v b in omega (arith, p, q)

moved_op_same : (v : ℕ) (op : Op) → op_quarters (moved_op v op) ≡ op_quarters op
moved_op_same v (Assign x t) = let p = moved_same v t in omega (arith, p)
moved_op_same v (Store a t u) = let p = moved_same v t in let q = moved_same v u in omega (arith, p, q)
moved_op_same v (Print t) = let p = moved_same v t in omega (arith, p)
moved_op_same v (Read x) = refl
moved_op_same v (Give p x) = refl
moved_op_same v (Take p t) = let q = moved_same v t in omega (arith, q)
moved_op_same v (Choose x t a b) =
    let p = moved_same v t in let q = moved_same v a in let r = moved_same v b in omega (arith, p, q, r)
moved_op_same v (Tick n) = refl
moved_op_same v (TickBy t n m) = refl

moved_ops_same : (v : ℕ) (ops : List Op) → sum_by op_quarters (map (moved_op v) ops) ≡ sum_by op_quarters ops
moved_ops_same v [] = refl
moved_ops_same v (op ∷ ops) =
    let p = moved_op_same v op in
    let q = moved_ops_same v ops in
    let c = sum_by-cons op_quarters (moved_op v op) (map (moved_op v) ops) in
    let d = sum_by-cons op_quarters op ops in
    omega (arith, p, q, c, d)

-- Terms assigned in a row.

assigns_weigh : (v : ℕ) (ts : List Term)
    → sum_by op_quarters (assigns v ts) ≡ sum_by term_quarters ts + 5 * length ts
assigns_weigh v [] = refl
assigns_weigh v (t ∷ ts) =
    let q = assigns_weigh (suc v) ts in
    let c = sum_by-cons op_quarters (Assign v t) (assigns (suc v) ts) in
    let d = sum_by-cons term_quarters t ts in
    omega (arith, q, c, d)

blanks_weigh : (n : ℕ) → sum_by term_quarters (blanks n) ≡ n
blanks_weigh zero = refl
blanks_weigh (suc n) =
    let q = blanks_weigh n in let c = sum_by-cons term_quarters (Number 0) (blanks n) in omega (arith, q, c)

-- what stands for a call
site_weighs : (v : ℕ) (s : Site) → sum_by op_quarters (site_ops v s)
    ≡ sum_by term_quarters s.values + 5 * length s.values + 6 * (s.vars - s.params)
    + sum_by op_quarters s.body.ops + term_quarters s.body.result + 5
site_weighs v s =
    let n : ℕ = s.vars - s.params in
    let filled : List Term = s.values ++ blanks n in
    let code : List Op = map (moved_op v) s.body.ops in
    let last : Op = Assign (target (v + s.vars) s.result) (moved v s.body.result) in
    let a = sum_by-append op_quarters (assigns v filled) (code ++ last ∷ []) in
    let b = sum_by-append op_quarters code (last ∷ []) in
    let c = sum_by-cons op_quarters last [] in
    let d = assigns_weigh v filled in
    let e = sum_by-append term_quarters s.values (blanks n) in
    let f = blanks_weigh n in
    let l = blanks_count s.values n in
    let m = moved_ops_same v s.body.ops in
    let r = moved_same v s.body.result in
    omega (arith, a, b, c, d, e, f, l, m, r)

module _ (v : ℕ) (g : Graph) where
  abbrev paying : ℕ → ℕ
  paying = charge v g

  -- the blocks of straight-line code are charged its operations and its Return
  abbrev Paid : ℕ → ℕ → Straight → Type 0
  Paid n b s =
      sum_by op_quarters s.ops + term_quarters s.result + (11 * v + 55) ≤ sum_by paying (straight_row g n b)

  row_paid : (n b : ℕ) (s : Straight) → straight g n b ≡ Some s → Paid n b s
  row_paid zero b s e = absurd (cc)
  row_paid (suc n) b s e = by_exit (λ c q f. row_paid n c q f) (block_at g b).exit refl e
    where
      by_exit : ((c : ℕ) (q : Straight) → straight g n c ≡ Some q → Paid n c q) → (x : Exit)
          → (block_at g b).exit ≡ x → straight_on (block_at g b).ops (straight g n) x ≡ Some s
          → Paid (suc n) b s
      by_exit next (Goto c) x d = by_found (straight g n c) refl d
        where
          by_found : (found : Option Straight) → straight g n c ≡ found
              → after (block_at g b).ops found ≡ Some s
              → Paid (suc n) b s
          by_found None f d = absurd (cc)
          by_found (Some q) f d =
              let is : record { ops = (block_at g b).ops ++ q.ops; result = q.result } ≡ s = cc in
              let p = next c q f in
              let w = sum_by-append op_quarters (block_at g b).ops q.ops in
              let r = ap (λ (y : Exit). sum_by paying (b ∷ straight_row_on (straight_row g n) y)) x in
              let k = sum_by-cons paying b (straight_row g n c) in
              let y = ap (λ (y : Exit). exit_charge v y) x in
              subst (λ (t : Straight). Paid (suc n) b t) is (omega (arith, p, w, r, k, y))
      by_exit next (Return t) x d =
          let is : record { ops = (block_at g b).ops; result = t } ≡ s = cc in
          let r = ap (λ (y : Exit). sum_by paying (b ∷ straight_row_on (straight_row g n) y)) x in
          let k = sum_by-cons paying b [] in
          let y = ap (λ (y : Exit). exit_charge v y) x in
          subst (λ (q : Straight). Paid (suc n) b q) is (omega (arith, r, k, y))
      by_exit next (Branch t c d') x d = absurd (cc)
      by_exit next (Call y f ts back) x d = absurd (cc)
      by_exit next (Send t ts ls) x d = absurd (cc)
      by_exit next Stop x d = absurd (cc)

  module _ (plan : Plan) (rules : IsGraph g) (few : 6 * plan.room ≤ 43 * v + 174) where
    abbrev h : Graph
    h = inlined plan g

    -- a block with what stands for its call
    call_paid : (b : ℕ) (s : Site) → IsSite plan g (block_at g b).exit s
        → sum_by op_quarters ((block_at g b).ops ++ site_ops (spot_at g b).vars s)
        + exit_charge v (Goto s.back)
        ≤ paying b + callee_weight g paying (block_at g b).exit
    call_paid b s i =
        let w = sum_by-append op_quarters (block_at g b).ops (site_ops (spot_at g b).vars s) in
        let t = site_weighs (spot_at g b).vars s in
        let r = row_paid most_blocks (entry_of g i.callee) s.body i.code in
        let x = ap (λ (y : Exit). exit_charge v y) i.call in
        let k = ap (λ (y : Exit). callee_weight g paying y) i.call in
        let m = i.fits in
        omega (arith, w, t, r, x, k, m, few)

    block_paid : (b : ℕ) (found : Option Site) → site plan g (block_at g b).exit ≡ found
        → sum_by op_quarters (inlined_if (spot_at g b).vars (block_at g b) found).ops
        + exit_charge v (inlined_if (spot_at g b).vars (block_at g b) found).exit
        ≤ paying b + if_inlined found (callee_weight g paying (block_at g b).exit)
    block_paid b None e = omega arith
    block_paid b (Some s) e = call_paid b s (site_is plan g (block_at g b).exit s e)

    abbrev new_charge : ℕ → ℕ
    new_charge = charge v h

    charged_few : (b : ℕ) → new_charge b ≤ inlined_weight plan g paying b
    charged_few b =
        subst (λ (y : Block). sum_by op_quarters y.ops + exit_charge v y.exit
        ≤ inlined_weight plan g paying b)
        (sym (block_is plan g b)) (block_paid b (site plan g (block_at g b).exit) refl)

    -- so walks are charged no more, by the clause `charged`
    pub inlined_weighs : BlocksCharged plan g h → (base pay : ℕ) → WalksWeigh g paying base pay
        → WalksWeigh h new_charge base pay
    inlined_weighs charged base pay walks = charged new_charge paying base pay (λ b lt. charged_few b) walks
