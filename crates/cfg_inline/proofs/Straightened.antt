-- Straight-line code: what its blocks do is what its operations and its Return do, and what it names exists.
use Rattle.std.proofs.Common.{ℕ, zero, suc, ◌≡◌, ◌<◌, ◌≤◌, List, [], ◌∷◌, ◌++◌, length, Option, Some, None}
use Rattle.std.proofs.Common.{refl, sym, ap, ◌∙◌, subst, arith}
use Rattle.std.specs.List.{AllByRecursion, sum_by}
use Rattle.std.proofs.lemmas.List.Sums.{sum_by-cons}
use Rattle.ws_words.specs.Outside.{Outside, ProcState}
use Rattle.ws_words.proofs.Lists.{all_append}
use Rattle.cfg_core.specs.Graph.{Term, Op, Exit, Goto, Branch, Call, Return, Send, Stop, Graph, spots}
use Rattle.cfg_core.specs.Graph.{spot_at}
use Rattle.cfg_core.specs.Graph.{block_at}
use Rattle.cfg_core.specs.Rules.{TermIn, OpIn, ExitIn, ChoosesBare, IsGraph}
use Rattle.cfg_core.specs.Walk.{value_of, OpsOutcome, Done, Out, and_then, run_ops, Frame, At, returned}
use Rattle.cfg_core.specs.Walk.{passed}
use Rattle.cfg_core.specs.Walk.{walk}
use Rattle.cfg_core.specs.Weights.{block_left, path}
use Rattle.cfg_core.proofs.Outcomes.{run_append}
use Rattle.cfg_core.proofs.Spots.{numbers_at, each_at}
use Rattle.cfg_core.specs.Graph.{Spot, no_spot}
use Rattle.cfg_inline.specs.Straight.{Straight, after, straight_on, straight}
use Rattle.cfg_inline.specs.Charged.{straight_row_on, straight_row}
use Rattle.cfg_core.proofs.Homes.{same_vars}

-- what is kept of the operations and the result of each block is kept of straight-line code
module _ (g : Graph) (P : Op → Type 0) (Q : Term → Type 0) where
  abbrev pub Has : Straight → Type 0
  Has s = AllByRecursion P s.ops × Q s.result

  after_has : (ops : List Op) (found : Option Straight) (s : Straight) → AllByRecursion P ops
      → ((r : Straight) → found ≡ Some r → Has r) → after ops found ≡ Some s → Has s
  after_has ops None s i h e = absurd (cc)
  after_has ops (Some r) s i h e =
      let is : record { ops = ops ++ r.ops; result = r.result } ≡ s = cc in
      let known = h r refl in subst Has is (all_append P ops r.ops i known.0, known.1)

module _ (g : Graph) (rules : IsGraph g) where
  abbrev V : ℕ → ℕ
  V b = (spot_at g b).vars

  -- straight-line code from block b on names what exists
  pub straight_in : (n b : ℕ) (s : Straight) → b < length (spots g) → straight g n b ≡ Some s
      → AllByRecursion (OpIn (length g.arrays) (V b)) s.ops × TermIn (length g.arrays) (V b) s.result
  straight_in zero b s there e = absurd (cc)
  straight_in (suc n) b s there e = by_exit (λ c r lt f. straight_in n c r lt f) (block_at g b).exit
      (numbers_at g rules b).exit e
    where
      by_exit : ((c : ℕ) (r : Straight) → c < length (spots g) → straight g n c ≡ Some r
          → AllByRecursion (OpIn (length g.arrays) (V c)) r.ops × TermIn (length g.arrays) (V c) r.result)
          → (x : Exit) → ExitIn g (spot_at g b).home (V b) x
          → straight_on (block_at g b).ops (straight g n) x ≡ Some s
          → AllByRecursion (OpIn (length g.arrays) (V b)) s.ops × TermIn (length g.arrays) (V b) s.result
      by_exit next (Goto c) i d = after_has g (OpIn (length g.arrays) (V b)) (TermIn (length g.arrays) (V b))
          (block_at g b).ops (straight g n c) s (numbers_at g rules b).ops
          (λ r f. let w = next c r i.0 f in
          let same = same_vars g rules b c there i.0 i.1 in (
            subst (λ v. AllByRecursion (OpIn (length g.arrays) v) r.ops) same w.0,
            subst (λ v. TermIn (length g.arrays) v r.result) same w.1,
          )) d
      by_exit next (Return t) i d =
          let is : record { ops = (block_at g b).ops; result = t } ≡ s = cc in
          subst (λ (r : Straight). AllByRecursion (OpIn (length g.arrays) (V b)) r.ops
          × TermIn (length g.arrays) (V b) r.result) is ((numbers_at g rules b).ops, i)
      by_exit next (Branch t c d') i d = absurd (cc)
      by_exit next (Call x f ts back) i d = absurd (cc)
      by_exit next (Send t ts ls) i d = absurd (cc)
      by_exit next Stop i d = absurd (cc)

  bare_at : (b : ℕ) → AllByRecursion ChoosesBare (block_at g b).ops
  unfolding spot_at no_spot
  bare_at b = each_at (λ (s : Spot). AllByRecursion ChoosesBare s.block.ops) (spots g) no_spot rules.bare tt b

  bare : (n b : ℕ) (s : Straight) → straight g n b ≡ Some s → Has g ChoosesBare (λ t. Unit {0}) s
  bare zero b s e = absurd (cc)
  bare (suc n) b s e = by_exit (λ c r f. bare n c r f) (block_at g b).exit e
    where
      by_exit : ((c : ℕ) (r : Straight) → straight g n c ≡ Some r → Has g ChoosesBare (λ t. Unit {0}) r)
          → (x : Exit) → straight_on (block_at g b).ops (straight g n) x ≡ Some s
          → Has g ChoosesBare (λ t. Unit {0}) s
      by_exit next (Goto c) d = after_has g ChoosesBare (λ t. Unit {0}) (block_at g b).ops (straight g n c) s
          (bare_at b) (next c) d
      by_exit next (Return t) d =
          let is : record { ops = (block_at g b).ops; result = t } ≡ s = cc in
          subst (Has g ChoosesBare (λ t. Unit {0})) is (bare_at b, tt)
      by_exit next (Branch t c d') d = absurd (cc)
      by_exit next (Call x f ts back) d = absurd (cc)
      by_exit next (Send t ts ls) d = absurd (cc)
      by_exit next Stop d = absurd (cc)

  -- its choices load nothing
  pub straight_bare : (n b : ℕ) (s : Straight) → straight g n b ≡ Some s → AllByRecursion ChoosesBare s.ops
  straight_bare n b s e = (bare n b s e).0

-- Operations are done.
abbrev pub IsDone : OpsOutcome → Type 0
IsDone (Done s k) = Unit {0}
IsDone (Out o) = ⊥

-- a return leaves its block
returned_left : (b : ℕ) (r : ProcState) (fs : List Frame) (k v : ℕ) (o : Outside) (es : List Frame) (j : ℕ)
    → block_left (At b r fs k) (returned v o es j) ≡ b ∷ []
returned_left b r fs k v o [] j = refl
returned_left b r fs k v o (e ∷ es) j = refl

-- After some blocks of straight-line code its operations are done, and its Return. Where they are, the walk
-- has left each of its blocks.
module _ (g : Graph) (fs : List Frame) where
  abbrev pub LeavesAll : ℕ → ℕ → ℕ → OpsOutcome → ProcState → ℕ → Type 0
  LeavesAll n b m o r k = (given : ℕ → ℕ) → IsDone o
      → sum_by given (straight_row g n b) ≤ sum_by given (path g (suc m) (At b r fs k))

  abbrev pub Comes : ℕ → ℕ → Straight → ProcState → ℕ → Type 0
  Comes n b s r k =
      (m : ℕ) × (walk g (suc m) (At b r fs k) ≡ passed g (run_ops s.ops r k) (Return s.result) fs)
      × LeavesAll n b m (run_ops s.ops r k) r k

  -- so do the blocks after a block, given that those from the next one on do
  module _ (n b : ℕ) (r : ProcState) (k : ℕ) (next : (c : ℕ) (q : Straight) → straight g n c ≡ Some q
      → (u : ProcState) (j : ℕ) → Comes n c q u j) where
    abbrev ops : List Op
    ops = (block_at g b).ops

    -- the block before an exit, and the blocks after it
    abbrev weighed : (ℕ → ℕ) → ℕ → OpsOutcome → Exit → ℕ
    weighed given m o x =
        sum_by given (block_left (At b r fs k) (passed g o x fs) ++ path g m (passed g o x fs))

    abbrev ahead : (ℕ → ℕ) → Exit → ℕ
    ahead given x = sum_by given (b ∷ straight_row_on (straight_row g n) x)

    by_outcome : (c : ℕ) (q : Straight) → straight g n c ≡ Some q → (o : OpsOutcome)
        → (m : ℕ) × (walk g m (passed g o (Goto c) fs)
        ≡ passed g (and_then o (run_ops q.ops)) (Return q.result) fs)
        × ((given : ℕ → ℕ) → IsDone (and_then o (run_ops q.ops)) → ahead given (Goto c)
        ≤ weighed given m o (Goto c))
    by_outcome c q f (Done u j) =
        let w = next c q f u j in (
          suc w.0,
          w.1,
          λ given d. (
              let p = w.2 given d in
              let a = sum_by-cons given b (straight_row g n c) in
              let e = sum_by-cons given b (path g (suc w.0) (At c u fs j)) in
              omega (arith, p, a, e)),
        )
    by_outcome c q f (Out o) = (0, refl, λ given d. absurd d)

    by_found : (s : Straight) (c : ℕ) (found : Option Straight) → straight g n c ≡ found
        → (block_at g b).exit ≡ Goto c → after ops found ≡ Some s → Comes (suc n) b s r k
    by_found s c None f x d = absurd (cc)
    by_found s c (Some q) f x d =
        let is : record { ops = ops ++ q.ops; result = q.result } ≡ s = cc in
        let w = by_outcome c q f (run_ops ops r k) in
        subst (λ (t : Straight). Comes (suc n) b t r k) is (
          w.0,
          ap (λ y. walk g w.0 (passed g (run_ops ops r k) y fs)) x
              ∙ w.1
              ∙ ap (λ o. passed g o (Return q.result) fs) (sym (run_append ops q.ops r k)),
          λ given d. subst (λ (y : Exit). ahead given y ≤ weighed given w.0 (run_ops ops r k) y) (sym x)
              (w.2 given (subst IsDone (run_append ops q.ops r k) d)),
        )

    last_leaves : (t : Term) (o : OpsOutcome) → IsDone o → (given : ℕ → ℕ)
        → ahead given (Return t) ≤ weighed given 0 o (Return t)
    last_leaves t (Done u j) d given =
        let v = value_of t u in
        subst (λ (zs : List ℕ). ahead given (Return t) ≤ sum_by given (zs ++ []))
        (sym (returned_left b r fs k v.0 v.1.out fs j)) (omega arith)
    last_leaves t (Out o) d given = absurd d

    by_exit : (s : Straight) (x : Exit) → (block_at g b).exit ≡ x → straight_on ops (straight g n) x ≡ Some s
        → Comes (suc n) b s r k
    by_exit s (Goto c) x d = by_found s c (straight g n c) refl x d
    by_exit s (Return t) x d =
        let is : record { ops = ops; result = t } ≡ s = cc in
        subst (λ (q : Straight). Comes (suc n) b q r k) is (
          0,
          ap (λ y. passed g (run_ops ops r k) y fs) x,
          λ given d. subst (λ (y : Exit). ahead given y ≤ weighed given 0 (run_ops ops r k) y) (sym x)
              (last_leaves t (run_ops ops r k) d given),
        )
    by_exit s (Branch t c d') x d = absurd (cc)
    by_exit s (Call y f ts back) x d = absurd (cc)
    by_exit s (Send t ts ls) x d = absurd (cc)
    by_exit s Stop x d = absurd (cc)

  pub straight_run : (n b : ℕ) (s : Straight) → straight g n b ≡ Some s → (r : ProcState) (k : ℕ)
      → Comes n b s r k
  straight_run zero b s e r k = absurd (cc)
  straight_run (suc n) b s e r k = by_exit n b r k (λ c q f u j. straight_run n c q f u j) s
      (block_at g b).exit refl e
