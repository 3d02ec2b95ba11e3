-- No copy is live at the start of a block of the joined graph.
use Rattle.std.proofs.Common.{ℕ, ◌+◌, ◌≡◌, ◌<◌, ◌⊎◌, Bool, true, false, List, [], ◌∷◌, ◌++◌}
use Rattle.std.proofs.Common.{length, map, Option, Some, None, refl, subst, inl, inr, arith}
use Rattle.std.proofs.lemmas.Bool.{cases_eq}
use Rattle.std.specs.List.{AllByRecursion, filter}
use Rattle.cfg_core.specs.Graph.{Term, Cell, Flip, Not, Neg, Binary, Op, Assign, Store, Print}
use Rattle.cfg_core.specs.Graph.{Read, Give, Take, Choose, Tick, TickBy, Exit, Goto, Branch, Call, Return}
use Rattle.cfg_core.specs.Graph.{Send, Stop, Graph, spots, spot_at, block_at}
use Rattle.cfg_core.specs.Rules.{TermIn, OpIn, ExitIn, IsGraph}
use Rattle.live_vars.specs.Live.{Mentions, Carries, ReadsFirst, Live, reads, passes}
use Rattle.live_vars.specs.Marks.{has}
use Rattle.phi_conv.specs.Short.{Short, short}
use Rattle.phi_conv.specs.Joined.{first_base, second_base, is_among, copied, added, renamed, arm}
use Rattle.phi_conv.specs.Joined.{written, written_by, is_still, keep_test, test_if, choice}
use Rattle.phi_conv.specs.Joined.{joining, joined_if, joined}
use Rattle.phi_conv.specs.Keeps.{NoCopyLive}
use Rattle.phi_conv.proofs.Picked.{added_other, written_low}
use Rattle.phi_conv.proofs.Placing.{spots_count, spot_is, block_is}
use Rattle.cfg_core.proofs.Homes.{same_vars}
use Rattle.phi_conv.proofs.Numbered.{first_in, second_in, test_in}
use Rattle.phi_conv.proofs.Ruled.{keeps_rules}
use Rattle.cfg_core.proofs.Spots.{filter_in, numbers_at}
use Rattle.ws_words.specs.Items.{In}
use Rattle.live_vars.proofs.Below.{low, op_low, reads_below, carries_stays}

module _ (g : Graph) (v : ℕ) where
  after : (ops more : List Op) (exit : Exit) (x : ℕ) → AllByRecursion (OpIn (length g.arrays) v) ops
      → ReadsFirst (ops ++ more) exit x → (x < v) ⊎ ReadsFirst more exit x
  after [] more exit x i h = inr h
  after (op ∷ ops) more exit x i (inl r) = inl (op_low g v op x i.0 r)
  after (op ∷ ops) more exit x i (inr n) = after ops more exit x i.1 n.1

  -- an arm reads a copy only after it has written it
  module _ (base : ℕ) where
    abbrev NotCopy : List ℕ → ℕ → Type 0
    NotCopy done x = (y : ℕ) → is_among done y ≡ true → x ≡ base + y → ⊥

    copied_low : (done : List ℕ) (y x : ℕ) → NotCopy done x → y < v → x ≡ copied base done y → x < v
    copied_low done y x n lt e = grind arith

    renamed_low : (done : List ℕ) (t : Term) (x : ℕ) → NotCopy done x → TermIn (length g.arrays) v t
        → Mentions (renamed base done t) x → x < v
    renamed_low done (Cell a t) x n i m = renamed_low done t x n i.1 m
    renamed_low done (Flip t) x n i m = renamed_low done t x n i m
    renamed_low done (Not t) x n i m = renamed_low done t x n i m
    renamed_low done (Neg t) x n i m = renamed_low done t x n i m
    renamed_low done (Binary op a b) x n i (inl m) = renamed_low done a x n i.0 m
    renamed_low done (Binary op a b) x n i (inr m) = renamed_low done b x n i.1 m
    renamed_low done t x n i m = grind (arith, copied_low)

    one_more : (done : List ℕ) (y x : ℕ) → NotCopy done x → (x ≡ base + y → ⊥) → NotCopy (added done y) x
    one_more done y x n ne z among e = grind (arith, cases_eq, added_other)

    arm_after : (done : List ℕ) (ops more : List Op) (exit : Exit) (x : ℕ) → NotCopy done x
        → AllByRecursion (OpIn (length g.arrays) v) ops → ReadsFirst (arm base done ops ++ more) exit x
        → (x < v) ⊎ (NotCopy (written done ops) x × ReadsFirst more exit x)
    arm_after done [] more exit x n i h = inr (n, h)
    arm_after done (Assign y t ∷ ops) more exit x n i (inl m) = inl (renamed_low done t x n i.0.1 m)
    arm_after done (Assign y t ∷ ops) more exit x n i (inr h) = grind (
      arith,
      one_more,
      arm_after (added done y) ops more exit x (one_more done y x n h.0) i.1 h.1,
    )
    arm_after done (Store a t u ∷ ops) more exit x n i h = arm_after done ops more exit x n i.1 h
    arm_after done (Print t ∷ ops) more exit x n i h = arm_after done ops more exit x n i.1 h
    arm_after done (Read y ∷ ops) more exit x n i h = arm_after done ops more exit x n i.1 h
    arm_after done (Give p y ∷ ops) more exit x n i h = arm_after done ops more exit x n i.1 h
    arm_after done (Take p t ∷ ops) more exit x n i h = arm_after done ops more exit x n i.1 h
    arm_after done (Choose y t a b ∷ ops) more exit x n i h = arm_after done ops more exit x n i.1 h
    arm_after done (Tick k ∷ ops) more exit x n i h = arm_after done ops more exit x n i.1 h
    arm_after done (TickBy t k m ∷ ops) more exit x n i h = arm_after done ops more exit x n i.1 h

  -- what stands for a short branch
  module _ (live : List (List ℕ)) (s : Short) (test : TermIn (length g.arrays) v s.test)
      (first : AllByRecursion (OpIn (length g.arrays) v) s.first)
      (second : AllByRecursion (OpIn (length g.arrays) v) s.second) (j x : ℕ) where
    abbrev still : Bool
    still = is_still (written_by s) s.test

    held_low : (c : Bool) → (c ≡ false → x ≡ v → ⊥) → Mentions (test_if c v s.test) x → x < v
    held_low c n m = grind (arith, low)

    kept_after : (c : Bool) (more : List Op) → ReadsFirst (keep_test c v s.test ++ more) (Goto j) x
        → (x < v) ⊎ ((c ≡ false → x ≡ v → ⊥) × ReadsFirst more (Goto j) x)
    kept_after c more h = grind (arith, low)

    choices_low : (xs : List ℕ) → ((y : ℕ) → In y xs → y < v) → NotCopy (first_base v) (written [] s.first) x
        → NotCopy (second_base v) (written [] s.second) x → (still ≡ false → x ≡ v → ⊥)
        → ReadsFirst (map (choice v s) xs) (Goto j) x → x < v
    choices_low [] few n m k h = absurd h
    choices_low (y ∷ xs) few n m k (inl (inl r)) = held_low still k r
    choices_low (y ∷ xs) few n m k (inl (inr (inl r))) = copied_low (first_base v) (written [] s.first) y x n
        (few y (inl refl)) r
    choices_low (y ∷ xs) few n m k (inl (inr (inr r))) = copied_low (second_base v) (written [] s.second) y x
        m (few y (inl refl)) r
    choices_low (y ∷ xs) few n m k (inr h) = choices_low xs (λ z i. few z (inr i)) n m k h.1

    abbrev chosen : List ℕ
    chosen = filter (has live s.join) (written_by s)

    chosen_low : (y : ℕ) → In y chosen → y < v
    chosen_low y i = written_low g v (written [] s.first) s.second second
        (written_low g v [] s.first first (λ z no. absurd no)) y
        (filter_in (has live s.join) (written_by s) y i).0

    none_copied : (base : ℕ) → NotCopy base [] x
    none_copied base y among e = absurd (cc)

    pub joining_low : ReadsFirst (joining live v s) (Goto j) x → x < v
    joining_low h = grind (
      arith,
      kept_after,
      held_low,
      arm_after,
      s.first,
      none_copied,
      choices_low,
      chosen_low,
    )

module _ (g : Graph) (live : List (List ℕ)) (rules : IsGraph g) where
  abbrev h : Graph
  h = joined g live

  abbrev V : ℕ → ℕ
  V b = (spot_at g b).vars

  block_low : (b x : ℕ) → b < length (spots g) → ReadsFirst (block_at h b).ops (block_at h b).exit x → x < V b
  block_low b x lt r = by_short (short g (block_at g b).exit) refl (grind (arith, block_is))
    where
      by_exit : (y : Exit) (s : Short) → (block_at g b).exit ≡ y → short g y ≡ Some s
          → ReadsFirst (joining live (V b) s) (Goto s.join) x → x < V b
      by_exit (Branch t c d) s e f q =
          let i = subst (λ (y : Exit). ExitIn g (spot_at g b).home (V b) y) e (numbers_at g rules b).exit in
          joining_low g (V b) live s (test_in g rules b lt t c d s i f) (first_in g rules b lt t c d s i f)
          (second_in g rules b lt t c d s i f) s.join x q
      by_exit (Goto c) s e f q = absurd (cc)
      by_exit (Call n c ts back) s e f q = absurd (cc)
      by_exit (Return t) s e f q = absurd (cc)
      by_exit (Send t ts ls) s e f q = absurd (cc)
      by_exit Stop s e f q = absurd (cc)

      by_short : (found : Option Short) → short g (block_at g b).exit ≡ found
          → ReadsFirst (joined_if live (V b) (block_at g b) found).ops
          (joined_if live (V b) (block_at g b) found).exit x → x < V b
      by_short None e q = reads_below g (spot_at g b).home (V b) (block_at g b).ops (block_at g b).exit x
          (numbers_at g rules b).ops (numbers_at g rules b).exit q
      by_short (Some s) e q =
          elim (after g (V b) (block_at g b).ops (joining live (V b) s) (Goto s.join) x
          (numbers_at g rules b).ops q) [
            | inl low_enough ↦ low_enough
            | inr p ↦ by_exit (block_at g b).exit s refl e p
          ]

  R : IsGraph h
  R = keeps_rules g live rules

  on_edge : (b c : ℕ) → b < length (spots g) → Carries (block_at h b).exit c
      → (c < length (spots g)) × (V c ≡ V b)
  on_edge b c lt k =
      let i = carries_stays h (spot_at h b).home (spot_at h b).vars (block_at h b).exit c
      (numbers_at h R b).exit k in grind (arith, spots_count, same_vars, R, spot_is)

  dead : (b x : ℕ) → b < length (spots g) → Live h b x → x < V b
  dead b x lt (reads _ _ r) = block_low b x lt r
  dead b x lt (passes _ c _ nw ne k l) = let e = on_edge b c lt k in let i = dead c x e.0 l in
      omega (arith, i, e.1)

  -- what is live is a variable of the given graph's procedure
  pub no_copy_live : NoCopyLive g h
  no_copy_live = dead
