-- The calls of each procedure among the first blocks, one block more.
use Rattle.std.proofs.Common.{ℕ, zero, suc, ◌+◌, ◌==◌, ◌≡◌, ◌<◌, ◌≤◌, ◌^◌, Bool, true, false, if◌then◌else◌}
use Rattle.std.proofs.Common.{List, [], ◌∷◌, length, take, get_or, set, replicate, Some, None, refl, ap, ◌∙◌}
use Rattle.std.proofs.Common.{inl, inr, arith, length-set, get_or-set_same, get_or-set_other}
use Rattle.std.proofs.lemmas.List.{length-replicate}
use Rattle.std.proofs.lemmas.Bool.{cases_eq, cases_lt}
use Rattle.std.proofs.lemmas.Bool.Decides.{nat_tests}
use Rattle.cfg_core.specs.Graph.{Exit, Graph, Spot, spots, block_at}
use Rattle.call_gen.specs.Spelled.{callee_is, callee, count_of, address}
use Rattle.call_gen.specs.Plans.{Few, Tallied, CallPlaced}
use Rattle.call_gen.proofs.Spelled.Counting.{count_next, one_at_most}

-- an exit calls its callee alone
some_callee : (x : Exit) (f e : ℕ) → callee x ≡ Some f → callee_is x e ≡ (f == e)
some_callee x f e h = grind arith

no_callee : (x : Exit) (e : ℕ) → callee x ≡ None → callee_is x e ≡ false
no_callee x e h = grind arith

count_few : (p : Spot → Bool) (b : ℕ) (xs : List Spot) → count_of p (take b xs) ≤ b
count_few p b [] = by_count b
  where
    by_count : (n : ℕ) → count_of p (take n []) ≤ n
    by_count n = grind arith
count_few p zero (x ∷ xs) = omega arith
count_few p (suc b) (x ∷ xs) = omega (arith, count_few p b xs, one_at_most (p x))

abbrev none : ℕ → List ℕ
none n = replicate n 0

zeros : (n f : ℕ) → get_or (none n) f 0 ≡ 0
zeros (suc n) (suc f) = zeros n f
zeros n f = refl

module _ (g : Graph) where
  -- no more blocks call than there are
  pub address_few : (f b : ℕ) → address g f b ≤ b
  unfolding address
  address_few f b = count_few (λ s. callee_is s.block.exit f) b (spots g)

  address_next : (f b : ℕ) → b < length (spots g) → address g f (b + 1) ≡ address g f b
      + (if callee_is (block_at g b).exit f then 1 else 0)
  unfolding address
  address_next f b lt = count_next g (λ s. callee_is s.block.exit f) b (b + 1) (omega arith) lt

  pub tallied_none : (n : ℕ) → n ≡ length g.procs → (counts : List ℕ) → counts ≡ replicate n 0
      → Tallied g counts 0
  unfolding address
  tallied_none n en counts e = grind (arith, length-replicate, zeros)

  -- a block that calls
  module _ (counts : List ℕ) (b f : ℕ) (lt : b < length (spots g)) (t : Tallied g counts b)
      (is : callee (block_at g b).exit ≡ Some f) where
    pub place_some : CallPlaced g b (get_or counts f 0)
    place_some e le h = grind (arith, some_callee)

    pub tallied_some : Tallied g (set counts f (get_or counts f 0 + 1)) (b + 1)
    tallied_some = record { count = length-set counts f (get_or counts f 0 + 1) ∙ t.count; each = each }
      where
        each : (e : ℕ) → e < length g.procs → get_or (set counts f (get_or counts f 0 + 1)) e 0 ≡ address g e
            (b + 1)
        each e le = elim (cases_eq e f) [
          | inl same ↦
              let hit : (f == e) ≡ true = grind (arith, nat_tests) in
              let one : 0 + (if callee_is (block_at g b).exit e then 1 else 0) ≡ 0 + 1 =
              grind (arith, some_callee) in
              let new : get_or (set counts f (get_or counts f 0 + 1)) e 0 ≡ get_or counts f 0 + 1 =
              ap (λ n. get_or (set counts f (get_or counts f 0 + 1)) n 0) same
              ∙ get_or-set_same counts f (get_or counts f 0 + 1) 0 (omega arith) in
              grind (arith, address_next)
          | inr other ↦
              let miss : (f == e) ≡ false = grind (arith, nat_tests) in
              let none : 0 + (if callee_is (block_at g b).exit e then 1 else 0) ≡ 0 + 0 =
              grind (arith, some_callee) in
              let new : get_or (set counts f (get_or counts f 0 + 1)) e 0 ≡ get_or counts e 0 =
              get_or-set_other counts f e (get_or counts f 0 + 1) 0 other in
              omega (arith, none, new, t.each e le, address_next e b lt)
        ]

    pub room_for_one : Few g → get_or counts f 0 + 1 < 2 ^ 32
    room_for_one few = elim (cases_lt f (length counts)) [
      | inl below ↦ omega (arith, t.each f (omega arith), address_few f b, few.blocks, lt)
      | inr past ↦ let none : get_or counts f 0 ≡ 0 = past_end counts f past in omega arith
    ]
      where
        past_end : (xs : List ℕ) (i : ℕ) → length xs ≤ i → get_or xs i 0 ≡ 0
        past_end (x ∷ xs) (suc i) h = past_end xs i (omega arith)
        past_end xs i h = grind arith

  -- one that doesn't
  module _ (counts : List ℕ) (b : ℕ) (lt : b < length (spots g)) (t : Tallied g counts b)
      (is : callee (block_at g b).exit ≡ None) where
    pub place_none : (n : ℕ) → CallPlaced g b n
    place_none n e le h = grind (arith, no_callee)

    pub tallied_same : Tallied g counts (b + 1)
    tallied_same = grind (arith, no_callee, address_next)
