-- The rank of a block: how many edges a path from it has at most before a turn. It falls along such a path.
use Rattle.std.proofs.Common.{ℕ, zero, suc, ◌+◌, ◌≡◌, ◌<◌, ◌≤◌, max, Bool, true, false, List, [], ◌∷◌, length}
use Rattle.std.proofs.Common.{if◌then◌else◌, refl, sym, ap, ◌∙◌, subst, inl, inr, arith}
use Rattle.cfg_core.specs.Graph.{Exit, Goto, Branch, Call, Return, Send, Stop, Graph, Spot, no_spot, spots}
use Rattle.cfg_core.specs.Graph.{spot_at, block_at}
use Rattle.cfg_core.specs.Rules.{Leads, has_turn, Quiet, one, more}
use Rattle.cfg_core.proofs.Pigeons.{pigeons}
use Rattle.ws_words.specs.Items.{nth, or_else, In, Distinct}
use Rattle.ws_words.proofs.Bools.{by_bool}

-- one more than the most of a number over blocks, or 0 of none
abbrev pub most_over : (ℕ → ℕ) → List ℕ → ℕ
most_over r [] = 0
most_over r (l ∷ ls) = max (suc (r l)) (most_over r ls)

-- the same over the blocks that an exit leads to
abbrev pub over_exit : (ℕ → ℕ) → Exit → ℕ
over_exit r (Goto b) = suc (r b)
over_exit r (Branch t a b) = max (suc (r a)) (suc (r b))
over_exit r (Call x f ts back) = suc (r back)
over_exit r (Return t) = 0
over_exit r (Send t ts ls) = most_over r ls
over_exit r Stop = 0

-- of paths of at most n edges
abbrev pub edges : Graph → ℕ → ℕ → ℕ
edges g zero b = 0
edges g (suc n) b = if has_turn (block_at g b).ops then 0 else over_exit (edges g n) (block_at g b).exit

-- how many edges a walk can pass from a block on without a turn
unfoldable pub rank : Graph → ℕ → ℕ
rank g b = edges g (length (spots g)) b

most_less : (r : ℕ → ℕ) (ls : List ℕ) (c : ℕ) → In c ls → r c < most_over r ls
most_less r [] c i = absurd i
most_less r (l ∷ ls) c (inl e) = let h : r c ≡ r l = ap r e in omega arith
most_less r (l ∷ ls) c (inr i) = let h = most_less r ls c i in omega arith

over_less : (r : ℕ → ℕ) (exit : Exit) (c : ℕ) → Leads exit c → r c < over_exit r exit
over_less r exit c e = grind (arith, most_less)

most_most : (r : ℕ → ℕ) (n : ℕ) (ls : List ℕ) → ((c : ℕ) → r c ≤ n) → most_over r ls ≤ suc n
most_most r n [] f = omega arith
most_most r n (l ∷ ls) f = let h = f l in let i = most_most r n ls f in omega arith

over_most : (r : ℕ → ℕ) (n : ℕ) (exit : Exit) → ((c : ℕ) → r c ≤ n) → over_exit r exit ≤ suc n
over_most r n (Goto b) f = let h = f b in omega arith
over_most r n (Branch t a b) f = let h = f a in let i = f b in omega arith
over_most r n (Call x f ts back) h = let i = h back in omega arith
over_most r n (Return t) f = omega arith
over_most r n (Send t ts ls) f = most_most r n ls f
over_most r n Stop f = omega arith

most_same : (r q : ℕ → ℕ) (ls : List ℕ) → ((c : ℕ) → In c ls → r c ≡ q c) → most_over r ls ≡ most_over q ls
most_same r q [] f = refl
most_same r q (l ∷ ls) f = ap (λ n. max (suc n) (most_over r ls)) (f l (inl refl))
    ∙ ap (λ n. max (suc (q l)) n) (most_same r q ls (λ c i. f c (inr i)))

over_same : (r q : ℕ → ℕ) (exit : Exit) → ((c : ℕ) → Leads exit c → r c ≡ q c)
    → over_exit r exit ≡ over_exit q exit
over_same r q exit f = grind (arith, most_same)

over_none : (r : ℕ → ℕ) (exit : Exit) → ((c : ℕ) → Leads exit c → ⊥) → over_exit r exit ≡ 0
over_none r (Goto b) f = absurd (f b refl)
over_none r (Branch t a b) f = absurd (f a (inl refl))
over_none r (Call x f ts back) h = absurd (h back refl)
over_none r (Return t) f = refl
over_none r (Send t ts []) f = refl
over_none r (Send t ts (l ∷ ls)) f = absurd (f l (inl refl))
over_none r Stop f = refl

-- only a block that is there leads on
nth_there : {A : Type 0} (xs : List A) (b : ℕ) (P : A → Type 0) (d : A) → (P d → ⊥) → P (or_else (nth xs b) d)
    → b < length xs
nth_there (x ∷ xs) (suc b) P d none h = let r = nth_there xs b P d none h in omega arith
nth_there xs b P d none h = grind arith

there : (g : Graph) (b c : ℕ) → Leads (block_at g b).exit c → b < length (spots g)
unfolding spot_at no_spot
there g b c h = nth_there (spots g) b (λ (x : Spot). Leads x.block.exit c) no_spot (λ z. z) h

module _ (g : Graph) where
  edges_turn : (n b : ℕ) → has_turn (block_at g b).ops ≡ true → edges g n b ≡ 0
  edges_turn n b e = grind arith

  edges_quiet : (n b : ℕ) → has_turn (block_at g b).ops ≡ false → edges g (suc n) b ≡ over_exit (edges g n)
      (block_at g b).exit
  edges_quiet n b e = ap (λ (v : Bool). if v then 0 else over_exit (edges g n) (block_at g b).exit) e

  edges_most : (n b : ℕ) → edges g n b ≤ n
  edges_most zero b = omega arith
  edges_most (suc n) b = by_bool (has_turn (block_at g b).ops) (edges g (suc n) b ≤ suc n)
      (λ e. let h = edges_turn (suc n) b e in omega (arith, h))
      (λ e. let h = edges_quiet n b e in let i = over_most (edges g n) n (block_at g b).exit (edges_most n) in
      omega (arith, h, i))

  -- it is at most the number of blocks
  pub rank_most : (b : ℕ) → rank g b ≤ length (spots g)
  unfolding rank
  rank_most b = edges_most (length (spots g)) b

  module _ (cycles : (b : ℕ) → Quiet g b b → ⊥) where
    -- `seen` are the blocks passed on the path
    module _ (seen : List ℕ) (b : ℕ) (apart : Distinct seen) (below : (y : ℕ) → In y seen
        → y < length (spots g)) (quiet : (y : ℕ) → In y seen → Quiet g y b) where
      longer_apart : Distinct (b ∷ seen)
      longer_apart = ((λ i. cycles b (quiet b i)), apart)

      longer_below : (c : ℕ) → Leads (block_at g b).exit c → (y : ℕ) → In y (b ∷ seen) → y < length (spots g)
      longer_below c edge y i = grind (arith, there)

      longer_quiet : has_turn (block_at g b).ops ≡ false → (c : ℕ) → Leads (block_at g b).exit c → (y : ℕ)
          → In y (b ∷ seen) → Quiet g y c
      longer_quiet e c edge y i =
          elim i [
            | inl h ↦ subst (λ (n : ℕ). Quiet g n c) (sym h) (one b c e edge)
            | inr h ↦
                more y b c (quiet y h) e edge
          ]

      no_room : length (spots g) ≤ length seen → has_turn (block_at g b).ops ≡ false → (c : ℕ)
          → Leads (block_at g b).exit c → ⊥
      no_room full e c edge = let p = pigeons (b ∷ seen) (length (spots g)) longer_apart
          (longer_below c edge) in omega arith

      none_left : length (spots g) ≤ length seen → (n : ℕ) → edges g n b ≡ 0
      none_left full n = grind (arith, edges_turn, edges_quiet, over_none, no_room)

    stable : (room : ℕ) (seen : List ℕ) (b : ℕ) → length (spots g) ≤ length seen + room → Distinct seen
        → ((y : ℕ) → In y seen → y < length (spots g)) → ((y : ℕ) → In y seen → Quiet g y b) → (n : ℕ)
        → room ≤ n → edges g (suc n) b ≡ edges g n b
    stable zero seen b much apart below quiet n le =
        let full : length (spots g) ≤ length seen = omega arith in
        none_left seen b apart below quiet full (suc n) ∙ sym (none_left seen b apart below quiet full n)
    stable (suc room) seen b much apart below quiet zero le = absurd (omega arith)
    stable (suc room) seen b much apart below quiet (suc n) le = by_bool (has_turn (block_at g b).ops)
        (edges g (suc (suc n)) b ≡ edges g (suc n) b)
        (λ e. edges_turn (suc (suc n)) b e ∙ sym (edges_turn (suc n) b e))
        (λ e. edges_quiet (suc n) b e
        ∙ over_same (edges g (suc n)) (edges g n) (block_at g b).exit
        (λ c edge. stable room (b ∷ seen) c (omega arith)
        (longer_apart seen b apart below quiet) (longer_below seen b apart below quiet c edge)
        (longer_quiet seen b apart below quiet e c edge) n (omega arith))
        ∙ sym (edges_quiet n b e))

    -- it falls along an edge from a block without a turn
    pub rank_falls : (b c : ℕ) → has_turn (block_at g b).ops ≡ false → Leads (block_at g b).exit c
        → rank g c < rank g b
    unfolding rank
    rank_falls b c e edge =
        let n = length (spots g) in
        let same : edges g (suc n) b ≡ edges g n b = stable n [] b (omega arith) tt (λ y i. absurd i)
        (λ y i. absurd i) n (omega arith) in
        let open_ : edges g (suc n) b ≡ over_exit (edges g n) (block_at g b).exit = edges_quiet n b e in
        let less : edges g n c < over_exit (edges g n) (block_at g b).exit =
        over_less (edges g n) (block_at g b).exit c edge in
        omega (arith, same, open_, less)
