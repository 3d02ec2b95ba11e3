-- Where the second walk comes to an answer that goes with each answer of the first, the walks end and go
-- alike.
use Rattle.std.proofs.Common.{ℕ, zero, suc, ◌+◌, ◌≡◌, refl, sym, ap, ◌∙◌, subst, arith}
use Rattle.ws_words.specs.Outside.{World, Outside}
use Rattle.cfg_core.specs.Graph.{Graph}
use Rattle.cfg_core.specs.Rules.{IsGraph}
use Rattle.cfg_core.specs.Walk.{Config, At, Over, Going, step, walk, opening, IsOver, Ends, Goes}
use Rattle.cfg_core.proofs.Total.{comes}
use Rattle.cfg_core.proofs.Cost.{one_answer}

-- a walk of blocks, and then of others
pub walk_add : (g : Graph) (n m : ℕ) (c : Config) → walk g (n + m) c ≡ walk g m (walk g n c)
walk_add g zero m c = grind arith
walk_add g (suc n) m c = ap (λ k. walk g k c) (let z : suc n + m ≡ suc (n + m) = omega arith in z)
    ∙ walk_add g n m (step g c)

-- two answers of walks, with as many turns left
abbrev pub Match : (Outside → Outside → Type 0) → Config → Config → Type 0
Match R (Over o k) (Over p j) = (k ≡ j) × R o p
Match R (Going o) (Going p) = R o p
Match R _ _ = ⊥

module _ (g h : Graph) (rules : IsGraph g) (R : Outside → Outside → Type 0)
    (forth : (world : World) (turns m : ℕ) → IsOver (walk g m (opening g world turns))
    → (n : ℕ) × Match R (walk g m (opening g world turns)) (walk h n (opening h world turns))) where
  ended : (o : Outside) (k n : ℕ) (c d : Config) → c ≡ d → Match R (Over o k) c
      → (p : Outside) × (d ≡ Over p k) × R o p
  ended o k n c d e m = grind arith

  going : (o : Outside) (c d : Config) → c ≡ d → Match R (Going o) c → (p : Outside) × (d ≡ Going p) × R o p
  going o c d e m = grind arith

  over_is : (c : Config) (o : Outside) (k : ℕ) → c ≡ Over o k → IsOver c
  over_is c o k e = subst IsOver (sym e) tt

  going_is : (c : Config) (o : Outside) → c ≡ Going o → IsOver c
  going_is c o e = subst IsOver (sym e) tt

  -- where the first walk ends, the second does
  pub ends : (world : World) (turns : ℕ) (o : Outside) → Ends g world turns o
      → (p : Outside) × Ends h world turns p × R o p
  ends world turns o e = grind (arith, over_is, ended)

  -- where the first walk is going, the second is
  pub goes : (world : World) (turns : ℕ) (o : Outside) → Goes g world turns o
      → (p : Outside) × Goes h world turns p × R o p
  goes world turns o e = grind (arith, going_is, going)

  -- the first walk's answer, and the second one's that goes with it
  pub record Answered (world : World) (turns : ℕ) : Type 0 where
    pub blocks : ℕ
    pub over : IsOver (walk g blocks (opening g world turns))
    pub further : ℕ
    pub match : Match R (walk g blocks (opening g world turns)) (walk h further (opening h world turns))

  answered : (world : World) (turns : ℕ) → Answered world turns
  answered world turns =
      let c = comes g rules _ _ _ turns in
      let f = forth world turns c.0 c.1 in
      record { blocks = c.0; over = c.1; further = f.0; match = f.1 }

  -- where the second walk ends, the first does
  pub ends_only : (world : World) (turns : ℕ) (p : Outside) → Ends h world turns p
      → (o : Outside) × Ends g world turns o × R o p
  ends_only world turns p e = from (answered world turns).blocks _ _ refl refl (answered world turns).match
    where
      from : (m : ℕ) (c d : Config) → walk g m (opening g world turns) ≡ c
          → walk h (answered world turns).further (opening h world turns) ≡ d → Match R c d
          → (o : Outside) × Ends g world turns o × R o p
      from m (Over o k) (Over q j) ec ed h' =
          let same : Over q j ≡ Over p 0 = one_answer h (answered world turns).further e.0
          (opening h world turns) (Over q j) (Over p 0) tt tt ed e.1 in
          let zero_left : j ≡ 0 = cc in
          let same_out : q ≡ p = cc in
          (o, (m, ec ∙ ap (λ i. Over o i) (h'.0 ∙ zero_left)), subst (λ (x : Outside). R o x) same_out h'.1)
      from m (Going o) (Going q) ec ed h' =
          let same : Going q ≡ Over p 0 = one_answer h (answered world turns).further e.0
          (opening h world turns) (Going q) (Over p 0) tt tt ed e.1 in
          absurd (cc)
      from m (At b s frames k) d ec ed h' = absurd h'
      from m (Over o k) (At b s frames j) ec ed h' = absurd h'
      from m (Over o k) (Going q) ec ed h' = absurd h'
      from m (Going o) (At b s frames j) ec ed h' = absurd h'
      from m (Going o) (Over q j) ec ed h' = absurd h'

  -- where the second walk is going, the first is
  pub goes_only : (world : World) (turns : ℕ) (p : Outside) → Goes h world turns p
      → (o : Outside) × Goes g world turns o × R o p
  goes_only world turns p e = from (answered world turns).blocks _ _ refl refl (answered world turns).match
    where
      from : (m : ℕ) (c d : Config) → walk g m (opening g world turns) ≡ c
          → walk h (answered world turns).further (opening h world turns) ≡ d → Match R c d
          → (o : Outside) × Goes g world turns o × R o p
      from m (Going o) (Going q) ec ed h' =
          let same : Going q ≡ Going p = one_answer h (answered world turns).further e.0
          (opening h world turns) (Going q) (Going p) tt tt ed e.1 in
          let same_out : q ≡ p = cc in
          (o, (m, ec), subst (λ (x : Outside). R o x) same_out h')
      from m (Over o k) (Over q j) ec ed h' =
          let same : Over q j ≡ Going p = one_answer h (answered world turns).further e.0
          (opening h world turns) (Over q j) (Going p) tt tt ed e.1 in
          absurd (cc)
      from m (At b s frames k) d ec ed h' = absurd h'
      from m (Over o k) (At b s frames j) ec ed h' = absurd h'
      from m (Over o k) (Going q) ec ed h' = absurd h'
      from m (Going o) (At b s frames j) ec ed h' = absurd h'
      from m (Going o) (Over q j) ec ed h' = absurd h'
