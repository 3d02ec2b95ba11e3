-- What the tables of edges say.
use Rattle.std.proofs.Common.{ℕ, zero, suc, ◌+◌, ◌≡◌, ◌<◌, ◌≤◌, ◌⊎◌, Bool, true, false, cond, List, [], ◌∷◌}
use Rattle.std.proofs.Common.{length, get_or, set, replicate, Some, refl, sym, ap, ◌∙◌, subst, arith, inl}
use Rattle.std.proofs.Common.{inr, eqb, length-set, get_or-set_same, get_or-set_other}
use Rattle.std.proofs.lemmas.List.{get_or-replicate, length-replicate}
use Rattle.std.proofs.lemmas.Bool.{cases_eq, cases_Bool, eq-eqb, ne_eqb, both_ways}
use Rattle.ws_isa.specs.Image.{Exit, Branch, Block, edges_of}
use Rattle.ws_words.specs.Items.{nth}
use Rattle.asm_link.specs.Ways.{any_steer, hit, hit_all, hit_blocks, hits_of, mark_arms, mark_block}
use Rattle.asm_link.specs.Ways.{mark_blocks, marks_of}

-- how often a number stands in a list
abbrev pub times : List ℕ → ℕ → ℕ
times [] c = 0
times (x ∷ xs) c = cond (eqb x c) (suc (times xs c)) (times xs c)

-- how many edges lead to a block
abbrev pub edges_to : List Block → ℕ → ℕ
edges_to [] c = 0
edges_to (b ∷ bs) c = times (edges_of b.exit) c + edges_to bs c

-- The table.

hit_length : (cs t : List ℕ) → length (hit_all cs t) ≡ length t
hit_length [] t = refl
hit_length (c ∷ cs) t = hit_length cs (hit c t) ∙ length-set t c (get_or t c 0 + 1)

times_step : (x c : ℕ) (cs t : List ℕ) → c < length t → get_or (hit x t) c 0 + times cs c
    ≡ get_or t c 0 + times (x ∷ cs) c
times_step x c cs t l = elim (cases_eq x c) [
  | inl e ↦
      let q : get_or (hit x t) c 0 ≡ get_or t c 0 + 1 = subst (λ (y : ℕ). get_or (hit y t) c 0
      ≡ get_or t c 0 + 1) (sym e) (get_or-set_same t c (get_or t c 0 + 1) 0 l) in
      grind (arith, eq-eqb)
  | inr n ↦
      let q : get_or (hit x t) c 0 ≡ get_or t c 0 = get_or-set_other t x c (get_or t x 0 + 1) 0
      (λ e. n (sym e)) in
      grind (arith, ne_eqb)
]

hit_counts : (cs t : List ℕ) (c : ℕ) → c < length t → get_or (hit_all cs t) c 0 ≡ get_or t c 0 + times cs c
hit_counts [] t c l = omega arith
hit_counts (x ∷ cs) t c l = hit_counts cs (hit x t) c (subst (λ (n : ℕ). c < n) (sym (length-set t x (get_or t
    x 0 + 1))) l) ∙ times_step x c cs t l

blocks_count : (bs : List Block) (t : List ℕ) (c : ℕ) → c < length t
    → get_or (hit_blocks bs t) c 0 ≡ get_or t c 0 + edges_to bs c
blocks_count [] t c l = omega arith
blocks_count (b ∷ bs) t c l =
    let p : get_or (hit_blocks bs (hit_all (edges_of b.exit) t)) c 0 ≡ get_or (hit_all (edges_of b.exit) t) c
    0 + edges_to bs c = blocks_count bs (hit_all (edges_of b.exit) t) c (grind (arith, hit_length)) in
    grind (arith, hit_counts)

pub hits_are : (bs : List Block) (c : ℕ) → c ≤ length bs → get_or (hits_of bs) c 0 ≡ edges_to bs c
hits_are bs c l = grind (arith, length-replicate, get_or-replicate, blocks_count)

-- One edge alone.

times_there : (xs : List ℕ) (p c : ℕ) → nth xs p ≡ Some c → 1 ≤ times xs c
times_there (x ∷ xs) (suc p) c e = go (eqb x c) (times_there xs p c e)
  where
    go : (v : Bool) → 1 ≤ times xs c → 1 ≤ cond v (suc (times xs c)) (times xs c)
    go true h = omega arith
    go false h = h
times_there xs p c e = grind (arith, eq-eqb)

times_one : (xs : List ℕ) (p q c : ℕ) → times xs c ≤ 1 → nth xs p ≡ Some c → nth xs q ≡ Some c → p ≡ q
times_one (x ∷ xs) (suc p) (suc q) c l e f = ap suc (times_one xs p q c (less (eqb x c) l) e f)
  where
    less : (v : Bool) → cond v (suc (times xs c)) (times xs c) ≤ 1 → times xs c ≤ 1
    less true h = omega arith
    less false h = h
times_one xs p q c l e f = grind (arith, eq-eqb, times_there)

edges_there : (bs : List Block) (n p c : ℕ) (b : Block) → nth bs n ≡ Some b → nth (edges_of b.exit) p ≡ Some c
    → 1 ≤ edges_to bs c
edges_there (x ∷ xs) (suc n) p c b e f = let h : 1 ≤ edges_to xs c = edges_there xs n p c b e f in omega arith
edges_there bs n p c b e f = grind (arith, times_there)

pub edges_one : (bs : List Block) (n m p q c : ℕ) (a b : Block) → edges_to bs c ≤ 1
    → nth bs n ≡ Some a → nth (edges_of a.exit) p ≡ Some c → nth bs m ≡ Some b
    → nth (edges_of b.exit) q ≡ Some c → (n ≡ m) × (p ≡ q)
edges_one (x ∷ xs) zero zero p q c a b l e f g h = (
  refl,
  times_one (edges_of x.exit) p q c (omega arith) (subst (λ (y : Block). nth (edges_of y.exit) p ≡ Some c)
      (sym (the x a e)) f) (subst (λ (y : Block). nth (edges_of y.exit) q ≡ Some c) (sym (the x b g)) h),
)
  where
    the : (x y : Block) → Some x ≡ Some y → x ≡ y
    the x y e = cc
edges_one (x ∷ xs) (suc n) (suc m) p q c a b l e f g h =
    let r : (n ≡ m) × (p ≡ q) = edges_one xs n m p q c a b (omega arith) e f g h in (ap suc r.0, r.1)
edges_one bs n m p q c a b l e f g h = grind (arith, times_there, edges_there)

-- Marks.

-- a branch of a block with a steer leads to block c
pub record Steered (bs : List Block) (c : ℕ) : Type 0 where
  pub place : ℕ
  pub block : Block
  pub source : ℕ
  pub yes : ℕ
  pub no : ℕ
  pub edge : ℕ
  pub there : nth bs place ≡ Some block
  pub exit : block.exit ≡ Branch source yes no
  pub leads : nth (edges_of block.exit) edge ≡ Some c
  pub steers : any_steer block.instrs ≡ true

later : (b : Block) (bs : List Block) (c : ℕ) → Steered bs c → Steered (b ∷ bs) c
later b bs c s = record {
  place = suc s.place;
  block = s.block;
  source = s.source;
  yes = s.yes;
  no = s.no;
  edge = s.edge;
  there = s.there;
  exit = s.exit;
  leads = s.leads;
  steers = s.steers;
}

put_case : (t : List Bool) (x c : ℕ) → get_or (set t x true) c false ≡ true
    → (x ≡ c) ⊎ (get_or t c false ≡ true)
put_case t x c e = elim (cases_eq x c) [
  | inl q ↦ inl q
  | inr n ↦ inr (sym (get_or-set_other t x c true false (λ q. n (sym q))) ∙ e)
]

arms_case : (b : Block) (bs : List Block) (exit : Exit) (t : List Bool) (c : ℕ) → b.exit ≡ exit
    → any_steer b.instrs ≡ true → get_or (mark_arms exit t) c false ≡ true
    → Steered (b ∷ bs) c ⊎ (get_or t c false ≡ true)
arms_case b bs (Branch i x y) t c q s e = elim (put_case (set t x true) y c e) [
  | inl f ↦ inl (record {
    place = 0;
    block = b;
    source = i;
    yes = x;
    no = y;
    edge = 1;
    there = refl;
    exit = q;
    leads = subst (λ (w : Exit). nth (edges_of w) 1 ≡ Some c) (sym q) (ap (λ (n : ℕ). Some n) f);
    steers = s;
  })
  | inr g ↦ elim (put_case t x c g) [
    | inl f ↦ inl (record {
      place = 0;
      block = b;
      source = i;
      yes = x;
      no = y;
      edge = 0;
      there = refl;
      exit = q;
      leads = subst (λ (w : Exit). nth (edges_of w) 0 ≡ Some c) (sym q) (ap (λ (n : ℕ). Some n) f);
      steers = s;
    })
    | inr h ↦ inr h
  ]
]
arms_case b bs exit t c q s e = inr e

block_case : (b : Block) (bs : List Block) (t : List Bool) (c : ℕ) → get_or (mark_block b t) c false ≡ true
    → Steered (b ∷ bs) c ⊎ (get_or t c false ≡ true)
block_case b bs t c e = grind (arith, cases_Bool, arms_case)

marks_case : (bs : List Block) (t : List Bool) (c : ℕ) → get_or (mark_blocks bs t) c false ≡ true
    → Steered bs c ⊎ (get_or t c false ≡ true)
marks_case [] t c e = inr e
marks_case (b ∷ bs) t c e = elim (marks_case bs (mark_block b t) c e) [
  | inl s ↦ inl (later b bs c s)
  | inr g ↦ block_case b bs t c g
]

blank : (n c : ℕ) → get_or (replicate n false) c false ≡ true → ⊥
blank (suc n) (suc c) e = blank n c e
blank n c e = both_ways false refl e

pub marks_are : (bs : List Block) (c : ℕ) → get_or (marks_of bs) c false ≡ true → Steered bs c
marks_are bs c e = grind (arith, marks_case, blank)
