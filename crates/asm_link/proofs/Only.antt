-- Blocks whose branches fork or end their wave, with a trigger for what is added, lack nothing.
use Rattle.std.proofs.Common.{ℕ, zero, suc, ◌+◌, ◌-◌, ◌≡◌, ◌<◌, ◌≤◌, ◌⊎◌, Bool, true, false, cond, not, ◌&&◌}
use Rattle.std.proofs.Common.{◌||◌, List, [], ◌∷◌, length, get_or, set, replicate, Some, None, refl, sym, ap}
use Rattle.std.proofs.Common.{◌∙◌, subst, arith, inl, inr, eqb, length-set, get_or-set_same}
use Rattle.std.proofs.lemmas.List.{length-replicate}
use Rattle.std.proofs.lemmas.Bool.{cases_Bool, eq-eqb, ne_eqb, both_ways, and_from, or_left, or_right}
use Rattle.std.proofs.lemmas.Bool.{not_from_false}
use Rattle.ws_isa.specs.declared.instr.Op.TheVariants.{Steer}
use Rattle.ws_isa.specs.Image.{Instr, Exit, Branch, Block, Image, no_instr, no_block, edges_of, instr_at}
use Rattle.ws_isa.specs.Image.{block_at, first_number, is_first, is_giving, is_giving_op, is_steer_op, IsIn}
use Rattle.ws_isa.specs.Image.{IsBlock}
use Rattle.ws_isa.specs.Sound.{ShapeRules}
use Rattle.ws_isa.specs.Open.{OnlyEdge, IsArm, EnteredBySteer}
use Rattle.ws_isa.specs.Formed.{ExitIn}
use Rattle.wave_link.specs.Adds.{adds}
use Rattle.wave_link.specs.Fit.{ForksOrEnds, CanTrigger}
use Rattle.wave_link.specs.Grown.{added_in}
use Rattle.ws_isa.proofs.Blocks.{instr_is, number_next}
use Rattle.ws_words.specs.Items.{nth, or_else}
use Rattle.ws_words.proofs.Places.{nth_or, nth_short}
use Rattle.asm_link.specs.Ways.{any_steer, any_giving, mark_arms, mark_block, mark_blocks, hits_of, marks_of}
use Rattle.asm_link.specs.Unfit.{starts_in, is_arm, forks_or_ends, is_triggered, of_block, of_blocks, lack_in}
use Rattle.asm_link.proofs.Counts.{times, edges_to, hits_are}
use Rattle.asm_link.proofs.Arms.{block_there, first_is}

-- One edge is counted once.

times_none : (xs : List ℕ) (c : ℕ) → ((q : ℕ) → nth xs q ≡ Some c → ⊥) → times xs c ≡ 0
times_none [] c h = refl
times_none (x ∷ xs) c h =
    let n : eqb x c ≡ false = ne_eqb x c (λ e. h 0 (ap (λ (y : ℕ). Some y) e)) in
    ap (λ (v : Bool). cond v (suc (times xs c)) (times xs c)) n ∙ times_none xs c (λ q e. h (suc q) e)

times_unique : (xs : List ℕ) (p c : ℕ) → nth xs p ≡ Some c → ((q : ℕ) → nth xs q ≡ Some c → q ≡ p)
    → times xs c ≡ 1
times_unique [] p c e h = absurd (let q : None ≡ Some c = e in cc)
times_unique (x ∷ xs) zero c e h =
    let s : x ≡ c = (let r : Some x ≡ Some c = e in cc) in
    let z : times xs c ≡ 0 = times_none xs c (λ q f. (let w : suc q ≡ 0 = h (suc q) f in omega (arith, w))) in
    grind (arith, times, eq-eqb)
times_unique (x ∷ xs) (suc p) c e h =
    let n : eqb x c ≡ false = ne_eqb x c
    (λ s. (let w : 0 ≡ suc p = h 0 (ap (λ (y : ℕ). Some y) s) in omega (arith, w))) in
    ap (λ (v : Bool). cond v (suc (times xs c)) (times xs c)) n
    ∙ times_unique xs p c e (λ q f. (let w : suc q ≡ suc p = h (suc q) f in omega (arith, w)))

edges_none : (bs : List Block) (c : ℕ)
    → ((m q : ℕ) (b : Block) → nth bs m ≡ Some b → nth (edges_of b.exit) q ≡ Some c → ⊥) → edges_to bs c ≡ 0
edges_none [] c h = refl
edges_none (b ∷ bs) c h =
    let p : times (edges_of b.exit) c ≡ 0 = times_none (edges_of b.exit) c (λ q f. h 0 q b refl f) in
    let r : edges_to bs c ≡ 0 = edges_none bs c (λ m q x e f. h (suc m) q x e f) in
    omega arith

edges_unique : (bs : List Block) (n p c : ℕ) (a : Block) → nth bs n ≡ Some a
    → nth (edges_of a.exit) p ≡ Some c
    → ((m q : ℕ) (b : Block) → nth bs m ≡ Some b → nth (edges_of b.exit) q ≡ Some c → (m ≡ n) × (q ≡ p))
    → edges_to bs c ≡ 1
edges_unique [] n p c a e f h = absurd (let q : None ≡ Some a = e in cc)
edges_unique (x ∷ xs) zero p c a e f h =
    let s : x ≡ a = (let r : Some x ≡ Some a = e in cc) in
    let t : times (edges_of x.exit) c ≡ 1 = times_unique (edges_of x.exit) p c
    (subst (λ (y : Block). nth (edges_of y.exit) p ≡ Some c) (sym s) f) (λ q g. (h 0 q x refl g).1) in
    let z : edges_to xs c ≡ 0 = edges_none xs c
    (λ m q b g k. (let w : suc m ≡ 0 = (h (suc m) q b g k).0 in omega (arith, w))) in
    omega arith
edges_unique (x ∷ xs) (suc n) p c a e f h =
    let z : times (edges_of x.exit) c ≡ 0 = times_none (edges_of x.exit) c
    (λ q g. (let w : 0 ≡ suc n = (h 0 q x refl g).0 in omega (arith, w))) in
    let r : edges_to xs c ≡ 1 = edges_unique xs n p c a e f
    (less n p c xs (λ m q b g k. h (suc m) q b g k)) in
    omega arith
  where
    less : (n p c : ℕ) (ys : List Block)
        → ((m q : ℕ) (b : Block) → nth ys m ≡ Some b → nth (edges_of b.exit) q ≡ Some c
        → (suc m ≡ suc n) × (q ≡ p))
        → (m q : ℕ) (b : Block) → nth ys m ≡ Some b → nth (edges_of b.exit) q ≡ Some c → (m ≡ n) × (q ≡ p)
    less n p c ys h m q b g k = (let w : suc m ≡ suc n = (h m q b g k).0 in omega (arith, w), (h m q b g k).1)

-- Marks stay.

keep : (t : List Bool) (x c : ℕ) → get_or t c false ≡ true → get_or (set t x true) c false ≡ true
keep (v ∷ t) (suc x) (suc c) e = keep t x c e
keep t x c e = grind (arith, both_ways)

arms_keep : (e : Exit) (t : List Bool) (c : ℕ) → get_or t c false ≡ true → get_or (mark_arms e t) c false
    ≡ true
arms_keep e t c h = grind (arith, keep)

block_keep : (b : Block) (t : List Bool) (c : ℕ) → get_or t c false ≡ true
    → get_or (mark_block b t) c false ≡ true
block_keep b t c h = grind (arith, arms_keep)

blocks_keep : (bs : List Block) (t : List Bool) (c : ℕ) → get_or t c false ≡ true
    → get_or (mark_blocks bs t) c false ≡ true
blocks_keep [] t c h = h
blocks_keep (b ∷ bs) t c h = blocks_keep bs (mark_block b t) c (block_keep b t c h)

arms_length : (e : Exit) (t : List Bool) → length (mark_arms e t) ≡ length t
arms_length (Branch s x y) t = length-set (set t x true) y true ∙ length-set t x true
arms_length e t = refl

block_length : (b : Block) (t : List Bool) → length (mark_block b t) ≡ length t
block_length b t = grind (arith, arms_length)

two : (t : List Bool) (p q c place : ℕ) → nth (p ∷ q ∷ []) place ≡ Some c → c < length t
    → get_or (set (set t p true) q true) c false ≡ true
two t p q c zero e l = let s : p ≡ c = grind arith in
    keep (set t p true) q c (subst (λ (y : ℕ). get_or (set t y true) c false ≡ true) (sym s) (get_or-set_same
    t c true false l))
two t p q c (suc zero) e l =
    let s : q ≡ c = (let r : Some q ≡ Some c = e in cc) in
    let k : length (set t p true) ≡ length t = length-set t p true in
    let w : c < length (set t p true) = omega (arith, k, l) in
    subst (λ (y : ℕ). get_or (set (set t p true) y true) c false ≡ true) (sym s)
    (get_or-set_same (set t p true) c true false w)
two t p q c (suc (suc place)) e l = absurd (let r : None ≡ Some c = e in cc)

marked : (bs : List Block) (t : List Bool) (n c s p q place : ℕ) (x : Block) → nth bs n ≡ Some x
    → any_steer x.instrs ≡ true → x.exit ≡ Branch s p q → nth (p ∷ q ∷ []) place ≡ Some c → c < length t
    → get_or (mark_blocks bs t) c false ≡ true
marked (b ∷ bs) t (suc n) c s p q place x e f g h l = marked bs (mark_block b t) n c s p q place x e f g h
    (subst (λ (k : ℕ). c < k) (sym (block_length b t)) l)
marked bs t n c s p q place x e f g h l = grind (arith, blocks_keep, two)

-- Instructions.

any_there : (is : List Instr) (m : ℕ) (i : Instr) → nth is m ≡ Some i → is_giving_op i.op ≡ true
    → any_giving is ≡ true
any_there (x ∷ xs) (suc m) i e g = or_right (is_giving_op x.op) (any_giving xs) (any_there xs m i e g)
any_there is m i e g = grind (arith, or_left)

steer_found : (is : List Instr) (m : ℕ) (i : Instr) → nth is m ≡ Some i → i.op ≡ Steer → any_steer is ≡ true
steer_found (x ∷ xs) (suc m) i e g = or_right (is_steer_op x.op) (any_steer xs) (steer_found xs m i e g)
steer_found is m i e g = grind (arith, or_left)

-- an instruction by its block and its place there
at_place : (image : Image) (n k : ℕ) → suc n ≤ length image.blocks → IsIn image (suc n) k
    → nth (block_at image (suc n)).instrs (k - first_number image (suc n)) ≡ Some (instr_at image k)
unfolding block_at
at_place image n k l h =
    let t : first_number image (suc (suc n)) ≡ first_number image (suc n)
    + length (or_else (nth image.blocks n) no_block).instrs = number_next image n (omega arith) in
    let i : ℕ = k - first_number image (suc n) in
    let s : i < length (or_else (nth image.blocks n) no_block).instrs = omega (arith, t, h.0, h.1) in
    let e : k ≡ first_number image (suc n) + i = omega (arith, h.0) in
    nth_or (or_else (nth image.blocks n) no_block).instrs i no_instr s
    ∙ ap (λ (x : Instr). Some x) (sym (instr_is image n i k (omega arith) s e))

none_fits : (bs : List Block) (hits : List ℕ) (marks added : List Bool) (b : ℕ) (xs : List Block)
    → ((n : ℕ) (x : Block) → nth xs n ≡ Some x → of_block bs hits marks added (b + n) x ≡ None)
    → of_blocks bs hits marks added b xs ≡ None
none_fits bs hits marks added b [] h = refl
none_fits bs hits marks added b (x ∷ xs) h =
    let p : of_block bs hits marks added b x ≡ None = subst (λ (k : ℕ). of_block bs hits marks added k x ≡
    None) (grind arith) (h 0 x refl) in
    let q : of_blocks bs hits marks added (suc b) xs ≡ None = none_fits bs hits marks added (suc b) xs (λ n y
    e. subst (λ (k : ℕ). of_block bs hits marks added k y ≡ None) (grind arith) (h (suc n) y e)) in
    grind arith

module _ (image : Image) (shape : ShapeRules image)
    (exits : (b : ℕ) → IsBlock image b → ExitIn image (block_at image b).exit)
    (branches : (b s x y : ℕ) → IsBlock image b → (block_at image b).exit ≡ Branch s x y
    → ForksOrEnds image b x y)
    (triggers : (b : ℕ) → IsBlock image b → adds image b ≡ true → CanTrigger image b) where
  one_hit : (n place c : ℕ) → suc n ≤ length image.blocks → c ≤ length image.blocks
      → OnlyEdge image (suc n) place c → eqb (get_or (hits_of image.blocks) c 0) 1 ≡ true
  one_hit n place c l h o =
      let e : edges_to image.blocks c ≡ 1 = edges_unique image.blocks n place c (block_at image (suc n))
      (block_there image n l) o.is others in
      eq-eqb (get_or (hits_of image.blocks) c 0) 1 (hits_are image.blocks c h ∙ e)
    where
      others : (m q : ℕ) (b : Block) → nth image.blocks m ≡ Some b → nth (edges_of b.exit) q ≡ Some c
          → (m ≡ n) × (q ≡ place)
      others m q b e f = let k : m < length image.blocks = nth_short image.blocks m b e in
          grind (arith, block_there)

  arm_is : (n place c : ℕ) → suc n ≤ length image.blocks → IsBlock image c → IsArm image (suc n) place c
      → is_arm image.blocks (hits_of image.blocks) c ≡ true
  arm_is n place c l h a = grind (arith, and_from, not_from_false, first_is, one_hit)

  starts : (c : ℕ) → is_first image c ≡ true → starts_in image.blocks c ≡ true
  starts c e = first_is image c ∙ e

  forks : (n : ℕ) → suc n ≤ length image.blocks
      → forks_or_ends image.blocks (hits_of image.blocks) (block_at image (suc n)).exit ≡ true
  forks n l = go (block_at image (suc n)).exit refl (exits (suc n) (omega arith, l))
    where
      branch : (x y : ℕ) → IsBlock image x → IsBlock image y → ForksOrEnds image (suc n) x y
          → ((is_arm image.blocks (hits_of image.blocks) x && is_arm image.blocks (hits_of image.blocks) y)
          || (starts_in image.blocks x && starts_in image.blocks y)) ≡ true
      branch x y h g z = grind (arith, or_left, and_from, arm_is, or_right, starts)

      go : (e : Exit) → (block_at image (suc n)).exit ≡ e → ExitIn image e
          → forks_or_ends image.blocks (hits_of image.blocks) e ≡ true
      go (Branch s x y) q h = branch x y h.1 h.2 (branches (suc n) s x y (omega arith, l) q)
      go e q h = refl

  steered : (n : ℕ) → suc n ≤ length image.blocks → EnteredBySteer image (suc n)
      → is_first image (suc n) ≡ false
      → (is_arm image.blocks (hits_of image.blocks) (suc n) && get_or (marks_of image.blocks) (suc n) false)
      ≡ true
  steered n l e f = from e.before e.edge e.block e.inside
    where
      from : (d : ℕ) → OnlyEdge image d e.place (suc n) → IsBlock image d → IsIn image d e.instr
          → (is_arm image.blocks (hits_of image.blocks) (suc n)
          && get_or (marks_of image.blocks) (suc n) false) ≡ true
      from zero o h i = absurd (omega (arith, h.0))
      from (suc d) o h i =
          let x = (shape.blocks (suc d) h).hang.steers e.instr i e.steers in
          let g : nth (x.1 ∷ x.2 ∷ []) e.place ≡ Some (suc n) = grind arith in
          let s : any_steer (block_at image (suc d)).instrs ≡ true = steer_found (block_at image (suc
          d)).instrs (e.instr - first_number image (suc d)) (instr_at image e.instr) (at_place image d e.instr
          h.1 i) e.steers in
          let k : length (replicate (length image.blocks + 1) false) ≡ length image.blocks + 1 =
          grind (arith, length-replicate) in
          let w : suc n < length (replicate (length image.blocks + 1) false) = omega (arith, k, l) in
          and_from (is_arm image.blocks (hits_of image.blocks) (suc n)) (get_or (marks_of image.blocks) (suc
          n) false) (grind (arith, and_from, not_from_false, first_is, one_hit)) (marked image.blocks
          (replicate (length image.blocks + 1) false) d (suc n) x.0 x.1 x.2 e.place (block_at image (suc d))
          (block_there image d h.1) s x.3 g w)

  triggered : (n : ℕ) → suc n ≤ length image.blocks → CanTrigger image (suc n)
      → is_triggered image.blocks (hits_of image.blocks) (marks_of image.blocks) (suc n)
      (block_at image (suc n)).instrs ≡ true
  unfolding is_giving
  triggered n l (inl g) = grind (arith, or_left, any_there, at_place image n g.instr l g.inside)
  triggered n l (inr e) = grind (arith, or_right, steered)

  -- block n, where it gets a no-op
  served : (n : ℕ) → suc n ≤ length image.blocks
      → (not (get_or (added_in image.blocks) n false) || is_triggered image.blocks (hits_of image.blocks)
      (marks_of image.blocks) (suc n) (block_at image (suc n)).instrs) ≡ true
  unfolding adds
  served n l = go (cases_Bool (get_or (added_in image.blocks) n false))
    where
      w : Bool
      w = is_triggered image.blocks (hits_of image.blocks) (marks_of image.blocks) (suc n)
          (block_at image (suc n)).instrs

      go : (get_or (added_in image.blocks) n false ≡ true) ⊎ (get_or (added_in image.blocks) n false ≡ false)
          → (not (get_or (added_in image.blocks) n false) || w) ≡ true
      go (inl a) = grind (arith, or_right, triggered)
      go (inr f) = grind (arith, or_left, not_from_false)

  pub lacks_none : lack_in image.blocks ≡ None
  lacks_none = none_fits image.blocks (hits_of image.blocks) (marks_of image.blocks) (added_in image.blocks) 0
      image.blocks each
    where
      none : (n : ℕ) → suc n ≤ length image.blocks → of_block image.blocks (hits_of image.blocks)
          (marks_of image.blocks) (added_in image.blocks) n (block_at image (suc n)) ≡ None
      none n l = grind (arith, forks, served)

      each : (n : ℕ) (x : Block) → nth image.blocks n ≡ Some x
          → of_block image.blocks (hits_of image.blocks) (marks_of image.blocks) (added_in image.blocks)
          (0 + n) x ≡ None
      each n x e =
          let k : n < length image.blocks = nth_short image.blocks n x e in
          let l : suc n ≤ length image.blocks = omega arith in
          let s : block_at image (suc n) ≡ x = grind (arith, block_there) in
          subst (λ (m : ℕ). of_block image.blocks (hits_of image.blocks) (marks_of image.blocks) (added_in
          image.blocks) m x ≡ None) (grind arith) (subst (λ (y : Block). of_block image.blocks (hits_of
          image.blocks) (marks_of image.blocks) (added_in image.blocks) n y ≡ None) s (none n l))
