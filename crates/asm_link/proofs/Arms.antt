-- In blocks that lack nothing branches fork or end their wave, and what is added has a trigger.
use Rattle.std.proofs.Common.{ℕ, zero, suc, ◌+◌, ◌≡◌, ◌<◌, ◌≤◌, Bool, true, false, not, ◌&&◌, List, [], ◌∷◌}
use Rattle.std.proofs.Common.{length, get_or, Option, Some, None, refl, sym, ap, ◌∙◌, subst, arith, inl, inr}
use Rattle.std.proofs.Common.{eqb}
use Rattle.std.proofs.lemmas.Bool.{ne_eqb, eqb-true, both_ways, and_parts, or_cases, not-true}
use Rattle.ws_isa.specs.declared.instr.Op.TheVariants.{Steer}
use Rattle.ws_isa.specs.Image.{Instr, Exit, Branch, Block, Image, no_instr, no_block, edges_of, instr_at}
use Rattle.ws_isa.specs.Image.{block_at, first_number, is_first, is_giving, is_giving_op, is_steer_op}
use Rattle.ws_isa.specs.Image.{leave_to, is_stop, stops, target, IsIn, IsBlock}
use Rattle.ws_isa.specs.Sound.{ShapeRules, IsLater}
use Rattle.ws_isa.specs.Open.{OnlyEdge, IsArm, HasGiver, EnteredBySteer}
use Rattle.wave_link.specs.Adds.{adds}
use Rattle.wave_link.specs.Fit.{ForksOrEnds, CanTrigger}
use Rattle.wave_link.specs.Grown.{added_in}
use Rattle.ws_isa.specs.Formed.{ExitIn}
use Rattle.ws_isa.proofs.Blocks.{instr_is, number_next}
use Rattle.ws_words.specs.Items.{nth, or_else}
use Rattle.ws_words.proofs.Places.{nth_or, nth_short}
use Rattle.asm_link.specs.declared.fault.Unfit.{Unfit}
use Rattle.wave_link.proofs.Grown.GrownOf.{steer_is}
use Rattle.asm_link.specs.Ways.{any_steer, any_giving, hits_of, marks_of}
use Rattle.asm_link.specs.Unfit.{wave_in, starts_in, is_arm, forks_or_ends, is_triggered, of_block, or_next}
use Rattle.asm_link.specs.Unfit.{of_blocks, lack_in}
use Rattle.asm_link.proofs.Counts.{edges_to, hits_are, edges_one, Steered, marks_are}

-- Blocks by their numbers.

pub block_there : (image : Image) (n : ℕ) → suc n ≤ length image.blocks
    → nth image.blocks n ≡ Some (block_at image (suc n))
unfolding block_at
block_there image n l = nth_or image.blocks n no_block (omega arith)

wave_is : (image : Image) (n : ℕ) → wave_in image.blocks (suc n) ≡ (block_at image (suc n)).wave
unfolding block_at no_block
wave_is image n = grind (arith, ne_eqb)

pub first_is : (image : Image) (c : ℕ) → starts_in image.blocks c ≡ is_first image c
unfolding is_first
first_is image zero = refl
first_is image (suc zero) = refl
first_is image (suc (suc c)) = grind (arith, ne_eqb, wave_is image (suc c), wave_is image c)

-- What lacks nothing.

pub none_both : (x y : Option Unfit) → or_next x y ≡ None → (x ≡ None) × (y ≡ None)
none_both x y e = grind arith

blocks_fit : (bs : List Block) (hits : List ℕ) (marks added : List Bool) (b : ℕ) (xs : List Block) (n : ℕ)
    (x : Block) → of_blocks bs hits marks added b xs ≡ None → nth xs n ≡ Some x
    → of_block bs hits marks added (b + n) x ≡ None
blocks_fit bs hits marks added b [] n x e f = absurd (let q : None ≡ Some x = f in cc)
blocks_fit bs hits marks added b (y ∷ ys) zero x e f = let q : y ≡ x = grind arith in
    subst (λ (z : Block). of_block bs hits marks added (b + 0) z ≡ None) q (subst (λ (k : ℕ). of_block bs hits
    marks added k y ≡ None) (grind arith) (none_both (of_block bs hits marks added b y) (of_blocks bs hits
    marks added (suc b) ys) e).0)
blocks_fit bs hits marks added b (y ∷ ys) (suc n) x e f = subst (λ (k : ℕ). of_block bs hits marks added k x ≡
    None) (grind arith) (blocks_fit bs hits marks added (suc b) ys n x (none_both (of_block bs hits marks
    added b y) (of_blocks bs hits marks added (suc b) ys) e).1 f)

block_fit : (bs : List Block) (hits : List ℕ) (marks added : List Bool) (n : ℕ) (x : Block)
    → of_block bs hits marks added n x ≡ None → (forks_or_ends bs hits x.exit ≡ true)
    × (get_or added n false ≡ true → is_triggered bs hits marks (suc n) x.instrs ≡ true)
block_fit bs hits marks added n x e = grind arith

-- Instructions of a block.

pub record HasInstr (is : List Instr) (P : Instr → Type 0) : Type 0 where
  pub place : ℕ
  pub instr : Instr
  pub there : nth is place ≡ Some instr
  pub holds : P instr

more : (P : Instr → Type 0) (i : Instr) (is : List Instr) → HasInstr is P → HasInstr (i ∷ is) P
more P i is h = record { place = suc h.place; instr = h.instr; there = h.there; holds = h.holds }

giving_there : (is : List Instr) → any_giving is ≡ true
    → HasInstr is (λ (i : Instr). is_giving_op i.op ≡ true)
giving_there [] e = absurd (both_ways false refl e)
giving_there (i ∷ is) e = elim (or_cases (is_giving_op i.op) (any_giving is) e) [
  | inl g ↦ record { place = 0; instr = i; there = refl; holds = g }
  | inr g ↦ more (λ (i : Instr). is_giving_op i.op ≡ true) i is (giving_there is g)
]

steer_there : (is : List Instr) → any_steer is ≡ true → HasInstr is (λ (i : Instr). i.op ≡ Steer)
steer_there [] e = absurd (both_ways false refl e)
steer_there (i ∷ is) e = elim (or_cases (is_steer_op i.op) (any_steer is) e) [
  | inl g ↦ record { place = 0; instr = i; there = refl; holds = steer_is i.op g }
  | inr g ↦ more (λ (i : Instr). i.op ≡ Steer) i is (steer_there is g)
]

-- instruction `number` of block b is this one
pub record StandsAt (image : Image) (b : ℕ) (i : Instr) : Type 0 where
  pub number : ℕ
  pub inside : IsIn image b number
  pub is : instr_at image number ≡ i

stands : (image : Image) (n m : ℕ) (i : Instr) → suc n ≤ length image.blocks
    → nth (block_at image (suc n)).instrs m ≡ Some i → StandsAt image (suc n) i
unfolding block_at
stands image n m i l e =
    let s : m < length (or_else (nth image.blocks n) no_block).instrs =
    nth_short (or_else (nth image.blocks n) no_block).instrs m i e in
    let t : first_number image (suc (suc n)) ≡ first_number image (suc n)
    + length (or_else (nth image.blocks n) no_block).instrs = number_next image n (omega arith) in
    record {
      number = first_number image (suc n) + m;
      inside = (omega arith, omega arith);
      is = instr_is image n m (first_number image (suc n) + m) (omega arith) s refl
          ∙ ap (λ (o : Option Instr). or_else o no_instr) e;
    }

module _ (image : Image) (shape : ShapeRules image)
    (exits : (b : ℕ) → IsBlock image b → ExitIn image (block_at image b).exit)
    (fit : lack_in image.blocks ≡ None) where
  fits : (n : ℕ) → suc n ≤ length image.blocks
      → (forks_or_ends image.blocks (hits_of image.blocks) (block_at image (suc n)).exit ≡ true)
      × (get_or (added_in image.blocks) n false ≡ true
      → is_triggered image.blocks (hits_of image.blocks) (marks_of image.blocks) (suc n)
      (block_at image (suc n)).instrs ≡ true)
  fits n l = block_fit image.blocks (hits_of image.blocks) (marks_of image.blocks) (added_in image.blocks) n
      (block_at image (suc n))
      (subst (λ (k : ℕ). of_block image.blocks (hits_of image.blocks) (marks_of image.blocks)
      (added_in image.blocks) k (block_at image (suc n)) ≡ None) (let r : 0 + n ≡ n = omega arith in r)
      (blocks_fit image.blocks (hits_of image.blocks) (marks_of image.blocks) (added_in image.blocks) 0
      image.blocks n (block_at image (suc n)) fit (block_there image n l)))

  -- the one edge
  only_edge : (n place c : ℕ) → suc n ≤ length image.blocks → c ≤ length image.blocks
      → eqb (get_or (hits_of image.blocks) c 0) 1 ≡ true
      → nth (edges_of (block_at image (suc n)).exit) place ≡ Some c → OnlyEdge image (suc n) place c
  only_edge n place c l h e f =
      let one : edges_to image.blocks c ≡ 1 =
      sym (hits_are image.blocks c h) ∙ eqb-true (get_or (hits_of image.blocks) c 0) 1 e in
      record { is = f; only = go (omega arith) }
    where
      go : edges_to image.blocks c ≤ 1 → (d q : ℕ) → IsBlock image d
          → nth (edges_of (block_at image d).exit) q ≡ Some c → (d ≡ suc n) × (q ≡ place)
      go one zero q b g = absurd (omega (arith, b.0))
      go one (suc m) q b g = grind (arith, edges_one, block_there image m b.1, block_there image n l)

  arm : (n place c r : ℕ) → suc n ≤ length image.blocks → IsBlock image c
      → is_arm image.blocks (hits_of image.blocks) c ≡ true
      → nth (edges_of (block_at image (suc n)).exit) place ≡ Some c
      → stops image (suc n) ≡ false → target image (suc n) r ≡ c → IsArm image (suc n) place c
  arm n place c r l h e f s t =
      let p : (not (starts_in image.blocks c) ≡ true)
      × (eqb (get_or (hits_of image.blocks) c 0) 1 ≡ true) =
      grind (arith, and_parts) in
      let g : is_first image c ≡ false = grind (arith, first_is, not-true) in
      let w : IsLater image (suc n) r = grind arith in
      record {
        not_first = g;
        same_wave = grind arith;
        only = only_edge n place c l h.1 p.1 f;
      }

  pub branches : (b s x y : ℕ) → IsBlock image b → (block_at image b).exit ≡ Branch s x y
      → ForksOrEnds image b x y
  unfolding stops target
  branches zero s x y h e = absurd (omega (arith, h.0))
  branches (suc n) s x y h e =
      let q : ExitIn image (Branch s x y) = subst (ExitIn image) e (exits (suc n) h) in
      let t : is_stop (block_at image (suc n)).exit ≡ false = ap is_stop e in
      elim (or_cases (is_arm image.blocks (hits_of image.blocks) x
      && is_arm image.blocks (hits_of image.blocks) y)
      (starts_in image.blocks x && starts_in image.blocks y)
      (sym (ap (forks_or_ends image.blocks (hits_of image.blocks)) e) ∙ (fits n h.1).0)) [
        | inl a ↦
            let p : (is_arm image.blocks (hits_of image.blocks) x ≡ true)
            × (is_arm image.blocks (hits_of image.blocks) y ≡ true) =
            grind (arith, and_parts) in
            inl (
              arm n 0 x 1 h.1 q.1 p.0 (ap (λ (w : Exit). nth (edges_of w) 0) e) t (ap (λ (w : Exit).
                  leave_to w 1) e),
              arm n 1 y 0 h.1 q.2 p.1 (ap (λ (w : Exit). nth (edges_of w) 1) e) t (ap (λ (w : Exit).
                  leave_to w 0) e),
            )
        | inr o ↦ grind (arith, and_parts, first_is)
      ]

  giver : (n : ℕ) → suc n ≤ length image.blocks → any_giving (block_at image (suc n)).instrs ≡ true
      → HasGiver image (suc n)
  unfolding is_giving
  giver n l e =
      let h : HasInstr (block_at image (suc n)).instrs (λ (i : Instr). is_giving_op i.op ≡ true) =
      giving_there (block_at image (suc n)).instrs e in
      let s : StandsAt image (suc n) h.instr = stands image n h.place h.instr l h.there in
      grind arith

  by_steer : (n : ℕ) → suc n ≤ length image.blocks
      → eqb (get_or (hits_of image.blocks) (suc n) 0) 1 ≡ true → Steered image.blocks (suc n)
      → EnteredBySteer image (suc n)
  by_steer n l e s =
      let k : s.place < length image.blocks = nth_short image.blocks s.place s.block s.there in
      let q : block_at image (suc s.place) ≡ s.block = grind (arith, block_there) in
      let h : HasInstr s.block.instrs (λ (i : Instr). i.op ≡ Steer) = steer_there s.block.instrs s.steers in
      let t : StandsAt image (suc s.place) h.instr = grind (arith, stands) in
      grind (arith, only_edge)

  pub triggers : (b : ℕ) → IsBlock image b → adds image b ≡ true → CanTrigger image b
  unfolding adds
  triggers zero h a = absurd (omega (arith, h.0))
  triggers (suc n) h a = elim (or_cases (any_giving (block_at image (suc n)).instrs) (is_arm image.blocks
      (hits_of image.blocks) (suc n) && get_or (marks_of image.blocks) (suc n) false) ((fits n h.1).1 a)) [
        | inl g ↦ inl (giver n h.1 g)
        | inr g ↦ grind (arith, and_parts, by_steer, marks_are, first_is, not-true)
      ]
