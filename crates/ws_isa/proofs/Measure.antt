-- What gets less with each block that a walk passes: the firings left, and the blocks ahead while nothing
-- fires.
use Rattle.std.proofs.Common.{ℕ, suc, ◌+◌, ◌-◌, ◌*◌, ◌≡◌, ◌<◌, ◌≤◌, Bool, false, ◌&&◌, ◌==◌, List, [], ◌∷◌}
use Rattle.std.proofs.Common.{length, refl, sym, ap, ◌∙◌, arith}
use Rattle.std.proofs.Math.Nat.{mul-le-mul_right, suc-mul}
use Rattle.ws_isa.specs.Image.{Instr, is_first}
use Rattle.ws_isa.specs.declared.program.BlockTable.{BlockTable}
use Rattle.ws_isa.specs.Shows.{image_of, block_in}

-- the blocks ahead of an empty block
abbrev pub idle : List Instr → ℕ → ℕ
idle [] n = suc n
idle (i ∷ is) n = 0

-- what is left of a walk: firings, and while nothing fires the blocks ahead
abbrev pub heft : BlockTable → ℕ → ℕ → ℕ
heft p place left = left * (length p.blocks.now + 2) + idle (block_in p place).instrs
    (length p.blocks.now - place)

-- the block at this place is no empty first block of a wave
abbrev pub Alive : BlockTable → ℕ → Type 0
Alive p place = ((length (block_in p place).instrs == 0) && is_first (image_of p) (suc place)) ≡ false

idle_low : (is : List Instr) (n m : ℕ) → n ≤ m → idle is n ≤ suc m
idle_low is n m l = grind arith

first_false : (is : List Instr) (f : Bool) → is ≡ [] → ((length is == 0) && f) ≡ false → f ≡ false
first_false is f e h = grind arith

-- each block that is passed leaves less
pub lighter : (p : BlockTable) (place next a b : ℕ) → next < length p.blocks.now → Alive p next
    → (is_first (image_of p) (suc next) ≡ false → place < next) → b + length (block_in p place).instrs ≡ a →
    heft p next b < heft p place a
lighter p place next a b l alive ahead e = go (block_in p place).instrs refl
  where
    go : (is : List Instr) → (block_in p place).instrs ≡ is → heft p next b < heft p place a
    go (i ∷ is) h =
        let n : b + suc (length is) ≡ a = ap (λ (x : List Instr). b + length x) (sym h) ∙ e in
        let m : suc b * (length p.blocks.now + 2) ≤ a * (length p.blocks.now + 2) =
        mul-le-mul_right (length p.blocks.now + 2) (omega arith) in
        let s : suc b * (length p.blocks.now + 2) ≡ b * (length p.blocks.now + 2)
        + (length p.blocks.now + 2) = suc-mul b (length p.blocks.now + 2) in
        let i' : idle (block_in p next).instrs (length p.blocks.now - next) ≤ suc (length p.blocks.now) =
        idle_low (block_in p next).instrs (length p.blocks.now - next) (length p.blocks.now)
        (omega arith) in
        omega (arith, m, s, i')
    go [] h =
        let n : b ≡ a = (let z : b + 0 ≡ a = ap (λ (x : List Instr). b + length x) (sym h) ∙ e in
        omega arith) in
        let me : idle (block_in p place).instrs (length p.blocks.now - place)
        ≡ suc (length p.blocks.now - place) =
        ap (λ (x : List Instr). idle x (length p.blocks.now - place)) h in
        less (block_in p next).instrs refl n me
      where
        less : (js : List Instr) → (block_in p next).instrs ≡ js → b ≡ a
            → idle (block_in p place).instrs (length p.blocks.now - place) ≡ suc (length p.blocks.now - place)
            → heft p next b < heft p place a
        less (j ∷ js) g n me =
            let it : idle (block_in p next).instrs (length p.blocks.now - next) ≡ 0 =
            ap (λ (x : List Instr). idle x (length p.blocks.now - next)) g in
            let q : b * (length p.blocks.now + 2) ≡ a * (length p.blocks.now + 2) =
            ap (λ (x : ℕ). x * (length p.blocks.now + 2)) n in
            omega (arith, it, q, me)
        less [] g n me =
            let it : idle (block_in p next).instrs (length p.blocks.now - next)
            ≡ suc (length p.blocks.now - next) =
            ap (λ (x : List Instr). idle x (length p.blocks.now - next)) g in
            let q : b * (length p.blocks.now + 2) ≡ a * (length p.blocks.now + 2) =
            ap (λ (x : ℕ). x * (length p.blocks.now + 2)) n in
            let f : is_first (image_of p) (suc next) ≡ false = first_false (block_in p next).instrs
            (is_first (image_of p) (suc next)) g alive in
            let lt : place < next = ahead f in
            omega (arith, it, q, me, lt, l)
