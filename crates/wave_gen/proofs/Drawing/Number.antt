-- The numbers of the blocks and instructions of a draft.
use Rattle.std.proofs.Common.{ℕ, zero, suc, ◌+◌, ◌-◌, ◌≡◌, ◌<◌, ◌≤◌, List, [], ◌∷◌, length, map, Some}
use Rattle.std.proofs.Common.{refl, sym, ap, ◌∙◌, arith}
use Rattle.ws_isa.specs.Image.{Image, Instr, Block, Array, flat, first_of, first_number, instr_at, block_at}
use Rattle.ws_isa.specs.Image.{IsBlock}
use Rattle.wave_gen.specs.Wire.{WiredInstr, Made}
use Rattle.wave_gen.specs.Plans.{Plan, no_made, mades, made_at, blocks_from, numbers, begins, instr_of}
use Rattle.wave_gen.specs.Plans.{block_of, blocks_of, draft_of}
use Rattle.ws_isa.proofs.Steps.{first_of_pos}
use Rattle.ws_words.proofs.Lists.{length_map}
use Rattle.ws_isa.proofs.Blocks.{nth_append_right}
use Rattle.ws_words.specs.Items.{nth, or_else}
use Rattle.ws_words.proofs.Places.{nth_short, nth_append_left}

pub nth_map : {A B : Type 0} (f : A → B) (xs : List A) (i : ℕ) (x : A) → nth xs i ≡ Some x
    → nth (map f xs) i ≡ Some (f x)
nth_map f (y ∷ xs) (suc i) x e = nth_map f xs i x e
nth_map f xs i x e = grind arith

flat_nth : (bs : List Block) (b i : ℕ) (x : Block) (n : Instr) → nth bs b ≡ Some x → nth x.instrs i ≡ Some n
    → nth (flat bs) ((first_of bs b + i) - 1) ≡ Some n
flat_nth (y ∷ bs) (suc b) i x n e f = grind (arith, first_of_pos, nth_append_right, flat_nth bs b i x n e f)
flat_nth bs b i x n e f = grind (arith, nth_append_left, nth_short)

module _ (arrays : List Array) (width : ℕ) (ps : List Plan) where
  abbrev I : Image
  I = draft_of arrays width ps

  from_count : (b : ℕ) (qs : List Plan) → length (blocks_from width ps b qs) ≡ length qs
  from_count b [] = refl
  from_count b (q ∷ qs) = ap suc (from_count (suc b) qs)

  pub mades_count : length (mades width ps) ≡ length ps
  unfolding mades
  mades_count = from_count 1 ps

  firsts : (ms : List Made) (s n i : ℕ)
      → ((j : ℕ) → made_at width ps (suc s + j) ≡ or_else (nth ms j) no_made) → n ≡ length ms
      → first_of (blocks_of width ps (suc s) n) i ≡ numbers ms i
  firsts (m ∷ ms) s n (suc i) h e =
      let here : made_at width ps (suc s) ≡ m = (let z : suc s + 0 ≡ suc s = omega arith in rw z at (h 0)) in
      rw e (rw (
        length_map (instr_of (begins width ps)) (made_at width ps (suc s)).code,
        here,
        firsts ms (suc s) (length ms) i (λ j. (let z : suc (suc s) + j ≡ suc s + suc j = omega arith in
            rw z (h (suc j)))) refl,
      ) refl)
  firsts ms s n i h e = grind arith

  made_shown : (j : ℕ) → made_at width ps (suc j) ≡ or_else (nth (mades width ps) j) no_made
  unfolding made_at
  made_shown j = refl

  pub number_is : (b : ℕ) → first_number I b ≡ begins width ps b
  unfolding first_number draft_of begins
  number_is zero = refl
  number_is (suc b) = firsts (mades width ps) 0 (length ps) b at_start (sym mades_count)
    where
      at_start : (j : ℕ) → made_at width ps (1 + j) ≡ or_else (nth (mades width ps) j) no_made
      at_start j = let z : 1 + j ≡ suc j = omega arith in rw z (made_shown j)

  -- a draft has as many blocks as plans
  pub blocks_count : (s n : ℕ) → length (blocks_of width ps s n) ≡ n
  blocks_count s zero = refl
  blocks_count s (suc n) = ap suc (blocks_count (suc s) n)

  blocks_nth : (s n i : ℕ) → i < n → nth (blocks_of width ps s n) i ≡ Some (block_of width ps (s + i))
  blocks_nth s zero i l = absurd (omega arith)
  blocks_nth s (suc n) zero l = let z : s + 0 ≡ s = omega arith in rw z refl
  blocks_nth s (suc n) (suc i) l = grind (arith, blocks_nth (suc s) n i (omega arith))

  -- b is one of the blocks
  abbrev pub Is : ℕ → Type 0
  Is b = (1 ≤ b) × (b ≤ length ps)

  pub is_block : (b : ℕ) → IsBlock I b → Is b
  unfolding draft_of
  is_block b h = grind (arith, blocks_count)

  pub block_is : (b : ℕ) → Is b → IsBlock I b
  unfolding draft_of
  block_is b h = grind (arith, blocks_count)

  nth_block : (b : ℕ) → suc b ≤ length ps → nth I.blocks b ≡ Some (block_of width ps (suc b))
  unfolding draft_of
  nth_block b l = grind (arith, blocks_nth)

  pub block_at_is : (b : ℕ) → Is b → block_at I b ≡ block_of width ps b
  unfolding block_at
  block_at_is b h = grind (arith, nth_block)

  first_shown : (b i : ℕ) → first_number I (suc b) + i ≡ first_of I.blocks b + i
  unfolding first_number
  first_shown b i = refl

  instr_shown : (k m : ℕ) (n : Instr) → 1 ≤ m → k ≡ m → nth (flat I.blocks) (m - 1) ≡ Some n
      → instr_at I k ≡ n
  unfolding instr_at
  instr_shown k m n l e f = grind arith

  -- the instruction for a line
  pub instr_is : (b i : ℕ) (line : WiredInstr) → Is b → nth (made_at width ps b).code i ≡ Some line
      → instr_at I (begins width ps b + i) ≡ instr_of (begins width ps) line
  instr_is zero i line h e = absurd (omega (arith, h.0))
  instr_is (suc b) i line h e = rw (sym (number_is (suc b))) (go (first_number I (suc b) + i) refl)
    where
      at_place : nth (flat I.blocks) ((first_of I.blocks b + i) - 1) ≡ Some (instr_of (begins width ps) line)
      at_place = flat_nth I.blocks b i (block_of width ps (suc b)) (instr_of (begins width ps) line)
          (nth_block b h.1) (grind (arith, nth_map))

      go : (k : ℕ) → k ≡ first_number I (suc b) + i → instr_at I k ≡ instr_of (begins width ps) line
      go k f = instr_shown k (first_of I.blocks b + i) (instr_of (begins width ps) line)
          (grind (arith, first_of_pos)) (f ∙ first_shown b i)
          at_place
