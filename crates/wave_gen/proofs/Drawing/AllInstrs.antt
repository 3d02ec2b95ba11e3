-- What holds of each instruction and each block of a draft.
use Rattle.std.proofs.Common.{ℕ, zero, suc, ◌+◌, ◌≡◌, ◌<◌, ◌≤◌, List, [], ◌∷◌, length, map, Some, refl, sym}
use Rattle.std.proofs.Common.{subst, arith}
use Rattle.std.specs.List.{AllByRecursion}
use Rattle.ws_isa.specs.Image.{Image, Instr, Block, Array, flat, instr_at, block_at, first_number, IsIn}
use Rattle.ws_isa.specs.Image.{IsBlock}
use Rattle.wave_gen.specs.Wire.{WiredInstr}
use Rattle.wave_gen.specs.Plans.{Plan, made_at, begins, instr_of, blocks_of, draft_of}
use Rattle.wave_gen.proofs.Drawing.Blocks.{begins_next}
use Rattle.wave_gen.proofs.Drawing.Number.{number_is, block_at_is, block_is, instr_is}
use Rattle.ws_words.proofs.Lists.{all_append}
use Rattle.ws_words.specs.Items.{nth}
use Rattle.ws_words.proofs.Places.{nth_short}

all_map : (P : Instr → Type 0) (f : WiredInstr → Instr) (ls : List WiredInstr)
    → ((i : ℕ) (l : WiredInstr) → nth ls i ≡ Some l → P (f l)) → AllByRecursion P (map f ls)
all_map P f [] h = tt
all_map P f (l ∷ ls) h = (h 0 l refl, all_map P f ls (λ i m e. h (suc i) m e))

module _ (arrays : List Array) (width : ℕ) (ps : List Plan) where
  abbrev I : Image
  I = draft_of arrays width ps

  abbrev Is : ℕ → Type 0
  Is b = (1 ≤ b) × (b ≤ length ps)

  flat_from : (P : Instr → Type 0)
      → ((b : ℕ) → Is b → AllByRecursion P (map (instr_of (begins width ps)) (made_at width ps b).code))
      → (b n : ℕ) → 1 ≤ b → b + n ≡ suc (length ps) → AllByRecursion P (flat (blocks_of width ps b n))
  flat_from P h b zero l e = tt
  flat_from P h b (suc n) l e =
      grind (arith, all_append, flat_from P h (suc b) n (omega arith) (omega (arith, e)))

  code_of_block : (P : Instr → Type 0) → ((b k : ℕ) → IsBlock I b → IsIn I b k → P (instr_at I k)) → (b : ℕ)
      → Is b → AllByRecursion P (map (instr_of (begins width ps)) (made_at width ps b).code)
  code_of_block P h b s = all_map P (instr_of (begins width ps)) (made_at width ps b).code (λ i l e.
      (let n : begins width ps (suc b) ≡ begins width ps b + length (made_at width ps b).code =
      begins_next width ps b s in
      let y : first_number I b ≡ begins width ps b = number_is arrays width ps b in
      let w : first_number I (suc b) ≡ begins width ps (suc b) = number_is arrays width ps (suc b) in
      let u : i < length (made_at width ps b).code = nth_short (made_at width ps b).code i l e in
      subst P (instr_is arrays width ps b i l s e) (h b (begins width ps b + i) (block_is arrays width ps b s)
      (omega (arith, y), omega (arith, w, n, u)))))

  blocks_are : I.blocks ≡ blocks_of width ps 1 (length ps)
  unfolding draft_of
  blocks_are = refl

  -- what holds of each instruction of each block
  pub all_instrs : (P : Instr → Type 0) → ((b k : ℕ) → IsBlock I b → IsIn I b k → P (instr_at I k))
      → AllByRecursion P (flat I.blocks)
  all_instrs P h = subst (λ (bs : List Block). AllByRecursion P (flat bs)) (sym blocks_are)
      (flat_from P (code_of_block P h) 1 (length ps) (omega arith) (omega arith))

  block_from : (P : Block → Type 0) → ((b : ℕ) → IsBlock I b → P (block_at I b)) → (b n : ℕ) → 1 ≤ b
      → b + n ≡ suc (length ps) → AllByRecursion P (blocks_of width ps b n)
  block_from P h b zero l e = tt
  block_from P h b (suc n) l e = (
    subst P (block_at_is arrays width ps b (l, omega arith))
        (h b (block_is arrays width ps b (l, omega arith))),
    block_from P h (suc b) n (omega arith)
        (omega arith),
  )

  -- what holds of each block
  pub all_blocks : (P : Block → Type 0) → ((b : ℕ) → IsBlock I b → P (block_at I b))
      → AllByRecursion P I.blocks
  unfolding draft_of
  all_blocks P h = block_from P h 1 (length ps) (omega arith) (omega arith)
