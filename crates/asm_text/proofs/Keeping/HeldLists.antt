-- Lists with one more item.
use Rattle.std.proofs.Common.{◌≡◌, ◌⊎◌, ℕ, suc, ◌+◌, ◌<◌, ◌≤◌, true, List, [], ◌∷◌, ◌++◌, length, Option}
use Rattle.std.proofs.Common.{Some, None, refl, append_assoc, append-nil, arith}
use Rattle.std.specs.List.{AllByRecursion}
use Rattle.ws_isa.specs.Image.{Array, Block, Pad, Instr, flat, ports_of}
use Rattle.ws_isa.specs.Formed.{most_arrays, most_length, most_cells, most_instrs, total_length, NameFormed}
use Rattle.ws_isa.specs.Formed.{WavesFrom}
use Rattle.asm_text.specs.declared.state.TextState.{TextState}
use Rattle.asm_text.specs.State.{is_above}
use Rattle.asm_text.proofs.Keeping.HeldNames.{length_snoc}
use Rattle.asm_text.proofs.Keeping.Held.{Rises, last_pad, last_wave, ArraysHeld, InstrHeld, InstrsHeld}
use Rattle.asm_text.proofs.Keeping.Held.{PadHeld, PadsHeld, BlockHeld, BlocksHeld}
use Rattle.ws_words.proofs.Lists.{all_append, map_push}

pub all_snoc : {A : Type 0} (P : A → Type 0) (xs : List A) (x : A) → AllByRecursion P xs → P x
    → AllByRecursion P (xs ++ x ∷ [])
all_snoc P xs x h k = all_append P xs (x ∷ []) h (k, tt)

-- Arrays.

total_snoc : (as' : List Array) (x : Array) → total_length (as' ++ x ∷ []) ≡ total_length as' + x.length
total_snoc [] x = omega arith
total_snoc (a ∷ as') x = let e = total_snoc as' x in omega arith

pub arrays_more : (count cells : ℕ) (as' : List Array) (x : Array) → ArraysHeld count cells as'
    → NameFormed x.name
    → count < most_arrays → x.length ≤ most_length → cells + x.length ≤ most_cells
    → ArraysHeld (count + 1) (cells + x.length) (as' ++ x ∷ [])
arrays_more count cells as' x h name few long all = grind (arith, length_snoc, total_snoc, all_snoc)

-- Instructions.

pub instrs_more : (s : TextState) (ports : List ℕ) (is : List Instr) (x : Instr) → InstrsHeld s ports is
    → length ports < most_instrs → InstrHeld s x
    → InstrsHeld s (ports ++ ports_of x.op ∷ []) (is ++ x ∷ [])
instrs_more s ports is x h few k = grind (arith, length_snoc, map_push, all_snoc)

pub flat_snoc : (bs : List Block) (x : Block) → flat (bs ++ x ∷ []) ≡ flat bs ++ x.instrs
flat_snoc [] x = append-nil x.instrs
flat_snoc (b ∷ bs) x = grind (arith, append_assoc, flat_snoc bs x)

-- Pads.

rises_snoc : (o : Option ℕ) (ps : List Pad) (x : Pad) → Rises o ps
    → is_above (last_pad o ps) x.number ≡ true → Rises o (ps ++ x ∷ [])
rises_snoc o [] x h k = (k, tt)
rises_snoc o (p ∷ ps) x h k = (h.0, rises_snoc (Some p.number) ps x h.1 k)

pub last_pad_snoc : (o : Option ℕ) (ps : List Pad) (x : Pad) → last_pad o (ps ++ x ∷ []) ≡ Some x.number
last_pad_snoc o [] x = refl
last_pad_snoc o (p ∷ ps) x = last_pad_snoc (Some p.number) ps x

pub pads_more : (s : TextState) (ps : List Pad) (x : Pad) → PadsHeld s ps → PadHeld s x
    → is_above (last_pad None ps) x.number ≡ true → PadsHeld s (ps ++ x ∷ [])
pads_more s ps x h k above = grind (arith, all_snoc, rises_snoc)

-- Blocks.

waves_snoc : (w : ℕ) (bs : List Block) (x : Block) → WavesFrom w bs
    → (x.wave ≡ last_wave w bs) ⊎ (x.wave ≡ suc (last_wave w bs)) → WavesFrom w (bs ++ x ∷ [])
waves_snoc w [] x h k = (k, tt)
waves_snoc w (b ∷ bs) x h k = (h.0, waves_snoc b.wave bs x h.1 k)

pub last_wave_snoc : (w : ℕ) (bs : List Block) (x : Block) → last_wave w (bs ++ x ∷ []) ≡ x.wave
last_wave_snoc w [] x = refl
last_wave_snoc w (b ∷ bs) x = last_wave_snoc b.wave bs x

pub blocks_more : (s : TextState) (bs : List Block) (x : Block) → BlocksHeld s bs → BlockHeld s x
    → (x.wave ≡ last_wave 0 bs) ⊎ (x.wave ≡ suc (last_wave 0 bs)) → BlocksHeld s (bs ++ x ∷ [])
blocks_more s bs x h k next = grind (arith, all_snoc, waves_snoc)
