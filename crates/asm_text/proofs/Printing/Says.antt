-- The printed lines of a formed image say what they were printed for.
use Rattle.std.proofs.Common.{◌≡◌, ℕ, ◌^◌, ◌<◌, ◌≤◌, length, true, false, List, [], ◌∷◌, ◌++◌, map, codes}
use Rattle.std.proofs.Common.{Option, Some, None, refl, arith}
use Rattle.std.specs.List.{AllByRecursion}
use Rattle.ws_words.specs.declared.alu.Alu as alus
use Rattle.ws_isa.specs.declared.instr.Op.{Op}
use Rattle.ws_isa.specs.declared.instr.Note.{Note}
use Rattle.ws_isa.specs.declared.instr.Dest.{Dest}
use Rattle.ws_isa.specs.Image as plain
use Rattle.ws_isa.specs.Image.{is_giving_op, IsBlock, is_steer_op}
use Rattle.ws_isa.specs.Formed.{most_instrs, most_blocks, most_arrays, most_length, most_pads, NameFormed}
use Rattle.ws_isa.specs.Formed.{OpIn, ExitIn, SomeLanding, DestsIn, DestsSuit, OthersSuit, NoteWithin}
use Rattle.ws_isa.specs.Formed.{ConstWithin, SendWithin, Formed}
use Rattle.asm_text.specs.declared.lexeme.Lexeme.{Lexeme}
use Rattle.asm_text.specs.declared.lexeme.Lexeme.TheVariants.{Word}
use Rattle.asm_text.specs.declared.line.Label.TheVariants.{At}
use Rattle.asm_text.specs.declared.line.Line.{Line}
use Rattle.asm_text.specs.declared.line.Line.TheVariants as line
use Rattle.asm_text.specs.declared.reading.Reading.TheVariants.{Found}
use Rattle.asm_text.specs.declared.writer.After.TheVariants as after
use Rattle.asm_text.specs.Words.{op_word, alu_word, number_in}
use Rattle.asm_text.specs.Forms.{line_of}
use Rattle.asm_text.specs.Printed.{dest_lexemes, numbers, note_lexemes, number_lexemes, op_lexemes}
use Rattle.asm_text.specs.Printed.{list_lexemes, instr_lexemes, pad_lexemes, exit_lexemes, array_lexemes}
use Rattle.asm_text.specs.Printed.{array_by, numbered, text_of}
use Rattle.asm_text.specs.Reading.{reading}
use Rattle.asm_text.specs.Spelling.{array_line_of}
use Rattle.asm_text.specs.Spelled.{AreLexemes}
use Rattle.asm_text.proofs.Printing.Again.{target_of, AreNarrow, OpFits}
use Rattle.asm_text.proofs.Printing.AgainLines.{SmallNumbers, version_again, array_again, wave_again}
use Rattle.asm_text.proofs.Printing.AgainLines.{block_again, pad_again, instr_again, go_again, branch_again}
use Rattle.asm_text.proofs.Printing.AgainLines.{send_again, stop_again, end_again, reading_again}
use Rattle.asm_text.proofs.Accepting.Items.{InstrIn, Small, dests_small}
use Rattle.ws_words.specs.Letters.{is_word}

-- These are lexemes, and as a line they say this.
pub record Says (ls : List Lexeme) (x : Line) : Type 0 where
  pub lexemes : AreLexemes ls
  pub reads : reading (text_of after.Start ls) ≡ Found x false

says : (l : Lexeme) (ls : List Lexeme) (x : Line) → AreLexemes (l ∷ ls) → line_of (l ∷ ls) ≡ Some x
    → Says (l ∷ ls) x
says l ls x h e = record { lexemes = h; reads = reading_again l ls x h e }

wide : (n : ℕ) → n < 2 ^ 32 → n < 2 ^ 64
wide n h = omega arith

-- Lines with one number.

pub version_says : (n : ℕ) → n < 2 ^ 64 → Says (numbered (codes "wavescalar") n) (line.Version n)
version_says n h = says _ _ _ (refl, (h, tt)) (version_again n)

pub wave_says : (n : ℕ) → n < 2 ^ 32 → Says (numbered (codes "wave") n) (line.Wave n)
wave_says n h = says _ _ _ (refl, (wide n h, tt)) (wave_again n h)

pub block_says : (n : ℕ) → n < 2 ^ 32 → Says (numbered (codes "block") n) (line.Block (At n))
block_says n h = says _ _ _ (refl, (wide n h, tt)) (block_again n h)

pub end_says : Says (Word (codes "end") ∷ []) line.End
end_says = says _ _ _ (refl, tt) end_again

-- Arrays.

pub array_says : (a : plain.Array) → NameFormed a.name → a.length ≤ most_length
    → Says (array_lexemes a) (array_line_of a.name a.length)
unfolding array_lexemes most_length
array_says a h k = by a.name h
  where
    small : a.length < 2 ^ 32
    small = omega arith

    by : (name : Option (List ℕ)) → NameFormed name
        → Says (array_by name a.length) (array_line_of name a.length)
    by None n = grind (
      arith,
      says,
      wide a.length small,
      array_again (record { name = None; length = a.length }) small,
    )
    by (Some w) n = says _ _ _ grind (arith, wide) (array_again (record { name = Some w; length = a.length })
        small)

-- Destinations.

narrow : (ds : List Dest) → AllByRecursion Small ds → AreNarrow ds
narrow [] h = tt
narrow (d ∷ ds) h = (h.0.instr, omega (arith, h.0.port), narrow ds h.1)

dests_lexemes : (ds : List Dest) → AreNarrow ds → AreLexemes (dest_lexemes ds)
unfolding dest_lexemes
dests_lexemes [] h = tt
dests_lexemes (d ∷ ds) h = (wide d.instr h.0, (tt, (omega (arith, h.1), dests_lexemes ds h.2)))

pub dests_narrow : (image : plain.Image) (ds : List Dest) → Formed image → DestsIn image ds → AreNarrow ds
dests_narrow image ds f h = narrow ds (dests_small image ds f h)

-- Pads.

abbrev pub pad_line : plain.Pad → Line
pad_line p = line.Pad p.number (map target_of p.dests)

pub pad_says : (image : plain.Image) (p : plain.Pad) → Formed image → p.number < most_pads
    → DestsIn image p.dests → Says (pad_lexemes p) (pad_line p)
unfolding pad_lexemes most_pads
pad_says image p f n h = grind (arith, dests_narrow, says, dests_lexemes, pad_again)

-- Instructions.

alu_is_word : (a : alus.Alu) → is_word (alu_word a) ≡ true
unfolding alu_word
alu_is_word a = grind arith

op_is_word : (op : Op) → is_word (op_word op) ≡ true
unfolding op_word
op_is_word op = grind (arith, alu_is_word)

few_arrays : (image : plain.Image) → Formed image → length image.arrays ≤ 256
unfolding most_arrays
few_arrays image f = f.arrays.few

op_fits : (image : plain.Image) (op : Op) → Formed image → OpIn image op → SendWithin op → OpFits op
unfolding most_pads
op_fits image op f o s = grind (arith, few_arrays)

op_number : (op : Op) → OpFits op → ConstWithin op → AreLexemes (number_lexemes (number_in op))
op_number op h c = grind arith

note_are_lexemes : (note : Option Note) → NoteWithin note → AreLexemes (note_lexemes note)
unfolding note_lexemes
note_are_lexemes note h = grind arith

both_lexemes : (xs ys : List Lexeme) → AreLexemes xs → AreLexemes ys → AreLexemes (xs ++ ys)
both_lexemes [] ys h k = k
both_lexemes (x ∷ xs) ys h k = (h.0, both_lexemes xs ys h.1 k)

list_are_lexemes : (op : Op) (ds os : List Dest) → AreNarrow ds → AreNarrow os
    → AreLexemes (list_lexemes op ds os)
unfolding list_lexemes
list_are_lexemes op ds os h k = grind (arith, both_lexemes, dests_lexemes)

one_list : (op : Op) (os : List Dest) → OthersSuit op os → is_steer_op op ≡ false → os ≡ []
one_list op os h e = grind arith

no_list : (op : Op) (ds : List Dest) → DestsSuit op ds → is_steer_op op ≡ false → is_giving_op op ≡ false
    → ds ≡ []
no_list op ds h e g = grind arith

abbrev pub instr_line : ℕ → plain.Instr → Line
instr_line n i = line.Instr (record {
  own = At n;
  op = i.op;
  note = i.note;
  fits = true;
  dests = map target_of i.dests;
  others = map target_of i.others;
})

pub instr_says : (image : plain.Image) (n : ℕ) (i : plain.Instr) → Formed image → n < 2 ^ 32 → InstrIn image i
    → Says (instr_lexemes n i) (instr_line n i)
unfolding instr_lexemes
instr_says image n i f h g =
    let ds = dests_narrow image i.dests f g.dests in
    let os = dests_narrow image i.others f g.others in
    let o = op_fits image i.op f g.op g.within.send in
    let op : AreLexemes (op_lexemes i.op) = grind (arith, op_is_word, op_number) in
    let note = note_are_lexemes i.note g.within.note in
    let all = both_lexemes (op_lexemes i.op ++ note_lexemes i.note) (list_lexemes i.op i.dests i.others)
    (grind (arith, both_lexemes)) (list_are_lexemes i.op i.dests i.others ds os) in
    says _ _ _ (wide n h, (tt, all)) (grind (arith, instr_again, one_list, no_list))

-- Exits.

abbrev pub exit_line : plain.Exit → Line
exit_line (plain.Goto b) = line.Go (At b)
exit_line (plain.Branch s b c) = line.If (At s) (At b) (At c)
exit_line (plain.Landings s ls) = line.Send (At s) (map At ls)
exit_line plain.Stop = line.Stop

block_small : (image : plain.Image) (b : ℕ) → Formed image → IsBlock image b → b < 2 ^ 32
unfolding most_blocks
block_small image b f h = omega (arith, h.1, f.few_blocks)

instr_small : (image : plain.Image) (k : ℕ) → Formed image → plain.IsInstr image k → k < 2 ^ 32
unfolding most_instrs
instr_small image k f h = omega (arith, h.1, f.few_instrs)

blocks_small : (image : plain.Image) (bs : List ℕ) → Formed image → AllByRecursion (IsBlock image) bs
    → SmallNumbers bs
blocks_small image [] f h = tt
blocks_small image (b ∷ bs) f h = (block_small image b f h.0, blocks_small image bs f h.1)

numbers_lexemes : (ns : List ℕ) → SmallNumbers ns → AreLexemes (numbers ns)
unfolding numbers
numbers_lexemes [] h = tt
numbers_lexemes (n ∷ ns) h = (wide n h.0, numbers_lexemes ns h.1)

pub exit_says : (image : plain.Image) (e : plain.Exit) → Formed image → ExitIn image e → SomeLanding e
    → Says (exit_lexemes e) (exit_line e)
unfolding exit_lexemes
exit_says image (plain.Goto b) f h l =
    let k = block_small image b f h in
    says _ _ _ (refl, (wide b k, tt)) (go_again b k)
exit_says image (plain.Branch s b c) f h l =
    let i = instr_small image s f h.0 in
    let k = block_small image b f h.1 in
    let m = block_small image c f h.2 in
    says _ _ _ grind (arith, wide) (branch_again s b c i k m)
exit_says image (plain.Landings s []) f h l = absurd (omega (arith, l))
exit_says image (plain.Landings s (b ∷ bs)) f h l =
    let i = instr_small image s f h.0 in
    let k = blocks_small image (b ∷ bs) f h.1 in
    says _ _ _ (refl, (wide s i, numbers_lexemes (b ∷ bs) k)) (send_again s b bs i k)
exit_says image plain.Stop f h l = says _ _ _ (refl, tt) stop_again
