-- The printed lexemes of a line spell it.
use Rattle.std.proofs.Common.{◌≡◌, ℕ, ◌^◌, ◌<◌, true, false, List, [], ◌∷◌, ◌++◌, map, codes, Option, Some}
use Rattle.std.proofs.Common.{refl, sym, ap, ◌∙◌, append_assoc, append-nil, arith}
use Rattle.ws_isa.specs.declared.instr.Op.{Op}
use Rattle.ws_isa.specs.declared.instr.Note.{Note}
use Rattle.ws_isa.specs.declared.instr.Dest.{Dest}
use Rattle.ws_isa.specs.Image as plain
use Rattle.ws_isa.specs.Image.{is_giving_op, is_steer_op}
use Rattle.ws_isa.specs.Formed.{NoteWithin, NoteSuits}
use Rattle.asm_text.specs.declared.lexeme.Mark.TheVariants.{Bar}
use Rattle.asm_text.specs.declared.lexeme.Lexeme.{Lexeme}
use Rattle.asm_text.specs.declared.lexeme.Lexeme.TheVariants.{Word, Mark}
use Rattle.asm_text.specs.declared.line.Label.TheVariants.{At}
use Rattle.asm_text.specs.declared.line.Line.{Line}
use Rattle.asm_text.specs.declared.line.Line.TheVariants as line
use Rattle.asm_text.specs.declared.reading.Reading.TheVariants.{Found}
use Rattle.asm_text.specs.declared.writer.After.TheVariants as after
use Rattle.asm_text.specs.Words.{head_of}
use Rattle.asm_text.specs.Forms.{targets_at, labels_at, expect, number_at, word_at, label_at, noted, lists_at}
use Rattle.asm_text.specs.Forms.{instr_line, last_number, last_label, headed, word_line, branch_line}
use Rattle.asm_text.specs.Forms.{send_line, array_line, pad_line, line_of}
use Rattle.asm_text.specs.Printed.{dest_lexemes, numbers, note_lexemes, list_lexemes, instr_lexemes}
use Rattle.asm_text.specs.Printed.{pad_lexemes, exit_lexemes, array_lexemes, numbered, text_of}
use Rattle.asm_text.specs.Reading.{reading}
use Rattle.asm_text.specs.Spelling.{array_line_of}
use Rattle.asm_text.specs.Spelled.{AreLexemes}
use Rattle.asm_text.proofs.Scanning.Spelt.{lexed_text}
use Rattle.asm_text.proofs.Printing.Again.{byte_fits, word_fits, target_of, AreNarrow, targets_again, OpFits}
use Rattle.asm_text.proofs.Printing.Again.{op_again, note_again}

noted_again : (op : Op) (note : Option Note) (more : List Lexeme) → NoteSuits op note → NoteWithin note
    → noted op (note_lexemes note ++ more) ≡ Some ((note, true), more)
unfolding noted note_lexemes
noted_again op note more s h = grind (arith, note_again)

-- a steer alone has two lists, and an operation without a result, or a send, none
pub record ListsFit (op : Op) (ds os : List Dest) : Type 0 where
  pub dests : AreNarrow ds
  pub others : AreNarrow os
  pub one : is_steer_op op ≡ false → os ≡ []
  pub none : is_steer_op op ≡ false → is_giving_op op ≡ false → ds ≡ []

last_targets : (ds : List Dest) → AreNarrow ds → targets_at (dest_lexemes ds) ≡ (map target_of ds, [])
unfolding targets_at
last_targets ds h = ap targets_at (sym (append-nil (dest_lexemes ds))) ∙ targets_again ds [] h refl

first_targets : (ds : List Dest) (more : List Lexeme) → AreNarrow ds
    → targets_at (dest_lexemes ds ++ Mark Bar ∷ more) ≡ (map target_of ds, Mark Bar ∷ more)
unfolding targets_at
first_targets ds more h = targets_again ds (Mark Bar ∷ more) h refl

pub lists_again : (op : Op) (ds os : List Dest) → ListsFit op ds os
    → lists_at op (list_lexemes op ds os) ≡ Some (map target_of ds, map target_of os)
unfolding lists_at list_lexemes expect
lists_again op ds os h = grind (arith, target_of, first_targets, last_targets)

pub instr_again : (n : ℕ) (i : plain.Instr) → n < 2 ^ 32 → OpFits i.op → NoteSuits i.op i.note
    → NoteWithin i.note → ListsFit i.op i.dests i.others
    → line_of (instr_lexemes n i) ≡ Some
    (line.Instr (record {
      own = At n;
      op = i.op;
      note = i.note;
      fits = true;
      dests = map target_of i.dests;
      others = map target_of i.others;
    }))
unfolding line_of instr_lexemes label_at expect instr_line
instr_again n i h f s w l = grind (arith, word_fits, append_assoc, op_again, noted_again, lists_again)

pub pad_again : (p : plain.Pad) → p.number < 256 → AreNarrow p.dests
    → line_of (pad_lexemes p) ≡ Some (line.Pad p.number (map target_of p.dests))
unfolding line_of pad_lexemes word_line word_at head_of headed pad_line number_at
pad_again p h d = rw (byte_fits p.number h, last_targets p.dests d)

pub block_again : (n : ℕ) → n < 2 ^ 32 → line_of (numbered (codes "block") n) ≡ Some (line.Block (At n))
unfolding line_of word_line word_at head_of headed last_label label_at
block_again n h = rw (word_fits n h)

pub wave_again : (n : ℕ) → n < 2 ^ 32 → line_of (numbered (codes "wave") n) ≡ Some (line.Wave n)
unfolding line_of word_line word_at head_of headed last_number number_at
wave_again n h = rw (word_fits n h)

pub version_again : (n : ℕ) → line_of (numbered (codes "wavescalar") n) ≡ Some (line.Version n)
unfolding line_of word_line word_at head_of headed last_number number_at
version_again n = refl

pub end_again : line_of (Word (codes "end") ∷ []) ≡ Some line.End
unfolding line_of word_line word_at head_of headed
end_again = refl

pub array_again : (a : plain.Array) → a.length < 2 ^ 32
    → line_of (array_lexemes a) ≡ Some (array_line_of a.name a.length)
unfolding line_of array_lexemes word_line word_at head_of headed last_number number_at array_line
array_again a h = grind arith

-- What a printed line says.
pub reading_again : (l : Lexeme) (ls : List Lexeme) (x : Line) → AreLexemes (l ∷ ls)
    → line_of (l ∷ ls) ≡ Some x → reading (text_of after.Start (l ∷ ls)) ≡ Found x false
unfolding reading
reading_again l ls x h e = rw (lexed_text after.Start (l ∷ ls) h, e)

-- References that are numbers.
abbrev pub SmallNumbers : List ℕ → Type 0
SmallNumbers [] = Unit {0}
SmallNumbers (n ∷ ns) = (n < 2 ^ 32) × SmallNumbers ns

labels_again : (ns : List ℕ) → SmallNumbers ns → labels_at (numbers ns) ≡ (map At ns, [])
unfolding labels_at numbers
labels_again [] h = refl
labels_again (n ∷ ns) h = rw (word_fits n h.0, labels_again ns h.1)

pub go_again : (b : ℕ) → b < 2 ^ 32 → line_of (exit_lexemes (plain.Goto b)) ≡ Some (line.Go (At b))
unfolding line_of exit_lexemes word_line word_at head_of headed last_label label_at
go_again b h = rw (word_fits b h)

pub branch_again : (s b c : ℕ) → s < 2 ^ 32 → b < 2 ^ 32 → c < 2 ^ 32
    → line_of (exit_lexemes (plain.Branch s b c)) ≡ Some (line.If (At s) (At b) (At c))
unfolding line_of exit_lexemes word_line word_at head_of headed branch_line label_at
branch_again s b c h k m = rw (word_fits s h, word_fits b k, word_fits c m)

pub send_again : (s l : ℕ) (ls : List ℕ) → s < 2 ^ 32 → SmallNumbers (l ∷ ls)
    → line_of (exit_lexemes (plain.Landings s (l ∷ ls))) ≡ Some (line.Send (At s) (map At (l ∷ ls)))
unfolding line_of exit_lexemes word_line word_at head_of headed send_line label_at
send_again s l ls h k = rw (word_fits s h, labels_again (l ∷ ls) k)

pub stop_again : line_of (exit_lexemes plain.Stop) ≡ Some line.Stop
unfolding line_of exit_lexemes word_line word_at head_of headed
stop_again = refl
