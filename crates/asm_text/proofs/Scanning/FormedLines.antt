-- What the form of a line says: names are words, notes and lists suit their instruction.
use Rattle.std.proofs.Common.{◌≡◌, ℕ, ◌^◌, ◌<◌, ◌≤◌, cond, Bool, true, IfSome, List, [], length, Option, Some}
use Rattle.std.proofs.Common.{arith}
use Rattle.ws_isa.specs.declared.instr.Op.{Op}
use Rattle.ws_isa.specs.declared.instr.Op.TheVariants as op
use Rattle.ws_isa.specs.declared.instr.Note.{Note}
use Rattle.ws_isa.specs.Image.{is_silent_op}
use Rattle.ws_isa.specs.Formed.{ConstWithin, NoteSuits, NoteWithin, LinkWithin}
use Rattle.asm_text.specs.declared.lexeme.Mark as mark
use Rattle.asm_text.specs.declared.lexeme.Mark.TheVariants.{Colon, Comma, Less}
use Rattle.asm_text.specs.declared.lexeme.Lexeme.{Lexeme}
use Rattle.asm_text.specs.declared.line.Label.{Label}
use Rattle.asm_text.specs.declared.line.Target.{Target}
use Rattle.asm_text.specs.declared.line.InstrLine.{InstrLine}
use Rattle.asm_text.specs.declared.line.Line.{Line}
use Rattle.asm_text.specs.declared.line.Line.TheVariants.{Array, Instr, Send}
use Rattle.asm_text.specs.declared.words.Head as heads
use Rattle.asm_text.specs.declared.reading.Reading.{Reading}
use Rattle.asm_text.specs.declared.reading.Reading.TheVariants.{Blank, Wrong, Found}
use Rattle.asm_text.specs.Words.{in_word, has_number, with_number}
use Rattle.asm_text.specs.Forms.{◌>>=◌, expect, number_at, word_at, label_at, targets_at, done, link_at}
use Rattle.asm_text.specs.Forms.{note_at, op_at, noted, lists_at, instr_line, branch_line, send_line}
use Rattle.asm_text.specs.Forms.{array_line, pad_line, headed, word_line, is_own, line_of}
use Rattle.asm_text.specs.Lexing.{Lexed, lexed}
use Rattle.asm_text.specs.Reading.{formed, read_items, read_lexed, reading}
use Rattle.asm_text.proofs.Scanning.FormedLexemes.{AllFit, either, lexed_fits}
use Rattle.ws_words.specs.Letters.{is_word}

-- an instruction without a result and a send have no list
abbrev pub DestsGiven : Op → List Target → Type 0
DestsGiven (op.Send k) ts = ts ≡ []
DestsGiven o ts = is_silent_op o ≡ true → ts ≡ []

-- a steer alone has two lists
abbrev pub OthersGiven : Op → List Target → Type 0
OthersGiven op.Steer ts = Unit {0}
OthersGiven o ts = ts ≡ []

pub record InstrFits (i : InstrLine) : Type 0 where
  pub const : ConstWithin i.op
  pub note : NoteSuits i.op i.note
  pub within : NoteWithin i.note
  pub dests : DestsGiven i.op i.dests
  pub others : OthersGiven i.op i.others

abbrev pub LineFits : Line → Type 0
LineFits (Array w n) = is_word w ≡ true
LineFits (Instr i) = InstrFits i
LineFits (Send t ls) = 1 ≤ length ls
LineFits _ = Unit {0}

abbrev pub ReadingFits : Reading → Type 0
ReadingFits Blank = Unit {0}
ReadingFits Wrong = Unit {0}
ReadingFits (Found l wide) = LineFits l

bound : {A B : Type 0} (P : A → Type 0) (Q : B → Type 0) (o : Option A) (f : A → Option B) → IfSome o P
    → ((a : A) → P a → IfSome (f a) Q) → IfSome (o >>= f) Q
bound P Q o f h k = grind arith

bound_any : {A B : Type 0} (Q : B → Type 0) (o : Option A) (f : A → Option B) → ((a : A) → IfSome (f a) Q)
    → IfSome (o >>= f) Q
bound_any Q o f k = grind arith

done_some : {A : Type 0} (P : A → Type 0) (ls : List Lexeme) (a : A) → P a → IfSome (done ls a) P
done_some P ls a h = grind arith

-- Readers keep that lexemes fit.

label_rest : (ls : List Lexeme) → AllFit ls → IfSome (label_at ls) (λ x. AllFit x.1)
unfolding label_at
label_rest ls h = grind arith

expect_rest : (m : mark.Mark) (ls : List Lexeme) → AllFit ls → IfSome (expect m ls) AllFit
unfolding expect
expect_rest m ls h = grind arith

word_rest : (ls : List Lexeme) → AllFit ls → IfSome (word_at ls) (λ x. (is_word x.0 ≡ true) × AllFit x.1)
unfolding word_at
word_rest ls h = grind arith

number_rest : (ls : List Lexeme) → AllFit ls → IfSome (number_at ls) (λ x. (x.0 < 2 ^ 64) × AllFit x.1)
unfolding number_at
number_rest ls h = grind arith

-- Instructions.

abbrev OpFits : Op × List Lexeme → Type 0
OpFits x = ConstWithin x.0

numbered : (o : Op) (ls : List Lexeme) → AllFit ls
    → IfSome (cond (has_number o) (number_at ls >>= λ n. Some (with_number o n.0, n.1)) (Some (o, ls))) OpFits
numbered o ls h = grind (arith, bound, number_rest, bound_any)

op_fits : (ls : List Lexeme) → AllFit ls → IfSome (op_at ls) OpFits
unfolding op_at
op_fits ls h = grind (arith, bound, word_rest ls h, bound_any, numbered)

word_small : (n : ℕ) → in_word n < 2 ^ 32
word_small n = omega arith

link_within : (ls : List Lexeme) → IfSome (link_at ls) (λ x. LinkWithin x.0.0)
unfolding link_at
link_within ls = grind arith

abbrev NoteFits : (Note × Bool) × List Lexeme → Type 0
NoteFits x = NoteWithin (Some x.0.0)

note_within : (ls : List Lexeme) → IfSome (note_at ls) NoteFits
unfolding note_at
note_within ls = bound_any NoteFits (expect Less ls) _ (λ less. bound (λ x. LinkWithin x.0.0) NoteFits
    (link_at less) _ (link_within less) (λ pred p. bound_any NoteFits (expect Comma pred.1) _ (λ comma.
    bound_any NoteFits (number_at comma) _ (λ seq. bound_any NoteFits (expect Comma seq.1) _ (λ second. bound
    (λ x. LinkWithin x.0.0) NoteFits (link_at second) _ (link_within second)
    (grind (arith, bound_any, word_small)))))))

abbrev NotedFits : Op → (Option Note × Bool) × List Lexeme → Type 0
NotedFits o x = NoteSuits o x.0.0 × NoteWithin x.0.0

noted_fits : (o : Op) (ls : List Lexeme) → IfSome (noted o ls) (NotedFits o)
unfolding noted
noted_fits o ls = grind (arith, either, bound, note_within ls)

abbrev Lists : Type 0
Lists = List Target × List Target

abbrev ListsGiven : Op → Lists → Type 0
ListsGiven o x = DestsGiven o x.0 × OthersGiven o x.1

lists_fit : (o : Op) (ls : List Lexeme) → IfSome (lists_at o ls) (ListsGiven o)
unfolding lists_at
lists_fit o ls = grind arith

instr_fits : (own : Label) (ls : List Lexeme) → AllFit ls → IfSome (instr_line own ls) LineFits
unfolding instr_line
instr_fits own ls h = bound OpFits LineFits (op_at ls) _ (op_fits ls h) (λ o c. bound (NotedFits o.0) LineFits
    (noted o.0 o.1) _ (noted_fits o.0 o.1) (λ note n. bound (ListsGiven o.0) LineFits (lists_at o.0 note.1) _
    (lists_fit o.0 note.1) (grind arith)))

-- Other lines.

array_fits : (ls : List Lexeme) → AllFit ls → IfSome (array_line ls) LineFits
unfolding array_line
array_fits ls h = bound (λ x. (is_word x.0 ≡ true) × AllFit x.1) LineFits (word_at ls) _ (word_rest ls h)
    (grind (arith, bound_any, done_some))

send_fits : (ls : List Lexeme) → IfSome (send_line ls) LineFits
unfolding send_line
send_fits ls = grind arith

branch_fits : (ls : List Lexeme) → IfSome (branch_line ls) LineFits
unfolding branch_line
branch_fits ls = grind arith

pad_fits : (ls : List Lexeme) → IfSome (pad_line ls) LineFits
unfolding pad_line
pad_fits ls = bound_any LineFits (number_at ls) _ (λ k. done_some LineFits (targets_at k.1).1 _ tt)

headed_fits : (h : heads.Head) (ls : List Lexeme) → AllFit ls → IfSome (headed h ls) LineFits
unfolding headed
headed_fits h ls f = grind (arith, bound_any, array_fits, pad_fits, branch_fits, send_fits, done_some)

word_line_fits : (ls : List Lexeme) → AllFit ls → IfSome (word_line ls) LineFits
unfolding word_line
word_line_fits ls h = grind (arith, bound, word_rest ls h, bound_any, headed_fits)

line_fits : (ls : List Lexeme) → AllFit ls → IfSome (line_of ls) LineFits
unfolding line_of
line_fits ls h = either LineFits (is_own ls) _ _ (λ _. bound (λ x. AllFit x.1) LineFits (label_at ls) _
    (label_rest ls h) (λ own r. bound AllFit LineFits (expect Colon own.1) _ (expect_rest Colon own.1 r) (λ
    colon q. instr_fits own.0 colon q))) (λ _. word_line_fits ls h)

formed_fits : (o : Option Line) (wide : Bool) → IfSome o LineFits → ReadingFits (formed o wide)
formed_fits o wide h = grind arith

items_fit : (ls : List Lexeme) (wide : Bool) → AllFit ls → ReadingFits (read_items ls wide)
items_fit ls wide h = grind (arith, formed_fits, line_fits)

lexed_reading_fits : (o : Option Lexed) → IfSome o (λ l. AllFit l.items) → ReadingFits (read_lexed o)
lexed_reading_fits o h = grind (arith, items_fit)

-- what a line of a text says
pub reading_fits : (text : List ℕ) → ReadingFits (reading text)
unfolding reading
reading_fits text = lexed_reading_fits (lexed text) (lexed_fits text)
