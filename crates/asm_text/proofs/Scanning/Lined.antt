-- The lines of printed lines.
use Rattle.std.proofs.Common.{◌≡◌, ℕ, ◌==◌, ◌&&◌, not, Bool, true, false, List, [], ◌∷◌, refl, ap, ◌∙◌}
use Rattle.std.proofs.Common.{append_assoc, arith}
use Rattle.std.specs.List.{list_all, flat_map}
use Rattle.std.proofs.lemmas.Bool.{and_parts, and_from}
use Rattle.asm_text.specs.declared.lexeme.Mark as marks
use Rattle.asm_text.specs.declared.lexeme.Lexeme.{Lexeme}
use Rattle.asm_text.specs.declared.writer.After as afters
use Rattle.asm_text.specs.declared.writer.After.TheVariants as after
use Rattle.asm_text.specs.Printed.{mark_bytes, text_of, line_text}
use Rattle.asm_text.specs.Reading.{lines_of, trimmed}
use Rattle.asm_text.proofs.Scanning.Cutting.{first_line}
use Rattle.ws_words.specs.Letters.{not_feed, is_word_byte}
use Rattle.asm_text.specs.Spelled.{AreLexemes, AllLexemes, texts}
use Rattle.asm_text.proofs.Scanning.Bytes.{text_all}
use Rattle.asm_text.proofs.Scanning.Spelt.{other}

-- neither a line feed nor a carriage return
abbrev pub is_inner : ℕ → Bool
is_inner b = not (b == 10) && not (b == 13)

abbrev pub AreInner : List ℕ → Type 0
AreInner text = list_all is_inner text ≡ true

byte_inner : (b : ℕ) → is_word_byte b ≡ true → is_inner b ≡ true
byte_inner b h = rw (other is_word_byte b 10 h refl, other is_word_byte b 13 h refl) refl

mark_inner : (m : marks.Mark) → AreInner (mark_bytes m)
mark_inner m = grind arith

text_inner : (a : afters.After) (ls : List Lexeme) → AreLexemes ls → AreInner (text_of a ls)
text_inner = text_all is_inner byte_inner mark_inner refl

others_of : (text : List ℕ) → AreInner text → list_all not_feed text ≡ true
others_of [] h = refl
others_of (b ∷ text) h = let parts = and_parts (is_inner b) (list_all is_inner text) h in
    grind (arith, and_from, and_parts, others_of text parts.1)

no_return : (b : ℕ) → is_inner b ≡ true → (b == 13) ≡ false
no_return b h = grind arith

trimmed_same : (text : List ℕ) → AreInner text → trimmed text ≡ text
trimmed_same (b ∷ c ∷ text) h =
    ap (λ l. b ∷ l) (trimmed_same (c ∷ text) (and_parts (is_inner b) (list_all is_inner (c ∷ text)) h).1)
trimmed_same text h = grind (arith, no_return, and_parts)

-- The lines of printed lines are those, and an empty one behind the last line feed.
pub lines_of_printed : (lines : List (List Lexeme)) → AllLexemes lines
    → lines_of (flat_map line_text lines) ≡ texts lines
unfolding lines_of
lines_of_printed [] h = refl
lines_of_printed (l ∷ lines) h =
    let t = text_of after.Start l in
    let i : AreInner t = text_inner after.Start l h.0 in
    ap lines_of (append_assoc t (10 ∷ []) (flat_map line_text lines)) ∙ first_line t
    (flat_map line_text lines) (others_of t i)
    ∙ (λ j. trimmed_same t i j ∷ lines_of_printed lines h.1 j)
