-- What is wrong at a place is one thing, and nothing is wrong where a lexeme stands within the limits, or at
-- the end of the text.
use Rattle.std.specs.Prelude.{◌≡◌, ℕ, ◌^◌, ◌≤◌, ◌<◌, ◌==◌, length, true, List, [], ◌∷◌, ◌++◌, refl}
use Rattle.std.proofs.Common.{arith, sym, ap, ◌∙◌}
use Rattle.std.proofs.lemmas.Bool.{or_from, or_left, and_parts, eqb-true}
use Rattle.ws_words.specs.Digits.{is_digit, is_number, value_of}
use Rattle.src_ast.specs.declared.lexeme.Mark.{Mark}
use Rattle.src_ast.specs.declared.lexeme.Mark.TheVariants.{LessEq, MoreEq, Same, Differs}
use Rattle.src_ast.specs.declared.lexeme.Mark.TheVariants.{ShiftLeft, ShiftRight, Less, More, Assign, Bang}
use Rattle.src_ast.specs.declared.lexeme.Shape.{Shape}
use Rattle.src_ast.specs.declared.lexeme.Shape.TheVariants as shape
use Rattle.src_ast.specs.declared.fault.RefusalKind.{RefusalKind}
use Rattle.src_ast.specs.declared.fault.RefusalKind.TheVariants.{Byte, Wide, Limit}
use Rattle.src_ast.specs.declared.fault.Quantity.TheVariants.{NameBytes, Depth, Lexemes}
use Rattle.src_ast.specs.Lexemes.{is_end, is_blank, spelling, Spells, IsShort, open_past, row_past}
use Rattle.src_ast.specs.LexFaults.{BeginsNothing, Wrong}
use Rattle.src_lex.specs.Reads.{begins_gap, ends_gap}
use Rattle.src_lex.proofs.Unique.{head_kind, spelled_kind, spelled_same, run_same, word_kind, number_kind}
use Rattle.src_lex.proofs.Runs.{number_all}
use Rattle.src_lex.proofs.Compared.{kind_ends_gap, spelled_ends_gap}
use Rattle.ws_words.specs.Letters.{is_word_byte, is_word, starts_without}

pub end_kind : (xs : List ℕ) → is_end xs ≡ true → head_kind xs ≡ 0
end_kind xs h = grind (arith, eqb-true, and_parts)

-- no gap is left at the end of the text
pub end_ends_gap : (xs : List ℕ) → is_end xs ≡ true → ends_gap xs ≡ true
end_ends_gap xs h = or_left (is_end xs) (starts_without begins_gap xs) h

-- at the end of the text no lexeme stands
pub end_denies : (s : Shape) (r bytes following : List ℕ) → is_end r ≡ true → r ≡ bytes ++ following
    → Spells s bytes following → ⊥
end_denies s r bytes following h e p = grind (arith, spelled_kind, end_kind)

nothing_kind : (b : ℕ) (bytes : List ℕ) → BeginsNothing b → head_kind (b ∷ bytes) ≡ 3
nothing_kind b bytes n = rw (or_from (is_blank b) (b == 35) n.blank n.comment, n.letter, n.digit) refl

-- no gap is left before what is wrong
pub wrong_ends_gap : (o w : ℕ) (r : List ℕ) (k : RefusalKind) → Wrong o w r k → ends_gap r ≡ true
wrong_ends_gap o w r k h =
    grind (arith, kind_ends_gap, nothing_kind, number_kind, word_kind, spelled_ends_gap)

-- at the end of the text nothing is wrong
pub end_right : (o w : ℕ) (r : List ℕ) (k : RefusalKind) → is_end r ≡ true → Wrong o w r k → ⊥
end_right o w r k h i = grind (arith, nothing_kind, end_kind, number_kind, word_kind, end_denies)

-- the mark of the first byte
abbrev first_mark : Mark → Mark
first_mark LessEq = Less
first_mark MoreEq = More
first_mark Same = Assign
first_mark Differs = Bang
first_mark ShiftLeft = Less
first_mark ShiftRight = More
first_mark m = m

abbrev first_byte : List ℕ → List ℕ
first_byte [] = []
first_byte (b ∷ bytes) = b ∷ []

first_spelled : (m : Mark) (more : List ℕ) → first_byte (spelling m ++ more) ≡ spelling (first_mark m) ++ []
first_spelled m more = grind arith

-- a byte that begins nothing begins no lexeme
byte_denies : (b : ℕ) (rest : List ℕ) (s : Shape) (bytes following : List ℕ) → BeginsNothing b
    → b ∷ rest ≡ bytes ++ following → Spells s bytes following → ⊥
byte_denies b rest (shape.Word v) bytes following n e p = grind (arith, spelled_kind, nothing_kind)
byte_denies b rest (shape.Number v) bytes following n e p = grind (arith, spelled_kind, nothing_kind)
byte_denies b rest (shape.Mark m) bytes following n e (Spells.mark k is longest) =
    n.mark (first_mark k) [] (ap first_byte (e ∙ ap (λ x. x ++ following) is) ∙ first_spelled k following)

wide_denies : (digits far : List ℕ) (s : Shape) (bytes following : List ℕ) → is_number digits ≡ true
    → starts_without is_digit far ≡ true → 2 ^ 64 ≤ value_of digits
    → digits ++ far ≡ bytes ++ following → Spells s bytes following → ⊥
wide_denies digits far (shape.Word v) bytes following n t l e p = grind (arith, spelled_kind, number_kind)
wide_denies digits far (shape.Number v) bytes following n t l e (Spells.number m w stops is less) =
    let r = run_same is_digit digits bytes far following (number_all digits n) (number_all bytes w) t stops
    e in
    let same = ap value_of r.front in omega arith
wide_denies digits far (shape.Mark m) bytes following n t l e p = grind (arith, spelled_kind, number_kind)

-- where a long word stands, each lexeme is that word
long_is : (word far : List ℕ) (s : Shape) (bytes following : List ℕ) → is_word word ≡ true
    → starts_without is_word_byte far ≡ true → word ++ far ≡ bytes ++ following → Spells s bytes following
    → s ≡ shape.Word word
long_is word far s bytes following n t e p =
    sym ((spelled_same (shape.Word word) s word far bytes following (Spells.word n t) p e).0)

-- where a lexeme stands within the limits, nothing is wrong
pub wrong_denies : (o w : ℕ) (r : List ℕ) (k : RefusalKind) (s : Shape) (bytes following : List ℕ)
    → Wrong o w r k → r ≡ bytes ++ following → Spells s bytes following
    → IsShort s → open_past o s ≤ 32 → row_past w s ≤ 256 → ⊥
wrong_denies o w r k s bytes following (Wrong.byte b rest x n) e p q f g = grind (arith, byte_denies)
wrong_denies o w r k s bytes following (Wrong.wide digits far x n t l) e p q f g = grind (arith, wide_denies)
wrong_denies o w r k s bytes following (Wrong.long word far x n t l) e p q f g = grind (arith, long_is)
wrong_denies o w r k s bytes following (Wrong.deep u word far x v l) e p q f g = grind (arith, spelled_same)
wrong_denies o w r k s bytes following (Wrong.crowded u word far x v t l) e p q f g =
    grind (arith, spelled_same)

depth_in_row : (o w : ℕ) (s : Shape) → o ≤ 32 → 32 < open_past o s → row_past w s ≤ 256
depth_in_row o w s h k = grind arith

-- What each wrong thing leaves no room for.
byte_only : (o w : ℕ) (r : List ℕ) (k : RefusalKind) (b : ℕ) (rest : List ℕ) → r ≡ b ∷ rest → BeginsNothing b
    → Wrong o w r k → Byte ≡ k
byte_only o w r k b rest e n (Wrong.byte c bytes x m) = refl
byte_only o w r k b rest e n (Wrong.wide digits far x m t l) = grind (arith, number_kind, nothing_kind)
byte_only o w r k b rest e n (Wrong.long word far x m t l) = grind (arith, word_kind, nothing_kind)
byte_only o w r k b rest e n (Wrong.deep s bytes far x p l) = grind (arith, byte_denies)
byte_only o w r k b rest e n (Wrong.crowded s bytes far x p q l) = grind (arith, byte_denies)

wide_only : (o w : ℕ) (r : List ℕ) (k : RefusalKind) (digits following : List ℕ) → r ≡ digits ++ following
    → is_number digits ≡ true → starts_without is_digit following ≡ true → 2 ^ 64 ≤ value_of digits
    → Wrong o w r k → Wide ≡ k
wide_only o w r k digits following e n t l h = grind (arith, byte_only, word_kind, number_kind, wide_denies)

long_only : (o w : ℕ) (r : List ℕ) (k : RefusalKind) (word following : List ℕ) → o ≤ 32
    → r ≡ word ++ following → is_word word ≡ true → starts_without is_word_byte following ≡ true
    → 64 < length word
    → Wrong o w r k → Limit NameBytes ≡ k
long_only o w r k word following h e n t l (Wrong.byte b rest x m) = grind (arith, byte_only)
long_only o w r k word following h e n t l (Wrong.wide digits far x m t' l') = grind (arith, wide_only)
long_only o w r k word following h e n t l (Wrong.long word' far x m t' l') = refl
long_only o w r k word following h e n t l (Wrong.deep s bytes far x p l') = grind (arith, long_is)
long_only o w r k word following h e n t l (Wrong.crowded s bytes far x p q l') = grind (arith, long_is)

deep_only : (o w : ℕ) (r : List ℕ) (k : RefusalKind) (s : Shape) (bytes following : List ℕ) → o ≤ 32
    → r ≡ bytes ++ following → Spells s bytes following → 32 < open_past o s → Wrong o w r k → Limit Depth ≡ k
deep_only o w r k s bytes following h e p l (Wrong.byte b rest x m) =
    sym (byte_only o w r (Limit Depth) b rest x m (Wrong.deep s bytes following e p l))
deep_only o w r k s bytes following h e p l (Wrong.wide digits far x m t' l') =
    sym (wide_only o w r (Limit Depth) digits far x m t' l' (Wrong.deep s bytes following e p l))
deep_only o w r k s bytes following h e p l (Wrong.long word far x m t' l') =
    sym (long_only o w r (Limit Depth) word far h x m t' l' (Wrong.deep s bytes following e p l))
deep_only o w r k s bytes following h e p l (Wrong.deep t bytes' far x q l') = refl
deep_only o w r k s bytes following h e p l (Wrong.crowded t bytes' far x q short l') =
    grind (arith, spelled_same, depth_in_row)

crowded_only : (o w : ℕ) (r : List ℕ) (k : RefusalKind) → o ≤ 32 → Wrong o w r (Limit Lexemes) → Wrong o w r k
    → Limit Lexemes ≡ k
crowded_only o w r k h c (Wrong.byte b rest x n) = sym (byte_only o w r (Limit Lexemes) b rest x n c)
crowded_only o w r k h c (Wrong.wide digits far x n t l) = grind (arith, wide_only)
crowded_only o w r k h c (Wrong.long word far x n t l) = grind (arith, long_only)
crowded_only o w r k h c (Wrong.deep s bytes far x p l) = grind (arith, deep_only)
crowded_only o w r k h c (Wrong.crowded s bytes far x p short l) = refl

-- one thing alone is wrong at a place
pub one_wrong : (o w : ℕ) (r : List ℕ) (j k : RefusalKind) → o ≤ 32 → Wrong o w r j → Wrong o w r k → j ≡ k
one_wrong o w r j k h (Wrong.byte b rest x n) q = byte_only o w r k b rest x n q
one_wrong o w r j k h (Wrong.wide digits far x n t l) q = wide_only o w r k digits far x n t l q
one_wrong o w r j k h (Wrong.long word far x n t l) q = long_only o w r k word far h x n t l q
one_wrong o w r j k h (Wrong.deep s bytes far x p l) q = deep_only o w r k s bytes far h x p l q
one_wrong o w r j k h (Wrong.crowded s bytes far x p short l) q =
    crowded_only o w r k h (Wrong.crowded s bytes far x p short l) q
