-- Every text has lexemes within the limits, or a first fault.
use Rattle.std.specs.Prelude.{◌≡◌, ℕ, zero, suc, ◌^◌, ◌≤◌, ◌<◌, ◌==◌, nat_le, length, Bool, true, false}
use Rattle.std.specs.Prelude.{List, [], ◌∷◌, ◌++◌, Some, None, Result, Ok, Err, ◌⊎◌, refl}
use Rattle.std.specs.List.{list_all, prefix_len}
use Rattle.std.proofs.Common.{arith, sym, ap, inl, inr, take, drop, get_or, length-append}
use Rattle.std.proofs.lemmas.Bool.{both_ways, or_from, leb-true, leb-false}
use Rattle.std.proofs.lemmas.List.{take-append-drop, length-take-le}
use Rattle.ws_words.specs.Digits.{is_digit, value_of}
use Rattle.src_ast.specs.declared.lexeme.Place.{Place}
use Rattle.src_ast.specs.declared.lexeme.Lexeme.{Lexeme}
use Rattle.src_ast.specs.declared.lexeme.Shape.{Shape}
use Rattle.src_ast.specs.declared.lexeme.Shape.TheVariants as shape
use Rattle.src_ast.specs.declared.fault.Refusal.{Refusal}
use Rattle.src_ast.specs.declared.fault.RefusalKind.{RefusalKind}
use Rattle.src_ast.specs.declared.fault.RefusalKind.TheVariants.{Byte, Wide, Limit}
use Rattle.src_ast.specs.declared.fault.Quantity.TheVariants.{NameBytes, Depth, Lexemes}
use Rattle.src_ast.specs.Lexemes.{start, after, is_blank, is_gap, is_comment, is_end, IsShort, open_past}
use Rattle.src_ast.specs.Lexemes.{row_past}
use Rattle.src_ast.specs.LexFaults.{Wrong, IsLexAnswer}
use Rattle.src_lex.specs.Reads.{Reads, begins_gap, ends_gap}
use Rattle.src_lex.specs.Marks.{mark_of_one, mark_of_front}
use Rattle.src_lex.proofs.Marks.{reads_one, reads_two, no_mark}
use Rattle.src_lex.proofs.Words.{word_read, word_long, number_read, number_wide, byte_wrong}
use Rattle.src_lex.proofs.Reached.{Reached, at_start, past_gap, past_lexeme, all_read, fault_here}
use Rattle.src_lex.proofs.Lawful.{one_lexing_of, no_fault_of, one_fault_of}
use Rattle.src_ast.specs.Once.{ExactlyOne}
use Rattle.ws_words.specs.Letters.{is_letter, is_word_byte, not_feed}

-- a text taken apart: a front of this kind, and a rest before which no gap is left
record Cut (is_front : List ℕ → Bool) (text : List ℕ) : Type 0 where
  front : List ℕ
  rest : List ℕ
  is : text ≡ front ++ rest
  kind : is_front front ≡ true
  whole : ends_gap rest ≡ true

cut_more : (p q : List ℕ → Bool) (b : ℕ) (text : List ℕ)
    → ((front : List ℕ) → p front ≡ true → q (b ∷ front) ≡ true) → Cut p text → Cut q (b ∷ text)
cut_more p q b text up c = record {
  front = b ∷ c.front;
  rest = c.rest;
  is = ap (λ t. b ∷ t) c.is;
  kind = up c.front c.kind;
  whole = c.whole;
}

cut_here : (text : List ℕ) → ends_gap text ≡ true → Cut is_gap text
cut_here text h = record { front = []; rest = text; is = refl; kind = refl; whole = h }

hash_cut : (b : ℕ) (text : List ℕ) → is_blank b ≡ false → (b == 35) ≡ true → (list_all not_feed text ≡ true)
    ⊎ Cut is_comment text → Cut is_gap (b ∷ text)
hash_cut b text blank hash (inl open') = cut_here (b ∷ text) (rw (hash, open') refl)
hash_cut b text blank hash (inr c) = cut_more is_comment is_gap b text (λ front h. rw (blank, hash) h) c

comment_more : (b : ℕ) (text : List ℕ) → (b == 10) ≡ false → (list_all not_feed text ≡ true)
    ⊎ Cut is_comment text
    → (list_all not_feed (b ∷ text) ≡ true) ⊎ Cut is_comment (b ∷ text)
comment_more b text feed (inl open') = inl (rw (feed, open') refl)
comment_more b text feed (inr c) = inr (cut_more is_comment is_comment b text (λ front h. rw feed h) c)

-- the longest gap in front of a text; after a `#`, the comment with its line feed and the gap that follows,
-- or a comment to the end
mutual
  gap_cut : (text : List ℕ) → Cut is_gap text
  gap_cut [] = cut_here [] refl
  gap_cut (b ∷ text) =
      (elim (is_blank b) as (λ t. is_blank b ≡ t → Cut is_gap (b ∷ text)) [
        | true ↦ λ blank. cut_more is_gap is_gap b text (λ front h. rw blank h) (gap_cut text)
        | false ↦ λ blank. (elim (b == 35) as (λ t. (b == 35) ≡ t → Cut is_gap (b ∷ text)) [
          | true ↦ λ hash. hash_cut b text blank hash (comment_cut text)
          | false ↦ λ hash. cut_here (b ∷ text) (rw (hash, blank) refl)
        ]) refl
      ]) refl

  comment_cut : (text : List ℕ) → (list_all not_feed text ≡ true) ⊎ Cut is_comment text
  comment_cut [] = inl refl
  comment_cut (b ∷ text) =
      (elim (b == 10) as (λ t. (b == 10) ≡ t → (list_all not_feed (b ∷ text) ≡ true)
      ⊎ Cut is_comment (b ∷ text)) [
        | true ↦ λ feed. inr (cut_more is_gap is_comment b text (λ front h. rw feed h) (gap_cut text))
        | false ↦ λ feed. comment_more b text feed (comment_cut text)
      ]) refl

-- what stands in front of a text where no gap begins: a lexeme, or what is wrong whatever stood before
data Front (text : List ℕ) : Type 0 where
  read : (s : Shape) (n : ℕ) → Reads s n text → IsShort s → Front text
  wrong : (kind : RefusalKind) → ((open' row : ℕ) → Wrong open' row text kind) → Front text

word_front : (text : List ℕ) → 0 < length text → is_letter (get_or text 0 0) ≡ true → Front text
word_front text some letter =
    let n = prefix_len is_word_byte text in
    let r = word_read text n (take n text) some letter refl refl in
    (elim (nat_le n 64) as (λ t. nat_le n 64 ≡ t → Front text) [
      | true ↦ λ h. read (shape.Word (take n text)) n r (let e = length-take-le n text r.within in
          let l = leb-true n 64 h in omega arith)
      | false ↦ λ h. wrong (Limit NameBytes) (word_long text n some letter refl (leb-false n 64 h))
    ]) refl

number_front : (text : List ℕ) → 0 < length text → is_digit (get_or text 0 0) ≡ true → Front text
number_front text some digit =
    let n = prefix_len is_digit text in
    let v = value_of (take n text) in
    (elim (nat_le (2 ^ 64) v) as (λ t. nat_le (2 ^ 64) v ≡ t → Front text) [
      | true ↦ λ h. wrong Wide (number_wide text n some digit refl (λ k. leb-true (2 ^ 64) v h))
      | false ↦
          λ h. read (shape.Number v) n (number_read text n v some digit refl refl (leb-false (2 ^ 64) v h)) tt
    ]) refl

mark_front : (b : ℕ) (rest : List ℕ) → begins_gap b ≡ false → is_letter b ≡ false → is_digit b ≡ false
    → Front (b ∷ rest)
mark_front b rest gap letter digit =
    (elim (mark_of_front (b ∷ rest)) as (λ o. mark_of_front (b ∷ rest) ≡ o → Front (b ∷ rest)) [
      | Some m ↦ λ two. read (shape.Mark m) 2 (reads_two (b ∷ rest) m two) tt
      | None ↦ λ two. (elim (mark_of_one b) as (λ o. mark_of_one b ≡ o → Front (b ∷ rest)) [
        | Some m ↦ λ one. read (shape.Mark m) 1 (reads_one (b ∷ rest) b rest m refl two one) tt
        | None ↦ λ one. wrong Byte (byte_wrong (b ∷ rest) (omega arith) gap letter digit
            (no_mark (b ∷ rest) b rest refl two one))
      ]) refl
    ]) refl

front_of : (b : ℕ) (rest : List ℕ) → begins_gap b ≡ false → Front (b ∷ rest)
front_of b rest gap =
    (elim (is_letter b) as (λ t. is_letter b ≡ t → Front (b ∷ rest)) [
      | true ↦ λ letter. word_front (b ∷ rest) (omega arith) letter
      | false ↦ λ letter. (elim (is_digit b) as (λ t. is_digit b ≡ t → Front (b ∷ rest)) [
        | true ↦ λ digit. number_front (b ∷ rest) (omega arith) digit
        | false ↦ λ digit. mark_front b rest gap letter digit
      ]) refl
    ]) refl

-- what a text comes to
abbrev pub Answered : List ℕ → Type 0
Answered text = (answer : Result (List Lexeme × Place) Refusal) × IsLexAnswer text answer

refused_here : (text : List ℕ) (items : List Lexeme) (at : Place) (rest : List ℕ) (open' row : ℕ)
    (kind : RefusalKind)
    → Reached text items at rest open' row → Wrong open' row rest kind → Answered text
refused_here text items at rest open' row kind r w =
    let refusal : Refusal = record { kind = kind; place = at } in
    (Err refusal, fault_here text items at rest open' row refusal r refl w)

no_gap_begins : (b : ℕ) (rest : List ℕ) → is_end (b ∷ rest) ≡ false → ends_gap (b ∷ rest) ≡ true
    → begins_gap b ≡ false
no_gap_begins b rest over whole = grind (arith, both_ways, or_from)

-- an answer for whatever is read so far, where fewer bytes than this are left
abbrev FromHere : List ℕ → ℕ → Type 0
FromHere text k = (items : List Lexeme) (at : Place) (rest : List ℕ) (open' row : ℕ) → length rest < k
    → Reached text items at rest open' row → Answered text

at_front : (k : ℕ) (text : List ℕ) (items : List Lexeme) (at : Place) (rest : List ℕ) (open' row : ℕ)
    → FromHere text k → length rest ≤ k → Reached text items at rest open' row → Front rest → Answered text
at_front k text items at rest open' row answers few r (wrong kind w) = refused_here text items at rest open'
    row kind r (w open' row)
at_front k text items at rest open' row answers few r (read s n reads short) =
    let whole : rest ≡ take n rest ++ drop n rest = sym (take-append-drop n rest) in
    let l : Lexeme = record { shape = s; place = at } in
    (elim (nat_le (open_past open' s) 32) as (λ t. nat_le (open_past open' s) 32 ≡ t → Answered text) [
      | true ↦ λ deep. (elim (nat_le (row_past row s) 256) as (λ t. nat_le (row_past row s) 256 ≡ t
          → Answered text) [
            | true ↦ λ crowded. answers (items ++ l ∷ []) (after at (take n rest)) (drop n rest)
                (open_past open' s) (row_past row s)
                (let e = length-take-le n rest reads.within in let some = reads.some in
                omega (arith, ap length whole, length-append (take n rest) (drop n rest)))
                (past_lexeme text items l rest (take n rest) (drop n rest) open' row (open_past open' s)
                (row_past row s) r whole reads.spells short
                refl (leb-true (open_past open' s) 32 deep) refl (leb-true (row_past row s) 256 crowded))
            | false ↦ λ crowded. refused_here text items at rest open' row (Limit Lexemes) r
                (Wrong.crowded s (take n rest) (drop n rest) whole reads.spells short
                (leb-false (row_past row s) 256 crowded))
          ]) refl
      | false ↦ λ deep. refused_here text items at rest open' row (Limit Depth) r
          (Wrong.deep s (take n rest) (drop n rest) whole reads.spells
          (leb-false (open_past open' s) 32 deep))
    ]) refl

after_gap : (k : ℕ) (text : List ℕ) (items : List Lexeme) (at : Place) (rest : List ℕ) (open' row : ℕ)
    → FromHere text k → length rest ≤ k → ends_gap rest ≡ true → Reached text items at rest open' row
    → Answered text
after_gap k text items at [] open' row answers few whole r =
    (Ok (items, after at []), (all_read r refl refl, r.kept))
after_gap k text items at (b ∷ rest) open' row answers few whole r =
    (elim (is_end (b ∷ rest)) as (λ t. is_end (b ∷ rest) ≡ t → Answered text) [
      | true ↦ λ over. (Ok (items, after at (b ∷ rest)), (all_read r over refl, r.kept))
      | false ↦ λ over. at_front k text items at (b ∷ rest) open' row answers few r
          (front_of b rest (no_gap_begins b rest over whole))
    ]) refl

answer_from : (k : ℕ) (text : List ℕ) → FromHere text k
answer_from zero text items at rest open' row few r = absurd (omega arith)
answer_from (suc k) text items at rest open' row few r =
    let c = gap_cut rest in
    after_gap k text items (after at c.front) c.rest open' row (answer_from k text)
    (omega (arith, ap length c.is, length-append c.front c.rest)) c.whole
    (past_gap text items at rest c.front c.rest open' row r c.is c.kind)

-- every text has lexemes within the limits, or a first fault
pub answered : (text : List ℕ) → Answered text
answered text = answer_from (suc (length text)) text [] start text 0 0 (omega arith) (at_start text)

same_answer : (text : List ℕ) (a b : Result (List Lexeme × Place) Refusal) → IsLexAnswer text a
    → IsLexAnswer text b → a ≡ b
same_answer text (Ok a) (Ok b) x y = let e = one_lexing_of text a.0 b.0 a.1 b.1 x.0 y.0 in
    λ i. Ok (e.0 i, e.1 i)
same_answer text (Ok a) (Err s) x y = absurd (no_fault_of text a.0 a.1 s x.0 x.1 y)
same_answer text (Err r) (Ok b) x y = absurd (no_fault_of text b.0 b.1 r y.0 y.1 x)
same_answer text (Err r) (Err s) x y = ap (λ t. Err t) (one_fault_of text r s x y)

-- and one of them alone
pub lexed_once : (text : List ℕ) → ExactlyOne (IsLexAnswer text)
lexed_once text = let a = answered text in grind (arith, same_answer)
