-- How far a text has been read: whatever the rest leads to, the whole text does, after the lexemes read.
use Rattle.std.specs.Prelude.{◌≡◌, ℕ, ◌+◌, ◌≤◌, ◌<◌, length, IsTrue, List, [], ◌∷◌, ◌++◌, refl}
use Rattle.std.proofs.Common.{arith, sym, ap, ◌∙◌, append_assoc, append-nil, length-append, take, drop}
use Rattle.std.proofs.lemmas.List.{take-append-drop}
use Rattle.src_ast.specs.declared.lexeme.Place.{Place}
use Rattle.src_ast.specs.declared.lexeme.Lexeme.{Lexeme}
use Rattle.src_ast.specs.declared.lexeme.Shape.{Shape}
use Rattle.src_ast.specs.declared.fault.Refusal.{Refusal}
use Rattle.src_ast.specs.declared.fault.TextFault.{TextFault}
use Rattle.src_ast.specs.declared.fault.TextFault.TheVariants.{Refused, NoMemory}
use Rattle.src_ast.specs.Lexemes.{start, after, is_gap, is_end, LexesTo, Lex, Spells, IsShort, KeepLimits}
use Rattle.src_ast.specs.Lexemes.{open_past, row_past, open_after, row_after}
use Rattle.src_ast.specs.LexFaults.{Wrong, LexFault, IsLexFault}
use Rattle.src_lex.specs.Reads.{Reads, IsWrongHere, Exceeds}
use Rattle.src_lex.proofs.Places.{after_kept}
use Rattle.src_lex.proofs.Gaps.{gap_append}
use Rattle.src_ast.proofs.Pieces.{after-append as after_append}

-- a text is read so far: these lexemes, this place and rest, these counts
pub record Reached (text : List ℕ) (items : List Lexeme) (at : Place) (rest : List ℕ) (open' row : ℕ) : Type
    0 where
  pub leads : (ls : List Lexeme) (place : Place) (following : List ℕ) → LexesTo at rest ls place following
      → LexesTo start text (items ++ ls) place following
  pub kept : KeepLimits 0 0 items
  pub depth_is : open' ≡ open_after 0 items
  pub row_is : row ≡ row_after 0 items
  pub depth_kept : open' ≤ 32
  pub row_kept : row ≤ 256
  pub finish : after at rest ≡ after start text
  pub line : 0 < at.line
  pub column : 0 < at.column
  pub room : at.line + at.column + length rest ≤ length text + 2

-- nothing is read
pub at_start : (text : List ℕ) → Reached text [] start text 0 0
at_start text = grind arith

leads_gap : (at : Place) (gap front : List ℕ) → IsTrue (is_gap gap) → (ls : List Lexeme) (place : Place)
    (following : List ℕ)
    → LexesTo (after at gap) front ls place following → LexesTo at (gap ++ front) ls place following
leads_gap at gap front g all place following (LexesTo.stop more t h p) =
    LexesTo.stop (gap ++ more) (ap (λ x. gap ++ x) t ∙ sym (append_assoc gap more following))
    (gap_append gap more g h) (p ∙ sym (after_append at gap more))
leads_gap at gap front g all place following (LexesTo.next l more bytes far t h p s d) =
    LexesTo.next l (gap ++ more) bytes far (ap (λ x. gap ++ x) t ∙ sym (append_assoc gap more (bytes ++ far)))
    (gap_append gap more g h) (p ∙ sym (after_append at gap more)) s d

-- over a gap
pub past_gap : (text : List ℕ) (items : List Lexeme) (at : Place) (rest gap front : List ℕ) (open' row : ℕ)
    → Reached text items at rest open' row → rest ≡ gap ++ front → IsTrue (is_gap gap)
    → Reached text items (after at gap) front open' row
past_gap text items at rest gap front open' row r t g =
    grind (arith, after_kept, r.leads, leads_gap, after_append, after, length-append)

kept_append : (open' row : ℕ) (ls : List Lexeme) (l : Lexeme) → KeepLimits open' row ls → IsShort l.shape
    → open_past (open_after open' ls) l.shape ≤ 32 → row_past (row_after row ls) l.shape ≤ 256
    → KeepLimits open' row (ls ++ l ∷ [])
kept_append open' row [] l k s h g = (s, h, g, tt)
kept_append open' row (m ∷ ls) l k s h g =
    grind (arith, kept_append (open_past open' m.shape) (row_past row m.shape) ls l k.3 s h g)

open_append : (open' : ℕ) (ls : List Lexeme) (l : Lexeme) → open_after open' (ls ++ l ∷ []) ≡ open_past
    (open_after open' ls) l.shape
open_append open' [] l = refl
open_append open' (m ∷ ls) l = open_append (open_past open' m.shape) ls l

row_append : (row : ℕ) (ls : List Lexeme) (l : Lexeme) → row_after row (ls ++ l ∷ []) ≡ row_past
    (row_after row ls) l.shape
row_append row [] l = refl
row_append row (m ∷ ls) l = row_append (row_past row m.shape) ls l

-- over a lexeme within the limits
pub past_lexeme : (text : List ℕ) (items : List Lexeme) (l : Lexeme) (front bytes following : List ℕ)
    (open' row open_more row_more : ℕ)
    → Reached text items l.place front open' row → front ≡ bytes ++ following → Spells l.shape bytes following
    → IsShort l.shape
    → open_more ≡ open_past open' l.shape → open_more ≤ 32 → row_more ≡ row_past row l.shape → row_more ≤ 256
    → Reached text (items ++ l ∷ []) (after l.place bytes) following open_more row_more
past_lexeme text items l front bytes following open' row open_more row_more r t s short o ok w wk =
    let kept = after_kept l.place bytes r.line r.column in
    let depth_is : open_more ≡ open_past (open_after 0 items) l.shape =
    o ∙ ap (λ n. open_past n l.shape) r.depth_is in
    let row_is : row_more ≡ row_past (row_after 0 items) l.shape = w ∙ ap (λ n. row_past n l.shape)
    r.row_is in
    record {
      leads = λ ls place far d. rw (append_assoc items (l ∷ []) ls)
          (r.leads (l ∷ ls) place far (LexesTo.next l [] bytes following t refl refl s d));
      kept = kept_append 0 0 items l r.kept short (rw (← depth_is) ok) (rw (← row_is) wk);
      depth_is = depth_is ∙ sym (open_append 0 items l);
      row_is = row_is ∙ sym (row_append 0 items l);
      depth_kept = ok;
      row_kept = wk;
      finish = sym (after_append l.place bytes following) ∙ (ap (after l.place) (sym t) ∙ r.finish);
      line = kept.line;
      column = kept.column;
      room = let h = r.room in let k = kept.room in omega (arith, ap length t, length-append bytes following);
    }

pub here : (text : List ℕ) (items : List Lexeme) (at : Place) (rest : List ℕ) (open' row : ℕ)
    → Reached text items at rest open' row → LexesTo start text items at rest
here text items at rest open' row r =
    rw (← (append-nil items)) (r.leads [] at rest (LexesTo.stop [] refl refl refl))

-- at the end the lexemes are the text's
pub all_read : {text : List ℕ} {items : List Lexeme} {at : Place} {rest : List ℕ} {open' row : ℕ}
    {finish : Place} → Reached text items at rest open' row → IsTrue (is_end rest)
    → finish ≡ after at rest → Lex text items finish
all_read {text} {items} {at} {rest} {open'} {row} r e f = record {
  place = at;
  rest = rest;
  leads = here text items at rest open' row r;
  over = e;
  finish_is = f ∙ r.finish;
}

-- what is wrong at the rest is the first fault of the text
pub fault_here : (text : List ℕ) (items : List Lexeme) (at : Place) (rest : List ℕ) (open' row : ℕ)
    (r : Refusal) → Reached text items at rest open' row → r.place ≡ at
    → Wrong open' row rest r.kind → LexFault text r
fault_here text items at rest open' row refusal r p w = grind (arith, here)

-- The same as the code has it: by counts of bytes.

-- over a gap of n bytes
pub past_gap_at : {text : List ℕ} {items : List Lexeme} {at : Place} {rest : List ℕ} {open' row : ℕ}
    {gap front : List ℕ} {place : Place} (n : ℕ)
    → Reached text items at rest open' row → gap ≡ take n rest → front ≡ drop n rest
    → IsTrue (is_gap (take n rest)) → place ≡ after at gap → Reached text items place front open' row
past_gap_at {text} {items} {at} {rest} {open'} {row} n r g f h p =
    let whole : rest ≡ take n rest ++ drop n rest = sym (take-append-drop n rest) in
    let made : Reached text items (after at (take n rest)) (drop n rest) open' row =
    past_gap text items at rest (take n rest) (drop n rest) open' row r whole h in
    rw (p, g, f) made

-- over a lexeme of n bytes
pub past_lexeme_at : {text : List ℕ} {items all : List Lexeme} {s : Shape} {at place : Place}
    {front bytes following : List ℕ} {open' row open_more row_more n : ℕ}
    → Reached text items at front open' row → Reads s n front → IsShort s → bytes ≡ take n front
    → following ≡ drop n front → place ≡ after at bytes
    → all ≡ items ++ record { shape = s; place = at } ∷ []
    → (open_more ≡ open_past open' s) × (open_more ≤ 32) → (row_more ≡ row_past row s) × (row_more ≤ 256)
    → Reached text all place following open_more row_more
past_lexeme_at {text} {items} {all} {s} {at} {place} {front} {bytes} {following} {open'} {row} {open_more}
    {row_more} {n} r reads short b f p i o w =
    let whole : front ≡ take n front ++ drop n front = sym (take-append-drop n front) in
    let made : Reached text (items ++ record { shape = s; place = at } ∷ []) (after at (take n front))
    (drop n front) open_more row_more =
    past_lexeme text items (record { shape = s; place = at }) front (take n front) (drop n front) open' row
    open_more row_more r whole reads.spells short o.0 o.1 w.0 w.1 in
    rw (i, p, b, f) made

-- what is wrong here, whatever stood before, is the first fault
pub wrong_here : {text : List ℕ} {items : List Lexeme} {at : Place} {rest : List ℕ} {open' row : ℕ}
    (e : TextFault)
    → Reached text items at rest open' row → IsWrongHere rest at e → IsLexFault text e
wrong_here NoMemory r w = tt
wrong_here {text} {items} {at} {rest} {open'} {row} (Refused refusal) r w =
    fault_here text items at rest open' row refusal r w.0 (w.1 open' row)

-- a lexeme beyond a limit is the first fault
pub beyond_here : {text : List ℕ} {items : List Lexeme} {s : Shape} {n : ℕ} {at : Place} {rest : List ℕ}
    {open' row : ℕ} (e : TextFault)
    → Reached text items at rest open' row → Reads s n rest → IsShort s → Exceeds open' row s at e
    → IsLexFault text e
beyond_here e r reads short w = grind (arith, fault_here, take-append-drop)
