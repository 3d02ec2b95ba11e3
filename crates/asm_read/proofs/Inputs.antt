-- The words of an input section: how they are read, and that they are the only ones.
use Rattle.std.specs.Prelude.{◌≡◌, ℕ, zero, suc, ◌==◌, ◌^◌, ◌<◌, ◌≤◌, Bool, true, false, not, ◌&&◌, IsTrue}
use Rattle.std.specs.Prelude.{List, [], ◌∷◌, ◌++◌, length, take, drop, ◌⊎◌, Result, Ok, Err, refl}
use Rattle.std.proofs.Common.{sym, ap, ◌∙◌, subst, arith, append_assoc, append-nil, length-append, inl, inr}
use Rattle.std.specs.List.{list_all, prefix_len}
use Rattle.std.proofs.Math.Dec.{ltb}
use Rattle.std.proofs.lemmas.List.{nil_from_length, take-append-drop}
use Rattle.std.proofs.lemmas.Bool.{eqb-true, ltb-true, lt-ltb}
use Rattle.ws_words.specs.Digits.{is_number, value_of}
use Rattle.src_ast.specs.declared.lexeme.Place.{Place}
use Rattle.src_ast.specs.Lexemes.{after, is_blank}
use Rattle.src_ast.specs.Once.{ExactlyOne}
use Rattle.asm_read.specs.Sections.{program_of, input_of, place_below, input_place, IsItem, IsWordText}
use Rattle.asm_read.specs.Sections.{InputItems, stop, next, InputWords, InputFault, IsInputAnswer}
use Rattle.ws_words.specs.Letters.{starts_without}
use Rattle.ws_words.proofs.Runs.{prefix_all, prefix_stops}
use Rattle.ws_words.proofs.Numbers.{one_more}

abbrev is_dense : ℕ → Bool
is_dense b = not (is_blank b)

left_true : (a b : Bool) → IsTrue (a && b) → IsTrue a
left_true a b h = grind arith

right_true : (a b : Bool) → IsTrue (a && b) → IsTrue b
right_true a b h = grind arith

-- a run and what stands after it are the longest run
pub record Same (a b x y : List ℕ) : Type 0 where
  pub run : a ≡ b
  pub rest : x ≡ y

stops_at : (p : ℕ → Bool) (b : ℕ) (bytes x : List ℕ) → IsTrue (starts_without p x) → x ≡ b ∷ bytes
    → IsTrue (p b) → ⊥
stops_at p b bytes x s e h = grind arith

run_same : (p : ℕ → Bool) (a b x y : List ℕ) → IsTrue (list_all p a) → IsTrue (list_all p b)
    → IsTrue (starts_without p x) → IsTrue (starts_without p y) → a ++ x ≡ b ++ y → Same a b x y
run_same p [] [] x y ha hb sx sy e = record { run = refl; rest = e }
run_same p (c ∷ a) (d ∷ b) x y ha hb sx sy e =
    let one : c ≡ d = cc in
    let more : a ++ x ≡ b ++ y = cc in
    let s = run_same p a b x y (right_true (p c) (list_all p a) ha) (right_true (p d) (list_all p b) hb) sx sy
    more in
    record { run = ap (λ v. c ∷ v) s.run ∙ ap (λ n. n ∷ b) one; rest = s.rest }
run_same p a b x y ha hb sx sy e = grind (arith, stops_at, left_true)

-- an item begins with no blank
item_starts : (bytes rest : List ℕ) → IsItem bytes rest → IsTrue (starts_without is_blank (bytes ++ rest))
item_starts [] rest h = absurd (h.some refl)
item_starts (b ∷ bytes) rest h = left_true (not (is_blank b)) (list_all is_dense bytes) h.dense

no_item : (bytes rest : List ℕ) → IsItem bytes rest → bytes ++ rest ≡ [] → ⊥
no_item [] rest h e = h.some refl
no_item (b ∷ bytes) rest h e = cc

word_same : (a b : List ℕ) (v w : ℕ) → a ≡ b → IsWordText a v → IsWordText b w → v ≡ w
word_same a b v w e h k = sym h.1 ∙ (ap value_of e ∙ k.1)

-- two readings of a text have the same words, where the first comes to its end
same_words : (at : Place) (text ws vs : List ℕ) (p q : Place) (r s : List ℕ) → InputItems at text ws p r
    → InputItems at text vs q s → r ≡ [] → s ≡ [] → ws ≡ vs
same_words at text ws vs p q r s (stop a e h n o) (stop b f k m u) x y = refl
same_words at text ws vs p q r s (stop a e h n o) (next w b bytes further f k i t more) x y =
    let same = run_same is_blank a b r (bytes ++ further) h k n (item_starts bytes further i) (sym e ∙ f) in
    absurd (no_item bytes further i (sym same.rest ∙ x))
same_words at text ws vs p q r s (next w b bytes further f k i t more) (stop a e h n o) x y =
    let same = run_same is_blank a b s (bytes ++ further) h k n (item_starts bytes further i) (sym e ∙ f) in
    absurd (no_item bytes further i (sym same.rest ∙ y))
same_words at text ws vs p q r s (next {words =
    us} w b bytes further f k i t more) (next {words = zs} v c others far g l j u rest) x y =
    let same = run_same is_blank b c (bytes ++ further) (others ++ far) k l (item_starts bytes further i)
    (item_starts others far j) (sym f ∙ g) in
    let items = run_same is_dense bytes others further far i.dense j.dense i.longest j.longest same.rest in
    let again : InputItems (after (after at b) bytes) further zs q s = grind arith in
    grind (arith, word_same, same_words _ further us zs p q r s more again x y)

-- a text of words has no item that is none
no_fault : (at : Place) (text ws vs : List ℕ) (p q : Place) (r s bad far : List ℕ) → InputItems at text ws p r
    → InputItems at text vs q s → r ≡ [] → s ≡ bad ++ far → IsItem bad far → ((w : ℕ) → IsWordText bad w → ⊥)
    → ⊥
no_fault at text ws vs p q r s bad far (stop a e h n o) (stop b f k m u) x y item wrong =
    grind (arith, run_same, no_item)
no_fault at text ws vs p q r s bad far (stop a e h n o) (next w b bytes further f k i t more) x y item wrong =
    let same = run_same is_blank a b r (bytes ++ further) h k n (item_starts bytes further i) (sym e ∙ f) in
    no_item bytes further i (sym same.rest ∙ x)
no_fault at text ws vs p q r s bad far (next w b bytes further f k i t more) (stop a e h n o) x y item wrong =
    let same = run_same is_blank b a (bytes ++ further) s k h (item_starts bytes further i) n (sym f ∙ e) in
    let items = run_same is_dense bytes bad further far i.dense item.dense i.longest item.longest
    (same.rest ∙ y) in
    wrong w (subst (λ z. IsWordText z w) items.run t)
no_fault at text ws vs p q r s bad far (next {words =
    us} w b bytes further f k i t more) (next {words = zs} v c others away g l j u rest) x y item wrong =
    let same = run_same is_blank b c (bytes ++ further) (others ++ away) k l (item_starts bytes further i)
    (item_starts others away j) (sym f ∙ g) in
    let items = run_same is_dense bytes others further away i.dense j.dense i.longest j.longest same.rest in
    let again : InputItems (after (after at b) bytes) further zs q s = grind arith in
    no_fault _ further us zs p q r s bad far more again x y item wrong

pub one_list : (at : Place) (text ws vs : List ℕ) → InputWords at text ws → InputWords at text vs → ws ≡ vs
one_list at text ws vs a b = same_words at text ws vs a.place b.place [] [] a.items b.items refl refl

pub no_fault_in_words : (at : Place) (text ws : List ℕ) (p : Place) → InputWords at text ws
    → InputFault at text p → ⊥
no_fault_in_words at text ws p a b = grind (arith, no_fault)

-- Whatever the rest leads to, the whole does.
pub record Reading (at : Place) (text words : List ℕ) (place : Place) (rest : List ℕ) : Type 0 where
  pub leads : (more : List ℕ) (p : Place) (r : List ℕ) → InputItems place rest more p r
      → InputItems at text (words ++ more) p r

-- a run of blanks that is as long as possible
pub blank_run : (text run rest : List ℕ) (n : ℕ) → n ≡ prefix_len is_blank text → run ≡ take n text
    → rest ≡ drop n text → IsTrue (list_all is_blank run) × IsTrue (starts_without is_blank rest)
blank_run text run rest n e f g = grind (arith, prefix_all, prefix_stops)

-- an item, which has at least its first byte
pub item_run : (text run rest : List ℕ) (n : ℕ) → 0 < length text → IsTrue (starts_without is_blank text)
    → n ≡ prefix_len is_dense text → run ≡ take n text → rest ≡ drop n text
    → (0 < length run) × IsItem run rest
item_run text run rest n h s e f g = grind (arith, one_more, prefix_all, prefix_stops)

-- blanks to the end
pub reads_end : (at place : Place) (text words rest blanks front : List ℕ) → Reading at text words place rest
    → rest ≡ blanks ++ front → IsTrue (list_all is_blank blanks) → front ≡ [] → InputWords at text words
reads_end at place text words rest blanks front r e h n = record {
  place = after place blanks;
  items = subst (λ ws. InputItems at text ws (after place blanks) []) (append-nil words)
      (r.leads [] (after place blanks) [] (stop blanks (e ∙ ap (λ x. blanks ++ x) n) h refl refl));
}

-- an item that is no word
pub reads_fault : (at place after_blanks : Place) (text words rest blanks front bytes further : List ℕ)
    → Reading at text words place rest → rest ≡ blanks ++ front → IsTrue (list_all is_blank blanks)
    → IsTrue (starts_without is_blank front) → after_blanks ≡ after place blanks → front ≡ bytes ++ further
    → IsItem bytes further → ((word : ℕ) → IsWordText bytes word → ⊥) → InputFault at text after_blanks
reads_fault at place after_blanks text words rest blanks front bytes further r e h s p f i wrong = record {
  words = words;
  bytes = bytes;
  further = further;
  items = subst (λ ws. InputItems at text ws after_blanks (bytes ++ further)) (append-nil words) (r.leads []
      after_blanks (bytes ++ further) (stop blanks (e ∙ ap (λ x. blanks ++ x) f) h (grind arith) p));
  item = i;
  wrong = wrong;
}

-- one more word
pub reads_word : (at place after_blanks after_item : Place)
    (text words more rest blanks front bytes further : List ℕ) (word : ℕ) → Reading at text words place rest
    → rest ≡ blanks ++ front → IsTrue (list_all is_blank blanks)
    → after_blanks ≡ after place blanks → front ≡ bytes ++ further → IsItem bytes further
    → IsWordText bytes word → after_item ≡ after after_blanks bytes → more ≡ words ++ word ∷ []
    → Reading at text more after_item further
reads_word at place after_blanks after_item text words more rest blanks front bytes further word r e h p f i t
    q m = record {
      leads = λ others far x items. subst (λ ws. InputItems at text ws far x) (grind (arith, append_assoc))
          (r.leads (word ∷ others) far x (next word blanks bytes further (e ∙ ap (λ z. blanks ++ z) f) h i t
          (grind arith)));
    }

pub empty_is : (xs : List ℕ) (b : Bool) → b ≡ (length xs == 0) → b ≡ true → xs ≡ []
empty_is xs b e h = nil_from_length xs (eqb-true (length xs) 0 (sym e ∙ h))

-- two readings that end at items that are no words end at one place
same_fault : (at : Place) (text ws vs : List ℕ) (p q : Place) (r s bad far ill away : List ℕ)
    → InputItems at text ws p r → InputItems at text vs q s → r ≡ bad ++ far → s ≡ ill ++ away
    → IsItem bad far → IsItem ill away → ((w : ℕ) → IsWordText bad w → ⊥) → ((w : ℕ) → IsWordText ill w → ⊥)
    → p ≡ q
same_fault at text ws vs p q r s bad far ill away (stop a e h n o) (stop b f k m u) x y item other wrong
    mistaken = grind (arith, run_same)
same_fault at text ws vs p q r s bad far ill away (stop a e h n o) (next w b bytes further f k i t more) x y
    item other wrong mistaken =
    let same = run_same is_blank a b r (bytes ++ further) h k n (item_starts bytes further i) (sym e ∙ f) in
    let items = run_same is_dense bytes bad further far i.dense item.dense i.longest item.longest (sym
    same.rest ∙ x) in
    absurd (wrong w (grind arith))
same_fault at text ws vs p q r s bad far ill away (next w b bytes further f k i t more) (stop a e h n o) x y
    item other wrong mistaken =
    let same = run_same is_blank a b s (bytes ++ further) h k n (item_starts bytes further i) (sym e ∙ f) in
    let items = run_same is_dense bytes ill further away i.dense other.dense i.longest other.longest (sym
    same.rest ∙ y) in
    absurd (mistaken w (grind arith))
same_fault at text ws vs p q r s bad far ill away (next {words = us} w b bytes further f k i t more)
    (next {words = zs} v c others along g l j u rest) x y item other wrong mistaken =
    let same = run_same is_blank b c (bytes ++ further) (others ++ along) k l (item_starts bytes further i)
    (item_starts others along j) (sym f ∙ g) in
    let items = run_same is_dense bytes others further along i.dense j.dense i.longest j.longest same.rest in
    let again : InputItems (after (after at b) bytes) further zs q s = grind arith in
    same_fault _ further us zs p q r s bad far ill away more again x y item other wrong mistaken

-- an input section has at most one first item that is no word
pub one_fault : (at : Place) (text : List ℕ) (p q : Place) → InputFault at text p → InputFault at text q
    → p ≡ q
one_fault at text p q a b = grind (arith, same_fault)

-- an input section has words, or a first item that is none
abbrev Found : Place → List ℕ → Type 0
Found at text = ((words : List ℕ) × InputWords at text words) ⊎ ((p : Place) × InputFault at text p)

module _ (at : Place) (text blanks bytes further : List ℕ) (split : text ≡ blanks ++ (bytes ++ further))
    (blank : IsTrue (list_all is_blank blanks)) (item : IsItem bytes further) where
  -- an item that is no word
  found_fault : ((w : ℕ) → IsWordText bytes w → ⊥) → Found at text
  found_fault wrong = inr (
    after at blanks,
    record {
      words = [];
      bytes = bytes;
      further = further;
      items = stop blanks split blank (item_starts bytes further item) refl;
      item = item;
      wrong = wrong;
    },
  )

  -- a word, and what is found after it
  found_more : (w : ℕ) → IsWordText bytes w → Found (after (after at blanks) bytes) further → Found at text
  found_more w t (inl f) = inl (
    w ∷ f.0,
    record {
      place = f.1.place;
      items = next w blanks bytes further split blank item t f.1.items;
    },
  )
  found_more w t (inr f) = inr (
    f.0,
    record {
      words = w ∷ f.1.words;
      bytes = f.1.bytes;
      further = f.1.further;
      items = next w blanks bytes further split blank item t f.1.items;
      item = f.1.item;
      wrong = f.1.wrong;
    },
  )

  -- an item is a word, or none
  found_item : (b c : Bool) → is_number bytes ≡ b → ltb (value_of bytes) (2 ^ 64) ≡ c
      → Found (after (after at blanks) bytes) further → Found at text
  found_item false c e f rest = found_fault (λ w t. let bad : false ≡ true = sym e ∙ t.0 in cc)
  found_item true false e f rest = found_fault (grind (arith, lt-ltb))
  found_item true true e f rest = found_more (value_of bytes) grind (arith, ltb-true) rest

-- a text without items
found_end : (at : Place) (text blanks front : List ℕ) → text ≡ blanks ++ front
    → IsTrue (list_all is_blank blanks) → front ≡ [] → Found at text
found_end at text blanks front e h n = inl (
  [],
  record {
    place = after at blanks;
    items = stop blanks (e ∙ ap (λ x. blanks ++ x) n) h refl refl;
  },
)

-- what is found where blanks are over, if it is known what is found in shorter texts
found_front : (fuel : ℕ) → ((at : Place) (text : List ℕ) → length text ≤ fuel → Found at text)
    → (at : Place) (text blanks front : List ℕ) → text ≡ blanks ++ front
    → IsTrue (list_all is_blank blanks) → IsTrue (starts_without is_blank front) → length front ≤ suc fuel
    → Found at text
found_front fuel shorter at text blanks [] e h s short = found_end at text blanks [] e h refl
found_front fuel shorter at text blanks (b ∷ rest) e h s short =
    let n = prefix_len is_dense (b ∷ rest) in
    let bytes = take n (b ∷ rest) in
    let further = drop n (b ∷ rest) in
    let split : bytes ++ further ≡ b ∷ rest = take-append-drop n (b ∷ rest) in
    let item = item_run (b ∷ rest) bytes further n (omega arith) s refl refl refl in
    let whole : text ≡ blanks ++ (bytes ++ further) = grind arith in
    let less : length further ≤ fuel =
    omega (arith, short, item.0, length-append bytes further, ap length split) in
    found_item at text blanks bytes further whole h item.1 (is_number bytes) (ltb (value_of bytes) (2 ^ 64))
    refl refl (shorter (after (after at blanks) bytes) further less)

-- what is found in a text of at most so many bytes
found_in : (fuel : ℕ) (at : Place) (text : List ℕ) → length text ≤ fuel → Found at text
found_in zero at [] h = found_end at [] [] [] refl refl refl
found_in zero at (b ∷ text) h = absurd (omega arith)
found_in (suc fuel) at text h =
    let n = prefix_len is_blank text in
    let split : take n text ++ drop n text ≡ text = take-append-drop n text in
    let less : length (drop n text) ≤ suc fuel = grind (arith, length-append) in
    found_front fuel (found_in fuel) at text (take n text) (drop n text) (sym split) (prefix_all is_blank
    text) (prefix_stops is_blank text) less

-- each input section comes to one thing alone
pub one_answer : (at : Place) (text : List ℕ) → ExactlyOne (IsInputAnswer at text)
one_answer at text = go (found_in (length text) at text (omega arith))
  where
    only_words : (ws : List ℕ) → InputWords at text ws → (other : Result (List ℕ) Place)
        → IsInputAnswer at text other → other ≡ Ok ws
    only_words ws h (Ok vs) k = ap Ok (one_list at text vs ws k h)
    only_words ws h (Err p) k = absurd (no_fault_in_words at text ws p h k)

    only_fault : (p : Place) → InputFault at text p → (other : Result (List ℕ) Place)
        → IsInputAnswer at text other → other ≡ Err p
    only_fault p h (Ok ws) k = absurd (no_fault_in_words at text ws p k h)
    only_fault p h (Err q) k = ap Err (one_fault at text q p k h)

    go : Found at text → ExactlyOne (IsInputAnswer at text)
    go (inl f) = record { answer = Ok f.0; holds = f.1; only = only_words f.0 f.1 }
    go (inr f) = record { answer = Err f.0; holds = f.1; only = only_fault f.0 f.1 }

-- what holds of the sections of a text holds of the text, and back
module _ (P : Place → List ℕ → Type 0) (text section input : List ℕ) (s : section ≡ program_of text)
    (i : input ≡ input_of text) where
  pub of_text : P (place_below section) input → P (input_place text) (input_of text)
  of_text h = subst (P (input_place text)) i (subst (λ (q : List ℕ). P (place_below q) input) s h)

  pub of_sections : P (input_place text) (input_of text) → P (place_below section) input
  of_sections h = grind arith
