-- Lists in pairs; what labels stand for, and the tests that a line makes of them.
use Rattle.std.proofs.Common.{◌≡◌, ◌⊎◌, ℕ, suc, ◌+◌, ◌≤◌, ◌||◌, length, Bool, true, List, [], ◌∷◌, ◌++◌, Some}
use Rattle.std.proofs.Common.{refl, ap, arith}
use Rattle.std.specs.List.{AllByRecursion, list_all}
use Rattle.std.proofs.lemmas.Bool.{le-leb}
use Rattle.ws_isa.specs.declared.instr.Dest.{Dest}
use Rattle.ws_isa.specs.Formed.{most_dests}
use Rattle.asm_text.specs.declared.line.Label.{Label}
use Rattle.asm_text.specs.declared.line.Target.{Target}
use Rattle.asm_text.specs.Names.{Names, named}
use Rattle.asm_text.specs.State.{is_number, are_numbers, is_next, are_ports, is_short, are_short, are_few}
use Rattle.asm_text.specs.State.{is_new_label, with_name}
use Rattle.asm_text.specs.Spelling.{Naming, IsFor, Pairs, TargetIsFor, ShortNames}
use Rattle.asm_text.proofs.Accepting.Items.{Small}
use Rattle.asm_text.proofs.Keeping.Given.{named_in_more}

-- Parts of paired lists.

pub record Halves {A B : Type 0} (R : A → B → Type 0) (ls : List A) (xs ys : List B) : Type 0 where
  pub front : List A
  pub back : List A
  pub whole : ls ≡ front ++ back
  pub first : Pairs R front xs
  pub last : Pairs R back ys

pub halves : {A B : Type 0} (R : A → B → Type 0) (ls : List A) (xs ys : List B) → Pairs R ls
    (xs ++ ys) → Halves R ls xs ys
halves R ls [] ys h = record { front = []; back = ls; whole = refl; first = tt; last = h }
halves R [] (x ∷ xs) ys h = absurd h
halves R (l ∷ ls) (x ∷ xs) ys h =
    let r = halves R ls xs ys h.1 in
    record {
      front = l ∷ r.front;
      back = r.back;
      whole = ap (λ k. l ∷ k) r.whole;
      first = (h.0, r.first);
      last = r.last;
    }

pub pairs_length : {A B : Type 0} (R : A → B → Type 0) (xs : List A) (ys : List B) → Pairs R xs ys →
    length xs ≡ length ys
pairs_length R (x ∷ xs) (y ∷ ys) h = ap suc (pairs_length R xs ys h.1)
pairs_length R xs ys h = grind arith

pub nil_of : {A B : Type 0} (R : A → B → Type 0) (ls : List A) → Pairs R ls [] → ls ≡ []
nil_of R [] h = refl
nil_of R (l ∷ ls) h = absurd h

pub cons_of : {A B : Type 0} (R : A → B → Type 0) (ls : List A) (y : B) (ys : List B) → Pairs R ls
    (y ∷ ys) → (l : A) × (more : List A) × (ls ≡ l ∷ more) × R l y × Pairs R more ys
cons_of R [] y ys h = absurd h
cons_of R (l ∷ ls) y ys h = (l, ls, refl, h.0, h.1)

-- Labels.

abbrev pub empty : Naming
empty = record { blocks = []; instrs = [] }

abbrev pub IsPlain : Bool → Naming → Type 0
IsPlain v names = (v ≡ true) ⊎ (names ≡ empty)

pub plain_line : (v x : Bool) (names : Naming) → IsPlain v names → (names ≡ empty → x ≡ true) →
    (v || x)
    ≡ true
plain_line v x names y h = grind arith

pub label_number : (l : Label) (n : ℕ) → IsFor [] l n → is_number l ≡ true
label_number l n h = grind arith

pub labels_number : (ls : List Label) (ns : List ℕ) → Pairs (IsFor []) ls ns → list_all is_number ls
    ≡
    true
labels_number (l ∷ ls) (n ∷ ns) h = rw (label_number l n h.0, labels_number ls ns h.1)
labels_number ls ns h = grind arith

pub targets_number : (ts : List Target) (ds : List Dest) → Pairs (TargetIsFor []) ts ds →
    are_numbers ts
    ≡ true
targets_number (t ∷ ts) (d ∷ ds) h = grind (arith, label_number, targets_number ts ds h.1)
targets_number ts ds h = grind arith

pub label_short : (names : Names) (l : Label) (n : ℕ) → ShortNames names → IsFor names l n → is_short l ≡
    true
label_short names l n s h = grind arith

pub labels_short : (names : Names) (ls : List Label) (ns : List ℕ) → ShortNames names → Pairs
    (IsFor names)
    ls ns → list_all is_short ls ≡ true
labels_short names (l ∷ ls) (n ∷ ns) s h = grind (arith, label_short, labels_short names ls ns s h.1)
labels_short names ls ns s h = grind arith

pub targets_short : (names : Names) (ts : List Target) (ds : List Dest) → ShortNames names → Pairs
    (TargetIsFor names) ts ds → are_short ts ≡ true
targets_short names (t ∷ ts) (d ∷ ds) s h = grind (arith, label_short, targets_short names ts ds s h.1)
targets_short names ts ds s h = grind arith

pub targets_ports : (names : Names) (ts : List Target) (ds : List Dest) → AllByRecursion Small ds →
    Pairs (TargetIsFor names) ts ds → are_ports ts ≡ true
targets_ports names (t ∷ ts) (d ∷ ds) s h = grind (arith, le-leb, targets_ports names ts ds s.1 h.1)
targets_ports names ts ds s h = grind arith

pub targets_few : (names : Names) (ts : List Target) (ds : List Dest) → ShortNames names → Pairs
    (TargetIsFor names) ts ds → length ds ≤ most_dests → are_few ts ≡ true
targets_few names ts ds s h k = grind (arith, pairs_length, le-leb, targets_short)

-- Own labels: names so far are those of the naming, with the numbers that stand already.
abbrev pub Sound : Names → Names → ℕ → Type 0
Sound names all count = (w : List ℕ) (m : ℕ) → named names w ≡ Some m → (named all w ≡ Some m) × (m ≤ count)

pub own_next : (all : Names) (l : Label) (n count : ℕ) → IsFor all l n → n ≡ count + 1 → is_next l
    count
    ≡ true
own_next all l n count h e = grind arith

pub own_new : (names all : Names) (l : Label) (n count : ℕ) → Sound names all count → IsFor all l n
    → n
    ≡ count + 1 → is_new_label names l ≡ true
own_new names all l n count s h e = grind arith

pub own_sound : (names all : Names) (l : Label) (n count : ℕ) → Sound names all count → IsFor all l
    n →
    n ≡ count + 1 → Sound (with_name names l (count + 1)) all (count + 1)
own_sound names all l n count s h e w m f = grind (arith, named_in_more)
