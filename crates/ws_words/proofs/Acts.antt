-- The words that acts print and that ports take, and acts one after another.
use Rattle.std.proofs.Common.{ℕ, zero, suc, ◌+◌, ◌-◌, ◌≡◌, ◌<◌, ◌≤◌, ◌==◌, Bool, true, false, List, [], ◌∷◌}
use Rattle.std.proofs.Common.{◌++◌, if◌then◌else◌, refl, sym, ap, ◌∙◌, arith}
use Rattle.std.proofs.lemmas.List.{append-nil, append_assoc}
use Rattle.std.proofs.lemmas.Bool.Decides.{nat_tests}
use Rattle.ws_words.specs.Outside.{Act, loads, stores, reads, prints, gives, takes, Outside, row, with_row}
use Rattle.ws_words.specs.Outside.{printed_words}
use Rattle.ws_words.specs.Past.{ActsBegin, after_act, after_acts}
use Rattle.ws_words.specs.Plain.{took_words, took_from, took_by_ports}

-- acts begin with themselves
pub begins_all : (xs : List Act) → ActsBegin xs xs
begins_all xs = ([], sym (append-nil xs))

-- what begins with the beginning begins so
pub begins_then : (xs ys zs : List Act) → ActsBegin xs ys → ActsBegin ys zs → ActsBegin xs zs
begins_then xs ys zs h i = (h.0 ++ i.0, i.1 ∙ ap (λ (ws : List Act). ws ++ i.0) h.1 ∙ append_assoc xs h.0 i.0)

-- acts after others print their words after those of the others
pub printed_append : (xs ys : List Act) → printed_words (xs ++ ys) ≡ printed_words xs ++ printed_words ys
printed_append [] ys = refl
printed_append (loads a i ∷ xs) ys = printed_append xs ys
printed_append (stores a i w ∷ xs) ys = printed_append xs ys
printed_append (reads ∷ xs) ys = printed_append xs ys
printed_append (prints w ∷ xs) ys = ap (λ (ws : List ℕ). w ∷ ws) (printed_append xs ys)
printed_append (gives p ∷ xs) ys = printed_append xs ys
printed_append (takes p w ∷ xs) ys = printed_append xs ys

pub if_append : (b : Bool) (w : ℕ) (xs ys zs : List ℕ) → zs ≡ xs ++ ys → (if b then w ∷ zs else zs)
    ≡ (if b then w ∷ xs else xs) ++ ys
if_append true w xs ys zs e = ap (λ (ws : List ℕ). w ∷ ws) e
if_append false w xs ys zs e = e

-- so does a port take its words
pub took_append : (p : ℕ) (xs ys : List Act) → took_words p (xs ++ ys) ≡ took_words p xs ++ took_words p ys
took_append p [] ys = refl
took_append p (loads a i ∷ xs) ys = took_append p xs ys
took_append p (stores a i w ∷ xs) ys = took_append p xs ys
took_append p (reads ∷ xs) ys = took_append p xs ys
took_append p (prints w ∷ xs) ys = took_append p xs ys
took_append p (gives q ∷ xs) ys = took_append p xs ys
took_append p (takes q w ∷ xs) ys = if_append (q == p) w (took_words p xs) (took_words p ys) _
    (took_append p xs ys)

-- acts by which no word is printed or taken
pub record Silent (acts : List Act) : Type 0 where
  pub printed : printed_words acts ≡ []
  pub took : (p : ℕ) → took_words p acts ≡ []

-- silent acts, one list after another
pub silent_both : (xs ys : List Act) → Silent xs → Silent ys → Silent (xs ++ ys)
silent_both xs ys h i = record {
  printed = printed_append xs ys ∙ ap (λ (ws : List ℕ). ws ++ printed_words ys) h.printed ∙ i.printed;
  took = λ p. took_append p xs ys ∙ ap (λ (ws : List ℕ). ws ++ took_words p ys) (h.took p) ∙ i.took p;
}

-- no act is silent
pub silent_none : Silent []
silent_none = record { printed = refl; took = λ p. refl }

-- a load is silent
pub silent_load : (a i : ℕ) → Silent (loads a i ∷ [])
silent_load a i = record { printed = refl; took = λ p. refl }

from_same : (n q : ℕ) (xs ys : List Act) → ((p : ℕ) → q ≤ p → took_words p xs ≡ took_words p ys)
    → took_from q n xs ≡ took_from q n ys
from_same zero q xs ys f = refl
from_same (suc n) q xs ys f = ap (λ (ws : List ℕ). ws ∷ took_from (suc q) n xs) (f q (omega arith))
    ∙ ap (λ (rs : List (List ℕ)). took_words q ys ∷ rs)
    (from_same n (suc q) xs ys (λ p le. f p (omega arith)))

-- acts by which no port takes a word change nothing of what ports took
pub took_same : (xs ys : List Act) → ((p : ℕ) → took_words p ys ≡ []) → took_by_ports (xs ++ ys)
    ≡ took_by_ports xs
took_same xs ys h = from_same 7 1 (xs ++ ys) xs (λ p le. took_append p xs ys
    ∙ ap (λ (ws : List ℕ). took_words p xs ++ ws) (h p) ∙ append-nil (took_words p xs))

-- acts that print nothing change nothing of what was printed
pub printed_same : (xs ys : List Act) → printed_words ys ≡ [] → printed_words (xs ++ ys) ≡ printed_words xs
printed_same xs ys h = printed_append xs ys ∙ ap (λ (ws : List ℕ). printed_words xs ++ ws) h
    ∙ append-nil (printed_words xs)

pub other_port : (p q v : ℕ) (xs : List Act) → (p == q) ≡ false → took_words q (xs ++ takes p v ∷ [])
    ≡ took_words q xs
other_port p q v xs e = took_append q xs (takes p v ∷ [])
    ∙ ap (λ (b : Bool). took_words q xs ++ (if b then v ∷ [] else [])) e ∙ append-nil (took_words q xs)

pub this_port : (p q v : ℕ) (xs : List Act) → (p == q) ≡ true → took_words q (xs ++ takes p v ∷ [])
    ≡ took_words q xs ++ v ∷ []
this_port p q v xs e = took_append q xs (takes p v ∷ [])
    ∙ ap (λ (b : Bool). took_words q xs ++ (if b then v ∷ [] else [])) e

pub differ : (p q : ℕ) → p < q → (p == q) ≡ false
differ p q lt = grind (arith, nat_tests)

pub differ_above : (p q : ℕ) → q < p → (p == q) ≡ false
differ_above p q lt = grind (arith, nat_tests)

pub equal : (p q : ℕ) → p ≡ q → (p == q) ≡ true
equal p q e = grind (arith, nat_tests)

took_one : (n q k p v : ℕ) (xs : List Act) → p ≡ k + q → took_from q n (xs ++ takes p v ∷ []) ≡ with_row
    (took_from q n xs) k (row (took_from q n xs) k ++ v ∷ [])
took_one zero q k p v xs e = refl
took_one (suc n) q zero p v xs e =
    ap (λ (ws : List ℕ). ws ∷ took_from (suc q) n (xs ++ takes p v ∷ []))
    (this_port p q v xs (equal p q (omega (arith, e))))
    ∙ ap (λ (rs : List (List ℕ)). (took_words q xs ++ v ∷ []) ∷ rs)
    (from_same n (suc q) (xs ++ takes p v ∷ []) xs
    (λ r le. other_port p r v xs (differ p r (omega (arith, e)))))
took_one (suc n) q (suc k) p v xs e =
    ap (λ (ws : List ℕ). ws ∷ took_from (suc q) n (xs ++ takes p v ∷ []))
    (other_port p q v xs (differ_above p q (omega (arith, e))))
    ∙ ap (λ (rs : List (List ℕ)). took_words q xs ∷ rs) (took_one n (suc q) k p v xs (omega (arith, e)))

-- a word taken by a port stands after those that it took before
pub took_more : (p v : ℕ) (xs : List Act) → 0 < p → took_by_ports (xs ++ takes p v ∷ []) ≡ with_row
    (took_by_ports xs) (p - 1) (row (took_by_ports xs) (p - 1) ++ v ∷ [])
took_more p v xs lt = took_one 7 1 (p - 1) p v xs (omega arith)

-- no port has the number 0
pub took_none : (v : ℕ) (xs : List Act) → took_by_ports (xs ++ takes 0 v ∷ []) ≡ took_by_ports xs
took_none v xs = from_same 7 1 (xs ++ takes 0 v ∷ []) xs
    (λ p le. other_port 0 p v xs (differ 0 p (omega arith)))

from_nothing : (n q : ℕ) → took_from q n [] ++ [] ∷ [] ≡ took_from q (suc n) []
from_nothing zero q = refl
from_nothing (suc n) q = ap (λ (rs : List (List ℕ)). [] ∷ rs) (from_nothing n (suc q))

-- one port more that has taken nothing
pub took_nothing : (n m : ℕ) (rows : List (List ℕ)) → m ≡ suc n → rows ≡ took_from 1 n []
    → rows ++ [] ∷ [] ≡ took_from 1 m []
took_nothing n m rows e h = ap (λ (rs : List (List ℕ)). rs ++ [] ∷ []) h ∙ from_nothing n 1
    ∙ ap (λ k. took_from 1 k []) (sym e)

-- acts are done one list after another
pub after_append : (o : Outside) (xs ys : List Act) → after_acts o (xs ++ ys) ≡ after_acts (after_acts o xs)
    ys
after_append o [] ys = refl
after_append o (x ∷ xs) ys = after_append (after_act o x) xs ys

act_of : (o : Outside) (x : Act) → (after_act o x).acts ≡ o.acts ++ x ∷ []
act_of o (loads a i) = refl
act_of o (stores a i w) = refl
act_of o reads = refl
act_of o (prints w) = refl
act_of o (gives p) = refl
act_of o (takes p w) = refl

-- acts stand after those before them
pub acts_of : (o : Outside) (xs : List Act) → (after_acts o xs).acts ≡ o.acts ++ xs
acts_of o [] = sym (append-nil o.acts)
acts_of o (x ∷ xs) = acts_of (after_act o x) xs ∙ ap (λ (before : List Act). before ++ xs) (act_of o x)
    ∙ append_assoc o.acts (x ∷ []) xs

-- the same with acts more
abbrev pub with_more : Outside → List Act → Outside
with_more o acts = record { cells = o.cells; input = o.input; left = o.left; acts = o.acts ++ acts }
