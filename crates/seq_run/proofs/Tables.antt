-- Tables of names give the places of names.
use Rattle.std.proofs.Common.{◌≡◌, ℕ, suc, ◌+◌, nat_eq, Bool, true, false, cond, List, [], ◌∷◌, ◌++◌, length}
use Rattle.std.proofs.Common.{Option, Some, None, is_some, unwrap_or, if◌then◌else◌, refl, ap, ◌∙◌, Bor}
use Rattle.std.proofs.Common.{arith}
use Rattle.std.specs.HashMap.{HashMap, get_by}
use Rattle.std.specs.Str.{bytes_eq}
use Rattle.std.proofs.lemmas.Slice.Eq.{bytes_eq-Decides}
use lib.Pointwise.{pointwise}
use Rattle.src_ast.specs.declared.lexeme.Name.{Name}
use Rattle.src_ast.specs.Meaning.{place_of}
use Rattle.seq_run.specs.Tables.{numbered, IsTable}
use Rattle.seq_run.specs.declared.table.NameNumbers.{NameNumbers}
use Rattle.ws_words.specs.Items.{first_some}

place_numbered : (first : ℕ) (names : List Name) (text : List ℕ) → unwrap_or (numbered first names text)
    (first + length names) ≡ first + place_of names text
place_numbered first [] text = refl
place_numbered first (n ∷ ns) text = by_flag (pointwise nat_eq n.text text)
    (place_numbered (suc first) ns text)
  where
    by_flag : (b : Bool) → unwrap_or (numbered (suc first) ns text) (suc first + length ns) ≡ suc first
        + place_of ns text → unwrap_or (if b then Some first else numbered (suc first) ns text)
        (first + suc (length ns)) ≡ first + (if b then 0 else suc (place_of ns text))
    by_flag b h = grind (arith, unwrap_or)

-- what a table says of a name
pub number_is : (table : NameNumbers) (first : ℕ) (names : List Name) (text : List ℕ) (r : ℕ)
    → IsTable first names table → r ≡ unwrap_or (get_by (λ k. bytes_eq text k.now) table.numbers) table.next
    → r ≡ first + place_of names text
number_is table first names text r is e = grind (arith, unwrap_or, is.numbers, place_numbered)

or_none : (o : Option ℕ) → first_some o None ≡ o
or_none o = grind arith

numbered_more : (first : ℕ) (names : List Name) (x : Name) (text : List ℕ)
    → numbered first (names ++ x ∷ []) text ≡ first_some (numbered first names text)
    (if pointwise nat_eq x.text text then Some (first + length names) else None)
numbered_more first [] x text = grind (arith, pointwise, nat_eq)
numbered_more first (n ∷ ns) x text = by_flag (pointwise nat_eq n.text text)
    (numbered_more (suc first) ns x text)
  where
    by_flag : (b : Bool) → numbered (suc first) (ns ++ x ∷ []) text ≡ first_some
        (numbered (suc first) ns text) (if pointwise nat_eq x.text text then Some (suc first + length ns)
        else None) → (if b then Some first else numbered (suc first) (ns ++ x ∷ []) text) ≡ first_some
        (if b then Some first else numbered (suc first) ns text) (if pointwise nat_eq x.text text
        then Some (first + suc (length ns)) else None)
    by_flag b h = grind (arith, pointwise, nat_eq)

module _ (first : ℕ) (names : List Name) (x : Name) (f g : List ℕ → Option ℕ) (is : (text : List ℕ)
    → f text ≡ numbered first names text) where
  -- the name is new
  pub put_new : (next : ℕ) → next ≡ first + length names → f x.text ≡ None
      → ((text : List ℕ) → g text ≡ cond (bytes_eq x.text text) (Some next) (f text)) → (text : List ℕ)
      → g text ≡ numbered first (names ++ x ∷ []) text
  put_new next en absent put text = grind (arith, numbered_more, bytes_eq-Decides, or_none)

  -- there is such a name already
  pub put_again : is_some (f x.text) ≡ true → ((text : List ℕ) → g text ≡ f text) → (text : List ℕ)
      → g text ≡ numbered first (names ++ x ∷ []) text
  put_again there kept text = grind (arith, numbered_more, bytes_eq-Decides, is_some, or_none)

pub length_more : (first : ℕ) (names : List Name) (x : Name) (next after : ℕ) → next ≡ first + length names
    → after ≡ next + 1 → after ≡ first + length (names ++ x ∷ [])
length_more first names x next after e d = let l = at names in omega (arith, e, d, l)
  where
    at : (names : List Name) → length (names ++ x ∷ []) ≡ suc (length names)
    at [] = refl
    at (n ∷ ns) = ap suc (at ns)

none_of : (o : Option ℕ) → is_some o ≡ false → o ≡ None
none_of o e = grind arith

abbrev by_text : {S : Type 0} → HashMap (Bor (List ℕ)) ℕ S → List ℕ → Option ℕ
by_text m text = get_by (λ k. bytes_eq text k.now) m

-- a name that is new
pub added_new : (table : NameNumbers) (first : ℕ) (names : List Name) (x : Name) (text : List ℕ) (after : ℕ)
    (now : NameNumbers) → IsTable first names table → text ≡ x.text → is_some (by_text table.numbers text)
    ≡ false → ((cs : List ℕ) → by_text now.numbers cs ≡ cond (bytes_eq text cs) (Some table.next)
    (by_text table.numbers cs)) → after ≡ table.next + 1 → now.next ≡ after
    → IsTable first (names ++ x ∷ []) now
added_new table first names x text after now is e absent put ea en = record {
  numbers = put_new first names x (by_text table.numbers) (by_text now.numbers) is.numbers table.next is.next
      (grind (arith, none_of, table.numbers, is_some))
      (grind (arith, table.numbers));
  next = en ∙ length_more first names x table.next after is.next ea;
}

-- a name that is there already
pub added_again : (table : NameNumbers) (first : ℕ) (names : List Name) (x : Name) (text : List ℕ) (after : ℕ)
    (now : NameNumbers) → IsTable first names table → text ≡ x.text → is_some (by_text table.numbers text)
    ≡ true → now.numbers ≡ table.numbers → after ≡ table.next + 1 → now.next ≡ after
    → IsTable first (names ++ x ∷ []) now
added_again table first names x text after now is e there same ea en = record {
  numbers = grind (arith, put_again, is.numbers, is_some, table.numbers);
  next = en ∙ length_more first names x table.next after is.next ea;
}
