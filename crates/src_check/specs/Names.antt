-- What the names stand for that the checker has met.
use Rattle.std.specs.Prelude.{◌≡◌, ℕ, Bool, false, ◌&&◌, List, Option, Some, None, nat_eq}
use Rattle.std.specs.List.{list_any}
use Rattle.std.specs.Map.{lookup}
use Rattle.std.specs.Option.{option_map}
use lib.Pointwise.{pointwise}
use Rattle.src_ast.specs.Rules.{Declared}
use Rattle.src_ast.specs.Rules as rules
use Rattle.src_check.specs.declared.names.Sort.{Sort}
use Rattle.src_check.specs.declared.names.Sort.TheVariants.{Variable, Array, Procedure}
use Rattle.src_check.specs.declared.names.Sorts.{Sorts}
use Rattle.src_check.specs.declared.names.KnownNames.{KnownNames}

abbrev pub sort_of : Sort → rules.Sort
sort_of Variable = rules.variable
sort_of Array = rules.array
sort_of (Procedure n) = rules.procedure n

-- what a table has at a text
unfoldable pub found : Sorts → List ℕ → Option rules.Sort
found table text =
    option_map sort_of (lookup (λ k. pointwise nat_eq text k.items) table.sorts.entries)

-- the first, or else the second
abbrev pub or_else : {X : Type 0} → Option X → Option X → Option X
or_else None y = y
or_else (Some x) y = Some x

-- what a name stands for in a procedure
abbrev pub seen : KnownNames → List ℕ → Option rules.Sort
seen names text = or_else (found names.inner text) (found names.outer text)

abbrev pub passes : {X : Type 0} → (X → Bool) → Option X → Bool
passes test None = false
passes test (Some x) = test x

-- What is found are these declared names: any test of what a name stands for has the same answer in
-- both.
pub record StandsFor (find : List ℕ → Option rules.Sort) (declared : List Declared) : Type 0 where
  pub agrees : (text : List ℕ) (test : rules.Sort → Bool)
      → list_any (λ d. pointwise nat_eq d.text text && test d.sort) declared
      ≡ passes test (find text)
