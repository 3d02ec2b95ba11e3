-- What tables of names stand for.
use Rattle.std.specs.Prelude.{◌≡◌, ℕ, suc, ◌+◌, ◌<◌, ◌^◌, nat_eq, List, [], ◌∷◌, length, Option, Some, None}
use Rattle.std.specs.Prelude.{if◌then◌else◌}
use Rattle.std.specs.HashMap.{get_by}
use Rattle.std.specs.Str.{bytes_eq}
use lib.Pointwise.{pointwise}
use Rattle.src_ast.specs.declared.lexeme.Name.{Name}
use Rattle.src_ast.specs.Syntax.{Procedure}
use Rattle.src_ast.specs.Meaning.{Scope}
use Rattle.seq_run.specs.declared.table.NameNumbers.{NameNumbers}
use Rattle.seq_run.specs.declared.names.NameMaps.{NameMaps}

-- the number of the first name that is spelled so, counted from this number
abbrev pub numbered : ℕ → List Name → List ℕ → Option ℕ
numbered k [] text = None
numbered k (n ∷ ns) text = if pointwise nat_eq n.text text then Some k else numbered (suc k) ns text

-- the table of these names, the first of which has this number
pub record IsTable (first : ℕ) (names : List Name) (table : NameNumbers) : Type 0 where
  pub numbers : (text : List ℕ) →
      get_by (λ k. bytes_eq text k.now) table.numbers ≡ numbered first names text
  pub next : table.next ≡ first + length names

-- variables are numbered from 0, arrays from 1 and procedures from 0
pub record AreNames (scope : Scope) (names : NameMaps) : Type 0 where
  pub vars : IsTable 0 scope.names names.vars
  pub arrays : IsTable 1 scope.arrays names.arrays
  pub procs : IsTable 0 scope.procs names.procs

-- a procedure whose variables are few enough for 32 bits
abbrev pub FewVars : Procedure → Type 0
FewVars p = length p.params + length p.vars < 2 ^ 32
