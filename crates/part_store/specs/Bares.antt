-- A set of instances.
use Rattle.std.specs.Prelude.{ℕ, Bool}
use Rattle.std.specs.HashSet.{contains}
use Rattle.store_buf.specs.Finding.{pair_eq}
use Rattle.part_store.specs.declared.bare.Bare.{Bare}

abbrev pub is_in : Bare → ℕ → ℕ → Bool
is_in bare w i = contains pair_eq bare.set (w, i)
