-- What sources and sinks of bytes do: what a read takes away, what a write adds, and how their
-- faults are counted.
use Rattle.std.specs.Prelude.{◌≡◌, ◌⊎◌, ℕ, ◌-◌, ◌^◌, ◌<◌, List, [], ◌++◌, length, Option, Some, None, IsSome}

-- a count of faults rose: it is greater than before, or stands at its end
abbrev pub Rose : ℕ → ℕ → Type 0
Rose before after = (before < after) ⊎ (after ≡ 2 ^ 64 - 1)

-- if the bytes not yet read are reported, these were the first of them and are gone now
abbrev pub Takes : Option (List ℕ) → List ℕ → Option (List ℕ) → Type 0
Takes None bytes after = after ≡ None
Takes (Some left) bytes after = (rest : List ℕ) × (left ≡ bytes ++ rest) × (after ≡ Some rest)

-- if the bytes not yet read are reported, this was all of them
abbrev pub TakesAll : Option (List ℕ) → List ℕ → Option (List ℕ) → Type 0
TakesAll None text after = after ≡ None
TakesAll (Some left) text after = (left ≡ text) × (after ≡ Some [])

-- if what is held is reported, it has grown by these bytes
abbrev pub Adds : Option (List ℕ) → List ℕ → Option (List ℕ) → Type 0
Adds None bytes after = after ≡ None
Adds (Some held) bytes after = after ≡ Some (held ++ bytes)

-- a successful flush: all that is held is covered, if both are reported
abbrev pub Flushes : Option (List ℕ) → Option ℕ → Option ℕ → Type 0
Flushes held None after = after ≡ None
Flushes (Some held) (Some n) after = after ≡ Some (length held)
Flushes None (Some n) after = IsSome after
