-- What a sink reports before and after a call.
use Rattle.std.specs.Prelude.{ℕ, List, Option}

-- a sink before and after a call: what it holds, how much of that the last successful flush covered, if it
-- reports them, and its faults
pub record Writing : Type 0 where
  pub held : Option (List ℕ)
  pub holds : Option (List ℕ)
  pub flushed : Option ℕ
  pub covered : Option ℕ
  pub faults : ℕ
  pub counted : ℕ

-- what a sink reports of itself before and after a call
abbrev pub writing : {K : Type 0} → (K → Option (List ℕ)) → (K → Option ℕ) → (K → ℕ) → K → K
    → Writing
writing held flushed faults old new = record {
  held = held old;
  holds = held new;
  flushed = flushed old;
  covered = flushed new;
  faults = faults old;
  counted = faults new;
}
