-- Sources and sinks over memory, as their clauses see them.
use Rattle.std.specs.Prelude.{ℕ, ◌+◌, ◌-◌, ◌^◌, min, List}

-- one more; a count stands still at its end
abbrev pub one_more : ℕ → ℕ
one_more n = min (n + 1) (2 ^ 64 - 1)

-- how many bytes a sink in memory has room for
abbrev pub room : ℕ
room = 2 ^ 20

-- The bytes not yet read, how many a call gives at most, the calls so far, the numbers of the
-- calls that fail, and how many have failed. Calls are numbered from 1.
pub record Supply : Type 0 where
  pub left : List ℕ
  pub piece : ℕ
  pub calls : ℕ
  pub fail_at : List ℕ
  pub faults : ℕ

-- The bytes written, how many of them the last good flush covered, how many a call takes at most,
-- the calls so far, the numbers of the calls that fail, and how many have failed. Calls are
-- numbered from 1, writes and flushes together.
pub record Drain : Type 0 where
  pub held : List ℕ
  pub flushed : ℕ
  pub piece : ℕ
  pub calls : ℕ
  pub fail_at : List ℕ
  pub faults : ℕ
