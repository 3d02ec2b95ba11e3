-- A measure for runs: each step weighs more than what it has inside.
use Rattle.std.specs.Prelude.{ℕ, zero, suc, ◌+◌, List}
use Rattle.seq_run.specs.Resolved.{Step, If, While, Steps, Nothing, Then, Proc, nth_proc}

abbrev mutual
  pub weight : Step → ℕ
  weight (If t a b) = suc (suc (heft a + heft b))
  weight (While t body) = suc (suc (suc (heft body)))
  weight _ = 1

  pub heft : Steps → ℕ
  heft Nothing = 1
  heft (Then s rest) = suc (weight s + heft rest)

abbrev pub weight_below : ℕ → List Proc → ℕ
weight_below zero procs = 0
weight_below (suc n) procs = weight_below n procs + suc (heft (nth_proc procs n).body)
