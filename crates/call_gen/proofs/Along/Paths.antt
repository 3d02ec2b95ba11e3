-- What the blocks of a walk weigh, in parts.
use Rattle.std.proofs.Common.{ℕ, zero, suc, ◌+◌, ◌≡◌, ◌≤◌, Bool, if◌then◌else◌, List, ap, arith}
use Rattle.std.specs.List.{sum_by}
use Rattle.std.proofs.lemmas.List.Sums.{sum_by-append}
use Rattle.ws_words.specs.Outside.{Outside, ProcState}
use Rattle.cfg_core.specs.Graph.{Exit, Graph}
use Rattle.cfg_core.specs.Walk.{Frame, Config, At, Over, Going, returned, leave, step, walk, IsOver}
use Rattle.cfg_core.specs.Weights.{block_left, path}

module _ (h : Graph) (f : ℕ → ℕ) where
  -- a walk of blocks and then of others weighs what both do
  pub path_add : (n m : ℕ) (c : Config) → sum_by f (path h (n + m) c) ≡ sum_by f (path h n c) + sum_by f
      (path h m (walk h n c))
  path_add zero m c = grind arith
  path_add (suc n) m c =
      let d = step h c in
      let e : sum_by f (path h (suc n + m) c) ≡ sum_by f (path h (suc (n + m)) c) = ap (λ k. sum_by f (path h
      k c)) (let z : suc n + m ≡ suc (n + m) = omega arith in z) in
      grind (arith, sum_by-append, path_add n m d)

  -- an answer leaves no block
  pub path_over : (n : ℕ) (c : Config) → IsOver c → sum_by f (path h n c) ≡ 0
  path_over (suc n) (Over o k) over = path_over n (Over o k) over
  path_over (suc n) (Going o) over = path_over n (Going o) over
  path_over n c over = grind arith

  -- an answer's walk weighs most
  pub path_most : (n m : ℕ) (c : Config) → IsOver (walk h n c) → sum_by f (path h m c) ≤ sum_by f (path h n c)
  path_most n m c over = grind (arith, path_add n m c, path_add m n c, path_over m (walk h n c) over)

  leaves_if : (b : ℕ) (s : ProcState) (frames : List Frame) (j : ℕ) (v : Bool) (c d : ℕ) (t : ProcState)
      (fs : List Frame) (k : ℕ)
      → sum_by f (block_left (At b s frames j) (if v then At c t fs k else At d t fs k)) ≡ f b
  leaves_if b s frames j v c d t fs k = grind arith

  leaves_back : (b : ℕ) (s : ProcState) (frames : List Frame) (j : ℕ) (w : ℕ) (o : Outside) (fs : List Frame)
      (k : ℕ) → sum_by f (block_left (At b s frames j) (returned w o fs k)) ≡ f b
  leaves_back b s frames j w o fs k = grind arith

  -- an exit leaves its block
  pub leaves_one : (b : ℕ) (s : ProcState) (frames : List Frame) (j : ℕ) (x : Exit) (t : ProcState)
      (fs : List Frame) (k : ℕ) → sum_by f (block_left (At b s frames j) (leave h x t fs k)) ≡ f b
  leaves_one b s frames j x t fs k = grind (arith, leaves_if, leaves_back)
