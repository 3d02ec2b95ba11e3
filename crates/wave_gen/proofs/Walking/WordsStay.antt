-- The walk of a graph of words in a world of words has words alone.
use Rattle.std.proofs.Common.{ℕ, zero, suc, ◌+◌, ◌-◌, ◌*◌, ◌/◌, ◌%◌, ◌^◌, ◌<◌, ◌≤◌, ◌==◌, Bool, if◌then◌else◌}
use Rattle.std.proofs.Common.{List, [], ◌∷◌, ◌++◌, Option, slice_index, slice_set, subst, arith}
use Rattle.std.proofs.Math.Nat.{mod-lt, mod-le, div-le_self}
use Rattle.std.proofs.lemmas.Nat.{or_lt, xor_lt}
use Rattle.std.specs.Int.Bits.{and_lt}
use Rattle.std.specs.List.{AllByRecursion}
use Rattle.ws_words.specs.declared.alu.Alu.{Alu}
use Rattle.ws_words.specs.declared.alu.Alu.TheVariants.{Add, Sub, Mul, Div, Rem, And, Or, Xor, Shl, Shr, Eq}
use Rattle.ws_words.specs.declared.alu.Alu.TheVariants.{Ne, Lt, Le, Gt, Ge}
use Rattle.ws_words.specs.Operators.{applied, flag}
use Rattle.ws_words.specs.Outside.{ProcState, World, row, with_row, head_or_zero, rest_of, zeros}
use Rattle.ws_words.specs.Outside.{WorldOfWords}
use Rattle.cfg_core.specs.Graph.{Term, Cell, Flip, Not, Neg, Binary, Op, Exit, Graph, GraphArray, Spot}
use Rattle.cfg_core.specs.Graph.{no_spot, spots, spot_at, block_at}
use Rattle.cfg_core.specs.Walk.{value, values, value_of, OpsOutcome, Done, Out, and_then, spend, run_op}
use Rattle.cfg_core.specs.Walk.{run_ops, Config, At, Over, Going, Frame, landed, with_result, leave, step}
use Rattle.cfg_core.specs.Walk.{walk, cells_of, opening}
use Rattle.wave_gen.specs.Gen.{FlipsWords, OpFine}
use Rattle.wave_gen.proofs.Planning.DrawnPlans.{OpsFine, ExitFine, BlockFine, WalkFine}
use Rattle.wave_gen.specs.Words.{TermOfWords, OpOfWords, ExitOfWords, GraphOfWords}
use Rattle.ws_words.specs.Items.{nth, or_else}

abbrev Word : ℕ → Type 0
Word n = n < 2 ^ 64

abbrev Words : List ℕ → Type 0
Words xs = AllByRecursion Word xs

abbrev Rows : List (List ℕ) → Type 0
Rows xss = AllByRecursion (AllByRecursion Word) xss

some : Word 0
some = omega arith

mod_word : (n : ℕ) → n % 2 ^ 64 < 2 ^ 64
mod_word n = mod-lt n some

flag_word : (b : Bool) → Word (flag b)
flag_word b = grind arith

if_word : (b : Bool) → (if b then 0 else 1) < 2 ^ 64
if_word b = grind arith

less_word : (a b : ℕ) → a ≤ b → Word b → Word a
less_word a b l h = omega arith

applied_word : (op : Alu) (a b : ℕ) → Word a → Word b → Word (applied op a b)
applied_word Add a b h i = mod_word (a + b)
applied_word Sub a b h i = mod_word (a + 2 ^ 64 - b)
applied_word Mul a b h i = mod_word (a * b)
applied_word Div a zero h i = omega arith
applied_word Div a (suc b) h i = less_word (a / suc b) a (div-le_self a (suc b)) h
applied_word Rem a zero h i = h
applied_word Rem a (suc b) h i = less_word (a % suc b) a (mod-le a (suc b)) h
applied_word And a b h i = and_lt 64 a b h i
applied_word Or a b h i = or_lt 64 a b h i
applied_word Xor a b h i = xor_lt 64 a b h i
applied_word Shl a b h i = mod_word (a * 2 ^ (b % 64))
applied_word Shr a b h i = grind (arith, less_word, div-le_self)
applied_word Eq a b h i = flag_word (a == b)
applied_word Ne a b h i = if_word (a == b)
applied_word Lt a b h i = flag_word _
applied_word Le a b h i = flag_word _
applied_word Gt a b h i = flag_word _
applied_word Ge a b h i = flag_word _

index_word : (xs : List ℕ) (i : ℕ) → Words xs → Word (slice_index xs i)
index_word (x ∷ xs) (suc i) h = index_word xs i h.1
index_word xs i h = grind (arith, some)

set_words : (xs : List ℕ) (i v : ℕ) → Words xs → Word v → Words (slice_set xs i v)
set_words (x ∷ xs) (suc i) v h w = (h.0, set_words xs i v h.1 w)
set_words xs i v h w = grind arith

row_words : (xss : List (List ℕ)) (k : ℕ) → Rows xss → Words (row xss k)
row_words (xs ∷ xss) (suc k) h = row_words xss k h.1
row_words xss k h = grind arith

with_rows : (xss : List (List ℕ)) (k : ℕ) (r : List ℕ) → Rows xss → Words r → Rows (with_row xss k r)
with_rows (xs ∷ xss) (suc k) r h w = (h.0, with_rows xss k r h.1 w)
with_rows xss k r h w = grind arith

head_word : (xs : List ℕ) → Words xs → Word (head_or_zero xs)
head_word xs h = grind (arith, some)

rest_words : (xs : List ℕ) → Words xs → Words (rest_of xs)
rest_words xs h = grind arith

zeros_words : (n : ℕ) → Words (zeros n)
zeros_words zero = tt
zeros_words (suc n) = (some, zeros_words n)

append_words : (xs ys : List ℕ) → Words xs → Words ys → Words (xs ++ ys)
append_words [] ys h i = i
append_words (x ∷ xs) ys h i = (h.0, append_words xs ys h.1 i)

cells_words : (xs : List GraphArray) → Rows (cells_of xs)
cells_words [] = tt
cells_words (a ∷ xs) = (zeros_words a.length, cells_words xs)

-- terms
module _ (vars : List ℕ) (cells : List (List ℕ)) (v : Words vars) (c : Rows cells) where
  value_word : (t : Term) → TermOfWords t → Word (value t vars cells)
  value_word (Neg t) h = grind (arith, applied_word, some, value_word t h)
  value_word (Binary op a b) h = grind (arith, applied_word, value_word a h.0, value_word b h.1)
  value_word t h = grind (arith, index_word, row_words, flag_word)

  values_words : (ts : List Term) → AllByRecursion TermOfWords ts → Words (values ts vars cells)
  values_words [] h = tt
  values_words (t ∷ ts) h = (value_word t h.0, values_words ts h.1)

  flips_words : (t : Term) → TermOfWords t → FlipsWords t vars cells
  flips_words (Cell a t) h = flips_words t h
  flips_words (Flip t) h = (value_word t h, flips_words t h)
  flips_words (Not t) h = flips_words t h
  flips_words (Neg t) h = flips_words t h
  flips_words (Binary op a b) h = (flips_words a h.0, flips_words b h.1)
  flips_words t h = grind arith

  all_flips : (ts : List Term) → AllByRecursion TermOfWords ts → AllByRecursion (λ u. FlipsWords u vars cells)
      ts
  all_flips [] h = tt
  all_flips (t ∷ ts) h = (flips_words t h.0, all_flips ts h.1)

  op_fine : (op : Op) → OpOfWords op → OpFine op vars cells
  op_fine op h = grind (arith, flips_words)

-- what a walk holds
record Held (s : ProcState) : Type 0 where
  pub vars : Words s.vars
  pub cells : Rows s.out.cells
  pub input : Words s.out.input
  pub left : Rows s.out.left

abbrev Kept : OpsOutcome → Type 0
Kept (Done s k) = Held s
Kept (Out o) = Unit {0}

spend_kept : (n : ℕ) (s : ProcState) (k : ℕ) → Held s → Kept (spend n s k)
spend_kept (suc n) s (suc k) h = spend_kept n s k h
spend_kept n s k h = grind arith

either_kept : (v : Bool) (x y : OpsOutcome) → Kept x → Kept y → Kept (if v then x else y)
either_kept v x y h i = grind arith

op_kept : (op : Op) (s : ProcState) (k : ℕ) → OpOfWords op → Held s → Kept (run_op op s k)
op_kept op s k w h = grind (
  arith,
  set_words,
  s.vars,
  h.vars,
  value_word,
  s.out.cells,
  h.cells,
  with_rows,
  slice_set,
  row_words,
  head_word,
  rest_words,
  s.out.left,
  h.left,
  either_kept,
  spend_kept,
  value_of,
)

ops_kept : (ops : List Op) (s : ProcState) (k : ℕ) → AllByRecursion OpOfWords ops → Held s
    → Kept (run_ops ops s k)
ops_kept [] s k w h = h
ops_kept (op ∷ ops) s k w h = go (run_op op s k) (op_kept op s k w.0 h) (λ t l i. ops_kept ops t l w.1 i)
  where
    go : (r : OpsOutcome) → Kept r → ((t : ProcState) (l : ℕ) → Held t → Kept (run_ops ops t l))
        → Kept (and_then r (run_ops ops))
    go r i ih = grind arith

ops_fine : (ops : List Op) (s : ProcState) → AllByRecursion OpOfWords ops → Held s → OpsFine ops s
ops_fine [] s w h = tt
ops_fine (op ∷ ops) s w h = (
  op_fine s.vars s.out.cells h.vars h.cells op w.0,
  λ t k l e. ops_fine ops t w.1 (subst Kept e (op_kept op s k w.0 h)),
)

exit_fine : (exit : Exit) (s : ProcState) → ExitOfWords exit → Held s → ExitFine exit s
exit_fine exit s w h = grind (arith, flips_words, s.vars, s.out.cells, h.vars, h.cells, all_flips)

-- configurations, with the frames of calls
abbrev Frames : List Frame → Type 0
Frames fs = AllByRecursion (λ f. AllByRecursion Word f.vars) fs

abbrev Holds : Config → Type 0
Holds (At b s frames k) = Held s × Frames frames
Holds (Over o k) = Unit {0}
Holds (Going o) = Unit {0}

landed_words : (xs vs vars : List ℕ) → Words vs → Words vars → Words (landed xs vs vars)
landed_words (x ∷ xs) (v ∷ vs) vars h i = grind (
  arith,
  slice_set,
  set_words,
  landed_words xs vs (slice_set vars x v) h.1 (set_words vars x v i h.0),
)
landed_words xs vs vars h i = grind arith

result_words : (x : Option ℕ) (v : ℕ) (vars : List ℕ) → Word v → Words vars → Words (with_result x v vars)
result_words x v vars w h = grind (arith, set_words)

loaded : (t : Term) (s : ProcState) → Held s → Held (value_of t s).1
loaded t s h = record { vars = h.vars; cells = h.cells; input = h.input; left = h.left }

module _ (g : Graph) (words : GraphOfWords g) where
  exit_holds : (exit : Exit) (s : ProcState) (frames : List Frame) (k : ℕ) → ExitOfWords exit → Held s
      → Frames frames → Holds (leave g exit s frames k)
  exit_holds exit s frames k w h f = grind (
    arith,
    s.vars,
    s.out.cells,
    loaded,
    append_words,
    values_words,
    h.vars,
    h.cells,
    zeros_words,
    result_words,
    value_word,
    landed_words,
  )

  at_spot : (ss : List Spot) (b : ℕ) → AllByRecursion (λ s. AllByRecursion OpOfWords s.block.ops
      × ExitOfWords s.block.exit) ss → (let s = or_else (nth ss b) no_spot in
      AllByRecursion OpOfWords s.block.ops × ExitOfWords s.block.exit)
  unfolding no_spot
  at_spot (s ∷ ss) (suc b) h = at_spot ss b h.1
  at_spot ss b h = grind arith

  -- the numbers of a block are words
  pub block_words : (b : ℕ) → AllByRecursion OpOfWords (block_at g b).ops × ExitOfWords (block_at g b).exit
  unfolding spot_at
  block_words b = at_spot (spots g) b words

  step_holds : (c : Config) → Holds c → Holds (step g c)
  step_holds c h = grind (arith, ops_kept, block_words, exit_holds)

  walk_holds : (m : ℕ) (c : Config) → Holds c → Holds (walk g m c)
  walk_holds zero c h = h
  walk_holds (suc m) c h = walk_holds m (step g c) (step_holds c h)

  block_fine : (b : ℕ) (s : ProcState) → Held s → BlockFine g b s
  block_fine b s h = grind (arith, ops_fine, block_words, exit_fine, ops_kept)

  -- every complement is of a word
  pub words_fine : (world : World) (turns : ℕ) → WorldOfWords world → WalkFine g (opening g world turns)
  words_fine world turns w m b s frames k e =
      let h = subst Holds e
      (grind (arith, walk_holds, zeros_words, cells_words)) in
      block_fine b s h.0
