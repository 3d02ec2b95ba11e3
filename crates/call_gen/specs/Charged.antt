-- What stands for the blocks of a graph in the one that a pass makes of it, and what pays for that.
use Rattle.std.specs.Prelude.{◌≡◌, ℕ, zero, suc, ◌+◌, ◌-◌, ◌<◌, ◌≤◌, ◌⊎◌, true, List, [], ◌∷◌, ◌++◌, length}
use Rattle.std.specs.Prelude.{if◌then◌else◌}
use Rattle.std.specs.List.{AllByRecursion}
use Rattle.cfg_core.specs.Graph.{Number, Var, Cell, Op, Assign, Store, Exit, Goto, Branch, Call, Return, Send}
use Rattle.cfg_core.specs.Graph.{Stop, Graph, spots, spot_at, block_at, proc_at, entry_of}
use Rattle.cfg_core.specs.Rules.{calls}
use Rattle.cfg_core.specs.Weights.{first_block, WalksWeigh}
use Rattle.live_vars.specs.Live.{Live}
use Rattle.live_vars.specs.Marks.{has}
use Rattle.call_gen.specs.Reached.{Reached}
use Rattle.ws_words.specs.Items.{In}

-- Where each block stands once calls are spelled out, the entry block of each procedure, by which its
-- calls enter it, and the block to which the call of a block returns.
pub record Places : Type 0 where
  pub block : ℕ → ℕ
  pub door : ℕ → ℕ
  pub point : ℕ → ℕ

-- what the call of block b weighs beside the block: the callee's entry block and the return block
abbrev pub beside : (ℕ → ℕ) → Places → ℕ → Exit → ℕ
beside weight p b (Call x f ts back) = weight (p.door f) + weight (p.point b)
beside weight p b _ = 0

-- the weight of all that stands for a block, where the new blocks have these weights
abbrev pub charged : Graph → Places → (ℕ → ℕ) → ℕ → ℕ
charged g p weight b = weight (p.block b) + beside weight p b (block_at g b).exit

-- block c of the second graph stands for a block, or it is a procedure's entry or a call's return block
abbrev pub IsPlaced : Graph → Places → ℕ → Type 0
IsPlaced g p c =
    ((b : ℕ) × (b < length (spots g)) × (c ≡ p.block b))
    ⊎ ((f : ℕ) × (f < length g.procs) × (c ≡ p.door f))
    ⊎ ((b : ℕ) × (b < length (spots g)) × (calls (block_at g b).exit ≡ true) × (c ≡ p.point b))

-- a save of a variable in a cell, a load of one, and a variable that begins with 0
abbrev pub IsSave : Op → Type 0
IsSave (Store a (Number n) (Var x)) = Unit {0}
IsSave _ = ⊥

abbrev pub IsLoad : Op → Type 0
IsLoad (Assign x (Cell a (Number n))) = Unit {0}
IsLoad _ = ⊥

abbrev pub IsClear : Op → Type 0
IsClear (Assign x (Number zero)) = Unit {0}
IsClear _ = ⊥

-- how many of the first n variables are live at block b by the sets
abbrev pub live_count : List (List ℕ) → ℕ → ℕ → ℕ
live_count live b zero = 0
live_count live b (suc n) = live_count live b n + (if has live b n then 1 else 0)

-- how many variables an exit of a procedure with so many saves at most: a call those that are live
-- where it goes on, and the address to which its procedure returns
abbrev pub most_saved : List (List ℕ) → ℕ → Exit → ℕ
most_saved live vars (Call x f ts back) = suc (live_count live back vars)
most_saved live vars _ = 0

-- The exit that stands for another: a call sends its values and a number to the callee's entry block,
-- and a return from a call sends its value to where a variable says.
abbrev pub StandsForExit : Places → Exit → Exit → Type 0
StandsForExit p (Goto b) y = y ≡ Goto (p.block b)
StandsForExit p (Branch t a b) y = y ≡ Branch t (p.block a) (p.block b)
StandsForExit p (Call x f ts back) y =
    (n : ℕ) × (y ≡ Send (Number 0) (ts ++ Number n ∷ []) (p.door f ∷ []))
StandsForExit p (Return t) y =
    (y ≡ Return t) ⊎ ((x : ℕ) × (ls : List ℕ) × (y ≡ Send (Var x) (t ∷ []) ls))
StandsForExit p _ y = y ≡ Stop

-- Block c of the second graph stands for block b of the first: it does the same, then saves. What is
-- live there was live before, or is the variable that has the return address.
pub record StandsFor (g : Graph) (live : List (List ℕ)) (h : Graph) (p : Places) (b c : ℕ) : Type 0
  where
    pub exit : StandsForExit p (block_at g b).exit (block_at h c).exit
    pub saves : List Op
    pub are_saves : AllByRecursion IsSave saves
    pub few : length saves ≤ most_saved live (spot_at g b).vars (block_at g b).exit
    pub ops : (block_at h c).ops ≡ (block_at g b).ops ++ saves
    pub held : (x : ℕ) → Live h c x → Live g b x ⊎ (x ≡ (spot_at g b).vars)

-- Block c, where a Send may land, names at most so many variables, holds such operations and goes on
-- to one block. Only what it names is live.
pub record GoesOnAfter (Is : Op → Type 0) (names : ℕ) (h : Graph) (c : ℕ) : Type 0 where
  pub ops : AllByRecursion Is (block_at h c).ops
  pub named : length (block_at h c).named ≤ names
  pub goes : (d : ℕ) × ((block_at h c).exit ≡ Goto d)
  pub held : (x : ℕ) → Live h c x → In x (block_at h c).named

-- of so many variables those that are live at block b by the sets are among the first n
abbrev pub LiveBelow : List (List ℕ) → ℕ → ℕ → ℕ → Type 0
LiveBelow live b vars n = (x : ℕ) → x < vars → has live b x ≡ true → x < n

-- What stands in the second graph for the blocks of the first, by these sets of live variables, that
-- it has no other block, and that the first pay for it: whatever the blocks of the second weigh, its
-- walks weigh no more than those of the first where each block is charged with all that stands for
-- it, and the entry block by which the walk begins. An entry block clears what is live at the
-- procedure's first block and isn't given.
pub record CallsCharged (g : Graph) (live : List (List ℕ)) (h : Graph) : Type 0 where
  pub places : Places
  pub each : (c : ℕ) → c < length (spots h) → IsPlaced g places c
  pub blocks : (b : ℕ) → b < length (spots g) → StandsFor g live h places b (places.block b)
  pub doors : (f : ℕ) → f < length g.procs →
      GoesOnAfter IsClear (suc (proc_at g f).params) h (places.door f)
  pub clears : (f n : ℕ) → f < length g.procs → (proc_at g f).params ≤ n →
      LiveBelow live (entry_of g f) (proc_at g f).vars n →
      length (block_at h (places.door f)).named + length (block_at h (places.door f)).ops ≤ suc n
  pub points : (b : ℕ) → b < length (spots g) → calls (block_at g b).exit ≡ true →
      GoesOnAfter IsLoad 1 h (places.point b)
  pub loads : (b : ℕ) → b < length (spots g) → calls (block_at g b).exit ≡ true →
      length (block_at h (places.point b)).ops
      ≤ most_saved live (spot_at g b).vars (block_at g b).exit
  pub begins : first_block h ≡ places.door (length g.procs - 1)
  pub opens : (n : ℕ) →
      LiveBelow live (first_block g) (proc_at g (length g.procs - 1)).vars n →
      length (block_at h (first_block h)).ops ≤ n
  pub walks : (weight : ℕ → ℕ) (base pay : ℕ) →
      WalksWeigh g (charged g places weight) base pay →
      WalksWeigh h weight (base + weight (first_block h)) pay

-- the same exit of the second graph, to the places of its blocks and of its callee's first block
abbrev pub SameExit : Graph → Graph → (ℕ → ℕ) → Exit → Exit → Type 0
SameExit g h place (Goto b) y = y ≡ Goto (place b)
SameExit g h place (Branch t a b) y = y ≡ Branch t (place a) (place b)
SameExit g h place (Call x f ts back) y =
    (e : ℕ) × (y ≡ Call x e ts (place back)) × (entry_of h e ≡ place (entry_of g f))
SameExit g h place (Return t) y = y ≡ Return t
SameExit g h place _ y = y ≡ Stop

-- in its place in the second graph a block does what it did in the first, on as many variables, and
-- no more are live
pub record DoesTheSame (g h : Graph) (place : ℕ → ℕ) (b : ℕ) : Type 0 where
  pub there : place b < length (spots h)
  pub vars : (spot_at h (place b)).vars ≡ (spot_at g b).vars
  pub ops : (block_at h (place b)).ops ≡ (block_at g b).ops
  pub exit : SameExit g h place (block_at g b).exit (block_at h (place b)).exit
  pub held : (x : ℕ) → Live h (place b) x → Live g b x

-- Each block that is reached has a place in the second graph, which has no other block. Whatever the
-- blocks of the second weigh, its walks weigh no more than those of the first where each block that
-- is reached weighs as much as the one in its place, or more.
pub record ReachedInPlace (g h : Graph) : Type 0 where
  pub place : ℕ → ℕ
  pub each : (c : ℕ) → c < length (spots h) →
      (b : ℕ) × (b < length (spots g)) × Reached g b × (c ≡ place b)
  pub begins : first_block h ≡ place (first_block g)
  pub same : (b : ℕ) → b < length (spots g) → Reached g b → DoesTheSame g h place b
  pub walks : (weight given : ℕ → ℕ) (base pay : ℕ) →
      ((b : ℕ) → b < length (spots g) → Reached g b → weight (place b) ≤ given b) →
      WalksWeigh g given base pay → WalksWeigh h weight base pay
