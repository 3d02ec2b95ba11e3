-- In a closed part of a graph each block does what it did, and no more is live.
use Rattle.std.proofs.Common.{ℕ, ◌≡◌, Bool, true, List, [], ◌∷◌, refl, sym, ap, ◌∙◌, subst, inl, inr, arith}
use Rattle.cfg_core.specs.Graph.{Op, Exit, Call, Graph, spot_at, block_at, entry_of}
use Rattle.cfg_core.specs.Rules.{Leads, IsGraph}
use Rattle.cfg_core.specs.Weights.{first_block}
use Rattle.live_vars.specs.Live.{ExitReads, ExitWrites, Carries, ReadsFirst, Live, reads, passes}
use Rattle.call_gen.specs.Keeps.{NoSend, HasNoSend}
use Rattle.call_gen.specs.Reached.{Enters}
use Rattle.call_gen.specs.Part.{before, number, name, part}
use Rattle.call_gen.specs.Charged.{SameExit, DoesTheSame}
use Rattle.call_gen.proofs.Parted.PartPlaces.{part_spot}
use Rattle.call_gen.proofs.Parted.PartWalk as walks
use Rattle.call_gen.proofs.Parted.PartWalk.{Closed}

-- operations read the same first before another exit that reads no more
other_exit : (ops : List Op) (e f : Exit) (x : ℕ) → (ExitReads e x → ExitReads f x) → ReadsFirst ops e x
    → ReadsFirst ops f x
other_exit [] e f x h r = h r
other_exit (op ∷ ops) e f x h (inl r) = inl r
other_exit (op ∷ ops) e f x h (inr n) = inr (n.0, other_exit ops e f x h n.1)

module _ (g : Graph) (keep : ℕ → Bool) (rules : IsGraph g) (C : Closed g keep) (no_send : HasNoSend g) where
  abbrev h : Graph
  h = part g keep

  abbrev place : ℕ → ℕ
  place = before keep

  abbrev named : Exit → Exit
  named = name g keep

  block_is : (b : ℕ) → keep b ≡ true → spot_at h (place b) ≡ part_spot keep named (number g keep)
      (spot_at g b)
  block_is = walks.block_is g keep rules C

  exit_same : (b : ℕ) → keep b ≡ true → (x : Exit) → (block_at g b).exit ≡ x → NoSend x
      → SameExit g h place x (named x)
  exit_same b kept (Call r f ts back) e n =
      let there = (walks.exit_in g rules b (Call r f ts back) e).1 in
      let k : keep (entry_of g f) ≡ true = C.call b (entry_of g f) kept
      (subst (λ (y : Exit). Enters g y (entry_of g f)) (sym e) refl) in
      (number g keep f, refl, walks.entry_is g keep rules C f there k)
  exit_same b kept x e n = grind arith

  reads_same : (y : Exit) (x : ℕ) → ExitReads (named y) x → ExitReads y x
  reads_same y x r = grind arith

  writes_same : (y : Exit) (x : ℕ) → ExitWrites y x → ExitWrites (named y) x
  writes_same y x w = grind arith

  carries_same : (y : Exit) (d : ℕ) → Carries (named y) d → (c : ℕ) × (d ≡ place c) × Carries y c × Leads y c
  carries_same y d k = grind arith

  held : (k x : ℕ) → Live h k x → (b : ℕ) → keep b ≡ true → k ≡ place b → Live g b x
  held k x (reads _ _ r) b kept e = let is = ap (spot_at h) e ∙ block_is b kept in
      reads b x (other_exit (block_at g b).ops (named (block_at g b).exit) (block_at g b).exit x (reads_same
      (block_at g b).exit x) (grind arith))
  held k x (passes _ d _ nw ne c l) b kept e =
      let is = ap (spot_at h) e ∙ block_is b kept in
      let to = carries_same (block_at g b).exit d (grind arith) in
      passes b to.0 x (grind arith) (grind (arith, writes_same)) to.2 (held d x l to.0 (C.edge b to.0 kept
      to.3) to.1)

  -- a block that is kept does what it did
  pub does_the_same : (b : ℕ) → keep b ≡ true → DoesTheSame g h place b
  does_the_same b kept = grind (arith, block_is, walks.block_there, exit_same, held)

  -- the walk begins at the place where it began
  pub begins_there : first_block h ≡ place (first_block g)
  begins_there = grind (arith, walks.main_is, walks.entry_is, walks.main_there)
