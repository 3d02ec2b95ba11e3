-- What matters before operations and at the exit of a block, and that it is live at the block's start.
use Rattle.std.proofs.Common.{ℕ, ◌≡◌, ◌<◌, ◌⊎◌, List, [], ◌∷◌, get_or, inl, inr}
use Rattle.cfg_core.specs.Graph.{Op, Exit, Graph, block_at}
use Rattle.live_vars.specs.Live.{OpReads, OpWrites, ExitReads, ExitWrites, Carries, WrittenIn, ReadsFirst}
use Rattle.live_vars.specs.Live.{Live, reads, passes}

-- the values of the variables below n of which P holds
abbrev pub Agree : ℕ → (ℕ → Type 0) → List ℕ → List ℕ → Type 0
Agree n P vs ws = (x : ℕ) → x < n → P x → get_or vs x 0 ≡ get_or ws x 0

-- what matters before an operation, where P matters after it
abbrev pub Before : Op → (ℕ → Type 0) → ℕ → Type 0
Before op P x = OpReads op x ⊎ ((OpWrites op x → ⊥) × P x)

-- what matters before operations, where P matters after them
abbrev pub Needs : List Op → (ℕ → Type 0) → ℕ → Type 0
Needs [] P x = P x
Needs (op ∷ ops) P x = Before op (Needs ops P) x

-- what matters at the exit of a block
abbrev pub After : Graph → Exit → ℕ → Type 0
After g exit x = ExitReads exit x ⊎ ((ExitWrites exit x → ⊥) × ((c : ℕ) × Carries exit c × Live g c x))

split : (ops : List Op) (exit : Exit) (Q : ℕ → Type 0) (x : ℕ) → Needs ops (λ y. ExitReads exit y ⊎ Q y) x
    → ReadsFirst ops exit x ⊎ ((WrittenIn ops x → ⊥) × Q x)
split [] exit Q x (inl r) = inl r
split [] exit Q x (inr q) = inr ((λ w. w), q)
split (op ∷ ops) exit Q x (inl r) = inl (inl r)
split (op ∷ ops) exit Q x (inr n) = elim (split ops exit Q x n.1) [
  | inl r ↦ inl (inr (n.0, r))
  | inr q ↦ inr (λ w. elim w [ inl h ↦ n.0 h | inr h ↦ q.0 h ], q.1)
]

-- what matters at the start of a block is live there
pub needed_is_live : (g : Graph) (b x : ℕ) → Needs (block_at g b).ops (After g (block_at g b).exit) x
    → Live g b x
needed_is_live g b x n =
    elim (split (block_at g b).ops (block_at g b).exit (λ y. (ExitWrites (block_at g b).exit y → ⊥)
    × ((c : ℕ) × Carries (block_at g b).exit c × Live g c y)) x n) [
      | inl r ↦ reads b x r
      | inr q ↦ passes b q.1.1.0 x q.0 q.1.0 q.1.1.1 q.1.1.2
    ]

-- what an exit reads and no operation writes is read first
pub first_exit : (ops : List Op) (exit : Exit) (x : ℕ) → (WrittenIn ops x → ⊥) → ExitReads exit x
    → ReadsFirst ops exit x
first_exit [] exit x never r = r
first_exit (op ∷ ops) exit x never r = inr (λ w. never (inl w), first_exit ops exit x (λ w. never (inr w)) r)
