-- The variables that are live at the start of a block.
use Rattle.std.specs.Prelude.{◌≡◌, ℕ, ◌⊎◌, List, [], ◌∷◌, Some}
use Rattle.cfg_core.specs.Graph.{Term, Number, Var, Cell, Flip, Not, Neg, Binary, Op, Assign, Store, Print}
use Rattle.cfg_core.specs.Graph.{Read, Give, Take, Choose, Tick, TickBy, Exit, Goto, Branch, Call, Return}
use Rattle.cfg_core.specs.Graph.{Send, Stop, Graph, block_at}

abbrev pub Mentions : Term → ℕ → Type 0
Mentions (Number n) x = ⊥
Mentions (Var y) x = x ≡ y
Mentions (Cell a t) x = Mentions t x
Mentions (Flip t) x = Mentions t x
Mentions (Not t) x = Mentions t x
Mentions (Neg t) x = Mentions t x
Mentions (Binary op a b) x = Mentions a x ⊎ Mentions b x

abbrev pub OneMentions : List Term → ℕ → Type 0
OneMentions [] x = ⊥
OneMentions (t ∷ ts) x = Mentions t x ⊎ OneMentions ts x

-- an operation reads the variables of all its terms
abbrev pub OpReads : Op → ℕ → Type 0
OpReads (Assign y t) x = Mentions t x
OpReads (Store a t u) x = Mentions t x ⊎ Mentions u x
OpReads (Print t) x = Mentions t x
OpReads (Read y) x = ⊥
OpReads (Give p y) x = ⊥
OpReads (Take p t) x = Mentions t x
OpReads (Choose y t a b) x = Mentions t x ⊎ (Mentions a x ⊎ Mentions b x)
OpReads (Tick n) x = ⊥
OpReads (TickBy t n m) x = Mentions t x

abbrev pub OpWrites : Op → ℕ → Type 0
OpWrites (Assign y t) x = x ≡ y
OpWrites (Read y) x = x ≡ y
OpWrites (Give p y) x = x ≡ y
OpWrites (Choose y t a b) x = x ≡ y
OpWrites _ x = ⊥

abbrev pub ExitReads : Exit → ℕ → Type 0
ExitReads (Goto b) x = ⊥
ExitReads (Branch t a b) x = Mentions t x
ExitReads (Call r f ts back) x = OneMentions ts x
ExitReads (Return t) x = Mentions t x
ExitReads (Send t ts ls) x = Mentions t x ⊎ OneMentions ts x
ExitReads Stop x = ⊥

-- a call writes the variable that takes its result, on the path to its return block
abbrev pub ExitWrites : Exit → ℕ → Type 0
ExitWrites (Call (Some y) f ts back) x = x ≡ y
ExitWrites _ x = ⊥

-- An edge on which a variable keeps its value, unless the exit writes it. A Send has none: it writes every
-- variable of the block that it enters, those that the block names and, with 0, all others.
abbrev pub Carries : Exit → ℕ → Type 0
Carries (Goto b) c = c ≡ b
Carries (Branch t a b) c = (c ≡ a) ⊎ (c ≡ b)
Carries (Call r f ts back) c = c ≡ back
Carries _ c = ⊥

-- some operation writes x
abbrev pub WrittenIn : List Op → ℕ → Type 0
WrittenIn [] x = ⊥
WrittenIn (op ∷ ops) x = OpWrites op x ⊎ WrittenIn ops x

-- an operation or the exit after them reads x, and none before it writes x
abbrev pub ReadsFirst : List Op → Exit → ℕ → Type 0
ReadsFirst [] exit x = ExitReads exit x
ReadsFirst (op ∷ ops) exit x = OpReads op x ⊎ ((OpWrites op x → ⊥) × ReadsFirst ops exit x)

-- Some path from the start of block b reads x before it writes it. A call's path goes on at its return block.
pub data Live (g : Graph) : ℕ → ℕ → Type 0 where
  reads : (b x : ℕ) → ReadsFirst (block_at g b).ops (block_at g b).exit x → Live g b x
  passes : (b c x : ℕ) → (WrittenIn (block_at g b).ops x → ⊥) → (ExitWrites (block_at g b).exit x → ⊥)
      → Carries (block_at g b).exit c → Live g c x → Live g b x
