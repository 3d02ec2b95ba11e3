-- The cells that queues hold.
use Rattle.std.specs.Prelude.{ℕ, ◌≡◌, false, List, [], ◌∷◌, Option}
use Rattle.std.specs.HashMap.{get}
use Rattle.std.specs.Option.{option_map}
use Rattle.store_buf.specs.Finding.{pair_eq}
use Rattle.part_store.specs.declared.entry.Queued.{Queued}
use Rattle.part_store.specs.declared.entry.Line.{Line}
use Rattle.part_store.specs.declared.queues.Queues.{Queues}
use Rattle.part_store.specs.Queues.{count_on, front, is_later, open_queues}
use Rattle.ws_words.specs.Items.{In}

-- the queue of a cell, where one holds it: its first operation, and how many wait
abbrev pub line_of : List Queued → ℕ → ℕ → Option Line
line_of es r j = option_map (λ e. record { first = e; count = count_on es r j }) (front es r j)

-- none of them is later in the walk than one behind it
abbrev pub Sorted : List Queued → Type 0
Sorted [] = Unit {0}
Sorted (e ∷ es) = ((f : Queued) → In f es → is_later e f ≡ false) × Sorted es

-- operations stand in the walk's order, and the held cells are listed and counted
pub record QueuesOk (q : Queues) : Type 0 where
  pub sorted : Sorted q.entries.items
  pub lines : (r j : ℕ) → get pair_eq q.lines (r, j) ≡ line_of q.entries.items r j
  pub counted : q.held ≡ open_queues q.entries.items
