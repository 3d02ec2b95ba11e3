-- What the code holds of what is outside.
use Rattle.std.specs.Prelude.{◌≡◌, ◌+◌, ◌≤◌, ℕ, List, map, Some, Vec, vec_len, vec_capacity, drop, length}
use Rattle.std.specs.declared.alloc.Global.{Global}
use Rattle.ws_words.specs.Outside.{Outside, printed_words}
use Rattle.ws_words.specs.Plain.{took_by_ports}
use Rattle.ws_isa.specs.declared.instr.Op.{Op}
use Rattle.ws_isa.specs.Image.{answer_op, after_op}
use Rattle.df_core.specs.declared.memory.Memory.{Memory}
use Rattle.ws_words.specs.Items.{nth}

abbrev pub rows_of : List (Vec ℕ Global) → List (List ℕ)
rows_of rows = map (λ (row : Vec ℕ Global). row.items) rows

-- what is outside is what the code holds, but for the acts, of which it holds the words taken by ports, and
-- those printed but for the first so many, which were taken
pub record MemoryIs (o : Outside) (m : Memory) : Type 0 where
  pub same_cells : o.cells ≡ m.cells
  pub same_input : o.input ≡ m.input
  pub same_left : o.left ≡ m.left.items
  pub same_printed : m.printed.items ≡ drop m.gone (printed_words o.acts)
  pub few_gone : m.gone ≤ length (printed_words o.acts)
  pub same_took : took_by_ports o.acts ≡ rows_of m.took.items

-- the answer of a memory operation, and what it leaves
pub record CarriesOut (op : Op) (xs : List ℕ) (o : Outside) (word : ℕ) (m : Memory) : Type 0 where
  pub answer : word ≡ answer_op op xs o
  pub after : MemoryIs (after_op op xs o) m

-- each row has room for so many more words
abbrev pub HasSpace : List (Vec ℕ Global) → ℕ → Type 0
HasSpace rows n = (p : ℕ) (row : Vec ℕ Global) → nth rows p ≡ Some row →
    vec_len row + n ≤ vec_capacity row

-- there is room for so many more words printed, and taken by each port
pub record Space (m : Memory) (n : ℕ) : Type 0 where
  pub printed : vec_len m.printed + n ≤ vec_capacity m.printed
  pub took : HasSpace m.took.items n

-- the same in other places of memory
pub record SameOut (old new : Memory) : Type 0 where
  pub cells : new.cells ≡ old.cells
  pub input : new.input ≡ old.input
  pub left : new.left ≡ old.left
  pub printed : new.printed.items ≡ old.printed.items
  pub gone : new.gone ≡ old.gone
  pub took : rows_of new.took.items ≡ rows_of old.took.items
