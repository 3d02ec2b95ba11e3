-- What is true of a buffer with partial store queues: it is legal but for the cells that queues hold.
use Rattle.std.specs.Prelude.{ℕ, ◌≡◌, ◌<◌, ◌≤◌, Bool, true, false, List, [], ◌∷◌, length, Option, Some}
use Rattle.std.specs.Prelude.{slice_index}
use Rattle.ws_words.specs.Outside.{Outside, World, row}
use Rattle.ws_isa.specs.declared.instr.Op.{Op}
use Rattle.ws_isa.specs.declared.instr.Op.TheVariants.{Store}
use Rattle.ws_isa.specs.Image.{Image, instr_at, note_of}
use Rattle.ws_isa.specs.Walk.{Inst}
use Rattle.df_core.specs.Effect.{effect_at}
use Rattle.df_core.specs.Core.{has}
use Rattle.df_core.specs.Fit.{FiresAt, Legal}
use Rattle.df_core.specs.Began.{Began}
use Rattle.df_core.specs.Rights.{IsAsked}
use Rattle.store_buf.specs.declared.kept.Kept.{Kept}
use Rattle.store_buf.specs.Requests.{entry_of, issued_in}
use Rattle.store_buf.specs.Outdoors.{HoldsOut}
use Rattle.store_buf.specs.Contents.{FaultIs}
use Rattle.store_buf.specs.Stores.{asked_of}
use Rattle.part_store.specs.declared.entry.Queued.{Queued}
use Rattle.part_store.specs.Queues.{front, holds, is_queued, open_queues}
use Rattle.part_store.specs.Contents.{is_bare, asking, is_on_row, cell, PartContent}
use Rattle.ws_words.specs.Items.{In}

-- the walk's step t fires the instance, a load or store on this cell
pub record OnCell (image : Image) (world : World) (w i r j t : ℕ) : Type 0 where
  pub inst : Inst
  pub at : FiresAt image world w i t inst
  pub row : is_on_row (instr_at image i).op r ≡ true
  pub index : slice_index inst.operands 0 ≡ j

-- it has the sequence number of its instruction's annotation
abbrev pub IsNumbered : Image → Queued → Type 0
IsNumbered image e = e.seq ≡ (note_of image e.instr).seq

-- the one is before the other in the walk
pub record Earlier (image : Image) (world : World) (e f : Queued) : Type 0 where
  pub time : ℕ
  pub one : OnCell image world e.wave e.instr e.row e.index time
  pub then : ℕ
  pub other : OnCell image world f.wave f.instr f.row f.index then
  pub before : time < then
  pub numbered : IsNumbered image e × IsNumbered image f

-- in the walk's order
abbrev pub RisingEntries : Image → World → List Queued → Type 0
RisingEntries image world [] = Unit {0}
RisingEntries image world (e ∷ es) = ((f : Queued) → In f es → Earlier image world e f) ×
    RisingEntries image world es

abbrev pub is_store_op : Op → Bool
is_store_op (Store a) = true
is_store_op _ = false

-- the walk has the store, and this address
pub record IsAddressed (image : Image) (world : World) (w i first : ℕ) : Type 0 where
  pub time : ℕ
  pub inst : Inst
  pub at : FiresAt image world w i time inst
  pub store : is_store_op (instr_at image i).op ≡ true
  pub address : slice_index inst.operands 0 ≡ first

-- a request is right, or an address without data is
abbrev pub IsKept : Image → World → Bool → Kept → Type 0
IsKept image world false k = IsAsked image world (asked_of k)
IsKept image world true k = IsAddressed image world k.wave k.instr k.first

-- Where `counts` are the operations that count as issued, with the walk's results, and `memory` is what the
-- passed ones leave: what is done, what waits in queues, and what the cells hold.
pub record Partly (image : Image) (world : World) (began : List (Option Began))
    (counts : ℕ → ℕ → Option ℕ) (memory : Outside) (c : PartContent) : Type 0 where
  pub right : (w i : ℕ) (k : Kept) → entry_of c.kept w i ≡ Some k → IsKept image world (is_bare c w i) k
  -- an operation that counts as issued is done, with its answer, or queued
  pub same : (w i : ℕ) → has (counts w i) ≡ has (issued_in c.kept w i)
  pub told : (w i a : ℕ) → is_queued c.queued w i ≡ false → issued_in c.kept w i ≡ Some a →
      counts w i ≡ Some a
  pub opened : (w i a : ℕ) → counts w i ≡ Some a → is_bare c w i ≡ true → is_queued c.queued w i ≡ true
  -- queues hold operations that count as issued, on their cells and in the walk's order, and from a cell's
  -- first one on all
  pub sits : (e : Queued) → In e c.queued → ((t : ℕ) × OnCell image world e.wave e.instr e.row e.index t)
      × ((a : ℕ) × (counts e.wave e.instr ≡ Some a))
  pub numbered : (e : Queued) → In e c.queued → IsNumbered image e
  pub rising : RisingEntries image world c.queued
  pub every : (e : Queued) (r j t : ℕ) → front c.queued r j ≡ Some e →
      OnCell image world e.wave e.instr r j t →
      (w i a u : ℕ) → counts w i ≡ Some a → OnCell image world w i r j u → t ≤ u →
      is_queued c.queued w i ≡ true
  pub few : open_queues c.queued ≤ 16
  -- a cell without a queue has its value after the passed operations, and one with a queue its value before
  -- the first entry
  pub free : (r j : ℕ) → holds c.queued r j ≡ false → cell c.outside.cells r j ≡ cell memory.cells r j
  pub before : (e : Queued) (r j t : ℕ) → front c.queued r j ≡ Some e →
      OnCell image world e.wave e.instr r j t →
      cell c.outside.cells r j ≡ cell (effect_at image world t).cells r j
  pub rows : length c.outside.cells ≡ length memory.cells
  pub shape : (r : ℕ) → length (row c.outside.cells r) ≡ length (row memory.cells r)
  -- input, printed words and ports are what the passed operations leave
  pub outside : HoldsOut began (record {
    cells = c.outside.cells;
    input = memory.input;
    left = memory.left;
    acts = memory.acts;
  }) c.outside

-- each queue's first entry is a store without data
abbrev pub Fronts : PartContent → Type 0
Fronts c = (e : Queued) (r j : ℕ) → front c.queued r j ≡ Some e → is_bare c e.wave e.instr ≡ true

-- The passed operations are the first ones of the walk, none of them out of bounds; the others that count as
-- issued are loads before their turn; none is next; and where the chain is stopped, the walk's first
-- out-of-bounds operation is next and its request waits. Then no queue is open.
pub record Parting (image : Image) (world : World) (began : List (Option Began))
    (c : PartContent) : Type 0 where
  pub counts : ℕ → ℕ → Option ℕ
  pub memory : Outside
  pub legal : Legal image world counts (asking image c) (has c.fault) c.chain memory
  pub partly : Partly image world began counts memory c
  pub fault : FaultIs image world c.fault
  pub quiet : has c.fault ≡ true → c.queued ≡ []

-- and each queue's first entry is a store without data
abbrev pub Parted : Image → World → List (Option Began) → PartContent → Type 0
Parted image world began c = Parting image world began c × Fronts c
