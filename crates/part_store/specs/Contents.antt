-- A buffer with partial store queues as contracts see it.
use Rattle.std.specs.Prelude.{ℕ, ◌-◌, ◌≡◌, Bool, false, cond, eqb, not, ◌&&◌, List, [], Option, None}
use Rattle.std.specs.Prelude.{slice_index}
use Rattle.std.specs.List.{list_any}
use Rattle.ws_words.specs.Outside.{World, row}
use Rattle.ws_isa.specs.declared.instr.Op.{Op}
use Rattle.ws_isa.specs.declared.instr.Op.TheVariants.{Load, Store}
use Rattle.ws_isa.specs.Image.{Image, instr_at, cells_of}
use Rattle.df_core.specs.Core.{Chain}
use Rattle.port_set.specs.Ports.{Told}
use Rattle.store_buf.specs.declared.kept.Kept.{Kept}
use Rattle.store_buf.specs.Requests.{issued_in}
use Rattle.store_buf.specs.Finding.{pair_eq}
use Rattle.store_buf.specs.Holds.{waiting_in}
use Rattle.store_buf.specs.Outdoors.{Holding}
use Rattle.store_buf.specs.Contents.{gives_word}
use Rattle.store_buf.specs.Contents as whole
use Rattle.part_store.specs.declared.entry.Queued.{Queued}
use Rattle.part_store.specs.Queues.{holds, is_queued}

-- Requests, and addresses without their data, in the order in which they came. One that has an answer counts
-- as issued: it is done, with this answer, or its operation is queued, and the answer isn't given yet. Bare
-- are the instances of which the address alone has come. Then what waits on cells, where the chain stands,
-- the array of the out-of-bounds operation at which that is stopped, the port that failed, whether a port
-- found no memory, and what is outside.
pub record PartContent : Type 0 where
  pub kept : List Kept
  pub bare : List (ℕ × ℕ)
  pub queued : List Queued
  pub chain : Chain
  pub fault : Option ℕ
  pub failed : Option ℕ
  pub starved : Bool
  pub outside : Holding

-- of an instance only the address has arrived
abbrev pub is_bare : PartContent → ℕ → ℕ → Bool
is_bare c w i = list_any (pair_eq (w, i)) c.bare

-- the whole requests that wait
abbrev pub asking : Image → PartContent → ℕ → ℕ → Option (List ℕ)
asking image c w i = cond (is_bare c w i) None (waiting_in image c.kept w i)

-- the row of a load or store, and no row
abbrev pub is_on_row : Op → ℕ → Bool
is_on_row (Load a) r = eqb (a - 1) r
is_on_row (Store a) r = eqb (a - 1) r
is_on_row _ r = false

-- a queue holds the cell of an operation with this index
abbrev pub holds_op : List Queued → Op → ℕ → Bool
holds_op es (Load a) j = holds es (a - 1) j
holds_op es (Store a) j = holds es (a - 1) j
holds_op es _ j = false

abbrev pub cell : List (List ℕ) → ℕ → ℕ → ℕ
cell cells r j = slice_index (row cells r) j

-- before the first request
abbrev pub opening_content : Image → World → List (Option Told) → PartContent
opening_content image world ports = record {
  kept = [];
  bare = [];
  queued = [];
  chain = record { wave = 1; last = None };
  fault = None;
  failed = None;
  starved = false;
  outside = record { cells = cells_of image.arrays; input = world.input; printed = []; ports = ports };
}

-- the word that an operation gave: one that is queued has given none
abbrev pub answer_of : Image → PartContent → ℕ → ℕ → Option ℕ
answer_of image c w i = cond (gives_word (instr_at image i).op && not (is_queued c.queued w i)) (issued_in
    c.kept w i) None

-- no address is without data
abbrev pub NoBare : PartContent → Type 0
NoBare c = (w i : ℕ) → is_bare c w i ≡ false

-- the same as a buffer without queues
abbrev pub whole_of : PartContent → whole.Content
whole_of c = record {
  kept = c.kept;
  chain = c.chain;
  fault = c.fault;
  failed = c.failed;
  starved = c.starved;
  outside = c.outside;
}
