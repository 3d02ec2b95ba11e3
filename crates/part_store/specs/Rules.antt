-- The rules, and where calls lead.
use Rattle.std.specs.Prelude.{ℕ, ◌-◌, ◌≡◌, ◌<◌, ◌⊎◌, Bool, true, false, cond, List, [], ◌∷◌, ◌++◌, Option}
use Rattle.std.specs.Prelude.{Some, None, slice_set}
use Rattle.ws_words.specs.Outside.{Outside, row, with_row}
use Rattle.ws_isa.specs.Image.{Image, Token, ports, instr_at, note_of, is_past_op, sends, array_at}
use Rattle.df_core.specs.Core.{IsNext, Issuable, Passes, same_key, with_key}
use Rattle.df_core.specs.Began.{Began}
use Rattle.df_core.specs.Rights.{operands_of}
use Rattle.store_buf.specs.declared.kept.Kept.{Kept}
use Rattle.store_buf.specs.Requests.{entry_of, issued_in}
use Rattle.store_buf.specs.Outdoors.{Holding, HoldsOut, Performed}
use Rattle.part_store.specs.declared.entry.Queued.{Queued}
use Rattle.part_store.specs.Queues.{front, joined, open_queues, without}
use Rattle.part_store.specs.Contents.{is_bare, cell, holds_op, PartContent}
use Rattle.part_store.specs.Parted.{Fronts, is_store_op}

abbrev pub operands_at : Image → Kept → List ℕ
operands_at image k = operands_of (ports image k.instr) k.first k.second

-- a request or an address that isn't issued
pub record Waits (c : PartContent) (k : Kept) (bare : Bool) : Type 0 where
  pub kept : entry_of c.kept k.wave k.instr ≡ Some k
  pub waits : k.answer ≡ None
  pub bare_is : is_bare c k.wave k.instr ≡ bare

abbrev pub is_past_at : Image → Kept → Bool
is_past_at image k = is_past_op image.arrays (instr_at image k.instr).op (k.first ∷ [])

-- rule 1: an address within its array is next, and a queue holds its cell or one is free
pub record OpensQueue (image : Image) (c : PartContent) (k : Kept) : Type 0 where
  pub waits : Waits c k true
  pub current : k.wave ≡ c.chain.wave
  pub next : IsNext c.chain (note_of image k.instr)
  pub within : is_past_at image k ≡ false
  pub going : c.fault ≡ None
  pub room : (holds_op c.queued (instr_at image k.instr).op k.first ≡ true) ⊎ (open_queues c.queued < 16)

-- rules 2 and 5: the chain lets a whole request issue that isn't out of bounds
pub record GoesByChain (image : Image) (c : PartContent) (k : Kept) : Type 0 where
  pub waits : Waits c k false
  pub may : Issuable image (issued_in c.kept) c.chain false k.wave k.instr (operands_at image k)
  pub within : is_past_at image k ≡ false
  pub going : c.fault ≡ None

-- rule 3: the first entry of a queue has its data, or needs none
pub record FrontGoes (c : PartContent) (e : Queued) : Type 0 where
  pub first : front c.queued e.row e.index ≡ Some e
  pub whole : is_bare c e.wave e.instr ≡ false

-- rule 4: a whole request out of bounds is next, and no queue is open
pub record Faults (image : Image) (c : PartContent) (k : Kept) : Type 0 where
  pub waits : Waits c k false
  pub current : k.wave ≡ c.chain.wave
  pub next : IsNext c.chain (note_of image k.instr)
  pub past : is_past_at image k ≡ true
  pub going : c.fault ≡ None
  pub none : c.queued ≡ []

pub record NoRule (image : Image) (c : PartContent) : Type 0 where
  pub opens : (k : Kept) → OpensQueue image c k → ⊥
  pub goes : (k : Kept) → GoesByChain image c k → ⊥
  pub follows : (e : Queued) → FrontGoes c e → ⊥
  pub faults : (k : Kept) → Faults image c k → ⊥

-- the request with this answer
abbrev pub answered : Kept → Option ℕ → Kept
answered k a = record { wave = k.wave; instr = k.instr; first = k.first; second = k.second; answer = a }

-- the operation has this answer and counts as issued, the chain passes what is next, and these queues are
-- left
pub record Counted (image : Image) (c : PartContent) (k : Kept) (word : ℕ) (queued : List Queued)
    (outside : Holding) (d : PartContent) : Type 0 where
  pub kept : (w i : ℕ) → entry_of d.kept w i
      ≡ with_key k.wave k.instr (Some (answered k (Some word))) (entry_of c.kept) w i
  pub passed : Passes image (issued_in d.kept) c.chain d.chain
  pub bare : (w i : ℕ) → is_bare d w i ≡ is_bare c w i
  pub queued_are : d.queued ≡ queued
  pub outside_is : d.outside ≡ outside
  pub fault : d.fault ≡ c.fault

abbrev pub entry_at : Image → Kept → Queued
entry_at image k = record {
  wave = k.wave;
  instr = k.instr;
  seq = (note_of image k.instr).seq;
  row = array_at image k.instr - 1;
  index = k.first;
}

-- what a first entry gives, and the cells that it leaves
abbrev pub word_of : Image → PartContent → Queued → ℕ
word_of image c e = cond (is_store_op (instr_at image e.instr).op) 0 (cell c.outside.cells e.row e.index)

abbrev pub cells_left : Image → PartContent → Kept → Queued → List (List ℕ)
cells_left image c k e = cond (is_store_op (instr_at image e.instr).op)
    (with_row c.outside.cells e.row (slice_set (row c.outside.cells e.row) e.index k.second)) c.outside.cells

-- the first entry of a queue is done, and leaves it
pub record Followed (image : Image) (c : PartContent) (e : Queued) (tokens : List Token)
    (d : PartContent) : Type 0 where
  pub request : Kept
  pub is_kept : entry_of c.kept e.wave e.instr ≡ Some request
  pub kept : (w i : ℕ) → entry_of d.kept w i ≡ with_key e.wave e.instr
      (Some (record {
        wave = e.wave;
        instr = e.instr;
        first = request.first;
        second = request.second;
        answer = Some (word_of image c e);
      })) (entry_of c.kept) w i
  pub cells : d.outside.cells ≡ cells_left image c request e
  pub input : d.outside.input ≡ c.outside.input
  pub printed : d.outside.printed ≡ c.outside.printed
  pub ports : d.outside.ports ≡ c.outside.ports
  pub queued : d.queued ≡ without c.queued e.wave e.instr
  pub bare : (w i : ℕ) → is_bare d w i ≡ is_bare c w i
  pub chain : d.chain ≡ c.chain
  pub fault : d.fault ≡ c.fault
  pub tokens_are : tokens ≡ sends image e.wave e.instr (operands_at image request) (word_of image c e)

-- Moves by the rules in turn, and the result tokens of what was done: a first entry follows; and where none
-- does, a store is opened, an operation joins the queue of its cell, one is issued as in a buffer without
-- queues, or the chain stops.
pub data Moves (image : Image) : PartContent → List Token → PartContent → Type 0 where
  stays : {c : PartContent} → Moves image c [] c
  opens : {c d e : PartContent} {rest : List Token} (k : Kept) → Fronts c → OpensQueue image c k →
      Counted image c k 0 (joined (entry_at image k) c.queued) c.outside d → Moves image d rest e →
      Moves image c rest e
  joins : {c d e : PartContent} {rest : List Token} (k : Kept) → Fronts c → GoesByChain image c k →
      holds_op c.queued (instr_at image k.instr).op k.first ≡ true →
      Counted image c k 0 (joined (entry_at image k) c.queued) c.outside d → Moves image d rest e →
      Moves image c rest e
  issues : {c d e : PartContent} {rest : List Token} (k : Kept) (word : ℕ) (left : Holding) → Fronts c →
      GoesByChain image c k → holds_op c.queued (instr_at image k.instr).op k.first ≡ false →
      ((began : List (Option Began)) (o : Outside) → HoldsOut began o c.outside →
      Performed began (instr_at image k.instr).op (k.first ∷ k.second ∷ 0 ∷ []) o word left) →
      Counted image c k word c.queued left d → Moves image d rest e →
      Moves image c (sends image k.wave k.instr (operands_at image k) word ++ rest) e
  follows : {c d e : PartContent} {some rest : List Token} (first : Queued) → FrontGoes c first →
      c.fault ≡ None →
      Followed image c first some d → Moves image d rest e → Moves image c (some ++ rest) e
  stops : {c : PartContent} (k : Kept) → Faults image c k →
      Moves image c [] (record c { fault = Some (array_at image k.instr) })

-- the same but for how often ports have failed, and what is kept in mind of them
pub record Alike (c d : PartContent) : Type 0 where
  pub kept : d.kept ≡ c.kept
  pub bare : d.bare ≡ c.bare
  pub queued : d.queued ≡ c.queued
  pub chain : d.chain ≡ c.chain
  pub fault : d.fault ≡ c.fault
  pub cells : d.outside.cells ≡ c.outside.cells
  pub input : d.outside.input ≡ c.outside.input
  pub printed : d.outside.printed ≡ c.outside.printed
  pub ports : (began : List (Option Began)) (o : Outside) → HoldsOut began o c.outside
      → HoldsOut began o d.outside

-- moves with these tokens lead from one to the other
pub record MovesTo (image : Image) (c : PartContent) (tokens : List Token) (d : PartContent) : Type 0 where
  pub mid : PartContent
  pub moves : Moves image c tokens mid
  pub alike : Alike mid d

-- a request, or an address without its data, that had not arrived has arrived
pub record ComesIn (c : PartContent) (k : Kept) (bare : Bool) (d : PartContent) : Type 0 where
  pub fresh : entry_of c.kept k.wave k.instr ≡ None
  pub kept : d.kept ≡ c.kept ++ answered k None ∷ []
  pub bare_is : (w i : ℕ) → is_bare d w i ≡ cond (same_key k.wave k.instr w i) bare (is_bare c w i)
  pub queued : d.queued ≡ c.queued
  pub chain : d.chain ≡ c.chain
  pub fault : d.fault ≡ c.fault
  pub outside : d.outside ≡ c.outside

-- the data of a store has come, whose address came before
pub record Fills (c : PartContent) (k : Kept) (d : PartContent) : Type 0 where
  pub old : Kept
  pub was : entry_of c.kept k.wave k.instr ≡ Some old
  pub bare : is_bare c k.wave k.instr ≡ true
  pub kept : (w i : ℕ) → entry_of d.kept w i
      ≡ with_key k.wave k.instr (Some (answered k old.answer)) (entry_of c.kept) w i
  pub bare_is : (w i : ℕ) → is_bare d w i ≡ cond (same_key k.wave k.instr w i) false (is_bare c w i)
  pub queued : d.queued ≡ c.queued
  pub chain : d.chain ≡ c.chain
  pub fault : d.fault ≡ c.fault
  pub outside : d.outside ≡ c.outside
