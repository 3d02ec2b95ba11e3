-- An image as plain data, without buffers, and what the machine reads of it: ports, memory
-- annotations, results, effects, and where results are sent. A draft is the same data without
-- annotations.
use Rattle.std.specs.Prelude.{ℕ, zero, suc, ◌+◌, ◌-◌, ◌<◌, ◌≤◌, Bool, true, false, cond, not, List, [], ◌∷◌}
use Rattle.std.specs.Prelude.{◌++◌, length, Option, None, eqb, ltb, slice_index}
use Rattle.ws_words.specs.Operators.{applied}
use Rattle.ws_words.specs.Outside.{Act, loads, stores, reads, prints, gives, takes, Outside, row, array_of}
use Rattle.ws_words.specs.Outside.{head_or_zero, zeros}
use Rattle.ws_words.specs.Past.{after_acts}
use Rattle.ws_isa.specs.declared.instr.Op.{Op}
use Rattle.ws_isa.specs.declared.instr.Op.TheVariants.{Const, Alu, Advance, Steer, Phi, Send, Load, Store}
use Rattle.ws_isa.specs.declared.instr.Op.TheVariants.{Input, Output, Give, Take, Nop, Halt}
use Rattle.ws_isa.specs.declared.instr.Link.TheVariants.{Unknown}
use Rattle.ws_isa.specs.declared.instr.Note.{Note}
use Rattle.ws_isa.specs.declared.instr.Dest.{Dest}
use Rattle.ws_words.specs.Items.{nth, or_else}

-- operations, annotations and destinations are the code's own
pub record Instr : Type 0 where
  pub op : Op
  pub note : Option Note
  pub dests : List Dest
  pub others : List Dest

-- of `Branch` and `Landings` the first number is an instruction
pub data Exit : Type 0 where
  Goto : (b : ℕ) → Exit
  Branch : (s b c : ℕ) → Exit
  Landings : (s : ℕ) (landings : List ℕ) → Exit
  Stop : Exit

pub record Pad : Type 0 where
  pub number : ℕ
  pub dests : List Dest

pub record Block : Type 0 where
  pub wave : ℕ
  pub pads : List Pad
  pub instrs : List Instr
  pub exit : Exit

-- one without a name is hidden
pub record Array : Type 0 where
  pub name : Option (List ℕ)
  pub length : ℕ

pub record Image : Type 0 where
  pub arrays : List Array
  pub blocks : List Block

-- a value at a port of an instance
pub record Token : Type 0 where
  pub wave : ℕ
  pub instr : ℕ
  pub port : ℕ
  pub value : ℕ

-- Instructions and blocks are numbered from 1. These stand for numbers that aren't there.
unfoldable pub no_instr : Instr
no_instr = record { op = Halt; note = None; dests = []; others = [] }

unfoldable pub no_block : Block
no_block = record { wave = 0; pads = []; instrs = []; exit = Stop }

unfoldable pub no_note : Note
no_note = record { pred = Unknown; seq = 0; succ = Unknown; ripple = 0 }

abbrev pub flat : List Block → List Instr
flat [] = []
flat (b ∷ bs) = b.instrs ++ flat bs

unfoldable pub instr_at : Image → ℕ → Instr
instr_at image zero = no_instr
instr_at image (suc k) = or_else (nth (flat image.blocks) k) no_instr

unfoldable pub block_at : Image → ℕ → Block
block_at image zero = no_block
block_at image (suc b) = or_else (nth image.blocks b) no_block

-- the number of the first instruction of the block at a place, and of the block after the last one
abbrev pub first_of : List Block → ℕ → ℕ
first_of [] b = 1
first_of (x ∷ xs) zero = 1
first_of (x ∷ xs) (suc b) = length x.instrs + first_of xs b

unfoldable pub first_number : Image → ℕ → ℕ
first_number image zero = 1
first_number image (suc b) = first_of image.blocks b

unfoldable pub size_of : Image → ℕ → ℕ
size_of image b = first_number image (suc b) - first_number image b

-- the block that holds the instruction at a place, counted from b
abbrev pub holder : List Block → ℕ → ℕ → ℕ
holder [] b k = b
holder (x ∷ xs) b k = cond (ltb k (length x.instrs)) b (holder xs (suc b) (k - length x.instrs))

unfoldable pub block_of : Image → ℕ → ℕ
block_of image zero = 0
block_of image (suc k) = holder image.blocks 1 k

abbrev pub ports_of : Op → ℕ
ports_of (Alu o) = 2
ports_of Steer = 2
ports_of Phi = 3
ports_of (Send k) = 2
ports_of (Store a) = 2
ports_of _ = 1

abbrev pub is_memory_op : Op → Bool
is_memory_op (Load a) = true
is_memory_op (Store a) = true
is_memory_op Input = true
is_memory_op Output = true
is_memory_op (Give p) = true
is_memory_op (Take p) = true
is_memory_op Nop = true
is_memory_op Halt = true
is_memory_op _ = false

abbrev pub is_load_op : Op → Bool
is_load_op (Load a) = true
is_load_op _ = false

abbrev pub is_steer_op : Op → Bool
is_steer_op Steer = true
is_steer_op _ = false

-- counts as a store
abbrev pub is_writing_op : Op → Bool
is_writing_op (Store a) = true
is_writing_op Input = true
is_writing_op Output = true
is_writing_op (Give p) = true
is_writing_op (Take p) = true
is_writing_op Halt = true
is_writing_op _ = false

abbrev pub is_advance_op : Op → Bool
is_advance_op Advance = true
is_advance_op _ = false

-- has no result
abbrev pub is_silent_op : Op → Bool
is_silent_op (Store a) = true
is_silent_op Output = true
is_silent_op (Take p) = true
is_silent_op Nop = true
is_silent_op Halt = true
is_silent_op _ = false

-- has a result, and sends it to the same places whatever the operands are
abbrev pub is_giving_op : Op → Bool
is_giving_op Steer = false
is_giving_op (Send k) = false
is_giving_op op = not (is_silent_op op)

unfoldable pub ports : Image → ℕ → ℕ
ports image k = ports_of (instr_at image k).op

unfoldable pub is_memory : Image → ℕ → Bool
is_memory image k = is_memory_op (instr_at image k).op

unfoldable pub is_load : Image → ℕ → Bool
is_load image k = is_load_op (instr_at image k).op

unfoldable pub is_writing : Image → ℕ → Bool
is_writing image k = is_writing_op (instr_at image k).op

unfoldable pub is_advance : Image → ℕ → Bool
is_advance image k = is_advance_op (instr_at image k).op

unfoldable pub is_giving : Image → ℕ → Bool
is_giving image k = is_giving_op (instr_at image k).op

unfoldable pub note_of : Image → ℕ → Note
note_of image k = or_else (instr_at image k).note no_note

-- the result of an instruction that isn't memory's, by its operands
abbrev pub result_of_op : Op → List ℕ → ℕ
result_of_op (Const k) xs = k
result_of_op (Alu o) xs = applied o (slice_index xs 0) (slice_index xs 1)
result_of_op Phi xs = cond (eqb (slice_index xs 2) 0) (slice_index xs 1) (slice_index xs 0)
result_of_op (Send k) xs = slice_index xs 1
result_of_op _ xs = slice_index xs 0

unfoldable pub result_of : Image → ℕ → List ℕ → ℕ
result_of image k xs = result_of_op (instr_at image k).op xs

-- the answer of a memory operation; 0 if it has no result or is out of bounds
abbrev pub answer_op : Op → List ℕ → Outside → ℕ
answer_op (Load a) xs o = slice_index (array_of o a) (slice_index xs 0)
answer_op Input xs o = head_or_zero o.input
answer_op (Give p) xs o = head_or_zero (row o.left (p - 1))
answer_op _ xs o = 0

-- the acts of a memory operation on its operands
abbrev pub acts_of_op : Op → List ℕ → List Act
acts_of_op (Load a) xs = loads a (slice_index xs 0) ∷ []
acts_of_op (Store a) xs = stores a (slice_index xs 0) (slice_index xs 1) ∷ []
acts_of_op Input xs = reads ∷ []
acts_of_op Output xs = prints (slice_index xs 0) ∷ []
acts_of_op (Give p) xs = gives p ∷ []
acts_of_op (Take p) xs = takes p (slice_index xs 0) ∷ []
acts_of_op _ xs = []

-- what is outside after a memory operation
abbrev pub after_op : Op → List ℕ → Outside → Outside
after_op op xs o = after_acts o (acts_of_op op xs)

unfoldable pub answer : Image → ℕ → List ℕ → Outside → ℕ
answer image k xs o = answer_op (instr_at image k).op xs o

unfoldable pub after : Image → ℕ → List ℕ → Outside → Outside
after image k xs o = after_op (instr_at image k).op xs o

-- the length of an array, by its number from 1
abbrev pub array_length : List Array → ℕ → ℕ
array_length arrays zero = 0
array_length [] (suc a) = 0
array_length (x ∷ xs) (suc zero) = x.length
array_length (x ∷ xs) (suc (suc a)) = array_length xs (suc a)

-- a load or store whose index isn't less than the length
abbrev pub is_past_op : List Array → Op → List ℕ → Bool
is_past_op arrays (Load a) xs = not (ltb (slice_index xs 0) (array_length arrays a))
is_past_op arrays (Store a) xs = not (ltb (slice_index xs 0) (array_length arrays a))
is_past_op arrays _ xs = false

unfoldable pub is_past : Image → ℕ → List ℕ → Bool
is_past image k xs = is_past_op image.arrays (instr_at image k).op xs

-- the array of a load or store
abbrev pub array_of_op : Op → ℕ
array_of_op (Load a) = a
array_of_op (Store a) = a
array_of_op _ = 0

unfoldable pub array_at : Image → ℕ → ℕ
array_at image k = array_of_op (instr_at image k).op

abbrev pub cells_of : List Array → List (List ℕ)
cells_of [] = []
cells_of (a ∷ arrays) = zeros a.length ∷ cells_of arrays

-- tokens of one value to a list of destinations
abbrev pub tokens_to : ℕ → ℕ → List Dest → List Token
tokens_to w v [] = []
tokens_to w v (d ∷ ds) =
    record { wave = w; instr = d.instr; port = d.port; value = v } ∷ tokens_to w v ds

abbrev pub pad_of : List Pad → ℕ → List Dest
pad_of [] k = []
pad_of (p ∷ ps) k = cond (eqb p.number k) p.dests (pad_of ps k)

-- the landing whose place is the address, and the last one if there is none
abbrev pub landing_of : List ℕ → ℕ → ℕ
landing_of [] a = 0
landing_of (l ∷ []) a = l
landing_of (l ∷ m ∷ ls) zero = l
landing_of (l ∷ m ∷ ls) (suc a) = landing_of (m ∷ ls) a

-- the block to which an exit goes where its instruction's result is r: each edge is taken at some r
abbrev pub leave_to : Exit → ℕ → ℕ
leave_to (Goto b) r = b
leave_to (Branch s b c) r = cond (eqb r 0) c b
leave_to (Landings s ls) r = landing_of ls r
leave_to Stop r = 0

abbrev pub is_stop : Exit → Bool
is_stop Stop = true
is_stop _ = false

unfoldable pub stops : Image → ℕ → Bool
stops image b = is_stop (block_at image b).exit

unfoldable pub target : Image → ℕ → ℕ → ℕ
target image b r = leave_to (block_at image b).exit r

-- the edges of an exit, in order
abbrev pub edges_of : Exit → List ℕ
edges_of (Goto b) = b ∷ []
edges_of (Branch s b c) = b ∷ c ∷ []
edges_of (Landings s ls) = ls
edges_of Stop = []

-- block b is the first of its wave
unfoldable pub is_first : Image → ℕ → Bool
is_first image zero = false
is_first image (suc zero) = true
is_first image (suc (suc b)) =
    not (eqb (block_at image (suc (suc b))).wave (block_at image (suc b)).wave)

-- the destinations that an instruction opens at its turn
abbrev pub now_of : Op → List Dest → List Dest
now_of Steer ds = []
now_of (Send p) ds = []
now_of _ ds = ds

unfoldable pub now_dests : Image → ℕ → List Dest
now_dests image k = now_of (instr_at image k).op (instr_at image k).dests

-- those that a steer or a send of block b opens on the edge at r
abbrev pub edge_of : Image → ℕ → ℕ → Instr → Op → List Dest
edge_of image b r i Steer = cond (eqb r 0) i.others i.dests
edge_of image b r i (Send p) = pad_of (block_at image (target image b r)).pads p
edge_of image b r i _ = []

unfoldable pub edge_dests : Image → ℕ → ℕ → ℕ → List Dest
edge_dests image b r k = edge_of image b r (instr_at image k) (instr_at image k).op

-- the operand by which a steer chooses its list, and a send its landing
abbrev pub selector_of : Op → List ℕ → ℕ
selector_of Steer xs = slice_index xs 1
selector_of (Send p) xs = slice_index xs 0
selector_of _ xs = 0

unfoldable pub selector : Image → ℕ → List ℕ → ℕ
selector image k xs = selector_of (instr_at image k).op xs

-- the result tokens of an instance
unfoldable pub sends : Image → ℕ → ℕ → List ℕ → ℕ → List Token
sends image w k xs v =
    tokens_to (cond (is_advance image k) (suc w) w) v (now_dests image k)
    ++ tokens_to (cond (is_advance image k) (suc w) w) v
    (edge_dests image (block_of image k) (selector image k xs) k)

unfoldable pub start_dests : Image → List Dest
start_dests image = pad_of (block_at image 1).pads 0

-- instruction k stands in block b
abbrev pub IsIn : Image → ℕ → ℕ → Type 0
IsIn image b k = (first_number image b ≤ k) × (k < first_number image (suc b))

abbrev pub IsBlock : Image → ℕ → Type 0
IsBlock image b = (1 ≤ b) × (b ≤ length image.blocks)

abbrev pub IsInstr : Image → ℕ → Type 0
IsInstr image k = (1 ≤ k) × (k ≤ length (flat image.blocks))
