-- Serves the proof of the code alone; nobody has to believe it.
-- What the code holds of an image and of its walk.
use Rattle.std.specs.Prelude.{◌≡◌, ℕ, suc, ◌+◌, ◌-◌, ◌*◌, ◌<◌, Bool, true, false, cond, eqb, List}
use Rattle.std.specs.Prelude.{[], ◌∷◌, length, Option, Some, None, slice_index, slice_set}
use Rattle.ws_words.specs.Outside.{Outside, World}
use Rattle.ws_words.specs.Memory.{OutIs}
use Rattle.ws_words.specs.declared.memory.Memory.{Memory}
use Rattle.ws_isa.specs.declared.instr.Op.{Op}
use Rattle.ws_isa.specs.declared.instr.Op.TheVariants.{Steer, Send}
use Rattle.ws_isa.specs.declared.instr.Dest.{Dest}
use Rattle.ws_isa.specs.Image.{Instr, Exit, Pad, Block, Array, Image, no_block, flat, first_number}
use Rattle.ws_isa.specs.Image.{pad_of, is_stop, leave_to, is_memory_op, result_of_op, answer_op, after_op}
use Rattle.ws_isa.specs.Image.{is_past_op, array_of_op}
use Rattle.ws_isa.specs.View as view
use Rattle.ws_isa.specs.Walk.{choice_of, pos, mem, walk, CostAtMost}
use Rattle.ws_isa.specs.Operations.{fault_among}
use Rattle.ws_isa.specs.Standing.{turn_number, slots_at}
use Rattle.ws_isa.specs.declared.program.BlockTable.{BlockTable}
use Rattle.ws_isa.specs.declared.walker.Walker.{Walker}
use Rattle.ws_isa.specs.declared.walker.Edge.{Edge}
use Rattle.ws_words.specs.Items.{nth, or_else}

-- the answer of a memory operation, and what it leaves
pub record Performs (op : Op) (xs : List ℕ) (o : Outside) (word : ℕ) (m : Memory) : Type 0 where
  pub answer : word ≡ answer_op op xs o
  pub after : OutIs (after_op op xs o) m

-- the result of an operation on its operands, and what it leaves
pub record Resulted (op : Op) (xs : List ℕ) (o : Outside) (word : ℕ) (m : Memory) : Type 0 where
  pub result : word ≡ cond (is_memory_op op) (answer_op op xs o) (result_of_op op xs)
  pub after : OutIs (cond (is_memory_op op) (after_op op xs o) o) m

-- the array of the first out-of-bounds load or store, where this was it so far
abbrev pub looked : List Array → Op → List ℕ → Option ℕ → Option ℕ
looked arrays op xs (Some a) = Some a
looked arrays op xs None = cond (is_past_op arrays op xs) (Some (array_of_op op)) None

-- a value was delivered to destinations
abbrev pub delivered : List Dest → ℕ → List ℕ → List ℕ
delivered [] v operands = operands
delivered (d ∷ ds) v operands = delivered ds v (slice_set operands (4 * d.instr + d.port) v)

-- what a steer or a send opens on the edge at r into a block with these pads
abbrev pub edge_by : List Pad → ℕ → Instr → Op → List Dest
edge_by pads r i Steer = cond (eqb r 0) i.others i.dests
edge_by pads r i (Send p) = pad_of pads p
edge_by pads r i _ = []

abbrev pub edge_list : List Pad → ℕ → Instr → List Dest
edge_list pads r i = edge_by pads r i i.op

-- the results of steers and sends among instructions, the first of which is number k, have reached
-- the edge
abbrev pub crossed : List Pad → ℕ → List Instr → ℕ → List ℕ → List ℕ → List ℕ
crossed pads r [] k results operands = operands
crossed pads r (i ∷ is) k results operands = crossed pads r is (suc k) results
    (delivered (edge_list pads r i) (slice_index results k) operands)

-- the edge that an exit takes where instructions have these results
pub record EdgeIs (exit : Exit) (results : List ℕ) (e : Edge) : Type 0 where
  pub goes : is_stop exit ≡ false
  pub choice : e.choice ≡ choice_of exit (λ j. slice_index results j)
  pub next : e.next ≡ leave_to exit e.choice - 1

-- the image of a program
abbrev pub image_of : BlockTable → Image
image_of p = view.parts p.arrays.now p.blocks.now

-- the block at a place
abbrev pub block_in : BlockTable → ℕ → Block
block_in p place = or_else (nth (image_of p).blocks place) no_block

-- the code stands where the walk stands after t steps: in block b before instruction k
pub record At (image : Image) (world : World) (t b k : ℕ) (w : Walker) : Type 0 where
  pub running : (pos image world t).over ≡ false
  pub block : (pos image world t).block ≡ b
  pub next : (pos image world t).next ≡ k
  pub operands_size : length w.table.operands ≡ 4 * suc (length (flat image.blocks))
  pub results_size : length w.table.results ≡ suc (length (flat image.blocks))
  pub operands : (j q : ℕ) → slots_at image world t j q ≡ true →
      slice_index w.table.operands (4 * j + q)
      ≡ or_else ((pos image world t).sent (turn_number image (pos image world t) j) j q) 0
  pub results : (j : ℕ) → slice_index w.table.results j ≡ (pos image world t).results j
  pub outside : OutIs (mem image world t) w.memory
  pub fired : w.fired ≡ length (walk image world t)
  pub fault : w.fault ≡ fault_among image (walk image world t)

-- the operands of an instruction in the code's table, and the places after them, up to three
abbrev pub seen : Walker → ℕ → List ℕ
seen w k = slice_index w.table.operands (4 * k) ∷ slice_index w.table.operands (4 * k + 1)
    ∷ slice_index w.table.operands (4 * k + 2) ∷ []

-- the same before the first instruction, and at the end of a block
abbrev pub AtStart : Image → World → ℕ → ℕ → Walker → Type 0
AtStart image world t b w = At image world t b (first_number image b) w

abbrev pub AtEnd : Image → World → ℕ → ℕ → Walker → Type 0
AtEnd image world t b w = At image world t b (first_number image (suc b)) w

-- before an instruction of the block, with no firing left
pub record Short (image : Image) (world : World) (b firings : ℕ) (w : Walker) : Type 0 where
  pub steps : ℕ
  pub instr : ℕ
  pub at : At image world steps b instr w
  pub within : instr < first_number image (suc b)
  pub spent : w.fired ≡ firings

-- all instructions of a block have fired, or as many instances as may
abbrev pub Ran : Image → World → ℕ → ℕ → Bool → Walker → Type 0
Ran image world b firings true w = (t : ℕ) × AtEnd image world t b w
Ran image world b firings false w = Short image world b firings w

-- what the code holds is what the first t steps leave
pub record Leaves (image : Image) (world : World) (t : ℕ) (w : Walker) : Type 0 where
  pub outside : OutIs (mem image world t) w.memory
  pub fired : w.fired ≡ length (walk image world t)
  pub fault : w.fault ≡ fault_among image (walk image world t)

-- the walk is over, or at the start of the block at this place
abbrev pub Left : Image → World → Option ℕ → Walker → Type 0
Left image world None w = (t : ℕ) × ((pos image world t).over ≡ true) × Leaves image world t w
Left image world (Some next) w = (t : ℕ) × AtStart image world t (suc next) w

abbrev pub Whole : Image → World → ℕ → Bool → Walker → Type 0
Whole image world firings true w = CostAtMost image world w.fired
Whole image world firings false w = (w.fired ≡ firings) × (CostAtMost image world firings → ⊥)

-- the whole walk, or as many instances of it as may fire
pub record Final (image : Image) (world : World) (firings : ℕ) (whole : Bool)
    (w : Walker) : Type 0 where
  pub steps : ℕ
  pub leaves : Leaves image world steps w
  pub whole_is : Whole image world firings whole w
