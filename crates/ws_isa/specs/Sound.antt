-- Sound images: the rules on shape, slots, links and ripples. A path is a relation, and a rule
-- speaks of all paths.
use Rattle.std.specs.Prelude.{ℕ, zero, suc, ◌≡◌, ◌<◌, ◌≤◌, ◌⊎◌, ◌↔◌, Bool, true, false, cond, ◌&&◌, List, []}
use Rattle.std.specs.Prelude.{◌∷◌, ◌++◌, Option, Some, None, eqb}
use Rattle.ws_isa.specs.declared.instr.Op.TheVariants.{Merge, Steer, Send, Halt}
use Rattle.ws_isa.specs.declared.instr.Link.TheVariants.{Nothing, Is}
use Rattle.ws_isa.specs.declared.instr.Dest.{Dest}
use Rattle.ws_isa.specs.Image.{Pad, Branch, Landings, Image, instr_at, block_at, block_of, first_number}
use Rattle.ws_isa.specs.Image.{size_of, ports, is_memory, is_writing, is_advance, is_giving, note_of, stops}
use Rattle.ws_isa.specs.Image.{target, is_first, now_dests, edge_dests, start_dests, IsIn, IsBlock}
use Rattle.ws_isa.specs.Formed.{WavesInOrder}
use Rattle.ws_words.specs.Items.{nth, In}

-- the slots that are open: an instruction with a port
abbrev pub OpenSlots : Type 0
OpenSlots = ℕ → ℕ → Bool

abbrev pub none_open : OpenSlots
none_open j q = false

abbrev pub opened : Dest → OpenSlots → OpenSlots
opened d o j q = cond (eqb d.instr j && eqb d.port q) true (o j q)

abbrev pub all_opened : List Dest → OpenSlots → OpenSlots
all_opened [] o = o
all_opened (d ∷ ds) o = all_opened ds (opened d o)

-- the destinations can be opened one after the other: none is open
abbrev pub Fresh : List Dest → OpenSlots → Type 0
Fresh [] o = Unit {0}
Fresh (d ∷ ds) o = (o d.instr d.port ≡ false) × Fresh ds (opened d o)

-- all slots of instruction k are closed
abbrev pub closed : ℕ → OpenSlots → OpenSlots
closed k o j q = cond (eqb k j) false (o j q)

-- the destinations that the steers and sends among n instructions from k on open on the edge at r
abbrev pub edge_all : Image → ℕ → ℕ → ℕ → ℕ → List Dest
edge_all image b r k zero = []
edge_all image b r k (suc n) = edge_dests image b r k ++ edge_all image b r (suc k) n

unfoldable pub opens_at : Image → ℕ → ℕ → List Dest
opens_at image b r = edge_all image b r (first_number image b) (size_of image b)

abbrev pub HasDest : List Dest → ℕ → ℕ → Type 0
HasDest [] j q = ⊥
HasDest (d ∷ ds) j q = ((d.instr ≡ j) × (d.port ≡ q)) ⊎ HasDest ds j q

-- destinations name ports that are there; each formed image has this
pub record PortsThere (image : Image) : Type 0 where
  pub start : (j q : ℕ) → HasDest (start_dests image) j q → q < ports image j
  pub now : (k j q : ℕ) → HasDest (now_dests image k) j q → q < ports image j
  pub edge : (b r k j q : ℕ) → HasDest (edge_dests image b r k) j q → q < ports image j

-- Slots.

-- a path from block 1 leads to block b before instruction k, and these slots are open there
pub data Opens (image : Image) : ℕ → ℕ → OpenSlots → Type 0 where
  begin : Opens image 1 (first_number image 1) (all_opened (start_dests image) none_open)
  turn : {b k : ℕ} {o : OpenSlots} → Opens image b k o → k < first_number image (suc b) →
      Opens image b (suc k) (all_opened (now_dests image k) (closed k o))
  edge : {b k : ℕ} {o : OpenSlots} → Opens image b k o → k ≡ first_number image (suc b) →
      stops image b ≡ false → (r : ℕ) →
      Opens image (target image b r) (first_number image (target image b r))
      (all_opened (opens_at image b r) o)

-- the open slots are those of the advances of block b
abbrev pub AdvancesOpen : Image → ℕ → OpenSlots → Type 0
AdvancesOpen image b o = (j q : ℕ) →
    (o j q ≡ true) ↔ (IsIn image b j × (is_advance image j ≡ true) × (q ≡ 0))

-- at its turn an instruction has all its slots open, and closes them; then none of its destinations
-- is open
pub record TurnSlots (image : Image) (k : ℕ) (o : OpenSlots) : Type 0 where
  pub has_all : (q : ℕ) → q < ports image k → o k q ≡ true
  pub fresh : Fresh (now_dests image k) (closed k o)

-- at the end of a block: on an edge none of what steers and sends open is open, and at a stop nothing
-- is
pub record EndSlots (image : Image) (b : ℕ) (o : OpenSlots) : Type 0 where
  pub edges : stops image b ≡ false → (r : ℕ) → Fresh (opens_at image b r) o
  pub stop : stops image b ≡ true → (j q : ℕ) → o j q ≡ false

-- a path leads along an edge into block b with these slots
pub record EdgeInto (image : Image) (from b : ℕ) (o : OpenSlots) : Type 0 where
  pub before : OpenSlots
  pub path : Opens image from (first_number image (suc from)) before
  pub goes_on : stops image from ≡ false
  pub choice : ℕ
  pub to : target image from choice ≡ b
  pub opens : all_opened (opens_at image from choice) before ≡ o

pub record SlotRules (image : Image) : Type 0 where
  pub start : Fresh (start_dests image) none_open
  pub begins : AdvancesOpen image 1 (all_opened (start_dests image) none_open)
  pub turns : (b k : ℕ) (o : OpenSlots) → Opens image b k o → k < first_number image (suc b) →
      TurnSlots image k o
  pub ends : (b : ℕ) (o : OpenSlots) → Opens image b (first_number image (suc b)) o → EndSlots image b o
  -- into the first block of a wave exactly its advances are open
  pub crossing : (c b : ℕ) (o : OpenSlots) → EdgeInto image c b o → is_first image b ≡ true →
      AdvancesOpen image b o
  -- the edges into any other block leave equal open slots
  pub pending : (c d b : ℕ) (o p : OpenSlots) → EdgeInto image c b o → EdgeInto image d b p →
      is_first image b ≡ false → (j q : ℕ) → o j q ≡ p j q

-- Shape.

-- the result of instruction k reaches port q of instruction m, directly or through merges of block
-- b
pub data BringsResult (image : Image) (b : ℕ) : ℕ → ℕ → ℕ → Type 0 where
  direct : {k m q : ℕ} → (place : ℕ) (d : Dest) → nth (now_dests image k) place ≡ Some d →
      d.instr ≡ m → d.port ≡ q → BringsResult image b k m q
  through : {k m q : ℕ} → (place : ℕ) (d : Dest) → nth (now_dests image k) place ≡ Some d →
      d.port ≡ 0 → IsIn image b d.instr →
      (instr_at image d.instr).op ≡ Merge → BringsResult image b d.instr m q → BringsResult image b k m q

abbrev pub HasPad : List Pad → ℕ → Type 0
HasPad [] k = ⊥
HasPad (p ∷ ps) k = (p.number ≡ k) ⊎ HasPad ps k

-- an instruction j after instruction k, in the wave of block b; or an advance
abbrev pub IsAhead : Image → ℕ → ℕ → ℕ → Type 0
IsAhead image b k j = (is_advance image j ≡ true)
    ⊎ ((k < j) × ((block_at image (block_of image j)).wave ≡ (block_at image b).wave))

-- the edge at r goes to a later block of the same wave or to the first block of a wave
abbrev pub IsLater : Image → ℕ → ℕ → Type 0
IsLater image b r = is_first image (target image b r) ≡ false → (b < target image b r) ×
    ((block_at image (target image b r)).wave ≡ (block_at image b).wave)

-- 2. every edge goes to a later block of the same wave or to the first block of a wave
pub record EdgeShape (image : Image) (b : ℕ) : Type 0 where
  pub there : (r : ℕ) → stops image b ≡ false → IsBlock image (target image b r)
  pub later : (r : ℕ) → stops image b ≡ false → IsLater image b r

-- 3. advances stand in first blocks, before all other instructions, and pads at first blocks
pub record FrontShape (image : Image) (b : ℕ) : Type 0 where
  pub advances : (k : ℕ) → IsIn image b k → is_advance image k ≡ true → is_first image b ≡ true
  pub front : (j k : ℕ) → IsIn image b k → is_advance image k ≡ true → first_number image b ≤ j →
      j ≤ k → is_advance image j ≡ true
  pub pads : is_first image b ≡ false → (block_at image b).pads ≡ []

-- 4. the exit's instruction stands in the block, has a result and is neither a steer nor a send
pub record ExitShape (image : Image) (b : ℕ) : Type 0 where
  pub source : (s x y : ℕ) → (block_at image b).exit ≡ Branch s x y → IsIn image b s
  pub address : (s : ℕ) (ls : List ℕ) → (block_at image b).exit ≡ Landings s ls → IsIn image b s
  pub source_gives : (s x y : ℕ) → (block_at image b).exit ≡ Branch s x y → is_giving image s ≡ true
  pub address_gives : (s : ℕ) (ls : List ℕ) → (block_at image b).exit ≡ Landings s ls →
      is_giving image s ≡ true

-- 5. steers and sends hang on the exit's instruction; landings are first blocks, and have the pad of
-- each send
pub record HangShape (image : Image) (b : ℕ) : Type 0 where
  pub steers : (k : ℕ) → IsIn image b k → (instr_at image k).op ≡ Steer → (s x y : ℕ) ×
      ((block_at image b).exit ≡ Branch s x y) × BringsResult image b s k 1
  pub sends : (k p : ℕ) → IsIn image b k → (instr_at image k).op ≡ Send p → (s : ℕ) ×
      (ls : List ℕ) × ((block_at image b).exit ≡ Landings s ls) × BringsResult image b s k 0
  pub landing_pad : (k p r : ℕ) → IsIn image b k → (instr_at image k).op ≡ Send p →
      HasPad (block_at image (target image b r)).pads p
  pub landing_first : (s r : ℕ) (ls : List ℕ) → (block_at image b).exit ≡ Landings s ls →
      is_first image (target image b r) ≡ true

-- 6. a halt stands exactly where the exit is a stop, once, after all other memory instructions
pub record HaltShape (image : Image) (b : ℕ) : Type 0 where
  pub halt_stops : (k : ℕ) → IsIn image b k → (instr_at image k).op ≡ Halt → stops image b ≡ true
  pub stop_halts : stops image b ≡ true → (k : ℕ) × IsIn image b k × ((instr_at image k).op ≡ Halt)
  pub halt_last : (j k : ℕ) → IsIn image b k → (instr_at image k).op ≡ Halt → IsIn image b j →
      is_memory image j ≡ true → j ≤ k

-- 7. a destination is a later instruction of the same wave, or an advance; those of pads are advances
-- of the block
pub record DestShape (image : Image) (b : ℕ) : Type 0 where
  pub dests : (k j q : ℕ) → IsIn image b k → HasDest (instr_at image k).dests j q →
      IsAhead image b k j
  pub others : (k j q : ℕ) → IsIn image b k → HasDest (instr_at image k).others j q →
      IsAhead image b k j
  pub pads : (p : Pad) (j q : ℕ) → In p (block_at image b).pads → HasDest p.dests j q →
      IsIn image b j × (is_advance image j ≡ true)

-- block b keeps the rules on shape
pub record BlockShape (image : Image) (b : ℕ) : Type 0 where
  pub opening : b ≡ 1 → HasPad (block_at image b).pads 0
  pub edges : EdgeShape image b
  pub front : FrontShape image b
  pub exit : ExitShape image b
  pub hang : HangShape image b
  pub halt : HaltShape image b
  pub dests : DestShape image b

-- 1. the blocks of a wave stand together, block 1 is the first, and has pad 0; each block keeps the
-- others
pub record ShapeRules (image : Image) : Type 0 where
  pub has_block : IsBlock image 1
  pub waves : WavesInOrder image.blocks
  pub blocks : (b : ℕ) → IsBlock image b → BlockShape image b

-- Links.

-- a path inside a wave leads to block b before instruction k, through these instructions, the
-- newest first
pub data InWave (image : Image) : ℕ → ℕ → List ℕ → Type 0 where
  first : {b : ℕ} → IsBlock image b → is_first image b ≡ true →
      InWave image b (first_number image b) []
  turn : {b k : ℕ} {done : List ℕ} → InWave image b k done → k < first_number image (suc b) →
      InWave image b (suc k) (k ∷ done)
  edge : {b k : ℕ} {done : List ℕ} → InWave image b k done → k ≡ first_number image (suc b) →
      stops image b ≡ false → (r : ℕ) → is_first image (target image b r) ≡ false →
      InWave image (target image b r) (first_number image (target image b r)) done

-- the last operation on it
abbrev pub last_op : Image → List ℕ → Option ℕ
last_op image [] = None
last_op image (k ∷ ks) = cond (is_memory image k) (Some k) (last_op image ks)

-- operation k comes on a path inside a wave, right after the last one, if there is one
pub record ComesNext (image : Image) (last : Option ℕ) (k : ℕ) : Type 0 where
  pub block : ℕ
  pub done : List ℕ
  pub path : InWave image block k done
  pub within : k < first_number image (suc block)
  pub memory : is_memory image k ≡ true
  pub last_is : last_op image done ≡ last

-- a path inside a wave ends after this last operation
pub record PathEnds (image : Image) (last : Option ℕ) : Type 0 where
  pub block : ℕ
  pub next : ℕ
  pub done : List ℕ
  pub path : InWave image block next done
  pub at_end : next ≡ first_number image (suc block)
  pub out : (stops image block ≡ true)
      ⊎ ((stops image block ≡ false) × ((r : ℕ) × (is_first image (target image block r) ≡ true)))
  pub last_is : last_op image done ≡ last

abbrev pub seq : Image → ℕ → ℕ
seq image k = (note_of image k).seq

-- the wave of the block in which an operation comes on a path
abbrev pub wave_at : {image : Image} {last : Option ℕ} {k : ℕ} → ComesNext image last k → ℕ
wave_at {image} {last} {k} f = (block_at image f.block).wave

pub record LinkRules (image : Image) : Type 0 where
  -- sequence numbers are at least 1, differ within a wave, and rise along every path
  pub positive : (k : ℕ) (last : Option ℕ) → ComesNext image last k → 1 ≤ seq image k
  pub differ : (j k : ℕ) (l m : Option ℕ) (f : ComesNext image l j) (g : ComesNext image m k) →
      wave_at f ≡ wave_at g → seq image j ≡ seq image k → j ≡ k
  pub rise : (j k : ℕ) → ComesNext image (Some j) k → seq image j < seq image k
  -- every path has an operation; the first has no predecessor, the last no successor
  pub some_op : PathEnds image None → ⊥
  pub first_pred : (k : ℕ) → ComesNext image None k → (note_of image k).pred ≡ Nothing
  pub last_succ : (k : ℕ) → PathEnds image (Some k) → (note_of image k).succ ≡ Nothing
  -- of two neighbours one names the other
  pub linked : (j k : ℕ) → ComesNext image (Some j) k →
      ((note_of image j).succ ≡ Is (seq image k)) ⊎ ((note_of image k).pred ≡ Is (seq image j))
  -- a named successor is the next operation on every path, and where none is said, none follows
  pub succ_is : (j k n : ℕ) → (note_of image j).succ ≡ Is n → ComesNext image (Some j) k →
      seq image k ≡ n
  pub succ_goes_on : (j n : ℕ) → (note_of image j).succ ≡ Is n → PathEnds image (Some j) → ⊥
  pub succ_ends : (j k : ℕ) → (note_of image j).succ ≡ Nothing → ComesNext image (Some j) k → ⊥
  -- the same for predecessors
  pub pred_is : (j k n : ℕ) → (note_of image k).pred ≡ Is n → ComesNext image (Some j) k →
      seq image j ≡ n
  pub pred_is_some : (k n : ℕ) → (note_of image k).pred ≡ Is n → ComesNext image None k → ⊥
  pub pred_none : (j k : ℕ) → (note_of image k).pred ≡ Nothing → ComesNext image (Some j) k → ⊥

-- Ripples.

pub record RippleRules (image : Image) : Type 0 where
  -- that of a writing operation is its own sequence number
  pub own : (k : ℕ) (last : Option ℕ) → ComesNext image last k → is_writing image k ≡ true →
      (note_of image k).ripple ≡ seq image k
  -- that of another is at least that of each writing operation that may stand before it
  pub above : (b k j : ℕ) (done : List ℕ) → InWave image b k done → k < first_number image (suc b) →
      is_memory image k ≡ true → is_writing image k ≡ false →
      In j done → is_writing image j ≡ true → seq image j ≤ (note_of image k).ripple

pub record Sound (image : Image) : Type 0 where
  pub shape : ShapeRules image
  pub slots : SlotRules image
  pub links : LinkRules image
  pub ripples : RippleRules image
