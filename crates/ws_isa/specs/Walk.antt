-- The walk: block after block, instruction after instruction, memory read and written at once. It
-- reads no memory annotations.
use Rattle.std.specs.Prelude.{ℕ, zero, suc, ◌-◌, ◌≤◌, Bool, true, false, cond, ◌&&◌, List, [], ◌∷◌, ◌++◌}
use Rattle.std.specs.Prelude.{length, Option, Some, None, eqb, ltb}
use Rattle.ws_words.specs.Outside.{Outside, World, opening_out}
use Rattle.ws_isa.specs.Image.{Exit, Branch, Landings, Image, Token, ports, is_memory, is_advance, result_of}
use Rattle.ws_isa.specs.Image.{answer, after, cells_of, tokens_to, block_at, first_number, size_of, stops}
use Rattle.ws_isa.specs.Image.{target, is_first, now_dests, edge_dests, start_dests}
use Rattle.ws_words.specs.Items.{or_else}

-- a value at each port of each instance, by wave number, instruction and port, where there is one
abbrev pub Ports : Type 0
Ports = ℕ → ℕ → ℕ → Option ℕ

abbrev pub no_ports : Ports
no_ports w i p = None

abbrev pub is_at : Token → ℕ → ℕ → ℕ → Bool
is_at t w i p = eqb t.wave w && (eqb t.instr i && eqb t.port p)

-- the token's value stands at its port
abbrev pub with_token : Token → Ports → Ports
with_token t sent w i p = cond (is_at t w i p) (Some t.value) (sent w i p)

abbrev pub with_tokens : List Token → Ports → Ports
with_tokens [] sent = sent
with_tokens (t ∷ ts) sent = with_tokens ts (with_token t sent)

-- the values at n ports from p on
abbrev pub gather : Ports → ℕ → ℕ → ℕ → ℕ → List ℕ
gather sent w i p zero = []
gather sent w i p (suc n) = or_else (sent w i p) 0 ∷ gather sent w i (suc p) n

-- an instance: an instruction under a wave number, with its operands and its result
pub record Inst : Type 0 where
  pub wave : ℕ
  pub instr : ℕ
  pub operands : List ℕ
  pub result : ℕ

-- where the walk stands: the block, the number of the wave, the next instruction,
-- the values sent to ports, the results of instructions, and what is outside
pub record Pos : Type 0 where
  pub over : Bool
  pub block : ℕ
  pub wave : ℕ
  pub next : ℕ
  pub sent : Ports
  pub results : ℕ → ℕ
  pub memory : Outside

-- into block b: at the first block of a wave the number rises; its advances fire under the number
-- before
abbrev pub enter : Image → ℕ → ℕ → Ports → (ℕ → ℕ) → Outside → Pos
enter image b w sent results memory = record {
  over = false;
  block = b;
  wave = cond (is_first image b) (suc w) w;
  next = first_number image b;
  sent = sent;
  results = results;
  memory = memory;
}

unfoldable pub opening_memory : Image → World → Outside
opening_memory image world = opening_out (cells_of image.arrays) world

unfoldable pub start_tokens : Image → List Token
start_tokens image = tokens_to 0 0 (start_dests image)

unfoldable pub opening : Image → World → Pos
opening image world = enter image 1 0 (with_tokens (start_tokens image) no_ports) (λ k. 0)
    (opening_memory image world)

unfoldable pub wave_of : Image → Pos → ℕ
wave_of image p = cond (is_advance image p.next) (p.wave - 1) p.wave

unfoldable pub operands_at : Image → Pos → List ℕ
operands_at image p = gather p.sent (wave_of image p) p.next 0 (ports image p.next)

unfoldable pub result_at : Image → Pos → ℕ
result_at image p = cond (is_memory image p.next)
    (answer image p.next (operands_at image p) p.memory)
    (result_of image p.next (operands_at image p))

-- the instance that fires there
abbrev pub inst_at : Image → Pos → Inst
inst_at image p = record {
  wave = wave_of image p;
  instr = p.next;
  operands = operands_at image p;
  result = result_at image p;
}

-- the next instruction fires. A steer and a send keep their value for the exit
abbrev pub fire : Image → Pos → Pos
fire image p = record {
  over = false;
  block = p.block;
  wave = p.wave;
  next = suc p.next;
  sent = with_tokens (tokens_to p.wave (result_at image p) (now_dests image p.next)) p.sent;
  results = λ k. cond (eqb k p.next) (result_at image p) (p.results k);
  memory = cond (is_memory image p.next)
      (after image p.next (operands_at image p) p.memory) p.memory;
}

-- the number by which an exit chooses
abbrev pub choice_of : Exit → (ℕ → ℕ) → ℕ
choice_of (Branch s b c) results = results s
choice_of (Landings s ls) results = results s
choice_of _ results = 0

unfoldable pub choice : Image → Pos → ℕ
choice image p = choice_of (block_at image p.block).exit p.results

-- what the steers and sends among n instructions from k on send along the edge at r
abbrev pub edge_tokens : Image → ℕ → ℕ → ℕ → (ℕ → ℕ) → ℕ → ℕ → List Token
edge_tokens image b r w results k zero = []
edge_tokens image b r w results k (suc n) = tokens_to w (results k) (edge_dests image b r k)
    ++ edge_tokens image b r w results (suc k) n

-- the block is left
abbrev pub leave : Image → Pos → Pos
leave image p = cond (stops image p.block) (record p { over = true })
    (enter image (target image p.block (choice image p)) p.wave
    (with_tokens (edge_tokens image p.block (choice image p) p.wave p.results
    (first_number image p.block) (size_of image p.block)) p.sent)
    p.results p.memory)

abbrev pub is_within : Image → Pos → Bool
is_within image p = ltb p.next (first_number image (suc p.block))

-- one step: an instruction fires, or the block is left
unfoldable pub step : Image → Pos → Pos
step image p = cond p.over p (cond (is_within image p) (fire image p) (leave image p))

-- the walk after t steps
unfoldable pub pos : Image → World → ℕ → Pos
pos image world zero = opening image world
pos image world (suc t) = step image (pos image world t)

unfoldable pub fires_from : Image → Pos → Option Inst
fires_from image p = cond p.over None (cond (is_within image p) (Some (inst_at image p)) None)

-- the instance that step t fires, counted from 0
unfoldable pub fires : Image → World → ℕ → Option Inst
fires image world t = fires_from image (pos image world t)

-- what is outside before step t
unfoldable pub mem : Image → World → ℕ → Outside
mem image world t = (pos image world t).memory

abbrev pub with_inst : List Inst → Option Inst → List Inst
with_inst xs None = xs
with_inst xs (Some x) = xs ++ x ∷ []

-- the instances of the first t steps
unfoldable pub walk : Image → World → ℕ → List Inst
walk image world zero = []
walk image world (suc t) = with_inst (walk image world t) (fires image world t)

-- the walk has ended after t steps
unfoldable pub has_ended : Image → World → ℕ → Bool
has_ended image world t = (pos image world t).over

-- the whole walk has at most k instances
abbrev pub CostAtMost : Image → World → ℕ → Type 0
CostAtMost image world k = (t : ℕ) → length (walk image world t) ≤ k
