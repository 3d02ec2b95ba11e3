-- The walk reads no notes: images that are alike but for them do the same in every world.
use Rattle.std.proofs.Common.{ℕ, zero, suc, ◌-◌, ◌≡◌, Bool, cond, ltb, List, length, refl, ap, ap₂, ◌∙◌}
use Rattle.std.proofs.Common.{arith}
use Rattle.ws_words.specs.Outside.{Outside, World, opening_out}
use Rattle.ws_isa.specs.declared.instr.Op.{Op}
use Rattle.ws_isa.specs.Image.{Exit, Array, Image, Token, block_at, first_number, size_of, is_memory}
use Rattle.ws_isa.specs.Image.{result_of, result_of_op, answer, answer_op, after, after_op, cells_of}
use Rattle.ws_isa.specs.Image.{tokens_to, target}
use Rattle.ws_isa.specs.Walk.{Ports, with_tokens, no_ports, Inst, Pos, enter, opening_memory, start_tokens}
use Rattle.ws_isa.specs.Walk.{opening, wave_of, operands_at, result_at, inst_at, fire, choice_of, choice}
use Rattle.ws_isa.specs.Walk.{edge_tokens, leave, is_within, step, pos, fires_from, fires, mem, with_inst}
use Rattle.ws_isa.specs.Walk.{walk, has_ended}
use Rattle.wave_link.specs.Kept.{KeepsBlocks}
use Rattle.wave_link.specs.Passed.{where_left, added_left, WalksFor}
use Rattle.wave_link.proofs.Sound.Unnoted.{SameShape, ports_same, advance_same, memory_same, stops_same}
use Rattle.wave_link.proofs.Sound.Unnoted.{target_same, first_same, now_same, start_same, edge_same}
use Rattle.asm_link.proofs.Alike.{AlikeBlocks, block_alike, ops_alike, grows_alike, same_shape}

module _ (image new : Image) (arrays : new.arrays ≡ image.arrays)
    (alike : AlikeBlocks image.blocks new.blocks) where
  same : SameShape image new
  same = same_shape image new alike

  result_same : (k : ℕ) (xs : List ℕ) → result_of new k xs ≡ result_of image k xs
  unfolding result_of
  result_same k xs = ap (λ (op : Op). result_of_op op xs) (same.ops k)

  answer_same : (k : ℕ) (xs : List ℕ) (o : Outside) → answer new k xs o ≡ answer image k xs o
  unfolding answer
  answer_same k xs o = ap (λ (op : Op). answer_op op xs o) (same.ops k)

  after_same : (k : ℕ) (xs : List ℕ) (o : Outside) → after new k xs o ≡ after image k xs o
  unfolding after
  after_same k xs o = ap (λ (op : Op). after_op op xs o) (same.ops k)

  size_same : (b : ℕ) → size_of new b ≡ size_of image b
  unfolding size_of
  size_same b = ap₂ (λ (n m : ℕ). m - n) (same.numbers b) (same.numbers (suc b))

  memory_opens : (world : World) → opening_memory new world ≡ opening_memory image world
  unfolding opening_memory
  memory_opens world = ap (λ (xs : List Array). opening_out (cells_of xs) world) arrays

  start_sent : start_tokens new ≡ start_tokens image
  unfolding start_tokens
  start_sent = ap (tokens_to 0 0) (start_same image new same)

  enter_same : (b w : ℕ) (sent : Ports) (results : ℕ → ℕ) (memory : Outside)
      → enter new b w sent results memory ≡ enter image b w sent results memory
  enter_same b w sent results memory = grind (arith, first_same, same)

  wave_same : (p : Pos) → wave_of new p ≡ wave_of image p
  unfolding wave_of
  wave_same p = ap (λ (v : Bool). cond v (p.wave - 1) p.wave) (advance_same image new same p.next)

  operands_same : (p : Pos) → operands_at new p ≡ operands_at image p
  unfolding operands_at
  operands_same p = grind (arith, wave_same, ports_same, same)

  result_at_same : (p : Pos) → result_at new p ≡ result_at image p
  unfolding result_at
  result_at_same p = grind (arith, memory_same, same, answer_same, operands_same, result_same)

  inst_same : (p : Pos) → inst_at new p ≡ inst_at image p
  inst_same p = grind (arith, wave_same, operands_same, result_at_same)

  memory_after : (p : Pos)
      → cond (is_memory new p.next) (after new p.next (operands_at new p) p.memory) p.memory
      ≡ cond (is_memory image p.next) (after image p.next (operands_at image p) p.memory) p.memory
  memory_after p = grind (arith, memory_same, same, after_same, operands_same)

  fire_same : (p : Pos) → fire new p ≡ fire image p
  fire_same p = grind (arith, result_at_same, now_same, same, memory_after)

  choice_same : (p : Pos) → choice new p ≡ choice image p
  unfolding choice
  choice_same p = ap (λ (x : Exit). choice_of x p.results) (same.exits p.block)

  edge_sent : (b r w : ℕ) (results : ℕ → ℕ) (k n : ℕ)
      → edge_tokens new b r w results k n ≡ edge_tokens image b r w results k n
  edge_sent b r w results k zero = refl
  edge_sent b r w results k (suc n) = grind (arith, edge_same, same, edge_sent b r w results (suc k) n)

  -- what is sent along an edge at r
  leave_sent : (p : Pos) (r : ℕ)
      → edge_tokens new p.block r p.wave p.results (first_number new p.block) (size_of new p.block)
      ≡ edge_tokens image p.block r p.wave p.results (first_number image p.block) (size_of image p.block)
  leave_sent p r = edge_sent p.block r p.wave p.results (first_number new p.block) (size_of new p.block) ∙ ap₂
      (λ (k n : ℕ). edge_tokens image p.block r p.wave p.results k n) (same.numbers p.block) (size_same
      p.block)

  leave_at : (p : Pos) (r : ℕ)
      → enter new (target new p.block r) p.wave (with_tokens (edge_tokens new p.block r p.wave p.results
      (first_number new p.block) (size_of new p.block)) p.sent) p.results p.memory
      ≡ enter image (target image p.block r) p.wave (with_tokens (edge_tokens image p.block r p.wave p.results
      (first_number image p.block) (size_of image p.block)) p.sent) p.results p.memory
  leave_at p r = enter_same (target new p.block r) p.wave (with_tokens (edge_tokens new p.block r p.wave
      p.results (first_number new p.block) (size_of new p.block)) p.sent) p.results p.memory ∙ ap₂ (λ (b : ℕ)
      (ts : List Token). enter image b p.wave (with_tokens ts p.sent) p.results p.memory) (target_same image
      new same p.block r) (leave_sent p r)

  leave_same : (p : Pos) → leave new p ≡ leave image p
  leave_same p = grind (arith, stops_same, same, leave_at, choice_same)

  within_same : (p : Pos) → is_within new p ≡ is_within image p
  within_same p = ap (λ (n : ℕ). ltb p.next n) (same.numbers (suc p.block))

  step_same : (p : Pos) → step new p ≡ step image p
  unfolding step
  step_same p = grind (arith, within_same, fire_same, leave_same)

  opening_same : (world : World) → opening new world ≡ opening image world
  unfolding opening
  opening_same world = enter_same 1 0 (with_tokens (start_tokens new) no_ports) (λ k. 0) (opening_memory new
      world) ∙ ap₂ (λ (ts : List Token) (o : Outside). enter image 1 0 (with_tokens ts no_ports) (λ k. 0) o)
      start_sent (memory_opens world)

  pos_same : (world : World) (t : ℕ) → pos new world t ≡ pos image world t
  unfolding pos
  pos_same world zero = opening_same world
  pos_same world (suc t) = step_same (pos new world t) ∙ ap (step image) (pos_same world t)

  fires_at_same : (p : Pos) → fires_from new p ≡ fires_from image p
  unfolding fires_from
  fires_at_same p = grind (arith, within_same, inst_same)

  fires_same : (world : World) (t : ℕ) → fires new world t ≡ fires image world t
  unfolding fires
  fires_same world t = fires_at_same (pos new world t) ∙ ap (fires_from image) (pos_same world t)

  walk_same : (world : World) (t : ℕ) → walk new world t ≡ walk image world t
  unfolding walk
  walk_same world zero = refl
  walk_same world (suc t) = ap₂ with_inst (walk_same world t) (fires_same world t)

  -- nothing is added

  none_where : (p : Pos) (n : ℕ) → n ≡ 0 → where_left image p n ≡ 0
  none_where p n e = grind arith

  none_left : (world : World) (t : ℕ) → added_left image new world t ≡ 0
  unfolding added_left
  none_left world zero = refl
  none_left world (suc t) = grind (arith, size_same, none_where, none_left world t)

  ended_same : (world : World) (t : ℕ) → has_ended new world t ≡ has_ended image world t
  unfolding has_ended
  ended_same world t = ap (λ (p : Pos). p.over) (pos_same world t)

  mem_same : (world : World) (t : ℕ) → mem new world t ≡ mem image world t
  unfolding mem
  mem_same world t = ap (λ (p : Pos). p.memory) (pos_same world t)

  length_same : (world : World) (t : ℕ) → length (walk new world t) ≡ length (walk image world t)
  length_same world t = ap (λ (xs : List Inst). length xs) (walk_same world t)

  pub walks_alike : (world : World) → WalksFor image new world
  walks_alike world = grind (arith, mem_same, ended_same, length_same, none_left)

  pub keeps_alike : KeepsBlocks image new
  keeps_alike = record {
    arrays = arrays;
    count = same.count;
    waves = same.waves;
    stops = stops_same image new same;
    targets = target_same image new same;
    firsts = first_same image new same;
    ops = grind (arith, ops_alike, block_alike);
    few = λ b m i h e. grows_alike (block_at image b).instrs (block_at new b).instrs m i (block_alike image
        new b alike).instrs e;
  }
