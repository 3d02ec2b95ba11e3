-- Worked walks: what the definitions give for the two small images, by computing.
use Rattle.std.proofs.Common.{◌≡◌, true, false, [], ◌∷◌, length, Some, None, refl}
use Rattle.ws_words.specs.Outside.{with_input, loads, stores, reads, prints}
use Rattle.ws_isa.specs.Image.{instr_at, block_at, first_number, size_of, ports, is_memory, is_advance}
use Rattle.ws_isa.specs.Image.{is_past, array_at, result_of, answer, after, stops, target, is_first}
use Rattle.ws_isa.specs.Image.{now_dests, edge_dests, start_dests}
use Rattle.ws_isa.specs.Samples.{image_a, image_b, image_b_at, idle}
use Rattle.ws_isa.specs.Walk.{opening, opening_memory, start_tokens, wave_of, operands_at, result_at, choice}
use Rattle.ws_isa.specs.Walk.{step, pos, fires_from, fires, mem, walk, has_ended}
use Rattle.ws_isa.specs.Operations.{ops, past, fault_among}

-- four instances, and a step that leaves the block
pub a_cost : length (walk image_a (with_input []) 5) ≡ 4
unfolding walk fires fires_from pos step opening opening_memory start_tokens start_dests wave_of operands_at
    result_at choice instr_at block_at first_number size_of ports is_memory is_advance result_of answer after
    stops target is_first now_dests edge_dests
a_cost = refl

pub a_ends : has_ended image_a (with_input []) 5 ≡ true
unfolding has_ended pos step opening opening_memory start_tokens start_dests wave_of operands_at result_at
    choice instr_at block_at first_number size_of ports is_memory is_advance result_of answer after stops
    target is_first now_dests edge_dests
a_ends = refl

pub a_leaves : mem image_a (with_input []) 5 ≡ record {
  cells = [];
  input = [];
  left = [];
  acts = prints 7 ∷ [];
}
unfolding mem pos step opening opening_memory start_tokens start_dests wave_of operands_at result_at choice
    instr_at block_at first_number size_of ports is_memory is_advance result_of answer after stops target
    is_first now_dests edge_dests
a_leaves = refl

-- the advance fires under wave number 0, and what it sends on under wave number 1
pub a_fires : fires image_a (with_input []) 0 ≡ Some
    (record { wave = 0; instr = 1; operands = 0 ∷ []; result = 0 })
unfolding fires fires_from pos step opening opening_memory start_tokens start_dests wave_of operands_at
    result_at choice instr_at block_at first_number size_of ports is_memory is_advance result_of answer after
    stops target is_first now_dests edge_dests
a_fires = refl

pub a_prints : fires image_a (with_input []) 2 ≡ Some
    (record { wave = 1; instr = 3; operands = 7 ∷ []; result = 0 })
unfolding fires fires_from pos step opening opening_memory start_tokens start_dests wave_of operands_at
    result_at choice instr_at block_at first_number size_of ports is_memory is_advance result_of answer after
    stops target is_first now_dests edge_dests
a_prints = refl

-- with a word other than 0 fourteen instances, and 5 and 0 are printed
pub b_cost : length (walk image_b (with_input (1 ∷ [])) 17) ≡ 14
unfolding walk fires fires_from pos step opening opening_memory start_tokens start_dests wave_of operands_at
    result_at choice instr_at block_at first_number size_of ports is_memory is_advance result_of answer after
    stops target is_first now_dests edge_dests
b_cost = refl

pub b_ends : has_ended image_b (with_input (1 ∷ [])) 17 ≡ true
unfolding has_ended pos step opening opening_memory start_tokens start_dests wave_of operands_at result_at
    choice instr_at block_at first_number size_of ports is_memory is_advance result_of answer after stops
    target is_first now_dests edge_dests
b_ends = refl

pub b_leaves : mem image_b (with_input (1 ∷ [])) 17 ≡ record {
  cells = (5 ∷ 0 ∷ []) ∷ [];
  input = [];
  left = [];
  acts = reads ∷ stores 1 0 5 ∷ loads 1 0 ∷ loads 1 1 ∷ prints 5 ∷ prints 0 ∷ [];
}
unfolding mem pos step opening opening_memory start_tokens start_dests wave_of operands_at result_at choice
    instr_at block_at first_number size_of ports is_memory is_advance result_of answer after stops target
    is_first now_dests edge_dests
b_leaves = refl

pub b_ops : length (ops image_b (with_input (1 ∷ [])) 17) ≡ 7
unfolding ops walk fires fires_from pos step opening opening_memory start_tokens start_dests wave_of
    operands_at result_at choice instr_at block_at first_number size_of ports is_memory is_advance result_of
    answer after stops target is_first now_dests edge_dests
b_ops = refl

-- with 0 twelve, and 0 and 0 are printed
pub b_cost_of_zero : length (walk image_b (with_input (0 ∷ [])) 15) ≡ 12
unfolding walk fires fires_from pos step opening opening_memory start_tokens start_dests wave_of operands_at
    result_at choice instr_at block_at first_number size_of ports is_memory is_advance result_of answer after
    stops target is_first now_dests edge_dests
b_cost_of_zero = refl

pub b_ends_of_zero : has_ended image_b (with_input (0 ∷ [])) 15 ≡ true
unfolding has_ended pos step opening opening_memory start_tokens start_dests wave_of operands_at result_at
    choice instr_at block_at first_number size_of ports is_memory is_advance result_of answer after stops
    target is_first now_dests edge_dests
b_ends_of_zero = refl

pub b_leaves_of_zero : mem image_b (with_input (0 ∷ [])) 15 ≡ record {
  cells = (0 ∷ 0 ∷ []) ∷ [];
  input = [];
  left = [];
  acts = reads ∷ loads 1 0 ∷ loads 1 1 ∷ prints 0 ∷ prints 0 ∷ [];
}
unfolding mem pos step opening opening_memory start_tokens start_dests wave_of operands_at result_at choice
    instr_at block_at first_number size_of ports is_memory is_advance result_of answer after stops target
    is_first now_dests edge_dests
b_leaves_of_zero = refl

-- a load past the end: an index fault on array 1, and the walk goes on
pub b_fault : fault_among (image_b_at 2) (walk (image_b_at 2) (with_input (1 ∷ [])) 17) ≡ Some 1
unfolding past is_past array_at walk fires fires_from pos step opening opening_memory start_tokens start_dests
    wave_of operands_at result_at choice instr_at block_at first_number size_of ports is_memory is_advance
    result_of answer after stops target is_first now_dests edge_dests
b_fault = refl

pub b_fault_of_zero : fault_among (image_b_at 2) (walk (image_b_at 2) (with_input (0 ∷ [])) 15) ≡ Some 1
unfolding past is_past array_at walk fires fires_from pos step opening opening_memory start_tokens start_dests
    wave_of operands_at result_at choice instr_at block_at first_number size_of ports is_memory is_advance
    result_of answer after stops target is_first now_dests edge_dests
b_fault_of_zero = refl

pub b_no_fault : fault_among image_b (walk image_b (with_input (1 ∷ [])) 17) ≡ None
unfolding past is_past array_at walk fires fires_from pos step opening opening_memory start_tokens start_dests
    wave_of operands_at result_at choice instr_at block_at first_number size_of ports is_memory is_advance
    result_of answer after stops target is_first now_dests edge_dests
b_no_fault = refl

pub b_goes_on : mem (image_b_at 2) (with_input (1 ∷ [])) 17 ≡ record {
  cells = (5 ∷ 0 ∷ []) ∷ [];
  input = [];
  left = [];
  acts = reads ∷ stores 1 0 5 ∷ loads 1 0 ∷ loads 1 2 ∷ prints 5 ∷ prints 0 ∷ [];
}
unfolding mem pos step opening opening_memory start_tokens start_dests wave_of operands_at result_at choice
    instr_at block_at first_number size_of ports is_memory is_advance result_of answer after stops target
    is_first now_dests edge_dests
b_goes_on = refl

-- a block that is left again and again, and nothing fires
pub idle_fires_nothing : walk idle (with_input []) 5 ≡ []
unfolding walk fires fires_from pos step opening opening_memory start_tokens start_dests wave_of operands_at
    result_at choice instr_at block_at first_number size_of ports is_memory is_advance result_of answer after
    stops target is_first now_dests edge_dests
idle_fires_nothing = refl

pub idle_goes_on : has_ended idle (with_input []) 5 ≡ false
unfolding has_ended pos step opening opening_memory start_tokens start_dests wave_of operands_at result_at
    choice instr_at block_at first_number size_of ports is_memory is_advance result_of answer after stops
    target is_first now_dests edge_dests
idle_goes_on = refl
