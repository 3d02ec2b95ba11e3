-- The small images, read from their texts.
use Rattle.std.proofs.Common.{◌≡◌, Ok, refl}
use Rattle.ws_isa.specs.Samples.{image_a, image_b}
use Rattle.ws_isa.specs.Formed.{most_instrs, most_blocks, most_waves, most_dests, most_pads, most_name}
use Rattle.ws_isa.specs.Formed.{most_arrays, most_length, most_cells}
use Rattle.asm_text.specs.Samples.{text_a, text_b, text_named}
use Rattle.asm_text.specs.Limits.{first_most_waves, first_most_blocks, first_most_instrs}
use Rattle.asm_text.specs.Lexing.{lexed, scan, front}
use Rattle.asm_text.specs.Words.{head_of, op_of, alu_of}
use Rattle.asm_text.specs.Forms.{line_of, label_at, expect, instr_line, op_at, word_at, number_at, noted}
use Rattle.asm_text.specs.Forms.{note_at, link_at, lists_at, targets_at, word_line, headed, last_number}
use Rattle.asm_text.specs.Forms.{last_label, pad_line, array_line, branch_line}
use Rattle.asm_text.specs.State.{opening, behind, checked, next_place, is_plain, is_numbered, is_within}
use Rattle.asm_text.specs.State.{is_new, counted}
use Rattle.asm_text.specs.Building.{built, exit_of, each, dest_of, place_of}
use Rattle.asm_text.specs.Reading.{read, passed, made, nothing, lines_of, reading}

pub reads_a : read text_a ≡ Ok image_a
unfolding read passed made opening nothing lines_of reading lexed scan front line_of label_at expect
    instr_line op_at word_at number_at noted note_at link_at lists_at targets_at word_line head_of
    headed last_number last_label pad_line op_of alu_of behind checked next_place is_plain is_numbered
    is_within is_new counted built exit_of each dest_of place_of most_instrs most_blocks most_waves
    most_dests most_pads most_name first_most_waves first_most_blocks first_most_instrs array_line
    branch_line most_arrays most_length most_cells
reads_a = refl

pub reads_b : read text_b ≡ Ok image_b
unfolding read passed made opening nothing lines_of reading lexed scan front line_of label_at expect
    instr_line op_at word_at number_at noted note_at link_at lists_at targets_at word_line head_of
    headed last_number last_label pad_line op_of alu_of behind checked next_place is_plain is_numbered
    is_within is_new counted built exit_of each dest_of place_of most_instrs most_blocks most_waves
    most_dests most_pads most_name first_most_waves first_most_blocks first_most_instrs array_line
    branch_line most_arrays most_length most_cells
reads_b = refl

pub reads_named : read text_named ≡ Ok image_a
unfolding read passed made opening nothing lines_of reading lexed scan front line_of label_at expect
    instr_line op_at word_at number_at noted note_at link_at lists_at targets_at word_line head_of
    headed last_number last_label pad_line op_of alu_of behind checked next_place is_plain is_numbered
    is_within is_new counted built exit_of each dest_of place_of most_instrs most_blocks most_waves
    most_dests most_pads most_name first_most_waves first_most_blocks first_most_instrs array_line
    branch_line most_arrays most_length most_cells
reads_named = refl
