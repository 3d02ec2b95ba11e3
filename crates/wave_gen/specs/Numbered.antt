-- Numbers of instructions, as the code keeps them.
use Rattle.std.specs.Prelude.{ℕ, zero, suc, ◌+◌, ◌-◌, min, List, [], ◌∷◌, length, map, reverse}
use Rattle.std.specs.Prelude.{slice_index_or}
use Rattle.ws_isa.specs.Image as image
use Rattle.wave_gen.specs.declared.kept.Kept.{Kept}
use Rattle.wave_gen.specs.declared.plan.Plan as code
use Rattle.wave_gen.specs.View as view
use Rattle.wave_gen.specs.Plans.{instr_of, pads_of, exit_of}
use Rattle.wave_gen.specs.Tables.{line_of}

abbrev pub at_place : List ℕ → ℕ → ℕ
at_place ns zero = 1
at_place ns (suc k) = slice_index_or ns k 1

-- where block b begins, by the numbers of first instructions and the number after the last one
abbrev pub number_at : List ℕ → ℕ → ℕ
number_at ns b = at_place ns (min b (length ns))

-- the numbers from n on of the first instructions of blocks in order
abbrev pub numbers_from : ℕ → List Kept → List ℕ
numbers_from n [] = n ∷ []
numbers_from n (k ∷ ks) = n ∷ numbers_from (n + length k.code.items) ks

-- a block with numbers
abbrev pub numbered : List ℕ → code.Plan → Kept → ℕ → image.Block
numbered ns p k b = record {
  wave = p.wave;
  pads = pads_of (number_at ns) b 0 p.entries.items p.pads.items;
  instrs = map (instr_of (number_at ns)) (reverse (map line_of k.code.items));
  exit = exit_of (number_at ns (suc b) - suc k.behind) (view.leaves p.exit);
}
