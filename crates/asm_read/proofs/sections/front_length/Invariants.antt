use Rattle.std.proofs.Common.{◌≡◌, ◌++◌, take, drop, true}
use Rattle.asm_read.specs.Sections.{front_of, rest_of}
use Rattle.asm_read.proofs.sections.front_length.Given as goal

abbrev pub invariant-loop-place : goal.invariant-loop-place
invariant-loop-place l = record {
  front : take l.place l.text ++ front_of l.marker l.at_line (drop l.place l.text) ≡ front_of l.marker true
      l.text;
  rest : rest_of l.marker l.at_line (drop l.place l.text) ≡ rest_of l.marker true l.text;
}
