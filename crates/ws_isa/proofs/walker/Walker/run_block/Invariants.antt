use Rattle.std.proofs.Common.{ℕ, suc, ◌≡◌, ◌≤◌, ◌+◌}
use Rattle.ws_words.specs.Outside.{World}
use Rattle.ws_isa.specs.Image.{first_number}
use Rattle.ws_isa.specs.Shows.{image_of, At, AtStart}
use Rattle.ws_isa.proofs.walker.Walker.run_block.Given as goal

abbrev pub invariant-loop-i : goal.invariant-loop-i
invariant-loop-i l = record {
  left : l.self.fired ≤ l.firings;
  count : l.self.fired ≡ l.initial.self.fired + l.i;
  walk : (world : World) (t : ℕ) → AtStart (image_of l.program) world t (suc l.place) l.initial.self
      → (u : ℕ) × At (image_of l.program) world u (suc l.place)
      (first_number (image_of l.program) (suc l.place) + l.i) l.self;
}
