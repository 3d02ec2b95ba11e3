use Rattle.std.proofs.Common.{ℕ, suc, ◌≤◌, ◌<◌, ◌-◌, length}
use Rattle.ws_words.specs.Outside.{World as Given}
use Rattle.ws_isa.specs.Shows.{image_of, AtStart}
use Rattle.ws_isa.proofs.Measure.{heft, Alive}
use Rattle.ws_isa.proofs.walk.walk.Given as goal

abbrev pub invariant-loop-walker : goal.invariant-loop-walker
invariant-loop-walker l = record {
  place : l.place < length l.program.blocks.now;
  left : l.walker.fired ≤ l.firings;
  alive : Alive l.program l.place;
  walk : (world : Given) → AtStart (image_of l.program) world 0 1 l.initial.walker
      → (t : ℕ) × AtStart (image_of l.program) world t (suc l.place) l.walker;
}

abbrev pub decreases-loop-walker : goal.decreases-loop-walker
decreases-loop-walker l = heft l.program l.place (l.firings - l.walker.fired)
