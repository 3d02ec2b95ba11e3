-- What takes effect in the order of the chain: all that is outside, and the acts that aren't loads,
-- which may go before their turn.
use Rattle.std.specs.Prelude.{ℕ, List}
use Rattle.ws_words.specs.Outside.{Outside, World}
use Rattle.ws_isa.specs.Image.{Image, after}
use Rattle.ws_isa.specs.Walk.{mem}
use Rattle.ws_isa.specs.Operations.{effect_of}

-- before step t of the walk
unfoldable pub effect_at : Image → World → ℕ → Outside
effect_at image world t = effect_of (mem image world t)

-- after an operation on these operands
unfoldable pub effect_after : Image → ℕ → List ℕ → Outside → Outside
effect_after image k xs o = effect_of (after image k xs o)
