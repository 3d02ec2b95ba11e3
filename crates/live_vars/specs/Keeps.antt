-- What a pass keeps of what is live.
use Rattle.std.specs.Prelude.{ℕ}
use Rattle.cfg_core.specs.Graph.{Graph}
use Rattle.live_vars.specs.Live.{Live}

-- what is live at the start of a block of the second graph is live there in the first
abbrev pub NoMoreLive : Graph → Graph → Type 0
NoMoreLive g h = (b x : ℕ) → Live h b x → Live g b x
