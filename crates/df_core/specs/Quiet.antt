-- Events that fire no instance.
use Rattle.std.specs.Prelude.{◌≡◌, Bool, true, List, [], ◌∷◌, Some}
use Rattle.ws_words.specs.Outside.{World}
use Rattle.ws_isa.specs.Image as plain
use Rattle.ws_isa.specs.Image.{Image, ports}
use Rattle.df_core.specs.Core as law
use Rattle.df_core.specs.Core.{State, Step, Enabled, is_full, with_at}
use Rattle.df_core.specs.declared.engine.Core.{Core}
use Rattle.df_core.specs.declared.slots.MatchStore.{MatchStore}
use Rattle.df_core.specs.Partial.{partial_of}
use Rattle.df_core.specs.Cores.{IsAt}

-- where the event is made, no instance fires
abbrev pub IsQuiet : Image → State → law.Event → Type 0
IsQuiet image s event = (t : State) → Step image s event t → t.fired ≡ s.fired

-- at each state at which the core stands the event is enabled, and fires no instance
abbrev pub IsQuietly : law.Event → Core → Type 0
IsQuietly event core = (image : Image) (world : World) (s : State) → IsAt image world core s →
    Enabled image s event × IsQuiet image s event

-- at each state at which the core stands each event that is enabled fires an instance
abbrev pub OnlyFires : Core → Type 0
OnlyFires core = (image : Image) (world : World) (s : State) → IsAt image world core s →
    (event : law.Event) → Enabled image s event → IsQuiet image s event → ⊥

-- the instance of the token is full with it
abbrev pub fills : Image → MatchStore → plain.Token → Bool
fills image slots t =
    is_full (with_at t.wave t.instr t.port (Some t.value)
    (partial_of slots.slots.items slots.spill)) t.wave t.instr (ports image t.instr)

abbrev pub AllFill : Image → MatchStore → List plain.Token → Type 0
AllFill image slots [] = Unit {0}
AllFill image slots (t ∷ ts) = (fills image slots t ≡ true) × AllFill image slots ts
