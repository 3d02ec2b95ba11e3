-- How a run ends.
use Rattle.std.specs.Prelude.{◌≡◌, ◌+◌, ◌==◌, ℕ, Bool, true, false, if◌then◌else◌, [], length, Some, vec_len}
use Rattle.ws_words.specs.Outside.{World}
use Rattle.ws_isa.specs.Image.{Image}
use Rattle.ws_isa.specs.Formed.{Formed}
use Rattle.ws_isa.specs.Sound.{Sound}
use Rattle.df_core.specs.Core.{State, Issue, Enabled, Rest}
use Rattle.df_core.specs.declared.flow.Flow.{Flow}
use Rattle.df_core.specs.Flows.{IsFault, Reaches, FlowIs}
use Rattle.df_core.specs.declared.drive.Finish.{Finish}
use Rattle.df_core.specs.declared.drive.Finish.TheVariants as finish

-- the chain isn't stopped, so many instances have fired, something is in flight, and nothing may
-- be issued
pub record IsSpent (image : Image) (budget : ℕ) (s : State) : Type 0 where
  pub going : s.stopped ≡ false
  pub count : length s.fired ≡ budget
  pub wave : ℕ
  pub instr : ℕ
  pub port : ℕ
  pub value : ℕ
  pub on_way : s.way wave instr port ≡ Some value
  pub settled : (w i : ℕ) → Enabled image s (Issue w i) → ⊥

abbrev pub FinishIs : Image → World → ℕ → Finish → State → Type 0
FinishIs image world budget finish.Rest s = Rest image s × (s.stopped ≡ false)
FinishIs image world budget finish.Budget s = IsSpent image budget s
FinishIs image world budget (finish.Fault array) s = (s.stopped ≡ true) × IsFault image world array

-- a run leads on to such an end
abbrev pub Ended : Image → ℕ → Flow → Flow → Finish → Type 0
Ended image budget old new ended = (world : World) (s : State) → Formed image → Sound image →
    FlowIs image world [] old s →
    (t : State) × Reaches image s t × FlowIs image world [] new t
    × FinishIs image world budget ended t

abbrev pub is_budget : Finish → Bool
is_budget finish.Budget = true
is_budget _ = false

abbrev pub is_fault : Finish → Bool
is_fault (finish.Fault array) = true
is_fault _ = false

-- where nothing can be issued any more
abbrev pub stopped_at : Flow → Finish
stopped_at flow = if vec_len flow.way.now + vec_len flow.way.later == 0 then finish.Rest else finish.Budget
