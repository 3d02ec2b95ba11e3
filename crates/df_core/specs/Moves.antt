-- One event, and the parts that stand for the state behind it.
use Rattle.std.specs.Prelude.{ℕ, ◌≡◌, Bool, List, length}
use Rattle.ws_words.specs.Outside.{Outside, World}
use Rattle.ws_isa.specs.Image.{Image, Token}
use Rattle.ws_isa.specs.Walk.{Ports}
use Rattle.df_core.specs.Core.{State, Chain, Event, Step}
use Rattle.df_core.specs.Stands.{Request, Stands}

pub record StateMoves (image : Image) (world : World) (s : State) (event : Event) (partial : Ports)
    (way : List Token) (asked : List Request) (early : List ℕ) (chain : Chain) (stopped : Bool)
    (memory : Outside) (count : ℕ) : Type 0 where
  pub new : State
  pub step : Step image s event new
  pub stands : Stands image world partial way asked early new
  pub chain_is : new.chain ≡ chain
  pub stopped_is : new.stopped ≡ stopped
  pub memory_is : new.memory ≡ memory
  pub count_is : length new.fired ≡ count
