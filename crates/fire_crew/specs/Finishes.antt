-- What the run of a crew answers.
use Rattle.std.specs.Prelude.{ℕ, ◌≡◌, ◌≤◌, ◌⊎◌, List, Option, length}
use Rattle.match_table.specs.Tables.{TableContent}
use Rattle.ws_words.specs.Outside.{World}
use Rattle.ws_isa.specs.Image.{Image}
use Rattle.df_core.specs.Core.{Key}
use Rattle.df_core.specs.Began.{Began}
use Rattle.port_set.specs.Ports.{Told}
use Rattle.store_buf.specs.Outdoors.{Holding}
use Rattle.fire_crew.specs.Ends.{AllRun, SomeRun, FaultRun, PortRun, FrontRun}
use Rattle.store_buf.specs.declared.finish.RunFinish.{RunFinish}
use Rattle.store_buf.specs.declared.finish.RunFinish.TheVariants.{Done, Budget, Fault, Port, NoMemory}

abbrev pub holding : List (List ℕ) → List ℕ → List ℕ → List (Option Told) → Holding
holding cells input printed ports = record { cells = cells; input = input; printed = printed; ports = ports }

-- with this budget, where these instances are listed as fired and the ports have been given back as they are
abbrev pub FinishSo : Image → World → List (Option Began) → ℕ → List Key → List (Option Told) →
    RunFinish → Type 0
FinishSo image world began budget listed ports (Done printed arrays fired) =
    (fired ≡ length listed) × (fired ≤ budget)
    × ((input : List ℕ) × AllRun image world began listed (holding arrays input printed ports))
FinishSo image world began budget listed ports (Budget printed fired) =
    (fired ≡ budget) × (fired ≡ length listed) × ((arrays : List (List ℕ)) × (input : List ℕ)
    × SomeRun image world began listed (holding arrays input printed ports))
FinishSo image world began budget listed ports (Fault array printed arrays) =
    (input : List ℕ) × FaultRun image world began array (holding arrays input printed ports)
FinishSo image world began budget listed ports (Port port printed) =
    (arrays : List (List ℕ)) × (input : List ℕ) ×
    PortRun image world began port (holding arrays input printed ports)
FinishSo image world began budget listed ports NoMemory =
    (arrays : List (List ℕ)) × (input : List ℕ) × (printed : List ℕ)
    × FrontRun image world began (holding arrays input printed ports)

-- out of memory nothing was run and the ports are given back as they were handed in, or a run has ended
-- so
abbrev pub EndsSo : Image → World → List (Option Began) → ℕ → List Key → List (Option Told) →
    List (Option Told) → RunFinish → Type 0
EndsSo image world began budget listed handed back finish =
    ((finish ≡ NoMemory) × (back ≡ handed)) ⊎ FinishSo image world began budget listed back finish

-- a run that doesn't end out of memory leaves sixteen tables
abbrev pub LeavesAll : RunFinish → List TableContent → Type 0
LeavesAll finish tables = (finish ≡ NoMemory → ⊥) → length tables ≡ 16
