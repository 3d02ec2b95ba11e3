-- What the run of an image answers, in the words of the walk alone.
use Rattle.std.specs.Prelude.{ℕ, ◌≡◌, ◌≤◌, List, Option}
use Rattle.ws_words.specs.Outside.{World}
use Rattle.ws_isa.specs.Image.{Image}
use Rattle.port_set.specs.Ports.{Told}
use Rattle.store_buf.specs.Ended.{RunWhole, Spent, Tripped, PortFailed, Starved}
use Rattle.store_buf.specs.declared.finish.RunFinish.{RunFinish}
use Rattle.store_buf.specs.declared.finish.RunFinish.TheVariants.{Done, Budget, Fault, Port, NoMemory}

-- with these ports handed in, this budget, and these ports given back
abbrev pub RunTells : Image → World → List (Option Told) → ℕ → RunFinish → List (Option Told) → Type 0
RunTells image world handed budget (Done printed arrays fired) back =
    (fired ≤ budget) × RunWhole image world handed printed arrays fired back
RunTells image world handed budget (Budget printed fired) back =
    (fired ≡ budget) × Spent image world handed budget printed back
RunTells image world handed budget (Fault array printed arrays) back =
    Tripped image world handed array printed arrays back
RunTells image world handed budget (Port port printed) back =
    PortFailed image world handed port printed back
RunTells image world handed budget NoMemory back = Starved image world handed back
