-- What the answer of a run says.
use Rattle.std.specs.Prelude.{◌≡◌, ℕ, suc, ◌-◌, ◌≤◌, List}
use Rattle.ws_words.specs.declared.plain.Plain.{Plain}
use Rattle.ws_words.specs.declared.plain.Plain.TheVariants.{Ended, Fault, Going}
use Rattle.ws_words.specs.Memory.{lengths_of}
use Rattle.ws_words.specs.Outside.{Outside, World, printed_words}
use Rattle.ws_words.specs.Past.{AreWithin, FirstPast, after_acts}
use Rattle.ws_words.specs.Plain.{took_by_ports}
use Rattle.src_ast.specs.Syntax.{Part}
use Rattle.src_ast.specs.Turns.{CallEnd, Returned, Stopped}
use Rattle.src_ast.specs.Runs.{outside_of, Runs, Goes, Faults}

-- the run ended after n turns and left this
abbrev pub SaysEnded : ℕ → Outside → Plain → Type 0
SaysEnded n end (Ended printed arrays took turns) =
    (turns ≡ n) × (printed ≡ printed_words end.acts) × (arrays ≡ end.cells)
    × (took ≡ took_by_ports end.acts)
SaysEnded n end _ = ⊥

-- in turn n the run met its first out-of-bounds act, on this array, and this was outside before it
abbrev pub SaysFault : ℕ → ℕ → Outside → Plain → Type 0
SaysFault n array state (Fault on printed arrays took turns) =
    (on ≡ array) × (turns ≡ n) × (printed ≡ printed_words state.acts) × (arrays ≡ state.cells)
    × (took ≡ took_by_ports state.acts)
SaysFault n array state _ = ⊥

-- the run is at this, and needs a further turn
abbrev pub SaysGoing : Outside → Plain → Type 0
SaysGoing now (Going printed) = printed ≡ printed_words now.acts
SaysGoing now _ = ⊥

-- the run ends within these turns, and the answer says after how many, and what it leaves
pub record HasEnded (parts : List Part) (world : World) (turns : ℕ) (plain : Plain) : Type 0 where
  pub taken : ℕ
  pub end : Outside
  pub runs : Runs parts world taken end
  pub within : taken ≤ turns
  pub says : SaysEnded taken end plain

-- the run meets its first out-of-bounds act within these turns, and the answer says in which turn,
-- on which array, and what was outside before it
pub record HasFaulted (parts : List Part) (world : World) (turns : ℕ) (plain : Plain) : Type 0 where
  pub turn : ℕ
  pub array : ℕ
  pub state : Outside
  pub faults : Faults parts world turn array state
  pub within : turn ≤ turns
  pub says : SaysFault turn array state plain

-- the run wants more than these turns, and the answer says what it printed until then
pub record IsGoing (parts : List Part) (world : World) (turns : ℕ) (plain : Plain) : Type 0 where
  pub now : Outside
  pub goes : Goes parts world turns now
  pub says : SaysGoing now plain

-- a run by turns from this ended
pub record RunEnded (start : Outside) (run : ℕ → CallEnd) (turns : ℕ) (plain : Plain) : Type 0 where
  pub value : ℕ
  pub end : Outside
  pub left : ℕ
  pub returns : run turns ≡ Returned value end left
  pub within : AreWithin (lengths_of start.cells) end.acts
  pub says : SaysEnded (turns - left) end plain

-- it met its first out-of-bounds act
pub record RunFaulted (start : Outside) (run : ℕ → CallEnd) (turns : ℕ) (plain : Plain)
    : Type 0 where
  pub earlier : ℕ
  pub array : ℕ
  pub state : Outside
  pub in_time : suc earlier ≤ turns
  pub first :
      FirstPast (lengths_of start.cells) (outside_of (run (suc earlier))).acts state.acts array
  pub sooner : AreWithin (lengths_of start.cells) (outside_of (run earlier)).acts
  pub left : state ≡ after_acts start state.acts
  pub says : SaysFault (suc earlier) array state plain

-- it needs a further turn
pub record RunGoes (start : Outside) (run : ℕ → CallEnd) (turns : ℕ) (plain : Plain) : Type 0 where
  pub now : Outside
  pub stops : run turns ≡ Stopped now
  pub within : AreWithin (lengths_of start.cells) now.acts
  pub says : SaysGoing now plain

-- how a run by turns from this went, which is the unchecked run
abbrev pub RunSays : Outside → (ℕ → CallEnd) → ℕ → Plain → Type 0
RunSays start run turns (Ended printed arrays took n) =
    RunEnded start run turns (Ended printed arrays took n)
RunSays start run turns (Fault array printed arrays took n) =
    RunFaulted start run turns (Fault array printed arrays took n)
RunSays start run turns (Going printed) = RunGoes start run turns (Going printed)
