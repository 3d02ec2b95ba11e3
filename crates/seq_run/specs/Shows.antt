-- What the code holds of a run: all but the acts, of which it holds the words printed and taken.
use Rattle.std.specs.Prelude.{◌≡◌, ℕ, suc, ◌+◌, Bool, true, false, List, [], ◌∷◌, ◌++◌, Option, Some, None}
use Rattle.ws_words.specs.Memory.{OutIs, lengths_of}
use Rattle.ws_words.specs.Outside.{Act, Outside, ProcState}
use Rattle.ws_words.specs.Past.{ActsBegin, IsPast, AreWithin, after_acts}
use Rattle.ws_words.specs.declared.memory.Memory.{Memory}
use Rattle.src_ast.specs.Turns.{PartEnd, Ended, Out, CallEnd, Returned, Stopped}
use Rattle.seq_run.specs.Resolved.{Action, done}
use Rattle.seq_run.specs.Seen.{seen, call_seen}
use Rattle.seq_run.specs.declared.flow.Run.{Run}
use Rattle.seq_run.specs.declared.flow.Flow.{Flow}
use Rattle.seq_run.specs.declared.flow.Flow.TheVariants as flows
use Rattle.seq_run.specs.declared.flow.Reply.{Reply}
use Rattle.seq_run.specs.declared.flow.Reply.TheVariants as replies

-- the code holds what is outside; from the start until then no act was out of bounds
pub record ShowsMemory (start o : Outside) (memory : Memory) : Type 0 where
  pub out : OutIs o memory
  pub within : AreWithin (lengths_of start.cells) o.acts
  pub told : o ≡ after_acts start o.acts

-- the code holds a state
pub record Holds (start : Outside) (s : ProcState) (memory : Memory) (vars : List ℕ) : Type 0 where
  pub out : ShowsMemory start s.out memory
  pub same_vars : s.vars ≡ vars

-- among these acts is one that is out of bounds, on this array, and the code holds what is outside before
-- the first such
pub record Stops (start : Outside) (acts : List Act) (array : ℕ) (memory : Memory) : Type 0 where
  pub before : Outside
  pub shows : ShowsMemory start before memory
  pub act : Act
  pub past : IsPast (lengths_of start.cells) array act
  pub first : ActsBegin (before.acts ++ act ∷ []) acts

-- an action was done, or stopped before an out-of-bounds act
abbrev pub IsDone : Outside → Action → ProcState → Option ℕ → Memory → List ℕ → Type 0
IsDone start a s None memory vars = Holds start (done a s) memory vars
IsDone start a s (Some array) memory vars = Stops start (done a s).out.acts array memory

-- a part that was given these turns met its first out-of-bounds act when it had these left: with one
-- turn less than it took by then it needs that turn, and no act is out of bounds
pub record Faulted (start : Outside) (part : ℕ → List Act × Bool) (turns array : ℕ)
    (memory : Memory) (left : ℕ) : Type 0 where
  pub earlier : ℕ
  pub sum : turns ≡ left + suc earlier
  pub stops : Stops start (part (suc earlier)).0 array memory
  pub wants : (part earlier).1 ≡ true
  pub within : AreWithin (lengths_of start.cells) (part earlier).0

-- a part ended
abbrev pub PartEnded : Outside → PartEnd → Memory → List ℕ → ℕ → Type 0
PartEnded start (Ended s k) memory vars left =
    Holds start s memory vars × (k ≡ left)
PartEnded start (Out o) memory vars left = ⊥

-- a part needs a turn
abbrev pub PartOut : Outside → PartEnd → Memory → Type 0
PartOut start (Ended s k) memory = ⊥
PartOut start (Out o) memory = ShowsMemory start o memory

-- how a part went that was given these turns
abbrev pub FlowIs : Outside → (ℕ → PartEnd) → ℕ → Flow → Memory → List ℕ → ℕ → Type 0
FlowIs start part turns flows.Ended memory vars left =
    PartEnded start (part turns) memory vars left
FlowIs start part turns flows.Out memory vars left = PartOut start (part turns) memory
FlowIs start part turns (flows.Fault array) memory vars left =
    Faulted start (λ k. seen (part k)) turns array memory left

-- a call gave a word
abbrev pub CallReturned : Outside → CallEnd → ℕ → Memory → ℕ → Type 0
CallReturned start (Returned v o k) word memory left =
    ShowsMemory start o memory × (v ≡ word) × (k ≡ left)
CallReturned start (Stopped o) word memory left = ⊥

-- a call needs a turn
abbrev pub CallOut : Outside → CallEnd → Memory → Type 0
CallOut start (Returned v o k) memory = ⊥
CallOut start (Stopped o) memory = ShowsMemory start o memory

-- how a call went that was given these turns
abbrev pub ReplyIs : Outside → (ℕ → CallEnd) → ℕ → Reply → Memory → ℕ → Type 0
ReplyIs start call turns (replies.Value word) memory left =
    CallReturned start (call turns) word memory left
ReplyIs start call turns replies.Out memory left = CallOut start (call turns) memory
ReplyIs start call turns (replies.Fault array) memory left =
    Faulted start (λ k. call_seen (call k)) turns array memory left

-- from each state that the code holds it goes as a part of the run does
abbrev pub GoesAsPart : (ProcState → ℕ → PartEnd) → Run → List ℕ → Flow → Run → List ℕ → Type 0
GoesAsPart part before vars flow after now =
    (start : Outside) (s : ProcState) → Holds start s before.memory vars →
    FlowIs start (part s) before.turns flow after.memory now after.turns

-- so it goes as a call does
abbrev pub FollowsCall : (Outside → ℕ → CallEnd) → Run → Reply → Run → Type 0
FollowsCall call before reply after =
    (start o : Outside) → ShowsMemory start o before.memory →
    ReplyIs start (call o) before.turns reply after.memory after.turns

-- what is left of a part, from a state that the code holds, is the whole part, which has used
-- turns
pub record Upto (start : Outside) (now : ProcState → ℕ → PartEnd) (whole : ℕ → PartEnd) (turns : ℕ)
    (memory : Memory) (vars : List ℕ) (left : ℕ) : Type 0 where
  pub at : ProcState
  pub holds : Holds start at memory vars
  pub spent : ℕ
  pub sum : turns ≡ left + spent
  pub same : (k : ℕ) → whole (k + spent) ≡ now at k

-- not at the end of a part
abbrev pub stop_flag : Flow → Bool
stop_flag flows.Ended = false
stop_flag flows.Out = true
stop_flag (flows.Fault array) = true
