-- The outstanding tokens of tables and a buffer.
use Rattle.std.specs.Prelude.{ℕ, ◌≡◌, ◌<◌, ◌≤◌, true, false, List, length, slice_index_or, Some, None}
use Rattle.std.specs.Prelude.{is_some}
use Rattle.ws_isa.specs.Image.{Image, Token, ports, is_memory, result_of, sends}
use Rattle.ws_isa.specs.Walk.{Ports}
use Rattle.df_core.specs.Core.{Key, HasFired, IsSent, operands_in}
use Rattle.df_core.specs.Shown.{Tables as Part}
use Rattle.df_core.specs.Rights.{operands_of}
use Rattle.match_table.specs.Growth.{content_at}
use Rattle.match_table.specs.Tables.{held, TableContent}
use Rattle.store_buf.specs.declared.kept.Kept.{Kept}
use Rattle.store_buf.specs.Requests.{entry_of}
use Rattle.store_buf.specs.Runs.{AllReach}

-- no table has had it
abbrev pub IsMissing : Ports → Token → Type 0
IsMissing held t = held t.wave t.instr t.port ≡ None

-- each of these has arrived at its table
abbrev pub HaveCome : Ports → List Token → Type 0
HaveCome held ts = (w i p v : ℕ) → IsSent ts w i p v → (u : ℕ) × (held w i p ≡ Some u)

-- its request is kept
abbrev pub IsKnown : List Kept → Key → Type 0
IsKnown kept k = is_some (entry_of kept k.wave k.instr) ≡ true

-- if it isn't one of memory, the result tokens of these operands have arrived at their tables or are in
-- flight
abbrev pub ResultsReach : Image → Ports → List Token → List ℕ → Key → Type 0
ResultsReach image all way operands k = is_memory image k.instr ≡ false →
    AllReach all way (sends image k.wave k.instr operands (result_of image k.instr operands))

-- so those of the one that a table lists at this place
abbrev pub ResultsReachAt : Image → Ports → List Token → ℕ → TableContent → Type 0
ResultsReachAt image all way place c = (d : Key) → ResultsReach image all way
    (operands_in image (held c) (slice_index_or c.fired place d).wave (slice_index_or c.fired place d).instr)
    (slice_index_or c.fired place d)

-- so those of each that a table lists, from this place to before that one
abbrev pub ToldIn : Image → Ports → List Token → ℕ → ℕ → TableContent → Type 0
ToldIn image all way from to c = (k : ℕ) (d : Key) → from ≤ k → k < to → k < length c.fired →
    ResultsReach image all way
    (operands_in image (held c) (slice_index_or c.fired k d).wave (slice_index_or c.fired k d).instr)
    (slice_index_or c.fired k d)

-- so those of each that a table lists before its place here
abbrev pub ToldUpTo : Image → Ports → List Token → List ℕ → List TableContent → Type 0
ToldUpTo image all way places cs = (k : ℕ) → k < length cs →
    ToldIn image all way 0 (slice_index_or places k 0) (content_at cs k)

-- these places are behind all that the tables list
abbrev pub AllPast : List ℕ → List TableContent → Type 0
AllPast places cs = (k : ℕ) → k < length cs → length (content_at cs k).fired ≤ slice_index_or places k 0

-- if it is issued, its result tokens have arrived at their tables or are in flight
abbrev pub AnswersReach : Image → Ports → List Token → Kept → Type 0
AnswersReach image held way k = (a : ℕ) → k.answer ≡ Some a →
    AllReach held way (sends image k.wave k.instr (operands_of (ports image k.instr) k.first k.second) a)

-- these requests are kept of all memory instances that have fired
abbrev pub AllKnown : Image → Part → List Kept → Type 0
AllKnown image t kept = (w i : ℕ) → HasFired t.fired w i → is_memory image i ≡ true →
    is_some (entry_of kept w i) ≡ true
