-- What a crew of one has done, and what is outstanding.
use Rattle.std.specs.Prelude.{ℕ, ◌≡◌, true, List, Option, Some, None, is_some}
use Rattle.ws_words.specs.Outside.{World}
use Rattle.ws_isa.specs.Image.{Image, Token, sends}
use Rattle.df_core.specs.Core.{Key}
use Rattle.df_core.specs.Shown.{Tables as Part}
use Rattle.df_core.specs.Began.{Began}
use Rattle.df_core.specs.Rights.{Asked}
use Rattle.store_buf.specs.declared.fault.BufFault.{BufFault}
use Rattle.store_buf.specs.declared.fault.BufFault.TheVariants.{Old, NoMemory}
use Rattle.store_buf.specs.Requests.{entry_of, issued_in, kept_in}
use Rattle.store_buf.specs.Contents.{Content}
use Rattle.store_buf.specs.Runs.{PaidOf}
use Rattle.fire_crew.specs.Ends.{IsGoing}
use Rattle.fire_crew.specs.Verdicts.{EndingSo}
use Rattle.fire_crew.specs.declared.judge.Ending.{Ending}
use Rattle.fire_crew.specs.declared.judge.Ending.TheVariants.{Stopped, Starved}

-- the request of an instance is kept
abbrev pub Knows : Content → ℕ → ℕ → Type 0
Knows c w i = is_some (entry_of c.kept w i) ≡ true

-- the result tokens of an issued operation
abbrev pub Owes : Image → Content → List Token → Type 0
Owes image c ts = (w : ℕ) × (i : ℕ) × (a : ℕ) × (xs : List ℕ) × (kept_in image c.kept w i ≡ Some xs)
    × (issued_in c.kept w i ≡ Some a) × (ts ≡ sends image w i xs a)

-- the start pulse has been sent, and each instance that has fired has sent its result tokens, or its request
-- has arrived at the buffer; and so has each operation that is issued there
abbrev pub Paid : Image → Part → Content → List Token → Type 0
Paid image t c way = PaidOf image t (Knows c) (Owes image c) way

-- a run goes on with these tokens in flight, or has ended with so many firings left
abbrev pub GoesOn : Image → World → List (Option Began) → Part → ℕ → Content → List Token → Option Ending →
    Type 0
GoesOn image world began t left c way None = IsGoing c × Paid image t c way
GoesOn image world began t left c way (Some e) = EndingSo image world began t.fired left c e

-- the end of a run whose buffer doesn't take a request; one that it has had is released
abbrev pub ending_of : BufFault → Option Ending
ending_of Old = None
ending_of NoMemory = Some Starved
ending_of _ = Some Stopped

-- What came of a request: the buffer has it, and what was outstanding and sent stays so with any tables; or
-- the run has ended, whatever has fired.
abbrev pub AsksSo : Image → World → List (Option Began) → Content → Asked → List Token → Content →
    List Token → Option Ending → Type 0
AsksSo image world began old r way new more None = IsGoing new × Knows new r.wave r.instr
    × ((t : Part) → Paid image t old way → Paid image t new more)
AsksSo image world began old r way new more (Some e) = (fired : List Key) (left : ℕ) →
    EndingSo image world began fired left new e
