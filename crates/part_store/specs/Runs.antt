-- What a run over a table and a buffer with queues has done, and what is outstanding.
use Rattle.std.specs.Prelude.{ℕ, ◌≡◌, false, List, [], Some, None, length}
use Rattle.ws_words.specs.Outside.{World}
use Rattle.ws_isa.specs.Image.{Image, Token, ports, sends}
use Rattle.df_core.specs.Shown.{Tables}
use Rattle.df_core.specs.Rights.{IsRight, operands_of}
use Rattle.match_table.specs.Tables.{held, part}
use Rattle.match_table.specs.Tables as table
use Rattle.store_buf.specs.declared.kept.Kept.{Kept}
use Rattle.store_buf.specs.Requests.{entry_of}
use Rattle.store_buf.specs.Runs.{PaidOf}
use Rattle.part_store.specs.Queues.{is_queued}
use Rattle.part_store.specs.Contents.{is_bare, PartContent}
use Rattle.part_store.specs.declared.finish.Ending.{Ending}
use Rattle.part_store.specs.declared.finish.Ending.TheVariants as ending

-- the chain isn't stopped, and no port has failed or found no memory
abbrev pub GoesOn : PartContent → Type 0
GoesOn c = (c.fault ≡ None) × (c.failed ≡ None) × (c.starved ≡ false)

-- the whole request of an instance is kept
abbrev pub IsWhole : PartContent → ℕ → ℕ → Type 0
IsWhole c w i = (k : Kept) × (entry_of c.kept w i ≡ Some k) × (is_bare c w i ≡ false)

-- The result tokens of what is done. An operation that counts as issued is done unless it is queued.
abbrev pub Owes : Image → PartContent → List Token → Type 0
Owes image c ts = (w : ℕ) × (i : ℕ) × (a : ℕ) × (k : Kept) × (entry_of c.kept w i ≡ Some k)
    × (k.answer ≡ Some a) × (is_queued c.queued w i ≡ false)
    × (ts ≡ sends image w i (operands_of (ports image i) k.first k.second) a)

-- the start pulse has been sent, and each instance that has fired has sent its result tokens, or its request
-- has arrived at the buffer; and so has what is done there
abbrev pub Paid : Image → Tables → PartContent → List Token → Type 0
Paid image t c way = PaidOf image t (IsWhole c) (Owes image c) way

-- so it is as long as the buffer goes on
abbrev pub PaidWhile : Image → Tables → PartContent → List Token → Type 0
PaidWhile image t c way = GoesOn c → Paid image t c way

-- Why a run goes no further: nothing is in flight; as many instances have fired as may, and a token hasn't
-- come; or the buffer takes no more, or memory ran out.
abbrev pub PartEndingSo : Image → World → ℕ → table.TableContent → PartContent → Ending → Type 0
PartEndingSo image world budget t c ending.Whole = GoesOn c × Paid image (part t) c []
PartEndingSo image world budget t c ending.Spent = (length t.fired ≡ budget)
    × ((x : Token) × IsRight image world x × (held t x.wave x.instr x.port ≡ None))
PartEndingSo image world budget t c ending.Stopped = Unit {0}
