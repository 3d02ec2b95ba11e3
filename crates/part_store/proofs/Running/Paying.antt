-- A token comes to the table, and what is known of a run stays true.
use Rattle.std.proofs.Common.{ℕ, ◌≡◌, ◌⊎◌, true, false, List, [], ◌∷◌, Some, arith}
use Rattle.ws_isa.specs.Image.{Image, Token, is_memory, result_of, sends}
use Rattle.ws_isa.specs.Walk.{Ports, start_tokens}
use Rattle.df_core.specs.Core.{Key, HasFired, operands_in}
use Rattle.df_core.specs.Shown.{Tables}
use Rattle.match_table.specs.Tables as table
use Rattle.match_table.specs.Tables.{held, part}
use Rattle.match_table.specs.Matching.{Arrives, Full}
use Rattle.match_table.proofs.Listed.{has_from}
use Rattle.store_buf.specs.Runs.{Covers}
use Rattle.store_buf.proofs.Paying as P
use Rattle.store_buf.proofs.Reaching as R
use Rattle.part_store.specs.Runs.{IsWhole, Owes, Paid}
use Rattle.part_store.specs.Contents.{PartContent}

module _ (image : Image) where
  pub pay_more : (t : Tables) (c : PartContent) (way more : List Token) → Covers way more → Paid image t c way
      → Paid image t c more
  pay_more t c way more k paid = P.pay_more image (IsWhole c) (Owes image c) t way more k paid

  -- a token that has come is let go
  pub pay_held : (t : Tables) (c : PartContent) (way : List Token) (x : Token) →
      (v : ℕ) × (t.held x.wave x.instr x.port ≡ Some v) → Paid image t c (x ∷ way) → Paid image t c way
  pay_held t c way x come paid = P.pay_held image (IsWhole c) (Owes image c) t way x come paid

  -- what a table answers to a token
  module _ (old : table.TableContent) (x : Token) (new : table.TableContent) (a : Arrives old x new)
      (fresh : HasFired old.fired x.wave x.instr → ⊥) (c : PartContent) (way : List Token)
      (paid : Paid image (part old) c (x ∷ way)) where
    arrived : Paid image (record { held = held new; fired = old.fired }) c way
    arrived = P.pay_arrived image (IsWhole c) (Owes image c) _ _ _ _ a.free a.more fresh _ paid

    pub taken_waits : new.fired ≡ old.fired → Paid image (part new) c way
    taken_waits same = grind (arith, arrived)

    one : (xs : List ℕ) → Full image old x new xs → (w i : ℕ) → HasFired new.fired w i →
        HasFired old.fired w i ⊎ ((x.wave ≡ w) × (x.instr ≡ i))
    one xs full w i h = grind (arith, has_from)

    pub taken_fires : (more tokens : List Token) (xs : List ℕ) → Full image old x new xs →
        is_memory image x.instr ≡ false →
        tokens ≡ sends image x.wave x.instr xs (result_of image x.instr xs) → Covers way more →
        Covers tokens more → Paid image (part new) c more
    taken_fires more tokens xs full plain are keep sent =
        let up = pay_more (record { held = held new; fired = old.fired }) c way more keep arrived in
        let sent' : Covers (sends image x.wave x.instr (operands_in image (held new) x.wave x.instr)
        (result_of image x.instr (operands_in image (held new) x.wave x.instr))) more =
        rw (← full.operands_are) (rw (← are) sent) in
        P.pay_fires image (IsWhole c) (Owes image c) (held new) old.fired new.fired more up x.wave x.instr
        (one xs full) plain (R.reach_all (held new) _ more sent')

    pub taken_asks : (d : PartContent) (more : List Token) (xs : List ℕ) → Full image old x new xs →
        is_memory image x.instr ≡ true → ((t : Tables) → Paid image t c way → Paid image t d more) →
        IsWhole d x.wave x.instr → Paid image (part new) d more
    taken_asks d more xs full memory tell whole = P.pay_asks _ (IsWhole d) (Owes image d) _ _ _ _ (tell
        (record { held = held new; fired = old.fired }) arrived) _ _ (one _ full) memory whole

-- a run begins
pub pay_start : (image : Image) (f : Ports) (ks : List Key) (c : PartContent) (way : List Token) → ks ≡ [] →
    c.kept ≡ [] → Covers (start_tokens image) way → Paid image (record { held = f; fired = ks }) c way
pay_start image f ks c way none empty pulse = grind arith
