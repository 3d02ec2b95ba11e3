-- A token comes to the tables of a crew of one.
use Rattle.std.proofs.Common.{ℕ, ◌≡◌, false, true, List, [], ◌∷◌, ◌++◌, Option, MatchOption, Some, None}
use Rattle.std.proofs.Common.{length, slice_set, refl, subst, arith}
use Rattle.ws_words.specs.Outside.{World}
use Rattle.ws_isa.specs.Image.{Image, Token, is_memory, result_of, sends}
use Rattle.ws_isa.specs.Formed.{Formed}
use Rattle.ws_isa.specs.Sound.{Sound}
use Rattle.df_core.specs.Core.{Key, has, operands_in}
use Rattle.df_core.specs.Shown.{Tables as Part, TablesOk}
use Rattle.df_core.specs.Rights.{IsRight}
use Rattle.df_core.proofs.Telling.Owing.{nothing}
use Rattle.df_core.proofs.Keeping.Ports.{has_some}
use Rattle.match_table.specs.Matching.{Arrives, Full}
use Rattle.match_table.specs.Tables.{held, TableContent}
use Rattle.match_table.specs.Growth.{content_at}
use Rattle.match_table.specs.Together.{all_fired, together}
use Rattle.match_table.specs.Coming.{served}
use Rattle.match_table.proofs.Brought as B
use Rattle.ws_isa.specs.Walk.{start_tokens}
use Rattle.store_buf.specs.declared.kept.Kept.{Kept}
use Rattle.store_buf.specs.Contents.{Content}
use Rattle.store_buf.specs.Requests.{kept_in}
use Rattle.store_buf.specs.Runs.{Covers}
use Rattle.store_buf.proofs.Paying as P
use Rattle.store_buf.proofs.Reaching as R
use Rattle.df_core.specs.Began.{Began}
use Rattle.df_core.specs.Rights.{Asked}
use Rattle.fire_crew.specs.Solo.{AsksSo, GoesOn, Knows, Owes, Paid}
use Rattle.fire_crew.specs.declared.judge.Ending.{Ending}

none_fired : (ks : List Key) → length ks ≡ 0 → ks ≡ []
none_fired [] e = refl
none_fired (k ∷ ks) e = absurd (omega (arith, e))

-- a run begins
pub come_start : (image : Image) (t : Part) (c : Content) (sent way : List Token) → length t.fired ≡ 0 →
    c.kept ≡ [] → sent ≡ [] → Covers (start_tokens image) way → Paid image t c (sent ++ way)
come_start image t c sent way none empty bare pulse = rw bare (P.pay_start image t (Knows c) (Owes image c)
    way (none_fired t.fired none) (λ ts o. nothing o.3 (subst (λ (ks : List Kept). kept_in image ks o.0 o.1 ≡
    Some o.3) empty o.4)) pulse)

-- what is to be brought next, where something is on the way and where nothing is
pub next_some : (o : Option Token) (x : Token) (sent old way : List Token) → o ≡ Some x →
    MatchOption o ((sent ≡ []) × (old ≡ [])) (λ t. Covers (sent ++ old) (t ∷ way)) →
    Covers (sent ++ old) (x ∷ way)
next_some o x sent old way is m = grind arith

pub next_none : (o : Option Token) (sent old way : List Token) → o ≡ None →
    MatchOption o ((sent ≡ []) × (old ≡ [])) (λ t. Covers (sent ++ old) (t ∷ way)) → (sent ≡ []) × (old ≡ [])
next_none o sent old way is m = grind arith

-- a run goes on where the buffer has a request, or has ended
pub come_on : (image : Image) (world : World) (began : List (Option Began)) (o : Option Ending) (t : Part)
    (left : ℕ) (c d : Content) (r : Asked) (way sent more : List Token) → sent ≡ [] →
    AsksSo image world began c r way d more o →
    (((u : Part) → Paid image u c way → Paid image u d more) → Knows d r.wave r.instr → Paid image t d more) →
    GoesOn image world began t left d (sent ++ more) o
come_on v0 v1 v2 v3 v4 v5 v6 v7 v8 v9 v10 v11 v12 v13 v14 = grind arith

module _ (image : Image) (world : World) (formed : Formed image) (sound : Sound image)
    (old new : List TableContent) (x : Token)
    (set : new ≡ slice_set old (served x) (content_at new (served x))) (c : Content) (way : List Token)
    (tok : TablesOk image world (together old))
    (right : IsRight image world x) (paid : Paid image (together old) c (x ∷ way)) where
  abbrev before : TableContent
  before = content_at old (served x)

  abbrev after : TableContent
  after = content_at new (served x)

  arrived : Arrives before x after →
      Paid image (record { held = (together new).held; fired = all_fired old }) c way
  arrived a = P.pay_arrived image (Knows c) (Owes image c) _ _ _ _ a.free (B.brought_more _ _ _ set a)
      (P.not_fired _ _ formed sound _ tok _ right a.free) _ paid

  -- what a table answers to a token
  pub come_waits : Arrives before x after → after.fired ≡ before.fired → Paid image (together new) c way
  come_waits a same = P.pay_waits image (Knows c) (Owes image c) (together new).held (all_fired old)
      (all_fired new) way (arrived a) (B.brought_same old new x set same)

  pub come_fires : (ts : List Token) (xs : List ℕ) → Arrives before x after → Full image before x after xs →
      is_memory image x.instr ≡ false → ts ≡ sends image x.wave x.instr xs (result_of image x.instr xs) →
      Paid image (together new) c (ts ++ way)
  come_fires ts xs a full plain are =
      let all = R.covers_self _ in
      let up = P.pay_more _ (Knows c) (Owes image c) _ _ _ (R.covers_right _ _ _ all) (arrived a) in
      let sent : Covers (sends image x.wave x.instr (operands_in image (together new).held x.wave x.instr)
      (result_of image x.instr (operands_in image (together new).held x.wave x.instr))) (ts ++ way) =
      subst (λ (ys : List ℕ). Covers (sends image x.wave x.instr ys (result_of image x.instr ys)) (ts ++ way))
      (B.brought_operands _ _ _ set _ _ full)
      (subst (λ (us : List Token). Covers us (ts ++ way)) are (R.covers_left _ _ _ all)) in
      P.pay_fires _ (Knows c) (Owes image c) _ _ _ _ up _ _ (B.brought_fired _ _ _ set _ _ full) plain
      (R.reach_all _ _ _ sent)

  pub come_asks : (d : Content) (more : List Token) (xs : List ℕ) → Arrives before x after →
      Full image before x after xs → is_memory image x.instr ≡ true →
      ((t : Part) → Paid image t c way → Paid image t d more) → Knows d x.wave x.instr →
      Paid image (together new) d more
  come_asks d more xs a full memory tell here = P.pay_asks _ (Knows d) (Owes image d) _ _ _ _ (tell (record
      { held = (together new).held; fired = all_fired old }) (arrived a)) _ _ (B.brought_fired _ _ _ set _ _
      full) memory here

  -- one that had come is let go
  pub come_old : after ≡ before → has (held before x.wave x.instr x.port) ≡ true →
      Paid image (together new) c way
  come_old same h = rw (B.brought_none old new x set same) (P.pay_held image (Knows c) (Owes image c)
      (together old) way x (has_some (held before x.wave x.instr x.port) h) paid)
