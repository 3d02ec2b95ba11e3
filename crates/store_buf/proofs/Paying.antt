-- Tokens come to tables and requests to a buffer, and what is known of a run stays true.
use Rattle.std.proofs.Common.{ℕ, ◌≡◌, ◌⊎◌, true, false, List, [], ◌∷◌, Some, None, length, sym, ap, ◌∙◌}
use Rattle.std.proofs.Common.{subst, arith}
use Rattle.ws_words.specs.Outside.{World}
use Rattle.ws_isa.specs.Image.{Image, Token, ports, is_memory, result_of, sends}
use Rattle.ws_isa.specs.Formed.{Formed}
use Rattle.ws_isa.specs.Sound.{Sound}
use Rattle.ws_isa.specs.Walk.{Ports, start_tokens}
use Rattle.df_core.specs.Core.{Key, HasFired, operands_in, with_at}
use Rattle.df_core.specs.Rights.{IsRight}
use Rattle.df_core.specs.Shown.{Tables, TablesOk}
use Rattle.df_core.proofs.Walked.Facts.{WalkFacts}
use Rattle.df_core.proofs.Walked.FromSound.{facts_of}
use Rattle.df_core.proofs.Telling.Owing.{nothing}
use Rattle.df_core.proofs.Keeping.Ports.{with_at_cases}
use Rattle.df_core.proofs.Walked.PortsThere.{ports_there}
use Rattle.df_core.proofs.Parts.StandsMatch.{gather_agree}
use Rattle.store_buf.specs.Runs.{AllReach, Covers, PaidOf}
use Rattle.store_buf.proofs.Reaching as R
use Rattle.ws_words.proofs.Places.{nth_short}

-- an instance to which a token hasn't come hasn't fired
pub not_fired : (image : Image) (world : World) (formed : Formed image) (sound : Sound image) (t : Tables) →
    TablesOk image world t → (x : Token) → IsRight image world x → t.held x.wave x.instr x.port ≡ None →
    HasFired t.fired x.wave x.instr → ⊥
not_fired image world formed sound t tok x right missing h =
    let facts : WalkFacts image world = facts_of image world (ports_there image formed) sound in
    let f = tok.fired_full x.wave x.instr h in
    let l = nth_short right.inst.operands x.port x.value right.operand in
    let n : length right.inst.operands ≡ ports image x.instr =
    facts.filled right.time right.inst right.at.fires ∙ ap (ports image) right.at.instr in
    let g = f.1 x.port (omega (arith, l, n)) in
    nothing g.0 (sym missing ∙ g.1)

-- the buffer changes: what was known is known, and what it owes has been told
pub pay_buffer : (image : Image) (t : Tables) (known later : ℕ → ℕ → Type 0)
    (owes owing : List Token → Type 0) (way : List Token) → ((w i : ℕ) → known w i → later w i) →
    ((ts : List Token) → owing ts → AllReach t.held way ts) → PaidOf image t known owes way →
    PaidOf image t later owing way
pay_buffer image t known later owes owing way stays told paid = grind arith

-- a run begins
pub pay_start : (image : Image) (t : Tables) (known : ℕ → ℕ → Type 0) (owes : List Token → Type 0)
    (way : List Token) → t.fired ≡ [] → ((ts : List Token) → owes ts → ⊥) → Covers (start_tokens image) way →
    PaidOf image t known owes way
pay_start image t known owes way none nothing pulse = grind (arith, nothing)

module _ (image : Image) (known : ℕ → ℕ → Type 0) (owes : List Token → Type 0) where
  abbrev Owed : Ports → List Key → List Token → Type 0
  Owed f ks way = PaidOf image (record { held = f; fired = ks }) known owes way

  pub pay_more : (t : Tables) (way more : List Token) → Covers way more → PaidOf image t known owes way →
      PaidOf image t known owes more
  pay_more t way more k paid = grind arith

  -- a token that has come is let go
  pub pay_held : (t : Tables) (way : List Token) (x : Token) →
      (v : ℕ) × (t.held x.wave x.instr x.port ≡ Some v) → PaidOf image t known owes (x ∷ way) →
      PaidOf image t known owes way
  pay_held t way x come paid = grind arith

  -- a token comes, and its instance hasn't fired
  module _ (f g : Ports) (fired : List Key) (x : Token) (free : f x.wave x.instr x.port ≡ None)
      (more : (w i p : ℕ) → g w i p ≡ with_at x.wave x.instr x.port (Some x.value) f w i p)
      (fresh : HasFired fired x.wave x.instr → ⊥) where
    same_at : (w i p : ℕ) → HasFired fired w i → f w i p ≡ g w i p
    same_at w i p h = grind (arith, with_at_cases)

    same_operands : (w i : ℕ) → HasFired fired w i → operands_in image f w i ≡ operands_in image g w i
    same_operands w i h = gather_agree f g w i 0 (ports image i) (λ p. same_at w i p h)

    pub pay_arrived : (way : List Token) → Owed f fired (x ∷ way) → Owed g fired way
    pay_arrived way paid = record {
      start = up _ paid.start;
      told = λ w i h m. subst (λ (xs : List ℕ).
          AllReach g way (sends image w i xs (result_of image i xs))) (same_operands w i h)
          (up _ (paid.told w i h m));
      asked = paid.asked;
      answered = λ ts o. up ts (paid.answered ts o);
    }
      where
        up : (ts : List Token) → AllReach f (x ∷ way) ts → AllReach g way ts
        up ts = R.reach_by f g (x ∷ way) way ts (R.reach_arrived f g x free more way)

  -- the list of those that fired changes
  module _ (f : Ports) (fired now : List Key) (way : List Token) (paid : Owed f fired way) where
    -- it has none more
    pub pay_waits : ((a b : ℕ) → HasFired now a b → HasFired fired a b) → Owed f now way
    pay_waits same = grind arith

    -- it has one more
    module _ (w i : ℕ) (one : (a b : ℕ) → HasFired now a b → HasFired fired a b ⊎ ((w ≡ a) × (i ≡ b))) where
      pub pay_fires : is_memory image i ≡ false → AllReach f way (sends image w i (operands_in image f w i)
          (result_of image i (operands_in image f w i))) → Owed f now way
      pay_fires plain sent = grind arith

      pub pay_asks : is_memory image i ≡ true → known w i → Owed f now way
      pay_asks memory here = grind arith
