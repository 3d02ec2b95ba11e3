-- An issue keeps what is true of a buffer: its order is legal, and the issued loads that the chain hasn't
-- passed are listed.
use Rattle.std.proofs.Common.{ℕ, suc, ◌≡◌, ◌≤◌, ◌⊎◌, Bool, true, false, List, ◌∷◌, Option, Some, sym, ap, ◌∙◌}
use Rattle.std.proofs.Common.{subst, inl, inr, arith}
use Rattle.ws_words.specs.Outside.{Outside, World}
use Rattle.ws_isa.specs.Image.{Image, is_load, is_past, note_of, answer}
use Rattle.df_core.specs.Effect.{effect_after}
use Rattle.df_core.specs.Core.{Chain, IsNext, Passes, stays, passes, pass, Issuable, issued_with}
use Rattle.df_core.specs.Fit.{FiresAt, IssuedOp, Ordered, Legal, RightRequest}
use Rattle.df_core.specs.Stands.{left_after, Settles}
use Rattle.df_core.proofs.Walked.Facts.{WalkFacts}
use Rattle.df_core.proofs.Keeping.Ports.{SameKey, with_key_cases, with_key_same}
use Rattle.df_core.proofs.Keeping.BufferKept as B
use Rattle.df_core.proofs.Keeping.Settling.{EarlyAt, settle, early_any, one_time, pass_early, pass_issued}
use Rattle.store_buf.specs.Orders.{OrderGoes}

module _ (image : Image) (world : World) (facts : WalkFacts image world) (issued : ℕ → ℕ → Option ℕ)
    (waiting : ℕ → ℕ → Option (List ℕ)) (stopped : Bool) (chain : Chain) (memory : Outside) (early : List ℕ)
    (g : OrderGoes image world issued waiting stopped chain memory early) (w i : ℕ) (xs : List ℕ)
    (r : RightRequest image world w i xs) (may : Issuable image issued chain stopped w i xs) where
  pub answer_right : answer image i xs memory ≡ r.inst.result
  answer_right = B.answer_right image world facts issued chain stopped memory g.legal.settled w i xs may
      r.time r.inst r.at r.operands r.memory g.legal.cut g.legal.ordered

  still_issued : (a b n : ℕ) → issued a b ≡ Some n → issued_with image issued memory w i xs a b ≡ Some n
  still_issued a b n e = grind (arith, with_key_cases)

  is_issued : issued_with image issued memory w i xs w i ≡ Some (answer image i xs memory)
  is_issued = with_key_same w i (Some (answer image i xs memory)) issued

  issued_from : (a b n : ℕ) → issued_with image issued memory w i xs a b ≡ Some n
      → (SameKey w i a b × (n ≡ r.inst.result)) ⊎ (issued a b ≡ Some n)
  issued_from = B.issued_from image world facts issued chain stopped memory g.legal.settled w i xs may r.time
      r.inst r.at r.operands r.memory g.legal.cut g.legal.ordered

  old_early : EarlyAt image world issued g.legal.cut early
  old_early a b n t e z az mb l = g.early_all g.legal.cut a b n t g.legal.ordered.chain e z az mb l

  module _ (inside : is_past image i xs ≡ false) (after : ℕ → ℕ → Option (List ℕ)) where
    new_legal : (d : Chain) → Passes image (issued_with image issued memory w i xs) chain d
        → Legal image world (issued_with image issued memory w i xs) after stopped d
        (effect_after image i xs memory)
    new_legal = B.new_legal image world facts issued chain stopped memory g.legal.settled w i xs may r.time
        r.inst r.at r.operands r.memory g.legal.cut g.legal.ordered inside after

    pub goes_next : IsNext chain (note_of image i) → (d : Chain) (left : List ℕ)
        → Settles image (pass chain (note_of image i)) (left_after (note_of image i) early) d left →
        Passes image (issued_with image issued memory w i xs) chain d × OrderGoes image world
        (issued_with image issued memory w i xs) after stopped d (effect_after image i xs memory) left
    goes_next nx d left settles =
        let u : ℕ = r.time in
        let o' : Ordered image world (suc r.time) (issued_with image issued memory w i xs)
        (pass chain (note_of image r.inst.instr)) (effect_after image i xs memory) =
        B.next_ordered image world facts issued chain stopped memory g.legal.settled w i xs may r.time r.inst
        r.at r.operands r.memory g.legal.cut g.legal.ordered inside after nx in
        let o : Ordered image world (suc r.time) (issued_with image issued memory w i xs)
        (pass chain (note_of image i)) (effect_after image i xs memory) =
        subst (λ (n : ℕ). Ordered image world (suc r.time) (issued_with image issued memory w i xs)
        (pass chain (note_of image n)) (effect_after image i xs memory)) r.at.instr o' in
        let from : g.legal.cut ≤ r.time = B.from image world facts issued chain stopped memory g.legal.settled
        w i xs may r.time r.inst r.at r.operands r.memory g.legal.cut g.legal.ordered in
        let s = settle image world facts (issued_with image issued memory w i xs)
        (pass chain (note_of image i)) d (effect_after image i xs memory) (suc r.time)
        (left_after (note_of image i) early) left settles o
        (pass_issued image world facts (issued_with image issued memory w i xs) chain i early
        (λ j h. let k = g.early_issued j h in (k.0, still_issued chain.wave j k.0 k.1)))
        (pass_early image world facts (issued_with image issued memory w i xs) chain
        (effect_after image i xs memory) r.time i early o (λ a b n t e z az mb l.
        elim (issued_from a b n e) [
          | inl k ↦ absurd (let az' : FiresAt image world w i t z = record {
            fires = az.fires;
            wave = az.wave ∙ sym k.0.wave;
            instr = az.instr ∙ sym k.0.instr;
          } in
              let q : t ≡ r.time = one_time image world facts w i t r.time z r.inst az' r.at in omega arith)
          | inr k ↦ (
            old_early a b n t k z az mb (omega arith),
            (let op : IssuedOp image world g.legal.cut a b n = g.legal.ordered.others a b n k in
                let q : op.time ≡ t = one_time image world facts a b op.time t op.inst z op.at az in
                elim op.place [
                  | inl h ↦ absurd (omega arith)
                  | inr h ↦ sym op.at.wave ∙ h.1.wave ∙ ap (λ (c : Chain). c.wave) (sym g.legal.ordered.chain)
                ]),
          )
        ])) in
        let p : Passes image (issued_with image issued memory w i xs) chain d =
        passes i (answer image i xs memory)
        (subst (λ (n : ℕ). issued_with image issued memory w i xs n i ≡ Some (answer image i xs memory))
        may.current is_issued) nx s.passed in (
          p,
          record {
            legal = new_legal d p;
            early_issued = s.issued_are;
            early_all = early_any image world facts (issued_with image issued memory w i xs) d (effect_after
                image i xs memory) s.cut left s.ordered s.early;
          },
        )

    pub goes_early : (IsNext chain (note_of image i) → ⊥) → is_load image i ≡ true →
        Passes image (issued_with image issued memory w i xs) chain chain
        × OrderGoes image world (issued_with image issued memory w i xs) after stopped chain
        (effect_after image i xs memory) (i ∷ early)
    goes_early not_next l =
        let p : Passes image (issued_with image issued memory w i xs) chain chain =
        stays (λ j a e nj. elim (issued_from chain.wave j a e) [
          | inl k ↦ not_next (subst (λ (n : ℕ). IsNext chain (note_of image n)) (sym k.0.instr) nj)
          | inr k ↦ g.legal.settled j a k nj
        ]) in (
          p,
          record {
            legal = new_legal chain p;
            early_issued = λ j h. elim h [
              | inl e ↦ (
                answer image i xs memory,
                subst (λ (n : ℕ). issued_with image issued memory w i xs chain.wave n
                    ≡ Some (answer image i xs memory)) (sym e)
                    (subst (λ (n : ℕ). issued_with image issued memory w i xs n i
                    ≡ Some (answer image i xs memory)) may.current is_issued),
              )
              | inr k ↦ (let s = g.early_issued j k in (s.0, still_issued chain.wave j s.0 s.1))
            ];
            early_all = early_any image world facts (issued_with image issued memory w i xs) chain
                (effect_after image i xs memory) g.legal.cut (i ∷ early)
                (B.early_ordered image world facts issued chain stopped memory g.legal.settled w i xs may
                r.time r.inst r.at r.operands r.memory g.legal.cut g.legal.ordered inside after l)
                (λ a b n t e z az mb h. elim (issued_from a b n e) [
                  | inl k ↦ inl (sym k.0.instr)
                  | inr k ↦
                      inr (old_early a b n t k z az mb h)
                ]);
          },
        )

  -- past the end the chain stops at it
  pub goes_not : is_past image i xs ≡ true → waiting w i ≡ Some xs → OrderGoes image world issued waiting true
      chain memory early
  goes_not beyond waits = record {
    legal = B.stop_legal image world facts issued chain stopped memory g.legal.settled w i xs may r.time
        r.inst r.at r.operands r.memory g.legal.cut g.legal.ordered beyond waiting waits;
    early_issued = g.early_issued;
    early_all = g.early_all;
  }
