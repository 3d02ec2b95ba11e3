-- An issue keeps what a core's parts stand for.
use Rattle.std.proofs.Common.{ℕ, suc, ◌≡◌, ◌≤◌, ◌⊎◌, true, false, List, ◌∷◌, ◌++◌, Some, None, refl, sym, ap}
use Rattle.std.proofs.Common.{◌∙◌, subst, inl, inr, arith}
use Rattle.std.proofs.lemmas.Bool.{both_ways}
use Rattle.ws_words.specs.Outside.{World}
use Rattle.ws_isa.specs.Image.{Image, Token, is_memory, is_load, is_past, note_of, answer, sends}
use Rattle.ws_isa.specs.Walk.{Inst, Ports}
use Rattle.df_core.specs.Effect.{effect_after}
use Rattle.df_core.specs.Core.{Apart, Chain, State, IsSent, IsNext, Passes, stays, passes, pass, Issuable}
use Rattle.df_core.specs.Core.{issued_with, issue}
use Rattle.df_core.specs.Fit.{FiresAt, IssuedOp, Ordered, IsThere, HasTold, Fit}
use Rattle.df_core.specs.Stands.{Request, left_after, HasEarly, Settles, Stands, EarlyIssued}
use Rattle.df_core.proofs.Walked.Facts.{WalkFacts}
use Rattle.df_core.proofs.Keeping.Ports.{SameKey, with_key_cases, with_key_same, put_all_keeps, put_all_from}
use Rattle.df_core.proofs.Walked.SlotLists.{is_sent_append_left, is_sent_append_right, is_sent_append_cases}
use Rattle.df_core.proofs.Keeping.BufferKept as B
use Rattle.df_core.proofs.Keeping.IssueKept.{issue_fit, issue_grounded, stop_fit, stop_grounded}
use Rattle.df_core.proofs.Parts.StandsMatch.{apart_append, new_place}
use Rattle.df_core.proofs.Keeping.Settling.{EarlyAt, settle, early_any, one_time, pass_early, pass_issued}

module _ (image : Image) (world : World) (facts : WalkFacts image world) (s : State) (partial : Ports)
    (way : List Token) (w i : ℕ) (xs : List ℕ) (rest : List Request) (early : List ℕ)
    (st : Stands image world partial way (record { wave = w; instr = i; operands = xs } ∷ rest) early s) where
  pub waits : s.waiting w i ≡ Some xs
  waits = st.asked_from w i xs (inl (refl, refl, refl))

  pub fresh : s.issued w i ≡ None
  fresh = st.unissued w i xs waits

  module _ (may : Issuable image s.issued s.chain s.stopped w i xs) where
    -- past the end the chain stops
    pub stop_stands : is_past image i xs ≡ true → Stands image world partial way
        (record { wave = w; instr = i; operands = xs } ∷ rest) early (record s { stopped = true })
    stop_stands beyond = record {
      fit = stop_fit image world facts s st.fit w i xs waits may beyond;
      grounded = stop_grounded image world s st.grounded;
      once = st.once;
      held = st.held;
      gone = st.gone;
      way_to = st.way_to;
      way_from = st.way_from;
      way_apart = st.way_apart;
      asked_to = st.asked_to;
      asked_from = st.asked_from;
      asked_once = st.asked_once;
      unissued = st.unissued;
      early_issued = st.early_issued;
      early_all = st.early_all;
    }

    module _ (inside : is_past image i xs ≡ false) (u : ℕ) (x : Inst) (at : FiresAt image world w i u x)
        (xs_are : x.operands ≡ xs) (mi : is_memory image i ≡ true) where
      answer_right : answer image i xs s.memory ≡ x.result
      answer_right = B.answer_right image world facts s.issued s.chain s.stopped s.memory st.fit.legal.settled
          w i xs may u x at xs_are mi st.fit.legal.cut st.fit.legal.ordered

      unfoldable pub listed : List Token
      listed = sends image w i xs (answer image i xs s.memory)

      the_tokens : listed ≡ sends image x.wave x.instr x.operands x.result
      unfolding listed
      the_tokens = rw (answer_right, ← xs_are, ← at.wave, ← at.instr) refl

      not_told : HasTold image s x → ⊥
      not_told told = grind (arith, fresh)

      no_place : (a b q v y : ℕ) → IsSent listed a b q v → IsThere s a b q y → ⊥
      no_place a b q v y h k = new_place image world facts s st.grounded u x at.fires not_told a b q v y
          (grind (arith, the_tokens)) k

      still_issued : (a b n : ℕ) → s.issued a b ≡ Some n → issued_with image s.issued s.memory w i xs a b
          ≡ Some n
      still_issued a b n e = grind (arith, with_key_cases, fresh)

      is_issued : issued_with image s.issued s.memory w i xs w i ≡ Some (answer image i xs s.memory)
      is_issued = with_key_same w i (Some (answer image i xs s.memory)) s.issued

      old_early : EarlyAt image world s.issued st.fit.legal.cut early
      old_early a b n t e z az mb l = st.early_all st.fit.legal.cut a b n t st.fit.legal.ordered.chain e z az
          mb l

      -- what the chain passes, and what stays unpassed
      pub record Ends (d : Chain) (left : List ℕ) : Type 0 where
        pub passed : Passes image (issued_with image s.issued s.memory w i xs) s.chain d
        pub issued_are : EarlyIssued (issued_with image s.issued s.memory w i xs) d left
        pub early_all : HasEarly image world (issued_with image s.issued s.memory w i xs) d left

      issued_from : (a b n : ℕ) → issued_with image s.issued s.memory w i xs a b ≡ Some n
          → (SameKey w i a b × (n ≡ x.result)) ⊎ (s.issued a b ≡ Some n)
      issued_from = B.issued_from image world facts s.issued s.chain s.stopped s.memory st.fit.legal.settled w
          i xs may u x at xs_are mi st.fit.legal.cut st.fit.legal.ordered

      pub next_ends : (d : Chain) (left : List ℕ) → IsNext s.chain (note_of image i)
          → Settles image (pass s.chain (note_of image i)) (left_after (note_of image i) early) d left
          → Ends d left
      next_ends d left nx settles =
          let o' : Ordered image world (suc u) (issued_with image s.issued s.memory w i xs)
          (pass s.chain (note_of image x.instr)) (effect_after image i xs s.memory) =
          B.next_ordered image world facts s.issued s.chain s.stopped s.memory st.fit.legal.settled w i xs may
          u x at xs_are mi st.fit.legal.cut st.fit.legal.ordered inside s.waiting nx in
          let o : Ordered image world (suc u) (issued_with image s.issued s.memory w i xs)
          (pass s.chain (note_of image i)) (effect_after image i xs s.memory) =
          rw at.instr at o' in
          let from : st.fit.legal.cut ≤ u = B.from image world facts s.issued s.chain s.stopped s.memory
          st.fit.legal.settled w i xs may u x at xs_are mi st.fit.legal.cut st.fit.legal.ordered in
          let r = settle image world facts (issued_with image s.issued s.memory w i xs)
          (pass s.chain (note_of image i)) d (effect_after image i xs s.memory) (suc u)
          (left_after (note_of image i) early) left settles o
          (pass_issued image world facts (issued_with image s.issued s.memory w i xs) s.chain i early
          (λ j h. let k = st.early_issued j h in (k.0, still_issued s.chain.wave j k.0 k.1)))
          (pass_early image world facts (issued_with image s.issued s.memory w i xs) s.chain
          (effect_after image i xs s.memory) u i early o (λ a b n t e z az mb l.
          elim (issued_from a b n e) [
            | inl k ↦
                absurd (let az' : FiresAt image world w i t z = record {
                  fires = az.fires;
                  wave = az.wave ∙ sym k.0.wave;
                  instr = az.instr ∙ sym k.0.instr;
                } in
                let q : t ≡ u = one_time image world facts w i t u z x az' at in omega arith)
            | inr k ↦ (
              old_early a b n t k z az mb (omega arith),
              (let op : IssuedOp image world st.fit.legal.cut a b n = st.fit.legal.ordered.others a b n k in
                  let q : op.time ≡ t = one_time image world facts a b op.time t op.inst z op.at az in
                  elim op.place [
                    | inl h ↦ absurd (omega arith)
                    | inr h ↦ sym op.at.wave ∙ h.1.wave ∙ ap (λ (c : Chain). c.wave)
                        (sym st.fit.legal.ordered.chain)
                  ]),
            )
          ])) in
          record {
            passed = passes i (answer image i xs s.memory)
                (subst (λ (n : ℕ). issued_with image s.issued s.memory w i xs n i
                ≡ Some (answer image i xs s.memory)) may.current is_issued) nx r.passed;
            issued_are = r.issued_are;
            early_all = early_any image world facts (issued_with image s.issued s.memory w i xs) d
                (effect_after image i xs s.memory) r.cut left r.ordered r.early;
          }

      pub early_ends : (IsNext s.chain (note_of image i) → ⊥) → is_load image i ≡ true
          → Ends s.chain (i ∷ early)
      early_ends not_next l = record {
        passed = stays (λ j a e nj. elim (issued_from s.chain.wave j a e) [
          | inl k ↦ not_next (subst (λ (n : ℕ). IsNext s.chain (note_of image n)) (sym k.0.instr) nj)
          | inr k ↦ st.fit.legal.settled j a k nj
        ]);
        issued_are = λ j h. elim h [
          | inl e ↦ (
            answer image i xs s.memory,
            subst (λ (n : ℕ). issued_with image s.issued s.memory w i xs s.chain.wave n
                ≡ Some (answer image i xs s.memory)) (sym e)
                (subst (λ (n : ℕ). issued_with image s.issued s.memory w i xs n i
                ≡ Some (answer image i xs s.memory)) may.current is_issued),
          )
          | inr k ↦ (let r = st.early_issued j k in (r.0, still_issued s.chain.wave j r.0 r.1))
        ];
        early_all = early_any image world facts (issued_with image s.issued s.memory w i xs) s.chain
            (effect_after image i xs s.memory) st.fit.legal.cut (i ∷ early)
            (B.early_ordered image world facts s.issued s.chain s.stopped s.memory st.fit.legal.settled w i xs
            may u x at xs_are mi st.fit.legal.cut st.fit.legal.ordered inside s.waiting l)
            (λ a b n t e z az mb h. elim (issued_from a b n e) [
              | inl k ↦ inl (sym k.0.instr)
              | inr k ↦
                  inr (old_early a b n t k z az mb h)
            ]);
      }

      module _ (d : Chain) (left : List ℕ) (ends : Ends d left) where
        new_fit : Fit image world (issue image s w i xs d)
        new_fit = issue_fit image world facts s st.fit w i xs waits may d ends.passed inside

        pub issue_stands : Stands image world partial (way ++ listed) rest left (issue image s w i xs d)
        unfolding issue listed
        issue_stands = record {
          fit = new_fit;
          grounded = grind (arith, issue_grounded, waits, ends.passed);
          once = st.once;
          held = st.held;
          gone = st.gone;
          way_to = λ a b q v e. elim (put_all_from s.held listed s.way a b q v e) [
            | inl h ↦ is_sent_append_left way listed a b q v (st.way_to a b q v h)
            | inr h ↦ is_sent_append_right way listed a b q v h
          ];
          way_from = λ a b q v h. elim (is_sent_append_cases way listed a b q v h) [
            | inl g ↦ put_all_keeps s.held listed s.way a b q v (st.way_from a b q v g)
            | inr g ↦ elim (new_fit.sent_there u x at.fires (record {
              fired = λ m. absurd (both_ways (is_memory image i) (ap (is_memory image) (sym at.instr) ∙ m)
                  mi);
              issued = λ m. (
                answer image i xs s.memory,
                subst (λ (n : ℕ). issued_with image s.issued s.memory w i xs x.wave n
                    ≡ Some (answer image i xs s.memory)) (sym at.instr)
                    (rw at.wave is_issued),
              );
            }) a b q v (rw the_tokens at g)) [
              | inl k ↦ absurd (no_place a b q v v g (inl k))
              | inr k ↦ k
            ]
          ];
          way_apart = apart_append way listed st.way_apart
              (subst Apart (sym the_tokens) (facts.sends_apart u x at.fires))
              (λ a b q y z h k. no_place a b q z y k (inr (st.way_from a b q y h)));
          asked_to = grind (arith, with_key_cases, s.waiting, st.asked_to);
          asked_from = grind (arith, with_key_cases, s.waiting, st.asked_from);
          asked_once = st.asked_once.1;
          unissued = grind (arith, with_key_cases, s.waiting, s.issued, st.unissued);
          early_issued = ends.issued_are;
          early_all = ends.early_all;
        }
