-- A match keeps what a core's parts stand for.
use Rattle.std.proofs.Common.{ℕ, zero, suc, ◌≡◌, ◌<◌, ◌⊎◌, true, false, List, [], ◌∷◌, ◌++◌, length, Option}
use Rattle.std.proofs.Common.{Some, None, refl, sym, ap, ◌∙◌, subst, inl, inr, arith, eq-eqb, ne_eqb}
use Rattle.std.proofs.lemmas.Bool.{cases_eq, both_ways, cond-true, cond-false}
use Rattle.ws_words.specs.Outside.{World}
use Rattle.ws_isa.specs.Image.{Image, Token, ports, is_memory, result_of, sends}
use Rattle.ws_isa.specs.Walk.{Inst, Ports, fires, gather}
use Rattle.df_core.specs.Core.{Apart, State, HasFired, IsSent, with_at, is_full, operands_in}
use Rattle.df_core.specs.Core.{arrived, asks, tells, matched}
use Rattle.df_core.specs.Fit.{RightToken, IsThere, HasTold, Fit, Grounded}
use Rattle.df_core.specs.Stands.{Request, cleared, Stands}
use Rattle.df_core.proofs.Walked.Facts.{WalkFacts}
use Rattle.df_core.proofs.Keeping.Ports.{SameKey, with_at_cases, with_key_cases, with_key_same, put_all_keeps}
use Rattle.df_core.proofs.Keeping.Ports.{put_all_from, full_all}
use Rattle.df_core.proofs.Walked.SlotLists.{is_sent_append_left, is_sent_append_right, is_sent_append_cases}
use Rattle.df_core.proofs.Keeping.MatchKept.{right_operands, match_fit, match_grounded}
use Rattle.ws_words.proofs.Places.{nth_short}

pub apart_append : (ts us : List Token) → Apart ts → Apart us
    → ((w i p a b : ℕ) → IsSent ts w i p a → IsSent us w i p b → ⊥) → Apart (ts ++ us)
apart_append [] us a b f = b
apart_append (t ∷ ts) us a b f = (
  (λ v h. elim (is_sent_append_cases ts us t.wave t.instr t.port v h) [
    | inl g ↦ a.0 v g
    | inr g ↦ f t.wave t.instr t.port t.value v (inl (refl, refl, refl, refl)) g
  ]),
  apart_append ts us a.1 b (λ w i p x y g h. f w i p x y (inr g) h),
)

pub full_agree : (f g : Ports) (w i n : ℕ) → ((p : ℕ) → f w i p ≡ g w i p) → is_full f w i n ≡ is_full g w i n
full_agree f g w i zero e = refl
full_agree f g w i (suc n) e = rw (e n, full_agree f g w i n e) refl

pub gather_agree : (f g : Ports) (w i p n : ℕ) → ((q : ℕ) → f w i q ≡ g w i q)
    → gather f w i p n ≡ gather g w i p n
gather_agree f g w i p zero e = refl
gather_agree f g w i p (suc n) e = rw (e p, gather_agree f g w i (suc p) n e) refl

pub cleared_cases : (w i : ℕ) (f : Ports) (a b q : ℕ) → (SameKey w i a b × (cleared w i f a b q ≡ None))
    ⊎ ((SameKey w i a b → ⊥) × (cleared w i f a b q ≡ f a b q))
cleared_cases w i f a b q = grind (arith, cases_eq, eq-eqb, ne_eqb)

module _ (image : Image) (world : World) (facts : WalkFacts image world) where
  -- an instance with a token on the way hasn't fired
  pub way_unfired : (s : State) → Fit image world s → (w i p v : ℕ) → s.way w i p ≡ Some v
      → HasFired s.fired w i → ⊥
  way_unfired s fit w i p v e h = clash (sym e ∙ fit.one w i p g.0 g.1)
    where
      clash : Some v ≡ None → ⊥
      clash c = cc

      r : RightToken image world w i p v
      r = fit.way_right w i p v e

      l : p < length r.inst.operands
      l = nth_short r.inst.operands p v r.operand

      n : length r.inst.operands ≡ ports image i
      n = facts.filled r.time r.inst r.at.fires ∙ ap (ports image) r.at.instr

      g : (u : ℕ) × (s.held w i p ≡ Some u)
      g = (fit.fired_full w i h).1 p (omega (arith, l, n))

  -- what an instance sends stands nowhere before it has told
  pub new_place : (s : State) → Grounded image world s → (t : ℕ) (x : Inst) → fires image world t ≡ Some x
      → (HasTold image s x → ⊥) → (w i p a b : ℕ) → IsSent (sends image x.wave x.instr x.operands x.result) w
      i p a → IsThere s w i p b → ⊥
  new_place s g t x fx n w i p a b h k = elim (g.tokens w i p b k) [
    | inl l ↦ facts.no_maker t x fx w i p b a l h
    | inr l ↦ grind (arith, facts.one_maker, l.fires, l.sent)
  ]

  module _ (s : State) (partial : Ports) (rest : List Token) (asked : List Request) (early : List ℕ)
      (w i p v : ℕ)
      (st : Stands image world partial (record { wave = w; instr = i; port = p; value = v } ∷ rest) asked
      early s) where
    pub on_way : s.way w i p ≡ Some v
    on_way = st.way_from w i p v (inl (refl, refl, refl, refl))

    unfired : HasFired s.fired w i → ⊥
    unfired = way_unfired s st.fit w i p v on_way

    new_fit : Fit image world (matched image s w i p v)
    new_fit = match_fit image world facts s st.fit w i p v on_way

    new_grounded : Grounded image world (matched image s w i p v)
    new_grounded = match_grounded image world facts s st.fit w i p v on_way st.grounded

    held_is : (a b q : ℕ) → (HasFired s.fired a b → ⊥) → (arrived s w i p v).held a b q ≡ with_at w i p
        (Some v) partial a b q
    held_is a b q n = grind (arith, with_at_cases)

    full_is : is_full (arrived s w i p v).held w i (ports image i) ≡ is_full (with_at w i p (Some v) partial)
        w i (ports image i)
    full_is = grind (arith, full_agree, held_is, unfired)

    operands_are : operands_in image (arrived s w i p v).held w i ≡ gather (with_at w i p (Some v) partial) w
        i 0 (ports image i)
    operands_are = grind (arith, gather_agree, held_is, unfired)

    way_to' : (a b q u : ℕ) → (arrived s w i p v).way a b q ≡ Some u → IsSent rest a b q u
    way_to' a b q u e = grind (arith, with_at_cases)

    way_from' : (a b q u : ℕ) → IsSent rest a b q u → (arrived s w i p v).way a b q ≡ Some u
    way_from' a b q u h = grind (arith, with_at_cases)

    -- the instance isn't full
    module _ (less : is_full (with_at w i p (Some v) partial) w i (ports image i) ≡ false) where
      pub waits_is : matched image s w i p v ≡ arrived s w i p v
      unfolding matched
      waits_is = cond-false (is_full (arrived s w i p v).held w i (ports image i)) _ _ (full_is ∙ less)

      pub waits_stands : Stands image world (with_at w i p (Some v) partial) rest asked early
          (arrived s w i p v)
      waits_stands =
          grind (arith, waits_is, new_fit, new_grounded, held_is, with_at_cases, unfired, way_to', way_from')

    -- the instance is full
    module _ (full : is_full (with_at w i p (Some v) partial) w i (ports image i) ≡ true) where
      held_cleared : (a b q : ℕ) → (((w ≡ a) × (i ≡ b)) ⊎ HasFired s.fired a b → ⊥)
          → (arrived s w i p v).held a b q ≡ cleared w i partial a b q
      held_cleared a b q n = grind (arith, held_is, with_at_cases, cleared_cases)

      gone_cleared : (a b q : ℕ) → ((w ≡ a) × (i ≡ b)) ⊎ HasFired s.fired a b
          → cleared w i partial a b q ≡ None
      gone_cleared a b q h = grind (arith, cleared_cases)

      module _ (memory : is_memory image i ≡ true) where
        pub asks_is : matched image s w i p v ≡ asks image w i (arrived s w i p v)
        unfolding matched
        asks_is = grind (arith, cond-true, full_is)

        not_asked : (xs : List ℕ) → s.waiting w i ≡ Some xs → ⊥
        not_asked xs e = unfired (st.grounded.requests w i xs e)

        not_issued : (o : Option ℕ) → s.issued w i ≡ o → s.issued w i ≡ None
        not_issued o e = grind (arith, unfired, st.grounded.issued)

        pub asks_stands : Stands image world (cleared w i partial) rest
            (record {
              wave = w;
              instr = i;
              operands = gather (with_at w i p (Some v) partial) w i 0
                  (ports image i);
            } ∷ asked) early (asks image w i (arrived s w i p v))
        asks_stands = grind (
          arith,
          asks_is,
          new_fit,
          new_grounded,
          unfired,
          held_cleared,
          gone_cleared,
          way_to',
          way_from',
          with_key_cases,
          operands_are,
          with_key_same,
          not_asked,
          not_issued,
        )

      module _ (plain : is_memory image i ≡ false) where
        pub tells_is : matched image s w i p v ≡ tells image w i (arrived s w i p v)
        unfolding matched
        tells_is = grind (arith, cond-true, full_is, cond-false)

        token : RightToken image world w i p v
        token = st.fit.way_right w i p v on_way

        filled : (q : ℕ) → q < ports image i → (u : ℕ) × ((arrived s w i p v).held w i q ≡ Some u)
        filled = full_all (arrived s w i p v).held w i (ports image i) (full_is ∙ full)

        right_held : (q u : ℕ) → (arrived s w i p v).held w i q ≡ Some u → RightToken image world w i q u
        right_held q u e = grind (arith, with_at_cases, s.held, token, st.fit.held_right)

        their_operands : operands_in image (arrived s w i p v).held w i ≡ token.inst.operands
        their_operands = right_operands image world facts (arrived s w i p v).held w i token.time token.inst
            token.at right_held filled

        the_tokens : sends image w i (operands_in image (arrived s w i p v).held w i)
            (result_of image i (operands_in image (arrived s w i p v).held w i)) ≡ sends image token.inst.wave
            token.inst.instr token.inst.operands token.inst.result
        the_tokens = grind (arith, token, their_operands)

        unfoldable pub listed : List Token
        listed = sends image w i (gather (with_at w i p (Some v) partial) w i 0 (ports image i))
            (result_of image i (gather (with_at w i p (Some v) partial) w i 0 (ports image i)))

        listed_is : listed ≡ sends image w i (operands_in image (arrived s w i p v).held w i)
            (result_of image i (operands_in image (arrived s w i p v).held w i))
        unfolding listed
        listed_is = ap (λ (xs : List ℕ). sends image w i xs (result_of image i xs)) (sym operands_are)

        not_told : HasTold image s token.inst → ⊥
        not_told told = grind (arith, unfired, token)

        no_place : (a b q u y : ℕ) → IsSent listed a b q u → IsThere s a b q y → ⊥
        no_place a b q u y h k = new_place s st.grounded token.time token.inst token.at.fires not_told a b q u
            y (grind (arith, listed_is, the_tokens)) k

        tells_way : (a b q u : ℕ) → (tells image w i (arrived s w i p v)).way a b q ≡ Some u
            → IsSent (rest ++ listed) a b q u
        tells_way a b q u e =
            grind (arith, put_all_from, is_sent_append_left, way_to', is_sent_append_right, listed_is)

        tells_fit : Fit image world (tells image w i (arrived s w i p v))
        tells_fit = subst (Fit image world) tells_is new_fit

        sent_way : (a b q u : ℕ) → IsSent listed a b q u → IsThere (tells image w i (arrived s w i p v)) a b q
            u → (tells image w i (arrived s w i p v)).way a b q ≡ Some u
        sent_way a b q u h (inr e) = e
        sent_way a b q u h (inl e) = elim (with_at_cases w i p (Some v) s.held a b q) [
          | inl k ↦
              absurd (no_place a b q u v h
              (inr (subst (λ (n : ℕ). s.way a b n ≡ Some v) k.0.port
              (subst (λ (n : ℕ). s.way a n p ≡ Some v) k.0.instr
              (subst (λ (n : ℕ). s.way n i p ≡ Some v) k.0.wave on_way)))))
          | inr k ↦ absurd (no_place a b q u u h (inl (sym k.1 ∙ e)))
        ]

        tells_back : (a b q u : ℕ) → IsSent (rest ++ listed) a b q u
            → (tells image w i (arrived s w i p v)).way a b q ≡ Some u
        tells_back a b q u h = elim (is_sent_append_cases rest listed a b q u h) [
          | inl g ↦ put_all_keeps (arrived s w i p v).held
              (sends image w i (operands_in image (arrived s w i p v).held w i)
              (result_of image i (operands_in image (arrived s w i p v).held w i))) (arrived s w i p v).way a
              b q u (way_from' a b q u g)
          | inr g ↦ sent_way a b q u g (tells_fit.sent_there token.time token.inst token.at.fires (record {
            fired = λ m. inl (sym token.at.wave, sym token.at.instr);
            issued = λ m.
                absurd (both_ways (is_memory image i) plain (ap (is_memory image) (sym token.at.instr) ∙ m));
          }) a b q u (rw (listed_is ∙ the_tokens) at g))
        ]

        pub tells_stands : Stands image world (cleared w i partial) (rest ++ listed) asked early
            (tells image w i (arrived s w i p v))
        tells_stands = record {
          fit = tells_fit;
          grounded = subst (Grounded image world) tells_is new_grounded;
          once = (unfired, st.once);
          held = held_cleared;
          gone = gone_cleared;
          way_to = tells_way;
          way_from = tells_back;
          way_apart = apart_append rest listed st.way_apart.1
              (subst Apart (sym (listed_is ∙ the_tokens))
              (facts.sends_apart token.time token.inst token.at.fires))
              (λ a b q x y h k. no_place a b q y x k (inr (st.way_from a b q x (inr h))));
          asked_to = st.asked_to;
          asked_from = st.asked_from;
          asked_once = st.asked_once;
          unissued = st.unissued;
          early_issued = st.early_issued;
          early_all = st.early_all;
        }
