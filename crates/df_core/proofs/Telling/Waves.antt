-- A wave number is at most the number of instances that have fired.
use Rattle.std.proofs.Common.{ℕ, zero, suc, ◌≡◌, ◌<◌, ◌≤◌, ◌⊎◌, Bool, cond, List, ◌∷◌, length, Some, refl}
use Rattle.std.proofs.Common.{sym, ap, inl, inr, arith}
use Rattle.std.proofs.lemmas.Bool.{cases_eq}
use Rattle.ws_words.specs.Outside.{World}
use Rattle.ws_isa.specs.Image.{Image, sends, start_dests}
use Rattle.ws_isa.specs.Walk.{Inst, fires, start_tokens}
use Rattle.df_core.specs.Core.{Key, State, HasFired, IsSent, Once}
use Rattle.df_core.specs.Fit.{RightToken, Fit, Grounded}
use Rattle.df_core.proofs.Walked.Facts.{WalkFacts, Maker}
use Rattle.df_core.proofs.Telling.Counting.{once_length, has_same}
use Rattle.df_core.proofs.Keeping.MatchKept.{same_inst}
use Rattle.df_core.proofs.Keeping.Passing.{same_fired}
use Rattle.df_core.proofs.Walked.SlotLists.{sent_from, is_sent_append_cases}

start_wave : (image : Image) (w i p v : ℕ) → IsSent (start_tokens image) w i p v → w ≡ 0
unfolding start_tokens
start_wave image w i p v h = sym (sent_from 0 0 (start_dests image) w i p v h).1

either_wave : (b : Bool) (w a : ℕ) → cond b (suc w) w ≡ a → (a ≡ w) ⊎ (a ≡ suc w)
either_wave b w a e = grind arith

sends_wave : (image : Image) (w k : ℕ) (xs : List ℕ) (r a i p v : ℕ) → IsSent (sends image w k xs r) a i p v
    → (a ≡ w) ⊎ (a ≡ suc w)
unfolding sends
sends_wave image w k xs r a i p v h = grind (arith, is_sent_append_cases, either_wave, sent_from)

-- one instance of each of the waves below a number
record OfWaves (fired : List Key) (n : ℕ) : Type 0 where
  keys : List Key
  count : length keys ≡ n
  once : Once keys
  lower : (w i : ℕ) → HasFired keys w i → w < n
  among : (w i : ℕ) → HasFired keys w i → HasFired fired w i

of_waves : (fired : List Key) (n : ℕ) → ((w : ℕ) → w < n → (i : ℕ) × HasFired fired w i) → OfWaves fired n
of_waves fired zero f = grind arith
of_waves fired (suc n) f =
    let here = f n (omega arith) in
    let r : OfWaves fired n = of_waves fired n (λ w l. f w (omega arith)) in
    record {
      keys = record { wave = n; instr = here.0 } ∷ r.keys;
      count = ap suc r.count;
      once = ((λ h. let l : n < n = r.lower n here.0 h in omega arith), r.once);
      lower = λ w i h. elim h [
        | inl e ↦ (let g : n ≡ w = e.0 in omega arith)
        | inr g ↦
            (let l : w < n = r.lower w i g in omega arith)
      ];
      among = λ w i h. elim h [ inl e ↦ has_same fired n here.0 w i e.0 e.1 here.1 | inr g ↦ r.among w i g ];
    }

waves_few : (fired : List Key) (n : ℕ) → ((w : ℕ) → w < n → (i : ℕ) × HasFired fired w i) → n ≤ length fired
waves_few fired n f = let r : OfWaves fired n = of_waves fired n f in grind (arith, once_length, r.once)

module _ (image : Image) (world : World) (facts : WalkFacts image world) (s : State) (fit : Fit image world s)
    (grounded : Grounded image world s) where
  -- an instance has fired that made this operand of a fired instance
  maker_fired : (x : Inst) (v : ℕ) → s.held x.wave x.instr 0 ≡ Some v
      → (t : ℕ) (m : Maker image world t x.wave x.instr 0 v) → HasFired s.fired m.inst.wave m.inst.instr
  maker_fired x v held t m = elim (grounded.tokens x.wave x.instr 0 v (inl held)) [
    | inl st ↦ grind (arith, facts.no_maker, m.fires, x.instr)
    | inr f ↦ grind (arith, facts.one_maker, f.fires, m.fires, x.instr, f.sent, s.fired, same_fired)
  ]

  lower_fired : (n t : ℕ) (x : Inst) → t < n → fires image world t ≡ Some x → HasFired s.fired x.wave x.instr
      → (w : ℕ) → w < x.wave → (i : ℕ) × HasFired s.fired w i
  lower_fired zero t x l fx h w k = absurd (omega arith)
  lower_fired (suc n) t x l fx h w k =
      let full = fit.fired_full x.wave x.instr h in
      let hv = full.1 0 full.0 in
      let r : RightToken image world x.wave x.instr 0 hv.0 = fit.held_right x.wave x.instr 0 hv.0 hv.1 in
      let same : r.inst ≡ x = same_inst image world facts x.wave x.instr r.time t r.inst x r.at
      (record { fires = fx; wave = refl; instr = refl }) in
      elim (facts.made t x fx 0 hv.0 (rw same at r.operand)) [
        | inl st ↦ absurd (let e : x.wave ≡ 0 = start_wave image x.wave x.instr 0 hv.0 st in omega arith)
        | inr m ↦ (let f : HasFired s.fired m.inst.wave m.inst.instr = maker_fired x hv.0 hv.1 t m in
            let e : m.time < t = m.earlier in
            elim (cases_eq w m.inst.wave) [
              | inl g ↦
                  (m.inst.instr, has_same s.fired m.inst.wave m.inst.instr w m.inst.instr (sym g) refl f)
              | inr g ↦ lower_fired n m.time m.inst (omega arith) m.fires f w
                  (elim (sends_wave image m.inst.wave m.inst.instr m.inst.operands m.inst.result x.wave
                  x.instr 0 hv.0 m.sent) [
                    | inl q ↦ omega arith
                    | inr q ↦ omega arith
                  ])
            ])
      ]

  lower_key : (a b : ℕ) → HasFired s.fired a b → (w : ℕ) → w < a → (i : ℕ) × HasFired s.fired w i
  lower_key a b h w l =
      let full = fit.fired_full a b h in
      let hv = full.1 0 full.0 in
      let r : RightToken image world a b 0 hv.0 = fit.held_right a b 0 hv.0 hv.1 in
      let wa : r.inst.wave ≡ a = r.at.wave in
      lower_fired (suc r.time) r.time r.inst (omega arith) r.at.fires
      (has_same s.fired a b r.inst.wave r.inst.instr (sym r.at.wave) (sym r.at.instr) h) w (omega arith)

  pub fired_wave : (w i : ℕ) → HasFired s.fired w i → w < length s.fired
  fired_wave w i h =
      let l : suc w ≤ length s.fired = waves_few s.fired (suc w) (λ a k. elim (cases_eq a w) [
        | inl e ↦ (i, has_same s.fired w i a i (sym e) refl h)
        | inr n ↦ lower_key w i h a (omega arith)
      ]) in
      omega arith

  pub way_wave : (w i p v : ℕ) → s.way w i p ≡ Some v → w ≤ length s.fired
  way_wave w i p v e = elim (grounded.tokens w i p v (inr e)) [
    | inl st ↦ grind (arith, start_wave)
    | inr f ↦ waves_few s.fired w (λ a k. elim (cases_eq a f.inst.wave) [
      | inl g ↦ (f.inst.instr, has_same s.fired f.inst.wave f.inst.instr a f.inst.instr (sym g) refl f.fired)
      | inr n ↦ lower_key f.inst.wave f.inst.instr f.fired a
          (elim (sends_wave image f.inst.wave f.inst.instr f.inst.operands f.inst.result w i p v f.sent)
          [ inl q ↦ omega arith | inr q ↦ omega arith ])
    ])
  ]
