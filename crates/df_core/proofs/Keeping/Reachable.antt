-- Every state that events reach is fit and grounded.
use Rattle.std.proofs.Common.{ℕ, ◌≡◌, ◌⊎◌, true, Some, None, refl, ap, ◌∙◌, inl, inr, arith}
use Rattle.std.proofs.lemmas.Bool.{cases_Bool}
use Rattle.ws_words.specs.Outside.{World}
use Rattle.ws_isa.specs.Image.{Image}
use Rattle.ws_isa.specs.Walk.{no_ports, start_tokens}
use Rattle.df_core.specs.Core.{State, IsSent, Event, Match, Issue, Step, put_all, matched, issue}
use Rattle.df_core.specs.Core.{core_opening}
use Rattle.df_core.specs.Fit.{chain_at, Fit, Grounded}
use Rattle.df_core.proofs.Walked.Facts.{WalkFacts}
use Rattle.df_core.proofs.Walked.Effects.{effect_start}
use Rattle.df_core.proofs.Keeping.Ports.{put_all_from, put_all_lands}
use Rattle.df_core.proofs.Keeping.MatchKept.{same_value, match_fit, match_grounded}
use Rattle.df_core.proofs.Keeping.IssueKept.{issue_fit, issue_grounded, stop_fit, stop_grounded}
use Rattle.df_core.proofs.Keeping.Same.{fit_same, grounded_same}

chain_start : (image : Image) (world : World) → record { wave = 1; last = None } ≡ chain_at image world 0
unfolding chain_at
chain_start image world = refl

module _ (image : Image) (world : World) (facts : WalkFacts image world) where
  pub start_sent : (w i p v : ℕ) → put_all no_ports (start_tokens image) no_ports w i p ≡ Some v
      → IsSent (start_tokens image) w i p v
  start_sent w i p v e = grind (arith, put_all_from)

  pub start_there' : (w i p v : ℕ) → IsSent (start_tokens image) w i p v
      → (None ≡ Some v) ⊎ (put_all no_ports (start_tokens image) no_ports w i p ≡ Some v)
  start_there' w i p v h =
      let r = put_all_lands no_ports (start_tokens image) no_ports w i p v h in
      elim r.1 [
        | inl k ↦ cc
        | inr k ↦
            inr (k ∙ ap (λ (n : ℕ). Some n) (same_value image world facts w i p r.0 v
            (facts.start w i p r.0 (start_sent w i p r.0 k)) (facts.start w i p v h)))
      ]

  pub opening_fit : Fit image world (core_opening image world)
  unfolding core_opening
  opening_fit = record {
    held_right = λ w i p v e. cc;
    way_right = λ w i p v e. facts.start w i p v (start_sent w i p v e);
    request_right = λ w i xs e. cc;
    one = λ w i p v e. cc;
    fired_full = λ w i h. absurd h;
    full_fired = λ w i pos f. (let r = f 0 pos in cc);
    start_there = start_there';
    sent_there = grind (arith, cases_Bool);
    asked = λ t x fx m h. absurd h;
    legal = grind (arith, chain_start, effect_start);
  }

  pub opening_grounded : Grounded image world (core_opening image world)
  unfolding core_opening
  opening_grounded = grind (arith, start_sent)

  pub step_kept : (s new : State) (e : Event) → Fit image world s → Step image s e new → Fit image world new
  step_kept s new (Match w i p) fit st = fit_same image world new (matched image s w i p st.value) st.becomes
      (match_fit image world facts s fit w i p st.value st.on_way)
  step_kept s new (Issue w i) fit (inl st) = fit_same image world new (record s { stopped = true }) st.becomes
      (stop_fit image world facts s fit w i st.operands st.ready.waits st.ready.issuable st.past)
  step_kept s new (Issue w i) fit (inr st) = fit_same image world new (issue image s w i st.operands st.chain)
      st.becomes (issue_fit image world facts s fit w i st.operands st.ready.waits st.ready.issuable st.chain
      st.passed st.within)

  pub step_grounded : (s new : State) (e : Event) → Fit image world s → Grounded image world s
      → Step image s e new → Grounded image world new
  step_grounded s new (Match w i p) fit g st = grounded_same image world new (matched image s w i p st.value)
      st.becomes (match_grounded image world facts s fit w i p st.value st.on_way g)
  step_grounded s new (Issue w i) fit g (inl st) = grounded_same image world new (record s { stopped = true })
      st.becomes (stop_grounded image world s g)
  step_grounded s new (Issue w i) fit g (inr st) = grounded_same image world new
      (issue image s w i st.operands st.chain) st.becomes
      (issue_grounded image world facts s fit w i st.operands st.ready.waits st.ready.issuable st.chain
      st.passed g)
