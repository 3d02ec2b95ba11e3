-- Events lead from a state to one state.
use Rattle.std.proofs.Common.{◌≡◌, ℕ, List, [], ◌∷◌, ◌++◌, refl, sym, ap, ◌∙◌, subst}
use Rattle.ws_words.specs.Outside.{World}
use Rattle.ws_isa.specs.Image.{Image}
use Rattle.df_core.specs.Core.{State, Event, Same, Run, Step, Enabled}
use Rattle.df_core.specs.Fit.{Fit}
use Rattle.trace_check.specs.declared.events.Lined.{Lined}
use Rattle.trace_check.specs.Replays.{StopsAt, events_of, event_in}
use Rattle.df_core.proofs.Keeping.States.{same_is as one_state}
use Rattle.df_core.proofs.Parts.Quietly.{step_enabled}

events_on : (xs ys : List Lined) → events_of (xs ++ ys) ≡ events_of xs ++ events_of ys
events_on [] ys = refl
events_on (x ∷ xs) ys = ap (λ (es : List Event). event_in x ∷ es) (events_on xs ys)

-- each step from a fit state is one, and leads to a fit state
module _ (image : Image) (world : World)
    (alone : (state : State) → Fit image world state → (event : Event) (one other : State)
    → Step image state event one → Step image state event other → Same one other)
    (kept : (event : Event) (old new : State) → Fit image world old → Step image old event new
    → Fit image world new) where
  pub one_run : (es : List Event) (s t u : State) → Fit image world s → Run image s es t → Run image s es u
      → t ≡ u
  one_run [] s t u fit r q = one_state t s r ∙ sym (one_state u s q)
  one_run (e ∷ es) s t u fit r q =
      let same : r.0 ≡ q.0 = one_state r.0 q.0 (alone s fit e r.0 q.0 r.1 q.1) in
      one_run es r.0 t u (kept e s r.0 fit r.1) r.2 (subst (λ (m : State). Run image m es u) (sym same) q.2)

  leads : (es more : List Event) (e : Event) (s t u : State) → Fit image world s
      → Run image s (es ++ e ∷ more) t → Run image s es u → Enabled image u e
  leads [] more e s t u fit r q = subst (λ (m : State). Enabled image m e) (sym (one_state u s q))
      (step_enabled image s r.0 e r.1)
  leads (x ∷ es) more e s t u fit r q =
      let same : r.0 ≡ q.0 = one_state r.0 q.0 (alone s fit x r.0 q.0 r.1 q.1) in
      leads es more e r.0 t u (kept x s r.0 fit r.1) r.2 (subst (λ (m : State). Run image m es u) (sym same)
      q.2)

  pub no_stop : (s t : State) (trace : List Lined) (line : ℕ) → Fit image world s
      → Run image s (events_of trace) t → StopsAt image s trace line → ⊥
  no_stop s t trace line fit r st =
      let whole : events_of trace ≡ events_of st.before ++ event_in st.event ∷ events_of st.behind =
      ap events_of st.whole ∙ events_on st.before (st.event ∷ st.behind) in
      st.refused (leads (events_of st.before) (events_of st.behind) (event_in st.event) s t st.state fit
      (subst (λ (es : List Event). Run image s es t) whole r) st.run)
