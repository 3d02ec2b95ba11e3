-- Two walks beside one another: at the same block, with states that agree on what is live, and frames that do
-- so where they go on.
use Rattle.std.proofs.Common.{ℕ, ◌≡◌, ◌<◌, Bool, if◌then◌else◌, List, [], ◌∷◌, length, Option}
use Rattle.std.proofs.Common.{Some, None, refl, subst, arith}
use Rattle.std.proofs.lemmas.Bool.{cases_eq}
use Rattle.std.proofs.lemmas.List.{get_or-set_same, get_or-set_other, length-set}
use Rattle.ws_words.specs.Outside.{Outside, ProcState}
use Rattle.cfg_core.specs.Graph.{Graph, spots}
use Rattle.cfg_core.specs.Graph.{spot_at}
use Rattle.cfg_core.specs.Rules.{StaysIn, TargetIn, IsGraph}
use Rattle.cfg_core.specs.Walk.{Frame, Config, At, Over, Going, with_result, returned}
use Rattle.live_vars.specs.Live.{Live}
use Rattle.phi_conv.specs.Joined.{more_vars}
use Rattle.phi_conv.proofs.Agreeing.{States}
use Rattle.cfg_core.proofs.Homes.{vars_at, same_vars}
use Rattle.live_vars.proofs.Needed.{Agree}

-- the variable that takes a result
abbrev pub ResultIs : Option ℕ → ℕ → Type 0
ResultIs None x = ⊥
ResultIs (Some y) x = x ≡ y

module _ (g : Graph) (rules : IsGraph g) where
  -- a call that waits in both walks
  pub record Waits (f e : Frame) : Type 0 where
    pub back : f.back ≡ e.back
    pub result : f.result ≡ e.result
    pub there : f.back < length (spots g)
    pub inside : TargetIn (vars_at g rules f.back) f.result
    pub vars : Agree (vars_at g rules f.back) (λ x. (ResultIs f.result x → ⊥) × Live g f.back x) f.vars e.vars
    pub long : length f.vars ≡ vars_at g rules f.back
    pub longer : length e.vars ≡ more_vars (vars_at g rules f.back)

  -- the calls that wait in both walks
  abbrev pub Stack : List Frame → List Frame → Type 0
  Stack [] [] = Unit {0}
  Stack (f ∷ fs) (e ∷ es) = Waits f e × Stack fs es
  Stack _ _ = ⊥

  -- the same block, frames and turns left, and states that agree on what is live; or the same answer
  abbrev pub Along : Config → Config → Type 0
  Along (At b s fs k) (At c r es j) = (b ≡ c) × (k ≡ j) × (b < length (spots g))
      × States (vars_at g rules b) (Live g b) s r × Stack fs es
  Along (Over o k) (Over p j) = (k ≡ j) × (o ≡ p)
  Along (Going o) (Going p) = o ≡ p
  Along _ _ = ⊥

  -- on to a block of the same procedure
  pub goes_to : (b c : ℕ) → b < length (spots g) → StaysIn g (spot_at g b).home c
      → (s r : ProcState) (fs es : List Frame) (k : ℕ) → States (vars_at g rules b) (Live g c) s r
      → Stack fs es → Along (At c s fs k) (At c r es k)
  goes_to b c lb stays s r fs es k st stack = grind (arith, same_vars)

  -- the same test leads to configurations that go along
  pub if_along : (x y : Bool) (c c' d d' : Config) → x ≡ y → Along c c' → Along d d'
      → Along (if x then c else d) (if y then c' else d')
  if_along x y c c' d d' e h i = grind arith

  -- the variable that takes the result has it, and the others what they had
  result_states : (v : ℕ) (P : ℕ → Type 0) (x : Option ℕ) (w u : ℕ) (vs ws : List ℕ) (o p : Outside) → w ≡ u
      → TargetIn v x → Agree v (λ y. (ResultIs x y → ⊥) × P y) vs ws → length vs ≡ v → length ws ≡ more_vars v
      → o ≡ p → States v P (record { vars = with_result x w vs; out = o })
      (record { vars = with_result x u ws; out = p })
  result_states v P x w u vs ws o p e i h lv lw eo = grind (
    arith,
    cases_eq,
    get_or-set_same,
    get_or-set_other,
    length-set,
  )

  -- a return into the frames leads to configurations that go along
  pub returns : (w u : ℕ) (o p : Outside) (fs es : List Frame) (k : ℕ) → w ≡ u → o ≡ p → Stack fs es
      → Along (returned w o fs k) (returned u p es k)
  returns w u o p [] [] k e eo stack = (refl, eo)
  returns w u o p (f ∷ fs) (q ∷ es) k e eo stack =
      let m = stack.0 in (
        m.back,
        refl,
        m.there,
        subst (λ (x : Option ℕ). States (vars_at g rules f.back) (Live g f.back)
            (record { vars = with_result f.result w f.vars; out = o })
            (record { vars = with_result x u q.vars; out = p })) m.result
            (result_states (vars_at g rules f.back) (Live g f.back) f.result w u f.vars q.vars o p e m.inside
            m.vars m.long m.longer eo),
        stack.1,
      )
  returns w u o p [] (q ∷ es) k e eo stack = absurd stack
  returns w u o p (f ∷ fs) [] k e eo stack = absurd stack
