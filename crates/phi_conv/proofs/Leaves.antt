-- An exit that both graphs have leads both walks to configurations that go together.
use Rattle.std.proofs.Common.{ℕ, ◌≡◌, ◌<◌, ◌≤◌, ◌==◌, List, ◌∷◌, length, get_or, set, refl, ap}
use Rattle.std.proofs.Common.{inl, inr, arith}
use Rattle.std.specs.List.{AllByRecursion}
use Rattle.std.proofs.lemmas.Bool.{cases_eq}
use Rattle.std.proofs.lemmas.List.{get_or-set_same, get_or-set_other, length-set}
use Rattle.ws_words.specs.Outside.{ProcState}
use Rattle.cfg_core.specs.Graph.{Term, Goto, Branch, Return, Stop, Graph, spots, spot_at}
use Rattle.cfg_core.specs.Rules.{ExitIn, StaysIn, IsGraph}
use Rattle.cfg_core.specs.Walk.{Frame, leave, landed}
use Rattle.live_vars.specs.Live.{Live}
use Rattle.phi_conv.proofs.Agreeing.{States, term_value, term_states, weaker}
use Rattle.phi_conv.proofs.Standing.{Stack, Along, goes_to, if_along, returns}
use Rattle.cfg_core.proofs.Homes.{vars_at}
use Rattle.live_vars.proofs.Needed.{After}

-- words in the variables that a block names, over lists of two lengths
pub landed_same : (v : ℕ) (xs ws vs us : List ℕ) → AllByRecursion (λ x. x < v) xs → v ≤ length vs
    → v ≤ length us → ((y : ℕ) → y < v → get_or vs y 0 ≡ get_or us y 0) → (y : ℕ) → y < v
    → get_or (landed xs ws vs) y 0 ≡ get_or (landed xs ws us) y 0
landed_same v (x ∷ xs) (w ∷ ws) vs us i lv lu h =
    landed_same v xs ws (set vs x w) (set us x w) i.1 (omega (arith, lv, length-set vs x w))
    (omega (arith, lu, length-set us x w)) (grind (arith, cases_eq, get_or-set_same, get_or-set_other))
landed_same v xs ws vs us i lv lu h = grind arith

module _ (g : Graph) (rules : IsGraph g) (h : Graph) (b : ℕ) (there : b < length (spots g)) where
  abbrev v : ℕ
  v = vars_at g rules b

  -- a Goto leads to configurations that go along
  pub jumps : (c : ℕ) → StaysIn g (spot_at g b).home c → (s r : ProcState) (fs es : List Frame) (k : ℕ)
      → States v (After g (Goto c)) s r → Stack g rules fs es → Along g rules (leave g (Goto c) s fs k)
      (leave h (Goto c) r es k)
  jumps c stays s r fs es k st stack = goes_to g rules b c there stays s r fs es k
      (grind (arith, weaker)) stack

  -- so does a Branch that both graphs have
  pub branches : (t : Term) (c d : ℕ) → ExitIn g (spot_at g b).home v (Branch t c d)
      → (s r : ProcState) (fs es : List Frame) (k : ℕ) → States v (After g (Branch t c d)) s r
      → Stack g rules fs es → Along g rules (leave g (Branch t c d) s fs k) (leave h (Branch t c d) r es k)
  branches t c d i s r fs es k st stack =
      let A : ℕ → Type 0 = After g (Branch t c d) in
      let sa = term_states g v A s r st t i.0 (λ x m. inl m) in
      if_along g rules _ _ _ _ _ _ (ap (λ n. n == 0) (term_value g v A s r st t i.0 (λ x m. inl m)))
      (goes_to g rules b d there i.2 _ _ fs es k
      (weaker g v A (Live g d) _ _ (λ x l. inr ((λ w. w), (d, inr refl, l))) sa) stack)
      (goes_to g rules b c there i.1 _ _ fs es k
      (weaker g v A (Live g c) _ _ (λ x l. inr ((λ w. w), (c, inl refl, l))) sa) stack)

  -- so does a Return
  pub gives_back : (t : Term) → ExitIn g (spot_at g b).home v (Return t)
      → (s r : ProcState) (fs es : List Frame) (k : ℕ) → States v (After g (Return t)) s r
      → Stack g rules fs es → Along g rules (leave g (Return t) s fs k) (leave h (Return t) r es k)
  gives_back t i s r fs es k st stack =
      let A : ℕ → Type 0 = After g (Return t) in
      returns g rules _ _ _ _ fs es k (term_value g v A s r st t i (λ x m. inl m))
      (term_states g v A s r st t i (λ x m. inl m)).out stack

  -- so does Stop
  pub stops : (s r : ProcState) (fs es : List Frame) (k : ℕ) → States v (After g Stop) s r
      → Along g rules (leave g Stop s fs k) (leave h Stop r es k)
  stops s r fs es k st = (refl, st.out)
