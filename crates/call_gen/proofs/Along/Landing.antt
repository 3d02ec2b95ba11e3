-- The variables at a landing.
use Rattle.std.proofs.Common.{ℕ, suc, ◌≡◌, ◌<◌, List, [], ◌∷◌, ◌++◌, length, get_or, set, refl, ap, ◌∙◌, inl}
use Rattle.std.proofs.Common.{inr, arith}
use Rattle.std.proofs.lemmas.List.{get_or-set_same, get_or-set_other, length-set}
use Rattle.ws_words.specs.Outside.{Act}
use Rattle.cfg_core.specs.Graph.{Term}
use Rattle.cfg_core.specs.Walk.{landed, value, loads_of, values, all_loads}
use Rattle.ws_words.specs.Items.{In, Distinct}

pub landed_other : (names words vars : List ℕ) (x : ℕ) → (In x names → ⊥)
    → get_or (landed names words vars) x 0 ≡ get_or vars x 0
landed_other (y ∷ names) (w ∷ words) vars x never = landed_other names words (set vars y w) x
    (λ i. never (inr i)) ∙ get_or-set_other vars y x w 0 (λ e. never (inl e))
landed_other names words vars x never = refl

pub landed_at : (names words vars : List ℕ) (i : ℕ) → Distinct names → i < length names → i < length words
    → get_or names i 0 < length vars → get_or (landed names words vars) (get_or names i 0) 0 ≡ get_or words i
    0
landed_at (x ∷ names) (w ∷ words) vars (suc i) a lt lw there = landed_at names words (set vars x w) i a.1
    (omega arith) (omega arith) (rw (length-set vars x w) there)
landed_at names words vars i a lt lw there = grind (arith, landed_other, get_or-set_same)

pub values_push : (ts : List Term) (u : Term) (vars : List ℕ) (cells : List (List ℕ))
    → values (ts ++ u ∷ []) vars cells ≡ values ts vars cells ++ value u vars cells ∷ []
values_push [] u vars cells = refl
values_push (t ∷ ts) u vars cells = grind (arith, values_push ts u vars cells)

pub loads_push : (ts : List Term) (u : Term) (vars : List ℕ) (cells : List (List ℕ))
    → loads_of u vars cells ≡ [] → all_loads (ts ++ u ∷ []) vars cells ≡ all_loads ts vars cells
loads_push [] u vars cells e = ap (λ (zs : List Act). zs ++ []) e
loads_push (t ∷ ts) u vars cells e = grind (arith, loads_push ts u vars cells e)
