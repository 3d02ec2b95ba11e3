-- Operations without a turn, and no acts.
use Rattle.std.proofs.Common.{◌≡◌, ◌||◌, Bool, false, List, [], ◌∷◌, ◌++◌, refl, ap, arith}
use Rattle.std.proofs.lemmas.List.{append-nil}
use Rattle.ws_words.specs.Outside.{Act, ProcState, with_acts}
use Rattle.cfg_core.specs.Graph.{Op}
use Rattle.cfg_core.specs.Rules.{has_turn, takes_turn}

either_left : (b c d : Bool) → (b || c) ≡ false → (c ≡ false → d ≡ false) → (b || d) ≡ false
either_left b c d e f = grind arith

-- operations without a turn begin with such
pub quiet_left : (xs ys : List Op) → has_turn (xs ++ ys) ≡ false → has_turn xs ≡ false
quiet_left [] ys e = refl
quiet_left (x ∷ xs) ys e = either_left (takes_turn x) (has_turn (xs ++ ys)) (has_turn xs) e
    (quiet_left xs ys)

-- no acts change no state
pub no_acts : (s : ProcState) → with_acts s [] ≡ s
no_acts s = ap (λ (zs : List Act). record {
  vars = s.vars;
  out = record { cells = s.out.cells; input = s.out.input; left = s.out.left; acts = zs };
}) (append-nil s.out.acts)
