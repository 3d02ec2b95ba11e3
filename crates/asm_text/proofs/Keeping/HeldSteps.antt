-- One line at a time: what is answered, wherever it is an answer.
use Rattle.std.proofs.Common.{◌≡◌, ℕ, cond, Bool, true, false, IfOk, Option, Some, None, Result, Err, refl}
use Rattle.std.proofs.Common.{arith}
use Rattle.std.proofs.lemmas.Bool.{or_parts}
use Rattle.asm_text.specs.declared.line.Line.{Line}
use Rattle.asm_text.specs.declared.state.TextState.{TextState}
use Rattle.asm_text.specs.declared.state.Expected.{Expected}
use Rattle.asm_text.specs.declared.fault.AsmKind as kind
use Rattle.asm_text.specs.declared.fault.AsmKind.TheVariants as Kind
use Rattle.asm_text.specs.State.{next_place, is_numbered, is_within, is_other_version, counted, checked_at}
use Rattle.asm_text.specs.State.{checked, moved, behind}
use Rattle.asm_text.specs.Building.{◌>>=◌, Maybe}
use Rattle.asm_text.specs.Reading.{on_line}
use Rattle.ws_words.proofs.Bools.{not_false}

pub if_ok : {A E : Type 0} (P : A → Type 0) (b : Bool) (x y : Result A E) → (b ≡ true → IfOk x P)
    → (b ≡ false → IfOk y P) → IfOk (cond b x y) P
if_ok P b x y h k = grind arith

pub then_ok : {A B E : Type 0} (P : A → Type 0) (Q : B → Type 0) (r : Result A E) (f : A → Result B E)
    → IfOk r P → ((a : A) → P a → IfOk (f a) Q) → IfOk (r >>= f) Q
then_ok P Q r f h g = grind arith

pub line_ok : {A B : Type 0} (P : A → Type 0) (Q : B → Type 0) (n : ℕ) (r : Maybe A) (f : A → Result B _)
    → IfOk r P → ((a : A) → P a → IfOk (f a) Q) → IfOk (on_line n r >>= f) Q
line_ok P Q n r f h g = grind arith

-- a line that is taken may stand where it does, with its numbers in order, and keeps the limits
pub behind_ok : (t : TextState) (l : Line) (wide : Bool) (Q : TextState → Type 0)
    → ((p : Expected) → next_place t.place l ≡ Some p → is_numbered t l ≡ true → is_within t l ≡ true
    → Q (record (counted t l) { place = p }))
    → IfOk (behind t l wide) Q
unfolding behind checked
behind_ok t l wide Q h = by (next_place t.place l) refl
  where
    past : (b : Bool) (k : kind.AsmKind) (r : Result Expected kind.AsmKind)
        → (b ≡ false → IfOk (moved t l r) Q) → IfOk (moved t l (cond b (Err k) r)) Q
    past b k r g = grind arith

    by : (o : Option Expected) → next_place t.place l ≡ o → IfOk (moved t l (checked_at t l wide o)) Q
    by None e = tt
    by (Some p) e = past (is_other_version l wide) Kind.Version _ (grind (arith, not_false, or_parts))
