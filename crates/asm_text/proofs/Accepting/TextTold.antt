-- The lines of a text that is read spell the items of its image.
use Rattle.std.proofs.Common.{◌≡◌, ◌⊎◌, ℕ, ◌+◌, cond, Bool, true, false, IfOk, List, [], ◌∷◌, ◌++◌, Option}
use Rattle.std.proofs.Common.{Some, None, Result, Ok, Err, refl, sym, ap, subst, ◌∙◌, append_assoc}
use Rattle.std.proofs.Common.{append-nil, arith}
use Rattle.std.proofs.lemmas.Bool.{or_parts}
use Rattle.std.proofs.lemmas.Result.{IfOk-at_ok, IfOk-weaker}
use Rattle.ws_isa.specs.Image.{Image, flat}
use Rattle.asm_text.specs.declared.line.Label.{Label}
use Rattle.asm_text.specs.declared.line.Label.TheVariants.{At, Named}
use Rattle.asm_text.specs.declared.line.Line.{Line}
use Rattle.asm_text.specs.declared.line.Line.TheVariants as line
use Rattle.asm_text.specs.declared.reading.Reading.{Reading}
use Rattle.asm_text.specs.declared.reading.Reading.TheVariants.{Blank, Wrong, Found}
use Rattle.asm_text.specs.declared.state.Expected.{Expected}
use Rattle.asm_text.specs.declared.state.Expected.TheVariants as place
use Rattle.asm_text.specs.declared.state.TextState.{TextState}
use Rattle.asm_text.specs.declared.fault.AsmKind as kind
use Rattle.asm_text.specs.declared.fault.AsmKind.TheVariants as Kind
use Rattle.asm_text.specs.Names.{Names}
use Rattle.asm_text.specs.State.{opening, next_place, is_other_version, with_name, counted, checked_at}
use Rattle.asm_text.specs.State.{checked, moved, behind}
use Rattle.asm_text.specs.Building.{◌>>=◌, Maybe, Built, built}
use Rattle.asm_text.specs.Printed.{keeps_first_limits}
use Rattle.asm_text.specs.Reading.{lines_of, reading, step, add, on_line, is_ended, passed, made, nothing}
use Rattle.asm_text.specs.Reading.{read, Fault}
use Rattle.asm_text.specs.Spelling.{Says, Say, Spelled, items}
use Rattle.asm_text.proofs.Scanning.FormedLines.{reading_fits, ReadingFits}
use Rattle.asm_text.proofs.Keeping.HeldSteps.{if_ok, then_ok, line_ok}
use Rattle.asm_text.proofs.Keeping.HeldNames.{NamesThere, passed_names}
use Rattle.asm_text.proofs.Keeping.Held.{Held, Stands, Exited, so_far, after}
use Rattle.asm_text.proofs.Keeping.HeldLines.{line_held}
use Rattle.asm_text.proofs.Keeping.HeldTexts.{nothing_held}
use Rattle.asm_text.proofs.Keeping.Given.{Given, line_given}
use Rattle.asm_text.proofs.Keeping.First.{FirstHeld, line_first, first_kept}
use Rattle.asm_text.proofs.Accepting.Told.{number, naming, told_items, NoNames, Told, Extends, Taken}
use Rattle.asm_text.proofs.Accepting.Told.{line_told}
use Rattle.ws_words.proofs.Lists.{length_map}
use Rattle.ws_words.proofs.Bools.{not_false}

-- A line that is taken.

narrow_version : (l : Line) (wide : Bool) → is_other_version l wide ≡ false → wide ≡ false
    → is_other_version l false ≡ false
narrow_version l wide h e = ap (is_other_version l) (sym e) ∙ h

pub taken : (t : TextState) (l : Line) (wide : Bool)
    → IfOk (behind t l wide) (λ u. (wide ≡ false) × ((p : Expected) × Taken t l p × (u ≡ after t l p)))
unfolding behind checked
taken t l wide = by (next_place t.place l) refl
  where
    Q : TextState → Type 0
    Q u = (wide ≡ false) × ((p : Expected) × Taken t l p × (u ≡ after t l p))

    past : (b : Bool) (k : kind.AsmKind) (r : Result Expected kind.AsmKind)
        → (b ≡ false → IfOk (moved t l r) Q) → IfOk (moved t l (cond b (Err k) r)) Q
    past b k r g = grind arith

    by : (o : Option Expected) → next_place t.place l ≡ o → IfOk (moved t l (checked_at t l wide o)) Q
    by None e = tt
    by (Some p) e = past (is_other_version l wide) Kind.Version _
        (grind (arith, or_parts, narrow_version, not_false))

-- Names grow.

more_name : (names : Names) (l : Label) (n : ℕ) → (more : Names) ×
    (with_name names l n ≡ names ++ more)
more_name names (At m) n = ([], sym (append-nil names))
more_name names (Named w) n = ((w, n) ∷ [], refl)

pub still : (t : TextState) → Extends t t
still t = record {
  block_more = [];
  blocks = sym (append-nil t.block_names);
  instr_more = [];
  instrs = sym (append-nil t.instr_names);
}

pub onward : (t u s : TextState) → Extends t u → Extends u s → Extends t s
onward t u s h k = grind (arith, append_assoc)

pub counted_extends : (t : TextState) (l : Line) → Extends t (counted t l)
unfolding counted
counted_extends t (line.Block l) =
    let m = more_name t.block_names l (t.blocks + 1) in
    record {
      block_more = m.0;
      blocks = m.1;
      instr_more = [];
      instrs = sym (append-nil t.instr_names);
    }
counted_extends t (line.Instr i) =
    let m = more_name t.instr_names i.own _ in
    record {
      block_more = [];
      blocks = sym (append-nil t.block_names);
      instr_more = m.0;
      instrs = m.1;
    }
counted_extends t l = record {
  block_more = [];
  blocks = sym (append-nil t.block_names);
  instr_more = [];
  instrs = sym (append-nil t.instr_names);
}

pub placed : (t u : TextState) (p : Expected) → Extends t u → Extends t (record u { place = p })
placed t u p h = grind arith

step_extends : (t : TextState) (r : Reading) → IfOk (step t r) (Extends t)
step_extends t Blank = still t
step_extends t Wrong = tt
step_extends t (Found l wide) = IfOk-weaker (behind t l wide) _ (Extends t)
    (grind (arith, placed, counted_extends)) (taken t l wide)

lines_extend : (t : TextState) (n : ℕ) (lines : List (List ℕ)) → IfOk (passed t n lines) (Extends t)
unfolding passed
lines_extend t n [] = if_ok (Extends t) (is_ended t.place) _ _ (λ _. still t) (λ _. tt)
lines_extend t n (text ∷ texts) = line_ok (Extends t) (Extends t) (n + 1) (step t (reading text)) _
    (step_extends t (reading text)) (λ u k. IfOk-weaker (passed u (n + 1) texts) (Extends u) (Extends t) (λ s
    h. onward t u s k h) (lines_extend u (n + 1) texts))

-- Line by line.

-- what a line of a text adds to the lines before it
record Adds (s u : TextState) (c : Built) (r : Reading) (ls : List Line) : Type 0 where
  more : List Line
  says : (rest : List Line) → Says r (more ++ rest) rest
  held : Held s u c
  told : Extends u s → Told s u c (ls ++ more)
  given : Given u (ls ++ more)
  first : FirstHeld u c

all_ok : {A : Type 0} (r : Maybe A) (P Q R : A → Type 0) → IfOk r P → IfOk r Q → IfOk r R
    → IfOk r (λ a. P a × Q a × R a)
all_ok r P Q R h k m = grind arith

under : {A : Type 0} (X : Type 0) (r : Maybe A) (P : A → Type 0) → (X → IfOk r P) → IfOk r
    (λ a. X → P a)
under X r P h = grind arith

step_told : (s t : TextState) (b : Built) (r : Reading) (ls : List Line) → NamesThere s → Held s t b
    → Told s t b ls → Given t ls → FirstHeld t b → ReadingFits r
    → IfOk (step t r) (λ u. IfOk (add s b r) (λ c. Adds s u c r ls))
step_told s t b Blank ls names held h y z f = record {
  more = [];
  says = λ rest. refl;
  held = held;
  told = λ _. subst (Told s t b) (sym (append-nil ls)) h;
  given = subst (Given t) (sym (append-nil ls)) y;
  first = z;
}
step_told s t b Wrong ls names held h y z f = tt
step_told s t b (Found l wide) ls names held h y z f = IfOk-weaker (behind t l wide) _ (λ u. IfOk (built s b
    l) (λ c. Adds s u c (Found l wide) ls)) (λ u k. one u k.0 k.1.0 k.1.1 k.1.2) (taken t l wide)
  where
    one : (u : TextState) → wide ≡ false → (p : Expected) → Taken t l p → u ≡ after t l p
        → IfOk (built s b l) (λ c. Adds s u c (Found l wide) ls)
    one u w p g e =
        let v = after t l p in
        let counted_given = line_given t l ls g.within y in
        let given : Given v (ls ++ l ∷ []) = grind arith in
        let kept = line_held s t b l p names held f g.next g.numbered g.within in
        let spelled = under (Extends v s) (built s b l) (λ c. Told s v c (ls ++ l ∷ [])) (λ x. line_told s t b
        l p ls held h g x) in
        IfOk-weaker (built s b l) _ (λ c. Adds s u c (Found l wide) ls) (grind arith) (all_ok (built s b l) _
        _ _ kept spelled (line_first s t b l p held h.lacks z g))

ended : (t s : TextState) (k : Fault) (b : Bool) → ◌≡◌ {A = Result TextState Fault} (cond b (Ok t) (Err k))
    (Ok s) →
    (b ≡ true) × (t ≡ s)
ended t s k b e = grind arith

along : (n : ℕ) (P : Built → Type 0) (s : TextState) (st : Maybe TextState) (ad : Maybe Built)
    (f : TextState → Result TextState Fault) (g : Built → Result Built Fault)
    → (H : TextState → Built → Type 0) → IfOk st (λ u. IfOk ad (H u))
    → ((u : TextState) (c : Built) → H u c → f u ≡ Ok s → IfOk (g c) P)
    → (on_line n st >>= f) ≡ Ok s → IfOk (on_line n ad >>= g) P
along n P s st ad f g H h k e = grind arith

-- what a whole text says
record Tells (s : TextState) (ls : List Line) (texts : List (List ℕ)) (d : Built) : Type 0 where
  more : List Line
  say : Say texts more
  told : Told s s d (ls ++ more)
  given : Given s (ls ++ more)
  first : FirstHeld s d
  held : Held s s d
  end : is_ended s.place ≡ true

lines_tell : (s t : TextState) (b : Built) (n : ℕ) (texts : List (List ℕ)) (ls : List Line) → NamesThere
    s
    → Held s t b → Told s t b ls → Given t ls → FirstHeld t b → passed t n texts ≡ Ok s
    → IfOk (made s b n texts) (Tells s ls texts)
unfolding passed made
lines_tell s t b n [] ls names held h y z e =
    let x = ended t s _ (is_ended t.place) e in
    record {
      more = [];
      say = refl;
      told = subst (λ u. Told s u b (ls ++ [])) x.1 (subst (Told s t b) (sym (append-nil ls)) h);
      given = subst (λ u. Given u (ls ++ [])) x.1 (subst (Given t) (sym (append-nil ls)) y);
      first = subst (λ u. FirstHeld u b) x.1 z;
      held = subst (λ u. Held s u b) x.1 held;
      end = subst (λ u. is_ended u.place ≡ true) x.1 x.0;
    }
lines_tell s t b n (text ∷ texts) ls names held h y z e = along (n + 1) (Tells s ls (text ∷ texts)) s (step t
    (reading text)) (add s b (reading text)) (λ u. passed u (n + 1) texts) (λ c. made s c (n + 1) texts) (λ u
    c. Adds s u c (reading text) ls) (step_told s t b (reading text) ls names held h y z (reading_fits text))
    (λ u c k g. let told = k.told (IfOk-at_ok (Extends u) g (lines_extend u (n + 1) texts)) in IfOk-weaker
    (made s c (n + 1) texts) (Tells s (ls ++ k.more) texts) (Tells s ls (text ∷ texts))
    (grind (arith, append_assoc)) (lines_tell s u c (n + 1) texts (ls ++ k.more) names k.held told k.given
    k.first g)) e

nothing_told : (s : TextState) → Told s opening nothing []
unfolding opening nothing
nothing_told s = grind arith

nothing_given : Given opening []
unfolding opening
nothing_given = grind arith

nothing_first : FirstHeld opening nothing
unfolding opening nothing
nothing_first = grind arith

at_end : (p : Expected) (s : TextState) (b : Built) → is_ended p ≡ true → Stands p s b → Exited s b
at_end p s b e h = grind arith

is_first : (v : Bool) → number v ≡ 1 → v ≡ false
is_first v e = grind arith

first_limits : (s : TextState) (d : Built) → Held s s d → is_ended s.place ≡ true → FirstHeld s d
    → number s.named ≡ 1 → keeps_first_limits (record { arrays = d.arrays; blocks = d.blocks }) ≡
    true
first_limits s d held e h v =
    let exited = at_end s.place s d e held.stands in
    let all : so_far d ≡ flat d.blocks = ap (λ is. flat d.blocks ++ is) (exited.0).1 ∙ append-nil (flat
    d.blocks) in
    grind (arith, length_map, so_far, first_kept, is_first)

known_version : (v : Bool) (s : TextState) → (v ≡ false → NoNames s) → (number v ≡ 2) ⊎
    ((number v ≡ 1) × (naming s ≡ record { blocks = []; instrs = [] }))
known_version v s h = grind arith

end_items : (p : Expected) (v : ℕ) (b : Built) → is_ended p ≡ true → told_items p v b ≡ items v
    (record { arrays = b.arrays; blocks = b.blocks })
end_items p v b e = grind arith

end_spelled : (text : List ℕ) (s : TextState) (d : Built) → Tells s [] (lines_of text) d → Spelled text
    (record { arrays = d.arrays; blocks = d.blocks })
end_spelled text s d h = grind (arith, number, naming, known_version, first_limits, end_items)

text_spelled : (text : List ℕ) → IfOk (read text) (Spelled text)
unfolding read
text_spelled text = by (passed opening 0 (lines_of text)) refl
  where
    by : (r : Result TextState Fault) → passed opening 0 (lines_of text) ≡ r
        → IfOk
        (r >>= λ s. made s nothing 0 (lines_of text) >>= λ b. Ok
        (record { arrays = b.arrays; blocks = b.blocks })) (Spelled text)
    by (Err k) e = tt
    by (Ok s) e = then_ok (Tells s [] (lines_of text)) (Spelled text) (made s nothing 0 (lines_of text)) _
        (lines_tell s opening nothing 0 (lines_of text) [] (IfOk-at_ok NamesThere e (passed_names (lines_of
        text))) (nothing_held s) (nothing_told s) nothing_given nothing_first e) (λ d h. end_spelled text s d
        h)

pub read_spelled : (text : List ℕ) (image : Image) → read text ≡ Ok image → Spelled text image
read_spelled text image e = IfOk-at_ok (Spelled text) e (text_spelled text)
