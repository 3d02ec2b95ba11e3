-- Each text whose lines spell the items of a formed image is read as that image.
use Rattle.std.proofs.Common.{◌≡◌, ◌⊎◌, inl, inr, ℕ, ◌+◌, ◌≤◌, length, Bool, true, false, List, [], ◌∷◌, ◌++◌}
use Rattle.std.proofs.Common.{map, Option, Some, None, Result, Ok, if◌then◌else◌, refl, sym, ap, subst, arith}
use Rattle.std.proofs.lemmas.Bool.{true≢false, eq-eqb}
use Rattle.std.proofs.lemmas.Option.{none-some}
use Rattle.std.proofs.lemmas.Result.{IfOk-at_ok}
use Rattle.ws_isa.specs.Image.{Image, flat}
use Rattle.ws_isa.specs.Formed.{total_length, Formed}
use Rattle.asm_text.specs.declared.line.Label.{Label}
use Rattle.asm_text.specs.declared.line.Label.TheVariants.{Named}
use Rattle.asm_text.specs.declared.line.InstrLine.{InstrLine}
use Rattle.asm_text.specs.declared.line.Line.{Line}
use Rattle.asm_text.specs.declared.line.Line.TheVariants as line
use Rattle.asm_text.specs.declared.reading.Reading.{Reading}
use Rattle.asm_text.specs.declared.state.Expected.{Expected}
use Rattle.asm_text.specs.declared.state.Expected.TheVariants as place
use Rattle.asm_text.specs.declared.state.TextState.{TextState}
use Rattle.asm_text.specs.Names.{Names, named}
use Rattle.asm_text.specs.Words.{is}
use Rattle.asm_text.specs.State.{opening, next_place, is_plain, is_numbered, is_within, is_new, with_name}
use Rattle.asm_text.specs.State.{counted, checked, behind}
use Rattle.asm_text.specs.Building.{◌>>=◌, Built}
use Rattle.asm_text.specs.Printed.{keeps_first_limits}
use Rattle.asm_text.specs.Reading.{reading, step, add, on_line, is_ended, passed, made, nothing, read, Fault}
use Rattle.asm_text.specs.Spelling.{Naming, Says, Say, Spelled}
use Rattle.asm_text.proofs.Keeping.Held.{last_wave, after}
use Rattle.asm_text.proofs.Accepting.Inside.{port_count}
use Rattle.asm_text.proofs.Accepting.Told.{Extends, Taken}
use Rattle.asm_text.proofs.Accepting.TextTold.{taken, still, onward, placed, counted_extends}
use Rattle.asm_text.proofs.Accepting.Accepts.{Walks, Setting, at, text_walk}
use Rattle.asm_text.proofs.Accepting.Resolves.{Counts, count_is, parts, Makes, Resolved, place_is, text_makes}
use Rattle.ws_words.specs.Items.{In}

-- Names that are given are found behind all lines.

step_taken : (t u : TextState) (l : Line) → behind t l false ≡ Ok u → (p : Expected) × Taken t l p ×
    (u ≡ after t l p)
step_taken t u l e = (IfOk-at_ok _ e (taken t l false)).1

step_extends : (t u : TextState) (l : Line) → behind t l false ≡ Ok u → Extends t u
step_extends t u l e = grind (arith, step_taken, placed, counted_extends)

walks_extend : (ls : List Line) (t s : TextState) → Walks t ls s → Extends t s
walks_extend [] t s h = subst (Extends t) h (still t)
walks_extend (l ∷ ls) t s h = onward t h.0 s (step_extends t h.0 l h.1) (walks_extend ls h.0 s h.2)

grown_by : (t : Bool) (m n : ℕ) (o r : Option ℕ) → (o ≡ Some n → r ≡ Some n) →
    (if t then Some m else o) ≡ Some n → (if t then Some m else r) ≡ Some n
grown_by t m n o r h e = grind arith

named_grown : (names more : Names) (w : List ℕ) (n : ℕ) → named names w ≡ Some n → named
    (names ++ more) w ≡ Some n
named_grown [] more w n e = absurd (none-some n e)
named_grown (x ∷ names) more w n e = grind (arith, grown_by, named_grown names more w n)

abbrev IsNamed : Names → List ℕ → Type 0
IsNamed names w = (m : ℕ) × (named names w ≡ Some m)

found_last : (names : Names) (w : List ℕ) (k : ℕ) → is w w ≡ true → IsNamed (names ++ (w, k) ∷ []) w
found_last [] w k e = (k, rw e)
found_last (x ∷ names) w k e = by (is w x.0) (found_last names w k e)
  where
    by : (t : Bool) → IsNamed (names ++ (w, k) ∷ []) w → (m : ℕ) ×
        ((if t then Some x.1 else named (names ++ (w, k) ∷ []) w) ≡ Some m)
    by true h = (x.1, refl)
    by false h = h

is_same : (w : List ℕ) → is w w ≡ true
is_same [] = refl
is_same (b ∷ w) = rw (eq-eqb b b refl, is_same w)

with_name_found : (names : Names) (own : Label) (w : List ℕ) (k : ℕ) → own ≡ Named w → IsNamed
    (with_name names own k) w
with_name_found names own w k e = grind (arith, found_last names w k (is_same w), is_same w)

block_kept : (t : TextState) (w : List ℕ) → IsNamed (counted t (line.Block (Named w))).block_names w
unfolding counted
block_kept t w = with_name_found t.block_names (Named w) w (t.blocks + 1) refl

instr_kept : (t : TextState) (i : InstrLine) (w : List ℕ) → i.own ≡ Named w → IsNamed
    (counted t (line.Instr i)).instr_names w
unfolding counted
instr_kept t i w e = with_name_found t.instr_names i.own w (length t.ports + 1) e

pub block_found : (ls : List Line) (t s : TextState) (w : List ℕ) → Walks t ls s → In
    (line.Block (Named w)) ls → IsNamed s.block_names w
block_found [] t s w h k = absurd k
block_found (l ∷ ls) t s w h (inl e) =
    let one = step_taken t h.0 l h.1 in
    let kept : IsNamed (counted t l).block_names w = subst (λ l. IsNamed (counted t l).block_names w) e
    (block_kept t w) in
    grind (arith, walks_extend, named_grown)
block_found (l ∷ ls) t s w h (inr k) = block_found ls h.0 s w h.2 k

pub instr_found : (ls : List Line) (t s : TextState) (i : InstrLine) (w : List ℕ) → Walks t ls s → i.own
    ≡ Named w → In (line.Instr i) ls → IsNamed s.instr_names w
instr_found [] t s i w h q k = absurd k
instr_found (l ∷ ls) t s i w h q (inl e) =
    let one = step_taken t h.0 l h.1 in
    let kept : IsNamed (counted t l).instr_names w = subst (λ l. IsNamed (counted t l).instr_names w) e
    (instr_kept t i w q) in
    grind (arith, walks_extend, named_grown)
instr_found (l ∷ ls) t s i w h q (inr k) = instr_found ls h.0 s i w h.2 q k

-- Both passes over the texts of lines.

passed_by : (t s : TextState) (n : ℕ) (r : Reading) (ls more : List Line)
    (f : TextState → Result TextState Fault) → Says r ls more → Walks t ls s →
    ((u : TextState) → Walks u more s → f u ≡ Ok s)
    → (on_line (n + 1) (step t r) >>= f) ≡ Ok s
passed_by t s n r ls more f h w k = grind arith

passed_say : (texts : List (List ℕ)) (ls : List Line) (t s : TextState) (n : ℕ) → Say texts ls → Walks t
    ls s → is_ended s.place ≡ true → passed t n texts ≡ Ok s
unfolding passed
passed_say [] ls t s n h w e = grind arith
passed_say (text ∷ texts) ls t s n h w e = passed_by t s n (reading text) ls h.0 (λ u. passed u (n + 1) texts)
    h.1 w (λ u x. passed_say texts h.0 u s (n + 1) h.2 x e)

made_by : (s : TextState) (b d : Built) (n : ℕ) (r : Reading) (ls more : List Line)
    (f : Built → Result Built Fault) → Says r ls more → Makes s b ls d →
    ((c : Built) → Makes s c more d → f c ≡ Ok d)
    → (on_line (n + 1) (add s b r) >>= f) ≡ Ok d
made_by s b d n r ls more f h w k = grind arith

made_say : (texts : List (List ℕ)) (ls : List Line) (s : TextState) (b d : Built) (n : ℕ) → Say texts ls
    → Makes s b ls d → made s b n texts ≡ Ok d
unfolding made
made_say [] ls s b d n h w = ap Ok (subst (λ l. Makes s b l d) h w)
made_say (text ∷ texts) ls s b d n h w = made_by s b d n (reading text) ls h.0 (λ c. made s c (n + 1) texts)
    h.1 w (λ c x. made_say texts h.0 s c d (n + 1) h.2 x)

-- The version.

abbrev Known : ℕ → Naming → Type 0
Known n names = (n ≡ 2) ⊎ ((n ≡ 1) × (names ≡ record { blocks = []; instrs = [] }))

abbrev start : Bool → TextState
start v = at place.Arrays v 0 0 0 0 [] None [] []

one_goes : behind opening (line.Version 1) false ≡ Ok (start false)
unfolding behind checked opening next_place is_plain is_numbered is_within is_new counted
one_goes = refl

two_goes : behind opening (line.Version 2) false ≡ Ok (start true)
unfolding behind checked opening next_place is_plain is_numbered is_within is_new counted
two_goes = refl

-- whether it is the second version, with what holds then
record Chosen (image : Image) (n : ℕ) (names : Naming) : Type 0 where
  v : Bool
  goes : behind opening (line.Version n) false ≡ Ok (start v)
  first : v ≡ false → keeps_first_limits image ≡ true
  plain : (v ≡ true) ⊎ (names ≡ record { blocks = []; instrs = [] })

chosen : (image : Image) (n : ℕ) (names : Naming) → Known n names →
    (n ≡ 1 → keeps_first_limits image ≡ true) → Chosen image n names
chosen image n names x h = grind (arith, two_goes, true≢false, one_goes)

pub spelled_read : (text : List ℕ) (image : Image) → Formed image → Spelled text image → read text ≡
    Ok image
unfolding read nothing
spelled_read text image f p =
    let names = p.naming in
    let c = chosen image p.version names p.known p.first in
    let set : Setting image c.v names = grind arith in
    let walk = text_walk image c.v names set p.version p.lines p.spelled c.goes in
    let s = at place.Ended c.v (length image.arrays) (total_length image.arrays)
    (last_wave 0 image.blocks) (length image.blocks) (map port_count (flat image.blocks))
    walk.pad walk.bs walk.is in
    let counts : Counts image s = grind arith in
    let resolved : Resolved image s names = record {
      counts = counts;
      block = λ l n h k. place_is walk.bs names.blocks (length image.blocks) l n walk.blocks
          (grind (arith, block_found)) h k.0 k.1;
      instr = λ l n h k. place_is walk.is names.instrs (length s.ports) l n walk.instrs (λ w m e. let i =
          p.given_instrs w m e in instr_found p.lines opening s i.0 w walk.walks i.1 i.2) h k.0 (subst (λ m. n
          ≤ m) (sym (count_is image s counts)) k.1);
    } in
    let d = parts image.arrays image.blocks (last_wave 0 image.blocks) [] [] in
    let made_all = text_makes image s names resolved p.version p.lines f p.spelled in
    grind (arith, passed_say, made_say, parts)
