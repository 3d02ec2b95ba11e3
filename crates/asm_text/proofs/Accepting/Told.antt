-- The lines of a text so far spell the items that are built of them so far.
use Rattle.std.proofs.Common.{◌≡◌, ℕ, suc, ◌+◌, ◌==◌, ◌&&◌, ◌||◌, length, length-append, Bool, true, false}
use Rattle.std.proofs.Common.{IfOk, List, [], ◌∷◌, ◌++◌, map, Option, Some, None, Ok, if◌then◌else◌, refl}
use Rattle.std.proofs.Common.{sym, ap, subst, ◌∙◌, append_assoc, append-nil, arith}
use Rattle.std.proofs.lemmas.List.{map-append}
use Rattle.std.proofs.lemmas.Bool.{eqb-true, eq-eqb, ne_eqb}
use Rattle.std.proofs.lemmas.Option.{none-some, same_Some}
use Rattle.ws_isa.specs.Image as plain
use Rattle.ws_isa.specs.Image.{flat}
use Rattle.ws_isa.specs.declared.instr.Dest.{Dest}
use Rattle.asm_text.specs.declared.line.Label.{Label}
use Rattle.asm_text.specs.declared.line.Target.{Target}
use Rattle.asm_text.specs.declared.line.InstrLine.{InstrLine}
use Rattle.asm_text.specs.declared.line.Line.{Line}
use Rattle.asm_text.specs.declared.line.Line.TheVariants as line
use Rattle.asm_text.specs.declared.state.Expected.{Expected}
use Rattle.asm_text.specs.declared.state.Expected.TheVariants as place
use Rattle.asm_text.specs.declared.state.TextState.{TextState}
use Rattle.asm_text.specs.Names.{Names, named}
use Rattle.asm_text.specs.Words.{is}
use Rattle.asm_text.specs.State.{next_place, is_number, is_plain, is_next, are_ports, is_numbered, is_within}
use Rattle.asm_text.specs.State.{is_new_label, is_new, is_other_version, with_name, counted}
use Rattle.asm_text.specs.Building.{Maybe, Built, dests_of, instr_of, block_of, is_known, with_array}
use Rattle.asm_text.specs.Building.{with_pad, with_instr, closed, exit_of, with_exit, built}
use Rattle.asm_text.specs.Spelling.{Item, Version, Array, Wave, Block, Pad, Instr, Exit, End, instr_items}
use Rattle.asm_text.specs.Spelling.{wave_items, blocks_items, Naming, IsFor, Pairs, TargetIsFor, Spells}
use Rattle.asm_text.specs.Spelling.{SpellsExit}
use Rattle.asm_text.proofs.Keeping.Held.{last_wave, Stands, so_far, Held, after}
use Rattle.asm_text.proofs.Keeping.HeldSteps.{if_ok, then_ok}
use Rattle.asm_text.proofs.Keeping.Pairing.{pairs_snoc, instr_for, block_for, dests_for, blocks_for}
use Rattle.asm_text.proofs.Keeping.Pairing.{instr_items_snoc, blocks_items_snoc}
use Rattle.ws_words.proofs.Lists.{length_map}
use Rattle.ws_words.proofs.Options.{none_of}
use Rattle.ws_words.proofs.Bools.{plain_of}

-- Items so far.

abbrev pub number : Bool → ℕ
number v = if v then 2 else 1

abbrev pub naming : TextState → Naming
naming s = record { blocks = s.block_names; instrs = s.instr_names }

abbrev top : ℕ → Built → List Item
top v b = Version v ∷ map Array b.arrays

-- all that is whole
abbrev shut : ℕ → Built → List Item
shut v b = top v b ++ blocks_items 0 1 1 b.blocks

-- the block at hand
abbrev begun : Built → List Item
begun b = wave_items (last_wave 0 b.blocks) b.wave ++ Block (1 + length b.blocks) ∷ map Pad b.pads ++
    instr_items (1 + length (flat b.blocks)) b.instrs

abbrev pub told_items : Expected → ℕ → Built → List Item
told_items place.Start v b = []
told_items place.Arrays v b = top v b
told_items place.Wave v b = shut v b ++ Wave b.wave ∷ []
told_items place.Pads v b = shut v b ++ begun b
told_items place.Instrs v b = shut v b ++ begun b
told_items place.Exited v b = shut v b
told_items place.Ended v b = shut v b ++ End ∷ []

abbrev pub NoNames : TextState → Type 0
NoNames t = (t.block_names ≡ []) × (t.instr_names ≡ [])

-- what isn't there yet
abbrev pub Lacks : Expected → TextState → Built → Type 0
Lacks place.Start t b = (b.arrays ≡ []) × (b.blocks ≡ []) × NoNames t × (t.named ≡ false)
Lacks place.Arrays t b = b.blocks ≡ []
Lacks place.Pads t b = b.instrs ≡ []
Lacks p t b = Unit {0}

-- s is the state behind all lines, t the one behind these
pub record Told (s t : TextState) (b : Built) (ls : List Line) : Type 0 where
  pub spelled : Pairs (Spells (naming s)) ls (told_items t.place (number t.named) b)
  pub lacks : Lacks t.place t b
  pub plain : t.named ≡ false → NoNames t

-- the names of t are the first of s
pub record Extends (t s : TextState) : Type 0 where
  pub block_more : Names
  pub blocks : s.block_names ≡ t.block_names ++ block_more
  pub instr_more : Names
  pub instrs : s.instr_names ≡ t.instr_names ++ instr_more

-- a line that is taken passes each test
pub record Taken (t : TextState) (l : Line) (p : Expected) : Type 0 where
  pub next : next_place t.place l ≡ Some p
  pub version : is_other_version l false ≡ false
  pub plain : (t.named || is_plain l) ≡ true
  pub numbered : is_numbered t l ≡ true
  pub within : is_within t l ≡ true
  pub new : is_new t l ≡ true

at_place : (P : Expected → Type 0) (q p : Expected) → Some q ≡ Some p → P q → P p
at_place P q p e h = subst P (same_Some q p e) h

nowhere : {P : Type 0} (p : Expected) → None ≡ Some p → P
nowhere p e = absurd (none-some p e)

-- Own names.

is_same : (w : List ℕ) → is w w ≡ true
is_same [] = refl
is_same (b ∷ w) = rw (eq-eqb b b refl, is_same w)

named_by : (t : Bool) (m : ℕ) (o r : Option ℕ) (n : ℕ) → (o ≡ None → r ≡ Some n)
    → (if t then Some m else o) ≡ None → (if t then Some m else r) ≡ Some n
named_by t m o r n h e = grind arith

-- a new name that is put behind others is found, whatever comes behind it
named_after : (names more : Names) (w : List ℕ) (n : ℕ) → named names w ≡ None
    → named ((names ++ (w, n) ∷ []) ++ more) w ≡ Some n
named_after [] more w n e = rw (is_same w)
named_after (x ∷ names) more w n e = grind (arith, named_by, named_after names more w n)

own_for : (names more final : Names) (l : Label) (count n : ℕ) → is_next l count ≡ true
    → is_new_label names l ≡ true → final ≡ with_name names l (count + 1) ++ more → n ≡ count + 1
    → IsFor final l n
own_for names more final l count n e k f h = grind (arith, eqb-true, named_after, none_of)

plain_name : (names : Names) (l : Label) (n : ℕ) → is_number l ≡ true → names ≡ [] → with_name names l n ≡ []
plain_name names l n e h = grind arith

-- One more line and its item.
told_more : (s t u : TextState) (b c : Built) (l : Line) (ls : List Line) (x : Item) → Told s t b ls
    → Spells (naming s) l x
    → (told_items u.place (number u.named) c ≡ told_items t.place (number t.named) b ++ x ∷ []) × Lacks
    u.place u c
    → (u.named ≡ false → NoNames u) → Told s u c (ls ++ l ∷ [])
told_more s t u b c l ls x h k e n = grind (arith, pairs_snoc)

-- The version.

version_is : (n : ℕ) → is_other_version (line.Version n) false ≡ false → n ≡ number (n == 2)
version_is n e = grind arith

version_told : (s t : TextState) (b : Built) (n : ℕ) (p : Expected) (ls : List Line) → Told s t b ls
    → Taken t (line.Version n) p → Told s (after t (line.Version n) p) b (ls ++ line.Version n ∷ [])
unfolding counted next_place
version_told s t b n p ls h k =
    let m = by t.place k.next h.lacks in
    told_more s t (after t (line.Version n) p) b b (line.Version n) ls (Version n) h refl (m.0, m.1)
    (λ _. m.2)
  where
    u : TextState
    u = after t (line.Version n) p

    v : ℕ
    v = number (n == 2)

    by : (q : Expected) → next_place q (line.Version n) ≡ Some p → Lacks q t b
        → (told_items p v b ≡ told_items q (number t.named) b ++ Version n ∷ []) × Lacks p u b × NoNames t
    by q e l = grind (arith, at_place, version_is, nowhere)

-- Arrays.

array_told : (s t u : TextState) (b : Built) (l : Line) (o : Option (List ℕ)) (n : ℕ) (ls : List Line)
    → Told s
    t b ls → Spells (naming s) l (Array (record { name = o; length = n }))
    → t.place ≡ place.Arrays → u.place ≡ place.Arrays → u.named ≡ t.named → u.block_names ≡ t.block_names
    → u.instr_names ≡ t.instr_names
    → Told s u (with_array b o n) (ls ++ l ∷ [])
array_told s t u b l o n ls h k q p v f g =
    let x : plain.Array = record { name = o; length = n } in
    let c = with_array b o n in
    let items : told_items place.Arrays (number t.named) c ≡ told_items place.Arrays (number t.named) b ++
    Array x ∷ [] = grind (arith, map-append) in
    let both : told_items u.place (number u.named) c ≡ told_items t.place (number t.named) b ++ Array x ∷ [] =
    grind arith
    in
    let lacks : b.blocks ≡ [] = subst (λ p. Lacks p t b) q h.lacks in
    told_more s t u b c l ls (Array x) h k grind arith
    (grind arith)

array_place : (n : ℕ) (w : List ℕ) (q p : Expected) → next_place q (line.Array w n) ≡ Some p
    → (q ≡ place.Arrays) × (p ≡ place.Arrays)
unfolding next_place
array_place n w q p e = grind arith

hidden_place : (n : ℕ) (q p : Expected) → next_place q (line.Hidden n) ≡ Some p
    → (q ≡ place.Arrays) × (p ≡ place.Arrays)
unfolding next_place
hidden_place n q p e = grind arith

-- Waves.

wave_told : (s t : TextState) (b : Built) (k : ℕ) (p : Expected) (ls : List Line) → Told s t b ls → Taken t
    (line.Wave k) p → Told s (after t (line.Wave k) p) (record b { wave = k }) (ls ++ line.Wave k ∷ [])
unfolding counted next_place
wave_told s t b k p ls h g = told_more s t (after t (line.Wave k) p) b (record b { wave = k }) (line.Wave k)
    ls (Wave k) h refl (by t.place g.next h.lacks) h.plain
  where
    u : TextState
    u = after t (line.Wave k) p

    v : ℕ
    v = number t.named

    c : Built
    c = record b { wave = k }

    by : (q : Expected) → next_place q (line.Wave k) ≡ Some p → Lacks q t b
        → (told_items p v c ≡ told_items q v b ++ Wave k ∷ []) × Lacks p u c
    by place.Arrays e l = at_place (λ p. (told_items p v c ≡ told_items place.Arrays v b ++ Wave k ∷ []) ×
        Lacks p u c) place.Wave p e (
          ap (λ bs. (top v b ++ blocks_items 0 1 1 bs) ++ Wave k ∷ []) l ∙ ap (λ is. is ++ Wave k ∷ [])
              (append-nil (top v b)),
          tt,
        )
    by place.Exited e l = grind (arith, at_place)
    by q e l = nowhere p e

-- A block begins.

-- what is begun, where no pad and no instruction is there
begun_new : (b : Built) (w : List Item) → wave_items (last_wave 0 b.blocks) b.wave ≡ w → b.pads ≡ []
    → b.instrs ≡ [] → begun b ≡ w ++ Block (1 + length b.blocks) ∷ []
begun_new b w e p q = grind arith

same_wave : (last wave : ℕ) → wave ≡ last → wave_items last wave ≡ []
same_wave last wave e = rw (eq-eqb last wave (sym e))

new_wave : (last wave : ℕ) → wave ≡ suc last → wave_items last wave ≡ Wave wave ∷ []
new_wave last wave e = rw (ne_eqb last wave (λ d. absurd (omega (arith, d, e))))

block_told : (s t : TextState) (b : Built) (own : Label) (p : Expected) (ls : List Line) → Held s t b
    → Told s t b ls → Taken t (line.Block own) p → Extends (after t (line.Block own) p) s
    → Told s (after t (line.Block own) p) b (ls ++ line.Block own ∷ [])
unfolding counted next_place is_numbered is_new is_plain
block_told s t b own p ls held h g x =
    let m = by t.place g.next held.stands in
    let label : IsFor s.block_names own (1 + length b.blocks) = grind (arith, own_for) in
    told_more s t (after t (line.Block own) p) b b (line.Block own) ls (Block (1 + length b.blocks)) h
    (own, refl, label) (m.0, m.1) plain
  where
    u : TextState
    u = after t (line.Block own) p

    v : ℕ
    v = number t.named

    n : ℕ
    n = 1 + length b.blocks

    plain : t.named ≡ false → NoNames u
    plain e = grind (arith, plain_name, plain_of)

    by : (q : Expected) → next_place q (line.Block own) ≡ Some p → Stands q t b
        → (told_items p v b ≡ told_items q v b ++ Block n ∷ []) × Lacks p u b × (t.blocks ≡ length b.blocks)
    by q e l = grind (arith, begun_new, new_wave, last_wave, at_place, append_assoc, same_wave, nowhere)

-- Pads.

begun_pad : (b : Built) (k : ℕ) (ds : List Dest) → b.instrs ≡ [] → begun (with_pad b k ds) ≡ begun b ++ Pad
    (record { number = k; dests = ds }) ∷ []
begun_pad b k ds q = grind (arith, last_wave, map-append, append_assoc)

pad_told : (s t : TextState) (b : Built) (k : ℕ) (ts : List Target) (ds : List Dest) (p : Expected)
    (ls : List Line)
    → Told s t b ls → Taken t (line.Pad k ts) p → Pairs (TargetIsFor s.instr_names) ts ds
    → Told s (after t (line.Pad k ts) p) (with_pad b k ds) (ls ++ line.Pad k ts ∷ [])
unfolding counted next_place
pad_told s t b k ts ds p ls h g d = told_more s t (after t (line.Pad k ts) p) b (with_pad b k ds) (line.Pad k
    ts) ls (Pad (record { number = k; dests = ds })) h (ts, refl, d) (by t.place g.next h.lacks) h.plain
  where
    u : TextState
    u = after t (line.Pad k ts) p

    v : ℕ
    v = number t.named

    x : plain.Pad
    x = record { number = k; dests = ds }

    c : Built
    c = with_pad b k ds

    by : (q : Expected) → next_place q (line.Pad k ts) ≡ Some p → Lacks q t b
        → (told_items p v c ≡ told_items q v b ++ Pad x ∷ []) × Lacks p u c
    by q e l = grind (arith, at_place, begun_pad, append_assoc, nowhere)

-- Instructions.

begun_instr : (b : Built) (i : plain.Instr)
    → begun (with_instr b i) ≡ begun b ++ Instr (1 + length (flat b.blocks) + length b.instrs) i ∷ []
begun_instr b i = grind (arith, last_wave, instr_items_snoc, append_assoc)

six : (a b c d e f : Bool) → (a && b && c && d && e && f) ≡ true → d ≡ true
six a b c d e f h = grind arith

instr_fits : (t : TextState) (i : InstrLine) → is_within t (line.Instr i) ≡ true → i.fits ≡ true
unfolding is_within
instr_fits t i h = grind (arith, six)

first_of_three : (a b c : Bool) → (a && b && c) ≡ true → a ≡ true
first_of_three a b c h = grind arith

instr_told : (s t : TextState) (b : Built) (i : InstrLine) (ds os : List Dest) (p : Expected) (ls : List Line)
    → Held s t b → Told s t b ls → Taken t (line.Instr i) p → Extends (after t (line.Instr i) p) s
    → Pairs (TargetIsFor s.instr_names) i.dests ds → Pairs (TargetIsFor s.instr_names) i.others os
    → Told s (after t (line.Instr i) p) (with_instr b (record {
      op = i.op;
      note = i.note;
      dests = ds;
      others = os;
    })) (ls ++ line.Instr i ∷ [])
unfolding counted next_place is_numbered is_new is_plain
instr_told s t b i ds os p ls held h g x d o =
    let size : length t.ports ≡ length (flat b.blocks) + length b.instrs =
    grind (arith, length_map, so_far, length-append) in
    let next = first_of_three (is_next i.own (length t.ports)) (are_ports i.dests) (are_ports i.others)
    g.numbered in
    let label : IsFor s.instr_names i.own n = grind (arith, own_for) in
    let fits = instr_fits t i g.within in
    told_more s t (after t (line.Instr i) p) b c (line.Instr i) ls (Instr n y) h grind arith (by t.place
    g.next) plain
  where
    u : TextState
    u = after t (line.Instr i) p

    v : ℕ
    v = number t.named

    n : ℕ
    n = 1 + length (flat b.blocks) + length b.instrs

    y : plain.Instr
    y = record { op = i.op; note = i.note; dests = ds; others = os }

    c : Built
    c = with_instr b y

    plain : t.named ≡ false → NoNames u
    plain e = grind (arith, first_of_three, plain_of, plain_name)

    more : shut v b ++ begun c ≡ (shut v b ++ begun b) ++ Instr n y ∷ []
    more = grind (arith, begun_instr, append_assoc)

    by : (q : Expected) → next_place q (line.Instr i) ≡ Some p
        → (told_items p v c ≡ told_items q v b ++ Instr n y ∷ []) × Lacks p u c
    by place.Pads e = at_place (λ p. (told_items p v c ≡ told_items place.Pads v b ++ Instr n y ∷ []) × Lacks
        p u c) place.Instrs p e (more, tt)
    by place.Instrs e = at_place (λ p. (told_items p v c ≡ told_items place.Instrs v b ++ Instr n y ∷ []) ×
        Lacks p u c) place.Instrs p e (more, tt)
    by q e = nowhere p e

-- Exits.

-- the line stands inside a block
pub record Leaves (v : ℕ) (b : Built) (q p : Expected) : Type 0 where
  pub inside : told_items q v b ≡ shut v b ++ begun b
  pub exited : p ≡ place.Exited

go_leaves : (v : ℕ) (b : Built) (l : Label) (q p : Expected) → next_place q (line.Go l) ≡ Some p
    → Leaves v b q p
unfolding next_place
go_leaves v b l q p e = grind arith

branch_leaves : (v : ℕ) (b : Built) (l m n : Label) (q p : Expected) → next_place q (line.If l m n) ≡ Some p
    → Leaves v b q p
unfolding next_place
branch_leaves v b l m n q p e = grind arith

send_leaves : (v : ℕ) (b : Built) (l : Label) (ls : List Label) (q p : Expected)
    → next_place q (line.Send l ls) ≡ Some p → Leaves v b q p
unfolding next_place
send_leaves v b l ls q p e = grind arith

stop_leaves : (v : ℕ) (b : Built) (q p : Expected) → next_place q line.Stop ≡ Some p → Leaves v b q p
unfolding next_place
stop_leaves v b q p e = grind arith

shut_exit : (v : ℕ) (b : Built) (e : plain.Exit) → shut v (closed b e) ≡ (shut v b ++ begun b) ++ Exit e ∷ []
shut_exit v b e = grind (arith, blocks_items_snoc, append_assoc)

abbrev SpellsSome : Naming → Line → Option plain.Exit → Type 0
SpellsSome names l None = ⊥
SpellsSome names l (Some e) = SpellsExit names l e

exit_told : (s t : TextState) (b : Built) (l : Line) (e : Maybe (Option plain.Exit)) (p : Expected)
    (ls : List Line)
    → Told s t b ls → Leaves (number t.named) b t.place p → IfOk e (SpellsSome (naming s) l)
    → IfOk (with_exit b e) (λ c. Told s (record t { place = p }) c (ls ++ l ∷ []))
exit_told s t b l (Ok (Some e)) p ls h g x =
    let v = number t.named in
    let c = closed b e in
    let same : told_items p v c ≡ told_items t.place v b ++ Exit e ∷ [] =
    (λ i. told_items (g.exited i) v c) ∙ shut_exit v b e ∙ (λ i. sym g.inside i ++ Exit e ∷ [])
    in
    let u : TextState = record t { place = p } in
    told_more s t u b c l ls (Exit e) h x (same, subst (λ p. Lacks p u c) (sym g.exited) tt) h.plain
exit_told s t b l e p ls h g x = grind arith

end_told : (s t : TextState) (b : Built) (p : Expected) (ls : List Line) → Told s t b ls → Taken t line.End p
    → Told s (after t line.End p) b (ls ++ line.End ∷ [])
unfolding counted next_place
end_told s t b p ls h g =
    told_more s t (after t line.End p) b b line.End ls End h refl (by t.place g.next) h.plain
  where
    u : TextState
    u = after t line.End p

    v : ℕ
    v = number t.named

    by : (q : Expected) → next_place q line.End ≡ Some p
        → (told_items p v b ≡ told_items q v b ++ End ∷ []) × Lacks p u b
    by q e = grind arith

-- One line.
pub line_told : (s t : TextState) (b : Built) (l : Line) (p : Expected) (ls : List Line) → Held s t b
    → Told s t b ls → Taken t l p → Extends (after t l p) s
    → IfOk (built s b l) (λ c. Told s (after t l p) c (ls ++ l ∷ []))
unfolding built exit_of counted
line_told s t b (line.Version n) p ls held h g x = version_told s t b n p ls h g
line_told s t b (line.Array w n) p ls held h g x =
    grind (arith, array_place n w t.place p g.next, array_told, after t (line.Array w n) p)
line_told s t b (line.Hidden n) p ls held h g x =
    grind (arith, hidden_place n t.place p g.next, array_told, after t (line.Hidden n) p)
line_told s t b (line.Wave k) p ls held h g x = wave_told s t b k p ls h g
line_told s t b (line.Block l) p ls held h g x = block_told s t b l p ls held h g x
line_told s t b (line.Pad k ts) p ls held h g x = then_ok (Pairs (TargetIsFor s.instr_names) ts) (λ c. Told s
    (after t (line.Pad k ts) p) c (ls ++ line.Pad k ts ∷ [])) (dests_of s ts) _ (dests_for s ts) (λ ds d.
    pad_told s t b k ts ds p ls h g d)
line_told s t b (line.Instr i) p ls held h g x =
    let P : Built → Type 0 = λ c. Told s (after t (line.Instr i) p) c (ls ++ line.Instr i ∷ []) in
    if_ok P (is_known s i.op) _ _
    (λ _. then_ok (Pairs (TargetIsFor s.instr_names) i.dests) P (dests_of s i.dests) _ (dests_for s i.dests)
    (λ ds d.
    then_ok (Pairs (TargetIsFor s.instr_names) i.others) P (dests_of s i.others) _ (dests_for s i.others)
    (λ os o.
    instr_told s t b i ds os p ls held h g x d o)))
    (λ _. tt)
line_told s t b (line.Go l) p ls held h g x =
    grind (arith, exit_told, go_leaves (number t.named) b l t.place p g.next, then_ok, block_for s l)
line_told s t b (line.If l m o) p ls held h g x = let P : Option plain.Exit → Type 0 = SpellsSome (naming s)
    (line.If l m o) in exit_told s t b (line.If l m o) (exit_of s (line.If l m o)) p ls h
    (grind (arith, branch_leaves)) (then_ok (IsFor s.instr_names l) P (instr_of s l) _ (instr_for s l) (λ n k.
    then_ok (IsFor s.block_names m) P (block_of s m) _ (block_for s m) (λ n' k'. then_ok (IsFor s.block_names
    o) P (block_of s o) _ (block_for s o) (grind arith))))
line_told s t b (line.Send l to) p ls held h g x = grind (
  arith,
  exit_told,
  send_leaves (number t.named) b l
      to t.place p g.next,
  then_ok,
  instr_for s l,
  blocks_for s to,
)
line_told s t b line.Stop p ls held h g x = exit_told s t b line.Stop (exit_of s line.Stop) p ls h (grind
    (arith, stop_leaves)) refl
line_told s t b line.End p ls held h g x = end_told s t b p ls h g
