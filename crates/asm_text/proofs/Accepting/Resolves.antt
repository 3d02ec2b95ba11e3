-- Building of lines that spell the items of an image gives its parts.
use Rattle.std.proofs.Common.{◌≡◌, ℕ, ◌+◌, ◌≤◌, ◌==◌, length, Bool, true, false, List, [], ◌∷◌, ◌++◌, map}
use Rattle.std.proofs.Common.{Some, Ok, refl, sym, ap, subst, ◌∙◌, append_assoc, append-nil, suc, ◌<◌}
use Rattle.std.proofs.Common.{slice_get, arith}
use Rattle.std.specs.List.{AllByRecursion}
use Rattle.std.proofs.lemmas.Bool.{lt-ltb, eqb-true}
use Rattle.ws_isa.specs.declared.instr.Dest.{Dest}
use Rattle.ws_isa.specs.Image.{flat, ports, IsInstr, IsBlock, instr_at, no_instr}
use Rattle.ws_isa.specs.Formed.{ExitIn, DestIn, DestsIn, Formed, OpIn}
use Rattle.asm_text.specs.declared.line.Label.{Label}
use Rattle.asm_text.specs.declared.line.Target.{Target}
use Rattle.asm_text.specs.declared.line.Line.{Line}
use Rattle.asm_text.specs.declared.state.TextState.{TextState}
use Rattle.asm_text.specs.Names.{Names, named}
use Rattle.asm_text.specs.Building.{place_of, instr_of, block_of, dest_of, each, dests_of, blocks_of, Built}
use Rattle.asm_text.specs.Building.{exit_of, built, or_zero, ports_at, is_known}
use Rattle.asm_text.specs.Spelling.{Version, Array, Wave, Block, Pad, Exit, End, instr_items, wave_items}
use Rattle.asm_text.specs.Spelling.{block_items, blocks_items, items, Naming, IsFor, Pairs, TargetIsFor}
use Rattle.asm_text.specs.Spelling.{Spells, SpellsExit, array_line_of}
use Rattle.asm_text.proofs.Accepting.Items.{InstrIn, blocks_formed}
use Rattle.asm_text.proofs.Keeping.Held.{last_wave}
use Rattle.ws_isa.specs.declared.instr.Op.{Op}
use Rattle.asm_text.specs.Printed.{version}
use Rattle.ws_isa.specs.Image as plain
use Rattle.asm_text.proofs.Accepting.Labels.{halves, nil_of, cons_of, Sound}
use Rattle.asm_text.proofs.Accepting.Inside.{port_count}
use Rattle.asm_text.proofs.Accepting.Accepts.{IsIn}
use Rattle.ws_words.proofs.Lists.{length_map}
use Rattle.ws_words.specs.Items.{nth, or_else}

-- The counts of an image, as the state behind its text has them.
pub record Counts (image : plain.Image) (s : TextState) : Type 0 where
  pub arrays : s.arrays ≡ length image.arrays
  pub blocks : s.blocks ≡ length image.blocks
  pub ports : s.ports ≡ map port_count (flat image.blocks)

pub count_is : (image : plain.Image) (s : TextState) → Counts image s → length s.ports ≡ length
    (flat image.blocks)
count_is image s c = ap length c.ports ∙ length_map port_count (flat image.blocks)

nth_ports : (xs : List plain.Instr) (k : ℕ) → k < length xs
    → or_zero (slice_get (map port_count xs) k) ≡ port_count (or_else (nth xs k) no_instr)
nth_ports (x ∷ xs) (suc k) h = nth_ports xs k (omega (arith, h))
nth_ports xs k h = grind arith

pub ports_found : (image : plain.Image) (s : TextState) (n : ℕ) → Counts image s → IsInstr image n
    → ports_at s.ports n ≡ ports image n
unfolding ports instr_at
ports_found image s n c h = grind (arith, nth_ports)

pub array_known : (image : plain.Image) (s : TextState) (op : Op) → Counts image s → OpIn image op
    → is_known s op ≡ true
array_known image s op c h = grind arith

pub array_built : (s : TextState) (b : Built) (a : plain.Array)
    → built s b (array_line_of a.name a.length) ≡ Ok (record b { arrays = b.arrays ++ a ∷ [] })
unfolding built
array_built s b a = grind arith

abbrev pub parts : List plain.Array → List plain.Block → ℕ → List plain.Pad → List plain.Instr →
    Built
parts as' bs w ps is = record { arrays = as'; blocks = bs; wave = w; pads = ps; instrs = is }

-- A label that stands for a number that is there is read as that number.

pub place_is : (names all : Names) (count : ℕ) (l : Label) (n : ℕ) → Sound names all count →
    ((w : List ℕ) (k : ℕ) → named all w ≡ Some k → (m : ℕ) × (named names w ≡ Some m))
    → IsFor all l n → 1 ≤ n → n ≤ count → place_of names count l ≡ Ok n
unfolding place_of
place_is names all count l n s has h a b = grind arith

abbrev pub Makes : TextState → Built → List Line → Built → Type 0
Makes s b [] d = b ≡ d
Makes s b (l ∷ ls) d = (e : Built) × (built s b l ≡ Ok e) × Makes s e ls d

makes_append : (s : TextState) (xs ys : List Line) (b d e : Built) → Makes s b xs d → Makes s d ys e →
    Makes s b (xs ++ ys) e
makes_append s [] ys b d e h k = let P : Built → Type 0 = λ x. Makes s x ys e in subst P (sym h) k
makes_append s (x ∷ xs) ys b d e h k = (h.0, h.1, makes_append s xs ys h.0 d e h.2 k)

-- all labels are read as what they stand for
pub record Resolved (image : plain.Image) (s : TextState) (names : Naming) : Type 0 where
  pub counts : Counts image s
  pub block : (l : Label) (n : ℕ) → IsFor names.blocks l n → IsBlock image n → block_of s l ≡ Ok n
  pub instr : (l : Label) (n : ℕ) → IsFor names.instrs l n → IsInstr image n → instr_of s l ≡ Ok n

module _ (image : plain.Image) (s : TextState) (names : Naming) (r : Resolved image s names) where
  dest_is : (t : Target) (d : Dest) → TargetIsFor names.instrs t d → DestIn image d → dest_of s t ≡
      Ok d
  unfolding dest_of
  dest_is t d h k = grind (arith, ports_found, lt-ltb)

  dests_are : (ts : List Target) (ds : List Dest) → Pairs (TargetIsFor names.instrs) ts ds → DestsIn
      image ds → dests_of s ts ≡ Ok ds
  unfolding each
  dests_are (t ∷ ts) (d ∷ ds) h k = rw (dest_is t d h.0 k.0, dests_are ts ds h.1 k.1)
  dests_are ts ds h k = grind arith

  blocks_are : (ls : List Label) (ns : List ℕ) → Pairs (IsFor names.blocks) ls ns → AllByRecursion
      (IsBlock image) ns → blocks_of s ls ≡ Ok ns
  unfolding each
  blocks_are (l ∷ ls) (n ∷ ns) h k = rw (r.block l n h.0 k.0, blocks_are ls ns h.1 k.1)
  blocks_are ls ns h k = grind arith

  arrays_make : (ls : List Line) (as' bs : List plain.Array) → Pairs (Spells names) ls
      (map Array bs) → Makes s (parts as' [] 0 [] []) ls (parts (as' ++ bs) [] 0 [] [])
  arrays_make [] as' [] h = λ i. parts (sym (append-nil as') i) [] 0 [] []
  arrays_make (l ∷ ls) as' (a ∷ bs) h =
      grind (arith, array_built, append_assoc, arrays_make ls (as' ++ a ∷ []) bs h.1)
  arrays_make ls as' bs h = absurd h

  pads_make : (ls : List Line) (as' : List plain.Array) (bs : List plain.Block) (w : ℕ)
      (qs ps : List plain.Pad) → Pairs (Spells names) ls (map Pad ps)
      → AllByRecursion (λ p. DestsIn image p.dests) ps → Makes s (parts as' bs w qs []) ls
      (parts as' bs w (qs ++ ps) [])
  unfolding built
  pads_make [] as' bs w qs [] h d = λ i. parts as' bs w (sym (append-nil qs) i) []
  pads_make (l ∷ ls) as' bs w qs (p ∷ ps) h d =
      grind (arith, dests_are, append_assoc, pads_make ls as' bs w (qs ++ p ∷ []) ps h.1 d.1)
  pads_make ls as' bs w qs ps h d = absurd h

  instrs_make : (ls : List Line) (as' : List plain.Array) (bs : List plain.Block) (w : ℕ)
      (ps : List plain.Pad) (js is : List plain.Instr) (n : ℕ) → Pairs (Spells names) ls
      (instr_items n is)
      → AllByRecursion (InstrIn image) is → Makes s (parts as' bs w ps js) ls
      (parts as' bs w ps (js ++ is))
  unfolding built
  instrs_make [] as' bs w ps js [] n h g = λ i. parts as' bs w ps (sym (append-nil js) i)
  instrs_make (l ∷ ls) as' bs w ps js (x ∷ xs) n h g = grind (
    arith,
    array_known,
    dests_are,
    append_assoc,
    instrs_make ls as' bs w ps (js ++ x ∷ []) xs (n + 1) h.1 g.1,
  )
  instrs_make ls as' bs w ps js is n h g = absurd h

  exit_makes : (l : Line) (as' : List plain.Array) (bs : List plain.Block) (w : ℕ)
      (ps : List plain.Pad) (is : List plain.Instr) (e : plain.Exit) → SpellsExit names l e → ExitIn
      image e
      → built s (parts as' bs w ps is) l ≡ Ok
      (parts as' (bs ++ record { wave = w; pads = ps; instrs = is; exit = e } ∷ []) w [] [])
  unfolding built exit_of
  exit_makes l as' bs w ps is e x h = grind (arith, blocks_are)

  wave_makes : (ls : List Line) (as' : List plain.Array) (bs : List plain.Block) (w k : ℕ) → Pairs
      (Spells names) ls (wave_items w k) → Makes s (parts as' bs w [] []) ls (parts as' bs k [] [])
  unfolding built
  wave_makes ls as' bs w k h = by (w == k) refl
    where
      b : Built
      b = parts as' bs w [] []

      c : Built
      c = parts as' bs k [] []

      by : (t : Bool) → (w == k) ≡ t → Makes s b ls c
      by true e = grind (arith, nil_of, eqb-true)
      by false e =
          let m = cons_of (Spells names) ls (Wave k) [] (rw e at h) in
          let none = nil_of (Spells names) m.1 m.4 in
          let one : Makes s b (m.0 ∷ m.1) c = (c, ap (built s b) m.3, grind arith) in
          grind arith

  block_makes : (ls : List Line) (as' : List plain.Array) (bs : List plain.Block) (w n m : ℕ)
      (x : plain.Block) → Pairs (Spells names) ls (block_items w n m x) → IsIn image x
      → Makes s (parts as' bs w [] []) ls (parts as' (bs ++ x ∷ []) x.wave [] [])
  unfolding built exit_of
  block_makes ls as' bs w n m x h g =
      let R = Spells names in
      let top = wave_items w x.wave in
      let block = Block n ∷ map Pad x.pads in
      let h1 = halves R ls (top ++ block ++ instr_items m x.instrs) (Exit x.exit ∷ []) h in
      let h2 = halves R h1.front (top ++ block) (instr_items m x.instrs) h1.first in
      let h3 = halves R h2.front top block h2.first in
      let head = cons_of R h3.back (Block n) (map Pad x.pads) h3.last in
      let last = cons_of R h1.back (Exit x.exit) [] h1.last in
      let none = nil_of R last.1 last.4 in
      let b = parts as' bs w [] [] in
      let before = parts as' bs x.wave [] [] in
      let padded = parts as' bs x.wave x.pads [] in
      let full = parts as' bs x.wave x.pads x.instrs in
      let end = parts as' (bs ++ x ∷ []) x.wave [] [] in
      let wave = wave_makes h3.front as' bs w x.wave h3.first in
      let begun : Makes s before h3.back padded = subst (λ z. Makes s before z padded) (sym head.2)
      (before, grind arith, pads_make head.1 as' bs x.wave [] x.pads head.4 g.pads) in
      let instrs = instrs_make h2.back as' bs x.wave x.pads [] x.instrs m h2.last g.instrs in
      let exit : Makes s full h1.back end = subst (λ z. Makes s full z end) (sym last.2)
      (end, grind (arith, exit_makes), grind arith) in
      let make3 : Makes s b h2.front padded = grind (arith, makes_append) in
      grind (arith, makes_append)

  blocks_make : (xs : List plain.Block) (ls : List Line) (as' : List plain.Array)
      (bs : List plain.Block) (w n m : ℕ) → Pairs (Spells names) ls (blocks_items w n m xs) →
      AllByRecursion (IsIn image) xs
      → Makes s (parts as' bs w [] []) ls (parts as' (bs ++ xs) (last_wave w xs) [] [])
  blocks_make [] ls as' bs w n m h g =
      let b = parts as' bs w [] [] in
      let none = nil_of (Spells names) ls h in
      let same : b ≡ parts as' (bs ++ []) w [] [] = (λ i. parts as' (sym (append-nil bs) i) w [] []) in
      grind arith
  blocks_make (x ∷ xs) ls as' bs w n m h g =
      let b = parts as' bs w [] [] in
      let c = parts as' (bs ++ x ∷ []) x.wave [] [] in
      let cut = halves (Spells names) ls (block_items w n m x) (blocks_items x.wave (n + 1) (m + length
      x.instrs) xs) h in
      let one = block_makes cut.front as' bs w n m x cut.first g.0 in
      grind (
        arith,
        last_wave,
        append_assoc,
        makes_append,
        blocks_make xs cut.back as' (bs ++ x ∷ []) x.wave (n + 1) (m + length x.instrs) cut.last g.1,
      )

  pub text_makes : (version : ℕ) (ls : List Line) → Formed image → Pairs (Spells names) ls
      (items version image)
      → Makes s (parts [] [] 0 [] []) ls
      (parts image.arrays image.blocks (last_wave 0 image.blocks) [] [])
  unfolding built exit_of
  text_makes version ls f h =
      let R = Spells names in
      let top = Version version ∷ map Array image.arrays in
      let h1 = halves R ls (top ++ blocks_items 0 1 1 image.blocks) (End ∷ []) h in
      let h2 = halves R h1.front top (blocks_items 0 1 1 image.blocks) h1.first in
      let head = cons_of R h2.front (Version version) (map Array image.arrays) h2.first in
      let last = cons_of R h1.back End [] h1.last in
      let none = nil_of R last.1 last.4 in
      let start = parts [] [] 0 [] [] in
      let with_arrays = parts image.arrays [] 0 [] [] in
      let end = parts image.arrays image.blocks (last_wave 0 image.blocks) [] [] in
      let first : Makes s start h2.front with_arrays = subst (λ z. Makes s start z with_arrays) (sym head.2)
      (start, ap (built s start) head.3, arrays_make head.1 [] image.arrays head.4) in
      let blocks = blocks_make image.blocks h2.back image.arrays [] 0 1 1 h2.last (blocks_formed image f) in
      let make2 : Makes s start h1.front end = grind (arith, makes_append) in
      let ended : Makes s end h1.back end = subst (λ z. Makes s end z end) (sym last.2)
      (end, ap (built s end) last.3, grind arith) in
      grind (arith, makes_append)
