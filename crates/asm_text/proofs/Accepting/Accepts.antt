-- Lines that spell the items of a formed image may stand where they stand, and keep the limits.
use Rattle.std.proofs.Common.{◌≡◌, inl, inr, ℕ, suc, ◌+◌, ◌<◌, ◌≤◌, ◌&&◌, ◌||◌, length, length-append, Bool}
use Rattle.std.proofs.Common.{true, false, List, [], ◌∷◌, ◌++◌, map, Option, Some, None, Ok, refl, sym, ap}
use Rattle.std.proofs.Common.{subst, ◌∙◌, append_assoc, append-nil, arith}
use Rattle.std.specs.List.{AllByRecursion, list_all}
use Rattle.std.proofs.lemmas.List.{map-append}
use Rattle.std.proofs.lemmas.Bool.{and_parts, le-leb, lt-ltb, eq-eqb}
use Rattle.std.proofs.lemmas.Option.{none-some}
use Rattle.ws_isa.specs.Image.{flat}
use Rattle.ws_isa.specs.Formed.{most_instrs, most_blocks, most_waves, most_arrays, most_length, most_cells}
use Rattle.ws_isa.specs.Formed.{most_landings, NameFormed, total_length, DestsIn, ExitWithin, WavesFrom}
use Rattle.ws_isa.specs.Formed.{WavesInOrder, Formed}
use Rattle.asm_text.specs.declared.line.Label.{Label}
use Rattle.asm_text.specs.declared.line.Target.{Target}
use Rattle.asm_text.specs.declared.line.InstrLine.{InstrLine}
use Rattle.asm_text.specs.declared.line.Line.{Line}
use Rattle.asm_text.specs.declared.state.Expected.{Expected}
use Rattle.asm_text.specs.declared.state.TextState.{TextState}
use Rattle.asm_text.specs.Names.{Names}
use Rattle.asm_text.specs.Limits.{first_most_instrs, first_most_blocks, first_most_waves, first_most_landings}
use Rattle.asm_text.specs.State.{opening, next_place, is_number, is_plain, is_above, is_numbered, limit}
use Rattle.asm_text.specs.State.{is_within_cells, is_within, is_new, is_other_version, with_name, counted}
use Rattle.asm_text.specs.State.{checked, behind}
use Rattle.asm_text.specs.Printed.{few_landings, keeps_first_limits}
use Rattle.asm_text.specs.Spelling.{Version, Array, Wave, Block, Pad, Exit, End, instr_items, wave_items}
use Rattle.asm_text.specs.Spelling.{block_items, blocks_items, items, Naming, IsFor, Pairs, TargetIsFor}
use Rattle.asm_text.specs.Spelling.{Spells, SpellsExit, ShortNames, array_line_of}
use Rattle.asm_text.proofs.Accepting.Items.{InstrIn, BlockIn, First, firsts_of, blocks_formed, dests_small}
use Rattle.asm_text.proofs.Keeping.Held.{last_wave}
use Rattle.ws_isa.specs.Image as plain
use Rattle.asm_text.specs.declared.line.Line.TheVariants as line
use Rattle.asm_text.specs.declared.state.Expected.TheVariants as place
use Rattle.asm_text.proofs.Accepting.Labels.{halves, pairs_length, nil_of, cons_of, empty, IsPlain}
use Rattle.asm_text.proofs.Accepting.Labels.{plain_line, label_number, labels_number, targets_number}
use Rattle.asm_text.proofs.Accepting.Labels.{label_short, labels_short, targets_ports, targets_few, Sound}
use Rattle.asm_text.proofs.Accepting.Labels.{own_next, own_new, own_sound}
use Rattle.asm_text.proofs.Accepting.Inside.{port_count, last_pad, Rise, rise_first, rise_rest, PadWithin}
use Rattle.asm_text.proofs.Accepting.Inside.{Inside, behind_instrs, still_inside, still_instrs, op_within}
use Rattle.asm_text.proofs.Accepting.Inside.{Open, Begun, ports_on, limit_of, go_next, branch_next, send_next}
use Rattle.asm_text.proofs.Accepting.Inside.{stop_next, same_wave, new_wave, begun_next}
use Rattle.ws_words.proofs.Lists.{length_map}
use Rattle.ws_words.proofs.Bools.{or_true}

-- Lines lead from one state to another.
abbrev pub Walks : TextState → List Line → TextState → Type 0
Walks s [] t = s ≡ t
Walks s (l ∷ ls) t = (u : TextState) × (behind s l false ≡ Ok u) × Walks u ls t

pub walks_append : (xs ys : List Line) (s t u : TextState) → Walks s xs t → Walks t ys u → Walks s
    (xs ++ ys) u
walks_append [] ys s t u h k = let P : TextState → Type 0 = λ x. Walks x ys u in subst P (sym h) k
walks_append (x ∷ xs) ys s t u h k = (h.0, h.1, walks_append xs ys h.0 t u h.2 k)

-- a line that passes each test
goes : (s : TextState) (l : Line) (p : Expected) → next_place s.place l ≡ Some p → is_other_version l false
    ≡ false → (s.named || is_plain l) ≡ true → is_numbered s l ≡ true → is_within s l ≡ true
    → is_new s l ≡ true → behind s l false ≡ Ok (record (counted s l) { place = p })
unfolding behind checked
goes s l p a o b c d e = rw (a, o, b, c, d, e)

abbrev pub at : Expected → Bool → ℕ → ℕ → ℕ → ℕ → List ℕ → Option ℕ → Names → Names → TextState
at p v a c w b ports pad bs is = record {
  place = p;
  named = v;
  arrays = a;
  cells = c;
  waves = w;
  blocks = b;
  ports = ports;
  pad = pad;
  block_names = bs;
  instr_names = is;
}

-- Arrays.

cells_within : (v : Bool) (a c n : ℕ) → a < most_arrays → n ≤ most_length → c + n ≤ most_cells
    → is_within_cells (at place.Arrays v a c 0 0 [] None [] []) n ≡ true
cells_within v a c n h k m = grind arith

array_goes : (v : Bool) (a c : ℕ) (name : Option (List ℕ)) (n : ℕ) → a < most_arrays
    → n ≤ most_length → c + n ≤ most_cells → NameFormed name
    → behind (at place.Arrays v a c 0 0 [] None [] []) (array_line_of name n) false
    ≡ Ok (at place.Arrays v (a + 1) (c + n) 0 0 [] None [] [])
unfolding next_place is_plain is_numbered is_within is_new counted
array_goes v a c None n h k m f = goes (at place.Arrays v a c 0 0 [] None [] []) (line.Hidden n) place.Arrays
    refl refl (or_true v) refl (cells_within v a c n h k m) refl
array_goes v a c (Some w) n h k m f = goes (at place.Arrays v a c 0 0 [] None [] []) (line.Array w n)
    place.Arrays refl refl (or_true v) refl (grind (arith, lt-ltb, le-leb)) refl

-- what a text says of an image
pub record Setting (image : plain.Image) (v : Bool) (names : Naming) : Type 0 where
  pub formed : Formed image
  pub first : v ≡ false → keeps_first_limits image ≡ true
  pub plain : IsPlain v names
  pub blocks : ShortNames names.blocks
  pub instrs : ShortNames names.instrs

abbrev pub IsIn : plain.Image → plain.Block → Type 0
IsIn image b = BlockIn image (keeps_first_limits image) b

-- Names so far, behind instructions and behind blocks.

pub record Walked (names : Naming) (s : TextState) (ls : List Line) (p : Expected) (v : Bool) (a c w b : ℕ)
    (ports : List ℕ) : Type 0 where
  pub pad : Option ℕ
  pub bs : Names
  pub is : Names
  pub walks : Walks s ls (at p v a c w b ports pad bs is)
  pub blocks : Sound bs names.blocks b
  pub instrs : Sound is names.instrs (length ports)

module _ (image : plain.Image) (v : Bool) (names : Naming) (S : Setting image v names) where
  blocks_empty : (P : Names → Type 0) → names ≡ empty → P names.blocks → P []
  blocks_empty P e h = subst (λ m. P m.blocks) e h

  instrs_empty : (P : Names → Type 0) → names ≡ empty → P names.instrs → P []
  instrs_empty P e h = subst (λ m. P m.instrs) e h

  -- Arrays.

  pub arrays_walk : (ls : List Line) (xs : List plain.Array) (a c a' c' : ℕ) → Pairs (Spells names)
      ls (map Array xs) → a' ≡ a + length xs → c' ≡ c + total_length xs → a' ≤ most_arrays → c' ≤
      most_cells
      → AllByRecursion (λ x. NameFormed x.name) xs → AllByRecursion (λ x. x.length ≤ most_length) xs
      → Walks (at place.Arrays v a c 0 0 [] None [] []) ls
      (at place.Arrays v a' c' 0 0 [] None [] [])
  arrays_walk [] [] a c a' c' h e f g k n l = grind arith
  arrays_walk (y ∷ ls) (x ∷ xs) a c a' c' h e f g k n l = grind (
    arith,
    array_goes,
    arrays_walk ls xs (a + 1)
        (c + x.length) a' c' h.1 (omega (arith, e)) (omega (arith, f)) g k n.1 l.1,
  )
  arrays_walk ls xs a c a' c' h e f g k n l = absurd h

  -- Waves and blocks.

  wave_goes : (p : Expected) (a c w b k : ℕ) (ports : List ℕ) (pad : Option ℕ) (bs is : Names) →
      next_place p (line.Wave k) ≡ Some place.Wave → k ≡ w + 1 → w < limit v first_most_waves
      most_waves
      → behind (at p v a c w b ports pad bs is) (line.Wave k) false ≡ Ok
      (at place.Wave v a c k b ports pad bs is)
  unfolding is_plain is_numbered is_within is_new counted
  wave_goes p a c w b k ports pad bs is q e h = goes (at p v a c w b ports pad bs is) (line.Wave k) place.Wave
      q refl (or_true v) (eq-eqb k (w + 1) e) (grind (arith, lt-ltb)) refl ∙ (grind arith)

  block_goes : (p : Expected) (a c w b n : ℕ) (ports : List ℕ) (pad : Option ℕ) (bs is : Names)
      (own : Label) → next_place p (line.Block own) ≡ Some place.Pads → n ≡ b + 1
      → b < limit v first_most_blocks most_blocks → Sound bs names.blocks b → IsFor names.blocks own
      n
      → behind (at p v a c w b ports pad bs is) (line.Block own) false ≡ Ok
      (at place.Pads v a c w (b + 1) ports None (with_name bs own (b + 1)) is)
  unfolding is_plain is_numbered is_within is_new counted
  block_goes p a c w b n ports pad bs is own q e h s k = goes (at p v a c w b ports pad bs is) (line.Block
      own) place.Pads q refl (grind (arith, plain_line, label_number, blocks_empty)) (own_next names.blocks
      own n b k e) (grind (arith, lt-ltb, label_short)) (grind (arith, own_new))

  -- Pads.

  pad_goes : (a c w b : ℕ) (ports : List ℕ) (last : Option ℕ) (bs is : Names) (p : plain.Pad)
      (ts : List Target) → is_above last p.number ≡ true → PadWithin p → DestsIn image p.dests
      → Pairs (TargetIsFor names.instrs) ts p.dests
      → behind (at place.Pads v a c w b ports last bs is) (line.Pad p.number ts) false ≡ Ok
      (at place.Pads v a c w b ports (Some p.number) bs is)
  unfolding next_place is_plain is_numbered is_within is_new counted
  pad_goes a c w b ports last bs is p ts h k d t = goes (at place.Pads v a c w b ports last bs is) (line.Pad
      p.number ts) place.Pads refl refl (grind (arith, plain_line, targets_number, instrs_empty)) (grind
      (arith, targets_ports, dests_small)) (grind (arith, lt-ltb, targets_few)) refl

  pads_walk : (ls : List Line) (ps : List plain.Pad) (a c w b : ℕ) (ports : List ℕ)
      (last : Option ℕ) (bs is : Names) → Pairs (Spells names) ls (map Pad ps) → Rise last ps
      → AllByRecursion PadWithin ps → AllByRecursion (λ p. DestsIn image p.dests) ps
      → Walks (at place.Pads v a c w b ports last bs is) ls
      (at place.Pads v a c w b ports (last_pad last ps) bs is)
  unfolding last_pad
  pads_walk (l ∷ ls) (p ∷ ps) a c w b ports last bs is h r k d = grind (
    arith,
    pad_goes,
    rise_first,
    rise_rest,
    pads_walk ls ps a c w b ports (Some p.number) bs is h.1 (rise_rest last p ps r) k.1 d.1,
  )
  pads_walk ls ps a c w b ports last bs is h r k d = grind arith

  -- Instructions.

  instr_next : (p : Expected) (i : InstrLine) → Inside p → next_place p (line.Instr i) ≡ Some
      place.Instrs
  unfolding next_place
  instr_next p i h = grind arith

  instr_goes : (p : Expected) (a c w b n : ℕ) (ports : List ℕ) (pad : Option ℕ) (bs is : Names)
      (i : plain.Instr) (own : Label) (ts os : List Target) → Inside p → n ≡ length ports + 1
      → length ports < limit v first_most_instrs most_instrs → InstrIn image i → Sound is
      names.instrs (length ports) → IsFor names.instrs own n
      → Pairs (TargetIsFor names.instrs) ts i.dests → Pairs (TargetIsFor names.instrs) os i.others
      → behind (at p v a c w b ports pad bs is)
      (line.Instr (record {
        own = own;
        op = i.op;
        note = i.note;
        fits = true;
        dests = ts;
        others
            = os;
      })) false
      ≡ Ok (at place.Instrs v a c w b (ports ++ port_count i ∷ []) pad bs
      (with_name is own (length ports + 1)))
  unfolding is_plain is_numbered is_within is_new counted
  instr_goes p a c w b n ports pad bs is i own ts os h e l g s k t o = let x : InstrLine = record {
    own = own;
    op = i.op;
    note = i.note;
    fits = true;
    dests = ts;
    others = os;
  } in
      let small = dests_small image
      i.dests S.formed g.dests in
      let smalls = dests_small image i.others S.formed g.others in goes (at p v a
      c w b ports pad bs is) (line.Instr x) place.Instrs (instr_next p x h) refl
      (grind (arith, plain_line, label_number, instrs_empty, targets_number))
      (grind (arith, own_next, targets_ports))
      (grind (arith, lt-ltb, label_short, op_within, targets_few)) (grind (arith, own_new))

  instrs_walk : (ls : List Line) (xs : List plain.Instr) (p : Expected) (a c w b n : ℕ)
      (ports : List ℕ) (pad : Option ℕ) (bs is : Names) → Pairs (Spells names) ls (instr_items n xs)
      → Inside p
      → n ≡ length ports + 1 → length ports + length xs ≤ limit v first_most_instrs most_instrs →
      AllByRecursion (InstrIn image) xs
      → Sound bs names.blocks b → Sound is names.instrs (length ports)
      → Walked names (at p v a c w b ports pad bs is) ls (behind_instrs p xs) v a c w b
      (ports ++ map port_count xs)
  unfolding behind_instrs
  instrs_walk [] [] p a c w b n ports pad bs is h q e l g sb si =
      let same : ports ≡ ports ++ [] = sym (append-nil ports) in
      record {
        pad = pad;
        bs = bs;
        is = is;
        walks = λ i. at p v a c w b (same i) pad bs is;
        blocks = sb;
        instrs = subst (λ x. Sound is names.instrs (length x)) same si;
      }
  instrs_walk (y ∷ ls) (x ∷ xs) p a c w b n ports pad bs is h q e l g sb si =
      let z = h.0 in
      let ports' = ports ++ port_count x ∷ [] in
      let size : length ports' ≡ length ports + 1 = length-append ports (port_count x ∷ []) in
      let most : length ports' + length xs ≤ limit v first_most_instrs most_instrs = omega
      (arith, l, size) in
      let is' = with_name is z.0 (length ports + 1) in
      let sound : Sound is' names.instrs (length ports') = subst (Sound is' names.instrs) (sym size)
      (own_sound is names.instrs z.0 n (length ports) si z.4 e) in
      let s = at p v a c w b ports pad bs is in
      let u = at place.Instrs v a c w b ports' pad bs is' in
      let one = ap (λ m. behind s m false) z.3 ∙ instr_goes p a c w b n ports pad bs is x z.0 z.1
      z.2 q e (omega (arith, l)) g.0 si z.4 z.5 z.6 in
      let rest = instrs_walk ls xs place.Instrs a c w b (n + 1) ports' pad bs is' h.1 tt
      (omega (arith, e, size)) most g.1 sb sound in
      let joined : ports' ++ map port_count xs ≡ ports ++ port_count x ∷ map port_count xs =
      append_assoc ports (port_count x ∷ []) (map port_count xs) in
      let P : TextState → Type 0 = Walks u ls in
      record {
        pad = rest.pad;
        bs = rest.bs;
        is = rest.is;
        walks = (
          u,
          one,
          subst P (λ i. at (still_instrs xs i) v a c w b (joined i) rest.pad rest.bs rest.is) rest.walks,
        );
        blocks = rest.blocks;
        instrs = subst (λ m. Sound rest.is names.instrs (length m)) joined rest.instrs;
      }
  instrs_walk ls xs p a c w b n ports pad bs is h q e l g sb si = absurd h

  -- Exits.

  abbrev Keeps : plain.Exit → Type 0
  Keeps (plain.Landings s ls) = length ls ≤ limit v first_most_landings most_landings
  Keeps e = Unit {0}

  exit_goes : (p : Expected) (a c w b : ℕ) (ports : List ℕ) (pad : Option ℕ) (bs is : Names) (l : Line)
      (e : plain.Exit) → Inside p → Keeps e → SpellsExit names l e
      → behind (at p v a c w b ports pad bs is) l false ≡ Ok
      (at place.Exited v a c w b ports pad bs is)
  unfolding is_plain is_numbered is_within is_new counted
  exit_goes p a c w b ports pad bs is l (plain.Goto n) h k x = let s = at p v a c w b ports pad bs is in ap (λ
      m. behind s m false) x.1 ∙ goes s (line.Go x.0) place.Exited (go_next p x.0 h) refl
      (grind (arith, plain_line, label_number, blocks_empty)) refl (grind (arith, label_short)) refl
  exit_goes p a c w b ports pad bs is l (plain.Branch i n o) h k x = let s = at p v a c w b ports pad bs is in
      ap (λ m. behind s m false) x.3 ∙ goes s (line.If x.0 x.1 x.2) place.Exited (branch_next p x.0 x.1 x.2 h)
      refl (grind (arith, plain_line, label_number, instrs_empty, blocks_empty)) refl
      (grind (arith, label_short)) refl
  exit_goes p a c w b ports pad bs is l (plain.Landings i ns) h k x =
      let s = at p v a c w b ports pad bs is in
      let size : length x.1 ≡ length ns = grind (arith, pairs_length) in
      ap (λ m. behind s m false) x.2 ∙ goes s (line.Send x.0 x.1) place.Exited (send_next p x.0 x.1 h) refl
      (plain_line v (is_number x.0 && list_all is_number x.1) names S.plain (λ m.
      rw (
        label_number x.0 i (instrs_empty (λ y. IsFor y x.0 i) m x.3),
        labels_number x.1 ns (blocks_empty (λ y. Pairs (IsFor y) x.1 ns) m x.4),
      )))
      refl
      (rw (
        label_short names.instrs x.0 i S.instrs x.3,
        size,
        le-leb (length ns) (limit v first_most_landings most_landings) k,
        labels_short names.blocks x.1 ns S.blocks x.4,
      ))
      refl
  exit_goes p a c w b ports pad bs is l plain.Stop h k x =
      let s = at p v a c w b ports pad bs is in
      ap (λ m. behind s m false) x ∙ goes s line.Stop place.Exited (stop_next p h) refl
      (or_true v) refl refl refl

  exit_walk : (ls : List Line) (p : Expected) (a c w b : ℕ) (ports : List ℕ) (pad : Option ℕ)
      (bs is : Names) (e : plain.Exit) → Pairs (Spells names) ls (Exit e ∷ []) → Inside p → Keeps e
      → Walks (at p v a c w b ports pad bs is) ls (at place.Exited v a c w b ports pad bs is)
  exit_walk ls p a c w b ports pad bs is e h i k =
      let s = at p v a c w b ports pad bs is in
      let t = at place.Exited v a c w b ports pad bs is in
      let m = cons_of (Spells names) ls (Exit e) [] h in
      let none = nil_of (Spells names) m.1 m.4 in
      subst (λ l. Walks s l t) (sym m.2) (t, exit_goes p a c w b ports pad bs is m.0 e i k m.3, grind arith)

  -- Blocks.

  wave_keeps : (x : plain.Block) → IsIn image x → x.wave ≤ limit v first_most_waves most_waves
  wave_keeps x g = grind arith

  landings_keep : (e : plain.Exit) → (v ≡ false → few_landings e ≡ true) → ExitWithin e → Keeps e
  landings_keep e h w = grind arith

  record Opened (a c k b : ℕ) (ports : List ℕ) (pad : Option ℕ) (bs is : Names) (s : TextState)
      (ls : List Line) : Type 0 where
    p : Expected
    begun : Begun p
    walks : Walks s ls (at p v a c k b ports pad bs is)

  wave_walk : (ls : List Line) (p : Expected) (a c w b k : ℕ) (ports : List ℕ) (pad : Option ℕ)
      (bs is : Names) → Pairs (Spells names) ls (wave_items w k) → next_place p (line.Wave k) ≡ Some
      place.Wave
      → k ≡ suc w → k ≤ limit v first_most_waves most_waves → Opened a c k b ports pad bs is
      (at p v a c w b ports pad bs is) ls
  wave_walk ls p a c w b k ports pad bs is h q e f =
      let s = at p v a c w b ports pad bs is in
      let t = at place.Wave v a c k b ports pad bs is in
      let one : Pairs (Spells names) ls (Wave k ∷ []) = grind (arith, new_wave) in
      let m = cons_of (Spells names) ls (Wave k) [] one in
      let none = nil_of (Spells names) m.1 m.4 in
      let step = ap (λ l. behind s l false) m.3 ∙ wave_goes p a c w b k ports pad bs is q (omega (arith, e))
      (omega (arith, e, f)) in
      let walks : Walks s ls t = subst (λ l. Walks s l t) (sym m.2)
      (t, step, subst (λ l. Walks t l t) (sym none) refl) in
      grind arith

  opens : (ls : List Line) (p : Expected) (a c w b k : ℕ) (ports : List ℕ) (pad : Option ℕ)
      (bs is : Names) → Pairs (Spells names) ls (wave_items w k) → Open p w k → k ≤ limit v
      first_most_waves most_waves
      → Opened a c k b ports pad bs is (at p v a c w b ports pad bs is) ls
  unfolding next_place
  opens ls place.Exited a c w b k ports pad bs is h (inl e) f =
      let s = at place.Exited v a c w b ports pad bs is in
      let t = at place.Exited v a c k b ports pad bs is in
      let none = nil_of (Spells names) ls (subst (Pairs (Spells names) ls) (same_wave w k e) h) in
      let same : s ≡ t = (λ i. at place.Exited v a c (sym e i) b ports pad bs is) in
      record { p = place.Exited; begun = tt; walks = subst (λ l. Walks s l t) (sym none) same }
  opens ls place.Exited a c w b k ports pad bs is h (inr e) f = grind (arith, wave_walk)
  opens ls place.Arrays a c w b k ports pad bs is h e f = grind (arith, wave_walk)
  opens ls p a c w b k ports pad bs is h e f = absurd e

  block_walk : (ls : List Line) (p : Expected) (a c w b n m : ℕ) (ports : List ℕ) (pad : Option ℕ)
      (bs is : Names) (x : plain.Block) → Pairs (Spells names) ls (block_items w n m x) → IsIn image
      x
      → Open p w x.wave → n ≡ b + 1 → m ≡ length ports + 1 → n ≤ limit v first_most_blocks
      most_blocks
      → length ports + length x.instrs ≤ limit v first_most_instrs most_instrs → Sound bs
      names.blocks b → Sound is names.instrs (length ports)
      → Walked names (at p v a c w b ports pad bs is) ls place.Exited v a c x.wave (b + 1)
      (ports ++ map port_count x.instrs)
  block_walk ls p a c w b n m ports pad bs is x h g o e d f l sb si =
      let R = Spells names in
      let s = at p v a c w b ports pad bs is in
      let opening_items = wave_items w x.wave in
      let block = Block n ∷ map Pad x.pads in
      let h1 = halves R ls (opening_items ++ block ++ instr_items m x.instrs) (Exit x.exit ∷ []) h in
      let h2 = halves R h1.front (opening_items ++ block) (instr_items m x.instrs) h1.first in
      let h3 = halves R h2.front opening_items block h2.first in
      let head = cons_of R h3.back (Block n) (map Pad x.pads) h3.last in
      let own = head.3 in
      let first_line = opens h3.front p a c w b x.wave ports pad bs is h3.first o (wave_keeps x g) in
      let bs' = with_name bs own.0 (b + 1) in
      let ports' = ports ++ map port_count x.instrs in
      let u = at place.Pads v a c x.wave (b + 1) ports None bs' is in
      let pads' = last_pad None x.pads in
      let before = at first_line.p v a c x.wave b ports pad bs is in
      let step : behind before head.0 false ≡ Ok u = grind (arith, block_goes, begun_next) in
      let pads = pads_walk head.1 x.pads a c x.wave (b + 1) ports None bs' is head.4 g.rise g.within.pads
      g.pads in
      let begun : Walks before h3.back (at place.Pads v a c x.wave (b + 1) ports pads' bs' is) =
      grind arith in
      let instrs = instrs_walk h2.back x.instrs place.Pads a c x.wave (b + 1) m ports pads' bs' is h2.last tt
      d l g.instrs (own_sound bs names.blocks own.0 n b sb own.2 e) si in
      let q = behind_instrs place.Pads x.instrs in
      let inside = at q v a c x.wave (b + 1) ports' instrs.pad instrs.bs instrs.is in
      let end = at place.Exited v a c x.wave (b + 1) ports' instrs.pad instrs.bs instrs.is in
      let last = exit_walk h1.back q a c x.wave (b + 1) ports' instrs.pad instrs.bs instrs.is x.exit h1.last
      (still_inside place.Pads x.instrs tt) (grind (arith, landings_keep, and_parts)) in
      let walk3 : Walks s h2.front (at place.Pads v a c x.wave (b + 1) ports pads' bs' is) =
      grind (arith, walks_append) in
      let walk2 : Walks s h1.front inside = grind (arith, walks_append) in
      grind (arith, walks_append)

  blocks_walk : (xs : List plain.Block) (ls : List Line) (a c w b n m b' : ℕ)
      (ports ports' : List ℕ) (pad : Option ℕ) (bs is : Names) → Pairs (Spells names) ls
      (blocks_items w n m xs)
      → AllByRecursion (IsIn image) xs → WavesFrom w xs → n ≡ b + 1 → m ≡ length ports + 1 → b' ≡ b
      + length xs → ports' ≡ ports ++ map port_count (flat xs)
      → b' ≤ limit v first_most_blocks most_blocks → length ports + length (flat xs) ≤ limit v
      first_most_instrs most_instrs → Sound bs names.blocks b → Sound is names.instrs
      (length ports)
      → Walked names (at place.Exited v a c w b ports pad bs is) ls place.Exited v a c
      (last_wave w xs) b' ports'
  blocks_walk [] ls a c w b n m b' ports ports' pad bs is h g o e d eb ep f l sb si =
      let p : b ≡ b' = omega (arith, eb) in
      let q : ports ≡ ports' = sym (ep ∙ append-nil ports) in
      let none = nil_of (Spells names) ls h in
      let s = at place.Exited v a c w b ports pad bs is in
      let t = at place.Exited v a c w b' ports' pad bs is in
      let same : s ≡ t = (λ i. at place.Exited v a c w (p i) (q i) pad bs is) in
      record {
        pad = pad;
        bs = bs;
        is = is;
        walks = subst (λ z. Walks s z t) (sym none) same;
        blocks = subst (Sound bs names.blocks) p sb;
        instrs = subst (λ z. Sound is names.instrs (length z)) q si;
      }
  blocks_walk (x ∷ xs) ls a c w b n m b' ports ports' pad bs is h g o e d eb ep f l sb si =
      let R = Spells names in
      let behind_x = ports ++ map port_count x.instrs in
      let size : length behind_x ≡ length ports + length x.instrs =
      grind (arith, length-append, port_count, length_map) in
      let both : length (x.instrs ++ flat xs) ≡ length x.instrs + length (flat xs) = length-append x.instrs
      (flat xs) in
      let parts = halves R ls (block_items w n m x) (blocks_items x.wave (n + 1) (m + length x.instrs) xs) h
      in
      let one = block_walk parts.front place.Exited a c w b n m ports pad bs is x parts.first g.0 o.0 e d
      (omega (arith, f, eb, e)) (omega (arith, l, both)) sb si in
      let joined = ports_on ports x.instrs (flat xs) in
      grind (
        arith,
        last_wave,
        walks_append,
        blocks_walk xs parts.back a c x.wave (b + 1) (n + 1) (m + length x.instrs) b' behind_x ports' one.pad
            one.bs one.is parts.last g.1 o.1 (omega (arith, e)) (omega (arith, d, size)) (omega (arith, eb))
            (ep ∙ joined) f (omega (arith, l, both, size)) one.blocks one.instrs,
      )

  all_walk : (xs : List plain.Block) (ls : List Line) (a c : ℕ) → Pairs (Spells names) ls
      (blocks_items 0 1 1 xs) → AllByRecursion (IsIn image) xs → WavesInOrder xs
      → length xs ≤ limit v first_most_blocks most_blocks → length (flat xs) ≤ limit v
      first_most_instrs most_instrs
      → Walked names (at place.Arrays v a c 0 0 [] None [] []) ls place.Exited v a c
      (last_wave 0 xs) (length xs) (map port_count (flat xs))
  all_walk [] ls a c h g o f l = absurd o
  all_walk (x ∷ xs) ls a c h g o f l =
      let R = Spells names in
      let behind_x = map port_count x.instrs in
      let size : length behind_x ≡ length x.instrs = length_map port_count x.instrs in
      let both : length (x.instrs ++ flat xs) ≡ length x.instrs + length (flat xs) = length-append x.instrs
      (flat xs) in
      let on : WavesFrom x.wave xs = grind arith in
      let parts = halves R ls (block_items 0 1 1 x) (blocks_items x.wave 2 (1 + length x.instrs) xs) h in
      let nothing : Sound [] names.blocks 0 = λ w m e. absurd (none-some m e) in
      let none : Sound [] names.instrs 0 = λ w m e. absurd (none-some m e) in
      let one = block_walk parts.front place.Arrays a c 0 0 1 1 [] None [] [] x parts.first g.0 o.0 refl refl
      (omega (arith, f)) (omega (arith, l, both)) nothing none in
      let rest = blocks_walk xs parts.back a c x.wave 1 2 (1 + length x.instrs) (suc (length xs)) behind_x
      (map port_count (x.instrs ++ flat xs)) one.pad one.bs one.is parts.last g.1 on refl
      (omega (arith, size)) (omega arith) (map-append port_count x.instrs (flat xs)) f
      (omega (arith, l, both, size)) one.blocks one.instrs in
      grind (arith, last_wave, port_count, walks_append)

  end_goes : (a c w b : ℕ) (ports : List ℕ) (pad : Option ℕ) (bs is : Names) → behind
      (at place.Exited v a c w b ports pad bs is) line.End false ≡ Ok
      (at place.Ended v a c w b ports pad bs is)
  unfolding next_place is_plain is_numbered is_within is_new counted
  end_goes a c w b ports pad bs is = goes (at place.Exited v a c w b ports pad bs is) line.End
      place.Ended refl refl (or_true v) refl refl refl

  -- The whole text.
  pub text_walk : (version : ℕ) (ls : List Line) → Pairs (Spells names) ls (items version image) →
      behind opening (line.Version version) false ≡ Ok (at place.Arrays v 0 0 0 0 [] None [] [])
      → Walked names opening ls place.Ended v (length image.arrays) (total_length image.arrays)
      (last_wave 0 image.blocks) (length image.blocks) (map port_count (flat image.blocks))
  text_walk version ls h q =
      let R = Spells names in
      let f = S.formed in
      let a = length image.arrays in
      let c = total_length image.arrays in
      let top = Version version ∷ map Array image.arrays in
      let few : v ≡ false → First image = λ e. firsts_of image (S.first e) in
      let h1 = halves R ls (top ++ blocks_items 0 1 1 image.blocks) (End ∷ []) h in
      let h2 = halves R h1.front top (blocks_items 0 1 1 image.blocks) h1.first in
      let head = cons_of R h2.front (Version version) (map Array image.arrays) h2.first in
      let last = cons_of R h1.back End [] h1.last in
      let none = nil_of R last.1 last.4 in
      let start = at place.Arrays v 0 0 0 0 [] None [] [] in
      let open_state = at place.Arrays v a c 0 0 [] None [] [] in
      let arrays = arrays_walk head.1 image.arrays 0 0 a c head.4 (omega arith) (omega arith)
      f.arrays.few f.arrays.cells f.arrays.names f.arrays.lengths in
      let first : Walks opening h2.front open_state = grind arith in
      let blocks = all_walk image.blocks h2.back a c h2.last (blocks_formed image f) f.waves
      (grind (arith, limit_of))
      (grind (arith, limit_of))
      in
      let w = last_wave 0 image.blocks in
      let b = length image.blocks in
      let ports = map port_count (flat image.blocks) in
      let exited = at place.Exited v a c w b ports blocks.pad blocks.bs blocks.is in
      let end = at place.Ended v a c w b ports blocks.pad blocks.bs blocks.is in
      let walk2 : Walks opening h1.front exited = grind (arith, walks_append) in
      let ended : Walks exited h1.back end =
      subst (λ z. Walks exited z end) (sym last.2) (end, grind (arith, end_goes), grind arith)
      in
      record {
        pad = blocks.pad;
        bs = blocks.bs;
        is = blocks.is;
        walks = grind (arith, walks_append);
        blocks = blocks.blocks;
        instrs = blocks.instrs;
      }
