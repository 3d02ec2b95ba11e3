-- The printed form of a formed image spells its items, with numbers alone.
use Rattle.std.proofs.Common.{◌≡◌, ◌⊎◌, ℕ, ◌+◌, ◌^◌, ◌<◌, ◌≤◌, ◌==◌, length, length-append, not, Bool, true}
use Rattle.std.proofs.Common.{List, [], ◌∷◌, ◌++◌, map, codes, Ok, if◌then◌else◌, refl, arith, append-nil}
use Rattle.std.proofs.Common.{append_assoc}
use Rattle.std.specs.List.{AllByRecursion, list_all, flat_map}
use Rattle.std.proofs.lemmas.Option.{none-some}
use Rattle.ws_isa.specs.declared.instr.Dest.{Dest}
use Rattle.ws_isa.specs.Image as plain
use Rattle.ws_isa.specs.Image.{flat}
use Rattle.ws_isa.specs.Formed.{most_instrs, most_blocks, most_waves, most_length, most_pads, most_dests}
use Rattle.ws_isa.specs.Formed.{NameFormed, DestsIn, Formed}
use Rattle.asm_text.specs.declared.lexeme.Mark as marks
use Rattle.asm_text.specs.declared.writer.After.TheVariants as after
use Rattle.asm_text.specs.declared.lexeme.Lexeme.{Lexeme}
use Rattle.asm_text.specs.declared.lexeme.Lexeme.TheVariants.{Word}
use Rattle.asm_text.specs.declared.line.Label.TheVariants.{At}
use Rattle.asm_text.specs.declared.line.Line.{Line}
use Rattle.asm_text.specs.declared.line.Line.TheVariants as line
use Rattle.asm_text.specs.Lexing.{lexed, scan}
use Rattle.asm_text.specs.Printed.{instr_lexemes, instr_lines, wave_lines, block_lines, blocks_lines}
use Rattle.asm_text.specs.Printed.{pad_lexemes, exit_lexemes, exit_lines, array_lexemes, numbered}
use Rattle.asm_text.specs.Printed.{keeps_first_limits, version, image_lines, printed, mark_bytes, line_text}
use Rattle.asm_text.specs.Printed.{text_of}
use Rattle.asm_text.specs.Reading.{reading, read}
use Rattle.asm_text.specs.Spelling.{Item, Array, Block, Pad, Instr, Exit, instr_items, wave_items}
use Rattle.asm_text.specs.Spelling.{block_items, blocks_items, items, Naming, IsFor, Pairs, TargetIsFor}
use Rattle.asm_text.specs.Spelling.{array_line_of, Spells, SpellsExit, Say, Spelled}
use Rattle.asm_text.proofs.Printing.Again.{target_of}
use Rattle.asm_text.specs.Spelled.{AllLexemes, texts}
use Rattle.asm_text.proofs.Scanning.Bytes.{lines_all}
use Rattle.asm_text.proofs.Scanning.Lined.{lines_of_printed}
use Rattle.asm_text.proofs.Scanning.Spelt.{other}
use Rattle.asm_text.proofs.Accepting.Items.{InstrIn, BlockIn, blocks_formed}
use Rattle.asm_text.proofs.Printing.Says.{Says, pad_line, instr_line, exit_line, version_says, array_says}
use Rattle.asm_text.proofs.Printing.Says.{wave_says, block_says, pad_says, instr_says, exit_says, end_says}
use Rattle.asm_text.proofs.Accepting.Completes.{spelled_read}

abbrev none : Naming
none = record { blocks = []; instrs = [] }

-- The lines of lexemes say these lines, which spell these items.
abbrev Prints : List (List Lexeme) → List Line → List Item → Type 0
Prints [] [] [] = Unit {0}
Prints (l ∷ ls) (x ∷ xs) (i ∷ is) = Says l x × Spells none x i × Prints ls xs is
Prints _ _ _ = ⊥

record Shown (ls : List (List Lexeme)) (is : List Item) : Type 0 where
  lines : List Line
  prints : Prints ls lines is

shown_one : (l : List Lexeme) (x : Line) (i : Item) (ls : List (List Lexeme)) (is : List Item) →
    Says l x → Spells none x i → Shown ls is → Shown (l ∷ ls) (i ∷ is)
shown_one l x i ls is h k m = record { lines = x ∷ m.lines; prints = (h, k, m.prints) }

prints_append : (ls ms : List (List Lexeme)) (xs ys : List Line) (is js : List Item) → Prints ls xs
    is → Prints ms ys js → Prints (ls ++ ms) (xs ++ ys) (is ++ js)
prints_append [] ms [] ys [] js h k = k
prints_append (l ∷ ls) ms (x ∷ xs) ys (i ∷ is) js h k = grind (arith, prints_append ls ms xs ys is js h.2 k)
prints_append ls ms xs ys is js h k = absurd h

shown_append : (ls ms : List (List Lexeme)) (is js : List Item) → Shown ls is → Shown ms js → Shown
    (ls ++ ms) (is ++ js)
shown_append ls ms is js h k = grind (arith, prints_append)

nothing_shown : Shown [] []
nothing_shown = record { lines = []; prints = tt }

targets_are : (ds : List Dest) → Pairs (TargetIsFor []) (map target_of ds) ds
targets_are [] = tt
targets_are (d ∷ ds) = ((refl, refl), targets_are ds)

labels_are : (ns : List ℕ) → Pairs (IsFor []) (map At ns) ns
labels_are [] = tt
labels_are (n ∷ ns) = (refl, labels_are ns)

arrays_shown : (xs : List plain.Array) → AllByRecursion (λ x. NameFormed x.name) xs → AllByRecursion
    (λ x. x.length ≤ most_length) xs → Shown (map array_lexemes xs) (map Array xs)
arrays_shown [] n l = nothing_shown
arrays_shown (x ∷ xs) n l = shown_one (array_lexemes x) (array_line_of x.name x.length) (Array x) (map
    array_lexemes xs) (map Array xs) (array_says x n.0 l.0) refl (arrays_shown xs n.1 l.1)

pads_shown : (image : plain.Image) (ps : List plain.Pad) → Formed image → AllByRecursion
    (λ p. (p.number < most_pads) × (length p.dests ≤ most_dests)) ps
    → AllByRecursion (λ p. DestsIn image p.dests) ps → Shown (map pad_lexemes ps) (map Pad ps)
pads_shown image [] f k d = nothing_shown
pads_shown image (p ∷ ps) f k d = shown_one (pad_lexemes p) (pad_line p) (Pad p) (map pad_lexemes ps) (map Pad
    ps) (pad_says image p f k.0.0 d.0) (map target_of p.dests, refl, targets_are p.dests) (pads_shown image ps
    f k.1 d.1)

instrs_shown : (image : plain.Image) (n : ℕ) (is : List plain.Instr) → Formed image → n + length is
    < 2 ^ 32 → AllByRecursion (InstrIn image) is → Shown (instr_lines n is) (instr_items n is)
unfolding instr_lines
instrs_shown image n [] f h g = nothing_shown
instrs_shown image n (x ∷ xs) f h g = shown_one (instr_lexemes n x) (instr_line n x) (Instr n x) (instr_lines
    (n + 1) xs) (instr_items (n + 1) xs) (grind (arith, instr_says)) grind (arith, target_of, targets_are)
    (instrs_shown image (n + 1) xs f (omega (arith, h)) g.1)

exit_spells : (e : plain.Exit) → SpellsExit none (exit_line e) e
exit_spells (plain.Goto b) = (At b, refl, refl)
exit_spells (plain.Branch s b c) = (At s, At b, At c, refl, refl, refl, refl)
exit_spells (plain.Landings s ls) = (At s, map At ls, refl, refl, labels_are ls)
exit_spells plain.Stop = refl

wave_shown : (w k : ℕ) → k < 2 ^ 32 → Shown (wave_lines w k) (wave_items w k)
wave_shown w k h = grind (arith, nothing_shown, shown_one, wave_says k h)

block_shown : (image : plain.Image) (first : Bool) (w n m : ℕ) (x : plain.Block) → Formed image →
    BlockIn image first x → n < 2 ^ 32 → m + length x.instrs < 2 ^ 32
    → Shown (block_lines w n m x) (block_items w n m x)
unfolding block_lines most_waves
block_shown image first w n m x f g hn hm =
    let block = shown_one (numbered (codes "block") n) (line.Block (At n)) (Block n) (map pad_lexemes x.pads)
    (map Pad x.pads) (block_says n hn) (At n, refl, refl) (grind (arith, pads_shown)) in
    let exit = shown_one (exit_lexemes x.exit) (exit_line x.exit) (Exit x.exit) [] []
    (grind (arith, exit_says)) (exit_spells x.exit) nothing_shown in
    let small : x.wave < 2 ^ 32 = omega (arith, g.within.wave) in
    let lines = numbered (codes "block") n ∷ map pad_lexemes x.pads in
    let parts = Block n ∷ map Pad x.pads in
    shown_append (wave_lines w x.wave ++ lines ++ instr_lines m x.instrs) (exit_lines x.exit) (wave_items w
    x.wave ++ parts ++ instr_items m x.instrs) (Exit x.exit ∷ []) (shown_append (wave_lines w x.wave ++ lines)
    (instr_lines m x.instrs) (wave_items w x.wave ++ parts) (instr_items m x.instrs)
    (grind (arith, shown_append, wave_shown)) (grind (arith, instrs_shown))) exit

blocks_shown : (image : plain.Image) (first : Bool) (xs : List plain.Block) (w n m : ℕ) → Formed
    image → AllByRecursion (BlockIn image first) xs → n + length xs < 2 ^ 32
    → m + length (flat xs) < 2 ^ 32 → Shown (blocks_lines w n m xs) (blocks_items w n m xs)
unfolding blocks_lines
blocks_shown image first [] w n m f g hn hm = nothing_shown
blocks_shown image first (x ∷ xs) w n m f g hn hm =
    let both : length (x.instrs ++ flat xs) ≡ length x.instrs + length (flat xs) = length-append
    x.instrs (flat xs) in
    shown_append (block_lines w n m x) (blocks_lines x.wave (n + 1) (m + length x.instrs) xs)
    (block_items w n m x) (blocks_items x.wave (n + 1) (m + length x.instrs) xs)
    (block_shown image first w n m x f g.0 (omega (arith, hn)) (omega (arith, hm, both)))
    (blocks_shown image first xs x.wave (n + 1) (m + length x.instrs) f g.1 (omega (arith, hn))
    (omega (arith, hm, both)))

-- The whole text.

version_small : (first : Bool) → (if first then 1 else 2) < 2 ^ 64
version_small first = grind arith

image_shown : (image : plain.Image) → Formed image → Shown (image_lines image)
    (items (version image) image)
unfolding image_lines version most_instrs most_blocks
image_shown image f = grind (
  arith,
  shown_one,
  version_says,
  version_small,
  arrays_shown,
  blocks_shown,
  blocks_formed,
  end_says,
  nothing_shown,
  shown_append,
)

lexemes_of : (ls : List (List Lexeme)) (xs : List Line) (is : List Item) → Prints ls xs is →
    AllLexemes ls
lexemes_of (l ∷ ls) (x ∷ xs) (i ∷ is) h = ((h.0).lexemes, lexemes_of ls xs is h.2)
lexemes_of ls xs is h = grind arith

said : (ls : List (List Lexeme)) (xs : List Line) (is : List Item) → Prints ls xs is → Say
    (texts ls) xs
unfolding reading lexed scan
said (l ∷ ls) (x ∷ xs) (i ∷ is) h = (xs, rw (h.0).reads (refl, refl), said ls xs is h.2)
said ls xs is h = grind arith

spelled : (ls : List (List Lexeme)) (xs : List Line) (is : List Item) → Prints ls xs is → Pairs
    (Spells none) xs is
spelled (l ∷ ls) (x ∷ xs) (i ∷ is) h = (h.1, spelled ls xs is h.2)
spelled ls xs is h = grind arith

abbrev version_of : Bool → ℕ
version_of first = if first then 1 else 2

version_known : (first : Bool) → (version_of first ≡ 2) ⊎ ((version_of first ≡ 1) × (none ≡ none))
version_known first = grind arith

first_by : (first : Bool) → version_of first ≡ 1 → first ≡ true
first_by first e = grind arith

-- no byte of the text is `%`

abbrev pub not_percent : ℕ → Bool
not_percent b = not (b == 37)

mark_plain : (m : marks.Mark) → list_all not_percent (mark_bytes m) ≡ true
mark_plain m = grind arith

pub printed_plain : (image : plain.Image) → Formed image → list_all not_percent (printed image) ≡ true
unfolding printed
printed_plain image f = grind (arith, image_shown image f, lines_all, other, mark_plain, lexemes_of)

-- the last byte of lines is a line feed
ends : (lines : List (List Lexeme)) (l : List Lexeme) → (front : List ℕ)
    × (flat_map line_text (lines ++ l ∷ []) ≡ front ++ 10 ∷ [])
ends [] l = (text_of after.Start l, append-nil (line_text l))
ends (x ∷ lines) l = let more = ends lines l in (line_text x ++ more.0, grind (arith, append_assoc))

pub printed_end : (image : plain.Image) → (front : List ℕ) × (printed image ≡ front ++ codes "\n")
unfolding printed image_lines
printed_end image = ends
    (numbered (codes "wavescalar") (version image) ∷ map array_lexemes image.arrays ++ blocks_lines 0 1 1
    image.blocks)
    (Word (codes "end") ∷ [])

pub printed_spelled : (image : plain.Image) → Formed image → Spelled (printed image) image
unfolding version printed
printed_spelled image f = grind (
  arith,
  image_shown image f,
  version_known (keeps_first_limits image),
  first_by (keeps_first_limits image),
  said,
  lines_of_printed,
  lexemes_of,
  none-some,
  spelled,
)

pub reads_again : (image : plain.Image) → Formed image → read (printed image) ≡ Ok image
reads_again image f = spelled_read (printed image) image f (printed_spelled image f)
