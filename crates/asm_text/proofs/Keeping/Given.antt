-- Each name that the first pass keeps is given by a line.
use Rattle.std.proofs.Common.{◌≡◌, ◌⊎◌, inl, inr, ℕ, ◌+◌, ◌==◌, length, Bool, true, List, [], ◌∷◌, ◌++◌}
use Rattle.std.proofs.Common.{Option, Some, None, if◌then◌else◌, refl, sym, ap, ◌∙◌, arith}
use Rattle.std.proofs.lemmas.Bool.{false≢true, and_parts, eqb-true, leb-true}
use Rattle.asm_text.specs.Names.{Names, named}
use Rattle.asm_text.specs.Words.{is}
use Rattle.asm_text.specs.declared.line.Label.{Label}
use Rattle.asm_text.specs.declared.line.Label.TheVariants.{At, Named}
use Rattle.asm_text.specs.declared.line.InstrLine.{InstrLine}
use Rattle.asm_text.specs.declared.line.Line.{Line}
use Rattle.asm_text.specs.declared.line.Line.TheVariants as line
use Rattle.asm_text.specs.declared.state.TextState.{TextState}
use Rattle.asm_text.specs.State.{is_short, is_within, with_name, counted}
use Rattle.asm_text.specs.Spelling.{GivesBlock, GivesInstr, ShortNames}
use Rattle.ws_words.specs.Items.{In}
use Rattle.ws_words.proofs.Places.{in_left}

-- the names of t are given by these lines
pub record Given (t : TextState) (ls : List Line) : Type 0 where
  pub blocks : GivesBlock t.block_names ls
  pub instrs : GivesInstr t.instr_names ls
  pub short_blocks : ShortNames t.block_names
  pub short_instrs : ShortNames t.instr_names

in_last : {A : Type 0} (x : A) (xs : List A) → In x (xs ++ x ∷ [])
in_last x [] = inl refl
in_last x (y ∷ xs) = inr (in_last x xs)

same_is : (a b : List ℕ) → is a b ≡ true → a ≡ b
same_is (x ∷ xs) (y ∷ ys) h =
    let p = and_parts (x == y) (is xs ys) h in
    (λ i. eqb-true x y p.0 i ∷ same_is xs ys p.1 i)
same_is a b h = grind (arith, false≢true)

-- a name that is found among others and one more
named_at : (t : Bool) (m n : ℕ) (o r : Option ℕ) (Q : Type 0) → (r ≡ Some n → (o ≡ Some n) ⊎ Q)
    → (if t then Some m else r) ≡ Some n → ((if t then Some m else o) ≡ Some n) ⊎ Q
named_at t m n o r Q h e = grind arith

one_named : (t : Bool) (m n : ℕ) → (if t then Some m else None) ≡ Some n → (t ≡ true) × (n ≡ m)
one_named t m n e = grind arith

pub named_in_more : (names : Names) (v w : List ℕ) (m n : ℕ)
    → named (names ++ (v, m) ∷ []) w ≡ Some n → (named names w ≡ Some n) ⊎ ((w ≡ v) × (n ≡ m))
named_in_more [] v w m n e = let o = one_named (is w v) m n e in inr (same_is w v o.0, o.1)
named_in_more (x ∷ names) v w m n e = grind (arith, named_at, named_in_more names v w m n)

blocks_on : (names : Names) (l : Line) (ls : List Line) → GivesBlock names ls
    → GivesBlock names (ls ++ l ∷ [])
blocks_on names l ls h w n e = in_left (line.Block (Named w)) ls (l ∷ []) (h w n e)

instrs_on : (names : Names) (l : Line) (ls : List Line) → GivesInstr names ls
    → GivesInstr names (ls ++ l ∷ [])
instrs_on names l ls h w n e = grind (arith, in_left)

block_given : (names : Names) (own : Label) (k : ℕ) (ls : List Line) → GivesBlock names ls
    → GivesBlock (with_name names own k) (ls ++ line.Block own ∷ [])
block_given names own k ls h w n e = grind (arith, in_left, named_in_more, in_last)

instr_given : (names : Names) (i : InstrLine) (own : Label) (k : ℕ) (ls : List Line) → i.own ≡ own
    → GivesInstr names ls → GivesInstr (with_name names own k) (ls ++ line.Instr i ∷ [])
instr_given names i (At m) k ls q h w n e = instrs_on names (line.Instr i) ls h w n e
instr_given names i (Named v) k ls q h w n e = by (named_in_more names v w k n e)
  where
    by : (named names w ≡ Some n) ⊎ ((w ≡ v) × (n ≡ k))
        → (x : InstrLine) × (x.own ≡ Named w) × In (line.Instr x) (ls ++ line.Instr i ∷ [])
    by (inl f) = instrs_on names (line.Instr i) ls h w n f
    by (inr f) = (i, q ∙ ap Named (sym f.0), in_last (line.Instr i) ls)

-- Names aren't too long.

short_more : (names : Names) (own : Label) (k : ℕ) → is_short own ≡ true → ShortNames names → ShortNames
    (with_name names own k)
short_more names own k h s w n e = grind (arith, named_in_more, leb-true)

block_short : (t : TextState) (own : Label) → is_within t (line.Block own) ≡ true → is_short own ≡ true
unfolding is_within
block_short t own h = grind arith

instr_short : (t : TextState) (i : InstrLine) → is_within t (line.Instr i) ≡ true → is_short i.own ≡
    true
unfolding is_within
instr_short t i h = grind arith

pub line_given : (t : TextState) (l : Line) (ls : List Line) → is_within t l ≡ true → Given t ls
    → Given (counted t l) (ls ++ l ∷ [])
unfolding counted
line_given t (line.Block own) ls s h = grind (
  arith,
  block_given t.block_names own (t.blocks + 1) ls h.blocks,
  instrs_on t.instr_names (line.Block own) ls h.instrs,
  short_more,
  block_short t own s,
)
line_given t (line.Instr i) ls s h = grind (
  arith,
  blocks_on t.block_names (line.Instr i) ls h.blocks,
  instr_given t.instr_names i i.own (length t.ports + 1) ls refl h.instrs,
  short_more,
  instr_short t i s,
)
line_given t l ls s h =
    grind (arith, blocks_on t.block_names l ls h.blocks, instrs_on t.instr_names l ls h.instrs)
