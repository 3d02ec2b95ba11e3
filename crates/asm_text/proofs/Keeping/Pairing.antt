-- What a label stands for is what it is read as; items one behind the other.
use Rattle.std.proofs.Common.{◌≡◌, ℕ, ◌+◌, length, length-append, IfOk, List, [], ◌∷◌, ◌++◌, ap, ◌∙◌}
use Rattle.std.proofs.Common.{append_assoc, append-nil, arith}
use Rattle.ws_isa.specs.Image as plain
use Rattle.ws_isa.specs.Image.{flat}
use Rattle.asm_text.specs.declared.line.Label.{Label}
use Rattle.asm_text.specs.declared.line.Target.{Target}
use Rattle.asm_text.specs.declared.state.TextState.{TextState}
use Rattle.asm_text.specs.Names.{Names}
use Rattle.asm_text.specs.Building.{Maybe, place_of, instr_of, block_of, dest_of, dests_of, blocks_of, each}
use Rattle.asm_text.specs.Spelling.{Instr, instr_items, block_items, blocks_items, IsFor, Pairs, TargetIsFor}
use Rattle.asm_text.proofs.Keeping.Held.{last_wave}
use Rattle.asm_text.proofs.Keeping.HeldSteps.{if_ok, then_ok}

-- Lists of pairs.

pub pairs_snoc : {A B : Type 0} (R : A → B → Type 0) (xs : List A) (ys : List B) (x : A) (y : B)
    → Pairs R xs ys → R x y → Pairs R (xs ++ x ∷ []) (ys ++ y ∷ [])
pairs_snoc R (a ∷ as') (b ∷ bs) x y h k = (h.0, pairs_snoc R as' bs x y h.1 k)
pairs_snoc R xs ys x y h k = grind arith

-- References.

place_for : (names : Names) (count : ℕ) (l : Label) → IfOk (place_of names count l) (IsFor names l)
unfolding place_of
place_for names count l = grind arith

pub instr_for : (s : TextState) (l : Label) → IfOk (instr_of s l) (IsFor s.instr_names l)
instr_for s l = place_for s.instr_names (length s.ports) l

pub block_for : (s : TextState) (l : Label) → IfOk (block_of s l) (IsFor s.block_names l)
block_for s l = place_for s.block_names s.blocks l

dest_for : (s : TextState) (t : Target) → IfOk (dest_of s t) (TargetIsFor s.instr_names t)
unfolding dest_of
dest_for s t = grind (arith, then_ok, instr_for s t.instr, if_ok)

each_for : {A B : Type 0} (f : A → Maybe B) (R : A → B → Type 0) → ((a : A) → IfOk (f a) (R a))
    → (xs : List A) → IfOk (each f xs) (Pairs R xs)
unfolding each
each_for f R h [] = tt
each_for f R h (x ∷ xs) = grind (arith, then_ok, each_for f R h xs)

pub dests_for : (s : TextState) (ts : List Target) → IfOk (dests_of s ts)
    (Pairs (TargetIsFor s.instr_names) ts)
dests_for s ts = each_for (dest_of s) (TargetIsFor s.instr_names) (dest_for s) ts

pub blocks_for : (s : TextState) (ls : List Label) → IfOk (blocks_of s ls) (Pairs (IsFor s.block_names) ls)
blocks_for s ls = each_for (block_of s) (IsFor s.block_names) (block_for s) ls

-- Items.

pub instr_items_snoc : (n : ℕ) (is : List plain.Instr) (i : plain.Instr)
    → instr_items n (is ++ i ∷ []) ≡ instr_items n is ++ Instr (n + length is) i ∷ []
instr_items_snoc n [] i = let e : n ≡ n + 0 = omega arith in ap (λ m. Instr m i ∷ []) e
instr_items_snoc n (x ∷ is) i = grind (arith, instr_items_snoc (n + 1) is i)

pub blocks_items_snoc : (w b n : ℕ) (bs : List plain.Block) (x : plain.Block)
    → blocks_items w b n (bs ++ x ∷ []) ≡ blocks_items w b n bs ++ block_items (last_wave w bs)
    (b + length bs) (n + length (flat bs)) x
blocks_items_snoc w b n [] x =
    let e : b ≡ b + 0 = omega arith in
    let f : n ≡ n + 0 = omega arith in
    append-nil (block_items w b n x) ∙ (grind arith)
blocks_items_snoc w b n (y ∷ bs) x = grind (
  arith,
  length-append,
  last_wave,
  append_assoc,
  blocks_items_snoc
      y.wave (b + 1) (n + length y.instrs) bs x,
)
