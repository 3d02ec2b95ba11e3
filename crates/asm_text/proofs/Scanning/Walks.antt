-- Lists that are printed one by one.
use Rattle.std.proofs.Common.{◌≡◌, ℕ, ◌+◌, ◌<◌, length, length-append, Bool, List, [], ◌∷◌, map, drop, get_or}
use Rattle.std.proofs.Common.{drop-cons, arith, refl, ap, ◌∙◌}
use Rattle.std.proofs.Math.Seq.{drop-length}
use Rattle.std.specs.List.{list_all}
use Rattle.ws_isa.specs.declared.instr.Dest.{Dest}
use Rattle.ws_isa.specs.Image.{Instr, Block, flat}
use Rattle.asm_text.specs.declared.lexeme.Mark.TheVariants.{Dot}
use Rattle.asm_text.specs.declared.lexeme.Lexeme.{Lexeme}
use Rattle.asm_text.specs.declared.lexeme.Lexeme.TheVariants.{Number, Mark}
use Rattle.asm_text.specs.Printed.{Written, put, puts, end_line, put_lines, dest_lexemes, numbers}
use Rattle.asm_text.specs.Printed.{instr_lexemes, instr_lines, block_lines, blocks_lines}
use Rattle.asm_text.proofs.Scanning.Puts.{put_lines-append}
use Rattle.ws_words.proofs.Lists.{length_map}

-- the rest of a list at a place
pub rest_at : {A : Type 0} (xs : List A) (i : ℕ) (x d : A) → i < length xs → x ≡ get_or xs i d
    → drop i xs ≡ x ∷ drop (i + 1) xs
rest_at xs i x d h e = grind (arith, drop-cons)

pub rest_end : {A : Type 0} (xs : List A) (i : ℕ) → i ≡ length xs → drop i xs ≡ []
rest_end xs i e = ap (λ n. drop n xs) e ∙ drop-length xs

pub dests_step : (s : Written) (ds : List Dest) (i : ℕ) (x d : Dest) → i < length ds → x ≡ get_or ds i d
    → puts s (dest_lexemes (drop i ds)) ≡ puts (put (put (put s (Number x.instr)) (Mark Dot)) (Number x.port))
    (dest_lexemes (drop (i + 1) ds))
unfolding puts dest_lexemes
dests_step s ds i x d h e = ap (λ l. puts s (dest_lexemes l)) (rest_at ds i x d h e)

pub dests_end : (s : Written) (ds : List Dest) (i : ℕ) → i ≡ length ds → puts s (dest_lexemes (drop i ds)) ≡ s
unfolding puts dest_lexemes
dests_end s ds i e = ap (λ l. puts s (dest_lexemes l)) (rest_end ds i e)

pub numbers_step : (s : Written) (ns : List ℕ) (i x d : ℕ) → i < length ns → x ≡ get_or ns i d
    → puts s (numbers (drop i ns)) ≡ puts (put s (Number x)) (numbers (drop (i + 1) ns))
unfolding puts numbers
numbers_step s ns i x d h e = ap (λ l. puts s (numbers l)) (rest_at ns i x d h e)

pub numbers_end : (s : Written) (ns : List ℕ) (i : ℕ) → i ≡ length ns → puts s (numbers (drop i ns)) ≡ s
unfolding puts numbers
numbers_end s ns i e = ap (λ l. puts s (numbers l)) (rest_end ns i e)

pub all_map : {A B : Type 0} (p : B → Bool) (f : A → B) (xs : List A)
    → list_all p (map f xs) ≡ list_all (λ x. p (f x)) xs
all_map p f [] = refl
all_map p f (x ∷ xs) = rw (all_map p f xs)

-- lines of a list, each by its item
pub lines_step : {A B : Type 0} (f : B → List Lexeme) (v : A → B) (s : Written) (xs : List A) (i : ℕ)
    (x d : A)
    → i < length xs → x ≡ get_or xs i d
    → put_lines s (map f (map v (drop i xs))) ≡ put_lines (end_line (puts s (f (v x))))
    (map f (map v (drop (i + 1) xs)))
unfolding put_lines
lines_step f v s xs i x d h e = ap (λ l. put_lines s (map f (map v l))) (rest_at xs i x d h e)

pub lines_end : {A B : Type 0} (f : B → List Lexeme) (v : A → B) (s : Written) (xs : List A) (i : ℕ)
    → i ≡ length xs → put_lines s (map f (map v (drop i xs))) ≡ s
unfolding put_lines
lines_end f v s xs i e = ap (λ l. put_lines s (map f (map v l))) (rest_end xs i e)

pub instrs_step : {A : Type 0} (v : A → Instr) (s : Written) (n : ℕ) (xs : List A) (i : ℕ) (x d : A)
    → i < length xs → x ≡ get_or xs i d
    → put_lines s (instr_lines n (map v (drop i xs))) ≡ put_lines (end_line (puts s (instr_lexemes n (v x))))
    (instr_lines (n + 1) (map v (drop (i + 1) xs)))
unfolding put_lines instr_lines
instrs_step v s n xs i x d h e = ap (λ l. put_lines s (instr_lines n (map v l))) (rest_at xs i x d h e)

pub instrs_end : {A : Type 0} (v : A → Instr) (s : Written) (n : ℕ) (xs : List A) (i : ℕ) → i ≡ length xs
    → put_lines s (instr_lines n (map v (drop i xs))) ≡ s
unfolding put_lines instr_lines
instrs_end v s n xs i e = ap (λ l. put_lines s (instr_lines n (map v l))) (rest_end xs i e)

pub blocks_step : {A : Type 0} (v : A → Block) (s : Written) (w b n : ℕ) (xs : List A) (i : ℕ) (x d : A)
    → i < length xs → x ≡ get_or xs i d
    → put_lines s (blocks_lines w b n (map v (drop i xs))) ≡ put_lines (put_lines s (block_lines w b n (v x)))
    (blocks_lines (v x).wave (b + 1) (n + length (v x).instrs) (map v (drop (i + 1) xs)))
unfolding put_lines blocks_lines
blocks_step v s w b n xs i x d h e = grind (arith, rest_at, put_lines-append)

pub blocks_end : {A : Type 0} (v : A → Block) (s : Written) (w b n : ℕ) (xs : List A) (i : ℕ) → i ≡ length xs
    → put_lines s (blocks_lines w b n (map v (drop i xs))) ≡ s
unfolding put_lines blocks_lines
blocks_end v s w b n xs i e = ap (λ l. put_lines s (blocks_lines w b n (map v l))) (rest_end xs i e)

-- how many instructions are left
pub flat_step : {A : Type 0} (v : A → Block) (xs : List A) (i : ℕ) (x d : A) → i < length xs
    → x ≡ get_or xs i d
    → length (flat (map v (drop i xs))) ≡ length (v x).instrs + length (flat (map v (drop (i + 1) xs)))
flat_step v xs i x d h e =
    grind (arith, rest_at xs i x d h e, length-append (v x).instrs (flat (map v (drop (i + 1) xs))))

pub flat_end : {A : Type 0} (v : A → Block) (xs : List A) (i : ℕ) → i ≡ length xs
    → length (flat (map v (drop i xs))) ≡ 0
flat_end v xs i e = ap (λ l. length (flat (map v l))) (rest_end xs i e)

pub ruleset walks = (
  dests_step,
  dests_end,
  numbers_step,
  numbers_end,
  lines_step,
  lines_end,
  instrs_step,
  instrs_end,
  blocks_step,
  blocks_end,
  flat_step,
  flat_end,
)

pub ruleset firsts = (all_map, length_map)
