-- Each name that the first pass keeps stands for a block or an instruction that is there.
use Rattle.std.proofs.Common.{◌≡◌, ℕ, ◌+◌, ◌<◌, ◌≤◌, IfSome, IfOk, List, [], ◌∷◌, ◌++◌, length, length-append}
use Rattle.std.proofs.Common.{Option, refl, ap, arith}
use Rattle.std.specs.List.{AllByRecursion}
use Rattle.std.proofs.lemmas.Bool.{and_parts, ltb-true, leb-true}
use Rattle.ws_isa.specs.declared.instr.Dest.{Dest}
use Rattle.ws_isa.specs.declared.instr.Op.{Op}
use Rattle.ws_isa.specs.Formed.{DestsSuit, OthersSuit}
use Rattle.asm_text.specs.Names.{Names, named}
use Rattle.asm_text.specs.declared.line.Label.{Label}
use Rattle.asm_text.specs.declared.line.Target.{Target}
use Rattle.asm_text.specs.declared.line.Line.{Line}
use Rattle.asm_text.specs.declared.reading.Reading.{Reading}
use Rattle.asm_text.specs.declared.state.TextState.{TextState}
use Rattle.asm_text.specs.State.{counted, with_name, opening}
use Rattle.asm_text.specs.Building.{Maybe, by_name, place_of, instr_of, block_of, ports_at, dest_of, dests_of}
use Rattle.asm_text.specs.Building.{blocks_of, each}
use Rattle.asm_text.specs.Reading.{step, reading, passed, is_ended}
use Rattle.asm_text.proofs.Scanning.FormedLexemes.{either}
use Rattle.asm_text.proofs.Scanning.FormedLines.{DestsGiven, OthersGiven}
use Rattle.asm_text.proofs.Keeping.HeldSteps.{if_ok, then_ok, line_ok, behind_ok}
use Rattle.ws_words.proofs.Lists.{all_append}

-- the numbers of names are among so many
abbrev pub NamesIn : ℕ → Names → Type 0
NamesIn count names = AllByRecursion (λ n. (1 ≤ n.1) × (n.1 ≤ count)) names

pub record NamesThere (s : TextState) : Type 0 where
  pub instrs : NamesIn (length s.ports) s.instr_names
  pub blocks : NamesIn s.blocks s.block_names

names_more : (m n : ℕ) (names : Names) → m ≤ n → NamesIn m names → NamesIn n names
names_more m n [] h k = tt
names_more m n (x ∷ names) h k = ((k.0.0, omega arith), names_more m n names h k.1)

with_name_in : (names : Names) (l : Label) (n : ℕ) → NamesIn n names
    → NamesIn (n + 1) (with_name names l (n + 1))
with_name_in names l n h = grind (arith, names_more, all_append)

pub length_snoc : {A : Type 0} (xs : List A) (x : A) → length (xs ++ x ∷ []) ≡ length xs + 1
length_snoc xs x = length-append xs (x ∷ [])

counted_names : (t : TextState) (l : Line) → NamesThere t → NamesThere (counted t l)
unfolding counted
counted_names t l h = grind (arith, with_name_in, length_snoc)

step_names : (t : TextState) (r : Reading) → NamesThere t → IfOk (step t r) NamesThere
step_names t r h = grind (arith, behind_ok, counted_names)

lines_names : (t : TextState) (n : ℕ) (lines : List (List ℕ)) → NamesThere t
    → IfOk (passed t n lines) NamesThere
unfolding passed
lines_names t n [] h = if_ok NamesThere (is_ended t.place) _ _ (λ _. h) (λ _. tt)
lines_names t n (line ∷ lines) h = line_ok NamesThere NamesThere (n + 1) (step t (reading line)) _ (step_names
    t (reading line) h) (λ u k. lines_names u (n + 1) lines k)

no_names : NamesThere opening
unfolding opening
no_names = record { instrs = tt; blocks = tt }

-- names behind all lines
pub passed_names : (lines : List (List ℕ)) → IfOk (passed opening 0 lines) NamesThere
passed_names lines = lines_names opening 0 lines no_names

-- What is referred to is there.

abbrev pub Among : ℕ → ℕ → Type 0
Among count n = (1 ≤ n) × (n ≤ count)

named_in : (names : Names) (w : List ℕ) (count : ℕ) → NamesIn count names
    → IfSome (named names w) (Among count)
named_in [] w count h = tt
named_in (n ∷ names) w count h = grind (arith, either, named_in names w count h.1)

by_name_in : (o : Option ℕ) (count : ℕ) → IfSome o (Among count) → IfOk (by_name o) (Among count)
by_name_in o count h = grind arith

place_in : (names : Names) (count : ℕ) (l : Label) → NamesIn count names
    → IfOk (place_of names count l) (Among count)
unfolding place_of
place_in names count l h = grind (arith, if_ok, and_parts, leb-true, by_name_in, named_in)

pub instr_in : (s : TextState) (l : Label) → NamesThere s → IfOk (instr_of s l) (Among (length s.ports))
instr_in s l h = place_in s.instr_names (length s.ports) l h.instrs

pub block_in : (s : TextState) (l : Label) → NamesThere s → IfOk (block_of s l) (Among s.blocks)
block_in s l h = place_in s.block_names s.blocks l h.blocks

-- a destination is a port that is there
abbrev pub DestFor : TextState → Dest → Type 0
DestFor s d = Among (length s.ports) d.instr × (d.port < ports_at s.ports d.instr)

dest_in : (s : TextState) (t : Target) → NamesThere s → IfOk (dest_of s t) (DestFor s)
unfolding dest_of
dest_in s t h = grind (arith, then_ok, instr_in s t.instr h, if_ok, ltb-true)

-- as many as there were, and each is so
pub record EachOf {A B : Type 0} (P : B → Type 0) (xs : List A) (ys : List B) : Type 0 where
  pub all : AllByRecursion P ys
  pub many : length ys ≡ length xs

each_in : {A B : Type 0} (f : A → Maybe B) (P : B → Type 0) → ((a : A) → IfOk (f a) P) → (xs : List A)
    → IfOk (each f xs) (EachOf P xs)
unfolding each
each_in f P h [] = record { all = tt; many = refl }
each_in f P h (x ∷ xs) = grind (arith, then_ok, each_in f P h xs)

pub dests_in : (s : TextState) (ts : List Target) → NamesThere s
    → IfOk (dests_of s ts) (EachOf (DestFor s) ts)
dests_in s ts h = each_in (dest_of s) (DestFor s) (λ t. dest_in s t h) ts

pub blocks_in : (s : TextState) (ls : List Label) → NamesThere s
    → IfOk (blocks_of s ls) (EachOf (Among s.blocks) ls)
blocks_in s ls h = each_in (block_of s) (Among s.blocks) (λ l. block_in s l h) ls

-- Lists that suit their operation still do.

none_of : {A B : Type 0} (xs : List A) (ys : List B) → length ys ≡ length xs → xs ≡ [] → ys ≡ []
none_of xs [] e h = refl
none_of xs (y ∷ ys) e h = let z : length xs ≡ 0 = ap length h in absurd (omega arith)

pub dests_suit : (o : Op) (ts : List Target) (ds : List Dest) → length ds ≡ length ts → DestsGiven o ts
    → DestsSuit o ds
dests_suit o ts ds e h = grind (arith, none_of)

pub others_suit : (o : Op) (ts : List Target) (ds : List Dest) → length ds ≡ length ts → OthersGiven o ts
    → OthersSuit o ds
others_suit o ts ds e h = grind (arith, none_of)
