-- Expressions that are read from lexemes are good, and their printed form has no more lexemes.
use Rattle.std.proofs.Common.{◌≡◌, ℕ, ◌+◌, ◌^◌, ◌<◌, ◌≤◌, Bool, length, List, ◌∷◌, refl, ap, subst, arith, []}
use Rattle.std.proofs.Common.{length-append}
use Rattle.std.proofs.lemmas.Bool.{le-ltb}
use Rattle.src_ast.specs.declared.lexeme.Name.{Name}
use Rattle.src_ast.specs.declared.lexeme.Lexeme.{Lexeme}
use Rattle.src_ast.specs.declared.lexeme.Shape.TheVariants as shape
use Rattle.src_ast.specs.Grammar.{IsName, Spelled, number, variable, cell, round, signed, binary, Separated}
use Rattle.src_ast.specs.Grammar.{one, more, Listed, SpelledName, name}
use Rattle.src_ast.specs.Syntax.{Expression}
use Rattle.src_ast.specs.Printed.{is_looser}
use Rattle.src_ast.specs.Written.{IsWrittenName, AreWrittenNames, IsWrittenExpression, AreWrittenExpressions}
use Rattle.src_ast.specs.Written.{rounded, width, list_width, names_width}
use Rattle.src_ast.proofs.Kept.{op_inner, sign_inner}
use Rattle.src_ast.proofs.RowLimits.{IsSound, AllSound, sound_here, sound_after, sound_front, sound_back}
use Rattle.src_ast.proofs.RowLimits.{AllPlain, no_plain, plain, plain_append, plain_word, plain_number}
use Rattle.src_ast.proofs.RowLimits.{plain_mark}
use Rattle.src_ast.proofs.Regrown.{loose_next, loose_eight}

-- a name that is read is written
pub name_good : {x : Name} {l : Lexeme} → IsName x l → IsSound l.shape → IsWrittenName x.text
name_good {x = x} n h = let w = subst IsSound n.word h in record { word = w.0; free = n.free; short = w.1 }

-- so is a number
pub number_good : {n : ℕ} (l : Lexeme) → l.shape ≡ shape.Number n → IsSound l.shape → n < 2 ^ 64
number_good l e h = subst IsSound e h

-- so is an expression
pub expression_good : {n : ℕ} {ls : List Lexeme} {e : Expression} → Spelled n ls e → AllSound ls
    → IsWrittenExpression e
expression_good (number l v is) h = number_good l is (sound_here h)
expression_good (variable l x is) h = name_good is (sound_here h)
expression_good (cell l first last ls a e eq is o s c) h =
    let hs = subst AllSound eq h in
    let ih1 = expression_good s (sound_front ls (last ∷ []) (sound_after (sound_after hs))) in
    grind (arith, name_good, sound_here, sound_front, sound_after)
expression_good (round first last ls eq o s c) h =
    let hs = subst AllSound eq h in
    expression_good s (sound_front ls (last ∷ []) (sound_after hs))
expression_good (signed l ls s e d is sp) h = expression_good sp (sound_after h)
expression_good (binary l ls rs op a b d eq is sa sb) h =
    let hs = subst AllSound eq h in
    let ih1 = expression_good sb (sound_after (sound_back ls (l ∷ rs) hs)) in
    grind (arith, sound_front, sound_after, sound_back, expression_good sa (sound_front ls (l ∷ rs) hs))

-- the lexemes of an expression stand in a row
pub expression_plain : {n : ℕ} {ls : List Lexeme} {e : Expression} → Spelled n ls e → AllPlain ls
expression_plain (number l v is) = plain (plain_number l v is) no_plain
expression_plain (variable l x is) = plain (plain_word l x.text is.word) no_plain
expression_plain (cell l first last ls a e eq is o s c) =
    grind (arith, plain, plain_word, plain_mark, plain_append, no_plain, expression_plain s)
expression_plain (round first last ls eq o s c) =
    grind (arith, AllPlain, plain, plain_mark, plain_append, no_plain, expression_plain s)
expression_plain (signed l ls s e d is sp) = grind (arith, plain, plain_mark, sign_inner, expression_plain sp)
expression_plain (binary l ls rs op a b d eq is sa sb) =
    grind (arith, plain_append, plain, plain_mark, op_inner, expression_plain sa, expression_plain sb)

rounded_least : (b : Bool) (n : ℕ) → n ≤ rounded b n
rounded_least b n = grind arith

rounded_most : (b : Bool) (n : ℕ) → rounded b n ≤ n + 2
rounded_most b n = grind arith

pub expression_width : {n : ℕ} {ls : List Lexeme} {e : Expression} → Spelled n ls e
    → rounded (is_looser e n) (width e) ≤ length ls
expression_width (cell l first last ls a e eq is o s c) =
    grind (arith, rounded_least, length-append, expression_width s)
expression_width (round {n = n} {e = e} first last ls eq o s c) =
    grind (arith, rounded_least, rounded_most, length-append, expression_width s)
expression_width (signed {n = n} l ls s e d is sp) = grind (arith, loose_eight, expression_width sp)
expression_width (binary {n = n} {ks = ks} l ls rs op a b d eq is sa sb) =
    grind (arith, loose_next, le-ltb, length-append, expression_width sb, expression_width sa)
expression_width h = grind arith

-- the printed form of an expression has no more lexemes than it was read from
pub width_least : {ls : List Lexeme} {e : Expression} → Spelled 0 ls e → width e ≤ length ls
width_least {ls} {e} s = omega (arith, expression_width s, rounded_least (is_looser e 0) (width e))

pub separated_plain : {A : Type 0} {L : List Lexeme → A → Type 0} {ks : List Lexeme} {xs : List A}
    → ((ls : List Lexeme) (a : A) → L ls a → AllPlain ls)
    → Separated L ks xs → AllPlain ks
separated_plain h (one ls a s) = h ls a s
separated_plain h (more comma ls rs a xs eq s c more') =
    grind (arith, AllPlain, plain_append, plain, plain_mark, separated_plain h more')

pub listed_plain : {A : Type 0} {L : List Lexeme → A → Type 0} {ks : List Lexeme} {xs : List A}
    → ((ls : List Lexeme) (a : A) → L ls a → AllPlain ls)
    → Listed L ks xs → AllPlain ks
listed_plain v0 v1 = grind (arith, no_plain, separated_plain)

-- the lexemes of arguments stand in a row
pub arguments_plain : {ks : List Lexeme} {es : List Expression} → Listed (Spelled 0) ks es → AllPlain ks
arguments_plain s = listed_plain (λ ls e h. expression_plain h) s

some_arguments_good : {ks : List Lexeme} {es : List Expression} → Separated (Spelled 0) ks es → AllSound ks
    → AreWrittenExpressions es
some_arguments_good (one ls e s) h = (expression_good s h, tt)
some_arguments_good (more comma ls rs e es eq s c more') h =
    let hs = subst AllSound eq h in
    let ih1 = some_arguments_good more' (sound_after (sound_back ls (comma ∷ rs) hs)) in
    grind (arith, expression_good, sound_front, sound_after, sound_back)

-- arguments that are read are written
pub arguments_good : {ks : List Lexeme} {es : List Expression} → Listed (Spelled 0) ks es → AllSound ks
    → AreWrittenExpressions es
arguments_good i h = grind (arith, some_arguments_good)

some_arguments_width : {ks : List Lexeme} {es : List Expression} → Separated (Spelled 0) ks es
    → list_width es ≤ length ks
some_arguments_width (one ls e s) = width_least s
some_arguments_width (more comma ls rs e (f ∷ es) eq s c more') =
    omega (arith, width_least s, some_arguments_width more', ap length eq, length-append ls (comma ∷ rs))
some_arguments_width (more comma ls rs e [] eq s c more') = grind (arith, width_least, length-append)

-- the printed form of arguments has no more lexemes
pub arguments_width : {ks : List Lexeme} {es : List Expression} → Listed (Spelled 0) ks es
    → list_width es ≤ length ks
arguments_width h = grind (arith, some_arguments_width)

name_plain : (ls : List Lexeme) (x : Name) → SpelledName ls x → AllPlain ls
name_plain ls x (name l x' is) = plain (plain_word l x'.text is.word) no_plain

-- the lexemes of names stand in a row
pub some_names_plain : {ks : List Lexeme} {xs : List Name} → Separated SpelledName ks xs → AllPlain ks
some_names_plain s = separated_plain name_plain s

-- so do those of no names
pub names_plain : {ks : List Lexeme} {xs : List Name} → Listed SpelledName ks xs → AllPlain ks
names_plain s = listed_plain name_plain s

spelled_name_good : {ls : List Lexeme} {x : Name} → SpelledName ls x → AllSound ls → IsWrittenName x.text
spelled_name_good (name l x is) h = name_good is (sound_here h)

-- names that are read are written
pub some_names_good : {ks : List Lexeme} {xs : List Name} → Separated SpelledName ks xs → AllSound ks
    → AreWrittenNames xs
some_names_good (one ls x s) h = (spelled_name_good s h, tt)
some_names_good (more comma ls rs x xs eq s c more') h =
    let hs = subst AllSound eq h in
    let ih1 = some_names_good more' (sound_after (sound_back ls (comma ∷ rs) hs)) in
    grind (arith, spelled_name_good, sound_front, sound_after, sound_back)

-- so are no names
pub names_good : {ks : List Lexeme} {xs : List Name} → Listed SpelledName ks xs → AllSound ks
    → AreWrittenNames xs
names_good i h = grind (arith, some_names_good)

name_width : {ls : List Lexeme} {x : Name} → SpelledName ls x → length ls ≡ 1
name_width (name l x is) = refl

some_names_width : {ks : List Lexeme} {xs : List Name} → Separated SpelledName ks xs
    → names_width xs ≤ length ks
some_names_width (one ls x s) = omega (arith, name_width s)
some_names_width (more comma ls rs x (y ∷ xs) eq s c more') =
    omega (arith, name_width s, some_names_width more', ap length eq, length-append ls (comma ∷ rs))
some_names_width (more comma ls rs x [] eq s c more') = grind (arith, name_width, length-append)

-- the printed form of names has no more lexemes
pub names_fit : {ks : List Lexeme} {xs : List Name} → Listed SpelledName ks xs → names_width xs ≤ length ks
names_fit h = grind (arith, some_names_width)
