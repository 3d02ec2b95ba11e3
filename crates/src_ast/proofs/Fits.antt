-- Statements and programs that are read from lexemes within the limits are written.
use Rattle.std.proofs.Common.{◌≡◌, ℕ, suc, ◌+◌, ◌*◌, ◌≤◌, length, List, ◌∷◌, ◌++◌, Option, Some, None, codes}
use Rattle.std.proofs.Common.{refl, ap, ◌∙◌, subst, arith, length-append, append_assoc, []}
use Rattle.src_ast.specs.declared.lexeme.Name.{Name}
use Rattle.src_ast.specs.declared.lexeme.Place.{Place}
use Rattle.src_ast.specs.declared.lexeme.Lexeme.{Lexeme}
use Rattle.src_ast.specs.declared.lexeme.Shape.TheVariants.{Word}
use Rattle.src_ast.specs.declared.lexeme.Shape.TheVariants as shape
use Rattle.src_ast.specs.declared.lexeme.Mark.TheVariants as mark
use Rattle.src_ast.specs.declared.lexeme.Mark.TheVariants.{LParen, RParen, LBrace, RBrace, LSquare, RSquare}
use Rattle.src_ast.specs.declared.lexeme.Mark.TheVariants.{Comma, Semi}
use Rattle.src_ast.specs.Lexemes.{KeepLimits, Lex}
use Rattle.src_ast.specs.Grammar.{Is, IsName, Spelled, Listed, SpelledName, SpelledStatement}
use Rattle.src_ast.specs.Grammar.{SpelledStatements, SpelledBlock, SpelledElse, assign, store, print, read}
use Rattle.src_ast.specs.Grammar.{give, take, call, called, choice, while, block, no_else, with_else, nothing}
use Rattle.src_ast.specs.Grammar.{first_then, SpelledEnding, no_ending, ending, SpelledVars, no_vars, vars}
use Rattle.src_ast.specs.Grammar.{SpelledItem, array, proc, Tree, no_items, items}
use Rattle.src_ast.specs.Syntax.{Expression, Statement, Assign, Store, Read, Give, Take, Call, Statements}
use Rattle.src_ast.specs.Syntax.{Last, Part, Array, Proc}
use Rattle.src_ast.specs.Rules.{IsAccepted}
use Rattle.src_ast.specs.Bound.{most_variables}
use Rattle.src_ast.specs.Written.{AreWrittenNames, IsWrittenExpression, width, names_width}
use Rattle.src_ast.specs.Written.{IsWrittenStatement, AreWrittenStatements, IsWrittenEnding, IsWritten}
use Rattle.src_ast.specs.LanguageLimits.{most_locals}
use Rattle.src_ast.proofs.Nearly.{IsNearlyProcedure, IsNearlyPart, AreNearlyWritten, HaveRows, whole}
use Rattle.src_ast.proofs.Narrow.{accepted_few}
use Rattle.src_ast.proofs.RowLimits.{AllSound, sound_here, sound_after, sound_front, sound_back, leads_sound}
use Rattle.src_ast.proofs.RowLimits.{AllPlain, no_plain, plain, plain_append, plain_word, plain_number}
use Rattle.src_ast.proofs.RowLimits.{plain_mark, row_limits, open_limits, close_limits, line_limits}
use Rattle.src_ast.proofs.Readable.{name_good, number_good, expression_good, expression_plain, width_least}
use Rattle.src_ast.proofs.Readable.{arguments_plain, arguments_good, arguments_width, some_names_plain}
use Rattle.src_ast.proofs.Readable.{names_plain, some_names_good, names_good, names_fit}

-- a statement that is read fits, and the limits go on after it
abbrev FitsBefore : ℕ → Statement → List Lexeme → Type 0
FitsBefore braces s rest = IsWrittenStatement braces s × KeepLimits braces 0 rest

-- an expression, its lexeme at the end, and others
split : (ls : List Lexeme) (last : Lexeme) (rest : List Lexeme) → (ls ++ last ∷ []) ++ rest ≡ ls ++ last
    ∷ rest
split ls last rest = append_assoc ls (last ∷ []) rest

ruleset sounds = (sound_here, sound_after, sound_front)

assign_fits : (ks : List Lexeme) (l equals last : Lexeme) (ls : List Lexeme) (x : Name) (e : Expression)
    → ks ≡ l ∷ equals ∷ (ls ++ last ∷ []) → IsName x l → Is mark.Assign equals → Spelled 0 ls e → Is Semi last
    → AllSound ks → (braces : ℕ) (rest : List Lexeme) → KeepLimits braces 0 (ks ++ rest)
    → FitsBefore braces (Assign x.place x e) rest
assign_fits ks l equals last ls x e eq is q s c h braces rest k =
    let hs = subst AllSound eq h in
    let all : ks ++ rest ≡ (l ∷ equals ∷ ls) ++ last ∷ rest = grind (arith, split) in
    let row : AllPlain (l ∷ equals ∷ ls) = grind (arith, plain, plain_word, plain_mark, expression_plain) in
    let w = line_limits last rest braces row c (subst (KeepLimits braces 0) all k) in
    let small = w.0 in
    grind (arith, name_good, sounds, expression_good, width_least)

store_fits : (ks : List Lexeme) (l first last equals semi : Lexeme) (is es : List Lexeme) (a : Name)
    (i e : Expression)
    → ks ≡ l ∷ first ∷ (is ++ last ∷ equals ∷ (es ++ semi ∷ []))
    → IsName a l → Is LSquare first → Spelled 0 is i → Is RSquare last → Is mark.Assign equals
    → Spelled 0 es e → Is Semi semi
    → AllSound ks → (braces : ℕ) (rest : List Lexeme) → KeepLimits braces 0 (ks ++ rest)
    → FitsBefore braces (Store a.place a i e) rest
store_fits ks l first last equals semi is es a i e eq na o si c q se d h braces rest k =
    let hs = subst AllSound eq h in
    let inside = sound_after (sound_after hs) in
    let back = sound_back is (last ∷ equals ∷ (es ++ semi ∷ [])) inside in
    let row : List Lexeme = l ∷ first ∷ (is ++ last ∷ equals ∷ es) in
    let all : ks ++ rest ≡ row ++ semi ∷ rest = ap (λ t. t ++ rest) eq ∙ simp append_assoc in
    let flat : AllPlain row = grind (arith, plain, plain_word, plain_mark, plain_append, expression_plain) in
    let w = line_limits semi rest braces flat d (subst (KeepLimits braces 0) all k) in
    let small = w.0 in
    grind (arith, name_good, sounds, expression_good, width_least, length-append)

print_fits : (ks : List Lexeme) (l last : Lexeme) (ls : List Lexeme) (e : Expression) (w : List ℕ)
    → ks ≡ l ∷ (ls ++ last ∷ []) → l.shape ≡ Word w → Spelled 0 ls e → Is Semi last
    → AllSound ks → (braces : ℕ) (rest : List Lexeme) → KeepLimits braces 0 (ks ++ rest)
    → IsWrittenExpression e × (width e + 1 ≤ 256) × KeepLimits braces 0 rest
print_fits ks l last ls e word eq is s c h braces rest k =
    let hs = subst AllSound eq h in
    let all : ks ++ rest ≡ (l ∷ ls) ++ last ∷ rest = grind (arith, split) in
    let row : AllPlain (l ∷ ls) = plain (plain_word l word is) (expression_plain s) in
    let w = line_limits last rest braces row c (subst (KeepLimits braces 0) all k) in
    let small = w.0 in grind (arith, expression_good, sound_front, sound_after, width_least)

read_fits : (ks : List Lexeme) (l name last : Lexeme) (x : Name)
    → ks ≡ l ∷ name ∷ last ∷ [] → l.shape ≡ Word (codes "read") → IsName x name → Is Semi last
    → AllSound ks → (braces : ℕ) (rest : List Lexeme) → KeepLimits braces 0 (ks ++ rest)
    → FitsBefore braces (Read l.place x) rest
read_fits ks l name last x eq is nx c h braces rest k =
    grind (arith, plain_word, line_limits, name_good, sound_here, sound_after)

give_fits : (ks : List Lexeme) (l port comma name last : Lexeme) (n : ℕ) (x : Name)
    → ks ≡ l ∷ port ∷ comma ∷ name ∷ last ∷ [] → l.shape ≡ Word (codes "give") → port.shape ≡ shape.Number n
    → Is Comma comma → IsName x name → Is Semi last
    → AllSound ks → (braces : ℕ) (rest : List Lexeme) → KeepLimits braces 0 (ks ++ rest)
    → FitsBefore braces (Give l.place n port.place x) rest
give_fits ks l port comma name last n x eq is np q nx c h braces rest k =
    grind (arith, plain, plain_word, plain_mark, no_plain, line_limits, sound_here, sound_after, name_good)

take_fits : (ks : List Lexeme) (l port comma last : Lexeme) (ls : List Lexeme) (n : ℕ) (e : Expression)
    → ks ≡ l ∷ port ∷ comma ∷ (ls ++ last ∷ []) → l.shape ≡ Word (codes "take") → port.shape ≡ shape.Number n
    → Is Comma comma → Spelled 0 ls e → Is Semi last
    → AllSound ks → (braces : ℕ) (rest : List Lexeme) → KeepLimits braces 0 (ks ++ rest)
    → FitsBefore braces (Take l.place n port.place e) rest
take_fits ks l port comma last ls n e eq is np q s c h braces rest k =
    let hs = subst AllSound eq h in
    let all : ks ++ rest ≡ (l ∷ port ∷ comma ∷ ls) ++ last ∷ rest = grind (arith, split) in
    let row : AllPlain (l ∷ port ∷ comma ∷ ls) = plain (plain_word l (codes "take") is)
    (plain (plain_number port n np) (plain (plain_mark comma Comma refl q) (expression_plain s))) in
    let w = line_limits last rest braces row c (subst (KeepLimits braces 0) all k) in
    grind (arith, number_good, sound_here, sound_after, expression_good, sound_front, width_least)

call_fits : (ks : List Lexeme) (name first last semi : Lexeme) (ls : List Lexeme) (f : Name)
    (es : List Expression)
    → ks ≡ name ∷ first ∷ (ls ++ last ∷ semi ∷ []) → IsName f name → Is LParen first
    → Listed (Spelled 0) ls es → Is RParen last → Is Semi semi
    → AllSound ks → (braces : ℕ) (rest : List Lexeme) → KeepLimits braces 0 (ks ++ rest)
    → FitsBefore braces (Call f.place None f es) rest
call_fits ks name first last semi ls f es eq nf o s c d h braces rest k =
    let hs = subst AllSound eq h in
    let row : List Lexeme = name ∷ first ∷ (ls ++ last ∷ []) in
    let all : ks ++ rest ≡ row ++ semi ∷ rest = ap (λ t. t ++ rest) eq ∙ simp append_assoc in
    let flat : AllPlain row = plain (plain_word name f.text nf.word) (plain (plain_mark first LParen refl o)
    (plain_append (arguments_plain s) (plain (plain_mark last RParen refl c) no_plain))) in
    let w = line_limits semi rest braces flat d (subst (KeepLimits braces 0) all k) in
    let small = w.0 in
    grind (arith, name_good, sounds, arguments_good, arguments_width, length-append)

called_fits : (ks : List Lexeme) (l equals name first last semi : Lexeme) (ls : List Lexeme) (x f : Name)
    (es : List Expression)
    → ks ≡ l ∷ equals ∷ name ∷ first ∷ (ls ++ last ∷ semi ∷ [])
    → IsName x l → Is mark.Assign equals → IsName f name → Is LParen first → Listed (Spelled 0) ls es
    → Is RParen last → Is Semi semi
    → AllSound ks → (braces : ℕ) (rest : List Lexeme) → KeepLimits braces 0 (ks ++ rest)
    → FitsBefore braces (Call x.place (Some x) f es) rest
called_fits ks l equals name first last semi ls x f es eq nx q nf o s c d h braces rest k =
    let hs = subst AllSound eq h in
    let row : List Lexeme = l ∷ equals ∷ name ∷ first ∷ (ls ++ last ∷ []) in
    let all : ks ++ rest ≡ row ++ semi ∷ rest = ap (λ t. t ++ rest) eq ∙ simp append_assoc in
    let flat : AllPlain row = plain (plain_word l x.text nx.word)
    (grind (arith, plain, plain_mark, plain_word, plain_append, arguments_plain, no_plain)) in
    let w = line_limits semi rest braces flat d (subst (KeepLimits braces 0) all k) in
    let small = w.0 in
    grind (arith, name_good, sounds, arguments_good, arguments_width, length-append)

-- the test of an `if` or a `while`
record TestFits (braces : ℕ) (e : Expression) (ls following rest : List Lexeme) : Type 0 where
  row : ℕ
  good : IsWrittenExpression e
  short : width e + 3 ≤ 256
  inside : AllSound following
  kept : KeepLimits braces row (following ++ rest)

test_fits : (ks : List Lexeme) (l first last : Lexeme) (ls following : List Lexeme) (e : Expression)
    (w : List ℕ)
    → ks ≡ l ∷ first ∷ (ls ++ last ∷ following) → l.shape ≡ Word w → Is LParen first → Spelled 0 ls e
    → Is RParen last
    → AllSound ks → (braces : ℕ) (rest : List Lexeme) → KeepLimits braces 0 (ks ++ rest)
    → TestFits braces e ls following rest
test_fits ks l first last ls following e w eq is o s c h braces rest k =
    let hs = subst AllSound eq h in
    let row : List Lexeme = l ∷ first ∷ (ls ++ last ∷ []) in
    let all : ks ++ rest ≡ row ++ (following ++ rest) = ap (λ t. t ++ rest) eq ∙ simp append_assoc in
    let flat : AllPlain row =
    plain (plain_word l w is) (grind (arith, plain, plain_mark, plain_append, expression_plain, no_plain)) in
    let within = row_limits (following ++ rest) braces flat (subst (KeepLimits braces 0) all k) in
    grind (arith, sound_after, expression_good, sound_front, width_least, length-append, sound_back)

mutual
  pub statement_fits : {ks : List Lexeme} {s : Statement} → SpelledStatement ks s → AllSound ks
      → (braces : ℕ) (rest : List Lexeme)
      → KeepLimits braces 0 (ks ++ rest) → FitsBefore braces s rest
  statement_fits (assign {ks = ks} l equals last ls x e eq is q s c) h braces rest k =
      assign_fits ks l equals last ls x e eq is q s c h braces rest k
  statement_fits (store {ks = ks} l first last equals semi is es a i e eq na o si c q se d) h braces rest k =
      store_fits ks l first last equals semi is es a i e eq na o si c q se d h braces rest k
  statement_fits (print {ks = ks} l last ls e eq is s c) h braces rest k =
      let f = print_fits ks l last ls e (codes "print") eq is s c h braces rest k in ((f.0, f.1), f.2)
  statement_fits (read {ks = ks} l name last x eq is nx c) h braces rest k =
      read_fits ks l name last x eq is nx c h braces rest k
  statement_fits (give {ks = ks} l port comma name last n x eq is np q nx c) h braces rest k =
      give_fits ks l port comma name last n x eq is np q nx c h braces rest k
  statement_fits (take {ks = ks} l port comma last ls n e eq is np q s c) h braces rest k =
      take_fits ks l port comma last ls n e eq is np q s c h braces rest k
  statement_fits (call {ks = ks} name first last semi ls f es eq nf o s c d) h braces rest k =
      call_fits ks name first last semi ls f es eq nf o s c d h braces rest k
  statement_fits (called {ks = ks} l equals name first last semi ls x f es eq nx q nf o s c d) h braces rest
      k =
      grind (arith, called_fits ks l equals name first last semi ls x f es eq nx q nf o s c d h braces rest k)
  statement_fits (choice {ks = ks} l first last ls xs ys e a b eq is o s c sa sb) h braces rest k =
      let t = test_fits ks l first last ls (xs ++ ys) e (codes "if") eq is o s c h braces rest k in
      let x = block_fits sa (sound_front xs ys t.inside) braces t.row (ys ++ rest)
      (subst (KeepLimits braces t.row) (append_assoc xs ys rest) t.kept) in
      grind (arith, sound_back, else_fits sb (sound_back xs ys t.inside) braces rest x.0 x.2)
  statement_fits (while {ks = ks} l first last ls bs e a eq is o s c sa) h braces rest k =
      let t = test_fits ks l first last ls bs e (codes "while") eq is o s c h braces rest k in
      grind (arith, block_fits sa t.inside braces t.row rest t.kept)

  pub block_fits : {ks : List Lexeme} {b : Statements} → SpelledBlock ks b → AllSound ks
      → (braces row : ℕ) (rest : List Lexeme)
      → KeepLimits braces row (ks ++ rest) → (suc braces ≤ 32) × AreWrittenStatements (suc braces) b
      × KeepLimits braces 0 rest
  block_fits (block {ks = ks} first last ls b eq o s c) h braces row rest k =
      let hs = subst AllSound eq h in
      let all : ks ++ rest ≡ first ∷ (ls ++ last ∷ rest) = grind (arith, split) in
      let x = open_limits braces row first (ls ++ last ∷ rest) o (subst (KeepLimits braces row) all k) in
      let y = statements_fit s (sound_front ls (last ∷ []) (sound_after hs)) (suc braces) (last ∷ rest) x.1 in
      (x.0, y.0, close_limits braces 0 last rest c y.1)

  pub else_fits : {ks : List Lexeme} {b : Statements} → SpelledElse ks b → AllSound ks
      → (braces : ℕ) (rest : List Lexeme) → suc braces ≤ 32
      → KeepLimits braces 0 (ks ++ rest) → AreWrittenStatements (suc braces) b × KeepLimits braces 0 rest
  else_fits no_else h braces rest d k = (tt, k)
  else_fits (with_else l ls b is s) h braces rest d k =
      let row : AllPlain (l ∷ []) = plain (plain_word l (codes "else") is) no_plain in
      let w = row_limits (ls ++ rest) braces row k in
      grind (arith, sound_after, block_fits s (sound_after h) braces 1 rest w.kept)

  pub statements_fit : {ks : List Lexeme} {b : Statements} → SpelledStatements ks b → AllSound ks
      → (braces : ℕ) (rest : List Lexeme)
      → KeepLimits braces 0 (ks ++ rest) → AreWrittenStatements braces b × KeepLimits braces 0 rest
  statements_fit nothing h braces rest k = (tt, k)
  statements_fit (first_then {ks = ks} ls rs s b eq ss sb) h braces rest k =
      let hs = subst AllSound eq h in
      let all : ks ++ rest ≡ ls ++ (rs ++ rest) = ap (λ t. t ++ rest) eq ∙ append_assoc ls rs rest in
      let x = statement_fits ss (sound_front ls rs hs) braces (rs ++ rest)
      (subst (KeepLimits braces 0) all k) in
      grind (arith, sound_back, statements_fit sb (sound_back ls rs hs) braces rest x.1)

ending_fits : {ks : List Lexeme} {e : Option Last} → SpelledEnding ks e → AllSound ks
    → (braces : ℕ) (rest : List Lexeme)
    → KeepLimits braces 0 (ks ++ rest) → IsWrittenEnding e × KeepLimits braces 0 rest
ending_fits no_ending h braces rest k = (tt, k)
ending_fits (ending {ks = ks} l semi ls e eq is s c) h braces rest k =
    let f = print_fits ks l semi ls e (codes "return") eq is s c h braces rest k in ((f.0, f.1), f.2)

names_append : (xs ys : List Name) → AreWrittenNames xs → AreWrittenNames ys → AreWrittenNames (xs ++ ys)
names_append [] ys h k = k
names_append (x ∷ xs) ys h k = (h.0, names_append xs ys h.1 k)

vars_fit : {ks : List Lexeme} {xs : List Name} → SpelledVars ks xs → AllSound ks
    → (braces : ℕ) (rest : List Lexeme)
    → KeepLimits braces 0 (ks ++ rest) → AreWrittenNames xs × KeepLimits braces 0 rest
vars_fit no_vars h braces rest k = (tt, k)
vars_fit (vars {ks = ks} l semi ls rs xs ys eq zs is s c more) h braces rest k =
    let hs = subst AllSound eq h in
    let inside = sound_after hs in
    let all : ks ++ rest ≡ (l ∷ ls) ++ semi ∷ (rs ++ rest) = ap (λ t. t ++ rest) eq ∙ simp append_assoc in
    let row : AllPlain (l ∷ ls) = plain (plain_word l (codes "var") is) (some_names_plain s) in
    let w = line_limits semi (rs ++ rest) braces row c (subst (KeepLimits braces 0) all k) in
    let t = vars_fit more (sound_after (sound_back ls (semi ∷ rs) inside)) braces rest w.1 in
    grind (arith, names_append, some_names_good, sound_front)

names_few : (xs : List Name) → names_width xs ≤ 2 * length xs
names_few (x ∷ y ∷ xs) = omega (arith, names_few (y ∷ xs))
names_few xs = grind arith

array_fits : (ks : List Lexeme) (l name first size last semi : Lexeme) (x : Name) (n : ℕ)
    → ks ≡ l ∷ name ∷ first ∷ size ∷ last ∷ semi ∷ []
    → l.shape ≡ Word (codes "array") → IsName x name → Is LSquare first → size.shape ≡ shape.Number n
    → Is RSquare last → Is Semi semi
    → AllSound ks → (rest : List Lexeme) → KeepLimits 0 0 (ks ++ rest) → IsNearlyPart (Array x n size.place)
    × KeepLimits 0 0 rest
array_fits ks l name first size last semi x n eq is nx o v c d h rest k =
    grind (arith, plain, plain_word, plain_mark, no_plain, line_limits, name_good, sound_here, sound_after)

procedure_fits : (ks : List Lexeme) (l name first last open' close : Lexeme) (ps vs bs es : List Lexeme)
    (x : Name) (params vs' : List Name) (b : Statements) (e : Option Last)
    → ks ≡ l ∷ name ∷ first ∷ (ps ++ last ∷ open' ∷ (vs ++ (bs ++ (es ++ close ∷ []))))
    → l.shape ≡ Word (codes "proc") → IsName x name → Is LParen first → Listed SpelledName ps params
    → Is RParen last → Is LBrace open'
    → SpelledVars vs vs' → SpelledStatements bs b → SpelledEnding es e → Is RBrace close
    → AllSound ks → (rest : List Lexeme) → KeepLimits 0 0 (ks ++ rest)
    → IsNearlyProcedure (record { name = x; params = params; vars = vs'; body = b; ending = e })
    × KeepLimits 0 0 rest
procedure_fits ks l name first last open' close ps vs bs es x params vs' b e eq is nx o sp c d sv sb se f h
    rest k =
    let hs = subst AllSound eq h in
    let endings = es ++ close ∷ [] in
    let bodies = bs ++ endings in
    let inside = sound_after (sound_after (sound_after hs)) in
    let heard = sound_after (sound_after (sound_back ps (last ∷ open' ∷ (vs ++ bodies)) inside)) in
    let body_heard = sound_back vs bodies heard in
    let ending_heard = sound_back bs endings body_heard in
    let row : List Lexeme = l ∷ name ∷ first ∷ (ps ++ last ∷ []) in
    let following : List Lexeme = vs ++ (bs ++ (es ++ close ∷ rest)) in
    let all : ks ++ rest ≡ row ++ open' ∷ following = ap (λ t. t ++ rest) eq ∙ simp append_assoc in
    let flat : AllPlain row = plain (plain_word l (codes "proc") is)
    (grind (arith, plain, plain_word, plain_mark, plain_append, names_plain, no_plain)) in
    let head = row_limits (open' ∷ following) 0 flat (subst (KeepLimits 0 0) all k) in
    let short = head.short in
    let opened = open_limits 0 (length row) open' following d head.kept in
    let v = vars_fit sv (sound_front vs bodies heard) 1 (bs ++ (es ++ close ∷ rest)) opened.1 in
    let s = statements_fit sb (sound_front bs endings body_heard) 1 (es ++ close ∷ rest) v.1 in
    let r = ending_fits se (sound_front es (close ∷ []) ending_heard) 1 (close ∷ rest) s.1 in
    grind (arith, name_good, sounds, names_good, names_fit, length-append, close_limits)

item_fits : {ks : List Lexeme} {a : Part} → SpelledItem ks a → AllSound ks → (rest : List Lexeme)
    → KeepLimits 0 0 (ks ++ rest)
    → IsNearlyPart a × KeepLimits 0 0 rest
item_fits (array {ks = ks} l name first size last semi x n eq is nx o v c d) h rest k =
    array_fits ks l name first size last semi x n eq is nx o v c d h rest k
item_fits (proc {ks = ks} l name first last open' close ps vs bs es x params vs' b e eq is nx o sp c d sv sb
    se f) h rest k =
    procedure_fits ks l name first last open' close ps vs bs es x params vs' b e eq is nx o sp c d sv sb se f
    h rest k

-- a tree of lexemes within the limits is nearly written
pub tree_nearly : {ks : List Lexeme} {all : List Part} → Tree ks all → AllSound ks → KeepLimits 0 0 ks
    → AreNearlyWritten all
tree_nearly no_items h k = tt
tree_nearly (items ls rs a all eq s more) h k =
    let hs = subst AllSound eq h in
    let x = item_fits s (sound_front ls rs hs) rs (subst (KeepLimits 0 0) eq k) in
    (x.0, tree_nearly more (sound_back ls rs hs) x.1)

have_rows : (all : List Part) → most_variables all ≤ most_locals → HaveRows all
have_rows [] h = tt
have_rows (Array x n at ∷ all) h = have_rows all h
have_rows (Proc p ∷ all) h = (omega (arith, h, names_few p.vars), have_rows all (omega (arith, h)))

-- what is read from a text within the limits and accepted is written
pub read_is_written : (text : List ℕ) (ls : List Lexeme) (finish : Place) (all : List Part)
    → Lex text ls finish → KeepLimits 0 0 ls → Tree ls all
    → IsAccepted all finish → IsWritten all
read_is_written text ls finish all lex k tree accepted =
    grind (arith, whole, tree_nearly, leads_sound, lex.leads, have_rows, accepted_few)
