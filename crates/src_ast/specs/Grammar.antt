-- The grammar: which lexemes spell which tree. It goes by the rules of the language, and knows no
-- parser.
use Rattle.std.specs.Prelude.{◌≡◌, ℕ, ◌≤◌, ◌+◌, List, [], ◌∷◌, ◌++◌, Option, Some, None, codes, Bool, false}
use Rattle.std.specs.Prelude.{◌||◌, nat_eq}
use lib.Pointwise.{pointwise}
use Rattle.ws_words.specs.declared.alu.Alu.{Alu}
use Rattle.ws_words.specs.declared.alu.Alu.TheVariants.{Add, Sub, Mul, Div, Rem, And, Or, Xor, Shl, Shr, Eq}
use Rattle.ws_words.specs.declared.alu.Alu.TheVariants.{Ne, Lt, Le, Gt, Ge}
use Rattle.src_ast.specs.declared.lexeme.Name.{Name}
use Rattle.src_ast.specs.declared.lexeme.Lexeme.{Lexeme}
use Rattle.src_ast.specs.declared.lexeme.Shape.TheVariants as shape
use Rattle.src_ast.specs.declared.lexeme.Mark.{Mark}
use Rattle.src_ast.specs.declared.lexeme.Mark.TheVariants.{Tilde, Bang, Minus, Plus, Star, Slash, Percent}
use Rattle.src_ast.specs.declared.lexeme.Mark.TheVariants.{Amp, Bar, Caret, ShiftLeft, ShiftRight, Same}
use Rattle.src_ast.specs.declared.lexeme.Mark.TheVariants.{Differs, Less, LessEq, More, MoreEq, LParen}
use Rattle.src_ast.specs.declared.lexeme.Mark.TheVariants.{RParen, LSquare, RSquare, LBrace, RBrace, Comma}
use Rattle.src_ast.specs.declared.lexeme.Mark.TheVariants.{Semi}
use Rattle.src_ast.specs.declared.lexeme.Mark.TheVariants as mark
use Rattle.src_ast.specs.declared.tree.Unary.{Unary}
use Rattle.src_ast.specs.declared.tree.Unary.TheVariants.{Flip, Not, Neg}
use Rattle.src_ast.specs.Syntax.{Expression, Number, Variable, Cell, Signed, Binary, Statement, Assign, Store}
use Rattle.src_ast.specs.Syntax.{Print, Read, Give, Take, Call, If, While, Statements, Nothing, Then, Last}
use Rattle.src_ast.specs.Syntax.{Part, Array, Proc}

-- how tightly an operator binds, from the loosest
abbrev pub level_of : Alu → ℕ
level_of Or = 0
level_of Xor = 1
level_of And = 2
level_of Eq = 3
level_of Ne = 3
level_of Lt = 4
level_of Le = 4
level_of Gt = 4
level_of Ge = 4
level_of Shl = 5
level_of Shr = 5
level_of Add = 6
level_of Sub = 6
level_of Mul = 7
level_of Div = 7
level_of Rem = 7

abbrev pub mark_of : Alu → Mark
mark_of Or = Bar
mark_of Xor = Caret
mark_of And = Amp
mark_of Eq = Same
mark_of Ne = Differs
mark_of Lt = Less
mark_of Le = LessEq
mark_of Gt = More
mark_of Ge = MoreEq
mark_of Shl = ShiftLeft
mark_of Shr = ShiftRight
mark_of Add = Plus
mark_of Sub = Minus
mark_of Mul = Star
mark_of Div = Slash
mark_of Rem = Percent

abbrev pub sign_mark : Unary → Mark
sign_mark Flip = Tilde
sign_mark Not = Bang
sign_mark Neg = Minus

-- the words that are no names
abbrev pub is_reserved : List ℕ → Bool
is_reserved w =
    pointwise nat_eq w (codes "proc") || pointwise nat_eq w (codes "array")
    || pointwise nat_eq w (codes "var") || pointwise nat_eq w (codes "if")
    || pointwise nat_eq w (codes "else") || pointwise nat_eq w (codes "while")
    || pointwise nat_eq w (codes "print") || pointwise nat_eq w (codes "read")
    || pointwise nat_eq w (codes "give") || pointwise nat_eq w (codes "take")
    || pointwise nat_eq w (codes "return")

-- the lexeme is this mark, wherever it stands
abbrev pub Is : Mark → Lexeme → Type 0
Is m l = l.shape ≡ shape.Mark m

-- the lexeme is this reserved word
abbrev pub IsWord : List ℕ → Lexeme → Type 0
IsWord w l = l.shape ≡ shape.Word w

-- the lexeme is this name
pub record IsName (x : Name) (l : Lexeme) : Type 0 where
  pub word : l.shape ≡ shape.Word x.text
  pub place : l.place ≡ x.place
  pub free : is_reserved x.text ≡ false

abbrev pub IsNumber : ℕ → Lexeme → Type 0
IsNumber n l = l.shape ≡ shape.Number n

-- These lexemes spell the expression where an operator of this level or tighter may stand: 8 is a
-- signed expression.
pub data Spelled : ℕ → List Lexeme → Expression → Type 0 where
  number : {n : ℕ} (l : Lexeme) (v : ℕ) → IsNumber v l → Spelled n (l ∷ []) (Number v)
  variable : {n : ℕ} (l : Lexeme) (x : Name) → IsName x l → Spelled n (l ∷ []) (Variable x)
  cell : {n : ℕ} {ks : List Lexeme} (l first last : Lexeme) (ls : List Lexeme) (a : Name)
      (e : Expression)
      → ks ≡ l ∷ first ∷ (ls ++ last ∷ []) → IsName a l → Is LSquare first → Spelled 0 ls e
      → Is RSquare last
      → Spelled n ks (Cell a e)
  round : {n : ℕ} {ks : List Lexeme} {e : Expression} (first last : Lexeme) (ls : List Lexeme)
      → ks ≡ first ∷ (ls ++ last ∷ []) → Is LParen first → Spelled 0 ls e → Is RParen last
      → Spelled n ks e
  signed : {n : ℕ} (l : Lexeme) (ls : List Lexeme) (s : Unary) (e : Expression)
      → n ≤ 8 → Is (sign_mark s) l → Spelled 8 ls e → Spelled n (l ∷ ls) (Signed s e)
  binary : {n : ℕ} {ks : List Lexeme} (l : Lexeme) (ls rs : List Lexeme) (op : Alu)
      (a b : Expression)
      → n ≤ level_of op → ks ≡ ls ++ (l ∷ rs)
      → Is (mark_of op) l → Spelled (level_of op) ls a → Spelled (level_of op + 1) rs b
      → Spelled n ks (Binary op a b)

-- one or more, with commas between them
pub data Separated {A : Type 0} (L : List Lexeme → A → Type 0) : List Lexeme → List A → Type 0 where
  one : (ls : List Lexeme) (a : A) → L ls a → Separated L ls (a ∷ [])
  more : {ks : List Lexeme} (comma : Lexeme) (ls rs : List Lexeme) (a : A) (as' : List A)
      → ks ≡ ls ++ (comma ∷ rs) → L ls a → Is Comma comma → Separated L rs as'
      → Separated L ks (a ∷ as')

-- none, or some with commas between them
pub data Listed {A : Type 0} (L : List Lexeme → A → Type 0) : List Lexeme → List A → Type 0 where
  none : Listed L [] []
  some : (ls : List Lexeme) (as' : List A) → Separated L ls as' → Listed L ls as'

-- a name alone
pub data SpelledName : List Lexeme → Name → Type 0 where
  name : (l : Lexeme) (x : Name) → IsName x l → SpelledName (l ∷ []) x

mutual
  pub data SpelledStatement : List Lexeme → Statement → Type 0 where
    assign : {ks : List Lexeme} (l equals last : Lexeme) (ls : List Lexeme) (x : Name)
        (e : Expression)
        → ks ≡ l ∷ equals ∷ (ls ++ last ∷ []) → IsName x l → Is mark.Assign equals → Spelled 0 ls e
        → Is Semi last
        → SpelledStatement ks (Assign x.place x e)
    store : {ks : List Lexeme} (l first last equals semi : Lexeme) (is es : List Lexeme) (a : Name)
        (i e : Expression)
        → ks ≡ l ∷ first ∷ (is ++ last ∷ equals ∷ (es ++ semi ∷ []))
        → IsName a l → Is LSquare first → Spelled 0 is i → Is RSquare last → Is mark.Assign equals
        → Spelled 0 es e → Is Semi semi
        → SpelledStatement ks (Store a.place a i e)
    print : {ks : List Lexeme} (l last : Lexeme) (ls : List Lexeme) (e : Expression)
        → ks ≡ l ∷ (ls ++ last ∷ []) → IsWord (codes "print") l → Spelled 0 ls e → Is Semi last
        → SpelledStatement ks (Print l.place e)
    read : {ks : List Lexeme} (l name last : Lexeme) (x : Name)
        → ks ≡ l ∷ name ∷ last ∷ [] → IsWord (codes "read") l → IsName x name → Is Semi last
        → SpelledStatement ks (Read l.place x)
    give : {ks : List Lexeme} (l port comma name last : Lexeme) (n : ℕ) (x : Name)
        → ks ≡ l ∷ port ∷ comma ∷ name ∷ last ∷ []
        → IsWord (codes "give") l → IsNumber n port → Is Comma comma → IsName x name → Is Semi last
        → SpelledStatement ks (Give l.place n port.place x)
    take : {ks : List Lexeme} (l port comma last : Lexeme) (ls : List Lexeme) (n : ℕ)
        (e : Expression)
        → ks ≡ l ∷ port ∷ comma ∷ (ls ++ last ∷ [])
        → IsWord (codes "take") l → IsNumber n port → Is Comma comma → Spelled 0 ls e → Is Semi last
        → SpelledStatement ks (Take l.place n port.place e)
    call : {ks : List Lexeme} (name first last semi : Lexeme) (ls : List Lexeme) (f : Name)
        (es : List Expression)
        → ks ≡ name ∷ first ∷ (ls ++ last ∷ semi ∷ [])
        → IsName f name → Is LParen first → Listed (Spelled 0) ls es → Is RParen last → Is Semi semi
        → SpelledStatement ks (Call f.place None f es)
    called : {ks : List Lexeme} (l equals name first last semi : Lexeme) (ls : List Lexeme)
        (x f : Name) (es : List Expression)
        → ks ≡ l ∷ equals ∷ name ∷ first ∷ (ls ++ last ∷ semi ∷ [])
        → IsName x l → Is mark.Assign equals → IsName f name → Is LParen first
        → Listed (Spelled 0) ls es → Is RParen last → Is Semi semi
        → SpelledStatement ks (Call x.place (Some x) f es)
    choice : {ks : List Lexeme} (l first last : Lexeme) (ls xs ys : List Lexeme) (e : Expression)
        (a b : Statements)
        → ks ≡ l ∷ first ∷ (ls ++ last ∷ (xs ++ ys))
        → IsWord (codes "if") l → Is LParen first → Spelled 0 ls e → Is RParen last
        → SpelledBlock xs a → SpelledElse ys b
        → SpelledStatement ks (If l.place e a b)
    while : {ks : List Lexeme} (l first last : Lexeme) (ls bs : List Lexeme) (e : Expression)
        (body : Statements)
        → ks ≡ l ∷ first ∷ (ls ++ last ∷ bs)
        → IsWord (codes "while") l → Is LParen first → Spelled 0 ls e → Is RParen last
        → SpelledBlock bs body
        → SpelledStatement ks (While l.place e body)

  -- statements between braces
  pub data SpelledBlock : List Lexeme → Statements → Type 0 where
    block : {ks : List Lexeme} (first last : Lexeme) (ls : List Lexeme) (body : Statements)
        → ks ≡ first ∷ (ls ++ last ∷ []) → Is LBrace first → SpelledStatements ls body
        → Is RBrace last → SpelledBlock ks body

  pub data SpelledElse : List Lexeme → Statements → Type 0 where
    no_else : SpelledElse [] Nothing
    with_else : (l : Lexeme) (ls : List Lexeme) (body : Statements) → IsWord (codes "else") l
        → SpelledBlock ls body → SpelledElse (l ∷ ls) body

  pub data SpelledStatements : List Lexeme → Statements → Type 0 where
    nothing : SpelledStatements [] Nothing
    first_then : {ks : List Lexeme} (ls rs : List Lexeme) (s : Statement) (rest : Statements)
        → ks ≡ ls ++ rs → SpelledStatement ls s → SpelledStatements rs rest
        → SpelledStatements ks (Then s rest)

-- `return` and its expression, or nothing
pub data SpelledEnding : List Lexeme → Option Last → Type 0 where
  no_ending : SpelledEnding [] None
  ending : {ks : List Lexeme} (l semi : Lexeme) (ls : List Lexeme) (e : Expression)
      → ks ≡ l ∷ (ls ++ semi ∷ []) → IsWord (codes "return") l → Spelled 0 ls e → Is Semi semi
      → SpelledEnding ks (Some (record { place = l.place; value = e }))

-- lines of variables, which form one list
pub data SpelledVars : List Lexeme → List Name → Type 0 where
  no_vars : SpelledVars [] []
  vars : {ks : List Lexeme} {zs : List Name} (l semi : Lexeme) (ls rs : List Lexeme)
      (xs ys : List Name)
      → ks ≡ l ∷ (ls ++ semi ∷ rs) → zs ≡ xs ++ ys
      → IsWord (codes "var") l → Separated SpelledName ls xs → Is Semi semi → SpelledVars rs ys
      → SpelledVars ks zs

pub data SpelledItem : List Lexeme → Part → Type 0 where
  array : {ks : List Lexeme} (l name first size last semi : Lexeme) (x : Name) (n : ℕ)
      → ks ≡ l ∷ name ∷ first ∷ size ∷ last ∷ semi ∷ []
      → IsWord (codes "array") l → IsName x name → Is LSquare first → IsNumber n size
      → Is RSquare last → Is Semi semi
      → SpelledItem ks (Array x n size.place)
  proc : {ks : List Lexeme} (l name first last open' close : Lexeme) (ps vs bs es : List Lexeme)
      (x : Name) (params vars : List Name) (body : Statements) (e : Option Last)
      → ks ≡ l ∷ name ∷ first ∷ (ps ++ last ∷ open' ∷ (vs ++ (bs ++ (es ++ close ∷ []))))
      → IsWord (codes "proc") l → IsName x name → Is LParen first → Listed SpelledName ps params
      → Is RParen last → Is LBrace open'
      → SpelledVars vs vars → SpelledStatements bs body → SpelledEnding es e → Is RBrace close
      → SpelledItem ks
      (Proc (record { name = x; params = params; vars = vars; body = body; ending = e }))

-- the lexemes of a whole program, and its arrays and procedures
pub data Tree : List Lexeme → List Part → Type 0 where
  no_items : Tree [] []
  items : {ks : List Lexeme} (ls rs : List Lexeme) (a : Part) (all : List Part) → ks ≡ ls ++ rs
      → SpelledItem ls a → Tree rs all → Tree ks (a ∷ all)

-- some program begins so
abbrev pub Begins : List Lexeme → Type 0
Begins ls = (more : List Lexeme) × (all : List Part) × Tree (ls ++ more) all
