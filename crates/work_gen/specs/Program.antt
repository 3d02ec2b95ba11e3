-- The program of the generated jobs, as a tree: it multiplies two square matrices.
use Rattle.std.specs.Prelude.{ℕ, ◌*◌, List, [], ◌∷◌, Some, None, codes}
use Rattle.ws_words.specs.declared.alu.Alu.TheVariants.{Add, Mul, Lt}
use Rattle.src_ast.specs.Lexemes.{start}
use Rattle.src_ast.specs.Named.{named, value}
use Rattle.src_ast.specs.Syntax.{Expression, Number, Cell, Binary, Statement, Assign, Store, Print}
use Rattle.src_ast.specs.Syntax.{Read, Call, While, Statements, Nothing, Then, Procedure, Part, Array, Proc}

abbrev pub block : List Statement → Statements
block [] = Nothing
block (s ∷ statements) = Then s (block statements)

-- `x = e;`
abbrev pub set : List ℕ → Expression → Statement
set x e = Assign start (named x) e

-- `x = x + 1;`
abbrev pub count : List ℕ → Statement
count x = set x (Binary Add (value x) (Number 1))

-- `while (x < n) { .. }`
abbrev pub below : List ℕ → ℕ → List Statement → Statement
below x n body = While start (Binary Lt (value x) (Number n)) (block body)

-- `row * n + column`: where a cell stands in a matrix of n columns
abbrev pub place : ℕ → List ℕ → List ℕ → Expression
place n row column = Binary Add (Binary Mul (value row) (Number n)) (value column)

-- the sum of the products of a row of `a` and a column of `b`
abbrev pub cell : ℕ → Procedure
cell n = record {
  name = named (codes "cell");
  params = named (codes "i") ∷ named (codes "j") ∷ [];
  vars = named (codes "k") ∷ named (codes "s") ∷ [];
  body = block (
      below (codes "k") n (
      set (codes "s") (Binary Add (value (codes "s")) (Binary Mul
      (Cell (named (codes "a")) (place n (codes "i") (codes "k")))
      (Cell (named (codes "b")) (place n (codes "k") (codes "j")))))
      ∷ count (codes "k") ∷ [])
      ∷ []);
  ending = Some (record { place = start; value = value (codes "s") });
}

-- the cells of a matrix are read
abbrev pub fill : List ℕ → ℕ → Statement
fill name q = below (codes "i") q (
    Read start (named (codes "x"))
    ∷ Store start (named name) (value (codes "i")) (value (codes "x"))
    ∷ count (codes "i") ∷ [])

-- both matrices are read, and each cell of the product is stored in `c` and printed
abbrev pub main : ℕ → ℕ → Procedure
main n q = record {
  name = named (codes "main");
  params = [];
  vars = named (codes "i") ∷ named (codes "j") ∷ named (codes "x") ∷ [];
  body = block (
      fill (codes "a") q
      ∷ set (codes "i") (Number 0)
      ∷ fill (codes "b") q
      ∷ set (codes "i") (Number 0)
      ∷ below (codes "i") n (
      set (codes "j") (Number 0)
      ∷ below (codes "j") n (
      Call start (Some (named (codes "x"))) (named (codes "cell"))
      (value (codes "i") ∷ value (codes "j") ∷ [])
      ∷ Store start (named (codes "c")) (place n (codes "i") (codes "j")) (value (codes "x"))
      ∷ Print start (value (codes "x"))
      ∷ count (codes "j") ∷ [])
      ∷ count (codes "i") ∷ [])
      ∷ []);
  ending = None;
}

abbrev pub matrix : List ℕ → ℕ → Part
matrix name q = Array (named name) q start

-- the program for matrices of n rows
unfoldable pub product : ℕ → List Part
product n =
    matrix (codes "a") (n * n) ∷ matrix (codes "b") (n * n) ∷ matrix (codes "c") (n * n)
    ∷ Proc (cell n) ∷ Proc (main n (n * n)) ∷ []
