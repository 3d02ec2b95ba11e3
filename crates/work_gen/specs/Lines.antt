-- The lines of the program of a generated job, piece by piece, for n rows and q cells.
use Rattle.std.specs.Prelude.{ℕ, List, ◌++◌, codes, decimal}

unfoldable pub array_line : List ℕ → ℕ → List ℕ
array_line name q = codes "array " ++ name ++ codes "[" ++ decimal q ++ codes "];\n"

-- a number between two texts
unfoldable pub around : List ℕ → ℕ → List ℕ → List ℕ
around front n behind = front ++ decimal n ++ behind

-- the line that adds one product to the sum of a cell
unfoldable pub sum_line : ℕ → List ℕ
sum_line n = around (codes "    s = s + a[i * ") n (codes " + k]")
    ++ around (codes " * b[k * ") n (codes " + j];\n")

-- the procedure that computes one cell of the product
unfoldable pub cell_lines : ℕ → List ℕ
cell_lines n = around (codes "proc cell(i, j) {\n  var k, s;\n  while (k < ") n (codes ") {\n") ++ sum_line n
    ++ codes "    k = k + 1;\n  }\n  return s;\n}\n"

-- the loop that reads a matrix
unfoldable pub reading_lines : List ℕ → ℕ → List ℕ
reading_lines name q = codes "  while (i < " ++ decimal q ++ codes ") {\n    read x;\n    " ++ name
    ++ codes "[i] = x;\n    i = i + 1;\n  }\n"

-- the loops that compute and print the product
unfoldable pub product_lines : ℕ → List ℕ
product_lines n = around (codes "  while (i < ") n (codes ") {\n    j = 0;\n")
    ++ around (codes "    while (j < ") n (codes ") {\n      x = cell(i, j);\n")
    ++ around (codes "      c[i * ") n (codes " + j] = x;\n")
    ++ codes "      print x;\n      j = j + 1;\n    }\n    i = i + 1;\n  }\n"

unfoldable pub arrays_lines : ℕ → List ℕ
arrays_lines q = array_line (codes "a") q ++ array_line (codes "b") q ++ array_line (codes "c") q

-- the loops that read both matrices
unfoldable pub both_lines : ℕ → List ℕ
both_lines q = reading_lines (codes "a") q ++ codes "  i = 0;\n" ++ reading_lines (codes "b") q
    ++ codes "  i = 0;\n"

unfoldable pub main_lines : ℕ → ℕ → List ℕ
main_lines n q = codes "proc main() {\n  var i, j, x;\n" ++ both_lines q ++ product_lines n ++ codes "}\n"

unfoldable pub program_text : ℕ → ℕ → List ℕ
program_text n q = arrays_lines q ++ cell_lines n ++ main_lines n q
