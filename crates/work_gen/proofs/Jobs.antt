-- Each generated job has a written and accepted program and a short text.
use Rattle.std.specs.Prelude.{ℕ, ◌+◌, ◌*◌, ◌%◌, ◌^◌, ◌<◌, ◌≤◌, List, [], ◌∷◌, ◌++◌, codes, decimal, flat_map}
use Rattle.std.specs.Prelude.{length, map, refl}
use Rattle.std.proofs.Common.{arith, length-append}
use Rattle.std.specs.List.{range_with_len}
use Rattle.std.proofs.lemmas.Bool.{leb-true}
use Rattle.std.proofs.lemmas.Fmt.{length-decimal-le}
use Rattle.std.proofs.lemmas.List.FromFn.{length-range_with_len}
use Rattle.src_ast.specs.Printed.{printed_form}
use Rattle.src_ast.specs.Written.{IsWrittenName, IsWrittenStatement, IsWrittenProcedure, IsWritten}
use Rattle.work_gen.specs.Program.{count, fill, cell, main, product}
use Rattle.work_gen.specs.Job.{size, square, word, words_of, further_word, words_line, job_text}
use Rattle.work_gen.specs.Jobs.{IsGenerated}
use Rattle.work_gen.proofs.Sizes.{of_size}

-- the program is written

name_a : IsWrittenName (codes "a")
name_a = record { word = refl; free = refl; short = omega arith }

name_b : IsWrittenName (codes "b")
name_b = record { word = refl; free = refl; short = omega arith }

name_c : IsWrittenName (codes "c")
name_c = record { word = refl; free = refl; short = omega arith }

name_i : IsWrittenName (codes "i")
name_i = record { word = refl; free = refl; short = omega arith }

name_j : IsWrittenName (codes "j")
name_j = record { word = refl; free = refl; short = omega arith }

name_k : IsWrittenName (codes "k")
name_k = record { word = refl; free = refl; short = omega arith }

name_s : IsWrittenName (codes "s")
name_s = record { word = refl; free = refl; short = omega arith }

name_x : IsWrittenName (codes "x")
name_x = record { word = refl; free = refl; short = omega arith }

name_cell : IsWrittenName (codes "cell")
name_cell = record { word = refl; free = refl; short = omega arith }

name_main : IsWrittenName (codes "main")
name_main = record { word = refl; free = refl; short = omega arith }

counted : (braces : ℕ) (x : List ℕ) → IsWrittenName x → IsWrittenStatement braces (count x)
counted braces x h = (h, (h, omega arith), omega arith)

filled : (name : List ℕ) (q : ℕ) → IsWrittenName name → q < 2 ^ 64 → IsWrittenStatement 1 (fill name q)
filled name q h few = (
  (name_i, few),
  omega arith,
  omega arith,
  (name_x, ((h, name_i, name_x, omega arith), (counted 2 (codes "i") name_i, tt))),
)

module _ (n : ℕ) (rows : n < 2 ^ 64) (cells : n * n < 2 ^ 64) where
  cell_written : IsWrittenProcedure (cell n)
  cell_written = record {
    name = name_cell;
    params = (name_i, (name_j, tt));
    params_row = omega arith;
    vars = (name_k, (name_s, tt));
    vars_row = omega arith;
    body = (
      (
        (name_k, rows),
        omega arith,
        omega arith,
        (
          (
            name_s,
            (name_s, ((name_a, ((name_i, rows), name_k)), (name_b, ((name_k, rows), name_j)))),
            omega arith,
          ),
          (counted 2 (codes "k") name_k, tt),
        ),
      ),
      tt,
    );
    ending = (name_s, omega arith);
  }

  main_written : IsWrittenProcedure (main n (n * n))
  main_written = record {
    name = name_main;
    params = tt;
    params_row = omega arith;
    vars = (name_i, (name_j, (name_x, tt)));
    vars_row = omega arith;
    body = (
      filled (codes "a") (n * n) name_a cells,
      (
        (name_i, omega arith, omega arith),
        (
          filled (codes "b") (n * n) name_b cells,
          (
            (name_i, omega arith, omega arith),
            (
              (
                (name_i, rows),
                omega arith,
                omega arith,
                (
                  (name_j, omega arith, omega arith),
                  (
                    (
                      (name_j, rows),
                      omega arith,
                      omega arith,
                      (
                        (name_x, name_cell, (name_i, (name_j, tt)), omega arith),
                        (
                          (name_c, ((name_i, rows), name_j), name_x, omega arith),
                          ((name_x, omega arith), (counted 3 (codes "j") name_j, tt)),
                        ),
                      ),
                    ),
                    (counted 2 (codes "i") name_i, tt),
                  ),
                ),
              ),
              tt,
            ),
          ),
        ),
      ),
    );
    ending = tt;
  }

  product_written : IsWritten (product n)
  unfolding product
  product_written =
      ((name_a, cells), ((name_b, cells), ((name_c, cells), (cell_written, (main_written, tt)))))

-- the text is short

below_97 : (number k : ℕ) → word number k < 97
below_97 number k = omega arith

further_short : (number : ℕ) (ks : List ℕ) → length (flat_map further_word (map (word number) ks))
    ≤ 3 * length ks
further_short number [] = omega arith
further_short number (k ∷ ks) =
    let one = length-decimal-le 2 (word number k) (omega arith) (omega (arith, below_97 number k))
    (omega (arith, below_97 number k)) in
    omega (
      arith,
      one,
      length-append (further_word (word number k))
          (flat_map further_word (map (word number) ks)),
      further_short number ks,
    )

line_short : (number : ℕ) (ks : List ℕ) → length (words_line (map (word number) ks)) ≤ 3 * length ks + 1
line_short number [] = omega arith
line_short number (k ∷ ks) =
    let one = length-decimal-le 2 (word number k) (omega arith) (omega (arith, below_97 number k))
    (omega (arith, below_97 number k)) in
    let more = flat_map further_word (map (word number) ks) in
    omega (
      arith,
      one,
      further_short number ks,
      length-append (decimal (word number k) ++ more) (codes "\n"),
      length-append (decimal (word number k)) more,
    )

-- at most 100 cells
few_cells : (r : ℕ) → r < 9 → (2 + r) * (2 + r) ≤ 100
few_cells r h = leb-true ((2 + r) * (2 + r)) 100 (of_size r h).few

job_short : (number : ℕ) → length (job_text number) ≤ 1800
unfolding job_text
job_short number =
    let program = leb-true (length (printed_form (product (size number)))) 1000
    (of_size (number % 9) (omega arith)).short in
    let cells = few_cells (number % 9) (omega arith) in
    let many = length-range_with_len 0 (2 * square number) in
    let line = line_short number (range_with_len 0 (2 * square number)) in
    omega (
      arith,
      program,
      cells,
      many,
      line,
      length-append (printed_form (product (size number)) ++ codes "%input\n") (words_line (words_of number)),
      length-append (printed_form (product (size number))) (codes "%input\n"),
    )

pub generated : (number : ℕ) → IsGenerated number
generated number =
    let sized = of_size (number % 9) (omega arith) in
    let cells = few_cells (number % 9) (omega arith) in
    record {
      written = product_written (size number) (omega arith) (omega (arith, cells));
      accepted = sized.accepted;
      bounded = sized.bounded;
      short = job_short number;
    }
