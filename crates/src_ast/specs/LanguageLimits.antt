-- The limits of the language. What a text or a program has of each thing is at most so many.
use Rattle.std.specs.Prelude.{ℕ}

-- bytes in a word
abbrev pub most_name_bytes : ℕ
most_name_bytes = 64

-- open braces
abbrev pub most_braces : ℕ
most_braces = 32

-- lexemes in a row, none of which is `;`, `{` or `}`
abbrev pub most_in_row : ℕ
most_in_row = 256

-- arrays of a program
abbrev pub most_arrays : ℕ
most_arrays = 64

-- cells of an array
abbrev pub most_array_cells : ℕ
most_array_cells = 65536

-- cells of all arrays together
abbrev pub most_cells : ℕ
most_cells = 1048576

-- procedures of a program, `main` included
abbrev pub most_procedures : ℕ
most_procedures = 64

-- parameters of a procedure
abbrev pub most_parameters : ℕ
most_parameters = 8

-- parameters and variables of a procedure together
abbrev pub most_locals : ℕ
most_locals = 32

-- statements of a program, `return` included
abbrev pub most_statements : ℕ
most_statements = 2048

-- the number of a port, counted from 1
abbrev pub most_port : ℕ
most_port = 7

-- expression nodes of one statement that stands in a row: its first lexeme, or its `;`, is none
abbrev pub most_statement_nodes : ℕ
most_statement_nodes = 255
