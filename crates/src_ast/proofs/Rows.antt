-- Worked runs: what the sequential meaning gives for small programs, by computing.
use Rattle.std.proofs.Common.{◌≡◌, ℕ, ◌<◌, List, ◌∷◌, codes, refl, Some, None, Option, if◌then◌else◌, arith}
use Rattle.std.proofs.Common.{[]}
use Rattle.ws_words.specs.declared.alu.Alu.TheVariants.{Add, Sub, Mul, Div, Rem, Shl, Le}
use Rattle.ws_words.specs.Outside.{with_input, Outside, Act, prints, loads, stores, reads}
use Rattle.ws_words.specs.Past.{AreWithin}
use Rattle.src_ast.specs.declared.lexeme.Place.{Place}
use Rattle.src_ast.specs.declared.lexeme.Name.{Name}
use Rattle.src_ast.specs.Lexemes.{start}
use Rattle.src_ast.specs.Named.{named, value}
use Rattle.src_ast.specs.Syntax.{Expression, Number, Variable, Cell, Binary, Assign, Store, Print, Read, Give}
use Rattle.src_ast.specs.Syntax.{Call, If, While, Statements, Nothing, Then, Part, Array, Proc}
use Rattle.src_ast.specs.declared.fault.RefusalKind.{RefusalKind}
use Rattle.src_ast.specs.declared.fault.RefusalKind.TheVariants.{Unknown, Twice, Kind, Count, Main, Limit}
use Rattle.src_ast.specs.declared.fault.Quantity.TheVariants.{PortNumber}
use Rattle.src_ast.specs.Rules.{Rule, rules_of}
use Rattle.src_ast.specs.Bound.{bound}
use Rattle.src_ast.specs.Printed.{printed_form}
use Rattle.src_ast.specs.Turns.{CallEnd, Returned, Stopped}
use Rattle.src_ast.specs.Meaning.{run, lengths_of}
use Rattle.src_ast.specs.Runs.{Goes, Faults, acts_in}

abbrev proc : List ℕ → List Name → List Name → Statements → Option Expression → Part
proc f params vars body None =
    Proc (record { name = named f; params = params; vars = vars; body = body; ending = None })
proc f params vars body (Some e) =
    Proc (record {
      name = named f;
      params = params;
      vars = vars;
      body = body;
      ending = Some (record { place = start; value = e });
    })

abbrev main : List Name → Statements → Part
main vars body = proc (codes "main") [] vars body None

abbrev acts_of : CallEnd → List Act
acts_of (Returned v o k) = o.acts
acts_of (Stopped o) = o.acts

abbrev turns_left : CallEnd → Option ℕ
turns_left (Returned v o k) = Some k
turns_left (Stopped o) = None

-- the sum of 1 to 10
abbrev sums : List Part
sums =
    main (named (codes "i") ∷ named (codes "s") ∷ [])
    (Then (Assign start (named (codes "i")) (Number 1))
    (Then (While start (Binary Le (value (codes "i")) (Number 10))
    (Then (Assign start (named (codes "s")) (Binary Add (value (codes "s")) (value (codes "i"))))
    (Then (Assign start (named (codes "i")) (Binary Add (value (codes "i")) (Number 1))) Nothing)))
    (Then (Print start (value (codes "s"))) Nothing)))
    ∷ []

pub sum_prints_55 : acts_of (run sums (with_input []) 40) ≡ prints 55 ∷ []
sum_prints_55 = refl

pub sum_takes_33_turns : turns_left (run sums (with_input []) 40) ≡ Some 7
sum_takes_33_turns = refl

pub sum_wants_a_turn_more : turns_left (run sums (with_input []) 32) ≡ None
sum_wants_a_turn_more = refl

abbrev prints_three : Expression → Expression → Expression → List Part
prints_three a b c = main [] (Then (Print start a) (Then (Print start b) (Then (Print start c) Nothing))) ∷ []

pub divides_and_shifts : acts_of
    (run (prints_three (Binary Div (Number 5) (Number 0)) (Binary Rem (Number 5) (Number 0))
    (Binary Shl (Number 1) (Number 65))) (with_input []) 3)
    ≡ prints 18446744073709551615 ∷ prints 5 ∷ prints 2 ∷ []
divides_and_shifts = refl

pub wraps : acts_of
    (run (prints_three (Binary Add (Number 18446744073709551615) (Number 1))
    (Binary Sub (Number 0) (Number 1)) (Number 7)) (with_input []) 3)
    ≡ prints 0 ∷ prints 18446744073709551615 ∷ prints 7 ∷ []
wraps = refl

-- a procedure that doubles, called twice
abbrev doubles : List Part
doubles =
    proc (codes "dbl") (named (codes "x") ∷ []) [] Nothing (Some (Binary Mul (value (codes "x")) (Number 2)))
    ∷ main (named (codes "a") ∷ named (codes "b") ∷ named (codes "k") ∷ [])
    (Then (Assign start (named (codes "k")) (Number 5))
    (Then (Call start (Some (named (codes "a"))) (named (codes "dbl")) (value (codes "k") ∷ []))
    (Then (Call start (Some (named (codes "b"))) (named (codes "dbl")) (value (codes "a") ∷ []))
    (Then (Print start (Binary Add (Binary Add (value (codes "a")) (value (codes "b"))) (value (codes "k"))))
    Nothing))))
    ∷ []

pub doubled_is_35 : acts_of (run doubles (with_input []) 6) ≡ prints 35 ∷ []
doubled_is_35 = refl

pub doubling_takes_6_turns : turns_left (run doubles (with_input []) 6) ≡ Some 0
doubling_takes_6_turns = refl

-- three reads of two words
abbrev reads_three : List Part
reads_three =
    main (named (codes "x") ∷ [])
    (Then (Read start (named (codes "x"))) (Then (Print start (value (codes "x")))
    (Then (Read start (named (codes "x"))) (Then (Print start (value (codes "x")))
    (Then (Read start (named (codes "x"))) (Then (Print start (value (codes "x"))) Nothing))))))
    ∷ []

pub past_the_input_is_0 : acts_of (run reads_three (with_input (4 ∷ 9 ∷ [])) 6) ≡ reads ∷ prints 4 ∷ reads
    ∷ prints 9 ∷ reads ∷ prints 0 ∷ []
past_the_input_is_0 = refl

-- a store and a load past the end of an array of two cells
abbrev past_the_end : List Part
past_the_end =
    Array (named (codes "a")) 2 start
    ∷ main [] (Then (Store start (named (codes "a")) (Number 2) (Number 9))
    (Then (Print start (Cell (named (codes "a")) (Number 2))) Nothing))
    ∷ []

pub past_the_end_acts : run past_the_end (with_input []) 2 ≡ Returned 0
    (record {
      cells = (0 ∷ 0 ∷ []) ∷ [];
      input = [];
      left = [];
      acts = stores 1 2 9 ∷ loads 1 2 ∷ prints 0
          ∷ [];
    }) 0
past_the_end_acts = refl

-- the first rule that isn't kept
abbrev first_broken : List Rule → Option (RefusalKind × Place)
first_broken [] = None
first_broken (r ∷ rs) = if r.kept then first_broken rs else Some (r.kind, r.place)

abbrev place : ℕ → Place
place column = record { line = 1; column = column }

abbrev at : List ℕ → ℕ → Name
at text column = record { text = text; place = place column }

-- proc main() { print x; }
pub unknown_name : first_broken
    (rules_of
    (Proc (record {
      name = at (codes "main") 6;
      params = [];
      vars = [];
      body = Then (Print (place 15) (Variable (at (codes "x") 21))) Nothing;
      ending = None;
    }) ∷ []) (place 25))
    ≡ Some (Unknown, place 21)
unknown_name = refl

-- proc main() { var x, x; }
pub declared_twice : first_broken
    (rules_of
    (Proc (record {
      name = at (codes "main") 6;
      params = [];
      vars = at (codes "x") 19 ∷ at (codes "x") 22
          ∷ [];
      body = Nothing;
      ending = None;
    }) ∷ []) (place 26)) ≡ Some (Twice, place 22)
declared_twice = refl

-- array a[1]; proc main() { print a; }
pub array_as_variable : first_broken
    (rules_of
    (Array (at (codes "a") 7) 1 (place 9) ∷ Proc
    (record {
      name = at (codes "main") 18;
      params = [];
      vars = [];
      body = Then (Print (place 27) (Variable (at (codes "a") 33))) Nothing;
      ending = None;
    }) ∷ []) (place 37))
    ≡ Some (Kind, place 33)
array_as_variable = refl

-- proc f(a, b) { } proc main() { f(1); }
pub too_few_arguments : first_broken
    (rules_of
    (Proc (record {
      name = at (codes "f") 6;
      params = at (codes "a") 8 ∷ at (codes "b") 11 ∷ [];
      vars = [];
      body = Nothing;
      ending = None;
    }) ∷ Proc (record {
      name = at (codes "main") 23;
      params = [];
      vars = [];
      body = Then (Call (place 32) None (at (codes "f") 32) (Number 1 ∷ [])) Nothing;
      ending = None;
    }) ∷ [])
    (place 39)) ≡ Some (Count, place 32)
too_few_arguments = refl

-- proc main(x) { }
pub parameter_of_main : first_broken
    (rules_of
    (Proc (record {
      name = at (codes "main") 6;
      params = at (codes "x") 11 ∷ [];
      vars = [];
      body = Nothing;
      ending = None;
    }) ∷ []) (place 17)) ≡ Some (Main, place 11)
parameter_of_main = refl

-- the empty text
pub no_main : first_broken (rules_of [] start) ≡ Some (Main, start)
no_main = refl

-- proc f(f) { } proc main() { }
pub own_name_is_free : first_broken
    (rules_of
    (Proc (record {
      name = at (codes "f") 6;
      params = at (codes "f") 8 ∷ [];
      vars = [];
      body = Nothing;
      ending = None;
    }) ∷ Proc (record {
      name = at (codes "main") 20;
      params = [];
      vars = [];
      body = Nothing;
      ending = None;
    }) ∷ []) (place 30)) ≡ None
own_name_is_free = refl

-- proc main() { give 8, x; }
pub port_limit : first_broken
    (rules_of
    (Proc (record {
      name = at (codes "main") 6;
      params = [];
      vars = [];
      body = Then (Give (place 15) 8 (place 20) (at (codes "x") 23)) Nothing;
      ending = None;
    }) ∷ []) (place 27))
    ≡ Some (Limit PortNumber, place 20)
port_limit = refl

-- the largest statement has 3 nodes, and there are 2 variables
pub bound_of_sums : bound sums ≡ 166
bound_of_sums = refl

-- print (a + b) * c and an `if` with nothing in it
pub printed_program : printed_form
    (main [] (Then
    (Print start (Binary Mul (Binary Add (value (codes "a")) (value (codes "b"))) (value (codes "c"))))
    (Then (If start (value (codes "a")) Nothing Nothing) Nothing)) ∷ [])
    ≡ codes "proc main() {\n  print (a + b) * c;\n  if (a) {\n  }\n}\n"
printed_program = refl

-- two cells, and a load past them in the second of three turns
abbrev reads_past : List Part
reads_past =
    Array (named (codes "a")) 2 start
    ∷ main []
    (Then (Print start (Number 1))
    (Then (Print start (Cell (named (codes "a")) (Number 2)))
    (Then (Print start (Number 3)) Nothing)))
    ∷ []

abbrev before_the_load : Outside
before_the_load = record { cells = (0 ∷ 0 ∷ []) ∷ []; input = []; left = []; acts = prints 1 ∷ [] }

pub load_past_is_a_fault : Faults reads_past (with_input []) 2 1 before_the_load
load_past_is_a_fault = record {
  first = record {
    within = (tt, tt);
    act = loads 1 2;
    past = (refl, omega arith);
    after = prints 0 ∷ [];
    split = refl;
  };
  sooner = not_sooner;
  left = refl;
}
  where
    not_sooner : (m : ℕ) → m < 2 → AreWithin (lengths_of reads_past) (acts_in reads_past (with_input []) m)
    not_sooner m lt = grind arith

-- one turn is not enough for it
pub one_turn_goes : Goes reads_past (with_input []) 1 before_the_load
one_turn_goes = record { flows = refl; within = (tt, tt) }

-- the last cell, and a store past the end after its index and its value
abbrev stores_past : List Part
stores_past =
    Array (named (codes "a")) 1 start
    ∷ main [] (Then (Store start (named (codes "a")) (Number 1) (Cell (named (codes "a")) (Number 0)))
    Nothing)
    ∷ []

abbrev before_the_store : Outside
before_the_store = record { cells = (0 ∷ []) ∷ []; input = []; left = []; acts = loads 1 0 ∷ [] }

pub store_past_is_a_fault : Faults stores_past (with_input []) 1 1 before_the_store
store_past_is_a_fault = grind arith
