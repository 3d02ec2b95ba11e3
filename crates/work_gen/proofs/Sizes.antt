-- What is so of the program for each size: its pieces are its printed form, which is short, and it keeps the
-- rules.
use Rattle.std.specs.Prelude.{◌≡◌, ℕ, zero, suc, ◌+◌, ◌*◌, ◌<◌, nat_le, true, List, map, length, refl}
use Rattle.std.specs.List.{list_all, range_with_len}
use Rattle.std.proofs.Common.{subst, arith}
use Rattle.std.specs.Fmt.{digits}
use Rattle.src_ast.specs.declared.lexeme.Place.{Place}
use Rattle.src_ast.specs.Printed.{printed_form}
use Rattle.src_ast.specs.Rules.{IsAccepted, rules_of}
use Rattle.src_ast.specs.Bound.{bound}
use Rattle.work_gen.specs.Program.{product}
use Rattle.work_gen.specs.Lines.{array_line, around, sum_line, cell_lines, reading_lines, product_lines}
use Rattle.work_gen.specs.Lines.{arrays_lines, both_lines, main_lines, program_text}

pub record Sized (n : ℕ) : Type 0 where
  pub text : program_text n (n * n) ≡ printed_form (product n)
  pub few : nat_le (n * n) 100 ≡ true
  pub short : nat_le (length (printed_form (product n))) 1000 ≡ true
  pub accepted : (finish : Place) → IsAccepted (product n) finish
  pub bounded : bound (product n) ≡ 222

abbrev pub sizes : List ℕ
sizes = range_with_len 2 9

-- functions that agree on some numbers in turn agree at each of them
pub at_each : {A : Type 0} (f g : ℕ → A) (a n r : ℕ) → map f (range_with_len a n) ≡ map g (range_with_len a n)
    →
    r < n → f (a + r) ≡ g (a + r)
at_each f g a zero r e l = absurd (omega (arith, l))
at_each f g a (suc n) zero e l = let h : f a ≡ g a = cc in let z : a ≡ a + 0 = omega arith in
    subst (λ (m : ℕ). f m ≡ g m) z h
at_each f g a (suc n) (suc r) e l =
    let rest : map f (range_with_len (a + 1) n) ≡ map g (range_with_len (a + 1) n) = cc in
    let z : (a + 1) + r ≡ a + suc r = omega arith in
    subst (λ (m : ℕ). f m ≡ g m) z (at_each f g (a + 1) n r rest (omega (arith, l)))

texts : map (λ n. program_text n (n * n)) sizes ≡ map (λ n. printed_form (product n)) sizes
unfolding array_line around sum_line cell_lines reading_lines product_lines arrays_lines both_lines main_lines
    program_text product digits
texts = refl

squares : map (λ n. nat_le (n * n) 100) sizes ≡ map (λ n. true) sizes
squares = refl

lengths : map (λ n. nat_le (length (printed_form (product n))) 1000) sizes ≡ map (λ n. true) sizes
unfolding product digits
lengths = refl

rules : (finish : Place) → map (λ n. list_all (λ r. r.kept) (rules_of (product n) finish)) sizes
    ≡ map (λ n. true) sizes
unfolding product digits
rules finish = refl

bounds : map (λ n. bound (product n)) sizes ≡ map (λ n. 222) sizes
unfolding product digits
bounds = refl

pub of_size : (r : ℕ) → r < 9 → Sized (2 + r)
of_size r l = record {
  text = at_each (λ n. program_text n (n * n)) (λ n. printed_form (product n)) 2 9 r texts l;
  few = at_each (λ n. nat_le (n * n) 100) (λ n. true) 2 9 r squares l;
  short = at_each (λ n. nat_le (length (printed_form (product n))) 1000) (λ n. true) 2 9 r lengths l;
  accepted = λ finish. at_each (λ n. list_all (λ x. x.kept) (rules_of (product n) finish)) (λ n. true) 2 9 r
      (rules finish) l;
  bounded = at_each (λ n. bound (product n)) (λ n. 222) 2 9 r bounds l;
}
