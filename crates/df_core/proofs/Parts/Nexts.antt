-- What the test for the next operation says.
use Rattle.std.proofs.Common.{arith, ℕ, ◌≡◌, true, false, Option, eqb-true, eq-eqb}
use Rattle.std.proofs.lemmas.Bool.{both_ways}
use Rattle.ws_isa.specs.declared.instr.Link.{Link}
use Rattle.ws_isa.specs.declared.instr.Link.TheVariants.{Nothing, Is}
use Rattle.ws_isa.specs.declared.instr.Note.{Note}
use Rattle.df_core.specs.Core.{Chain, IsNext, NextAfter}
use Rattle.df_core.specs.Chains.{names, is_nothing, next_after, next_flag}
use Rattle.ws_words.proofs.Bools.{or_comes as either, or_left, or_right}

names_is : (l : Link) (n : ℕ) → names l n ≡ true → l ≡ Is n
names_is l n e = grind (arith, eqb-true, both_ways)

is_names : (l : Link) (n : ℕ) → l ≡ Is n → names l n ≡ true
is_names l n e = grind (arith, eq-eqb)

nothing_is : (l : Link) → is_nothing l ≡ true → l ≡ Nothing
nothing_is l e = grind (arith, both_ways)

is_nothing' : (l : Link) → l ≡ Nothing → is_nothing l ≡ true
is_nothing' l e = grind arith

after_is : (o : Option Note) (n : Note) → next_after o n ≡ true → NextAfter o n
after_is o n e = grind (arith, nothing_is, either, names_is)

is_after : (o : Option Note) (n : Note) → NextAfter o n → next_after o n ≡ true
is_after o n h = grind (arith, is_nothing', or_left, is_names, or_right)

pub next_is : (c : Chain) (n : Note) → next_flag c n ≡ true → IsNext c n
next_is c n e = after_is c.last n e

pub next_not : (c : Chain) (n : Note) → next_flag c n ≡ false → IsNext c n → ⊥
next_not c n e h = both_ways (next_flag c n) e (is_after c.last n h)

pub is_next_flag : (c : Chain) (n : Note) → IsNext c n → next_flag c n ≡ true
is_next_flag c n h = is_after c.last n h
