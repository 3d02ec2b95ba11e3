-- Words are whole numbers below 2 ^ 64. What the operators do to them.
use Rattle.std.specs.Prelude.{ℕ, zero, suc, ◌+◌, ◌-◌, ◌*◌, ◌/◌, ◌%◌, ◌^◌, Bool, true, false, ◌==◌, nat_lt}
use Rattle.std.specs.Prelude.{nat_le, if◌then◌else◌, bit_and, bit_or, bit_xor}
use Rattle.ws_words.specs.declared.alu.Alu.{Alu}
use Rattle.ws_words.specs.declared.alu.Alu.TheVariants.{Add, Sub, Mul, Div, Rem, And, Or, Xor, Shl, Shr, Eq}
use Rattle.ws_words.specs.declared.alu.Alu.TheVariants.{Ne, Lt, Le, Gt, Ge}

-- a truth value as a word
abbrev pub flag : Bool → ℕ
flag true = 1
flag false = 0

-- the value of an operator on two words
abbrev pub applied : Alu → ℕ → ℕ → ℕ
applied Add a b = (a + b) % 2 ^ 64
applied Sub a b = (a + 2 ^ 64 - b) % 2 ^ 64
applied Mul a b = (a * b) % 2 ^ 64
applied Div a zero = 2 ^ 64 - 1
applied Div a (suc b) = a / suc b
applied Rem a zero = a
applied Rem a (suc b) = a % suc b
applied And a b = bit_and a b
applied Or a b = bit_or a b
applied Xor a b = bit_xor a b
applied Shl a b = (a * 2 ^ (b % 64)) % 2 ^ 64
applied Shr a b = a / 2 ^ (b % 64)
applied Eq a b = flag (a == b)
applied Ne a b = if a == b then 0 else 1
applied Lt a b = flag (nat_lt a b)
applied Le a b = flag (nat_le a b)
applied Gt a b = flag (nat_lt b a)
applied Ge a b = flag (nat_le b a)
