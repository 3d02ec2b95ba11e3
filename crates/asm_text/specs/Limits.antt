-- The limits of version 1 that are less than those of version 2.
use Rattle.std.specs.Prelude.{ℕ}

unfoldable pub first_most_instrs : ℕ
first_most_instrs = 2097152

unfoldable pub first_most_blocks : ℕ
first_most_blocks = 65536

unfoldable pub first_most_waves : ℕ
first_most_waves = 65536

unfoldable pub first_most_landings : ℕ
first_most_landings = 1024
