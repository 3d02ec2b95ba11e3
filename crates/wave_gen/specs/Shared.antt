-- Equal constants of a block are made once: where a number was made before, its name is taken.
use Rattle.std.specs.Prelude.{ℕ, Bool, false, cond, eqb, List, [], ◌∷◌, Option, Some, None}
use Rattle.ws_isa.specs.declared.instr.Op.{Op}
use Rattle.ws_isa.specs.declared.instr.Op.TheVariants.{Const}
use Rattle.wave_gen.specs.Waits.{set}
use Rattle.wave_gen.specs.Wire.{Item, Make, Act, Same}
use Rattle.wave_gen.specs.Plans.{pulse}

abbrev pub number_of : Op → Option ℕ
number_of (Const n) = Some n
number_of _ = None

abbrev pub is_pulse : List ℕ → Bool
is_pulse (x ∷ []) = eqb x pulse
is_pulse _ = false

abbrev pub for_pulse : Option ℕ → List ℕ → Option ℕ
for_pulse None from = None
for_pulse (Some n) from = cond (is_pulse from) (Some n) None

-- the number that an item makes, triggered by the pulse
abbrev pub const_of : Item → Option ℕ
const_of (Make x op from) = for_pulse (number_of op) from
const_of (Act op from) = None
const_of (Same x y) = None

abbrev pub name_of : Item → ℕ
name_of (Make x op from) = x
name_of (Act op from) = pulse
name_of (Same x y) = x

-- The names of the numbers that were made: the pulse stands for none.
abbrev pub share_as : (ℕ → ℕ) → Item → Option ℕ → Item
share_as known i None = i
share_as known i (Some n) = cond (eqb (known n) pulse) i (Same (name_of i) (known n))

abbrev pub share : (ℕ → ℕ) → Item → Item
share known i = share_as known i (const_of i)

abbrev pub learn_of : (ℕ → ℕ) → Item → Option ℕ → ℕ → ℕ
learn_of known i None = known
learn_of known i (Some n) = cond (eqb (known n) pulse) (set known n (name_of i)) known

abbrev pub learn : (ℕ → ℕ) → Item → ℕ → ℕ
learn known i = learn_of known i (const_of i)

abbrev pub shared : (ℕ → ℕ) → List Item → List Item
shared known [] = []
shared known (i ∷ is) = share known i ∷ shared (learn known i) is

abbrev pub none_known : ℕ → ℕ
none_known n = pulse
