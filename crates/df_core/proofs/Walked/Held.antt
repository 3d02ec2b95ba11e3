-- What the code does at each memory operation is what the walk does.
use Rattle.std.proofs.Common.{arith}
use Rattle.std.proofs.Common.{ℕ, zero, suc, ◌-◌, ◌≡◌, ◌<◌, ◌≤◌, List, [], ◌∷◌, ◌++◌, drop, length, refl}
use Rattle.std.proofs.Common.{slice_index, slice_set, Vec, Global}
use Rattle.std.proofs.lemmas.List.{length-append}
use Rattle.ws_words.specs.Outside.{takes, Outside, row, with_row, head_or_zero, rest_of, with_act}
use Rattle.ws_isa.specs.declared.instr.Op.{Op}
use Rattle.ws_isa.specs.declared.instr.Op.TheVariants.{Load, Store, Input, Output, Give}
use Rattle.df_core.specs.declared.memory.Memory.{Memory}
use Rattle.df_core.specs.Outdoors.{CarriesOut, rows_of, MemoryIs}
use Rattle.ws_words.proofs.Acts.{printed_append, took_more, took_none, took_same, printed_same}

-- an operation of the code is this one
pub from_op : (x y : Op) (xs : List ℕ) (o : Outside) (word : ℕ) (m : Memory) → y ≡ x
    → CarriesOut x xs o word m → CarriesOut y xs o word m
from_op x y xs o word m e h = rw e h

-- a word more is kept
more_kept : (n : ℕ) (words : List ℕ) (u : ℕ) → n ≤ length words
    → drop n (words ++ u ∷ []) ≡ drop n words ++ u ∷ []
more_kept zero words u l = refl
more_kept (suc n) [] u l = absurd (omega (arith, l))
more_kept (suc n) (w ∷ words) u l = more_kept n words u (omega (arith, l))

more_long : (words : List ℕ) (u n : ℕ) → n ≤ length words → n ≤ length (words ++ u ∷ [])
more_long words u n l = omega (arith, length-append words (u ∷ []), l)

module _ (o : Outside) (m : Memory) (h : MemoryIs o m) where
  pub load_is : (a i v w word : ℕ) → word ≡ slice_index (row m.cells (a - 1)) i
      → CarriesOut (Load a) (i ∷ v ∷ w ∷ []) o word m
  load_is a i v w word e = grind (arith, slice_index, printed_same, o.acts, took_same)

  pub store_is : (a i v w : ℕ) (now : List (List ℕ)) → now ≡ with_row m.cells (a - 1)
      (slice_set (row m.cells (a - 1)) i v) → CarriesOut (Store a) (i ∷ v ∷ w ∷ []) o 0
      (record m { cells = now })
  store_is a i v w now e = grind (arith, slice_set, printed_same, o.acts, took_same)

  pub read_is : (u v w word : ℕ) (now : List ℕ) → word ≡ head_or_zero m.input → now ≡ rest_of m.input
      → CarriesOut Input (u ∷ v ∷ w ∷ []) o word (record m { input = now })
  read_is u v w word now e en = grind (arith, printed_same, o.acts, took_same)

  pub print_is : (u v w : ℕ) (now : Vec ℕ Global) → now.items ≡ m.printed.items ++ u ∷ []
      → CarriesOut Output (u ∷ v ∷ w ∷ []) o 0 (record m { printed = now })
  print_is u v w now en = grind (arith, printed_append, o.acts, took_same, more_kept, more_long)

  pub give_is : (p u v w word : ℕ) (left : Vec (List ℕ) Global)
      → word ≡ head_or_zero (row m.left.items (p - 1)) → left.items ≡ with_row m.left.items (p - 1)
      (rest_of (row m.left.items (p - 1))) → CarriesOut (Give p) (u ∷ v ∷ w ∷ []) o word
      (record m { left = left })
  give_is p u v w word left e el = grind (arith, printed_same, o.acts, took_same)

  pub taken_is : (p v : ℕ) (now : Vec (Vec ℕ Global) Global) → 0 < p
      → rows_of now.items ≡ with_row (rows_of m.took.items) (p - 1)
      (row (rows_of m.took.items) (p - 1) ++ v ∷ []) → MemoryIs (with_act o (takes p v))
      (record m { took = now })
  taken_is p v now lt e = grind (arith, printed_same, o.acts, took_more)

  pub taken_by_none : (p v : ℕ) → p ≡ 0 → MemoryIs (with_act o (takes p v)) m
  taken_by_none p v e = grind (arith, printed_same, o.acts, took_none)
