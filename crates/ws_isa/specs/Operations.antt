-- The operations of a walk, their effect, and index faults.
use Rattle.std.specs.Prelude.{ℕ, ◌≡◌, ◌<◌, Bool, true, false, cond, List, [], ◌∷◌, length, Option, Some, None}
use Rattle.ws_words.specs.Outside.{Act, loads, Outside, World}
use Rattle.ws_isa.specs.Image.{Image, is_memory, is_past, array_at}
use Rattle.ws_isa.specs.Walk.{Inst, fires, mem, walk}

-- the memory instances among these
abbrev pub operations : Image → List Inst → List Inst
operations image [] = []
operations image (x ∷ xs) = cond (is_memory image x.instr) (x ∷ operations image xs)
    (operations image xs)

-- the operations of the first t steps
unfoldable pub ops : Image → World → ℕ → List Inst
ops image world t = operations image (walk image world t)

-- acts without loads: what has taken effect, whenever loads are answered
abbrev pub without_loads : List Act → List Act
without_loads [] = []
without_loads (loads a i ∷ acts) = without_loads acts
without_loads (act ∷ acts) = act ∷ without_loads acts

abbrev pub effect_of : Outside → Outside
effect_of o = record {
  cells = o.cells;
  input = o.input;
  left = o.left;
  acts = without_loads o.acts;
}

-- what the first p operations leave: arrays, the rest of the input, the words left in ports, and
-- the acts that aren't loads
pub record Effect (image : Image) (world : World) (p : ℕ) (o : Outside) : Type 0 where
  pub steps : ℕ
  pub count : length (ops image world steps) ≡ p
  pub left : effect_of (mem image world steps) ≡ o

-- an out-of-bounds load or store
unfoldable pub past : Image → Inst → Bool
past image x = is_past image x.instr x.operands

-- step t fires the first out-of-bounds load or store
pub record FaultsAt (image : Image) (world : World) (t : ℕ) : Type 0 where
  pub inst : Inst
  pub fired : fires image world t ≡ Some inst
  pub is_past : past image inst ≡ true
  pub first : (u : ℕ) (x : Inst) → u < t → fires image world u ≡ Some x → past image x ≡ false

-- no load or store of the walk is out of bounds
abbrev pub NoFault : Image → World → Type 0
NoFault image world = (t : ℕ) (x : Inst) → fires image world t ≡ Some x → past image x ≡ false

-- the array of the first out-of-bounds load or store among these instances
abbrev pub fault_among : Image → List Inst → Option ℕ
fault_among image [] = None
fault_among image (x ∷ xs) = cond (past image x) (Some (array_at image x.instr))
    (fault_among image xs)
