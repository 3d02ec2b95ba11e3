-- Serves the code and its proof alone: no public contract cites it.
-- The part of a graph that is kept.
use Rattle.std.specs.Prelude.{◌≡◌, ℕ, zero, suc, ◌+◌, ◌-◌, ◌*◌, ◌<◌, ◌≤◌, ◌⊎◌, Bool, true, if◌then◌else◌}
use Rattle.std.specs.Prelude.{List, [], ◌∷◌, length, slice_index}
use Rattle.std.specs.List.{AllByRecursion}
use Rattle.cfg_core.specs.Graph.{Exit, Goto, Branch, Call, Return, Send, Stop, Block, GraphProc, Graph, spots}
use Rattle.cfg_core.specs.Graph.{block_at, entry_of}
use Rattle.cfg_core.specs.Rules.{Leads}
use Rattle.cfg_core.specs.Tables.{graph_in}
use Rattle.cfg_core.specs.View as view
use Rattle.call_gen.specs.Reached.{Enters, Reached}
use Rattle.call_gen.specs.declared.part.Part.{Part}
use Rattle.ws_words.specs.Items.{In, flag_at}

-- how many of the first n are kept
abbrev pub before : (ℕ → Bool) → ℕ → ℕ
before keep zero = 0
before keep (suc n) = before keep n + (if keep n then 1 else 0)

-- an exit with other numbers of blocks and procedures
abbrev pub renamed : (ℕ → ℕ) → (ℕ → ℕ) → Exit → Exit
renamed place number (Goto b) = Goto (place b)
renamed place number (Branch t b c) = Branch t (place b) (place c)
renamed place number (Call r f ts back) = Call r (number f) ts (place back)
renamed place number (Return t) = Return t
renamed place number (Send t ts ls) = Stop
renamed place number Stop = Stop

abbrev pub part_block : (Exit → Exit) → Block → Block
part_block name x = record { named = x.named; ops = x.ops; exit = name x.exit }

-- of blocks, the first of which has this number, those that are kept
abbrev pub part_blocks : (ℕ → Bool) → (Exit → Exit) → ℕ → List Block → List Block
part_blocks keep name b [] = []
part_blocks keep name b (x ∷ xs) = if keep b then part_block name x ∷ part_blocks keep name (suc b) xs
    else part_blocks keep name (suc b) xs

abbrev pub part_proc : (ℕ → Bool) → (Exit → Exit) → ℕ → GraphProc → GraphProc
part_proc keep name b p =
    record { params = p.params; vars = p.vars; blocks = part_blocks keep name b p.blocks }

-- of procedures, the first of which begins at this block, those whose first block is kept
abbrev pub part_procs : (ℕ → Bool) → (Exit → Exit) → ℕ → List GraphProc → List GraphProc
part_procs keep name b [] = []
part_procs keep name b (p ∷ ps) = if keep b then part_proc keep name b p
    ∷ part_procs keep name (b + length p.blocks) ps else part_procs keep name (b + length p.blocks) ps

-- whether a procedure is kept, and its new number
abbrev pub keeps : Graph → (ℕ → Bool) → ℕ → Bool
keeps g keep f = keep (entry_of g f)

abbrev pub number : Graph → (ℕ → Bool) → ℕ → ℕ
number g keep f = before (keeps g keep) f

abbrev pub name : Graph → (ℕ → Bool) → Exit → Exit
name g keep = renamed (before keep) (number g keep)

unfoldable pub part : Graph → (ℕ → Bool) → Graph
part g keep = record { arrays = g.arrays; procs = part_procs keep (name g keep) 0 g.procs }

-- an exit of the graph leads to blocks and procedures that are there
abbrev pub ExitThere : Graph → Exit → Type 0
ExitThere g (Goto b) = b < length (spots g)
ExitThere g (Branch t b c) = (b < length (spots g)) × (c < length (spots g))
ExitThere g (Call r f ts back) = (f < length g.procs) × (back < length (spots g))
ExitThere g _ = Unit {0}

abbrev pub BlocksThere : Graph → List Block → Type 0
BlocksThere g blocks = AllByRecursion (λ x. ExitThere g x.exit) blocks

-- flags of exactly the reached blocks
pub record AreReached (g : Graph) (flags : List Bool) : Type 0 where
  pub count : length flags ≡ length (spots g)
  pub only : (b : ℕ) → flag_at flags b ≡ true → Reached g b
  pub all : (b : ℕ) → b < length (spots g) → Reached g b → flag_at flags b ≡ true

-- how many flags aren't set
abbrev pub unset : List Bool → ℕ
unset [] = 0
unset (v ∷ flags) = (if v then 0 else 1) + unset flags

-- Of the blocks of P those that weren't flagged are now, and wait to be looked at; no others are.
pub record FlagsMore (P : ℕ → Type 0) (old new : List Bool) (waited waits : List ℕ) : Type 0 where
  pub count : length new ≡ length old
  pub keeps : (c : ℕ) → flag_at old c ≡ true → flag_at new c ≡ true
  pub only : (c : ℕ) → flag_at new c ≡ true → (flag_at old c ≡ true) ⊎ P c
  pub all : (c : ℕ) → c < length old → P c → flag_at new c ≡ true
  pub waiting : (c : ℕ) → In c waited → In c waits
  pub known : (c : ℕ) → In c waits → In c waited ⊎ (flag_at new c ≡ true)
  pub fresh : (c : ℕ) → flag_at new c ≡ true → (flag_at old c ≡ true) ⊎ In c waits
  pub lighter : 2 * unset new + length waits ≤ 2 * unset old + length waited

-- where a block with this exit leads to
abbrev pub LeadsOrEnters : Graph → Exit → ℕ → Type 0
LeadsOrEnters g exit c = Leads exit c ⊎ Enters g exit c

-- Flagged blocks are reached, and where they lead to is flagged, unless they wait.
pub record Finding (g : Graph) (flags : List Bool) (waits : List ℕ) : Type 0 where
  pub count : length flags ≡ length (spots g)
  pub main : flag_at flags (entry_of g (length g.procs - 1)) ≡ true
  pub only : (b : ℕ) → flag_at flags b ≡ true → Reached g b
  pub waiting : (b : ℕ) → In b waits → flag_at flags b ≡ true
  pub led : (b c : ℕ) → flag_at flags b ≡ true → c < length (spots g) → LeadsOrEnters g (block_at g b).exit c
      → In b waits ⊎ (flag_at flags c ≡ true)

-- the numbers that the part is made from
pub record PartIs (part : Part) : Type 0 where
  pub count : length part.flags.items ≡ length (spots (view.graph (graph_in part.table)))
  pub places : (b : ℕ) → b < length part.flags.items
      → slice_index part.places.items b ≡ before (flag_at part.flags.items) b
  pub numbers : (f : ℕ) → f < length (view.graph (graph_in part.table)).procs
      → slice_index part.numbers.items f ≡ number (view.graph (graph_in part.table))
      (flag_at part.flags.items) f
