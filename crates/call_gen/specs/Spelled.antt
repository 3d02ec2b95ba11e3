-- Serves the code and its proof alone: no public contract cites it.
-- The graph in which calls are spelled out: saves into hidden cells, a Send to the callee, a Send back to
-- the return block, and loads.
use Rattle.std.specs.Prelude.{ℕ, zero, suc, ◌+◌, ◌%◌, ◌/◌, ◌==◌, ◌&&◌, ◌||◌, nat_lt, Bool, true, false, not}
use Rattle.std.specs.Prelude.{min, List, [], ◌∷◌, ◌++◌, length, map, take, replicate, Option, Some, None}
use Rattle.std.specs.Prelude.{if◌then◌else◌}
use Rattle.std.specs.List.{filter}
use Rattle.cfg_core.specs.Graph.{Number, Var, Cell, Op, Assign, Store, Exit, Goto, Branch, Call, Return, Send}
use Rattle.cfg_core.specs.Graph.{Stop, Block, GraphProc, GraphArray, Graph, Spot, spots, spot_at, proc_at}
use Rattle.cfg_core.specs.Graph.{entry_of}
use Rattle.cfg_core.specs.Rules.{calls}
use Rattle.live_vars.specs.Marks.{has}
use Rattle.call_gen.specs.Sizes.{most_hidden_arrays}
use Rattle.ws_words.specs.Items.{or_else}

abbrev pub callee_is : Exit → ℕ → Bool
callee_is (Call r f ts back) e = f == e
callee_is _ e = false

-- the procedure that an exit calls
abbrev pub callee : Exit → Option ℕ
callee (Call r f ts back) = Some f
callee _ = None

abbrev pub some_of : (Spot → Bool) → List Spot → Bool
some_of p [] = false
some_of p (s ∷ ss) = p s || some_of p ss

-- some block calls this procedure; some block of this procedure calls
unfoldable pub is_called : Graph → ℕ → Bool
is_called g f = some_of (λ s. callee_is s.block.exit f) (spots g)

unfoldable pub is_calling : Graph → ℕ → Bool
is_calling g f = some_of (λ s. (s.home == f) && calls s.block.exit) (spots g)

abbrev pub count_of : (Spot → Bool) → List Spot → ℕ
count_of p [] = 0
count_of p (s ∷ ss) = (if p s then 1 else 0) + count_of p ss

abbrev pub is_call : Spot → Bool
is_call s = calls s.block.exit

-- Numbers of blocks. Each procedure gets a first block of its own, its entry block, and each call a block
-- after it, its return block.

unfoldable pub moved : Graph → ℕ → ℕ
moved g b = b + count_of is_call (take b (spots g)) + suc (spot_at g b).home

unfoldable pub door : Graph → ℕ → ℕ
door g f = entry_of g f + count_of is_call (take (entry_of g f) (spots g)) + f

-- The return blocks of the calls of a procedure, in order of blocks, where the first of the blocks has this
-- number and so many blocks before it call.
abbrev pub landings_from : ℕ → ℕ → ℕ → List Spot → List ℕ
landings_from f b k [] = []
landings_from f b k (s ∷ ss) =
    let later = landings_from f (suc b) ((if is_call s then 1 else 0) + k) ss in
    if callee_is s.block.exit f then suc (b + k + suc s.home) ∷ later else later

unfoldable pub landings : Graph → ℕ → List ℕ
landings g f = landings_from f 0 0 (spots g)

-- the place of a call's return block among those of its callee: the return address
unfoldable pub address : Graph → ℕ → ℕ → ℕ
address g f b = count_of (λ s. callee_is s.block.exit f) (take b (spots g))

-- Hidden cells. A procedure that calls has one for each variable and one for its return address; the cells
-- of all lie in at most 192 arrays.

unfoldable pub own_cells : Graph → ℕ → ℕ
own_cells g f = if is_calling g f then suc (proc_at g f).vars else 0

abbrev pub first_cell : Graph → ℕ → ℕ
first_cell g zero = 0
first_cell g (suc f) = first_cell g f + own_cells g f

abbrev pub cell : Graph → ℕ → ℕ → ℕ
cell g f x = first_cell g f + x

unfoldable pub cells_in_all : Graph → ℕ
cells_in_all g = first_cell g (length g.procs)

abbrev pub array_of : Graph → ℕ → ℕ
array_of g k = suc (length g.arrays + k % most_hidden_arrays)

abbrev pub index_of : ℕ → ℕ
index_of k = k / most_hidden_arrays

unfoldable pub hidden_arrays : Graph → List GraphArray
hidden_arrays g = replicate (min most_hidden_arrays (cells_in_all g))
    (record { name = None; length = suc (cells_in_all g / most_hidden_arrays) })

-- the numbers below this one
abbrev pub below : ℕ → List ℕ
below zero = []
below (suc n) = below n ++ n ∷ []

abbrev pub is_result : Option ℕ → ℕ → Bool
is_result None x = false
is_result (Some y) x = x == y

-- whether a call in this procedure saves the variable, where it takes this result and goes on at this
-- block; the variable after the last one is the return address
abbrev pub is_saved : Graph → List (List ℕ) → ℕ → ℕ → Option ℕ → ℕ → ℕ → Bool
is_saved g live home vars r back x = if x == vars then is_called g home
    else (has live back x && not (is_result r x))

abbrev pub saved : Graph → List (List ℕ) → ℕ → ℕ → Option ℕ → ℕ → List ℕ
saved g live home vars r back = filter (is_saved g live home vars r back) (below (suc vars))

abbrev pub save : Graph → ℕ → ℕ → Op
save g f x = Store (array_of g (cell g f x)) (Number (index_of (cell g f x))) (Var x)

abbrev pub load : Graph → ℕ → ℕ → Op
load g f x = Assign x (Cell (array_of g (cell g f x)) (Number (index_of (cell g f x))))

-- what an exit adds to the operations before it
abbrev pub saves : Graph → List (List ℕ) → ℕ → ℕ → Exit → List Op
saves g live home vars (Call r f ts back) = map (save g home) (saved g live home vars r back)
saves g live home vars _ = []

-- of block b of this procedure
abbrev pub left : Graph → ℕ → ℕ → ℕ → Exit → Exit
left g home vars b (Goto c) = Goto (moved g c)
left g home vars b (Branch t c d) = Branch t (moved g c) (moved g d)
left g home vars b (Call r f ts back) = Send (Number 0) (ts ++ Number (address g f b) ∷ []) (door g f ∷ [])
left g home vars b (Return t) = if is_called g home then Send (Var vars) (t ∷ []) (landings g home)
    else Return t
left g home vars b _ = Stop

abbrev pub spelled_block : Graph → List (List ℕ) → ℕ → ℕ → ℕ → Block → Block
spelled_block g live home vars b x =
    record { named = []; ops = x.ops ++ saves g live home vars x.exit; exit = left g home vars b x.exit }

-- the return block of a call with this result
abbrev pub return_block : Graph → List (List ℕ) → ℕ → ℕ → Option ℕ → ℕ → Block
return_block g live home vars r back =
    record {
      named = or_else r vars ∷ [];
      ops = map (load g home) (saved g live home vars r back);
      exit = Goto (moved g back);
    }

-- what stands after a block: a call's return block
abbrev pub after : Graph → List (List ℕ) → ℕ → ℕ → Exit → List Block
after g live home vars (Call r f ts back) = return_block g live home vars r back ∷ []
after g live home vars _ = []

-- the blocks of a procedure, of which the first has this number
abbrev pub spelled_blocks : Graph → List (List ℕ) → ℕ → ℕ → ℕ → List Block → List Block
spelled_blocks g live home vars b [] = []
spelled_blocks g live home vars b (x ∷ xs) = spelled_block g live home vars b x
    ∷ (after g live home vars x.exit ++ spelled_blocks g live home vars (suc b) xs)

-- a variable that a call doesn't give is 0 at the entry block
abbrev pub is_unset : Graph → List (List ℕ) → ℕ → ℕ → ℕ → Bool
is_unset g live f params x = has live (entry_of g f) x
    && (if is_called g f then not (nat_lt x params) else true)

abbrev pub clear : ℕ → Op
clear x = Assign x (Number 0)

abbrev pub door_block : Graph → List (List ℕ) → ℕ → GraphProc → Block
door_block g live f p = record {
  named = if is_called g f then below p.params ++ p.vars ∷ [] else [];
  ops = map clear (filter (is_unset g live f p.params) (below p.vars));
  exit = Goto (moved g (entry_of g f));
}

abbrev pub spelled_proc : Graph → List (List ℕ) → ℕ → ℕ → GraphProc → GraphProc
spelled_proc g live f b p =
    record {
      params = p.params;
      vars = suc p.vars;
      blocks = door_block g live f p ∷ spelled_blocks g live f p.vars b p.blocks;
    }

-- procedures, of which the first has this number and begins at this block
abbrev pub spelled_procs : Graph → List (List ℕ) → ℕ → ℕ → List GraphProc → List GraphProc
spelled_procs g live f b [] = []
spelled_procs g live f b (p ∷ ps) = spelled_proc g live f b p
    ∷ spelled_procs g live (suc f) (b + length p.blocks) ps

abbrev pub spelled : Graph → List (List ℕ) → Graph
spelled g live = record { arrays = g.arrays ++ hidden_arrays g; procs = spelled_procs g live 0 0 g.procs }
