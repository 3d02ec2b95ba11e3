-- The table of a graph has its blocks and procedures.
use Rattle.std.proofs.Common.{ℕ, zero, suc, ◌+◌, ◌≡◌, ◌<◌, ◌≤◌, List, [], ◌∷◌, ◌++◌, length, drop, map}
use Rattle.std.proofs.Common.{slice_index_or, refl, ap, subst, append_assoc, length-append, arith}
use Rattle.std.proofs.lemmas.List.{length-map}
use Rattle.cfg_core.specs.Graph as plain
use Rattle.cfg_core.specs.Graph.{Block, no_spot, no_proc, spots_in, spots_from, entry_from}
use Rattle.cfg_core.specs.View as view
use Rattle.cfg_core.specs.Listed.{spot_in_code, spot_in_graph, rooms_from}
use Rattle.cfg_core.specs.Shows.{SpotIs}
use Rattle.cfg_core.specs.declared.blocks.GraphBlock.{GraphBlock}
use Rattle.cfg_core.specs.declared.blocks.GraphProc.{GraphProc}
use Rattle.cfg_core.specs.declared.table.Spot.{Spot}
use Rattle.cfg_core.specs.declared.table.Room.{Room}
use Rattle.ws_words.proofs.Lists.{map_append}
use Rattle.ws_words.specs.Items.{nth, or_else}

-- the block of the table with a number is that of the graph
pub spot_in : (xs : List Spot) (ys : List plain.Spot) (b : ℕ) (x : Spot)
    → map spot_in_code xs ≡ map spot_in_graph ys → b < length xs → x ≡ slice_index_or xs b x
    → SpotIs (or_else (nth ys b) no_spot) x
spot_in (z ∷ xs) (y ∷ ys) (suc b) x e lt h = spot_in xs ys b x (cc) (omega arith) h
spot_in xs ys b x e lt h = grind (arith, spot_in_code, spot_in_graph)

-- past the last block none stands
pub spot_past : (xs : List Spot) (ys : List plain.Spot) (b : ℕ) → map spot_in_code xs ≡ map spot_in_graph ys
    → length xs ≤ b → or_else (nth ys b) no_spot ≡ no_spot
spot_past xs [] b e le = refl
spot_past [] (y ∷ ys) b e le = absurd (cc)
spot_past (z ∷ xs) (y ∷ ys) zero e le = absurd (omega arith)
spot_past (z ∷ xs) (y ∷ ys) (suc b) e le = spot_past xs ys b (cc) (omega arith)

pub record RoomIs (first : ℕ) (procs : List plain.GraphProc) (f : ℕ) (x : Room) : Type 0 where
  pub entry : x.entry ≡ entry_from first procs f
  pub params : x.params ≡ (or_else (nth procs f) no_proc).params
  pub vars : x.vars ≡ (or_else (nth procs f) no_proc).vars

-- the procedure of the table with a number is that of the graph
pub room_in : (first : ℕ) (procs : List plain.GraphProc) (rooms : List Room) (f : ℕ) (x : Room)
    → rooms ≡ rooms_from first procs → f < length rooms → x ≡ slice_index_or rooms f x
    → RoomIs first procs f x
room_in first procs rooms f x e lt h = at first procs f (subst (λ (rs : List Room). f < length rs) e lt)
    (subst (λ (rs : List Room). x ≡ slice_index_or rs f x) e h)
  where
    at : (first : ℕ) (procs : List plain.GraphProc) (f : ℕ) → f < length (rooms_from first procs)
        → x ≡ slice_index_or (rooms_from first procs) f x → RoomIs first procs f x
    at first (p ∷ procs) (suc f) lt h = let r = at (first + length p.blocks) procs f (omega arith) h in
        record { entry = r.entry; params = r.params; vars = r.vars }
    at first procs f lt h = grind arith

-- past the last procedure none stands
pub entry_past : (first : ℕ) (procs : List plain.GraphProc) (rooms : List Room) (f : ℕ)
    → rooms ≡ rooms_from first procs → length rooms ≤ f → (0 ≡ entry_from first procs f)
    × (no_proc ≡ or_else (nth procs f) no_proc)
entry_past first procs rooms f e le = at first procs f (subst (λ (rs : List Room). length rs ≤ f) e le)
  where
    at : (first : ℕ) (procs : List plain.GraphProc) (f : ℕ) → length (rooms_from first procs) ≤ f
        → (0 ≡ entry_from first procs f) × (no_proc ≡ or_else (nth procs f) no_proc)
    at first (p ∷ procs) (suc f) le = at (first + length p.blocks) procs f (omega arith)
    at first procs f le = grind arith

in_graph : (home vars : ℕ) (blocks : List GraphBlock)
    → map spot_in_graph (spots_in home vars (map view.block blocks)) ≡ map (λ b. (vars, view.block b)) blocks
in_graph home vars [] = refl
in_graph home vars (b ∷ blocks) = ap (λ (zs : List (ℕ × Block)). (vars, view.block b) ∷ zs)
    (in_graph home vars blocks)

-- one procedure more
pub spots_more : (items : List GraphProc) (i j : ℕ) (p : GraphProc) (done next whole : List (ℕ × Block))
    → j ≡ suc i → drop i items ≡ p ∷ drop j items → next ≡ done ++ map (λ b. (p.vars, view.block b))
    p.blocks.items → done ++ map spot_in_graph (spots_from i (map view.proc (drop i items))) ≡ whole
    → next ++ map spot_in_graph (spots_from j (map view.proc (drop j items))) ≡ whole
spots_more items i j p done next whole ej e en h =
    grind (arith, p.vars, spot_in_graph, append_assoc, in_graph, map_append)

-- one procedure more
pub rooms_more : (items : List GraphProc) (i j : ℕ) (p : GraphProc) (n m : ℕ) (done next whole : List Room)
    (room : Room) → drop i items ≡ p ∷ drop j items → m ≡ n + length (map view.block p.blocks.items)
    → next ≡ done ++ room ∷ [] → room ≡ record { entry = n; params = p.params; vars = p.vars }
    → done ++ rooms_from n (map view.proc (drop i items)) ≡ whole
    → next ++ rooms_from m (map view.proc (drop j items)) ≡ whole
rooms_more items i j p n m done next whole room e em en er h = grind (arith, append_assoc)

-- its blocks
pub count_more : (vars : ℕ) (old new : List Spot) (blocks : List GraphBlock)
    → map spot_in_code new ≡ map spot_in_code old ++ map (λ b. (vars, view.block b)) blocks
    → length new ≡ length old + length (map view.block blocks)
count_more vars old new blocks e = grind (arith, spot_in_code, length-map, length-append)
