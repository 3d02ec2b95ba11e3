-- What the code does block by block is what the walk does.
use Rattle.std.proofs.Common.{ℕ, zero, suc, ◌+◌, ◌-◌, ◌≡◌, ◌<◌, ◌≤◌, Bool, true, false, List, [], ◌∷◌, ◌++◌}
use Rattle.std.proofs.Common.{length, drop, map, if◌then◌else◌, refl, ap, ◌∙◌, subst, append_assoc, arith}
use Rattle.ws_words.specs.Outside.{Outside, ProcState, World, zeros, opening_out}
use Rattle.std.proofs.lemmas.List.{length-map}
use Rattle.cfg_core.specs.Graph.{Graph, GraphArray, entry_of, proc_at}
use Rattle.cfg_core.specs.View as view
use Rattle.cfg_core.specs.Shown.{has_name, shown_cells}
use Rattle.cfg_core.specs.declared.blocks.GraphArray.{GraphArray as CodeArray}
use Rattle.cfg_core.specs.Walk as walks
use Rattle.cfg_core.specs.Walk.{Config, At, Over, Going, step, walk, opening, EndsWith}
use Rattle.cfg_core.specs.Answer.{EndsInTurns, GoesSo}
use Rattle.cfg_core.specs.Rules.{IsGraph}
use Rattle.ws_words.specs.Memory.{OutIs}
use Rattle.cfg_core.specs.Shows.{Shows, NextIs, Held, FinalIs, AnswerIs, stacked, shown_at}
use Rattle.cfg_core.specs.declared.walker.Walker.{Walker}
use Rattle.cfg_core.specs.declared.walker.Frame.{Frame}
use Rattle.cfg_core.specs.declared.exits.Next.TheVariants as next
use Rattle.cfg_core.specs.declared.blocks.Graph.{Graph as CodeGraph}
use Rattle.cfg_core.proofs.Cost.{fewer}
use Rattle.cfg_core.proofs.Total.{weight, Lighter, step_lighter}

-- one block more at the end of a walk
pub walk_more : (g : Graph) (n : ℕ) (c : Config) → walk g (suc n) c ≡ step g (walk g n c)
walk_more g zero c = refl
walk_more g (suc n) c = walk_more g n (step g c)

-- what the code is at, from which the walk goes on
pub record WalkUpto (g : Graph) (c : Config) (b : ℕ) (w : Walker) : Type 0 where
  pub blocks : ℕ
  pub state : ProcState
  pub frames : List walks.Frame
  pub left : ℕ
  pub shows : Shows state frames left w
  pub same : walk g blocks c ≡ At b state frames left

at_next : (g : Graph) (c d : Config) (n : ℕ) (b : ℕ) (w : Walker) → walk g n c ≡ d → NextIs d (next.At b) w
    → WalkUpto g c b w
at_next g c d n b w same h = grind arith

-- the code has come to the next block
pub walk_next : (g : Graph) (c : Config) (b d : ℕ) (w n : Walker) → WalkUpto g c b w
    → ((s : ProcState) (frames : List walks.Frame) (k : ℕ) → Shows s frames k w
    → NextIs (step g (At b s frames k)) (next.At d) n) → WalkUpto g c d n
walk_next g c b d w n u f = at_next g c (step g (At b u.state u.frames u.left)) (suc u.blocks) d n
    (walk_more g u.blocks c ∙ ap (step g) u.same) (f u.state u.frames u.left u.shows)

over_final : (d : Config) (w : Walker) → NextIs d next.Over w → FinalIs d true w
over_final d w h = grind arith

going_final : (d : Config) (w : Walker) → NextIs d next.Going w → FinalIs d false w
going_final d w h = grind arith

-- the code has come to the end
pub walk_over : (g : Graph) (c : Config) (b : ℕ) (w n : Walker) → WalkUpto g c b w
    → ((s : ProcState) (frames : List walks.Frame) (k : ℕ) → Shows s frames k w
    → NextIs (step g (At b s frames k)) next.Over n) → AnswerIs g c true n
walk_over g c b w n u f = record {
  blocks = suc u.blocks;
  final = step g (At b u.state u.frames u.left);
  same = walk_more g u.blocks c ∙ ap (step g) u.same;
  is = grind (arith, over_final, u.left);
}

-- the code is out of turns
pub walk_going : (g : Graph) (c : Config) (b : ℕ) (w n : Walker) → WalkUpto g c b w
    → ((s : ProcState) (frames : List walks.Frame) (k : ℕ) → Shows s frames k w
    → NextIs (step g (At b s frames k)) next.Going n) → AnswerIs g c false n
walk_going g c b w n u f = record {
  blocks = suc u.blocks;
  final = step g (At b u.state u.frames u.left);
  same = walk_more g u.blocks c ∙ ap (step g) u.same;
  is = grind (arith, going_final, u.left);
}

length_stacked : (fs : List Frame) (below : List walks.Frame) → length (stacked fs below) ≡ length fs + length
    below
length_stacked [] below = omega arith
length_stacked (f ∷ fs) below = let h =
    length_stacked fs (record { result = f.result; back = f.back; vars = f.vars } ∷ below) in omega (arith, h)

frames_of : (s : ProcState) (frames : List walks.Frame) (k : ℕ) (w : Walker) → Shows s frames k w
    → length frames ≡ length w.frames.items
frames_of s frames k w sh = grind (arith, length_stacked, w.frames.items)

held_next : (d : Config) (b : ℕ) (w : Walker) → NextIs d (next.At b) w → Held w
held_next d b w h = grind arith

-- the code holds a state at the next block
pub still_held : (g : Graph) (b d : ℕ) (w n : Walker) → Held w
    → ((s : ProcState) (frames : List walks.Frame) (k : ℕ) → Shows s frames k w
    → NextIs (step g (At b s frames k)) (next.At d) n) → Held n
still_held g b d w n h f = held_next (step g (At b h.state h.frames h.left)) d n
    (f h.state h.frames h.left h.shows)

-- what falls at each block
abbrev pub heft : Graph → ℕ → Walker → ℕ
heft g b w = weight g (length w.frames.items) w.turns b

lighter_next : (g : Graph) (limit : ℕ) (d : Config) (b : ℕ) (w : Walker) → Lighter g limit d
    → NextIs d (next.At b) w → heft g b w < limit
lighter_next g limit (At e s frames k) b w l h =
    subst (λ n. weight g n w.turns b < limit) (frames_of s frames k w h.1)
    (subst (λ n. weight g (length frames) n b < limit) h.1.turns
    (subst (λ n. weight g (length frames) k n < limit) h.0 l))
lighter_next g limit (Over o k) b w l h = absurd h
lighter_next g limit (Going o) b w l h = absurd h

-- the measure falls at each block
pub falls : (g : Graph) → IsGraph g → (b d : ℕ) (w n : Walker) → Held w
    → ((s : ProcState) (frames : List walks.Frame) (k : ℕ) → Shows s frames k w
    → NextIs (step g (At b s frames k)) (next.At d) n) → heft g d n < heft g b w
falls g rules b d w n h f =
    let l : Lighter g (heft g b w) (step g (At b h.state h.frames h.left)) =
    grind (arith, w.turns, frames_of, h.left, h.shows.turns, step_lighter) in
    grind (arith, lighter_next, h.left)

-- one array more
shown_one : (a : GraphArray) (more : List GraphArray) (cells : List (List ℕ)) (i : ℕ)
    → shown_cells (a ∷ more) (drop i cells) ≡ shown_at a cells i ++ shown_cells more (drop (suc i) cells)
shown_one a more [] zero = none_shown (has_name a) more
  where
    none_shown : (b : Bool) (more : List GraphArray) → [] ≡ (if b then [] else []) ++ shown_cells more []
    none_shown true [] = refl
    none_shown true (x ∷ more) = refl
    none_shown false [] = refl
    none_shown false (x ∷ more) = refl
shown_one a more [] (suc i) = none_shown (has_name a) more
  where
    none_shown : (b : Bool) (more : List GraphArray) → [] ≡ (if b then [] else []) ++ shown_cells more []
    none_shown true [] = refl
    none_shown true (x ∷ more) = refl
    none_shown false [] = refl
    none_shown false (x ∷ more) = refl
shown_one a more (r ∷ cells) zero = by_name (has_name a)
  where
    by_name : (b : Bool) → (if b then r ∷ shown_cells more cells else shown_cells more cells)
        ≡ (if b then r ∷ [] else []) ++ shown_cells more cells
    by_name b = grind arith
shown_one a more (r ∷ cells) (suc i) = shown_one a more cells i

-- one array more is shown
pub shown_more : (arrays : List CodeArray) (cells rows next whole : List (List ℕ)) (i j : ℕ) (a : CodeArray)
    → j ≡ suc i → drop i arrays ≡ a ∷ drop j arrays → next ≡ rows ++ shown_at (view.array a) cells i
    → rows ++ shown_cells (map view.array (drop i arrays)) (drop i cells) ≡ whole
    → next ++ shown_cells (map view.array (drop j arrays)) (drop j cells) ≡ whole
shown_more arrays cells rows next whole i j a ej e en h = grind (arith, append_assoc, shown_one)

-- the walk begins at this block, with so many variables
abbrev pub start : Graph → World → ℕ → ℕ → ℕ → Config
start g world turns b n = At b (record { vars = zeros n; out = opening_out (walks.cells_of g.arrays) world })
    [] turns

begun : (g : Graph) (world : World) (turns main entry vars : ℕ) (ended : Bool) (w : Walker)
    → main ≡ length g.procs - 1 → entry ≡ entry_of g main → vars ≡ (proc_at g main).vars
    → AnswerIs g (start g world turns entry vars) ended w → AnswerIs g (opening g world turns) ended w
begun g world turns main entry vars ended w em ee ev h = grind arith

-- the walk that the code begins is that of the graph
pub opened : (table graph : CodeGraph) (world : World) (turns main entry vars : ℕ) (ended : Bool) (w : Walker)
    → table ≡ graph → main ≡ length graph.procs.items - 1 → entry ≡ entry_of (view.graph table) main
    → vars ≡ (proc_at (view.graph table) main).vars → AnswerIs (view.graph table)
    (start (view.graph graph) world turns entry vars) ended w → AnswerIs (view.graph graph)
    (opening (view.graph graph) world turns) ended w
opened table graph world turns main entry vars ended w same em ee ev h =
    grind (arith, length-map, graph.procs.items, begun)

pub record EndedIs (g : Graph) (world : World) (turns : ℕ) (w : Walker) : Type 0 where
  pub outside : Outside
  pub shows : OutIs outside w.memory
  pub ends : EndsWith g world turns outside w.turns

-- a run that ended is a walk that ends
pub ended_is : (g : Graph) (world : World) (turns : ℕ) (w : Walker) (ended : Bool) → ended ≡ true
    → AnswerIs g (opening g world turns) ended w → EndedIs g world turns w
ended_is g world turns w ended t h = grind (arith, h.same)

-- a run that did not is a walk that is going
pub going_is : (g : Graph) (world : World) (turns : ℕ) (w : Walker) (ended : Bool) → ended ≡ false
    → AnswerIs g (opening g world turns) ended w → GoesSo g world turns w.memory.printed
going_is g world turns w ended t h = grind (arith, h.same)

-- no more turns are left than were given
pub in_time : (g : Graph) (world : World) (turns : ℕ) (w : Walker) → EndedIs g world turns w → w.turns ≤ turns
in_time g world turns w h = let r = fewer g world turns w.turns h.outside h.ends in omega (arith, r.1)

-- the answer says how the walk ends
pub ends_so : (g : Graph) (world : World) (turns : ℕ) (w : Walker) (arrays : List (List ℕ))
    → EndedIs g world turns w → arrays ≡ shown_cells g.arrays w.memory.cells
    → EndsInTurns g world turns w.memory.printed arrays w.memory.took (turns - w.turns)
ends_so g world turns w arrays h e = let r = fewer g world turns w.turns h.outside h.ends in grind arith
