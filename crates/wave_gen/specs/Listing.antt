-- The plans of a graph: a block's exit, its names, and the order of blocks in the draft.
use Rattle.std.specs.Prelude.{ℕ, zero, suc, ◌+◌, ◌-◌, Bool, false, cond, not, ◌||◌, eqb, ltb, List, [], ◌∷◌}
use Rattle.std.specs.Prelude.{◌++◌, length, map}
use Rattle.ws_isa.specs.declared.instr.Op.TheVariants.{Merge}
use Rattle.cfg_core.specs.Graph as graph
use Rattle.cfg_core.specs.Graph.{Graph, Spot, spots, spot_at, block_at}
use Rattle.ws_isa.specs.Image.{Array, Image}
use Rattle.wave_cut.specs.Cut.{Cut, wave, is_first}
use Rattle.wave_gen.specs.Words.{live_from}
use Rattle.wave_gen.specs.Wire.{Item}
use Rattle.wave_gen.specs.Plans.{HowLeft, Onto, Either, Lands, Halts, Plan, pulse, is_among, draft_of}
use Rattle.wave_gen.specs.Gen.{gen_term, gen_ops}
use Rattle.wave_gen.specs.Shared.{shared, none_known}
use Rattle.wave_gen.specs.Drawn.{gen_source, gen_terms, exit_next}
use Rattle.ws_words.specs.Items.{nth, or_else}
use Rattle.cfg_core.specs.Weights.{first_block}

-- the items before an exit, and the exit
pub record Leaving : Type 0 where
  pub items : List Item
  pub exit : HowLeft

abbrev pub leaving : List Item → HowLeft → Leaving
leaving items exit = record { items = items; exit = exit }

-- `place` numbers the plans of blocks, names from k on are free
abbrev pub gen_exit : (ℕ → ℕ) → ℕ → graph.Exit → Leaving
gen_exit place k (graph.Goto c) = leaving [] (Onto (place c))
gen_exit place k (graph.Branch t a b) = let s = gen_source k t in
    leaving s.items (Either s.op s.from (place a) (place b))
gen_exit place k (graph.Send t ts ls) =
    let a = gen_term k t in let m = gen_terms a.next ts in
    leaving (a.items ++ m.items) (Lands Merge (a.name ∷ []) (pulse ∷ m.names) (map place ls))
gen_exit place k (graph.Return t) = leaving (gen_term k t).items Halts
gen_exit place k _ = leaving [] Halts

-- the names that a block needs
abbrev pub entries_of : Graph → (ℕ → ℕ → Bool) → ℕ → List ℕ
entries_of g live b = pulse ∷ live_from (live b) 0 (spot_at g b).vars

abbrev pub landings_of : graph.Exit → List ℕ
landings_of (graph.Send t ts ls) = ls
landings_of _ = []

abbrev pub arms_of : graph.Exit → List ℕ
arms_of (graph.Branch t a b) = a ∷ b ∷ []
arms_of _ = []

-- block b is in the list of some block's exit
abbrev pub in_some : (graph.Exit → List ℕ) → List Spot → ℕ → Bool
in_some f [] b = false
in_some f (s ∷ ss) b = is_among b (f s.block.exit) || in_some f ss b

-- a block to which a Send leads, or where the walk begins
abbrev pub has_pads : Graph → ℕ → Bool
has_pads g b = eqb b (first_block g) || in_some landings_of (spots g) b

abbrev pub plan_of : Graph → (ℕ → ℕ → Bool) → (ℕ → ℕ) → (ℕ → Bool) → (ℕ → ℕ) → ℕ → ℕ → Plan
plan_of g live waves firsts place width b =
    let d = gen_ops width (block_at g b).ops in
    let l = gen_exit place d.next (block_at g b).exit in
    record {
      wave = waves b;
      first = firsts b;
      joined = not (firsts b || in_some arms_of (spots g) b);
      entries = cond (firsts b) (entries_of g live b) [];
      pads = cond (has_pads g b) (pulse ∷ map suc (block_at g b).named) [];
      items = shared none_known (d.items ++ l.items);
      exit = l.exit;
      test = exit_next d.next (block_at g b).exit;
    }

-- those of n blocks from b on that lie in wave k
abbrev pub of_wave : (ℕ → ℕ) → ℕ → ℕ → ℕ → List ℕ
of_wave waves k b zero = []
of_wave waves k b (suc n) = cond (eqb (waves b) k) (b ∷ of_wave waves k (suc b) n) (of_wave waves k (suc b) n)

-- the n blocks of m waves from wave k on, wave after wave
abbrev pub waves_from : (ℕ → ℕ) → ℕ → ℕ → ℕ → List ℕ
waves_from waves n k zero = []
waves_from waves n k (suc m) = of_wave waves k 0 n ++ waves_from waves n (suc k) m

-- the place of a block in a list
abbrev pub index_of : List ℕ → ℕ → ℕ
index_of [] b = 0
index_of (x ∷ xs) b = cond (eqb x b) 0 (suc (index_of xs b))

-- Waves in the draft's order: that of the start is the first one, and the waves of other procedures come
-- behind it.
abbrev pub turned : Graph → Cut → ℕ → ℕ
turned g cut b =
    let s = wave cut (first_block g) in
    cond (ltb (wave cut b) s) (wave cut b + length cut.heads - s + 1) (wave cut b - s + 1)

abbrev pub listing : Graph → Cut → List ℕ
listing g cut = waves_from (turned g cut) (length (spots g)) 1 (length cut.heads)

-- the number of a block's plan
abbrev pub place_of : Graph → Cut → ℕ → ℕ
place_of g cut b = suc (index_of (listing g cut) b)

abbrev pub most_vars : List Spot → ℕ
most_vars [] = 0
most_vars (s ∷ ss) = cond (ltb s.vars (most_vars ss)) (most_vars ss) s.vars

-- how many names there are for the pulse and the variables
abbrev pub width_of : Graph → ℕ
width_of g = suc (most_vars (spots g))

unfoldable pub plans_of : Graph → (ℕ → ℕ → Bool) → Cut → List Plan
plans_of g live cut = map (plan_of g live (turned g cut) (is_first cut) (place_of g cut) (width_of g))
    (listing g cut)

-- the block of which this plan is made
abbrev pub block_of_plan : Graph → Cut → ℕ → ℕ
block_of_plan g cut n = or_else (nth (listing g cut) (n - 1)) 0

-- what a plan needs at its start
abbrev pub needed : Graph → (ℕ → ℕ → Bool) → Cut → ℕ → ℕ → Bool
needed g live cut n x = is_among x (entries_of g live (block_of_plan g cut n))

abbrev pub nothing_zeroed : ℕ → List ℕ
nothing_zeroed b = []

-- the draft of a graph, by its live variables and waves
unfoldable pub graph_draft : Graph → List Array → (ℕ → ℕ → Bool) → Cut → Image
graph_draft g arrays live cut = draft_of arrays (width_of g) (plans_of g live cut)
