-- Plans that are drawn from a control graph.
use Rattle.std.specs.Prelude.{ℕ, suc, ◌-◌, ◌≡◌, ◌<◌, ◌≤◌, List, [], ◌∷◌, ◌++◌, length, map}
use Rattle.ws_words.specs.Outside.{ProcState}
use Rattle.ws_isa.specs.declared.instr.Op.TheVariants.{Merge}
use Rattle.cfg_core.specs.Graph as graph
use Rattle.cfg_core.specs.Graph.{Graph, spots, spot_at, block_at, entry_of}
use Rattle.std.specs.List.{AllByRecursion}
use Rattle.cfg_core.specs.Walk.{Done, run_op, run_ops, Config, At, Frame, walk}
use Rattle.wave_gen.specs.Wire.{Item, Same}
use Rattle.wave_gen.specs.Plans.{HowLeft, Onto, Either, Lands, Halts, Plan, plan_at, pulse}
use Rattle.wave_gen.specs.Gen.{gen_term, gen_ops, FlipsWords, OpFine}
use Rattle.wave_gen.specs.Drawn.{gen_source, gen_terms, exit_next}
use Rattle.wave_gen.specs.Waits.{NameState}
use Rattle.wave_gen.proofs.OfItems.Runs.{run_items}
use Rattle.ws_words.specs.Items.{In}

-- variables that are 0 at the start of a block
abbrev pub zero_items : List ℕ → List Item
zero_items [] = []
zero_items (x ∷ xs) = Same (suc x) pulse ∷ zero_items xs

-- The plan with this number is that of block c of the graph.
pub data Leads (ps : List Plan) (place : ℕ → ℕ) (zeroed : ℕ → List ℕ) (n c : ℕ) : Type 0 where
  here : n ≡ place c → Leads ps place zeroed n c

-- what is zeroed at the plan to which an edge leads
abbrev pub zeroed_at : {ps : List Plan} {place : ℕ → ℕ} {zeroed : ℕ → List ℕ} {n c : ℕ}
    → Leads ps place zeroed n c → List ℕ
zeroed_at {zeroed = zeroed} {c = c} (here e) = zeroed c

-- an edge that keeps the variables: none of them is zeroed behind it
pub record Keeps (ps : List Plan) (place : ℕ → ℕ) (zeroed : ℕ → List ℕ) (n c : ℕ) : Type 0 where
  pub leads : Leads ps place zeroed n c
  pub none : zeroed_at leads ≡ []

-- a landing: it has a pad for the pulse and for each variable that the block names, and zeroes none of these
pub record LandsAt (g : Graph) (ps : List Plan) (place : ℕ → ℕ) (zeroed : ℕ → List ℕ) (n c : ℕ) : Type 0 where
  pub leads : Leads ps place zeroed n c
  pub pads : (plan_at ps n).pads ≡ pulse ∷ map suc (block_at g c).named
  pub apart : (x : ℕ) → In x (zeroed_at leads) → In x (block_at g c).named → ⊥

abbrev pub LandsAll : Graph → List Plan → (ℕ → ℕ) → (ℕ → List ℕ) → List ℕ → List ℕ → Type 0
LandsAll g ps place zeroed [] [] = Unit {0}
LandsAll g ps place zeroed (n ∷ ns) (c ∷ cs) = LandsAt g ps place zeroed n c
    × LandsAll g ps place zeroed ns cs
LandsAll g ps place zeroed _ _ = ⊥

-- The exit of a plan, where its operations have taken the names below k. `first` are the items before it.
abbrev pub ExitDrawn : Graph → List Plan → (ℕ → ℕ) → (ℕ → List ℕ) → ℕ → graph.Exit → List Item → HowLeft
    → Type 0
ExitDrawn g ps place zeroed k (graph.Goto c) first e = (n : ℕ) × (first ≡ []) × (e ≡ Onto n)
    × Keeps ps place zeroed n c
ExitDrawn g ps place zeroed k (graph.Branch t a b) first e = let s = gen_source k t in
    (m : ℕ) × (n : ℕ) × (first ≡ s.items) × (e ≡ Either s.op s.from m n) × Keeps ps place zeroed m a
    × Keeps ps place zeroed n b
ExitDrawn g ps place zeroed k (graph.Call x f ts back) first e = ⊥
ExitDrawn g ps place zeroed k (graph.Return t) first e = (first ≡ (gen_term k t).items) × (e ≡ Halts)
ExitDrawn g ps place zeroed k (graph.Send t ts ls) first e =
    let a = gen_term k t in let m = gen_terms a.next ts in
    (ns : List ℕ) × (first ≡ a.items ++ m.items) × (e ≡ Lands Merge (a.name ∷ []) (pulse ∷ m.names) ns)
    × LandsAll g ps place zeroed ns ls
ExitDrawn g ps place zeroed k graph.Stop first e = (first ≡ []) × (e ≡ Halts)

-- the plan of a block of the graph
pub record BlockDrawn (g : Graph) (ps : List Plan) (width : ℕ) (place : ℕ → ℕ) (zeroed : ℕ → List ℕ)
    (b : ℕ) : Type 0 where
  pub first : List Item
  -- its items do what these do
  pub items : (s : NameState) → run_items (plan_at ps (place b)).items s ≡ run_items
      (zero_items (zeroed b) ++ ((gen_ops width (block_at g b).ops).items ++ first)) s
  pub exit : ExitDrawn g ps place zeroed (gen_ops width (block_at g b).ops).next (block_at g b).exit first
      (plan_at ps (place b)).exit
  pub wide : (spot_at g b).vars < width
  pub test : exit_next (gen_ops width (block_at g b).ops).next (block_at g b).exit
      ≤ (plan_at ps (place b)).test

-- Plans are drawn from a graph: each block has one, and the first plan leads to the entry of `main`, where
-- all variables are 0.
pub record Drawn (g : Graph) (ps : List Plan) (width : ℕ) (place : ℕ → ℕ) (zeroed : ℕ → List ℕ) : Type 0 where
  pub blocks : (b : ℕ) → b < length (spots g) → BlockDrawn g ps width place zeroed b
  pub start : Leads ps place zeroed 1 (entry_of g (length g.procs - 1))

-- each complement in a block's operations is of a word, from this state on
abbrev pub OpsFine : List graph.Op → ProcState → Type 0
OpsFine [] st = Unit {0}
OpsFine (op ∷ ops) st = OpFine op st.vars st.out.cells × ((st' : ProcState) (k l : ℕ)
    → run_op op st k ≡ Done st' l → OpsFine ops st')

abbrev pub ExitFine : graph.Exit → ProcState → Type 0
ExitFine (graph.Branch t a b) st = FlipsWords t st.vars st.out.cells
ExitFine (graph.Return t) st = FlipsWords t st.vars st.out.cells
ExitFine (graph.Send t ts ls) st = FlipsWords t st.vars st.out.cells × AllByRecursion
    (λ u. FlipsWords u st.vars st.out.cells) ts
ExitFine _ st = Unit {0}

-- from this state each complement in a block is of a word
pub record BlockFine (g : Graph) (b : ℕ) (st : ProcState) : Type 0 where
  pub ops : OpsFine (block_at g b).ops st
  pub exit : (st' : ProcState) (k l : ℕ) → run_ops (block_at g b).ops st k ≡ Done st' l
      → ExitFine (block_at g b).exit st'

-- and so wherever the walk comes
abbrev pub WalkFine : Graph → Config → Type 0
WalkFine g c = (m b : ℕ) (st : ProcState) (frames : List Frame) (k : ℕ) → walk g m c ≡ At b st frames k
    → BlockFine g b st
