-- Worked walks: what the definitions give for the small graphs, by computing.
use Rattle.std.proofs.Common.{◌≡◌, ℕ, List, [], ◌∷◌, refl}
use Rattle.ws_words.specs.Outside.{World, Act, loads, stores, reads, prints, gives, takes}
use Rattle.ws_words.specs.Plain.{took_by_ports}
use Rattle.cfg_core.specs.Graph.{spot_at, proc_at, entry_of}
use Rattle.cfg_core.specs.Walk.{Config, At, Over, Going, walk, opening}
use Rattle.cfg_core.specs.Shown.{shown_acts, shown_cells}
use Rattle.cfg_core.specs.Weights.{path}
use Rattle.cfg_core.specs.Samples.{straight, branches, counts, calls_twice, sends}

abbrev given : List ℕ → World
given input = record { input = input; left = (8 ∷ []) ∷ [] }

abbrev acts_of : Config → List Act
acts_of (At b s frames k) = s.out.acts
acts_of (Over o k) = o.acts
acts_of (Going o) = o.acts

pub straight_walk : walk straight 1 (opening straight (given []) 5) ≡ Over
    (record { cells = []; input = []; left = [] ∷ []; acts = gives 1 ∷ takes 2 8 ∷ prints 8 ∷ [] }) 4
unfolding spot_at proc_at entry_of
straight_walk = refl

pub straight_wants_a_turn : walk straight 1 (opening straight (given []) 0)
    ≡ Going (record { cells = []; input = []; left = [] ∷ []; acts = gives 1 ∷ [] })
unfolding spot_at proc_at entry_of
straight_wants_a_turn = refl

pub takes_by_port : took_by_ports (gives 1 ∷ takes 2 8 ∷ prints 8 ∷ []) ≡ [] ∷ (8 ∷ []) ∷ [] ∷ [] ∷ [] ∷ []
    ∷ [] ∷ []
takes_by_port = refl

pub first_branch : walk branches 2 (opening branches (given (4 ∷ [])) 9)
    ≡ Over (record {
      cells = (0 ∷ 4 ∷ []) ∷ (4 ∷ []) ∷ [];
      input = [];
      left = (8 ∷ []) ∷ [];
      acts = reads ∷ stores 1 1 4 ∷ prints 5 ∷ loads 1 1 ∷ stores 2 0 4 ∷ [];
    }) 7
unfolding spot_at proc_at entry_of
first_branch = refl

pub first_branch_shows : shown_acts branches.arrays (reads ∷ stores 1 1 4 ∷ prints 5 ∷ loads 1 1 ∷ stores 2 0
    4 ∷ []) ≡ reads ∷ prints 5 ∷ stores 1 0 4 ∷ []
first_branch_shows = refl

pub shown_cells_alone : shown_cells branches.arrays ((0 ∷ 4 ∷ []) ∷ (4 ∷ []) ∷ []) ≡ (4 ∷ []) ∷ []
shown_cells_alone = refl

pub second_branch : walk branches 2 (opening branches (given []) 9) ≡ Over
    (record {
      cells = (0 ∷ 0 ∷ []) ∷ (0 ∷ []) ∷ [];
      input = [];
      left = (8 ∷ []) ∷ [];
      acts = reads ∷ stores 1 1 0 ∷ prints 9 ∷ [];
    }) 6
unfolding spot_at proc_at entry_of
second_branch = refl

pub counts_down : acts_of (walk counts 9 (opening counts (given []) 4)) ≡ prints 3 ∷ prints 2 ∷ prints 1 ∷ []
unfolding spot_at proc_at entry_of
counts_down = refl

pub counts_in_four_turns : walk counts 9 (opening counts (given []) 4) ≡ Over
    (record { cells = []; input = []; left = (8 ∷ []) ∷ []; acts = prints 3 ∷ prints 2 ∷ prints 1 ∷ [] }) 0
unfolding spot_at proc_at entry_of
counts_in_four_turns = refl

pub counts_on : walk counts 9 (opening counts (given []) 2) ≡ Going
    (record { cells = []; input = []; left = (8 ∷ []) ∷ []; acts = prints 3 ∷ prints 2 ∷ [] })
unfolding spot_at proc_at entry_of
counts_on = refl

pub calls_and_returns : walk calls_twice 5 (opening calls_twice (given []) 2)
    ≡ Over (record { cells = []; input = []; left = (8 ∷ []) ∷ []; acts = prints 5 ∷ prints 11 ∷ [] }) 0
unfolding spot_at proc_at entry_of
calls_and_returns = refl

pub first_landing : acts_of (walk sends 2 (opening sends (given (0 ∷ [])) 0)) ≡ reads ∷ prints 1 ∷ prints 0
    ∷ []
unfolding spot_at proc_at entry_of
first_landing = refl

pub last_landing : acts_of (walk sends 2 (opening sends (given (7 ∷ [])) 0)) ≡ reads ∷ prints 2 ∷ prints 0
    ∷ []
unfolding spot_at proc_at entry_of
last_landing = refl

pub counted_path : path counts 9 (opening counts (given []) 4) ≡ 0 ∷ 1 ∷ 2 ∷ 1 ∷ 2 ∷ 1 ∷ 2 ∷ 1 ∷ 3 ∷ []
unfolding spot_at proc_at entry_of
counted_path = refl

pub path_out_of_turns : path counts 9 (opening counts (given []) 2) ≡ 0 ∷ 1 ∷ 2 ∷ 1 ∷ 2 ∷ []
unfolding spot_at proc_at entry_of
path_out_of_turns = refl

pub path_of_calls : path calls_twice 9 (opening calls_twice (given []) 2) ≡ 3 ∷ 1 ∷ 0 ∷ 2 ∷ 4 ∷ []
unfolding spot_at proc_at entry_of
path_of_calls = refl
