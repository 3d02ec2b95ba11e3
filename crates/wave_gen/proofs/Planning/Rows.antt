-- Drafts of small plans, computed.
use Rattle.std.proofs.Common.{◌≡◌, [], ◌∷◌, refl}
use Rattle.ws_isa.specs.declared.instr.Op.TheVariants.{Const, Merge, Advance, Steer, Input, Output, Halt}
use Rattle.ws_isa.specs.Image.{instr_at, block_at}
use Rattle.ws_isa.specs.Image as image
use Rattle.wave_gen.specs.Plans.{plan_at, made_at, mades, starts_at, begins, source_of, draft_of}
use Rattle.cfg_core.specs.Graph.{entry_of, spot_at}
use Rattle.wave_gen.specs.Listing.{plans_of, graph_draft}
use Rattle.wave_gen.proofs.Planning.Samples.{asks, asks_sets, asks_cut, asks_draft, asks_ops}

-- one steer, that of the pulse: the value of a goes past the branch
asks_code : asks_ops ≡ Advance ∷ Input ∷ Input ∷ Merge ∷ Steer ∷ Const 1 ∷ Output ∷ Const 2 ∷ Output ∷ Merge
    ∷ Output ∷ Halt ∷ []
unfolding draft_of begins mades made_at starts_at plan_at source_of
asks_code = refl

-- from where it is read to where it is printed
asks_past : (instr_at asks_draft 2).dests ≡ record { instr = 11; port = 0 } ∷ []
unfolding draft_of begins mades made_at starts_at plan_at source_of instr_at
asks_past = refl

asks_exit : (block_at asks_draft 1).exit ≡ image.Branch 4 2 3
unfolding draft_of begins mades made_at starts_at plan_at source_of block_at
asks_exit = refl

-- it is the draft of the graph, by its live variables and waves
asks_drafted : graph_draft asks [] asks_sets asks_cut ≡ asks_draft
unfolding graph_draft plans_of entry_of spot_at draft_of begins mades made_at starts_at plan_at source_of
asks_drafted = refl
