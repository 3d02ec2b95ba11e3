-- Graphs without Sends.
use Rattle.cfg_core.specs.Graph.{Graph, Spot, spots, spot_at, no_spot, block_at}
use Rattle.cfg_build.specs.Keeps.{IsFirstExit, IsFirstForm}
use Rattle.call_gen.specs.Keeps.{HasNoSend}
use Rattle.phi_conv.specs.Keeps.{ExitsKept}
use Rattle.cfg_core.proofs.Spots.{each_at}
use Rattle.wave_build.proofs.CompilingRuns.{first_none, same_none}

-- a graph of the first form has no Send
pub first_has_none : (g : Graph) → IsFirstForm g → HasNoSend g
unfolding spot_at no_spot
first_has_none g h b = first_none (block_at g b).exit (each_at (λ (s : Spot). IsFirstExit s.block.exit)
    (spots g) no_spot h.exits tt b)

-- a graph whose exits are kept has no Send where the other had none
pub kept_has_none : (g h : Graph) → ExitsKept g h → HasNoSend g → HasNoSend h
kept_has_none g h kept none b = same_none (block_at g b).exit (block_at h b).exit (kept.exits b) (none b)
