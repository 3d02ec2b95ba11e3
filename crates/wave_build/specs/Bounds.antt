-- What the walk of a program's image costs.
use Rattle.std.specs.Prelude.{ℕ, suc, ◌*◌, List}
use Rattle.ws_words.specs.Outside.{Outside, World}
use Rattle.ws_isa.specs.Image.{Image}
use Rattle.ws_isa.specs.Walk.{CostAtMost}
use Rattle.src_ast.specs.Syntax.{Part}
use Rattle.src_ast.specs.Bound.{bound}
use Rattle.cfg_core.specs.Graph.{Graph}
use Rattle.cfg_core.specs.Walk.{Ends}

-- Where the graph's walk ends, the image's costs at most the bound of the program for each turn,
-- and once more.
abbrev pub StaysWithin : List Part → Graph → Image → World → ℕ → Type 0
StaysWithin parts g image world turns = (o : Outside) → Ends g world turns o →
    CostAtMost image world (bound parts * suc turns)
