-- The graph of a table.
use Rattle.cfg_core.specs.declared.blocks.Graph.{Graph}
use Rattle.cfg_core.specs.declared.table.GraphTable.{GraphTable}

-- the graph whose blocks and procedures a table lists
abbrev pub graph_in : GraphTable → Graph
graph_in t = t.graph.now
