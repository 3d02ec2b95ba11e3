-- What the code's graph says: the same graph as plain data.
use Rattle.std.specs.Prelude.{map}
use Rattle.cfg_core.specs.Graph as plain
use Rattle.cfg_core.specs.declared.blocks.Term.{Term}
use Rattle.cfg_core.specs.declared.blocks.Term.TheVariants.{Number, Var, Cell', Flip', Not', Neg', Binary'}
use Rattle.cfg_core.specs.declared.blocks.GraphOp.{GraphOp}
use Rattle.cfg_core.specs.declared.blocks.GraphOp.TheVariants.{Assign, Store, Print, Read, Give, Take, Choose}
use Rattle.cfg_core.specs.declared.blocks.GraphOp.TheVariants.{Tick, TickBy}
use Rattle.cfg_core.specs.declared.blocks.Leave.{Leave}
use Rattle.cfg_core.specs.declared.blocks.Leave.TheVariants.{Goto, Branch, Call, Return, Send, Stop}
use Rattle.cfg_core.specs.declared.blocks.GraphBlock.{GraphBlock}
use Rattle.cfg_core.specs.declared.blocks.GraphProc.{GraphProc}
use Rattle.cfg_core.specs.declared.blocks.GraphArray.{GraphArray}
use Rattle.cfg_core.specs.declared.blocks.Graph.{Graph}

abbrev pub term : Term → plain.Term
term (Number n) = plain.Number n.value
term (Var x) = plain.Var x
term (Cell' a p t) = plain.Cell a (term t)
term (Flip' p t) = plain.Flip (term t)
term (Not' p t) = plain.Not (term t)
term (Neg' p t) = plain.Neg (term t)
term (Binary' op p a q b) = plain.Binary op (term a) (term b)

abbrev pub op : GraphOp → plain.Op
op (Assign x t) = plain.Assign x (term t)
op (Store a t u) = plain.Store a (term t) (term u)
op (Print t) = plain.Print (term t)
op (Read x) = plain.Read x
op (Give p x) = plain.Give p x
op (Take p t) = plain.Take p (term t)
op (Choose x t a b) = plain.Choose x (term t) (term a) (term b)
op (Tick n) = plain.Tick n
op (TickBy t n m) = plain.TickBy (term t) n m

abbrev pub exit : Leave → plain.Exit
exit (Goto b) = plain.Goto b
exit (Branch t a b) = plain.Branch (term t) a b
exit (Call x f ts back) = plain.Call x f (map term ts.items) back
exit (Return t) = plain.Return (term t)
exit (Send t ts ls) = plain.Send (term t) (map term ts.items) ls.items
exit Stop = plain.Stop

abbrev pub block : GraphBlock → plain.Block
block b = record { named = b.named.items; ops = map op b.ops.items; exit = exit b.exit }

abbrev pub proc : GraphProc → plain.GraphProc
proc p = record { params = p.params; vars = p.vars; blocks = map block p.blocks.items }

abbrev pub array : GraphArray → plain.GraphArray
array a = record { name = a.name; length = a.length }

abbrev pub graph : Graph → plain.Graph
graph g = record { arrays = map array g.arrays.items; procs = map proc g.procs.items }
