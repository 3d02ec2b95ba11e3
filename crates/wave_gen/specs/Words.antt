-- What contracts say of graphs and of their drafts: where walks begin, arrays, live names; graphs of words.
use Rattle.std.specs.Prelude.{ℕ, zero, suc, Bool, cond, List, [], ◌∷◌, map}
use Rattle.std.specs.List.{AllByRecursion}
use Rattle.ws_words.specs.Outside.{IsMachineWord}
use Rattle.ws_isa.specs.Image.{Array}
use Rattle.cfg_core.specs.Graph.{Term, Number, Var, Cell, Flip, Not, Neg, Binary}
use Rattle.cfg_core.specs.Graph.{Op, Assign, Store, Print, Read, Give, Take, Choose, Tick, TickBy}
use Rattle.cfg_core.specs.Graph.{Exit, Goto, Branch, Call, Return, Send, Stop}
use Rattle.cfg_core.specs.Graph.{GraphArray, Graph, spots}

-- an array of a graph as a draft has it, under its name
abbrev pub array_of : GraphArray → Array
array_of a = record { name = a.name; length = a.length }

abbrev pub arrays_of : Graph → List Array
arrays_of g = map array_of g.arrays

-- the names of those of n variables from x on that are live
abbrev pub live_from : (ℕ → Bool) → ℕ → ℕ → List ℕ
live_from live x zero = []
live_from live x (suc n) =
    cond (live x) (suc x ∷ live_from live (suc x) n) (live_from live (suc x) n)

-- Words.

-- the numbers of a term are words
abbrev pub TermOfWords : Term → Type 0
TermOfWords (Number n) = IsMachineWord n
TermOfWords (Var x) = Unit {0}
TermOfWords (Cell a t) = TermOfWords t
TermOfWords (Flip t) = TermOfWords t
TermOfWords (Not t) = TermOfWords t
TermOfWords (Neg t) = TermOfWords t
TermOfWords (Binary op a b) = TermOfWords a × TermOfWords b

-- those of its terms
abbrev pub OpOfWords : Op → Type 0
OpOfWords (Assign x t) = TermOfWords t
OpOfWords (Store a t u) = TermOfWords t × TermOfWords u
OpOfWords (Print t) = TermOfWords t
OpOfWords (Read x) = Unit {0}
OpOfWords (Give p x) = Unit {0}
OpOfWords (Take p t) = TermOfWords t
OpOfWords (Choose x t a b) = TermOfWords t × TermOfWords a × TermOfWords b
OpOfWords (Tick n) = Unit {0}
OpOfWords (TickBy t n m) = TermOfWords t

abbrev pub ExitOfWords : Exit → Type 0
ExitOfWords (Goto b) = Unit {0}
ExitOfWords (Branch t a b) = TermOfWords t
ExitOfWords (Call x f ts back) = AllByRecursion TermOfWords ts
ExitOfWords (Return t) = TermOfWords t
ExitOfWords (Send t ts ls) = TermOfWords t × AllByRecursion TermOfWords ts
ExitOfWords Stop = Unit {0}

-- every number of a graph is a word
abbrev pub GraphOfWords : Graph → Type 0
GraphOfWords g =
    AllByRecursion (λ s. AllByRecursion OpOfWords s.block.ops × ExitOfWords s.block.exit) (spots g)
