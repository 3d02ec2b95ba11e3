-- The sizes of small programs, and the paths of their walks, by computing.
use Rattle.std.proofs.Common.{◌≡◌, List, [], ◌∷◌, length, refl, Some, None}
use Rattle.ws_words.specs.declared.alu.Alu.TheVariants.{Add, Lt}
use Rattle.src_ast.specs.declared.lexeme.Place.{Place}
use Rattle.src_ast.specs.declared.lexeme.Name.{Name}
use Rattle.src_ast.specs.Syntax.{Number, Variable, Binary, Assign, Print, Read, Call, If, While, Nothing}
use Rattle.src_ast.specs.Syntax.{Then, Procedure, Part, Proc}
use Rattle.src_ast.specs.Meaning.{procs_of}
use Rattle.seq_run.specs.Resolving.{program}
use Rattle.cfg_core.specs.Graph.{Graph, spots, spot_at, proc_at, entry_of}
use Rattle.cfg_core.specs.Walk.{opening}
use Rattle.cfg_core.specs.Weights.{path, ops_in, nodes_in}
use Rattle.cfg_build.specs.Lowered.{lowered}
use Rattle.cfg_build.specs.Sizes.{sum_procs, own_blocks, own_ops, ending_ops, own_nodes, result_nodes}
use Rattle.cfg_build.specs.Sizes.{turns_in}

abbrev at : Place
at = record { line = 1; column = 1 }

abbrev x : Name
x = record { text = 120 ∷ []; place = at }

abbrev f : Name
f = record { text = 102 ∷ []; place = at }

-- reads x, and counts it up to 9 if it isn't 0
abbrev counts : Procedure
counts = record {
  name = f;
  params = [];
  vars = x ∷ [];
  ending = Some (record { place = at; value = Variable x });
  body = Then (Read at x) (Then (If at (Variable x)
      (Then (While at (Binary Lt (Variable x) (Number 9))
      (Then (Assign at x (Binary Add (Variable x) (Number 1))) Nothing)) Nothing)
      Nothing) Nothing);
}

abbrev main : Procedure
main = record {
  name = x;
  params = [];
  vars = x ∷ [];
  ending = None;
  body = Then (Call at (Some x) f [])
      (Then (Print at (Variable x)) Nothing);
}

abbrev parts : List Part
parts = Proc counts ∷ Proc main ∷ []

abbrev g : Graph
g = lowered (program parts)

pub nine_blocks : (length (spots g) ≡ 9) × (sum_procs own_blocks (λ last. 1) (procs_of parts) ≡ 9)
nine_blocks = (refl, refl)

pub ten_ops : (ops_in g ≡ 10) × (sum_procs own_ops ending_ops (procs_of parts) ≡ 10)
ten_ops = (refl, refl)

pub ten_nodes : (nodes_in g ≡ 10) × (sum_procs own_nodes result_nodes (procs_of parts) ≡ 10)
ten_nodes = (refl, refl)

pub seven_turns : (turns_in g ≡ 7) × (sum_procs (λ s. 1) ending_ops (procs_of parts) ≡ 7)
seven_turns = (refl, refl)

-- eight turns: the call, the read, the test of the `if`, two of the loop, an assignment, the return and the
-- print
pub path_of_eight_turns : path g 9 (opening g (record { input = 8 ∷ []; left = [] }) 8) ≡ 7 ∷ 0 ∷ 1 ∷ 2 ∷ 3
    ∷ 2 ∷ 4 ∷ 6 ∷ 8 ∷ []
unfolding spot_at proc_at entry_of
path_of_eight_turns = refl
