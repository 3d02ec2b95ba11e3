-- The shape of lowered graphs.
use Rattle.std.proofs.Common.{ℕ, suc, ◌+◌, ◌≡◌, List, [], ◌∷◌, Option, Some, None, inl, inr, arith}
use Rattle.seq_run.specs.Resolved.{Proc, ResolvedProgram}
use Rattle.cfg_core.specs.Graph.{Graph, spots, spot_at, block_at, no_spot}
use Rattle.cfg_build.specs.Lowered.{begun, last_part, lowered}
use Rattle.cfg_core.specs.Shape.{OnlyFrom, IsShaped}
use Rattle.cfg_build.specs.Keeps.{IsFirstForm}
use Rattle.cfg_build.proofs.Places.{Each, each_nth, each_all, stand_all}
use Rattle.cfg_build.proofs.Labels.{all_labels, label_in, LabelsAt, labels_front, labels_back}
use Rattle.cfg_build.proofs.Stand.{proc_spots, SpotsAt, proc_at_front, procs_after, all_spots_at, then_procs}
use Rattle.cfg_build.proofs.Edges.{Fine, made_fine, last_fine}

-- the procedures, of which the first has this number and begins at this block
procs_fine : (g : Graph) (all : List (Option ℕ)) (home : ℕ) (ps : List Proc) (c : ℕ)
    → SpotsAt g c (proc_spots home ps c) → LabelsAt all c (all_labels ps c)
    → Each (λ n s. Fine g all n s.block) c (proc_spots home ps c)
procs_fine g all home [] c h i = tt
procs_fine g all home (p ∷ ps) c h i =
    let next = suc (c + begun p.body) in
    then_procs (Fine g all) home p ps c
    (made_fine g all home (p.params + p.locals) p.body c None (last_part p.result)
    (proc_at_front g home p ps c h).2 (labels_front all p.body c None (all_labels ps next) i)
    (last_fine g all p.result (c + begun p.body)))
    (procs_fine g all (suc home) ps next (procs_after g home p ps c h)
    (labels_back all p.body c None (all_labels ps next) i))

abbrev pub labels_of : ResolvedProgram → List (Option ℕ)
labels_of program = all_labels program.procs 0

-- each block with its number
pub each_fine : (program : ResolvedProgram)
    → Each (λ n s. Fine (lowered program) (labels_of program) n s.block) 0 (spots (lowered program))
each_fine program = grind (arith, procs_fine, all_spots_at program, stand_all (labels_of program) None)

no_spot_fine : (g : Graph) (all : List (Option ℕ)) (n : ℕ) → Fine g all n no_spot.block
unfolding no_spot
no_spot_fine g all n = grind arith

pub fine_at : (program : ResolvedProgram) (b : ℕ) → Fine (lowered program) (labels_of program) b
    (block_at (lowered program) b)
unfolding spot_at
fine_at program b =
    let g = lowered program in let all = labels_of program in
    each_nth (λ n s. Fine g all n s.block) no_spot (no_spot_fine g all) (spots g) 0 b b (omega arith)
    (each_fine program)

only_from : (program : ResolvedProgram) (b c : ℕ) → label_in (labels_of program) c ≡ Some b
    → OnlyFrom (lowered program) b c
only_from program b c h = grind (arith, fine_at)

pub is_shaped : (program : ResolvedProgram) → IsShaped (lowered program)
is_shaped program = record {
  headers = λ c h. elim ((fine_at program h.0).on c h.2) [
    | inl lt ↦ absurd (omega (arith, lt, h.1))
    | inr
        back ↦ back.1
  ];
  backward = λ b c edge le. elim ((fine_at program b).on c edge) [
    | inl lt ↦
        absurd (omega (arith, lt, le))
    | inr back ↦ back.0
  ];
  branches = λ a t b c e. let f = (fine_at program a).apart t b c e in
      record { differ = f.0; first = only_from program a b f.1; second = only_from program a c f.2 };
}

pub is_first_form : (program : ResolvedProgram) → IsFirstForm (lowered program)
is_first_form program = grind (arith, each_all, each_fine program)
