-- What the graph of a program has, where it is the lowered graph of the program with numbers for names.
use Rattle.std.proofs.Common.{◌≡◌, ℕ, suc, ◌+◌, length, true, List, [], ◌∷◌, refl, sym, ap, ◌∙◌, subst, arith}
use Rattle.std.specs.List.{AllByRecursion}
use Rattle.ws_words.specs.Outside.{World, Outside}
use Rattle.src_ast.specs.declared.lexeme.Name.{Name}
use Rattle.src_ast.specs.Syntax.{Procedure, Part, Array, Proc}
use Rattle.src_ast.specs.declared.lexeme.Place.{Place}
use Rattle.src_ast.specs.Rules.{IsAccepted}
use Rattle.src_ast.specs.Bound.{widest}
use Rattle.src_ast.specs.Meaning.{scope_of, procs_of}
use Rattle.seq_run.specs.Resolved.{ResolvedProgram}
use Rattle.seq_run.specs.Resolving as resolving
use Rattle.seq_run.specs.InRange.{ProgramIn}
use Rattle.cfg_core.specs.Graph.{Graph, GraphArray}
use Rattle.cfg_core.specs.Walk.{Ends, Goes}
use Rattle.cfg_core.specs.Rules.{IsGraph}
use Rattle.cfg_core.specs.Weights.{TwoBlocksATurn, TurnsPayWork}
use Rattle.cfg_core.specs.Shown.{has_name, NoneHidden, ShowsAll, StaysInside}
use Rattle.cfg_build.specs.Lowered.{begun, procs, lowered}
use Rattle.cfg_build.specs.Keeps.{KeepsRun, ShowsRun, arrays_of, Room, rooms_of, rooms_in, IsFirstForm}
use Rattle.cfg_core.specs.Shape.{IsShaped}
use Rattle.cfg_build.specs.Sizes.{IsSized, IsSmall}
use Rattle.cfg_build.proofs.Heights.{two_blocks_a_turn}
use Rattle.cfg_build.proofs.FewArrays.{few_arrays}
use Rattle.cfg_build.proofs.FewTurns.{few_statements}
use Rattle.cfg_build.proofs.Sized.{turns_pay_work, is_sized, is_small}
use Rattle.cfg_build.proofs.Kept.{TurnsNeverGrow, NamesArePlaces, lowered_keeps_run}
use Rattle.cfg_build.proofs.Rules.{is_graph}
use Rattle.cfg_build.proofs.Shaped.{is_shaped, is_first_form}

arrays_are : (parts : List Part) → (lowered (resolving.program parts)).arrays ≡ arrays_of parts
arrays_are [] = refl
arrays_are (Array name size at ∷ parts) = grind (arith, arrays_are parts)
arrays_are (Proc p ∷ parts) = arrays_are parts

none_hidden : (parts : List Part) → AllByRecursion (λ a. has_name a ≡ true) (arrays_of parts)
none_hidden [] = tt
none_hidden (Array name size at ∷ parts) = (refl, none_hidden parts)
none_hidden (Proc p ∷ parts) = none_hidden parts

rooms_are : (arrays names : List Name) (ps : List Procedure) (c : ℕ)
    → rooms_in (procs (resolving.procs arrays names ps) c) ≡ rooms_of ps
rooms_are arrays names [] c = refl
rooms_are arrays names (p ∷ ps) c =
    ap (λ (rs : List Room). record { params = length p.params; vars = length p.params + length p.vars } ∷ rs)
    (rooms_are arrays names ps (suc (c + begun (resolving.proc (scope_of arrays names p) p).body)))

-- graphs without hidden arrays show the whole of their walks
abbrev pub ShowsEnds : Type 0
ShowsEnds = (graph : Graph) → IsGraph graph → NoneHidden graph.arrays
    → (world : World) (turns : _) (o : Outside) → Ends graph world turns o → ShowsAll graph o

abbrev pub ShowsGoes : Type 0
ShowsGoes = (graph : Graph) → IsGraph graph → NoneHidden graph.arrays
    → (world : World) (turns : _) (o : Outside) → Goes graph world turns o → ShowsAll graph o

abbrev pub AllStayInside : Type 0
AllStayInside = (graph : Graph) → IsGraph graph → NoneHidden graph.arrays → (world : World)
    → StaysInside graph world

module _ (parts : List Part) (program : ResolvedProgram) (g : Graph)
    (same : program ≡ resolving.program parts) (made : g ≡ lowered program) (fit : ProgramIn program) where
  is_lowered : g ≡ lowered (resolving.program parts)
  is_lowered = made ∙ ap lowered same

  pub run_kept : TurnsNeverGrow → NamesArePlaces → KeepsRun parts g
  run_kept grow places = grind (arith, is_lowered, lowered_keeps_run)

  pub arrays_kept : g.arrays ≡ arrays_of parts
  arrays_kept = ap (λ (h : Graph). h.arrays) is_lowered ∙ arrays_are parts

  pub rooms_kept : rooms_in g.procs ≡ rooms_of (procs_of parts)
  rooms_kept = grind (arith, is_lowered, rooms_are)

  pub rules_kept : IsGraph g
  rules_kept = subst (λ (h : Graph). IsGraph h) (sym made) (is_graph program fit)

  pub form_kept : IsFirstForm g
  form_kept = subst (λ (h : Graph). IsFirstForm h) (sym made) (is_first_form program)

  pub shape_kept : IsShaped g
  shape_kept = subst (λ (h : Graph). IsShaped h) (sym made) (is_shaped program)

  pub turns_kept : TwoBlocksATurn g
  turns_kept = subst (λ (h : Graph). TwoBlocksATurn h) (sym made) (two_blocks_a_turn program)

  pub work_kept : TurnsPayWork g (widest parts)
  work_kept = subst (λ (h : Graph). TurnsPayWork h (widest parts)) (sym is_lowered) (turns_pay_work parts)

  pub size_kept : IsSized (procs_of parts) g
  size_kept = subst (λ (h : Graph). IsSized (procs_of parts) h) (sym is_lowered) (is_sized parts)

  pub small_kept : (finish : Place) → IsAccepted parts finish → IsSmall parts g
  small_kept finish accepted = grind (arith, is_lowered, is_small, arrays_are, few_arrays, few_statements)

  none : NoneHidden g.arrays
  none = subst (λ (xs : List GraphArray). NoneHidden xs) (sym arrays_kept) (none_hidden parts)

  pub all_shown : ShowsEnds → ShowsGoes → ShowsRun g
  all_shown ends goes = record { ends = ends g rules_kept none; goes = goes g rules_kept none }

  pub stays_inside : AllStayInside → (world : World) → StaysInside g world
  stays_inside inside = inside g rules_kept none
