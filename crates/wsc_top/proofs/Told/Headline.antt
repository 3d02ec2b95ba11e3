-- What the run of an image of a program tells, in the words of the program's own run.
use Rattle.std.specs.Prelude.{◌≡◌, ℕ, suc, true, false, List, [], ◌∷◌, ◌++◌, length, map, Option, Some, None}
use Rattle.std.specs.Prelude.{unwrap_or, refl}
use Rattle.std.proofs.Common.{sym, ap, ◌∙◌, subst, inl, inr, append_assoc, arith}
use Rattle.ws_words.specs.Outside.{Act, Outside, World, printed_words}
use Rattle.ws_words.specs.Past.{IsPast, AreWithin, FirstPast, after_acts}
use Rattle.src_ast.specs.Syntax.{Part, Array, Proc}
use Rattle.src_ast.specs.Meaning.{lengths_of, empty_cells}
use Rattle.src_ast.specs.Runs.{acts_in, opened, Runs, Faults}
use Rattle.ws_isa.specs.Image as isa
use Rattle.ws_isa.specs.Image.{Image, instr_at, no_instr, array_at, cells_of}
use Rattle.ws_isa.specs.declared.instr.Op.{Op}
use Rattle.ws_isa.specs.Formed.{Formed, OpIn}
use Rattle.ws_isa.specs.Shown as image_shown
use Rattle.ws_isa.specs.Walk.{Inst, fires, mem, opening_memory, has_ended}
use Rattle.ws_isa.specs.Operations.{FaultsAt, NoFault}
use Rattle.ws_isa.proofs.There.{all_nth}
use Rattle.df_core.specs.Ends.{FirstWithin}
use Rattle.cfg_core.specs.Graph.{GraphArray}
use Rattle.cfg_core.specs.Shown.{shown_arrays, shown_cells, shown_among, hidden, is_hidden}
use Rattle.cfg_build.specs.Keeps as program
use Rattle.wave_gen.specs.Words.{array_of}
use Rattle.wave_build.specs.Compiled.{in_graph, shown, ShowsArrays, ShowsOutside, WalksAsRun}
use Rattle.seq_run.specs.Laws.{HasAnswer}
use Rattle.seq_run.proofs.FirstPasts.{not_within, one_array, one_before}
use Rattle.seq_run.proofs.OneAnswer.{fronts, some_answer, passed}
use Rattle.df_core.specs.Began.{Began}
use Rattle.port_set.specs.Ports.{Told}
use Rattle.store_buf.specs.Outdoors.{SlotsAre, port_of}
use Rattle.wsc_top.specs.Answers.{DoesWithin, to_end, to_fault, so_far, IsOnPort}
use Rattle.wsc_top.proofs.Told.PortActs.{ports_moved, shown_took, left_shown, port_act, within_next}
use Rattle.wsc_top.specs.Texts.{names_of, name_at, array_name}
use Rattle.run_text.specs.Texts.{shown_names, called, maybe_name}
use Rattle.run_text.specs.Texts.{name_or_number}
use Rattle.wsc_top.proofs.Told.WalkActs.{sizes, HasArray, mem_is, mem_within, acts_next, fault_is_first}
use Rattle.wsc_top.proofs.Told.ShownActs.{lengths, shown_place, shown_within, open_first, shown_first}
use Rattle.wsc_top.proofs.Told.ShownActs.{shown_words, cells_after, left_cells, shown_after}
use Rattle.ws_words.specs.Items.{nth}
use Rattle.wave_build.proofs.CompilingShown.{same_arrays, shown_both}
use Rattle.ws_words.proofs.Acts.{acts_of}

-- arrays of images, of graphs and of programs

same_sizes : (xs : List isa.Array) → sizes xs ≡ lengths (map in_graph xs)
same_sizes [] = refl
same_sizes (x ∷ xs) = ap (λ (ns : List ℕ). x.length ∷ ns) (same_sizes xs)

shown_in_graph : (xs : List isa.Array) → shown_arrays (map in_graph xs) ≡ map in_graph
    (image_shown.shown_arrays xs)
shown_in_graph [] = refl
shown_in_graph (x ∷ xs) = grind (arith, shown_in_graph xs)

cells_in_graph : (xs : List isa.Array) (cells : List (List ℕ)) → image_shown.shown_cells xs cells
    ≡ shown_cells (map in_graph xs) cells
cells_in_graph [] cells = refl
cells_in_graph (x ∷ xs) [] = refl
cells_in_graph (x ∷ xs) (r ∷ cells) = grind (arith, cells_in_graph xs cells)

program_lengths : (parts : List Part) → lengths (program.arrays_of parts) ≡ lengths_of parts
program_lengths [] = refl
program_lengths (Array name size at ∷ parts) = ap (λ (ns : List ℕ). size ∷ ns) (program_lengths parts)
program_lengths (Proc p ∷ parts) = program_lengths parts

abbrev graph_names : List GraphArray → List (List ℕ)
graph_names xs = map (λ x. unwrap_or x.name []) xs

program_names : (parts : List Part) → graph_names (program.arrays_of parts) ≡ names_of parts
program_names [] = refl
program_names (Array name size at ∷ parts) = ap (λ (ns : List (List ℕ)). name.text ∷ ns) (program_names parts)
program_names (Proc p ∷ parts) = program_names parts

image_names : (xs : List GraphArray) → map (λ (a : isa.Array). unwrap_or a.name []) (map array_of xs)
    ≡ graph_names xs
image_names [] = refl
image_names (x ∷ xs) = ap (λ (ns : List (List ℕ)). unwrap_or x.name [] ∷ ns) (image_names xs)

zero_cells : (xs : List isa.Array) → shown_cells (map in_graph xs) (cells_of xs) ≡ empty_cells
    (lengths (shown_arrays (map in_graph xs)))
zero_cells [] = refl
zero_cells (x ∷ xs) = grind (arith, lengths, zero_cells xs)

many_cells : (xs : List isa.Array) → length (cells_of xs) ≡ length (map in_graph xs)
many_cells [] = refl
many_cells (x ∷ xs) = ap suc (many_cells xs)

-- the name of an array of a graph, where there is one
abbrev name_in : Option GraphArray → Option (List ℕ)
name_in None = None
name_in (Some x) = x.name

abbrev text_in : Option GraphArray → List ℕ
text_in None = []
text_in (Some x) = unwrap_or x.name []

name_there : (xs : List isa.Array) (k : ℕ) → maybe_name xs k ≡ name_in (nth (map in_graph xs) k)
name_there (x ∷ xs) (suc k) = name_there xs k
name_there xs k = refl

text_there : (xs : List GraphArray) (k : ℕ) → name_at (graph_names xs) k ≡ text_in (nth xs k)
text_there (x ∷ xs) (suc k) = text_there xs k
text_there xs k = refl

open_name : (x : Option GraphArray) (array : ℕ) → hidden x ≡ false → name_or_number (name_in x) array
    ≡ text_in x
open_name None array h = absurd (cc)
open_name (Some x) array h = grind arith

has_array : (image : Image) (op : Op) → OpIn image op → HasArray op
has_array image op h = grind arith

op_in : (image : Image) → Formed image → (k : ℕ) → OpIn image (instr_at image k).op
unfolding instr_at no_instr
op_in image f k = grind (arith, all_nth)

-- what follows the first act past an end doesn't matter
first_more : (ls : List ℕ) (acts more before : List Act) (array : ℕ) → FirstPast ls acts before array
    → FirstPast ls (acts ++ more) before array
first_more ls acts more before array f = grind (arith, append_assoc)

-- acts that are within stand before the first that is past
within_before : (ls : List ℕ) (act : Act) (after : List Act) (array : ℕ) → IsPast ls array act
    → (acts more before : List Act) → AreWithin ls acts
    → acts ++ more ≡ before ++ act ∷ after → (rest : List Act) × (before ≡ acts ++ rest)
within_before ls act after array past (x ∷ acts) more (b ∷ before) w e =
    let r = within_before ls act after array past acts more before w.1 cc in
    let same : b ≡ x = cc in
    (r.0, ap (λ (y : Act). y ∷ before) same ∙ ap (λ (ys : List Act). x ∷ ys) r.1)
within_before ls act after array past acts more before w e = grind (arith, not_within)

module _ (parts : List Part) (image : Image) (world : World) (formed : Formed image)
    (arrays : ShowsArrays parts image) (walks : WalksAsRun parts image world) where
  abbrev G : List GraphArray
  G = map in_graph image.arrays

  shown_are : shown_arrays G ≡ program.arrays_of parts
  shown_are = shown_in_graph image.arrays ∙ ap (map in_graph) arrays ∙ same_arrays (program.arrays_of parts)

  shown_lengths : lengths (shown_arrays G) ≡ lengths_of parts
  shown_lengths = ap lengths shown_are ∙ program_lengths parts

  -- the names of the shown arrays are the program's
  pub same_names : shown_names image.arrays ≡ names_of parts
  same_names = grind (arith, image_names, program_names)

  called_so : (array : ℕ) → is_hidden G array ≡ false → called image.arrays array ≡ array_name
      (names_of parts) (shown_among array G)
  called_so array h = grind (arith, name_there, open_name, shown_place, text_there, shown_are, program_names)

  within_shown : (acts : List Act) → AreWithin (sizes image.arrays) acts
      → AreWithin (lengths_of parts) (shown image acts)
  within_shown acts h = subst (λ ls. AreWithin ls (shown image acts)) shown_lengths
      (shown_within G acts (subst (λ ls. AreWithin ls acts) (same_sizes image.arrays) h))

  -- what the sequential run leaves where the walk has ended without a fault
  pub record EndTold (t : ℕ) (printed : List ℕ) (cells : List (List ℕ)) : Type 0 where
    pub turns : ℕ
    pub end : Outside
    pub runs : Runs parts world turns end
    pub words : printed ≡ printed_words end.acts
    pub rows : image_shown.shown_cells image.arrays cells ≡ end.cells
    pub shows : ShowsOutside image (mem image world t) end

  pub end_told : (t : ℕ) → NoFault image world → has_ended image world t ≡ true
      → (printed : List ℕ) (cells : List (List ℕ)) → printed ≡ printed_words (mem image world t).acts
      → cells ≡ (mem image world t).cells → EndTold t printed cells
  end_told t none ended printed cells p q = grind (arith, within_shown, mem_within, shown_words)

  -- the ports are where the run leaves them that is shown
  pub end_ports : (began : List (Option Began)) (back : List (Option Told)) (t : ℕ) (end : Outside)
      → ShowsOutside image (mem image world t) end → SlotsAre began (mem image world t) back
      → SlotsAre began end back
  end_ports began back t end shows h = grind (arith, ports_moved, shown_took)

  -- and where the acts leave them that are shown
  pub act_ports : (began : List (Option Began)) (back : List (Option Told)) (t : ℕ)
      → SlotsAre began (mem image world t) back
      → SlotsAre began (after_acts (opened parts world) (shown image (mem image world t).acts)) back
  unfolding opening_memory
  act_ports began back t h = grind (arith, ports_moved, mem_is, left_shown, shown_took, acts_of)

  -- what the first steps of the walk do, up to a fault, the sequential run does first
  pub record FrontTold (t : ℕ) : Type 0 where
    pub turns : ℕ
    pub more : List Act
    pub does : DoesWithin parts world turns (shown image (mem image world t).acts ++ more)

  module _ (t : ℕ) (first : FirstWithin image world t) where
    abbrev seen : List Act
    seen = shown image (mem image world t).acts

    seen_within : AreWithin (lengths_of parts) seen
    seen_within = within_shown (mem image world t).acts (mem_within image world t first)

    abbrev till : ℕ
    till = (walks.goes_only t).0

    abbrev behind : List Act
    behind = (walks.goes_only t).1.0

    till_acts : acts_in parts world till ≡ seen ++ behind
    till_acts = (walks.goes_only t).1.1

    told_front : (acts more : List Act) → acts ≡ seen ++ more → DoesWithin parts world till acts → FrontTold t
    told_front acts more e does = grind arith

    front_by : HasAnswer parts world till → FrontTold t
    front_by (inl e) = let r = passed parts world e.taken e.end e.runs.passes till e.within in
        told_front e.end.acts behind (grind (arith, till_acts)) (to_end e.taken e.end e.within e.runs)
    front_by (inr (inr g)) = told_front g.now.acts behind (grind (arith, till_acts)) (so_far g.now g.goes)
    front_by (inr (inl f)) =
        let b = fronts parts world f.turn till f.within in
        let there : FirstPast (lengths_of parts) (acts_in parts world till) f.state.acts f.array =
        grind (arith, first_more) in
        let r = within_before (lengths_of parts) there.act there.after f.array there.past seen behind
        f.state.acts seen_within (sym till_acts ∙ there.split) in
        told_front f.state.acts r.0 r.1 (to_fault f.turn f.array f.state f.within f.faults)

    pub front_told : FrontTold t
    front_told = front_by (some_answer parts world till)

  -- the words are those that the acts print that are shown
  pub front_words : (t : ℕ) → printed_words (shown image (mem image world t).acts) ≡ printed_words
      (mem image world t).acts
  front_words t = shown_words G (mem image world t).acts

  -- where a step is an operation on a port, the sequential run does that next
  pub record FailTold (t port : ℕ) : Type 0 where
    pub turns : ℕ
    pub act : Act
    pub more : List Act
    pub does : DoesWithin parts world turns (shown image (mem image world t).acts ++ act ∷ more)
    pub on : IsOnPort port act

  pub fail_told : (t port : ℕ) (x : Inst) → fires image world t ≡ Some x
      → port_of (instr_at image x.instr).op ≡ Some port → FirstWithin image world t → FailTold t port
  fail_told t port x e is first =
      let p = port_act (instr_at image x.instr).op x.operands port is in
      let r = front_told (suc t) (within_next image world t port x e is first) in
      let next : shown image (mem image world (suc t)).acts ≡ shown image (mem image world t).acts ++ p.act ∷
      [] = ap (shown image) (grind (arith, acts_next)) ∙ shown_both G (mem image world t).acts (p.act ∷ []) ∙
      ap (λ (xs : List Act). shown image (mem image world t).acts ++ xs) (p.shown G) in
      grind (arith, append_assoc)

  -- what the sequential run leaves before its first index fault, where the walk has met one
  pub record FaultTold (t array : ℕ) (printed : List ℕ) (cells : List (List ℕ)) : Type 0 where
    pub turn : ℕ
    pub place : ℕ
    pub state : Outside
    pub faults : Faults parts world turn place state
    pub name : called image.arrays array ≡ array_name (names_of parts) place
    pub words : printed ≡ printed_words state.acts
    pub rows : image_shown.shown_cells image.arrays cells ≡ state.cells
    pub ports : (began : List (Option Began)) (back : List (Option Told))
        → SlotsAre began (mem image world t) back → SlotsAre began state back

  module _ (t : ℕ) (fault : FaultsAt image world t) where
    abbrev on : ℕ
    on = array_at image fault.inst.instr

    first : FirstPast (lengths G) (mem image world (suc t)).acts (mem image world t).acts on
    first = subst (λ ls. FirstPast ls (mem image world (suc t)).acts (mem image world t).acts on) (same_sizes
        image.arrays) (fault_is_first image world t fault (grind (arith, has_array, op_in)))

    shown_fault : FirstPast (lengths_of parts) (shown image (mem image world (suc t)).acts)
        (shown image (mem image world t).acts) (shown_among on G)
    shown_fault = subst (λ ls. FirstPast ls (shown image (mem image world (suc t)).acts) (shown image (mem
        image world t).acts) (shown_among on G)) shown_lengths (grind (arith, shown_first, first))

    abbrev turns : ℕ
    turns = (walks.goes_only (suc t)).0

    run_fault : FirstPast (lengths_of parts) (acts_in parts world turns)
        (shown image (mem image world t).acts) (shown_among on G)
    run_fault = let g = (walks.goes_only (suc t)).1 in grind (arith, first_more, shown_fault)

    cells_here : (mem image world t).cells ≡ cells_after (cells_of image.arrays) (mem image world t).acts
    unfolding opening_memory
    cells_here = grind (arith, mem_is, left_cells)

    rows_left : (state : Outside) → state.acts ≡ shown image (mem image world t).acts
        → state ≡ after_acts (opened parts world) state.acts
        → image_shown.shown_cells image.arrays (mem image world t).cells ≡ state.cells
    rows_left state e left = cells_in_graph image.arrays (mem image world t).cells ∙ ap (shown_cells G)
        cells_here ∙ sym (shown_after G (mem image world t).acts (cells_of image.arrays) (many_cells
        image.arrays)) ∙ ap (λ (z : List (List ℕ)). cells_after z (shown image (mem image world t).acts))
        (zero_cells image.arrays ∙ ap empty_cells shown_lengths) ∙ ap (cells_after (empty_cells (lengths_of
        parts))) (sym e) ∙ sym (left_cells (opened parts world) state.acts) ∙ sym (ap (λ (o : Outside).
        o.cells) left)

    told : (array : ℕ) (printed : List ℕ) (cells : List (List ℕ)) → array ≡ on
        → printed ≡ printed_words (mem image world t).acts → cells ≡ (mem image world t).cells
        → HasAnswer parts world turns → FaultTold t array printed cells
    told array printed cells a p q (inl e) =
        let r = passed parts world e.taken e.end e.runs.passes turns e.within in
        absurd (not_within (lengths_of parts) (acts_in parts world turns) (shown image (mem image world
        t).acts) (shown_among on G) run_fault (grind arith))
    told array printed cells a p q (inr (inr g)) = absurd (not_within (lengths_of parts) (acts_in parts world
        turns) (shown image (mem image world t).acts) (shown_among on G) run_fault (grind arith))
    told array printed cells a p q (inr (inl f)) =
        let b = fronts parts world f.turn turns f.within in
        let there : FirstPast (lengths_of parts) (acts_in parts world turns) f.state.acts f.array =
        grind (arith, first_more) in
        let same : f.state.acts ≡ shown image (mem image world t).acts =
        one_before (lengths_of parts) (acts_in parts world turns) f.state.acts
        (shown image (mem image world t).acts) f.array (shown_among on G) there run_fault in
        let number : f.array ≡ shown_among on G = one_array (lengths_of parts) (acts_in parts world turns)
        f.state.acts (shown image (mem image world t).acts) f.array (shown_among on G) there run_fault in
        record {
          turn = f.turn;
          place = f.array;
          state = f.state;
          faults = f.faults;
          name = ap (called image.arrays) a ∙ called_so on (open_first G (mem image world (suc t)).acts (mem
              image world t).acts on first (walks.inside (suc t))) ∙ ap (array_name (names_of parts)) (sym
              number);
          words = grind (arith, shown_words);
          rows = grind (arith, rows_left);
          ports = grind (arith, act_ports);
        }

    pub fault_told : (array : ℕ) (printed : List ℕ) (cells : List (List ℕ)) → array ≡ on
        → printed ≡ printed_words (mem image world t).acts → cells ≡ (mem image world t).cells
        → FaultTold t array printed cells
    fault_told array printed cells a p q = told array printed cells a p q (some_answer parts world turns)
