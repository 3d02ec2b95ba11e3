-- The walk of each graph on the way shows the run of the program.
use Rattle.std.proofs.Common.{◌≡◌, Some, List, [], ◌∷◌, refl, sym, ap, ◌∙◌, subst, inl, inr}
use Rattle.ws_words.specs.Outside.{Outside, World}
use Rattle.src_ast.specs.Syntax.{Part, Array, Proc}
use Rattle.cfg_core.specs.Graph.{Graph, GraphArray, Exit, Goto, Branch, Call, Return, Send, Stop, Spot, spots}
use Rattle.cfg_core.specs.Graph.{spot_at, block_at, no_spot}
use Rattle.cfg_core.specs.Shape.{ArmsAlone}
use Rattle.cfg_core.specs.Shown.{shown_arrays, SameShown, SameWalks, SameArrays, StaysInside, ShowsAll}
use Rattle.cfg_build.specs.Keeps.{KeepsRun, ShowsRun, IsFirstForm, IsFirstExit, arrays_of}
use Rattle.phi_conv.specs.Keeps.{SameOrGoto, ExitsKept}
use Rattle.call_gen.specs.Keeps.{NoSend, HasNoSend}
use Rattle.call_gen.proofs.Ruling.Arms.{shaped_alone}
use Rattle.wave_build.specs.Prepared.{Shown, ShowsProgram, Prepared}
use Rattle.cfg_core.proofs.Spots.{each_at}

all_shown : (g : Graph) (o : Outside) → ShowsAll g o → Shown g o o
all_shown g o s = record { acts = s.acts; cells = s.cells; input = refl; left = refl }

pub first_shows : (parts : List Part) (g : Graph) → KeepsRun parts g → ShowsRun g
    → ((world : World) → StaysInside g world) → shown_arrays g.arrays ≡ arrays_of parts → ShowsProgram parts g
first_shows parts g k s i a = record {
  ends = λ w n o p. (let e = k.ends w n o p in (o, e, all_shown g o (s.ends w n o e)));
  ends_only = λ w n o e. (o, k.ends_only w n o e, all_shown g o (s.ends w n o e));
  goes = λ w n o p. (let e = k.goes w n o p in (o, e, all_shown g o (s.goes w n o e)));
  goes_only = λ w n o e. (o, k.goes_only w n o e, all_shown g o (s.goes w n o e));
  inside = i;
  arrays = a;
}

onward : (g h : Graph) (p q o : Outside) → SameShown g h p q → Shown g p o → Shown h q o
onward g h p q o s t = record {
  acts = sym s.acts ∙ t.acts;
  cells = sym s.cells ∙ t.cells;
  input = sym s.input ∙ t.input;
  left = sym s.left ∙ t.left;
}

pub next_shows : (parts : List Part) (g h : Graph) → ShowsProgram parts g → SameWalks g h → SameArrays g h
    → ShowsProgram parts h
next_shows parts g h k w a = record {
  ends = λ world n o p. (let r = k.ends world n o p in let s = w.ends world n r.0 r.1 in
      (s.0, s.1, onward g h r.0 s.0 o s.2 r.2));
  ends_only = λ world n q e. (let s = w.ends_only world n q e in let r = k.ends_only world n s.0 s.1 in
      (r.0, r.1, onward g h s.0 q r.0 s.2 r.2));
  goes = λ world n o p. (let r = k.goes world n o p in let s = w.goes world n r.0 r.1 in
      (s.0, s.1, onward g h r.0 s.0 o s.2 r.2));
  goes_only = λ world n q e. (let s = w.goes_only world n q e in let r = k.goes_only world n s.0 s.1 in
      (r.0, r.1, onward g h s.0 q r.0 s.2 r.2));
  inside = λ world. a.inside world (k.inside world);
  arrays = sym a.shown ∙ k.arrays;
}

-- all arrays of a program are shown
pub program_shown : (parts : List Part) → shown_arrays (arrays_of parts) ≡ arrays_of parts
program_shown [] = refl
program_shown (Array name size at ∷ parts) =
    ap (λ (r : List GraphArray). record { name = Some name.text; length = size } ∷ r) (program_shown parts)
program_shown (Proc p ∷ parts) = program_shown parts

pub first_none : (x : Exit) → IsFirstExit x → NoSend x
first_none (Goto b) f = tt
first_none (Branch t a b) f = tt
first_none (Call r f ts back) i = tt
first_none (Return t) f = tt
first_none (Send t ts ls) f = absurd f
first_none Stop f = tt

pub same_none : (x y : Exit) → SameOrGoto x y → NoSend x → NoSend y
same_none x y (inl e) n = subst NoSend (sym e) n
same_none x y (inr r) n = subst NoSend (sym r.1) tt

-- joining brings no Send
pub joined_none : (g h : Graph) → IsFirstForm g → ExitsKept g h → HasNoSend h
unfolding spot_at no_spot
joined_none g h form kept b = same_none (block_at g b).exit (block_at h b).exit (kept.exits b)
    (first_none (block_at g b).exit (each_at (λ (s : Spot). IsFirstExit s.block.exit) (spots g) no_spot
    form.exits tt b))

pub arms_alone : (parts : List Part) (g : Graph) → Prepared parts g → ArmsAlone g
arms_alone parts g p =
    p.spelling.arms
    (p.keeping.arms (p.begun.joining.arms (shaped_alone p.begun.lowered p.begun.lowering.shape)))

-- the arrays of the lowered graph
pub shown_so : (parts : List Part) (g : Graph) → g.arrays ≡ arrays_of parts
    → shown_arrays g.arrays ≡ arrays_of parts
shown_so parts g e = ap shown_arrays e ∙ program_shown parts
