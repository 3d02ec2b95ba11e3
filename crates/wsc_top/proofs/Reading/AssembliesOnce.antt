-- What the text of an assembly comes to, and the answers to it.
use Rattle.std.specs.Prelude.{◌≡◌, ℕ, ◌+◌, ◌-◌, ◌<◌, ◌≤◌, ◌⊎◌, true, false, List, [], ◌++◌, length, Option}
use Rattle.std.specs.Prelude.{None, Ok, refl}
use Rattle.std.proofs.Common.{sym, ap, ◌∙◌, inl, inr, arith, append-nil, length-append}
use Rattle.std.proofs.lemmas.Bool.{cases_lt}
use Rattle.std.proofs.lemmas.List.{nil_from_length}
use Rattle.ws_words.specs.Outside.{Outside, World, printed_words}
use Rattle.src_ast.specs.Once.{ExactlyOne}
use Rattle.ws_isa.specs.Image.{Image}
use Rattle.ws_isa.specs.Walk.{Inst, mem, walk}
use Rattle.ws_isa.specs.Operations.{operations, ops, effect_of, Effect, FaultsAt, NoFault}
use Rattle.ws_isa.specs.Formed.{Formed}
use Rattle.ws_isa.specs.Sound.{Sound}
use Rattle.grid_clock.specs.declared.run.Clocked.{Clocked}
use Rattle.grid_clock.specs.Schedule.{Grid as Grids}
use Rattle.grid_clock.specs.Clocks.{Clocks}
use Rattle.asm_read.specs.Reads.{world_of}
use Rattle.wsc_top.specs.Clocked.{IsClocked, grid_of}
use Rattle.asm_text.specs.Reading.{read}
use Rattle.list_out.specs.Listing.{listing}
use Rattle.wsc_top.specs.declared.task.AssemblyTask.{AssemblyTask}
use Rattle.wsc_top.specs.declared.task.AssemblyTask.TheVariants.{Check, List as Listing, Grid}
use Rattle.wsc_top.specs.declared.task.GridOptions.{GridOptions}
use Rattle.wsc_top.specs.declared.task.RunOptions.{RunOptions}
use Rattle.wsc_top.specs.declared.status.Status.{Status}
use Rattle.wsc_top.specs.declared.status.Status.TheVariants.{Done, Refused, Budget}
use Rattle.port_set.specs.Ports.{Told}
use Rattle.store_buf.specs.Outdoors.{world_with}
use Rattle.wsc_top.specs.Texts.{sound_text}
use Rattle.asm_read.specs.Sections.{program_of}
use Rattle.asm_read.specs.Assembly.{IsAssembly, assembly}
use Rattle.wsc_top.specs.Executions.{Executes, rested, spent, stopped, failed, IsFailed}
use Rattle.wsc_top.specs.Answers.{assembly_text, AssemblyYields, checked, listed, executed, gridded}
use Rattle.wsc_top.specs.Answers.{AssemblyAnswered, IsSettled, IsAssemblyReply}
use Rattle.wsc_top.specs.Answers as answers
use Rattle.asm_read.proofs.Once.{BreachesBreak, one_assembly, never_both}
use Rattle.wsc_top.proofs.Reading.AnswersOnce.{Reply, same_reply}
use Rattle.df_core.proofs.Parts.Issuing.{printed_alike}
use Rattle.ws_words.proofs.Numbers.{three_ways}

-- runs of one image

-- what is known of walks
pub record WalksOnce : Type 0 where
  pub instances : (image : Image) (world : World) (d t : ℕ) → (more : List Inst)
      × (walk image world (d + t) ≡ walk image world t ++ more)
  pub effects : (image : Image) (world : World) (p : ℕ) (one other : Outside) → Effect image world p one
      → Effect image world p other → one ≡ other

pub either_way : (t u : ℕ) → (t ≤ u) ⊎ (u ≤ t)
either_way t u = grind (arith, cases_lt)

module _ (known : WalksOnce) (image : Image) (world : World) where
  walk_up : (t u : ℕ) → t ≤ u → length (walk image world t) ≡ length (walk image world u)
      → walk image world u ≡ walk image world t
  walk_up t u le same =
      let more = known.instances image world (u - t) t in
      let here : walk image world u ≡ walk image world t ++ more.0 = grind arith in
      let none : more.0 ≡ [] = grind (arith, nil_from_length, length-append) in
      here ∙ ap (λ xs. walk image world t ++ xs) none ∙ append-nil (walk image world t)

  pub one_walk : (t u : ℕ) → (t ≤ u) ⊎ (u ≤ t) → length (walk image world t) ≡ length (walk image world u)
      → walk image world t ≡ walk image world u
  one_walk t u x same = grind (arith, walk_up)

  ops_same : (t u : ℕ) → walk image world t ≡ walk image world u → length (ops image world u)
      ≡ length (ops image world t)
  unfolding ops
  ops_same t u e = ap (λ xs. length (operations image xs)) (sym e)

  pub one_effect : (t u : ℕ) → walk image world t ≡ walk image world u → effect_of (mem image world t)
      ≡ effect_of (mem image world u)
  one_effect t u e = known.effects image world (length (ops image world t)) (effect_of (mem image world t))
      (effect_of (mem image world u)) (grind arith) (grind (arith, ops_same))

  pub one_print : (t u : ℕ) → effect_of (mem image world t) ≡ effect_of (mem image world u)
      → printed_words (mem image world t).acts ≡ printed_words (mem image world u).acts
  one_print t u e = grind (arith, printed_alike)

  pub one_cells : (t u : ℕ) → effect_of (mem image world t) ≡ effect_of (mem image world u)
      → (mem image world t).cells ≡ (mem image world u).cells
  one_cells t u e = ap (λ (o : Outside). o.cells) e

  no_earlier : (t u : ℕ) → FaultsAt image world t → FaultsAt image world u → t < u → ⊥
  no_earlier t u f g lt = let two : true ≡ false = sym f.is_past ∙ g.first t f.inst lt f.fired in cc

  pub one_time : (t u : ℕ) → FaultsAt image world t → FaultsAt image world u → t ≡ u
  one_time t u f g = grind (arith, three_ways, no_earlier)

  pub one_inst : (t u : ℕ) (f : FaultsAt image world t) (g : FaultsAt image world u) → t ≡ u → f.inst ≡ g.inst
  one_inst t u f g e = grind arith

  pub no_fault_here : (t : ℕ) → NoFault image world → FaultsAt image world t → ⊥
  no_fault_here t none f = let two : true ≡ false = sym f.is_past ∙ none t f.inst f.fired in cc

  module _ (options : RunOptions) (handed : List (Option Told)) where
    execs_alike : (s v : Status) (out more : List ℕ) (back other : List (Option Told))
        → Executes options image world handed s out back → Executes options image world handed v more other
        → (s ≡ Budget → ⊥) → (v ≡ Budget → ⊥) → (IsFailed s → ⊥) → (IsFailed v → ⊥)
        → ◌≡◌ {A = Reply} (s, out) (v, more)
    execs_alike s v out more back other (rested t none cost within ports) (rested u clean whole fits ends) a b
        c d = grind (arith, one_walk, either_way, one_effect, same_reply, one_print, one_cells)
    execs_alike s v out more back other (rested t none cost within ports) (stopped u fault ends) a b c d =
        absurd (no_fault_here u none fault)
    execs_alike s v out more back other (rested t none cost within ports) (spent u h ends) a b c d =
        absurd (b refl)
    execs_alike s v out more back other (rested t none cost within ports)
        (failed u port x e on clean rose ends) a b c d = absurd (d (port, refl))
    execs_alike s v out more back other (stopped t fault ports) (rested u none cost fits ends) a b c d =
        absurd (no_fault_here t none fault)
    execs_alike s v out more back other (stopped t fault ports) (stopped u again ends) a b c d =
        grind (arith, one_time, same_reply, one_inst)
    execs_alike s v out more back other (stopped t fault ports) (spent u h ends) a b c d = absurd (b refl)
    execs_alike s v out more back other (stopped t fault ports) (failed u port x e on clean rose ends) a b c
        d = absurd (d (port, refl))
    execs_alike s v out more back other (spent t h ports) x a b c d = absurd (a refl)
    execs_alike s v out more back other (failed t port x e on clean rose ports) y a b c d = grind arith

-- runs on grids are one
abbrev pub ClocksOnce : Type 0
ClocksOnce = (grid : Grids) (world : World) → Formed grid.image → Sound grid.image → (one other : Clocked)
    → Clocks grid world one → Clocks grid world other → one ≡ other

abbrev pub ReadsFormed : Type 0
ReadsFormed = (text : List ℕ) (image : Image) → read text ≡ Ok image → Formed image

clocked_alike : ClocksOnce → (options : GridOptions) (image : Image) → Formed image → Sound image
    → (words : List ℕ) (s v : Status) (out more : List ℕ)
    → IsClocked options image words s out → IsClocked options image words v more
    → ◌≡◌ {A = Reply} (s, out) (v, more)
clocked_alike clocks options image formed sound words s v out more a b =
    let same = clocks (grid_of options image) (world_of words) formed sound a.run b.run a.clocks b.clocks in
    grind (arith, same_reply)

-- what comes of a task to one image
yields_alike : WalksOnce → ClocksOnce → (task : AssemblyTask) → IsSettled task
    → (text : List ℕ) (image : Image) → Formed image → Sound image
    → (words : List ℕ) (handed : List (Option Told)) (s v : Status) (out more : List ℕ)
    (one two : Option Image) (back other : List (Option Told)) → AssemblyYields task text image words handed s
    out one back → AssemblyYields task text image words handed v more two other
    → (s ≡ Budget → ⊥) → (v ≡ Budget → ⊥) → (IsFailed s → ⊥) → (IsFailed v → ⊥)
    → ◌≡◌ {A = Reply} (s, out) (v, more)
yields_alike known clocks task k text image formed sound words handed s v out more one two back other checked
    checked a b c d = refl
yields_alike known clocks task k text image formed sound words handed s v out more one two back other listed
    listed a b c d = refl
yields_alike known clocks task k text image formed sound words handed s v out more one two back other
    (executed {options} x) (executed y) a b c d =
    execs_alike known image (world_with words handed) options handed s v out more back other x y a b c d
yields_alike known clocks task k text image formed sound words handed s v out more one two back other
    (gridded {options} x f) (gridded y g) a b c d =
    clocked_alike clocks options image formed sound words s v out more x y
yields_alike known clocks task k text image formed sound words handed s v out more one two back other x y a b
    c d = absurd k

-- two answers to a text that aren't cut short are one, or both say that it is refused
pub assembly_alike : BreachesBreak → WalksOnce → ClocksOnce → ReadsFormed → (task : AssemblyTask)
    → IsSettled task → (text : List ℕ) (handed : List (Option Told)) (s v : Status) (out more : List ℕ)
    (one two : Option Image) (back other : List (Option Told)) → AssemblyAnswered task text handed s out one
    back → AssemblyAnswered task text handed v more two other
    → (s ≡ Budget → ⊥) → (v ≡ Budget → ⊥) → (IsFailed s → ⊥) → (IsFailed v → ⊥)
    → (◌≡◌ {A = Reply} (s, out) (v, more)) ⊎ ((s ≡ Refused) × (v ≡ Refused))
assembly_alike breaks known clocks formed task k text handed s v out more one two back other
    (answers.AssemblyAnswered.refused q h) (answers.AssemblyAnswered.refused r i) a b c d = inr (refl, refl)
assembly_alike breaks known clocks formed task k text handed s v out more one two back other
    (answers.AssemblyAnswered.refused q h) (answers.AssemblyAnswered.done image words j y) a b c d =
    absurd (never_both (assembly_text task text) breaks image words q j h)
assembly_alike breaks known clocks formed task k text handed s v out more one two back other
    (answers.AssemblyAnswered.done image words j y) (answers.AssemblyAnswered.refused r i) a b c d =
    absurd (never_both (assembly_text task text) breaks image words r j i)
assembly_alike breaks known clocks formed task k text handed s v out more one two back other
    (answers.AssemblyAnswered.done image words j y) (answers.AssemblyAnswered.done again others i z) a b c d =
    let same = one_assembly (assembly_text task text) image again words others j i in
    inl (yields_alike known clocks task k text again (formed (program_of (assembly_text task text)) again
    i.reads) i.sound others handed s v out more one two back other (grind arith) z a b c d)

-- `check` and `list` have one answer to a sound assembly
check_done : (text : List ℕ) (image : Image) (words : List ℕ) (handed : List (Option Told)) (s : Status)
    (out : List ℕ) (one : Option Image) (back : List (Option Told))
    → AssemblyYields Check text image words handed s out one back
    → ◌≡◌ {A = Reply} (s, out) (Done, sound_text)
check_done text image words handed s out one back checked = refl

list_done : (text : List ℕ) (image : Image) (words : List ℕ) (handed : List (Option Told)) (s : Status)
    (out : List ℕ) (one : Option Image) (back : List (Option Told))
    → AssemblyYields Listing text image words handed s out one back
    → ◌≡◌ {A = Reply} (s, out) (Done, listing image)
list_done text image words handed s out one back listed = refl

module _ (breaks : BreachesBreak) (text : List ℕ) (image : Image) (words : List ℕ)
    (handed : List (Option Told)) (is : IsAssembly text image words) where
  pub checked_once : ExactlyOne (IsAssemblyReply Check text handed)
  checked_once = record {
    answer = (Done, sound_text);
    holds = (None, handed, answers.AssemblyAnswered.done image words is checked);
    only = λ other h. only other.0 other.1 h.0 h.1 h.2;
  }
    where
      only : (s : Status) (out : List ℕ) (one : Option Image) (back : List (Option Told))
          → AssemblyAnswered Check text handed s out one back → ◌≡◌ {A = Reply} (s, out) (Done, sound_text)
      only s out one back (answers.AssemblyAnswered.refused r h) =
          absurd (never_both text breaks image words r is h)
      only s out one back (answers.AssemblyAnswered.done again more j y) = grind (arith, check_done)

  pub listed_once : ExactlyOne (IsAssemblyReply Listing text handed)
  listed_once = record {
    answer = (Done, listing image);
    holds = (None, handed, answers.AssemblyAnswered.done image words is listed);
    only = λ other h. only other.0 other.1 h.0 h.1 h.2;
  }
    where
      only : (s : Status) (out : List ℕ) (one : Option Image) (back : List (Option Told))
          → AssemblyAnswered Listing text handed s out one back
          → ◌≡◌ {A = Reply} (s, out) (Done, listing image)
      only s out one back (answers.AssemblyAnswered.refused r h) =
          absurd (never_both text breaks image words r is h)
      only s out one back (answers.AssemblyAnswered.done again more j y) =
          grind (arith, list_done, one_assembly)

  clocked_image : (options : GridOptions) (s : Status) (out : List ℕ) (again : Image) (more : List ℕ)
      (one : Option Image) (back : List (Option Told)) → IsAssembly text again more
      → AssemblyYields (Grid options) text again more handed s out one back
      → IsClocked options image words s out
  clocked_image options s out again more one back j (gridded x f) =
      grind (arith, one_assembly text again image more words j is)

  pub gridded_alike : ClocksOnce → ReadsFormed → (options : GridOptions) (s v : Status) (out more : List ℕ)
      (one two : Option Image) (back other : List (Option Told))
      → AssemblyAnswered (Grid options) text handed s out one back → AssemblyAnswered (Grid options) text
      handed v more two other → ◌≡◌ {A = Reply} (s, out) (v, more)
  gridded_alike clocks formed options s v out more one two back other (answers.AssemblyAnswered.refused r h)
      b = absurd (never_both text breaks image words r is h)
  gridded_alike clocks formed options s v out more one two back other (answers.AssemblyAnswered.done x xs j y)
      (answers.AssemblyAnswered.refused r h) = absurd (never_both text breaks image words r is h)
  gridded_alike clocks formed options s v out more one two back other (answers.AssemblyAnswered.done x xs j y)
      (answers.AssemblyAnswered.done z zs k w) =
      clocked_alike clocks options image (formed (program_of text) image is.reads) is.sound words s v out more
      (clocked_image options s out x xs one back j y) (clocked_image options v more z zs two other k w)
