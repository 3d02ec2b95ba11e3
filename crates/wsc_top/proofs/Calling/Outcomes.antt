-- What comes of the commands.
use Rattle.std.specs.Prelude.{◌≡◌, ℕ, zero, suc, ◌⊎◌, List, [], ◌∷◌, ◌++◌, Option, Some, None}
use Rattle.std.proofs.Common.{sym, ◌∙◌, subst, arith}
use Rattle.ws_words.specs.Outside.{World, printed_words}
use Rattle.ws_words.specs.declared.plain.Plain.{Plain as Reply}
use Rattle.ws_words.specs.declared.plain.Plain.TheVariants as replies
use Rattle.src_ast.specs.Syntax.{Part}
use Rattle.src_ast.specs.Written.{ReadsTheSame}
use Rattle.src_ast.specs.Printed.{printed_form}
use Rattle.ws_isa.specs.Image.{Image}
use Rattle.asm_text.specs.Printed.{printed}
use Rattle.seq_run.specs.Answer.{HasEnded, HasFaulted, IsGoing}
use Rattle.wsc_top.specs.declared.task.JobTask.TheVariants.{Format, Compile, Plain}
use Rattle.wsc_top.specs.declared.task.PlainOptions.{PlainOptions}
use Rattle.list_out.specs.Listing.{listing}
use Rattle.wsc_top.specs.declared.status.Status.{Status}
use Rattle.wsc_top.specs.declared.status.Status.TheVariants.{Done, Budget, Fault}
use Rattle.wsc_top.specs.declared.task.AssemblyTask.{AssemblyTask}
use Rattle.wsc_top.specs.declared.task.AssemblyTask.TheVariants.{Check, List as Listing, Trace, Replay, Grid}
use Rattle.wsc_top.specs.Executions.{EndsRun}
use Rattle.wsc_top.specs.Traced.{IsTraced, IsReplayed, EndsReplay}
use Rattle.wsc_top.specs.Clocked.{IsClocked}
use Rattle.wsc_top.specs.declared.task.GridOptions.{GridOptions}
use Rattle.wsc_top.specs.Texts.{sound_text, going_text, turns_line, names_of}
use Rattle.run_text.specs.Texts.{ended_text, faulted_text}
use Rattle.wsc_top.specs.Texts.{array_name}
use Rattle.asm_read.specs.Reads.{world_of}
use Rattle.port_set.specs.Ports.{Told}
use Rattle.wsc_top.specs.Answers.{Yields, formatted, compiled, ended, faulted, going}
use Rattle.wave_build.specs.Compiled.{IsCompiled}
use Rattle.wsc_top.specs.Answers.{AssemblyYields, checked, listed, traced, replayed, gridded}

pub format_yields : (parts : List Part) (out : List ℕ) → ReadsTheSame parts → out ≡ printed_form parts
    → (ws : List ℕ) (handed : List (Option Told)) → Yields Format parts ws handed Done out None handed
format_yields parts out r e ws handed = subst (λ o. Yields Format parts ws handed Done o None handed) (sym e)
    (formatted r)

-- the text of an image of the program
pub compile_yields : (parts : List Part) (image : Image) (out : List ℕ) → IsCompiled parts image
    → out ≡ printed image
    → (ws : List ℕ) (handed : List (Option Told)) → Yields Compile parts ws handed Done out (Some image)
    handed
compile_yields parts image out h e ws handed =
    subst (λ o. Yields Compile parts ws handed Done o (Some image) handed) (sym e) (compiled image h)

-- how the sequential run of a program answers
abbrev Says : List Part → World → ℕ → Reply → Type 0
Says parts world most plain = HasEnded parts world most plain
    ⊎ (HasFaulted parts world most plain ⊎ IsGoing parts world most plain)

-- where the answer says that the run ended, it did, in time
ended_run : (parts : List Part) (world : World) (most : ℕ) (printed : List ℕ) (arrays took : List (List ℕ))
    (turns : ℕ)
    → Says parts world most (replies.Ended printed arrays took turns)
    → HasEnded parts world most (replies.Ended printed arrays took turns)
ended_run parts world most printed arrays took turns x = grind arith

-- where it says that the run met an index fault, it did, in time
faulted_run : (parts : List Part) (world : World) (most array : ℕ) (printed : List ℕ)
    (arrays took : List (List ℕ)) (turns : ℕ)
    → Says parts world most (replies.Fault array printed arrays took turns)
    → HasFaulted parts world most (replies.Fault array printed arrays took turns)
faulted_run parts world most array printed arrays took turns x = grind arith

-- where it says that the run goes on, it does
going_run : (parts : List Part) (world : World) (most : ℕ) (printed : List ℕ)
    → Says parts world most (replies.Going printed) → IsGoing parts world most (replies.Going printed)
going_run parts world most printed x = grind arith

-- the text of a run that ended
pub ended_yields : (options : PlainOptions) (parts : List Part) (input : List ℕ) (world : World)
    (printed : List ℕ) (arrays took : List (List ℕ)) (turns : ℕ) (out : List ℕ) (handed : List (Option Told))
    → world ≡ world_of input → Says parts world options.turns (replies.Ended printed arrays took turns)
    → out ≡ ended_text options.memory options.stats (names_of parts) printed arrays (turns_line turns)
    → Yields (Plain options) parts input handed Done out None handed
ended_yields options parts input world printed arrays took turns out handed w r e =
    let h = ended_run parts world options.turns printed arrays took turns r in
    let text : ended_text options.memory options.stats (names_of parts) printed arrays (turns_line turns) ≡
    ended_text options.memory options.stats (names_of parts) (printed_words h.end.acts) h.end.cells
    (turns_line h.taken) = grind arith in
    subst (λ o. Yields (Plain options) parts input handed Done o None handed) (sym (e ∙ text)) (ended h.taken
    h.end (grind arith) h.within)

-- the text of a run that met an index fault
pub faulted_yields : (options : PlainOptions) (parts : List Part) (input : List ℕ) (world : World) (array : ℕ)
    (printed : List ℕ) (arrays took : List (List ℕ)) (turns : ℕ) (out : List ℕ) (handed : List (Option Told))
    → world ≡ world_of input → Says parts world options.turns (replies.Fault array printed arrays took turns)
    → out ≡ faulted_text options.memory (array_name (names_of parts) array) (names_of parts) printed arrays
    → Yields (Plain options) parts input handed Fault out None handed
faulted_yields options parts input world array printed arrays took turns out handed w r e =
    let h = faulted_run parts world options.turns array printed arrays took turns r in
    let text : faulted_text options.memory (array_name (names_of parts) array) (names_of parts) printed arrays
    ≡ faulted_text options.memory (array_name (names_of parts) h.array) (names_of parts) (printed_words
    h.state.acts) h.state.cells = grind arith in
    subst (λ o. Yields (Plain options) parts input handed Fault o None handed) (sym (e ∙ text)) (faulted
    h.turn h.array h.state (grind arith) h.within)

-- the text of a run that goes on
pub going_yields : (options : PlainOptions) (parts : List Part) (input : List ℕ) (world : World)
    (printed : List ℕ) (out : List ℕ) (handed : List (Option Told)) → world ≡ world_of input
    → Says parts world options.turns (replies.Going printed) → out ≡ going_text printed
    → Yields (Plain options) parts input handed Budget out None handed
going_yields options parts input world printed out handed w r e =
    let h = going_run parts world options.turns printed r in
    subst (λ o. Yields (Plain options) parts input handed Budget o None handed) (grind arith) (going h.now
    (grind arith))

-- what comes of a task to a sound image
module _ (text : List ℕ) (image : Image) (input : List ℕ) (handed : List (Option Told)) where
  pub checked_yields : (task : AssemblyTask) (out : List ℕ) → task ≡ Check → out ≡ sound_text
      → AssemblyYields task text image input handed Done out None handed
  checked_yields task out e f = subst (λ t. AssemblyYields t text image input handed Done out None handed)
      (sym e) (subst (λ o. AssemblyYields Check text image input handed Done o None handed) (sym f) checked)

  pub listed_yields : (task : AssemblyTask) (out : List ℕ) → task ≡ Listing → out ≡ listing image
      → AssemblyYields task text image input handed Done out None handed
  listed_yields task out e f = subst (λ t. AssemblyYields t text image input handed Done out None handed) (sym
      e) (subst (λ o. AssemblyYields Listing text image input handed Done o None handed) (sym f) listed)

  -- here and below it is told by a text with the same bytes
  told_by : (task : AssemblyTask) (status : Status) (out made : List ℕ) (again : Option Image) → out ≡ made
      → AssemblyYields task text image input handed status made again handed
      → AssemblyYields task text image input handed status out again handed
  told_by task status out made again e y = grind arith

  pub traced_yields : (task : AssemblyTask) (budget : ℕ) (status : Status) (out made : List ℕ)
      → task ≡ Trace budget → out ≡ made → IsTraced budget image input status made
      → EndsRun image (world_of input) budget status → AssemblyYields task text image input handed status out
      (Some image) handed
  traced_yields task budget status out made e same h ends = told_by task status out made (Some image) same
      (subst (λ t. AssemblyYields t text image input handed status made (Some image) handed) (sym e) (traced h
      ends))

  pub replayed_yields : (task : AssemblyTask) (status : Status) (out made : List ℕ) (again : Option Image)
      → task ≡ Replay → out ≡ made → IsReplayed text image input status made again
      → EndsReplay text image input status → AssemblyYields task text image input handed status out again
      handed
  replayed_yields task status out made again e same h ends = told_by task status out made again same (subst (λ
      t. AssemblyYields t text image input handed status made again handed) (sym e) (replayed h ends))

  pub gridded_yields : (task : AssemblyTask) (options : GridOptions) (status : Status) (out made : List ℕ)
      → task ≡ Grid options → out ≡ made → IsClocked options image input status made
      → EndsRun image (world_of input) options.budget status → AssemblyYields task text image input handed
      status out (Some image) handed
  gridded_yields task options status out made e same h ends = told_by task status out made (Some image) same
      (subst (λ t. AssemblyYields t text image input handed status made (Some image) handed) (sym e) (gridded
      h ends))
