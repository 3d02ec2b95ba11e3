-- With `--stats` a line follows what is told without it.
use Rattle.std.specs.Prelude.{◌≡◌, ℕ, Bool, true, false, List, [], ◌++◌, length, Option}
use Rattle.std.proofs.Common.{sym, ap, ◌∙◌, subst, inl, inr, arith, append-nil}
use Rattle.ws_words.specs.Outside.{World, printed_words}
use Rattle.src_ast.specs.Once.{ExactlyOne}
use Rattle.src_ast.specs.Syntax.{Part}
use Rattle.ws_isa.specs.Image.{Image, array_at}
use Rattle.ws_isa.specs.Shown.{shown_cells}
use Rattle.ws_isa.specs.Walk.{mem, walk}
use Rattle.port_set.specs.Ports.{Told}
use Rattle.store_buf.specs.Outdoors.{lefts_of}
use Rattle.wsc_top.specs.declared.status.Status.{Status}
use Rattle.wsc_top.specs.declared.task.Task.TheVariants.{Job}
use Rattle.wsc_top.specs.declared.task.JobTask.{JobTask}
use Rattle.wsc_top.specs.declared.task.JobTask.TheVariants.{Run, Plain, Format, Compile}
use Rattle.wsc_top.specs.declared.task.RunOptions.{RunOptions}
use Rattle.run_text.specs.declared.report.Report.{Report}
use Rattle.run_text.specs.declared.report.Report.TheVariants.{Full}
use Rattle.job_read.specs.Job.{IsTextAnswer}
use Rattle.asm_read.specs.Reads.{world_of}
use Rattle.wsc_top.specs.Texts.{names_of, array_name, turns_line}
use Rattle.run_text.specs.Texts.{ended_text, faulted_text, firings_line}
use Rattle.run_text.specs.Texts.{done_text, array_lines, shown_names, called}
use Rattle.run_text.specs.Reports.{end_report, fault_report}
use Rattle.wsc_top.specs.Answers as answers
use Rattle.wsc_top.specs.Answers.{Answered, Yields, TellsRun}
use Rattle.wsc_top.specs.Threads.{no_ports}
use Rattle.wsc_top.proofs.Reading.AnswersOnce.{RunsOnce}
use Rattle.wsc_top.proofs.Reading.AssembliesOnce.{WalksOnce}
use Rattle.one_result.specs.OneResult.{HasFlags, HasWritten, IsResult, job_commands}
use Rattle.one_result.specs.Others.{OneStats, OneImageStats}
use Rattle.one_result.proofs.Written.{RunsJob, TextTold, job_written}
use Rattle.one_result.proofs.Written as written
use Rattle.one_result.proofs.Jobs.{told_result, silent_world, JobTold, ended, faulted, TextJob, Bare}
use Rattle.one_result.proofs.Jobs.{jobs_alike}
use Rattle.one_result.proofs.Compiled.{JobsTold}
use Rattle.one_result.proofs.Images.{ImageTold, rested, stopped, spent, called_image, called_count}
use Rattle.one_result.proofs.Images.{texts_alike}

-- the text of an end with a line is that without it, and the line
end_line : (memory : Bool) (names : List (List ℕ)) (words : List ℕ) (rows : List (List ℕ)) (line : List ℕ)
    → ended_text memory true names words rows line ≡ ended_text memory false names words rows [] ++ line
end_line true names words rows line =
    ap (λ t. t ++ line) (sym (append-nil (done_text words ++ array_lines names rows)))
end_line false names words rows line = ap (λ t. t ++ line) (sym (append-nil (done_text words ++ [])))

-- without a line the same is told of an image
plain_image : (memory : Bool) (image : Image) (world : World) (s : Status) (out : List ℕ) → IsResult s
    → ImageTold memory true image world s out → Bare (ImageTold memory false image world) s out
plain_image memory image world s out p (rested t none cost) = record {
  again = ended_text memory false (shown_names image.arrays) (printed_words (mem image world t).acts)
      (shown_cells image.arrays (mem image world t).cells) [];
  told = rested t none cost;
  arrays = firings_line (length (walk image world t));
  is = end_line memory (shown_names image.arrays) (printed_words (mem image world t).acts)
      (shown_cells image.arrays (mem image world t).cells) (firings_line (length (walk image world t)));
}
plain_image memory image world s out p (stopped t fault) = record {
  again = faulted_text memory (called image.arrays (array_at image fault.inst.instr))
      (shown_names image.arrays) (printed_words (mem image world t).acts)
      (shown_cells image.arrays (mem image world t).cells);
  told = stopped t fault;
  arrays = [];
  is = sym (append-nil (faulted_text memory (called image.arrays (array_at image fault.inst.instr))
      (shown_names image.arrays) (printed_words (mem image world t).acts)
      (shown_cells image.arrays (mem image world t).cells)));
}
plain_image memory image world s out x (spent t budget within) = grind arith

pub one_image_stats : WalksOnce → OneImageStats
one_image_stats known memory text s v out again h k e f =
    let a = called_count memory text s out h (told_result s e) in
    let b = plain_image memory a.image (world_of a.input) s out e a.told in
    let same = texts_alike known memory false text s v b.again again e f (grind arith)
    (called_image memory text v again k (told_result v f)) in
    (same.0, (b.arrays, b.is ∙ ap (λ t. t ++ b.arrays) same.1))

-- and of a job
module _ (memory : Bool) (parts : List Part) (input : List ℕ) where
  plain_run : (options : RunOptions) (handed : List (Option Told)) (s : Status) (out : List ℕ)
      (back : List (Option Told)) → options.report ≡ Full memory true → IsResult s
      → TellsRun options parts (world_of input) handed s out back → Bare (JobTold memory parts input) s out
  plain_run options handed s out back p e (answers.TellsRun.ended n fired end runs few ports) = record {
    again = ended_text memory false (names_of parts) (printed_words end.acts) end.cells [];
    told = ended n end runs;
    arrays = firings_line fired;
    is = ap (λ (r : Report). end_report r (names_of parts) (printed_words end.acts) end.cells fired) p
        ∙ end_line memory (names_of parts) (printed_words end.acts) end.cells (firings_line fired);
  }
  plain_run options handed s out back p e (answers.TellsRun.faulted n array state faults ports) = record {
    again = faulted_text memory (array_name (names_of parts) array) (names_of parts)
        (printed_words state.acts) state.cells;
    told = faulted n array state faults;
    arrays = [];
    is = ap (λ (r : Report). fault_report r (array_name (names_of parts) array) (names_of parts)
        (printed_words state.acts) state.cells) p
        ∙ sym (append-nil (faulted_text memory (array_name (names_of parts) array) (names_of parts)
        (printed_words state.acts) state.cells));
  }
  plain_run options handed s out back p e (answers.TellsRun.spent n front rest does ports) = grind arith
  plain_run options handed s out back p e (answers.TellsRun.failed n port front rest act does on rose ports)
      = grind arith

  plain_task : (task : JobTask) (handed : List (Option Told)) (s : Status) (out : List ℕ)
      (image : Option Image) (back : List (Option Told)) → lefts_of handed ≡ lefts_of no_ports
      → RunsJob memory true (Job task) → IsResult s → Yields task parts input handed s out image back
      → Bare (JobTold memory parts input) s out
  plain_task (Run options) handed s out image back silent p e (answers.Yields.ran made is executes tells) =
      plain_run options handed s out back p e (subst (λ (w : World). TellsRun options parts w handed s out
      back) (silent_world input handed silent) tells)
  plain_task (Plain options) handed s out image back silent p e (answers.Yields.ended n end runs within) =
      record {
        again = ended_text memory false (names_of parts) (printed_words end.acts) end.cells [];
        told = ended n end runs;
        arrays = turns_line n;
        is = ap (λ m. ended_text m options.stats (names_of parts) (printed_words end.acts) end.cells
            (turns_line n)) p.0 ∙ ap (λ c. ended_text memory c (names_of parts) (printed_words end.acts)
            end.cells (turns_line n)) p.1 ∙ end_line memory (names_of parts) (printed_words end.acts)
            end.cells (turns_line n);
      }
  plain_task (Plain options) handed s out image back silent p e (answers.Yields.faulted n array state faults
      within) = record {
        again = faulted_text memory (array_name (names_of parts) array) (names_of parts)
            (printed_words state.acts) state.cells;
        told = faulted n array state faults;
        arrays = [];
        is = ap (λ m. faulted_text m (array_name (names_of parts) array) (names_of parts)
            (printed_words state.acts) state.cells) p.0
            ∙ sym (append-nil (faulted_text memory (array_name (names_of parts) array) (names_of parts)
            (printed_words state.acts) state.cells));
      }
  plain_task (Plain options) handed s out image back silent p (inl e) (answers.Yields.going now goes) =
      absurd cc
  plain_task (Plain options) handed s out image back silent p (inr e) (answers.Yields.going now goes) =
      absurd cc
  plain_task Format handed s out image back silent p e y = absurd p
  plain_task Compile handed s out image back silent p e y = absurd p

answered_plain : (memory : Bool) (task : JobTask) (text : List ℕ) (handed : List (Option Told)) (s : Status)
    (out : List ℕ) (image : Option Image) (back : List (Option Told)) → lefts_of handed ≡ lefts_of no_ports
    → RunsJob memory true (Job task) → IsResult s → Answered task text handed s out image back
    → Bare (TextJob memory text) s out
answered_plain memory task text handed s out image back silent p (inl e) (answers.Answered.refused r why) =
    absurd cc
answered_plain memory task text handed s out image back silent p (inr e) (answers.Answered.refused r why) =
    absurd cc
answered_plain memory task text handed s out image back silent p e (answers.Answered.done parts input job
    yields) =
    let b = plain_task memory parts input task handed s out image back silent p e yields in
    record {
      again = b.again;
      told = record { parts = parts; input = input; job = job; told = b.told };
      arrays = b.arrays;
      is = b.is;
    }

text_plain : (memory : Bool) (text : List ℕ) (handed : List (Option Told)) (s : Status) (out : List ℕ)
    (image : Option Image) (back : List (Option Told)) → lefts_of handed ≡ lefts_of no_ports → IsResult s
    → TextTold (RunsJob memory true) text handed s out image back → Bare (TextJob memory text) s out
text_plain memory text handed s out image back silent e (written.TextTold.job task k a) =
    answered_plain memory task text handed s out image back silent k e a
text_plain memory text handed s out image back silent e (written.TextTold.assembly task k a) = absurd k

called_plain : (memory : Bool) (text : List ℕ) (s : Status) (out : List ℕ)
    → HasWritten job_commands (HasFlags memory true) text s out → IsResult s
    → Bare (TextJob memory text) s out
called_plain memory text s out h e = text_plain memory text h.ports s out h.image h.back h.silent e
    (job_written text h.ports s out h.image h.back (told_result s e) memory true h.called)

pub one_stats : RunsOnce → ((text : List ℕ) → ExactlyOne (IsTextAnswer text)) → JobsTold → OneStats
one_stats law once told memory text s v out again h k e f =
    let b = called_plain memory text s out h e in
    let same = jobs_alike law memory text (once text) s v b.again again e f b.told
    (told memory text v again k (told_result v f)) in
    (same.0, (b.arrays, b.is ∙ ap (λ t. t ++ b.arrays) same.1))
