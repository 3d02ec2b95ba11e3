-- What a call of `wss` has written where a write failed.
use Rattle.std.specs.Prelude.{◌≡◌, ◌⊎◌, ℕ, ◌≤◌, Bool, true, false, List, [], ◌++◌, length, take, drop}
use Rattle.std.specs.Prelude.{Option, Some, Ok, refl}
use Rattle.std.proofs.Common.{sym, ap, ◌∙◌, subst, inl, inr, append_assoc, append-nil}
use Rattle.std.proofs.lemmas.List.{take-append-drop}
use Rattle.ws_words.specs.Outside.{World}
use Rattle.ws_io.specs.Streams.{Rose}
use Rattle.ws_isa.specs.Image.{Image}
use Rattle.ws_isa.specs.Formed.{Formed}
use Rattle.ws_isa.specs.Sound.{Sound}
use Rattle.df_core.specs.declared.drive.Finish.{Finish}
use Rattle.df_core.specs.declared.drive.Finish.TheVariants as finish
use Rattle.port_set.specs.Ports.{Told}
use Rattle.wsc_words.specs.Lines.{line_of}
use Rattle.wsc_top.specs.declared.status.Status.{Status}
use Rattle.wsc_top.specs.declared.status.Status.TheVariants.{Done, Budget, Fault, WriteFault}
use Rattle.wsc_top.specs.declared.task.Task.{Task}
use Rattle.wsc_top.specs.declared.task.Task.TheVariants.{Job, Generate, Bench, Multi}
use Rattle.wsc_top.specs.Tasks.{AsksFor}
use Rattle.wsc_top.specs.Answers as answers
use Rattle.wsc_top.specs.Answers.{Answers}
use Rattle.wsc_top.specs.Threads as threads
use Rattle.wsc_top.specs.Threads.{Replies}
use Rattle.wsc_top.proofs.Reading.AssembliesOnce.{ReadsFormed, WalksOnce}
use Rattle.asm_text.specs.Reading.{read}
use Rattle.asm_read.specs.Assembly.{IsAssembly, assembly_limit}
use Rattle.asm_read.specs.Reads.{SourceCall, world_of}
use Rattle.asm_read.proofs.Once.{one_assembly}
use Rattle.run_text.specs.Writes.{Writing}
use Rattle.stream_run.specs.declared.options.Options.{Options}
use Rattle.stream_run.specs.declared.drive.Stop.TheVariants as stop
use Rattle.stream_run.specs.Streams.{lines_of}
use Rattle.stream_run.specs.Ends.{text_of as run_text, WritesPart}
use Rattle.stream_run.specs.Laws.{PrintsFrontOfWalk}
use Rattle.stream_top.specs.declared.status.Status.{Status as StreamStatus}
use Rattle.stream_top.specs.Lines.{AsksForRun}
use Rattle.stream_top.specs.Calls as calls
use Rattle.stream_top.specs.Calls.{CallEnds, IsRefused, status_of}
use Rattle.stream_top.proofs.Caused.{NeverBoth, only_unread}
use Rattle.one_result.specs.OneResult.{HasFlags, AssemblyHasRun, IsResult, IsFront, assembly_commands}
use Rattle.one_result.specs.Streams.{as_status, StreamCalled, BeginsText, OneStreamBrokenOff}
use Rattle.one_result.proofs.Words.{asked}
use Rattle.one_result.proofs.Written.{RunsImage, is_told, told_reply, image_kind}
use Rattle.one_result.proofs.Jobs.{told_result}
use Rattle.one_result.proofs.Images.{ImageTold, TextImage, called_image, images_alike}
use Rattle.one_result.proofs.ImageFronts.{ActsGrow, words_come_first, told_begins}
use Rattle.one_result.proofs.Sides.{wrote_is, read_is}
use Rattle.one_result.proofs.Streamed.{memory_asked, stats_asked, told_by_stream}

-- a text that was run is no longer than that of an assembly may be
module _ (words : List (List ℕ))
    (runs : (task : Task) → AsksFor words task → (memory stats : Bool) × RunsImage memory stats task)
    (text : List ℕ) (after : Option (List ℕ)) (m n : ℕ) (handed : List (Option Told)) where
  answer_short : (status : Status) (out : List ℕ) (image : Option Image) (back : List (Option Told))
      → is_told status ≡ true → Answers words (Some text) after m n handed status out image back
      → length text ≤ assembly_limit
  answer_short s out image back e (answers.Answers.generated k line left) =
      absurd (runs (Generate k) line).2
  answer_short s out image back e (answers.Answers.benched o line left b) = absurd (runs (Bench o) line).2
  answer_short s out image back e (answers.Answers.read task whole line short takes answered) =
      absurd (runs (Job task) line).2
  answer_short s out image back e (answers.Answers.assembled task whole line short takes answered) =
      subst (λ (t : List ℕ). length t ≤ assembly_limit) (sym takes.0) short
  answer_short s out image back e x = absurd cc

  reply_short : (status : Status) (out : List ℕ) (image : Option Image) (images : List Image)
      (back : List (Option Told)) → is_told status ≡ true
      → Replies words (Some text) after m n handed status out image images back
      → length text ≤ assembly_limit
  reply_short s out image images back e (threads.Replies.alone answer) =
      answer_short s out image back e answer
  reply_short s out image images back e (threads.Replies.together o whole line short takes answered) =
      absurd (runs (Multi o) line).2

run_short : (memory : Bool) (text : List ℕ) (s : Status) (out : List ℕ) → AssemblyHasRun memory text s out
    → is_told s ≡ true → length text ≤ assembly_limit
run_short memory text s out h e =
    let c = h.called in
    let r = told_reply assembly_commands (HasFlags memory false) text h.ports s out h.image h.back c e in
    reply_short c.words (λ task line.
    let a = asked assembly_commands (HasFlags memory false) c.words task c.call c.such line in (
      (line_of a.command a.given).memory,
      (line_of a.command a.given).stats,
      image_kind (HasFlags memory false) task a,
    )) text r.after r.faults r.counted h.ports s out h.image r.threads h.back e r.reply

-- the first bytes of a text begin what it begins
cut_begins : (n : ℕ) (text whole : List ℕ) → BeginsText text whole → BeginsText (take n text) whole
cut_begins n text whole b = (
  drop n text ++ b.0,
  b.1 ∙ ap (λ (l : List ℕ). l ++ b.0) (sym (take-append-drop n text))
      ∙ append_assoc (take n text) (drop n text) b.0,
)

-- what was written so far, where this is the result
abbrev BrokenOff : List ℕ → List ℕ → Type 0
BrokenOff whole out = (said : List ℕ) × ((said ≡ whole) ⊎ IsFront said whole) × BeginsText out said

module _ (known : WalksOnce) (grow : ActsGrow) (prints : PrintsFrontOfWalk) (memory : Bool) (image : Image)
    (world : World) (status : Status) (whole : List ℕ) (result : IsResult status)
    (told : ImageTold memory false image world status whole) where
  said_is : (how : Finish) (text : List ℕ)
      → ImageTold memory false image world (as_status (status_of how)) text
      → (text ≡ whole) ⊎ IsFront text whole
  said_is finish.Rest text t =
      inl (images_alike known memory false image world Done status text whole (inl refl) result t told).1
  said_is finish.Budget text t = inr (told_begins known grow image world memory memory Budget status text
      whole refl result t told)
  said_is (finish.Fault array) text t =
      inl (images_alike known memory false image world Fault status text whole (inr refl) result t told).1

  part_begins : Formed image → Sound image → (options : Options) → options.memory ≡ memory
      → options.stats ≡ false → (writes : Writing) (out : List ℕ) → writes.held ≡ Some []
      → writes.holds ≡ Some out → WritesPart options image world writes stop.Unwritten
      → BrokenOff whole out
  part_begins formed sound options p q writes out before after (inl broken) =
      let front = broken.wrote.1 in
      let first = words_come_first known grow image world memory memory broken.words status whole result
      (λ u end. prints image world u broken.state broken.words formed sound broken.prints end) told in
      let is = wrote_is writes.held writes.holds (take front.0 (lines_of broken.words)) out before after
      front.2 in (
        whole,
        inl refl,
        subst (λ (o : List ℕ). BeginsText o whole) is
            (cut_begins front.0 (lines_of broken.words) whole first),
      )
  part_begins formed sound options p q writes out before after (inr some) =
      let text = run_text options image.arrays some.left some.how in
      let is = wrote_is writes.held writes.holds (take some.front.count text) out before after
      some.front.wrote in (
        text,
        said_is some.how text
            (told_by_stream memory false image world options p q some.how some.left some.leaves.so),
        subst (λ (o : List ℕ). BeginsText o text) is
            (cut_begins some.front.count text text ([], sym (append-nil text))),
      )

-- a call that runs doesn't end so
not_unwritten : (how : Finish) → as_status (status_of how) ≡ WriteFault → ⊥
not_unwritten finish.Rest e = cc
not_unwritten finish.Budget e = cc
not_unwritten (finish.Fault array) e = cc

refusal_written : (reads : SourceCall) (own : StreamStatus) (text : List ℕ) → IsRefused reads own text
    → as_status own ≡ WriteFault → ⊥
refusal_written reads own text (calls.IsRefused.failed u) e = cc
refusal_written reads own text (calls.IsRefused.long u) e = cc
refusal_written reads own text (calls.IsRefused.faulty why u) e = cc

module _ (known : WalksOnce) (grow : ActsGrow) (prints : PrintsFrontOfWalk) (formed : ReadsFormed)
    (never : NeverBoth) (words : List (List ℕ)) (options : Options) (line : AsksForRun words options)
    (counts : options.stats ≡ false) (text : List ℕ) (status : Status) (whole : List ℕ)
    (result : IsResult status) (short : length text ≤ assembly_limit)
    (is : TextImage options.memory false text status whole) (reads : SourceCall) (writes : Writing)
    (out : List ℕ) (given : reads.left ≡ Some text) (before : writes.held ≡ Some [])
    (after : writes.holds ≡ Some out) (well : ¬ Rose reads.faults reads.counted) where
  broken_by : (own : StreamStatus) → CallEnds words reads writes own → as_status own ≡ WriteFault
      → BrokenOff whole out
  broken_by own (calls.CallEnds.answered t (calls.IsAnswer.usage none same) w) e = absurd cc
  broken_by own (calls.CallEnds.answered t (calls.IsAnswer.refused o l r) w) e =
      absurd (refusal_written reads own t r e)
  broken_by own (calls.CallEnds.ran o image input how due w) e = absurd (not_unwritten how e)
  broken_by own (calls.CallEnds.unwritten s t (calls.IsAnswer.usage none same) front) e =
      absurd (none options line)
  broken_by own (calls.CallEnds.unwritten s t (calls.IsAnswer.refused o l r) front) e =
      absurd (well (only_unread reads text given never is.image is.input short is.assembly s t r).1)
  broken_by own (calls.CallEnds.cut o image input due part) e =
      let same = read_is reads.left reads.after text due.read.text given due.read.takes in
      let its = subst (λ (t : List ℕ). IsAssembly t image input) same due.read.assembly in
      let both = one_assembly text image is.image input is.input its is.assembly in
      let told = subst (λ (i : Image). ImageTold options.memory false i (world_of input) status whole)
      (sym both.0) (subst (λ (ws : List ℕ). ImageTold options.memory false is.image (world_of ws) status
      whole) (sym both.1) is.told) in
      part_begins known grow prints options.memory image (world_of input) status whole result told
      (formed _ image its.reads) its.sound o
      (memory_asked words o due.line ∙ sym (memory_asked words options line))
      (stats_asked words o due.line ∙ sym (stats_asked words options line) ∙ counts)
      writes out before after part
  broken_by own (calls.CallEnds.starved same covered) e = absurd cc
  broken_by own (calls.CallEnds.stopped o image input due part) e = absurd cc

pub one_stream_broken_off : WalksOnce → ActsGrow → PrintsFrontOfWalk → ReadsFormed → NeverBoth
    → OneStreamBrokenOff
one_stream_broken_off known grow prints formed never words options text s out whole c well line counts h
    result =
    let e = told_result s result in
    broken_by known grow prints formed never words options line counts text s whole result
    (run_short options.memory text s whole h e) (called_image options.memory text s whole h e) c.reads
    c.writes out c.given c.before c.after well c.own c.ends c.means
