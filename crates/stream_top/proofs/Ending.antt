-- What a call comes to, by what was written.
use Rattle.std.proofs.Common.{◌≡◌, ◌≤◌, ℕ, List, length, take, sym, subst}
use Rattle.ws_words.specs.Outside.{World}
use Rattle.ws_io.specs.Streams.{Rose, Adds}
use Rattle.ws_isa.specs.Image.{Image}
use Rattle.df_core.specs.declared.drive.Finish.{Finish}
use Rattle.asm_read.specs.declared.assembly.AsmRefusal.{AsmRefusal}
use Rattle.asm_read.specs.declared.source.Unread.{Unread}
use Rattle.asm_read.specs.declared.source.Unread.TheVariants as unread
use Rattle.asm_read.specs.Texts.{unread_text, long_text, asm_refusal_text}
use Rattle.asm_read.specs.Reads.{SourceCall, IsUnread, world_of}
use Rattle.run_text.specs.Writes.{Writing}
use Rattle.stream_run.specs.declared.options.Options.{Options}
use Rattle.stream_run.specs.declared.drive.Stop.{Stop}
use Rattle.stream_run.specs.declared.drive.Stop.TheVariants as stop
use Rattle.stream_run.specs.Ends.{WritesWhole, WritesPart}
use Rattle.stream_top.specs.declared.status.Status.{Status}
use Rattle.stream_top.specs.declared.status.Status.TheVariants.{Refused, ReadFault, WriteFault, NoMemory}
use Rattle.stream_top.specs.Lines.{AsksForRun}
use Rattle.stream_top.specs.Calls as ends
use Rattle.stream_top.specs.Calls.{CallEnds, IsAnswer, IsDue, status_of}

module _ (words : List (List ℕ)) (reads : SourceCall) (writes : Writing) where
  pub cut_answer : (status : Status) (text : List ℕ) → IsAnswer words reads status text
      → Rose writes.faults writes.counted
      → (n : ℕ) × (n ≤ length text) × Adds writes.held (take n text) writes.holds
      → CallEnds words reads writes WriteFault
  cut_answer status text a rose front = ends.CallEnds.unwritten status text a
      (record { rose = rose; count = front.0; short = front.1; wrote = front.2 })

  module _ (options : Options) (image : Image) (input : List ℕ) (world : World) (is : world ≡ world_of input)
      (due : IsDue words reads options image input) where
    pub ran_whole : (how : Finish) (status : Status) → status ≡ status_of how
        → WritesWhole options image world writes how → CallEnds words reads writes status
    ran_whole how status same whole = subst (CallEnds words reads writes) (sym same)
        (ends.CallEnds.ran options image input how due
        (subst (λ (w : World). WritesWhole options image w writes how) is whole))

    pub ran_cut : (why : Stop) → why ≡ stop.Unwritten → WritesPart options image world writes why
        → CallEnds words reads writes WriteFault
    ran_cut why same part = ends.CallEnds.cut options image input due
        (subst (λ (w : World). WritesPart options image w writes stop.Unwritten) is
        (subst (WritesPart options image world writes) same part))

    pub ran_starved : (why : Stop) → why ≡ stop.NoMemory → WritesPart options image world writes why
        → CallEnds words reads writes NoMemory
    ran_starved why same part = ends.CallEnds.stopped options image input due
        (subst (λ (w : World). WritesPart options image w writes stop.NoMemory) is
        (subst (WritesPart options image world writes) same part))

-- what is answered where a source gives no assembly
module _ (words : List (List ℕ)) (reads : SourceCall) (options : Options) (line : AsksForRun words options)
    (why : Unread) (h : IsUnread reads why) where
  pub answer_failed : why ≡ unread.Failed → IsAnswer words reads ReadFault unread_text
  answer_failed e = ends.IsAnswer.refused options line (ends.IsRefused.failed (subst (IsUnread reads) e h))

  pub answer_long : why ≡ unread.TooLong → IsAnswer words reads Refused long_text
  answer_long e = ends.IsAnswer.refused options line (ends.IsRefused.long (subst (IsUnread reads) e h))

  pub answer_faulty : (refusal : AsmRefusal) (text : List ℕ) → why ≡ unread.Refused refusal
      → text ≡ asm_refusal_text refusal → IsAnswer words reads Refused text
  answer_faulty refusal text e is = subst (IsAnswer words reads Refused) (sym is)
      (ends.IsAnswer.refused options line (ends.IsRefused.faulty refusal (subst (IsUnread reads) e h)))
