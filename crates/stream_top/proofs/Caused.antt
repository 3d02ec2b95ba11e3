-- Why a call has the status that it has.
use Rattle.std.proofs.Common.{arith, ◌≡◌, ◌⊎◌, ℕ, ◌+◌, ◌≤◌, ◌++◌, true, false, List, [], length, Option, Some}
use Rattle.std.proofs.Common.{refl, sym, ap, ◌∙◌, subst, inl, inr, length-append}
use Rattle.ws_words.specs.Outside.{World}
use Rattle.ws_io.specs.Streams.{Rose, Takes, TakesAll}
use Rattle.ws_isa.specs.Image.{Image}
use Rattle.ws_isa.specs.Operations.{FaultsAt, NoFault}
use Rattle.df_core.specs.Answer.{RunSo}
use Rattle.df_core.specs.Told.{run_from}
use Rattle.df_core.specs.declared.answer.Done.{Done as Left}
use Rattle.df_core.specs.declared.drive.Finish.{Finish}
use Rattle.df_core.specs.declared.drive.Finish.TheVariants as finish
use Rattle.stream_top.specs.declared.status.Status.{Status}
use Rattle.stream_top.specs.declared.status.Status.TheVariants.{Done, Usage, Refused, Budget, ReadFault}
use Rattle.stream_top.specs.declared.status.Status.TheVariants.{WriteFault, Fault}
use Rattle.asm_read.specs.declared.assembly.AsmRefusal.{AsmRefusal}
use Rattle.asm_read.specs.Assembly.{assembly_limit, IsAssembly, RefusesAssembly}
use Rattle.asm_read.specs.Reads.{SourceCall, world_of}
use Rattle.stream_run.specs.declared.options.Options.{Options}
use Rattle.stream_run.specs.declared.drive.Stop.TheVariants as stop
use Rattle.run_text.specs.Writes.{Writing}
use Rattle.stream_run.specs.Ends.{WritesPart}
use Rattle.stream_top.specs.Lines.{AsksForRun}
use Rattle.stream_top.specs.Calls as ends
use Rattle.stream_top.specs.Calls.{CallEnds, IsAnswer, IsRefused, IsNoLine, IsDue, status_of}
use Rattle.stream_top.specs.Causes.{OrNoMemory, FailedStatus, NoFaults, EndsBy, CallCaused}

abbrev pub OneAsking : Type 0
OneAsking = (words : List (List ℕ)) (options others : Options) → AsksForRun words options
    → AsksForRun words others
    → options ≡ others

abbrev pub OneImage : Type 0
OneImage = (text : List ℕ) (image again : Image) (words more : List ℕ) → IsAssembly text image words
    → IsAssembly text again more → (image ≡ again) × (words ≡ more)

abbrev pub NeverBoth : Type 0
NeverBoth = (text : List ℕ) (image : Image) (words : List ℕ) (r : AsmRefusal) → IsAssembly text image words
    → RefusesAssembly text r → ⊥

never_past : (image : Image) (world : World) (t : ℕ) → NoFault image world → FaultsAt image world t → ⊥
never_past image world t none fault =
    let two : true ≡ false = sym fault.is_past ∙ none t fault.inst fault.fired in cc

-- how a run that keeps `RunSo` ended is what the walk decides
ends_by : (image : Image) (world : World) (budget : ℕ) (how : Finish) (left : Left)
    → RunSo image world budget (run_from how left) → EndsBy image world budget (status_of how)
ends_by image world budget finish.Rest left r = record {
  done = (λ e. r.rests.0 refl, λ h. refl);
  fault = λ t f cost. absurd (never_past image world t (r.rests.0 refl).0 f);
  spent = λ none dear. absurd (dear (r.rests.0 refl).1);
}
ends_by image world budget finish.Budget left r = record {
  done = (λ e. absurd cc, λ h. let two : false ≡ true = r.rests.1 h in absurd cc);
  fault = λ t f cost. let two : false ≡ true = r.faults t f cost in absurd cc;
  spent = λ none dear. refl;
}
ends_by image world budget (finish.Fault array) left r = record {
  done = (λ e. absurd cc, λ h. let two : false ≡ true = r.rests.1 h in absurd cc);
  fault = λ t f cost. refl;
  spent = λ none dear. absurd (never_past image world _ none r.told.fault);
}

not_usage : (how : Finish) → status_of how ≡ Usage → ⊥
not_usage finish.Rest e = let two : Done ≡ Usage = e in absurd cc
not_usage finish.Budget e = let two : Budget ≡ Usage = e in absurd cc
not_usage (finish.Fault array) e = let two : Fault ≡ Usage = e in absurd cc

not_read : (how : Finish) → status_of how ≡ ReadFault → ⊥
not_read finish.Rest e = let two : Done ≡ ReadFault = e in absurd cc
not_read finish.Budget e = let two : Budget ≡ ReadFault = e in absurd cc
not_read (finish.Fault array) e = let two : Fault ≡ ReadFault = e in absurd cc

not_written : (how : Finish) → status_of how ≡ WriteFault → ⊥
not_written finish.Rest e = let two : Done ≡ WriteFault = e in absurd cc
not_written finish.Budget e = let two : Budget ≡ WriteFault = e in absurd cc
not_written (finish.Fault array) e = let two : Fault ≡ WriteFault = e in absurd cc

refused_by : (reads : SourceCall) (status : Status) (text : List ℕ) → IsRefused reads status text
    → (status ≡ Refused) ⊎ ((status ≡ ReadFault) × Rose reads.faults reads.counted)
refused_by reads status text (ends.IsRefused.failed u) = inr (refl, u.1)
refused_by reads status text (ends.IsRefused.long u) = inl refl
refused_by reads status text (ends.IsRefused.faulty why u) = inl refl

-- a text that is told was read whole
whole_is : (told : Option (List ℕ)) (after : Option (List ℕ)) (text whole : List ℕ) → told ≡ Some text
    → TakesAll told whole after → text ≡ whole
whole_is told after text whole e takes =
    let both : (text ≡ whole) × (after ≡ Some []) =
    subst (λ (o : Option (List ℕ)). TakesAll o whole after) e takes in
    both.0

-- nothing but a failed read is answered to a text that is an assembly
module _ (reads : SourceCall) (text : List ℕ) (told : reads.left ≡ Some text) (never : NeverBoth)
    (image : Image) (input : List ℕ) (short : length text ≤ assembly_limit)
    (assembly : IsAssembly text image input) where
  too_long : (bytes : List ℕ) → length bytes ≡ assembly_limit + 1 → Takes reads.left bytes reads.after → ⊥
  too_long bytes more takes =
      let found : (rest : List ℕ) × (text ≡ bytes ++ rest) × (reads.after ≡ Some rest) =
      subst (λ (o : Option (List ℕ)). Takes o bytes reads.after) told takes in
      let sum : length text ≡ length bytes + length found.0 =
      ap length found.1 ∙ length-append bytes found.0 in
      absurd (omega arith)

  pub only_unread : (status : Status) (t : List ℕ) → IsRefused reads status t
      → (status ≡ ReadFault) × Rose reads.faults reads.counted
  only_unread status t (ends.IsRefused.failed u) = (refl, u.1)
  only_unread status t (ends.IsRefused.long u) = absurd (too_long u.0 u.1 u.2)
  only_unread status t (ends.IsRefused.faulty why u) =
      let same = whole_is reads.left reads.after text u.0 told u.2 in
      absurd (never text image input why assembly
      (subst (λ (x : List ℕ). RefusesAssembly x why) (sym same) u.3))

module _ (words : List (List ℕ)) (reads : SourceCall) (writes : Writing) where
  part_rose : (options : Options) (image : Image) (world : World)
      → WritesPart options image world writes stop.Unwritten → Rose writes.faults writes.counted
  part_rose options image world (inl broken) = broken.wrote.0
  part_rose options image world (inr some) = some.front.rose

  usage_of : (status : Status) → CallEnds words reads writes status → IsNoLine words
      → (Rose writes.faults writes.counted → ⊥) → OrNoMemory status Usage
  usage_of status (ends.CallEnds.answered text (ends.IsAnswer.usage unlined same) w) none sink = inl refl
  usage_of status (ends.CallEnds.answered text (ends.IsAnswer.refused o line r) w) none sink =
      absurd (none o line)
  usage_of status (ends.CallEnds.ran o image input how due w) none sink = absurd (none o due.line)
  usage_of status (ends.CallEnds.unwritten s text a front) none sink = absurd (sink front.rose)
  usage_of status (ends.CallEnds.cut o image input due part) none sink = absurd (none o due.line)
  usage_of status (ends.CallEnds.starved same covered) none sink = inr refl
  usage_of status (ends.CallEnds.stopped o image input due part) none sink = inr refl

  no_line_of : (status : Status) → CallEnds words reads writes status → status ≡ Usage → IsNoLine words
  no_line_of status (ends.CallEnds.answered text (ends.IsAnswer.usage unlined same) w) e = unlined
  no_line_of status (ends.CallEnds.answered text (ends.IsAnswer.refused o line r) w) e =
      elim (refused_by reads status text r) [ inl s ↦ absurd cc | inr s ↦ absurd (cc s.0) ]
  no_line_of status (ends.CallEnds.ran o image input how due w) e = absurd (not_usage how e)
  no_line_of status (ends.CallEnds.unwritten s text a front) e = absurd cc
  no_line_of status (ends.CallEnds.cut o image input due part) e = absurd cc
  no_line_of status (ends.CallEnds.starved same covered) e = absurd cc
  no_line_of status (ends.CallEnds.stopped o image input due part) e = absurd cc

  read_rose : (status : Status) → CallEnds words reads writes status → status ≡ ReadFault
      → Rose reads.faults reads.counted
  read_rose status (ends.CallEnds.answered text (ends.IsAnswer.usage unlined same) w) e = absurd cc
  read_rose status (ends.CallEnds.answered text (ends.IsAnswer.refused o line r) w) e =
      elim (refused_by reads status text r) [ inl s ↦ absurd cc | inr s ↦ s.1 ]
  read_rose status (ends.CallEnds.ran o image input how due w) e = absurd (not_read how e)
  read_rose status (ends.CallEnds.unwritten s text a front) e = absurd cc
  read_rose status (ends.CallEnds.cut o image input due part) e = absurd cc
  read_rose status (ends.CallEnds.starved same covered) e = absurd cc
  read_rose status (ends.CallEnds.stopped o image input due part) e = absurd cc

  write_rose : (status : Status) → CallEnds words reads writes status → status ≡ WriteFault
      → Rose writes.faults writes.counted
  write_rose status (ends.CallEnds.answered text (ends.IsAnswer.usage unlined same) w) e = absurd cc
  write_rose status (ends.CallEnds.answered text (ends.IsAnswer.refused o line r) w) e =
      elim (refused_by reads status text r) [ inl s ↦ absurd cc | inr s ↦ absurd (cc s.0) ]
  write_rose status (ends.CallEnds.ran o image input how due w) e = absurd (not_written how e)
  write_rose status (ends.CallEnds.unwritten s text a front) e = front.rose
  write_rose status (ends.CallEnds.cut o image input due part) e = part_rose o image (world_of input) part
  write_rose status (ends.CallEnds.starved same covered) e = absurd cc
  write_rose status (ends.CallEnds.stopped o image input due part) e = absurd cc

  -- the text that is told
  module _ (text : List ℕ) (told : reads.left ≡ Some text) (well : NoFaults reads writes) where
    refused_of : (options : Options) → AsksForRun words options → (length text ≤ assembly_limit
        → (image : Image) (input : List ℕ) → IsAssembly text image input → ⊥)
        → (status : Status) → CallEnds words reads writes status → OrNoMemory status Refused
    refused_of options line other status (ends.CallEnds.answered t (ends.IsAnswer.usage unlined same) w) =
        absurd (unlined options line)
    refused_of options line other status (ends.CallEnds.answered t (ends.IsAnswer.refused o l r) w) =
        elim (refused_by reads status t r) [ inl s ↦ inl s | inr s ↦ absurd (well.source s.1) ]
    refused_of options line other status (ends.CallEnds.ran o image input how due w) =
        let same = whole_is reads.left reads.after text due.read.text told due.read.takes in
        absurd (other (subst (λ (t : List ℕ). length t ≤ assembly_limit) (sym same) due.read.short) image
        input (subst (λ (t : List ℕ). IsAssembly t image input) (sym same) due.read.assembly))
    refused_of options line other status (ends.CallEnds.unwritten s t a front) = absurd (well.sink front.rose)
    refused_of options line other status (ends.CallEnds.cut o image input due part) =
        absurd (well.sink (part_rose o image (world_of input) part))
    refused_of options line other status (ends.CallEnds.starved same covered) = inr refl
    refused_of options line other status (ends.CallEnds.stopped o image input due part) = inr refl

  -- one that is an assembly
  module _ (text : List ℕ) (told : reads.left ≡ Some text) (one : OneAsking) (alike : OneImage)
      (never : NeverBoth) (options : Options) (line : AsksForRun words options) (image : Image)
      (input : List ℕ) (short : length text ≤ assembly_limit) (assembly : IsAssembly text image input) where
    unread : (status : Status) (t : List ℕ) → IsRefused reads status t → FailedStatus status
    unread status t r = inr (inl (only_unread reads text told never image input short assembly status t r).0)

    ran_so : (o : Options) (ran : Image) (words_in : List ℕ) (how : Finish)
        → IsDue words reads o ran words_in
        → EndsBy ran (world_of words_in) o.budget (status_of how)
        → EndsBy image (world_of input) options.budget (status_of how)
    ran_so o ran words_in how due h =
        let same = whole_is reads.left reads.after text due.read.text told due.read.takes in
        let its = subst (λ (t : List ℕ). IsAssembly t ran words_in) (sym same) due.read.assembly in
        let both = alike text ran image words_in input its assembly in
        let asked = one words o options due.line line in
        subst (λ (p : Options). EndsBy image (world_of input) p.budget (status_of how)) asked
        (subst (λ (i : Image). EndsBy i (world_of input) o.budget (status_of how)) both.0
        (subst (λ (ws : List ℕ). EndsBy ran (world_of ws) o.budget (status_of how)) both.1 h))

    ends_of : (status : Status) → CallEnds words reads writes status
        → EndsBy image (world_of input) options.budget status ⊎ FailedStatus status
    ends_of status (ends.CallEnds.answered t (ends.IsAnswer.usage unlined same) w) = absurd (unlined
        options line)
    ends_of status (ends.CallEnds.answered t (ends.IsAnswer.refused o l r) w) = inr (unread status t r)
    ends_of status (ends.CallEnds.ran o ran words_in how due w) = inl (ran_so o ran words_in how due
        (ends_by ran (world_of words_in) o.budget how w.left w.leaves.so))
    ends_of status (ends.CallEnds.unwritten s t a front) = inr (inr (inr refl))
    ends_of status (ends.CallEnds.cut o ran words_in due part) = inr (inr (inr refl))
    ends_of status (ends.CallEnds.starved same covered) = inr (inl refl)
    ends_of status (ends.CallEnds.stopped o ran words_in due part) = inr (inl refl)

  pub caused : OneAsking → OneImage → NeverBoth → (status : Status) → CallEnds words reads writes status
      → CallCaused words reads writes status
  caused one alike never status e = record {
    usage = usage_of status e;
    no_line = no_line_of status e;
    read_fault = read_rose status e;
    write_fault = write_rose status e;
    refused = λ options text line told other well. refused_of text told well options line other status e;
    ends = λ options text image input line told short assembly.
        ends_of text told one alike never options line image input short assembly status e;
  }
