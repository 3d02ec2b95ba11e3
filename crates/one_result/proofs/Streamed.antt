-- What a call of `wss` tells is what is told of its image.
use Rattle.std.specs.Prelude.{◌≡◌, ◌⊎◌, ℕ, ◌≤◌, Bool, true, false, List, [], ◌++◌, codes}
use Rattle.std.specs.Prelude.{length, Option, Some, refl}
use Rattle.std.proofs.Common.{sym, ap, ◌∙◌, subst, inl, inr, arith}
use Rattle.ws_words.specs.Outside.{World, printed_words}
use Rattle.one_result.proofs.Sides.{wrote_is, read_is}
use Rattle.src_ast.specs.Once.{ExactlyOne}
use Rattle.ws_isa.specs.Image.{Image, array_at}
use Rattle.ws_isa.specs.Shown.{shown_cells}
use Rattle.ws_isa.specs.Walk.{mem, walk, CostAtMost}
use Rattle.ws_isa.specs.Operations.{NoFault}
use Rattle.df_core.specs.declared.answer.Done.{Done as Left}
use Rattle.df_core.specs.declared.drive.Finish.{Finish}
use Rattle.df_core.specs.declared.drive.Finish.TheVariants as finish
use Rattle.df_core.specs.Answer.{RunSo}
use Rattle.df_core.specs.Told.{run_from}
use Rattle.wsc_words.specs.declared.key.Key.TheVariants as key
use Rattle.wsc_words.specs.Lines.{Given}
use Rattle.wsc_words.proofs.Results.{given_some}
use Rattle.wsc_top.specs.declared.status.Status.{Status}
use Rattle.wsc_top.specs.declared.status.Status.TheVariants.{Done, Budget, Fault}
use Rattle.job_read.specs.Job.{IsTextAnswer}
use Rattle.wsc_top.proofs.Reading.AnswersOnce.{RunsOnce}
use Rattle.wsc_top.proofs.Reading.AssembliesOnce.{WalksOnce}
use Rattle.asm_read.specs.Assembly.{IsAssembly, assembly_limit}
use Rattle.asm_read.specs.Reads.{SourceCall, world_of}
use Rattle.run_text.specs.Texts.{ended_text, faulted_text, spent_text, firings_line, shown_names, called}
use Rattle.run_text.specs.Writes.{Writing}
use Rattle.stream_run.specs.declared.options.Options.{Options}
use Rattle.stream_run.specs.Ends.{text_of as run_text}
use Rattle.stream_top.specs.declared.status.Status.{Status as StreamStatus}
use Rattle.stream_top.specs.Lines.{keys, AsksForRun, HasBudget}
use Rattle.stream_top.specs.Calls as calls
use Rattle.stream_top.specs.Calls.{CallEnds, IsRefused, status_of}
use Rattle.stream_top.specs.Causes.{FailedStatus, EndsBy, CallCaused}
use Rattle.one_result.specs.OneResult.{is_among, IsCodeOf, input_section}
use Rattle.one_result.specs.Ends.{HasFailed}
use Rattle.one_result.specs.Streams.{as_status, StreamCalled, StreamHasRun, OneStreamResult, OneStreamAgain}
use Rattle.one_result.specs.Streams.{OneStreamCount, OneStreamJob, StreamMeaning, OneStreamFront, StreamsEnd}
use Rattle.one_result.specs.Streams.{StreamCodeEnds}
use Rattle.one_result.proofs.Words.{AreNumbers, flag_given, no_memory, not_memory, no_stats, not_stats}
use Rattle.one_result.proofs.Written.{is_told}
use Rattle.one_result.proofs.Jobs.{TextJob, told_result, jobs_alike}
use Rattle.one_result.proofs.Images.{ImageTold, rested, stopped, spent, TextImage, called_image, called_count}
use Rattle.one_result.proofs.Images.{texts_alike}
use Rattle.one_result.proofs.Compiled.{code_of, JobsTold, CodesTold}
use Rattle.one_result.proofs.Meanings.{told_sequential}
use Rattle.one_result.proofs.ImageFronts.{ActsGrow, images_begin}
use Rattle.one_result.proofs.Ported.{CodesRead}
use Rattle.one_result.proofs.Ending.{code_rests}

-- the flags of a run are those among the words
stream_numbers : (given : List Given) → HasBudget given → AreNumbers keys given
stream_numbers given budget key.Budget text g known e = (budget text e).0
stream_numbers given budget k text g known e = grind (arith, budget)

module _ (words : List (List ℕ)) (options : Options) (line : AsksForRun words options) where
  abbrev numbers_here : AreNumbers keys line.given
  numbers_here = stream_numbers line.given line.number

  pub memory_asked : options.memory ≡ is_among (codes "--memory") words
  memory_asked = ap (λ (o : Options). o.memory) line.is ∙ given_some key.Memory line.given
      ∙ flag_given key.Memory no_memory not_memory keys line.given numbers_here [] words line.gives

  pub stats_asked : options.stats ≡ is_among (codes "--stats") words
  stats_asked = ap (λ (o : Options). o.stats) line.is ∙ given_some key.Stats line.given
      ∙ flag_given key.Stats no_stats not_stats keys line.given numbers_here [] words line.gives

-- what is told of the run of an image
module _ (memory stats : Bool) (image : Image) (world : World) where
  abbrev names : List (List ℕ)
  names = shown_names image.arrays

  rested_as : (m s : Bool) (ws vs : List ℕ) (cs ds : List (List ℕ)) (n k : ℕ) → m ≡ memory → s ≡ stats
      → ws ≡ vs → cs ≡ ds → n ≡ k
      → ImageTold memory stats image world Done (ended_text memory stats names vs ds (firings_line k))
      → ImageTold memory stats image world Done (ended_text m s names ws cs (firings_line n))
  rested_as m s ws vs cs ds n k e f g h i t = rw (e, f, g, h, i) t

  spent_as : (s : Bool) (ws vs : List ℕ) (n : ℕ) → s ≡ stats → ws ≡ vs
      → ImageTold memory stats image world Budget (spent_text stats vs n)
      → ImageTold memory stats image world Budget (spent_text s ws n)
  spent_as s ws vs n e f t = rw (e, f) t

  stopped_as : (m : Bool) (a b : ℕ) (ws vs : List ℕ) (cs ds : List (List ℕ)) → m ≡ memory → a ≡ b → ws ≡ vs
      → cs ≡ ds
      → ImageTold memory stats image world Fault (faulted_text memory (called image.arrays b) names vs ds)
      → ImageTold memory stats image world Fault (faulted_text m (called image.arrays a) names ws cs)
  stopped_as m a b ws vs cs ds e f g h t = rw (e, f, g, h) t

  pub told_by_stream : (options : Options) → options.memory ≡ memory → options.stats ≡ stats → (how : Finish)
      (d : Left) → RunSo image world options.budget (run_from how d)
      → ImageTold memory stats image world (as_status (status_of how)) (run_text options image.arrays d how)
  told_by_stream options p q finish.Rest d r =
      let t = r.told in
      let tells = t.left t.steps (omega (arith, t.fired)) in
      let cost = subst (λ (n : ℕ). CostAtMost image world n) t.fired t.cost in
      rested_as options.memory options.stats d.printed (printed_words (mem image world t.steps).acts)
      (shown_cells image.arrays d.arrays) (shown_cells image.arrays (mem image world t.steps).cells) d.fired
      (length (walk image world t.steps)) p q tells.printed (ap (shown_cells image.arrays) tells.arrays)
      t.fired (rested t.steps t.no_fault cost)
  told_by_stream options p q finish.Budget d r =
      let t = r.told in
      spent_as options.stats d.printed (printed_words (mem image world t.front).acts) options.budget q
      t.left.printed (spent t.front options.budget t.within)
  told_by_stream options p q (finish.Fault array) d r =
      let t = r.told in
      stopped_as options.memory array (array_at image t.fault.inst.instr) d.printed
      (printed_words (mem image world t.time).acts) (shown_cells image.arrays d.arrays)
      (shown_cells image.arrays (mem image world t.time).cells) p t.array_is t.left.printed
      (ap (shown_cells image.arrays) t.left.arrays) (stopped t.time t.fault)

never_refused : (reads : SourceCall) (own : StreamStatus) (text : List ℕ) → IsRefused reads own text
    → is_told (as_status own) ≡ true → ⊥
never_refused reads own text (calls.IsRefused.failed u) e = cc
never_refused reads own text (calls.IsRefused.long u) e = cc
never_refused reads own text (calls.IsRefused.faulty why u) e = cc

module _ (memory stats : Bool) (words : List (List ℕ)) (reads : SourceCall) (writes : Writing)
    (text out : List ℕ) (arrays : is_among (codes "--memory") words ≡ memory)
    (counts : is_among (codes "--stats") words ≡ stats) (given : reads.left ≡ Some text)
    (before : writes.held ≡ Some []) (after : writes.holds ≡ Some out) where
  told_by_end : (own : StreamStatus) → CallEnds words reads writes own → is_told (as_status own) ≡ true
      → TextImage memory stats text (as_status own) out
  told_by_end own (calls.CallEnds.answered t (calls.IsAnswer.usage none same) w) e = absurd cc
  told_by_end own (calls.CallEnds.answered t (calls.IsAnswer.refused o line r) w) e =
      absurd (never_refused reads own t r e)
  told_by_end own (calls.CallEnds.ran options image input how due whole) e =
      let line = due.line in
      let asked = memory_asked words options line ∙ arrays in
      let counted = stats_asked words options line ∙ counts in
      let told = told_by_stream memory stats image (world_of input) options asked counted how whole.left
      whole.leaves.so in
      let same = read_is reads.left reads.after text due.read.text given due.read.takes in
      record {
        image = image;
        input = input;
        assembly = subst (λ (t : List ℕ). IsAssembly t image input) same due.read.assembly;
        told = subst (λ (t : List ℕ). ImageTold memory stats image (world_of input) (as_status
            (status_of how)) t)
            (wrote_is writes.held writes.holds (run_text options image.arrays whole.left how) out before
            after whole.wrote) told;
      }
  told_by_end own (calls.CallEnds.unwritten s t a front) e = absurd cc
  told_by_end own (calls.CallEnds.cut options image input due part) e = absurd cc
  told_by_end own (calls.CallEnds.starved same covered) e = absurd cc
  told_by_end own (calls.CallEnds.stopped options image input due part) e = absurd cc

called_stream : (memory stats : Bool) (text : List ℕ) (s : Status) (out : List ℕ)
    → StreamHasRun memory stats text s out → is_told s ≡ true → TextImage memory stats text s out
called_stream memory stats text s out h e =
    let c = h.called in
    subst (λ (v : Status). TextImage memory stats text v out) c.means
    (told_by_end memory stats h.words c.reads c.writes text out h.arrays h.counts c.given c.before c.after
    c.own c.ends (subst (λ (v : Status). is_told v ≡ true) (sym c.means) e))

pub one_stream_result : WalksOnce → OneStreamResult
one_stream_result known memory text s v out again h k e f = texts_alike known memory false text s v out again
    e f (called_stream memory false text s out h (told_result s e))
    (called_image memory text v again k (told_result v f))

pub one_stream_again : WalksOnce → OneStreamAgain
one_stream_again known memory stats text s v out again h k e f = texts_alike known memory stats text s v out
    again e f (called_stream memory stats text s out h (told_result s e))
    (called_stream memory stats text v again k (told_result v f))

pub one_stream_count : WalksOnce → OneStreamCount
one_stream_count known memory text s v out again h k e f = texts_alike known memory true text s v out again
    e f (called_stream memory true text s out h (told_result s e))
    (called_count memory text v again k (told_result v f))

pub one_stream_front : WalksOnce → ActsGrow → OneStreamFront
one_stream_front known grow memory flag text s out whole h k c = images_begin known grow memory flag text s
    out whole c (called_stream memory false text Budget out h refl)
    (called_image flag text s whole k (told_result s c))

-- on what `compile` has written of a job
module _ (codes : CodesTold) where
  code_job : (memory : Bool) (text code : List ℕ) (s : Status) (out : List ℕ) → IsCodeOf code text
      → StreamHasRun memory false (code ++ input_section text) s out → is_told s ≡ true
      → TextJob memory text s out
  code_job memory text code s out is h e = codes memory text code (code_of text code is) s out
      (called_stream memory false (code ++ input_section text) s out h e)

  pub one_stream_job : RunsOnce → ((text : List ℕ) → ExactlyOne (IsTextAnswer text)) → JobsTold
      → OneStreamJob
  one_stream_job law once told memory text code s v out again is h k e f =
      jobs_alike law memory text (once text) s v out again e f
      (code_job memory text code s out is h (told_result s e)) (told memory text v again k (told_result v f))

  pub stream_meaning : StreamMeaning
  stream_meaning memory text code s out is h e =
      let a = code_job memory text code s out is h (told_result s e) in
      (a.parts, a.input, a.job, told_sequential memory a.parts a.input s out e a.told)

-- that each call of `wss` has the status that its run decides
abbrev pub StreamsCaused : Type 0
StreamsCaused = (words : List (List ℕ)) (reads : SourceCall) (writes : Writing) (own : StreamStatus)
    → CallEnds words reads writes own → CallCaused words reads writes own

failed_as : (own : StreamStatus) → FailedStatus own → HasFailed (as_status own)
failed_as own (inl e) = inl (ap as_status e)
failed_as own (inr (inl e)) = inr (inl (ap as_status e))
failed_as own (inr (inr e)) = inr (inr (inl (ap as_status e)))

done_or_failed : (image : Image) (world : World) (budget : ℕ) (own : StreamStatus) → NoFault image world
    → CostAtMost image world budget → EndsBy image world budget own ⊎ FailedStatus own
    → (as_status own ≡ Done) ⊎ HasFailed (as_status own)
done_or_failed image world budget own none cost (inl ends) = inl (ap as_status (ends.done.1 (none, cost)))
done_or_failed image world budget own none cost (inr failed) = inr (failed_as own failed)

stream_ends : StreamsCaused → (text : List ℕ) (image : Image) (input : List ℕ) (words : List (List ℕ))
    (options : Options) (s : Status) (out : List ℕ) → IsAssembly text image input
    → NoFault image (world_of input) → CostAtMost image (world_of input) options.budget
    → length text ≤ assembly_limit → StreamCalled words text s out → AsksForRun words options
    → (s ≡ Done) ⊎ HasFailed s
stream_ends law text image input words options s out assembly none cost short c line =
    let caused = law words c.reads c.writes c.own c.ends in
    subst (λ (v : Status). (v ≡ Done) ⊎ HasFailed v) c.means
    (done_or_failed image (world_of input) options.budget c.own none cost
    (caused.ends options text image input line c.given short assembly))

pub streams_end : StreamsCaused → StreamsEnd
streams_end law text image input firings words options s out assembly none cost short c line may =
    stream_ends law text image input words options s out assembly none (λ t. omega (arith, cost t, may)) short
    c line

pub stream_code_ends : StreamsCaused → RunsOnce → ((text : List ℕ) → ExactlyOne (IsTextAnswer text))
    → CodesRead → StreamCodeEnds
stream_code_ends law runs_once once codes_read text code parts input turns end words options s out job runs is
    short c line may =
    let a = code_of text code is in
    let rests = code_rests runs_once once text code parts input turns end job runs a options.budget may in
    stream_ends law (code ++ input_section text) a.image a.input words options s out (codes_read text code a)
    rests.0 rests.1 short c line
