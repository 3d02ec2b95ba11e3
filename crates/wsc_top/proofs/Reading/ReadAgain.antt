-- What is printed is read again.
use Rattle.std.specs.Prelude.{◌≡◌, ℕ, ◌==◌, not, IsTrue, true, List, [], ◌++◌, codes, flat_map, Option, Some}
use Rattle.std.specs.Prelude.{Ok, Err, refl}
use Rattle.std.proofs.Common.{sym, ap, ◌∙◌, subst, append_assoc, length-append, arith}
use Rattle.std.proofs.lemmas.List.{take_at}
use Rattle.std.specs.List.{list_all, AllByRecursion}
use Rattle.ws_words.specs.Outside.{IsMachineWord}
use Rattle.src_ast.specs.declared.lexeme.Place.{Place}
use Rattle.src_ast.specs.Syntax.{Part}
use Rattle.port_set.specs.Ports.{Told}
use Rattle.ws_isa.specs.Image.{Image}
use Rattle.ws_isa.specs.Formed.{Formed}
use Rattle.ws_isa.specs.Sound.{Sound}
use Rattle.df_core.specs.Core.{core_opening}
use Rattle.df_core.specs.declared.engine.Event.{Event}
use Rattle.asm_text.specs.Printed.{printed}
use Rattle.asm_text.specs.Reading.{read}
use Rattle.trace_check.specs.declared.events.Lined.{Lined}
use Rattle.trace_check.specs.declared.recording.TraceEnd.{TraceEnd}
use Rattle.trace_check.specs.declared.recording.TraceEnd.TheVariants as end
use Rattle.trace_check.specs.declared.replaying.Replayed.{Replayed}
use Rattle.trace_check.specs.Recorded.{Traces}
use Rattle.trace_check.specs.Replays.{Replays, StopsAt}
use Rattle.trace_check.specs.Traces.{AllFit, events_in, events_text, numbered}
use Rattle.trace_check.proofs.Written.{events_again}
use Rattle.wsc_top.specs.declared.status.Status.{Status}
use Rattle.wsc_top.specs.declared.status.Status.TheVariants.{Done}
use Rattle.wsc_top.specs.declared.task.JobTask.TheVariants.{Compile}
use Rattle.wsc_top.specs.declared.task.AssemblyTask.TheVariants.{Replay}
use Rattle.asm_read.specs.Reads.{world_of}
use Rattle.asm_read.specs.Assembly.{IsAssembly}
use Rattle.asm_read.specs.Sections.{after_line, input_place, trace_section, before_trace, trace_of}
use Rattle.asm_read.specs.Sections.{trace_line}
use Rattle.asm_read.specs.Sections.{InputItems, stop, next, InputWords}
use Rattle.wsc_top.specs.Texts.{with_input}
use Rattle.run_text.specs.Texts.{word_line}
use Rattle.wsc_top.specs.Traced as traces
use Rattle.wsc_top.specs.Traced.{traced_text, trace_status, replayed_text, IsTraced, illegal, made}
use Rattle.wsc_top.specs.Traced.{IsReplayed, missing, faulty, HasTrace, CanReplay}
use Rattle.wsc_top.specs.Answers.{Yields, compiled, AssemblyYields, replayed, AssemblyAnswered, refused, done}
use Rattle.asm_read.proofs.Once.{BreachesBreak, one_assembly, never_both}
use Rattle.wsc_top.proofs.Told.Replays.{one_trace}
use Rattle.asm_text.proofs.Printing.Shown.{not_percent}
use Rattle.wsc_top.proofs.Reading.Markers.{is_plain, plain_line, rest_plain, rest_end, line_ends}
use Rattle.wsc_top.proofs.Reading.Markers.{lone_program, no_input, program_is, input_is, plain_words}
use Rattle.wsc_top.proofs.Reading.Markers.{word_lines}

-- the sections of a text with an input and a trace section
module _ (program : List ℕ) (plain : is_plain true program ≡ true) (input : List ℕ)
    (words : is_plain true input ≡ true) (events : List ℕ) where
  abbrev section : List ℕ
  section = codes "%trace\n" ++ events

  abbrev front : List ℕ
  front = program ++ codes "%input\n" ++ input

  abbrev whole : List ℕ
  whole = front ++ codes "%trace\n" ++ events

  whole_is : whole ≡ front ++ section
  whole_is = append_assoc front (codes "%trace\n") events

  section_is : trace_section whole ≡ section
  section_is = grind (arith, whole_is, append_assoc, input_is, rest_plain, rest_end, line_ends, words)

  some_section : trace_section whole ≡ [] → ⊥
  some_section e = let f : [] ≡ section = sym e ∙ section_is in cc

  events_are : trace_of whole ≡ events
  events_are = ap after_line section_is

  before_is : before_trace whole ≡ front
  before_is = grind (arith, section_is, whole_is, length-append, take_at)

-- the words of an input section are below 2^64
are_words : (at place : Place) (text rest words : List ℕ) → InputItems at text words place rest
    → AllByRecursion IsMachineWord words
are_words at place text rest words (stop blanks e b n o) = tt
are_words at place text rest words (next {words = others} w blanks bytes further e b i t more) =
    (t.2, are_words _ place further rest others more)

comes_to_rest : (how : TraceEnd) → trace_status how ≡ Done → how ≡ end.Rest
comes_to_rest how e = grind arith

-- what is known of printed images
module _ (again : (image : Image) → Formed image → read (printed image) ≡ Ok image)
    (bytes : (image : Image) → Formed image → IsTrue (list_all (λ b. not (b == 37)) (printed image)))
    (ends : (image : Image) → (front : List ℕ) × (printed image ≡ front ++ codes "\n")) where
  plain_image : (image : Image) → Formed image → is_plain true (printed image) ≡ true
  plain_image image formed = let end = ends image in grind (arith, is_plain, plain_line, not_percent, formed)

  pub image_again : (image : Image) → Formed image → Sound image → IsAssembly (printed image) image []
  image_again image formed sound =
      let at = input_place (printed image) in
      let plain = plain_image image formed in
      record {
        reads = ap read (lone_program (printed image) plain) ∙ again image formed;
        sound = sound;
        words = subst (λ t. InputWords at t []) (sym (no_input (printed image) plain))
            (word_lines at [] [] refl tt);
      }

  pub input_again : (image : Image) (words : List ℕ) → Formed image → Sound image
      → AllByRecursion IsMachineWord words → IsAssembly (with_input (printed image) words) image words
  input_again image words formed sound are =
      let at = input_place (with_input (printed image) words) in
      let plain = plain_image image formed in
      let lines = flat_map word_line words in
      record {
        reads = ap read (program_is (printed image) plain lines) ∙ again image formed;
        sound = sound;
        words = subst (λ t. InputWords at t words) (sym (input_is (printed image) plain lines))
            (word_lines at [] words refl are);
      }

  pub compiled_again : (parts : List Part) (input : List ℕ) (handed back : List (Option Told)) (out : List ℕ)
      (image : Image) → Yields Compile parts input handed Done out (Some image) back
      → IsAssembly out image [] × ((words : List ℕ) → AllByRecursion IsMachineWord words
      → IsAssembly (with_input out words) image words)
  compiled_again parts input handed back out image (compiled same is) =
      (image_again image is.formed is.sound, λ words are. input_again image words is.formed is.sound are)

  -- a trace of an image on these words
  module _ (formed_read : (text : List ℕ) (image : Image) → read text ≡ Ok image → Formed image)
      (spelled : (first : ℕ) (events : List Event) → AllFit events → events_in first (events_text events)
      ≡ Ok (numbered first events))
      (budget : ℕ) (text : List ℕ) (image : Image) (input : List ℕ) (status : Status) (out : List ℕ)
      (is : IsAssembly text image input) (told : IsTraced budget image input status out) where
    formed : Formed image
    formed = formed_read _ image is.reads

    words : AllByRecursion IsMachineWord input
    words = are_words _ _ _ _ input is.words.items

    abbrev lines : List ℕ
    lines = flat_map word_line input

    abbrev text_again : List ℕ
    text_again = traced_text image input told.events

    before_again : IsAssembly (before_trace text_again) image input
    before_again = subst (λ t. IsAssembly t image input)
        (sym (before_is (printed image) (plain_image image formed) lines (plain_words input words)
        (events_text told.events))) (input_again image input formed is.sound words)

    trace_again : HasTrace text_again (numbered (trace_line text_again) told.events)
    trace_again = record {
      there = grind (arith, some_section, plain_image, formed, plain_words, words);
      events = ap (events_in (trace_line text_again))
          (grind (arith, events_are, plain_image, formed, plain_words, words)) ∙ spelled (trace_line
          text_again) told.events told.fit;
    }

    pub traced_again : IsAssembly (before_trace out) image input × HasTrace out
        (numbered (trace_line out) told.events) × CanReplay out image input
    traced_again = grind (arith, before_again, trace_again, events_again)

    -- the answer of `replay` to it
    abbrev Again : Status → List ℕ → Option Image → Type 0
    Again replied reply kept = (replied ≡ Done) × (kept ≡ Some image)
        × ((r : Replayed) × Replays image (world_of input) (numbered (trace_line out) told.events) r
        × (reply ≡ replayed_text r) × (status ≡ Done → r.rest ≡ true))

    module _ (breaks : BreachesBreak)
        (stops : (first line : ℕ) → StopsAt image (core_opening image (world_of input))
        (numbered first told.events) line → ⊥)
        (rests : Traces image (world_of input) budget told.events end.Rest → (first : ℕ) (r : Replayed)
        → Replays image (world_of input) (numbered first told.events) r → r.rest ≡ true)
      where
        abbrev trace : List Lined
        trace = numbered (trace_line out) told.events

        has : HasTrace out trace
        has = traced_again.1

        made_again : (r : Replayed) → Replays image (world_of input) trace r
            → Again Done (replayed_text r) (Some image)
        made_again r p = (
          refl,
          refl,
          (
            r,
            p,
            refl,
            λ e. rests (subst (Traces image (world_of input) budget told.events)
                (comes_to_rest told.how (sym told.status_is ∙ e)) told.traces) (trace_line out) r p,
          ),
        )

        replays_so : (replied : Status) (reply : List ℕ) (kept : Option Image)
            → IsReplayed out image input replied reply kept → Again replied reply kept
        replays_so replied reply kept (missing e) = absurd (has.there e)
        replays_so replied reply kept (faulty kind line n e) =
            absurd (let f : Ok trace ≡ Err (kind, line) = sym has.events ∙ e in cc)
        replays_so replied reply kept (traces.IsReplayed.read there h (illegal line s)) =
            absurd (stops (trace_line out) line
            (subst (λ (t : List Lined). StopsAt image (core_opening image (world_of input)) t line)
            (one_trace out there trace h has) s))
        replays_so replied reply kept (traces.IsReplayed.read there h (made r p)) =
            made_again r (subst (λ (t : List Lined). Replays image (world_of input) t r)
            (one_trace out there trace h has) p)

        yields_so : (other : Image) (more : List ℕ) (handed back : List (Option Told)) (replied : Status)
            (reply : List ℕ) (kept : Option Image) → image ≡ other → input ≡ more
            → AssemblyYields Replay out other more handed replied reply kept back → Again replied reply kept
        yields_so other more handed back replied reply kept e f (replayed r ends) =
            replays_so replied reply kept (subst (λ (i : Image). IsReplayed out i input replied reply kept)
            (sym e) (subst (λ (ws : List ℕ). IsReplayed out other ws replied reply kept) (sym f) r))

        pub replayed_again : (handed back : List (Option Told)) (replied : Status) (reply : List ℕ)
            (kept : Option Image) → AssemblyAnswered Replay out handed replied reply kept back
            → Again replied reply kept
        replayed_again handed back replied reply kept (refused r why) =
            absurd (never_both (before_trace out) breaks image input r traced_again.0 why)
        replayed_again handed back replied reply kept (done other more assembly yields) =
            let one = one_assembly (before_trace out) image other input more traced_again.0 assembly in
            yields_so other more handed back replied reply kept one.0 one.1 yields
