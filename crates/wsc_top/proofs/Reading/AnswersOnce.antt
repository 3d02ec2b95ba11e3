-- Each text has one answer alone for each task.
use Rattle.std.specs.Prelude.{◌≡◌, ℕ, ◌≤◌, ◌⊎◌, List, Option, None, Result, Ok, Err, refl}
use Rattle.std.proofs.Common.{ap, ◌∙◌, subst, inl, inr, arith}
use Rattle.ws_words.specs.Outside.{Outside, World, printed_words}
use Rattle.src_ast.specs.declared.fault.Refusal.{Refusal}
use Rattle.src_ast.specs.Syntax.{Part}
use Rattle.src_ast.specs.Runs.{Runs, Goes, Faults}
use Rattle.src_ast.specs.Printed.{printed_form}
use Rattle.src_ast.specs.Written.{ReadsTheSame}
use Rattle.src_ast.specs.Once.{ExactlyOne}
use Rattle.seq_run.specs.Laws.{HasAnswer}
use Rattle.ws_isa.specs.Image.{Image}
use Rattle.port_set.specs.Ports.{Told}
use Rattle.wsc_top.specs.declared.task.JobTask.{JobTask}
use Rattle.wsc_top.specs.declared.task.JobTask.TheVariants.{Run, Format, Compile, Plain}
use Rattle.wsc_top.specs.declared.task.PlainOptions.{PlainOptions}
use Rattle.wsc_top.specs.declared.status.Status.{Status}
use Rattle.wsc_top.specs.declared.status.Status.TheVariants.{Done, Refused, Budget, Fault}
use Rattle.wsc_top.specs.Texts.{going_text, turns_line, names_of, array_name}
use Rattle.run_text.specs.Texts.{ended_text, faulted_text}
use Rattle.asm_read.specs.Texts.{refusal_text}
use Rattle.job_read.specs.Job.{IsJob, Refuses, IsTextAnswer}
use Rattle.asm_read.specs.Reads.{world_of}
use Rattle.wsc_top.specs.Answers.{Yields, ran, formatted, compiled, ended, faulted, going, Answered, refused}
use Rattle.wsc_top.specs.Answers.{done, IsFixed, IsAnswer}

-- a run has one answer with each number of turns
pub record RunsOnce : Type 0 where
  pub some : (parts : List Part) (world : World) (turns : ℕ) → HasAnswer parts world turns
  pub one_end : (parts : List Part) (world : World) (n m : ℕ) (end done : Outside) → Runs parts world n end
      → Runs parts world m done → (n ≡ m) × (end ≡ done)
  pub one_fault : (parts : List Part) (world : World) (n m a b : ℕ) (s t : Outside) → Faults parts world n a s
      → Faults parts world m b t → (n ≡ m) × (a ≡ b) × (s ≡ t)
  pub one_going : (parts : List Part) (world : World) (turns : ℕ) (now still : Outside)
      → Goes parts world turns now → Goes parts world turns still → now ≡ still
  pub no_end_with_a_fault : (parts : List Part) (world : World) (n m a : ℕ) (end s : Outside)
      → Runs parts world n end → Faults parts world m a s → ⊥
  pub no_end_on_the_way : (parts : List Part) (world : World) (n turns : ℕ) (end now : Outside) → n ≤ turns
      → Runs parts world n end → Goes parts world turns now → ⊥
  pub no_fault_on_the_way : (parts : List Part) (world : World) (n turns a : ℕ) (s now : Outside) → n ≤ turns
      → Faults parts world n a s → Goes parts world turns now → ⊥

-- a status and a text
abbrev pub Reply : Type 0
Reply = Status × List ℕ

pub same_reply : (s t : Status) (a b : List ℕ) → s ≡ t → a ≡ b → ◌≡◌ {A = Reply} (s, a) (t, b)
same_reply s t a b e f = ap (λ x. (x, a)) e ∙ ap (λ x. (t, x)) f

-- what comes of a task, by its causes
abbrev Comes : JobTask → List Part → List ℕ → Status → List ℕ → Type 0
Comes (Run options) parts input status out = Unit {0}
Comes Format parts input status out = (status ≡ Done) × (out ≡ printed_form parts)
Comes Compile parts input status out = status ≡ Done
Comes (Plain options) parts input status out = ((n : ℕ) × (end : Outside) × Runs parts (world_of input) n end
    × (n ≤ options.turns) × (status ≡ Done) × (out ≡ ended_text options.memory options.stats (names_of parts)
    (printed_words end.acts) end.cells (turns_line n))) ⊎ (((n : ℕ) × (array : ℕ) × (state : Outside) × Faults
    parts (world_of input) n array state × (n ≤ options.turns) × (status ≡ Fault) × (out ≡ faulted_text
    options.memory (array_name (names_of parts) array) (names_of parts) (printed_words state.acts)
    state.cells)) ⊎ ((now : Outside) × Goes parts (world_of input) options.turns now × (status ≡ Budget) ×
    (out ≡ going_text (printed_words now.acts))))

comes : (task : JobTask) (parts : List Part) (input : List ℕ) (handed : List (Option Told)) (status : Status)
    (out : List ℕ) (image : Option Image) (back : List (Option Told))
    → Yields task parts input handed status out image back → Comes task parts input status out
comes task parts input handed status out again back (ran image c x t) = tt
comes task parts input handed status out image back (formatted r) = (refl, refl)
comes task parts input handed status out again back (compiled image h) = refl
comes task parts input handed status out image back (ended n end r w) = inl (n, end, r, w, refl, refl)
comes task parts input handed status out image back (faulted n array state f w) = grind arith
comes task parts input handed status out image back (going now g) = inr (inr (now, g, refl, refl))

-- what a task yields
abbrev IsYield : JobTask → List Part → List ℕ → List (Option Told) → Reply → Type 0
IsYield task parts input handed reply = (image : Option Image) × (back : List (Option Told))
    × Yields task parts input handed reply.0 reply.1 image back

module _ (law : RunsOnce) (parts : List Part) (input : List ℕ) (handed : List (Option Told)) where
  format_once : ReadsTheSame parts → ExactlyOne (IsYield Format parts input handed)
  format_once r = record {
    answer = (Done, printed_form parts);
    holds = (None, handed, formatted r);
    only = grind (arith, comes, same_reply);
  }

  module _ (options : PlainOptions) where
    -- a sequential run that ends within the turns
    module _ (n : ℕ) (end : Outside) (r : Runs parts (world_of input) n end) (w : n ≤ options.turns) where
      abbrev end_text : List ℕ
      end_text = ended_text options.memory options.stats (names_of parts) (printed_words end.acts) end.cells
          (turns_line n)

      only_ended : (status : Status) (out : List ℕ) → Comes (Plain options) parts input status out
          → ◌≡◌ {A = Reply} (status, out) (Done, end_text)
      only_ended status out (inl c) = let same = law.one_end parts (world_of input) c.0 n c.1 end c.2 r in
          grind (arith, same_reply)
      only_ended status out (inr (inl c)) =
          absurd (law.no_end_with_a_fault parts (world_of input) n c.0 c.1 end c.2 r c.3)
      only_ended status out (inr (inr c)) =
          absurd (law.no_end_on_the_way parts (world_of input) n options.turns end c.0 w r c.1)

      ended_once : ExactlyOne (IsYield (Plain options) parts input handed)
      ended_once = record {
        answer = (Done, end_text);
        holds = (None, handed, ended n end r w);
        only = λ other y. only_ended other.0 other.1 (grind (arith, comes));
      }

    -- one that meets an index fault within them
    module _ (n array : ℕ) (state : Outside) (f : Faults parts (world_of input) n array state)
        (w : n ≤ options.turns) where
      abbrev fault_text : List ℕ
      fault_text = faulted_text options.memory (array_name (names_of parts) array) (names_of parts)
          (printed_words state.acts) state.cells

      only_faulted : (status : Status) (out : List ℕ) → Comes (Plain options) parts input status out
          → ◌≡◌ {A = Reply} (status, out) (Fault, fault_text)
      only_faulted status out (inl c) =
          absurd (law.no_end_with_a_fault parts (world_of input) c.0 n array c.1 state c.2 f)
      only_faulted status out (inr (inl c)) =
          let same = law.one_fault parts (world_of input) c.0 n c.1 array c.2 state c.3 f in
          grind (arith, same_reply)
      only_faulted status out (inr (inr c)) =
          absurd (law.no_fault_on_the_way parts (world_of input) n options.turns array state c.0 w f c.1)

      faulted_once : ExactlyOne (IsYield (Plain options) parts input handed)
      faulted_once = record {
        answer = (Fault, fault_text);
        holds = (None, handed, faulted n array state f w);
        only = λ other y. only_faulted other.0 other.1 (grind (arith, comes));
      }

    -- one that wants more of them
    module _ (now : Outside) (g : Goes parts (world_of input) options.turns now) where
      abbrev going_so_far : List ℕ
      going_so_far = going_text (printed_words now.acts)

      only_going : (status : Status) (out : List ℕ) → Comes (Plain options) parts input status out
          → ◌≡◌ {A = Reply} (status, out) (Budget, going_so_far)
      only_going status out (inl c) =
          absurd (law.no_end_on_the_way parts (world_of input) c.0 options.turns c.1 now c.3 c.2 g)
      only_going status out (inr (inl c)) =
          absurd (law.no_fault_on_the_way parts (world_of input) c.0 options.turns c.1 c.2 now c.4 c.3 g)
      only_going status out (inr (inr c)) = grind (arith, same_reply)

      going_once : ExactlyOne (IsYield (Plain options) parts input handed)
      going_once = record {
        answer = (Budget, going_so_far);
        holds = (None, handed, going now g);
        only = λ other y. only_going other.0 other.1 (grind (arith, comes));
      }

    plain_once : HasAnswer parts (world_of input) options.turns
        → ExactlyOne (IsYield (Plain options) parts input handed)
    plain_once (inl e) = ended_once e.taken e.end e.runs e.within
    plain_once (inr (inl f)) = faulted_once f.turn f.array f.state f.faults f.within
    plain_once (inr (inr g)) = going_once g.now g.goes

  -- one thing alone comes of a task to a program that it takes
  yields_once : (task : JobTask) → IsFixed task → ReadsTheSame parts
      → ExactlyOne (IsYield task parts input handed)
  yields_once Format one same = format_once same
  yields_once (Plain options) one same = plain_once options (law.some parts (world_of input) options.turns)
  yields_once task one same = absurd one

-- a refused text
module _ (task : JobTask) (text : List ℕ) (handed : List (Option Told)) (r : Refusal)
    (refusal : Refuses text r)
    (only : (other : Result (List Part × List ℕ) Refusal) → IsTextAnswer text other → other ≡ Err r) where
  only_refused : (status : Status) (out : List ℕ) (image : Option Image) (back : List (Option Told))
      → Answered task text handed status out image back → ◌≡◌ {A = Reply} (status, out)
      (Refused, refusal_text r)
  only_refused status out image back (refused q h) = let same = only (Err q) h in grind arith
  only_refused status out image back (done parts input j y) = let bad = only (Ok (parts, input)) j in cc

  refusal_once : ExactlyOne (IsAnswer task text handed)
  refusal_once = record {
    answer = (Refused, refusal_text r);
    holds = (None, handed, refused r refusal);
    only = λ other a. only_refused other.0 other.1 a.0 a.1 a.2;
  }

-- a job
module _ (task : JobTask) (text : List ℕ) (handed : List (Option Told)) (parts : List Part) (input : List ℕ)
    (job : IsJob text parts input)
    (only : (other : Result (List Part × List ℕ) Refusal) → IsTextAnswer text other
    → other ≡ Ok (parts, input)) (one : ExactlyOne (IsYield task parts input handed)) where
  these : (others : List Part) (words : List ℕ) → IsJob text others words
      → ◌≡◌ {A = List Part × List ℕ} (others, words) (parts, input)
  these others words j = let same = only (Ok (others, words)) j in cc

  only_done : (status : Status) (out : List ℕ) (image : Option Image) (back : List (Option Told))
      → Answered task text handed status out image back → ◌≡◌ {A = Reply} (status, out) one.answer
  only_done status out image back (refused q h) = let bad = only (Err q) h in cc
  only_done status out image back (done others words j y) = one.only (status, out) (
    image,
    back,
    subst (λ (x : List Part × List ℕ). Yields task x.0 x.1 handed status out image back) (these others
        words j) y,
  )

  job_once : ExactlyOne (IsAnswer task text handed)
  job_once = record {
    answer = one.answer;
    holds = (one.holds.0, one.holds.1, done parts input job one.holds.2);
    only = λ other a. only_done other.0 other.1 a.0 a.1 a.2;
  }

-- each text has one answer alone, since it comes to one thing alone, and one thing comes of it
pub answered_once : (law : RunsOnce) (same : (parts : List Part) (text : List ℕ) (input : List ℕ)
    → IsJob text parts input → ReadsTheSame parts)
    → (task : JobTask) (text : List ℕ) (handed : List (Option Told)) → IsFixed task
    → ExactlyOne (IsTextAnswer text) → ExactlyOne (IsAnswer task text handed)
answered_once law same task text handed one e = go e.answer e.holds e.only
  where
    go : (found : Result (List Part × List ℕ) Refusal) → IsTextAnswer text found
        → ((other : Result (List Part × List ℕ) Refusal) → IsTextAnswer text other → other ≡ found)
        → ExactlyOne (IsAnswer task text handed)
    go (Ok (parts, input)) job only = job_once task text handed parts input job only (yields_once law parts
        input handed task one (same parts text input job))
    go (Err r) h only = refusal_once task text handed r h only
