-- Each generated job is a job.
use Rattle.std.specs.Prelude.{◌≡◌, ℕ, ◌+◌, ◌%◌, ◌<◌, true, not, IsTrue, List, [], ◌∷◌, ◌++◌, codes, decimal}
use Rattle.std.specs.Prelude.{flat_map, map, refl}
use Rattle.std.proofs.Common.{arith, append_assoc}
use Rattle.std.specs.Fmt.{digits}
use Rattle.std.specs.List.{AllByRecursion}
use Rattle.ws_words.specs.Outside.{IsMachineWord}
use Rattle.src_ast.specs.declared.lexeme.Place.{Place}
use Rattle.src_ast.specs.Lexemes.{after, is_blank}
use Rattle.src_ast.specs.Syntax.{Part}
use Rattle.src_ast.specs.Printed.{printed_form}
use Rattle.src_ast.specs.Rules.{IsAccepted}
use Rattle.src_ast.specs.Written.{IsWritten, ReadsTheSame}
use Rattle.src_ast.specs.Same.{Same}
use Rattle.work_gen.specs.Program.{product}
use Rattle.work_gen.specs.Job.{size, word, words_of, further_word, words_line, job_text}
use Rattle.work_gen.specs.Jobs.{IsGenerated}
use Rattle.work_gen.proofs.Sizes.{at_each, sizes}
use Rattle.asm_read.specs.Sections.{program_of, input_of, stop, next, InputWords}
use Rattle.wsc_top.specs.Generated.{IsGeneratedJob}
use Rattle.wsc_top.proofs.Reading.Bounds.{one_bound}
use Rattle.wsc_top.proofs.Reading.Markers.{is_plain, program_is, input_is, word_item, word_text}
use Rattle.ws_words.specs.Letters.{starts_without}

-- the printed form of each size is plain

plains : map (λ n. is_plain true (printed_form (product n))) sizes ≡ map (λ n. true) sizes
unfolding product digits
plains = refl

plain_size : (r : ℕ) → r < 9 → is_plain true (printed_form (product (2 + r))) ≡ true
plain_size r l = at_each (λ n. is_plain true (printed_form (product n))) (λ n. true) 2 9 r plains l

-- the two sections of a generated job
module _ (number : ℕ) where
  abbrev line : List ℕ
  line = words_line (words_of number)

  abbrev program : List ℕ
  program = printed_form (product (size number))

  plain : is_plain true program ≡ true
  plain = plain_size (number % 9) (omega arith)

  job_program : program_of (job_text number) ≡ program
  unfolding job_text
  job_program = program_is program plain line

  job_input : input_of (job_text number) ≡ line
  unfolding job_text
  job_input = input_is program plain line

-- words on a line are read

abbrev further : List ℕ → List ℕ
further ws = flat_map further_word ws ++ codes "\n"

further_blank : (ws : List ℕ) → IsTrue (starts_without (λ b. not (is_blank b)) (further ws))
further_blank [] = refl
further_blank (w ∷ ws) = refl

further_words : (at : Place) (ws : List ℕ) → AllByRecursion IsMachineWord ws → InputWords at (further ws) ws
further_words at [] h = record {
  place = after at (codes "\n");
  items = stop (codes "\n") refl refl refl
      refl;
}
further_words at (w ∷ ws) h =
    let more = further_words (after (after at (codes " ")) (decimal w)) ws h.1 in
    record {
      place = more.place;
      items = next w (codes " ") (decimal w) (further ws) (grind (arith, append_assoc)) refl (word_item w h.0
          (further ws) (further_blank ws)) (word_text w h.0 (further ws) (further_blank ws)) more.items;
    }

line_words : (at : Place) (ws : List ℕ) → AllByRecursion IsMachineWord ws → InputWords at (words_line ws) ws
line_words at [] h = record { place = after at (codes "\n"); items = stop (codes "\n") refl refl refl refl }
line_words at (w ∷ ws) h =
    let more = further_words (after at (decimal w)) ws h.1 in
    record {
      place = more.place;
      items = next w [] (decimal w) (further ws) (grind (arith, append_assoc)) refl (word_item w h.0 (further
          ws) (further_blank ws)) (word_text w h.0 (further ws) (further_blank ws)) more.items;
    }

are_words : (number : ℕ) (ks : List ℕ) → AllByRecursion IsMachineWord (map (word number) ks)
are_words number [] = tt
are_words number (k ∷ ks) = (omega arith, are_words number ks)

-- each generated job is a job
pub generated_job : (generated : (number : ℕ) → IsGenerated number)
    → ((parts : List Part) → IsWritten parts → ReadsTheSame parts)
    → ((a b : List Part) (f g : Place) → Same a b → IsAccepted a f → IsAccepted b g)
    → (number : ℕ) → (parts : List Part) × IsGeneratedJob number parts
generated_job generated reads accepted number =
    let known = generated number in
    let read = reads (product (size number)) known.written in (
      read.again,
      record {
        job = record {
          reads = record {
            ls = read.ls;
            finish = read.finish;
            lex = grind (arith, job_program);
            kept = read.kept;
            tree = read.tree;
            accepted = accepted (product (size number)) read.again read.finish read.finish read.same
                (known.accepted read.finish);
          };
          words = grind (arith, job_input, line_words, are_words);
        };
        same = read.same;
        bounded = grind (arith, one_bound);
        short = omega (arith, known.short);
      },
    )
