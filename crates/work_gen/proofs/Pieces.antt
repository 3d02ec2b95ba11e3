-- The pieces that are written are the printed form, and the words of the input.
use Rattle.std.specs.Prelude.{◌≡◌, ℕ, ◌+◌, ◌-◌, ◌*◌, ◌%◌, ◌<◌, List, [], ◌∷◌, ◌++◌, codes, decimal, flat_map}
use Rattle.std.specs.Prelude.{map}
use Rattle.std.proofs.Common.{ap, ◌∙◌, sym, arith, append_assoc, append-nil}
use Rattle.std.specs.List.{range_with_len}
use Rattle.std.proofs.lemmas.List.FromFn.{map-range_with_len_more}
use Rattle.std.proofs.lemmas.Grind.{flat_map-append}
use Rattle.src_ast.specs.Printed.{printed_form}
use Rattle.work_gen.specs.Program.{product}
use Rattle.work_gen.specs.Lines.{program_text}
use Rattle.work_gen.proofs.Sizes.{of_size}
use Rattle.work_gen.specs.Job.{size, square, word, words_of, further_word, words_line, job_text}

-- the pieces of a program are its printed form
program_is : (number : ℕ) → program_text (size number) (square number) ≡ printed_form (product (size number))
program_is number = (of_size (number % 9) (omega arith)).text

-- one word further
more_words : (number n : ℕ) → flat_map further_word (map (word number) (range_with_len 1 (n + 1))) ≡ flat_map
    further_word (map (word number) (range_with_len 1 n)) ++ (codes " " ++ decimal (word number (n + 1)))
more_words number n =
    ap (flat_map further_word) (map-range_with_len_more (word number) 1 n (n + 1) (omega arith))
    ∙ flat_map-append further_word (map (word number) (range_with_len 1 n)) (word number (n + 1) ∷ [])
    ∙ ap (λ t. flat_map further_word (map (word number) (range_with_len 1 n)) ++ t)
    (append-nil (further_word (word number (n + 1))))

pub further_step : (number n : ℕ) (old text spaced next : List ℕ) → text ≡ old ++ flat_map further_word
    (map (word number) (range_with_len 1 n)) → spaced ≡ text ++ codes " "
    → next ≡ spaced ++ decimal (word number (n + 1)) → next ≡ old ++ flat_map further_word
    (map (word number) (range_with_len 1 (n + 1)))
further_step number n old text spaced next e f g =
    let front = flat_map further_word (map (word number) (range_with_len 1 n)) in
    let last = decimal (word number (n + 1)) in
    g ∙ ap (λ t. t ++ last) (f ∙ ap (λ t. t ++ codes " ") e)
    ∙ append_assoc (old ++ front) (codes " ") last ∙ append_assoc old front (codes " " ++ last)
    ∙ ap (λ t. old ++ t) (sym (more_words number n))

framed : (p m w program marked whole : List ℕ) → program ≡ p → marked ≡ program ++ m → whole ≡ marked ++ w
    → whole ≡ p ++ m ++ w
framed p m w program marked whole e f g = g ∙ ap (λ t. t ++ w) (f ∙ ap (λ t. t ++ m) e)

some_cells : (r : ℕ) → 0 < (2 + r) * (2 + r)
some_cells r = grind arith

-- the program, its marker and its input are the job
pub job_is : (number last : ℕ) (program marked whole : List ℕ) → program ≡ program_text (size number)
    (square number) → marked ≡ program ++ codes "%input\n"
    → last ≡ 2 * square number - 1
    → whole ≡ marked ++ words_line (map (word number) (range_with_len 0 (last + 1)))
    → whole ≡ job_text number
unfolding job_text
job_is number last program marked whole e f l g =
    let count : last + 1 ≡ 2 * square number = omega (arith, l, some_cells (number % 9)) in
    framed (printed_form (product (size number))) (codes "%input\n") (words_line (words_of number)) program
    marked whole
    (e ∙ program_is number) f (g ∙ ap (λ t. marked ++ words_line (map (word number) (range_with_len 0 t)))
    count)
