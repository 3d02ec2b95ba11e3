-- The names of a written program's arrays can stand in an image.
use Rattle.std.proofs.Common.{ℕ, ◌≡◌, true, if◌then◌else◌, List, [], ◌∷◌, map, Option, Some, None, refl, sym}
use Rattle.std.proofs.Common.{subst}
use Rattle.std.specs.Prelude.{IsTrue}
use Rattle.std.specs.List.{AllByRecursion}
use Rattle.std.specs.Option.{is_some}
use Rattle.ws_isa.specs.Image as image
use Rattle.ws_isa.specs.Formed.{most_name, NameFormed}
use Rattle.src_ast.specs.Syntax.{Part, Array, Proc}
use Rattle.src_ast.specs.Written.{IsWritten}
use Rattle.cfg_core.specs.Graph.{GraphArray}
use Rattle.cfg_core.specs.Shown.{shown_arrays}
use Rattle.cfg_build.specs.Keeps.{arrays_of}
use Rattle.wave_gen.specs.Words.{array_of}
use Rattle.ws_words.specs.Letters.{is_word}

word_same : (text : List ℕ) → IsTrue (is_word text) → is_word text ≡ true
word_same [] h = h
word_same (b ∷ bytes) h = h

written_names : (parts : List Part) → IsWritten parts → AllByRecursion (λ (a : GraphArray). NameFormed a.name)
    (arrays_of parts)
unfolding most_name
written_names [] h = tt
written_names (Array x n at ∷ parts) h = ((word_same x.text h.0.0.word, h.0.0.short), written_names parts h.1)
written_names (Proc p ∷ parts) h = written_names parts h.1

-- a hidden array has no name
all_names : (xs : List GraphArray) → AllByRecursion (λ (a : GraphArray). NameFormed a.name) (shown_arrays xs)
    → AllByRecursion (λ (a : image.Array). NameFormed a.name) (map array_of xs)
all_names [] h = tt
all_names (a ∷ xs) h = go a.name refl h (λ i. all_names xs i)
  where
    go : (name : Option (List ℕ)) → a.name ≡ name → AllByRecursion (λ (a : GraphArray). NameFormed a.name)
        (if is_some name then a ∷ shown_arrays xs else shown_arrays xs)
        → (AllByRecursion (λ (a : GraphArray). NameFormed a.name) (shown_arrays xs)
        → AllByRecursion (λ (a : image.Array). NameFormed a.name) (map array_of xs))
        → NameFormed a.name × AllByRecursion (λ (a : image.Array). NameFormed a.name) (map array_of xs)
    go None e h rest = (subst NameFormed (sym e) tt, rest h)
    go (Some text) e h rest = (h.0, rest h.1)

pub names_formed : (parts : List Part) (xs : List GraphArray) → IsWritten parts
    → shown_arrays xs ≡ arrays_of parts → AllByRecursion (λ (a : image.Array). NameFormed a.name)
    (map array_of xs)
names_formed parts xs written shown =
    all_names xs (subst (AllByRecursion (λ (a : GraphArray). NameFormed a.name)) (sym shown)
    (written_names parts written))
