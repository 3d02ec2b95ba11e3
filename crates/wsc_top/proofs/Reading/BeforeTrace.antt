-- What stands in front of the trace section of a text has the text's program, and of its input section what
-- stands in front of the trace.
use Rattle.std.proofs.Common.{ℕ, ◌+◌, ◌==◌, ◌≡◌, ◌⊎◌, Bool, true, false, ◌&&◌, List, [], ◌∷◌, ◌++◌, length}
use Rattle.std.proofs.Common.{codes, if◌then◌else◌, refl, sym, ap, subst, ◌∙◌, inl, inr, arith}
use Rattle.std.proofs.lemmas.Bool.{cases_Bool}
use Rattle.std.proofs.lemmas.List.{append_cancel_right, length-append, append_assoc, append-nil}
use Rattle.std.proofs.Math.Seq.{take-append_seam}
use Rattle.std.specs.List.{AllByRecursion}
use Rattle.ws_words.proofs.Numbers.{eqb_is}
use Rattle.asm_read.specs.Sections.{ends_line, is_line, after_line, front_of, rest_of, program_of, input_of}
use Rattle.asm_read.specs.Sections.{trace_section, before_trace}
use Rattle.wsc_top.specs.Answers.{assembly_text}
use Rattle.wsc_top.specs.declared.task.AssemblyTask.{AssemblyTask}

-- Whether a line is a marker is told by its bytes up to its line feed.

feed_ends : (t : List ℕ) → ends_line (10 ∷ t) ≡ true
feed_ends t = grind arith

abbrev Feedless : List ℕ → Type 0
Feedless marker = AllByRecursion (λ (m : ℕ). (10 == m) ≡ false) marker

line_same : (marker x y v : List ℕ) → Feedless marker
    → is_line marker ((x ++ 10 ∷ y) ++ v) ≡ is_line marker (x ++ 10 ∷ y)
line_same [] [] y v h = feed_ends (y ++ v) ∙ sym (feed_ends y)
line_same [] (b ∷ []) y v h = refl
line_same [] (b ∷ c ∷ x) y v h = refl
line_same (m ∷ ms) [] y v h = grind arith
line_same (m ∷ ms) (b ∷ x) y v h = ap (λ (t : Bool). (b == m) && t) (line_same ms x y v h.1)

-- What follows a line stands behind a line feed, and what follows a front at the end.

after_feed : (t : List ℕ) → (after_line t ≡ []) ⊎ ((z : List ℕ) × (t ≡ z ++ 10 ∷ after_line t))
after_feed [] = inl refl
after_feed (b ∷ t) = go (after_feed t) (cases_Bool (b == 10))
  where
    go : (after_line t ≡ []) ⊎ ((z : List ℕ) × (t ≡ z ++ 10 ∷ after_line t))
        → ((b == 10) ≡ true) ⊎ ((b == 10) ≡ false)
        → (after_line (b ∷ t) ≡ []) ⊎ ((z : List ℕ) × (b ∷ t ≡ z ++ 10 ∷ after_line (b ∷ t)))
    go h (inl e) = inr ([], rw e (ap (λ (n : ℕ). n ∷ t) (eqb_is b 10 e)))
    go (inl h) (inr e) = inl (rw e h)
    go (inr h) (inr e) = inr (b ∷ h.0, rw e (ap (λ (r : List ℕ). b ∷ r) h.1))

front_rest : (marker : List ℕ) (at_line : Bool) (t : List ℕ)
    → front_of marker at_line t ++ rest_of marker at_line t ≡ t
front_rest marker at_line [] = refl
front_rest marker at_line (b ∷ t) = grind (arith, cases_Bool, front_rest marker (b == 10) t)

-- what follows the marker's line ends in these bytes, so a line feed stands in front of them
feed_before : (marker : List ℕ) (at_line : Bool) (w u v : List ℕ) (c : ℕ)
    → after_line (rest_of marker at_line (w ++ c ∷ v)) ≡ u ++ c ∷ v → (z : List ℕ) × (w ≡ z ++ 10 ∷ u)
feed_before marker at_line w u v c e = go (after_feed (rest_of marker at_line (w ++ c ∷ v)))
  where
    go : (after_line (rest_of marker at_line (w ++ c ∷ v)) ≡ [])
        ⊎ ((z : List ℕ) × (rest_of marker at_line (w ++ c ∷ v)
        ≡ z ++ 10 ∷ after_line (rest_of marker at_line (w ++ c ∷ v)))) → (z : List ℕ) × (w ≡ z ++ 10 ∷ u)
    go (inl none) = absurd (omega (arith, ap length (sym e ∙ none), length-append u (c ∷ v)))
    go (inr f) = (
      front_of marker at_line (w ++ c ∷ v) ++ f.0,
      append_cancel_right w ((front_of marker at_line (w ++ c ∷ v) ++ f.0) ++ 10 ∷ u) (c ∷ v)
          (grind (arith, append_assoc, front_rest marker at_line (w ++ c ∷ v))),
    )

after_more : (z u v : List ℕ) → after_line ((z ++ 10 ∷ u) ++ v) ≡ after_line (z ++ 10 ∷ u) ++ v
after_more [] u v = refl
after_more (b ∷ z) u v = grind (arith, cases_Bool (b == 10), after_more z u v)

-- the last bytes of what follows the marker's line can go
abbrev Parted : List ℕ → Bool → List ℕ → List ℕ → List ℕ → Type 0
Parted marker at_line w u v = (front_of marker at_line w ≡ front_of marker at_line (w ++ v))
    × (after_line (rest_of marker at_line w) ≡ u)

parted : (marker : List ℕ) → Feedless marker → (at_line : Bool) (w u v : List ℕ) (c : ℕ)
    → after_line (rest_of marker at_line (w ++ c ∷ v)) ≡ u ++ c ∷ v → Parted marker at_line w u (c ∷ v)
parted marker dry at_line [] u v c e =
    let f = feed_before marker at_line [] u v c e in
    absurd (omega (arith, ap length f.1, length-append f.0 (10 ∷ u)))
parted marker dry at_line (b ∷ w) u v c e =
    go (λ h. parted marker dry (b == 10) w u v c h) (cases_Bool (at_line && is_line marker (b ∷ w)))
  where
    feed : (z : List ℕ) × (b ∷ w ≡ z ++ 10 ∷ u)
    feed = feed_before marker at_line (b ∷ w) u v c e

    same : is_line marker (b ∷ w ++ c ∷ v) ≡ is_line marker (b ∷ w)
    same = grind (arith, line_same marker feed.0 u (c ∷ v) dry)

    more : after_line (b ∷ w ++ c ∷ v) ≡ after_line (b ∷ w) ++ c ∷ v
    more = grind (arith, after_more feed.0 u (c ∷ v))

    tests : (at_line && is_line marker (b ∷ w ++ c ∷ v)) ≡ (at_line && is_line marker (b ∷ w))
    tests = ap (λ (t : Bool). at_line && t) same

    chosen : (t : Bool) → (at_line && is_line marker (b ∷ w)) ≡ t → after_line (if t then b ∷ w ++ c ∷ v else
        rest_of marker (b == 10) (w ++ c ∷ v)) ≡ u ++ c ∷ v
    chosen t is = subst (λ (t : Bool). after_line (if t then b ∷ w ++ c ∷ v else
        rest_of marker (b == 10) (w ++ c ∷ v)) ≡ u ++ c ∷ v) (tests ∙ is) e

    go : (after_line (rest_of marker (b == 10) (w ++ c ∷ v)) ≡ u ++ c ∷ v
        → Parted marker (b == 10) w u (c ∷ v))
        → ((at_line && is_line marker (b ∷ w)) ≡ true) ⊎ ((at_line && is_line marker (b ∷ w)) ≡ false)
        → Parted marker at_line (b ∷ w) u (c ∷ v)
    go further (inl t) = (
      rw (t, tests ∙ t) refl,
      rw t (append_cancel_right (after_line (b ∷ w)) u (c ∷ v) (sym more ∙ chosen true t)),
    )
    go further (inr t) = let f = further (chosen false t) in (rw (t, tests ∙ t) (grind arith), rw t f.1)

parted_whole : (marker : List ℕ) → Feedless marker → (w u v : List ℕ)
    → after_line (rest_of marker true (w ++ v)) ≡ u ++ v → Parted marker true w u v
parted_whole marker dry w u [] e = grind (arith, append-nil)
parted_whole marker dry w u (c ∷ v) e = parted marker dry true w u v c e

-- what follows a line is a text's end
line_last : (t : List ℕ) → (z : List ℕ) × (t ≡ z ++ after_line t)
line_last [] = ([], refl)
line_last (b ∷ t) = go (line_last t) (cases_Bool (b == 10))
  where
    go : (z : List ℕ) × (t ≡ z ++ after_line t) → ((b == 10) ≡ true) ⊎ ((b == 10) ≡ false)
        → (z : List ℕ) × (b ∷ t ≡ z ++ after_line (b ∷ t))
    go h (inl e) = (b ∷ [], rw e refl)
    go h (inr e) = (b ∷ h.0, rw e (ap (λ (r : List ℕ). b ∷ r) h.1))

module _ (text : List ℕ) where
  abbrev words : List ℕ
  words = front_of (codes "%trace") true (input_of text)

  input_is : words ++ trace_section text ≡ input_of text
  input_is = front_rest (codes "%trace") true (input_of text)

  front : (z : List ℕ) × (text ≡ (z ++ words) ++ trace_section text)
  front =
      let l = line_last (rest_of (codes "%input") true text) in (
        program_of text ++ l.0,
        grind (arith, append_assoc, input_is, l.1, front_rest (codes "%input") true text),
      )

  long : length text ≡ length (front.0 ++ words) + length (trace_section text)
  long = ap length front.1 ∙ length-append (front.0 ++ words) (trace_section text)

  before_is : before_trace text ≡ front.0 ++ words
  before_is = grind (arith, long, take-append_seam (front.0 ++ words) (trace_section text))

  both : Parted (codes "%input") true (front.0 ++ words) words (trace_section text)
  both = parted_whole (codes "%input") (refl, (refl, (refl, (refl, (refl, (refl, tt))))))
      (front.0 ++ words) words (trace_section text) (ap input_of (sym front.1) ∙ sym input_is)

  pub same_program : program_of (before_trace text) ≡ program_of text
  same_program = ap program_of before_is ∙ both.0 ∙ ap program_of (sym front.1)

  pub words_before : input_of (before_trace text) ≡ front_of (codes "%trace") true (input_of text)
  words_before = ap input_of before_is ∙ both.1

-- The program of the part of a text that is read for a task.
pub program_for : (task : AssemblyTask) (text : List ℕ)
    → program_of text ≡ program_of (assembly_text task text)
program_for task text = grind (arith, same_program)
