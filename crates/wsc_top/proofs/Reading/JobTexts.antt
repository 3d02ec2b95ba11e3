-- The jobs of a text.
use Rattle.std.specs.Prelude.{◌≡◌, ◌⊎◌, ℕ, zero, suc, ◌≤◌, ◌<◌, ◌==◌, Bool, true, List, [], ◌∷◌, ◌++◌, length}
use Rattle.std.specs.Prelude.{map, refl}
use Rattle.std.specs.List.{AllByRecursion}
use Rattle.std.proofs.Common.{sym, ap, ◌∙◌, subst, inl, inr, arith}
use Rattle.src_ast.specs.declared.lexeme.Place.{Place}
use Rattle.src_ast.specs.Lexemes.{start, after}
use Rattle.ws_isa.specs.Image.{Image}
use Rattle.wsc_top.specs.declared.batch.JobsFault.{JobsFault}
use Rattle.wsc_top.specs.declared.batch.JobsFault.TheVariants as fault
use Rattle.wsc_top.specs.declared.batch.JobsRefusal.TheVariants as refusal
use Rattle.asm_read.specs.Sections.{after_line, rest_of}
use Rattle.job_read.specs.Job.{IsJob, Refuses}
use Rattle.wave_build.specs.Compiled.{IsCompiled}
use Rattle.wsc_top.specs.Jobs.{separator, most_jobs, Piece, IsLast, first_job, behind, place_behind, JobsFrom}
use Rattle.wsc_top.specs.Jobs.{last, next, Jobs, ProgramAndInput, EachIsJob, IsCrowded, RefusesJobs, faulty}
use Rattle.wsc_top.specs.Jobs.{IsJobsFault}
use Rattle.wsc_top.specs.Threads.{Thread, HasJob, pieces_of, images_of, inputs_of}
use Rattle.wsc_top.specs.Running.{IsRead, IsPieceFault, AreRead}
use Rattle.ws_words.proofs.Lists.{map_push}

-- What stands behind a separator is shorter.

after_le : (bytes : List ℕ) → length (after_line bytes) ≤ length bytes
after_le [] = omega arith
after_le (b ∷ bytes) = grind (arith, after_le bytes)

after_short : (b : ℕ) (bytes : List ℕ) → length (after_line (b ∷ bytes)) ≤ length bytes
after_short b bytes = grind (arith, after_le)

rest_le : (marker : List ℕ) (at_line : Bool) (text : List ℕ) → length (rest_of marker at_line text)
    ≤ length text
rest_le marker at_line [] = omega arith
rest_le marker at_line (b ∷ bytes) = grind (arith, rest_le marker (b == 10) bytes)

pub behind_short : (text : List ℕ) → (IsLast text → ⊥) → length (behind text) < length text
behind_short text further = go (rest_of separator true text) further (rest_le separator true text)
  where
    go : (rest : List ℕ) → (rest ≡ [] → ⊥) → length rest ≤ length text → length (after_line rest)
        < length text
    go [] more le = absurd (more refl)
    go (b ∷ rest) more le = let short = after_short b rest in omega (arith, short, le)

-- Each text is some jobs, and in one way.

pub is_none : (xs : List ℕ) → (xs ≡ []) ⊎ (xs ≡ [] → ⊥)
is_none [] = inl refl
is_none (x ∷ xs) = inr (λ e. cc)

abbrev pub piece_at : Place → List ℕ → Piece
piece_at at text = record { at = at; text = first_job text }

pub jobs_exist : (n : ℕ) (at : Place) (text : List ℕ) → length text ≤ n
    → (more : List Piece) × JobsFrom at text (piece_at at text ∷ more)
jobs_exist zero at [] le = ([], last refl)
jobs_exist zero at (b ∷ text) le = absurd (omega (arith, le))
jobs_exist (suc n) at text le = go (λ further. jobs_exist n (place_behind at text) (behind text)
    (grind (arith, behind_short))) (is_none (rest_of separator true text))
  where
    go : ((IsLast text → ⊥) → (more : List Piece) × JobsFrom (place_behind at text) (behind text)
        (piece_at (place_behind at text) (behind text) ∷ more))
        → (rest_of separator true text ≡ []) ⊎ (rest_of separator true text ≡ [] → ⊥)
        → (more : List Piece) × JobsFrom at text (piece_at at text ∷ more)
    go there (inl e) = ([], last e)
    go there (inr further) = let r = there further in
        (piece_at (place_behind at text) (behind text) ∷ r.0, next further r.1)

pub jobs_once : (at : Place) (text : List ℕ) (ps qs : List Piece) → JobsFrom at text ps → JobsFrom at text qs
    → ps ≡ qs
jobs_once at text ps qs (last e) (last f) = refl
jobs_once at text ps qs (last e) (next further js) = absurd (further e)
jobs_once at text ps qs (next further js) (last e) = absurd (further e)
jobs_once at text ps qs (next {pieces = more} further js) (next {pieces = others} again ks) =
    grind (arith, jobs_once (place_behind at text) (behind text) more others js ks)

-- a separator and the jobs behind it
pub lift : (at place : Place) (text rest : List ℕ) (ps : List Piece) → place ≡ place_behind at text
    → rest ≡ behind text → (IsLast text → ⊥)
    → JobsFrom place rest ps → JobsFrom at text (piece_at at text ∷ ps)
lift at place text rest ps e f further js = next further (grind arith)

-- A fourth separator.

last_behind : (text rest : List ℕ) → rest ≡ behind text → (IsLast rest → ⊥) → IsLast text → ⊥
last_behind text rest e further l = further (subst IsLast (sym (e ∙ ap after_line l)) refl)

last_short : (at : Place) (text : List ℕ) (ps : List Piece) → IsLast text → JobsFrom at text ps
    → length ps ≤ 1
last_short at text ps l x = grind arith

more_short : (n : ℕ) (text rest : List ℕ) → rest ≡ behind text
    → ((at : Place) (ps : List Piece) → JobsFrom at rest ps → length ps ≤ n)
    → (at : Place) (ps : List Piece) → JobsFrom at text ps → length ps ≤ suc n
more_short n text rest e h at ps x = grind arith

module _ (text second third fourth : List ℕ) (is_second : second ≡ behind text)
    (is_third : third ≡ behind second) (is_fourth : fourth ≡ behind third) where
  pub few_jobs : IsLast fourth → (ps : List Piece) → Jobs text ps → length ps ≤ most_jobs
  few_jobs l ps js = more_short 3 text second is_second (more_short 2 second third is_third
      (grind (arith, more_short, last_short))) start ps js

  pub is_crowded : (two three four : Place) (own : List ℕ) (line : ℕ) → two ≡ place_behind start text
      → three ≡ place_behind two second → four ≡ place_behind three third
      → (IsLast fourth → ⊥) → own ≡ first_job fourth → line ≡ (after four own).line → IsCrowded text line
  is_crowded two three four own line at_two at_three at_four further own_is line_is =
      let none_third = last_behind third fourth is_fourth further in
      let none_second = last_behind second third is_third none_third in
      let none_first = last_behind text second is_second none_second in
      let r = jobs_exist (length (behind fourth)) (place_behind four fourth) (behind fourth) (omega arith) in
      record {
        before = piece_at start text ∷ piece_at two second ∷ piece_at three third ∷ [];
        fourth = piece_at four fourth;
        fifth = piece_at (place_behind four fourth) (behind fourth);
        more = r.0;
        split = grind (arith, lift);
        three = refl;
        line_is = grind arith;
      }

-- Reading one job after another.

abbrev pub Made : Thread → Type 0
Made thread = IsCompiled thread.parts thread.image

all_more : (P : Thread → Type 0) (xs : List Thread) (x : Thread) → AllByRecursion P xs → P x
    → AllByRecursion P (xs ++ x ∷ [])
all_more P [] x h p = (p, tt)
all_more P (y ∷ xs) x h p = (h.0, all_more P xs x h.1 p)

put_between : (xs : List Thread) (x : Thread) (ps : List Piece) → pieces_of xs ++ x.piece ∷ ps ≡ pieces_of
    (xs ++ x ∷ []) ++ ps
put_between [] x ps = refl
put_between (y ∷ xs) x ps = ap (λ (l : List Piece). y.piece ∷ l) (put_between xs x ps)

pub count_pieces : (xs : List Thread) → length (pieces_of xs) ≡ length xs
count_pieces [] = refl
count_pieces (x ∷ xs) = ap suc (count_pieces xs)

abbrev pub programs_of : List Thread → List ProgramAndInput
programs_of xs = map (λ x. (x.parts, x.input)) xs

pub each_of : (xs : List Thread) → AllByRecursion HasJob xs → EachIsJob (pieces_of xs) (programs_of xs)
each_of [] h = tt
each_of (x ∷ xs) h = (h.0, each_of xs h.1)

pub record Reading (text : List ℕ) (images : List Image) (inputs : List (List ℕ)) (at : Place)
    (rest : List ℕ) : Type 0 where
  pub done : List Thread
  pub each : AllByRecursion HasJob done
  pub compiled : AllByRecursion Made done
  pub images_are : images_of done ≡ images
  pub inputs_are : inputs_of done ≡ inputs
  pub leads : (ps : List Piece) → JobsFrom at rest ps → Jobs text (pieces_of done ++ ps)

module _ (text : List ℕ) (images : List Image) (inputs : List (List ℕ)) (at : Place) (rest own : List ℕ)
    (r : Reading text images inputs at rest) (own_is : own ≡ first_job rest) where
  module _ (image : Image) (input : List ℕ) (read : IsRead own image input) (more : List Image)
      (words : List (List ℕ)) (images_more : more ≡ images ++ image ∷ [])
      (inputs_more : words ≡ inputs ++ input ∷ []) where
    thread : Thread
    thread = record { piece = piece_at at rest; parts = read.0; input = input; image = image }

    is_job : HasJob thread
    unfolding thread
    is_job = subst (λ (t : List ℕ). IsJob t read.0 input) own_is read.1

    is_made : Made thread
    unfolding thread
    is_made = read.2

    are_images : images_of (r.done ++ thread ∷ []) ≡ more
    unfolding thread
    are_images = grind (arith, map_push, thread)

    are_inputs : inputs_of (r.done ++ thread ∷ []) ≡ words
    unfolding thread
    are_inputs = grind (arith, map_push, thread)

    lead_on : (ps : List Piece) → JobsFrom at rest (piece_at at rest ∷ ps)
        → Jobs text (pieces_of (r.done ++ thread ∷ []) ++ ps)
    unfolding thread
    lead_on ps js = grind (arith, put_between, thread)

    pub reads_more : (place : Place) (further : List ℕ) → place ≡ place_behind at rest → further ≡ behind rest
        → (IsLast rest → ⊥) → Reading text more words place further
    reads_more place further e f on =
        grind (arith, thread, all_more, is_job, is_made, are_images, are_inputs, lead_on, lift)

    pub reads_last : ((ps : List Piece) → Jobs text ps → length ps ≤ most_jobs) → IsLast rest
        → AreRead text more words
    reads_last few l =
        let split : Jobs text (pieces_of (r.done ++ thread ∷ [])) = subst (λ (ps : List Piece). Jobs text ps)
        (no_more (pieces_of (r.done ++ thread ∷ []))) (lead_on [] (last l)) in
        grind (arith, thread, count_pieces, all_more, is_job, is_made, are_images, are_inputs)
      where
        no_more : (xs : List Piece) → xs ++ [] ≡ xs
        no_more [] = refl
        no_more (x ∷ xs) = ap (λ (l : List Piece). x ∷ l) (no_more xs)

  pub reads_fault : ((ps : List Piece) → Jobs text ps → length ps ≤ most_jobs) → (e : JobsFault)
      → IsPieceFault at own e → IsJobsFault text e
  reads_fault few (fault.Refused (refusal.OfJob place q)) h =
      let more = jobs_exist (length rest) at rest (omega arith) in
      let split = r.leads (piece_at at rest ∷ more.0) more.1 in
      subst (λ (p : Place). RefusesJobs text (refusal.OfJob p q)) (sym h.0)
      (faulty (pieces_of r.done) (piece_at at rest) more.0 (programs_of r.done) q split (few _ split)
      (each_of r.done r.each)
      (subst (λ (t : List ℕ). Refuses t q) own_is h.1))
  reads_fault few e h = grind arith
