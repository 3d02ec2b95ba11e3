-- The run of several threads.
use Rattle.std.specs.Prelude.{◌≡◌, ℕ, suc, ◌≤◌, List, [], ◌∷◌, length, slice_get, Option, Some, None, refl}
use Rattle.std.specs.Prelude.{IfSome, IfOk, OnErr, Result}
use Rattle.std.proofs.Common.{sym, ap, ◌∙◌, subst, arith}
use Rattle.ws_isa.specs.Image.{Image}
use Rattle.port_set.specs.Ports.{Told}
use Rattle.port_set.specs.declared.slots.Slots.{Slots}
use Rattle.port_set.specs.Slots.{AllOpen, contents}
use Rattle.store_buf.specs.Outdoors.{AllTell, world_with}
use Rattle.store_buf.specs.declared.finish.RunEnd.{RunEnd}
use Rattle.multi_wave.specs.Parts.{Alone, EndSo, EndsAlone}
use Rattle.wsc_top.specs.declared.status.Status.{Status}
use Rattle.wsc_top.specs.declared.status.Status.TheVariants.{Done}
use Rattle.wsc_top.specs.declared.task.RunOptions.{RunOptions}
use Rattle.wsc_top.specs.Answers.{TellWords}
use Rattle.wsc_top.specs.Jobs.{most_jobs}
use Rattle.wsc_top.specs.Threads.{no_ports, ThreadsDo, none, more, status_of, Thread, images_of, inputs_of}
use Rattle.wsc_top.specs.Threads.{ExecutesAlone, HaveBegun}
use Rattle.wsc_top.specs.Running.{alone_at, StatusText, ThreadTold, BeforeSo, RunEnds, AllTold}
use Rattle.wsc_top.proofs.Told.Runs.{run_executes, run_begun}

-- Slots without ports.

pub no_ports_tell : AllTell no_ports
no_ports_tell = grind arith

pub no_ports_words : TellWords no_ports
no_ports_words = (no_ports_tell, (tt, (tt, (tt, (tt, (tt, (tt, (tt, tt))))))))

-- What is told of the parts.

single : (x : Status) → status_of (x ∷ []) ≡ x
single x = grind arith

told_status : (s : Status) (ss : List Status) → status_of (s ∷ status_of ss ∷ []) ≡ status_of (s ∷ ss)
told_status s ss = grind (arith, single)

module _ {P : Type 0} (tells : P → Told) (options : RunOptions) where
  abbrev Fits : ℕ → List Thread → List (Option Told) → StatusText → List (Option Told) → Type 0
  Fits t threads handed told back = (statuses : List Status) × ThreadsDo (ExecutesAlone options) t threads
      handed statuses told.1 back × (told.0 ≡ status_of statuses)

  abbrev alone_of : List (Option Told) → Thread → Alone
  alone_of handed x = record {
    image = x.image;
    world = world_with x.input handed;
    handed = handed;
    budget = options.budget;
  }

  fits_one : (t : ℕ) (x : Thread) (xs : List Thread) (handed others : List (Option Told)) (end : RunEnd P)
      (further told : StatusText) → EndsAlone tells (alone_of handed x) end
      → ThreadTold options t x.image end.finish further told → Fits (suc t) xs no_ports further others
      → Fits t (x ∷ xs) handed told (contents tells end.ports)
  fits_one t x xs handed others end further told ends is fits =
      let runs = run_executes options x.image (world_with x.input handed) handed (contents tells end.ports)
      end.finish is.0 is.1 ends.0 is.2 in (
        is.0 ∷ fits.0,
        subst (λ (o : List ℕ). ThreadsDo (ExecutesAlone options) t (x ∷ xs) handed (is.0 ∷ fits.0) o
            (contents tells end.ports)) (sym is.4) (more runs fits.1),
        is.3 ∙ ap (λ (s : Status). status_of (is.0 ∷ s ∷ [])) fits.2 ∙ told_status is.0 fits.0,
      )

  abbrev EndsOf : List Thread → List (Option Told) → List (Option (RunEnd P)) → Type 0
  EndsOf [] handed [] = Unit {0}
  EndsOf [] handed (e ∷ es) = EndSo tells None e × EndsOf [] handed es
  EndsOf (x ∷ xs) handed [] = ⊥
  EndsOf (x ∷ xs) handed (e ∷ es) = EndSo tells (Some (alone_of handed x)) e × EndsOf xs no_ports es

  abbrev ToldOf : ℕ → List Thread → List (Option (RunEnd P)) → StatusText → Type 0
  ToldOf t xs [] told = told ≡ (Done, [])
  ToldOf t [] (e ∷ es) told = (further : StatusText) × BeforeSo options t None e further told
      × ToldOf (suc t) [] es further
  ToldOf t (x ∷ xs) (e ∷ es) told = (further : StatusText) × BeforeSo options t (Some x.image) e further told
      × ToldOf (suc t) xs es further

  silent : (t : ℕ) (es : List (Option (RunEnd P))) (told : StatusText) → ToldOf t [] es told
      → told ≡ (Done, [])
  silent t [] told is = is
  silent t (e ∷ es) told is = is.1 ∙ silent (suc t) es is.0 is.2

  fits_none : (t : ℕ) (handed : List (Option Told)) (told : StatusText) → told ≡ (Done, [])
      → Fits t [] handed told handed
  fits_none t handed told e = (
    [],
    subst (λ (r : StatusText). ThreadsDo (ExecutesAlone options) t [] handed [] r.1 handed) (sym e) none,
    ap (λ (r : StatusText). r.0) e,
  )

  fits_all : (t : ℕ) (xs : List Thread) (handed : List (Option Told)) (es : List (Option (RunEnd P)))
      (told : StatusText) → EndsOf xs handed es → ToldOf t xs es told → (back : List (Option Told))
      × Fits t xs handed told back
  fits_all t [] handed es told ends is = (handed, fits_none t handed told (silent t es told is))
  fits_all t (x ∷ xs) handed (Some end ∷ es) told ends is =
      let r = fits_all (suc t) xs no_ports es is.0 ends.1 is.2 in
      (contents tells end.ports, fits_one t x xs handed r.0 end is.0 told ends.0 is.1 r.1)
  fits_all t (x ∷ xs) handed es told ends is = grind arith

  -- the ports are those of the first
  fits_first : (t : ℕ) (x : Thread) (xs : List Thread) (handed : List (Option Told)) (end : RunEnd P)
      (es : List (Option (RunEnd P))) (told : StatusText) → EndsOf (x ∷ xs) handed (Some end ∷ es)
      → ToldOf t (x ∷ xs) (Some end ∷ es) told
      → Fits t (x ∷ xs) handed told (contents tells end.ports)
  fits_first t x xs handed end es told ends is =
      let r = fits_all (suc t) xs no_ports es is.0 ends.1 is.2 in fits_one t x xs handed r.0 end is.0 told
      ends.0 is.1 r.1

  abbrev list_of : RunEnds P → List (Option (RunEnd P))
  list_of ends = ends.first ∷ ends.second ∷ ends.third ∷ ends.fourth ∷ []

  -- each end is that of its thread
  abbrev pub EachEnds : List Image → List (List ℕ) → List (Option Told) → RunEnds P → Type 0
  EachEnds images inputs handed ends = EndSo tells (alone_at options.budget handed images inputs 0) ends.first
      × EndSo tells (alone_at options.budget no_ports images inputs 1) ends.second
      × EndSo tells (alone_at options.budget no_ports images inputs 2) ends.third
      × EndSo tells (alone_at options.budget no_ports images inputs 3) ends.fourth

  ends_of : (xs : List Thread) (handed : List (Option Told)) (ends : RunEnds P) → 1 ≤ length xs
      → length xs ≤ most_jobs → EachEnds (images_of xs) (inputs_of xs) handed ends
      → EndsOf xs handed (list_of ends)
  ends_of [] handed ends some few h = absurd (omega (arith, some))
  ends_of (a ∷ b ∷ c ∷ d ∷ e ∷ xs) handed ends some few h = absurd (omega (arith, few))
  ends_of xs handed ends some few h = (h.0, (h.1, (h.2, (h.3, tt))))

  told_of : (xs : List Thread) (ends : RunEnds P) (told : StatusText) → 1 ≤ length xs → length xs ≤ most_jobs
      → AllTold options (images_of xs) ends told → ToldOf 1 xs (list_of ends) told
  told_of [] ends told some few h = absurd (omega (arith, some))
  told_of (a ∷ b ∷ c ∷ d ∷ e ∷ xs) ends told some few h = absurd (omega (arith, few))
  told_of xs ends told some few h =
      (h.second, h.first_is, (h.third, h.second_is, (h.fourth, h.third_is, ((Done, []), h.fourth_is, refl))))

  first_of' : (xs : List Thread) (handed : List (Option Told)) (first : Option (RunEnd P))
      (es : List (Option (RunEnd P))) (end : RunEnd P) (told : StatusText) → first ≡ Some end → 1 ≤ length xs
      → EndsOf xs handed (first ∷ es) → ToldOf 1 xs (first ∷ es) told
      → Fits 1 xs handed told (contents tells end.ports)
  first_of' [] handed first es end told e some ends is = absurd (omega (arith, some))
  first_of' (x ∷ xs) handed first es end told e some ends is = fits_first 1 x xs handed end es told (grind
      arith) (grind arith)

  -- where all is told, it is what the threads do
  pub all_executed : (xs : List Thread) (handed : List (Option Told)) (ends : RunEnds P) (end : RunEnd P)
      (told : StatusText) → ends.first ≡ Some end → 1 ≤ length xs → length xs ≤ most_jobs
      → EachEnds (images_of xs) (inputs_of xs) handed ends → AllTold options (images_of xs) ends told
      → (statuses : List Status) × ThreadsDo (ExecutesAlone options) 1 xs handed statuses told.1
      (contents tells end.ports) × (told.0 ≡ status_of statuses)
  all_executed xs handed ends end told e some few h is =
      first_of' xs handed ends.first (ends.second ∷ ends.third ∷ ends.fourth ∷ []) end told e some
      (ends_of xs handed ends some few h) (told_of xs ends told some few is)

  -- and in any case the first has begun
  pub has_begun : (xs : List Thread) (handed : List (Option Told)) (first : Option (RunEnd P))
      (end : RunEnd P) → first ≡ Some end → 1 ≤ length xs
      → EndSo tells (alone_at options.budget handed (images_of xs) (inputs_of xs) 0) first
      → HaveBegun xs handed (contents tells end.ports)
  has_begun xs handed first end e some h = grind (arith, run_begun)

-- The first thread has a part, and so an end.

first_part : (budget : ℕ) (handed : List (Option Told)) (images : List Image) (inputs : List (List ℕ))
    → 1 ≤ length inputs → length inputs ≡ length images
    → (a : Alone) × (alone_at budget handed images inputs 0 ≡ Some a)
first_part budget handed (i ∷ images) (w ∷ inputs) some same = (_, refl)
first_part budget handed images inputs some same = grind arith

-- no port of it is closed
pub first_open : {P : Type 0} (tells : P → Told) (budget : ℕ) (handed : List (Option Told))
    (images : List Image) (inputs : List (List ℕ)) (end : Option (RunEnd P)) (ports : Slots P)
    → 1 ≤ length inputs → length inputs ≡ length images
    → EndSo tells (alone_at budget handed images inputs 0) end → IfSome end (λ e. ports ≡ e.ports)
    → AllOpen (contents tells ports)
first_open tells budget handed images inputs None ports some same h is =
    grind (arith, first_part budget handed images inputs some same)
first_open tells budget handed images inputs (Some end) ports some same h is =
    let part = first_part budget handed images inputs some same in
    let ends : EndsAlone tells part.0 end = subst (λ (a : Option Alone). EndSo tells a (Some end)) part.1 h in
    subst (λ (s : Slots _). AllOpen (contents tells s)) (sym is) ends.1

count_inputs : (xs : List Thread) → length (inputs_of xs) ≡ length xs
count_inputs [] = refl
count_inputs (x ∷ xs) = ap suc (count_inputs xs)

-- The run of all, from what its pieces say.
module _ {P : Type 0} (tells : P → Told) (options : RunOptions) (images : List Image) (inputs : List (List ℕ))
    (handed : List (Option Told)) (some : 1 ≤ length inputs) (few : length inputs ≤ most_jobs)
    (ends : RunEnds P) (ports : Slots P) (ports_are : IfSome ends.first (λ e. ports ≡ e.ports))
    (each : EachEnds tells options images inputs handed ends) where
  pub told_runs : (told : StatusText) → AllTold options images ends told → (xs : List Thread)
      → images_of xs ≡ images → inputs_of xs ≡ inputs
      → (statuses : List Status) × ThreadsDo (ExecutesAlone options) 1 xs handed statuses told.1
      (contents tells ports) × (told.0 ≡ status_of statuses)
  told_runs told is xs i w = go ends.first refl ports_are
    where
      all_some : 1 ≤ length xs
      all_some = let n = count_inputs xs in let m = ap length w in omega (arith, some, n, m)

      all_few : length xs ≤ most_jobs
      all_few = let n = count_inputs xs in let m = ap length w in omega (arith, few, n, m)

      own : EachEnds tells options (images_of xs) (inputs_of xs) handed ends
      own = grind arith

      go : (first : Option (RunEnd P)) → ends.first ≡ first → IfSome first (λ e. ports ≡ e.ports)
          → (statuses : List Status) × ThreadsDo (ExecutesAlone options) 1 xs handed statuses told.1
          (contents tells ports) × (told.0 ≡ status_of statuses)
      go None e p = absurd (go_none xs all_some (grind arith))
        where
          go_none : (ys : List Thread) → 1 ≤ length ys
              → EndSo tells (alone_at options.budget handed (images_of ys) (inputs_of ys) 0) None → ⊥
          go_none [] n h = omega (arith, n)
          go_none (y ∷ ys) n h = h
      go (Some end) e p =
          let r = all_executed tells options xs handed ends end told e all_some all_few own (grind arith) in
          grind arith

  pub answer_runs : {E : Type 0} (answer : Result StatusText E)
      → IfOk answer (λ y. AllTold options images ends y)
      → IfOk answer (λ y. (xs : List Thread) → images_of xs ≡ images → inputs_of xs ≡ inputs
      → (statuses : List Status) × ThreadsDo (ExecutesAlone options) 1 xs handed statuses y.1
      (contents tells ports) × (y.0 ≡ status_of statuses))
  answer_runs answer is = grind (arith, told_runs)

  have_begun : (xs : List Thread) → images_of xs ≡ images → inputs_of xs ≡ inputs
      → HaveBegun xs handed (contents tells ports)
  have_begun xs i w = go xs ends.first (grind (arith, count_inputs)) ports_are (grind arith)
    where
      go : (ys : List Thread) (first : Option (RunEnd P)) → 1 ≤ length ys
          → IfSome first (λ e. ports ≡ e.ports)
          → EndSo tells (alone_at options.budget handed (images_of ys) (inputs_of ys) 0) first
          → HaveBegun ys handed (contents tells ports)
      go ys first n p h = grind (arith, has_begun)

  pub answer_begun : {E : Type 0} (answer : Result StatusText E)
      → OnErr answer ((xs : List Thread) → images_of xs ≡ images → inputs_of xs ≡ inputs
      → HaveBegun xs handed (contents tells ports))
  answer_begun answer = grind (arith, have_begun)

-- What is told of all, and the end of each, from the calls one after another.

pub all_told : {P E : Type 0} (options : RunOptions) (images : List Image) (ends : RunEnds P)
    (answer : Result StatusText E) (b c d : StatusText) (empty : List ℕ) (i0 i1 i2 i3 : Option Image)
    → i0 ≡ slice_get images 0 → i1 ≡ slice_get images 1 → i2 ≡ slice_get images 2
    → i3 ≡ slice_get images 3 → empty ≡ [] → BeforeSo options 4 i3 ends.fourth (Done, empty) d
    → BeforeSo options 3 i2 ends.third d c → BeforeSo options 2 i1 ends.second c b
    → IfOk answer (BeforeSo options 1 i0 ends.first b)
    → IfOk answer (AllTold options images ends)
all_told options images ends answer b c d empty i0 i1 i2 i3 e0 e1 e2 e3 e h3 h2 h1 h0 = grind arith

pub each_end : {P : Type 0} (tells : P → Told) (options : RunOptions) (images seen : List Image)
    (inputs : List (List ℕ)) (handed : List (Option Told)) (ends : RunEnds P) (p0 p1 p2 p3 : Option Alone)
    → seen ≡ images
    → p0 ≡ alone_at options.budget handed seen inputs 0 → p1 ≡ alone_at options.budget no_ports seen inputs 1
    → p2 ≡ alone_at options.budget no_ports seen inputs 2 → p3 ≡ alone_at options.budget no_ports seen
    inputs 3
    → EndSo tells p0 ends.first → EndSo tells p1 ends.second → EndSo tells p2 ends.third
    → EndSo tells p3 ends.fourth → EachEnds tells options images inputs handed ends
each_end tells options images seen inputs handed ends p0 p1 p2 p3 same e0 e1 e2 e3 h0 h1 h2 h3 = grind arith
