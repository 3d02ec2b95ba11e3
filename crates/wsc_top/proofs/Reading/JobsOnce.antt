-- Each text comes to one thing alone: some jobs, or one refusal.
use Rattle.std.specs.Prelude.{◌≡◌, ◌⊎◌, ℕ, ◌≤◌, List, [], ◌∷◌, ◌++◌, length, Result, Ok, Err, refl}
use Rattle.std.proofs.Common.{sym, ap, ◌∙◌, subst, inl, inr, arith, length-append}
use Rattle.src_ast.specs.declared.fault.Refusal.{Refusal}
use Rattle.src_ast.specs.Lexemes.{start, after}
use Rattle.src_ast.specs.Syntax.{Part}
use Rattle.src_ast.specs.Once.{ExactlyOne}
use Rattle.wsc_top.specs.declared.batch.JobsRefusal.{JobsRefusal}
use Rattle.wsc_top.specs.declared.batch.JobsRefusal.TheVariants.{Threads, OfJob}
use Rattle.job_read.specs.Job.{Refuses, IsTextAnswer}
use Rattle.wsc_top.specs.Jobs.{most_jobs, Piece, Jobs, ProgramAndInput, EachIsJob, AreJobs, IsCrowded}
use Rattle.wsc_top.specs.Jobs.{RefusesJobs, crowded, faulty, IsJobsAnswer}
use Rattle.wsc_top.proofs.Reading.JobTexts.{jobs_exist, jobs_once}
use Rattle.wsc_top.proofs.Told.RunsAlike.{one_refusal, refused_job, one_job}

same_first : (x y : Piece) (xs ys : List Piece) → x ∷ xs ≡ y ∷ ys → x ≡ y
same_first x y xs ys e = cc

same_rest : (x y : Piece) (xs ys : List Piece) → x ∷ xs ≡ y ∷ ys → xs ≡ ys
same_rest x y xs ys e = cc

-- what stands behind lists of one length
same_fourth : (xs ys : List Piece) (p q : Piece) (ps qs : List Piece) → length xs ≡ length ys
    → xs ++ p ∷ ps ≡ ys ++ q ∷ qs → p ≡ q
same_fourth [] [] p q ps qs n e = same_first p q ps qs e
same_fourth (x ∷ xs) (y ∷ ys) p q ps qs n e = same_fourth xs ys p q ps qs (omega (arith, n))
    (same_rest x y (xs ++ p ∷ ps) (ys ++ q ∷ qs) e)
same_fourth xs ys p q ps qs n e = grind arith

crowd_count : (text : List ℕ) (line : ℕ) (c : IsCrowded text line) (ps : List Piece) → Jobs text ps
    → length ps ≤ most_jobs → ⊥
crowd_count text line c ps js few = grind (arith, jobs_once, length-append)

one_line : (text : List ℕ) (line other : ℕ) → IsCrowded text line → IsCrowded text other → line ≡ other
one_line text line other c d = grind (arith, jobs_once, same_fourth)

module _ (once : (text : List ℕ) → ExactlyOne (IsTextAnswer text)) where
  pub one_each : (ps : List Piece) (js ks : List ProgramAndInput) → EachIsJob ps js → EachIsJob ps ks
      → js ≡ ks
  one_each (p ∷ ps) (j ∷ js) (x ∷ ks) h k =
      let here : j ≡ x = one_job p.text (once p.text) j.0 x.0 j.1 x.1 h.0 k.0 in
      ap (λ (l : List ProgramAndInput). j ∷ l) (one_each ps js ks h.1 k.1)
      ∙ ap (λ (y : ProgramAndInput). y ∷ ks) here
  one_each ps js ks h k = grind arith

  job_within : (before : List Piece) (p : Piece) (further : List Piece) (js : List ProgramAndInput)
      (r : Refusal) → EachIsJob (before ++ p ∷ further) js → Refuses p.text r → ⊥
  job_within [] p further [] r h q = absurd h
  job_within [] p further (j ∷ js) r h q = refused_job p.text (once p.text) r j.0 j.1 q h.0
  job_within (b ∷ before) p further [] r h q = absurd h
  job_within (b ∷ before) p further (j ∷ js) r h q = job_within before p further js r h.1 q

  one_fault : (xs ys : List Piece) (p q : Piece) (ps qs : List Piece) (js ks : List ProgramAndInput)
      (r s : Refusal) → xs ++ p ∷ ps ≡ ys ++ q ∷ qs
      → EachIsJob xs js → EachIsJob ys ks → Refuses p.text r → Refuses q.text s → OfJob p.at r ≡ OfJob q.at s
  one_fault [] [] p q ps qs js ks r s e h k a b =
      let same = same_first p q ps qs e in
      let here : r ≡ s = one_refusal q.text (once q.text) r s (subst (λ (x : Piece). Refuses x.text r) same a)
      b in
      ap (λ (x : Piece). OfJob x.at r) same ∙ ap (λ (x : Refusal). OfJob q.at x) here
  one_fault [] (y ∷ ys) p q ps qs js (j ∷ ks) r s e h k a b = absurd (refused_job y.text (once y.text) r j.0
      j.1 (subst (λ (x : Piece). Refuses x.text r) (same_first p y ps (ys ++ q ∷ qs) e) a) k.0)
  one_fault (x ∷ xs) [] p q ps qs [] ks r s e h k a b = absurd h
  one_fault (x ∷ xs) [] p q ps qs (j ∷ js) ks r s e h k a b = absurd (refused_job x.text (once x.text) s j.0
      j.1 (subst (λ (z : Piece). Refuses z.text s) (sym (same_first x q (xs ++ p ∷ ps) qs e)) b) h.0)
  one_fault (x ∷ xs) (y ∷ ys) p q ps qs [] ks r s e h k a b = absurd h
  one_fault (x ∷ xs) (y ∷ ys) p q ps qs (j ∷ js) (i ∷ ks) r s e h k a b =
      one_fault xs ys p q ps qs js ks r s (same_rest x y (xs ++ p ∷ ps) (ys ++ q ∷ qs) e) h.1 k.1 a b
  one_fault xs (y ∷ ys) p q ps qs js [] r s e h k a b = absurd k

  pub never_both : (text : List ℕ) (js : List ProgramAndInput) (r : JobsRefusal) → AreJobs text js
      → RefusesJobs text r → ⊥
  never_both text js r a (crowded line c) = crowd_count text line c a.pieces a.split a.few
  never_both text js r a (faulty before p further ks q split few each h) =
      grind (arith, job_within, jobs_once)

  pub one_jobs : (text : List ℕ) (js ks : List ProgramAndInput) → AreJobs text js → AreJobs text ks → js ≡ ks
  one_jobs text js ks a b = grind (arith, one_each, jobs_once)

  pub one_jobs_refusal : (text : List ℕ) (r s : JobsRefusal) → RefusesJobs text r → RefusesJobs text s → r ≡ s
  one_jobs_refusal text r s (crowded line c) (crowded other d) = ap Threads (one_line text line other c d)
  one_jobs_refusal text r s (crowded line c) (faulty before p further ks q split few each h) =
      absurd (crowd_count text line c (before ++ p ∷ further) split few)
  one_jobs_refusal text r s (faulty before p further ks q split few each h) (crowded line c) =
      absurd (crowd_count text line c (before ++ p ∷ further) split few)
  one_jobs_refusal text r s (faulty xs p ps js q split few each h) (faulty ys x qs ks z divide less all k) =
      one_fault xs ys p x ps qs js ks q z (jobs_once start text _ _ split divide) each all h k

  pub alike : (text : List ℕ) (x y : Result (List ProgramAndInput) JobsRefusal) → IsJobsAnswer text x
      → IsJobsAnswer text y → x ≡ y
  alike text x y h k = grind (arith, one_jobs, never_both, one_jobs_refusal)

  -- the first of them that is no job
  record FirstFault (ps : List Piece) : Type 0 where
    before : List Piece
    piece : Piece
    further : List Piece
    jobs : List ProgramAndInput
    refusal : Refusal
    whole : ps ≡ before ++ piece ∷ further
    each : EachIsJob before jobs
    refuses : Refuses piece.text refusal

  decide : (ps : List Piece) → ((js : List ProgramAndInput) × EachIsJob ps js) ⊎ FirstFault ps
  decide [] = inl ([], tt)
  decide (p ∷ ps) = go (once p.text).answer (once p.text).holds (decide ps)
    where
      go : (x : Result (List Part × List ℕ) Refusal) → IsTextAnswer p.text x
          → ((js : List ProgramAndInput) × EachIsJob ps js) ⊎ FirstFault ps
          → ((js : List ProgramAndInput) × EachIsJob (p ∷ ps) js) ⊎ FirstFault (p ∷ ps)
      go (Ok (parts, input)) h (inl js) = inl ((parts, input) ∷ js.0, (h, js.1))
      go (Ok (parts, input)) h (inr f) = inr (record {
        before = p ∷ f.before;
        piece = f.piece;
        further = f.further;
        jobs = (parts, input) ∷ f.jobs;
        refusal = f.refusal;
        whole = ap (λ (l : List Piece). p ∷ l) f.whole;
        each = (h, f.each);
        refuses = f.refuses;
      })
      go (Err r) h found = inr (record {
        before = [];
        piece = p;
        further = ps;
        jobs = [];
        refusal = r;
        whole = refl;
        each = tt;
        refuses = h;
      })

  few_answer : (text : List ℕ) (ps : List Piece) → Jobs text ps → length ps ≤ most_jobs
      → (x : Result (List ProgramAndInput) JobsRefusal) × IsJobsAnswer text x
  few_answer text ps split few = go (decide ps)
    where
      go : ((js : List ProgramAndInput) × EachIsJob ps js) ⊎ FirstFault ps
          → (x : Result (List ProgramAndInput) JobsRefusal) × IsJobsAnswer text x
      go (inl js) = (Ok js.0, record { pieces = ps; split = split; few = few; each = js.1 })
      go (inr f) = (
        Err (OfJob f.piece.at f.refusal),
        faulty f.before f.piece f.further f.jobs f.refusal (subst (Jobs text) f.whole split)
            (subst (λ (l : List Piece). length l ≤ most_jobs) f.whole few) f.each f.refuses,
      )

  answer : (text : List ℕ) (ps : List Piece) → Jobs text ps → (x : Result (List ProgramAndInput) JobsRefusal)
      × IsJobsAnswer text x
  answer text [] split = few_answer text [] split (omega arith)
  answer text (a ∷ []) split = few_answer text (a ∷ []) split (omega arith)
  answer text (a ∷ b ∷ []) split = few_answer text (a ∷ b ∷ []) split (omega arith)
  answer text (a ∷ b ∷ c ∷ []) split = few_answer text (a ∷ b ∷ c ∷ []) split (omega arith)
  answer text (a ∷ b ∷ c ∷ d ∷ []) split = few_answer text (a ∷ b ∷ c ∷ d ∷ []) split (omega arith)
  answer text (a ∷ b ∷ c ∷ d ∷ e ∷ more) split = (
    Err (Threads (after d.at d.text).line),
    crowded (after d.at d.text).line (record {
      before = a ∷ b ∷ c ∷ [];
      fourth = d;
      fifth = e;
      more = more;
      split = split;
      three = refl;
      line_is = refl;
    }),
  )

  pub jobs_answer_once : (text : List ℕ) → ExactlyOne (IsJobsAnswer text)
  jobs_answer_once text = let r = jobs_exist (length text) start text (omega arith) in
      grind (arith, answer, alike)
