-- What stands for a call does what the call does: the callee's variables get their values at its entry, its
-- code is done on them, and the result is assigned.
use Rattle.std.proofs.Common.{ℕ, zero, suc, ◌+◌, ◌-◌, ◌≡◌, ◌<◌, ◌≤◌, List, [], ◌∷◌, ◌++◌, length, map, drop}
use Rattle.std.proofs.Common.{slice_set, Option, Some, None, refl, sym, ap, ◌∙◌, subst, arith}
use Rattle.std.proofs.Common.{append_assoc, length-append}
use Rattle.std.specs.List.{AllByRecursion}
use Rattle.std.proofs.lemmas.List.{set-append_left, set-append_right, length-set}
use Rattle.std.proofs.lemmas.List.{length-drop}
use Rattle.ws_words.specs.Outside.{Act, Outside, ProcState, zeros, with_acts, write}
use Rattle.ws_words.proofs.Numbers.{zeros_count}
use Rattle.ws_words.proofs.Lists.{all_append}
use Rattle.cfg_core.specs.Graph.{Term, Op, Assign}
use Rattle.cfg_core.specs.Rules.{TermIn, OpIn, TargetIn}
use Rattle.cfg_core.specs.Walk.{value, loads_of, values, all_loads, value_of, values_of, OpsOutcome, Done}
use Rattle.cfg_core.specs.Walk.{Out}
use Rattle.cfg_core.specs.Walk.{and_then, run_op, run_ops, with_result}
use Rattle.cfg_core.proofs.Outcomes.{run_append}
use Rattle.cfg_core.proofs.Quiet.{no_acts}
use Rattle.cfg_core.proofs.Spots.{values_count}
use Rattle.cfg_inline.specs.Inlined.{moved, moved_op, assigns, blanks, Site, target, site_ops}
use Rattle.cfg_inline.proofs.Embedded.{among, all_among, after_value, Counts, ops_count, ops_among, wider}
use Rattle.cfg_inline.proofs.Embedded.{value_wider, loads_wider}

values_blanks : (ts : List Term) (n : ℕ) (vars : List ℕ) (cells : List (List ℕ))
    → values (ts ++ blanks n) vars cells ≡ values ts vars cells ++ zeros n
values_blanks [] zero vars cells = refl
values_blanks [] (suc n) vars cells = ap (λ (zs : List ℕ). 0 ∷ zs) (values_blanks [] n vars cells)
values_blanks (t ∷ ts) n vars cells = ap (λ (zs : List ℕ). value t vars cells ∷ zs)
    (values_blanks ts n vars cells)

loads_blanks : (ts : List Term) (n : ℕ) (vars : List ℕ) (cells : List (List ℕ))
    → all_loads (ts ++ blanks n) vars cells ≡ all_loads ts vars cells
loads_blanks [] zero vars cells = refl
loads_blanks [] (suc n) vars cells = loads_blanks [] n vars cells
loads_blanks (t ∷ ts) n vars cells = ap (λ (zs : List Act). loads_of t vars cells ++ zs)
    (loads_blanks ts n vars cells)

pub blanks_in : (arrays v n : ℕ) → AllByRecursion (TermIn arrays v) (blanks n)
blanks_in arrays v zero = tt
blanks_in arrays v (suc n) = (tt, blanks_in arrays v n)

pub blanks_count : (ts : List Term) (n : ℕ) → length (ts ++ blanks n) ≡ length ts + n
blanks_count [] zero = refl
blanks_count [] (suc n) = let i = blanks_count [] n in omega (arith, i)
blanks_count (t ∷ ts) n = let i = blanks_count ts n in omega (arith, i)

-- the variable after some is set
set_next : (vs done js : List ℕ) (j a : ℕ) → slice_set (vs ++ (done ++ j ∷ js)) (length vs + length done) a
    ≡ vs ++ ((done ++ a ∷ []) ++ js)
set_next vs done js j a =
    let y : (length vs + length done) - length vs ≡ length done = omega arith in
    let z : length done - length done ≡ 0 = omega arith in
    set-append_right vs (done ++ j ∷ js) (length vs) (length vs + length done) a refl (omega arith)
    ∙ ap (λ n. vs ++ slice_set (done ++ j ∷ js) n a) y
    ∙ ap (λ (zs : List ℕ). vs ++ zs)
    (set-append_right done (j ∷ js) (length done) (length done) a refl (omega arith)
    ∙ ap (λ n. done ++ slice_set (j ∷ js) n a) z
    ∙ sym (append_assoc done (a ∷ []) js))

-- loads after loads
acts_after : (s : ProcState) (xs ys : List Act) → with_acts (with_acts s xs) ys ≡ with_acts s (xs ++ ys)
acts_after s xs ys = ap (λ (zs : List Act). record {
  vars = s.vars;
  out = record { cells = s.out.cells; input = s.out.input; left = s.out.left; acts = zs };
}) (append_assoc s.out.acts xs ys)

-- a call, on a caller's variables
module _ (arrays room : ℕ) (site : Site) (s : ProcState) where
  -- the caller after the return, from the callee's last state
  abbrev pub back : ProcState → ProcState
  back r = record {
    vars = with_result site.result (value_of site.body.result r).0 s.vars;
    out = (value_of site.body.result r).1.out;
  }

  -- the callee's code is done, and the caller has its result, with as many variables after; or both want a
  -- turn
  abbrev pub Finished : OpsOutcome → OpsOutcome → Type 0
  Finished (Done r j) (Done u i) =
      (i ≡ j) × ((post : List ℕ) × (length post ≡ room) × (u ≡ wider arrays post (back r)))
  Finished (Out o) (Out p) = o ≡ p
  Finished _ _ = ⊥

module _ (arrays : ℕ) where
  -- one term is assigned to the variable after some
  assigned_one : (t : Term) (s : ProcState) (done js : List ℕ) (j k : ℕ) → TermIn arrays (length s.vars) t
      → run_op (Assign (length s.vars + length done) t) (wider arrays (done ++ j ∷ js) s) k
      ≡ Done (wider arrays ((done ++ value t s.vars s.out.cells ∷ []) ++ js)
      (with_acts s (loads_of t s.vars s.out.cells))) k
  assigned_one t s done js j k i =
      ap (λ (zs : List Act). made zs (value t (s.vars ++ (done ++ j ∷ js)) s.out.cells))
      (loads_wider arrays (done ++ j ∷ js) t s.vars s.out.cells i)
      ∙ ap (λ n. made (loads_of t s.vars s.out.cells) n)
      (value_wider arrays (done ++ j ∷ js) t s.vars s.out.cells i)
      ∙ ap (λ (zs : List ℕ). Done (record {
        vars = zs;
        out = (with_acts s (loads_of t s.vars s.out.cells)).out;
      }) k) (set_next s.vars done js j (value t s.vars s.out.cells))
    where
      made : List Act → ℕ → OpsOutcome
      made zs n = Done (record {
        vars = slice_set (s.vars ++ (done ++ j ∷ js)) (length s.vars + length done) n;
        out = (with_acts s zs).out;
      }) k

  -- terms on the variables before are assigned in a row to the variables after
  pub assigned : (ts : List Term) (s : ProcState) (done js : List ℕ) (k : ℕ)
      → AllByRecursion (TermIn arrays (length s.vars)) ts → length ts ≤ length js
      → run_ops (assigns (length s.vars + length done) ts) (wider arrays (done ++ js) s) k
      ≡ Done (wider arrays (done ++ (values ts s.vars s.out.cells ++ drop (length ts) js))
      (with_acts s (all_loads ts s.vars s.out.cells))) k
  assigned [] s done js k i le = ap (λ r. Done (wider arrays (done ++ js) r) k) (sym (no_acts s))
  assigned (t ∷ ts) s done [] k i le = absurd (omega (arith, le))
  assigned (t ∷ ts) s done (j ∷ js) k i le =
      let v : ℕ = value t s.vars s.out.cells in
      let r : ProcState = with_acts s (loads_of t s.vars s.out.cells) in
      let more = length-append done (v ∷ []) in
      let count : suc (length s.vars + length done) ≡ length s.vars + length (done ++ v ∷ []) =
      omega (arith, more) in
      ap (λ o. and_then o (run_ops (assigns (suc (length s.vars + length done)) ts)))
      (assigned_one t s done js j k i.0)
      ∙ ap (λ n. run_ops (assigns n ts) (wider arrays ((done ++ v ∷ []) ++ js) r) k) count
      ∙ assigned ts r (done ++ v ∷ []) js k i.1 (omega (arith, le))
      ∙ ap (λ (zs : List ℕ). Done (wider arrays zs (with_acts r (all_loads ts s.vars s.out.cells))) k)
      (append_assoc done (v ∷ []) (values ts s.vars s.out.cells ++ drop (length ts) js))
      ∙ ap (λ (u : ProcState). Done (wider arrays
      (done ++ v ∷ (values ts s.vars s.out.cells ++ drop (length ts) js)) u) k)
      (acts_after s (loads_of t s.vars s.out.cells) (all_loads ts s.vars s.out.cells))

  -- a call of a procedure, and what stands for it, on a caller's variables with others after them
  module _ (room : ℕ) (site : Site) (s : ProcState) (js : List ℕ) (k : ℕ)
      (values_in : AllByRecursion (TermIn arrays (length s.vars)) site.values)
      (as_many : length site.values ≡ site.params) (params : site.params ≤ site.vars)
      (body_in : AllByRecursion (OpIn arrays site.vars) site.body.ops)
      (result_in : TermIn arrays site.vars site.body.result)
      (target_in : TargetIn (length s.vars) site.result)
      (long : length js ≡ room) (fits : site.vars < room) where
    abbrev V : ℕ
    V = length s.vars

    abbrev filled : List Term
    filled = site.values ++ blanks (site.vars - site.params)

    -- the callee's state at its entry
    abbrev pub inside : ProcState
    inside = record {
      vars = values site.values s.vars s.out.cells ++ zeros (site.vars - site.params);
      out = (values_of site.values s).1.out;
    }

    -- what is left of the variables after
    abbrev rest : List ℕ
    rest = drop (length filled) js

    filled_count : length filled ≡ site.vars
    filled_count = let n = blanks_count site.values (site.vars - site.params) in
        omega (arith, n, as_many, params)

    entry_count : length inside.vars ≡ site.vars
    entry_count =
        let n = length-append (values site.values s.vars s.out.cells) (zeros (site.vars - site.params)) in
        let m = values_count site.values s.vars s.out.cells in
        let z = zeros_count (site.vars - site.params) in omega (arith, n, m, z, as_many, params)

    rest_count : length rest ≡ room - site.vars
    rest_count = let n = length-drop (length filled) js in omega (arith, n, filled_count, long)

    -- the callee's variables get their values at its entry
    entered : run_ops (assigns V filled) (wider arrays js s) k ≡ Done (among arrays s.vars rest inside) k
    entered =
        let none : List ℕ = [] in
        let z : V ≡ V + length none = omega arith in
        ap (λ n. run_ops (assigns n filled) (wider arrays js s) k) z
        ∙ assigned filled s [] js k
        (all_append (TermIn arrays V) site.values (blanks (site.vars - site.params)) values_in
        (blanks_in arrays V (site.vars - site.params))) (omega (arith, filled_count, long, fits))
        ∙ ap (λ (zs : List ℕ). Done (wider arrays (zs ++ rest)
        (with_acts s (all_loads filled s.vars s.out.cells))) k)
        (values_blanks site.values (site.vars - site.params) s.vars s.out.cells)
        ∙ ap (λ (zs : List Act). Done (wider arrays (inside.vars ++ rest) (with_acts s zs)) k)
        (loads_blanks site.values (site.vars - site.params) s.vars s.out.cells)

    abbrev last : Op
    last = Assign (target (V + site.vars) site.result) (moved V site.body.result)

    given : (x : Option ℕ) → TargetIn V x → (r : ProcState) (j w : ℕ) (o : Outside)
        → length r.vars ≡ site.vars
        → (post : List ℕ) × (length post ≡ room)
        × (Done (record {
          vars = slice_set (s.vars ++ (r.vars ++ rest)) (target (V + site.vars) x) w;
          out = o;
        }) j ≡ Done (wider arrays post (record { vars = with_result x w s.vars; out = o })) j)
    given None i r j w o n =
        let z : (V + site.vars) - V ≡ site.vars = omega arith in
        let y : site.vars - site.vars ≡ 0 = omega arith in
        let c = length-append r.vars (slice_set rest 0 w) in
        let d = length-set rest 0 w in (
          r.vars ++ slice_set rest 0 w,
          omega (arith, c, d, n, rest_count, fits),
          ap (λ (zs : List ℕ). Done (record { vars = zs; out = o }) j)
              (set-append_right s.vars (r.vars ++ rest) V (V + site.vars) w refl (omega arith)
              ∙ ap (λ m. s.vars ++ slice_set (r.vars ++ rest) m w) z
              ∙ ap (λ (zs : List ℕ). s.vars ++ zs)
              (set-append_right r.vars rest site.vars site.vars w n (omega arith)
              ∙ ap (λ m. r.vars ++ slice_set rest m w) y)),
        )
    given (Some x) i r j w o n =
        let c = length-append r.vars rest in (
          r.vars ++ rest,
          omega (arith, c, n, rest_count, fits),
          ap (λ (zs : List ℕ). Done (record { vars = zs; out = o }) j)
              (set-append_left s.vars (r.vars ++ rest) x w i),
        )

    finished : (o : OpsOutcome) → Counts site.vars o
        → Finished arrays room site s o (and_then (all_among arrays s.vars rest o) (run_ops (last ∷ [])))
    finished (Done r j) n =
        let w = value_of site.body.result r in
        let set = given site.result target_in r j w.0 w.1.out n in
        subst (Finished arrays room site s (Done r j))
        (sym (ap (λ o. and_then o (run_ops [])) (after_value arrays s.vars rest site.body.result r
        (λ u m. Done (write u (target (V + site.vars) site.result) m) j)
        (subst (λ m. TermIn arrays m site.body.result) (sym n) result_in) ∙ set.2)))
        (refl, (set.0, set.1, refl))
    finished (Out o) n = refl

    -- what stands for the call does what the call does
    pub site_run : Finished arrays room site s (run_ops site.body.ops inside k)
        (run_ops (site_ops V site) (wider arrays js s) k)
    site_run =
        subst (Finished arrays room site s (run_ops site.body.ops inside k))
        (sym (run_append (assigns V filled) (map (moved_op V) site.body.ops ++ last ∷ [])
        (wider arrays js s) k
        ∙ ap (λ o. and_then o (run_ops (map (moved_op V) site.body.ops ++ last ∷ []))) entered
        ∙ run_append (map (moved_op V) site.body.ops) (last ∷ []) (among arrays s.vars rest inside) k
        ∙ ap (λ o. and_then o (run_ops (last ∷ [])))
        (ops_among arrays s.vars rest site.body.ops inside k
        (subst (λ n. AllByRecursion (OpIn arrays n) site.body.ops) (sym entry_count) body_in))))
        (finished (run_ops site.body.ops inside k)
        (subst (λ n. Counts n (run_ops site.body.ops inside k)) entry_count
        (ops_count site.body.ops inside k)))
