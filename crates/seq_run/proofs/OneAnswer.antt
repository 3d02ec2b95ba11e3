-- Each run has one answer, and what it leaves is what its acts leave.
use Rattle.std.proofs.Common.{ℕ, zero, suc, ◌≡◌, ◌+◌, ◌-◌, ◌<◌, ◌≤◌, ◌⊎◌, inl, inr, List, [], Option}
use Rattle.std.proofs.Common.{Some, None, length, refl, sym, ap, ◌∙◌, subst, arith}
use Rattle.ws_words.specs.Outside.{Act, Outside, World}
use Rattle.ws_words.specs.Past.{ActsBegin, AreWithin, FirstPast, after_acts}
use Rattle.src_ast.specs.Syntax.{Part}
use Rattle.src_ast.specs.Turns.{CallEnd, Returned, Stopped}
use Rattle.src_ast.specs.Meaning.{run, Passes, lengths_of}
use Rattle.src_ast.specs.Runs.{outside_of, acts_in, opened, Runs, Goes, Faults}
use Rattle.seq_run.specs.Resolved as resolved
use Rattle.seq_run.specs.Resolving.{program}
use Rattle.seq_run.specs.Firsts.{first_past}
use Rattle.seq_run.specs.Laws.{FaultsWithin, HasAnswer}
use Rattle.seq_run.proofs.Places.{run_same}
use Rattle.seq_run.proofs.Cost.{exactly, more_turns}
use Rattle.ws_words.proofs.Acts.{acts_of as acts_after, begins_all}
use Rattle.seq_run.proofs.Grows.{CallTells, run_tells}
use Rattle.seq_run.proofs.Fronts.{CallLonger, run_longer}
use Rattle.seq_run.proofs.FirstPasts.{all_within, found, not_within, within_front, one_array, one_before}

lt_or_le : (n m : ℕ) → (n < m) ⊎ (m ≤ n)
lt_or_le (suc n) (suc m) = by_order (lt_or_le n m)
  where
    by_order : (n < m) ⊎ (m ≤ n) → (suc n < suc m) ⊎ (suc m ≤ suc n)
    by_order h = grind arith
lt_or_le n m = grind arith

told : (o p : Outside) (more : List Act) → o.acts ≡ [] → p ≡ after_acts o more → p ≡ after_acts o p.acts
told o p more e h = grind (arith, acts_after)

call_told : (o : Outside) (e : CallEnd) → o.acts ≡ [] → CallTells o e
    → outside_of e ≡ after_acts o (outside_of e).acts
call_told o (Returned v p k) n h = told o p h.more n h.after
call_told o (Stopped p) n h = told o p h.more n h.after

longer_begins : (j : ℕ) (e f : CallEnd) → CallLonger j e f → ActsBegin (outside_of e).acts (outside_of f).acts
longer_begins j (Returned v p k) f h = subst (λ (x : CallEnd). ActsBegin p.acts (outside_of x).acts) (sym h)
    (begins_all p.acts)
longer_begins j (Stopped p) f h = h

module _ (parts : List Part) (world : World) where
  -- what the run leaves is what its acts leave
  pub acts_tell : (n : ℕ) → outside_of (run parts world n) ≡ after_acts (opened parts world)
      (acts_in parts world n)
  acts_tell n = call_told (opened parts world) (run parts world n) refl
      (subst (CallTells (opened parts world)) (sym (run_same parts world n))
      (run_tells (length (program parts).procs - 1) (program parts) world n))

  -- more turns, more acts
  pub fronts : (m n : ℕ) → m ≤ n → ActsBegin (acts_in parts world m) (acts_in parts world n)
  fronts m n le =
      let e : m + (n - m) ≡ n = omega (arith, le) in
      longer_begins (n - m) (run parts world m) (run parts world n)
      (subst (λ (x : CallEnd). CallLonger (n - m) x (run parts world n)) (sym (run_same parts world m))
      (subst (λ (x : CallEnd). CallLonger (n - m) (resolved.run (program parts) world m) x)
      (ap (resolved.run (program parts) world) e ∙ sym (run_same parts world n))
      (run_longer (length (program parts).procs - 1) (program parts) world m (n - m))))

  fault_at : (n c : ℕ) → first_past (lengths_of parts) (acts_in parts world n) ≡ Some c
      → ((m : ℕ) → m < n → AreWithin (lengths_of parts) (acts_in parts world m)) → FaultsWithin parts world n
  fault_at n c h f =
      let r = found (lengths_of parts) (acts_in parts world n) c h in
      let e : r.before ≡ (after_acts (opened parts world) r.before).acts =
      sym (acts_after (opened parts world) r.before) in
      record {
        turn = n;
        array = c;
        state = after_acts (opened parts world) r.before;
        within = omega arith;
        faults = record {
          first = subst (λ (xs : List Act). FirstPast (lengths_of parts) (acts_in parts world n) xs c) e
              r.first;
          sooner = f;
          left = ap (after_acts (opened parts world)) e;
        };
      }

  later : (m n : ℕ) → m ≤ n → FaultsWithin parts world m → FaultsWithin parts world n
  later m n le f = grind arith

  within_or_fault : (n : ℕ) → AreWithin (lengths_of parts) (acts_in parts world n)
      ⊎ FaultsWithin parts world n
  within_or_fault n = by_turns n
    where
      by_first : (n : ℕ) → ((m : ℕ) → m < n → AreWithin (lengths_of parts) (acts_in parts world m))
          → (r : Option ℕ) → first_past (lengths_of parts) (acts_in parts world n) ≡ r
          → AreWithin (lengths_of parts) (acts_in parts world n) ⊎ FaultsWithin parts world n
      by_first n f None e = grind (arith, all_within)
      by_first n f (Some c) e = inr (fault_at n c e f)

      by_last : (n : ℕ) → AreWithin (lengths_of parts) (acts_in parts world n) ⊎ FaultsWithin parts world n
          → AreWithin (lengths_of parts) (acts_in parts world (suc n)) ⊎ FaultsWithin parts world (suc n)
      by_last n (inr f) = inr (later n (suc n) (omega arith) f)
      by_last n (inl w) = by_first (suc n) (λ m lt. within_front (lengths_of parts) (acts_in parts world m)
          (acts_in parts world n) (fronts m n (omega (arith, lt))) w) _ refl

      by_turns : (n : ℕ) → AreWithin (lengths_of parts) (acts_in parts world n) ⊎ FaultsWithin parts world n
      by_turns zero = by_first 0 (λ m lt. absurd (omega (arith, lt))) _ refl
      by_turns (suc n) = by_last n (by_turns n)

  -- one of the three answers
  pub some_answer : (turns : ℕ) → HasAnswer parts world turns
  some_answer turns = by_first (within_or_fault turns)
    where
      by_end : (e : CallEnd) → run parts world turns ≡ e → AreWithin (lengths_of parts) (outside_of e).acts
          → HasAnswer parts world turns
      by_end (Stopped o) is w = grind arith
      by_end (Returned v o k) is w =
          let x = exactly (program parts) world turns v o k (sym (run_same parts world turns) ∙ is) in
          inl (record {
            taken = x.0;
            end = o;
            within = omega (arith, x.1);
            runs = record { passes = (v, run_same parts world x.0 ∙ x.2); within = w };
          })

      by_first : AreWithin (lengths_of parts) (acts_in parts world turns) ⊎ FaultsWithin parts world turns
          → HasAnswer parts world turns
      by_first (inr f) = inr (inl f)
      by_first (inl w) = by_end (run parts world turns) refl w

  -- a run that ended has ended with more turns
  pub passed : (n : ℕ) (end : Outside) → Passes parts world n end → (turns : ℕ) → n ≤ turns
      → (v : ℕ) × (run parts world turns ≡ Returned v end (turns - n))
  passed n end p turns le =
      let m = more_turns (program parts) world n p.0 end (turns - n) (sym (run_same parts world n) ∙ p.1) in
      grind (arith, run_same)

  same_in_time : (n m : ℕ) (end done : Outside) → n ≤ m → Passes parts world n end → Passes parts world m done
      → (n ≡ m) × (end ≡ done)
  same_in_time n m end done le p q = let r = passed n end p m le in grind arith

  -- it ends in one way
  pub one_end : (n m : ℕ) (end done : Outside) → Runs parts world n end → Runs parts world m done
      → (n ≡ m) × (end ≡ done)
  one_end n m end done a b = by_order (lt_or_le n m)
    where
      by_order : (n < m) ⊎ (m ≤ n) → (n ≡ m) × (end ≡ done)
      by_order (inl lt) = same_in_time n m end done (omega (arith, lt)) a.passes b.passes
      by_order (inr le) = let r = same_in_time m n done end le b.passes a.passes in (sym r.0, sym r.1)

  not_sooner : (n m a b : ℕ) (s t : Outside) → n < m → Faults parts world n a s → Faults parts world m b t → ⊥
  not_sooner n m a b s t lt f g = not_within (lengths_of parts) (acts_in parts world n) s.acts a f.first
      (g.sooner n lt)

  -- it has one first act that is past
  pub one_fault : (n m a b : ℕ) (s t : Outside) → Faults parts world n a s → Faults parts world m b t
      → (n ≡ m) × (a ≡ b) × (s ≡ t)
  one_fault n m a b s t f g = by_order (lt_or_le n m) (lt_or_le m n)
    where
      by_order : (n < m) ⊎ (m ≤ n) → (m < n) ⊎ (n ≤ m) → (n ≡ m) × (a ≡ b) × (s ≡ t)
      by_order (inl lt) r = absurd (not_sooner n m a b s t lt f g)
      by_order (inr le) (inl lt) = absurd (not_sooner m n b a t s lt g f)
      by_order (inr le) (inr ge) =
          let e : n ≡ m = omega (arith, le, ge) in
          let h : FirstPast (lengths_of parts) (acts_in parts world n) t.acts b =
          subst (λ (k : ℕ). FirstPast (lengths_of parts) (acts_in parts world k) t.acts b) (sym e)
          g.first in (
            e,
            one_array (lengths_of parts) _ s.acts t.acts a b f.first h,
            f.left ∙ ap (after_acts (opened parts world)) (one_before (lengths_of parts) _ s.acts t.acts a b
                f.first h) ∙ sym g.left,
          )

  fault_past : (n m a : ℕ) (s : Outside) → n ≤ m → Faults parts world n a s
      → AreWithin (lengths_of parts) (acts_in parts world m) → ⊥
  fault_past n m a s le f w = not_within (lengths_of parts) (acts_in parts world n) s.acts a f.first
      (within_front (lengths_of parts) _ (acts_in parts world m) (fronts n m le) w)

  -- no run that ends has an act that is past
  pub end_no_fault : (n m a : ℕ) (end s : Outside) → Runs parts world n end → Faults parts world m a s → ⊥
  end_no_fault n m a end s r f = by_order (lt_or_le n m)
    where
      acts_at : (k : ℕ) → n ≤ k → AreWithin (lengths_of parts) (acts_in parts world k)
      acts_at k le = let p = passed n end r.passes k le in grind arith

      by_order : (n < m) ⊎ (m ≤ n) → ⊥
      by_order (inl lt) = fault_past m m a s (omega arith) f (acts_at m (omega (arith, lt)))
      by_order (inr le) = fault_past m n a s le f (acts_at n (omega arith))

  -- no run that has ended goes on
  pub end_no_going : (n turns : ℕ) (end now : Outside) → n ≤ turns → Runs parts world n end
      → Goes parts world turns now → ⊥
  end_no_going n turns end now le r g = let p = passed n end r.passes turns le in grind arith

  -- none that met an act that is past goes on
  pub fault_no_going : (n turns a : ℕ) (s now : Outside) → n ≤ turns → Faults parts world n a s
      → Goes parts world turns now → ⊥
  fault_no_going n turns a s now le f g = fault_past n turns a s le f (grind arith)

  -- a run that goes on is at one point
  pub one_going : (turns : ℕ) (now still : Outside) → Goes parts world turns now
      → Goes parts world turns still → now ≡ still
  one_going turns now still g h = let e : Stopped now ≡ Stopped still = sym g.flows ∙ h.flows in cc
