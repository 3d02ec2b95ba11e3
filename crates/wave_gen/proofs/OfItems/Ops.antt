-- The items of operations do what the operations do.
use Rattle.std.proofs.Common.{ℕ, suc, ◌-◌, ◌≡◌, ◌<◌, ◌≤◌, ◌==◌, Bool, true, false, cond, eqb, List, []}
use Rattle.std.proofs.Common.{◌∷◌, ◌++◌, length, slice_index, slice_set, refl, sym, ap, ◌∙◌, subst, arith}
use Rattle.std.proofs.lemmas.Bool.{cases_eq}
use Rattle.ws_words.specs.Outside as outside
use Rattle.ws_words.specs.Outside.{Outside, ProcState, row, write, stored, has_read, given}
use Rattle.ws_isa.specs.declared.instr.Op.TheVariants.{Phi, Store}
use Rattle.cfg_core.specs.Graph as graph
use Rattle.cfg_core.specs.Graph.{Graph, Term, Flip, Not, Neg, Binary}
use Rattle.cfg_core.specs.Rules.{TermIn, OpIn, NoCell, ChoosesBare}
use Rattle.cfg_core.specs.Walk.{value, loads_of, value_of, OpsOutcome, Done, Out, spend, run_op, run_ops}
use Rattle.cfg_core.specs.Walk.{and_then}
use Rattle.wave_gen.specs.Waits.{NameState, set}
use Rattle.wave_gen.specs.Wire.{Item, Make, Act, Same}
use Rattle.wave_gen.proofs.OfItems.Runs.{run_item, run_items}
use Rattle.wave_gen.specs.Gen.{Got, gen_term, gen_op, gen_ops, Agrees, FlipsWords, OpFine}
use Rattle.wave_gen.proofs.Planning.DrawnPlans.{OpsFine}
use Rattle.std.specs.List.{AllByRecursion}
use Rattle.wave_gen.proofs.OfItems.Terms.{run_append, acted_none, Gives, term_gives, agrees_on, set_here}
use Rattle.wave_gen.proofs.OfItems.Terms.{set_other}
use Rattle.ws_words.proofs.Held.{set_length}

-- lists of variables
pub get_set : (xs : List ℕ) (i v : ℕ) → i < length xs → slice_index (slice_set xs i v) i ≡ v
get_set (x ∷ xs) (suc i) v l = get_set xs i v (omega arith)
get_set xs i v l = grind arith

pub get_other : (xs : List ℕ) (i j v : ℕ) → (j ≡ i → ⊥) → slice_index (slice_set xs i v) j ≡ slice_index xs j
get_other (x ∷ xs) (suc i) (suc j) v n = get_other xs i j v (λ e. n (ap suc e))
get_other xs i j v n = grind arith

agrees_set : (vars : List ℕ) (env : ℕ → ℕ) (x v : ℕ) → Agrees vars env
    → Agrees (slice_set vars x v) (set env (suc x) v)
agrees_set vars env x v a = grind (arith, set_other, set_length, cases_eq, set_here, get_set, get_other)

-- names and what is outside are those of the state
pub record IsState (st : ProcState) (s : NameState) : Type 0 where
  pub agrees : Agrees st.vars s.env
  pub out : s.out ≡ st.out

-- a term without cells loads nothing
no_loads : (t : Term) (vars : List ℕ) (cells : List (List ℕ)) → NoCell t → loads_of t vars cells ≡ []
no_loads (Flip t) vars cells h = no_loads t vars cells h
no_loads (Not t) vars cells h = no_loads t vars cells h
no_loads (Neg t) vars cells h = no_loads t vars cells h
no_loads (Binary op a b) vars cells h = grind (arith, no_loads a vars cells h.0, no_loads b vars cells h.1)
no_loads t vars cells h = grind arith

same_test : (v : ℕ) → eqb v 0 ≡ (v == 0)
same_test v = refl

-- what an operation leaves
pub record Left (k : ℕ) (st st' : ProcState) (items : List Item) (free : ℕ) (s : NameState) : Type 0 where
  pub is : IsState st' (run_items items s)
  pub length_same : length st'.vars ≡ length st.vars
  pub next : k ≤ free

pub done_is : (a c : ProcState) (k l : ℕ) → Done a k ≡ Done c l → a ≡ c
done_is a c k l e = cc

spend_is : (n : ℕ) (s st : ProcState) (k l : ℕ) → spend n s k ≡ Done st l → s ≡ st
spend_is (suc n) s st (suc k) l e = spend_is n s st k l e
spend_is n s st k l e = grind (arith, done_is)

same_state : (k : ℕ) (st st' : ProcState) (s : NameState) → IsState st s → st ≡ st' → Left k st st' [] k s
same_state k st st' s i e = record { is = rw (sym e) i; length_same = rw (sym e) refl; next = omega arith }

module _ (g : Graph) where
  -- a term on a state
  pub on_state : (t : Term) (k n : ℕ) (st : ProcState) (s : NameState) → TermIn (length g.arrays) n t
      → n ≡ length st.vars → n < k → IsState st s → FlipsWords t st.vars st.out.cells →
      Gives k s (gen_term k t) (value t st.vars st.out.cells) (loads_of t st.vars st.out.cells)
  on_state t k n st s i m l a f =
      let c : s.out.cells ≡ st.out.cells = ap (λ (o : Outside). o.cells) a.out in
      subst (λ (cs : List (List ℕ)). Gives k s (gen_term k t) (value t st.vars cs) (loads_of t st.vars cs)) c
      (term_gives g t k n st.vars s i m l a.agrees (grind (arith, st.vars)))

  -- the state behind a term
  pub behind_term : (t : Term) (k n : ℕ) (st : ProcState) (s : NameState) → TermIn (length g.arrays) n t
      → n ≡ length st.vars → n < k → IsState st s → FlipsWords t st.vars st.out.cells →
      IsState (value_of t st).1 (run_items (gen_term k t).items s)
  behind_term t k n st s i m l a f =
      let h = on_state t k n st s i m l a f in grind (arith, agrees_on, st.vars, s.env, h.keeps)

  op_left : (op : graph.Op) (k n : ℕ) (st st' : ProcState) (s : NameState) (turns left : ℕ)
      → OpIn (length g.arrays) n op → ChoosesBare op → n ≡ length st.vars → n < k
      → OpFine op st.vars st.out.cells → IsState st s → run_op op st turns ≡ Done st' left →
      Left k st st' (gen_op k op).items (gen_op k op).next s
  op_left (graph.Assign x t) k n st st' s turns left i c m l f a e =
      let h = on_state t k n st s i.1 m l a f in
      let b = behind_term t k n st s i.1 m l a f in
      let q = gen_term k t in
      let r : run_items (q.items ++ Same (suc x) q.name ∷ []) s ≡ run_item (Same (suc x) q.name)
      (run_items q.items s) = run_append q.items (Same (suc x) q.name ∷ []) s in
      let d : write (value_of t st).1 x (value_of t st).0 ≡ st' = done_is _ st' turns left e in
      record {
        is = rw (sym d)
            (rw r (record {
              agrees = rw h.value (agrees_set st.vars (run_items q.items s).env x
                  (value t st.vars st.out.cells) b.agrees);
              out = b.out;
            }));
        length_same = rw (sym d) (set_length st.vars x (value t st.vars st.out.cells));
        next = h.next;
      }
  op_left (graph.Print t) k n st st' s turns left i c m l f a e =
      let h = on_state t k n st s i m l a f in grind (arith, behind_term, run_append, value_of, done_is)
  op_left (graph.Take p t) k n st st' s turns left i c m l f a e =
      let h = on_state t k n st s i.1 m l a f in grind (arith, behind_term, run_append, value_of, done_is)
  op_left (graph.Read x) k n st st' s turns left i c m l f a e =
      let d : has_read st x ≡ st' = done_is _ st' turns left e in
      record {
        is = rw (sym d)
            (record {
              agrees = rw a.out (agrees_set st.vars s.env x (outside.head_or_zero st.out.input)
                  a.agrees);
              out = rw a.out refl;
            });
        length_same = grind (arith, set_length, st.vars);
        next = omega arith;
      }
  op_left (graph.Give p x) k n st st' s turns left i c m l f a e =
      let d : given st p x ≡ st' = done_is _ st' turns left e in
      record {
        is = rw (sym d)
            (record {
              agrees =
                  rw a.out (agrees_set st.vars s.env x (outside.head_or_zero (row st.out.left (p - 1)))
                  a.agrees);
              out = rw a.out refl;
            });
        length_same = grind (arith, set_length, st.vars, st.out.left);
        next = omega arith;
      }
  op_left (graph.Tick t) k n st st' s turns left i c m l f a e = grind (arith, same_state, spend_is)
  op_left (graph.TickBy t x y) k n st st' s turns left i c m l f a e =
      same_state k st st' s a (quiet (value t st.vars st.out.cells == 0) e)
    where
      bare : (value_of t st).1 ≡ st
      bare = rw (no_loads t st.vars st.out.cells c) (grind (arith, acted_none))

      quiet : (b : Bool)
          → (Rattle.std.specs.Prelude.if◌then◌else◌ b (spend y (value_of t st).1 turns)
          (spend x (value_of t st).1 turns)) ≡ Done st' left → st ≡ st'
      quiet true h = sym bare ∙ spend_is y (value_of t st).1 st' turns left h
      quiet false h = sym bare ∙ spend_is x (value_of t st).1 st' turns left h
  op_left (graph.Store v t u) k n st st' s turns left i c m l f a e =
      let h = on_state t k n st s i.1 m l a f.0 in
      let b = behind_term t k n st s i.1 m l a f.0 in
      let q = gen_term k t in
      let s1 : NameState = run_items q.items s in
      let l1 : n < q.next = (let r : k ≤ q.next = h.next in omega arith) in
      let h1 = on_state u q.next n (value_of t st).1 s1 i.2 m l1 b f.1 in
      let b1 = behind_term u q.next n (value_of t st).1 s1 i.2 m l1 b f.1 in
      let q1 = gen_term q.next u in
      let r : run_items (q.items ++ (q1.items ++ Act (Store v) (q.name ∷ q1.name ∷ []) ∷ [])) s ≡ run_item
      (Act (Store v) (q.name ∷ q1.name ∷ [])) (run_items q1.items s1) =
      run_append q.items (q1.items ++ Act (Store v) (q.name ∷ q1.name ∷ []) ∷ []) s
      ∙ run_append q1.items (Act (Store v) (q.name ∷ q1.name ∷ []) ∷ []) s1 in
      let w : (run_items q1.items s1).env q.name ≡ value t st.vars st.out.cells = h1.keeps q.name h.named
      ∙ h.value in
      let d : stored (value_of u (value_of t st).1).1 v (value_of t st).0 (value_of u (value_of t st).1).0
      ≡ st' = done_is _ st' turns left e in
      record {
        is = rw (sym d) (rw r (record { agrees = b1.agrees; out = rw (w, h1.value, b1.out) refl }));
        length_same = rw (sym d) refl;
        next = (let r1 : k ≤ q.next = h.next in let r2 : q.next ≤ q1.next = h1.next in omega arith);
      }
  op_left (graph.Choose x t u w) k n st st' s turns left i c m l f a e = record {
    is = rw r (go (value t st.vars st.out.cells == 0) refl e);
    length_same = same_length (value t st.vars st.out.cells == 0) e;
    next = (let r1 : k ≤ q.next = h.next in let r2 : q.next ≤ q1.next = h1.next in
        let r3 : q1.next ≤ q2.next = h2.next in omega arith);
  }
    where
      bare : (p : Term) → NoCell p → (z : ProcState) → (value_of p z).1 ≡ z
      bare p b z = rw (no_loads p z.vars z.out.cells b) (grind (arith, acted_none))

      q : Got
      q = gen_term k t

      h : Gives k s (gen_term k t) (value t st.vars st.out.cells) (loads_of t st.vars st.out.cells)
      h = on_state t k n st s i.1 m l a f.0

      s1 : NameState
      s1 = run_items (gen_term k t).items s

      a1 : IsState st (run_items (gen_term k t).items s)
      a1 = subst (λ (z : ProcState). IsState z (run_items (gen_term k t).items s)) (bare t c.0 st)
          (behind_term t k n st s i.1 m l a f.0)

      l1 : n < (gen_term k t).next
      l1 = let r : k ≤ (gen_term k t).next = h.next in omega arith

      q1 : Got
      q1 = gen_term (gen_term k t).next u

      h1 : Gives (gen_term k t).next (run_items (gen_term k t).items s) (gen_term (gen_term k t).next u)
          (value u st.vars st.out.cells) (loads_of u st.vars st.out.cells)
      h1 = on_state u (gen_term k t).next n st (run_items (gen_term k t).items s) i.2 m l1 a1 f.1

      a2 : IsState st (run_items q1.items s1)
      a2 = subst
          (λ (z : ProcState). IsState z (run_items (gen_term (gen_term k t).next u).items
          (run_items (gen_term k t).items s))) (bare u c.1 st)
          (behind_term u (gen_term k t).next n st (run_items (gen_term k t).items s) i.2 m l1 a1 f.1)

      l2 : n < (gen_term (gen_term k t).next u).next
      l2 = let r : (gen_term k t).next ≤ (gen_term (gen_term k t).next u).next = h1.next in
          let l1' : n < (gen_term k t).next = l1 in omega arith

      q2 : Got
      q2 = gen_term (gen_term (gen_term k t).next u).next w

      s2 : NameState
      s2 = run_items (gen_term (gen_term k t).next u).items (run_items (gen_term k t).items s)

      h2 : Gives (gen_term (gen_term k t).next u).next s2 (gen_term (gen_term (gen_term k t).next u).next w)
          (value w st.vars st.out.cells) (loads_of w st.vars st.out.cells)
      h2 = on_state w (gen_term (gen_term k t).next u).next n st s2 i.3 m l2 a2 f.2

      a3 : IsState st (run_items q2.items s2)
      a3 = subst
          (λ (z : ProcState). IsState z (run_items (gen_term (gen_term (gen_term k t).next u).next w).items
          s2)) (bare w c.2 st) (behind_term w (gen_term (gen_term k t).next u).next n st s2 i.3 m l2 a2 f.2)

      phi : Item
      phi = Make (suc x) Phi (q1.name ∷ q2.name ∷ q.name ∷ [])

      r : run_items (q.items ++ (q1.items ++ (q2.items ++ phi ∷ []))) s ≡ run_item phi (run_items q2.items s2)
      r = run_append q.items (q1.items ++ (q2.items ++ phi ∷ [])) s ∙ run_append q1.items
          (q2.items ++ phi ∷ []) s1 ∙ run_append q2.items (phi ∷ []) s2

      test_is : (run_items q2.items s2).env q.name ≡ value t st.vars st.out.cells
      test_is = h2.keeps q.name (let r1 : q.name < q.next = h.named in let r2 : q.next ≤ q1.next = h1.next in
          omega arith) ∙ h1.keeps q.name h.named ∙ h.value

      first_is : (run_items q2.items s2).env q1.name ≡ value u st.vars st.out.cells
      first_is = h2.keeps q1.name h1.named ∙ h1.value

      chosen : ℕ
          → IsState
          (write st x (cond (eqb (value t st.vars st.out.cells) 0) (value w st.vars st.out.cells)
          (value u st.vars st.out.cells))) (run_item phi (run_items q2.items s2))
      chosen z =
          record {
            agrees = rw (test_is, first_is, h2.value) (agrees_set st.vars (run_items q2.items s2).env x
                (cond (eqb (value t st.vars st.out.cells) 0) (value w st.vars st.out.cells)
                (value u st.vars st.out.cells)) a3.agrees);
            out = a3.out;
          }

      branch : (b : Bool) → ProcState
      branch b = write st x (cond b (value w st.vars st.out.cells) (value u st.vars st.out.cells))

      picked : (b : Bool) → (value t st.vars st.out.cells == 0) ≡ b
          → write st x (cond (eqb (value t st.vars st.out.cells) 0) (value w st.vars st.out.cells)
          (value u st.vars st.out.cells)) ≡ branch b
      picked b v =
          ap (λ (z : Bool). write st x (cond z (value w st.vars st.out.cells) (value u st.vars st.out.cells)))
          (same_test (value t st.vars st.out.cells) ∙ v)

      -- the state in which a chosen term is evaluated
      whole : (p : Term) → ((z : ProcState) → (value_of p z).1 ≡ z)
          → write st x (value p st.vars st.out.cells) ≡ write (value_of p (value_of t st).1).1 x
          (value_of p (value_of t st).1).0
      whole p b = ap (λ (z : ProcState). write z x (value p st.vars st.out.cells))
          (sym (b (value_of t st).1 ∙ bare t c.0 st))

      go : (b : Bool) → (value t st.vars st.out.cells == 0) ≡ b →
          Rattle.std.specs.Prelude.if◌then◌else◌ b
          (Done (write (value_of w (value_of t st).1).1 x (value_of w (value_of t st).1).0) turns)
          (Done (write (value_of u (value_of t st).1).1 x (value_of u (value_of t st).1).0) turns)
          ≡ Done st' left →
          IsState st' (run_item phi (run_items q2.items s2))
      go true v d = subst (λ (z : ProcState). IsState z (run_item phi (run_items q2.items s2)))
          (picked true v ∙ whole w (bare w c.2) ∙ done_is _ st' turns left d) (chosen 0)
      go false v d = subst (λ (z : ProcState). IsState z (run_item phi (run_items q2.items s2)))
          (picked false v ∙ whole u (bare u c.1) ∙ done_is _ st' turns left d) (chosen 0)

      same_length : (b : Bool) → Rattle.std.specs.Prelude.if◌then◌else◌ b
          (Done (write (value_of w (value_of t st).1).1 x (value_of w (value_of t st).1).0) turns)
          (Done (write (value_of u (value_of t st).1).1 x (value_of u (value_of t st).1).0) turns) ≡ Done st'
          left → length st'.vars ≡ length st.vars
      same_length true d = grind (arith, done_is, set_length, st.vars)
      same_length false d = grind (arith, done_is, set_length, st.vars)

  pub ops_left : (ops : List graph.Op) (k n : ℕ) (st st' : ProcState) (s : NameState) (turns left : ℕ)
      → AllByRecursion (OpIn (length g.arrays) n) ops → AllByRecursion ChoosesBare ops → n ≡ length st.vars
      → n < k → OpsFine ops st → IsState st s → run_ops ops st turns ≡ Done st' left →
      Left k st st' (gen_ops k ops).items (gen_ops k ops).next s
  ops_left [] k n st st' s turns left i c m l f a e = same_state k st st' s a (done_is st st' turns left e)
  ops_left (op ∷ ops) k n st st' s turns left i c m l f a e = go (run_op op st turns) refl e
      (λ st1 l1 d. ops_left ops (gen_op k op).next n st1 st' (run_items (gen_op k op).items s) l1 left i.1
      c.1)
    where
      go : (r : OpsOutcome) → run_op op st turns ≡ r → and_then r (run_ops ops) ≡ Done st' left →
          ((st1 : ProcState) (l1 : ℕ) → run_op op st turns ≡ Done st1 l1 → n ≡ length st1.vars
          → n < (gen_op k op).next → OpsFine ops st1 → IsState st1 (run_items (gen_op k op).items s)
          → run_ops ops st1 l1 ≡ Done st' left → Left (gen_op k op).next st1 st'
          (gen_ops (gen_op k op).next ops).items (gen_ops (gen_op k op).next ops).next
          (run_items (gen_op k op).items s)) →
          Left k st st' (gen_ops k (op ∷ ops)).items (gen_ops k (op ∷ ops)).next s
      go (Out o) q d ih = absurd (let z : Out o ≡ Done st' left = d in cc)
      go (Done st1 l1) q d ih =
          let h = op_left op k n st st1 s turns l1 i.0 c.0 m l f.0 a q in grind (arith, h.is, run_append)
