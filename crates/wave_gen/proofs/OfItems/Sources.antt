-- The last instruction of a term makes its value.
use Rattle.std.proofs.Common.{ℕ, zero, suc, ◌-◌, ◌≡◌, ◌<◌, ◌≤◌, List, [], ◌∷◌, ◌++◌, length, map, slice_index}
use Rattle.std.proofs.Common.{refl, sym, ap, ◌∙◌, subst, arith}
use Rattle.ws_words.specs.Outside as outside
use Rattle.ws_words.specs.Outside.{Outside}
use Rattle.ws_words.specs.Operators.{applied}
use Rattle.ws_words.specs.declared.alu.Alu.TheVariants.{Sub, Eq}
use Rattle.ws_isa.specs.declared.instr.Op.TheVariants.{Const}
use Rattle.std.specs.List.{AllByRecursion}
use Rattle.cfg_core.specs.Graph.{Graph, Term, Number, Var, Cell, Flip, Not, Neg, Binary}
use Rattle.cfg_core.specs.Rules.{TermIn}
use Rattle.cfg_core.specs.Walk.{value, loads_of, values, all_loads}
use Rattle.wave_gen.specs.Waits.{NameState, outcome, effect}
use Rattle.wave_gen.specs.Wire.{Item, Make, Same}
use Rattle.wave_gen.specs.Plans.{pulse}
use Rattle.wave_gen.proofs.OfItems.Runs.{run_item, run_items}
use Rattle.wave_gen.specs.Gen.{Got, top_word, gen_term, Agrees, FlipsWords}
use Rattle.wave_gen.specs.Drawn.{Source, gen_source, gen_terms}
use Rattle.wave_gen.proofs.OfItems.Terms.{Gives, term_gives, agrees_on, set_here, set_other, acted_none}
use Rattle.wave_gen.proofs.OfItems.Terms.{acted_more, run_append, joined_gives, subtracted}
use Rattle.ws_words.proofs.Acts.{with_more}

-- what the last instruction of a term does, behind the items before it
pub record Last (k : ℕ) (s : NameState) (q : Source) (v : ℕ) (ls : List outside.Act) : Type 0 where
  pub value : outcome q.op (map (run_items q.items s).env q.from) (run_items q.items s).out ≡ v
  pub out : effect q.op (map (run_items q.items s).env q.from) (run_items q.items s).out ≡ with_more s.out ls
  pub keeps : (y : ℕ) → y < k → (run_items q.items s).env y ≡ s.env y

-- one that is no load
plain_last : (k : ℕ) (s : NameState) (q : Source) (v : ℕ) (ls : List outside.Act)
    → outcome q.op (map (run_items q.items s).env q.from) (run_items q.items s).out ≡ v →
    effect q.op (map (run_items q.items s).env q.from) (run_items q.items s).out ≡ (run_items q.items s).out
    → (run_items q.items s).out ≡ with_more s.out ls
    → ((y : ℕ) → y < k → (run_items q.items s).env y ≡ s.env y) → Last k s q v ls
plain_last k s q v ls a b c d = record { value = a; out = b ∙ c; keeps = d }

module _ (g : Graph) where
  pub source_last : (t : Term) (k n : ℕ) (vars : List ℕ) (s : NameState) → TermIn (length g.arrays) n t
      → n ≡ length vars → n < k → Agrees vars s.env → FlipsWords t vars s.out.cells →
      Last k s (gen_source k t) (value t vars s.out.cells) (loads_of t vars s.out.cells)
  source_last (Number zero) k n vars s i m l a f = plain_last k s (gen_source k (Number zero)) 0 []
      a.zero_pulse refl (sym (acted_none s.out)) (λ y u. refl)
  source_last (Number (suc w)) k n vars s i m l a f = plain_last k s (gen_source k (Number (suc w))) (suc w)
      [] refl refl (sym (acted_none s.out)) (λ y u. refl)
  source_last (Var x) k n vars s i m l a f = plain_last k s (gen_source k (Var x)) (slice_index vars x) []
      (a.var x (let u : x < n = i in omega arith)) refl (sym (acted_none s.out)) (λ y u. refl)
  source_last (Cell c t) k n vars s i m l a f =
      let h : Gives k s (gen_term k t) (value t vars s.out.cells) (loads_of t vars s.out.cells) =
      term_gives g t k n vars s i.1 m l a f in
      record {
        value = rw (h.value, h.out) refl;
        out = rw (h.value, h.out)
            (acted_more s.out (loads_of t vars s.out.cells) (outside.loads c (value t vars s.out.cells)
            ∷ []));
        keeps = h.keeps;
      }
  source_last (Flip t) k n vars s i m l a f =
      let q = gen_term k t in
      let h : Gives k s q (value t vars s.out.cells) (loads_of t vars s.out.cells) =
      term_gives g t k n vars s i m l a f.1 in
      let e : run_items (q.items ++ Make q.next (Const top_word) (q.name ∷ []) ∷ []) s ≡ run_item
      (Make q.next (Const top_word) (q.name ∷ [])) (run_items q.items s) =
      run_append q.items (Make q.next (Const top_word) (q.name ∷ []) ∷ []) s in
      let v1 : (run_items (q.items ++ Make q.next (Const top_word) (q.name ∷ []) ∷ []) s).env q.next
      ≡ top_word = ap (λ (x : NameState). x.env q.next) e ∙ set_here (run_items q.items s).env q.next
      top_word in
      let v2 : (run_items (q.items ++ Make q.next (Const top_word) (q.name ∷ []) ∷ []) s).env q.name
      ≡ value t vars s.out.cells = ap (λ (x : NameState). x.env q.name) e
      ∙ set_other (run_items q.items s).env q.next top_word q.name
      (λ y. (let r : q.name < q.next = h.named in omega arith)) ∙ h.value in
      plain_last k s (gen_source k (Flip t)) (18446744073709551615 - value t vars s.out.cells)
      (loads_of t vars s.out.cells) (rw (v1, v2) (subtracted (value t vars s.out.cells) f.0)) refl
      (ap (λ (x : NameState). x.out) e ∙ h.out)
      (λ y u. ap (λ (x : NameState). x.env y) e ∙ set_other (run_items q.items s).env q.next top_word y
      (λ w. (let r : k ≤ q.next = h.next in omega arith)) ∙ h.keeps y u)
  source_last (Not t) k n vars s i m l a f =
      let h : Gives k s (gen_term k t) (value t vars s.out.cells) (loads_of t vars s.out.cells) =
      term_gives g t k n vars s i m l a f in
      let z : (run_items (gen_term k t).items s).env pulse ≡ 0 = h.keeps pulse (omega arith) ∙ a.zero_pulse in
      plain_last k s (gen_source k (Not t)) (applied Eq (value t vars s.out.cells) 0)
      (loads_of t vars s.out.cells) (rw (h.value, z) refl) refl h.out h.keeps
  source_last (Neg t) k n vars s i m l a f =
      let h : Gives k s (gen_term k t) (value t vars s.out.cells) (loads_of t vars s.out.cells) =
      term_gives g t k n vars s i m l a f in
      let z : (run_items (gen_term k t).items s).env pulse ≡ 0 = h.keeps pulse (omega arith) ∙ a.zero_pulse in
      plain_last k s (gen_source k (Neg t)) (applied Sub 0 (value t vars s.out.cells))
      (loads_of t vars s.out.cells) (rw (h.value, z) refl) refl h.out h.keeps
  source_last (Binary op t u) k n vars s i m l a f =
      let q = gen_term k t in
      let h : Gives k s q (value t vars s.out.cells) (loads_of t vars s.out.cells) =
      term_gives g t k n vars s i.0 m l a f.0 in
      let s1 : NameState = run_items q.items s in
      let c : s1.out.cells ≡ s.out.cells = ap (λ (o : Outside). o.cells) h.out in
      let a1 : Agrees vars s1.env = agrees_on vars k n s.env s1.env (omega arith) l h.keeps a in
      let j0 : Gives q.next s1 (gen_term q.next u) (value u vars s1.out.cells)
      (loads_of u vars s1.out.cells) = term_gives g u q.next n vars s1 i.1 m
      (let r : k ≤ q.next = h.next in omega arith) a1
      (subst (λ (cs : List (List ℕ)). FlipsWords u vars cs) (sym c) f.1) in
      let j : Gives q.next s1 (gen_term q.next u) (value u vars s.out.cells) (loads_of u vars s.out.cells) =
      subst (λ (cs : List (List ℕ)). Gives q.next s1 (gen_term q.next u) (value u vars cs)
      (loads_of u vars cs)) c j0 in
      let b = joined_gives k s q (gen_term q.next u) (value t vars s.out.cells) (value u vars s.out.cells)
      (loads_of t vars s.out.cells) (loads_of u vars s.out.cells) h j in
      plain_last k s (gen_source k (Binary op t u))
      (applied op (value t vars s.out.cells) (value u vars s.out.cells))
      (loads_of t vars s.out.cells ++ loads_of u vars s.out.cells) (rw (b.0.value, b.1) refl) refl b.0.out
      b.0.keeps

  -- values, each under its own name
  pub record GiveMany (k : ℕ) (s : NameState) (items : List Item) (names : List ℕ) (vs : List ℕ)
      (ls : List outside.Act) : Type 0 where
    pub values : map (run_items items s).env names ≡ vs
    pub keeps : (y : ℕ) → y < k → (run_items items s).env y ≡ s.env y
    pub out : (run_items items s).out ≡ with_more s.out ls

  abbrev pub Many : List Term → Type 0
  Many ts = (k n : ℕ) (vars : List ℕ) (s : NameState) → AllByRecursion (TermIn (length g.arrays) n) ts
      → n ≡ length vars → n < k → Agrees vars s.env → AllByRecursion (λ t. FlipsWords t vars s.out.cells) ts →
      GiveMany k s (gen_terms k ts).items (gen_terms k ts).names (values ts vars s.out.cells)
      (all_loads ts vars s.out.cells)

  more_give : (t : Term) (ts : List Term) → Many ts → Many (t ∷ ts)
  more_give t ts ih k n vars s i m l a f = record {
    values = ap (λ (x : NameState). map x.env (q.next ∷ (gen_terms (suc q.next) ts).names)) e
        ∙ ap (λ (v : ℕ). v ∷ map (run_items (gen_terms (suc q.next) ts).items s2).env
        (gen_terms (suc q.next) ts).names) first_value ∙ ap (λ (vs : List ℕ). value t vars s.out.cells ∷ vs)
        (rest.values ∙ ap (values ts vars) c);
    keeps = λ y u. ap (λ (x : NameState). x.env y) e ∙ rest.keeps y (let r : k ≤ q.next = h.next in
        omega arith) ∙ below y (let r : k ≤ q.next = h.next in omega arith) ∙ h.keeps y u;
    out = ap (λ (x : NameState). x.out) e ∙ rest.out
        ∙ ap (λ (cs : List (List ℕ)). with_more s2.out (all_loads ts vars cs)) c
        ∙ ap (λ (o : Outside). with_more o (all_loads ts vars s.out.cells)) h.out
        ∙ acted_more s.out (loads_of t vars s.out.cells) (all_loads ts vars s.out.cells);
  }
    where
      q : Got
      q = gen_term k t

      h : Gives k s (gen_term k t) (value t vars s.out.cells) (loads_of t vars s.out.cells)
      h = term_gives g t k n vars s i.0 m l a f.0

      s1 : NameState
      s1 = run_items (gen_term k t).items s

      s2 : NameState
      s2 = run_item (Same (gen_term k t).next (gen_term k t).name) (run_items (gen_term k t).items s)

      c : s2.out.cells ≡ s.out.cells
      c = ap (λ (o : Outside). o.cells) h.out

      below : (y : ℕ) → y < q.next → s2.env y ≡ s1.env y
      below y u = set_other s1.env q.next (s1.env q.name) y (λ w. omega arith)

      a2 : Agrees vars s2.env
      a2 = agrees_on vars k n s.env s2.env (omega arith) l
          (λ y u. below y (let r : k ≤ q.next = h.next in omega arith) ∙ h.keeps y u) a

      rest : GiveMany (suc q.next) s2 (gen_terms (suc (gen_term k t).next) ts).items
          (gen_terms (suc (gen_term k t).next) ts).names (values ts vars s2.out.cells)
          (all_loads ts vars s2.out.cells)
      rest = ih (suc q.next) n vars s2 i.1 m (let r : k ≤ q.next = h.next in omega arith) a2
          (subst (λ (cs : List (List ℕ)). AllByRecursion (λ t. FlipsWords t vars cs) ts) (sym c) f.1)

      e : run_items (q.items ++ (Same q.next q.name ∷ (gen_terms (suc q.next) ts).items)) s ≡ run_items
          (gen_terms (suc q.next) ts).items s2
      e = run_append q.items (Same q.next q.name ∷ (gen_terms (suc q.next) ts).items) s

      first_value : (run_items (gen_terms (suc q.next) ts).items s2).env q.next ≡ value t vars s.out.cells
      first_value = rest.keeps q.next (omega arith) ∙ set_here s1.env q.next (s1.env q.name) ∙ h.value

  pub terms_give : (ts : List Term) → Many ts
  terms_give [] = grind (arith, acted_none)
  terms_give (t ∷ ts) = more_give t ts (terms_give ts)
