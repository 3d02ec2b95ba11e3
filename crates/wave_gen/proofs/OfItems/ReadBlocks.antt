-- A block's items read the pulse and the variables that the block reads first.
use Rattle.std.proofs.Common.{ℕ, suc, ◌≡◌, ◌<◌, ◌≤◌, ◌⊎◌, List, [], ◌∷◌, ◌++◌, refl, ap, ◌∙◌, inl, inr, arith}
use Rattle.ws_isa.specs.declared.instr.Op.TheVariants.{Phi, Store, Output, Take}
use Rattle.cfg_core.specs.Graph as graph
use Rattle.cfg_core.specs.Graph.{Term}
use Rattle.live_vars.specs.Live.{Mentions, OneMentions, OpReads, OpWrites, ExitReads, Carries, WrittenIn}
use Rattle.live_vars.specs.Live.{ReadsFirst}
use Rattle.wave_gen.specs.Wire.{Item, Make, Act, Same}
use Rattle.wave_gen.specs.Plans.{pulse}
use Rattle.wave_gen.proofs.Planning.Planned.{Reads, Needs}
use Rattle.wave_gen.specs.Gen.{gen_term, gen_op, gen_ops}
use Rattle.wave_gen.specs.Drawn.{gen_source, gen_terms, exit_next}
use Rattle.wave_gen.specs.Listing.{gen_exit}
use Rattle.wave_gen.proofs.OfItems.ReadTerms.{Ground, ground_more, Beyond, reads_append, from_term}
use Rattle.wave_gen.proofs.OfItems.ReadTerms.{term_reads}
use Rattle.wave_gen.proofs.OfItems.ReadExits.{source_reads, many_named, many_reads}
use Rattle.ws_words.specs.Items.{In}

-- x is no variable that is written
abbrev pub Kept : (ℕ → Type 0) → ℕ → Type 0
Kept W x = (y : ℕ) → x ≡ suc y → W y → ⊥

-- what an operation's items read is the pulse, or a variable that it reads, or read behind it and not written
-- by it
abbrev pub OpGives : graph.Op → (ℕ → Type 0) → ℕ → Type 0
OpGives op P x = Ground (OpReads op) x ⊎ (P x × Kept (OpWrites op) x)

-- one term, then an item
after : (t : Term) (k : ℕ) (item : Item) (P : ℕ → Type 0) (x : ℕ) → Reads ((gen_term k t).items ++ item ∷ [])
    P x → Ground (Mentions t) x ⊎ (Reads (item ∷ []) P x × Beyond k (gen_term k t).next x)
after t k item P x h = grind (arith, term_reads, Reads, reads_append)

-- one operand
acts : (t : Term) (k x : ℕ) (P : ℕ → Type 0) → Beyond k (gen_term k t).next x
    → In x ((gen_term k t).name ∷ []) ⊎ P x → Ground (Mentions t) x ⊎ P x
acts t k x P out h = grind (arith, from_term)

kept : (P : ℕ → Type 0) (R : ℕ → Type 0) (x : ℕ) → Ground R x ⊎ P x → Ground R x ⊎ (P x × Kept (λ y. ⊥) x)
kept P R x h = grind arith

same_suc : (x y z : ℕ) → x ≡ suc y → y ≡ z → x ≡ suc z
same_suc x y z e v = e ∙ ap suc v

pub op_reads : (op : graph.Op) (k : ℕ) (P : ℕ → Type 0) (x : ℕ) → Reads (gen_op k op).items P x
    → OpGives op P x
op_reads (graph.Assign z t) k P x h = elim (after t k (Same (suc z) (gen_term k t).name) P x h) [
  | inl r ↦ inl r
  | inr q ↦ elim q.0 [
    | inl e ↦ inl (from_term t k x e q.1)
    | inr w ↦
        inr (w.1, λ y e v. w.0 (same_suc x y z e v))
  ]
]
op_reads (graph.Store a t u) k P x h = let g = gen_term k t in let m = gen_term g.next u in
    elim (term_reads t k (Reads (m.items ++ Act (Store a) (g.name ∷ m.name ∷ []) ∷ []) P) x
    (reads_append g.items (m.items ++ Act (Store a) (g.name ∷ m.name ∷ []) ∷ []) P x h)) [
      | inl r ↦ inl (ground_more (Mentions t) (OpReads (graph.Store a t u)) x (λ y w. inl w) r)
      | inr q ↦ elim (after u g.next (Act (Store a) (g.name ∷ m.name ∷ [])) P x q.0) [
        | inl r ↦ inl (ground_more (Mentions u) (OpReads (graph.Store a t u)) x (λ y w. inr w) r)
        | inr p ↦ elim p.0 [
          | inl i ↦ elim i [
            | inl e ↦
                inl (ground_more (Mentions t) (OpReads (graph.Store a t u)) x (λ y w. inl w)
                (from_term t k x e q.1))
            | inr j ↦
                elim j [
                  | inl e ↦
                      inl (ground_more (Mentions u) (OpReads (graph.Store a t u)) x (λ y w. inr w)
                      (from_term u g.next x e p.1))
                  | inr b ↦ absurd b
                ]
          ]
          | inr w ↦ inr (w, λ y e v. v)
        ]
      ]
    ]
op_reads (graph.Print t) k P x h = elim (after t k (Act Output ((gen_term k t).name ∷ [])) P x h)
    [ inl r ↦ inl r | inr q ↦ kept P (Mentions t) x (acts t k x P q.1 q.0) ]
op_reads (graph.Read z) k P x (inl (inl e)) = inl (inl e)
op_reads (graph.Read z) k P x (inl (inr b)) = absurd b
op_reads (graph.Read z) k P x (inr h) = inr (h.1, λ y e v. h.0 (same_suc x y z e v))
op_reads (graph.Give p z) k P x (inl (inl e)) = inl (inl e)
op_reads (graph.Give p z) k P x (inl (inr b)) = absurd b
op_reads (graph.Give p z) k P x (inr h) = inr (h.1, λ y e v. h.0 (same_suc x y z e v))
op_reads (graph.Take p t) k P x h = elim (after t k (Act (Take p) ((gen_term k t).name ∷ [])) P x h)
    [ inl r ↦ inl r | inr q ↦ kept P (Mentions t) x (acts t k x P q.1 q.0) ]
op_reads (graph.Choose z t a b) k P x h =
    let R = OpReads (graph.Choose z t a b) in
    let g = gen_term k t in let m = gen_term g.next a in let n = gen_term m.next b in
    let last : Item = Make (suc z) Phi (m.name ∷ n.name ∷ g.name ∷ []) in
    elim (term_reads t k (Reads (m.items ++ (n.items ++ last ∷ [])) P) x
    (reads_append g.items (m.items ++ (n.items ++ last ∷ [])) P x h)) [
      | inl r ↦ inl (ground_more (Mentions t) R x (λ y w. inl w) r)
      | inr q ↦
          elim (term_reads a g.next (Reads (n.items ++ last ∷ []) P) x
          (reads_append m.items (n.items ++ last ∷ []) P x q.0)) [
            | inl r ↦ inl (ground_more (Mentions a) R x (λ y w. inr (inl w)) r)
            | inr p ↦ elim (after b m.next last P x p.0) [
              | inl r ↦ inl (ground_more (Mentions b) R x (λ y w. inr (inr w)) r)
              | inr o ↦ elim o.0 [
                | inl i ↦ elim i [
                  | inl e ↦
                      inl (ground_more (Mentions a) R x (λ y w. inr (inl w)) (from_term a g.next x e p.1))
                  | inr j ↦ elim j [
                    | inl e ↦
                        inl (ground_more (Mentions b) R x (λ y w. inr (inr w)) (from_term b m.next x e o.1))
                    | inr l ↦
                        elim l [
                          | inl e ↦ inl (ground_more (Mentions t) R x (λ y w. inl w) (from_term t k x e q.1))
                          | inr c ↦ absurd c
                        ]
                  ]
                ]
                | inr w ↦ inr (w.1, λ y e v. w.0 (same_suc x y z e v))
              ]
            ]
          ]
    ]
op_reads (graph.Tick n) k P x h = inr (h, λ y e v. v)
op_reads (graph.TickBy t n m) k P x h = inr (h, λ y e v. v)

-- What the items of operations read is the pulse, or a variable that the block reads first, or read behind
-- them and not written by them.
pub ops_reads : (ops : List graph.Op) (exit : graph.Exit) (k : ℕ) (P : ℕ → Type 0) (x : ℕ)
    → Reads (gen_ops k ops).items P x → Ground (ReadsFirst ops exit) x ⊎ (P x × Kept (WrittenIn ops) x)
ops_reads [] exit k P x h = inr (h, λ y e w. w)
ops_reads (op ∷ ops) exit k P x h = let d = gen_op k op in let e = gen_ops d.next ops in
    go (ops_reads ops exit d.next P x) (op_reads op k (Reads e.items P) x
    (reads_append d.items e.items P x h))
  where
    go : (Reads (gen_ops (gen_op k op).next ops).items P x → Ground (ReadsFirst ops exit) x
        ⊎ (P x × Kept (WrittenIn ops) x)) → OpGives op (Reads (gen_ops (gen_op k op).next ops).items P) x
        → Ground (ReadsFirst (op ∷ ops) exit) x ⊎ (P x × Kept (WrittenIn (op ∷ ops)) x)
    go ih h = grind (arith, ground_more)

-- what an exit's items read, where plans need these names
abbrev pub ExitGives : (ℕ → ℕ) → (ℕ → ℕ → Type 0) → graph.Exit → ℕ → Type 0
ExitGives place L exit x = Ground (ExitReads exit) x ⊎ ((c : ℕ) × Carries exit c × L (place c) x)

needs_either : (place : ℕ → ℕ) (L : ℕ → ℕ → Type 0) (t : Term) (a b z x : ℕ)
    → ((x ≡ z → ⊥) × ((x ≡ pulse) ⊎ (L (place a) x ⊎ L (place b) x))) → ExitGives place L (graph.Branch t a b)
    x
needs_either place L t a b z x h = grind arith

pub exit_reads : (place : ℕ → ℕ) (L : ℕ → ℕ → Type 0) (exit : graph.Exit) (k x : ℕ)
    → Reads (gen_exit place k exit).items (Needs L (exit_next k exit) (gen_exit place k exit).exit) x
    → ExitGives place L exit x
exit_reads place L (graph.Goto c) k x h = inr (c, refl, h)
exit_reads place L (graph.Branch t a b) k x h =
    elim (source_reads t k (λ y. (y ≡ (gen_source k t).next → ⊥)
    × ((y ≡ pulse) ⊎ (L (place a) y ⊎ L (place b) y))) x h) [
      | inl r ↦ inl r
      | inr q ↦ needs_either place L t a b (gen_source k t).next x q
    ]
exit_reads place L (graph.Call r f ts back) k x h = inl (inl h)
exit_reads place L (graph.Return t) k x h = grind (arith, term_reads)
exit_reads place L (graph.Send t ts ls) k x h = let a = gen_term k t in let m = gen_terms a.next ts in
    let Q : ℕ → Type 0 = λ y. In y (a.name ∷ []) ⊎ ((y ≡ m.next → ⊥) × In y (pulse ∷ m.names)) in
    elim (term_reads t k (Reads m.items Q) x (reads_append a.items m.items Q x h)) [
      | inl r ↦ inl (ground_more (Mentions t) (ExitReads (graph.Send t ts ls)) x (λ y w. inl w) r)
      | inr q ↦ elim (many_reads ts a.next Q x q.0) [
        | inl r ↦ inl (ground_more (OneMentions ts) (ExitReads (graph.Send t ts ls)) x (λ y w. inr w) r)
        | inr p ↦ elim p.0 [
          | inl i ↦
              elim i [
                | inl e ↦
                    inl (ground_more (Mentions t) (ExitReads (graph.Send t ts ls)) x (λ y w. inl w)
                    (from_term t k x e q.1))
                | inr b ↦ absurd b
              ]
          | inr w ↦ elim w.1 [
            | inl e ↦ inl (inl e)
            | inr i ↦ absurd (let s = many_named ts a.next x i in let s0 : a.next ≤ x = s.0 in
                let s1 : x < m.next = s.1 in let o : m.next ≤ x = p.1 s0 in omega arith)
          ]
        ]
      ]
    ]
exit_reads place L graph.Stop k x h = inl (inl h)
