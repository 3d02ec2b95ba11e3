-- What the trees of requests have under an instance.
use Rattle.std.proofs.Common.{ℕ, zero, suc, ◌≡◌, ◌<◌, ◌≤◌, ◌⊎◌, ◌/◌, true, false, lt-ltb, le-ltb, List}
use Rattle.std.proofs.Common.{length, Some, None, refl, sym, ap, ◌∙◌, inl, inr, arith}
use Rattle.std.proofs.lemmas.Bool.{cases_lt}
use Rattle.df_core.specs.Core.{same_key}
use Rattle.df_core.proofs.Keeping.Ports.{SameKey, with_key_cases}
use Rattle.store_buf.specs.declared.kept.Kept.{Kept}
use Rattle.store_buf.specs.declared.node.Node.{Node}
use Rattle.store_buf.specs.declared.index.Hook.{Hook}
use Rattle.store_buf.specs.declared.index.Hook.TheVariants.{Root, At, Behind, Deep}
use Rattle.store_buf.specs.Requests.{request_at}
use Rattle.store_buf.specs.Hooks.{HookIs, place_of}
use Rattle.store_buf.specs.Trees.{nowhere, node_at, child_of, with_child, leaf, seek, in_trees, root_of}
use Rattle.store_buf.specs.Trees.{IsLink, TreesOk, AllGrown, LeadsTo}

-- past the nodes there is none
pub seek_past : (ks : List Kept) (ns : List Node) (n at key w i : ℕ) → length ns ≤ at
    → seek ks ns n at key w i ≡ None
seek_past ks ns n at key w i l = grind (arith, le-ltb)

-- at a node of the instance
pub seek_here : (ks : List Kept) (ns : List Node) (n at key w i : ℕ) → at < length ns
    → SameKey (request_at ks at).wave (request_at ks at).instr w i → seek ks ns (suc n) at key w i ≡ Some at
seek_here ks ns n at key w i l s = grind (arith, lt-ltb, with_key_cases)

-- at a node of another one
pub seek_on : (ks : List Kept) (ns : List Node) (n at key w i : ℕ) → at < length ns
    → (SameKey (request_at ks at).wave (request_at ks at).instr w i → ⊥)
    → seek ks ns (suc n) at key w i ≡ seek ks ns n (child_of (node_at ns at) key) (key / 2) w i
seek_on ks ns n at key w i l s = grind (arith, lt-ltb, with_key_cases)

pub is_same : (a b w i : ℕ) → same_key a b w i ≡ true → SameKey a b w i
is_same a b w i e = grind (arith, with_key_cases)

pub is_other : (a b w i : ℕ) → same_key a b w i ≡ false → SameKey a b w i → ⊥
is_other a b w i e s = grind (arith, with_key_cases)

pub grown_same : (ks : List Kept) (ns : List Node) → AllGrown ks ks ns ns
grown_same ks ns p l = record { within = l; wave = refl; instr = refl; links = λ key h. refl }

-- one node further
pub leads_on : (ks : List Kept) (ns : List Node) (root w i n at key : ℕ)
    → LeadsTo ks ns root w i (suc n) at key → at < length ns
    → same_key (request_at ks at).wave (request_at ks at).instr w i ≡ false
    → child_of (node_at ns at) key < length ns
    → LeadsTo ks ns root w i n (child_of (node_at ns at) key) (key / 2)
leads_on ks ns root w i n at key so l other inside more new grown =
    let g = grown at l in
    so more new grown
    ∙ seek_on more new n at key w i g.within
    (λ s. is_other _ _ w i other (record { wave = sym g.wave ∙ s.wave; instr = sym g.instr ∙ s.instr }))
    ∙ ap (λ (q : ℕ). seek more new n q (key / 2) w i) (g.links key inside)

-- the place of an instance that stands or would stand there
pub placed : (ks : List Kept) (ns : List Node) (root w i : ℕ) (hook : Hook) → HookIs ks ns root w i hook
    → seek ks ns 33 root i w i ≡ place_of hook
placed ks ns root w i Root so = seek_past ks ns 33 root i w i so
placed ks ns root w i (At at) so = so.2.2 ks ns (grown_same ks ns)
    ∙ seek_here ks ns so.2.0 at so.2.1 w i so.0 (is_same _ _ w i so.1)
placed ks ns root w i (Behind at key) so = so.3.1 ks ns (grown_same ks ns)
    ∙ seek_on ks ns (suc so.3.0) at key w i so.0 (is_other _ _ w i so.1)
    ∙ seek_past ks ns (suc so.3.0) (child_of (node_at ns at) key) (key / 2) w i so.2
placed ks ns root w i Deep so = so

-- nodes that are still found, but for those of one instance
pub record Left (ks more : List Kept) (old new : List Node) (w i p : ℕ) : Type 0 where
  pub within : p < length new
  pub wave : (request_at more p).wave ≡ (request_at ks p).wave
  pub instr : (request_at more p).instr ≡ (request_at ks p).instr
  pub links : (key : ℕ) → (child_of (node_at new p) key ≡ child_of (node_at old p) key)
      ⊎ ((length old ≤ child_of (node_at old p) key)
      × ((n k : ℕ) → seek more new n (child_of (node_at new p) key) k w i ≡ None))

pub others : (ks more : List Kept) (old new : List Node) (roots : List ℕ) (w i : ℕ) → TreesOk old roots
    → length new ≤ nowhere → ((p : ℕ) → p < length old → Left ks more old new w i p) → (n at key : ℕ)
    → IsLink old at → seek more new n at key w i ≡ seek ks old n at key w i
others ks more old new roots w i linked few left zero at key link = refl
others ks more old new roots w i linked few left (suc n) at key link =
    go (λ p k o. others ks more old new roots w i linked few left n p k o) (cases_lt at (length old))
  where
    go : ((p k : ℕ) → IsLink old p → seek more new n p k w i ≡ seek ks old n p k w i)
        → (at < length old) ⊎ (length old ≤ at)
        → seek more new (suc n) at key w i ≡ seek ks old (suc n) at key w i
    go on (inr e) = grind (arith, seek_past)
    go on (inl l) =
        let g = left at l in
        elim (with_key_cases {A = ℕ} (request_at ks at).wave (request_at ks at).instr (Some 0)
        (λ x y. None) w i) [
          | inl h ↦
              seek_here more new n at key w i g.within
              (record { wave = g.wave ∙ h.0.wave; instr = g.instr ∙ h.0.instr })
              ∙ sym (seek_here ks old n at key w i l h.0)
          | inr h ↦
              seek_on more new n at key w i g.within
              (λ s. h.0 (record { wave = sym g.wave ∙ s.wave; instr = sym g.instr ∙ s.instr }))
              ∙ elim (g.links key) [
                | inl e ↦ ap (λ (q : ℕ). seek more new n q (key / 2) w i) e
                    ∙ on (child_of (node_at old at) key) (key / 2) (linked.nodes at key l)
                | inr e ↦ e.1 n (key / 2)
                    ∙ sym (seek_past ks old n (child_of (node_at old at) key) (key / 2) w i e.0)
              ]
              ∙ sym (seek_on ks old n at key w i l h.0)
        ]

-- requests of the same instances
pub alike : (ks new : List Kept) (ns : List Node) (rs : List ℕ) → TreesOk ns rs
    → ((p : ℕ) → (request_at new p).wave ≡ (request_at ks p).wave)
    → ((p : ℕ) → (request_at new p).instr ≡ (request_at ks p).instr)
    → (w i : ℕ) → in_trees new ns rs w i ≡ in_trees ks ns rs w i
alike ks new ns rs linked wave instr w i = others ks new ns ns rs w i linked linked.few
    (λ p l. record { within = l; wave = wave p; instr = instr p; links = λ key. inl refl }) 33 (root_of rs w)
    i (linked.roots w)

-- a leaf of another instance
pub leaf_none : (ks : List Kept) (ns : List Node) (at w i : ℕ) → at < length ns → length ns ≤ nowhere
    → node_at ns at ≡ leaf → (SameKey (request_at ks at).wave (request_at ks at).instr w i → ⊥)
    → (n key : ℕ) → seek ks ns n at key w i ≡ None
leaf_none ks ns at w i l few is other zero key = refl
leaf_none ks ns at w i l few is other (suc n) key = grind (arith, seek_on, seek_past)

-- a node with another one behind it has that one, or what it had
pub with_links : (n : Node) (key next k : ℕ) → (child_of (with_child n key next) k ≡ child_of n k)
    ⊎ ((child_of n k ≡ child_of n key) × (child_of (with_child n key next) k ≡ next))
with_links n key next k = grind arith

pub with_own : (n : Node) (key next : ℕ) → child_of (with_child n key next) key ≡ next
with_own n key next = grind arith
