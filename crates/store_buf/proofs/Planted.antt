-- One more node in the trees of requests.
use Rattle.std.proofs.Common.{ℕ, suc, ◌≡◌, ◌<◌, ◌≤◌, ◌/◌, false, cond, List, [], ◌∷◌, ◌++◌, length}
use Rattle.std.proofs.Common.{Some, None, slice_index_or, slice_set, sym, ap, ◌∙◌, subst, inl, inr, arith}
use Rattle.std.proofs.lemmas.Bool.{cases_lt, cases_eq}
use Rattle.df_core.specs.Core.{same_key}
use Rattle.df_core.proofs.Keeping.Ports.{SameKey, with_key_cases}
use Rattle.store_buf.specs.declared.kept.Kept.{Kept}
use Rattle.store_buf.specs.declared.node.Node.{Node}
use Rattle.store_buf.specs.Requests.{no_request, request_at}
use Rattle.store_buf.specs.Trees.{nowhere, node_at, child_of, with_child, leaf, seek, root_of}
use Rattle.store_buf.specs.Trees.{in_trees, IsLink, TreesOk, AllGrown, LeadsTo}
use Rattle.store_buf.proofs.Lists.{set_here, set_other, set_length, push_here, push_other, or_any}
use Rattle.ws_words.proofs.Lists.{push_length}
use Rattle.store_buf.proofs.Searched.{seek_past, seek_here, seek_on, is_other, Left, others}
use Rattle.store_buf.proofs.Searched.{leaf_none, with_links, with_own}

still_link : (old new : List Node) (at : ℕ) → length old ≤ length new → IsLink old at → IsLink new at
still_link old new at l link e = link (omega (arith, l, e))

leaf_behind : (key : ℕ) → child_of leaf key ≡ nowhere
leaf_behind key = grind arith

-- the list of the requests has one more
module _ (ns : List Node) (ks : List Kept) (k : Kept) (as_many : length ns ≡ length ks) where
  abbrev pub all : List Kept
  all = ks ++ k ∷ []

  old_request : (q : ℕ) → q < length ns → request_at all q ≡ request_at ks q
  old_request q l = push_other ks q k no_request (omega (arith, l, as_many))

  new_request : request_at all (length ns) ≡ k
  new_request = ap (request_at all) as_many ∙ push_here ks k no_request

  new_key : SameKey (request_at all (length ns)).wave (request_at all (length ns)).instr k.wave k.instr
  new_key = record {
    wave = ap (λ (x : Kept). x.wave) new_request;
    instr = ap (λ (x : Kept). x.instr) new_request;
  }

  other_key : (w i : ℕ) → (SameKey k.wave k.instr w i → ⊥)
      → SameKey (request_at all (length ns)).wave (request_at all (length ns)).instr w i → ⊥
  other_key w i n s = n (record { wave = sym new_key.wave ∙ s.wave; instr = sym new_key.instr ∙ s.instr })

-- the first node of a wave
module _ (ns : List Node) (rs : List ℕ) (a : ℕ) (linked : TreesOk ns rs) (room : length ns < nowhere)
    (reached : a < length rs) where
  abbrev pub more : List Node
  more = ns ++ leaf ∷ []

  more_length : length more ≡ suc (length ns)
  more_length = push_length ns leaf

  more_old : (q : ℕ) → q < length ns → node_at more q ≡ node_at ns q
  more_old q l = push_other ns q leaf leaf l

  more_new : node_at more (length ns) ≡ leaf
  more_new = push_here ns leaf leaf

  abbrev pub roots : List ℕ
  roots = slice_set rs a (length ns)

  own_root : root_of roots a ≡ length ns
  own_root = set_here rs a (length ns) nowhere reached

  other_root : (w : ℕ) → (a ≡ w → ⊥) → root_of roots w ≡ root_of rs w
  other_root w n = set_other rs a w (length ns) nowhere n

  module _ (ks : List Kept) (k : Kept) (as_many : length ns ≡ length ks) (of : k.wave ≡ a)
      (bare : length ns ≤ root_of rs k.wave) where
    more_left : (w i q : ℕ) → q < length ns → Left ks (all ns ks k as_many) ns more w i q
    more_left w i q l = record {
      within = omega (arith, l, more_length);
      wave = ap (λ (x : Kept). x.wave) (old_request ns ks k as_many q l);
      instr = ap (λ (x : Kept). x.instr) (old_request ns ks k as_many q l);
      links = λ key. inl (ap (λ (x : Node). child_of x key) (more_old q l));
    }

    own_place : in_trees (all ns ks k as_many) more roots k.wave k.instr ≡ Some (length ks)
    own_place = ap (λ (r : ℕ). seek (all ns ks k as_many) more 33 r k.instr k.wave k.instr)
        (ap (root_of roots) of ∙ own_root)
        ∙ seek_here (all ns ks k as_many) more 32 (length ns) k.instr k.wave k.instr
        (omega (arith, more_length)) (new_key ns ks k as_many) ∙ ap (λ (n : ℕ). Some n) as_many

    pub planted_has : (w i : ℕ) → in_trees (ks ++ k ∷ []) more roots w i
        ≡ cond (same_key k.wave k.instr w i) (Some (length ks)) (in_trees ks ns rs w i)
    planted_has w i = elim (with_key_cases k.wave k.instr (Some (length ks)) (in_trees ks ns rs) w i) [
      | inl h ↦ subst (λ (x : ℕ × ℕ). in_trees (all ns ks k as_many) more roots x.0 x.1 ≡ Some (length ks))
          (λ j. (h.0.wave j, h.0.instr j)) own_place ∙ sym h.1
      | inr h ↦ elim (cases_eq a w) [
        | inl e ↦ ap (λ (r : ℕ). seek (all ns ks k as_many) more 33 r i w i)
            (subst (λ (x : ℕ). root_of roots x ≡ length ns) e own_root)
            ∙ leaf_none (all ns ks k as_many) more (length ns) w i (omega (arith, more_length))
            (omega (arith, more_length, room)) more_new (other_key ns ks k as_many w i h.0) 33 i
            ∙ sym (seek_past ks ns 33 (root_of rs w) i w i
            (subst (λ (x : ℕ). length ns ≤ root_of rs x) (of ∙ e) bare))
            ∙ sym h.1
        | inr n ↦ ap (λ (r : ℕ). seek (all ns ks k as_many) more 33 r i w i) (other_root w n)
            ∙ others ks (all ns ks k as_many) ns more rs w i linked (omega (arith, more_length, room))
            (more_left w i) 33 (root_of rs w) i (linked.roots w) ∙ sym h.1
      ]
    ]

-- a node behind another one
module _ (ns : List Node) (rs : List ℕ) (at key : ℕ) (linked : TreesOk ns rs) (room : length ns < nowhere)
    (l : at < length ns) where
  abbrev pub hung : List Node
  hung = slice_set (ns ++ leaf ∷ []) at (with_child (node_at ns at) key (length ns))

  -- as the code makes it
  pub hung_is : (items : List Node) (n : Node) (next : ℕ) → items ≡ ns ++ leaf ∷ [] → next ≡ length ns
      → n ≡ slice_index_or items at n → slice_set items at (with_child n key next) ≡ hung
  hung_is items n next e one read =
      let node : n ≡ node_at ns at = read ∙ ap (λ (xs : List Node). slice_index_or xs at n) e
      ∙ push_other ns at leaf n l ∙ or_any ns at n leaf l in
      λ j. slice_set (e j) at (with_child (node j) key (one j))

  hung_length : length hung ≡ suc (length ns)
  hung_length = grind (arith, set_length, push_length)

  hung_at : node_at hung at ≡ with_child (node_at ns at) key (length ns)
  hung_at = grind (arith, set_here, push_length)

  hung_old : (q : ℕ) → (at ≡ q → ⊥) → q < length ns → node_at hung q ≡ node_at ns q
  hung_old q n m = grind (arith, set_other, push_other)

  hung_new : node_at hung (length ns) ≡ leaf
  hung_new = grind (arith, set_other, push_here)

  hung_links : (q k : ℕ) → q < length hung → IsLink hung (child_of (node_at hung q) k)
  hung_links q k m =
      grind (
        arith,
        cases_eq,
        hung_at,
        with_links,
        still_link,
        hung_length,
        cases_lt,
        hung_old,
        hung_new,
        leaf_behind,
      )

  pub hung_linked : TreesOk hung rs
  hung_linked = grind (arith, hung_length, hung_links, still_link)

  module _ (ks : List Kept) (k : Kept) (as_many : length ns ≡ length ks)
      (other : same_key (request_at ks at).wave (request_at ks at).instr k.wave k.instr ≡ false)
      (bare : length ns ≤ child_of (node_at ns at) key) (left : ℕ)
      (so : LeadsTo ks ns (root_of rs k.wave) k.wave k.instr (suc (suc left)) at key) where
    still : (q n : ℕ) → q < length ns → child_of (node_at ns q) n < length ns
        → child_of (node_at hung q) n ≡ child_of (node_at ns q) n
    still q n m h = grind (arith, cases_eq, hung_at, with_links, hung_old)

    hung_grown : AllGrown ks (all ns ks k as_many) ns hung
    hung_grown q m = record {
      within = omega (arith, m, hung_length);
      wave = ap (λ (x : Kept). x.wave) (old_request ns ks k as_many q m);
      instr = ap (λ (x : Kept). x.instr) (old_request ns ks k as_many q m);
      links = λ n h. still q n m h;
    }

    behind : (w i : ℕ) → (SameKey k.wave k.instr w i → ⊥) → (n j : ℕ)
        → seek (all ns ks k as_many) hung n (length ns) j w i ≡ None
    behind w i unlike = leaf_none (all ns ks k as_many) hung (length ns) w i (omega (arith, hung_length))
        (omega (arith, hung_length, room)) hung_new (other_key ns ks k as_many w i unlike)

    hung_left : (w i : ℕ) → (SameKey k.wave k.instr w i → ⊥) → (q : ℕ) → q < length ns
        → Left ks (all ns ks k as_many) ns hung w i q
    hung_left w i unlike q m = record {
      within = omega (arith, m, hung_length);
      wave = ap (λ (x : Kept). x.wave) (old_request ns ks k as_many q m);
      instr = ap (λ (x : Kept). x.instr) (old_request ns ks k as_many q m);
      links = λ n. elim (cases_eq at q) [
        | inl e ↦ elim (with_links (node_at ns at) key (length ns) n) [
          | inl g ↦ inl (subst (λ (x : ℕ). child_of (node_at hung x) n ≡ child_of (node_at ns x) n) e
              (ap (λ (x : Node). child_of x n) hung_at ∙ g))
          | inr g ↦ inr (
            subst (λ (x : ℕ). length ns ≤ child_of (node_at ns x) n) e
                (subst (λ (x : ℕ). length ns ≤ x) (sym g.0) bare),
            λ d j. subst (λ (x : ℕ). seek (all ns ks k as_many) hung d (child_of (node_at hung x) n) j w i
                ≡ None) e (subst (λ (x : ℕ). seek (all ns ks k as_many) hung d x j w i ≡ None)
                (sym (ap (λ (x : Node). child_of x n) hung_at ∙ g.1)) (behind w i unlike d j)),
          )
        ]
        | inr d ↦ inl (ap (λ (x : Node). child_of x n) (hung_old q d m))
      ];
    }

    own_hung : in_trees (all ns ks k as_many) hung rs k.wave k.instr ≡ Some (length ks)
    own_hung = (let g = hung_grown at l in
        so (all ns ks k as_many) hung hung_grown
        ∙ seek_on (all ns ks k as_many) hung (suc left) at key k.wave k.instr g.within
        (λ s. is_other _ _ k.wave k.instr other
        (record { wave = sym g.wave ∙ s.wave; instr = sym g.instr ∙ s.instr }))
        ∙ ap (λ (q : ℕ). seek (all ns ks k as_many) hung (suc left) q (key / 2) k.wave k.instr)
        (ap (λ (x : Node). child_of x key) hung_at ∙ with_own (node_at ns at) key (length ns))
        ∙ seek_here (all ns ks k as_many) hung left (length ns) (key / 2) k.wave k.instr
        (omega (arith, hung_length)) (new_key ns ks k as_many) ∙ ap (λ (n : ℕ). Some n) as_many)

    pub hung_has : (w i : ℕ) → in_trees (ks ++ k ∷ []) hung rs w i
        ≡ cond (same_key k.wave k.instr w i) (Some (length ks)) (in_trees ks ns rs w i)
    hung_has w i = elim (with_key_cases k.wave k.instr (Some (length ks)) (in_trees ks ns rs) w i) [
      | inl h ↦ subst (λ (x : ℕ × ℕ). in_trees (all ns ks k as_many) hung rs x.0 x.1 ≡ Some (length ks))
          (λ j. (h.0.wave j, h.0.instr j)) own_hung ∙ sym h.1
      | inr h ↦ others ks (all ns ks k as_many) ns hung rs w i linked (omega (arith, hung_length, room))
          (hung_left w i h.0) 33 (root_of rs w) i (linked.roots w) ∙ sym h.1
    ]
