-- The places of what waits stay with them.
use Rattle.std.proofs.Common.{ℕ, ◌≡◌, ◌<◌, ◌≤◌, ◌⊎◌, List, [], ◌∷◌, ◌++◌, length, Option, Some, None}
use Rattle.std.proofs.Common.{slice_index_or, slice_set, sym, ap, ◌∙◌, subst, inl, inr, arith}
use Rattle.std.proofs.lemmas.Bool.{cases_lt, cases_eq}
use Rattle.ws_isa.specs.Image.{Image, note_of}
use Rattle.store_buf.specs.declared.kept.Kept.{Kept}
use Rattle.store_buf.specs.declared.order.Order.{Order}
use Rattle.store_buf.specs.declared.later.Later.{Later}
use Rattle.store_buf.specs.declared.wave_places.WavePlaces.{WavePlaces}
use Rattle.store_buf.specs.Ranks.{HasPlace, IsFiled}
use Rattle.store_buf.specs.Laters.{IsFiledIn}
use Rattle.store_buf.specs.Earlies.{Numbered, early_items}
use Rattle.store_buf.specs.Ordering.{no_request, kept_at, AllFiled, FiledBut, FiledHere, FiledThere}
use Rattle.store_buf.specs.Ordering.{WaitsHere, number_of, ripple_of}
use Rattle.store_buf.proofs.Earlies.{numbered_still}
use Rattle.store_buf.proofs.Lists.{set_here, set_other, set_length, push_here, push_other}
use Rattle.ws_words.proofs.Lists.{push_length}

pub but_one : (image : Image) (o : Order) (place : ℕ) → AllFiled image o → FiledBut image o place
but_one image o place filed = record {
  near = λ p n. filed.near p;
  far = λ p n. filed.far p;
  early = filed.early;
}

pub same_near : (a b : WavePlaces) → b ≡ a → (n : ℕ) (r : Option ℕ) (p : ℕ) → IsFiled a n r p
    → IsFiled b n r p
same_near a b e n r p = subst (λ (x : WavePlaces). IsFiled x n r p) (sym e)

pub same_later : (a b : Later) → b ≡ a → (w n : ℕ) (r : Option ℕ) (p : ℕ) → IsFiledIn a w n r p
    → IsFiledIn b w n r p
same_later a b e w n r p = subst (λ (x : Later). IsFiledIn x w n r p) (sym e)

module _ (image : Image) (o new : Order) (filed : AllFiled image o) (wave : new.chain.wave ≡ o.chain.wave)
    (near : (n : ℕ) (r : Option ℕ) (p : ℕ) → IsFiled o.near n r p → IsFiled new.near n r p)
    (later : (w n : ℕ) (r : Option ℕ) (p : ℕ) → IsFiledIn o.later w n r p → IsFiledIn new.later w n r p)
    (numbered : Numbered image new.early) where
  -- of the same requests
  pub same_filed : new.kept.items ≡ o.kept.items → AllFiled image new
  same_filed kept = record {
    near = λ p h. near _ _ p (subst (λ (k : Kept). IsFiled o.near (number_of image k) (ripple_of image k) p)
        (sym (at p))
        (filed.near p (record {
          within = subst (λ (ks : List Kept). p < length ks) kept h.within;
          current = ap (λ (k : Kept). k.wave) (sym (at p)) ∙ h.current ∙ wave;
          waits = ap (λ (k : Kept). k.answer) (sym (at p)) ∙ h.waits;
        })));
    far = λ p l lt a.
        later _ _ _ p
        (subst (λ (k : Kept). IsFiledIn o.later k.wave (number_of image k) (ripple_of image k) p) (sym (at p))
        (filed.far p (subst (λ (ks : List Kept). p < length ks) kept l)
        (let e : (kept_at new p).wave ≡ (kept_at o p).wave = ap (λ (k : Kept). k.wave) (at p) in
        omega (arith, lt, wave, e)) (ap (λ (k : Kept). k.answer) (sym (at p)) ∙ a)));
    early = numbered;
  }
    where
      at : (p : ℕ) → kept_at new p ≡ kept_at o p
      at p = ap (λ (ks : List Kept). slice_index_or ks p no_request) kept

  -- of one more
  module _ (k : Kept) (kept : new.kept.items ≡ o.kept.items ++ k ∷ []) where
    place : (p : ℕ) → p < length new.kept.items → ((p < length o.kept.items) × (kept_at new p ≡ kept_at o p))
        ⊎ ((length o.kept.items ≡ p) × (kept_at new p ≡ k))
    place p l =
        grind (
          arith,
          cases_lt p (length o.kept.items),
          push_other,
          push_length o.kept.items k,
          push_here o.kept.items k no_request,
        )

    -- which isn't filed
    pub but_last : FiledBut image new (length o.kept.items)
    but_last = record {
      near = λ p n h. elim (place p h.within) [
        | inl a ↦ near _ _ p (subst (λ (x : Kept). IsFiled o.near (number_of image x) (ripple_of image x) p)
            (sym a.1)
            (filed.near p (record {
              within = a.0;
              current = ap (λ (x : Kept). x.wave) (sym a.1) ∙ h.current
                  ∙ wave;
              waits = ap (λ (x : Kept). x.answer) (sym a.1) ∙ h.waits;
            })))
        | inr a ↦ absurd (n (sym a.0))
      ];
      far = λ p n l lt w. elim (place p l) [
        | inl a ↦
            later _ _ _ p
            (subst (λ (x : Kept). IsFiledIn o.later x.wave (number_of image x) (ripple_of image x) p)
            (sym a.1)
            (filed.far p a.0 (let e : (kept_at new p).wave ≡ (kept_at o p).wave = ap (λ (x : Kept). x.wave)
            a.1 in omega (arith, lt, wave, e)) (ap (λ (x : Kept). x.answer) (sym a.1) ∙ w)))
        | inr a ↦ absurd (n (sym a.0))
      ];
      early = numbered;
    }

    earlier : (p : ℕ) → p < length o.kept.items → p ≡ length o.kept.items → ⊥
    earlier p l e = omega (arith, l, e)

    -- which is filed
    module _ (here : k.wave ≤ o.chain.wave → IsFiled new.near (number_of image k) (ripple_of image k)
        (length o.kept.items))
        (there : o.chain.wave < k.wave → IsFiledIn new.later k.wave (number_of image k) (ripple_of image k)
        (length o.kept.items)) where
      pub more_filed : AllFiled image new
      more_filed = record {
        near = λ p h. elim (place p h.within) [
          | inl a ↦ but_last.near p (earlier p a.0) h
          | inr a ↦ subst (λ (x : Kept). IsFiled new.near (number_of image x) (ripple_of image x) p) (sym a.1)
              (subst (IsFiled new.near (number_of image k) (ripple_of image k)) a.0
              (here (let e : k.wave ≡ (kept_at new p).wave = ap (λ (x : Kept). x.wave) (sym a.1) in
              omega (arith, e, h.current, wave))))
        ];
        far = λ p l lt w. elim (place p l) [
          | inl a ↦ but_last.far p (earlier p a.0) l lt w
          | inr a ↦ subst (λ (x : Kept). IsFiledIn new.later x.wave (number_of image x) (ripple_of image x) p)
              (sym a.1)
              (subst (IsFiledIn new.later k.wave (number_of image k) (ripple_of image k)) a.0
              (there (let e : k.wave ≡ (kept_at new p).wave = ap (λ (x : Kept). x.wave) (sym a.1) in
              omega (arith, lt, e, wave))))
        ];
        early = numbered;
      }

-- room was made
pub roomy_filed : (image : Image) (o new : Order) → AllFiled image o → new.kept.items ≡ o.kept.items
    → early_items new.early ≡ early_items o.early → new.near ≡ o.near → new.later ≡ o.later
    → new.chain ≡ o.chain → AllFiled image new
roomy_filed image o new filed kept early near later chain =
    same_filed image o new filed (ap (λ (c : _). c.wave) chain) (same_near o.near new.near near)
    (same_later o.later new.later later)
    (numbered_still image (early_items o.early) (early_items new.early) filed.early early) kept

-- a request changes, or has its answer
module _ (image : Image) (o new : Order) (p : ℕ) (filed : FiledBut image o p) (k : Kept)
    (l : p < length o.kept.items) (kept : new.kept.items ≡ slice_set o.kept.items p k)
    (numbered : Numbered image new.early) where
  within : (q : ℕ) → q < length new.kept.items → q < length o.kept.items
  within q m = grind (arith, set_length)

  at_p : kept_at new p ≡ k
  at_p = ap (λ (ks : List Kept). slice_index_or ks p no_request) kept ∙ set_here o.kept.items p k no_request l

  at_q : (q : ℕ) → (p ≡ q → ⊥) → kept_at new q ≡ kept_at o q
  at_q q n = grind (arith, set_other)

  -- in the same wave
  pub filed_changed : (k.answer ≡ None → AllFiled image o × ((kept_at o p).answer ≡ None)
      × (k.wave ≡ (kept_at o p).wave) × (k.instr ≡ (kept_at o p).instr)
      × (ripple_of image k ≡ ripple_of image (kept_at o p))) →
      new.chain.wave ≡ o.chain.wave → new.near ≡ o.near → new.later ≡ o.later → AllFiled image new
  filed_changed alike wave near later = record {
    near = λ q h. let s = before q h.waits in
        subst (λ (x : WavePlaces × ℕ × Option ℕ). IsFiled x.0 x.1 x.2 q)
        (λ j. (sym near j, (note_of image (sym s.2 j)).seq, sym s.3 j))
        ((was_filed q h.waits).0 (record {
          within = within q h.within;
          current = sym s.1 ∙ h.current ∙ wave;
          waits = s.0;
        }));
    far = λ q m lt e. let s = before q e in
        subst (λ (x : _ × ℕ × ℕ × Option ℕ). IsFiledIn x.0 x.1 x.2 x.3 q)
        (λ j. (sym later j, sym s.1 j, (note_of image (sym s.2 j)).seq, sym s.3 j))
        ((was_filed q e).1 (within q m) (let w = s.1 in omega (arith, lt, wave, w)) s.0);
    early = numbered;
  }
    where
      before : (q : ℕ) → (kept_at new q).answer ≡ None → ((kept_at o q).answer ≡ None)
          × ((kept_at new q).wave ≡ (kept_at o q).wave) × ((kept_at new q).instr ≡ (kept_at o q).instr)
          × (ripple_of image (kept_at new q) ≡ ripple_of image (kept_at o q))
      before q e = grind (arith, cases_eq p q, at_p, at_q)

      was_filed : (q : ℕ) → (kept_at new q).answer ≡ None → FiledHere image o q × FiledThere image o q
      was_filed q e = elim (cases_eq p q) [
        | inl same ↦ (let all = (alike (ap (λ (x : Kept). x.answer) (sym at_p)
            ∙ ap (λ (n : ℕ). (kept_at new n).answer) same ∙ e)).0 in (all.near q, all.far q))
        | inr other ↦ (filed.near q (λ s. other (sym s)), filed.far q (λ s. other (sym s)))
      ]

  module _ (a : ℕ) (answered : k.answer ≡ Some a) where
    pub filed_here : new.chain.wave ≡ o.chain.wave → new.near ≡ o.near → new.later ≡ o.later
        → AllFiled image new
    filed_here = filed_changed (λ e. absurd (let f : Some a ≡ None = sym answered ∙ e in cc))

    other : (q : ℕ) → (kept_at new q).answer ≡ None → q ≡ p → ⊥
    other q e s = absurd (let f : Some a ≡ None = sym answered ∙ ap (λ (x : Kept). x.answer) (sym at_p)
        ∙ ap (λ (n : ℕ). (kept_at new n).answer) (sym s) ∙ e in cc)

    still_waits : (q : ℕ) → (kept_at new q).answer ≡ None → kept_at new q ≡ kept_at o q
    still_waits q e = grind (arith, cases_eq, at_p, at_q)

    far_before : (q : ℕ) → q < length new.kept.items → o.chain.wave < (kept_at new q).wave
        → (kept_at new q).answer ≡ None →
        IsFiledIn o.later (kept_at new q).wave (number_of image (kept_at new q))
        (ripple_of image (kept_at new q)) q
    far_before q m lt e = grind (arith, still_waits q e, within q m, filed.far q (other q e))

    -- and the wave is over
    pub filed_last : o.chain.wave < new.chain.wave
        → ((n : ℕ) (r : Option ℕ) (q : ℕ) → IsFiledIn o.later new.chain.wave n r q → IsFiled new.near n r q) →
        ((w n : ℕ) (r : Option ℕ) (q : ℕ) → (new.chain.wave ≡ w → ⊥) → IsFiledIn o.later w n r q
        → IsFiledIn new.later w n r q) → AllFiled image new
    filed_last moved near later = record {
      near = λ q h.
          near _ _ q
          (subst (λ (w : ℕ). IsFiledIn o.later w (number_of image (kept_at new q))
          (ripple_of image (kept_at new q)) q) h.current
          (far_before q h.within (omega (arith, moved, h.current)) h.waits));
      far = λ q m lt e. later _ _ _ q (λ w. omega (arith, w, lt))
          (far_before q m (omega (arith, moved, lt)) e);
      early = numbered;
    }

-- a top goes that isn't of a load that waits here
pub load_gone : (image : Image) (o new : Order) (ripple place : ℕ) → AllFiled image o
    → Numbered image new.early → new.kept.items ≡ o.kept.items → new.chain ≡ o.chain → new.later ≡ o.later
    → new.near.turns ≡ o.near.turns →
    ((n p : ℕ) → HasPlace o.near.loads n p → ((ripple ≡ n) × (place ≡ p)) ⊎ HasPlace new.near.loads n p)
    → (WaitsHere o place → ripple_of image (kept_at o place) ≡ Some ripple → ⊥) → AllFiled image new
load_gone image o new ripple place filed numbered kept chain later turns left gone = record {
  near = λ p h. let a = before p h in let f = filed.near p a in record {
    turn = subst (λ (x : _ × Kept). HasPlace x.0 (number_of image x.1) p) (λ j. (sym turns j, sym (at p) j))
        f.turn;
    load = λ r e. let is = ap (ripple_of image) (sym (at p)) ∙ e in elim (left r p (f.load r is)) [
      | inl g ↦
          absurd (gone (subst (WaitsHere o) (sym g.1) a) (ap (λ (q : ℕ). ripple_of image (kept_at o q)) g.1
          ∙ is ∙ ap (λ (n : ℕ). Some n) (sym g.0)))
      | inr t ↦ t
    ];
  };
  far = λ p l lt a. subst (λ (x : _ × Kept). IsFiledIn x.0 x.1.wave (number_of image x.1)
      (ripple_of image x.1) p) (λ j. (sym later j, sym (at p) j))
      (filed.far p (subst (λ (ks : List Kept). p < length ks) kept l)
      (let e : (kept_at new p).wave ≡ (kept_at o p).wave = ap (λ (k : Kept). k.wave) (at p) in
      let w : new.chain.wave ≡ o.chain.wave = ap (λ (c : _). c.wave) chain in omega (arith, lt, w, e))
      (ap (λ (k : Kept). k.answer) (sym (at p)) ∙ a));
  early = numbered;
}
  where
    at : (p : ℕ) → kept_at new p ≡ kept_at o p
    at p = ap (λ (ks : List Kept). slice_index_or ks p no_request) kept

    before : (p : ℕ) → WaitsHere new p → WaitsHere o p
    before p h = grind (arith, within)

-- a top goes that isn't of a request that waits here
pub turn_gone : (image : Image) (o new : Order) (number place : ℕ) → AllFiled image o
    → Numbered image new.early → new.kept.items ≡ o.kept.items → new.chain ≡ o.chain → new.later ≡ o.later
    → new.near.loads ≡ o.near.loads →
    ((n p : ℕ) → HasPlace o.near.turns n p → ((number ≡ n) × (place ≡ p)) ⊎ HasPlace new.near.turns n p)
    → (WaitsHere o place → number_of image (kept_at o place) ≡ number → ⊥) → AllFiled image new
turn_gone image o new number place filed numbered kept chain later loads left gone = record {
  near = λ p h. let a = before p h in let f = filed.near p a in record {
    turn = elim (left _ p (f.turn)) [
      | inl e ↦
          absurd (gone (subst (WaitsHere o) (sym e.1) a) (ap (λ (q : ℕ). number_of image (kept_at o q)) e.1
          ∙ sym e.0))
      | inr t ↦ subst (λ (k : Kept). HasPlace new.near.turns (number_of image k) p) (sym (at p)) t
    ];
    load = λ r e. subst (λ (x : _). HasPlace x r p) (sym loads)
        (f.load r (ap (ripple_of image) (sym (at p)) ∙ e));
  };
  far = λ p l lt a. subst (λ (x : _ × Kept). IsFiledIn x.0 x.1.wave (number_of image x.1)
      (ripple_of image x.1) p) (λ j. (sym later j, sym (at p) j))
      (filed.far p (subst (λ (ks : List Kept). p < length ks) kept l)
      (let e : (kept_at new p).wave ≡ (kept_at o p).wave = ap (λ (k : Kept). k.wave) (at p) in
      let w : new.chain.wave ≡ o.chain.wave = ap (λ (c : _). c.wave) chain in omega (arith, lt, w, e))
      (ap (λ (k : Kept). k.answer) (sym (at p)) ∙ a));
  early = numbered;
}
  where
    at : (p : ℕ) → kept_at new p ≡ kept_at o p
    at p = ap (λ (ks : List Kept). slice_index_or ks p no_request) kept

    before : (p : ℕ) → WaitsHere new p → WaitsHere o p
    before p h = grind (arith, within)
