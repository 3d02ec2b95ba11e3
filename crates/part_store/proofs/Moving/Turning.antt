-- A request or address that may go: what the chain lets, and what comes when it counts as issued.
use Rattle.std.proofs.Common.{ℕ, ◌≡◌, ◌<◌, ◌≤◌, ◌⊎◌, true, false, List, length, Option, Some, None}
use Rattle.std.proofs.Common.{slice_set, refl, sym, inl, inr, leb-true, arith}
use Rattle.std.proofs.lemmas.Bool.{and_parts}
use Rattle.ws_words.specs.Outside.{Outside, World}
use Rattle.ws_isa.specs.Image.{Image, instr_at, is_load, is_load_op, is_past, note_of}
use Rattle.ws_isa.specs.Formed.{Formed}
use Rattle.ws_isa.specs.Sound.{Sound}
use Rattle.df_core.specs.Effect.{effect_after}
use Rattle.df_core.specs.Core.{IsNext, Issuable, Passes, has, issued_with, position_after, with_key}
use Rattle.df_core.specs.Fit.{Legal, RightRequest}
use Rattle.df_core.proofs.Walked.Facts.{WalkFacts}
use Rattle.df_core.proofs.Keeping.Ports.{with_key_cases}
use Rattle.df_core.specs.Chains.{chain_of, PassedOn}
use Rattle.df_core.specs.Stands.{HasEarly, EarlyIssued}
use Rattle.df_core.proofs.Parts.Nexts.{next_is}
use Rattle.store_buf.specs.Earlies.{early_ops}
use Rattle.store_buf.specs.declared.kept.Kept.{Kept}
use Rattle.store_buf.specs.declared.order.Order.{Order}
use Rattle.store_buf.specs.Requests.{entry_of, issued_in}
use Rattle.store_buf.specs.Finding.{place_in}
use Rattle.store_buf.specs.Ordering.{kept_at, ready_flag}
use Rattle.store_buf.proofs.Found as F
use Rattle.store_buf.proofs.Ordered.{ready_waits}
use Rattle.store_buf.proofs.Going as G
use Rattle.store_buf.proofs.Alike.{early_alike, once_of, entry_set}
use Rattle.part_store.specs.Rules.{is_past_at}
use Rattle.part_store.proofs.Queueing.Times as T
use Rattle.part_store.proofs.Queueing.Ops as O
use Rattle.ws_words.proofs.Bools.{or_comes as either, not_true as not_false}
use Rattle.store_buf.specs.Orders.{OrderGoes}

module _ (image : Image) (o : Order) (p : ℕ) (l : p < length o.kept.items) where
  abbrev k : Kept
  k = kept_at o p

  pub found : entry_of o.kept.items (kept_at o p).wave (kept_at o p).instr ≡ Some (kept_at o p)
  found = sym (F.here _ (place_in o.kept.items o.index) o.ok.index _ _ _ (o.ok.index p l) l refl refl)

  pub answered : (word : ℕ) (ks : List Kept) →
      ks ≡ slice_set o.kept.items p (record {
        wave = (kept_at o p).wave;
        instr = (kept_at o p).instr;
        first = (kept_at o p).first;
        second = (kept_at o p).second;
        answer = Some word;
      }) →
      (w i : ℕ) → entry_of ks w i ≡ with_key (kept_at o p).wave (kept_at o p).instr
      (Some (record {
        wave = (kept_at o p).wave;
        instr = (kept_at o p).instr;
        first = (kept_at o p).first;
        second = (kept_at o p).second;
        answer = Some word;
      }))
      (entry_of o.kept.items) w i
  answered word ks kept w i = grind (arith, entry_set, once_of)

  module _ (ready : ready_flag image o (kept_at o p) ≡ true) where
    pub waits : ((kept_at o p).answer ≡ None) × ((kept_at o p).wave ≡ o.chain.wave)
    waits = ready_waits image o (kept_at o p) ready

    op_is : is_load image (kept_at o p).instr ≡ is_load_op (instr_at image (kept_at o p).instr).op
    unfolding is_load
    op_is = refl

    pub turn : IsNext (chain_of o.chain) (note_of image (kept_at o p).instr) ⊎
        ((is_load image (kept_at o p).instr ≡ true) × (is_past_at image (kept_at o p) ≡ false) ×
        ((note_of image (kept_at o p).instr).ripple ≤ position_after o.chain.last))
    turn = grind (arith, and_parts, either, next_is, op_is, not_false, leb-true)

-- the chain passes it and issued ones behind it, or it is listed
module _ (image : Image) (world : World) (formed : Formed image) (sound : Sound image) (o n : Order)
    (counts : ℕ → ℕ → Option ℕ) (memory : Outside) (waiting after : ℕ → ℕ → Option (List ℕ))
    (legal : Legal image world counts waiting false (chain_of o.chain) memory)
    (same : (w i : ℕ) → has (counts w i) ≡ has (issued_in o.kept.items w i))
    (early_issued : EarlyIssued (issued_in o.kept.items) (chain_of o.chain) (early_ops o.early))
    (early_all : HasEarly image world (issued_in o.kept.items) (chain_of o.chain) (early_ops o.early))
    (w i : ℕ) (xs : List ℕ) (req : RightRequest image world w i xs)
    (may : Issuable image counts (chain_of o.chain) false w i xs) (inside : is_past image i xs ≡ false)
    (new_same : (v j : ℕ) → has (issued_with image counts memory w i xs v j) ≡ has
    (issued_in n.kept.items v j)) (passed : PassedOn image (chain_of o.chain) i (early_ops o.early)
    (chain_of n.chain) (early_ops n.early)) where
  abbrev facts : WalkFacts image world
  facts = T.facts image world formed sound

  going : OrderGoes image world counts waiting false (chain_of o.chain) memory (early_ops o.early)
  going = record {
    legal = legal;
    early_issued = λ j h. let r = early_issued j h in
        O.some_more _ _ _ (same o.chain.wave j) r.1;
    early_all = λ cut v j a t e is x at me l. let r = O.some_more _ _ _ (sym (same v j)) is in
        early_all cut v j r.0 t e r.1 x at me l;
  }

  After : Type 0
  After = Passes image (issued_with image counts memory w i xs) (chain_of o.chain) (chain_of n.chain)
      × OrderGoes image world (issued_with image counts memory w i xs) after false (chain_of n.chain)
      (effect_after image i xs memory) (early_ops n.early)

  goes : After
  unfolding After
  goes = elim passed [
    | inl q ↦ G.goes_next _ _ facts counts waiting _ _ _ _ going _ _ _ req may inside after q.0 _ _ q.1
    | inr q ↦ (let load : is_load image i ≡ true = elim may.turn [ inl e ↦ absurd (q.0 e) | inr e ↦ e.0 ] in
        let r = G.goes_early _ _ facts counts waiting _ _ _ _ going _ _ _ req may inside after q.0 load in (
          rw q.1 r.0,
          rw q.1 (early_alike _ _ (issued_with image counts memory w i xs) after _ _ _ _ _ (λ j e. elim e [
            | inl h ↦ rw h q.2.1
            | inr h ↦ q.2.2 j h
          ]) (λ j e. elim (q.2.0 j e) [ inl h ↦ inl (sym h) | inr h ↦ inr h ]) r.1),
        ))
  ]

  pub passes_on : Passes image (issued_in n.kept.items) (chain_of o.chain) (chain_of n.chain)
  unfolding After
  passes_on = O.passes_alike image (issued_with image counts memory w i xs) (issued_in n.kept.items)
      (λ v j. sym (new_same v j)) (chain_of o.chain) (chain_of n.chain) goes.0

  pub early_now : EarlyIssued (issued_in n.kept.items) (chain_of n.chain) (early_ops n.early)
  unfolding After
  early_now j h = let r = goes.1.early_issued j h in
      O.some_more _ _ _ (sym (new_same n.chain.wave j)) r.1

  pub all_now : HasEarly image world (issued_in n.kept.items) (chain_of n.chain) (early_ops n.early)
  unfolding After
  all_now cut v j a t e is x at me l = let r = O.some_more (issued_with image counts memory w i xs v j)
      (issued_in n.kept.items v j) a (new_same v j) is in goes.1.early_all cut v j r.0 t e r.1 x at me l

-- what was kept is kept still
pub still_kept : (image : Image) (o : Order) (p : ℕ) (l : p < length o.kept.items) (word : ℕ)
    (ks : List Kept) → ks ≡ slice_set o.kept.items p
    (record {
      wave = (kept_at o p).wave;
      instr = (kept_at o p).instr;
      first = (kept_at o p).first;
      second = (kept_at o p).second;
      answer = Some word;
    }) →
    (w i : ℕ) → ((k : Kept) × (entry_of o.kept.items w i ≡ Some k)) → (k : Kept) × (entry_of ks w i ≡ Some k)
still_kept image o p l word ks kept w i e =
    grind (arith, with_key_cases, answered image o p l word ks kept w i)
