-- What comes of an address.
use Rattle.std.proofs.Common.{ℕ, ◌+◌, ◌≡◌, ◌≤◌, Bool, true, false, cond, List, [], ◌∷◌, ◌++◌, Option, Some}
use Rattle.std.proofs.Common.{None, Result, Ok, Err, OnOk, OnErr, IsOk, sym, ap, ◌∙◌, subst, inl, inr, arith}
use Rattle.ws_words.specs.Outside.{World}
use Rattle.ws_isa.specs.Image.{Image, Token}
use Rattle.ws_isa.specs.Formed.{Formed}
use Rattle.ws_isa.specs.Sound.{Sound}
use Rattle.df_core.specs.Core.{same_key}
use Rattle.df_core.proofs.Keeping.Ports.{with_key_same, with_key_cases}
use Rattle.df_core.specs.Began.{Began}
use Rattle.df_core.specs.declared.chain.Chain as code
use Rattle.df_core.specs.Chains.{chain_of, may_flag}
use Rattle.df_core.specs.Stands.{HasEarly, EarlyIssued}
use Rattle.store_buf.specs.Earlies.{early_ops}
use Rattle.store_buf.specs.declared.fault.BufFault.{BufFault}
use Rattle.store_buf.specs.declared.fault.BufFault.TheVariants as fault
use Rattle.store_buf.specs.declared.kept.Kept.{Kept}
use Rattle.store_buf.specs.Requests.{entry_of, issued_in}
use Rattle.store_buf.specs.Outdoors.{Holding, RoseAt}
use Rattle.store_buf.specs.Contents.{RightTokens}
use Rattle.store_buf.proofs.Coming.{entry_push, issued_push}
use Rattle.part_store.specs.declared.parts.Parts.{Parts}
use Rattle.part_store.specs.Bares.{is_in}
use Rattle.part_store.specs.Parted.{IsKept, Fronts}
use Rattle.part_store.specs.Rules.{MovesTo, NoRule, stays, ComesIn}
use Rattle.part_store.specs.Calls.{AddressSo, ComesWhole, CameSo, SameAs, PartIdle, PartSubmitSo}
use Rattle.part_store.specs.Parts.{Calm, PartsOk, content_of, PartsSettledSo, PartsKeep}
use Rattle.part_store.proofs.Running.Arriving as A
use Rattle.part_store.proofs.Moving.Keeping as K
use Rattle.part_store.proofs.Moving.Leading as L
use Rattle.part_store.proofs.Moving.Reordered as Y
use Rattle.part_store.proofs.Running.Resting as R

pub take_ok : {A E : Type 0} {X : Type 0} (r : Result A E) → IsOk r → OnOk r X → X
take_ok r h x = grind arith

pub both : {A E : Type 0} {X : Type 0} (r : Result A E) → OnOk r X → OnErr r X → X
both r x y = grind arith

pub map_err : {A E : Type 0} {X Y : Type 0} (r : Result A E) → (X → Y) → OnErr r X → OnErr r Y
map_err r f y = grind arith

pub at_most : {A E : Type 0} (r : Result A E) (n m : ℕ) → OnOk r (n ≡ m + 1) → OnErr r (n ≡ m) → n ≤ m + 1
at_most r n m e f = grind arith

-- what is kept is kept among more
pub kept_more : (ks : List Kept) (k : Kept) (w i : ℕ) → ((x : Kept) × (entry_of ks w i ≡ Some x)) →
    (x : Kept) × (entry_of (ks ++ k ∷ []) w i ≡ Some x)
kept_more [] k w i e = absurd (let g : None ≡ Some e.0 = e.1 in cc)
kept_more (y ∷ ks) k w i e = elim (with_key_cases y.wave y.instr (Some y) (entry_of ks) w i) [
  | inl h ↦ elim (with_key_cases y.wave y.instr (Some y) (entry_of (ks ++ k ∷ [])) w i)
      [ inl g ↦ (y, g.1) | inr g ↦ absurd (g.0 h.0) ]
  | inr h ↦ elim (with_key_cases y.wave y.instr (Some y) (entry_of (ks ++ k ∷ [])) w i) [
    | inl g ↦ absurd (h.0 g.0)
    | inr g ↦ (let r = kept_more ks k w i (e.0, sym h.1 ∙ e.1) in (r.0, g.1 ∙ r.1))
  ]
]

pub kept_now : (ks : List Kept) (k : Kept) → entry_of ks k.wave k.instr ≡ None →
    (x : Kept) × (entry_of (ks ++ k ∷ []) k.wave k.instr ≡ Some x)
kept_now ks k fresh =
    grind (arith, entry_push ks k fresh k.wave k.instr, with_key_same k.wave k.instr (Some k) (entry_of ks))

module _ {P : Type 0} where
  -- a request that had not come isn't an address alone
  pub whole_bare : (old mid : Parts P) (k : Kept) → PartsOk old →
      entry_of old.order.kept.items k.wave k.instr ≡ None → mid.bare ≡ old.bare → (w i : ℕ) →
      is_in mid.bare w i ≡ cond (same_key k.wave k.instr w i) false (is_in old.bare w i)
  whole_bare old mid k ok fresh same w i = grind arith

  -- it isn't kept, and nothing has changed
  module _ (image : Image) (world : World) (began : List (Option Began)) (old new : Parts P)
      (keeps : PartsKeep old old.order.kept.items new)
      (bare : (w i : ℕ) → is_in new.bare w i ≡ is_in old.bare w i) where
    same_content : content_of new ≡ record (content_of old) { bare = new.bare.set.keys }
    same_content j = record {
      kept = keeps.kept_are j;
      bare = new.bare.set.keys;
      queued = keeps.queued j;
      chain = chain_of (keeps.chain j);
      fault = keeps.fault j;
      failed = keeps.failed j;
      starved = keeps.starved j;
      outside = keeps.outer j;
    }

    pub unchanged : Calm image world began old → Calm image world began new
    unchanged calm =
        let e : EarlyIssued (issued_in new.order.kept.items) (chain_of new.order.chain) (early_ops
        new.order.early) × HasEarly image world (issued_in new.order.kept.items)
        (chain_of new.order.chain) (early_ops new.order.early) = subst (λ (x : List Kept × code.Chain × List
        ℕ). EarlyIssued (issued_in x.0) (chain_of x.1) x.2 × HasEarly image world (issued_in x.0) (chain_of
        x.1) x.2) (λ j. (sym keeps.kept_are j, sym keeps.chain j, sym keeps.early j))
        (calm.0.early_issued, calm.0.early_all) in (
          record {
            parting = rw same_content
                (Y.parting image world began (content_of old) new.bare.set.keys bare calm.0.parting);
            early_issued = e.0;
            early_all = e.1;
          },
          subst Fronts (sym same_content)
              (Y.fronts image world began (content_of old) new.bare.set.keys bare calm.1),
        )

    pub same_as : SameAs (content_of old) (content_of new)
    same_as = grind arith

  -- it is kept
  module _ (image : Image) (world : World) (began : List (Option Began)) (formed : Formed image)
      (sound : Sound image) (old mid : Parts P) (k : Kept) (b : Bool)
      (fresh : entry_of old.order.kept.items k.wave k.instr ≡ None) (waits : k.answer ≡ None)
      (keeps : PartsKeep old (old.order.kept.items ++ k ∷ []) mid)
      (bare : (w i : ℕ) → is_in mid.bare w i ≡ cond (same_key k.wave k.instr w i) b (is_in old.bare w i))
      (running : old.fault ≡ None) (working : old.failed ≡ None) (right : IsKept image world b k)
      (calm : Calm image world began old) where
    abbrev fed : Parts P
    fed = record mid { starved = false }

    comes : ComesIn (content_of old) k b (content_of (record mid { starved = false }))
    comes = record {
      fresh = fresh;
      kept = keeps.kept_are ∙ ap (λ (a : Option ℕ).
          old.order.kept.items ++ record {
            wave = k.wave;
            instr = k.instr;
            first = k.first;
            second = k.second;
            answer = a;
          } ∷ []) waits;
      bare_is = bare;
      queued = keeps.queued;
      chain = ap chain_of keeps.chain;
      fault = keeps.fault;
      outside = keeps.outer;
    }

    issued_same : (w i : ℕ) → issued_in mid.order.kept.items w i ≡ issued_in old.order.kept.items w i
    issued_same w i = grind (arith, issued_push)

    pub calm_now : Calm image world began (record mid { starved = false })
    calm_now = (
      record {
        parting = A.arrives _ _ _ _ _ _ _ comes calm.0.parting running right;
        early_issued = λ j h. let r = subst (λ (x : code.Chain × List ℕ). EarlyIssued (issued_in
            old.order.kept.items) (chain_of x.0) x.1) (λ n. (sym keeps.chain n, sym keeps.early n))
            calm.0.early_issued j h in
            (r.0, issued_same _ _ ∙ r.1);
        early_all = λ cut w i a t e is x at me l. subst (λ (y : code.Chain × List ℕ). HasEarly image world
            (issued_in old.order.kept.items) (chain_of y.0) y.1) (λ n. (sym keeps.chain n, sym keeps.early n))
            calm.0.early_all cut w i a t e (sym (issued_same _ _) ∙ is) x at me l;
      },
      A.fronts_stay _ _ _ _ _ _ _ comes calm.0.parting running right calm.1,
    )

    module _ (new : Parts P) (tokens : List Token)
        (lead : MovesTo image (content_of (record mid { starved = false })) tokens (content_of new) ×
        Calm image world began new) where
      pub right_now : RightTokens image world tokens
      right_now = (K.moves_keep _ _ formed sound _ _ _ _ lead.0.moves calm_now.0.parting).1

      came : (f p : Option ℕ) (s : Bool) → new.fault ≡ f → new.failed ≡ p → new.starved ≡ s →
          CameSo image (content_of old) k b tokens f p s (content_of new)
      came f p s e g h = grind (arith, comes)

      pub said : (b ≡ true) → (r : Result (Unit {0}) BufFault) → PartsSettledSo image mid r new →
          AddressSo image (content_of old) k tokens r (content_of new)
      said t (Ok u) s = (
        on_true (came None None false s.0 (s.1 ∙ keeps.failed ∙ working) s.2),
        R.no_rule image new (s.3 world began formed sound lead.1.0) lead.1.1,
      )
        where
          on_true : CameSo image (content_of old) k b tokens None None false (content_of new) →
              CameSo image (content_of old) k true tokens None None false (content_of new)
          on_true x = rw (← t) x
      said t (Err (fault.Index array)) s = rw (← t) (came _ _ _ s.0 (s.1 ∙ keeps.failed ∙ working) s.2)
      said t (Err (fault.Port port)) s = (
        rw (← t) (came None (Some port) false s.0 s.1 s.2),
        subst (λ (h : Holding). RoseAt port h.ports new.outer.ports) keeps.outer s.3,
        s.4,
      )
      said t (Err fault.NoMemory) s = inr (
        subst (λ (y : Bool). CameSo image (content_of old) k y tokens None None true (content_of new)) t
            (came None None true s.0 (s.1 ∙ keeps.failed ∙ working) s.2),
        s.3,
      )
      said t r s = absurd s

      pub took : (b ≡ false) → (r : Result (Unit {0}) BufFault) → PartsSettledSo image mid r new →
          PartSubmitSo image (content_of old) k tokens r (content_of new)
      took t r s = by_result r s
        where
          arrives : ComesWhole (content_of old) k (content_of (record mid { starved = false }))
          arrives = grind (arith, comes)

          by_result : (r : Result (Unit {0}) BufFault) → PartsSettledSo image mid r new →
              PartSubmitSo image (content_of old) k tokens r (content_of new)
          by_result (Ok u) s = (
            (
              (running, working),
              (content_of (record mid { starved = false }), arrives, lead.0),
              s.0,
              s.1 ∙ keeps.failed ∙ working,
              s.2,
            ),
            R.no_rule image new (s.3 world began formed sound lead.1.0) lead.1.1,
          )
          by_result (Err (fault.Index array)) s = (
            (running, working),
            (content_of (record mid { starved = false }), arrives, lead.0),
            s.0,
            s.1 ∙ keeps.failed ∙ working,
            s.2,
          )
          by_result (Err (fault.Port port)) s = (
            (
              (running, working),
              (content_of (record mid { starved = false }), arrives, lead.0),
              s.0,
              s.1,
              s.2,
            ),
            subst (λ (h : Holding). RoseAt port h.ports new.outer.ports) keeps.outer s.3,
            s.4,
          )
          by_result (Err fault.NoMemory) s = inr (
            (
              (running, working),
              (content_of (record mid { starved = false }), arrives, lead.0),
              s.0,
              s.1 ∙ keeps.failed ∙ working,
              s.2,
            ),
            s.3,
          )
          by_result r s = absurd s

    -- where the chain doesn't let it go and no port has found no memory, no rule is applicable
    module _ (fed : old.starved ≡ false) (held : may_flag image
        (chain_of old.order.chain) k.wave k.instr k.first ≡ false)
        (idle : PartIdle image (content_of old)) where
      same_mid : record mid { starved = false } ≡ mid
      same_mid j = record {
        order = mid.order;
        bare = mid.bare;
        queues = mid.queues;
        outer = mid.outer;
        fault = mid.fault;
        failed = mid.failed;
        starved = sym (keeps.starved ∙ fed) j;
      }

      put_rule : NoRule image (content_of (record mid { starved = false }))
      put_rule = R.no_rule_held _ _ _ _ _ comes (idle working fed) held calm_now.1

      pub put_calm : Calm image world began mid
      put_calm = subst (Calm image world began) same_mid calm_now

      put_moves : MovesTo image (content_of (record mid { starved = false })) []
          (content_of (record mid { starved = false }))
      put_moves = record {
        mid = content_of (record mid { starved = false });
        moves = stays;
        alike = L.same (content_of (record mid { starved = false }));
      }

      put_came : CameSo image (content_of old) k b [] None None false
          (content_of (record mid { starved = false }))
      put_came = grind (arith, comes, put_moves)

      pub put_address : (b ≡ true) → AddressSo image (content_of old) k [] (Ok tt) (content_of mid)
      put_address t = grind (arith, same_mid, put_came, put_rule)

      pub put_request : (b ≡ false) → PartSubmitSo image (content_of old) k [] (Ok tt) (content_of mid)
      put_request t = grind (arith, same_mid, comes, put_moves, put_rule)
