-- A request comes, and what is true of a store afterwards.
use Rattle.std.proofs.Common.{ℕ, suc, ◌≡◌, ◌<◌, ◌≤◌, ◌⊎◌, Bool, true, false, List, [], ◌∷◌, ◌++◌, length}
use Rattle.std.proofs.Common.{Option, Some, None, Result, Ok, Err, slice_index_or, refl, sym, ap, ◌∙◌, subst}
use Rattle.std.proofs.Common.{inl, inr, arith}
use Rattle.std.proofs.lemmas.Bool.{both_ways}
use Rattle.ws_words.specs.Outside.{Outside, World}
use Rattle.ws_isa.specs.Image.{Image, Token, instr_at, ports, is_load, is_past, note_of}
use Rattle.ws_isa.specs.Formed.{Formed}
use Rattle.ws_isa.specs.Sound.{Sound}
use Rattle.df_core.specs.Core.{HasFired, IsNext, Issuable, has, position_after, with_key}
use Rattle.df_core.specs.Shown.{waits_if}
use Rattle.df_core.specs.Fit.{RightRequest}
use Rattle.df_core.proofs.Keeping.Ports.{with_key_cases}
use Rattle.df_core.specs.Began.{Began}
use Rattle.df_core.specs.Rights.{Asked, IsAsked, operands_of}
use Rattle.df_core.specs.declared.chain.Chain as code
use Rattle.df_core.specs.Chains.{chain_of, may_flag}
use Rattle.df_core.specs.Stands.{HasEarly, EarlyIssued}
use Rattle.store_buf.specs.Earlies.{early_ops}
use Rattle.store_buf.proofs.Earlies.{none_there}
use Rattle.store_buf.specs.declared.fault.BufFault.{BufFault}
use Rattle.store_buf.specs.declared.fault.BufFault.TheVariants as fault
use Rattle.store_buf.specs.declared.kept.Kept.{Kept}
use Rattle.store_buf.specs.declared.store.Store.{Store}
use Rattle.store_buf.specs.Requests.{entry_of, kept_in, issued_in, issued_keys, key_if, answer_if}
use Rattle.store_buf.specs.Requests.{operands_if}
use Rattle.store_buf.specs.Finding.{place_in}
use Rattle.store_buf.specs.Ordering.{no_request, Room}
use Rattle.store_buf.specs.Outdoors.{Holding, HoldsOut, RoseAt}
use Rattle.store_buf.specs.Outers.{holding}
use Rattle.store_buf.specs.Holds.{stays, waiting_in}
use Rattle.store_buf.specs.Contents.{Content, FailedSo, FaultIs, IsBuffer, PortWaits, Submitted, RightTokens}
use Rattle.store_buf.specs.Contents.{Idle, SubmitSo, buffer_in, with_tokens, RequestArrives}
use Rattle.store_buf.specs.Stores.{StandsFor, StoreOk, Turns, SettledSo, SubmitLeads, Standing, asked_of}
use Rattle.store_buf.specs.Stores.{buffer_of, content_of, StoreKeeps}
use Rattle.store_buf.proofs.Alike.{going_any, once_of}
use Rattle.store_buf.proofs.Found as F
use Rattle.store_buf.proofs.Failing.{none_failed, one_failed, rose_since}
use Rattle.store_buf.proofs.Within.{port_in}
use Rattle.store_buf.proofs.Resting.{none_issuable, lets_issuable}
use Rattle.store_buf.specs.declared.order.Order.{Order}
use Rattle.store_buf.proofs.Idle.{none_wait}
use Rattle.store_buf.specs.Orders.{OrderGoes}

pub entry_push : (ks : List Kept) (k : Kept) → entry_of ks k.wave k.instr ≡ None → (w i : ℕ)
    → entry_of (ks ++ k ∷ []) w i ≡ with_key k.wave k.instr (Some k) (entry_of ks) w i
entry_push [] k fresh w i = refl
entry_push (x ∷ ks) k fresh w i = elim (with_key_cases x.wave x.instr (Some x) (entry_of ks) k.wave k.instr) [
  | inl h ↦ absurd (let g : Some x ≡ None = sym h.1 ∙ fresh in cc)
  | inr h ↦ elim (with_key_cases x.wave x.instr (Some x) (entry_of (ks ++ k ∷ [])) w i) [
    | inl a ↦ a.1 ∙ elim (with_key_cases k.wave k.instr (Some k) (entry_of (x ∷ ks)) w i) [
      | inl b ↦ absurd (h.0 (record { wave = a.0.wave ∙ sym b.0.wave; instr = a.0.instr ∙ sym b.0.instr }))
      | inr b ↦
          sym (b.1 ∙ elim (with_key_cases x.wave x.instr (Some x) (entry_of ks) w i) [
            | inl c ↦ c.1
            | inr c ↦
                absurd (c.0 a.0)
          ])
    ]
    | inr a ↦ a.1 ∙ entry_push ks k (sym h.1 ∙ fresh) w i
        ∙ elim (with_key_cases k.wave k.instr (Some k) (entry_of ks) w i) [
          | inl b ↦ b.1 ∙ elim (with_key_cases k.wave k.instr (Some k) (entry_of (x ∷ ks)) w i)
              [ inl c ↦ sym c.1 | inr c ↦ absurd (c.0 b.0) ]
          | inr b ↦ b.1 ∙ elim (with_key_cases k.wave k.instr (Some k) (entry_of (x ∷ ks)) w i) [
            | inl c ↦ absurd (b.0 c.0)
            | inr c ↦
                sym (c.1 ∙ elim (with_key_cases x.wave x.instr (Some x) (entry_of ks) w i)
                [ inl d ↦ absurd (a.0 d.0) | inr d ↦ d.1 ])
          ]
        ]
  ]
]

module _ (image : Image) (ks : List Kept) (k : Kept) (fresh : entry_of ks k.wave k.instr ≡ None)
    (waits : k.answer ≡ None) where
  pub kept_push : (w i : ℕ) → kept_in image (ks ++ k ∷ []) w i ≡ with_key k.wave k.instr
      (Some (operands_of (ports image k.instr) k.first k.second)) (kept_in image ks) w i
  kept_push w i = grind (arith, entry_push, with_key_cases)

  pub issued_push : (w i : ℕ) → issued_in (ks ++ k ∷ []) w i ≡ issued_in ks w i
  issued_push w i = grind (arith, entry_push, with_key_cases)

-- what a request that waits asks for
asks_is : (o : Option ℕ) (k : Option (List ℕ)) (ys xs : List ℕ) → k ≡ Some ys → waits_if o k None ≡ Some xs
    → ys ≡ xs
asks_is o k ys xs e w = grind arith

-- what is issued is kept
issued_kept : (image : Image) (e : Option Kept) (a : ℕ) → answer_if e ≡ Some a
    → (xs : List ℕ) × (operands_if image e ≡ Some xs)
issued_kept image None a h = absurd (let f : None ≡ Some a = h in cc)
issued_kept image (Some k) a h = (operands_of (ports image k.instr) k.first k.second, refl)

-- and listed
pub fired_more : (o : Option ℕ) (k : Kept) (ks : List Kept) (w i : ℕ) → HasFired (issued_keys ks) w i
    → HasFired (key_if o k (issued_keys ks)) w i
fired_more o k ks w i h = grind arith

pub fired_here : (o : Option ℕ) (a : ℕ) (k : Kept) (ks : List Kept) (w i : ℕ) → o ≡ Some a → k.wave ≡ w
    → k.instr ≡ i → HasFired (key_if o k (issued_keys ks)) w i
fired_here o a k ks w i e ew ei = grind arith

pub listed_from : (ks : List Kept) (w i a : ℕ) → issued_in ks w i ≡ Some a → HasFired (issued_keys ks) w i
listed_from [] w i a h = absurd (let f : None ≡ Some a = h in cc)
listed_from (k ∷ ks) w i a h = elim (with_key_cases k.wave k.instr (Some k) (entry_of ks) w i) [
  | inl e ↦ fired_here k.answer a k ks w i (sym (ap answer_if e.1) ∙ h) e.0.wave e.0.instr
  | inr e ↦ fired_more k.answer k ks w i (listed_from ks w i a (sym (ap answer_if e.1) ∙ h))
]

listed_to : (ks : List Kept) → ((p q : ℕ) → p < length ks → q < length ks
    → (slice_index_or ks p no_request).wave ≡ (slice_index_or ks q no_request).wave
    → (slice_index_or ks p no_request).instr ≡ (slice_index_or ks q no_request).instr → p ≡ q) →
    (w i : ℕ) → HasFired (issued_keys ks) w i → (a : ℕ) × (issued_in ks w i ≡ Some a)
listed_to [] once w i h = absurd h
listed_to (k ∷ ks) once w i h = go (λ f. listed_to ks (λ p q a b c d. let z : suc p ≡ suc q = once (suc p)
    (suc q) (omega arith) (omega arith) c d in omega arith) w i f) k.answer refl h
  where
    later : (HasFired (issued_keys ks) w i → (a : ℕ) × (issued_in ks w i ≡ Some a))
        → HasFired (issued_keys ks) w i → (a : ℕ) × (issued_in (k ∷ ks) w i ≡ Some a)
    later ih f =
        let r = ih f in
        elim (with_key_cases k.wave k.instr (Some k) (entry_of ks) w i) [
          | inl e ↦ elim (F.entry_case ks w i) [
            | inl n ↦ absurd (let g : None ≡ Some r.0 = sym (ap answer_if n) ∙ r.1 in cc)
            | inr s ↦
                absurd (let z : 0 ≡ suc s.place = once 0 (suc s.place) (omega arith) (let m = s.within in
                omega arith) (e.0.wave ∙ sym s.wave) (e.0.instr ∙ sym s.instr) in omega arith)
          ]
          | inr e ↦ (r.0, ap answer_if e.1 ∙ r.1)
        ]

    go : (HasFired (issued_keys ks) w i → (a : ℕ) × (issued_in ks w i ≡ Some a)) → (o : Option ℕ)
        → k.answer ≡ o → HasFired (key_if k.answer k (issued_keys ks)) w i
        → (a : ℕ) × (issued_in (k ∷ ks) w i ≡ Some a)
    go ih None e f = later ih (subst (λ (o : Option ℕ). HasFired (key_if o k (issued_keys ks)) w i) e f)
    go ih (Some b) e f = elim (subst (λ (o : Option ℕ). HasFired (key_if o k (issued_keys ks)) w i) e f) [
      | inl q ↦ elim (with_key_cases k.wave k.instr (Some k) (entry_of ks) w i) [
        | inl g ↦ (b, ap answer_if g.1 ∙ e)
        | inr g ↦ absurd (g.0 (record { wave = q.0; instr = q.1 }))
      ]
      | inr q ↦ later ih q
    ]

module _ (image : Image) (world : World) (began : List (Option Began)) {P : Type 0} where
  -- the parts stand for what contracts see, and the other way round
  pub stands_of : (s : Store P) → EarlyIssued (issued_in s.order.kept.items) (chain_of s.order.chain)
      (early_ops s.order.early) → HasEarly image world (issued_in s.order.kept.items) (chain_of s.order.chain)
      (early_ops s.order.early) →
      (m : Outside) → IsBuffer image world began (content_of s) m → StandsFor image world began s m
  stands_of s issued all m is = grind arith

  pub buffer_from : (s : Store P) → FaultIs image world s.fault → (m : Outside)
      → StandsFor image world began s m → IsBuffer image world began (content_of s) m
  buffer_from s fault m h = record {
    ok = record {
      right = h.right;
      issued_kept = λ w i a e. issued_kept image (entry_of s.order.kept.items w i) a e;
      listed = λ w i. (
        listed_to s.order.kept.items (once_of s.order.kept.items (place_in s.order.kept.items s.order.index)
            s.order.ok.index) w i,
        λ e. listed_from s.order.kept.items w i e.0 e.1,
      );
      legal = h.going.legal;
    };
    outside = h.outside;
    fault = fault;
  }

  -- nothing has changed
  same_content : (old new : Store P) → StoreKeeps old old.order.kept.items new
      → content_of new ≡ content_of old
  same_content old new k = grind arith

  pub unchanged : (old new : Store P) → StoreKeeps old old.order.kept.items new → StoreOk image new
      → Standing image world began old → Standing image world began new × (content_of new ≡ content_of old)
  unchanged old new k ok s = (
    record {
      ok = ok;
      early_issued = subst (λ (x : List Kept × code.Chain × List ℕ). EarlyIssued (issued_in x.0)
          (chain_of x.1) x.2) (λ j. (sym k.kept_are j, sym k.chain j, sym k.early j)) s.early_issued;
      early_all = subst (λ (x : List Kept × code.Chain × List ℕ). HasEarly image world (issued_in x.0)
          (chain_of x.1) x.2) (λ j. (sym k.kept_are j, sym k.chain j, sym k.early j)) s.early_all;
      memory = s.memory;
      is = subst (λ (c : Content). IsBuffer image world began c s.memory) (sym (same_content old new k)) s.is;
      idle = λ f t. subst (Idle image) (sym (same_content old new k))
          (s.idle (sym k.failed ∙ f) (sym k.starved ∙ t));
      failed = subst (FailedSo image began) (sym (same_content old new k)) s.failed;
    },
    same_content old new k,
  )

  module _ (formed : Formed image) (sound : Sound image) (old mid : Store P) (k : Kept)
      (fresh : entry_of old.order.kept.items k.wave k.instr ≡ None) (waits : k.answer ≡ None)
      (ask : IsAsked image world (asked_of k))
      (keeps : StoreKeeps old (old.order.kept.items ++ k ∷ []) mid) (running : old.fault ≡ None)
      (working : old.failed ≡ None) (standing : Standing image world began old) where
    came : (m : Outside) → StandsFor image world began old m → StandsFor image world began mid m
    came m h = record {
      going = subst (λ (x : List Kept × code.Chain × List ℕ × Option ℕ). OrderGoes image world (issued_in x.0)
          (waiting_in image x.0) (has x.3) (chain_of x.1) m x.2)
          (λ j. (sym keeps.kept_are j, sym keeps.chain j, sym keeps.early j, sym (keeps.fault ∙ running) j))
          (going_any image world (issued_in old.order.kept.items) (issued_in (old.order.kept.items ++ k ∷ []))
          (issued_push image old.order.kept.items k fresh waits) (waiting_in image old.order.kept.items)
          (waiting_in image (old.order.kept.items ++ k ∷ [])) (chain_of old.order.chain) m
          (early_ops old.order.early)
          (subst (λ (f : Option ℕ). OrderGoes image world (issued_in old.order.kept.items)
          (waiting_in image old.order.kept.items) (has f) (chain_of old.order.chain) m
          (early_ops old.order.early)) running h.going));
      right = right_now;
      outside = subst (HoldsOut began m) (sym keeps.outer) h.outside;
    }
      where
        right_now : (w i : ℕ) (xs : List ℕ) → kept_in image mid.order.kept.items w i ≡ Some xs
            → RightRequest image world w i xs
        right_now w i xs e =
            let g : with_key k.wave k.instr (Some (operands_of (ports image k.instr) k.first k.second))
            (kept_in image old.order.kept.items) w i ≡ Some xs =
            sym (kept_push image old.order.kept.items k fresh waits w i)
            ∙ ap (λ (x : List Kept). kept_in image x w i) (sym keeps.kept_are) ∙ e in
            elim (with_key_cases k.wave k.instr (Some (operands_of (ports image k.instr) k.first k.second))
            (kept_in image old.order.kept.items) w i) [
              | inl a ↦ (let f : Some (operands_of (ports image k.instr) k.first k.second) ≡ Some xs = sym a.1
                  ∙ g in
                  let q : operands_of (ports image k.instr) k.first k.second ≡ xs = cc in
                  subst (λ (x : ℕ × ℕ × List ℕ). RightRequest image world x.0 x.1 x.2)
                  (λ j. (a.0.wave j, a.0.instr j, q j)) ask)
              | inr a ↦ h.right w i xs (sym a.1 ∙ g)
            ]

    arrives : (m : Outside) → RequestArrives image (buffer_in image (content_of old) m) (asked_of k)
        (buffer_of image mid m)
    arrives m = grind (arith, kept_push, issued_push)

    -- where the chain doesn't let it issue and no port has found no memory, nothing that waits is issuable
    module _ (ok : StoreOk image mid) (fed : old.starved ≡ false)
        (held : may_flag image (chain_of old.order.chain) k.wave k.instr k.first ≡ false) where
      not_lets : (c : code.Chain) → c ≡ old.order.chain → (issued : ℕ → ℕ → Option ℕ) (stopped : Bool)
          → Issuable image issued (chain_of c) stopped k.wave k.instr
          (operands_of (ports image k.instr) k.first k.second) → ⊥
      not_lets c same issued stopped may =
          grind (arith, both_ways, lets_issuable image issued (chain_of c) stopped k ask.memory may)

      later_idle : Idle image (content_of mid)
      later_idle m w i xs asks may =
          let same : issued_in mid.order.kept.items w i ≡ issued_in old.order.kept.items w i =
          ap (λ (x : List Kept). issued_in x w i) keeps.kept_are ∙ issued_push image old.order.kept.items
          k fresh waits w i in
          let kept : kept_in image mid.order.kept.items w i ≡ with_key k.wave k.instr
          (Some (operands_of (ports image k.instr) k.first k.second)) (kept_in image old.order.kept.items)
          w i =
          ap (λ (x : List Kept). kept_in image x w i) keeps.kept_are ∙ kept_push image old.order.kept.items k
          fresh waits w i in
          elim (with_key_cases k.wave k.instr (Some (operands_of (ports image k.instr) k.first k.second))
          (kept_in image old.order.kept.items) w i) [
            | inl a ↦ (let q : operands_of (ports image k.instr) k.first k.second ≡ xs = asks_is (issued_in
                mid.order.kept.items w i) (kept_in image mid.order.kept.items w i) (operands_of (ports image
                k.instr) k.first k.second) xs (kept ∙ a.1) asks in
                not_lets mid.order.chain keeps.chain (issued_in mid.order.kept.items) (has mid.fault)
                (subst (λ (x : ℕ × ℕ × List ℕ). Issuable image (issued_in mid.order.kept.items)
                (chain_of mid.order.chain) (has mid.fault) x.0 x.1 x.2)
                (λ j. (sym a.0.wave j, sym a.0.instr j, sym q j)) may))
            | inr a ↦ standing.idle working fed m w i xs (subst (λ (x : Option ℕ × Option (List ℕ)). waits_if
                x.0 x.1 None ≡ Some xs) (λ j. (same j, (kept ∙ a.1) j)) asks) (record {
                  going = sym (ap has keeps.fault) ∙ may.going;
                  current = may.current ∙ ap (λ (c : code.Chain). c.wave) keeps.chain;
                  fresh = sym same ∙ may.fresh;
                  turn = subst (λ (c : code.Chain). IsNext (chain_of c) (note_of image i) ⊎ ((is_load image i
                      ≡ true) × (is_past image i xs ≡ false) × ((note_of image i).ripple ≤ position_after
                      c.last))) keeps.chain may.turn;
                })
          ]

      is_later : (m : Outside) → IsBuffer image world began (content_of old) m
          → IsBuffer image world began (content_of mid) m
      is_later m is = buffer_from mid (subst (FaultIs image world) (sym (keeps.fault ∙ running)) tt)
          m (came m (stands_of old standing.early_issued standing.early_all m is))

      later_submitted : (m : Outside) → IsBuffer image world began (content_of old) m
          → Submitted image world began (content_of old) m (asked_of k) [] (content_of mid)
      later_submitted m is = record {
        arrived = buffer_of image mid m;
        arrives = arrives m;
        memory = m;
        issues = stays;
        is = is_later m is;
      }

      pub put_by : Standing image world began mid × RightTokens image world []
          × SubmitSo image world began (content_of old) (asked_of k) (Ok []) (content_of mid)
      put_by =
          let stood : StandsFor image world began mid standing.memory =
          came standing.memory (stands_of old standing.early_issued standing.early_all standing.memory
          standing.is) in (
            record {
              ok = ok;
              early_issued = stood.going.early_issued;
              early_all = stood.going.early_all;
              memory = standing.memory;
              is = is_later standing.memory standing.is;
              idle = λ f t. later_idle;
              failed = none_failed image began (content_of mid) (keeps.failed ∙ working);
            },
            (λ w i p v e. absurd e),
            (
              (
                (running, working),
                fresh,
                later_submitted,
                keeps.fault ∙ running,
                keeps.failed ∙ working,
                keeps.starved ∙ fed,
              ),
              later_idle,
            ),
          )

    module _ (new : Store P) (ok : StoreOk image new) (tokens : List Token) (lead : (m : Outside)
        → StandsFor image world began mid m → Turns image world began mid m new tokens) where
      abbrev turns : (m : Outside) → IsBuffer image world began (content_of old) m
          → Turns image world began mid m new tokens
      turns m is = lead m (came m (stands_of old standing.early_issued standing.early_all m is))

      is_now : (m : Outside) (is : IsBuffer image world began (content_of old) m)
          → IsBuffer image world began (content_of new) (turns m is).memory
      is_now m is = let t = turns m is in
          buffer_from new (t.fault (subst (FaultIs image world) (sym (keeps.fault ∙ running)) tt))
          t.memory t.stands

      submitted : (m : Outside) → IsBuffer image world began (content_of old) m
          → Submitted image world began (content_of old) m (asked_of k) tokens (content_of new)
      submitted m is = grind (arith, arrives, arrives m, is_now m is)

      abbrev last : Turns image world began mid standing.memory new tokens
      last = turns standing.memory standing.is

      stands_now : (new.failed ≡ None → new.starved ≡ false → Idle image (content_of new)) →
          FailedSo image began (content_of new) → Standing image world began new
      stands_now idle failed = record {
        ok = ok;
        early_issued = last.stands.going.early_issued;
        early_all = last.stands.going.early_all;
        memory = last.memory;
        is = is_now standing.memory standing.is;
        idle = idle;
        failed = failed;
      }

      -- in this call a port failed, and had failed no more often when the run began than before the call
      fails_now : (port : ℕ) → new.failed ≡ Some port → RoseAt port mid.outer.ports new.outer.ports →
          PortWaits image new.order.kept.items (chain_of new.order.chain) port →
          FailedSo image began (content_of new)
      fails_now port failed rose waits = one_failed image began (content_of new) port failed waits
          (rose_since began standing.memory (holding old.outer) standing.is.outside port new.outer.ports
          (instr_at image waits.request.instr).op (port_in image waits.request.instr formed) waits.port_is
          (subst (λ (h : Holding). RoseAt port h.ports new.outer.ports) keeps.outer rose))

      none_fails : new.failed ≡ mid.failed → FailedSo image began (content_of new)
      none_fails same = none_failed image began (content_of new) (same ∙ keeps.failed ∙ working)

      stopped_idle : (array : ℕ) → new.fault ≡ Some array → Idle image (content_of new)
      stopped_idle array e m w i xs asks may = both_ways (has new.fault) may.going (ap has e)

      pub said : (r : Result (Unit {0}) BufFault) → SettledSo image mid r new → Standing image world began new
          × RightTokens image world tokens × SubmitSo image world began (content_of old) (asked_of k)
          (with_tokens tokens r) (content_of new)
      said (Ok u) s =
          let idle : Idle image (content_of new) = λ m. none_issuable image world began new.order
          (has new.fault) (holding new.outer) last.memory last.stands
          (s.3 world began last.memory formed sound last.stands) in (
            stands_now (λ f t. idle) (none_fails s.1),
            last.right,
            (((running, working), fresh, submitted, s.0, s.1 ∙ keeps.failed ∙ working, s.2), idle),
          )
      said (Err (fault.Index array)) s = (
        stands_now (λ f t. stopped_idle array s.0) (none_fails s.1),
        last.right,
        (tokens, ((running, working), fresh, submitted, s.0, s.1 ∙ keeps.failed ∙ working, s.2)),
      )
      said (Err (fault.Port port)) s = (
        stands_now (λ f t. absurd (let g : Some port ≡ None = sym s.1 ∙ f in cc))
            (fails_now port s.1 s.3 s.4),
        last.right,
        (
          (tokens, ((running, working), fresh, submitted, s.0, s.1, s.2)),
          subst (λ (h : Holding). RoseAt port h.ports new.outer.ports) keeps.outer s.3,
          s.4,
        ),
      )
      said (Err fault.NoMemory) s = (
        stands_now (λ f t. absurd (both_ways new.starved t s.2)) (none_fails s.1),
        last.right,
        inr ((tokens, ((running, working), fresh, submitted, s.0, s.1 ∙ keeps.failed ∙ working, s.2)), s.3),
      )
      said r s = absurd s

-- there was no memory to keep it
pub not_kept : (image : Image) {P : Type 0} (old new : Store P) (k : Kept) (tokens : List Token) → tokens ≡ []
    → StoreKeeps old old.order.kept.items new → StoreOk image new
    → entry_of old.order.kept.items k.wave k.instr ≡ None → old.fault ≡ None → old.failed ≡ None
    → SubmitLeads image old k tokens (Err fault.NoMemory) new
not_kept image old new k tokens none keeps ok fresh running working = λ world began formed sound ask standing.
    let r = unchanged image world began old new keeps ok standing in (
      r.0,
      subst (RightTokens image world) (sym none) (λ w i p v e. absurd e),
      inl ((running, working), fresh, r.1),
    )

-- what a call says of a store, said of a job
pub with_job : {P : Type 0} (im image : Image) (world : World) (began : List (Option Began)) → im ≡ image
    → Formed image → Sound image → (old new : Store P) (k : Kept) (r : Asked) (tokens : List Token)
    (result : Result (Unit {0}) BufFault) → asked_of k ≡ r → IsAsked image world r
    → SubmitLeads im old k tokens result new →
    Standing image world began old → Standing image world began new × RightTokens image world tokens
    × SubmitSo image world began (content_of old) r (with_tokens tokens result) (content_of new)
with_job im image world began same formed sound old new k r tokens result asked right leads standing =
    subst (λ (q : Asked). Standing image world began new × RightTokens image world tokens
    × SubmitSo image world began (content_of old) q (with_tokens tokens result) (content_of new)) asked
    (subst (λ (i : Image). SubmitLeads i old k tokens result new) same leads world began formed sound
    (subst (IsAsked image world) (sym asked) right) standing)

pub no_room : (o : Order) → o.kept.items ≡ [] → (early_ops o.early) ≡ [] → Room o
no_room o e f = let w = none_wait o e in let l = none_there o.early f in omega (arith, w, l)
