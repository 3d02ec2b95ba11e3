-- An address or a request comes to the buffer, and what is known of a run stays true.
use Rattle.std.proofs.Common.{ℕ, ◌≡◌, Bool, true, false, List, Option, Some, None, Result, Ok, Err, OnOk}
use Rattle.std.proofs.Common.{refl, sym, ap, ◌∙◌, subst, inl, inr, arith}
use Rattle.std.proofs.lemmas.Bool.{both_ways, cases_Bool}
use Rattle.ws_words.specs.Outside.{World}
use Rattle.ws_isa.specs.Image.{Image, Token, ports, sends}
use Rattle.ws_isa.specs.Walk.{Ports}
use Rattle.df_core.specs.Core.{with_key}
use Rattle.df_core.specs.Shown.{Tables}
use Rattle.df_core.proofs.Keeping.Ports.{SameKey, with_key_cases}
use Rattle.df_core.specs.Began.{Began}
use Rattle.df_core.specs.Rights.{operands_of}
use Rattle.store_buf.specs.declared.fault.BufFault.{BufFault}
use Rattle.store_buf.specs.declared.fault.BufFault.TheVariants as fault
use Rattle.store_buf.specs.declared.kept.Kept.{Kept}
use Rattle.store_buf.specs.Requests.{entry_of, issued_in, answer_if}
use Rattle.store_buf.specs.Runs.{AllReach, Covers, IsOffered}
use Rattle.store_buf.proofs.Coming.{entry_push}
use Rattle.store_buf.proofs.Paying.{pay_buffer}
use Rattle.store_buf.proofs.Reaching as R
use Rattle.part_store.specs.declared.entry.Queued.{Queued}
use Rattle.part_store.specs.Queues.{is_queued, joined, without}
use Rattle.part_store.specs.Contents.{is_bare, PartContent}
use Rattle.part_store.specs.Parted.{Parting}
use Rattle.part_store.specs.Rules.{Alike, Counted, Fills, Followed, Moves, MovesTo, stays, opens, ComesIn}
use Rattle.part_store.specs.Rules.{joins, issues, follows, stops, answered, entry_at, operands_at, word_of}
use Rattle.part_store.specs.Calls.{AddressedSo, SubmittedSo, CameSo, comes, fills, PartTookSo}
use Rattle.part_store.specs.Runs.{IsWhole, Owes, Paid, GoesOn}
use Rattle.part_store.proofs.Queueing.Fronts as F
use Rattle.part_store.proofs.Queueing.Keys.{key_cases}
use Rattle.part_store.proofs.Queueing.Ops as O
use Rattle.part_store.proofs.Running.Paying as P
use Rattle.df_core.proofs.Telling.Owing.{nothing}

-- what is done has told its result tokens: they have come or are on the way
abbrev HaveAnswered : Image → Ports → List Token → PartContent → Type 0
HaveAnswered image held way c = (w i a : ℕ) (k : Kept) → entry_of c.kept w i ≡ Some k → k.answer ≡ Some a →
    is_queued c.queued w i ≡ false →
    AllReach held way (sends image w i (operands_of (ports image i) k.first k.second) a)

have_answered : (image : Image) (t : Tables) (c : PartContent) (way : List Token) → Paid image t c way →
    HaveAnswered image t.held way c
have_answered image t c way paid w i a k e s q = paid.answered
    (sends image w i (operands_of (ports image i) k.first k.second) a) (w, i, a, k, e, s, q, refl)

pub both_ok : {A E : Type 0} {X Y Z : Type 0} (r : Result A E) → (X → Y → Z) → OnOk r X → OnOk r Y → OnOk r Z
both_ok r f x y = grind arith

-- not queued later, not queued before
old_joined : (image : Image) (e : Queued) (es : List Queued) (w i : ℕ) → is_queued (joined e es) w i ≡ false →
    is_queued es w i ≡ false
old_joined image e es w i n = grind (arith, cases_Bool, F.queued_in, both_ways, F.in_queued, F.joined_old)

new_joined : (image : Image) (e : Queued) (es : List Queued) (w i : ℕ) → is_queued (joined e es) w i ≡ false →
    SameKey e.wave e.instr w i → ⊥
new_joined image e es w i n key = grind (arith, both_ways, F.in_queued, F.joined_new)

old_without : (es : List Queued) (a b w i : ℕ) → is_queued (without es a b) w i ≡ false →
    (SameKey a b w i → ⊥) → is_queued es w i ≡ false
old_without es a b w i n other = grind (arith, cases_Bool, F.queued_in, both_ways, F.in_queued, F.in_without)

-- what is kept stays kept, and is as whole as before
pub record Lasts (c d : PartContent) : Type 0 where
  pub kept : (w i : ℕ) (k : Kept) → entry_of c.kept w i ≡ Some k → (x : Kept) × (entry_of d.kept w i ≡ Some x)
  pub bare : (w i : ℕ) → is_bare d w i ≡ is_bare c w i

lasts_on : (c d e : PartContent) → Lasts c d → Lasts d e → Lasts c e
lasts_on c d e a b = grind arith

with_kept : (w i : ℕ) (k : Kept) (f : ℕ → ℕ → Option Kept) (a b : ℕ) (x : Kept) → f a b ≡ Some x →
    (y : Kept) × (with_key w i (Some k) f a b ≡ Some y)
with_kept w i k f a b x e = grind (arith, with_key_cases w i (Some k) f a b)

module _ (image : Image) where
  counted_lasts : (c d : PartContent) (k : Kept) (word : ℕ) (q : List Queued) (o : _) →
      Counted image c k word q o d → Lasts c d
  counted_lasts c d k word q o n = grind arith

  pub moves_last : (c d : PartContent) (ts : List Token) → Moves image c ts d → Lasts c d
  moves_last c d ts stays = record { kept = λ w i k e. (k, e); bare = λ w i. refl }
  moves_last c d ts (opens {d = m} k a b n r) =
      lasts_on c m d (counted_lasts c m k 0 _ _ n) (moves_last m d _ r)
  moves_last c d ts (joins {d = m} k a b h n r) =
      lasts_on c m d (counted_lasts c m k 0 _ _ n) (moves_last m d _ r)
  moves_last c d ts (issues {d = m} k word left a b h u n r) =
      lasts_on c m d (counted_lasts c m k word _ _ n) (moves_last m d _ r)
  moves_last c d ts (follows {d = m} first f g n r) = lasts_on c m d (record {
    kept = λ w i x e. (let y = with_kept first.wave first.instr _ (entry_of c.kept) w i x e in
        (y.0, n.kept w i ∙ y.1));
    bare = n.bare;
  }) (moves_last m d _ r)
  moves_last c d ts (stops k f) = record { kept = λ w i k e. (k, e); bare = λ w i. refl }

  module _ (f : Ports) (way : List Token) where
    abbrev Done : PartContent → Type 0
    Done c = HaveAnswered image f way c

    -- an operation joins a queue
    join_done : (c d : PartContent) (k : Kept) (o : _) →
        Counted image c k 0 (joined (entry_at image k) c.queued) o d → Done c → Done d
    join_done c d k o n done w i a x e s q = grind (arith, with_key_cases, new_joined, old_joined)

    issue_done : (c d : PartContent) (k : Kept) (word : ℕ) (o : _) → Counted image c k word c.queued o d →
        Covers (sends image k.wave k.instr (operands_at image k) word) way → Done c → Done d
    issue_done c d k word o n sent done w i a x e s q = grind arith

    follow_done : (c d : PartContent) (e : Queued) (some : List Token) → Followed image c e some d →
        Covers some way → Done c → Done d
    follow_done c d e some n sent done w i a x is s q =
        let q' : is_queued (without c.queued e.wave e.instr) w i ≡ false =
        subst (λ (es : List Queued). is_queued es w i ≡ false) n.queued q in
        let new : Kept = record {
          wave = e.wave;
          instr = e.instr;
          first = n.request.first;
          second = n.request.second;
          answer = Some (word_of image c e);
        } in
        elim (with_key_cases e.wave e.instr (Some new) (entry_of c.kept) w i) [
          | inl h ↦ (grind (arith, O.entry_key, R.reach_all))
          | inr h ↦ done w i a x (sym h.1 ∙ sym (n.kept w i) ∙ is) s
              (old_without c.queued e.wave e.instr w i q' h.0)
        ]

    pub moves_done : (c d : PartContent) (ts : List Token) → Moves image c ts d → Covers ts way → Done c
        → Done d
    moves_done c d ts stays sent done = done
    moves_done c d ts (opens {d = m} k a b n r) sent done = moves_done m d _ r sent (join_done c m k _ n done)
    moves_done c d ts (joins {d = m} k a b h n r) sent done =
        moves_done m d _ r sent (join_done c m k _ n done)
    moves_done c d ts (issues {d = m} {rest = rest} k word left a b h u n r) sent done = moves_done m d rest r
        (R.covers_right _ rest way sent) (issue_done c m k word _ n (R.covers_left _ rest way sent) done)
    moves_done c d ts (follows {d = m} {some = some} {rest = rest} first g h n r) sent done = moves_done _ _ _
        r (R.covers_right _ _ _ sent) (follow_done _ _ _ _ n (R.covers_left _ _ _ sent) done)
    moves_done c d ts (stops k h) sent done = done

    alike_done : (c d : PartContent) → Alike c d → Done c → Done d
    alike_done c d a done w i n x e s q = grind arith

    to_done : (c d : PartContent) (ts : List Token) → MovesTo image c ts d → Covers ts way → Done c → Done d
    to_done c d ts m sent done = alike_done m.mid d m.alike (moves_done c m.mid ts m.moves sent done)

    come_done : (c d : PartContent) (k : Kept) (b : Bool) → ComesIn c k b d → Done c → Done d
    come_done c d k b m done w i a x e s q = grind (arith, entry_push, with_key_cases, nothing)

    fill_done : (world : World) (began : List (Option Began)) (c d : PartContent) (k : Kept) →
        Parting image world began c → Fills c k d → Done c → Done d
    fill_done world began c d k parting m done w i a x e s q =
        let q' : is_queued c.queued w i ≡ false = rw (← m.queued) q in
        elim (with_key_cases k.wave k.instr (Some (answered k m.old.answer)) (entry_of c.kept) w i) [
          | inl h ↦ (let z : Some (answered k m.old.answer) ≡ Some x = sym h.1 ∙ sym (m.kept w i) ∙ e in
              let y : answered k m.old.answer ≡ x = cc in
              let old : m.old.answer ≡ Some a = ap (λ (l : Kept). l.answer) y ∙ s in
              let issued : issued_in c.kept k.wave k.instr ≡ Some a = ap answer_if m.was ∙ old in
              let counts = O.some_more (parting.counts k.wave k.instr) (issued_in c.kept k.wave k.instr) a
              (parting.partly.same k.wave k.instr) issued in
              let queued : is_queued c.queued k.wave k.instr ≡ true =
              parting.partly.opened k.wave k.instr counts.0 counts.1 m.bare in
              absurd (both_ways (is_queued c.queued w i) q' (subst (λ (l : ℕ × ℕ). is_queued c.queued l.0 l.1
              ≡ true) (λ j. (h.0.wave j, h.0.instr j)) queued)))
          | inr h ↦ done w i a x (sym h.1 ∙ sym (m.kept w i) ∙ e) s q'
        ]

  to_last : (c d : PartContent) (ts : List Token) → MovesTo image c ts d → Lasts c d
  to_last c d ts m = grind (arith, moves_last)

  last_whole : (c d : PartContent) (w i : ℕ) → Lasts c d → IsWhole c w i → IsWhole d w i
  last_whole c d w i l h = let x = l.kept w i h.0 h.1 in (x.0, x.1, l.bare w i ∙ h.2)

  come_kept : (c d : PartContent) (k : Kept) (b : Bool) → ComesIn c k b d → (w i : ℕ) →
      entry_of d.kept w i ≡ with_key k.wave k.instr (Some (answered k None)) (entry_of c.kept) w i
  come_kept c d k b m w i = grind (arith, entry_push)

  -- what is whole stays whole where another comes
  come_whole : (c d : PartContent) (k : Kept) (b : Bool) (w i : ℕ) → ComesIn c k b d → IsWhole c w i
      → IsWhole d w i
  come_whole c d k b w i m h = grind (
    arith,
    key_cases k.wave k.instr w i,
    with_kept k.wave k.instr (answered
        k None) (entry_of c.kept) w i h.0 h.1,
    come_kept c d k b m w i,
  )

  -- a request that has come is whole
  now_whole : (c d : PartContent) (k : Kept) → ComesIn c k false d → IsWhole d k.wave k.instr
  now_whole c d k m =
      grind (arith, come_kept c d k false m k.wave k.instr, key_cases k.wave k.instr k.wave k.instr)

  fill_whole : (c d : PartContent) (k : Kept) (w i : ℕ) → Fills c k d → IsWhole c w i → IsWhole d w i
  fill_whole c d k w i m h = grind arith

  filled_whole : (c d : PartContent) (k : Kept) → Fills c k d → IsWhole d k.wave k.instr
  filled_whole c d k m = grind arith

  -- what is known stays true where the buffer changes so
  pay_part : (t : Tables) (c d : PartContent) (way : List Token)
      → ((w i : ℕ) → IsWhole c w i → IsWhole d w i) →
      HaveAnswered image t.held way d → Paid image t c way → Paid image t d way
  pay_part t c d way whole done paid = pay_buffer image t (IsWhole c) (IsWhole d) (Owes image c) (Owes image
      d) way whole (λ ts o. rw o.7 (done o.0 o.1 o.2 o.3 o.4 o.5 o.6)) paid

  pay_came : (t : Tables) (c d : PartContent) (k : Kept) (b : Bool) (ts old way : List Token) (x : Option ℕ)
      (y : Option ℕ) (z : Bool) → CameSo image c k b ts x y z d → Covers old way → Covers ts way →
      Paid image t c old → Paid image t d way
  pay_came t c d k b ts old way x y z m more sent paid =
      let up = P.pay_more image t c old way more paid in
      let mid = m.1.0 in
      pay_part t c d way (λ w i h. last_whole _ _ _ _ (to_last mid d ts m.1.2) (come_whole c mid k b w i m.1.1
      h)) (to_done t.held way mid d ts m.1.2 sent (come_done t.held way c mid k b m.1.1 (have_answered image t
      c way up))) up

  pub addressed : (c d : PartContent) (k : Kept) (answer : Result (List Token) BufFault)
      (old way : List Token) →
      AddressedSo image c k answer d → IsOffered answer old way → (t : Tables) → Paid image t c old →
      GoesOn d → Paid image t d way
  addressed c d k (Ok ts) old way so offered t paid going =
      pay_came t c d k true ts old way None None false so.0 offered.0 offered.1 paid
  addressed c d k (Err fault.Old) old way so offered t paid going = grind arith
  addressed c d k answer old way so offered t paid going = grind (arith, nothing)

  module _ (world : World) (began : List (Option Began)) (c : PartContent)
      (parting : Parting image world began c) where
    took_whole : (d : PartContent) (k : Kept) (ts : List Token) (x : Option ℕ) (y : Option ℕ) (z : Bool) →
        PartTookSo image c k ts x y z d → IsWhole d k.wave k.instr
    took_whole d k ts x y z m = last_whole m.1.0 d k.wave k.instr (to_last m.1.0 d ts m.1.2) (elim m.1.1 [
      | comes h ↦ now_whole c m.1.0 k h
      | fills h ↦ filled_whole c m.1.0 k h
    ])

    pay_took : (t : Tables) (d : PartContent) (k : Kept) (ts old way : List Token) (x : Option ℕ)
        (y : Option ℕ)
        (z : Bool) → PartTookSo image c k ts x y z d → Covers old way → Covers ts way → Paid image t c old →
        Paid image t d way
    pay_took t d k ts old way x y z m more sent paid =
        let up = P.pay_more image t c old way more paid in
        let mid = m.1.0 in
        pay_part t c d way (λ w i h. last_whole _ _ _ _ (to_last mid d ts m.1.2) (elim m.1.1 [
          | comes g ↦ come_whole c mid k false w i g h
          | fills g ↦ fill_whole c mid k w i g h
        ])) (to_done t.held way mid d ts m.1.2 sent (elim m.1.1 [
          | comes g ↦ come_done t.held way c mid k false g (have_answered image t c way up)
          | fills g ↦ fill_done t.held way world began c mid k parting g (have_answered image t c way up)
        ])) up

    pub submitted : (d : PartContent) (k : Kept) (answer : Result (List Token) BufFault)
        (old way : List Token) →
        SubmittedSo image c k answer d → IsOffered answer old way → (t : Tables) → Paid image t c old →
        GoesOn d → Paid image t d way
    submitted d k (Ok ts) old way so offered t paid going =
        pay_took t d k ts old way None None false so.0 offered.0 offered.1 paid
    submitted d k (Err fault.Old) old way so offered t paid going = grind arith
    submitted d k answer old way so offered t paid going = grind (arith, nothing)

    pub submitted_whole : (d : PartContent) (k : Kept) (answer : Result (List Token) BufFault)
        (old way : List Token) → SubmittedSo image c k answer d → IsOffered answer old way → GoesOn d →
        IsWhole d k.wave k.instr
    submitted_whole d k (Ok ts) old way so offered going = took_whole d k ts None None false so.0
    submitted_whole d k (Err fault.Old) old way so offered going = grind arith
    submitted_whole d k answer old way so offered going = grind (arith, nothing)
