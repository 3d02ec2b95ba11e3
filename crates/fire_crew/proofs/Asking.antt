-- A request comes to the buffer of a crew of one, and what is known of the run stays true.
use Rattle.std.proofs.Common.{arith, ℕ, ◌≡◌, ◌⊎◌, false, List, [], ◌++◌, Option, Some, None}
use Rattle.std.proofs.Common.{is_some, refl, sym, ap, ◌∙◌, subst, inl, inr}
use Rattle.ws_words.specs.Outside.{Outside, World}
use Rattle.ws_isa.specs.Image.{Image, Token, ports, sends}
use Rattle.ws_isa.specs.Walk.{Ports, start_tokens}
use Rattle.df_core.specs.Core.{HasFired}
use Rattle.df_core.specs.Shown.{Buffer, Tables as Part, owed, plain_tokens, op_tokens, waits_if}
use Rattle.df_core.specs.Began.{Began}
use Rattle.df_core.specs.Rights.{Asked, operands_of}
use Rattle.df_core.proofs.Telling.Owing.{nothing}
use Rattle.df_core.proofs.Keeping.Ports.{SameKey, with_key_cases}
use Rattle.store_buf.specs.declared.kept.Kept.{Kept}
use Rattle.store_buf.specs.Requests.{issued_in, issued_keys, kept_in, operands_if, answer_if}
use Rattle.store_buf.specs.Holds.{Issues, Issued, stays, goes, stops}
use Rattle.store_buf.specs.Contents.{Content, Comes, IsBuffer, Submitted, buffer_in}
use Rattle.store_buf.specs.Runs.{AllReach, Covers}
use Rattle.store_buf.proofs.Paying.{pay_buffer, pay_more}
use Rattle.store_buf.proofs.Reaching as R
use Rattle.fire_crew.specs.Ends.{IsGoing}
use Rattle.fire_crew.specs.Owing.{HaveCome}
use Rattle.fire_crew.specs.Solo.{AsksSo, Knows, Owes, Paid}
use Rattle.fire_crew.proofs.Paid.{come_append, come_ops, come_plain}
use Rattle.ws_words.specs.Items.{or_else}

asked_kept : (o : Option ℕ) (k : Option (List ℕ)) (xs : List ℕ) → waits_if o k None ≡ Some xs → k ≡ Some xs
asked_kept v0 v1 v2 v3 = grind (arith, nothing)

some_kept : (image : Image) (o : Option Kept) → is_some (operands_if image o) ≡ is_some o
some_kept v0 v1 = grind arith

-- what isn't kept isn't issued
none_issued : (image : Image) (o : Option Kept) → operands_if image o ≡ None → answer_if o ≡ None
none_issued v0 v1 v2 = grind (arith, nothing)

module _ (image : Image) (f : Ports) (way : List Token) where
  -- each issued operation has told its result tokens
  abbrev Told : Buffer → Type 0
  Told b = (w i a : ℕ) (xs : List ℕ) → b.kept w i ≡ Some xs → b.issued w i ≡ Some a →
      AllReach f way (sends image w i xs a)

  issued_told : (b c : Buffer) (w i : ℕ) (some : List Token) → Issued image b w i some c → Covers some way →
      Told b → Told c
  issued_told b c w i some n sent told u j a xs k e = grind (arith, with_key_cases, asked_kept, R.reach_all)

  issues_told : (b d : Buffer) (ts : List Token) → Issues image b ts d → Covers ts way → Told b → Told d
  issues_told b d ts stays sent told = told
  issues_told b d ts (goes {c = c} {some = some} {rest = rest} w i n r) sent told = issues_told _ _ _ r
      (R.covers_right _ _ _ sent) (issued_told _ _ _ _ _ n (R.covers_left _ _ _ sent) told)
  issues_told b d ts (stops {c = c} w i n r) sent told = issues_told c d ts r sent
      (λ u j a xs k e. told u j a xs (sym (n.kept u j) ∙ k) (sym (n.issued u j) ∙ e))

issues_kept : (image : Image) (b d : Buffer) (ts : List Token) → Issues image b ts d → (w i : ℕ) →
    d.kept w i ≡ b.kept w i
issues_kept image b d ts stays w i = refl
issues_kept image b d ts (goes {c = c} {some = some} {rest = rest} u j n r) w i =
    issues_kept image c d rest r w i ∙ n.kept w i
issues_kept image b d ts (stops {c = c} u j n r) w i = issues_kept image c d ts r w i ∙ n.kept w i

module _ (image : Image) (world : World) (began : List (Option Began)) (old new : Content) (m : Outside)
    (r : Asked) (ts : List Token) (s : Submitted image world began old m r ts new) where
  kept_new : (w i : ℕ) → ((SameKey r.wave r.instr w i)
      × (kept_in image new.kept w i ≡ Some (operands_of (ports image r.instr) r.first r.second)))
      ⊎ ((SameKey r.wave r.instr w i → ⊥) × (kept_in image new.kept w i ≡ kept_in image old.kept w i))
  kept_new w i =
      let e = issues_kept _ _ _ _ s.issues _ _ ∙ s.arrives.kept w i in
      elim (with_key_cases r.wave r.instr (Some (operands_of (ports image r.instr) r.first r.second))
      (kept_in image old.kept) w i) [ inl h ↦ inl (h.0, e ∙ h.1) | inr h ↦ inr (h.0, e ∙ h.1) ]

  stays_known : (w i : ℕ) → Knows old w i → Knows new w i
  stays_known w i h = grind (arith, some_kept, kept_new, is_some)

  pub now_known : Knows new r.wave r.instr
  now_known = grind (arith, some_kept, kept_new, is_some)

  arrived_told : (f : Ports) (way : List Token) → Told image f way (buffer_in image old m) →
      Told image f way s.arrived
  arrived_told f way told w i a xs k e =
      let is : issued_in old.kept w i ≡ Some a = sym (s.arrives.issued w i) ∙ e in
      elim (with_key_cases r.wave r.instr (Some (operands_of (ports image r.instr) r.first r.second))
      (kept_in image old.kept) w i) [
        | inl h ↦ (grind (arith, none_issued, nothing))
        | inr h ↦ told w i a xs (sym h.1 ∙ sym (s.arrives.kept w i) ∙ k) is
      ]

  pub pay_submitted : (t : Part) (way more : List Token) → Covers way more → Covers ts more →
      Paid image t old way → Paid image t new more
  pay_submitted t way more keep sent paid =
      let up = pay_more image (Knows old) (Owes image old) t way more keep paid in
      let before : Told image t.held more (buffer_in image old m) =
      λ w i a xs k e. up.answered (sends image w i xs a) (w, i, a, xs, k, e, refl) in
      let after : Told image t.held more (buffer_in image new s.memory) = issues_told image t.held more
      s.arrived (buffer_in image new s.memory) ts s.issues sent (arrived_told t.held more before) in
      pay_buffer image t (Knows old) (Knows new) (Owes image old) (Owes image new) more stays_known (λ us o.
      rw o.6 (after o.0 o.1 o.2 o.3 o.4 o.5)) up

module _ (image : Image) (world : World) (began : List (Option Began)) (old new : Content) (r : Asked)
    (going : IsGoing old) where
  -- the buffer has taken the request
  pub taken : (m : Outside) → IsBuffer image world began old m → (ts way more : List Token) →
      Comes image world began old r ts None None false new → Covers way more → Covers ts more →
      AsksSo image world began old r way new more None
  taken m is ts way more so keep sent =
      let s = so.2 m is in (
        (so.3, so.4, so.5),
        now_known image world began old new m r ts s,
        λ t paid. pay_submitted image world began old new m r ts s t way more keep sent paid,
      )

-- where nothing is on the way all that is owed has come
module _ (image : Image) (t : Part) (c : Content) (m : Outside) (paid : Paid image t c [])
    (listed : (w i : ℕ) → HasFired (issued_keys c.kept) w i → (a : ℕ) × (issued_in c.kept w i ≡ Some a))
    (kept : (w i a : ℕ) → issued_in c.kept w i ≡ Some a →
    (xs : List ℕ) × (kept_in image c.kept w i ≡ Some xs))
  where
    ops : (w i : ℕ) → HasFired (issued_keys c.kept) w i → HaveCome t.held
        (sends image w i (or_else (kept_in image c.kept w i) []) (or_else (issued_in c.kept w i) 0))
    ops w i h =
        let a = listed w i h in
        let xs = kept w i a.0 a.1 in
        subst (λ (q : List ℕ × ℕ). HaveCome t.held (sends image w i q.0 q.1))
        (λ n. (
          ap (λ (o : Option (List ℕ)). or_else o []) (sym xs.1) n,
          ap (λ (o : Option ℕ). or_else o 0) (sym a.1) n,
        ))
        (R.reach_none t.held _ (paid.answered (sends image w i xs.0 a.0) (w, i, a.0, xs.0, xs.1, a.1, refl)))

    pub all_come : HaveCome t.held (owed image t (buffer_in image c m))
    all_come = come_append t.held (start_tokens image)
        (plain_tokens image t.held t.fired ++ op_tokens image (buffer_in image c m) (issued_keys c.kept))
        (R.reach_none t.held (start_tokens image) paid.start)
        (come_append t.held (plain_tokens image t.held t.fired)
        (op_tokens image (buffer_in image c m) (issued_keys c.kept))
        (come_plain t.held image t.fired (λ w i h n. R.reach_none t.held _ (paid.told w i h n)))
        (come_ops t.held image (buffer_in image c m) (issued_keys c.kept) ops))
