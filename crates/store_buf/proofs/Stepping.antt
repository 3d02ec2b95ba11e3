-- A buffer issues a request that may be issued: an event of the core on the buffer's part.
use Rattle.std.proofs.Common.{ℕ, suc, ◌≡◌, ◌<◌, ◌≤◌, ◌⊎◌, ◌==◌, true, false, not, cond, ◌&&◌, ◌||◌, nat_le}
use Rattle.std.proofs.Common.{List, [], ◌∷◌, length, Option, Some, None, slice_set, refl, sym, ap, ◌∙◌, subst}
use Rattle.std.proofs.Common.{inl, inr, leb-true, arith}
use Rattle.std.proofs.lemmas.Bool.{and_parts, both_ways}
use Rattle.ws_words.specs.Outside.{Outside, World}
use Rattle.ws_isa.specs.declared.instr.Op.{Op}
use Rattle.ws_isa.specs.Image.{Image, instr_at, is_memory_op, is_load, is_load_op, is_past, is_past_op}
use Rattle.ws_isa.specs.Image.{is_advance_op, note_of, ports, ports_of, answer, after, after_op, selector_of}
use Rattle.ws_isa.specs.Image.{sends, tokens_to, array_of_op, array_at}
use Rattle.ws_isa.specs.Formed.{Formed}
use Rattle.ws_isa.specs.Sound.{Sound}
use Rattle.ws_isa.specs.Operations.{effect_of}
use Rattle.df_core.specs.Effect.{effect_after}
use Rattle.df_core.specs.Core as law
use Rattle.df_core.specs.Core.{IsNext, Issuable, Passes, issued_with, position_after, with_key, IsSent}
use Rattle.df_core.specs.Fit.{RightRequest}
use Rattle.df_core.proofs.Keeping.BufferKept.{fault_here}
use Rattle.df_core.proofs.Walked.Facts.{WalkFacts}
use Rattle.df_core.proofs.Walked.FromSound.{facts_of}
use Rattle.df_core.proofs.Walked.PortsThere.{ports_there}
use Rattle.df_core.proofs.Keeping.Ports.{with_key_cases}
use Rattle.df_core.specs.Began.{Began}
use Rattle.df_core.specs.Rights.{operands_of}
use Rattle.df_core.specs.declared.plain.Operands.{Operands}
use Rattle.df_core.specs.Partial.{listed}
use Rattle.df_core.specs.Places.{destinations}
use Rattle.df_core.specs.Chains.{chain_of, may_flag, next_flag, PassedOn}
use Rattle.df_core.proofs.Parts.Nexts.{next_is}
use Rattle.df_core.proofs.Parts.Issuing.{same_answer, same_after, same_past, no_advance, printed_alike}
use Rattle.df_core.proofs.Parts.Issuing.{took_alike}
use Rattle.df_core.proofs.Parts.Arriving.{ports_is_op, memory_is_op, sends_are}
use Rattle.store_buf.specs.Earlies.{early_ops}
use Rattle.store_buf.specs.declared.kept.Kept.{Kept}
use Rattle.store_buf.specs.declared.order.Order.{Order}
use Rattle.store_buf.specs.Requests.{entry_of, kept_in, issued_in, answer_if, operands_if}
use Rattle.store_buf.specs.Finding.{place_in}
use Rattle.store_buf.specs.Ordering.{kept_at, ready_flag}
use Rattle.store_buf.specs.Outdoors.{Holding, HoldsOut, Performed}
use Rattle.store_buf.specs.Contents.{FaultIs, RightTokens}
use Rattle.store_buf.specs.Holds.{Holds, Issued, Stopped, part, waiting_in}
use Rattle.store_buf.proofs.Found as F
use Rattle.store_buf.proofs.Ordered.{ready_waits}
use Rattle.store_buf.proofs.Going as G
use Rattle.store_buf.proofs.Alike.{going_alike, early_alike, once_of, entry_set}
use Rattle.ws_words.proofs.Bools.{not_true as not_false, or_comes as either}
use Rattle.ws_words.specs.Items.{In}
use Rattle.store_buf.specs.Orders.{OrderGoes}

pub two_ports : (op : Op) (f s : ℕ) → is_memory_op op ≡ true
    → listed (ports_of op) (record { first = f; second = s; third = 0 }) ≡ operands_of (ports_of op) f s
two_ports op f s e = grind (arith, both_ways)

pub no_selector : (op : Op) (xs : List ℕ) → is_memory_op op ≡ true → selector_of op xs ≡ 0
no_selector op xs e = grind (arith, both_ways)

-- loads before their turn leave nothing
pub out_effect : (began : List (Option Began)) (o : Outside) (h : Holding) → HoldsOut began o h
    → HoldsOut began (effect_of o) h
out_effect began o h is = grind (arith, printed_alike, took_alike)

module _ (image : Image) (world : World) (formed : Formed image) (sound : Sound image)
    (began : List (Option Began)) (o : Order) (h : Holding) (m : Outside)
    (hold : Holds image world began o false h m)
    (p : ℕ) (l : p < length o.kept.items) (ready : ready_flag image o (kept_at o p) ≡ true) where
  facts : WalkFacts image world
  facts = facts_of image world (ports_there image formed) sound

  abbrev xs : List ℕ
  xs = operands_of (ports image (kept_at o p).instr) (kept_at o p).first (kept_at o p).second

  found : entry_of o.kept.items (kept_at o p).wave (kept_at o p).instr ≡ Some (kept_at o p)
  found = sym (F.here o.kept.items (place_in o.kept.items o.index) o.ok.index (kept_at o p).wave
      (kept_at o p).instr p (o.ok.index p l) l refl refl)

  waits_here : ((kept_at o p).answer ≡ None) × ((kept_at o p).wave ≡ o.chain.wave)
  waits_here = ready_waits image o (kept_at o p) ready

  kept_here : kept_in image o.kept.items (kept_at o p).wave (kept_at o p).instr ≡ Some xs
  kept_here = ap (operands_if image) found

  fresh : issued_in o.kept.items (kept_at o p).wave (kept_at o p).instr ≡ None
  fresh = ap answer_if found ∙ waits_here.0

  pub waiting_here : waiting_in image o.kept.items (kept_at o p).wave (kept_at o p).instr ≡ Some xs
  waiting_here = grind (arith, fresh, kept_here)

  pub right : RightRequest image world (kept_at o p).wave (kept_at o p).instr xs
  right = hold.right (kept_at o p).wave (kept_at o p).instr xs kept_here

  op_memory : is_memory_op (instr_at image (kept_at o p).instr).op ≡ true
  op_memory = sym (memory_is_op image (kept_at o p).instr) ∙ right.memory

  abbrev oo : Operands
  oo = record { first = (kept_at o p).first; second = (kept_at o p).second; third = 0 }

  xs_is : listed (ports_of (instr_at image (kept_at o p).instr).op) oo ≡ xs
  xs_is = grind (arith, two_ports, op_memory, ports_is_op)

  op_is : is_load image (kept_at o p).instr ≡ is_load_op (instr_at image (kept_at o p).instr).op
  unfolding is_load
  op_is = refl

  pub past_is : is_past image (kept_at o p).instr xs ≡ is_past_op image.arrays
      (instr_at image (kept_at o p).instr).op ((kept_at o p).first ∷ [])
  unfolding is_past
  past_is = grind (arith, xs_is, same_past)

  turn : IsNext (chain_of o.chain) (note_of image (kept_at o p).instr)
      ⊎ ((is_load image (kept_at o p).instr ≡ true) × (is_past image (kept_at o p).instr xs ≡ false)
      × ((note_of image (kept_at o p).instr).ripple ≤ position_after o.chain.last))
  turn =
      let a = and_parts _ (may_flag image (chain_of o.chain) (kept_at o p).wave (kept_at o p).instr
      (kept_at o p).first) ready in
      let b = and_parts ((kept_at o p).wave == o.chain.wave)
      (next_flag (chain_of o.chain) (note_of image (kept_at o p).instr)
      || (is_load_op (instr_at image (kept_at o p).instr).op && not
      (is_past_op image.arrays (instr_at image (kept_at o p).instr).op ((kept_at o p).first ∷ []))
      && nat_le (note_of image (kept_at o p).instr).ripple (position_after o.chain.last))) a.1 in
      elim (either (next_flag (chain_of o.chain) (note_of image (kept_at o p).instr))
      (is_load_op (instr_at image (kept_at o p).instr).op && not
      (is_past_op image.arrays (instr_at image (kept_at o p).instr).op ((kept_at o p).first ∷ []))
      && nat_le (note_of image (kept_at o p).instr).ripple (position_after o.chain.last)) b.1) [
        | inl e ↦ inl (next_is (chain_of o.chain) (note_of image (kept_at o p).instr) e)
        | inr e ↦ (let c = and_parts (is_load_op (instr_at image (kept_at o p).instr).op && not (is_past_op
            image.arrays (instr_at image (kept_at o p).instr).op ((kept_at o p).first ∷ []))) (nat_le (note_of
            image (kept_at o p).instr).ripple (position_after o.chain.last)) e in
            let d = and_parts (is_load_op (instr_at image (kept_at o p).instr).op)
            (not (is_past_op image.arrays (instr_at image (kept_at o p).instr).op
            ((kept_at o p).first ∷ []))) c.0 in
            inr (op_is ∙ d.0, past_is ∙ not_false _ d.1, leb-true _ _ c.1))
      ]

  pub may : Issuable image (issued_in o.kept.items) (chain_of o.chain) false (kept_at o p).wave
      (kept_at o p).instr xs
  may = record { going = refl; current = waits_here.1; fresh = fresh; turn = turn }

  -- what it sends is right
  pub sent_right : RightTokens image world (sends image (kept_at o p).wave (kept_at o p).instr xs
      (answer image (kept_at o p).instr xs m))
  sent_right a b c d sent = facts.sent right.time right.inst right.at.fires a b c d
      (subst (λ (q : ℕ × ℕ × List ℕ × ℕ). IsSent (sends image q.0 q.1 q.2 q.3) a b c d)
      (λ j. (sym right.at.wave j, sym right.at.instr j, sym right.operands j, answered j)) sent)
    where
      answered : answer image (kept_at o p).instr xs m ≡ right.inst.result
      answered = G.answer_right image world facts (issued_in o.kept.items) (waiting_in image o.kept.items)
          false (chain_of o.chain) m (early_ops o.early) hold.going (kept_at o p).wave (kept_at o p).instr xs
          right may

  -- past the end it is the walk's first operation that is
  pub fault_is : is_past_op image.arrays (instr_at image (kept_at o p).instr).op ((kept_at o p).first ∷ [])
      ≡ true → FaultIs image world (Some (array_of_op (instr_at image (kept_at o p).instr).op))
  unfolding fault_here array_at
  fault_is past = (
    right.time,
    fault_here image world facts (issued_in o.kept.items) (chain_of o.chain) false m hold.going.legal.settled
        (kept_at o p).wave (kept_at o p).instr xs may right.time right.inst right.at right.operands
        right.memory hold.going.legal.cut hold.going.legal.ordered
        (past_is ∙ past) (waiting_in image o.kept.items) waiting_here,
    ap (λ (n : ℕ). array_of_op (instr_at image n).op) (sym right.at.instr),
  )

  -- past the end the chain stops
  pub stops : is_past_op image.arrays (instr_at image (kept_at o p).instr).op ((kept_at o p).first ∷ [])
      ≡ true →
      Stopped image (part image o.kept.items (chain_of o.chain) false m) (kept_at o p).wave
      (kept_at o p).instr (part image o.kept.items (chain_of o.chain) true m)
      × Holds image world began o true h m
  stops past = (
    record {
      operands = xs;
      waits = waiting_here;
      issuable = may;
      past = past_is ∙ past;
      kept = λ a b. refl;
      issued = λ a b. refl;
      chain = refl;
      stopped = refl;
      memory = refl;
    },
    record {
      going = G.goes_not image world facts (issued_in o.kept.items) (waiting_in image o.kept.items) false
          (chain_of o.chain) m (early_ops o.early) hold.going (kept_at o p).wave (kept_at o p).instr xs right
          may (past_is ∙ past) waiting_here;
      right = hold.right;
      outside = hold.outside;
    },
  )

  -- else it takes its effect
  module _ (within : is_past_op image.arrays (instr_at image (kept_at o p).instr).op
      ((kept_at o p).first ∷ []) ≡ false) (word : ℕ) (new : Order) (left : Holding)
      (answers : Performed began (instr_at image (kept_at o p).instr).op
      ((kept_at o p).first ∷ (kept_at o p).second ∷ 0 ∷ []) m word left)
      (kept : new.kept.items ≡ slice_set o.kept.items p
      (record {
        wave = (kept_at o p).wave;
        instr = (kept_at o p).instr;
        first = (kept_at o p).first;
        second = (kept_at o p).second;
        answer = Some word;
      }))
      (passed : PassedOn image (chain_of o.chain) (kept_at o p).instr (early_ops o.early) (chain_of new.chain)
      (early_ops new.early)) where
    inside : is_past image (kept_at o p).instr xs ≡ false
    inside = past_is ∙ within

    answer_is : word ≡ answer image (kept_at o p).instr xs m
    unfolding answer
    answer_is = grind (arith, same_answer, xs_is)

    after_is : HoldsOut began (effect_after image (kept_at o p).instr xs m) left
    unfolding effect_after after
    after_is = out_effect began (after_op (instr_at image (kept_at o p).instr).op xs m) left
        (subst (λ (z : Outside). HoldsOut began z left)
        (sym (same_after (instr_at image (kept_at o p).instr).op oo m)
        ∙ ap (λ (ys : List ℕ). after_op (instr_at image (kept_at o p).instr).op ys m) xs_is)
        answers.after)

    abbrev changed : Kept
    changed = record {
      wave = (kept_at o p).wave;
      instr = (kept_at o p).instr;
      first = (kept_at o p).first;
      second = (kept_at o p).second;
      answer = Some word;
    }

    entries : (w i : ℕ) → entry_of new.kept.items w i ≡ with_key (kept_at o p).wave (kept_at o p).instr
        (Some changed) (entry_of o.kept.items) w i
    entries w i = grind (arith, entry_set, once_of)

    kept_same : (w i : ℕ) → kept_in image new.kept.items w i ≡ kept_in image o.kept.items w i
    kept_same w i = grind (arith, entries, with_key_cases, kept_here)

    issued_now : (w i : ℕ) → issued_in new.kept.items w i ≡ issued_with image (issued_in o.kept.items) m
        (kept_at o p).wave (kept_at o p).instr xs w i
    issued_now w i = ap answer_if (entries w i)
        ∙ elim (with_key_cases (kept_at o p).wave (kept_at o p).instr (Some changed) (entry_of o.kept.items) w
        i) [
          | inl e ↦ ap answer_if e.1 ∙ ap (λ (n : ℕ). Some n) answer_is
              ∙ elim (with_key_cases (kept_at o p).wave (kept_at o p).instr
              (Some (answer image (kept_at o p).instr xs m)) (issued_in o.kept.items) w i) [
                | inl f ↦ sym f.1
                | inr f ↦ absurd (f.0 e.0)
              ]
          | inr e ↦ ap answer_if e.1
              ∙ elim (with_key_cases (kept_at o p).wave (kept_at o p).instr
              (Some (answer image (kept_at o p).instr xs m)) (issued_in o.kept.items) w i) [
                | inl f ↦ absurd (e.0 f.0)
                | inr f ↦ sym f.1
              ]
        ]

    Goes : Type 0
    Goes = Passes image (issued_with image (issued_in o.kept.items) m (kept_at o p).wave (kept_at o p).instr
        xs) (chain_of o.chain) (chain_of new.chain)
        × OrderGoes image world (issued_with image (issued_in o.kept.items) m (kept_at o p).wave
        (kept_at o p).instr xs) (waiting_in image new.kept.items) false (chain_of new.chain)
        (effect_after image (kept_at o p).instr xs m) (early_ops new.early)

    goes : Goes
    unfolding Goes
    goes = elim passed [
      | inl q ↦ G.goes_next image world facts (issued_in o.kept.items) (waiting_in image o.kept.items) false
          (chain_of o.chain) m (early_ops o.early) hold.going (kept_at o p).wave (kept_at o p).instr xs right
          may inside (waiting_in image new.kept.items) q.0 (chain_of new.chain) (early_ops new.early) q.1
      | inr q ↦ (let load : is_load image (kept_at o p).instr ≡ true = elim turn [
        | inl e ↦ absurd (q.0 e)
        | inr e ↦ e.0
      ] in
          let r = G.goes_early image world facts (issued_in o.kept.items) (waiting_in image o.kept.items)
          false (chain_of o.chain) m (early_ops o.early) hold.going (kept_at o p).wave (kept_at o p).instr
          xs right may inside (waiting_in image new.kept.items) q.0 load in (
            subst (λ (d : law.Chain). Passes image (issued_with image (issued_in o.kept.items) m (kept_at o
                p).wave (kept_at o p).instr xs) (chain_of o.chain) d) (sym q.1) r.0,
            subst (λ (d : law.Chain). OrderGoes image world (issued_with image (issued_in o.kept.items) m
                (kept_at o p).wave (kept_at o p).instr xs) (waiting_in image new.kept.items) false d
                (effect_after image (kept_at o p).instr xs m) (early_ops new.early)) (sym q.1) (early_alike
                image world (issued_with image (issued_in o.kept.items) m (kept_at o p).wave (kept_at o
                p).instr xs) (waiting_in image new.kept.items) false (chain_of o.chain) (effect_after image
                (kept_at o p).instr xs m) ((kept_at o p).instr ∷ (early_ops o.early)) (early_ops new.early) (λ
                j e. elim e [
                  | inl h ↦ subst (λ (n : ℕ). In n (early_ops new.early)) (sym h) q.2.1
                  | inr h ↦ q.2.2 j h
                ]) (λ j e. elim (q.2.0 j e) [ inl h ↦ inl (sym h) | inr h ↦ inr h ]) r.1),
          ))
    ]

    pub issues : Issued image (part image o.kept.items (chain_of o.chain) false m) (kept_at o p).wave
        (kept_at o p).instr (sends image (kept_at o p).wave (kept_at o p).instr xs
        (answer image (kept_at o p).instr xs m))
        (part image new.kept.items (chain_of new.chain) false (effect_after image (kept_at o p).instr xs m))
        × Holds image world began new false left (effect_after image (kept_at o p).instr xs m)
    unfolding Goes
    issues = (
      record {
        operands = xs;
        waits = waiting_here;
        issuable = may;
        within = inside;
        passed = goes.0;
        tokens_are = refl;
        kept = kept_same;
        issued = issued_now;
        stopped = refl;
        memory = refl;
      },
      record {
        going = going_alike image world (issued_with image (issued_in o.kept.items) m (kept_at o p).wave
            (kept_at o p).instr xs) (issued_in new.kept.items) issued_now (waiting_in image new.kept.items)
            (waiting_in image new.kept.items) (λ w i. refl) false (chain_of new.chain) (effect_after image
            (kept_at o p).instr xs m) (early_ops new.early) goes.1;
        right = λ w i ys e. hold.right w i ys (sym (kept_same w i) ∙ e);
        outside = after_is;
      },
    )

    -- the code's tokens are the result tokens
    pub tokens_are : tokens_to (kept_at o p).wave word (destinations image (kept_at o p).instr 0)
        ≡ sends image (kept_at o p).wave (kept_at o p).instr xs (answer image (kept_at o p).instr xs m)
    tokens_are =
        let se : selector_of (instr_at image (kept_at o p).instr).op xs ≡ 0 =
        no_selector (instr_at image (kept_at o p).instr).op xs op_memory in
        let w : cond (is_advance_op (instr_at image (kept_at o p).instr).op) (suc (kept_at o p).wave)
        (kept_at o p).wave ≡ (kept_at o p).wave = no_advance (instr_at image (kept_at o p).instr).op
        (kept_at o p).wave op_memory in
        ap (λ (v : ℕ). tokens_to (kept_at o p).wave v (destinations image (kept_at o p).instr 0)) answer_is
        ∙ ap (λ (n : ℕ). tokens_to (kept_at o p).wave (answer image (kept_at o p).instr xs m)
        (destinations image (kept_at o p).instr n)) (sym se)
        ∙ ap (λ (n : ℕ). tokens_to n (answer image (kept_at o p).instr xs m)
        (destinations image (kept_at o p).instr (selector_of (instr_at image (kept_at o p).instr).op xs)))
        (sym w)
        ∙ sends_are image (kept_at o p).wave (kept_at o p).instr xs (answer image (kept_at o p).instr xs m)
