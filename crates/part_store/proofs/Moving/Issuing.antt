-- An operation whose cell no queue holds is issued, and the buffer's facts stay.
use Rattle.std.proofs.Common.{ℕ, ◌-◌, ◌≡◌, ◌⊎◌, true, false, List, [], ◌∷◌, length, Option, Some}
use Rattle.std.proofs.Common.{slice_index, sym, ap, ◌∙◌, subst, inl, inr, arith}
use Rattle.std.proofs.lemmas.Bool.{both_ways, cases_Bool}
use Rattle.ws_words.specs.Outside.{Outside, World, row}
use Rattle.ws_isa.specs.Image.{Image, instr_at, array_at, answer, after_op, sends}
use Rattle.ws_isa.specs.Formed.{Formed}
use Rattle.ws_isa.specs.Sound.{Sound}
use Rattle.df_core.specs.Effect.{effect_after}
use Rattle.df_core.specs.Core.{Issuable, IsSent, has, issued_with}
use Rattle.df_core.specs.Fit.{Legal, RightRequest}
use Rattle.df_core.proofs.Walked.Facts.{WalkFacts}
use Rattle.df_core.proofs.Keeping.BufferKept as B
use Rattle.df_core.proofs.Keeping.Ports.{SameKey, with_key_cases}
use Rattle.df_core.specs.Began.{Began}
use Rattle.store_buf.specs.declared.kept.Kept.{Kept}
use Rattle.store_buf.specs.Requests.{entry_of, issued_in, answer_if}
use Rattle.store_buf.specs.Outdoors.{Holding, HoldsOut, Performed}
use Rattle.store_buf.specs.Contents.{RightTokens}
use Rattle.part_store.specs.declared.entry.Queued.{Queued}
use Rattle.part_store.specs.Queues.{front, holds, is_queued}
use Rattle.part_store.specs.Contents.{is_bare, cell, is_on_row, holds_op, PartContent}
use Rattle.part_store.specs.Parted.{OnCell, IsKept, Partly, is_store_op}
use Rattle.part_store.specs.Rules.{Counted, operands_at}
use Rattle.part_store.proofs.Queueing.Times as T
use Rattle.part_store.proofs.Queueing.Ops as O
use Rattle.part_store.proofs.Queueing.Cells as C

module _ (image : Image) (world : World) (formed : Formed image) (sound : Sound image)
    (began : List (Option Began))
    (c : PartContent) (waiting : ℕ → ℕ → Option (List ℕ)) (counts : ℕ → ℕ → Option ℕ) (memory : Outside)
    (legal : Legal image world counts waiting false c.chain memory)
    (p : Partly image world began counts memory c)
    (k : Kept) (is_kept : entry_of c.kept k.wave k.instr ≡ Some k)
    (req : RightRequest image world k.wave k.instr (operands_at image k))
    (may : Issuable image counts c.chain false k.wave k.instr (operands_at image k))
    (word : ℕ) (left : Holding) (held : holds_op c.queued (instr_at image k.instr).op k.first ≡ false)
    (answers : Performed began (instr_at image k.instr).op (k.first ∷ k.second ∷ 0 ∷ [])
    (record { cells = c.outside.cells; input = memory.input; left = memory.left; acts = memory.acts })
    word left)
    (bare_is : is_bare c k.wave k.instr ≡ false) (d : PartContent)
    (go : Counted image c k word c.queued left d) where
  abbrev facts : WalkFacts image world
  facts = T.facts image world formed sound

  abbrev counts' : ℕ → ℕ → Option ℕ
  counts' = issued_with image counts memory k.wave k.instr (operands_at image k)

  abbrev memory' : Outside
  memory' = effect_after image k.instr (operands_at image k) memory

  abbrev k' : Kept
  k' = record { wave = k.wave; instr = k.instr; first = k.first; second = k.second; answer = Some word }

  abbrev om : Outside
  om = O.with_cells memory c.outside.cells

  first_is : slice_index (operands_at image k) 0 ≡ k.first
  first_is = O.first_of image k

  -- the cell of a load or store isn't held
  free_cell : (r : ℕ) → is_on_row (instr_at image k.instr).op r ≡ true →
      (array_at image k.instr - 1 ≡ r) × (holds c.queued r k.first ≡ false)
  free_cell r e = elim (O.cases_row image c.queued k.instr k.first) [
    | inl h ↦ (let q : array_at image k.instr - 1 ≡ r = T.row_is_op _ _ _ h.0 e in
        (q, subst (λ (n : ℕ). holds c.queued n k.first ≡ false) q (sym h.1 ∙ held)))
    | inr h ↦ absurd (both_ways (is_on_row (instr_at image k.instr).op r) (h.0 r) e)
  ]

  pub word_is : word ≡ answer image k.instr (operands_at image k) memory
  word_is = answers.answer ∙ sym ((O.operands_alike image k om).0) ∙ sym (O.answer_is image k.instr
      (operands_at image k) om) ∙ elim (O.cases_row image c.queued k.instr k.first) [
        | inl h ↦ elim (cases_Bool (is_store_op (instr_at image k.instr).op)) [
          | inl s ↦ O.answer_store image k.instr (operands_at image k) om s ∙ sym (O.answer_store _ _ _ _ s)
          | inr s ↦ O.answer_load image k.instr (array_at image k.instr - 1) (operands_at image k) om h.0 s ∙
              ap (cell c.outside.cells (array_at image k.instr - 1)) first_is ∙ p.free (array_at image k.instr
              - 1) k.first (free_cell (array_at image k.instr - 1) h.0).1 ∙ ap (cell memory.cells (array_at
              image k.instr - 1)) (sym first_is) ∙ sym (O.answer_load image k.instr (array_at image k.instr -
              1) (operands_at image k) memory h.0 s)
        ]
        | inr h ↦ O.no_cells image k.instr (operands_at image k) memory c.outside.cells h.0
      ]

  new_count : (w i : ℕ) → SameKey k.wave k.instr w i →
      counts' w i ≡ Some (answer image k.instr (operands_at image k) memory)
  new_count w i key = grind (arith, with_key_cases)

  old_count : (w i : ℕ) → (SameKey k.wave k.instr w i → ⊥) → counts' w i ≡ counts w i
  old_count w i n = elim (with_key_cases k.wave k.instr
      (Some (answer image k.instr (operands_at image k) memory)) counts w i)
      [ inl h ↦ absurd (n h.0) | inr h ↦ h.1 ]

  count_cases : (w i a : ℕ) → counts' w i ≡ Some a →
      SameKey k.wave k.instr w i ⊎ ((SameKey k.wave k.instr w i → ⊥) × (counts w i ≡ Some a))
  count_cases w i a e = elim (with_key_cases k.wave k.instr
      (Some (answer image k.instr (operands_at image k) memory)) counts w i)
      [ inl h ↦ inl h.0 | inr h ↦ inr (h.0, sym h.1 ∙ e) ]

  entry_cases : (w i : ℕ) → (SameKey k.wave k.instr w i × (entry_of d.kept w i ≡ Some k')) ⊎
      ((SameKey k.wave k.instr w i → ⊥) × (entry_of d.kept w i ≡ entry_of c.kept w i))
  entry_cases w i = grind (arith, with_key_cases k.wave k.instr (Some k') (entry_of c.kept) w i)

  queued_same : (w i : ℕ) → is_queued d.queued w i ≡ is_queued c.queued w i
  queued_same w i = ap (λ (es : List Queued). is_queued es w i) go.queued_are

  front_same : (r j : ℕ) → front d.queued r j ≡ front c.queued r j
  front_same r j = ap (λ (es : List Queued). front es r j) go.queued_are

  new_right : (w i : ℕ) (x : Kept) → entry_of d.kept w i ≡ Some x → IsKept image world (is_bare d w i) x
  new_right w i x e = grind (arith, entry_cases)

  pub new_same : (w i : ℕ) → has (counts' w i) ≡ has (issued_in d.kept w i)
  new_same w i = elim (entry_cases w i) [
    | inl h ↦ ap has (new_count w i h.0) ∙ sym (ap (λ (e : Option Kept). has (answer_if e)) h.1)
    | inr h ↦ ap has (old_count w i h.0) ∙ p.same w i ∙ sym (ap (λ (e : Option Kept). has (answer_if e)) h.1)
  ]

  new_told : (w i a : ℕ) → is_queued d.queued w i ≡ false → issued_in d.kept w i ≡ Some a →
      counts' w i ≡ Some a
  new_told w i a n e = elim (entry_cases w i) [
    | inl h ↦ new_count w i h.0 ∙ ap (λ (m : ℕ). Some m) (sym word_is) ∙ sym (ap answer_if h.1) ∙ e
    | inr h ↦ old_count w i h.0 ∙ p.told w i a (sym (queued_same w i) ∙ n) (sym (ap answer_if h.1) ∙ e)
  ]

  -- the cells that it leaves
  left_is : left.cells ≡ (after_op (instr_at image k.instr).op (operands_at image k) om).cells
  left_is = sym answers.after.cells_are ∙ sym (ap (λ (o : Outside). o.cells) (O.operands_alike image k om).1)

  left_plain : is_store_op (instr_at image k.instr).op ≡ false → left.cells ≡ c.outside.cells
  left_plain s = left_is ∙ C.op_plain image k.instr (operands_at image k) om s

  left_store : (r : ℕ) → is_store_op (instr_at image k.instr).op ≡ true →
      is_on_row (instr_at image k.instr).op r ≡ true →
      left.cells ≡ C.stored c.outside.cells r k.first (slice_index (operands_at image k) 1)
  left_store r s e = left_is ∙ C.op_store image k.instr (operands_at image k) om r s e
      ∙ ap (λ (n : ℕ). C.stored c.outside.cells r n (slice_index (operands_at image k) 1)) first_is

  memory_store : (r : ℕ) → is_store_op (instr_at image k.instr).op ≡ true →
      is_on_row (instr_at image k.instr).op r ≡ true →
      memory'.cells ≡ C.stored memory.cells r k.first (slice_index (operands_at image k) 1)
  memory_store r s e = grind (arith, C.store_cells, C.stored, first_is)

  left_free : (r j : ℕ) → holds c.queued r j ≡ false → cell left.cells r j ≡ cell memory'.cells r j
  left_free r j n = elim (cases_Bool (is_store_op (instr_at image k.instr).op)) [
    | inl s ↦ (let q = C.store_row image k.instr s in
        ap (λ (cs : List (List ℕ)). cell cs r j) (left_store q.0 s q.1) ∙ elim (same_place q.0 r j) [
          | inl z ↦ rw (← z.1) (rw (← z.0) (C.stored_here c.outside.cells memory.cells q.0 k.first
              (slice_index (operands_at image k) 1) (p.shape q.0)))
          | inr z ↦ C.stored_there c.outside.cells q.0 k.first (slice_index (operands_at image k) 1) r j z
              ∙ p.free r j n ∙ sym (C.stored_there memory.cells q.0 k.first
              (slice_index (operands_at image k) 1) r j z)
        ] ∙ sym (ap (λ (cs : List (List ℕ)). cell cs r j) (memory_store q.0 s q.1)))
    | inr s ↦ ap (λ (cs : List (List ℕ)). cell cs r j) (left_plain s) ∙ p.free r j n ∙ sym (ap (λ (cs : List
        (List ℕ)). cell cs r j) (C.plain_cells image k.instr (operands_at image k) memory s))
  ]
    where
      same_place : (q r j : ℕ) → ((q ≡ r) × (k.first ≡ j)) ⊎ C.Differ q k.first r j
      same_place q r j = grind arith

  -- a held cell stays as it was
  left_held : (r j : ℕ) (e : Queued) → front c.queued r j ≡ Some e →
      cell left.cells r j ≡ cell c.outside.cells r j
  left_held r j e h = elim (cases_Bool (is_store_op (instr_at image k.instr).op)) [
    | inl s ↦ (let q = C.store_row image k.instr s in
        ap (λ (cs : List (List ℕ)). cell cs r j) (left_store q.0 s q.1) ∙ C.stored_there c.outside.cells q.0
        k.first (slice_index (operands_at image k) 1) r j (λ x y. both_ways (holds c.queued r j) (rw (← y) (rw
        (← x) (free_cell q.0 q.1).1)) (ap has h)))
    | inr s ↦ ap (λ (cs : List (List ℕ)). cell cs r j) (left_plain s)
  ]

  left_shape : (r : ℕ) → length (row left.cells r) ≡ length (row c.outside.cells r)
  left_shape r = elim (cases_Bool (is_store_op (instr_at image k.instr).op)) [
    | inl s ↦ (let q = C.store_row image k.instr s in
        ap (λ (cs : List (List ℕ)). length (row cs r)) (left_store q.0 s q.1)
        ∙ C.stored_shape c.outside.cells q.0 k.first (slice_index (operands_at image k) 1) r)
    | inr s ↦ ap (λ (cs : List (List ℕ)). length (row cs r)) (left_plain s)
  ]

  left_rows : length left.cells ≡ length c.outside.cells
  left_rows = elim (cases_Bool (is_store_op (instr_at image k.instr).op)) [
    | inl s ↦ (let q = C.store_row _ _ s in
        ap (λ (cs : List (List ℕ)). length cs) (left_store _ s q.1) ∙ C.stored_rows _ _ _ _)
    | inr s ↦ ap (λ (cs : List (List ℕ)). length cs) (left_plain s)
  ]

  outside_left : HoldsOut began (O.with_cells memory' left.cells) left
  outside_left = O.outside_after began image k.instr (operands_at image k) memory c.outside.cells left
      (subst (λ (o : Outside). HoldsOut began o left) (sym (O.operands_alike image k om).1) answers.after)

  -- the operation isn't on a held cell
  not_held : (r j u : ℕ) (e : Queued) (w i : ℕ) → SameKey k.wave k.instr w i → front c.queued r j ≡ Some e →
      OnCell image world w i r j u → ⊥
  not_held r j u e w i key h there =
      let there' : OnCell image world k.wave k.instr r j u =
      subst (λ (m : ℕ). OnCell image world k.wave m r j u) (sym key.instr)
      (subst (λ (m : ℕ). OnCell image world m i r j u) (sym key.wave) there) in
      let q = free_cell r there'.row in
      let here : OnCell image world k.wave k.instr r k.first req.time = grind (arith, slice_index, first_is)
      in
      let s = T.one_there image world formed sound k.wave k.instr r k.first req.time r j u here there' in
      both_ways (holds c.queued r j) (subst (λ (m : ℕ). holds c.queued r m ≡ false) s.index q.1) (ap has h)

  pub issues : Partly image world began counts' memory' d
  issues = record {
    right = new_right;
    same = new_same;
    told = new_told;
    opened = λ w i a e b. elim (count_cases w i a e) [
      | inl key ↦ absurd (both_ways (is_bare c w i) (whole w i key) (sym (go.bare w i) ∙ b))
      | inr old ↦ queued_same w i ∙ p.opened w i a old.1 (sym (go.bare w i) ∙ b)
    ];
    sits = λ e h. let s = p.sits e (rw (← go.queued_are) h) in (
      s.0,
      elim (with_key_cases k.wave k.instr (Some (answer image k.instr (operands_at image k) memory)) counts
          e.wave e.instr) [
            | inl z ↦ (answer image k.instr (operands_at image k) memory, z.1)
            | inr z ↦ (s.1.0, z.1 ∙ s.1.1)
          ],
    );
    numbered = λ e h. p.numbered e (rw (← go.queued_are) h);
    rising = rw go.queued_are p.rising;
    every = λ e r j t h on w i a u n there l. elim (count_cases w i a n) [
      | inl key ↦ absurd (not_held r j u e w i key (sym (front_same r j) ∙ h) there)
      | inr old ↦ queued_same w i ∙ p.every e r j t (sym (front_same r j) ∙ h) on w i a u old.1 there l
    ];
    few = rw go.queued_are p.few;
    free = λ r j n. ap (λ (h : Holding). cell h.cells r j) go.outside_is ∙ left_free r j (ap has (sym
        (front_same r j)) ∙ n);
    before = λ e r j t h on. ap (λ (x : Holding). cell x.cells r j) go.outside_is ∙ left_held r j e (sym
        (front_same r j) ∙ h) ∙ p.before e r j t (sym (front_same r j) ∙ h) on;
    rows = ap (λ (x : Holding). length x.cells) go.outside_is ∙ left_rows ∙ p.rows ∙ sym (C.after_rows image
        k.instr (operands_at image k) memory);
    shape = λ r. ap (λ (x : Holding). length (row x.cells r)) go.outside_is ∙ left_shape r ∙ p.shape r ∙ sym
        (C.after_shape image k.instr (operands_at image k) memory r);
    outside = rw go.outside_is outside_left;
  }
    where
      whole : (w i : ℕ) → SameKey k.wave k.instr w i → is_bare c w i ≡ false
      whole w i key = grind arith

  -- and what it sends is right
  pub sent_right : RightTokens image world (sends image k.wave k.instr (operands_at image k) word)
  sent_right w i q v h = facts.sent req.time req.inst req.at.fires w i q v
      (subst (λ (x : ℕ × ℕ × List ℕ × ℕ). IsSent (sends image x.0 x.1 x.2 x.3) w i q v)
      (λ n. (sym req.at.wave n, sym req.at.instr n, sym req.operands n, (word_is ∙ right_answer) n)) h)
    where
      right_answer : answer image k.instr (operands_at image k) memory ≡ req.inst.result
      right_answer = B.answer_right image world facts counts c.chain false memory legal.settled k.wave k.instr
          (operands_at image k) may req.time req.inst req.at req.operands req.memory legal.cut legal.ordered
