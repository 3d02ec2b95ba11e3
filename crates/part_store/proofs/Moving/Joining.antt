-- An operation that joins the queue of its cell, or opens one, counts as issued, and the buffer's facts stay.
use Rattle.std.proofs.Common.{ℕ, ◌-◌, ◌≡◌, ◌≤◌, ◌⊎◌, Bool, true, false, List, length, Option, Some, None}
use Rattle.std.proofs.Common.{slice_index, refl, sym, ap, ◌∙◌, subst, inl, inr, arith}
use Rattle.std.proofs.lemmas.Bool.{both_ways, cases_Bool, cases_lt}
use Rattle.ws_words.specs.Outside.{Outside, World, row}
use Rattle.ws_isa.specs.Image.{Image, instr_at, array_at, answer, note_of}
use Rattle.ws_isa.specs.Formed.{Formed}
use Rattle.ws_isa.specs.Sound.{Sound}
use Rattle.df_core.specs.Effect.{effect_at, effect_after}
use Rattle.df_core.specs.Core.{Issuable, has, issued_with}
use Rattle.df_core.specs.Fit.{Legal, RightRequest}
use Rattle.df_core.proofs.Keeping.Ports.{SameKey, with_key_cases}
use Rattle.df_core.specs.Began.{Began}
use Rattle.store_buf.specs.declared.kept.Kept.{Kept}
use Rattle.store_buf.specs.Requests.{entry_of, issued_in, answer_if}
use Rattle.store_buf.specs.Outdoors.{Holding, HoldsOut}
use Rattle.part_store.specs.declared.entry.Queued.{Queued}
use Rattle.part_store.specs.Queues.{front, holds, is_queued, joined, open_queues}
use Rattle.part_store.specs.Contents.{is_bare, cell, is_on_row, PartContent}
use Rattle.part_store.specs.Parted.{OnCell, Earlier, IsKept, IsNumbered, Partly, is_store_op, RisingEntries}
use Rattle.part_store.specs.Rules.{Counted, entry_at}
use Rattle.part_store.proofs.Queueing.Keys.{IsOn}
use Rattle.part_store.proofs.Queueing.Keys as K
use Rattle.part_store.proofs.Queueing.Fronts as F
use Rattle.part_store.proofs.Queueing.Times as T
use Rattle.part_store.proofs.Queueing.Ops as O
use Rattle.part_store.proofs.Queueing.Cells as C
use Rattle.part_store.proofs.Queueing.Standing as S
use Rattle.ws_words.specs.Items.{In}

module _ (image : Image) (world : World) (formed : Formed image) (sound : Sound image)
    (began : List (Option Began))
    (c : PartContent) (waiting : ℕ → ℕ → Option (List ℕ)) (counts : ℕ → ℕ → Option ℕ) (memory : Outside)
    (legal : Legal image world counts waiting false c.chain memory)
    (p : Partly image world began counts memory c)
    (k : Kept) (is_kept : entry_of c.kept k.wave k.instr ≡ Some k) (xs : List ℕ)
    (req : RightRequest image world k.wave k.instr xs)
    (may : Issuable image counts c.chain false k.wave k.instr xs)
    (row_is : is_on_row (instr_at image k.instr).op (array_at image k.instr - 1) ≡ true)
    (first_is : slice_index xs 0 ≡ k.first)
    (word : ℕ) (d : PartContent) (go : Counted image c k word (joined (entry_at image k) c.queued) c.outside
    d)
  where
    abbrev f : Queued
    f = record {
      wave = k.wave;
      instr = k.instr;
      seq = (note_of image k.instr).seq;
      row = array_at image k.instr - 1;
      index = k.first;
    }

    abbrev counts' : ℕ → ℕ → Option ℕ
    counts' = issued_with image counts memory k.wave k.instr xs

    abbrev memory' : Outside
    memory' = effect_after image k.instr xs memory

    abbrev k' : Kept
    k' = record { wave = k.wave; instr = k.instr; first = k.first; second = k.second; answer = Some word }

    pub here : OnCell image world k.wave k.instr (array_at image k.instr - 1) k.first req.time
    here = record {
      inst = req.inst;
      at = req.at;
      row = row_is;
      index = ap (λ (ys : List ℕ). slice_index ys 0) req.operands ∙ first_is;
    }

    new_count : (w i : ℕ) → SameKey k.wave k.instr w i → counts' w i ≡ Some (answer image k.instr xs memory)
    new_count w i key = elim (with_key_cases k.wave k.instr
        (Some (answer image k.instr xs memory)) counts w i)
        [ inl h ↦ h.1 | inr h ↦ absurd (h.0 key) ]

    old_count : (w i : ℕ) → (SameKey k.wave k.instr w i → ⊥) → counts' w i ≡ counts w i
    old_count w i n = elim (with_key_cases k.wave k.instr (Some (answer image k.instr xs memory)) counts w i)
        [ inl h ↦ absurd (n h.0) | inr h ↦ h.1 ]

    -- cases of what counts now
    count_cases : (w i a : ℕ) → counts' w i ≡ Some a →
        SameKey k.wave k.instr w i ⊎ ((SameKey k.wave k.instr w i → ⊥) × (counts w i ≡ Some a))
    count_cases w i a e = elim (with_key_cases k.wave k.instr
        (Some (answer image k.instr xs memory)) counts w i)
        [ inl h ↦ inl h.0 | inr h ↦ inr (h.0, sym h.1 ∙ e) ]

    entry_cases : (w i : ℕ) → (SameKey k.wave k.instr w i × (entry_of d.kept w i ≡ Some k')) ⊎
        ((SameKey k.wave k.instr w i → ⊥) × (entry_of d.kept w i ≡ entry_of c.kept w i))
    entry_cases w i = elim (with_key_cases k.wave k.instr (Some k') (entry_of c.kept) w i)
        [ inl h ↦ inl (h.0, go.kept w i ∙ h.1) | inr h ↦ inr (h.0, go.kept w i ∙ h.1) ]

    queued_old : (w i : ℕ) → is_queued c.queued w i ≡ true → is_queued d.queued w i ≡ true
    queued_old w i e = let q = F.queued_in c.queued w i e in
        subst (λ (es : List Queued). is_queued es w i ≡ true) (sym go.queued_are)
        (F.in_queued (joined f c.queued) w i q.0 (F.joined_old f c.queued q.0 q.1) q.2)

    queued_new : (w i : ℕ) → SameKey k.wave k.instr w i → is_queued d.queued w i ≡ true
    queued_new w i key = subst (λ (es : List Queued). is_queued es w i ≡ true) (sym go.queued_are)
        (F.in_queued (joined f c.queued) w i f (F.joined_new f c.queued) key)

    new_right : (w i : ℕ) (x : Kept) → entry_of d.kept w i ≡ Some x → IsKept image world (is_bare d w i) x
    new_right w i x e = elim (entry_cases w i) [
      | inl h ↦ (let q : Some k' ≡ Some x = sym h.1 ∙ e in let s : k' ≡ x = cc in
          let b : is_bare d w i ≡ is_bare c k.wave k.instr = go.bare w i
          ∙ sym (subst (λ (n : ℕ). is_bare c k.wave k.instr ≡ is_bare c w n) h.0.instr
          (ap (λ (n : ℕ). is_bare c n k.instr) h.0.wave)) in
          subst (λ (y : Kept). IsKept image world (is_bare d w i) y) s
          (S.kept_alike image world (is_bare d w i) k (Some word)
          (subst (λ (z : Bool). IsKept image world z k) (sym b) (p.right k.wave k.instr k is_kept))))
      | inr h ↦ subst (λ (z : Bool). IsKept image world z x) (sym (go.bare w i)) (p.right w i x (sym h.1 ∙ e))
    ]

    pub new_same : (w i : ℕ) → has (counts' w i) ≡ has (issued_in d.kept w i)
    new_same w i = elim (entry_cases w i) [
      | inl h ↦ ap has (new_count w i h.0) ∙ sym (ap (λ (e : Option Kept). has (answer_if e)) h.1)
      | inr h ↦ ap has (old_count w i h.0) ∙ p.same w i
          ∙ sym (ap (λ (e : Option Kept). has (answer_if e)) h.1)
    ]

    new_told : (w i a : ℕ) → is_queued d.queued w i ≡ false → issued_in d.kept w i ≡ Some a →
        counts' w i ≡ Some a
    new_told w i a n e = elim (entry_cases w i) [
      | inl h ↦ absurd (both_ways (is_queued d.queued w i) n (queued_new w i h.0))
      | inr h ↦ old_count w i h.0 ∙ p.told w i a
          (elim (cases_Bool (is_queued c.queued w i))
          [ inl q ↦ absurd (both_ways (is_queued d.queued w i) n (queued_old w i q)) | inr q ↦ q ])
          (sym (ap answer_if h.1) ∙ e)
    ]

    new_opened : (w i a : ℕ) → counts' w i ≡ Some a → is_bare d w i ≡ true → is_queued d.queued w i ≡ true
    new_opened w i a e b = elim (count_cases w i a e) [
      | inl h ↦ queued_new w i h
      | inr h ↦ queued_old w i (p.opened w i a h.1 (sym (go.bare w i) ∙ b))
    ]

    sits_one : (e : Queued) → In e (joined f c.queued) →
        ((t : ℕ) × OnCell image world e.wave e.instr e.row e.index t) ×
        ((a : ℕ) × (counts' e.wave e.instr ≡ Some a))
    sits_one e h = elim (F.joined_in f c.queued e h) [
      | inl q ↦ subst (λ (y : Queued). ((t : ℕ) × OnCell image world y.wave y.instr y.row y.index t) ×
          ((a : ℕ) × (counts' y.wave y.instr ≡ Some a))) (sym q) (
            (req.time, here),
            (
              answer image k.instr xs memory,
              new_count k.wave k.instr
                  (record { wave = refl; instr = refl }),
            ),
          )
      | inr g ↦ (let s = p.sits e g in (
        s.0,
        elim
            (with_key_cases k.wave k.instr (Some (answer image k.instr xs memory)) counts e.wave e.instr)
            [ inl z ↦ (answer image k.instr xs memory, z.1) | inr z ↦ (s.1.0, z.1 ∙ s.1.1) ],
      ))
    ]

    numbered_one : (e : Queued) → In e (joined f c.queued) → IsNumbered image e
    numbered_one e h = elim (F.joined_in f c.queued e h)
        [ inl q ↦ subst (λ (y : Queued). IsNumbered image y) (sym q) refl | inr g ↦ p.numbered e g ]

    -- an operation that counted is of another instance
    other_key : (w i a : ℕ) → counts w i ≡ Some a → SameKey k.wave k.instr w i → ⊥
    other_key w i a e key =
        let g : counts w i ≡ None = subst (λ (n : ℕ). counts w n ≡ None) key.instr
        (subst (λ (n : ℕ). counts n k.instr ≡ None) key.wave may.fresh) in
        let h : Some a ≡ None = sym e ∙ g in cc

    order_of : (g : Queued) → In g c.queued → Earlier image world g f ⊎ Earlier image world f g
    order_of g h =
        let s = p.sits g h in
        elim (cases_lt s.0.0 req.time) [
          | inl l ↦ inl (T.earlier_by image world formed sound g f s.0.0 req.time s.0.1 here l
              (p.numbered g h, refl))
          | inr l ↦ elim (cases_lt req.time s.0.0) [
            | inl m ↦ inr (T.earlier_by image world formed sound f g req.time s.0.0 here s.0.1 m
                (refl, p.numbered g h))
            | inr m ↦ absurd (let e : s.0.0 ≡ req.time = omega (arith, l, m) in
                other_key g.wave g.instr s.1.0 s.1.1
                (T.one_instance image world formed sound k.wave k.instr f.row f.index g.wave g.instr g.row
                g.index req.time here (subst
                (λ (n : ℕ). OnCell image world g.wave g.instr g.row g.index n) e s.0.1)))
          ]
        ]

    -- off its cell memory stays
    off_cell : (r j : ℕ) → (IsOn f r j → ⊥) → cell memory'.cells r j ≡ cell memory.cells r j
    off_cell r j n = elim (cases_Bool (is_store_op (instr_at image k.instr).op)) [
      | inl s ↦ ap (λ (cs : List (List ℕ)). cell cs r j)
          (C.store_cells image k.instr xs memory (array_at image k.instr - 1) s row_is)
          ∙ C.stored_there memory.cells (array_at image k.instr - 1) (slice_index xs 0) (slice_index xs 1) r j
          (λ a b. n (record { row = a; index = sym first_is ∙ b }))
      | inr s ↦ ap (λ (cs : List (List ℕ)). cell cs r j) (C.plain_cells image k.instr xs memory s)
    ]

    -- the fields that depend on the cell's queue, old or new
    module _ (few : open_queues (joined f c.queued) ≤ 16)
        (first_now : (r j : ℕ) (e : Queued) → IsOn f r j → front (joined f c.queued) r j ≡ Some e →
        front c.queued r j ≡ Some e ⊎ ((e ≡ f) × (front c.queued r j ≡ None)))
        (alone : (r j w i a u : ℕ) → IsOn f r j → front c.queued r j ≡ None → counts w i ≡ Some a →
        OnCell image world w i r j u → req.time ≤ u → ⊥)
        (value : (r j : ℕ) → IsOn f r j → front c.queued r j ≡ None →
        cell memory.cells r j ≡ cell (effect_at image world req.time).cells r j) where
      -- a first entry is an old one, or the new one of a cell that no queue held
      firsts : (r j : ℕ) (e : Queued) → front d.queued r j ≡ Some e →
          (front c.queued r j ≡ Some e) ⊎ (IsOn f r j × (e ≡ f) × (front c.queued r j ≡ None))
      firsts r j e h0 = let h : front (joined f c.queued) r j ≡ Some e =
          subst (λ (es : List Queued). front es r j ≡ Some e) go.queued_are h0 in
          elim (is_it r j) [
            | inl o ↦ elim (first_now r j e o h) [ inl q ↦ inl q | inr q ↦ inr (o, q.0, q.1) ]
            | inr n ↦ inl (sym (F.joined_other f c.queued r j n) ∙ h)
          ]
        where
          is_it : (r j : ℕ) → IsOn f r j ⊎ (IsOn f r j → ⊥)
          is_it r j = elim (K.cell_cases f r j) [ inl z ↦ inl z.1 | inr z ↦ inr z.1 ]

      here_at : (r j t : ℕ) (e : Queued) → IsOn f r j → e ≡ f → OnCell image world e.wave e.instr r j t →
          req.time ≡ t
      here_at r j t e o q on =
          (T.one_there image world formed sound k.wave k.instr f.row f.index req.time r j t here
          (subst (λ (y : Queued). OnCell image world y.wave y.instr r j t) q on)).time

      pub joins : Partly image world began counts' memory' d
      joins = record {
        right = new_right;
        same = new_same;
        told = new_told;
        opened = new_opened;
        sits = λ e h. sits_one e (subst (λ (es : List Queued). In e es) go.queued_are h);
        numbered = λ e h. numbered_one e (subst (λ (es : List Queued). In e es) go.queued_are h);
        rising = subst (RisingEntries image world) (sym go.queued_are)
            (T.rising_joined image world formed sound f c.queued p.rising order_of);
        every = λ e r j t h on w i a u n there l. elim (count_cases w i a n) [
          | inl key ↦ queued_new w i key
          | inr old ↦ elim (firsts r j e h) [
            | inl q ↦ queued_old w i (p.every e r j t q on w i a u old.1 there l)
            | inr q ↦ absurd (let m : req.time ≡ t = here_at r j t e q.0 q.1 on in
                alone r j w i a u q.0 q.2 old.1 there (omega (arith, m, l)))
          ]
        ];
        few = subst (λ (es : List Queued). open_queues es ≤ 16) (sym go.queued_are) few;
        free = λ r j n. elim (K.cell_cases f r j) [
          | inl z ↦ absurd (let g = F.held_in (joined f c.queued) r j f (F.joined_new f c.queued) z.1 in
              both_ways (holds d.queued r j) n
              (ap has (subst (λ (es : List Queued). front es r j ≡ Some g.0) (sym go.queued_are) g.1)))
          | inr z ↦ ap (λ (h : Holding). cell h.cells r j) go.outside_is
              ∙ p.free r j (ap has (sym (F.joined_other f c.queued r j z.1))
              ∙ subst (λ (es : List Queued). holds es r j ≡ false) go.queued_are n) ∙ sym (off_cell r j z.1)
        ];
        before = λ e r j t h on. ap (λ (x : Holding). cell x.cells r j) go.outside_is
            ∙ elim (firsts r j e h) [
              | inl q ↦ p.before e r j t q on
              | inr q ↦ (let m : req.time ≡ t = here_at r j t e q.0 q.1 on in
                  p.free r j (ap has q.2) ∙ value r j q.0 q.2
                  ∙ ap (λ (n : ℕ). cell (effect_at image world n).cells r j) m)
            ];
        rows = ap (λ (x : Holding). length x.cells) go.outside_is ∙ p.rows
            ∙ sym (C.after_rows image k.instr xs memory);
        shape = λ r. ap (λ (x : Holding). length (row x.cells r)) go.outside_is ∙ p.shape r
            ∙ sym (C.after_shape image k.instr xs memory r);
        outside = subst (λ (x : Holding). HoldsOut began (O.with_cells memory' x.cells) x) (sym go.outside_is)
            (O.quiet_out began image k.instr
            (array_at image k.instr - 1) xs memory c.outside.cells c.outside row_is p.outside);
      }
