-- The first entry of a queue is done, and the buffer's facts stay.
use Rattle.std.proofs.Common.{ℕ, suc, ◌≡◌, ◌<◌, ◌≤◌, ◌⊎◌, Bool, true, false, List, [], length, Option}
use Rattle.std.proofs.Common.{Some, None, slice_index, refl, sym, ap, ◌∙◌, subst, inl, inr, arith}
use Rattle.std.proofs.lemmas.Bool.{both_ways, cases_Bool, cases_lt, cond-true, cond-false}
use Rattle.ws_words.specs.Outside.{Outside, World, row}
use Rattle.ws_isa.specs.Image.{Image, Token, instr_at, is_memory, sends}
use Rattle.ws_isa.specs.Formed.{Formed}
use Rattle.ws_isa.specs.Sound.{Sound}
use Rattle.ws_isa.specs.Walk.{Inst}
use Rattle.df_core.specs.Effect.{effect_at}
use Rattle.df_core.specs.Core.{has, IsSent}
use Rattle.df_core.specs.Fit.{FiresAt, Legal, RightRequest}
use Rattle.df_core.proofs.Walked.Facts.{WalkFacts}
use Rattle.df_core.proofs.Keeping.Passing.{same_fired}
use Rattle.df_core.proofs.Keeping.Ports.{SameKey, with_key_cases}
use Rattle.df_core.proofs.Keeping.Settling.{one_time}
use Rattle.df_core.specs.Began.{Began}
use Rattle.store_buf.specs.declared.kept.Kept.{Kept}
use Rattle.store_buf.specs.Requests.{entry_of, issued_in, answer_if}
use Rattle.store_buf.specs.Contents.{RightTokens}
use Rattle.part_store.specs.declared.entry.Queued.{Queued}
use Rattle.part_store.specs.Queues.{front, is_queued, open_queues, without}
use Rattle.part_store.specs.Contents.{is_bare, cell, is_on_row, PartContent}
use Rattle.part_store.specs.Parted.{OnCell, IsKept, Partly, is_store_op}
use Rattle.part_store.specs.Rules.{FrontGoes, Followed, operands_at, word_of, cells_left}
use Rattle.part_store.proofs.Queueing.Keys.{IsOn, cell_cases}
use Rattle.part_store.proofs.Queueing.Fronts as F
use Rattle.part_store.proofs.Queueing.Times as T
use Rattle.part_store.proofs.Queueing.Ops as O
use Rattle.part_store.proofs.Queueing.Cells as C
use Rattle.part_store.proofs.Queueing.Opened as N
use Rattle.part_store.proofs.Queueing.Standing as S
use Rattle.ws_words.specs.Items.{In}

module _ (image : Image) (world : World) (formed : Formed image) (sound : Sound image)
    (began : List (Option Began))
    (c : PartContent) (stopped : Bool) (waiting : ℕ → ℕ → Option (List ℕ)) (counts : ℕ → ℕ → Option ℕ)
    (memory : Outside) (legal : Legal image world counts waiting stopped c.chain memory)
    (p : Partly image world began counts memory c)
    (e : Queued) (fol : FrontGoes c e) (some : List Token) (d : PartContent)
    (go : Followed image c e some d) where
  abbrev facts : WalkFacts image world
  facts = T.facts image world formed sound

  e_in : In e c.queued
  e_in = (F.front_in c.queued e.row e.index e fol.first).0

  abbrev t : ℕ
  t = (p.sits e e_in).0.0

  on : OnCell image world e.wave e.instr e.row e.index t
  on = (p.sits e e_in).0.1

  abbrev a : ℕ
  a = (p.sits e e_in).1.0

  counted : counts e.wave e.instr ≡ Some a
  counted = (p.sits e e_in).1.1

  abbrev k : Kept
  k = go.request

  key_of : SameKey k.wave k.instr e.wave e.instr
  key_of = O.entry_key c.kept e.wave e.instr k go.is_kept

  mem_inst : is_memory image on.inst.instr ≡ true
  mem_inst = ap (is_memory image) on.at.instr ∙ T.row_memory image e.instr e.row on.row

  right_k : RightRequest image world k.wave k.instr (operands_at image k)
  right_k = S.whole_kept _ _ _ _ fol.whole (p.right e.wave e.instr k go.is_kept)

  -- its operands are the walk's
  operands_are : on.inst.operands ≡ operands_at image k
  operands_are =
      let at' : FiresAt image world e.wave e.instr right_k.time right_k.inst = record {
        fires = right_k.at.fires;
        wave = right_k.at.wave ∙ key_of.wave;
        instr = right_k.at.instr ∙ key_of.instr;
      } in
      let q : right_k.time ≡ t = one_time _ _ facts _ _ _ _ _ _ at' on.at in
      ap (λ (x : Inst). x.operands) (same_fired _ _ facts _ _ _ _
      on.at.fires right_k.at.fires (sym q)) ∙ right_k.operands

  memory_is : memory ≡ effect_at image world legal.cut
  memory_is = legal.ordered.memory

  -- what it gives is the walk's result
  result_is : a ≡ on.inst.result
  result_is = let q = S.place_of image world formed sound stopped waiting counts c.chain memory legal e.wave
      e.instr a t e.row e.index counted on in
      q.0.answer ∙ ap (λ (x : Inst). x.result) (same_fired _ _ facts _ _ _ _ q.0.at.fires on.at.fires q.1)

  store_inst : is_store_op (instr_at image e.instr).op ≡ is_store_op (instr_at image on.inst.instr).op
  store_inst = ap (λ (n : ℕ). is_store_op (instr_at image n).op) (sym on.at.instr)

  row_inst : is_on_row (instr_at image on.inst.instr).op e.row ≡ true
  row_inst = ap (λ (n : ℕ). is_on_row (instr_at image n).op e.row) on.at.instr ∙ on.row

  cell_now : cell c.outside.cells e.row e.index ≡ cell (effect_at image world t).cells e.row e.index
  cell_now = p.before e e.row e.index t fol.first on

  word_is : word_of image c e ≡ a
  word_is = elim (cases_Bool (is_store_op (instr_at image e.instr).op)) [
    | inl s ↦ cond-true (is_store_op (instr_at image e.instr).op) _ _ s ∙ sym (result_is ∙ facts.answered t
        on.inst on.at.fires mem_inst ∙ O.answer_store _ _ _ _ (sym store_inst ∙ s))
    | inr s ↦ cond-false (is_store_op (instr_at image e.instr).op) _ _ s ∙ cell_now ∙ ap (cell (effect_at
        image world t).cells e.row) (sym on.index) ∙ sym (result_is ∙ facts.answered t on.inst on.at.fires
        mem_inst ∙ O.answer_load _ _ _ _ _ row_inst (sym store_inst ∙ s))
  ]

  cells_store : is_store_op (instr_at image e.instr).op ≡ true →
      cells_left image c k e ≡ C.stored c.outside.cells e.row e.index k.second
  cells_store s = cond-true (is_store_op (instr_at image e.instr).op) _ _ s

  cells_load : is_store_op (instr_at image e.instr).op ≡ false → cells_left image c k e ≡ c.outside.cells
  cells_load s = cond-false (is_store_op (instr_at image e.instr).op) _ _ s

  shape_left : (r : ℕ) → length (row (cells_left image c k e) r) ≡ length (row memory.cells r)
  shape_left r = grind (arith, cases_Bool, cells_store, C.stored_shape, cells_load)

  rows_left : length (cells_left image c k e) ≡ length memory.cells
  rows_left = grind (arith, cases_Bool, cells_store, C.stored_rows, cells_load)

  off_cell : (r j : ℕ) → (IsOn e r j → ⊥) → cell (cells_left image c k e) r j ≡ cell c.outside.cells r j
  off_cell r j n = grind (arith, cases_Bool, cells_store, C.stored_there, cells_load)

  -- the step of the walk, as a store
  abbrev as_store : is_store_op (instr_at image e.instr).op ≡ true →
      C.StoreAt image world facts e.row e.index t
  as_store s = record {
    inst = on.inst;
    fires = on.at.fires;
    store = sym store_inst ∙ s;
    row = row_inst;
    index = on.index;
  }

  not_store : is_store_op (instr_at image e.instr).op ≡ false → (q l : ℕ) →
      C.StoreAt image world facts q l t → ⊥
  not_store s q l at =
      grind (arith, both_ways, store_inst, same_fired _ _ facts _ _ _ _ on.at.fires at.fires refl)

  -- its cell then has what the walk has after it
  value_left : cell (cells_left image c k e) e.row e.index ≡ cell
      (effect_at image world (suc t)).cells e.row e.index
  value_left = elim (cases_Bool (is_store_op (instr_at image e.instr).op)) [
    | inl s ↦ ap (λ (cs : List (List ℕ)). cell cs e.row e.index) (cells_store s) ∙ ap (λ (n : ℕ). cell
        (C.stored c.outside.cells e.row e.index n) e.row e.index) (sym (ap (λ (ys : List ℕ). slice_index ys 1)
        operands_are ∙ O.second_of image k (ap (λ (n : ℕ). is_store_op (instr_at image n).op) key_of.instr ∙
        s))) ∙ C.store_leaves image world facts t e.row e.index (as_store s) c.outside.cells mem_inst (p.shape
        e.row ∙ ap (λ (o : Outside). length (row o.cells e.row)) memory_is ∙ C.shapes _ _ facts _ _ _)
    | inr s ↦ ap (λ (cs : List (List ℕ)). cell cs e.row e.index) (cells_load s) ∙ cell_now
        ∙ sym (C.between image world facts t (suc t) e.row e.index (omega arith) (λ n x y at.
        let q : n ≡ t = omega (arith, x, y) in
        not_store s e.row e.index (subst (λ (m : ℕ). C.StoreAt image world facts e.row e.index m) q at)))
  ]

  -- all entries of its instance are on its cell
  same_cell_as : (x : Queued) → In x c.queued → SameKey x.wave x.instr e.wave e.instr → IsOn x e.row e.index
  same_cell_as x h key =
      let s = (p.sits x h).0 in
      let x_on : OnCell image world e.wave e.instr x.row x.index s.0 = rw (← key.instr) (rw (← key.wave) s.1)
      in
      let q = T.one_there image world formed sound e.wave e.instr x.row x.index s.0 e.row e.index t x_on on in
      record { row = q.row; index = q.index }

  queued_e : is_queued c.queued e.wave e.instr ≡ true
  queued_e = F.in_queued c.queued e.wave e.instr e e_in (record { wave = refl; instr = refl })

  other_front : (r j : ℕ) → (IsOn e r j → ⊥) →
      front (without c.queued e.wave e.instr) r j ≡ front c.queued r j
  other_front r j n = F.without_other _ _ _ _ _ (λ x h key o. let s = same_cell_as _ h key in
      n (record { row = sym s.row ∙ o.row; index = sym s.index ∙ o.index }))

  still_queued : (w i : ℕ) → is_queued c.queued w i ≡ true → (SameKey e.wave e.instr w i → ⊥) →
      is_queued d.queued w i ≡ true
  still_queued w i q n = grind (arith, F.queued_in, F.in_queued, F.in_without)

  -- what counts on its cell from a later step on is queued still
  later_queued : (w i b u : ℕ) → counts w i ≡ Some b → OnCell image world w i e.row e.index u → t < u →
      (g : Queued) × In g (without c.queued e.wave e.instr) × SameKey g.wave g.instr w i
  later_queued w i b u n there l =
      let q = F.queued_in _ _ _ (p.every e e.row e.index t fol.first on w i b u n there
      (omega (arith, l))) in (
        q.0,
        F.in_without _ _ _ _ q.1 (λ s. let key : SameKey w i e.wave e.instr = record
            { wave = sym q.2.wave ∙ s.wave; instr = sym q.2.instr ∙ s.instr } in
            let there' : OnCell image world e.wave e.instr e.row e.index u = rw (← key.instr) (rw (← key.wave)
            there) in
            let same = T.one_there _ _ formed sound _ _ _ _ _ _ _ _ there' on in
            let z : u ≡ t = same.time in omega (arith, z, l)),
        q.2,
      )

  -- a later store on its cell that is passed is queued still
  store_queued : (m : ℕ) → t < m → m < legal.cut → (s : C.StoreAt image world facts e.row e.index m) →
      (g : Queued) × In g (without c.queued e.wave e.instr) × SameKey g.wave g.instr s.inst.wave s.inst.instr
  store_queued m l h s = later_queued s.inst.wave s.inst.instr s.inst.result m
      (S.passed_counts image world formed sound stopped waiting counts c.chain memory legal e.row e.index m s
      h) (S.store_on image world formed sound stopped waiting counts c.chain memory legal e.row e.index m s) l

  on_at : (g : Queued) (w i u : ℕ) → SameKey g.wave g.instr w i → OnCell image world w i e.row e.index u →
      In g c.queued → IsOn g e.row e.index × OnCell image world g.wave g.instr g.row g.index u
  on_at g w i u key there h =
      let s = (p.sits g h).0 in
      let g_on : OnCell image world w i g.row g.index s.0 = rw (← key.instr) (rw (← key.wave) s.1) in
      let q = T.one_there image world formed sound w i g.row g.index s.0 e.row e.index u g_on there in (
        record { row = q.row; index = q.index },
        rw (← q.time) s.1,
      )

  -- where another is the cell's first entry then, no store on the cell is between
  next_value : (f : Queued) (u : ℕ) → front (without c.queued e.wave e.instr) e.row e.index ≡ Some f →
      OnCell image world f.wave f.instr e.row e.index u → t < u →
      cell (effect_at image world u).cells e.row e.index ≡ cell
      (effect_at image world (suc t)).cells e.row e.index
  next_value f u h f_on l = grind (
    arith,
    C.between image world facts (suc t) u e.row e.index (omega (
      arith,
      l,
    )) (λ m x y s. elim (cases_lt m legal.cut) [
      | inl b ↦ (let q = store_queued m (omega (arith, x)) b s
          in let o = on_at q.0 s.inst.wave s.inst.instr m q.2 (S.store_on image world formed sound stopped
          waiting counts c.chain memory legal e.row e.index m s) (F.without_in e.wave e.instr c.queued q.0
          q.1) in let f_at : OnCell image world f.wave f.instr f.row f.index u = (let z = (F.front_in (without
          c.queued e.wave e.instr) e.row e.index f h).1 in subst (λ (n : ℕ). OnCell image world f.wave f.instr
          f.row n u) (sym z.index) (subst (λ (n : ℕ). OnCell image world f.wave f.instr n e.index u) (sym
          z.row) f_on)) in elim (T.front_first image world formed sound (without c.queued e.wave e.instr)
          e.row e.index f q.0 (T.rising_without image world formed sound e.wave e.instr c.queued p.rising) h
          q.1 o.0) [
            | inl z ↦ (let w : m ≡ u = T.at_once image world formed sound f m u
                (subst (λ (g : Queued). OnCell image world g.wave g.instr g.row g.index m) z o.1) f_at in
                omega (arith, w, y))
            | inr z ↦ (let w : u < m = T.earlier_times image world formed sound f q.0 u m z f_at o.1 in omega
                (arith, w, y))
          ])
      | inr b ↦ (let f_in = F.without_in e.wave e.instr c.queued f (F.front_in (without
          c.queued e.wave e.instr) e.row e.index f h).0 in S.none_before_early image world formed sound
          stopped waiting counts c.chain memory legal f.wave f.instr (p.sits f f_in).1.0 u e.row e.index
          (p.sits f f_in).1.1 f_on e.row e.index m b y s)
    ]),
  )

  -- where none is, the cell has what the passed operations leave
  last_value : front (without c.queued e.wave e.instr) e.row e.index ≡ None →
      cell (effect_at image world (suc t)).cells e.row e.index ≡ cell memory.cells e.row e.index
  last_value h = elim (cases_lt t legal.cut) [
    | inl l ↦ sym (C.between image world facts (suc t) legal.cut e.row e.index (omega (arith, l)) (λ m x y s.
        let q = store_queued m (omega (arith, x)) y s in
        let o = on_at q.0 s.inst.wave s.inst.instr m q.2 (S.store_on image world formed sound stopped waiting
        counts c.chain memory legal e.row e.index m s) (F.without_in e.wave e.instr c.queued q.0 q.1) in
        let g = F.held_in (without c.queued e.wave e.instr) e.row e.index q.0 q.1 o.0 in
        let z : Some g.0 ≡ None = sym g.1 ∙ h in cc))
        ∙ ap (λ (o : Outside). cell o.cells e.row e.index) (sym memory_is)
    | inr l ↦ C.between image world facts legal.cut (suc t) e.row e.index (omega (arith, l))
        (λ m x y s. elim (cases_lt m t) [
          | inl b ↦ S.none_before_early image world formed sound stopped waiting counts c.chain memory legal
              e.wave e.instr a t e.row e.index counted on e.row e.index m x b s
          | inr b ↦ (let q : m ≡ t = omega (arith, y, b) in
              let at' : C.StoreAt image world facts e.row e.index t = rw (← q) s in
              elim (cases_Bool (is_store_op (instr_at image e.instr).op)) [
                | inl z ↦ (let w : t < legal.cut =
                    S.store_passed image world formed sound stopped waiting counts c.chain memory legal e.wave
                    e.instr a t e.row e.index counted z on in omega (arith, w, l))
                | inr z ↦ not_store z e.row e.index at'
              ])
        ]) ∙ ap (λ (o : Outside). cell o.cells e.row e.index) (sym memory_is)
  ]

  abbrev k' : Kept
  k' = record {
    wave = e.wave;
    instr = e.instr;
    first = go.request.first;
    second = go.request.second;
    answer = Some (word_of image c e);
  }

  entry_cases : (w i : ℕ) → (SameKey e.wave e.instr w i × (entry_of d.kept w i ≡ Some k')) ⊎
      ((SameKey e.wave e.instr w i → ⊥) × (entry_of d.kept w i ≡ entry_of c.kept w i))
  entry_cases w i = grind (arith, with_key_cases)

  is_kept_so : (b : Bool) → IsKept image world b k → IsKept image world b k'
  is_kept_so b h = subst (λ (n : ℕ). IsKept image world b (record {
    wave = e.wave;
    instr = n;
    first = go.request.first;
    second = go.request.second;
    answer = Some (word_of image c e);
  })) key_of.instr (rw (← key_of.wave) (S.kept_alike image world b k (Some (word_of image c e)) h))

  new_right : (w i : ℕ) (x : Kept) → entry_of d.kept w i ≡ Some x → IsKept image world (is_bare d w i) x
  new_right w i x h = grind (arith, entry_cases w i, is_kept_so)

  count_at : (w i : ℕ) → SameKey e.wave e.instr w i → counts w i ≡ Some a
  count_at w i key = grind (arith, counted)

  new_same : (w i : ℕ) → has (counts w i) ≡ has (issued_in d.kept w i)
  new_same w i = grind (arith, entry_cases, count_at)

  new_told : (w i b : ℕ) → is_queued d.queued w i ≡ false → issued_in d.kept w i ≡ Some b →
      counts w i ≡ Some b
  new_told w i b n h = elim (entry_cases w i) [
    | inl z ↦ count_at _ _ z.0 ∙ ap (λ (m : ℕ). Some m) (sym word_is) ∙ sym (ap answer_if z.1) ∙ h
    | inr z ↦ p.told w i b (elim (cases_Bool (is_queued c.queued w i)) [
      | inl q ↦ absurd (both_ways (is_queued
          d.queued w i) n (still_queued w i q z.0))
      | inr q ↦ q
    ]) (sym (ap answer_if z.1) ∙ h)
  ]

  -- it isn't bare
  new_opened : (w i b : ℕ) → counts w i ≡ Some b → is_bare d w i ≡ true → is_queued d.queued w i ≡ true
  new_opened w i b n h = elim (entry_cases w i) [
    | inl z ↦ absurd (both_ways (is_bare c e.wave e.instr) fol.whole (rw z.0.instr (rw z.0.wave (sym (go.bare
        w i) ∙ h))))
    | inr z ↦ still_queued w i (p.opened w i b n (sym (go.bare w i) ∙ h)) z.0
  ]

  in_left : (x : Queued) → In x d.queued → In x c.queued
  in_left x h = F.without_in e.wave e.instr c.queued x (subst (λ (es : List Queued). In x es) go.queued h)

  front_left : (r j : ℕ) (f : Queued) → front d.queued r j ≡ Some f →
      front (without c.queued e.wave e.instr) r j ≡ Some f
  front_left r j f h = subst (λ (es : List Queued). front es r j ≡ Some f) go.queued h

  -- a first entry on its cell comes later
  then_later : (r j u : ℕ) (f : Queued) → IsOn e r j → front d.queued r j ≡ Some f →
      OnCell image world f.wave f.instr r j u → t < u
  then_later r j u f o h f_on =
      let g : front (without c.queued e.wave e.instr) r j ≡ Some f = front_left r j f h in
      let i = F.front_in (without c.queued e.wave e.instr) r j f g in
      let h0 : front c.queued r j ≡ Some e = rw (← o.index) (rw (← o.row) fol.first) in
      let f_at : OnCell image world f.wave f.instr f.row f.index u = rw i.1.index (rw i.1.row f_on) in
      elim (T.front_first image world formed sound c.queued r j e f p.rising h0
      (F.without_in e.wave e.instr c.queued f i.0) i.1) [
        | inl q ↦ absurd (T.gone image world formed sound e.wave e.instr c.queued p.rising f i.0 (rw q (record
            { wave = refl; instr = refl })))
        | inr q ↦ T.earlier_times image world formed sound e f t u q on f_at
      ]

  off_front : (r j : ℕ) (f : Queued) → (IsOn e r j → ⊥) → front d.queued r j ≡ Some f →
      front c.queued r j ≡ Some f
  off_front r j f n h = sym (other_front r j n) ∙ front_left r j f h

  other_instance : (w i r j u : ℕ) → (IsOn e r j → ⊥) → OnCell image world w i r j u →
      SameKey e.wave e.instr w i → ⊥
  other_instance w i r j u n there key =
      let there' : OnCell image world e.wave e.instr r j u = rw key.instr (rw key.wave there) in
      let q = T.one_there image world formed sound e.wave e.instr e.row e.index t r j u on there' in
      n (record { row = q.row; index = q.index })

  at_e : (r j u w i : ℕ) → IsOn e r j → OnCell image world w i r j u → OnCell image world w i e.row e.index u
  at_e r j u w i o there = grind arith

  new_cells : (r j : ℕ) → cell d.outside.cells r j ≡ cell (cells_left image c k e) r j
  new_cells r j = ap (λ (cs : List (List ℕ)). cell cs r j) go.cells

  value_at : (r j : ℕ) → IsOn e r j → cell d.outside.cells r j ≡ cell
      (effect_at image world (suc t)).cells r j
  value_at r j o = grind (arith, new_cells, value_left)

  pub follows : Partly image world began counts memory d
  follows = record {
    right = new_right;
    same = new_same;
    told = new_told;
    opened = new_opened;
    sits = λ x h. p.sits x (in_left x h);
    numbered = λ x h. p.numbered x (in_left x h);
    rising = rw go.queued (T.rising_without image world formed sound e.wave e.instr c.queued p.rising);
    every = λ f r j u h f_on w i b v n there l. elim (cell_cases e r j) [
      | inl z ↦ (let m : t < u = then_later r j u f z.1 h f_on in
          let q = later_queued w i b v n (at_e r j v w i z.1 there) (omega (arith, m, l)) in
          rw go.queued (F.in_queued (without c.queued e.wave e.instr) w i q.0 q.1 q.2))
      | inr z ↦ still_queued w i (p.every f r j u (off_front r j f z.1 h) f_on w i b v n there l)
          (other_instance w i r j v z.1 there)
    ];
    few = (let a1 : open_queues (without c.queued e.wave e.instr) ≤ open_queues c.queued = N.fewer_open e.wave
        e.instr e.row e.index c.queued queued_e same_cell_as in
        let b1 : open_queues c.queued ≤ 16 = p.few in
        rw go.queued (omega (arith, a1, b1)));
    free = λ r j n. elim (cell_cases e r j) [
      | inl z ↦ value_at r j z.1 ∙ rw (← z.1.index) (rw (← z.1.row) (last_value (O.no_more (front (without
          c.queued e.wave
          e.instr) e.row e.index) (front [] e.row e.index) (rw z.1.index (rw z.1.row (rw (← go.queued) n)))
          refl)))
      | inr z ↦ new_cells r j ∙ off_cell r j z.1 ∙ p.free r j (ap has (sym (other_front r j z.1)) ∙ rw (←
          go.queued) n)
    ];
    before = λ f r j u h f_on. elim (cell_cases e r j) [
      | inl z ↦ (let m : t < u = then_later r j u f z.1 h f_on in
          let g : front (without c.queued e.wave e.instr) e.row e.index ≡ Some f = rw z.1.index (rw z.1.row
          (front_left r j f h)) in
          value_at r j z.1 ∙ sym (rw (← z.1.index) (rw (← z.1.row) (next_value f u g (at_e r j u f.wave
          f.instr z.1 f_on) m))))
      | inr z ↦ new_cells r j ∙ off_cell r j z.1 ∙ p.before f r j u (off_front r j f z.1 h) f_on
    ];
    rows = ap (λ (cs : List (List ℕ)). length cs) go.cells ∙ rows_left;
    shape = λ r. ap (λ (cs : List (List ℕ)). length (row cs r)) go.cells ∙ shape_left r;
    outside = record {
      cells_are = refl;
      input_is = p.outside.input_is ∙ sym go.input;
      printed_are = p.outside.printed_are ∙ sym go.printed;
      slots_are = λ slot l m. rw go.ports (p.outside.slots_are slot l m);
    };
  }

  -- and what it sends is right
  pub sent_right : RightTokens image world some
  sent_right w i q v h = facts.sent t on.inst on.at.fires w i q v
      (subst (λ (x : ℕ × ℕ × List ℕ × ℕ). IsSent (sends image x.0 x.1 x.2 x.3) w i q v)
      (λ n. (sym on.at.wave n, sym on.at.instr n, sym operands_are n, (word_is ∙ result_is) n))
      (subst (λ (ts : List Token). IsSent ts w i q v) go.tokens_are h))
