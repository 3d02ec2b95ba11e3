-- Where a table and a buffer owe nothing, every instance of the walk has fired and every operation is done.
use Rattle.std.proofs.Common.{ℕ, zero, suc, ◌≡◌, ◌<◌, ◌≤◌, ◌⊎◌, Bool, true, false, List, [], ◌∷◌, length}
use Rattle.std.proofs.Common.{Option, Some, None, refl, sym, ap, ◌∙◌, subst, inl, inr, arith}
use Rattle.std.proofs.lemmas.Bool.{both_ways, cases_Bool, cases_lt}
use Rattle.ws_words.specs.Outside.{World}
use Rattle.ws_isa.specs.Image.{Image, ports, is_memory, is_load, note_of, result_of, sends}
use Rattle.ws_isa.specs.Formed.{Formed}
use Rattle.ws_isa.specs.Walk.{Inst, fires}
use Rattle.ws_isa.specs.Operations.{NoFault}
use Rattle.ws_isa.specs.Sound.{Sound}
use Rattle.df_core.specs.Core.{Chain, HasFired, IsNext, IsSent, operands_in}
use Rattle.df_core.specs.Fit.{FiresAt, IsEarly, IssuedOp, NoOp, NoWrite, chain_at}
use Rattle.df_core.specs.Shown.{Tables, TablesOk}
use Rattle.df_core.proofs.Walked.Facts.{WalkFacts}
use Rattle.df_core.proofs.Keeping.MatchKept.{right_operands, same_inst}
use Rattle.df_core.proofs.Walked.Past.{past_is, plain_within}
use Rattle.df_core.proofs.Walked.Pauses.{chain_same, load_quiet}
use Rattle.df_core.specs.Began.{Began}
use Rattle.df_core.specs.Rights.{IsAsked, operands_of}
use Rattle.store_buf.specs.declared.kept.Kept.{Kept}
use Rattle.store_buf.specs.Requests.{entry_of, issued_in, answer_if}
use Rattle.store_buf.specs.Runs.{AllReach}
use Rattle.store_buf.specs.Stores.{asked_of}
use Rattle.store_buf.proofs.Reaching.{reach_none}
use Rattle.df_core.proofs.Keeping.Settling.{one_time}
use Rattle.part_store.specs.declared.entry.Queued.{Queued}
use Rattle.part_store.specs.Queues.{front, is_queued}
use Rattle.part_store.specs.Contents.{is_bare, PartContent}
use Rattle.part_store.specs.Parted.{Fronts, IsKept, Parting}
use Rattle.part_store.specs.Rules.{NoRule, is_past_at, operands_at}
use Rattle.part_store.specs.Runs.{Paid}
use Rattle.part_store.proofs.Queueing.Fronts as F
use Rattle.part_store.proofs.Queueing.Ops as O
use Rattle.part_store.proofs.Queueing.Times as T
use Rattle.ws_isa.proofs.Images.{writing_memory}
use Rattle.ws_words.specs.Items.{nth, In}
use Rattle.ws_words.proofs.Places.{nth_there}

module _ (image : Image) (world : World) (formed : Formed image) (sound : Sound image)
    (began : List (Option Began)) (c : PartContent) (s : Parting image world began c) (fronts : Fronts c)
    (none : NoRule image c) (going : c.fault ≡ None) (t : Tables) (tok : TablesOk image world t)
    (paid : Paid image t c []) where
  abbrev facts : WalkFacts image world
  facts = T.facts image world formed sound

  abbrev cut : ℕ
  cut = s.legal.cut

  -- the instance has fired, and if it is one of memory it is done
  pub record IsDone (x : Inst) : Type 0 where
    pub fired : HasFired t.fired x.wave x.instr
    pub counted : is_memory image x.instr ≡ true → (a : ℕ) × (s.counts x.wave x.instr ≡ Some a)
    pub left : is_memory image x.instr ≡ true → is_queued c.queued x.wave x.instr ≡ false

  abbrev DoneBelow : ℕ → Type 0
  DoneBelow u = (k : ℕ) (y : Inst) → k < u → fires image world k ≡ Some y → IsDone y

  -- the request of a memory instance that has fired
  record Asked (x : Inst) : Type 0 where
    kept : Kept
    entry : entry_of c.kept x.wave x.instr ≡ Some kept
    whole : is_bare c x.wave x.instr ≡ false
    wave : kept.wave ≡ x.wave
    instr : kept.instr ≡ x.instr
    operands : operands_at image kept ≡ x.operands

  asked : (u : ℕ) (x : Inst) → fires image world u ≡ Some x → is_memory image x.instr ≡ true →
      HasFired t.fired x.wave x.instr → Asked x
  asked u x fx m f =
      let h = paid.asked x.wave x.instr f m in
      let key = O.entry_key c.kept x.wave x.instr h.0 h.1 in
      let r : IsAsked image world (asked_of h.0) =
      subst (λ (b : Bool). IsKept image world b h.0) h.2 (s.partly.right x.wave x.instr h.0 h.1) in
      let same : r.inst ≡ x = same_inst image world facts h.0.wave h.0.instr r.time u r.inst x r.at
      (record { fires = fx; wave = sym key.wave; instr = sym key.instr }) in
      record {
        kept = h.0;
        entry = h.1;
        whole = h.2;
        wave = key.wave;
        instr = key.instr;
        operands = sym r.operands ∙ ap (λ (y : Inst). y.operands) same;
      }

  counts_at : (u : ℕ) (x : Inst) → fires image world u ≡ Some x → (a : ℕ) → s.counts x.wave x.instr ≡ Some a →
      a ≡ x.result
  counts_at u x fx a e =
      let op = s.legal.ordered.others x.wave x.instr a e in
      op.answer ∙ ap (λ (y : Inst). y.result) (same_inst _ _ facts _ _ _ _ _ _ op.at (record
      { fires = fx; wave = refl; instr = refl }))

  -- what a done instance has sent has come
  sent_come : (u : ℕ) (x : Inst) → fires image world u ≡ Some x → IsDone x → (w i p v : ℕ) →
      IsSent (sends image x.wave x.instr x.operands x.result) w i p v → (n : ℕ) × (t.held w i p ≡ Some n)
  sent_come u x fx d w i p v h = elim (cases_Bool (is_memory image x.instr)) [
    | inl m ↦ (let k = asked _ _ fx m d.fired in
        let e = d.counted m in
        let a = O.some_more _ _ _ (sym (s.partly.same x.wave x.instr)) e.1 in
        let answer : k.kept.answer ≡ Some a.0 = sym (ap answer_if k.entry) ∙ a.1 in
        let result : a.0 ≡ x.result = counts_at _ _ fx _ (s.partly.told x.wave x.instr a.0 (d.left m) a.1) in
        let ops : operands_of (ports image x.instr) k.kept.first k.kept.second ≡ x.operands = ap (λ (n : ℕ).
        operands_of (ports image n) k.kept.first k.kept.second) (sym k.instr) ∙ k.operands in
        let all : AllReach t.held [] (sends image x.wave x.instr x.operands x.result) = subst (λ (q : List ℕ ×
        ℕ). AllReach t.held [] (sends image x.wave x.instr q.0 q.1)) (λ j. (ops j, result j)) (paid.answered
        (sends image x.wave x.instr (operands_of (ports image x.instr) k.kept.first k.kept.second) a.0)
        (x.wave, x.instr, a.0, k.kept, k.entry, answer, d.left m, refl)) in
        reach_none _ _ all _ _ _ _ h)
    | inr m ↦ (let ops : operands_in image t.held x.wave x.instr ≡ x.operands = right_operands image world
        facts t.held x.wave x.instr u x (record { fires = fx; wave = refl; instr = refl }) (tok.right x.wave
        x.instr) (tok.fired_full x.wave x.instr d.fired).1 in
        let all : AllReach t.held [] (sends image x.wave x.instr x.operands (result_of image x.instr
        x.operands)) = subst (λ (xs : List ℕ). AllReach t.held [] (sends image x.wave x.instr xs (result_of
        image x.instr xs))) ops (paid.told x.wave x.instr d.fired m) in
        let all' : AllReach t.held [] (sends image x.wave x.instr x.operands x.result) = subst (λ (n : ℕ).
        AllReach t.held [] (sends image x.wave x.instr x.operands n)) (sym (facts.plain u x fx m)) all in
        reach_none _ _ all' _ _ _ _ h)
  ]

  has_fired : (u : ℕ) (x : Inst) → DoneBelow u → fires image world u ≡ Some x →
      HasFired t.fired x.wave x.instr
  has_fired u x below fx = tok.full_fired x.wave x.instr (facts.has_port u x fx) (λ p l.
      let len : length x.operands ≡ ports image x.instr = facts.filled u x fx in
      let n : (v : ℕ) × (nth x.operands p ≡ Some v) = nth_there x.operands p (omega (arith, l, len)) in
      elim (facts.made u x fx p n.0 n.1) [
        | inl h ↦ reach_none t.held _ paid.start x.wave x.instr p n.0 h
        | inr m ↦ sent_come _ _ m.fires (below m.time m.inst m.earlier m.fires) _ _ _ _ m.sent
      ])

  -- a queue's entry is an operation of the walk
  sat : (e : Queued) → In e c.queued → (u : ℕ) × (x : Inst) × FiresAt image world e.wave e.instr u x ×
      (is_memory image x.instr ≡ true)
  sat e i =
      let on = (s.partly.sits e i).0 in (
        on.0,
        on.1.inst,
        on.1.at,
        ap (is_memory image) on.1.at.instr ∙ T.row_memory image e.instr e.row on.1.row,
      )

  -- and isn't done
  not_left : (e : Queued) → In e c.queued → (x : Inst) → x.wave ≡ e.wave → x.instr ≡ e.instr →
      is_queued c.queued x.wave x.instr ≡ false → ⊥
  not_left e i x ew ei f = grind (arith, both_ways, F.in_queued)

  -- what waits in a queue before the cut isn't done
  none_before : (u : ℕ) → DoneBelow u → (e : Queued) → In e c.queued → (n : ℕ) (x : Inst) →
      FiresAt image world e.wave e.instr n x → n < u → ⊥
  none_before u below e i n x at l =
      let m : is_memory image x.instr ≡ true =
      (let h = sat e i in ap (is_memory image) (at.instr ∙ sym h.2.instr) ∙ h.3) in
      not_left e i x at.wave at.instr ((below n x l at.fires).left m)

  -- a store is no load
  bare_store : (e : Queued) → In e c.queued → is_bare c e.wave e.instr ≡ true → is_load image e.instr ≡ false
  bare_store e i b =
      let a = (s.partly.sits e i).1 in
      let n = O.some_more _ _ _ (sym (s.partly.same e.wave e.instr)) a.1 in
      let k = entry_there (entry_of c.kept e.wave e.instr) refl n.0 n.1 in
      let key = O.entry_key c.kept e.wave e.instr k.0 k.1 in
      let r = subst (λ (v : Bool). IsKept image world v k.0) b (s.partly.right e.wave e.instr k.0 k.1) in
      ap (is_load image) (sym key.instr) ∙ O.store_no_load image k.0.instr r.store
    where
      entry_there : (o : Option Kept) → entry_of c.kept e.wave e.instr ≡ o → (n : ℕ) →
          issued_in c.kept e.wave e.instr ≡ Some n → (k : Kept) × (entry_of c.kept e.wave e.instr ≡ Some k)
      entry_there o g n h = grind arith

  -- where all before the cut are done no queue is open
  no_queue : (u : ℕ) → DoneBelow u → cut ≤ u → c.queued ≡ []
  no_queue u below l = first c.queued refl
    where
      first : (es : List Queued) → c.queued ≡ es → c.queued ≡ []
      first [] g = g
      first (e ∷ es) g =
          let i : In e c.queued = rw g (inl refl) in
          let f : front c.queued e.row e.index ≡ Some e = rw g (F.front_here e es e.row e.index (record
          { row = refl; index = refl })) in
          let store = bare_store e i (fronts e e.row e.index f) in
          let a = (s.partly.sits e i).1 in
          let op : IssuedOp image world cut e.wave e.instr a.0 =
          s.legal.ordered.others e.wave e.instr a.0 a.1 in
          elim op.place [
            | inl before ↦ absurd (none_before u below e i op.time op.inst op.at (omega (arith, before, l)))
            | inr early ↦ absurd (both_ways (is_load image op.inst.instr)
                (ap (is_load image) op.at.instr ∙ store) early.1.load)
          ]

  no_op : (u : ℕ) → DoneBelow u → (n : ℕ) → n ≤ u → NoOp image world cut n
  no_op u below zero l k x a b fx mx = absurd (omega (arith, b))
  no_op u below (suc n) l k x a b fx mx = elim (cases_lt k n) [
    | inl h ↦ no_op u below n (omega (arith, l)) k x a h fx mx
    | inr h ↦ (let quiet : NoOp image world cut k =
        λ k' y a' b'. no_op u below n (omega (arith, l)) k' y a' (omega (arith, b', b)) in
        let q : chain_at image world k ≡ c.chain = chain_same _ _ _ _ a quiet ∙ sym s.legal.ordered.chain in
        let i : (m : ℕ) × (s.counts x.wave x.instr ≡ Some m) =
        (below k x (omega (arith, l, b)) fx).counted mx in
        let wv : x.wave ≡ c.chain.wave = facts.turn_wave k x fx mx ∙ ap (λ (d : Chain). d.wave) q in
        absurd (s.legal.settled x.instr i.0 (subst (λ (m : ℕ). s.counts m x.instr ≡ Some i.0) wv i.1)
        (subst (λ (d : Chain). IsNext d (note_of image x.instr)) q (facts.turn k x fx mx))))
  ]

  -- a request that waits and is next goes, or stops the chain
  no_wait : (u : ℕ) (x : Inst) → DoneBelow u → fires image world u ≡ Some x → is_memory image x.instr ≡ true →
      cut ≤ u → Asked x → s.counts x.wave x.instr ≡ None → ⊥
  no_wait u x below fx mx l k fresh =
      let q : chain_at image world u ≡ c.chain =
      chain_same image world cut u l (no_op u below u (omega arith)) ∙ sym s.legal.ordered.chain in
      let current : k.kept.wave ≡ c.chain.wave = k.wave ∙ facts.turn_wave u x fx mx
      ∙ ap (λ (d : Chain). d.wave) q in
      let next : IsNext c.chain (note_of image k.kept.instr) =
      subst (λ (n : ℕ). IsNext c.chain (note_of image n)) (sym k.instr)
      (subst (λ (d : Chain). IsNext d (note_of image x.instr)) q (facts.turn u x fx mx)) in
      let none_issued : issued_in c.kept x.wave x.instr ≡ None =
      O.no_more (issued_in c.kept x.wave x.instr) (s.counts x.wave x.instr)
      (sym (s.partly.same x.wave x.instr)) fresh in
      let unanswered : k.kept.answer ≡ None = sym (ap answer_if k.entry) ∙ none_issued in
      let entry : entry_of c.kept k.kept.wave k.kept.instr ≡ Some k.kept =
      subst (λ (m : ℕ × ℕ). entry_of c.kept m.0 m.1 ≡ Some k.kept)
      (λ j. (sym k.wave j, sym k.instr j)) k.entry in
      let whole : is_bare c k.kept.wave k.kept.instr ≡ false =
      subst (λ (m : ℕ × ℕ). is_bare c m.0 m.1 ≡ false) (λ j. (sym k.wave j, sym k.instr j)) k.whole in
      elim (cases_Bool (is_past_at image k.kept)) [
        | inl past ↦ none.faults k.kept (record {
          waits = record { kept = entry; waits = unanswered; bare_is = whole };
          current = current;
          next = next;
          past = past;
          going = going;
          none = no_queue u below l;
        })
        | inr within ↦ none.goes k.kept (grind arith)
      ]

  has_counted : (u : ℕ) (x : Inst) → DoneBelow u → fires image world u ≡ Some x →
      is_memory image x.instr ≡ true → (o : Option ℕ) → s.counts x.wave x.instr ≡ o →
      (a : ℕ) × (s.counts x.wave x.instr ≡ Some a)
  has_counted u x below fx mx (Some a) e = (a, e)
  has_counted u x below fx mx None e =
      grind (arith, cases_lt u cut, no_wait, asked u x fx mx (has_fired u x below fx), has_fired u x below fx)

  -- a whole request isn't the first of a queue, and those before it are done
  has_left : (u : ℕ) (x : Inst) → DoneBelow u → fires image world u ≡ Some x →
      is_memory image x.instr ≡ true → is_queued c.queued x.wave x.instr ≡ false
  has_left u x below fx mx = elim (cases_Bool (is_queued c.queued x.wave x.instr)) [
    | inr q ↦ q
    | inl q ↦ (let e = F.queued_in c.queued x.wave x.instr q in
        let on = (s.partly.sits e.0 e.1).0 in
        let time : on.0 ≡ u = one_time image world facts e.0.wave e.0.instr on.0 u on.1.inst x on.1.at
        (record { fires = fx; wave = sym e.2.wave; instr = sym e.2.instr }) in
        let f = F.held_in c.queued e.0.row e.0.index e.0 e.1 (record { row = refl; index = refl }) in
        let fi = F.front_in c.queued e.0.row e.0.index f.0 f.1 in
        let bare = fronts f.0 e.0.row e.0.index f.1 in
        let whole = (asked u x fx mx (has_fired u x below fx)).whole in
        absurd (elim (T.front_first image world formed sound c.queued e.0.row e.0.index f.0 e.0
        s.partly.rising f.1 e.1 (record { row = refl; index = refl })) [
          | inl same ↦ both_ways (is_bare c x.wave x.instr) whole (subst (λ (m : ℕ × ℕ). is_bare c m.0 m.1 ≡
              true) (λ j. (e.2.wave j, e.2.instr j)) (rw same bare))
          | inr early ↦ (let sf = (s.partly.sits f.0 fi.0).0 in
              let l = T.earlier_times image world formed sound f.0 e.0 sf.0 on.0 early sf.1 on.1 in
              none_before u below f.0 fi.0 sf.0 sf.1.inst sf.1.at (omega (arith, l, time)))
        ]))
  ]

  done_step : (u : ℕ) (x : Inst) → DoneBelow u → fires image world u ≡ Some x → IsDone x
  done_step u x below fx = record {
    fired = has_fired u x below fx;
    counted = λ mx. has_counted u x below fx mx (s.counts x.wave x.instr) refl;
    left = λ mx. has_left u x below fx mx;
  }

  done_below : (u k : ℕ) (x : Inst) → k < u → fires image world k ≡ Some x → IsDone x
  done_below zero k x l fx = absurd (omega (arith, l))
  done_below (suc u) k x l fx = done_step k x (λ j y l' fy. done_below u j y (omega (arith, l, l')) fy) fx

  pub all_done : (u : ℕ) (x : Inst) → fires image world u ≡ Some x → IsDone x
  all_done u x fx = done_below (suc u) u x (omega arith) fx

  pub none_queued : c.queued ≡ []
  none_queued = no_queue cut (λ k y l fy. all_done k y fy) (omega arith)

  counted_place : (u : ℕ) (x : Inst) → fires image world u ≡ Some x → is_memory image x.instr ≡ true →
      (u < cut) ⊎ ((cut ≤ u) × IsEarly image world cut u x)
  counted_place u x fx mx =
      let a = (all_done _ _ fx).counted mx in
      let op : IssuedOp image world cut x.wave x.instr a.0 = s.legal.ordered.others x.wave x.instr a.0 a.1 in
      let at : FiresAt image world x.wave x.instr u x = record { fires = fx; wave = refl; instr = refl } in
      subst (λ (k : ℕ × Inst). (k.0 < cut) ⊎ ((cut ≤ k.0) × IsEarly image world cut k.0 k.1)) (λ j. (
        one_time _ _ facts _ _ _ _ _ _ op.at at j,
        same_inst _ _ facts _ _ _ _ _ _ op.at at j,
      )) op.place

  pub no_fault : NoFault image world
  no_fault u x fx = past_is image x ∙ elim (cases_Bool (is_memory image x.instr)) [
    | inl mx ↦ elim (counted_place u x fx mx) [
      | inl l ↦ s.legal.ordered.within u x l fx mx
      | inr e ↦ e.1.within
    ]
    | inr mx ↦ plain_within image x.instr x.operands mx
  ]

  -- behind the cut nothing is written
  pub no_write : (u : ℕ) → NoWrite image world cut u
  no_write u k x a b fx w = grind (arith, counted_place, writing_memory, both_ways, load_quiet)
