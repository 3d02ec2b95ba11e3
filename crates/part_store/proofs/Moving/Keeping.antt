-- Each move keeps what is true of a buffer with queues.
use Rattle.std.proofs.Common.{ℕ, ◌-◌, ◌≡◌, ◌<◌, ◌≤◌, ◌⊎◌, Bool, true, false, List, [], ◌∷◌, ◌++◌, Option}
use Rattle.std.proofs.Common.{Some, None, slice_index, refl, sym, ap, ◌∙◌, inl, inr, arith}
use Rattle.std.proofs.lemmas.Bool.{both_ways, cases_lt}
use Rattle.ws_words.specs.Outside.{Outside, World}
use Rattle.ws_isa.specs.Image.{Image, Token, instr_at, array_at, is_past, note_of, sends}
use Rattle.ws_isa.specs.Formed.{Formed}
use Rattle.ws_isa.specs.Sound.{Sound}
use Rattle.df_core.specs.Effect.{effect_after}
use Rattle.df_core.specs.Core.{Issuable, IsNext, IsSent, has, issued_with}
use Rattle.df_core.specs.Fit.{Legal, RightRequest}
use Rattle.df_core.proofs.Walked.Facts.{WalkFacts}
use Rattle.df_core.proofs.Keeping.BufferKept as B
use Rattle.df_core.proofs.Walked.Pauses.{mem_same, no_op_no_write}
use Rattle.df_core.specs.Began.{Began}
use Rattle.store_buf.specs.declared.kept.Kept.{Kept}
use Rattle.store_buf.specs.Requests.{entry_of, issued_in, answer_if}
use Rattle.store_buf.specs.Outdoors.{Holding, HoldsOut, Performed}
use Rattle.store_buf.specs.Contents.{RightTokens, FaultIs}
use Rattle.part_store.specs.declared.entry.Queued.{Queued}
use Rattle.part_store.specs.Queues.{front, holds, joined, open_queues}
use Rattle.part_store.specs.Contents.{is_bare, asking, cell, is_on_row, holds_op, PartContent}
use Rattle.part_store.specs.Parted.{OnCell, Earlier, IsAddressed, Partly, Parting, Fronts, is_store_op}
use Rattle.part_store.specs.Rules.{OpensQueue, GoesByChain, FrontGoes, Faults, Waits, Counted, Followed}
use Rattle.part_store.specs.Rules.{Moves, stays, opens, joins, issues, follows, stops, operands_at, entry_at}
use Rattle.part_store.specs.Rules.{is_past_at}
use Rattle.part_store.proofs.Queueing.Keys.{IsOn, cell_cases}
use Rattle.part_store.proofs.Queueing.Fronts as F
use Rattle.part_store.proofs.Queueing.Times as T
use Rattle.part_store.proofs.Queueing.Ops as O
use Rattle.part_store.proofs.Queueing.Opened as N
use Rattle.part_store.proofs.Queueing.Standing as S
use Rattle.part_store.proofs.Moving.Joining as J
use Rattle.part_store.proofs.Moving.Following as W
use Rattle.part_store.proofs.Moving.Issuing as I
use Rattle.df_core.proofs.Keeping.Ports.{has_some}

module _ (image : Image) (world : World) (formed : Formed image) (sound : Sound image)
    (began : List (Option Began)) where
  abbrev facts : WalkFacts image world
  facts = T.facts image world formed sound

  module _ (c : PartContent) (s : Parting image world began c) (going : c.fault ≡ None) where
    pub legal : Legal image world s.counts (asking image c) false c.chain s.memory
    legal = grind arith

    module _ (k : Kept) (bare : Bool) (w : Waits c k bare) where
      fresh : s.counts k.wave k.instr ≡ None
      fresh = grind arith

      pub may_next : k.wave ≡ c.chain.wave → IsNext c.chain (note_of image k.instr) → (xs : List ℕ) →
          Issuable image s.counts c.chain false k.wave k.instr xs
      may_next current next xs = record { going = refl; current = current; fresh = fresh; turn = inl next }

      -- it counts as issued, and the rest is legal
      module _ (xs : List ℕ) (req : RightRequest image world k.wave k.instr xs)
          (may : Issuable image s.counts c.chain false k.wave k.instr xs)
          (first_is : slice_index xs 0 ≡ k.first) (within : is_past_at image k ≡ false)
          (word : ℕ) (queued : List Queued) (left : Holding) (d : PartContent)
          (go : Counted image c k word queued left d)
          (same : (v i : ℕ) → has (issued_with image s.counts s.memory k.wave k.instr xs v i) ≡ has
          (issued_in d.kept v i))
          (partly : Partly image world began (issued_with image s.counts s.memory k.wave k.instr xs)
          (effect_after image k.instr xs s.memory) d) where
        counted : Parting image world began d
        counted = record {
          counts = issued_with image s.counts s.memory k.wave k.instr xs;
          memory = effect_after image k.instr xs s.memory;
          legal = rw (ap has (go.fault ∙ going)) (B.new_legal image world facts s.counts c.chain false
              s.memory legal.settled k.wave k.instr xs may req.time req.inst req.at req.operands req.memory
              legal.cut legal.ordered (O.past_is image k xs first_is ∙ within) (asking image d) d.chain
              (O.passes_alike image (issued_in d.kept) (issued_with image s.counts s.memory k.wave k.instr xs)
              same c.chain d.chain go.passed));
          partly = partly;
          fault = rw (go.fault ∙ going) tt;
          quiet = λ e. absurd (both_ways (has d.fault) (ap has (go.fault ∙ going)) e);
        }

    -- the row and the first entry on the cell of a load or store
    held_front : (k : Kept) → is_on_row (instr_at image k.instr).op (array_at image k.instr - 1) ≡ true →
        holds_op c.queued (instr_at image k.instr).op k.first ≡ true →
        (e : Queued) × (front c.queued (array_at image k.instr - 1) k.first ≡ Some e)
    held_front k row h = grind (arith, has_some, both_ways)

    -- the operation joins a queue, behind its first entry, which is a store without data
    module _ (fronts : Fronts c) (k : Kept) (bare : Bool) (w : Waits c k bare) (xs : List ℕ)
        (req : RightRequest image world k.wave k.instr xs)
        (may : Issuable image s.counts c.chain false k.wave k.instr xs)
        (row : is_on_row (instr_at image k.instr).op (array_at image k.instr - 1) ≡ true)
        (first_is : slice_index xs 0 ≡ k.first) (within : is_past_at image k ≡ false)
        (d : PartContent) (go : Counted image c k 0 (joined (entry_at image k) c.queued) c.outside d) where
      abbrev f : Queued
      f = record {
        wave = k.wave;
        instr = k.instr;
        seq = (note_of image k.instr).seq;
        row = array_at image k.instr - 1;
        index = k.first;
      }

      here : OnCell image world k.wave k.instr (array_at image k.instr - 1) k.first req.time
      here = grind arith

      -- the first entry on its cell comes before it
      behind : (e : Queued) → front c.queued (array_at image k.instr - 1) k.first ≡ Some e →
          Earlier image world e f
      behind e h =
          let i = F.front_in c.queued (array_at image k.instr - 1) k.first e h in
          let q = s.partly.sits e i.0 in
          let b : is_bare c e.wave e.instr ≡ true = fronts e (array_at image k.instr - 1) k.first h in
          let n = O.some_more (issued_in c.kept e.wave e.instr) (s.counts e.wave e.instr) q.1.0
          (sym (s.partly.same e.wave e.instr)) q.1.1 in
          let kept : (x : Kept) × (entry_of c.kept e.wave e.instr ≡ Some x) =
          has_entry (entry_of c.kept e.wave e.instr) n.0 n.1 in
          let ad : IsAddressed image world kept.0.wave kept.0.instr kept.0.first = S.bare_kept image world
          (is_bare c e.wave e.instr) kept.0 b (s.partly.right e.wave e.instr kept.0 kept.1) in
          let key = O.entry_key c.kept e.wave e.instr kept.0 kept.1 in
          let st : is_store_op (instr_at image e.instr).op ≡ true = rw (← key.instr) ad.store in
          let l : q.0.0 < legal.cut = S.store_passed image world formed sound false (asking image c) s.counts
          c.chain s.memory legal e.wave e.instr q.1.0 q.0.0 e.row e.index q.1.1 st q.0.1 in
          let m : legal.cut ≤ req.time = S.from image world formed sound false
          (asking image c) s.counts c.chain s.memory legal k.wave k.instr xs req may in
          T.earlier_by image world formed sound e f q.0.0 req.time q.0.1 here (omega (arith, l, m))
          (s.partly.numbered e i.0, refl)
        where
          has_entry : (o : Option Kept) (a : ℕ) → answer_if o ≡ Some a → (x : Kept) × (o ≡ Some x)
          has_entry o a e = grind arith

      move_to : (r j : ℕ) (o : Option Queued) → IsOn f r j →
          front c.queued (array_at image k.instr - 1) k.first ≡ o → front c.queued r j ≡ o
      move_to r j o on h = grind arith

      -- a queue that is there
      join_held : (e : Queued) → front c.queued (array_at image k.instr - 1) k.first ≡ Some e →
          Partly image world began (issued_with image s.counts s.memory k.wave k.instr xs)
          (effect_after image k.instr xs s.memory) d
      join_held e h = J.joins image world formed sound began c (asking image c) s.counts s.memory legal
          s.partly k w.kept xs req may row first_is 0 d go (let a1 : open_queues (joined f c.queued) ≡
          N.one_more (holds c.queued f.row f.index) (open_queues c.queued) = N.open_joined f c.queued in
          let b1 : N.one_more (holds c.queued f.row f.index) (open_queues c.queued) ≡ open_queues c.queued =
          ap (λ (b : Bool). N.one_more b (open_queues c.queued)) (ap has h) in
          let c1 : open_queues c.queued ≤ 16 = s.partly.few in omega (arith, a1, b1, c1)) (λ r j x on g. let z
          : front (joined f c.queued) r j ≡ Some e = T.joined_front _ _ formed sound _ _ _ _ _ s.partly.rising
          (move_to r j (Some e) on h) (behind e h) in
          let y : Some e ≡ Some x = sym z ∙ g in inl (move_to r j (Some e) on h ∙ y))
          (λ r j v i a u on g n there l. let z : Some e ≡ None = sym (move_to r j (Some e) on h) ∙ g in cc)
          (λ r j on g. absurd (let z : Some e ≡ None = sym (move_to r j (Some e) on h) ∙ g in cc))

      -- a new one, of a store that is next
      join_new : front c.queued (array_at image k.instr - 1) k.first ≡ None →
          IsNext c.chain (note_of image k.instr) → is_store_op (instr_at image k.instr).op ≡ true →
          open_queues c.queued < 16 →
          Partly image world began (issued_with image s.counts s.memory k.wave k.instr xs)
          (effect_after image k.instr xs s.memory) d
      join_new h next st room = J.joins image world formed sound began c (asking image c) s.counts s.memory
          legal s.partly k w.kept xs req may row first_is 0 d go (let a1 : open_queues (joined f c.queued) ≡
          N.one_more (holds c.queued f.row f.index) (open_queues c.queued) = N.open_joined f c.queued in
          let b1 : N.one_more (holds c.queued f.row f.index) (open_queues c.queued) ≡ N.one_more false
          (open_queues c.queued) = ap (λ (b : Bool). N.one_more b (open_queues c.queued)) (ap has h) in
          omega (arith, a1, b1, room))
          (λ r j x on g. let z : front (joined f c.queued) r j ≡ Some f =
          F.joined_first f c.queued r j on (move_to r j None on h) in
          let y : Some f ≡ Some x = sym z ∙ g in inr ((let q : f ≡ x = cc in sym q), move_to r j None on h))
          (λ r j v i a u on g n there l. alone r j v i a u on n there l)
          (λ r j on g. ap (λ (o : Outside). cell o.cells r j)
          (legal.ordered.memory ∙ sym (mem_same image world facts legal.cut req.time
          (S.from image world formed sound false
          (asking image c) s.counts c.chain s.memory legal k.wave k.instr xs req may)
          (no_op_no_write image world legal.cut req.time
          (S.first image world formed sound false
          (asking image c) s.counts c.chain s.memory legal k.wave k.instr xs req may next)))))
        where
          alone : (r j v i a u : ℕ) → IsOn f r j → s.counts v i ≡ Some a → OnCell image world v i r j u →
              req.time ≤ u → ⊥
          alone r j v i a u on n there l =
              let m : legal.cut ≤ req.time =
              S.from image world formed sound false
              (asking image c) s.counts c.chain s.memory legal k.wave k.instr xs req may in
              elim (lt_or_eq req.time u l) [
                | inl y ↦ S.none_before_early image world formed sound false (asking image c) s.counts c.chain
                    s.memory legal v i a u r j n there (array_at image k.instr - 1) k.first req.time m y
                    (grind (arith, slice_index))
                | inr y ↦ (grind (arith, T.one_instance, here))
              ]
            where
              lt_or_eq : (m n : ℕ) → m ≤ n → (m < n) ⊎ (m ≡ n)
              lt_or_eq m n l = elim (cases_lt m n) [ inl h ↦ inl h | inr h ↦ inr (omega (arith, l, h)) ]

      -- the first entries are stores without data then
      join_fronts : ((e : Queued) × (front c.queued (array_at image k.instr - 1) k.first ≡ Some e)) ⊎
          ((front c.queued (array_at image k.instr - 1) k.first ≡ None) × (is_bare c k.wave k.instr ≡ true)) →
          Fronts d
      join_fronts which x r j h0 = let h : front (joined f c.queued) r j ≡ Some x = rw (← go.queued_are) h0 in
          go.bare x.wave x.instr ∙ elim (cell_cases f r j) [
            | inl o ↦ elim which [
              | inl z ↦ (let y : Some z.0 ≡ Some x = sym (T.joined_front image world formed sound f c.queued r
                  j z.0 s.partly.rising (move_to r j (Some z.0) o.1 z.1) (behind z.0 z.1)) ∙ h in
                  let q : z.0 ≡ x = cc in
                  rw (← q) (fronts z.0 r j (move_to r j (Some z.0) o.1 z.1)))
              | inr z ↦ (let y : Some f ≡ Some x = sym (F.joined_first f c.queued r j o.1 (move_to r j None
                  o.1 z.0)) ∙ h in
                  let q : f ≡ x = cc in rw (← q) z.1)
            ]
            | inr n ↦ fronts x r j (sym (F.joined_other f c.queued r j n.1) ∙ h)
          ]

      same_now : (v i : ℕ) → has (issued_with image s.counts s.memory k.wave k.instr xs v i) ≡ has
          (issued_in d.kept v i)
      same_now = J.new_same image world formed sound began c
          (asking image c) s.counts s.memory legal s.partly k w.kept xs req may row first_is 0 d go

      joined_now : Partly image world began (issued_with image s.counts s.memory k.wave k.instr xs)
          (effect_after image k.instr xs s.memory) d → Parting image world began d
      joined_now new = counted _ _ w _ req may first_is within _ _ _ _ go same_now new

  -- rule 1
  opened : (c d : PartContent) → Parting image world began c → (k : Kept) → Fronts c → OpensQueue image c k →
      Counted image c k 0 (joined (entry_at image k) c.queued) c.outside d → Parting image world began d
  opened c d s k fronts o go =
      let ad : IsAddressed image world k.wave k.instr k.first =
      S.bare_kept image world (is_bare c k.wave k.instr) k o.waits.bare_is
      (s.partly.right k.wave k.instr k o.waits.kept) in
      let row : is_on_row (instr_at image k.instr).op (array_at image k.instr - 1) ≡ true =
      O.store_row image k.instr ad.store in
      let req : RightRequest image world k.wave k.instr ad.inst.operands = grind (arith, T.row_memory) in
      let may = may_next c s o.going k true o.waits o.current o.next ad.inst.operands in
      joined_now c s o.going fronts k true o.waits ad.inst.operands req may row ad.address o.within d go
      (elim (front_case c.queued (array_at image k.instr - 1) k.first) [
        | inl h ↦ join_held c s o.going fronts k true o.waits ad.inst.operands req may row ad.address o.within
            d go h.0 h.1
        | inr h ↦ join_new c s o.going fronts k true o.waits ad.inst.operands req may row ad.address o.within
            d go h o.next ad.store (elim o.room [
              | inl r ↦ absurd (let g = held_front c s o.going k row r in let z : Some g.0 ≡ None = sym g.1
                  ∙ h in
                  cc)
              | inr r ↦ r
            ])
      ])
    where
      front_case : (es : List Queued) (r j : ℕ) →
          ((e : Queued) × (front es r j ≡ Some e)) ⊎ (front es r j ≡ None)
      front_case es r j = which (front es r j) refl
        where
          which : (q : Option Queued) → front es r j ≡ q →
              ((e : Queued) × (front es r j ≡ Some e)) ⊎ (front es r j ≡ None)
          which None e = inr e
          which (Some x) e = inl (x, e)

  pub opened_fronts : (c d : PartContent) → Parting image world began c → (k : Kept) → Fronts c →
      OpensQueue image c k → Counted image c k 0 (joined (entry_at image k) c.queued) c.outside d → Fronts d
  opened_fronts c d s k fronts o go =
      let ad : IsAddressed image world k.wave k.instr k.first =
      S.bare_kept image world (is_bare c k.wave k.instr) k o.waits.bare_is
      (s.partly.right k.wave k.instr k o.waits.kept) in
      let row : is_on_row (instr_at image k.instr).op (array_at image k.instr - 1) ≡ true =
      O.store_row image k.instr ad.store in
      let req : RightRequest image world k.wave k.instr ad.inst.operands = grind (arith, T.row_memory) in
      let may = may_next c s o.going k true o.waits o.current o.next ad.inst.operands in
      join_fronts c s o.going fronts k true o.waits ad.inst.operands req may row ad.address o.within d go
      (elim (which (front c.queued (array_at image k.instr - 1) k.first))
      [ inl h ↦ inl h | inr h ↦ inr (h, o.waits.bare_is) ])
    where
      which : (q : Option Queued) → ((e : Queued) × (q ≡ Some e)) ⊎ (q ≡ None)
      which None = inr refl
      which (Some x) = inl (x, refl)

  -- the chain lets a whole request issue
  pub may_counts : (c : PartContent) (s : Parting image world began c) (k : Kept) → GoesByChain image c k →
      Issuable image s.counts c.chain false k.wave k.instr (operands_at image k)
  may_counts c s k g = grind (arith, fresh, O.no_more)

  pub right_of : (c : PartContent) (s : Parting image world began c) (k : Kept) → Waits c k false →
      RightRequest image world k.wave k.instr (operands_at image k)
  right_of c s k w = S.whole_kept _ _ _ _ w.bare_is (s.partly.right k.wave k.instr k w.kept)

  -- rule 2
  joined_so : (c d : PartContent) → Parting image world began c → (k : Kept) → Fronts c
      → GoesByChain image c k →
      holds_op c.queued (instr_at image k.instr).op k.first ≡ true →
      Counted image c k 0 (joined (entry_at image k) c.queued) c.outside d → Parting image world began d
  joined_so c d s k fronts g h go = elim (O.cases_row image c.queued k.instr k.first) [
    | inl z ↦ (let req = right_of _ s _ g.waits in
        let may = may_counts c s k g in
        let e = held_front c s g.going k z.0 h in
        joined_now c s g.going fronts k false g.waits (operands_at image k) req may z.0 (O.first_of image k)
        g.within d go (join_held c s g.going fronts k false g.waits (operands_at image k) req may z.0
        (O.first_of image k) g.within d go e.0 e.1))
    | inr z ↦ absurd (both_ways (holds_op c.queued (instr_at image k.instr).op k.first) z.1 h)
  ]

  pub joined_fronts : (c d : PartContent) → Parting image world began c → (k : Kept) → Fronts c →
      GoesByChain image c k → holds_op c.queued (instr_at image k.instr).op k.first ≡ true →
      Counted image c k 0 (joined (entry_at image k) c.queued) c.outside d → Fronts d
  joined_fronts c d s k fronts g h go = elim (O.cases_row image c.queued k.instr k.first) [
    | inl z ↦ (let req = right_of c s k g.waits in
        let may = may_counts c s k g in
        let e = held_front c s g.going k z.0 h in
        join_fronts c s g.going fronts k false g.waits (operands_at image k) req may z.0
        (O.first_of image k) g.within d go (inl e))
    | inr z ↦ absurd (both_ways (holds_op c.queued (instr_at image k.instr).op k.first) z.1 h)
  ]

  -- rule 5
  issued_so : (c d : PartContent) → Parting image world began c → (k : Kept) (word : ℕ) (left : Holding) →
      GoesByChain image c k → holds_op c.queued (instr_at image k.instr).op k.first ≡ false →
      ((b : List (Option Began)) (o : Outside) → HoldsOut b o c.outside →
      Performed b (instr_at image k.instr).op (k.first ∷ k.second ∷ 0 ∷ []) o word left) →
      Counted image c k word c.queued left d →
      Parting image world began d × RightTokens image world
      (sends image k.wave k.instr (operands_at image k) word)
  issued_so c d s k word left g h answers go =
      let req = right_of _ s _ g.waits in
      let may = may_counts c s k g in
      let law = legal c s g.going in
      let told : Performed began (instr_at image k.instr).op (k.first ∷ k.second ∷ 0 ∷ []) (record {
        cells = c.outside.cells;
        input = s.memory.input;
        left = s.memory.left;
        acts = s.memory.acts;
      }) word left = answers began (record {
        cells = c.outside.cells;
        input = s.memory.input;
        left = s.memory.left;
        acts = s.memory.acts;
      }) s.partly.outside in (
        counted c s g.going k false g.waits (operands_at image k) req may (O.first_of image k) g.within
            word c.queued left d go (I.new_same image world formed sound began c (asking image c) s.counts
            s.memory law s.partly k g.waits.kept req may word left h told g.waits.bare_is d go) (I.issues
            image world formed sound began c (asking image c) s.counts s.memory law s.partly k
            g.waits.kept req may word left h told g.waits.bare_is d go),
        I.sent_right image world formed sound began c (asking image c) s.counts s.memory law s.partly k
            g.waits.kept req may word left h told g.waits.bare_is d go,
      )

  -- rule 3
  followed_so : (c d : PartContent) → Parting image world began c → (e : Queued) → FrontGoes c e →
      (some : List Token) → Followed image c e some d → c.fault ≡ None →
      Parting image world began d × RightTokens image world some
  followed_so c d s e fol some go going =
      let law = legal c s going in
      let p = W.follows image world formed sound began c false
      (asking image c) s.counts s.memory law s.partly e fol some d go in (
        record {
          counts = s.counts;
          memory = s.memory;
          legal = rw (ap has (go.fault ∙ going)) (rw go.chain (record {
            cut = law.cut;
            ordered = law.ordered;
            settled = law.settled;
            halted = λ z. absurd (both_ways false refl z);
          }));
          partly = p;
          fault = rw (go.fault ∙ going) tt;
          quiet = λ z. absurd (both_ways (has d.fault) (ap has (go.fault ∙ going)) z);
        },
        W.sent_right image world formed sound began c false (asking image c) s.counts s.memory law s.partly e
            fol some d go,
      )

  -- the walk's first operation past the end
  fault_so : (c : PartContent) (s : Parting image world began c) (k : Kept) (f : Faults image c k)
      (law : Legal image world s.counts (asking image c) false c.chain s.memory)
      (may : Issuable image s.counts c.chain false k.wave k.instr (operands_at image k)) →
      is_past image k.instr (operands_at image k) ≡ true →
      asking image c k.wave k.instr ≡ Some (operands_at image k) →
      (req : RightRequest image world k.wave k.instr (operands_at image k)) →
      FaultIs image world (Some (array_at image k.instr))
  unfolding B.fault_here
  fault_so c s k f law may past waits req = (
    req.time,
    B.fault_here _ _ facts s.counts _ _ _ law.settled _ _ _ may _ _ req.at req.operands req.memory _
        law.ordered past (asking image c) waits,
    ap (array_at image) (sym req.at.instr),
  )

  -- rule 4
  stopped_so : (c : PartContent) → Parting image world began c → (k : Kept) → Faults image c k →
      Parting image world began (record c { fault = Some (array_at image k.instr) })
  stopped_so c s k f =
      let req = right_of c s k f.waits in
      let law = legal c s f.going in
      let may : Issuable image s.counts c.chain false k.wave k.instr (operands_at image k) =
      may_next c s f.going k false f.waits f.current f.next (operands_at image k) in
      let past : is_past image k.instr (operands_at image k) ≡ true =
      O.past_is image k (operands_at image k) (O.first_of image k) ∙ f.past in
      let waits : asking image c k.wave k.instr ≡ Some (operands_at image k) = waits_so c k f.waits in
      record {
        counts = s.counts;
        memory = s.memory;
        legal = B.stop_legal image world facts s.counts c.chain false s.memory law.settled k.wave k.instr
            (operands_at image k) may req.time req.inst req.at req.operands req.memory law.cut law.ordered
            past (asking image c) waits;
        partly = grind (arith, opened);
        fault = fault_so c s k f law may past waits req;
        quiet = λ z. f.none;
      }
    where
      waits_so : (c : PartContent) (k : Kept) → Waits c k false →
          asking image c k.wave k.instr ≡ Some (operands_at image k)
      waits_so c k w = grind arith

  sent_either : (xs ys : List Token) (w i p v : ℕ) → IsSent (xs ++ ys) w i p v →
      IsSent xs w i p v ⊎ IsSent ys w i p v
  sent_either [] ys w i p v e = inr e
  sent_either (x ∷ xs) ys w i p v (inl e) = inl (inl e)
  sent_either (x ∷ xs) ys w i p v (inr e) = grind (arith, sent_either xs ys w i p v e)

  right_both : (xs ys : List Token) → RightTokens image world xs → RightTokens image world ys →
      RightTokens image world (xs ++ ys)
  right_both xs ys a b w i p v e = grind (arith, sent_either)

  pub moves_keep : (old new : PartContent) (tokens : List Token) → Moves image old tokens new →
      Parting image world began old → Parting image world began new × RightTokens image world tokens
  moves_keep old new tokens stays s = (s, λ w i p v e. absurd e)
  moves_keep old new tokens (opens {d = d} k fronts o go rest) s =
      moves_keep d new tokens rest (opened old d s k fronts o go)
  moves_keep old new tokens (joins {d = d} k fronts g h go rest) s =
      moves_keep d new tokens rest (joined_so old d s k fronts g h go)
  moves_keep old new tokens (issues {d = d} {rest = more} k word left fronts g h answers go rest) s =
      let q = issued_so old d s k word left g h answers go in
      let r = moves_keep d new more rest q.0 in
      (r.0, right_both (sends image k.wave k.instr (operands_at image k) word) more q.1 r.1)
  moves_keep old new tokens (follows {d = d} {some = some} {rest = more} e fol going go rest) s =
      let q = followed_so old d s e fol some go going in
      let r = moves_keep d new more rest q.0 in
      (r.0, right_both some more q.1 r.1)
  moves_keep old new tokens (stops k f) s = (stopped_so old s k f, λ w i p v e. absurd e)
