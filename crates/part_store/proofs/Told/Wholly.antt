-- A buffer that holds no address without data is a store buffer.
use Rattle.std.proofs.Common.{ℕ, suc, ◌≡◌, ◌<◌, Bool, true, false, cond, List, [], ◌∷◌, length, All}
use Rattle.std.proofs.Common.{Option, Some, None, slice_index, slice_index_or, refl, sym, ap, ◌∙◌, subst, inl}
use Rattle.std.proofs.Common.{inr, arith}
use Rattle.std.proofs.lemmas.Bool.{both_ways, cases_Bool}
use Rattle.ws_words.specs.Outside.{Outside, World, row}
use Rattle.ws_isa.specs.declared.instr.Op.{Op}
use Rattle.ws_isa.specs.Image.{Image, Token, after, after_op, answer, instr_at, is_past, sends}
use Rattle.ws_isa.specs.Formed.{Formed}
use Rattle.ws_isa.specs.Sound.{Sound}
use Rattle.df_core.specs.Effect.{effect_after}
use Rattle.df_core.specs.Core.{HasFired, Issuable, Passes, has, issued_with}
use Rattle.df_core.specs.Fit.{Legal, RightRequest}
use Rattle.df_core.specs.Shown.{waits_if}
use Rattle.df_core.proofs.Keeping.BufferKept as B
use Rattle.df_core.proofs.Walked.Facts.{WalkFacts}
use Rattle.df_core.proofs.Keeping.Ports.{SameKey, with_key_cases}
use Rattle.df_core.specs.Began.{Began}
use Rattle.df_core.specs.Rights.{IsAsked}
use Rattle.store_buf.specs.declared.kept.Kept.{Kept}
use Rattle.store_buf.specs.Requests.{entry_of, issued_in, issued_keys, key_if, kept_in, operands_if}
use Rattle.store_buf.specs.Requests.{answer_if}
use Rattle.store_buf.specs.Ordering.{no_request}
use Rattle.store_buf.specs.Holds.{Issued, Issues, Stopped, part, waiting_in}
use Rattle.store_buf.specs.Holds as Holds
use Rattle.store_buf.specs.Outdoors.{Performed, Holding, HoldsOut}
use Rattle.store_buf.specs.Contents.{FaultIs, IsBuffer}
use Rattle.store_buf.specs.Contents as whole
use Rattle.store_buf.specs.Stores.{asked_of}
use Rattle.store_buf.proofs.Found.{entry_case}
use Rattle.part_store.specs.declared.entry.Queued.{Queued}
use Rattle.part_store.specs.Queues.{front}
use Rattle.part_store.specs.Contents.{NoBare, asking, cell, holds_op, is_bare, whole_of, PartContent}
use Rattle.part_store.specs.Parted.{Fronts, Parted}
use Rattle.part_store.specs.Rules.{Counted, GoesByChain, Moves, NoRule, Waits, stays, opens, joins, issues}
use Rattle.part_store.specs.Rules.{follows, stops, is_past_at, operands_at}
use Rattle.part_store.proofs.Queueing.Fronts as F
use Rattle.part_store.proofs.Queueing.Ops as O
use Rattle.part_store.proofs.Queueing.Standing as S
use Rattle.part_store.proofs.Queueing.Times as T
use Rattle.match_table.proofs.Held.{has_none as none_has}
use Rattle.store_buf.proofs.Coming.{listed_from}

-- rows with equal cells are equal
words_alike : (xs ys : List ℕ) → length xs ≡ length ys → ((j : ℕ) → slice_index xs j ≡ slice_index ys j) →
    xs ≡ ys
words_alike [] [] n f = refl
words_alike (x ∷ xs) (y ∷ ys) n f = let a : x ≡ y = f 0 in let b =
    words_alike xs ys (omega (arith, n)) (λ j. f (suc j)) in λ i. a i ∷ b i
words_alike xs ys n f = absurd (omega (arith, n))

pub rows_alike : (cs ds : List (List ℕ)) → length cs ≡ length ds →
    ((r : ℕ) → length (row cs r) ≡ length (row ds r)) → ((r j : ℕ) → cell cs r j ≡ cell ds r j) → cs ≡ ds
rows_alike [] [] n f g = refl
rows_alike (c ∷ cs) (d ∷ ds) n f g = let a : c ≡ d = words_alike c d (f 0) (g 0) in let b =
    rows_alike cs ds (omega (arith, n)) (λ r. f (suc r)) (λ r. g (suc r)) in λ i. a i ∷ b i
rows_alike cs ds n f g = absurd (omega (arith, n))

none_front : (es : List Queued) → ((e : Queued) (r j : ℕ) → front es r j ≡ Some e → ⊥) → es ≡ []
none_front [] f = refl
none_front (e ∷ es) f = grind (arith, F.front_here e es e.row e.index (record { row = refl; index = refl }))

none_held : (op : Op) (j : ℕ) → holds_op [] op j ≡ false
none_held op j = grind arith

effect_cells : (image : Image) (i : ℕ) (xs : List ℕ) (o : Outside) →
    (effect_after image i xs o).cells ≡ (after_op (instr_at image i).op xs o).cells
unfolding effect_after after
effect_cells image i xs o = refl

-- the issued ones are listed
record FiredAt (ks : List Kept) (w i : ℕ) : Type 0 where
  place : ℕ
  within : place < length ks
  wave : (slice_index_or ks place no_request).wave ≡ w
  instr : (slice_index_or ks place no_request).instr ≡ i
  answer : ℕ
  is : (slice_index_or ks place no_request).answer ≡ Some answer

fired_later : (k : Kept) (ks : List Kept) (w i : ℕ) → FiredAt ks w i → FiredAt (k ∷ ks) w i
fired_later k ks w i r = record {
  place = suc r.place;
  within = (let l : r.place < length ks = r.within in omega arith);
  wave = r.wave;
  instr = r.instr;
  answer = r.answer;
  is = r.is;
}

fired_one : (k : Kept) (ks : List Kept) (w i : ℕ) → (HasFired (issued_keys ks) w i → FiredAt ks w i) →
    (o : Option ℕ) → k.answer ≡ o → HasFired (key_if o k (issued_keys ks)) w i → FiredAt (k ∷ ks) w i
fired_one k ks w i ih None e f = fired_later k ks w i (ih f)
fired_one k ks w i ih (Some b) e (inl q) =
    record { place = 0; within = omega arith; wave = q.0; instr = q.1; answer = b; is = e }
fired_one k ks w i ih (Some b) e (inr q) = fired_later k ks w i (ih q)

fired_at : (ks : List Kept) (w i : ℕ) → HasFired (issued_keys ks) w i → FiredAt ks w i
fired_at [] w i h = absurd h
fired_at (k ∷ ks) w i h = fired_one k ks w i (fired_at ks w i) k.answer refl h

abbrev pub Own : List Kept → Type 0
Own ks = All (λ (k : Kept). entry_of ks k.wave k.instr ≡ Some k) ks

listed_to : (ks : List Kept) → Own ks → (w i : ℕ) → HasFired (issued_keys ks) w i →
    (a : ℕ) × (issued_in ks w i ≡ Some a)
listed_to ks own w i h = grind (arith, fired_at)

-- a request that waits
waits_so : (image : Image) (e : Option Kept) (xs : List ℕ) →
    waits_if (answer_if e) (operands_if image e) None ≡ Some xs →
    (k : Kept) × (e ≡ Some k) × (k.answer ≡ None) × (operands_at image k ≡ xs)
waits_so image e xs w = grind arith

key_of : (ks : List Kept) (w i : ℕ) (k : Kept) → entry_of ks w i ≡ Some k → SameKey k.wave k.instr w i
key_of ks w i k e = grind (arith, entry_case)

-- no queue is open
pub empty : (c : PartContent) → NoBare c → Fronts c → c.queued ≡ []
empty c none fronts = none_front c.queued
    (λ e r j h. both_ways (is_bare c e.wave e.instr) (none e.wave e.instr) (fronts e r j h))

module _ (image : Image) (world : World) (formed : Formed image) (sound : Sound image)
    (began : List (Option Began)) where
  abbrev facts : WalkFacts image world
  facts = T.facts image world formed sound

  -- what is true of it with this memory
  pub record On (c : PartContent) (stopped : Bool) (m : Outside) : Type 0 where
    pub bare : NoBare c
    pub queued : c.queued ≡ []
    pub halts : has c.fault ≡ stopped
    pub legal : Legal image world (issued_in c.kept) (waiting_in image c.kept) stopped c.chain m
    pub right : (w i : ℕ) (k : Kept) → entry_of c.kept w i ≡ Some k → IsAsked image world (asked_of k)
    pub outside : HoldsOut began m c.outside

  pub buffer_so : (c : PartContent) (stopped : Bool) (m : Outside) → On c stopped m → Own c.kept →
      FaultIs image world c.fault → IsBuffer image world began (whole_of c) m
  buffer_so c stopped m on own fault = record {
    ok = record {
      right = λ w i xs e. by_entry w i xs e (entry_of c.kept w i) refl;
      issued_kept = λ w i a e. (let s = some_entry (entry_of c.kept w i) a e in
          (operands_at image s.0, ap (operands_if image) s.1));
      listed = λ w i. (listed_to c.kept own w i, λ e. listed_from c.kept w i e.0 e.1);
      legal = rw on.halts on.legal;
    };
    outside = on.outside;
    fault = fault;
  }
    where
      some_entry : (e : Option Kept) (a : ℕ) → answer_if e ≡ Some a → (k : Kept) × (e ≡ Some k)
      some_entry e a h = grind arith

      by_entry : (w i : ℕ) (xs : List ℕ) → kept_in image c.kept w i ≡ Some xs → (o : Option Kept) →
          entry_of c.kept w i ≡ o → RightRequest image world w i xs
      by_entry w i xs h o e = grind (arith, key_of)

  -- a buffer that keeps what is true of parted ones
  module _ (c : PartContent) (none : NoBare c) (parted : Parted image world began c) where
    no_queue : c.queued ≡ []
    no_queue = empty c none parted.1

    count_is : (w i : ℕ) → parted.0.counts w i ≡ issued_in c.kept w i
    count_is w i = go (issued_in c.kept w i) refl
      where
        go : (o : Option ℕ) → issued_in c.kept w i ≡ o → parted.0.counts w i ≡ issued_in c.kept w i
        go None e = grind arith
        go (Some a) e = grind (arith, no_queue)

    cells_are : parted.0.memory.cells ≡ c.outside.cells
    cells_are = grind (arith, rows_alike, no_queue)

    pub on_now : On c (has c.fault) parted.0.memory
    on_now = record {
      bare = none;
      queued = no_queue;
      halts = refl;
      legal = subst (λ (x : (ℕ → ℕ → Option ℕ) × (ℕ → ℕ → Option (List ℕ))).
          Legal image world x.0 x.1 (has c.fault) c.chain parted.0.memory)
          (λ j. ((λ w i. count_is w i j), (λ w i. cond (none w i j) None (waiting_in image c.kept w i))))
          parted.0.legal;
      right = λ w i k e. S.whole_kept image world (is_bare c w i) k (none w i)
          (parted.0.partly.right w i k e);
      outside = rw cells_are parted.0.partly.outside;
    }

  -- one issue
  module _ (c : PartContent) (m : Outside) (on : On c false m) (going : c.fault ≡ None) (k : Kept)
      (g : GoesByChain image c k) where
    abbrev xs : List ℕ
    xs = operands_at image k

    req : RightRequest image world k.wave k.instr (operands_at image k)
    req = on.right k.wave k.instr k g.waits.kept

    fresh : issued_in c.kept k.wave k.instr ≡ None
    fresh = ap answer_if g.waits.kept ∙ g.waits.waits

    waits_here : waiting_in image c.kept k.wave k.instr ≡ Some (operands_at image k)
    waits_here = grind arith

    within : is_past image k.instr (operands_at image k) ≡ false
    within = O.past_is image k (operands_at image k) (O.first_of image k) ∙ g.within

    module _ (word : ℕ) (left : Holding) (answers : Performed began (instr_at image k.instr).op
        (k.first ∷ k.second ∷ 0 ∷ []) m word left) (d : PartContent)
        (go : Counted image c k word c.queued left d) where
      abbrev k' : Kept
      k' = record { wave = k.wave; instr = k.instr; first = k.first; second = k.second; answer = Some word }

      word_is : word ≡ answer image k.instr (operands_at image k) m
      word_is = grind (arith, O.operands_alike, O.answer_is)

      issued_step : (w i : ℕ) → issued_in d.kept w i ≡ issued_with image (issued_in c.kept) m k.wave k.instr
          (operands_at image k) w i
      issued_step w i = elim (with_key_cases k.wave k.instr (Some k') (entry_of c.kept) w i) [
        | inl h ↦ ap answer_if (go.kept w i ∙ h.1)
            ∙ elim (with_key_cases k.wave k.instr (Some (answer image k.instr (operands_at image k) m))
            (issued_in c.kept) w i) [
              | inl z ↦ ap (λ (n : ℕ). Some n) word_is ∙ sym z.1
              | inr z ↦ absurd (z.0 h.0)
            ]
        | inr h ↦ ap answer_if (go.kept w i ∙ h.1)
            ∙ elim (with_key_cases k.wave k.instr (Some (answer image k.instr (operands_at image k) m))
            (issued_in c.kept) w i) [
              | inl z ↦ absurd (h.0 z.0)
              | inr z ↦ sym z.1
            ]
      ]

      here_at : (w i : ℕ) → SameKey k.wave k.instr w i → entry_of c.kept w i ≡ Some k
      here_at w i key = grind arith

      kept_step : (w i : ℕ) → kept_in image d.kept w i ≡ kept_in image c.kept w i
      kept_step w i = elim (with_key_cases k.wave k.instr (Some k') (entry_of c.kept) w i) [
        | inl h ↦ ap (operands_if image) (go.kept w i ∙ h.1) ∙ sym (ap (operands_if image) (here_at w i h.0))
        | inr h ↦ ap (operands_if image) (go.kept w i ∙ h.1)
      ]

      issued_are : issued_in d.kept ≡ issued_with image (issued_in c.kept) m k.wave k.instr
          (operands_at image k)
      issued_are j = λ w i. issued_step w i j

      passed : Passes image (issued_with image (issued_in c.kept) m k.wave k.instr (operands_at image k))
          c.chain d.chain
      passed = subst (λ (f : ℕ → ℕ → Option ℕ). Passes image f c.chain d.chain) issued_are go.passed

      pub issued_so : Issued image (part image c.kept c.chain (has c.fault) m) k.wave k.instr
          (sends image k.wave k.instr (operands_at image k) word)
          (part image d.kept d.chain (has d.fault) (effect_after image k.instr (operands_at image k) m))
      issued_so = record {
        operands = operands_at image k;
        waits = waits_here;
        issuable = rw (ap has going) g.may;
        within = within;
        passed = passed;
        tokens_are = ap (sends image k.wave k.instr (operands_at image k)) word_is;
        kept = kept_step;
        issued = issued_step;
        stopped = ap has go.fault;
        memory = refl;
      }

      cells_left : (effect_after image k.instr (operands_at image k) m).cells ≡ left.cells
      cells_left = effect_cells image k.instr (operands_at image k) m
          ∙ ap (λ (o : Outside). o.cells) (O.operands_alike image k m).1 ∙ answers.after.cells_are

      out_left : HoldsOut began (effect_after image k.instr (operands_at image k) m) left
      out_left = rw cells_left (O.outside_after began image k.instr (operands_at image k) m m.cells left (rw
          (O.operands_alike image k m).1 answers.after))

      pub on_step : On d false (effect_after image k.instr (operands_at image k) m)
      on_step = record {
        bare = λ w i. go.bare w i ∙ on.bare w i;
        queued = go.queued_are ∙ on.queued;
        halts = ap has go.fault ∙ on.halts;
        legal = rw issued_are (B.new_legal image world facts (issued_in c.kept) c.chain false m
            on.legal.settled k.wave k.instr (operands_at image k) g.may req.time req.inst req.at req.operands
            req.memory on.legal.cut on.legal.ordered within (waiting_in image d.kept) d.chain passed);
        right = λ w i x e. elim (with_key_cases k.wave k.instr (Some k') (entry_of c.kept) w i) [
          | inl h ↦ (let q : Some k' ≡ Some x = sym (go.kept w i ∙ h.1) ∙ e in let z : k' ≡ x = cc in
              rw (← z) (on.right k.wave k.instr k g.waits.kept))
          | inr h ↦ on.right w i x (sym (go.kept w i ∙ h.1) ∙ e)
        ];
        outside = rw go.outside_is out_left;
      }

  -- moves are issues in turn
  pub record Way (c : PartContent) (m : Outside) (tokens : List Token) (d : PartContent) : Type 0 where
    pub memory : Outside
    pub issues : Issues image (part image c.kept c.chain (has c.fault) m) tokens
        (part image d.kept d.chain (has d.fault) memory)
    pub on : On d (has d.fault) memory

  going_on : (c : PartContent) (m : Outside) → On c false m → On c (has c.fault) m
  going_on c m on = subst (λ (b : Bool). On c b m) (sym on.halts) on

  pub way : (c d : PartContent) (tokens : List Token) → Moves image c tokens d → c.fault ≡ None
      → (m : Outside) →
      On c false m → Way c m tokens d
  way c _ _ stays going m on = record { memory = m; issues = Holds.stays; on = going_on c m on }
  way c d _ (opens {rest = rest} k fronts o go more) going m on = grind arith
  way c d _ (joins {rest = rest} k fronts g held go more) going m on = grind (arith, both_ways, none_held)
  way c d _ (issues {d = e} {rest = rest} k word left fronts g free told go more) going m on =
      let answers = told began m on.outside in
      let step = on_step _ _ on going _ g _ _ answers _ go in
      let r = way _ _ _ more (go.fault ∙ going) _ step in
      record {
        memory = r.memory;
        issues = Holds.goes k.wave k.instr (issued_so _ _ on going _ g _ _ answers _ go) r.issues;
        on = r.on;
      }
  way c d _ (follows first f going' fol more) going m on = grind arith
  way c _ _ (stops k f) going m on = record {
    memory = m;
    issues = Holds.stops k.wave k.instr stopped Holds.stays;
    on = record {
      bare = on.bare;
      queued = on.queued;
      halts = refl;
      legal = B.stop_legal image world facts (issued_in c.kept) c.chain false m on.legal.settled k.wave
          k.instr (operands_at image k) may req'.time req'.inst req'.at req'.operands req'.memory on.legal.cut
          on.legal.ordered past (waiting_in image c.kept) waits;
      right = on.right;
      outside = on.outside;
    };
  }
    where
      req' : RightRequest image world k.wave k.instr (operands_at image k)
      req' = on.right k.wave k.instr k f.waits.kept

      fresh' : issued_in c.kept k.wave k.instr ≡ None
      fresh' = ap answer_if f.waits.kept ∙ f.waits.waits

      waits : waiting_in image c.kept k.wave k.instr ≡ Some (operands_at image k)
      waits = grind arith

      past : is_past image k.instr (operands_at image k) ≡ true
      past = O.past_is image k (operands_at image k) (O.first_of image k) ∙ f.past

      may : Issuable image (issued_in c.kept) c.chain false k.wave k.instr (operands_at image k)
      may = record { going = refl; current = f.current; fresh = fresh'; turn = inl f.next }

      stopped : Stopped image (part image c.kept c.chain (has c.fault) m) k.wave k.instr
          (part image c.kept c.chain true m)
      stopped = record {
        operands = operands_at image k;
        waits = waits;
        issuable = rw (ap has going) may;
        past = past;
        kept = λ a b. refl;
        issued = λ a b. refl;
        chain = refl;
        stopped = refl;
        memory = refl;
      }

  -- where no rule is applicable nothing that waits is issuable
  pub idle_so : (c : PartContent) (stopped : Bool) (m : Outside) → On c stopped m → NoRule image c →
      whole.Idle image (whole_of c)
  idle_so c stopped m on none n w i xs asks may =
      let r = waits_so image (entry_of c.kept w i) xs asks in
      let k = r.0 in
      let key = key_of c.kept w i k r.1 in
      let going : c.fault ≡ None = none_has c.fault may.going in
      let kept : entry_of c.kept k.wave k.instr ≡ Some k =
      subst (λ (x : ℕ). entry_of c.kept k.wave x ≡ Some k) (sym key.instr)
      (subst (λ (x : ℕ). entry_of c.kept x i ≡ Some k) (sym key.wave) r.1) in
      let waits : Waits c k false = record { kept = kept; waits = r.2; bare_is = on.bare k.wave k.instr } in
      let may' : Issuable image (issued_in c.kept) c.chain (has c.fault) k.wave k.instr
      (operands_at image k) =
      subst (λ (ys : List ℕ). Issuable image (issued_in c.kept) c.chain (has c.fault) k.wave k.instr ys)
      (sym r.3)
      (subst (λ (x : ℕ). Issuable image (issued_in c.kept) c.chain (has c.fault) k.wave x xs) (sym key.instr)
      (subst (λ (x : ℕ). Issuable image (issued_in c.kept) c.chain (has c.fault) x i xs) (sym key.wave) may))
      in
      let free : Issuable image (issued_in c.kept) c.chain false k.wave k.instr (operands_at image k) =
      subst (λ (b : Bool). Issuable image (issued_in c.kept) c.chain b k.wave k.instr
      (operands_at image k)) may.going may' in
      elim (cases_Bool (is_past_at image k)) [
        | inl p ↦ none.faults k (grind (arith, both_ways, O.past_is, O.first_of))
        | inr p ↦ none.goes k (record { waits = waits; may = free; within = p; going = going })
      ]

  -- the other way round
  module _ (c : PartContent) (none : NoBare c) (free : c.queued ≡ []) (m : Outside)
      (is : IsBuffer image world began (whole_of c) m) where
    no_front : (e : Queued) (r j : ℕ) → front c.queued r j ≡ Some e → ⊥
    no_front e r j h = grind arith

    asking_are : waiting_in image c.kept ≡ asking image c
    asking_are j = λ w i. cond (sym (none w i) j) None (waiting_in image c.kept w i)

    asked_here : (w i : ℕ) (k : Kept) → entry_of c.kept w i ≡ Some k → IsAsked image world (asked_of k)
    asked_here w i k e = grind (arith, key_of c.kept w i k e)

    pub parted_so : Parted image world began c
    parted_so = (
      record {
        counts = issued_in c.kept;
        memory = m;
        legal = subst (λ (f : ℕ → ℕ → Option (List ℕ)).
            Legal image world (issued_in c.kept) f (has c.fault) c.chain m) asking_are is.ok.legal;
        partly = grind (arith, asked_here, both_ways, no_front, O.with_cells);
        fault = is.fault;
        quiet = λ e. free;
      },
      λ e r j h. absurd (no_front e r j h),
    )
