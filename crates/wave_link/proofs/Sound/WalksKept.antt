-- The walk of an image with no-ops follows its draft's.
use Rattle.std.proofs.Common.{ℕ, zero, suc, ◌+◌, ◌≡◌, ◌<◌, ◌≤◌, ◌⊎◌, Bool, true, false, cond, List, [], ◌∷◌}
use Rattle.std.proofs.Common.{◌++◌, length, length-append, Option, Some, None, refl, sym, ap, ap₂, ◌∙◌, inl}
use Rattle.std.proofs.Common.{inr, subst, arith, eqb, eq-eqb, ne_eqb}
use Rattle.std.proofs.lemmas.Bool.{cases_Bool, cases_eq, cases_lt, lt-ltb, le-ltb}
use Rattle.ws_words.specs.Outside.{World}
use Rattle.ws_isa.specs.declared.instr.Dest.{Dest}
use Rattle.ws_isa.specs.declared.instr.Op.TheVariants.{Nop}
use Rattle.ws_isa.specs.Image.{Image, first_number, is_memory, is_memory_op, now_dests, edge_dests, size_of}
use Rattle.ws_isa.specs.Image.{stops, target, is_first, result_of, result_of_op, answer, answer_op, after}
use Rattle.ws_isa.specs.Image.{after_op, tokens_to, IsIn, IsBlock}
use Rattle.ws_isa.specs.Sound.{HasDest}
use Rattle.ws_isa.specs.Walk.{Ports, with_token, with_tokens, gather, Inst, Pos, enter, wave_of, operands_at}
use Rattle.ws_isa.specs.Walk.{result_at, fire, choice, edge_tokens, leave, is_within, step, start_tokens}
use Rattle.ws_isa.specs.Walk.{opening, pos, mem, fires_from, fires, walk, has_ended}
use Rattle.ws_isa.proofs.Slots.{with_tokens_append}
use Rattle.wave_link.proofs.Grown.GrownForm.{Grown, renamed, extra, nop_slot, own_slot, Trigger, Whole, Own}
use Rattle.wave_link.proofs.Grown.GrownForm.{Before}
use Rattle.wave_link.proofs.Sound.SlotsKept.{extra_cases}
use Rattle.wave_link.proofs.Sound.WalksForm.{SentLike, op_at, choice_at, WalksAlike, StandsFor, AtEnd}
use Rattle.ws_isa.proofs.Images.{tokens_append}
use Rattle.ws_isa.proofs.Steps.{first_up}

-- a value is sent to destinations under wave w
abbrev pub with_dest : ℕ → ℕ → Dest → Ports → Ports
with_dest w v d sent = with_token (record { wave = w; instr = d.instr; port = d.port; value = v }) sent

abbrev pub with_dests : ℕ → ℕ → List Dest → Ports → Ports
with_dests w v ds sent = with_tokens (tokens_to w v ds) sent

with_append : (w v : ℕ) (xs ys : List Dest) (s : Ports) → with_dests w v (xs ++ ys) s ≡ with_dests w v ys
    (with_dests w v xs s)
with_append w v xs ys s = grind (arith, tokens_append, with_tokens_append)

-- at another instruction nothing changes
elsewhere : (w v : ℕ) (d : Dest) (s : Ports) (u m p : ℕ) → (d.instr ≡ m → ⊥)
    → with_dest w v d s u m p ≡ s u m p
elsewhere w v d s u m p n = grind arith

-- what n instructions from k on send along an edge
abbrev pub edge_sent : Image → ℕ → ℕ → ℕ → (ℕ → ℕ) → ℕ → ℕ → Ports → Ports
edge_sent image b r w results k n sent = with_tokens (edge_tokens image b r w results k n) sent

edge_next : (image : Image) (b r w : ℕ) (results : ℕ → ℕ) (k n : ℕ) (a : Ports)
    → edge_sent image b r w results k (suc n) a ≡ edge_sent image b r w results (suc k) n
    (with_dests w (results k) (edge_dests image b r k) a)
edge_next image b r w results k n a = grind (arith, with_tokens_append)

-- along the edge that the exit chooses
abbrev pub cross_to : Image → Pos → Pos
cross_to image p = enter image (target image p.block (choice image p)) p.wave
    (with_tokens (edge_tokens image p.block (choice image p) p.wave p.results (first_number image p.block)
    (size_of image p.block)) p.sent)
    p.results p.memory

-- n steps on, and the instances that they fire
abbrev pub ahead : Image → ℕ → Pos → Pos
ahead image zero p = p
ahead image (suc n) p = step image (ahead image n p)

abbrev pub count_of : Option Inst → ℕ
count_of None = 0
count_of (Some x) = 1

abbrev pub fired_in : Image → ℕ → Pos → ℕ
fired_in image zero p = 0
fired_in image (suc n) p = fired_in image n p + count_of (fires_from image (ahead image n p))

ahead_sum : (image : Image) (m n : ℕ) (p : Pos) → ahead image (m + n) p ≡ ahead image m (ahead image n p)
ahead_sum image zero n p = grind (arith, ahead)
ahead_sum image (suc m) n p = ap (λ (k : ℕ). ahead image k p) (same m n)
    ∙ ap (step image) (ahead_sum image m n p)
  where
    same : (m n : ℕ) → suc m + n ≡ suc (m + n)
    same m n = omega arith

fired_sum : (image : Image) (m n : ℕ) (p : Pos) → fired_in image (m + n) p ≡ fired_in image n p + fired_in
    image m (ahead image n p)
fired_sum image zero n p = grind (arith, fired_in)
fired_sum image (suc m) n p =
    ap (λ (k : ℕ). fired_in image k p) (same m n)
    ∙ (grind (arith, ahead_sum, fired_sum image m n p))
  where
    same : (m n : ℕ) → suc m + n ≡ suc (m + n)
    same m n = omega arith

    sum : (a b c : ℕ) → (a + b) + c ≡ a + (b + c)
    sum a b c = omega arith

module _ (draft image : Image) (g : Grown draft image) where
  some_same : {j k : ℕ} → Some j ≡ Some k → j ≡ k
  some_same e = cc

  like_dest : (w v : ℕ) (d : Dest) (s t : Ports) → g.origin (g.new d.instr) ≡ Some d.instr
      → SentLike g.origin s t
      → SentLike g.origin (with_dest w v (record { instr = g.new d.instr; port = d.port }) s)
      (with_dest w v d t)
  like_dest w v d s t r h u m p k e = grind (arith, cases_eq, with_dest, elsewhere, some_same)

  like_list : (w v : ℕ) (ds : List Dest) (s t : Ports)
      → ((j q : ℕ) → HasDest ds j q → g.origin (g.new j) ≡ Some j) → SentLike g.origin s t
      → SentLike g.origin (with_dests w v (renamed g.new ds) s) (with_dests w v ds t)
  like_list w v [] s t r h = h
  like_list w v (d ∷ ds) s t r h =
      like_list w v ds (with_dest w v (record { instr = g.new d.instr; port = d.port }) s) (with_dest w v d t)
      (λ j q x. r j q (inr x)) (like_dest w v d s t (r d.instr d.port (inl (refl, refl))) h)

  -- what goes to no-ops alone isn't seen
  like_extra : (w v : ℕ) (ds : List Dest) (s t : Ports) → ((j q : ℕ) → HasDest ds j q → g.origin j ≡ None)
      → SentLike g.origin s t → SentLike g.origin (with_dests w v ds s) t
  like_extra w v [] s t n h = h
  like_extra w v (d ∷ ds) s t n h = like_extra w v ds (with_dest w v d s) t (λ j q x. n j q (inr x))
      (λ u m p k e. other u m p k e (cases_eq d.instr m))
    where
      other : (u m p k : ℕ) → g.origin m ≡ Some k → (d.instr ≡ m) ⊎ (d.instr ≡ m → ⊥)
          → with_dest w v d s u m p ≡ t u k p
      other u m p k e (inl f) = absurd (cc (sym (n d.instr d.port (inl (refl, refl))) ∙ (ap g.origin f ∙ e)))
      other u m p k e (inr x) = elsewhere w v d s u m p x ∙ h u m p k e

  like_both : (w v : ℕ) (ds xs : List Dest) (s t : Ports)
      → ((j q : ℕ) → HasDest ds j q → g.origin (g.new j) ≡ Some j)
      → ((j q : ℕ) → HasDest xs j q → g.origin j ≡ None) → SentLike g.origin s t →
      SentLike g.origin (with_dests w v (renamed g.new ds ++ xs) s) (with_dests w v ds t)
  like_both w v ds xs s t r n h = subst (λ (y : Ports). SentLike g.origin y (with_dests w v ds t))
      (sym (with_append w v (renamed g.new ds) xs s)) (like_extra w v xs (with_dests w v (renamed g.new ds) s)
      (with_dests w v ds t) n (like_list w v ds s t r h))

  like_gather : (s t : Ports) (w m k p n : ℕ) → g.origin m ≡ Some k → SentLike g.origin s t
      → gather s w m p n ≡ gather t w k p n
  like_gather s t w m k p zero e h = refl
  like_gather s t w m k p (suc n) e h = grind (arith, like_gather s t w m k (suc p) n e h)

  own_none : (b k : ℕ) → IsBlock draft b → (j q : ℕ) → HasDest (own_slot (g.trigger b) (g.nop b) k) j q
      → g.origin j ≡ None
  own_none b k h j q x = grind (arith, Trigger, own_slot, Whole, Before, Own, cases_Bool, nop_slot, extra)

  result_by_op : (i : Image) (p : Pos) → result_at i p ≡ cond (is_memory_op (op_at i p.next))
      (answer_op (op_at i p.next) (operands_at i p) p.memory)
      (result_of_op (op_at i p.next) (operands_at i p))
  unfolding result_at is_memory answer result_of
  result_by_op i p = refl

  memory_by_op : (i : Image) (p : Pos) → (fire i p).memory ≡ cond (is_memory_op (op_at i p.next))
      (after_op (op_at i p.next) (operands_at i p) p.memory) p.memory
  unfolding is_memory after
  memory_by_op i p = refl

  module _ (like : WalksAlike draft image g) where
    module _ (old new : Pos) (s : StandsFor draft image g old new) where
      at_shift : old.next < first_number draft (suc old.block) → g.origin (old.next + g.shift old.block)
          ≡ Some old.next
      at_shift l = ap g.origin (sym (g.new_is old.block old.next s.here (s.low, l)))
          ∙ g.origin_real old.block old.next s.here (s.low, l)

      operands_alike : old.next < first_number draft (suc old.block) → operands_at image new ≡ operands_at
          draft old
      unfolding operands_at wave_of
      operands_alike l = grind (arith, like_gather, at_shift)

      op_alike : old.next < first_number draft (suc old.block) → op_at image new.next ≡ op_at draft old.next
      op_alike l = ap (op_at image) s.next ∙ like.ops old.block old.next s.here (s.low, l)

      result_alike : old.next < first_number draft (suc old.block) → result_at image new ≡ result_at draft old
      result_alike l = grind (arith, result_by_op, op_alike, operands_alike, op_at)

      after_alike : old.next < first_number draft (suc old.block) → (fire image new).memory
          ≡ (fire draft old).memory
      after_alike l = grind (arith, memory_by_op, op_alike, operands_alike, op_at)

      -- a real instruction fires in both
      pub fires_alike : old.next < first_number draft (suc old.block)
          → StandsFor draft image g (fire draft old) (fire image new)
      fires_alike l = record {
        here = s.here;
        low = omega arith;
        high = omega arith;
        over = refl;
        block = s.block;
        wave = s.wave;
        next = omega arith;
        sent = sent_alike;
        results = λ m k e. result_of_one m k e (cases_eq k old.next);
        same_memory = after_alike l;
      }
        where
          dests : now_dests image new.next ≡ renamed g.new (now_dests draft old.next) ++ own_slot
              (g.trigger old.block) (g.nop old.block) old.next
          dests = ap (now_dests image) s.next ∙ g.now old.block old.next s.here (s.low, l)

          sent_alike : SentLike g.origin (with_dests new.wave (result_at image new) (now_dests image new.next)
              new.sent) (with_dests old.wave (result_at draft old) (now_dests draft old.next) old.sent)
          sent_alike = grind (arith, SentLike, with_dests, result_alike, dests, like_both, own_slot, own_none)

          result_of_one : (m k : ℕ) → g.origin m ≡ Some k → (k ≡ old.next) ⊎ (k ≡ old.next → ⊥)
              → cond (eqb m new.next) (result_at image new) (new.results m) ≡ cond (eqb k old.next)
              (result_at draft old) (old.results k)
          result_of_one m k e (inl f) =
              let at : m ≡ new.next = g.origin_only m k e
              ∙ (ap g.new f ∙ (g.new_is old.block old.next s.here (s.low, l) ∙ sym s.next)) in
              rw (eq-eqb m new.next at, eq-eqb k old.next f) (result_alike l)
          result_of_one m k e (inr n) = grind (arith, some_same, at_shift)

      -- what is kept for the edge, by n instructions of the draft
      edge_alike : (r k n : ℕ) (a b : Ports) → first_number draft old.block ≤ k
          → k + n ≤ first_number draft (suc old.block) → SentLike g.origin a b →
          SentLike g.origin (edge_sent image old.block r old.wave new.results (k + g.shift old.block) n a)
          (edge_sent draft old.block r old.wave old.results k n b)
      edge_alike r k zero a b l h like_ab = like_ab
      edge_alike r k (suc n) a b l h like_ab =
          let i : IsIn draft old.block k = (l, omega arith) in
          let at : g.origin (k + g.shift old.block) ≡ Some k =
          ap g.origin (sym (g.new_is old.block k s.here i)) ∙ g.origin_real old.block k s.here i in
          let v : new.results (k + g.shift old.block) ≡ old.results k =
          s.results (k + g.shift old.block) k at in
          let a' : Ports = with_dests old.wave (new.results (k + g.shift old.block))
          (edge_dests image old.block r (k + g.shift old.block)) a in
          let b' : Ports = with_dests old.wave (old.results k) (edge_dests draft old.block r k) b in
          let one : SentLike g.origin a' b' =
          rw (ap₂ (λ (x : ℕ) (ds : List Dest). with_dests old.wave x ds a) v
          (like.each old.block r k s.here i))
          (like_both old.wave (old.results k) (edge_dests draft old.block r k) (like.extras old.block r k) a
          b (λ j q x. like.each_real old.block r k j q s.here i x)
          (λ j q x. like.extras_none old.block r k j q s.here i x) like_ab) in
          let e : suc (k + g.shift old.block) ≡ suc k + g.shift old.block = omega arith in
          grind (arith, edge_next, edge_alike r (suc k) n a' b' (omega arith) (omega arith) one)

    edge_more : (b r w k n : ℕ) (results : ℕ → ℕ) (a : Ports) → edge_dests image b r (k + n) ≡ []
        → edge_sent image b r w results k (suc n) a ≡ edge_sent image b r w results k n a
    edge_more b r w k zero results a e = grind (arith, edge_next, with_dests)
    edge_more b r w k (suc n) results a e =
        edge_next image b r w results k (suc n) a
        ∙ (edge_more b r w (suc k) n results (with_dests w (results k) (edge_dests image b r k) a)
        (ap (edge_dests image b r) (omega arith) ∙ e)
        ∙ sym (edge_next image b r w results k n a))

    size_grows : (b : ℕ) → IsBlock draft b → size_of image b ≡ extra (g.trigger b) + size_of draft b
    unfolding size_of
    size_grows b h = omega (arith, g.ends b h, g.first b h, first_up draft b)

    end_number : (b : ℕ) → IsBlock draft b → first_number image b + size_of draft b ≡ g.nop b
    unfolding size_of
    end_number b h = omega (arith, g.nop_is b h, g.first b h, first_up draft b)

    end_size : (b : ℕ) → first_number draft b + size_of draft b ≤ first_number draft (suc b)
    unfolding size_of
    end_size b = omega (arith, first_up draft b)

    -- the no-op keeps nothing for an edge
    edge_whole : (b r w : ℕ) (results : ℕ → ℕ) (a : Ports) → IsBlock draft b
        → edge_sent image b r w results (first_number image b) (size_of image b) a ≡ edge_sent image b r w
        results (first_number draft b + g.shift b) (size_of draft b) a
    edge_whole b r w results a h = go (g.trigger b) refl (size_grows b h)
      where
        same : edge_sent image b r w results (first_number image b) (size_of draft b) a ≡ edge_sent image b r
            w results (first_number draft b + g.shift b) (size_of draft b) a
        same = ap (λ (k : ℕ). edge_sent image b r w results k (size_of draft b) a) (g.first b h)

        with_nop : extra (g.trigger b) ≡ 1 → size_of image b ≡ suc (size_of draft b)
            → edge_sent image b r w results (first_number image b) (size_of image b) a ≡ edge_sent image b r w
            results (first_number draft b + g.shift b) (size_of draft b) a
        with_nop x e = grind (arith, edge_sent, edge_more, end_number, same)

        go : (t : Trigger) → g.trigger b ≡ t → size_of image b ≡ extra (g.trigger b) + size_of draft b
            → edge_sent image b r w results (first_number image b) (size_of image b) a ≡ edge_sent image b r w
            results (first_number draft b + g.shift b) (size_of draft b) a
        go t f e = grind (arith, extra, edge_sent, same, with_nop)

    choice_is : (i : Image) (p : Pos) → choice i p ≡ choice_at i p.block p.results
    unfolding choice choice_at
    choice_is i p = refl

    crosses_alike : (old mid : Pos)
        → StandsFor draft image g old (record mid { next = old.next + g.shift old.block; over = old.over })
        → AtEnd draft image g old mid → stops draft old.block ≡ false
        → StandsFor draft image g (cross_to draft old) (cross_to image mid)
    crosses_alike old mid s e st =
        let r : ℕ = choice draft old in
        let c : choice image mid ≡ r = grind (arith, choice_is, choice_at) in
        let t : target image mid.block (choice image mid) ≡ target draft old.block r = grind arith in
        let h : IsBlock draft (target draft old.block r) = g.edges old.block r e.here st in
        record {
          here = h;
          low = omega arith;
          high = first_up draft (target draft old.block r);
          over = refl;
          block = t;
          wave = ap₂ (λ (f : Bool) (w : ℕ). cond f (suc w) w) (grind arith) e.wave;
          next = ap (first_number image) t ∙ g.first (target draft old.block r) h;
          sent =
              rw (ap₂ (λ (b q : ℕ). edge_sent image b q mid.wave mid.results (first_number image b)
              (size_of image b) mid.sent) e.block c
              ∙ (ap (λ (w : ℕ). edge_sent image old.block r w mid.results (first_number image old.block)
              (size_of image old.block) mid.sent) e.wave ∙ edge_whole old.block r old.wave
              mid.results mid.sent e.here))
              (edge_alike old (record mid { next = old.next + g.shift old.block; over = old.over }) s
              r (first_number draft old.block) (size_of draft old.block) mid.sent old.sent
              (omega arith) (end_size old.block) e.sent);
          results = e.results;
          same_memory = e.same_memory;
        }

    -- the no-op fires and nothing is seen of it
    quiet : (old new : Pos) → StandsFor draft image g old new → extra (g.trigger old.block) ≡ 1
        → old.next ≡ first_number draft (suc old.block) → AtEnd draft image g old (fire image new)
    quiet old new s x e =
        let at : new.next ≡ g.nop old.block = grind (arith, g.nop_is, old.block) in
        let none : g.origin new.next ≡ None = ap g.origin at ∙ g.origin_nop old.block s.here x in
        let no_dests : now_dests image new.next ≡ [] = grind arith in
        let op : op_at image new.next ≡ Nop = ap (op_at image) at ∙ like.nop_op old.block s.here x in
        record {
          here = s.here;
          block = s.block;
          wave = s.wave;
          sent = subst
              (λ (ds : List Dest). SentLike g.origin (with_dests new.wave (result_at image new) ds new.sent)
              old.sent) (sym no_dests) s.sent;
          results = grind (arith, ne_eqb);
          same_memory = grind (arith, memory_by_op);
        }

    step_over : (i : Image) (p : Pos) → p.over ≡ true → step i p ≡ p
    unfolding step
    step_over i p e = rw e refl

    step_fire : (i : Image) (p : Pos) → p.over ≡ false → p.next < first_number i (suc p.block)
        → step i p ≡ fire i p
    unfolding step
    step_fire i p e l = rw (e, lt-ltb p.next (first_number i (suc p.block)) l) refl

    step_leave : (i : Image) (p : Pos) → p.over ≡ false → first_number i (suc p.block) ≤ p.next
        → step i p ≡ leave i p
    unfolding step
    step_leave i p e l = rw (e, le-ltb p.next (first_number i (suc p.block)) l) refl

    count_over : (i : Image) (p : Pos) → p.over ≡ true → count_of (fires_from i p) ≡ 0
    unfolding fires_from
    count_over i p e = rw e refl

    count_fire : (i : Image) (p : Pos) → p.over ≡ false → p.next < first_number i (suc p.block)
        → count_of (fires_from i p) ≡ 1
    unfolding fires_from
    count_fire i p e l = rw (e, lt-ltb p.next (first_number i (suc p.block)) l) refl

    count_leave : (i : Image) (p : Pos) → p.over ≡ false → first_number i (suc p.block) ≤ p.next
        → count_of (fires_from i p) ≡ 0
    unfolding fires_from
    count_leave i p e l = rw (e, le-ltb p.next (first_number i (suc p.block)) l) refl

    -- the no-op that a step of the draft passes
    unfoldable pub passes_at : Pos → ℕ
    passes_at p = cond p.over 0 (cond (is_within draft p) 0 (extra (g.trigger p.block)))

    passes_over : (p : Pos) → p.over ≡ true → passes_at p ≡ 0
    unfolding passes_at
    passes_over p e = rw e refl

    passes_fire : (p : Pos) → p.over ≡ false → p.next < first_number draft (suc p.block) → passes_at p ≡ 0
    unfolding passes_at
    passes_fire p e l = rw (e, lt-ltb p.next (first_number draft (suc p.block)) l) refl

    passes_leave : (p : Pos) → p.over ≡ false → first_number draft (suc p.block) ≤ p.next
        → passes_at p ≡ extra (g.trigger p.block)
    unfolding passes_at
    passes_leave p e l = rw (e, le-ltb p.next (first_number draft (suc p.block)) l) refl

    -- one step of the draft is one or two of the image
    pub record Stepped (old new : Pos) : Type 0 where
      pub more : ℕ
      pub stands : StandsFor draft image g (step draft old) (ahead image (suc more) new)
      pub fired : fired_in image (suc more) new ≡ count_of (fires_from draft old) + passes_at old

    none_extra : (b : ℕ) → IsBlock draft b → extra (g.trigger b) ≡ 0 → first_number image (suc b)
        ≡ first_number draft (suc b) + g.shift b
    none_extra b h x = omega arith

    at_end_of : (old new : Pos) → StandsFor draft image g old new → AtEnd draft image g old new
    at_end_of old new s = grind arith

    standing : (old new mid : Pos) → StandsFor draft image g old new → AtEnd draft image g old mid
        → StandsFor draft image g old (record mid { next = old.next + g.shift old.block; over = old.over })
    standing old new mid s q = grind arith

    pub stepped : (old new : Pos) → StandsFor draft image g old new → Stepped old new
    stepped old new s = go (cases_Bool old.over) (cases_lt old.next (first_number draft (suc old.block)))
        (extra_cases draft image g old.block) (cases_Bool (stops draft old.block))
      where
        last : first_number draft (suc old.block) ≤ old.next → old.next ≡ first_number draft (suc old.block)
        last l = omega (arith, s.high)

        end_of_block : first_number image (suc new.block) ≡ first_number image (suc old.block)
        end_of_block = ap (λ (b : ℕ). first_number image (suc b)) s.block

        go : (old.over ≡ true) ⊎ (old.over ≡ false) → (old.next < first_number draft (suc old.block))
            ⊎ (first_number draft (suc old.block) ≤ old.next) → (extra (g.trigger old.block) ≡ 0)
            ⊎ (extra (g.trigger old.block) ≡ 1) → (stops draft old.block ≡ true)
            ⊎ (stops draft old.block ≡ false) → Stepped old new
        go (inl o) x y z = grind (arith, step_over, count_over, passes_over)
        go (inr o) (inl l) y z = grind (arith, end_of_block, step_fire, fires_alike, count_fire, passes_fire)
        go (inr o) (inr l) (inl x) z =
            let w : first_number image (suc new.block) ≤ new.next = grind (arith, none_extra) in
            record {
              more = 0;
              stands = rw (step_leave draft old o l, step_leave image new (s.over ∙ o) w) (left z);
              fired = grind (arith, count_leave, passes_leave);
            }
          where
            left : (stops draft old.block ≡ true) ⊎ (stops draft old.block ≡ false)
                → StandsFor draft image g (leave draft old) (leave image new)
            left (inl e) = rw (e, ap (stops image) s.block ∙ (g.stops_are old.block ∙ e))
                (grind arith)
            left (inr e) = rw (e, ap (stops image) s.block ∙ (g.stops_are old.block ∙ e))
                (crosses_alike old new (standing old new new s (at_end_of old new s)) (at_end_of old new s) e)
        go (inr o) (inr l) (inr x) (inl e) = absurd (omega (arith, like.stop_whole old.block s.here e))
        go (inr o) (inr l) (inr x) (inr e) =
            let w : new.next < first_number image (suc new.block) = grind arith in
            let mid : Pos = fire image new in
            let q : AtEnd draft image g old mid = quiet old new s x (last l) in
            let v : first_number image (suc mid.block) ≤ mid.next = grind arith in
            let f : step image new ≡ mid = step_fire image new (s.over ∙ o) w in
            record {
              more = 1;
              stands = grind (arith, step_leave, crosses_alike, standing);
              fired = grind (arith, count_fire, count_leave, passes_leave);
            }

    -- the no-ops that t steps pass
    unfoldable pub passes_in : ℕ → Pos → ℕ
    passes_in zero p = 0
    passes_in (suc t) p = passes_in t p + passes_at (ahead draft t p)

    pub record Kept (t : ℕ) (old new : Pos) : Type 0 where
      pub steps : ℕ
      pub as_many : t ≤ steps
      pub stands : StandsFor draft image g (ahead draft t old) (ahead image steps new)
      pub fired : fired_in image steps new ≡ fired_in draft t old + passes_in t old

    -- whatever the draft's walk does, the image's does
    pub keeps : (old new : Pos) → StandsFor draft image g old new → (t : ℕ) → Kept t old new
    unfolding passes_in
    keeps old new s zero = grind arith
    keeps old new s (suc t) =
        let k : Kept t old new = keeps old new s t in
        let x : Stepped (ahead draft t old) (ahead image k.steps new) = grind (arith, stepped) in
        record {
          steps = suc x.more + k.steps;
          as_many = omega arith;
          stands = grind (arith, ahead_sum);
          fired = fired_sum image (suc x.more) k.steps new ∙ (grind arith);
        }
      where
        sums : (a b c d : ℕ) → (a + b) + (c + d) ≡ (a + c) + (b + d)
        sums a b c d = omega arith

    pub opens_alike : (world : World) → StandsFor draft image g (opening draft world) (opening image world)
    unfolding opening start_tokens is_first
    opens_alike world = grind (arith, first_up, SentLike, with_dests, like_list)

    pub pos_is : (i : Image) (world : World) (t : ℕ) → pos i world t ≡ ahead i t (opening i world)
    unfolding pos
    pos_is i world zero = refl
    pos_is i world (suc t) = ap (step i) (pos_is i world t)

    walk_is : (i : Image) (world : World) (t : ℕ) → length (walk i world t) ≡ fired_in i t (opening i world)
    unfolding walk fires
    walk_is i world zero = refl
    walk_is i world (suc t) = grind (arith, pos_is, length-append, walk_is i world t)

    pub record Alike (world : World) (t : ℕ) : Type 0 where
      pub steps : ℕ
      pub as_many : t ≤ steps
      pub outside : mem image world steps ≡ mem draft world t
      pub ended : has_ended image world steps ≡ has_ended draft world t
      pub fired : length (walk image world steps) ≡ length (walk draft world t) + passes_in t
          (opening draft world)

    pub alike : (world : World) (t : ℕ) → Alike world t
    unfolding mem has_ended
    alike world t =
        let k : Kept t (opening draft world) (opening image world) = grind (arith, keeps, opens_alike) in
        grind (arith, pos_is, walk_is)
