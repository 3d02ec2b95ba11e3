-- What tables and a buffer stand for is fit: no fact spans two locks.
use Rattle.std.proofs.Common.{arith, ℕ, ◌≡◌, ◌⊎◌, Bool, true, false, cond, ◌&&◌, List, [], ◌∷◌, ◌++◌, Option}
use Rattle.std.proofs.Common.{Some, None, refl, sym, ap, ◌∙◌, inl, inr, eq-eqb, eqb-true}
use Rattle.std.proofs.lemmas.Bool.{cases_Bool, both_ways, cond-true, cond-false, and_parts, and_from}
use Rattle.ws_words.specs.Outside.{World}
use Rattle.ws_isa.specs.Image.{Image, Token, is_memory, result_of, sends}
use Rattle.ws_isa.specs.Walk.{Ports, no_ports, Inst, start_tokens}
use Rattle.df_core.specs.Core.{Key, HasFired, IsSent, same_key, put_all, operands_in}
use Rattle.df_core.specs.Fit.{FiresAt, RightToken, RightRequest, StoppedAt, Fit}
use Rattle.df_core.specs.Shown.{Tables, Buffer, TablesOk, BufferOk, plain_tokens, op_tokens, owed, lists}
use Rattle.df_core.specs.Shown.{waits_if, asking, shown}
use Rattle.df_core.proofs.Walked.Facts.{WalkFacts}
use Rattle.df_core.proofs.Keeping.Ports.{put_all_held, put_all_from, put_all_lands}
use Rattle.df_core.proofs.Walked.SlotLists.{is_sent_append_left, is_sent_append_right, is_sent_append_cases}
use Rattle.df_core.proofs.Keeping.MatchKept.{same_inst, same_value, right_operands}
use Rattle.ws_words.specs.Items.{or_else}

pub lists_true : (ks : List Key) (w i : ℕ) → lists ks w i ≡ true → HasFired ks w i
lists_true [] w i e = both_ways true (sym e) refl
lists_true (k ∷ ks) w i e = go (cases_Bool (same_key k.wave k.instr w i)) (λ h. lists_true ks w i h)
  where
    go : (same_key k.wave k.instr w i ≡ true) ⊎ (same_key k.wave k.instr w i ≡ false)
        → (lists ks w i ≡ true → HasFired ks w i) → HasFired (k ∷ ks) w i
    go j ih = grind (arith, and_parts, eqb-true, k.instr, cond-false)

lists_has : (ks : List Key) (w i : ℕ) → HasFired ks w i → lists ks w i ≡ true
lists_has [] w i h = absurd h
lists_has (k ∷ ks) w i (inl h) = rw (eq-eqb k.wave w h.0, eq-eqb k.instr i h.1) refl
lists_has (k ∷ ks) w i (inr h) = go (cases_Bool (same_key k.wave k.instr w i)) (lists_has ks w i h)
  where
    go : (same_key k.wave k.instr w i ≡ true) ⊎ (same_key k.wave k.instr w i ≡ false) → lists ks w i ≡ true
        → lists (k ∷ ks) w i ≡ true
    go h ih = grind (arith, cond-true, k.instr, cond-false)

-- a token of the list comes from one of its instances
pub record FromPlain (image : Image) (held : Ports) (ks : List Key) (w i p v : ℕ) : Type 0 where
  pub wave : ℕ
  pub instr : ℕ
  pub fired : HasFired ks wave instr
  pub plain : is_memory image instr ≡ false
  pub sent : IsSent (sends image wave instr (operands_in image held wave instr)
      (result_of image instr (operands_in image held wave instr))) w i p v

abbrev plain_sends : Image → Ports → ℕ → ℕ → List Token
plain_sends image held w i = sends image w i (operands_in image held w i)
    (result_of image i (operands_in image held w i))

plain_from : (image : Image) (held : Ports) (ks : List Key) (w i p v : ℕ)
    → IsSent (plain_tokens image held ks) w i p v → FromPlain image held ks w i p v
plain_from image held [] w i p v h = absurd h
plain_from image held (k ∷ ks) w i p v h = go (cases_Bool (is_memory image k.instr))
    (grind (arith, is_sent_append_cases)) (λ g. plain_from image held ks w i p v g)
  where
    go : (is_memory image k.instr ≡ true) ⊎ (is_memory image k.instr ≡ false)
        → IsSent (cond (is_memory image k.instr) [] (plain_sends image held k.wave k.instr)) w i p v
        ⊎ IsSent (plain_tokens image held ks) w i p v →
        (IsSent (plain_tokens image held ks) w i p v → FromPlain image held ks w i p v)
        → FromPlain image held (k ∷ ks) w i p v
    go m h ih = grind arith

plain_has : (image : Image) (held : Ports) (ks : List Key) (a b w i p v : ℕ) → HasFired ks a b
    → is_memory image b ≡ false → IsSent (plain_sends image held a b) w i p v
    → IsSent (plain_tokens image held ks) w i p v
plain_has image held [] a b w i p v f m h = absurd f
plain_has image held (k ∷ ks) a b w i p v (inr f) m h =
    grind (arith, is_sent_append_right, plain_has image held ks a b w i p v f m h)
plain_has image held (k ∷ ks) a b w i p v (inl f) m h = grind (arith, is_sent_append_left)

abbrev op_sends : Image → Buffer → ℕ → ℕ → List Token
op_sends image b w i = sends image w i (or_else (b.kept w i) []) (or_else (b.issued w i) 0)

pub record FromOp (image : Image) (b : Buffer) (ks : List Key) (w i p v : ℕ) : Type 0 where
  pub wave : ℕ
  pub instr : ℕ
  pub listed : HasFired ks wave instr
  pub sent : IsSent (op_sends image b wave instr) w i p v

op_from : (image : Image) (b : Buffer) (ks : List Key) (w i p v : ℕ) → IsSent (op_tokens image b ks) w i p v
    → FromOp image b ks w i p v
op_from image b [] w i p v h = absurd h
op_from image b (k ∷ ks) w i p v h =
    go (grind (arith, is_sent_append_cases))
    (λ g. op_from image b ks w i p v g)
  where
    go : IsSent (op_sends image b k.wave k.instr) w i p v ⊎ IsSent (op_tokens image b ks) w i p v
        → (IsSent (op_tokens image b ks) w i p v → FromOp image b ks w i p v)
        → FromOp image b (k ∷ ks) w i p v
    go h ih = grind arith

op_has : (image : Image) (b : Buffer) (ks : List Key) (a c w i p v : ℕ) → HasFired ks a c
    → IsSent (op_sends image b a c) w i p v → IsSent (op_tokens image b ks) w i p v
op_has image b [] a c w i p v f h = absurd f
op_has image b (k ∷ ks) a c w i p v (inr f) h =
    grind (arith, is_sent_append_right, op_has image b ks a c w i p v f h)
op_has image b (k ∷ ks) a c w i p v (inl f) h = grind (arith, is_sent_append_left)

module _ (image : Image) (world : World) (facts : WalkFacts image world) (t : Tables) (b : Buffer)
    (tok : TablesOk image world t) (bok : BufferOk image world b) where
  -- the walk's instance of one that a table lists
  listed_inst : (w i : ℕ) → HasFired t.fired w i → (u : ℕ) × (x : Inst) × FiresAt image world w i u x
      × (operands_in image t.held w i ≡ x.operands)
  listed_inst w i h =
      let f = tok.fired_full w i h in
      let g = f.1 0 f.0 in
      let r : RightToken image world w i 0 g.0 = tok.right w i 0 g.0 g.1 in (
        r.time,
        r.inst,
        r.at,
        right_operands image world facts t.held w i r.time r.inst r.at (tok.right w i)
            f.1,
      )

  plain_is : (w i u : ℕ) (x : Inst) → FiresAt image world w i u x → operands_in image t.held w i ≡ x.operands
      → is_memory image i ≡ false → plain_sends image t.held w i ≡ sends image x.wave x.instr x.operands
      x.result
  plain_is w i u x at ops m = grind (arith, x.instr, facts.plain, at.fires)

  op_is : (w i a u : ℕ) (x : Inst) → b.issued w i ≡ Some a → FiresAt image world w i u x
      → op_sends image b w i ≡ sends image x.wave x.instr x.operands x.result
  op_is w i a u x e at =
      let k = bok.issued_kept w i a e in
      let r : RightRequest image world w i k.0 = bok.right w i k.0 k.1 in
      let same : r.inst ≡ x = same_inst image world facts w i r.time u r.inst x r.at at in
      let ops : or_else (b.kept w i) [] ≡ x.operands = ap (λ (o : Option (List ℕ)). or_else o []) k.1
      ∙ sym r.operands ∙ ap (λ (y : Inst). y.operands) same in
      let op = bok.legal.ordered.others w i a e in
      let same2 : op.inst ≡ x = same_inst image world facts w i op.time u op.inst x op.at at in
      let ans : or_else (b.issued w i) 0 ≡ x.result = ap (λ (o : Option ℕ). or_else o 0) e ∙ op.answer
      ∙ ap (λ (y : Inst). y.result) same2 in
      rw (ops, ans, at.wave, at.instr) refl

  owed_right : (w i p v : ℕ) → IsSent (owed image t b) w i p v → RightToken image world w i p v
  owed_right w i p v h =
      elim (is_sent_append_cases (start_tokens image) (plain_tokens image t.held t.fired ++ op_tokens image b
      b.issued_keys) w i p v h) [
        | inl g ↦ facts.start w i p v g
        | inr g ↦
            elim (is_sent_append_cases (plain_tokens image t.held t.fired) (op_tokens image b b.issued_keys)
            w i p v g) [
              | inl k ↦ (let f = plain_from image t.held t.fired w i p v k in
                  let l = listed_inst f.wave f.instr f.fired in
                  facts.sent l.0 l.1 l.2.fires w i p v
                  (rw (plain_is f.wave f.instr l.0 l.1 l.2 l.3 f.plain) at
                  f.sent))
              | inr k ↦ (let f = op_from image b b.issued_keys w i p v k in
                  let e = (bok.listed f.wave f.instr).0 f.listed in
                  let op = bok.legal.ordered.others f.wave f.instr e.0 e.1 in
                  facts.sent op.time op.inst op.at.fires w i p v
                  (rw (op_is f.wave f.instr e.0 op.time op.inst e.1 op.at) at f.sent))
            ]
      ]

  way_right : (w i p v : ℕ) → put_all t.held (owed image t b) no_ports w i p ≡ Some v
      → RightToken image world w i p v
  way_right w i p v e = grind (arith, put_all_from, t.held, owed_right)

  there : (w i p v : ℕ) → IsSent (owed image t b) w i p v → (t.held w i p ≡ Some v)
      ⊎ (put_all t.held (owed image t b) no_ports w i p ≡ Some v)
  there w i p v h =
      let r = put_all_lands t.held (owed image t b) no_ports w i p v h in
      elim r.1 [
        | inl k ↦
            inl (k ∙ ap (λ (n : ℕ). Some n) (same_value image world facts w i p r.0 v (tok.right w i p r.0 k)
            (owed_right w i p v h)))
        | inr k ↦
            inr (k ∙ ap (λ (n : ℕ). Some n) (same_value image world facts w i p r.0 v (way_right w i p r.0 k)
            (owed_right w i p v h)))
      ]

  unknown_if : (w i : ℕ) (o : Option ℕ) (k : Option (List ℕ)) (f : Bool) (ops xs : List ℕ)
      → waits_if o k (cond f (Some ops) None) ≡ Some xs → (k ≡ Some xs) ⊎ ((f ≡ true) × (ops ≡ xs))
  unknown_if w i o k f ops xs e = grind arith

  waits_known : (o : Option ℕ) (k n : Option (List ℕ)) (xs : List ℕ) → ((ys : List ℕ) → k ≡ Some ys → ys ≡ xs)
      → n ≡ Some xs → (waits_if o k n ≡ Some xs) ⊎ ((a : ℕ) × (o ≡ Some a))
  waits_known (Some a) k n xs f e = inr (a, refl)
  waits_known None (Some ys) n xs f e = inl (ap (λ (zs : List ℕ). Some zs) (f ys refl))
  waits_known None None n xs f e = inl e

  asks_still : (o : Option ℕ) (k n : Option (List ℕ)) (xs : List ℕ) → waits_if o k None ≡ Some xs
      → waits_if o k n ≡ Some xs
  asks_still o k n xs e = grind arith

  still_stopped : StoppedAt image world bok.legal.cut (asking b) b.chain
      → StoppedAt image world bok.legal.cut (shown image t b).waiting b.chain
  unfolding shown
  still_stopped h = record {
    time = h.time;
    fault = h.fault;
    from = h.from;
    passed = h.passed;
    wave = h.wave;
    next = h.next;
    waits = asks_still (b.issued h.fault.inst.wave h.fault.inst.instr)
        (b.kept h.fault.inst.wave h.fault.inst.instr)
        (cond (lists t.fired h.fault.inst.wave h.fault.inst.instr && is_memory image h.fault.inst.instr)
        (Some (operands_in image t.held h.fault.inst.wave h.fault.inst.instr)) None) h.fault.inst.operands
        h.waits;
  }

  pub shown_fit : Fit image world (shown image t b)
  unfolding shown
  shown_fit = record {
    held_right = tok.right;
    way_right = way_right;
    request_right =
        λ w i xs e. elim (unknown_if w i (b.issued w i) (b.kept w i) (lists t.fired w i && is_memory image i)
        (operands_in image t.held w i) xs e) [
          | inl k ↦ bok.right w i xs k
          | inr k ↦ (let p = and_parts _ _ k.0 in
              let l = listed_inst w i (lists_true t.fired w i p.0) in
              record { time = l.0; inst = l.1; at = l.2; operands = sym l.3 ∙ k.1; memory = p.1 })
        ];
    one = λ w i p v e. put_all_held t.held (owed image t b) no_ports w i p v e;
    fired_full = tok.fired_full;
    full_fired = tok.full_fired;
    start_there =
        λ w i p v h. there w i p v (is_sent_append_left (start_tokens image)
        (plain_tokens image t.held t.fired ++ op_tokens image b b.issued_keys) w i p v h);
    sent_there = λ u x fx told w i p v h.
        there w i p v
        (is_sent_append_right (start_tokens image) (plain_tokens image t.held t.fired ++ op_tokens image b
        b.issued_keys) w i p v
        (elim (cases_Bool (is_memory image x.instr)) [
          | inl m ↦ (let e = told.issued m in
              is_sent_append_right (plain_tokens image t.held t.fired) (op_tokens image b b.issued_keys) w i p
              v
              (op_has image b b.issued_keys x.wave x.instr w i p v ((bok.listed x.wave x.instr).1 e)
              (rw (op_is x.wave x.instr e.0 u x e.1 (record { fires = fx; wave = refl; instr = refl })) h)))
          | inr m ↦ (let l = listed_inst x.wave x.instr (told.fired m) in
              let same : l.1 ≡ x = same_inst image world facts x.wave x.instr l.0 u l.1 x l.2
              (record { fires = fx; wave = refl; instr = refl }) in
              let g : plain_sends image t.held x.wave x.instr ≡ sends image x.wave x.instr x.operands
              x.result =
              plain_is x.wave x.instr l.0 l.1 l.2 l.3 m
              ∙ ap (λ (y : Inst). sends image y.wave y.instr y.operands y.result) same in
              is_sent_append_left (plain_tokens image t.held t.fired) (op_tokens image b b.issued_keys) w i p
              v
              (plain_has image t.held t.fired x.wave x.instr w i p v (told.fired m) m (rw g h)))
        ]));
    asked = λ u x fx m f.
        (let l = listed_inst x.wave x.instr f in
        let at : FiresAt image world x.wave x.instr u x = record { fires = fx; wave = refl; instr = refl } in
        let same : l.1 ≡ x = same_inst image world facts x.wave x.instr l.0 u l.1 x l.2 at in
        waits_known (b.issued x.wave x.instr) (b.kept x.wave x.instr)
        (cond (lists t.fired x.wave x.instr && is_memory image x.instr)
        (Some (operands_in image t.held x.wave x.instr)) None) x.operands
        (λ ys e. (let r : RightRequest image world x.wave x.instr ys = bok.right x.wave x.instr ys e in
        sym r.operands ∙ ap (λ (y : Inst). y.operands) (same_inst image world facts x.wave x.instr r.time u
        r.inst x r.at at)))
        (cond-true (lists t.fired x.wave x.instr && is_memory image x.instr) _ _
        (and_from _ _ (lists_has t.fired x.wave x.instr f) m) ∙ ap (λ (zs : List ℕ). Some zs)
        (l.3 ∙ ap (λ (y : Inst). y.operands) same)));
    legal = record {
      cut = bok.legal.cut;
      ordered = bok.legal.ordered;
      settled = bok.legal.settled;
      halted = λ e. still_stopped (bok.legal.halted e);
    };
  }
