-- The steps of each block of a draft stand in it.
use Rattle.std.proofs.Common.{ℕ, zero, suc, ◌+◌, ◌-◌, ◌≡◌, ◌<◌, ◌≤◌, ◌⊎◌, Bool, true, false, cond, List, []}
use Rattle.std.proofs.Common.{◌∷◌, length, Some, refl, sym, ap, ◌∙◌, subst, inl, inr, arith}
use Rattle.std.proofs.lemmas.Bool.{cases_Bool, cases_lt, cases_order, both_ways, cond-true, cond-false}
use Rattle.ws_isa.specs.declared.instr.Op.{Op}
use Rattle.ws_isa.specs.declared.instr.Op.TheVariants.{Merge, Advance, Halt, Steer, Send}
use Rattle.ws_isa.specs.declared.instr.Dest.{Dest}
use Rattle.ws_isa.specs.Image.{Image, Instr, Array, instr_at, first_number, now_dests, now_of, is_advance}
use Rattle.ws_isa.specs.Image.{is_advance_op, IsIn}
use Rattle.ws_isa.specs.Sound.{HasDest}
use Rattle.wave_gen.specs.Waits.{DistinctDests, Owner, Step, Fires, Rests, Skips, Copies, Stands}
use Rattle.wave_gen.specs.Wire.{Target, Back, Front, dest_of, dests_of, WiredInstr, Wants, Made, emit, rest}
use Rattle.wave_gen.specs.Wire.{with_rooms, make, Item, Make, Act, Same}
use Rattle.wave_gen.specs.Plans.{merges, HowLeft, Onto, Either, Lands, Halts, Plan, pulse, TailAt}
use Rattle.wave_gen.specs.Plans.{steers, sends, steered, hang, tails_of, end_wants, behind_source}
use Rattle.wave_gen.specs.Plans.{exit_made, body_made, renew, advances, plan_at, made_at, starts_at, begins}
use Rattle.wave_gen.specs.Plans.{owner_of, instr_of, draft_of, source_of, operands_needed, chooses, KeptOf}
use Rattle.wave_gen.proofs.Planning.Planned.{is_act_op, ItemsAre, SourceIs, PlanIs}
use Rattle.wave_gen.proofs.Waits.Wiring.{Ahead, CodeOk, spot_of}
use Rattle.wave_gen.proofs.OfItems.Keeping.{KeptOk, KeptAt, Body, wire_body, renew_body, advances_body}
use Rattle.wave_gen.proofs.OfItems.Keeping.{merge_body, act_body, AllHold, hang_count, from_src, rooms_chain}
use Rattle.wave_gen.proofs.OfItems.Keeping.{selected_chain, source_body}
use Rattle.wave_gen.proofs.OfItems.Lines.{Lines, line_at, Items, Tails, rooms_more, make_more, wire_more}
use Rattle.wave_gen.proofs.OfItems.Lines.{renew_more, hang_lines, selected_more}
use Rattle.wave_gen.proofs.Waits.Fronts.{advances_count}
use Rattle.wave_gen.proofs.Drawing.Blocks.{Facts, facts, Fine, FineAt, entry_inside, begins_next, begins_le}
use Rattle.wave_gen.proofs.Drawing.Blocks.{made_is}
use Rattle.wave_gen.proofs.Drawing.Number.{number_is, instr_is}
use Rattle.ws_words.specs.Items.{nth}

hold_steers : (w v : Wants) (xs : List ℕ) → AllHold (steers w v xs)
hold_steers w v [] = tt
hold_steers w v (x ∷ xs) = grind (arith, hold_steers w v xs)

hold_sends : (p : ℕ) (xs : List ℕ) → AllHold (sends p xs)
hold_sends p [] = tt
hold_sends p (x ∷ xs) = grind (arith, hold_sends (suc p) xs)

hold_tails : (width : ℕ) (starts : ℕ → Wants) (e : HowLeft) → AllHold (tails_of width starts e)
hold_tails width starts e = grind (arith, hold_steers, hold_sends)

-- lines of a kind
pub steers_kind : (P : Op → Type 0) → P Steer → (w v : Wants) (xs : List ℕ) → Tails P (steers w v xs)
steers_kind P h w v [] = tt
steers_kind P h w v (x ∷ xs) = (h, steers_kind P h w v xs)

pub sends_kind : (P : Op → Type 0) → ((p : ℕ) → P (Send p)) → (p : ℕ) (xs : List ℕ) → Tails P (sends p xs)
sends_kind P h p [] = tt
sends_kind P h p (x ∷ xs) = (h p, sends_kind P h (suc p) xs)

-- the operations of an exit are of this kind
abbrev pub Kind : (Op → Type 0) → HowLeft → Type 0
Kind P (Onto c) = Unit {0}
Kind P (Either op from c d) = P op × P Steer
Kind P (Lands op from values ls) = P op × ((p : ℕ) → P (Send p))
Kind P Halts = P Halt

module _ (P : Op → Type 0) (merge : P Merge) (width : ℕ) (starts : ℕ → Wants) (b : ℕ) (p : Plan) where
  tails_kind : (e : HowLeft) → Kind P e → Tails P (tails_of width starts e)
  tails_kind (Onto c) k = tt
  tails_kind (Either op from c d) k = steers_kind P k.1 (starts c) (starts d)
      (steered width (starts c) (starts d))
  tails_kind (Lands op from values ls) k = sends_kind P k.1 0 values
  tails_kind Halts k = tt

  behind_lines : Kind P p.exit → Lines P (behind_source width starts b p).code
  behind_lines k =
      (selected_more P merge b p.test (tails_of width starts p.exit) (end_wants width starts p.exit)).lines
      (hang_lines P merge b 6 p.test (tails_of width starts p.exit) (end_wants width starts p.exit)
      (tails_kind p.exit k))

  exit_lines : (e : HowLeft) → Kind P e → Lines P (behind_source width starts b p).code
      → Lines P (exit_made width starts b p e).code
  exit_lines (Onto c) k l = l
  exit_lines (Either op from c d) k l =
      (make_more P merge b p.test op from (behind_source width starts b p) k.0).lines l
  exit_lines (Lands op from values ls) k l =
      (make_more P merge b p.test op from (behind_source width starts b p) k.0).lines l
  exit_lines Halts k l = (k, l)

  pub body_lines : Kind P p.exit → Items P p.items → Lines P (body_made width starts b p).code
  body_lines k i = (wire_more P merge b p.items (exit_made width starts b p p.exit) i).lines
      (exit_lines p.exit k (behind_lines k))

-- no advance stands behind the front
abbrev pub NoAdvance : Op → Type 0
NoAdvance op = is_advance_op op ≡ false

act_no_advance : (op : Op) → is_act_op op ≡ true → is_advance_op op ≡ false
act_no_advance op e = grind (arith, both_ways)

items_no_advance : (is : List Item) → ItemsAre is → Items NoAdvance is
items_no_advance [] h = tt
items_no_advance (Make x op from ∷ is) h = (h.0.0.1, items_no_advance is h.1)
items_no_advance (Act op from ∷ is) h = (act_no_advance op h.0.1, items_no_advance is h.1)
items_no_advance (Same x y ∷ is) h = items_no_advance is h.1

exit_no_advance : (e : HowLeft) → SourceIs e → Kind NoAdvance e
exit_no_advance e s = grind arith

-- the lines of a first block
pub advance_line : (b : ℕ) (xs : List ℕ) (s : Made) (i : ℕ) (l : WiredInstr) → i < length xs
    → nth (advances b xs s).code i ≡ Some l → l.op ≡ Advance
advance_line b (x ∷ xs) s (suc i) l u e = advance_line b xs s i l (omega arith) e
advance_line b xs s i l u e = grind arith

pub behind_advances : (b : ℕ) (xs : List ℕ) (s : Made) (i : ℕ) → nth (advances b xs s).code (length xs + i)
    ≡ nth s.code i
behind_advances b [] s i = let z : 0 + i ≡ i = omega arith in rw z refl
behind_advances b (x ∷ xs) s i = grind (arith, behind_advances b xs s i)

-- steps and lines make an image's instructions
module _ (image : Image) (first : ℕ → ℕ) (b : ℕ) (o : Owner) (K : ℕ → ℕ → Type 0) where
  stands_of : (k : ℕ) (code : List WiredInstr) (ss : List Step) → CodeOk first o k code ss → KeptOk K k ss
      → k + length code ≡ first_number image (suc b) →
      ((i : ℕ) (l : WiredInstr) → nth code i ≡ Some l → instr_at image (k + i) ≡ instr_of first l) →
      ((i j q : ℕ) (l : WiredInstr) → nth code i ≡ Some l → HasDest (dests_of first l.dests) j q
      → is_advance image j ≡ true → IsIn image b j → j ≤ k + i) → Stands image b K k ss o
  unfolding now_dests
  stands_of k (l ∷ code) (Fires x op from ∷ ss) c t n look back = (
    record {
      op_is = op_here;
      ports = c.0.ports;
      lists = λ j q h. c.0.lists j q (subst (λ (ds : List Dest). HasDest ds j q) dests_here h);
      lists_all = λ j q e. subst (λ (ds : List Dest). HasDest ds j q) (sym dests_here) (c.0.lists_all j q e);
      once = subst DistinctDests (sym dests_here) c.0.once;
      fresh = c.0.fresh;
      back = λ j q h a i.
          (let r : j ≤ k + 0 = back 0 j q l refl (subst (λ (ds : List Dest). HasDest ds j q) dests_here h) a
          i in omega arith);
      kept = t.0;
      wants = t.1;
    },
    stands_of (suc k) code ss c.1 t.2 (omega arith)
        (λ i m e. (let z : suc k + i ≡ k + suc i = omega arith in rw z (look (suc i) m e)))
        (λ i j q m e h a u. (let z : suc k + i ≡ k + suc i = omega arith in
        rw z (back (suc i) j q m e h a u))),
  )
    where
      here : instr_at image k ≡ instr_of first l
      here = let z : k + 0 ≡ k = omega arith in rw z at (look 0 l refl)

      op_here : (instr_at image k).op ≡ op
      op_here = ap (λ (i : Instr). i.op) here ∙ c.0.op_is

      dests_here : now_of (instr_at image k).op (instr_at image k).dests ≡ dests_of first l.dests
      dests_here = ap (λ (a : Op). now_of a (instr_at image k).dests) op_here
          ∙ c.0.sends_now (instr_at image k).dests ∙ ap (λ (i : Instr). i.dests) here
  stands_of k (l ∷ code) (Rests op from ∷ ss) c t n look back = (
    record {
      op_is = op_here;
      ports = c.0.ports;
      none = ap (λ (i : Instr). now_of i.op i.dests) here ∙ ap (λ (a : Op). now_of a (dests_of first l.dests))
          c.0.op_is ∙ c.0.none;
      fresh = c.0.fresh;
      wants = t.0;
    },
    stands_of (suc k) code ss c.1 t.1 (omega arith)
        (λ i m e. (let z : suc k + i ≡ k + suc i = omega arith in rw z (look (suc i) m e)))
        (λ i j q m e h a u. (let z : suc k + i ≡ k + suc i = omega arith in
        rw z (back (suc i) j q m e h a u))),
  )
    where
      here : instr_at image k ≡ instr_of first l
      here = let z : k + 0 ≡ k = omega arith in rw z at (look 0 l refl)

      op_here : (instr_at image k).op ≡ op
      op_here = ap (λ (i : Instr). i.op) here ∙ c.0.op_is
  stands_of k code (Skips x op from ∷ ss) c t n look back =
      (c.0, t.0, stands_of k code ss c.1 t.1 n look back)
  stands_of k code (Copies x y ∷ ss) c t n look back = (t.0, stands_of k code ss c t.1 n look back)
  stands_of k code ss c t n look back = grind arith

module _ (arrays : List Array) (width : ℕ) (ps : List Plan) (Live : ℕ → ℕ → Type 0)
    (plans : (b : ℕ) → (1 ≤ b) × (b ≤ length ps) → PlanIs ps width Live b) where
  abbrev pub I : Image
  I = draft_of arrays width ps

  abbrev pub Is : ℕ → Type 0
  Is b = (1 ≤ b) × (b ≤ length ps)

  abbrev F : ℕ → ℕ
  F = begins width ps

  abbrev S : ℕ → Wants
  S = starts_at width ps

  -- the block at hand
  module _ (b : ℕ) (h : Is b) where
    p : Plan
    p = plan_at ps b

    block_lines : (P : Op → Type 0) → P Merge → Kind P (plan_at ps b).exit → Items P (plan_at ps b).items
        → Lines P (body_made width S b (plan_at ps b)).code
    block_lines P m k i = body_lines P m width S b (plan_at ps b) k i

    pub inner_line : (P : Op → Type 0) → P Merge → Kind P (plan_at ps b).exit → Items P (plan_at ps b).items
        → (plan_at ps b).first ≡ false → (i : ℕ) (l : WiredInstr) → nth (made_at width ps b).code i ≡ Some l
        → P l.op
    inner_line P m k is f i l e = line_at P (made_at width ps b).code i l
        (subst (λ (s : Made). Lines P s.code)
        (sym (made_is width ps b h (plans b h).edges ∙ cond-false (plan_at ps b).first _ _ f))
        (go (merges (plan_at ps b) (body_made width S b (plan_at ps b))))) e
      where
        go : (j : Bool)
            → Lines P (cond j (emit b pulse Merge (pulse ∷ []) (body_made width S b (plan_at ps b)))
            (body_made width S b (plan_at ps b))).code
        go true = (m, block_lines P m k is)
        go false = block_lines P m k is

    made_first : (plan_at ps b).first ≡ true → made_at width ps b ≡ advances b (plan_at ps b).entries
        (renew b (plan_at ps b).entries (body_made width S b (plan_at ps b)))
    made_first f = made_is width ps b h (plans b h).edges ∙ cond-true (plan_at ps b).first _ _ f

    pub outer_line : (P : Op → Type 0) → P Merge → Kind P (plan_at ps b).exit → Items P (plan_at ps b).items
        → (plan_at ps b).first ≡ true → (i : ℕ) (l : WiredInstr) → nth (made_at width ps b).code
        (length (plan_at ps b).entries + i) ≡ Some l → P l.op
    outer_line P m k is f i l e =
        line_at P core.code i l
        ((renew_more P m b (plan_at ps b).entries (body_made width S b (plan_at ps b))).lines
        (block_lines P m k is))
        (sym (behind_advances b (plan_at ps b).entries core i)
        ∙ ap (λ (s : Made). nth s.code (length (plan_at ps b).entries + i)) (sym (made_first f)) ∙ e)
      where
        core : Made
        core = renew b (plan_at ps b).entries (body_made width S b (plan_at ps b))

    pub front_line : (plan_at ps b).first ≡ true → (i : ℕ) (l : WiredInstr)
        → i < length (plan_at ps b).entries → nth (made_at width ps b).code i ≡ Some l → l.op ≡ Advance
    front_line f i l u e = advance_line b (plan_at ps b).entries
        (renew b (plan_at ps b).entries (body_made width S b (plan_at ps b))) i l u
        (ap (λ (s : Made). nth s.code i) (sym (made_first f)) ∙ e)

    -- the line of an instruction
    pub record LineOf (j : ℕ) : Type 0 where
      pub place : ℕ
      pub line : WiredInstr
      pub number : j ≡ F b + place
      pub found : nth (made_at width ps b).code place ≡ Some line
      pub is : instr_at I j ≡ instr_of F line

    size : F (suc b) ≡ F b + length (made_at width ps b).code
    size = begins_next width ps b h

    some_line : {A : Type 0} (xs : List A) (i : ℕ) → i < length xs → (x : A) × (nth xs i ≡ Some x)
    some_line [] i l = absurd (omega arith)
    some_line (x ∷ xs) zero l = (x, refl)
    some_line (x ∷ xs) (suc i) l = some_line xs i (omega arith)

    pub line_of : (j : ℕ) → F b ≤ j → j < F (suc b) → LineOf j
    line_of j lo hi =
        let z : F (suc b) ≡ F b + length (made_at width ps b).code = size in
        let s = some_line (made_at width ps b).code (j - F b) (omega arith) in
        let n : j ≡ F b + (j - F b) = omega arith in
        record {
          place = j - F b;
          line = s.0;
          number = n;
          found = s.1;
          is = ap (instr_at I) n
              ∙ instr_is arrays width ps b (j - F b) s.0 h s.1;
        }

    pub inside : (j : ℕ) → IsIn I b j → (F b ≤ j) × (j < F (suc b))
    inside j i = grind (arith, number_is)

    pub line_in : (j : ℕ) → IsIn I b j → LineOf j
    line_in j i = let r = inside j i in line_of j r.0 r.1

    -- which instructions are advances
    pub advance_front : (j : ℕ) → IsIn I b j → is_advance I j ≡ true → ((plan_at ps b).first ≡ true)
        × (j < F b + length (plan_at ps b).entries)
    unfolding is_advance
    advance_front j i a = go (cases_Bool (plan_at ps b).first)
      where
        l : LineOf j
        l = line_in j i

        op_is : is_advance_op l.line.op ≡ true
        op_is = ap (λ (n : Instr). is_advance_op n.op) (sym l.is) ∙ a

        no_op : NoAdvance l.line.op → ⊥
        no_op n = both_ways (is_advance_op l.line.op) n op_is

        kind : Kind NoAdvance (plan_at ps b).exit
        kind = exit_no_advance (plan_at ps b).exit (plans b h).source

        items : Items NoAdvance (plan_at ps b).items
        items = items_no_advance (plan_at ps b).items (plans b h).items

        go : ((plan_at ps b).first ≡ true) ⊎ ((plan_at ps b).first ≡ false) → ((plan_at ps b).first ≡ true)
            × (j < F b + length (plan_at ps b).entries)
        go (inr f) = absurd (no_op (inner_line NoAdvance refl kind items f l.place l.line l.found))
        go (inl f) = (
          f,
          elim (cases_lt l.place (length (plan_at ps b).entries)) [
            | inl u ↦ (let n : j ≡ F b + l.place = l.number in omega arith)
            | inr u ↦
                absurd (let n : length (plan_at ps b).entries + (l.place - length (plan_at ps b).entries)
                ≡ l.place = omega arith in
                no_op (outer_line NoAdvance refl kind items f (l.place - length (plan_at ps b).entries) l.line
                (rw n l.found)))
          ],
        )

    pub front_advance : (plan_at ps b).first ≡ true → (j : ℕ) → IsIn I b j
        → j < F b + length (plan_at ps b).entries → is_advance I j ≡ true
    unfolding is_advance
    front_advance f j i u =
        let l = line_in j i in let n : j ≡ F b + l.place = l.number in
        ap (λ (m : Instr). is_advance_op m.op) l.is
        ∙ ap is_advance_op (front_line f l.place l.line (omega arith) l.found)

    -- what the exit reads
    abbrev pub K : ℕ → ℕ → Type 0
    K = KeptOf width ps b

    abbrev Any : Op → Type 0
    Any op = Unit {0}

    any_items : (is : List Item) → Items Any is
    any_items [] = tt
    any_items (Make x op from ∷ is) = (tt, any_items is)
    any_items (Act op from ∷ is) = (tt, any_items is)
    any_items (Same x y ∷ is) = any_items is

    exit_in_body : length (exit_made width S b (plan_at ps b) (plan_at ps b).exit).code
        ≤ length (body_made width S b (plan_at ps b)).code
    exit_in_body =
        (wire_more Any tt b (plan_at ps b).items (exit_made width S b (plan_at ps b) (plan_at ps b).exit)
        (any_items (plan_at ps b).items)).long

    body_in_made : length (body_made width S b (plan_at ps b)).code ≤ length (made_at width ps b).code
    body_in_made = go (cases_Bool (plan_at ps b).first)
      where
        inner : (j : Bool) → length (body_made width S b (plan_at ps b)).code
            ≤ length (cond j (emit b pulse Merge (pulse ∷ []) (body_made width S b (plan_at ps b)))
            (body_made width S b (plan_at ps b))).code
        inner true = omega arith
        inner false = omega arith

        go : ((plan_at ps b).first ≡ true) ⊎ ((plan_at ps b).first ≡ false)
            → length (body_made width S b (plan_at ps b)).code ≤ length (made_at width ps b).code
        go (inl f) =
            let e : length (made_at width ps b).code ≡ length
            (advances b (plan_at ps b).entries
            (renew b (plan_at ps b).entries (body_made width S b (plan_at ps b)))).code =
            ap (λ (s : Made). length s.code) (made_first f) in
            let c : length
            (advances b (plan_at ps b).entries
            (renew b (plan_at ps b).entries (body_made width S b (plan_at ps b)))).code
            ≡ length (plan_at ps b).entries + length
            (renew b (plan_at ps b).entries (body_made width S b (plan_at ps b))).code =
            advances_count b (plan_at ps b).entries
            (renew b (plan_at ps b).entries (body_made width S b (plan_at ps b))) in
            let m : length (body_made width S b (plan_at ps b)).code ≤ length
            (renew b (plan_at ps b).entries (body_made width S b (plan_at ps b))).code =
            (renew_more Any tt b (plan_at ps b).entries (body_made width S b (plan_at ps b))).long in
            omega arith
        go (inr f) = rw (made_is width ps b h (plans b h).edges ∙ cond-false (plan_at ps b).first _ _ f)
            (inner (merges (plan_at ps b) (body_made width S b (plan_at ps b))))

    -- a block that chooses
    module _ (op : Op) (from : List ℕ) (needs : operands_needed (plan_at ps b).exit ≡ from)
        (chose : chooses (plan_at ps b).exit ≡ true)
        (made : exit_made width S b (plan_at ps b) (plan_at ps b).exit ≡ make b (plan_at ps b).test op from
        (behind_source width S b (plan_at ps b))) where
      room : suc (length (with_rooms b (length from) from (behind_source width S b (plan_at ps b))).code)
          ≤ F (suc b)
      room = grind (arith, size, exit_in_body, body_in_made)

      pub source_at : source_of width ps b ≡ F (suc b) - suc
          (length (with_rooms b (length from) from (behind_source width S b (plan_at ps b))).code)
      unfolding source_of
      source_at = rw needs refl

      source_low : F b ≤ F (suc b) - suc
          (length (with_rooms b (length from) from (behind_source width S b (plan_at ps b))).code)
      source_low = grind (arith, size, exit_in_body, body_in_made)

      pub source_in : IsIn I b (source_of width ps b)
      source_in = grind (arith, number_is, source_low, room, source_at)

      enough : length (tails_of width S (plan_at ps b).exit) ≤ length
          (with_rooms b (length from) from (behind_source width S b (plan_at ps b))).code
      enough =
          let a : length (hang b 6 (plan_at ps b).test (tails_of width S (plan_at ps b).exit)
          (end_wants width S (plan_at ps b).exit)).code ≡ length (tails_of width S (plan_at ps b).exit) =
          hang_count b 6 (plan_at ps b).test (tails_of width S (plan_at ps b).exit)
          (end_wants width S (plan_at ps b).exit) in
          let c : length (hang b 6 (plan_at ps b).test (tails_of width S (plan_at ps b).exit)
          (end_wants width S (plan_at ps b).exit)).code ≤ length
          (behind_source width S b (plan_at ps b)).code =
          (selected_more Any tt b (plan_at ps b).test (tails_of width S (plan_at ps b).exit)
          (end_wants width S (plan_at ps b).exit)).long in
          let d : length (behind_source width S b (plan_at ps b)).code ≤ length
          (with_rooms b (length from) from (behind_source width S b (plan_at ps b))).code =
          (rooms_more Any tt b (length from) from (behind_source width S b (plan_at ps b))).long in
          omega arith

      only : (m i : ℕ) → K m i → ((m ≡ source_of width ps b) × (i ≡ (plan_at ps b).test))
          ⊎ TailAt (F (suc b)) m i (tails_of width S (plan_at ps b).exit)
      only m i h = grind arith

      abbrev L : ℕ
      L = length (with_rooms b (length from) from (behind_source width S b (plan_at ps b))).code

      low_source : (m i : ℕ) → K m i → source_of width ps b ≤ m
      low_source = from_src K (F (suc b)) (source_of width ps b) (plan_at ps b).test L
          (tails_of width S (plan_at ps b).exit) room source_at enough only
          (hold_tails width S (plan_at ps b).exit)

      chosen_body : Body K (F (suc b)) (source_of width ps b) low_source
          (exit_made width S b (plan_at ps b) (plan_at ps b).exit)
      unfolding low_source
      chosen_body =
          subst (λ (s : Made). Body K (F (suc b)) (source_of width ps b)
          (from_src K (F (suc b)) (source_of width ps b) (plan_at ps b).test L
          (tails_of width S (plan_at ps b).exit) room source_at enough only
          (hold_tails width S (plan_at ps b).exit)) s) (sym made)
          (source_body K (F (suc b)) (source_of width ps b) (plan_at ps b).test L
          (tails_of width S (plan_at ps b).exit) room source_at enough only
          (hold_tails width S (plan_at ps b).exit) b op from
          (with_rooms b (length from) from (behind_source width S b (plan_at ps b))) refl
          (rooms_chain K (F (suc b)) (source_of width ps b) (plan_at ps b).test L
          (tails_of width S (plan_at ps b).exit) room source_at enough only
          (hold_tails width S (plan_at ps b).exit) b (length from) from
          (behind_source width S b (plan_at ps b))
          (selected_chain K (F (suc b)) (source_of width ps b) (plan_at ps b).test L
          (tails_of width S (plan_at ps b).exit) room source_at enough only
          (hold_tails width S (plan_at ps b).exit) b (end_wants width S (plan_at ps b).exit))))

    -- from the exit to the whole block
    whole_body : (src : ℕ) (low : (m i : ℕ) → K m i → src ≤ m)
        → Body K (F (suc b)) src low (exit_made width S b (plan_at ps b) (plan_at ps b).exit)
        → KeptAt K (F (suc b)) (made_at width ps b)
    whole_body src low e = (go (cases_Bool (plan_at ps b).first)).kept
        (let z : F (suc b) ≡ F b + length (made_at width ps b).code = size in omega arith)
      where
        body : Body K (F (suc b)) src low (body_made width S b (plan_at ps b))
        body = wire_body K (F (suc b)) src low b (plan_at ps b).items
            (exit_made width S b (plan_at ps b) (plan_at ps b).exit) e

        inner : (j : Bool)
            → Body K (F (suc b)) src low
            (cond j (emit b pulse Merge (pulse ∷ []) (body_made width S b (plan_at ps b)))
            (body_made width S b (plan_at ps b)))
        inner true = merge_body K (F (suc b)) src low b pulse (body_made width S b (plan_at ps b)) body
        inner false = body

        go : ((plan_at ps b).first ≡ true) ⊎ ((plan_at ps b).first ≡ false)
            → Body K (F (suc b)) src low (made_at width ps b)
        go (inl f) = subst (λ (s : Made). Body K (F (suc b)) src low s) (sym (made_first f))
            (advances_body K (F (suc b)) src low b (plan_at ps b).entries
            (renew b (plan_at ps b).entries (body_made width S b (plan_at ps b)))
            (renew_body K (F (suc b)) src low b (plan_at ps b).entries (body_made width S b (plan_at ps b))
            body))
        go (inr f) = grind (arith, made_is, cond-false, inner)

    -- nothing is read where nothing is chosen
    none_read : chooses (plan_at ps b).exit ≡ false → tails_of width S (plan_at ps b).exit ≡ [] → (m i : ℕ)
        → K m i → ⊥
    none_read c t m i h = grind (arith, both_ways)

    bare_body : (c : chooses (plan_at ps b).exit ≡ false) (t : tails_of width S (plan_at ps b).exit ≡ [])
        → Body K (F (suc b)) (F (suc b)) (λ m i k. absurd (none_read c t m i k))
        (behind_source width S b (plan_at ps b))
    bare_body c t = grind arith

    pub block_kept : KeptAt K (F (suc b)) (made_at width ps b)
    block_kept = go (plan_at ps b).exit refl
      where
        bare : (c : chooses (plan_at ps b).exit ≡ false) (t : tails_of width S (plan_at ps b).exit ≡ [])
            → exit_made width S b (plan_at ps b) (plan_at ps b).exit ≡ behind_source width S b (plan_at ps b)
            → KeptAt K (F (suc b)) (made_at width ps b)
        bare c t e = whole_body (F (suc b)) (λ m i k. absurd (none_read c t m i k))
            (grind (arith, none_read, bare_body))

        halting : (c : chooses (plan_at ps b).exit ≡ false) (t : tails_of width S (plan_at ps b).exit ≡ [])
            → exit_made width S b (plan_at ps b) (plan_at ps b).exit ≡ rest b
            (record { op = Halt; dests = []; others = [] }) (pulse ∷ [])
            (behind_source width S b (plan_at ps b)) → KeptAt K (F (suc b)) (made_at width ps b)
        halting c t e = whole_body (F (suc b)) (λ m i k. absurd (none_read c t m i k))
            (grind (arith, none_read, act_body, bare_body))

        go : (e : HowLeft) → (plan_at ps b).exit ≡ e → KeptAt K (F (suc b)) (made_at width ps b)
        go (Onto c) q = bare (ap chooses q) (ap (tails_of width S) q)
            (ap (exit_made width S b (plan_at ps b)) q)
        go Halts q = halting (ap chooses q) (ap (tails_of width S) q)
            (ap (exit_made width S b (plan_at ps b)) q)
        go (Either op from c d) q = whole_body (source_of width ps b)
            (low_source op from (ap operands_needed q) (ap chooses q)
            (ap (exit_made width S b (plan_at ps b)) q))
            (chosen_body op from (ap operands_needed q) (ap chooses q)
            (ap (exit_made width S b (plan_at ps b)) q))
        go (Lands op from values ls) q = whole_body (source_of width ps b)
            (low_source op from (ap operands_needed q) (ap chooses q)
            (ap (exit_made width S b (plan_at ps b)) q))
            (chosen_body op from (ap operands_needed q) (ap chooses q)
            (ap (exit_made width S b (plan_at ps b)) q))

    fact : Facts width ps Live plans b
    fact = facts width ps Live plans b h

    -- an entry stands in its block alone
    entry_away : (c i j : ℕ) → Fine width ps c i → (c ≡ b → ⊥) → F c + i ≡ j → F b ≤ j → j < F (suc b) → ⊥
    entry_away c i j f n e lo hi =
        let u : F c + i < F (suc c) = entry_inside width ps Live plans b h
        (λ d m k. facts width ps Live plans d (omega (arith, h.0), k)) c i f in
        elim (cases_order c b) [
          | inl g ↦ n g
          | inr g ↦ elim g [
            | inl l ↦ (let a : F (suc c) ≤ F b = begins_le width ps (suc c) b l in omega arith)
            | inr l ↦ (let a : F (suc b) ≤ F c = begins_le width ps (suc b) c l in omega arith)
          ]
        ]

    back : (i j q : ℕ) (l : WiredInstr) → nth (made_at width ps b).code i ≡ Some l
        → HasDest (dests_of F l.dests) j q → is_advance I j ≡ true → IsIn I b j → j ≤ F b + i
    back i j q l e d a inn = elim (cases_lt i (length (plan_at ps b).entries)) [
      | inr u ↦ (let lt : j < F b + length (plan_at ps b).entries = (advance_front j inn a).1 in omega arith)
      | inl u ↦
          absurd (away (spot_of F l.dests j q d).spot (spot_of F l.dests j q d).instr
          (fact.bars (advance_front j inn a).0 i l u e (spot_of F l.dests j q d).spot
          (spot_of F l.dests j q d).inside))
    ]
      where
        away : (s : Target) → (dest_of F s).instr ≡ j → Ahead F (FineAt width ps b)
            (F b + length (plan_at ps b).entries) s → ⊥
        away (Back c r k) g f = grind (arith, advance_front)
        away (Front c k) g f = let r = inside j inn in entry_away c k j f.0 (f.1 (advance_front j inn a).0) g
            r.0 r.1

    pub block_stands : Stands I b K (first_number I b) (made_at width ps b).steps
        (owner_of F width (end_wants width S (plan_at ps b).exit))
    block_stands =
        let z : F (suc b) ≡ F b + length (made_at width ps b).code = size in
        let y : F (suc b) - length (made_at width ps b).code ≡ F b = omega arith in
        rw (number_is arrays width ps b)
        (stands_of I F b (owner_of F width (end_wants width S (plan_at ps b).exit)) K (F b)
        (made_at width ps b).code (made_at width ps b).steps
        fact.inv.lines (subst (λ (k : ℕ). KeptOk K k (made_at width ps b).steps) y block_kept)
        (sym size ∙ sym (number_is arrays width ps (suc b)))
        (λ i l e. instr_is arrays width ps b i l h e)
        back)
