-- A draft of plans keeps the rules on shape.
use Rattle.std.proofs.Common.{ℕ, zero, suc, ◌+◌, ◌-◌, ◌≡◌, ◌<◌, ◌≤◌, ◌⊎◌, eqb, Bool, true, false, cond, List}
use Rattle.std.proofs.Common.{[], ◌∷◌, ◌++◌, length, Some, None, refl, ap, ◌∙◌, subst, inl, inr, arith}
use Rattle.std.proofs.lemmas.Bool.{cases_eq, both_ways}
use Rattle.ws_isa.specs.declared.instr.Op.{Op}
use Rattle.ws_isa.specs.declared.instr.Op.TheVariants.{Steer, Send}
use Rattle.ws_isa.specs.Image as image
use Rattle.ws_isa.specs.Image.{Image, Array, instr_at, block_at, first_number, is_first, is_advance, target}
use Rattle.ws_isa.specs.Image.{stops, IsIn, IsBlock}
use Rattle.ws_isa.specs.Sound.{BringsResult}
use Rattle.wave_gen.specs.Waits.{Owner, Step, Fires, Rests, Skips, Copies, count, Stands}
use Rattle.wave_gen.specs.Wire.{WiredInstr, Wants, Made, with_rooms, make}
use Rattle.wave_gen.specs.Plans.{HowLeft, Onto, Either, Lands, Halts, Plan, Tail, steers, sends, steered}
use Rattle.wave_gen.specs.Plans.{hang, plan_at, made_at, starts_at, begins, owner_of, tails_of, end_wants}
use Rattle.wave_gen.specs.Plans.{behind_source, exit_made, draft_of, exit_of, source_of, operands_needed}
use Rattle.wave_gen.specs.Plans.{chooses, KeptOf}
use Rattle.wave_gen.proofs.Planning.Planned.{AllIn, PadsFit, PlansAre, EdgesAre, Inner, Outer}
use Rattle.wave_gen.proofs.Waits.Turns.{stands_end}
use Rattle.wave_gen.proofs.OfItems.Keeping.{hang_count}
use Rattle.wave_gen.proofs.OfItems.Lines.{More, then_more, rooms_more}
use Rattle.wave_gen.proofs.Drawing.TailLines.{NoTail, is_tail_op, IsTail, is_tail, made_exit, behind_hung}
use Rattle.wave_gen.proofs.Waits.Carrying.{selector_port, Sel, Carried, carried, sel_rooms, selected_sel}
use Rattle.wave_gen.proofs.Waits.Carrying.{at_once}
use Rattle.wave_gen.proofs.Drawing.Drafts.{block_stands, source_at, source_in, advance_front, front_advance}
use Rattle.wave_gen.proofs.Drawing.Starts.{first_is}
use Rattle.wave_gen.proofs.Drawing.Edges.{exit_is, target_is}
use Rattle.wave_gen.proofs.Drawing.Waiting.{target_there, chooses_by, lands_by, kept_inside, one_is}
use Rattle.wave_gen.proofs.Drawing.Number.{number_is, block_at_is, is_block, block_is}
use Rattle.wave_gen.proofs.Waits.WalkShape.{WalkShape}
use Rattle.ws_words.specs.Items.{nth}

hang_steps : (b n z : ℕ) (ts : List Tail) (w : Wants) → count (hang b n z ts w).steps ≡ length ts
hang_steps b n z [] w = refl
hang_steps b zero z (t ∷ ts) w = ap suc (hang_steps b 5 (suc z) ts w)
hang_steps b (suc n) z (t ∷ ts) w = ap suc (hang_steps b n z ts w)

count_app : (xs ys : List Step) → count (xs ++ ys) ≡ count xs + count ys
count_app [] ys = omega arith
count_app (Fires x op from ∷ xs) ys = grind (arith, count_app xs ys)
count_app (Rests op from ∷ xs) ys = grind (arith, count_app xs ys)
count_app (Skips x op from ∷ xs) ys = count_app xs ys
count_app (Copies x y ∷ xs) ys = count_app xs ys

length_app : (xs ys : List WiredInstr) → length (xs ++ ys) ≡ length xs + length ys
length_app [] ys = omega arith
length_app (x ∷ xs) ys = grind (arith, length_app xs ys)

module _ (image : Image) (b : ℕ) (Kept : ℕ → ℕ → Type 0) (o : Owner) where
  stands_suffix : (k : ℕ) (xs ss : List Step) → Stands image b Kept k (xs ++ ss) o
      → Stands image b Kept (k + count xs) ss o
  stands_suffix k [] ss st = let z : k + 0 ≡ k = omega arith in rw z st
  stands_suffix k (Fires x op from ∷ xs) ss st = grind (arith, stands_suffix (suc k) xs ss st.1)
  stands_suffix k (Rests op from ∷ xs) ss st = grind (arith, stands_suffix (suc k) xs ss st.1)
  stands_suffix k (Skips x op from ∷ xs) ss st = stands_suffix k xs ss st.2
  stands_suffix k (Copies x y ∷ xs) ss st = stands_suffix k xs ss st.1

  find_carried : (s z n k : ℕ) (ss : List Step) → Stands image b Kept k ss o → Sel z n ss
      → Carried image b Kept o s k ss → (m : ℕ) → k ≤ m → m < k + count ss
      → is_tail_op (instr_at image m).op ≡ true → BringsResult image b s m
      (selector_port (instr_at image m).op)
  find_carried s z n k (Fires x op from ∷ ss) st sel c m l u t = elim (cases_eq m k) [
    | inl e ↦ grind (arith, both_ways)
    | inr d ↦ elim sel.1 [
      | inl a ↦ find_carried s z (suc n) (suc k) ss st.1 a.2 c m (omega arith) (omega arith) t
      | inr a ↦ find_carried s z n (suc k) ss st.1 a.1 c m (omega arith) (omega arith) t
    ]
  ]
  find_carried s z n k (Rests op from ∷ ss) st sel c m l u t = elim (cases_eq m k) [
    | inl e ↦ rw (e, st.0.op_is) c.0
    | inr d ↦ find_carried s z n (suc k) ss st.1 sel.1 c.1 m (omega arith) (omega arith) t
  ]
  find_carried s z n k (Skips x op from ∷ ss) st sel c m l u t =
      grind (arith, find_carried s z (suc n) k ss st.2 sel.1 c m l u t)
  find_carried s z n k ss st sel c m l u t = grind arith

module _ (arrays : List Array) (width : ℕ) (ps : List Plan) (Live : ℕ → ℕ → Type 0)
    (plans : PlansAre ps width Live) where
  abbrev I : Image
  I = draft_of arrays width ps

  abbrev Is : ℕ → Type 0
  Is b = (1 ≤ b) × (b ≤ length ps)

  abbrev S : ℕ → Wants
  S = starts_at width ps

  -- a block that chooses
  module _ (b : ℕ) (h : Is b) (op : Op) (from : List ℕ) (needs : operands_needed (plan_at ps b).exit ≡ from)
      (chose : chooses (plan_at ps b).exit ≡ true)
      (made : exit_made width S b (plan_at ps b) (plan_at ps b).exit ≡ make b (plan_at ps b).test op from
      (behind_source width S b (plan_at ps b))) where
    behind : Made
    behind = with_rooms b (length from) from (behind_source width S b (plan_at ps b))

    abbrev hung_made : Made
    hung_made = hang b 6 (plan_at ps b).test (tails_of width S (plan_at ps b).exit)
        (end_wants width S (plan_at ps b).exit)

    more_behind : More NoTail refl hung_made behind
    unfolding behind
    more_behind = then_more NoTail refl hung_made (behind_source width S b (plan_at ps b))
        (with_rooms b (length from) from (behind_source width S b (plan_at ps b)))
        (behind_hung arrays width ps Live plans.each b h)
        (rooms_more NoTail refl b (length from) from (behind_source width S b (plan_at ps b)))

    balanced : count behind.steps ≡ length behind.code
    balanced = grind (arith, behind, more_behind, hung_made, count_app, length_app, hang_steps, hang_count)

    tails_in : length (tails_of width S (plan_at ps b).exit) ≤ length behind.code
    tails_in = grind (arith, hung_made, behind, more_behind, hang_count)

    exit_more : More NoTail refl (exit_made width S b (plan_at ps b) (plan_at ps b).exit) (made_at width ps b)
    exit_more = made_exit arrays width ps Live plans.each b h

    O : Owner
    O = owner_of (begins width ps) width (end_wants width S (plan_at ps b).exit)

    steps_split : (made_at width ps b).steps ≡ exit_more.prior
        ++ (Fires (plan_at ps b).test op from ∷ behind.steps)
    unfolding behind
    steps_split = exit_more.steps ∙ ap (λ (s : Made). exit_more.prior ++ s.steps) made

    from_source : Stands I b (KeptOf width ps b) (first_number I b + count exit_more.prior)
        (Fires (plan_at ps b).test op from ∷ behind.steps) O
    unfolding O
    from_source = stands_suffix I b (KeptOf width ps b)
        (owner_of (begins width ps) width (end_wants width S (plan_at ps b).exit)) (first_number I b)
        exit_more.prior (Fires (plan_at ps b).test op from ∷ behind.steps)
        (subst (λ (ss : List Step). Stands I b (KeptOf width ps b) (first_number I b) ss
        (owner_of (begins width ps) width (end_wants width S (plan_at ps b).exit))) steps_split
        (block_stands arrays width ps Live plans.each b h))

    source_is : source_of width ps b ≡ begins width ps (suc b) - suc (length behind.code)
    unfolding behind
    source_is = source_at arrays width ps Live plans.each b h op from needs chose made

    source_number : first_number I b + count exit_more.prior ≡ source_of width ps b
    source_number = grind (arith, exit_more, behind, stands_end, from_source, number_is, source_is, balanced)

    at_source : Stands I b (KeptOf width ps b) (source_of width ps b)
        (Fires (plan_at ps b).test op from ∷ behind.steps) O
    at_source = grind (arith, behind, source_number, from_source)

    sel_behind : Sel (plan_at ps b).test (plan_at ps b).test behind.steps
    unfolding behind
    sel_behind = grind (arith, sel_rooms, selected_sel)

    low : first_number I b ≤ suc (source_of width ps b)
    low = let i = source_in arrays width ps Live plans.each b h op from needs chose made in omega arith

    all_carried : Carried I b (KeptOf width ps b) O (source_of width ps b) (suc (source_of width ps b))
        behind.steps
    all_carried = carried I b (KeptOf width ps b) O (source_of width ps b) (plan_at ps b).test
        (plan_at ps b).test (suc (source_of width ps b)) behind.steps at_source.1 low (omega arith) sel_behind
        (λ y j q l u e. (let f : y ≡ (plan_at ps b).test = omega arith in
        at_once I b (KeptOf width ps b) O (source_of width ps b) j q
        (at_source.0.lists_all j q (e ∙ ap Some f))))

    pub source_op : (instr_at I (source_of width ps b)).op ≡ op
    source_op = at_source.0.op_is

    pub tail_carried : (m : ℕ) → IsIn I b m → is_tail_op (instr_at I m).op ≡ true
        → BringsResult I b (source_of width ps b) m (selector_port (instr_at I m).op)
    tail_carried m i t =
        let a = is_tail arrays width ps Live plans.each b h m i t in
        grind (
          arith,
          number_is,
          source_is,
          tails_in,
          balanced,
          stands_end,
          at_source,
          find_carried,
          sel_behind,
          all_carried,
        )

  steer_only : (b : ℕ) → (w v : Wants) (xs : List ℕ) (i : ℕ) (t : Tail) → nth (steers w v xs) i ≡ Some t
      → t.line.op ≡ Steer
  steer_only b w v (x ∷ xs) (suc i) t e = steer_only b w v xs i t e
  steer_only b w v xs i t e = grind arith

  pub send_only : (p : ℕ) (xs : List ℕ) (i : ℕ) (t : Tail) → nth (sends p xs) i ≡ Some t
      → t.line.op ≡ Send (p + i)
  send_only p (x ∷ xs) (suc i) t e = grind (arith, send_only (suc p) xs i t e)
  send_only p xs i t e = grind arith

  there : (b : ℕ) → IsBlock I b → Is b
  there b h = is_block arrays width ps b h

  -- edges
  target_exit : (b : ℕ) → Is b → (e : HowLeft) → (plan_at ps b).exit ≡ e → (r : ℕ)
      → target I b r ≡ image.leave_to (exit_of (source_of width ps b) e) r
  target_exit b h e q r = target_is arrays width ps Live plans b h e q r

  stops_exit : (b : ℕ) → Is b → (e : HowLeft) → (plan_at ps b).exit ≡ e
      → stops I b ≡ image.is_stop (exit_of (source_of width ps b) e)
  stops_exit b h e q = Rattle.wave_gen.proofs.Drawing.Waiting.stops_is arrays width ps Live plans b h
      ∙ ap (λ (l : HowLeft). image.is_stop (exit_of (source_of width ps b) l)) q

  landing_ok : (values ls : List ℕ) (r : ℕ) → 1 ≤ length ls → AllIn ls (λ c. Outer ps c × PadsFit ps values c)
      → Outer ps (image.landing_of ls r)
  landing_ok values (c ∷ d ∷ ls) (suc r) l a = landing_ok values (d ∷ ls) r (omega arith) a.1
  landing_ok values ls r l a = grind arith

  -- where an edge leads
  goes : (b r : ℕ) → Is b → stops I b ≡ false → Inner ps b (target I b r) ⊎ Outer ps (target I b r)
  goes b r h s = go (plan_at ps b).exit refl (plans.each b h).edges
    where
      go : (e : HowLeft) → (plan_at ps b).exit ≡ e → EdgesAre ps b e → Inner ps b (target I b r)
          ⊎ Outer ps (target I b r)
      go (Onto c) q e = rw (target_exit b h (Onto c) q r) e
      go (Either op from c d) q e = rw (target_exit b h (Either op from c d) q r) (inl (arm (eqb r 0)))
        where
          arm : (f : Bool) → Inner ps b (cond f d c)
          arm true = e.1
          arm false = e.0
      go (Lands op from values ls) q e = rw (target_exit b h (Lands op from values ls) q r)
          (inr (landing_ok values ls r e.0 e.1))
      go Halts q e = absurd (both_ways (stops I b) s (stops_exit b h Halts q))

  shape_edges : (b r : ℕ) → IsBlock I b → stops I b ≡ false → IsBlock I (target I b r)
  shape_edges b r h s = block_is arrays width ps (target I b r)
      (target_there arrays width ps Live plans b (target I b r) (there b h) (goes b r (there b h) s))

  wave_is : (b : ℕ) → Is b → (block_at I b).wave ≡ (plan_at ps b).wave
  wave_is b h = ap (λ (k : image.Block). k.wave) (block_at_is arrays width ps b h)

  shape_later : (b r : ℕ) → IsBlock I b → stops I b ≡ false → is_first I (target I b r) ≡ false
      → (b < target I b r) × ((block_at I (target I b r)).wave ≡ (block_at I b).wave)
  shape_later b r h s f = go (goes b r (there b h) s)
    where
      go : Inner ps b (target I b r) ⊎ Outer ps (target I b r) → (b < target I b r)
          × ((block_at I (target I b r)).wave ≡ (block_at I b).wave)
      go (inl i) = grind (arith, wave_is, target_there, there)
      go (inr o) =
          absurd (both_ways (is_first I (target I b r)) f (first_is arrays width ps Live plans (target I b r)
          (o.some, o.there) ∙ o.first))

  pub shape_front : (b j k : ℕ) → IsBlock I b → IsIn I b k → is_advance I k ≡ true → first_number I b ≤ j
      → j ≤ k → is_advance I j ≡ true
  shape_front b j k h i a l u =
      let r = advance_front arrays width ps Live plans.each b (there b h) k i a in
      front_advance arrays width ps Live plans.each b (there b h) r.0 j (l, omega (arith, i.1))
      (omega (arith, r.1))

  -- tails hang on the choice
  record Hangs (b m : ℕ) : Type 0 where
    pub chose : chooses (plan_at ps b).exit ≡ true
    pub carried : BringsResult I b (source_of width ps b) m (selector_port (instr_at I m).op)

  hangs : (b m : ℕ) → Is b → IsIn I b m → is_tail_op (instr_at I m).op ≡ true → Hangs b m
  hangs b m h i t = go (plan_at ps b).exit refl
    where
      a : IsTail arrays width ps Live plans.each b h m
      a = is_tail arrays width ps Live plans.each b h m i t

      nothing : (e : HowLeft) → (plan_at ps b).exit ≡ e → tails_of width S e ≡ [] → Hangs b m
      nothing e q n =
          absurd (let z : nth [] a.place ≡ Some a.tail =
          rw (ap (tails_of width S) q ∙ n) at a.at in
          let y : None ≡ Some a.tail = z in cc)

      go : (e : HowLeft) → (plan_at ps b).exit ≡ e → Hangs b m
      go (Onto c) q = nothing (Onto c) q refl
      go Halts q = nothing Halts q refl
      go (Either op from c d) q =
          record {
            chose = ap chooses q;
            carried = tail_carried b h op from (ap operands_needed q)
                (ap chooses q) (ap (exit_made width S b (plan_at ps b)) q) m i t;
          }
      go (Lands op from values ls) q =
          record {
            chose = ap chooses q;
            carried = tail_carried b h op from (ap operands_needed q)
                (ap chooses q) (ap (exit_made width S b (plan_at ps b)) q) m i t;
          }

  -- a steer stands where two edges are, a send where landings are
  pub shape_steers : (b k : ℕ) → IsBlock I b → IsIn I b k → (instr_at I k).op ≡ Steer
      → (s x y : ℕ) × ((block_at I b).exit ≡ image.Branch s x y) × BringsResult I b s k 1
  shape_steers b k hb i e = go (plan_at ps b).exit refl
    where
      h : Is b
      h = there b hb

      t : is_tail_op (instr_at I k).op ≡ true
      t = ap is_tail_op e

      a : IsTail arrays width ps Live plans.each b h k
      a = is_tail arrays width ps Live plans.each b h k i t

      c : BringsResult I b (source_of width ps b) k 1
      c = subst (λ (op : Op). BringsResult I b (source_of width ps b) k (selector_port op)) e
          (hangs b k h i t).carried

      no_send : (values : List ℕ) → tails_of width S (plan_at ps b).exit ≡ sends 0 values → ⊥
      no_send values n = grind (arith, a, send_only)

      go : (l : HowLeft) → (plan_at ps b).exit ≡ l → (s x y : ℕ) × ((block_at I b).exit ≡ image.Branch s x y)
          × BringsResult I b s k 1
      go (Onto d) q = absurd (both_ways (chooses (plan_at ps b).exit) (ap chooses q) (hangs b k h i t).chose)
      go Halts q = absurd (both_ways (chooses (plan_at ps b).exit) (ap chooses q) (hangs b k h i t).chose)
      go (Lands op from values ls) q = absurd (no_send values (ap (tails_of width S) q))
      go (Either op from x y) q = (
        source_of width ps b,
        x,
        y,
        exit_is arrays width ps Live plans b h
            ∙ ap (exit_of (source_of width ps b)) q,
        c,
      )

  pub shape_sends : (b k p : ℕ) → IsBlock I b → IsIn I b k → (instr_at I k).op ≡ Send p
      → (s : ℕ) × (ls : List ℕ) × ((block_at I b).exit ≡ image.Landings s ls) × BringsResult I b s k 0
  shape_sends b k p hb i e = go (plan_at ps b).exit refl
    where
      h : Is b
      h = there b hb

      t : is_tail_op (instr_at I k).op ≡ true
      t = ap is_tail_op e

      a : IsTail arrays width ps Live plans.each b h k
      a = is_tail arrays width ps Live plans.each b h k i t

      c : BringsResult I b (source_of width ps b) k 0
      c = subst (λ (op : Op). BringsResult I b (source_of width ps b) k (selector_port op)) e
          (hangs b k h i t).carried

      no_steer : (w v : Wants) (xs : List ℕ) → tails_of width S (plan_at ps b).exit ≡ steers w v xs → ⊥
      no_steer w v xs n = grind (arith, a, steer_only)

      go : (l : HowLeft) → (plan_at ps b).exit ≡ l → (s : ℕ) × (ls : List ℕ)
          × ((block_at I b).exit ≡ image.Landings s ls) × BringsResult I b s k 0
      go (Onto d) q = absurd (both_ways (chooses (plan_at ps b).exit) (ap chooses q) (hangs b k h i t).chose)
      go Halts q = absurd (both_ways (chooses (plan_at ps b).exit) (ap chooses q) (hangs b k h i t).chose)
      go (Either op from x y) q =
          absurd (no_steer (S x) (S y) (steered width (S x) (S y)) (ap (tails_of width S) q))
      go (Lands op from values ls) q = (
        source_of width ps b,
        ls,
        exit_is arrays width ps Live plans b h
            ∙ ap (exit_of (source_of width ps b)) q,
        c,
      )

  source_block : (b s : ℕ) → Is b → (s ≡ source_of width ps b) × (chooses (plan_at ps b).exit ≡ true)
      → IsIn I b s
  source_block b s h k = kept_inside arrays width ps Live plans b s (plan_at ps b).test h
      (inl (k.1, k.0, refl))

  pub shape_source : (b s x y : ℕ) → IsBlock I b → (block_at I b).exit ≡ image.Branch s x y → IsIn I b s
  shape_source b s x y h e = source_block b s (there b h) (chooses_by arrays width ps Live plans b (there b h)
      s x y e)

  pub shape_address : (b s : ℕ) (ls : List ℕ) → IsBlock I b → (block_at I b).exit ≡ image.Landings s ls
      → IsIn I b s
  shape_address b s ls h e = source_block b s (there b h) (lands_by arrays width ps Live plans b (there b h) s
      ls e)

  -- what its walk needs
  pub shape : WalkShape I
  shape = record {
    has_block = block_is arrays width ps 1 (one_is arrays width ps Live plans);
    edges = grind (arith, shape_edges, shape_later);
    advances = λ b k h i a. first_is arrays width ps Live plans b (there b h)
        ∙ (advance_front arrays width ps Live plans.each b (there b h) k i a).0;
  }
