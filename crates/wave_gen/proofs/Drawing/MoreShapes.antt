-- The further rules on shape.
use Rattle.std.proofs.Common.{ℕ, zero, suc, ◌+◌, ◌≡◌, ◌<◌, ◌≤◌, ◌⊎◌, ◌-◌, true, false, Bool, List, [], ◌∷◌}
use Rattle.std.proofs.Common.{length, refl, sym, ap, ◌∙◌, subst, inl, inr, arith, ◌++◌}
use Rattle.std.proofs.lemmas.Bool.{cases_Bool, cases_lt, both_ways}
use Rattle.ws_isa.specs.declared.instr.Op.{Op}
use Rattle.ws_isa.specs.declared.instr.Op.TheVariants.{Send, Halt, Advance}
use Rattle.ws_isa.specs.Image as image
use Rattle.ws_isa.specs.Image.{Image, Instr, Block, Pad, Array, instr_at, block_at, first_number, is_first}
use Rattle.ws_isa.specs.Image.{is_advance, is_giving, is_giving_op, is_memory, stops, target, IsIn, IsBlock}
use Rattle.ws_isa.specs.Formed.{WavesInOrder, WavesFrom}
use Rattle.ws_isa.specs.Sound.{HasDest, HasPad}
use Rattle.wave_gen.specs.Wire.{Item, Make, Act, Same, Wants, dests_of, WiredInstr}
use Rattle.wave_gen.specs.Plans.{HowLeft, Onto, Either, Lands, Halts, Plan, pulse, fronts, plan_at, starts_at}
use Rattle.wave_gen.specs.Plans.{begins, pads_of, blocks_of, draft_of, exit_of, source_of, chooses}
use Rattle.wave_gen.specs.Plans.{operands_needed, exit_made, tails_of, sends, made_at}
use Rattle.wave_gen.proofs.Planning.Planned.{ItemsAre, is_act_op, AllIn, PadsFit, PlansAre, EdgesAre, Outer}
use Rattle.wave_gen.proofs.Planning.More.{ItemsGive, SourceGives, PlansGive}
use Rattle.wave_gen.proofs.Drawing.Starts.{first_is, waits_first, starts_has}
use Rattle.wave_gen.proofs.Drawing.Blocks.{starts_outer, begins_next}
use Rattle.wave_gen.proofs.Drawing.Edges.{exit_is, target_is}
use Rattle.wave_gen.proofs.Drawing.Waiting.{stops_is, chooses_by, lands_by}
use Rattle.wave_gen.proofs.Drawing.Shape.{send_only, shape_sends, source_op}
use Rattle.wave_gen.proofs.Drawing.Number.{number_is, block_at_is, is_block, instr_is}
use Rattle.wave_gen.proofs.OfItems.Lines.{Items, Lines, line_at}
use Rattle.wave_gen.proofs.Drawing.Drafts.{Kind, LineOf, line_in, inner_line, outer_line, front_line}
use Rattle.wave_gen.proofs.Drawing.TailLines.{is_tail_op, is_tail, made_past}
use Rattle.ws_isa.proofs.Blocks.{nth_append_right}
use Rattle.ws_words.specs.Items.{nth, In}
use Rattle.ws_words.proofs.Places.{nth_short, nth_append_left}

count_sends : (k : ℕ) (xs : List ℕ) → length (sends k xs) ≡ length xs
count_sends k [] = refl
count_sends k (x ∷ xs) = ap suc (count_sends (suc k) xs)

abbrev is_halt_op : Op → Bool
is_halt_op Halt = true
is_halt_op _ = false

abbrev NoHalt : Op → Type 0
NoHalt op = is_halt_op op ≡ false

giving_no_halt : (op : Op) → is_giving_op op ≡ true → is_halt_op op ≡ false
giving_no_halt op e = grind (arith, both_ways)

act_no_halt : (op : Op) → is_act_op op ≡ true → is_halt_op op ≡ false
act_no_halt op e = grind (arith, both_ways)

module _ (arrays : List Array) (width : ℕ) (ps : List Plan) (Live : ℕ → ℕ → Type 0)
    (plans : PlansAre ps width Live) (gives : PlansGive ps) where
  abbrev I : Image
  I = draft_of arrays width ps

  abbrev Is : ℕ → Type 0
  Is b = (1 ≤ b) × (b ≤ length ps)

  -- waves
  waves_from : (n b : ℕ) → suc b + n ≡ suc (length ps) → 1 ≤ b → WavesFrom (plan_at ps b).wave
      (blocks_of width ps (suc b) n)
  waves_from (suc n) (suc b) e l = (
    elim (cases_Bool (plan_at ps (suc (suc b))).first) [
      | inl f ↦ inr (plans.rises b (omega arith) f)
      | inr
          f ↦ inl (plans.stays b (omega arith) f)
    ],
    waves_from n (suc (suc b)) (omega arith) (omega arith),
  )
  waves_from n b e l = grind arith

  some_waves : (n : ℕ) → n ≡ length ps → WavesInOrder (blocks_of width ps 1 n)
  some_waves zero e = (let l : 1 ≤ length ps = plans.some in omega arith)
  some_waves (suc n) e = (
    plans.first_wave,
    subst (λ (w : ℕ). WavesFrom w (blocks_of width ps 2 n)) plans.first_wave
        (waves_from n 1 (omega arith) (omega arith)),
  )

  pub more_waves : WavesInOrder I.blocks
  unfolding draft_of
  more_waves = some_waves (length ps) refl

  -- pads
  pad_there : (b i k : ℕ) (entries xs : List ℕ) → i < length xs
      → HasPad (pads_of (begins width ps) b k entries xs) (k + i)
  pad_there b i k entries [] l = absurd (omega arith)
  pad_there b zero k entries (x ∷ xs) l = inl (let z : k ≡ k + 0 = omega arith in z)
  pad_there b (suc i) k entries (x ∷ xs) l = grind (arith, pad_there b i (suc k) entries xs (omega arith))

  pub more_pad_zero : HasPad (block_at I 1).pads 0
  more_pad_zero = subst (λ (k : Block). HasPad k.pads 0)
      (sym (block_at_is arrays width ps 1 (omega arith, plans.some)))
      (pad_there 1 0 0 (plan_at ps 1).entries (plan_at ps 1).pads
      (nth_short (plan_at ps 1).pads 0 pulse plans.first_pads))

  no_pads : (b : ℕ) (entries xs : List ℕ) → xs ≡ [] → pads_of (begins width ps) b 0 entries xs ≡ []
  no_pads b entries xs e = rw e refl

  pub more_pads_first : (b : ℕ) → IsBlock I b → is_first I b ≡ false → (block_at I b).pads ≡ []
  more_pads_first b hb f =
      let h : Is b = is_block arrays width ps b hb in
      ap (λ (k : Block). k.pads) (block_at_is arrays width ps b h) ∙ no_pads b (plan_at ps b).entries
      (plan_at ps b).pads (gives.pads b h (sym (first_is arrays width ps Live plans b h) ∙ f))

  -- pads send to advances of their block
  pub pad_front : (b i : ℕ) (entries xs : List ℕ) (p : Pad) (j q : ℕ)
      → In p (pads_of (begins width ps) b i entries xs) → HasDest p.dests j q
      → (x : ℕ) × HasDest (dests_of (begins width ps) (fronts b 0 entries x)) j q
  pad_front b i entries [] p j q h d = absurd h
  pad_front b i entries (x ∷ xs) p j q (inl e) d = (x, rw e at d)
  pad_front b i entries (x ∷ xs) p j q (inr h) d = pad_front b (suc i) entries xs p j q h d

  pub more_pads : (b : ℕ) (p : Pad) (j q : ℕ) → IsBlock I b → In p (block_at I b).pads → HasDest p.dests j q
      → IsIn I b j × (is_advance I j ≡ true)
  more_pads b p j q hb i d = go (cases_Bool (plan_at ps b).first)
    where
      h : Is b
      h = is_block arrays width ps b hb

      f : (x : ℕ) × HasDest (dests_of (begins width ps) (fronts b 0 (plan_at ps b).entries x)) j q
      f = grind (arith, pad_front, block_at_is, h)

      go : ((plan_at ps b).first ≡ true) ⊎ ((plan_at ps b).first ≡ false)
          → IsIn I b j × (is_advance I j ≡ true)
      go (inl e) =
          let s = starts_has arrays width ps Live plans b h f.0 j q
          (subst (λ (w : Wants). HasDest (dests_of (begins width ps) (w f.0)) j q)
          (sym (starts_outer width ps b e)) f.1) in
          let r = waits_first arrays width ps Live plans b j q f.0 hb (first_is arrays width ps Live plans b h
          ∙ e) s in (r.0, r.1)
      go (inr e) =
          absurd (let z : (block_at I b).pads ≡ [] = more_pads_first b hb
          (first_is arrays width ps Live plans b h ∙ e) in subst (λ (l : List Pad). In p l) z i)

  -- the exit's instruction gives its result
  source_giving : (b : ℕ) → Is b → (e : HowLeft) → (plan_at ps b).exit ≡ e
      → chooses (plan_at ps b).exit ≡ true → is_giving I (source_of width ps b) ≡ true
  unfolding is_giving
  source_giving b h (Onto c) q k = absurd (both_ways (chooses (plan_at ps b).exit) (ap chooses q) k)
  source_giving b h Halts q k = absurd (both_ways (chooses (plan_at ps b).exit) (ap chooses q) k)
  source_giving b h (Either op from c d) q k =
      ap is_giving_op (source_op arrays width ps Live plans b h op from (ap operands_needed q) k
      (ap (exit_made width (starts_at width ps) b (plan_at ps b)) q)) ∙ subst SourceGives q (gives.source b h)
  source_giving b h (Lands op from values ls) q k =
      ap is_giving_op (source_op arrays width ps Live plans b h op from (ap operands_needed q) k
      (ap (exit_made width (starts_at width ps) b (plan_at ps b)) q)) ∙ subst SourceGives q (gives.source b h)

  pub more_source : (b s x y : ℕ) → IsBlock I b → (block_at I b).exit ≡ image.Branch s x y
      → is_giving I s ≡ true
  more_source b s x y hb e = let h : Is b = is_block arrays width ps b hb in
      let k = chooses_by arrays width ps Live plans b h s x y e in
      subst (λ (i : ℕ). is_giving I i ≡ true) (sym k.0) (source_giving b h (plan_at ps b).exit refl k.1)

  pub more_address : (b s : ℕ) (ls : List ℕ) → IsBlock I b → (block_at I b).exit ≡ image.Landings s ls
      → is_giving I s ≡ true
  more_address b s ls hb e = let h : Is b = is_block arrays width ps b hb in
      let k = lands_by arrays width ps Live plans b h s ls e in
      subst (λ (i : ℕ). is_giving I i ≡ true) (sym k.0) (source_giving b h (plan_at ps b).exit refl k.1)

  landing_outer : (values ls : List ℕ) (r : ℕ) → 1 ≤ length ls
      → AllIn ls (λ c. Outer ps c × PadsFit ps values c) → Outer ps (image.landing_of ls r)
      × PadsFit ps values (image.landing_of ls r)
  landing_outer values (c ∷ d ∷ ls) (suc r) l a = landing_outer values (d ∷ ls) r (omega arith) a.1
  landing_outer values ls r l a = grind arith

  -- where an exit with landings leads
  lands_at : (b s r : ℕ) (ls : List ℕ) (h : Is b) → (block_at I b).exit ≡ image.Landings s ls
      → (values : List ℕ) × (tails_of width (starts_at width ps) (plan_at ps b).exit ≡ sends 0 values)
      × Outer ps (target I b r) × PadsFit ps values (target I b r)
  lands_at b s r ls h e = go (plan_at ps b).exit refl (plans.each b h).edges
    where
      other : (l : HowLeft) → (plan_at ps b).exit ≡ l → exit_of (source_of width ps b) l ≡ image.Landings s ls
      other l q = sym (exit_is arrays width ps Live plans b h ∙ ap (exit_of (source_of width ps b)) q) ∙ e

      go : (l : HowLeft) → (plan_at ps b).exit ≡ l → EdgesAre ps b l → (values : List ℕ)
          × (tails_of width (starts_at width ps) (plan_at ps b).exit ≡ sends 0 values)
          × Outer ps (target I b r) × PadsFit ps values (target I b r)
      go (Onto c) q g = absurd (let z : image.Goto c ≡ image.Landings s ls = other (Onto c) q in cc)
      go Halts q g = absurd (let z : image.Stop ≡ image.Landings s ls = other Halts q in cc)
      go (Either op from c d) q g =
          absurd (let z : image.Branch (source_of width ps b) c d ≡ image.Landings s ls =
          other (Either op from c d) q in cc)
      go (Lands op from values ms) q g =
          let t : target I b r ≡ image.landing_of ms r = target_is arrays width ps Live plans b h
          (Lands op from values ms) q r in
          let o = landing_outer values ms r g.0 g.1 in
          (values, ap (tails_of width (starts_at width ps)) q, rw t o.0, rw t o.1)

  pub more_landing_first : (b s r : ℕ) (ls : List ℕ) → IsBlock I b → (block_at I b).exit ≡ image.Landings s ls
      → is_first I (target I b r) ≡ true
  more_landing_first b s r ls hb e = let o = lands_at b s r ls (is_block arrays width ps b hb) e in
      first_is arrays width ps Live plans (target I b r) (o.2.some, o.2.there) ∙ o.2.first

  pub more_landing_pad : (b k p r : ℕ) → IsBlock I b → IsIn I b k → (instr_at I k).op ≡ Send p
      → HasPad (block_at I (target I b r)).pads p
  more_landing_pad b k p r hb i e =
      let h : Is b = is_block arrays width ps b hb in
      let x = shape_sends arrays width ps Live plans b k p hb i e in
      let o = lands_at b x.0 r x.1 h x.2 in
      let t = is_tail arrays width ps Live plans.each b h k i (ap is_tail_op e) in
      let f : (instr_at I k).op ≡ Send (0 + t.place) = ap (λ (n : Instr). n.op) t.is
      ∙ send_only arrays width ps Live plans 0 o.0 t.place t.tail
      (rw o.1 at t.at) in
      let g : Send p ≡ Send (0 + t.place) = sym e ∙ f in
      let q : p ≡ 0 + t.place = cc in
      let l : t.place < length (tails_of width (starts_at width ps) (plan_at ps b).exit) =
      nth_short (tails_of width (starts_at width ps) (plan_at ps b).exit) t.place t.tail t.at in
      let m : length (tails_of width (starts_at width ps) (plan_at ps b).exit) ≡ length o.0 =
      ap length o.1 ∙ sends_count 0 o.0 in
      let n : length (plan_at ps (target I b r)).pads ≡ length o.0 = o.3.as_many in
      subst (λ (z : ℕ). HasPad (block_at I (target I b r)).pads z) (sym q)
      (rw (block_at_is arrays width ps (target I b r) (o.2.some, o.2.there))
      (pad_there (target I b r) t.place 0 (plan_at ps (target I b r)).entries
      (plan_at ps (target I b r)).pads (omega arith)))
    where
      sends_count : (k : ℕ) (xs : List ℕ) → length (sends k xs) ≡ length xs
      sends_count k xs = count_sends k xs

  -- halts
  items_no_halt : (is : List Item) → ItemsAre is → ItemsGive is → Items NoHalt is
  items_no_halt [] a g = tt
  items_no_halt (Make x op from ∷ is) a g = (giving_no_halt op g.0, items_no_halt is a.1 g.1)
  items_no_halt (Act op from ∷ is) a g = (act_no_halt op a.0.1, items_no_halt is a.1 g)
  items_no_halt (Same x y ∷ is) a g = items_no_halt is a.1 g

  exit_no_halt : (e : HowLeft) → SourceGives e → chooses e ≡ true → Kind NoHalt e
  exit_no_halt e g k = grind (arith, giving_no_halt, both_ways)

  no_halt : (b k : ℕ) → IsBlock I b → IsIn I b k → Kind NoHalt (plan_at ps b).exit → (instr_at I k).op ≡ Halt
      → ⊥
  no_halt b k hb i kind e = go (cases_Bool (plan_at ps b).first)
    where
      h : Is b
      h = is_block arrays width ps b hb

      l : LineOf arrays width ps Live plans.each b h k
      l = line_in arrays width ps Live plans.each b h k i

      halts : l.line.op ≡ Halt
      halts = ap (λ (n : Instr). n.op) (sym l.is) ∙ e

      items : Items NoHalt (plan_at ps b).items
      items = items_no_halt (plan_at ps b).items (plans.each b h).items (gives.items b h)

      bad : NoHalt l.line.op → ⊥
      bad n = both_ways (is_halt_op l.line.op) n (ap is_halt_op halts)

      go : ((plan_at ps b).first ≡ true) ⊎ ((plan_at ps b).first ≡ false) → ⊥
      go (inr f) = bad (inner_line arrays width ps Live plans.each b h NoHalt refl kind items f l.place l.line
          l.found)
      go (inl f) = elim (cases_lt l.place (length (plan_at ps b).entries)) [
        | inl u ↦
            (let z : Advance ≡ Halt = sym (front_line arrays width ps Live plans.each b h f l.place l.line u
            l.found) ∙ halts in cc)
        | inr u ↦ (let n : length (plan_at ps b).entries + (l.place - length (plan_at ps b).entries)
            ≡ l.place = omega arith in
            bad (outer_line arrays width ps Live plans.each b h NoHalt refl kind items f
            (l.place - length (plan_at ps b).entries) l.line (rw n l.found)))
      ]

  pub more_halt_stops : (b k : ℕ) → IsBlock I b → IsIn I b k → (instr_at I k).op ≡ Halt → stops I b ≡ true
  more_halt_stops b k hb i e = go (plan_at ps b).exit refl
    where
      h : Is b
      h = is_block arrays width ps b hb

      kind : (l : HowLeft) → (plan_at ps b).exit ≡ l → Kind NoHalt l → ⊥
      kind l q n = no_halt b k hb i (subst (Kind NoHalt) (sym q) n) e

      go : (l : HowLeft) → (plan_at ps b).exit ≡ l → stops I b ≡ true
      go (Onto c) q = absurd (kind (Onto c) q tt)
      go (Either op from c d) q =
          absurd (kind (Either op from c d) q
          (exit_no_halt (Either op from c d) (subst SourceGives q (gives.source b h)) refl))
      go (Lands op from values ls) q =
          absurd (kind (Lands op from values ls) q
          (exit_no_halt (Lands op from values ls) (subst SourceGives q (gives.source b h)) refl))
      go Halts q = stops_is arrays width ps Live plans b h
          ∙ ap (λ (l : HowLeft). image.is_stop (exit_of (source_of width ps b) l)) q

  -- the halt is the last line of a block that stops
  abbrev halt_line : WiredInstr
  halt_line = record { op = Halt; dests = []; others = [] }

  record LastHalt (b : ℕ) : Type 0 where
    front : List WiredInstr
    split : (made_at width ps b).code ≡ front ++ (halt_line ∷ [])
    none : Lines NoHalt front

  stop_code : (b : ℕ) → (plan_at ps b).exit ≡ Halts
      → (exit_made width (starts_at width ps) b (plan_at ps b) (plan_at ps b).exit).code ≡ halt_line ∷ []
  stop_code b q = grind (arith, halt_line)

  last_halt : (b : ℕ) → Is b → (plan_at ps b).exit ≡ Halts → LastHalt b
  last_halt b h q =
      let m = made_past arrays width ps Live plans.each b h NoHalt refl refl
      (items_no_halt (plan_at ps b).items (plans.each b h).items (gives.items b h)) in
      record {
        front = m.front;
        split = m.split ∙ ap (λ (c : List WiredInstr). m.front ++ c) (stop_code b q);
        none = m.kind;
      }

  halts_exit : (b : ℕ) → Is b → stops I b ≡ true → (plan_at ps b).exit ≡ Halts
  halts_exit b h e = go (plan_at ps b).exit refl
    where
      bad : (l : HowLeft) → (plan_at ps b).exit ≡ l → image.is_stop (exit_of (source_of width ps b) l) ≡ false
          → ⊥
      bad l q n = both_ways (stops I b) (stops_is arrays width ps Live plans b h
          ∙ ap (λ (l : HowLeft). image.is_stop (exit_of (source_of width ps b) l)) q ∙ n) e

      go : (l : HowLeft) → (plan_at ps b).exit ≡ l → (plan_at ps b).exit ≡ Halts
      go (Onto c) q = absurd (bad (Onto c) q refl)
      go (Either op from c d) q = absurd (bad (Either op from c d) q refl)
      go (Lands op from values ls) q = absurd (bad (Lands op from values ls) q refl)
      go Halts q = q

  count_last : (xs : List WiredInstr) (x : WiredInstr) → length (xs ++ (x ∷ [])) ≡ suc (length xs)
  count_last [] x = refl
  count_last (y ∷ xs) x = ap suc (count_last xs x)

  pub more_stop_halts : (b : ℕ) → IsBlock I b → stops I b ≡ true → (k : ℕ) × IsIn I b k
      × ((instr_at I k).op ≡ Halt)
  more_stop_halts b hb e =
      let h : Is b = is_block arrays width ps b hb in
      let l = last_halt b h (halts_exit b h e) in
      let n : length (made_at width ps b).code ≡ suc (length l.front) = ap length l.split
      ∙ count_last l.front halt_line in
      let s : begins width ps (suc b) ≡ begins width ps b + length (made_at width ps b).code =
      begins_next width ps b h in
      let y : first_number I b ≡ begins width ps b = number_is arrays width ps b in
      let w : first_number I (suc b) ≡ begins width ps (suc b) = number_is arrays width ps (suc b) in (
        begins width ps b + (length l.front + 0),
        (omega arith, omega arith),
        ap (λ (i : Instr). i.op) (instr_is arrays width ps b (length l.front + 0) halt_line h
            (ap (λ (c : List WiredInstr). nth c (length l.front + 0)) l.split
            ∙ nth_append_right l.front (halt_line ∷ []) 0)),
      )

  pub more_halt_last : (b j k : ℕ) → IsBlock I b → IsIn I b k → (instr_at I k).op ≡ Halt → IsIn I b j
      → is_memory I j ≡ true → j ≤ k
  more_halt_last b j k hb ik e ij m = go (cases_lt at.place (length l.front))
    where
      h : Is b
      h = is_block arrays width ps b hb

      l : LastHalt b
      l = last_halt b h (halts_exit b h (more_halt_stops b k hb ik e))

      at : LineOf arrays width ps Live plans.each b h k
      at = line_in arrays width ps Live plans.each b h k ik

      go : (at.place < length l.front) ⊎ (length l.front ≤ at.place) → j ≤ k
      go (inl u) = absurd (both_ways (is_halt_op at.line.op)
          (line_at NoHalt l.front at.place at.line l.none
          (sym (nth_append_left l.front (halt_line ∷ []) at.place u)
          ∙ ap (λ (c : List WiredInstr). nth c at.place) (sym l.split) ∙ at.found))
          (ap (λ (n : Instr). is_halt_op n.op) (sym at.is) ∙ ap is_halt_op e))
      go (inr u) = grind (arith, l, count_last, halt_line, begins_next, h, number_is)
