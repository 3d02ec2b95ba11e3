-- The walk of the image goes where the run of the code on names goes.
use Rattle.std.proofs.Common.{ℕ, zero, suc, ◌+◌, ◌-◌, ◌≡◌, ◌<◌, ◌≤◌, ◌⊎◌, true, false, cond, List, []}
use Rattle.std.proofs.Common.{◌∷◌, length, Some, None, refl, sym, ap, ◌∙◌, subst, inl, inr, arith, is_some}
use Rattle.std.proofs.lemmas.Bool.{cases_Bool, both_ways, cond-true, cond-false}
use Rattle.ws_words.specs.Outside.{World, with_input}
use Rattle.ws_isa.specs.Image.{Image, Exit, Goto, Branch, Landings, Stop, is_first, block_at, first_number}
use Rattle.ws_isa.specs.Image.{size_of, stops, target, start_dests, IsBlock}
use Rattle.ws_isa.specs.Walk.{Ports, Inst, Pos, no_ports, pos, walk, fires, opening, opening_memory, fire}
use Rattle.ws_isa.specs.Walk.{enter, choice, choice_of, start_tokens, with_tokens, edge_tokens}
use Rattle.ws_isa.specs.Sound.{HasDest, OpenSlots, edge_all, opens_at, Fresh}
use Rattle.wave_gen.specs.Waits.{Owner, Step, Fires, Rests, Skips, Copies, NameState, own, count, run_step}
use Rattle.wave_gen.specs.Waits.{run_steps, Stands, Code, starts, Arrives, went_past, was_sent, Waits}
use Rattle.wave_gen.specs.Waits.{chosen_of, chosen, RunPlace, names_at, pass, places}
use Rattle.wave_gen.proofs.Waits.Steps.{pos_start, place_start, place_leave}
use Rattle.wave_gen.proofs.Waits.Turns.{opener, edge_fresh, stands_end}
use Rattle.wave_gen.proofs.Waits.Tokens.{Unfired, Holds, Mid, fires_mid, rests_mid, skips_mid, copies_mid}
use Rattle.wave_gen.proofs.Waits.WalkShape.{WalkShape}
use Rattle.ws_isa.proofs.Slots.{edge_lands, edge_other, with_tokens_lands}
use Rattle.ws_isa.proofs.Steps.{first_up, StepCase, step_case, stands, turns, ends, leaves}
use Rattle.ws_words.proofs.Lists.{push_length as length_more}

module _ (image : Image) (world : World) (c : Code) (shape : WalkShape image) (waits : Waits image c) where
  abbrev P : ℕ → Pos
  P t = pos image world t

  -- at step t of the walk, in a block
  pub record On (t b k : ℕ) (o : Owner) (s : NameState) (fired : ℕ) : Type 0 where
    pub mid : Mid image (c.Kept b) b k o (P t) s
    pub fires : length (walk image world t) ≡ fired

  walk_fires : (t : ℕ) (x : Inst) → fires image world t ≡ Some x → length (walk image world (suc t))
      ≡ suc (length (walk image world t))
  unfolding walk
  walk_fires t x e = rw e (length_more (walk image world t) x)

  walk_still : (t : ℕ) → fires image world t ≡ None → length (walk image world (suc t))
      ≡ length (walk image world t)
  unfolding walk
  walk_still t e = rw e refl

  -- one instruction
  record Turned (t : ℕ) : Type 0 where
    pub to : P (suc t) ≡ fire image (P t)
    pub fires : length (walk image world (suc t)) ≡ suc (length (walk image world t))

  turned : (t b k : ℕ) (o : Owner) (s : NameState) (f : ℕ) → On t b k o s f → k < first_number image (suc b)
      → StepCase image world t → Turned t
  turned t b k o s f m l h = grind (arith, both_ways, walk_fires)

  -- the steps of a block
  run_block : (ss : List Step) (b n : ℕ) (o : Owner) (t : ℕ) (s : NameState) (f : ℕ)
      → Stands image b (c.Kept b) n ss o → On t b n (own n ss o) s f →
      On (t + count ss) b (first_number image (suc b)) o (run_steps ss s) (f + count ss)
  run_block [] b n o t s f st m = grind arith
  run_block (Fires x op from ∷ ss) b n o t s f st m =
      let w : suc n + count ss ≡ first_number image (suc b) = stands_end image b (c.Kept b) (suc n) ss o
      st.1 in
      let g = turned t b n (own n (Fires x op from ∷ ss) o) s f m (omega arith) (step_case image world t) in
      let a : t + suc (count ss) ≡ suc t + count ss = omega arith in let d : f + suc (count ss) ≡ suc f
      + count ss = omega arith in
      rw (a, d) (run_block ss b (suc n) o (suc t) (run_step (Fires x op from) s) (suc f) st.1 (record {
        mid = rw g.to (fires_mid image b (c.Kept b) shape n x op from (own (suc n) ss o) (P t) s st.0 m.mid
            (omega arith));
        fires = g.fires ∙ ap suc m.fires;
      }))
  run_block (Rests op from ∷ ss) b n o t s f st m =
      let w : suc n + count ss ≡ first_number image (suc b) = stands_end image b (c.Kept b) (suc n) ss o
      st.1 in
      let g = turned t b n (own n (Rests op from ∷ ss) o) s f m (omega arith) (step_case image world t) in
      let a : t + suc (count ss) ≡ suc t + count ss = omega arith in let d : f + suc (count ss) ≡ suc f
      + count ss = omega arith in
      rw (a, d) (run_block ss b (suc n) o (suc t) (run_step (Rests op from) s) (suc f) st.1 (record {
        mid = rw g.to (rests_mid image b (c.Kept b) shape n op from (own (suc n) ss o) (P t) s st.0 m.mid
            (omega arith));
        fires = g.fires ∙ ap suc m.fires;
      }))
  run_block (Skips x op from ∷ ss) b n o t s f st m = run_block ss b n o t (run_step (Skips x op from) s) f
      st.2
      (record {
        mid = skips_mid image b (c.Kept b) shape n x op from (own n ss o) (P t) s st.0 st.1 m.mid;
        fires = m.fires;
      })
  run_block (Copies x y ∷ ss) b n o t s f st m = run_block ss b n o t (run_step (Copies x y) s) f st.1
      (record {
        mid = copies_mid image b (c.Kept b) shape n x y (own n ss o) (P t) s st.0 m.mid;
        fires = m.fires;
      })

  -- the exit's choice
  module _ (b : ℕ) (p : Pos) (s : NameState) (block : IsBlock image b)
      (m : Mid image (c.Kept b) b (first_number image (suc b)) (c.ends b) p s) where
    choice_is : choice image p ≡ chosen image c b s.env
    unfolding choice chosen
    choice_is = rw m.block (go (block_at image b).exit refl)
      where
        go : (x : Exit) → (block_at image b).exit ≡ x → choice_of x p.results ≡ chosen_of x (s.env (c.test b))
        go (Goto a) e = refl
        go Stop e = refl
        go (Branch i a d) e = let w = waits.branches b i a d block e in m.kept i (c.test b) w.1 (w.0.1)
        go (Landings i ls) e = let w = waits.lands b i ls block e in m.kept i (c.test b) w.1 (w.0.1)

    -- what stands at a slot behind the edge at r
    abbrev behind : ℕ → Ports
    behind r = with_tokens (edge_tokens image b r p.wave p.results (first_number image b) (size_of image b))
        p.sent

    arrived : stops image b ≡ false → (r j q x : ℕ) → starts image c (target image b r) j q ≡ Some x
        → behind r p.wave j q ≡ Some (c.next b r s.env x)
    unfolding size_of opens_at
    arrived st r j q x e = go (waits.arrives b r j q x block st e)
      where
        end_open : OpenSlots
        end_open i a = is_some (c.ends b i a)

        fr : Fresh (opens_at image b r) end_open
        fr = edge_fresh image c shape waits b r end_open block st (λ i a. refl)

        none : c.ends b j q ≡ Some x
            → HasDest
            (edge_all image b r (first_number image b) (first_number image (suc b) - first_number image b)) j
            q → ⊥
        none g d = let o = opener image c shape waits b r j q d in grind (
          arith,
          waits.sent_on,
          o.source,
          o.inside,
        )

        unfired : Unfired image b (first_number image (suc b)) j → ⊥
        unfired u = let l : first_number image (suc b) ≤ j = u.low in grind arith

        go : Arrives image c b r j q x
            → with_tokens (edge_tokens image b r p.wave p.results (first_number image b)
            (first_number image (suc b) - first_number image b)) p.sent p.wave j q ≡ Some (c.next b r s.env x)
        go (went_past g n) = grind (arith, edge_other, p.results, p.sent, none, m.holds.now, unfired)
        go (was_sent i h w d k n) =
            let u : first_number image b ≤ first_number image (suc b) = first_up image b in
            edge_lands image b r p.wave p.results (first_number image b)
            (first_number image (suc b) - first_number image b) p.sent end_open i j q fr w.0
            (omega (arith, w.0, w.1)) d
            ∙ ap Some (m.kept i h k w.1 ∙ sym (n s.env))

    -- the target's slots
    unfired_first : (d w : ℕ) (sent' : Ports) (env' : ℕ → ℕ) → IsBlock image d
        → ((j q x : ℕ) → starts image c d j q ≡ Some x → sent' w j q ≡ Some (env' x)) →
        Holds image d (first_number image d) (cond (is_first image d) (suc w) w) (starts image c d) sent' env'
    unfired_first d w sent' env' h a = grind (arith, both_ways)

    pub entered : stops image b ≡ false → (r : ℕ) → Mid image (c.Kept (target image b r)) (target image b r)
        (first_number image (target image b r)) (starts image c (target image b r))
        (enter image (target image b r) p.wave (behind r) p.results p.memory)
        (record { env = c.next b r s.env; out = s.out })
    entered st r = record {
      over = refl;
      block = refl;
      next = refl;
      place = place_leave image (with_input []) shape p r m.place (rw m.block st)
          (enter image (target image b r) p.wave (behind r) p.results p.memory)
          (ap (λ (d : ℕ). target image d r) (sym m.block))
          (ap (λ (d : ℕ). first_number image (target image d r)) (sym m.block))
          (ap (λ (d : ℕ). cond (is_first image (target image d r)) (suc p.wave) p.wave) (sym m.block));
      out = m.out;
      holds = unfired_first (target image b r) p.wave (behind r) (c.next b r s.env)
          ((shape.edges b block).there r st) (arrived st r);
      kept = λ i h w l. absurd (not_yet i h w l);
    }
      where
        not_yet : (i h : ℕ) → c.Kept (target image b r) i h → i < first_number image (target image b r) → ⊥
        not_yet i h w l = let z = waits.kept_in (target image b r) i h ((shape.edges b block).there r st) w in
            omega (arith, z.0)

  -- over a block's end
  stop_step : (t b : ℕ) (s : NameState) (f : ℕ) → On t b (first_number image (suc b)) (c.ends b) s f
      → stops image b ≡ true → StepCase image world t →
      ((P (suc t)).over ≡ true) × ((P (suc t)).memory ≡ s.out) × (length (walk image world (suc t)) ≡ f)
  stop_step t b s f m h p = grind (arith, both_ways, walk_still)

  go_step : (t b : ℕ) (s : NameState) (f : ℕ) → IsBlock image b → On t b (first_number image (suc b))
      (c.ends b) s f → stops image b ≡ false → StepCase image world t →
      (let r = chosen image c b s.env in On (suc t) (target image b r) (first_number image (target image b r))
      (starts image c (target image b r)) (record { env = c.next b r s.env; out = s.out }) f)
  go_step t b s f h m st (stands a e g) = absurd (both_ways (P t).over m.mid.over a)
  go_step t b s f h m st (turns a u e g) =
      absurd (let l : first_number image (suc b) < first_number image (suc b) =
      rw (m.mid.block, m.mid.next) at u in omega arith)
  go_step t b s f h m st (ends a u x e g) = absurd (both_ways (stops image b) st (rw m.mid.block at x))
  go_step t b s f h m st (leaves a u x e g) = record {
    mid = rw e
        (subst (λ (z : ℕ). Mid image (c.Kept (to' z)) (to' z) (first_number image (to' z))
        (starts image c (to' z))
        (enter image (target image z (choice image (P t))) (P t).wave
        (with_tokens (edge_tokens image z (choice image (P t)) (P t).wave (P t).results
        (first_number image z) (size_of image z)) (P t).sent) (P t).results (P t).memory)
        (record { env = c.next b (chosen image c b s.env) s.env; out = s.out })) (sym m.mid.block) at_b);
    fires = walk_still t g ∙ m.fires;
  }
    where
      to' : ℕ → ℕ
      to' z = target image b (chosen image c b s.env)

      at_b : Mid image (c.Kept (target image b (chosen image c b s.env)))
          (target image b (chosen image c b s.env))
          (first_number image (target image b (chosen image c b s.env)))
          (starts image c (target image b (chosen image c b s.env)))
          (enter image (target image b (choice image (P t))) (P t).wave
          (with_tokens (edge_tokens image b (choice image (P t)) (P t).wave (P t).results
          (first_number image b) (size_of image b)) (P t).sent) (P t).results (P t).memory)
          (record { env = c.next b (chosen image c b s.env) s.env; out = s.out })
      at_b = rw (choice_is b (P t) s h m.mid) (entered b (P t) s h m.mid st (chosen image c b s.env))

  start_on : On zero 1 (first_number image 1) (starts image c 1)
      (record { env = λ x. 0; out = opening_memory image world }) 0
  unfolding opening start_tokens is_first walk
  start_on = record {
    mid = rw (pos_start image world shape) (record {
      over = refl;
      block = refl;
      next = refl;
      place = place_start image world shape;
      out = refl;
      holds = record {
        late = λ j q x g u. with_tokens_lands 0 0 (start_dests image) no_ports j q (waits.start_back j q x g);
        now = λ j q x g u. absurd (let i = waits.first 1 j q x shape.has_block refl g in
            u (record { advance = i.1; low = i.0.0; high = i.0.1 }));
      };
      kept = λ i h w l. absurd (let z = waits.kept_in 1 i h shape.has_block w in omega (arith, z.0));
    });
    fires = refl;
  }

  -- the walk stands where the code stands after some blocks
  pub data Tied (t : ℕ) (p : RunPlace) : Type 0 where
    ended : p.over ≡ true → (P t).over ≡ true → (P t).memory ≡ p.out → length (walk image world t) ≡ p.fired
        → Tied t p
    begun : p.over ≡ false → IsBlock image p.block → On t p.block (first_number image p.block)
        (starts image c p.block) (record { env = p.env; out = p.out }) p.fired → Tied t p

  pub record After (m : ℕ) (p : RunPlace) : Type 0 where
    pub time : ℕ
    pub long : m ≤ time
    pub short : time ≤ m + p.fired
    pub tied : Tied time p

  still_over : (t : ℕ) → (P t).over ≡ true → StepCase image world t → (P (suc t) ≡ P t)
      × (fires image world t ≡ None)
  still_over t o h = grind (arith, both_ways)

  block_tied : (m t : ℕ) (p : RunPlace) → m ≤ t → t ≤ m + p.fired → IsBlock image p.block
      → On t p.block (first_number image p.block) (starts image c p.block)
      (record { env = p.env; out = p.out }) p.fired → After (suc m) (pass image c p)
  unfolding pass names_at
  block_tied m t p l few b o = go (cases_Bool (stops image p.block))
    where
      e : NameState
      e = run_steps (c.steps p.block) (record { env = p.env; out = p.out })

      n : ℕ
      n = count (c.steps p.block)

      at_end : On (t + n) p.block (first_number image (suc p.block)) (c.ends p.block) e (p.fired + n)
      at_end = run_block (c.steps p.block) p.block (first_number image p.block) (c.ends p.block) t
          (record { env = p.env; out = p.out }) p.fired (waits.stands p.block b) o

      r : ℕ
      r = chosen image c p.block e.env

      stopped : RunPlace
      stopped = record { over = true; block = p.block; env = e.env; out = e.out; fired = p.fired + n }

      gone : RunPlace
      gone = record {
        over = false;
        block = target image p.block r;
        env = c.next p.block r e.env;
        out = e.out;
        fired = p.fired + n;
      }

      go : (stops image p.block ≡ true) ⊎ (stops image p.block ≡ false)
          → After (suc m) (cond (stops image p.block) stopped gone)
      go (inl h) = let s = stop_step (t + n) p.block e (p.fired + n) at_end h
          (step_case image world (t + n)) in
          rw h (record {
            time = suc (t + n);
            long = omega arith;
            short = omega arith;
            tied = ended refl s.0 s.1 s.2;
          })
      go (inr h) =
          rw h (record {
            time = suc (t + n);
            long = omega arith;
            short = omega arith;
            tied = begun refl ((shape.edges p.block b).there r h)
                (go_step (t + n) p.block e (p.fired + n) b at_end h (step_case image world (t + n)));
          })

  abbrev S : ℕ → RunPlace
  S m = places image c (opening_memory image world) m

  pub after_blocks : (m : ℕ) → After m (S m)
  after_blocks zero = grind (arith, start_on)
  after_blocks (suc m) = on (S m) (after_blocks m)
    where
      on : (p : RunPlace) → After m p → After (suc m) (cond p.over p (pass image c p))
      on p a = go a.tied
        where
          go : Tied a.time p → After (suc m) (cond p.over p (pass image c p))
          go (ended o x y z) = let k = still_over a.time x (step_case image world a.time) in
              let l : m ≤ a.time = a.long in let few : a.time ≤ m + p.fired = a.short in
              subst (λ (w : RunPlace). After (suc m) w) (sym (cond-true p.over p (pass image c p) o))
              (record {
                time = suc a.time;
                long = omega arith;
                short = omega arith;
                tied = ended o (ap (λ (w : Pos). w.over) k.0 ∙ x) (ap (λ (w : Pos). w.memory) k.0 ∙ y)
                    (walk_still a.time k.1 ∙ z);
              })
          go (begun o b x) = subst (λ (w : RunPlace). After (suc m) w)
              (sym (cond-false p.over p (pass image c p) o)) (block_tied m a.time p a.long a.short b x)

  -- after m blocks of the code: a number of steps of the walk, one for each block and each instruction, that
  -- leave the same, are over exactly when the code is, and fire as many instructions
  pub record Same (m t : ℕ) : Type 0 where
    pub long : m ≤ t
    pub short : t ≤ m + (S m).fired
    pub over : (P t).over ≡ (S m).over
    pub out : (P t).memory ≡ (S m).out
    pub cost : length (walk image world t) ≡ (S m).fired

  pub forth : (m : ℕ) → (t : ℕ) × Same m t
  forth m = let a = after_blocks m in (a.time, go a.time a.long a.short a.tied)
    where
      go : (t : ℕ) → m ≤ t → t ≤ m + (S m).fired → Tied t (S m) → Same m t
      go t l few h = grind arith
