-- A draft of plans waits: each of its open slots waits for a name.
use Rattle.std.proofs.Common.{ℕ, ◌≡◌, ◌≤◌, ◌⊎◌, true, false, List, [], ◌∷◌, length, Some, None, refl, sym, ap}
use Rattle.std.proofs.Common.{◌∙◌, subst, inl, inr, arith}
use Rattle.std.proofs.lemmas.Bool.{both_ways}
use Rattle.ws_isa.specs.Image as image
use Rattle.ws_isa.specs.Image.{Image, Array, block_at, first_number, is_stop, edge_dests, pad_of, start_dests}
use Rattle.ws_isa.specs.Image.{target, stops, IsIn, IsBlock}
use Rattle.ws_isa.specs.Sound.{HasDest, edge_all, opens_at}
use Rattle.wave_gen.specs.Waits.{DistinctDests, Code, starts, Stands, Arrives, Waits}
use Rattle.wave_gen.specs.Wire.{dests_of, Wants}
use Rattle.wave_gen.specs.Plans.{HowLeft, Onto, Either, Lands, Halts, Plan, pulse, fronts, plan_at, starts_at}
use Rattle.wave_gen.specs.Plans.{begins, end_wants, pads_of, draft_of, code_of, exit_of, source_of, KeptOf}
use Rattle.wave_gen.specs.Plans.{operands_needed, chooses, exit_made}
use Rattle.wave_gen.proofs.Planning.Planned.{PlansAre, EdgesAre, Inner, Outer}
use Rattle.ws_isa.proofs.Slots.{edge_all_from}
use Rattle.wave_gen.proofs.Waits.Fronts.{front_is}
use Rattle.wave_gen.proofs.Drawing.Blocks.{starts_outer, facts}
use Rattle.wave_gen.proofs.Drawing.Drafts.{block_stands, source_in}
use Rattle.wave_gen.proofs.Drawing.Starts.{starts_has, starts_all, waits_first, waits_first_all}
use Rattle.wave_gen.proofs.Drawing.TailLines.{tail_in}
use Rattle.wave_gen.proofs.Drawing.Edges.{exit_is, onto_arrives, onto_past, onto_sent, either_arrives}
use Rattle.wave_gen.proofs.Drawing.Edges.{either_past, either_sent, either_once, lands_arrives, lands_sent}
use Rattle.wave_gen.proofs.Drawing.Edges.{lands_once, lands_none, ends_none, empty_distinct, block_size}
use Rattle.wave_gen.proofs.Drawing.Number.{block_at_is, is_block}
use Rattle.ws_words.specs.Items.{nth}

module _ (arrays : List Array) (width : ℕ) (ps : List Plan) (Live : ℕ → ℕ → Type 0)
    (plans : PlansAre ps width Live) where
  abbrev I : Image
  I = draft_of arrays width ps

  abbrev C : Code
  C = code_of width ps

  abbrev Is : ℕ → Type 0
  Is b = (1 ≤ b) × (b ≤ length ps)

  pub target_there : (b c : ℕ) → Is b → Inner ps b c ⊎ Outer ps c → Is c
  target_there b c h p = grind arith

  pub stops_is : (b : ℕ) → Is b → stops I b ≡ is_stop (exit_of (source_of width ps b) (plan_at ps b).exit)
  unfolding stops
  stops_is b h = ap is_stop (exit_is arrays width ps Live plans b h)

  none_once : (b : ℕ) → Is b → ((r m j q : ℕ) → IsIn I b m → HasDest (edge_dests I b r m) j q → ⊥) → (r : ℕ)
      → DistinctDests (opens_at I b r)
  unfolding opens_at
  none_once b h n r = empty_distinct (edge_all I b r (first_number I b) (image.size_of I b)) (λ j q d.
      (let f = edge_all_from I b r (first_number I b) (image.size_of I b) j q d in
      n r f.source j q (f.low, block_size arrays width ps Live plans b h f.source f.low f.high) f.has))

  -- what is known of the edges of a block
  record Edges (b : ℕ) : Type 0 where
    pub arrives : (r j q x : ℕ) → stops I b ≡ false → starts I C (target I b r) j q ≡ Some x
        → Arrives I C b r j q x
    pub past_on : (r j q x : ℕ) → stops I b ≡ false → C.ends b j q ≡ Some x
        → (y : ℕ) × (starts I C (target I b r) j q ≡ Some y)
    pub sent_on : (r m j q : ℕ) → stops I b ≡ false → IsIn I b m → HasDest (edge_dests I b r m) j q
        → (C.ends b j q ≡ None) × ((y : ℕ) × (starts I C (target I b r) j q ≡ Some y))
    pub once : (r : ℕ) → stops I b ≡ false → DistinctDests (opens_at I b r)
    pub stop : (j q : ℕ) → stops I b ≡ true → C.ends b j q ≡ None

  edges : (b : ℕ) → Is b → Edges b
  edges b h = go (plan_at ps b).exit refl (plans.each b h).edges
    where
      stopping : (e : HowLeft) → (plan_at ps b).exit ≡ e
          → stops I b ≡ is_stop (exit_of (source_of width ps b) e)
      stopping e q = stops_is b h ∙ ap (λ (l : HowLeft). is_stop (exit_of (source_of width ps b) l)) q

      go : (e : HowLeft) → (plan_at ps b).exit ≡ e → EdgesAre ps b e → Edges b
      go (Onto c) q e = let hc : Is c = target_there b c h e in record {
        arrives = λ r j p x s. onto_arrives arrays width ps Live plans b h c q hc r j p x;
        past_on = λ r j p x s. onto_past arrays width ps Live plans b h c q hc r j p x;
        sent_on = λ r m j p s i d. absurd (onto_sent arrays width ps Live plans b h c q hc r m j p i d);
        once = λ r s. none_once b h (λ r m j p i d. onto_sent arrays width ps Live plans b h c q hc r m j p i
            d) r;
        stop = λ j p s. absurd (both_ways (stops I b) (stopping (Onto c) q) s);
      }
      go (Either op from c d) q e = let hc : Is c = target_there b c h (inl e.0) in let hd : Is d =
          target_there b d h (inl e.1) in record {
            arrives = λ r j p x s. either_arrives arrays width ps Live plans b h op from c d q hc hd r j p x;
            past_on = λ r j p x s. either_past arrays width ps Live plans b h op from c d q hc hd r j p x;
            sent_on = λ r m j p s i k. either_sent arrays width ps Live plans b h op from c d q hc hd r m j p
                i k;
            once = λ r s. either_once arrays width ps Live plans b h op from c d q hc hd r;
            stop = λ j p s. absurd (both_ways (stops I b) (stopping (Either op from c d) q) s);
          }
      go (Lands op from values ls) q e = record {
        arrives = λ r j p x s. lands_arrives arrays width ps Live plans b h op from values ls q e.0 e.1 r j p
            x;
        past_on =
            λ r j p x s k.
            absurd (let z : None ≡ Some x = sym (lands_none arrays width ps Live plans b h op from values ls q
            e.0 e.1 j p) ∙ k in cc);
        sent_on = λ r m j p s i k. (
          lands_none arrays width ps Live plans b h op from values ls q e.0 e.1 j p,
          lands_sent arrays width ps Live plans b h op from values ls q e.0 e.1 r m j p i k,
        );
        once = λ r s. lands_once arrays width ps Live plans b h op from values ls q e.0 e.1 r;
        stop = λ j p s. absurd (both_ways (stops I b) (stopping (Lands op from values ls) q) s);
      }
      go Halts q e = record {
        arrives = λ r j p x s. absurd (both_ways (stops I b) s (stopping Halts q));
        past_on = λ r j p x s. absurd (both_ways (stops I b) s (stopping Halts q));
        sent_on = λ r m j p s. absurd (both_ways (stops I b) s (stopping Halts q));
        once = λ r s. absurd (both_ways (stops I b) s (stopping Halts q));
        stop = λ j p s. ends_none arrays width ps Live plans b h j p
            (λ x g. subst
            (λ (l : HowLeft). HasDest (dests_of (begins width ps) (end_wants width (starts_at width ps) l x))
            j p) q g);
      }

  -- the start pulse
  pub one_is : Is 1
  one_is = (omega arith, plans.some)

  start_list : start_dests I ≡ dests_of (begins width ps) (starts_at width ps 1 pulse)
  unfolding start_dests
  start_list = ap (λ (k : image.Block). pad_of k.pads 0) (block_at_is arrays width ps 1 one_is)
      ∙ pad_zero (plan_at ps 1).pads plans.first_pads
      ∙ sym (ap (dests_of (begins width ps))
      (ap (λ (w : Wants). w pulse) (starts_outer width ps 1 plans.first)))
    where
      pad_zero : (xs : List ℕ) → nth xs 0 ≡ Some pulse
          → pad_of (pads_of (begins width ps) 1 0 (plan_at ps 1).entries xs) 0 ≡ dests_of (begins width ps)
          (fronts 1 0 (plan_at ps 1).entries pulse)
      pad_zero [] e = absurd (let a : None ≡ Some pulse = e in cc)
      pad_zero (x ∷ xs) e = grind arith

  start_pulse : (j q x : ℕ) → starts I C 1 j q ≡ Some x → x ≡ pulse
  start_pulse j q x e =
      let d = rw (ap (λ (w : Wants). w x) (starts_outer width ps 1 plans.first)) at
      (starts_all arrays width ps Live plans 1 one_is x j q e) in
      let f = front_is (begins width ps) 1 (plan_at ps 1).entries x j q (plans.each 1 one_is).entries_apart
      d in
      only f.place (subst (λ (l : List ℕ). nth l f.place ≡ Some x) plans.first_entries f.is)
    where
      only : (i : ℕ) → nth (pulse ∷ []) i ≡ Some x → x ≡ pulse
      only i e = grind arith

  pub kept_inside : (b m x : ℕ) → Is b → KeptOf width ps b m x → IsIn I b m
  kept_inside b m x h (inr t) = tail_in arrays width ps Live plans.each b h m x t
  kept_inside b m x h (inl k) = rw k.1 (source_inside (plan_at ps b).exit refl k.0)
    where
      source_inside : (e : HowLeft) → (plan_at ps b).exit ≡ e → chooses (plan_at ps b).exit ≡ true
          → IsIn I b (source_of width ps b)
      source_inside (Onto c) q k = absurd (both_ways (chooses (plan_at ps b).exit) (ap chooses q) k)
      source_inside Halts q k = absurd (both_ways (chooses (plan_at ps b).exit) (ap chooses q) k)
      source_inside (Either op from c d) q k = source_in arrays width ps Live plans.each b h op from
          (ap operands_needed q) k (ap (exit_made width (starts_at width ps) b (plan_at ps b)) q)
      source_inside (Lands op from values ls) q k = source_in arrays width ps Live plans.each b h op from
          (ap operands_needed q) k (ap (exit_made width (starts_at width ps) b (plan_at ps b)) q)

  pub chooses_by : (b : ℕ) → Is b → (s x y : ℕ) → (block_at I b).exit ≡ image.Branch s x y
      → (s ≡ source_of width ps b) × (chooses (plan_at ps b).exit ≡ true)
  chooses_by b h s x y e = go (plan_at ps b).exit refl
    where
      go : (l : HowLeft) → (plan_at ps b).exit ≡ l → (s ≡ source_of width ps b)
          × (chooses (plan_at ps b).exit ≡ true)
      go l q = here l (sym (exit_is arrays width ps Live plans b h ∙ ap (exit_of (source_of width ps b)) q)
          ∙ e) q
        where
          here : (l : HowLeft) → exit_of (source_of width ps b) l ≡ image.Branch s x y
              → (plan_at ps b).exit ≡ l → (s ≡ source_of width ps b) × (chooses (plan_at ps b).exit ≡ true)
          here l f q = grind arith

  pub lands_by : (b : ℕ) → Is b → (s : ℕ) (ls : List ℕ) → (block_at I b).exit ≡ image.Landings s ls
      → (s ≡ source_of width ps b) × (chooses (plan_at ps b).exit ≡ true)
  lands_by b h s ls e = go (plan_at ps b).exit refl
    where
      go : (l : HowLeft) → (plan_at ps b).exit ≡ l → (s ≡ source_of width ps b)
          × (chooses (plan_at ps b).exit ≡ true)
      go l q = here l (sym (exit_is arrays width ps Live plans b h ∙ ap (exit_of (source_of width ps b)) q)
          ∙ e) q
        where
          here : (l : HowLeft) → exit_of (source_of width ps b) l ≡ image.Landings s ls
              → (plan_at ps b).exit ≡ l → (s ≡ source_of width ps b) × (chooses (plan_at ps b).exit ≡ true)
          here l f q = grind arith

  chosen_kept : (b s : ℕ) → Is b → (s ≡ source_of width ps b) × (chooses (plan_at ps b).exit ≡ true)
      → IsIn I b s × KeptOf width ps b s (plan_at ps b).test
  chosen_kept b s h k = (kept_inside b s (plan_at ps b).test h (inl (k.1, k.0, refl)), inl (k.1, k.0, refl))

  there : (b : ℕ) → IsBlock I b → Is b
  there b h = is_block arrays width ps b h

  stands_block : (b : ℕ) → IsBlock I b → Stands I b (C.Kept b) (first_number I b) (C.steps b) (C.ends b)
  unfolding code_of
  stands_block b h = block_stands arrays width ps Live plans.each b (there b h)

  kept_in_block : (b m x : ℕ) → IsBlock I b → C.Kept b m x → IsIn I b m
  unfolding code_of
  kept_in_block b m x h k = kept_inside b m x (there b h) k

  branch_kept : (b s x y : ℕ) → IsBlock I b → (block_at I b).exit ≡ image.Branch s x y
      → IsIn I b s × C.Kept b s (C.test b)
  unfolding code_of
  branch_kept b s x y h e = chosen_kept b s (there b h) (chooses_by b (there b h) s x y e)

  lands_kept : (b s : ℕ) (ls : List ℕ) → IsBlock I b → (block_at I b).exit ≡ image.Landings s ls
      → IsIn I b s × C.Kept b s (C.test b)
  unfolding code_of
  lands_kept b s ls h e = chosen_kept b s (there b h) (lands_by b (there b h) s ls e)

  pub waits : Waits I C
  waits = record {
    stands = stands_block;
    first = waits_first arrays width ps Live plans;
    first_all = waits_first_all arrays width ps Live plans;
    arrives = λ b r j q x h s e. (edges b (there b h)).arrives r j q x s e;
    past_on = λ b r j q x h s e. (edges b (there b h)).past_on r j q x s e;
    sent_on = λ b r m j q h s i d. (edges b (there b h)).sent_on r m j q s i d;
    once = λ b r h s. (edges b (there b h)).once r s;
    stop = λ b j q h s. (edges b (there b h)).stop j q s;
    start = λ j q d. (
      pulse,
      starts_has arrays width ps Live plans 1 one_is pulse j q
          (rw start_list at d),
    );
    start_back = λ j q x e. rw start_list
        (starts_all arrays width ps Live plans 1 one_is pulse j q (e ∙ ap Some (start_pulse j q x e)));
    start_once = subst DistinctDests (sym start_list)
        (((facts width ps Live plans.each 1 one_is).clean 0 (omega arith)).once pulse);
    kept_in = kept_in_block;
    branches = branch_kept;
    lands = lands_kept;
  }
