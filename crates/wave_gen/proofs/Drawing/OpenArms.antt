-- Arms, givers, and no notes: parts of what makes a draft open to notes.
use Rattle.std.proofs.Common.{ℕ, zero, suc, ◌+◌, ◌≡◌, ◌<◌, ◌≤◌, ◌⊎◌, ◌||◌, true, false, List, [], ◌∷◌, length}
use Rattle.std.proofs.Common.{map, Some, None, refl, sym, ap, ◌∙◌, subst, inl, inr, arith}
use Rattle.std.proofs.lemmas.Bool.{false≢true, cases_Bool, cond-true, cond-false}
use Rattle.std.specs.List.{AllByRecursion}
use Rattle.ws_isa.specs.declared.instr.Op.TheVariants.{Merge}
use Rattle.ws_isa.specs.Image as image
use Rattle.ws_isa.specs.Image.{Image, Instr, Array, flat, block_at, first_number, is_giving}
use Rattle.ws_isa.specs.Image.{is_giving_op, edges_of, IsBlock}
use Rattle.ws_isa.specs.Formed.{NoNotes}
use Rattle.ws_isa.specs.Open.{OnlyEdge, IsArm, HasGiver, EnteredBySteer}
use Rattle.wave_gen.specs.Wire.{WiredInstr, Made}
use Rattle.wave_gen.specs.Plans.{gives, merges, differing, HowLeft, Onto, Either, Lands, Halts, Plan, pulse}
use Rattle.wave_gen.specs.Plans.{steer_of, tails_of, body_made, renew, plan_at, made_at, starts_at, begins}
use Rattle.wave_gen.specs.Plans.{instr_of, blocks_of, draft_of, exit_of, source_of}
use Rattle.wave_gen.proofs.Planning.SteeredNames.{or_first}
use Rattle.wave_gen.proofs.Planning.Planned.{PlansAre, EdgesAre, Inner}
use Rattle.wave_gen.proofs.Planning.Opening.{OnlyEdgeOf, PlansOpen}
use Rattle.wave_gen.proofs.Drawing.Blocks.{made_is, begins_next}
use Rattle.wave_gen.proofs.Waits.Fronts.{advances_count}
use Rattle.wave_gen.proofs.Drawing.Starts.{first_is}
use Rattle.wave_gen.proofs.Drawing.Edges.{exit_is}
use Rattle.wave_gen.proofs.Drawing.TailLines.{tail_instr}
use Rattle.wave_gen.proofs.Drawing.Drafts.{front_line, line_of}
use Rattle.wave_gen.proofs.Drawing.Number.{number_is, block_at_is, is_block, block_is}
use Rattle.ws_words.proofs.Lists.{all_append}
use Rattle.ws_words.specs.Items.{nth, In}
use Rattle.ws_words.proofs.Places.{nth_short}

no_notes_in : (first : ℕ → ℕ) (ls : List WiredInstr) → AllByRecursion (λ i. i.note ≡ None)
    (map (instr_of first) ls)
no_notes_in first [] = tt
no_notes_in first (l ∷ ls) = (refl, no_notes_in first ls)

no_notes_from : (width : ℕ) (ps : List Plan) (b n : ℕ) → AllByRecursion (λ i. i.note ≡ None)
    (flat (blocks_of width ps b n))
no_notes_from width ps b zero = tt
no_notes_from width ps b (suc n) = grind (arith, all_append, no_notes_in, no_notes_from width ps (suc b) n)

pub draft_bare : (arrays : List Array) (width : ℕ) (ps : List Plan) → NoNotes (draft_of arrays width ps)
unfolding draft_of
draft_bare arrays width ps = no_notes_from width ps 1 (length ps)

record GiverIn (ls : List WiredInstr) : Type 0 where
  pub place : ℕ
  pub line : WiredInstr
  pub at : nth ls place ≡ Some line
  pub giving : is_giving_op line.op ≡ true

giver_in : (ls : List WiredInstr) → gives ls ≡ true → GiverIn ls
giver_in [] e = absurd (false≢true e)
giver_in (l ∷ ls) e = elim (cases_Bool (is_giving_op l.op)) [
  | inl t ↦ record { place = 0; line = l; at = refl; giving = t }
  | inr f ↦ (let r = giver_in ls (sym (ap (λ b. b || gives ls) f) ∙ e) in
      record { place = suc r.place; line = r.line; at = r.at; giving = r.giving })
]

module _ (arrays : List Array) (width : ℕ) (ps : List Plan) (Live : ℕ → ℕ → Type 0)
    (plans : PlansAre ps width Live) (opens : PlansOpen ps) where
  abbrev I : Image
  I = draft_of arrays width ps

  abbrev Is : ℕ → Type 0
  Is b = (1 ≤ b) × (b ≤ length ps)

  -- edges of a block are those of its plan
  edges_same : (s : ℕ) (e : HowLeft) → edges_of (exit_of s e) ≡ edges_of (exit_of 0 e)
  edges_same s e = grind arith

  edges_are : (b : ℕ) → Is b → edges_of (block_at I b).exit ≡ edges_of (exit_of 0 (plan_at ps b).exit)
  edges_are b h = ap edges_of (exit_is arrays width ps Live plans b h) ∙ edges_same (source_of width ps b)
      (plan_at ps b).exit

  only_edge : (b place c : ℕ) → Is b → OnlyEdgeOf ps b place c → OnlyEdge I b place c
  only_edge b place c h o = record {
    is = ap (λ (l : List ℕ). nth l place) (edges_are b h) ∙ o.is;
    only = λ d e hd f. (let hd' : Is d = is_block arrays width ps d hd in
        o.only d e hd' (ap (λ (l : List ℕ). nth l e) (sym (edges_are d hd')) ∙ f));
  }

  arm_is : (b place c : ℕ) → Is b → Inner ps b c → OnlyEdgeOf ps b place c → IsArm I b place c
  arm_is b place c h i o =
      let hc : Is c = (let l : b < c = i.later in omega (arith, h.0), i.there) in
      record {
        not_first = first_is arrays width ps Live plans c hc ∙ i.not_first;
        same_wave = grind (arith, block_at_is);
        only = only_edge b place c h o;
      }

  pub draft_arms : (b s x y : ℕ) → IsBlock I b → (block_at I b).exit ≡ image.Branch s x y
      → IsArm I b 0 x × IsArm I b 1 y
  draft_arms b s x y hb e = go (plan_at ps b).exit refl
    where
      h : Is b
      h = is_block arrays width ps b hb

      go : (l : HowLeft) → (plan_at ps b).exit ≡ l → IsArm I b 0 x × IsArm I b 1 y
      go (Onto c) q =
          absurd (let f : image.Goto c ≡ image.Branch s x y = sym (exit_is arrays width ps Live plans b h
          ∙ ap (exit_of (source_of width ps b)) q) ∙ e in cc)
      go Halts q =
          absurd (let f : image.Stop ≡ image.Branch s x y = sym (exit_is arrays width ps Live plans b h
          ∙ ap (exit_of (source_of width ps b)) q) ∙ e in cc)
      go (Lands op from values ls) q =
          absurd (let f : image.Landings (source_of width ps b) ls ≡ image.Branch s x y =
          sym (exit_is arrays width ps Live plans b h ∙ ap (exit_of (source_of width ps b)) q) ∙ e in cc)
      go (Either op from c d) q =
          let f : image.Branch (source_of width ps b) c d ≡ image.Branch s x y =
          sym (exit_is arrays width ps Live plans b h ∙ ap (exit_of (source_of width ps b)) q) ∙ e in
          let ex : c ≡ x = cc in let ey : d ≡ y = cc in
          let g = subst (λ (l : HowLeft). EdgesAre ps b l) q (plans.each b h).edges in
          let o = opens.arms b op from c d h q in (
            subst (λ (z : ℕ). IsArm I b 0 z) ex (arm_is b 0 c h g.0 o.0),
            subst (λ (z : ℕ). IsArm I b 1 z) ey (arm_is b 1 d h g.1 o.1),
          )

  -- the first instruction of a block
  giver_at : (b : ℕ) → Is b → 1 ≤ length (made_at width ps b).code
      → ((l : WiredInstr) → nth (made_at width ps b).code 0 ≡ Some l → is_giving_op l.op ≡ true)
      → HasGiver I b
  unfolding is_giving
  giver_at b h some gives =
      let n : begins width ps (suc b) ≡ begins width ps b + length (made_at width ps b).code =
      begins_next width ps b h in
      let l = line_of arrays width ps Live plans.each b h (begins width ps b) (omega arith) (omega arith) in
      let p : begins width ps b ≡ begins width ps b + l.place = l.number in
      let z : l.place ≡ 0 = omega arith in
      let y : first_number I b ≡ begins width ps b = number_is arrays width ps b in
      let w : first_number I (suc b) ≡ begins width ps (suc b) = number_is arrays width ps (suc b) in
      record {
        instr = begins width ps b;
        inside = (omega arith, omega arith);
        gives = ap (λ (i : Instr). is_giving_op i.op) l.is ∙ gives l.line
            (ap (nth (made_at width ps b).code) (sym z) ∙ l.found);
      }

  -- an instruction of a block
  giver_from : (b : ℕ) → Is b → (i : ℕ) (x : WiredInstr) → nth (made_at width ps b).code i ≡ Some x
      → is_giving_op x.op ≡ true → HasGiver I b
  unfolding is_giving
  giver_from b h i x e gives =
      let n : begins width ps (suc b) ≡ begins width ps b + length (made_at width ps b).code =
      begins_next width ps b h in
      let lt : i < length (made_at width ps b).code = nth_short (made_at width ps b).code i x e in
      let l = line_of arrays width ps Live plans.each b h (begins width ps b + i) (omega arith)
      (omega arith) in
      let p : begins width ps b + i ≡ begins width ps b + l.place = l.number in
      let z : l.place ≡ i = omega arith in
      let y : first_number I b ≡ begins width ps b = number_is arrays width ps b in
      let w : first_number I (suc b) ≡ begins width ps (suc b) = number_is arrays width ps (suc b) in
      let found : Some l.line ≡ Some x = sym (ap (nth (made_at width ps b).code) (sym z) ∙ l.found) ∙ e in
      let same : l.line ≡ x = cc in
      record {
        instr = begins width ps b + i;
        inside = (omega arith, omega arith);
        gives = ap (λ (k : Instr). is_giving_op k.op) l.is ∙ ap (λ (k : WiredInstr). is_giving_op k.op) same
            ∙ gives;
      }

  some_entry : (xs : List ℕ) (x : ℕ) → In x xs → 1 ≤ length xs
  some_entry [] x i = absurd i
  some_entry (y ∷ xs) x i = omega arith

  pub draft_givers : (b : ℕ) → IsBlock I b → HasGiver I b ⊎ EnteredBySteer I b
  draft_givers b hb = go (cases_Bool (plan_at ps b).first) (cases_Bool (plan_at ps b).joined)
    where
      h : Is b
      h = is_block arrays width ps b hb

      go : ((plan_at ps b).first ≡ true) ⊎ ((plan_at ps b).first ≡ false) → ((plan_at ps b).joined ≡ true)
          ⊎ ((plan_at ps b).joined ≡ false) → HasGiver I b ⊎ EnteredBySteer I b
      go (inl f) j =
          let s : 1 ≤ length (plan_at ps b).entries = some_entry (plan_at ps b).entries pulse
          ((plans.each b h).entries f pulse (plans.each b h).pulse_live) in
          let m : length (made_at width ps b).code ≡ length (plan_at ps b).entries + length
          (renew b (plan_at ps b).entries (body_made width (starts_at width ps) b (plan_at ps b))).code =
          ap (λ (x : Made). length x.code) (made_is width ps b h (plans.each b h).edges
          ∙ cond-true (plan_at ps b).first _ _ f) ∙ advances_count b (plan_at ps b).entries
          (renew b (plan_at ps b).entries (body_made width (starts_at width ps) b (plan_at ps b))) in
          inl (giver_at b h (omega arith)
          (λ l e. ap is_giving_op (front_line arrays width ps Live plans.each b h f 0 l s e)))
      go (inr f) (inl j) =
          inl (elim (cases_Bool (gives (body_made width (starts_at width ps) b (plan_at ps b)).code))
          [ inl g ↦ given g | inr g ↦ merged g ])
        where
          merge_gives : (l : WiredInstr)
              → Some (record {
                op = Merge;
                dests = (body_made width (starts_at width ps) b (plan_at ps b)).wants pulse;
                others = [];
              })
              ≡ Some l → is_giving_op l.op ≡ true
          merge_gives l e =
              let g : record {
                op = Merge;
                dests = (body_made width (starts_at width ps) b (plan_at ps b)).wants pulse;
                others = [];
              } ≡ l =
              cc in ap (λ (x : WiredInstr). is_giving_op x.op) (sym g)

          given : gives (body_made width (starts_at width ps) b (plan_at ps b)).code ≡ true → HasGiver I b
          given g =
              let k : merges (plan_at ps b) (body_made width (starts_at width ps) b (plan_at ps b)) ≡ false =
              rw (j, g) refl in
              let m : made_at width ps b ≡ body_made width (starts_at width ps) b (plan_at ps b) =
              made_is width ps b h (plans.each b h).edges ∙ cond-false (plan_at ps b).first _ _ f
              ∙ cond-false (merges (plan_at ps b) (body_made width (starts_at width ps) b (plan_at ps b)))
              _ _ k in
              let x = giver_in (body_made width (starts_at width ps) b (plan_at ps b)).code g in
              giver_from b h x.place x.line (ap (λ (s : Made). nth s.code x.place) m ∙ x.at) x.giving

          merged : gives (body_made width (starts_at width ps) b (plan_at ps b)).code ≡ false → HasGiver I b
          merged g =
              let k : merges (plan_at ps b) (body_made width (starts_at width ps) b (plan_at ps b)) ≡ true =
              rw (j, g) refl in
              grind (arith, made_is, h, plans.each, cond-false, cond-true, giver_at, merge_gives)
      go (inr f) (inr j) =
          let a = opens.bare b h f j in
          let S = starts_at width ps in
          let u = or_first (differing (S a.one) (S a.other) 0 width) in
          let t : nth (tails_of width (starts_at width ps) (plan_at ps a.before).exit) 0
          ≡ Some (steer_of (S a.one) (S a.other) u.name) =
          ap (λ (l : HowLeft). nth (tails_of width (starts_at width ps) l) 0) a.exit
          ∙ u.is (S a.one) (S a.other) in
          let i = tail_instr arrays width ps Live plans.each a.before a.there 0
          (steer_of (S a.one) (S a.other) u.name) t in
          inr (record {
            before = a.before;
            place = a.place;
            instr = i.instr;
            block = block_is arrays width ps a.before a.there;
            edge = only_edge a.before a.place b a.there a.edge;
            inside = i.inside;
            steers = ap (λ (x : Instr). x.op) i.is;
          })
