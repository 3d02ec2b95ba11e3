-- Blocks with numbers are those of the draft.
use Rattle.std.proofs.Common.{ℕ, suc, ◌+◌, ◌-◌, ◌≡◌, ◌<◌, ◌≤◌, min, List, [], ◌∷◌, ◌++◌, length, map}
use Rattle.std.proofs.Common.{reverse, drop, get_or, refl, sym, ap, ◌∙◌, arith}
use Rattle.std.proofs.lemmas.List.{drop_more, append_assoc, map_push, length-map, length-reverse}
use Rattle.std.proofs.lemmas.List.{get_or-reverse}
use Rattle.ws_isa.specs.Image as image
use Rattle.ws_isa.specs.declared.image.Pad as isa_pad
use Rattle.ws_isa.specs.declared.image.Block as isa_block
use Rattle.ws_isa.specs.View as isa
use Rattle.wave_gen.specs.declared.plan.Plan as code
use Rattle.wave_gen.specs.declared.kept.Kept.{Kept}
use Rattle.wave_gen.specs.View as view
use Rattle.wave_gen.specs.Wire as plain
use Rattle.wave_gen.specs.Wire.{Made, dests_of}
use Rattle.wave_gen.specs.Plans.{Plan, no_made, plan_at, fronts, mades, made_at, numbers, begins, instr_of}
use Rattle.wave_gen.specs.Plans.{pads_of, exit_of, source_of, block_of, blocks_of, draft_of}
use Rattle.wave_gen.specs.Kept.{behind_at, IsKept, AreKept}
use Rattle.wave_gen.specs.Numbered.{at_place, number_at, numbers_from, numbered}
use Rattle.wave_gen.proofs.OfGraphs.Framed.{plan_is}
use Rattle.ws_words.specs.Items.{nth, or_else}

pub pads_next : (f : ℕ → ℕ) (b i : ℕ) (entries xs : List ℕ) (ps new : List isa_pad.Pad) (p : isa_pad.Pad)
    (whole : List image.Pad) → i < length xs → new ≡ ps ++ p ∷ []
    → isa.pad p ≡ record { number = i; dests = dests_of f (fronts b 0 entries (get_or xs i 0)) }
    → map isa.pad ps ++ pads_of f b i entries (drop i xs) ≡ whole
    → map isa.pad new ++ pads_of f b (i + 1) entries (drop (i + 1) xs) ≡ whole
pads_next f b i entries xs ps new p whole lt en ep h = grind (arith, map_push, append_assoc, drop_more)

module _ (width : ℕ) (ps : List Plan) where
  kept_is : (b : ℕ) (ks : List Kept) (ss : List Made) (i : ℕ) (x : Kept) → AreKept width ps b ks ss
      → i < length ks → x ≡ get_or ks i x → IsKept width ps (b + i) x (or_else (nth ss i) no_made)
  kept_is b (y ∷ ks) (s ∷ ss) (suc i) x h lt e = grind (arith, kept_is (suc b) ks ss i x h.1 (omega arith) e)
  kept_is b ks ss i x h lt e = grind arith

  code_length : (b : ℕ) (k : Kept) (s : Made) → IsKept width ps b k s → length k.code.items ≡ length s.code
  code_length b k s h = grind (arith, length-map, length-reverse)

  numbers_long : (n : ℕ) (ks : List Kept) → 1 ≤ length (numbers_from n ks)
  numbers_long n [] = omega arith
  numbers_long n (k ∷ ks) = omega arith

  number_from : (b n : ℕ) (ks : List Kept) (ss : List Made) (c q : ℕ) → AreKept width ps b ks ss
      → q ≡ min (suc c) (length (numbers_from n ks)) → at_place (numbers_from n ks) q + 1 ≡ n + numbers ss c
  number_from b n (k ∷ ks) (s ∷ ss) (suc c) q h e =
      let rest = numbers_from (n + length k.code.items) ks in
      let long : 1 ≤ length rest = numbers_long (n + length k.code.items) ks in
      let two : q ≡ suc (suc (q - 2)) = omega arith in
      let at : at_place (n ∷ rest) q ≡ at_place rest (suc (q - 2)) = ap (at_place (n ∷ rest)) two in
      let less : suc (q - 2) ≡ min (suc c) (length rest) = omega arith in
      let same : length k.code.items ≡ length s.code = code_length b k s h.0 in
      omega (arith, number_from (suc b) (n + length k.code.items) ks ss c (suc (q - 2)) h.1 less)
  number_from b n ks ss c q h e = grind arith

  begins_at : (ks : List Kept) (x : ℕ) → AreKept width ps 1 ks (mades width ps)
      → number_at (numbers_from 1 ks) x ≡ begins width ps x
  unfolding begins
  begins_at ks x h = grind (arith, number_from)

  -- a block by its parts
  abbrev Form : (ℕ → ℕ) → Plan → List plain.WiredInstr → ℕ → ℕ → image.Block
  Form f p ls h b = record {
    wave = p.wave;
    pads = pads_of f b 0 p.entries p.pads;
    instrs = map (instr_of f) ls;
    exit = exit_of (f (suc b) - suc h) p.exit;
  }

  form_is : (b : ℕ) → Form (begins width ps) (plan_at ps b) (made_at width ps b).code (behind_at width ps b) b
      ≡ block_of width ps b
  unfolding source_of
  form_is b = refl

module _ (width : ℕ) (ds : List code.Plan) where
  abbrev Ps : List Plan
  Ps = map view.plan ds

  block_is : (ns : List ℕ) (ks : List Kept) (i : ℕ) (p : code.Plan) (k : Kept)
      → ns ≡ numbers_from 1 (reverse ks) → AreKept width Ps 1 (reverse ks) (mades width Ps) → i < length ks
      → i < length ds
      → p ≡ get_or ds i p → k ≡ get_or ks (length ks - 1 - i) k → numbered ns p k (i + 1) ≡ block_of width Ps
      (suc i)
  unfolding made_at
  block_is ns ks i p k en h lk ld ep ek =
      let numbers_are : ◌≡◌ {A = ℕ → ℕ} (number_at ns) (begins width Ps) =
      λ j x. (ap (λ (zs : List ℕ). number_at zs x) en ∙ begins_at width Ps (reverse ks) x h) j in
      let plan : view.plan p ≡ plan_at Ps (suc i) = sym (plan_is ds (suc i) i p refl (omega arith) ep) in
      let kept = kept_is width Ps 1 (reverse ks) (mades width Ps) i k h (omega (arith, length-reverse ks))
      (ek ∙ sym (get_or-reverse ks i k lk)) in
      let one : 1 + i ≡ suc i = omega arith in
      let behind : k.behind ≡ behind_at width Ps (suc i) = kept.behind ∙ ap (behind_at width Ps) one in
      let up : i + 1 ≡ suc i = omega arith in
      (λ j. Form width Ps (numbers_are j) (plan j) (kept.code j) (behind j) (up j)) ∙ form_is width Ps (suc i)

  pub blocks_next : (ns : List ℕ) (ks : List Kept) (i : ℕ) (p : code.Plan) (k : Kept)
      (bs new : List isa_block.Block) (b : isa_block.Block) (whole : List image.Block)
      → ns ≡ numbers_from 1 (reverse ks) → AreKept width Ps 1 (reverse ks) (mades width Ps)
      → i < length ks → i < length ds → p ≡ get_or ds i p → k ≡ get_or ks (length ks - 1 - i) k
      → new ≡ bs ++ b ∷ [] → isa.block b ≡ numbered ns p k (i + 1)
      → map isa.block bs ++ blocks_of width Ps (suc i) (length ds - i) ≡ whole
      → map isa.block new ++ blocks_of width Ps (suc (i + 1)) (length ds - (i + 1)) ≡ whole
  blocks_next ns ks i p k bs new b whole en h lk ld ep ek eb is was =
      let rest : List image.Block = blocks_of width Ps (suc (i + 1)) (length ds - (i + 1)) in
      let up : suc (i + 1) ≡ suc (suc i) = omega arith in
      let more : length ds - i ≡ suc (length ds - (i + 1)) = omega arith in
      ap (λ (z : List isa_block.Block). map isa.block z ++ rest) eb ∙ ap (λ (z : List image.Block). z ++ rest)
      (map_push isa.block bs b) ∙ append_assoc (map isa.block bs) (isa.block b ∷ []) rest
      ∙ ap (λ (z : image.Block). map isa.block bs ++ z ∷ rest) (is ∙ block_is ns ks i p k en h lk ld ep ek)
      ∙ ap (λ n. map isa.block bs ++ block_of width Ps (suc i) ∷ blocks_of width Ps n (length ds - (i + 1)))
      up
      ∙ ap (λ n. map isa.block bs ++ blocks_of width Ps (suc i) n) (sym more)
      ∙ was

  pub draft_is : (arrays : List image.Array) (blocks : List image.Block)
      → blocks ≡ blocks_of width Ps 1 (length ds) → ◌≡◌ {A = image.Image}
      (record { arrays = arrays; blocks = blocks }) (draft_of arrays width Ps)
  unfolding draft_of
  draft_is arrays blocks e = grind (arith, length-map)
