-- The tables of a draft that is open to notes, and the image that is made of them.
use Rattle.std.proofs.Common.{ℕ, zero, suc, ◌+◌, ◌-◌, ◌≡◌, ◌<◌, ◌≤◌, ◌||◌, ◌&&◌, Bool, true, false, cond, not}
use Rattle.std.proofs.Common.{List, [], ◌∷◌, length, get_or, replicate, Option, None, refl, sym, ap, ◌∙◌, inl}
use Rattle.std.proofs.Common.{inr, arith, eqb, eq-eqb, ne_eqb}
use Rattle.std.proofs.lemmas.Bool.{cases_eq}
use Rattle.std.proofs.lemmas.List.{length-replicate}
use Rattle.ws_isa.specs.declared.instr.Link.{Link}
use Rattle.ws_isa.specs.declared.instr.Link.TheVariants.{Unknown}
use Rattle.ws_isa.specs.Image.{Instr, Image, is_memory_op, is_writing_op, IsBlock}
use Rattle.ws_isa.specs.Sound.{ShapeRules}
use Rattle.wave_link.specs.Fit.{FitForNotes}
use Rattle.wave_link.specs.declared.outline.Outline.{Outline}
use Rattle.wave_link.specs.declared.links.Behind.{Behind}
use Rattle.wave_link.specs.declared.states.Ways.{Ways}
use Rattle.wave_link.specs.declared.states.Ways.TheVariants.{Zero}
use Rattle.wave_link.specs.declared.states.LastOps.{LastOps}
use Rattle.wave_link.specs.declared.states.LastOps.TheVariants.{Shared}
use Rattle.wave_link.specs.Outlines.{one_more_op, ops_from, writer_from, with_nop}
use Rattle.wave_link.specs.States.{reached, ways_step, ways_of, state_in, is_vain, needs_nop, spread_state}
use Rattle.wave_link.specs.States.{states_step}
use Rattle.wave_link.specs.Notes.{head_at, head_link, heads_of, lows_of, place_at}
use Rattle.wave_link.specs.Adds.{adds}
use Rattle.wave_link.proofs.Parted.Numbers.{place_of}
use Rattle.wave_link.proofs.Linked.LinksTables.{outline_in, stepped, stepped_next, ways_are, nop_at_place}
use Rattle.wave_link.proofs.Linked.LinksTables.{behind_step, place_there, low_next, head_there, Leads}
use Rattle.wave_link.proofs.Linked.LinksRun.{Run}
use Rattle.wave_link.proofs.Linked.LinksBlocks.{bare_of, grown_of, bare_length, grown_length, grown_is}
use Rattle.wave_link.proofs.Linked.LinksBlocks.{outline_at, outline_is, in_wave, On_in, on_in, parts, alone}
use Rattle.ws_isa.proofs.Images.{writing_memory_op}

-- The tables before each block.

abbrev pub low_of : Image → ℕ → ℕ
low_of draft b = get_or (lows_of (grown_of draft)) b 0

abbrev pub heads_in : Image → List Link
heads_in draft = heads_of (grown_of draft)

abbrev pub ways_at : Image → ℕ → List Ways
ways_at draft zero = []
ways_at draft (suc n) = stepped ways_step (bare_of draft) 1 n (replicate (length (bare_of draft) + 1) Zero)

abbrev pub ways_in : Image → List Ways
ways_in draft = ways_of (bare_of draft)

abbrev pub states_at : Image → ℕ → List LastOps
states_at draft zero = []
states_at draft (suc n) = stepped (λ (x : Outline) (k : ℕ) (s : List LastOps). states_step x k (ways_in draft)
    s) (bare_of draft) 1 n (replicate (length (bare_of draft) + 1) Shared)

abbrev pub behind_at : Image → ℕ → List (Option Behind)
behind_at draft zero = []
behind_at draft (suc n) = stepped (behind_step (lows_of (grown_of draft))) (grown_of draft) 1 n
    (replicate (length (grown_of draft) + 1) None)

pub place_is : (draft : Image) (b : ℕ) → IsBlock draft b → place_of draft b ≡ place_at (outline_at draft b) b
    (low_of draft b) (heads_in draft) (behind_at draft b)
unfolding place_of
place_is draft b h = grind (arith, place_there, grown_of, heads_in, grown_length)

same_all : {A : Type 0} (x : A) (n i : ℕ) → get_or (replicate n x) i x ≡ x
same_all x (suc n) (suc i) = same_all x n i
same_all x n i = grind arith

pub ways_end : (draft : Image) (n : ℕ) → n ≡ length draft.blocks → ways_at draft (suc n) ≡ ways_in draft
ways_end draft n e = grind (arith, stepped, bare_of, bare_length, ways_are)

-- a block of the draft needs its no-op
pub adds_is : (draft : Image) (b : ℕ) → IsBlock draft b → adds draft b ≡ needs_nop
    (outline_in (bare_of draft) (b - 1)) b (ways_in draft) (states_at draft b)
unfolding adds
adds_is draft zero h = absurd (omega (arith, h.0))
adds_is draft (suc n) h =
    nop_at_place (bare_of draft) 1 n (suc n) (ways_in draft) (replicate (length (bare_of draft) + 1) Shared)
    (omega (arith, h.1, bare_length draft)) (omega arith)
    ∙ ap (λ (k : ℕ). needs_nop (outline_in (bare_of draft) k) (suc n) (ways_in draft)
    (states_at draft (suc n))) (minus n)
  where
    minus : (n : ℕ) → n ≡ suc n - 1
    minus n = omega arith

-- Counting.

pub writer_below : (is : List Instr) (n w : ℕ) → w ≤ n → writer_from is n w ≤ ops_from is n
writer_below [] n w l = l
writer_below (i ∷ is) n w l = writer_below is (one_more_op i n) (cond (is_writing_op i.op) (n + 1) w)
    (go (is_writing_op i.op) (is_memory_op i.op) refl refl)
  where
    go : (v m : Bool) → is_writing_op i.op ≡ v → is_memory_op i.op ≡ m → cond v (n + 1) w ≤ cond m (n + 1) n
    go v m e f = grind (arith, writing_memory_op)

full_is : (v : Bool) (o : ℕ) → not (eqb (cond v (o + 1) o) 0) ≡ (not (eqb o 0) || v)
full_is v o = grind arith

needless : (r z v : Bool) → (r && (z && not v)) ≡ false → r ≡ true → z ≡ true → v ≡ true
needless r z v e f g = grind arith

pub empty_needs : (r z v : Bool) → (r && (z && v)) ≡ true → z ≡ true
empty_needs r z v e = grind arith

none_of : (v : Bool) (o : ℕ) → cond v (o + 1) o ≡ 0 → (v ≡ false) × (o ≡ 0)
none_of v o e = grind arith

pub eqb_zero : (o : ℕ) → eqb o 0 ≡ true → o ≡ 0
eqb_zero o e = elim (cases_eq o 0) [ inl f ↦ f | inr d ↦ absurd (cc (sym e ∙ ne_eqb o 0 d)) ]

module _ (draft : Image) (open_to : FitForNotes draft) where
  abbrev count : ℕ
  count = length draft.blocks

  abbrev shape : ShapeRules draft
  shape = open_to.walkable.shape

  step_states : (n : ℕ) → n < length draft.blocks → states_at draft (suc (suc n))
      ≡ cond (reached (outline_at draft (suc n)) (suc n) (ways_at draft (suc count)))
      (spread_state (outline_at draft (suc n)).way (not (eqb (outline_at draft (suc n)).ops 0))
      (state_in (outline_at draft (suc n)) (suc n) (ways_at draft (suc count)) (states_at draft (suc n)))
      (states_at draft (suc n)))
      (states_at draft (suc n))
  step_states n l =
      let f : Outline → ℕ → List LastOps → List LastOps = λ (x : Outline) (k : ℕ) (s : List LastOps).
      states_step x k (ways_in draft) s in
      let y : Outline = outline_in (bare_of draft) n in
      let s : List LastOps = states_at draft (suc n) in
      let e : outline_at draft (suc n) ≡ with_nop y (adds draft (suc n)) = grown_is draft n l in
      let a : adds draft (suc n) ≡ needs_nop y (suc n) (ways_in draft) s = added n l in
      stepped_next f (bare_of draft) 1 n (suc n) (replicate (length (bare_of draft) + 1) Shared)
      (omega (arith, l, bare_length draft)) (omega arith)
      ∙ (same y s a ∙ (grind (arith, ways_end)))
    where
      form : List Ways → Outline → List LastOps → ℕ → List LastOps
      form w o s n =
          cond (reached o (suc n) w) (spread_state o.way (not (eqb o.ops 0)) (state_in o (suc n) w s) s) s

      minus : (n : ℕ) → suc n - 1 ≡ n
      minus n = omega arith

      added : (n : ℕ) → n < length draft.blocks → adds draft (suc n) ≡ needs_nop
          (outline_in (bare_of draft) n) (suc n) (ways_in draft) (states_at draft (suc n))
      added n l = adds_is draft (suc n) (omega arith, l)
          ∙ ap (λ (k : ℕ). needs_nop (outline_in (bare_of draft) k) (suc n) (ways_in draft)
          (states_at draft (suc n))) (minus n)

      same : (y : Outline) (s : List LastOps) → adds draft (suc n) ≡ needs_nop y (suc n) (ways_in draft) s
          → states_step y (suc n) (ways_in draft) s ≡ form (ways_in draft) (with_nop y (adds draft (suc n))) s
          n
      same y s a = grind (arith, y.way, y.ops, full_is)

  step_ways : (n : ℕ) → n < length draft.blocks → ways_at draft (suc (suc n)) ≡ ways_step
      (outline_at draft (suc n)) (suc n) (ways_at draft (suc n))
  step_ways n l = grind (arith, stepped_next, bare_of, bare_length, ways_at, grown_is)

  vain_left : (n : ℕ) → n < length draft.blocks → reached (outline_at draft (suc n)) (suc n)
      (ways_at draft (suc count)) ≡ true → (outline_at draft (suc n)).ops ≡ 0 →
      is_vain (outline_at draft (suc n)).way (ways_at draft (suc count))
      (state_in (outline_at draft (suc n)) (suc n) (ways_at draft (suc count)) (states_at draft (suc n)))
      ≡ true
  vain_left n l r z =
      let y : Outline = outline_in (bare_of draft) n in
      let s : List LastOps = states_at draft (suc n) in
      let e : outline_at draft (suc n) ≡ with_nop y (adds draft (suc n)) = grown_is draft n l in
      let w : ways_at draft (suc count) ≡ ways_in draft = ways_end draft count refl in
      let a : adds draft (suc n) ≡ needs_nop y (suc n) (ways_in draft) s =
      adds_is draft (suc n) (omega arith, l)
      ∙ ap (λ (k : ℕ). needs_nop (outline_in (bare_of draft) k) (suc n) (ways_in draft) s) (minus n) in
      grind (arith, none_of, needless, eq-eqb)
    where
      minus : (n : ℕ) → suc n - 1 ≡ n
      minus n = omega arith

  by_suc : (P : ℕ → Type 0) → ((n : ℕ) → n < length draft.blocks → P (suc n)) → (b : ℕ) → 1 ≤ b → b ≤ count
      → P b
  by_suc P f zero l h = absurd (omega arith)
  by_suc P f (suc n) l h = f n h

  edge_in : (b c : ℕ) → IsBlock draft b → Leads (outline_at draft b).way c
      → On_in draft shape open_to.branches b c
  edge_in b c h k = on_in draft shape open_to.branches b c h k

  pub run : Run count (outline_at draft) (low_of draft) (heads_in draft) (ways_at draft) (states_at draft)
      (behind_at draft)
  run = record {
    later = λ b c l h k. (grind (arith, edge_in));
    inner = λ b c m l h k q r. (let o : On_in draft shape open_to.branches b c = edge_in b c (l, h) k in
        in_wave draft b c m shape.waves (l, h) (omega arith, o.most) (sym o.wave) q r);
    parts = λ b l h. parts draft shape open_to.branches b (l, h);
    alone = λ b p q a c l h f k m o g. alone draft shape open_to.branches b p q a c (l, h) (m, o) f k g;
    writer_in = λ b l h. writers b (l, h);
    low_next = λ b l h. lows b l h;
    head_is = by_suc (λ (b : ℕ). head_at (heads_in draft) b ≡ head_link (outline_at draft b) (low_of draft b)
        (heads_in draft)) heads;
    ways_size = grind (arith, length-replicate, bare_of, bare_length);
    states_size = grind (arith, length-replicate, bare_of, bare_length);
    behind_size = grind (arith, length-replicate, grown_of, grown_length);
    ways_start = λ c. same_all Zero (length (bare_of draft) + 1) c;
    behind_start = λ c. same_all None (length (grown_of draft) + 1) c;
    ways_next = grind (arith, by_suc, outline_at, step_ways);
    states_next = grind (arith, by_suc, outline_at, step_states);
    behind_next = grind (arith, by_suc, behind_step, grown_of, outline_at, stepped_next, grown_length);
    none_vain = grind (arith, by_suc, outline_at, vain_left);
  }
    where
      size : (n : ℕ) → n ≡ count → n + 1 ≡ suc count
      size n e = omega arith

      over : (v : Bool) (o w : ℕ) → w ≤ o → w ≤ cond v (o + 1) o
      over v o w l = grind arith

      writers : (b : ℕ) → IsBlock draft b → (outline_at draft b).writer ≤ (outline_at draft b).ops
      writers b h = grind (arith, outline_is, over, writer_below)

      lows : (b : ℕ) → 1 ≤ b → b < count → low_of draft (suc b) ≡ cond (outline_at draft (suc b)).first 0
          (low_of draft b + (outline_at draft b).ops)
      lows b l h = grind (arith, low_next, grown_of, grown_length)

      heads : (n : ℕ) → n < length draft.blocks → head_at (heads_in draft) (suc n) ≡ head_link
          (outline_at draft (suc n)) (low_of draft (suc n)) (heads_in draft)
      heads n l = head_there (grown_of draft) (lows_of (grown_of draft)) 1 n (suc n)
          (replicate (length (grown_of draft) + 1) Unknown) (omega (arith, l, grown_length draft))
          (omega arith)
          (omega (arith, length-replicate (length (grown_of draft) + 1) Unknown))
          (λ i c q k. (let o : On_in draft shape open_to.branches (suc i) c =
          edge_in (suc i) c (omega arith, omega (arith, q, grown_length draft)) k in
          omega (arith, o.later)))
