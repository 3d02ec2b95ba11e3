-- The notes of an annotated image are made of its tables.
use Rattle.std.proofs.Common.{ℕ, zero, suc, ◌+◌, ◌-◌, ◌≡◌, ◌<◌, ◌≤◌, ◌⊎◌, Bool, true, false, cond, List, []}
use Rattle.std.proofs.Common.{◌∷◌, ◌++◌, length, Option, Some, refl, sym, ap, ◌∙◌, inl, inr, subst, arith}
use Rattle.std.proofs.Common.{eqb}
use Rattle.std.proofs.lemmas.Bool.{cases_Bool}
use Rattle.ws_isa.specs.declared.instr.Op.{Op}
use Rattle.ws_isa.specs.declared.instr.Note.{Note}
use Rattle.ws_isa.specs.Image.{Instr, Block, Image, no_instr, no_note, instr_at, block_at, first_number}
use Rattle.ws_isa.specs.Image.{note_of, is_memory, is_writing, stops, target, is_first, is_memory_op}
use Rattle.ws_isa.specs.Image.{is_writing_op, IsIn, IsBlock}
use Rattle.ws_isa.specs.Sound.{LinkRules, RippleRules}
use Rattle.wave_link.specs.Fit.{FitForNotes}
use Rattle.ws_isa.proofs.Blocks.{block_is, instr_is, number_next}
use Rattle.wave_link.specs.declared.outline.Way.TheVariants.{Out}
use Rattle.wave_link.specs.declared.links.Passage.{Passage}
use Rattle.wave_link.specs.Outlines.{one_more_op, ops_from, writer_from}
use Rattle.wave_link.specs.Notes.{place_at, note_at, writer_next}
use Rattle.wave_link.specs.Layout.{Tables}
use Rattle.wave_link.specs.Grown.{seq_next, grown_instrs, nop_instr, nop_at, grown_block, annotated}
use Rattle.wave_link.specs.Adds.{adds}
use Rattle.wave_link.specs.Ripples.{ExactRipples}
use Rattle.wave_link.proofs.Parted.Parts.{tables_in}
use Rattle.wave_link.proofs.Parted.Edges.{count_kept, wave_kept, target_kept, stops_kept, first_kept}
use Rattle.wave_link.proofs.Parted.Numbers.{seq_in, writer_in, place_of, block_is_grown, nops_are}
use Rattle.wave_link.proofs.Parted.Numbers.{nop_positive, nop}
use Rattle.wave_link.proofs.Linked.LinksTables.{Leads}
use Rattle.wave_link.proofs.Linked.LinksPaths.{Marked, link_rules, ripple_rules, exact_ripples}
use Rattle.wave_link.proofs.Linked.LinksBlocks.{bare_is, outline_at, outline_is, first_is, in_wave}
use Rattle.wave_link.proofs.Linked.LinksBlocks.{edge_leads, Back, back, way_out}
use Rattle.wave_link.proofs.Linked.LinksDraft.{low_of, heads_in, ways_at, states_at, behind_at}
use Rattle.wave_link.proofs.Linked.LinksDraft.{place_is, adds_is, writer_below, empty_needs, eqb_zero, run}
use Rattle.ws_words.specs.Items.{nth, or_else}

-- Numbers along a list of instructions.

seq_start : (is : List Instr) (s : ℕ) → seq_in is 0 s ≡ s
seq_start [] s = refl
seq_start (i ∷ is) s = refl

writer_start : (is : List Instr) (s w : ℕ) → writer_in is 0 s w ≡ w
writer_start [] s w = refl
writer_start (i ∷ is) s w = refl

pub seq_on : (is : List Instr) (n s : ℕ) → n < length is → seq_in is (suc n) s ≡ seq_next
    (or_else (nth is n) no_instr).op (seq_in is n s)
seq_on (i ∷ is) (suc n) s l = seq_on is n (seq_next i.op s) (omega arith)
seq_on is n s l = grind (arith, seq_start)

pub writer_on : (is : List Instr) (n s w : ℕ) → n < length is → writer_in is (suc n) s w ≡ writer_next
    (or_else (nth is n) no_instr).op (seq_in is n s) (writer_in is n s w)
writer_on (i ∷ is) (suc n) s w l = writer_on is n (seq_next i.op s) (writer_next i.op s w) (omega arith)
writer_on is n s w l = grind (arith, writer_start)

count_on : (op : Op) (l n s : ℕ) → s ≡ l + n + 1 → seq_next op s ≡ l + cond (is_memory_op op) (n + 1) n + 1
count_on op l n s e = grind arith

pub seq_end : (is : List Instr) (l n s : ℕ) → s ≡ l + n + 1 → seq_in is (length is) s ≡ l + ops_from is n + 1
seq_end [] l n s e = e
seq_end (i ∷ is) l n s e =
    grind (arith, count_on, seq_end is l (one_more_op i n) (seq_next i.op s) (count_on i.op l n s e))

-- the last writing number, from that of the entry and the place of the last writing one here
abbrev writer_by : ℕ → ℕ → ℕ → ℕ
writer_by l first w = cond (eqb w 0) first (l + w)

writer_step : (op : Op) (l first n w s v : ℕ) → s ≡ l + n + 1 → v ≡ writer_by l first w
    → writer_next op s v ≡ writer_by l first (cond (is_writing_op op) (n + 1) w)
writer_step op l first n w s v e f = grind arith

pub writer_end : (is : List Instr) (l first n w s v : ℕ) → s ≡ l + n + 1 → v ≡ writer_by l first w
    → writer_in is (length is) s v ≡ writer_by l first (writer_from is n w)
writer_end [] l first n w s v e f = f
writer_end (i ∷ is) l first n w s v e f = writer_end is l first (one_more_op i n)
    (cond (is_writing_op i.op) (n + 1) w) (seq_next i.op s) (writer_next i.op s v) (count_on i.op l n s e)
    (writer_step i.op l first n w s v e f)

-- the last writing instruction is there
pub record Writer (is : List Instr) (l n s w : ℕ) : Type 0 where
  pub at : ℕ
  pub inside : at < length is
  pub writes : is_writing_op (or_else (nth is at) no_instr).op ≡ true
  pub number : seq_in is at s ≡ l + writer_from is n w

pub find_writer : (is : List Instr) (l n s w : ℕ) → s ≡ l + n + 1 → (writer_from is n w ≡ w)
    ⊎ Writer is l n s w
find_writer [] l n s w e = inl refl
find_writer (i ∷ is) l n s w e =
    go (find_writer is l (one_more_op i n) (seq_next i.op s) (cond (is_writing_op i.op) (n + 1) w)
    (count_on i.op l n s e)) (cases_Bool (is_writing_op i.op))
  where
    go : (writer_from (i ∷ is) n w ≡ cond (is_writing_op i.op) (n + 1) w)
        ⊎ Writer is l (one_more_op i n) (seq_next i.op s) (cond (is_writing_op i.op) (n + 1) w)
        → (is_writing_op i.op ≡ true) ⊎ (is_writing_op i.op ≡ false) →
        (writer_from (i ∷ is) n w ≡ w) ⊎ Writer (i ∷ is) l n s w
    go (inr t) v =
        inr (record {
          at = suc t.at;
          inside = (let k : t.at < length is = t.inside in omega arith);
          writes = t.writes;
          number = t.number;
        })
    go (inl f) (inr v) = inl (f ∙ ap (λ (b : Bool). cond b (n + 1) w) v)
    go (inl f) (inl v) = grind arith

-- Notes along a list of instructions.

abbrev pub Noted : Passage → ℕ → ℕ → List Instr → Type 0
Noted p s w [] = Unit {0}
Noted p s w (i ∷ is) = (is_memory_op i.op ≡ true → i.note ≡ Some (note_at p i.op s w))
    × Noted p (seq_next i.op s) (writer_next i.op s w) is

pub noted_at : (p : Passage) (is : List Instr) (n s w : ℕ) → n < length is → Noted p s w is
    → is_memory_op (or_else (nth is n) no_instr).op ≡ true →
    (or_else (nth is n) no_instr).note ≡ Some (note_at p (or_else (nth is n) no_instr).op (seq_in is n s)
    (writer_in is n s w))
noted_at p (i ∷ is) (suc n) s w l h m =
    grind (arith, noted_at p is n (seq_next i.op s) (writer_next i.op s w) (omega arith) h.1 m)
noted_at p is n s w l h m = grind arith

noted_grown : (t : Tables) (p : Passage) (k s w : ℕ) (is rest : List Instr)
    → Noted p (seq_in is (length is) s) (writer_in is (length is) s w) rest
    → Noted p s w (grown_instrs t p k s w is ++ rest)
noted_grown t p k s w [] rest h = h
noted_grown t p k s w (i ∷ is) rest h =
    grind (arith, noted_grown t p (k + 1) (seq_next i.op s) (writer_next i.op s w) is rest h)

ops_grown : (t : Tables) (p : Passage) (k s w : ℕ) (is rest : List Instr) (n : ℕ)
    → ops_from (grown_instrs t p k s w is ++ rest) n ≡ ops_from rest (ops_from is n)
ops_grown t p k s w [] rest n = refl
ops_grown t p k s w (i ∷ is) rest n = ops_grown t p (k + 1) (seq_next i.op s) (writer_next i.op s w) is rest
    (one_more_op i n)

writer_grown : (t : Tables) (p : Passage) (k s w : ℕ) (is rest : List Instr) (n v : ℕ)
    → writer_from (grown_instrs t p k s w is ++ rest) n v ≡ writer_from rest (ops_from is n)
    (writer_from is n v)
writer_grown t p k s w [] rest n v = refl
writer_grown t p k s w (i ∷ is) rest n v = writer_grown t p (k + 1) (seq_next i.op s) (writer_next i.op s w)
    is rest (one_more_op i n) (cond (is_writing_op i.op) (n + 1) v)

-- with the no-op that is added to these
with_or_without : (p : Passage) (v : Bool) (m : ℕ) → 1 ≤ m → nop_at p (cond v m 0) ≡ cond v (nop_instr p ∷ [])
    []
with_or_without p v m l = grind arith

module _ (draft : Image) where
  abbrev image : Image
  image = annotated draft

  -- what is known of a block of the image
  pub record Laid (b : ℕ) : Type 0 where
    pub ops : ops_from (block_at image b).instrs 0 ≡ (outline_at draft b).ops
    pub writer : writer_from (block_at image b).instrs 0 0 ≡ (outline_at draft b).writer
    pub noted : Noted (place_of draft b) ((place_of draft b).low + 1) (place_of draft b).writer
        (block_at image b).instrs

  -- a block with a no-op has no other operation
  pub adds_empty : (b : ℕ) → IsBlock draft b → adds draft b ≡ true → ops_from (block_at draft b).instrs 0 ≡ 0
  adds_empty b h a = grind (arith, bare_is, adds_is, eqb_zero, empty_needs)

  laid_by : (b : ℕ) (x : Block) (p : Passage) (v : Bool) (m : ℕ) (g : Block) → 1 ≤ m
      → g.instrs ≡ grown_instrs (tables_in draft.blocks) p (first_number draft b) (p.low + 1) p.writer
      x.instrs ++ cond v (nop_instr p ∷ []) [] → (v ≡ true → ops_from x.instrs 0 ≡ 0) →
      (ops_from g.instrs 0 ≡ cond v (ops_from x.instrs 0 + 1) (ops_from x.instrs 0))
      × (writer_from g.instrs 0 0 ≡ writer_from x.instrs 0 0) × Noted p (p.low + 1) p.writer g.instrs
  laid_by b x p true m g l e z =
      let t : Tables = tables_in draft.blocks in
      let rest : List Instr = nop_instr p ∷ [] in
      let low0 : p.low + 1 ≡ p.low + 0 + 1 = omega arith in
      let o : ops_from x.instrs 0 ≡ 0 = z refl in
      let w0 : writer_from x.instrs 0 0 ≡ 0 = grind (arith, writer_below) in
      let s : seq_in x.instrs (length x.instrs) (p.low + 1) ≡ p.low + 1 =
      seq_end x.instrs p.low 0 (p.low + 1) low0 ∙ (ap (λ (k : ℕ). p.low + k + 1) o ∙ sym low0) in
      let w : writer_in x.instrs (length x.instrs) (p.low + 1) p.writer ≡ p.writer =
      writer_end x.instrs p.low p.writer 0 0 (p.low + 1) p.writer low0 refl
      ∙ ap (writer_by p.low p.writer) w0 in grind (arith, ops_grown, writer_grown, noted_grown)
  laid_by b x p false m g l e z = grind (arith, ops_grown, writer_grown, noted_grown)

  pub laid : (b : ℕ) → IsBlock draft b → Laid b
  laid b h =
      let p : Passage = place_of draft b in
      let g : block_at image b ≡ grown_block (tables_in draft.blocks) p b (first_number draft b)
      (block_at draft b) = block_is_grown draft b h in
      let e : (block_at image b).instrs ≡ grown_instrs (tables_in draft.blocks) p (first_number draft b)
      (p.low + 1) p.writer (block_at draft b).instrs ++ cond (adds draft b) (nop_instr p ∷ []) [] =
      grind (arith, tables_in, nops_are, with_or_without, nop, nop_positive) in
      let r : (ops_from (block_at image b).instrs 0 ≡ cond (adds draft b)
      (ops_from (block_at draft b).instrs 0 + 1) (ops_from (block_at draft b).instrs 0))
      × (writer_from (block_at image b).instrs 0 0 ≡ writer_from (block_at draft b).instrs 0 0)
      × Noted p (p.low + 1) p.writer (block_at image b).instrs =
      laid_by b (block_at draft b) p (adds draft b) (nop draft b) (block_at image b) (nop_positive draft b) e
      (adds_empty b h) in
      grind (arith, outline_at, outline_is)

  -- Instructions by their numbers.

  in_draft : (b : ℕ) → IsBlock image b → IsBlock draft b
  in_draft b h = (h.0, omega (arith, h.1, count_kept draft))

  in_image : (b : ℕ) → IsBlock draft b → IsBlock image b
  in_image b h = (h.0, omega (arith, h.1, count_kept draft))

  pub ends_at : (b : ℕ) → IsBlock image b → first_number image (suc b) ≡ first_number image b + length
      (block_at image b).instrs
  ends_at zero h = absurd (omega (arith, h.0))
  ends_at (suc n) h = grind (arith, number_next, image, block_is)

  pub found : (b k i : ℕ) → IsBlock image b → i < length (block_at image b).instrs
      → k ≡ first_number image b + i → instr_at image k ≡ or_else (nth (block_at image b).instrs i) no_instr
  found zero k i h l e = absurd (omega (arith, h.0))
  found (suc n) k i h l e = grind (arith, instr_is, image, block_is)

  abbrev pub sq : ℕ → ℕ → ℕ
  sq b k = seq_in (block_at image b).instrs (k - first_number image b) (low_of draft b + 1)

  abbrev pub wr : ℕ → ℕ → ℕ
  wr b k = writer_in (block_at image b).instrs (k - first_number image b) (low_of draft b + 1)
      (place_at (outline_at draft b) b (low_of draft b) (heads_in draft) (behind_at draft b)).writer

  inside : (b k : ℕ) → IsBlock image b → IsIn image b k → k - first_number image b
      < length (block_at image b).instrs
  inside b k h i = grind (arith, image, ends_at)

  found_in : (b k : ℕ) → IsBlock image b → IsIn image b k → instr_at image k
      ≡ or_else (nth (block_at image b).instrs (k - first_number image b)) no_instr
  found_in b k h i = found b k (k - first_number image b) h (inside b k h i) (omega arith)

  none_past : (n : ℕ) → n - n ≡ 0
  none_past n = omega arith

  one_on : (f k : ℕ) → f ≤ k → suc k - f ≡ suc (k - f)
  one_on f k l = omega arith

  all_past : (f e l : ℕ) → e ≡ f + l → e - f ≡ l
  all_past f e l h = omega arith

  module _ (open_to : FitForNotes draft) where
    abbrev low : ℕ → ℕ
    low b = low_of draft b

    abbrev place : ℕ → Passage
    place b = place_at (outline_at draft b) b (low_of draft b) (heads_in draft) (behind_at draft b)

    noted_in : (b : ℕ) → IsBlock draft b → Noted (place b) (low b + 1) (place b).writer
        (block_at image b).instrs
    noted_in b h = grind (arith, place_is draft b h, laid b h)

    note_is : (b k : ℕ) → IsBlock image b → IsIn image b k → is_memory image k ≡ true
        → note_of image k ≡ note_at (place b) (instr_at image k).op (sq b k) (wr b k)
    unfolding note_of is_memory
    note_is b k h i m =
        let n : ℕ = k - first_number image b in
        let x : Instr = or_else (nth (block_at image b).instrs n) no_instr in
        let e : instr_at image k ≡ x = found_in b k h i in
        ap (λ (y : Instr). or_else y.note no_note) e
        ∙ (ap (λ (o : Option Note). or_else o no_note) (noted_at (place b) (block_at image b).instrs n
        (low b + 1) (place b).writer (inside b k h i) (noted_in b (in_draft b h))
        (ap (λ (y : Instr). is_memory_op y.op) (sym e) ∙ m))
        ∙ ap (λ (y : Instr). note_at (place b) y.op (sq b k) (wr b k)) (sym e))

    seq_step : (b k : ℕ) → IsBlock image b → IsIn image b k → sq b (suc k) ≡ seq_next (instr_at image k).op
        (sq b k)
    seq_step b k h i = grind (arith, seq_in, image, low, one_on, seq_on, inside, sq, found_in)

    writer_step_at : (b k : ℕ) → IsBlock image b → IsIn image b k
        → wr b (suc k) ≡ writer_next (instr_at image k).op (sq b k) (wr b k)
    writer_step_at b k h i = grind (arith, one_on, writer_on, inside, found_in)

    low_zero : (b : ℕ) → low b + 1 ≡ low b + 0 + 1
    low_zero b = omega arith

    seq_finish : (b : ℕ) → IsBlock image b → sq b (first_number image (suc b)) ≡ low b
        + (outline_at draft b).ops + 1
    seq_finish b h =
        ap (λ (j : ℕ). seq_in (block_at image b).instrs j (low b + 1))
        (grind (arith, all_past, ends_at))
        ∙ (seq_end (block_at image b).instrs (low b) 0 (low b + 1) (low_zero b)
        ∙ ap (λ (j : ℕ). low b + j + 1) (laid b (in_draft b h)).ops)

    writer_finish : (b : ℕ) → IsBlock image b → wr b (first_number image (suc b))
        ≡ cond (eqb (outline_at draft b).writer 0) (place b).writer (low b + (outline_at draft b).writer)
    writer_finish b h =
        ap (λ (j : ℕ). writer_in (block_at image b).instrs j (low b + 1) (place b).writer)
        (grind (arith, all_past, ends_at))
        ∙ (writer_end (block_at image b).instrs (low b) (place b).writer 0 0 (low b + 1) (place b).writer
        (low_zero b) refl ∙ ap (writer_by (low b) (place b).writer) (laid b (in_draft b h)).writer)

    has_writer : (b : ℕ) → IsBlock image b → 1 ≤ (outline_at draft b).writer → (k : ℕ) × IsIn image b k
        × (is_writing image k ≡ true) × (sq b k ≡ low b + (outline_at draft b).writer)
    unfolding is_writing
    has_writer b h l = go (find_writer (block_at image b).instrs (low b) 0 (low b + 1) 0 (low_zero b))
      where
        w : writer_from (block_at image b).instrs 0 0 ≡ (outline_at draft b).writer
        w = (laid b (in_draft b h)).writer

        back_on : (f i : ℕ) → f + i - f ≡ i
        back_on f i = omega arith

        go : (writer_from (block_at image b).instrs 0 0 ≡ 0) ⊎ Writer (block_at image b).instrs (low b) 0
            (low b + 1) 0 →
            (k : ℕ) × IsIn image b k × (is_writing_op (instr_at image k).op ≡ true)
            × (sq b k ≡ low b + (outline_at draft b).writer)
        go (inl z) = absurd (omega (arith, w, z))
        go (inr t) =
            let k : ℕ = first_number image b + t.at in
            let q : t.at < length (block_at image b).instrs = t.inside in
            let e : instr_at image k ≡ or_else (nth (block_at image b).instrs t.at) no_instr =
            found b k t.at h q refl in (
              k,
              (omega arith, omega (arith, ends_at b h)),
              ap (λ (y : Instr). is_writing_op y.op) e ∙ t.writes,
              ap (λ (j : ℕ). seq_in (block_at image b).instrs j (low b + 1))
                  (back_on (first_number image b) t.at) ∙ (t.number ∙ ap (λ (j : ℕ). low b + j) w),
            )

    edge_on : (b r : ℕ) → IsBlock image b → stops image b ≡ false → is_first image (target image b r) ≡ false
        → Leads (outline_at draft b).way (target image b r)
    edge_on b r h s f =
        let t : target image b r ≡ target draft b r = target_kept draft b r in
        rw t (edge_leads draft open_to.walkable.shape open_to.branches b r (in_draft b h)
        (sym (stops_kept draft b) ∙ s)
        (ap (is_first draft) (sym t) ∙ (sym (first_kept draft (target image b r)) ∙ f)))

    edge_from : (b c : ℕ) → IsBlock image b → Leads (outline_at draft b).way c → (stops image b ≡ false)
        × ((r : ℕ) × (target image b r ≡ c)) × (is_first image c ≡ false)
    edge_from b c h k =
        let q : Back draft open_to.walkable.shape open_to.branches b c = back draft open_to.walkable.shape
        open_to.branches b c (in_draft b h) k in grind (arith, stops_kept, target_kept, first_kept)

    ends_out : (b : ℕ) → IsBlock image b → (stops image b ≡ true)
        ⊎ ((stops image b ≡ false) × ((r : ℕ) × (is_first image (target image b r) ≡ true)))
        → (outline_at draft b).way ≡ Out
    ends_out b h (inl s) = way_out draft open_to.walkable.shape open_to.branches b (in_draft b h)
        (inl (sym (stops_kept draft b) ∙ s))
    ends_out b h (inr s) = way_out draft open_to.walkable.shape open_to.branches b (in_draft b h)
        (inr (grind (arith, stops_kept, target_kept, first_kept)))

    pub marked : Marked image (length draft.blocks) (outline_at draft) (low_of draft) (heads_in draft)
        (behind_at draft) sq wr
    marked = record {
      count = sym (count_kept draft);
      sq_first = grind (arith, none_past, seq_start);
      wr_first = grind (arith, none_past, writer_start);
      sq_next = seq_step;
      wr_next = writer_step_at;
      sq_end = seq_finish;
      wr_end = writer_finish;
      note = note_is;
      grows = λ b h. omega (arith, ends_at b h);
      has_writer = has_writer;
      targets = λ b r h s. in_image (target image b r) (subst (IsBlock draft) (sym (target_kept draft b r))
          ((open_to.walkable.shape.blocks b (in_draft b h)).edges.there r (sym (stops_kept draft b) ∙ s)));
      edge = edge_on;
      edge_back = edge_from;
      ends = ends_out;
      first_is = λ b h. first_is draft b open_to.walkable.shape.waves (in_draft b h)
          ∙ sym (first_kept draft b);
      one_wave = λ b c m h k w l o. in_wave draft b c m open_to.walkable.shape.waves (in_draft b h)
          (in_draft c k) (sym (wave_kept draft b) ∙ (w ∙ wave_kept draft c)) l o;
    }

    pub links_kept : LinkRules image
    links_kept = link_rules image (length draft.blocks) (outline_at draft) (low_of draft) (heads_in draft)
        (ways_at draft) (states_at draft) (behind_at draft) sq wr (run draft open_to) marked

    pub ripples_kept : RippleRules image
    ripples_kept = ripple_rules image (length draft.blocks) (outline_at draft) (low_of draft) (heads_in draft)
        (ways_at draft) (states_at draft) (behind_at draft) sq wr (run draft open_to) marked

    pub ripples_exact : ExactRipples image
    ripples_exact = exact_ripples image (length draft.blocks) (outline_at draft) (low_of draft)
        (heads_in draft) (ways_at draft) (states_at draft) (behind_at draft) sq wr (run draft open_to) marked
