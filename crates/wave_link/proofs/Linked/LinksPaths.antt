-- The paths of an image whose notes are made of its tables keep the rules on links and ripples.
use Rattle.std.proofs.Common.{ℕ, zero, suc, ◌+◌, ◌-◌, ◌≡◌, ◌<◌, ◌≤◌, ◌⊎◌, true, false, cond, List, [], ◌∷◌}
use Rattle.std.proofs.Common.{length, Option, Some, None, refl, sym, ap, ◌∙◌, inl, inr, subst, arith, eqb}
use Rattle.std.proofs.Common.{eq-eqb, ne_eqb}
use Rattle.std.proofs.lemmas.Bool.{cases_eq, cases_Bool, cases_lt}
use Rattle.ws_isa.specs.declared.instr.Link.{Link}
use Rattle.ws_isa.specs.declared.instr.Link.TheVariants.{Unknown, Nothing, Is}
use Rattle.ws_isa.specs.declared.instr.Note.{Note}
use Rattle.ws_isa.specs.Image.{Image, instr_at, block_at, first_number, is_memory, is_writing, note_of, stops}
use Rattle.ws_isa.specs.Image.{target, is_first, IsIn, IsBlock}
use Rattle.ws_isa.specs.Sound.{InWave, first, turn, edge, last_op, ComesNext, PathEnds, seq, LinkRules}
use Rattle.ws_isa.specs.Sound.{RippleRules}
use Rattle.wave_link.specs.declared.outline.Way.{Way}
use Rattle.wave_link.specs.declared.outline.Way.TheVariants.{Out}
use Rattle.wave_link.specs.declared.outline.Outline.{Outline}
use Rattle.wave_link.specs.declared.links.Behind.{Behind}
use Rattle.wave_link.specs.declared.links.Passage.{Passage}
use Rattle.wave_link.specs.declared.states.Ways.{Ways}
use Rattle.wave_link.specs.declared.states.LastOps.{LastOps}
use Rattle.wave_link.specs.Notes.{out_link, unreached, place_at, note_at, writer_next}
use Rattle.wave_link.specs.Grown.{seq_next}
use Rattle.wave_link.specs.Ripples.{MayPrecede, ExactRipples}
use Rattle.wave_link.proofs.Linked.LinksTables.{Leads, exact}
use Rattle.wave_link.proofs.Linked.LinksRun.{Run, Before, starts, goes, last_of, last_number, Facts, facts}
use Rattle.wave_link.proofs.Linked.LinksRun.{first_linked, first_alone, end_said, Wrote, wrote, further}
use Rattle.wave_link.proofs.Linked.LinksRun.{Attained, attained, wrote_low, writer_on, writer_low, low_rise}
use Rattle.wave_link.proofs.Linked.LinksRun.{head_full, here}
use Rattle.ws_isa.proofs.Images.{writing_memory_op as writing_op}
use Rattle.ws_words.specs.Items.{or_else, In}

-- what the image has of the tables: sq and wr are the next sequence number and the last writing one before an
-- instruction
pub record Marked (image : Image) (n : ℕ) (x : ℕ → Outline) (low : ℕ → ℕ) (heads : List Link)
    (behind : ℕ → List (Option Behind)) (sq wr : ℕ → ℕ → ℕ) : Type 0 where
  pub count : n ≡ length image.blocks
  pub sq_first : (b : ℕ) → IsBlock image b → sq b (first_number image b) ≡ low b + 1
  pub wr_first : (b : ℕ) → IsBlock image b → wr b (first_number image b)
      ≡ (place_at (x b) b (low b) heads (behind b)).writer
  pub sq_next : (b k : ℕ) → IsBlock image b → IsIn image b k → sq b (suc k) ≡ seq_next (instr_at image k).op
      (sq b k)
  pub wr_next : (b k : ℕ) → IsBlock image b → IsIn image b k
      → wr b (suc k) ≡ writer_next (instr_at image k).op (sq b k) (wr b k)
  pub sq_end : (b : ℕ) → IsBlock image b → sq b (first_number image (suc b)) ≡ low b + (x b).ops + 1
  pub wr_end : (b : ℕ) → IsBlock image b → wr b (first_number image (suc b)) ≡ cond (eqb (x b).writer 0)
      (place_at (x b) b (low b) heads (behind b)).writer (low b + (x b).writer)
  pub note : (b k : ℕ) → IsBlock image b → IsIn image b k → is_memory image k ≡ true
      → note_of image k ≡ note_at (place_at (x b) b (low b) heads (behind b)) (instr_at image k).op (sq b k)
      (wr b k)
  pub grows : (b : ℕ) → IsBlock image b → first_number image b ≤ first_number image (suc b)
  pub has_writer : (b : ℕ) → IsBlock image b → 1 ≤ (x b).writer → (k : ℕ) × IsIn image b k
      × (is_writing image k ≡ true) × (sq b k ≡ low b + (x b).writer)
  pub targets : (b r : ℕ) → IsBlock image b → stops image b ≡ false → IsBlock image (target image b r)
  pub edge : (b r : ℕ) → IsBlock image b → stops image b ≡ false → is_first image (target image b r) ≡ false
      → Leads (x b).way (target image b r)
  pub edge_back : (b c : ℕ) → IsBlock image b → Leads (x b).way c → (stops image b ≡ false)
      × ((r : ℕ) × (target image b r ≡ c)) × (is_first image c ≡ false)
  pub ends : (b : ℕ) → IsBlock image b → (stops image b ≡ true)
      ⊎ ((stops image b ≡ false) × ((r : ℕ) × (is_first image (target image b r) ≡ true))) → (x b).way ≡ Out
  pub first_is : (b : ℕ) → IsBlock image b → (x b).first ≡ is_first image b
  pub one_wave : (b c m : ℕ) → IsBlock image b → IsBlock image c → (block_at image b).wave
      ≡ (block_at image c).wave → b < m → m ≤ c → (x m).first ≡ false

module _ (image : Image) (n : ℕ) (x : ℕ → Outline) (low : ℕ → ℕ) (heads : List Link) (ways : ℕ → List Ways)
    (states : ℕ → List LastOps) (behind : ℕ → List (Option Behind)) (sq wr : ℕ → ℕ → ℕ)
    (run : Run n x low heads ways states behind) (marked : Marked image n x low heads behind sq wr) where
  abbrev pub place : ℕ → Passage
  place b = place_at (x b) b (low b) heads (behind b)

  abbrev Path : ℕ → ℕ → Type 0
  Path b a = Before n x low heads ways states behind run b a

  abbrev Known : ℕ → ℕ → Type 0
  Known b a = Facts n x low heads ways states behind run b a

  abbrev known_at : {b a : ℕ} → Path b a → Known b a
  known_at p = facts n x low heads ways states behind run p

  abbrev after : ℕ → ℕ → ℕ
  after b a = last_of n x low heads ways states behind run b a

  abbrev last_seq : ℕ → ℕ
  last_seq a = last_number n x low heads ways states behind run a

  ready : (b : ℕ) → IsBlock image b → (1 ≤ b) × (b ≤ n)
  ready b h = (h.0, omega arith)

  -- numbers in a block

  pub sq_step : (b k : ℕ) → IsBlock image b → IsIn image b k → is_memory image k ≡ true
      → sq b (suc k) ≡ sq b k + 1
  unfolding is_memory
  sq_step b k h i m = marked.sq_next b k h i ∙ rw m refl

  pub sq_stay : (b k : ℕ) → IsBlock image b → IsIn image b k → is_memory image k ≡ false
      → sq b (suc k) ≡ sq b k
  unfolding is_memory
  sq_stay b k h i m = marked.sq_next b k h i ∙ rw m refl

  wr_step : (b k : ℕ) → IsBlock image b → IsIn image b k → is_writing image k ≡ true → wr b (suc k) ≡ sq b k
  unfolding is_writing
  wr_step b k h i m = marked.wr_next b k h i ∙ rw m refl

  wr_stay : (b k : ℕ) → IsBlock image b → IsIn image b k → is_writing image k ≡ false → wr b (suc k) ≡ wr b k
  unfolding is_writing
  wr_stay b k h i m = marked.wr_next b k h i ∙ rw m refl

  writing_memory : (k : ℕ) → is_writing image k ≡ true → is_memory image k ≡ true
  unfolding is_writing is_memory
  writing_memory k e = writing_op (instr_at image k).op e

  sq_one : (b k : ℕ) → IsBlock image b → IsIn image b k → sq b k ≤ sq b (suc k)
  sq_one b k h i = grind (arith, cases_Bool, sq_step, sq_stay)

  pub sq_mono : (b j k : ℕ) → IsBlock image b → first_number image b ≤ j → j ≤ k
      → k ≤ first_number image (suc b) → sq b j ≤ sq b k
  sq_mono b j zero h f l w = let e : j ≡ 0 = omega arith in rw e (omega arith)
  sq_mono b j (suc k) h f l w = go (cases_eq j (suc k)) (λ q. sq_mono b j k h f q (omega arith))
    where
      go : (j ≡ suc k) ⊎ (j ≡ suc k → ⊥) → (j ≤ k → sq b j ≤ sq b k) → sq b j ≤ sq b (suc k)
      go (inl e) rec = rw e (omega arith)
      go (inr d) rec = grind (arith, sq_one)

  pub sq_rise : (b j k : ℕ) → IsBlock image b → IsIn image b j → is_memory image j ≡ true → j < k
      → k ≤ first_number image (suc b) → sq b j < sq b k
  sq_rise b j k h i m l w = grind (arith, sq_step b j h i m, sq_mono b (suc j) k h (omega (arith, i.0)) l w)

  pub sq_low : (b k : ℕ) → IsBlock image b → first_number image b ≤ k → k ≤ first_number image (suc b)
      → low b + 1 ≤ sq b k
  sq_low b k h f w =
      let e : sq b (first_number image b) ≡ low b + 1 = marked.sq_first b h in
      let s : sq b (first_number image b) ≤ sq b k = sq_mono b (first_number image b) k h (omega arith) f w in
      omega arith

  pub sq_high : (b k : ℕ) → IsBlock image b → IsIn image b k → is_memory image k ≡ true
      → sq b k ≤ low b + (x b).ops
  sq_high b k h i m = grind (arith, sq_rise b k (first_number image (suc b)) h i m i.1 (omega arith))

  pub seq_is : (b k : ℕ) → IsBlock image b → IsIn image b k → is_memory image k ≡ true → seq image k ≡ sq b k
  seq_is b k h i m = ap (λ (v : Note). v.seq) (marked.note b k h i m)

  -- the operation with number t of block b
  pub record OpAt (b j t : ℕ) : Type 0 where
    pub block : IsBlock image b
    pub inside : IsIn image b j
    pub memory : is_memory image j ≡ true
    pub number : sq b j ≡ t

  pub data LastIs (b a k : ℕ) (last : Option ℕ) : Type 0 where
    entry_none : sq b k ≡ low b + 1 → a ≡ 0 → last ≡ None → LastIs b a k last
    entry_some : (j : ℕ) → sq b k ≡ low b + 1 → 1 ≤ a → OpAt a j (low a + (x a).ops) → last ≡ Some j
        → LastIs b a k last
    within : (j : ℕ) → OpAt b j (sq b j) → sq b k ≡ sq b j + 1 → last ≡ Some j → LastIs b a k last

  -- where a path stands
  pub record Stands (b k : ℕ) (done : List ℕ) : Type 0 where
    pub block : IsBlock image b
    pub low_end : first_number image b ≤ k
    pub high_end : k ≤ first_number image (suc b)
    pub a : ℕ
    pub path : Path b a
    pub last : LastIs b a k (last_op image done)
    pub below : (j : ℕ) → In j done → is_writing image j ≡ true → seq image j ≤ wr b k
    pub under : wr b k < sq b k

  place_writer : (b a : ℕ) (f : Known b a) → (place b).writer ≡ f.y.writer
  place_writer b a f = ap (λ (o : Option Behind). (or_else o unreached).writer) f.y_is

  place_pred : (b a : ℕ) (f : Known b a) → (place b).pred ≡ f.y.pred
  place_pred b a f = ap (λ (o : Option Behind). (or_else o unreached).pred) f.y_is

  under_entry : (b a : ℕ) → IsBlock image b → (f : Known b a) → wr b (first_number image b)
      < sq b (first_number image b)
  under_entry b a h f =
      let l : f.y.writer ≤ low b = writer_low n x low heads ways states behind run b a f in
      omega (arith, l, place_writer b a f, marked.sq_first b h, marked.wr_first b h)

  last_memory : (k : ℕ) (done : List ℕ) → is_memory image k ≡ true → last_op image (k ∷ done) ≡ Some k
  last_memory k done m = rw m refl

  last_other : (k : ℕ) (done : List ℕ) → is_memory image k ≡ false → last_op image (k ∷ done) ≡ last_op image
      done
  last_other k done m = rw m refl

  moved : (b a k m : ℕ) (l o : Option ℕ) → sq b m ≡ sq b k → o ≡ l → LastIs b a k l → LastIs b a m o
  moved b a k m l o e f (entry_none s z g) = entry_none (e ∙ s) z (f ∙ g)
  moved b a k m l o e f (entry_some j s z p g) = entry_some j (e ∙ s) z p (f ∙ g)
  moved b a k m l o e f (within j p s g) = within j p (e ∙ s) (f ∙ g)

  below_next : (b k : ℕ) (done : List ℕ) (s : Stands b k done) → k < first_number image (suc b) → (j : ℕ)
      → In j (k ∷ done) → is_writing image j ≡ true → seq image j ≤ wr b (suc k)
  below_next b k done s l j a w = grind (arith, cases_Bool, wr_step, seq_is, writing_memory, wr_stay)

  under_next : (b k : ℕ) (done : List ℕ) (s : Stands b k done) → k < first_number image (suc b)
      → wr b (suc k) < sq b (suc k)
  under_next b k done s l = grind (arith, cases_Bool, wr_step, sq_step, writing_memory, wr_stay, sq_one)

  -- who is last behind one more instruction
  pub last_next : (b a k : ℕ) (done : List ℕ) → IsBlock image b → IsIn image b k
      → LastIs b a k (last_op image done) → LastIs b a (suc k) (last_op image (k ∷ done))
  last_next b a k done h i l = go (cases_Bool (is_memory image k))
    where
      go : (is_memory image k ≡ true) ⊎ (is_memory image k ≡ false)
          → LastIs b a (suc k) (last_op image (k ∷ done))
      go (inl m) = within k (record { block = h; inside = i; memory = m; number = refl }) (sq_step b k h i m)
          (last_memory k done m)
      go (inr m) = moved b a k (suc k) (last_op image done) (last_op image (k ∷ done)) (sq_stay b k h i m)
          (last_other k done m) l

  stands_on : (b k : ℕ) (done : List ℕ) → Stands b k done → k < first_number image (suc b)
      → Stands b (suc k) (k ∷ done)
  stands_on b k done s l = record {
    block = s.block;
    low_end = omega (arith, s.low_end);
    high_end = l;
    a = s.a;
    path = s.path;
    last = last_next b s.a k done s.block (s.low_end, l) s.last;
    below = below_next b k done s l;
    under = under_next b k done s l;
  }

  -- who is last where an edge leads on
  pub last_out : (b a k c : ℕ) (last : Option ℕ) → IsBlock image b → k ≡ first_number image (suc b)
      → IsBlock image c → LastIs b a k last → LastIs c (after b a) (first_number image c) last
  last_out b a k c last h e hc l = go (cases_eq (x b).ops 0) l
    where
      s : sq b k ≡ low b + (x b).ops + 1
      s = ap (sq b) e ∙ marked.sq_end b h

      t : sq c (first_number image c) ≡ low c + 1
      t = marked.sq_first c hc

      empty : (x b).ops ≡ 0 → after b a ≡ a
      empty z = rw (eq-eqb (x b).ops 0 z) refl

      some : ((x b).ops ≡ 0 → ⊥) → after b a ≡ b
      some d = rw (ne_eqb (x b).ops 0 d) refl

      over : (j : ℕ) → OpAt b j (sq b j) → low b + 1 ≤ sq b j
      over j p = grind (arith, sq_low)

      go : ((x b).ops ≡ 0) ⊎ ((x b).ops ≡ 0 → ⊥) → LastIs b a k last
          → LastIs c (after b a) (first_number image c) last
      go (inl z) (entry_none q u g) = entry_none t (empty z ∙ u) g
      go (inl z) (entry_some j q u p g) = subst (λ (v : ℕ). LastIs c v (first_number image c) last)
          (sym (empty z)) (entry_some j t u p g)
      go (inl z) (within j p q g) = absurd (omega (arith, over j p, s, z, q))
      go (inr d) (entry_none q u g) = absurd (d (omega (arith, s, q)))
      go (inr d) (entry_some j q u p g) = absurd (d (omega (arith, s, q)))
      go (inr d) (within j p q g) =
          let num : sq b j ≡ low b + (x b).ops = omega (arith, s, q) in
          subst (λ (v : ℕ). LastIs c v (first_number image c) last) (sym (some d))
          (entry_some j t h.0 (grind arith) g)

  stands_out : (b k r : ℕ) (done : List ℕ) → Stands b k done → k ≡ first_number image (suc b)
      → stops image b ≡ false → is_first image (target image b r) ≡ false
      → Stands (target image b r) (first_number image (target image b r)) done
  stands_out b k r done s e u f = record {
    block = hc;
    low_end = omega arith;
    high_end = marked.grows c hc;
    a = after b s.a;
    path = p;
    last = last_out b s.a k c (last_op image done) s.block e hc s.last;
    below = λ j a w. (let q : seq image j ≤ wr b k = s.below j a w in omega (arith, q, handed));
    under = under_entry c (after b s.a) hc (known_at p);
  }
    where
      c : ℕ
      c = target image b r

      hc : IsBlock image (target image b r)
      hc = marked.targets b r s.block u

      leads : Leads (x b).way (target image b r)
      leads = marked.edge b r s.block u f

      p : Path (target image b r) (after b s.a)
      p = goes s.path leads

      handed : wr b k ≤ wr (target image b r) (first_number image (target image b r))
      handed =
          let v : Known b s.a = known_at s.path in
          let w1 : wr b k ≡ cond (eqb (x b).writer 0) (place b).writer (low b + (x b).writer) =
          ap (wr b) e ∙ marked.wr_end b s.block in
          let w2 : cond (eqb (x b).writer 0) (place b).writer (low b + (x b).writer)
          ≡ cond (eqb (x b).writer 0) v.y.writer (low b + (x b).writer) = grind (arith, place_writer) in
          let w3 : cond (eqb (x b).writer 0) v.y.writer (low b + (x b).writer) ≤ (known_at p).y.writer =
          writer_on n x low heads ways states behind run b s.a (target image b r) v leads (known_at p) in
          let w4 : wr (target image b r) (first_number image (target image b r))
          ≡ (place (target image b r)).writer = marked.wr_first (target image b r) hc in
          let w5 : (place (target image b r)).writer ≡ (known_at p).y.writer =
          place_writer (target image b r) (after b s.a) (known_at p) in
          omega (arith, w1, w2, w3, w4, w5)

  pub stands : (b k : ℕ) (done : List ℕ) → InWave image b k done → Stands b k done
  stands b k done (first h f) = record {
    block = h;
    low_end = omega arith;
    high_end = marked.grows b h;
    a = 0;
    path = starts (ready b h).0 (ready b h).1 (marked.first_is b h ∙ f);
    last = entry_none (marked.sq_first b h) refl refl;
    below = λ j a w. absurd a;
    under = grind (arith, under_entry, known_at, ready, marked.first_is);
  }
  stands b k done (turn {b = c} {k = l} {done = d} p w) = stands_on c l d (stands c l d p) w
  stands b k done (edge {b = c} {k = l} {done = d} p e s r f) = stands_out c l r d (stands c l d p) e s f

  -- two neighbours
  pub record Pair (j k : ℕ) : Type 0 where
    pub rises : seq image j < seq image k
    pub succ : ((note_of image j).succ ≡ Unknown) ⊎ ((note_of image j).succ ≡ Is (seq image k))
    pub pred : ((note_of image k).pred ≡ Unknown) ⊎ ((note_of image k).pred ≡ Is (seq image j))
    pub linked : ((note_of image j).succ ≡ Is (seq image k)) ⊎ ((note_of image k).pred ≡ Is (seq image j))

  pub standing : (k : ℕ) (last : Option ℕ) (f : ComesNext image last k) → Stands f.block k f.done
  standing k last f = stands f.block k f.done f.path

  is_in : (k : ℕ) (last : Option ℕ) (f : ComesNext image last k) → IsIn image f.block k
  is_in k last f = ((standing k last f).low_end, f.within)

  -- the successor of an operation that isn't the last of its block, and of one that is
  succ_inside : (b j : ℕ) → OpAt b j (sq b j) → sq b j < low b + (x b).ops
      → (note_of image j).succ ≡ Is (sq b j + 1)
  succ_inside b j p l = grind (arith, marked.note, p.block, p.inside, ne_eqb)

  succ_last : (a j : ℕ) → OpAt a j (low a + (x a).ops) → (note_of image j).succ ≡ out_link (x a).way heads
  succ_last a j p = grind (arith, marked.note, p.block, p.inside, eq-eqb)

  pred_inside : (b k : ℕ) → IsBlock image b → IsIn image b k → is_memory image k ≡ true → low b + 1 < sq b k
      → (note_of image k).pred ≡ Is (sq b k - 1)
  pred_inside b k h i m l = grind (arith, marked.note, ne_eqb)

  pred_first : (b k : ℕ) → IsBlock image b → IsIn image b k → is_memory image k ≡ true → sq b k ≡ low b + 1
      → (note_of image k).pred ≡ (place b).pred
  pred_first b k h i m e = grind (arith, marked.note, eq-eqb)

  exact_some : (a : ℕ) → 1 ≤ a → 1 ≤ low a + (x a).ops → exact (last_seq a) ≡ Is (low a + (x a).ops)
  exact_some a l w = grind (arith, last_seq, exact)

  pair_within : (b k j : ℕ) → IsBlock image b → IsIn image b k → is_memory image k ≡ true → OpAt b j (sq b j)
      → sq b k ≡ sq b j + 1 → Pair j k
  pair_within b k j h i m p e = grind (arith, sq_high, sq_low, seq_is, p.inside, succ_inside, pred_inside)

  pair_entry : (b a k j : ℕ) → IsBlock image b → IsIn image b k → is_memory image k ≡ true → Known b a
      → sq b k ≡ low b + 1 → 1 ≤ a → OpAt a j (low a + (x a).ops) → Pair j k
  pair_entry b a k j h i m f e o p = grind (
    arith,
    sq_high,
    sq_low,
    p.block,
    seq_is,
    p.inside,
    exact_some,
    succ_last,
    pred_first,
    place_pred,
    head_full,
    ne_eqb,
    f.next,
    f.agrees,
    first_linked,
  )

  some_same : (i j : ℕ) → Some i ≡ Some j → i ≡ j
  some_same i j e = cc

  pub pair : (j k : ℕ) → ComesNext image (Some j) k → Pair j k
  pair j k f = go s.last
    where
      s : Stands f.block k f.done
      s = standing k (Some j) f

      i : IsIn image f.block k
      i = is_in k (Some j) f

      go : LastIs f.block s.a k (last_op image f.done) → Pair j k
      go (entry_none q u g) = absurd (cc (sym f.last_is ∙ g))
      go (entry_some m q u p g) = subst (λ (v : ℕ). Pair v k) (some_same m j (sym g ∙ f.last_is))
          (pair_entry f.block s.a k m s.block i f.memory (known_at s.path) q u p)
      go (within m p q g) = grind (arith, some_same, f, pair_within, s, i)

  pub begins : (k : ℕ) → ComesNext image None k → (note_of image k).pred ≡ Nothing
  begins k f = go s.last
    where
      s : Stands f.block k f.done
      s = standing k None f

      i : IsIn image f.block k
      i = is_in k None f

      go : LastIs f.block s.a k (last_op image f.done) → (note_of image k).pred ≡ Nothing
      go (entry_none q u g) = pred_first f.block k s.block i f.memory q
          ∙ (place_pred f.block s.a (known_at s.path) ∙ first_alone n x low heads ways states behind run
          f.block s.a (known_at s.path) u)
      go (entry_some m q u p g) = absurd (cc (sym f.last_is ∙ g))
      go (within m p q g) = absurd (cc (sym f.last_is ∙ g))

  -- where a wave ends
  pub record Ended (last : Option ℕ) : Type 0 where
    pub op : ℕ
    pub last_is : last ≡ Some op
    pub none : (note_of image op).succ ≡ Nothing

  pub finish : (last : Option ℕ) → PathEnds image last → Ended last
  finish last f = go (cases_eq (x f.block).ops 0) s.last
    where
      s : Stands f.block f.next f.done
      s = stands f.block f.next f.done f.path

      out : (x f.block).way ≡ Out
      out = marked.ends f.block s.block f.out

      q : sq f.block f.next ≡ low f.block + (x f.block).ops + 1
      q = ap (sq f.block) f.at_end ∙ marked.sq_end f.block s.block

      said : (x f.block).ops ≡ 0 → (1 ≤ s.a) × (out_link (x s.a).way heads ≡ Nothing)
      said z = end_said n x low heads ways states behind run f.block s.a (known_at s.path) z out

      go : ((x f.block).ops ≡ 0) ⊎ ((x f.block).ops ≡ 0 → ⊥)
          → LastIs f.block s.a f.next (last_op image f.done) → Ended last
      go (inl z) (entry_none t u g) = absurd (omega (arith, (said z).0, u))
      go (inl z) (entry_some j t u p g) = record {
        op = j;
        last_is = sym f.last_is ∙ g;
        none = succ_last s.a j p ∙ (said z).1;
      }
      go (inl z) (within j p t g) =
          let ja : j < first_number image (suc f.block) = p.inside.1 in
          let lo : low f.block + 1 ≤ sq f.block j = sq_low f.block j p.block p.inside.0 (omega arith) in
          absurd (omega (arith, q, t, z))
      go (inr d) (entry_none t u g) = absurd (d (omega (arith, q, t)))
      go (inr d) (entry_some j t u p g) = absurd (d (omega (arith, q, t)))
      go (inr d) (within j p t g) =
          let num : sq f.block j ≡ low f.block + (x f.block).ops = omega (arith, q, t) in
          record {
            op = j;
            last_is = sym f.last_is ∙ g;
            none = succ_last f.block j
                (record { block = p.block; inside = p.inside; memory = p.memory; number = num })
                ∙ ap (λ (v : Way). out_link v heads) out;
          }

  -- numbers differ
  pub apart_in : (b j k : ℕ) → IsBlock image b → IsIn image b j → IsIn image b k → is_memory image j ≡ true
      → is_memory image k ≡ true → sq b j ≡ sq b k → j ≡ k
  apart_in b j k h i l m o e = elim (cases_eq j k) [
    | inl s ↦ s
    | inr d ↦ absurd (elim (cases_lt j k) [
      | inl t ↦ (let ke : k < first_number image (suc b) = l.1 in let r : sq b j < sq b k =
          sq_rise b j k h i m t (omega arith) in omega arith)
      | inr t ↦ (let je : j < first_number image (suc b) = i.1 in let r : sq b k < sq b j =
          sq_rise b k j h l o (omega arith) (omega arith) in omega arith)
    ])
  ]

  below_block : (b c j k : ℕ) → b < c → IsBlock image b → IsBlock image c
      → (block_at image b).wave ≡ (block_at image c).wave → IsIn image b j → IsIn image c k
      → is_memory image j ≡ true → is_memory image k ≡ true → seq image j < seq image k
  below_block b c j k l hb hc w i o m p =
      let hi : sq b j ≤ low b + (x b).ops = sq_high b j hb i m in
      let ke : k < first_number image (suc c) = o.1 in
      let lo : low c + 1 ≤ sq c k = sq_low c k hc o.0 (omega arith) in
      let sj : seq image j ≡ sq b j = seq_is b j hb i m in
      let sk : seq image k ≡ sq c k = seq_is c k hc o p in
      let r : low b + (x b).ops ≤ low c = low_rise n x low heads ways states behind run b c hb.0 l
      (ready c hc).1 (λ q u v. marked.one_wave b c q hb hc w u v) in
      omega arith

  pub apart : (b c j k : ℕ) → IsBlock image b → IsBlock image c → (block_at image b).wave
      ≡ (block_at image c).wave → IsIn image b j → IsIn image c k → is_memory image j ≡ true
      → is_memory image k ≡ true → seq image j ≡ seq image k → j ≡ k
  apart b c j k hb hc w i o m p e = grind (arith, cases_eq, apart_in, seq_is, cases_lt, below_block)

  is_same : (m n : ℕ) → Is m ≡ Is n → m ≡ n
  is_same m n f = cc

  pub link_rules : LinkRules image
  link_rules = record {
    positive = λ k last f. (let s : Stands f.block k f.done = standing k last f in
        grind (arith, sq_low, seq_is, is_in));
    differ = λ j k l m f g w e. apart f.block g.block j k (standing j l f).block (standing k m g).block w
        (is_in j l f) (is_in k m g) f.memory g.memory e;
    rise = λ j k f. (pair j k f).rises;
    some_op = λ e. (let f : Ended None = finish None e in cc f.last_is);
    first_pred = begins;
    last_succ = λ k e. (let f : Ended (Some k) = finish (Some k) e in ap (λ (v : ℕ). (note_of image v).succ)
        (some_same k f.op f.last_is) ∙ f.none);
    linked = λ j k f. (pair j k f).linked;
    succ_is = grind (arith, pair, is_same);
    succ_goes_on = λ j n e g. (let f : Ended (Some j) = finish (Some j) g in
        cc (sym e ∙ (ap (λ (v : ℕ). (note_of image v).succ) (some_same j f.op f.last_is) ∙ f.none)));
    succ_ends = grind (arith, pair);
    pred_is = grind (arith, pair, is_same);
    pred_is_some = λ k n e f. cc (sym e ∙ begins k f);
    pred_none = grind (arith, pair);
  }

  -- Ripples.

  ripple_own : (b k : ℕ) → IsBlock image b → IsIn image b k → is_writing image k ≡ true
      → (note_of image k).ripple ≡ sq b k
  unfolding is_writing
  ripple_own b k h i w = ap (λ (v : Note). v.ripple) (marked.note b k h i (writing_memory k w)) ∙ rw w refl

  ripple_other : (b k : ℕ) → IsBlock image b → IsIn image b k → is_memory image k ≡ true
      → is_writing image k ≡ false → (note_of image k).ripple ≡ wr b k
  unfolding is_writing
  ripple_other b k h i m w = ap (λ (v : Note). v.ripple) (marked.note b k h i m) ∙ rw w refl

  pub ripple_rules : RippleRules image
  ripple_rules = record {
    own = λ k last f w. (let s : Stands f.block k f.done = standing k last f in
        ripple_own f.block k s.block (is_in k last f) w
        ∙ sym (seq_is f.block k s.block (is_in k last f) f.memory));
    above = grind (arith, stands, ripple_other);
  }

  -- a path goes on in its block
  pub record Goes (b m : ℕ) (done : List ℕ) : Type 0 where
    pub more : List ℕ
    pub path : InWave image b m more
    pub keeps : (j : ℕ) → In j done → In j more

  go_on : (b k m : ℕ) (done : List ℕ) → InWave image b k done → k ≤ m → m ≤ first_number image (suc b)
      → Goes b m done
  go_on b k zero done p l h = let e : k ≡ zero = omega arith in
      record { more = done; path = subst (λ (i : ℕ). InWave image b i done) e p; keeps = λ j a. a }
  go_on b k (suc m) done p l h = go (cases_eq k (suc m)) (λ q. go_on b k m done p q (omega arith))
    where
      go : (k ≡ suc m) ⊎ (k ≡ suc m → ⊥) → (k ≤ m → Goes b m done) → Goes b (suc m) done
      go (inl e) rec = (grind arith)
      go (inr d) rec = let g : Goes b m done = rec (omega arith) in
          record { more = m ∷ g.more; path = turn g.path h; keeps = λ j a. inr (g.keeps j a) }

  -- a path in a block has come by its instructions
  passed : (b k : ℕ) (done : List ℕ) → InWave image b k done → (j : ℕ) → first_number image b ≤ j → j < k
      → In j done
  passed b k done (turn {b = c} {k = i} {done = d} p q) j l w = elim (cases_eq j i) [
    | inl e ↦ inl e
    | inr n ↦ grind (arith, passed c i d p j l (omega arith))
  ]
  passed b k done g j l w = grind arith

  pub crossed : (b c : ℕ) (done : List ℕ) → IsBlock image b → InWave image b (first_number image (suc b)) done
      → Leads (x b).way c → InWave image c (first_number image c) done
  crossed b c done h p k =
      let e : (stops image b ≡ false) × ((r : ℕ) × (target image b r ≡ c)) × (is_first image c ≡ false) =
      marked.edge_back b c h k in
      subst (λ (i : ℕ). InWave image i (first_number image i) done) e.1.1
      (edge p refl e.0 e.1.0 (ap (is_first image) e.1.1 ∙ e.2))

  is_block : (b : ℕ) → 1 ≤ b → b ≤ n → IsBlock image b
  is_block b l h = (l, omega arith)

  -- a path by way of a writing operation of this number, or of any if none is asked for
  pub record Comes (b : ℕ) : Type 0 where
    pub done : List ℕ
    pub path : InWave image b (first_number image b) done

  pub comes : {b a : ℕ} → Path b a → Comes b
  comes {b} (starts l h f) =
      record { done = []; path = first (is_block b l h) (sym (marked.first_is b (is_block b l h)) ∙ f) }
  comes (goes {b = b} {a = a} {c = c} p k) =
      let f : Known b a = known_at p in
      let h : IsBlock image b = is_block b f.low_block f.high_block in
      let g : Comes b = comes p in
      let m : Goes b (first_number image (suc b)) g.done = go_on b (first_number image b)
      (first_number image (suc b)) g.done g.path (marked.grows b h) (omega arith) in
      record { done = m.more; path = crossed b c m.more h m.path k }

  pub record ComesBy (b w : ℕ) : Type 0 where
    pub done : List ℕ
    pub path : InWave image b (first_number image b) done
    pub op : ℕ
    pub among : In op done
    pub writes : is_writing image op ≡ true
    pub number : seq image op ≡ w

  comes_by : {c w : ℕ} → Wrote n x low heads ways states behind run c w → ComesBy c w
  comes_by (wrote {b = b} {a = a} {c = c} p l k) =
      let f : Known b a = known_at p in
      let h : IsBlock image b = is_block b f.low_block f.high_block in
      let g : Comes b = comes p in
      let m : Goes b (first_number image (suc b)) g.done = go_on b (first_number image b)
      (first_number image (suc b)) g.done g.path (marked.grows b h) (omega arith) in
      let j : (i : ℕ) × IsIn image b i × (is_writing image i ≡ true) × (sq b i ≡ low b + (x b).writer) =
      marked.has_writer b h l in
      grind (arith, crossed, passed, seq_is, writing_memory)
  comes_by (further {b = b} {c = c} {w = w} p k) =
      let f : (1 ≤ b) × (b ≤ n) × (w ≤ low b) = wrote_low n x low heads ways states behind run p in
      let h : IsBlock image b = is_block b f.0 f.1 in
      let g : ComesBy b w = comes_by p in
      let m : Goes b (first_number image (suc b)) g.done = go_on b (first_number image b)
      (first_number image (suc b)) g.done g.path (marked.grows b h) (omega arith) in
      record {
        done = m.more;
        path = crossed b c m.more h m.path k;
        op = g.op;
        among = m.keeps g.op g.among;
        writes = g.writes;
        number = g.number;
      }

  -- the last writing operation is that of the entry, or stands in the block
  pub record WroteHere (b k : ℕ) : Type 0 where
    pub op : ℕ
    pub low_op : first_number image b ≤ op
    pub before : op < k
    pub writes : is_writing image op ≡ true
    pub number : sq b op ≡ wr b k

  writer_from : (b k : ℕ) → IsBlock image b → first_number image b ≤ k → k ≤ first_number image (suc b)
      → (wr b k ≡ (place b).writer) ⊎ WroteHere b k
  writer_from b zero h l w = let e : zero ≡ first_number image b = omega arith in
      inl (ap (wr b) e ∙ marked.wr_first b h)
  writer_from b (suc k) h l w = go (cases_eq (suc k) (first_number image b))
      (λ q. writer_from b k h q (omega arith))
    where
      go : (suc k ≡ first_number image b) ⊎ (suc k ≡ first_number image b → ⊥)
          → (first_number image b ≤ k → (wr b k ≡ (place b).writer) ⊎ WroteHere b k)
          → (wr b (suc k) ≡ (place b).writer) ⊎ WroteHere b (suc k)
      go (inl e) rec = inl (ap (wr b) e ∙ marked.wr_first b h)
      go (inr d) rec = grind (arith, here, cases_Bool, wr_step, wr_stay)

  met_at : (b k : ℕ) (done : List ℕ) → InWave image b k done → k < first_number image (suc b)
      → (wr b k ≡ 0) ⊎ ((j : ℕ) × MayPrecede image j k × (seq image j ≡ wr b k))
  met_at b k done p w = go (writer_from b k s.block s.low_end s.high_end)
    where
      s : Stands b k done
      s = stands b k done p

      f : Known b s.a
      f = known_at s.path

      t : Attained n x low heads ways states behind run b
      t = attained n x low heads ways states behind run b f.low_block f.high_block f.reaches

      same : t.y ≡ f.y
      same = grind (arith, t, f, here)

      entry : wr b k ≡ (place b).writer → wr b k ≡ t.y.writer
      entry e = e ∙ (place_writer b s.a f ∙ ap (λ (v : Behind). v.writer) (sym same))

      go : (wr b k ≡ (place b).writer) ⊎ WroteHere b k → (wr b k ≡ 0)
          ⊎ ((j : ℕ) × MayPrecede image j k × (seq image j ≡ wr b k))
      go (inr g) =
          let i : IsIn image b g.op = (g.low_op, (let q : g.op < k = g.before in omega arith)) in
          inr (
            g.op,
            (grind (arith, passed)),
            seq_is b g.op s.block i (writing_memory g.op g.writes) ∙ g.number,
          )
      go (inl e) = elim t.writer [
        | inl z ↦ inl (entry e ∙ z)
        | inr q ↦ (let c : ComesBy b t.y.writer = comes_by q in
            let m : Goes b k c.done = go_on b (first_number image b) k c.done c.path s.low_end s.high_end in
            inr (
              c.op,
              record {
                block = b;
                done = m.more;
                path = m.path;
                within = w;
                among = m.keeps c.op c.among;
                writes = c.writes;
              },
              c.number ∙ sym (entry e),
            ))
      ]

  pub exact_ripples : ExactRipples image
  exact_ripples k last f w = record { above = above; met = met (met_at f.block k f.done f.path f.within) }
    where
      s : Stands f.block k f.done
      s = standing k last f

      e : (note_of image k).ripple ≡ wr f.block k
      e = ripple_other f.block k s.block (is_in k last f) f.memory w

      met : (wr f.block k ≡ 0) ⊎ ((j : ℕ) × MayPrecede image j k × (seq image j ≡ wr f.block k))
          → ((note_of image k).ripple ≡ 0)
          ⊎ ((j : ℕ) × MayPrecede image j k × (seq image j ≡ (note_of image k).ripple))
      met h = grind (arith, e)

      above : (j : ℕ) → MayPrecede image j k → seq image j ≤ (note_of image k).ripple
      above j m = ripple_rules.above m.block k j m.done m.path m.within f.memory w m.among m.writes
