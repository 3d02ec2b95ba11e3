-- The paths of an image without one no-op that is needed.
use Rattle.std.proofs.Common.{ℕ, zero, suc, ◌+◌, ◌≡◌, ◌<◌, ◌≤◌, ◌⊎◌, true, false, List, [], ◌∷◌, Option, Some}
use Rattle.std.proofs.Common.{None, refl, sym, ap, ◌∙◌, inl, inr, subst, arith, eq-eqb, ne_eqb}
use Rattle.std.proofs.lemmas.Bool.{cases_eq, cases_Bool, cases_lt}
use Rattle.ws_isa.specs.declared.instr.Link.{Link}
use Rattle.ws_isa.specs.Image.{Image, block_at, first_number, is_memory, stops, target, is_first, IsIn}
use Rattle.ws_isa.specs.Image.{IsBlock}
use Rattle.ws_isa.specs.Sound.{InWave, first, turn, last_op}
use Rattle.wave_link.specs.declared.outline.Way.TheVariants.{Out}
use Rattle.wave_link.specs.declared.outline.Outline.{Outline}
use Rattle.wave_link.specs.declared.links.Behind.{Behind}
use Rattle.wave_link.specs.declared.states.Ways.{Ways}
use Rattle.wave_link.specs.declared.states.LastOps.{LastOps}
use Rattle.wave_link.specs.Vain.{moved, without, FollowsIn, EndsIn, other, Unlinkable, no_operation}
use Rattle.wave_link.specs.Vain.{first_and_not, last_and_not, neighbours}
use Rattle.wave_link.proofs.Linked.LinksTables.{Leads}
use Rattle.wave_link.proofs.Linked.LinksRun.{Run, Before, starts, goes, last_of, last_empty, last_full, Facts}
use Rattle.wave_link.proofs.Linked.LinksRun.{facts}
use Rattle.wave_link.proofs.Linked.LinksPaths.{Marked, OpAt, LastIs, entry_none, entry_some, within}
use Rattle.wave_link.proofs.Linked.LinksPaths.{last_next, last_out, sq_stay, sq_low, sq_high, sq_rise}
use Rattle.wave_link.proofs.Linked.LinksPaths.{apart_in, crossed}
use Rattle.wave_link.proofs.Vain.VainRun.{Skip, stay, over, Past, Last, Need, no_op}
use Rattle.wave_link.proofs.Vain.VainRun.{first_and_not as needs_first, last_and_not as needs_last}
use Rattle.wave_link.proofs.Vain.VainRun.{two_and_two}
use Rattle.wave_link.proofs.Vain.VainWithout.{last_but, moved_op, moved_one, Comes, Stops, follows, ends}

module _ (image : Image) (n : ℕ) (x : ℕ → Outline) (low : ℕ → ℕ) (heads : List Link) (ways : ℕ → List Ways)
    (states : ℕ → List LastOps) (behind : ℕ → List (Option Behind)) (sq wr : ℕ → ℕ → ℕ)
    (run : Run n x low heads ways states behind) (marked : Marked image n x low heads behind sq wr)
    (wave_on : (b c : ℕ) → IsBlock image b → Leads (x b).way c → (block_at image c).wave
    ≡ (block_at image b).wave)
    (out_ends : (b : ℕ) → IsBlock image b → (x b).way ≡ Out → (stops image b ≡ true)
    ⊎ ((stops image b ≡ false) × ((r : ℕ) × (is_first image (target image b r) ≡ true))))
    (v nop : ℕ) (block : IsBlock image v) (inside : IsIn image v nop) (positive : 1 ≤ nop)
    (alone : (x v).ops ≡ 1) (memory : is_memory image nop ≡ true) where
  abbrev Path : ℕ → ℕ → Type 0
  Path b a = Before n x low heads ways states behind run b a

  abbrev Known : ℕ → ℕ → Type 0
  Known b a = Facts n x low heads ways states behind run b a

  abbrev known_at : {b a : ℕ} → Path b a → Known b a
  known_at p = facts n x low heads ways states behind run p

  abbrev after : ℕ → ℕ → ℕ
  after b a = last_of n x low heads ways states behind run b a

  abbrev Op : ℕ → ℕ → ℕ → Type 0
  Op b j t = OpAt image n x low heads ways states behind sq wr run marked b j t

  abbrev LastAt : ℕ → ℕ → ℕ → Option ℕ → Type 0
  LastAt b a k o = LastIs image n x low heads ways states behind sq wr run marked b a k o

  abbrev Skips : ℕ → ℕ → Type 0
  Skips e g = Skip n x low heads ways states behind run v e g

  abbrev Passes : ℕ → ℕ → Type 0
  Passes b a = Past n x low heads ways states behind run v b a

  abbrev wave : ℕ → ℕ
  wave b = (block_at image b).wave

  is_block : (b : ℕ) → 1 ≤ b → b ≤ n → IsBlock image b
  is_block b l h = (l, omega arith)

  path_block : {b a : ℕ} → Path b a → IsBlock image b
  path_block {b} p = is_block b (known_at p).low_block (known_at p).high_block

  edge_block : (b c : ℕ) → IsBlock image b → Leads (x b).way c → IsBlock image c
  edge_block b c h k = grind (arith, run.later, is_block)

  skip_block : {e g : ℕ} → IsBlock image e → Skips e g → IsBlock image g
  skip_block h stay = h
  skip_block h (over {g = g} {h = c} s o k) = edge_block g c (skip_block h s) k

  -- blocks are apart

  rises : (b c : ℕ) → 1 ≤ b → b < c → c ≤ n → first_number image (suc b) ≤ first_number image c
  rises b zero l h k = absurd (omega arith)
  rises b (suc c) l h k = go (cases_eq b c) (λ q. rises b c l q (omega arith))
    where
      go : (b ≡ c) ⊎ (b ≡ c → ⊥) → (b < c → first_number image (suc b) ≤ first_number image c)
          → first_number image (suc b) ≤ first_number image (suc c)
      go (inl e) rec = rw e (omega arith)
      go (inr d) rec = grind (arith, is_block)

  one_block : (b c k : ℕ) → IsBlock image b → IsBlock image c → IsIn image b k → IsIn image c k → b ≡ c
  one_block b c k h g i j = elim (cases_eq b c) [
    | inl e ↦ e
    | inr d ↦ absurd (elim (cases_lt b c) [
      | inl l ↦
          (let r : first_number image (suc b) ≤ first_number image c = rises b c h.0 l
          (omega (arith, g.1, marked.count)) in omega (arith, i.1, j.0))
      | inr l ↦ (let r : first_number image (suc c) ≤ first_number image b = rises c b g.0 (omega arith)
          (omega (arith, h.1, marked.count)) in omega (arith, j.1, i.0))
    ])
  ]

  not_nop : (a j t : ℕ) → Op a j t → (a ≡ v → ⊥) → j ≡ nop → ⊥
  not_nop a j t p d e = d (one_block a v j p.block block p.inside (subst (IsIn image v) (sym e) inside))

  -- Paths with their last operation.

  pub record Walk (b k a : ℕ) : Type 0 where
    pub done : List ℕ
    pub path : InWave image b k done
    pub last : LastAt b a k (last_op image done)

  walk_to : (b a m : ℕ) → IsBlock image b → Walk b (first_number image b) a → first_number image b ≤ m
      → m ≤ first_number image (suc b) → Walk b m a
  walk_to b a zero h w l k = grind arith
  walk_to b a (suc m) h w l k = go (cases_eq (first_number image b) (suc m))
      (λ q. walk_to b a m h w q (omega arith))
    where
      go : (first_number image b ≡ suc m) ⊎ (first_number image b ≡ suc m → ⊥)
          → (first_number image b ≤ m → Walk b m a) → Walk b (suc m) a
      go (inl e) rec = rw e at w
      go (inr d) rec =
          let q : first_number image b ≤ m = omega arith in
          let r : Walk b m a = rec q in
          record {
            done = m ∷ r.done;
            path = turn r.path k;
            last = last_next image n x low heads ways states
                behind sq wr run marked b a m r.done h (q, k) r.last;
          }

  walk : {b a : ℕ} → Path b a → Walk b (first_number image b) a
  walk (starts {b = b} l h f) = record {
    done = [];
    path = first (is_block b l h) (sym (marked.first_is b (is_block b l h)) ∙ f);
    last = entry_none (marked.sq_first b (is_block b l h)) refl refl;
  }
  walk (goes {b = b} {a = a} {c = c} p k) =
      let h : IsBlock image b = path_block p in
      let e : ℕ = first_number image (suc b) in
      let w : Walk b e a = walk_to b a e h (walk p) (marked.grows b h) (omega arith) in
      record {
        done = w.done;
        path = crossed image n x low heads ways states behind sq wr run marked b c w.done h w.path k;
        last = last_out image n x low heads ways states behind sq wr run marked b a e c (last_op image w.done)
            h refl (edge_block b c h k) w.last;
      }

  -- the last one but the no-op

  same_last : (done : List ℕ) (o : Option ℕ) → last_op image done ≡ o → (o ≡ Some nop → ⊥)
      → last_but image nop done ≡ o
  same_last [] o e d = e
  same_last (k ∷ ks) o e d = go (cases_eq k nop) (cases_Bool (is_memory image k)) (λ f. same_last ks o f d)
    where
      go : (k ≡ nop) ⊎ (k ≡ nop → ⊥) → (is_memory image k ≡ true) ⊎ (is_memory image k ≡ false)
          → (last_op image ks ≡ o → last_but image nop ks ≡ o) → last_but image nop (k ∷ ks) ≡ o
      go h m rec = grind arith

  pub data LastOf (a : ℕ) (o : Option ℕ) : Type 0 where
    none_yet : a ≡ 0 → o ≡ None → LastOf a o
    some_op : (j : ℕ) → 1 ≤ a → Op a j (low a + (x a).ops) → o ≡ Some j → LastOf a o

  pub record Entry (b a : ℕ) : Type 0 where
    pub done : List ℕ
    pub path : InWave image b (first_number image b) done
    pub last : LastOf a (last_but image nop done)

  enter : (b a : ℕ) → IsBlock image b → (a ≡ v → ⊥) → Walk b (first_number image b) a → Entry b a
  enter b a h d w = record { done = w.done; path = w.path; last = go w.last }
    where
      go : LastAt b a (first_number image b) (last_op image w.done) → LastOf a (last_but image nop w.done)
      go (entry_none s z e) = none_yet z (same_last w.done None e (λ f. cc))
      go (entry_some j s l p e) =
          some_op j l p (same_last w.done (Some j) e (λ f. not_nop a j (low a + (x a).ops) p d (one j nop f)))
        where
          one : (i j : ℕ) → Some i ≡ Some j → i ≡ j
          one i j e = cc
      go (within j p s e) =
          let u : j < first_number image (suc b) = p.inside.1 in
          let l : low b + 1 ≤ sq b j = sq_low image n x low heads ways states behind sq wr run marked b j h
          p.inside.0 (omega arith) in
          absurd (omega (arith, marked.sq_first b h, s))

  -- through instructions that are no operations but for the no-op
  pub record Through (b m : ℕ) (done : List ℕ) : Type 0 where
    pub more : List ℕ
    pub path : InWave image b m more
    pub same : last_but image nop more ≡ last_but image nop done

  quiet : (b m : ℕ) (done : List ℕ) → InWave image b (first_number image b) done → first_number image b ≤ m
      → m ≤ first_number image (suc b) → ((k : ℕ) → IsIn image b k → k < m → is_memory image k ≡ true
      → k ≡ nop) → Through b m done
  quiet b zero done p l h q = let e : first_number image b ≡ zero = omega arith in grind arith
  quiet b (suc m) done p l h q = go (cases_eq (first_number image b) (suc m))
      (λ u. quiet b m done p u (omega arith) (λ k i w. q k i (omega arith)))
    where
      go : (first_number image b ≡ suc m) ⊎ (first_number image b ≡ suc m → ⊥)
          → (first_number image b ≤ m → Through b m done) → Through b (suc m) done
      go (inl e) rec = grind arith
      go (inr d) rec =
          let u : first_number image b ≤ m = omega arith in
          let r : Through b m done = rec u in
          record {
            more = m ∷ r.more;
            path = turn r.path h;
            same = grind (arith, cases_eq, cases_Bool);
          }
        where
          skipped : (m ≡ nop) ⊎ (m ≡ nop → ⊥) → (is_memory image m ≡ true) ⊎ (is_memory image m ≡ false)
              → (ks : List ℕ) → last_but image nop (m ∷ ks) ≡ last_but image nop ks
          skipped (inl e) w ks = rw (eq-eqb m nop e) refl
          skipped (inr f) (inl w) ks = absurd (f (q m (omega arith, h) (omega arith) w))
          skipped (inr f) (inr w) ks = rw (ne_eqb m nop f) (rw w refl)

  -- an empty block has no operation, and v none but the no-op
  only_nop : (b k : ℕ) → IsBlock image b → ((x b).ops ≡ 0) ⊎ (b ≡ v) → IsIn image b k
      → is_memory image k ≡ true → k ≡ nop
  only_nop b k h (inl z) i m =
      let u : k < first_number image (suc b) = i.1 in
      let l : low b + 1 ≤ sq b k = sq_low image n x low heads ways states behind sq wr run marked b k h i.0
      (omega arith) in
      let s : sq b k ≤ low b + (x b).ops = sq_high image n x low heads ways states behind sq wr run marked b k
      h i m in
      absurd (omega arith)
  only_nop b k h (inr e) i m =
      let i' : IsIn image v k = subst (λ (c : ℕ). IsIn image c k) e i in
      let u : k < first_number image (suc v) = i'.1 in
      let l : low v + 1 ≤ sq v k = sq_low image n x low heads ways states behind sq wr run marked v k block
      i'.0 (omega arith) in
      let s : sq v k ≤ low v + (x v).ops = sq_high image n x low heads ways states behind sq wr run marked v k
      block i' m in
      let u2 : nop < first_number image (suc v) = inside.1 in
      let l2 : low v + 1 ≤ sq v nop = sq_low image n x low heads ways states behind sq wr run marked v nop
      block inside.0 (omega arith) in
      let s2 : sq v nop ≤ low v + (x v).ops = sq_high image n x low heads ways states behind sq wr run marked
      v nop block inside memory in
      apart_in image n x low heads ways states behind sq wr run marked v k nop block i' inside m memory
      (omega (arith, alone))

  through : (b a : ℕ) → IsBlock image b → ((x b).ops ≡ 0) ⊎ (b ≡ v) → (e : Entry b a)
      → Through b (first_number image (suc b)) e.done
  through b a h o e = grind (arith, quiet, e.done, marked.grows, only_nop)

  entry_on : (b a c : ℕ) → IsBlock image b → ((x b).ops ≡ 0) ⊎ (b ≡ v) → Leads (x b).way c → Entry b a
      → Entry c a
  entry_on b a c h o k e =
      let t : Through b (first_number image (suc b)) e.done = through b a h o e in
      record {
        done = t.more;
        path = crossed image n x low heads ways states behind sq wr run marked b c
            t.more h t.path k;
        last = subst (LastOf a) (sym t.same) e.last;
      }

  skip_entry : {e g : ℕ} (a : ℕ) → IsBlock image e → Skips e g → Entry e a → Entry g a
  skip_entry a h stay p = p
  skip_entry a h (over {g = g} {h = c} s o k) p = entry_on g a c (skip_block h s) o k (skip_entry a h s p)

  past_entry : (b a : ℕ) → Passes b a → Entry b a
  past_entry b a p = grind (arith, skip_entry, path_block, enter, walk)

  past_block : (b a : ℕ) → Passes b a → IsBlock image b
  past_block b a p = skip_block (path_block p.path) p.skip

  -- the first operation of a block
  pub record FirstOp (s : ℕ) : Type 0 where
    pub op : ℕ
    pub is_in : IsIn image s op
    pub is_op : is_memory image op ≡ true
    pub number : sq s op ≡ low s + 1

  find_first : (s m : ℕ) → IsBlock image s → first_number image s ≤ m → m ≤ first_number image (suc s)
      → (sq s m ≡ low s + 1) ⊎ FirstOp s
  find_first s zero h l k = let e : first_number image s ≡ zero = omega arith in
      inl (ap (sq s) (sym e) ∙ marked.sq_first s h)
  find_first s (suc m) h l k = go (cases_eq (first_number image s) (suc m))
      (λ q. find_first s m h q (omega arith))
    where
      go : (first_number image s ≡ suc m) ⊎ (first_number image s ≡ suc m → ⊥)
          → (first_number image s ≤ m → (sq s m ≡ low s + 1) ⊎ FirstOp s) → (sq s (suc m) ≡ low s + 1)
          ⊎ FirstOp s
      go (inl e) rec = inl (ap (sq s) (sym e) ∙ marked.sq_first s h)
      go (inr d) rec = next (cases_Bool (is_memory image m)) (rec (omega arith))
        where
          i : IsIn image s m
          i = (omega arith, k)

          next : (is_memory image m ≡ true) ⊎ (is_memory image m ≡ false) → (sq s m ≡ low s + 1) ⊎ FirstOp s
              → (sq s (suc m) ≡ low s + 1) ⊎ FirstOp s
          next w (inr f) = inr f
          next (inl w) (inl e) = inr (record { op = m; is_in = i; is_op = w; number = e })
          next (inr w) (inl e) =
              inl (sq_stay image n x low heads ways states behind sq wr run marked s m h i w ∙ e)

  first_op : (s : ℕ) → IsBlock image s → 1 ≤ (x s).ops → FirstOp s
  first_op s h o = elim (find_first s (first_number image (suc s)) h (marked.grows s h) (omega arith)) [
    | inr f ↦ f
    | inl e ↦ grind (arith, marked.sq_end)
  ]

  abbrev Comes_to : ℕ → Option ℕ → ℕ → Type 0
  Comes_to w o k = Comes image nop positive marked.targets w o k

  abbrev Stops_at : ℕ → Option ℕ → Type 0
  Stops_at w o = Stops image nop positive marked.targets w o

  -- a path comes to the first operation of a block
  pub record Arrives (s a : ℕ) (f : FirstOp s) : Type 0 where
    pub last : Option ℕ
    pub last_is : LastOf a last
    pub comes : Comes_to (wave s) last f.op

  arrives : (s a : ℕ) → (s ≡ v → ⊥) → Passes s a → (f : FirstOp s) → Arrives s a f
  arrives s a d p f = record {
    last = last_but image nop e.done;
    last_is = e.last;
    comes = record {
      block = s;
      done = t.more;
      path = t.path;
      within = f.is_in.1;
      memory = f.is_op;
      other = λ q. d (one_block s v f.op h block f.is_in (subst (IsIn image v) (sym q) inside));
      last_is =
          t.same;
      wave_is = refl;
    };
  }
    where
      h : IsBlock image s
      h = past_block s a p

      e : Entry s a
      e = past_entry s a p

      none_before : (k : ℕ) → IsIn image s k → k < f.op → is_memory image k ≡ true → k ≡ nop
      none_before k i l m =
          let fe : f.op < first_number image (suc s) = f.is_in.1 in
          let ke : k < first_number image (suc s) = i.1 in
          let r : sq s k < sq s f.op = sq_rise image n x low heads ways states behind sq wr run marked s k
          f.op h i m l (omega arith) in
          let u : low s + 1 ≤ sq s k = sq_low image n x low heads ways states behind sq wr run marked s k h
          i.0 (omega arith) in
          absurd (omega (arith, f.number))

      t : Through s f.op e.done
      t = grind (arith, quiet, e, none_before)

  -- one ends
  pub record Closes (s a : ℕ) : Type 0 where
    pub last : Option ℕ
    pub last_is : LastOf a last
    pub stops_at : Stops_at (wave s) last

  closes : (s a : ℕ) → Passes s a → Last n x low heads ways states behind run v s → Closes s a
  closes s a p l =
      let h : IsBlock image s = past_block s a p in
      let e : Entry s a = past_entry s a p in
      let t : Through s (first_number image (suc s)) e.done = through s a h l.0 e in
      record {
        last = last_but image nop e.done;
        last_is = e.last;
        stops_at = record {
          block = s;
          done = t.more;
          path = t.path;
          out = out_ends s h l.1;
          last_is = t.same;
          wave_is = refl;
        };
      }

  -- Waves.

  skip_wave : {e g : ℕ} → IsBlock image e → Skips e g → wave g ≡ wave e
  skip_wave h stay = refl
  skip_wave h (over {g = g} {h = c} s o k) = wave_on g c (skip_block h s) k ∙ skip_wave h s

  path_wave : {b a : ℕ} → Path b a → 1 ≤ a → wave b ≡ wave a
  path_wave (starts l h f) o = absurd (omega arith)
  path_wave (goes {b = b} {a = a} {c = c} p k) o = go (cases_eq (x b).ops 0) (λ q. path_wave p q)
    where
      go : ((x b).ops ≡ 0) ⊎ ((x b).ops ≡ 0 → ⊥) → (1 ≤ a → wave b ≡ wave a) → wave c ≡ wave (after b a)
      go (inl z) rec = grind (arith, last_empty, path_block)
      go (inr d) rec = wave_on b c (path_block p) k
          ∙ ap wave (sym (last_full n x low heads ways states behind run b a (omega (arith, d))))

  past_wave : (b a : ℕ) → Passes b a → 1 ≤ a → wave b ≡ wave a
  past_wave b a p o = skip_wave (path_block p.path) p.skip ∙ path_wave p.path o

  -- What breaks.

  abbrev image' : Image
  image' = without image nop

  last_none : (a : ℕ) (o : Option ℕ) → a ≡ 0 → LastOf a o → o ≡ None
  last_none a o z h = grind arith

  pub record SomeOp (a : ℕ) (o : Option ℕ) : Type 0 where
    pub op : ℕ
    pub at : Op a op (low a + (x a).ops)
    pub is : o ≡ Some op

  last_some : (a : ℕ) (o : Option ℕ) → 1 ≤ a → LastOf a o → SomeOp a o
  last_some a o l h = grind arith

  last_one : (a i j : ℕ) → Op a i (low a + (x a).ops) → Op a j (low a + (x a).ops) → i ≡ j
  last_one a i j p q = apart_in image n x low heads ways states behind sq wr run marked a i j p.block p.inside
      q.inside p.memory q.memory (p.number ∙ sym q.number)

  follows_by : (w : ℕ) (o : Option ℕ) (k : ℕ) → Comes_to w o k → FollowsIn image' w (moved_op nop o)
      (moved nop k)
  follows_by w o k c = follows image nop positive marked.targets w o k c

  ends_by : (w : ℕ) (o : Option ℕ) → Stops_at w o → EndsIn image' w (moved_op nop o)
  ends_by w o c = ends image nop positive marked.targets w o c

  -- the first operation of s follows, or comes first
  seen_first : (w s : ℕ) (f : FirstOp s) → (s ≡ v → ⊥) → wave s ≡ w → Passes s 0
      → FollowsIn image' w None (moved nop f.op)
  seen_first w s f d e p =
      let r : Arrives s 0 f = arrives s 0 d p f in
      subst (λ (o : Option ℕ). FollowsIn image' w (moved_op nop o) (moved nop f.op))
      (last_none 0 r.last refl r.last_is)
      (grind (arith, moved_op, follows_by))

  seen_after : (w s a j : ℕ) (f : FirstOp s) → (s ≡ v → ⊥) → wave s ≡ w → 1 ≤ a → Op a j (low a + (x a).ops)
      → Passes s a → FollowsIn image' w (Some (moved nop j)) (moved nop f.op)
  seen_after w s a j f d e l q p =
      let r : Arrives s a f = arrives s a d p f in
      let t : SomeOp a r.last = last_some a r.last l r.last_is in
      subst (λ (o : Option ℕ). FollowsIn image' w (moved_op nop o) (moved nop f.op))
      (t.is ∙ ap Some (last_one a t.op j t.at q))
      (subst (λ (u : ℕ). FollowsIn image' u (moved_op nop r.last) (moved nop f.op)) e
      (follows_by (wave s) r.last f.op r.comes))

  last_at : (s a : ℕ) → (s ≡ v → ⊥) → 1 ≤ a → Passes s a → (f : FirstOp s)
      → (j : ℕ) × Op a j (low a + (x a).ops)
  last_at s a d l p f = let r : Arrives s a f = arrives s a d p f in let t : SomeOp a r.last =
      grind (arith, last_some) in (t.op, t.at)

  last_far : (a c i j : ℕ) → Op a i (low a + (x a).ops) → Op c j (low c + (x c).ops) → (c ≡ a → ⊥) → j ≡ i → ⊥
  last_far a c i j p q d e =
      d (one_block c a j q.block p.block q.inside (subst (IsIn image a) (sym e) p.inside))

  ends_none : (w e : ℕ) → wave e ≡ w → Passes e 0 → Last n x low heads ways states behind run v e
      → EndsIn image' w None
  ends_none w e q p l =
      let r : Closes e 0 = closes e 0 p l in
      subst (λ (o : Option ℕ). EndsIn image' w (moved_op nop o)) (last_none 0 r.last refl r.last_is)
      (subst (λ (u : ℕ). EndsIn image' u (moved_op nop r.last)) q (ends_by (wave e) r.last r.stops_at))

  ends_after : (w e a j : ℕ) → wave e ≡ w → 1 ≤ a → Op a j (low a + (x a).ops) → Passes e a
      → Last n x low heads ways states behind run v e → EndsIn image' w (Some (moved nop j))
  ends_after w e a j q o t p l =
      let r : Closes e a = closes e a p l in
      let g : SomeOp a r.last = last_some a r.last o r.last_is in
      subst (λ (i : Option ℕ). EndsIn image' w (moved_op nop i)) (g.is ∙ ap Some (last_one a g.op j g.at t))
      (subst (λ (u : ℕ). EndsIn image' u (moved_op nop r.last)) q (ends_by (wave e) r.last r.stops_at))

  -- a last operation isn't the no-op
  op_far : (a s : ℕ) → Passes s a → 1 ≤ a → (j : ℕ) → Op a j (low a + (x a).ops) → j ≡ nop → ⊥
  op_far a s p l j o = not_nop a j (low a + (x a).ops) o p.other

  not_the_nop : (s : ℕ) → IsBlock image s → (s ≡ v → ⊥) → (f : FirstOp s) → f.op ≡ nop → ⊥
  not_the_nop s h d f e = d (one_block s v f.op h block f.is_in (subst (IsIn image v) (sym e) inside))

  pub unlinkable : Need n x low heads ways states behind run v → Unlinkable image' (wave v)
  unlinkable (no_op e k p l) = no_operation (ends_none (wave v) e (skip_wave block k) p l)
  unlinkable (needs_first s i k st p l q) =
      let f : FirstOp s = first_op s (past_block s 0 p) st.0 in
      let j : (j : ℕ) × Op i j (low i + (x i).ops) = last_at s i st.1 l q f in
      let w : wave s ≡ wave v = skip_wave block k in
      first_and_not (moved nop j.0) (moved nop f.op) (seen_first (wave v) s f st.1 w p)
      (seen_after (wave v) s i j.0 f st.1 w l j.1 q)
  unlinkable (needs_last a e s k l p z st q) =
      let f : FirstOp s = first_op s (past_block s a q) st.0 in
      let j : (j : ℕ) × Op a j (low a + (x a).ops) = last_at s a st.1 l q f in
      let w : wave e ≡ wave v = skip_wave block k in
      let u : wave s ≡ wave v = past_wave s a q l ∙ (sym (past_wave e a p l) ∙ w) in
      last_and_not (moved nop j.0) (moved nop f.op) (ends_after (wave v) e a j.0 w l j.1 p z)
      (seen_after (wave v) s a j.0 f st.1 u l j.1 q)
  unlinkable (two_and_two a c s t k la lc d ss st ts ps pt pc) =
      let hs : IsBlock image s = past_block s a ps in
      let ht : IsBlock image t = past_block t a pt in
      let f : FirstOp s = first_op s hs ss.0 in
      let g : FirstOp t = first_op t ht st.0 in
      let j : (j : ℕ) × Op a j (low a + (x a).ops) = last_at s a ss.1 la ps f in
      let i : (i : ℕ) × Op c i (low c + (x c).ops) = last_at s c ss.1 lc pc f in
      let w : wave s ≡ wave v = skip_wave block k in
      let u : wave t ≡ wave v = past_wave t a pt la ∙ (sym (past_wave s a ps la) ∙ w) in
      neighbours (moved nop j.0) (moved nop f.op) (seen_after (wave v) s a j.0 f ss.1 w la j.1 ps)
      (other (moved nop g.op) (seen_after (wave v) t a j.0 g st.1 u la j.1 pt)
      (λ e. ts (one_block t s g.op ht hs g.is_in
      (subst (IsIn image s)
      (sym (moved_one nop g.op f.op (not_the_nop t ht st.1 g) (not_the_nop s hs ss.1 f) e)) f.is_in))))
      (other (moved nop i.0) (seen_after (wave v) s c i.0 f ss.1 w lc i.1 pc)
      (λ e. last_far a c j.0 i.0 j.1 i.1 d (moved_one nop i.0 j.0 (op_far c s pc lc i.0 i.1)
      (op_far a s ps la j.0 j.1) e)))
