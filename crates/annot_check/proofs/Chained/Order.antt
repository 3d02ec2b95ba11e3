-- A closed table gives the rules on links and ripples.
use Rattle.std.proofs.Common.{ℕ, zero, suc, ◌+◌, ◌≡◌, ◌<◌, ◌≤◌, ◌⊎◌, true, false, List, [], ◌∷◌, Option, Some}
use Rattle.std.proofs.Common.{None, refl, sym, ◌∙◌, inl, inr, arith, ltb}
use Rattle.std.proofs.lemmas.Bool.{cases_Bool}
use Rattle.ws_isa.specs.declared.instr.Link.{Link}
use Rattle.ws_isa.specs.declared.instr.Link.TheVariants.{Nothing, Is}
use Rattle.ws_isa.specs.Image.{Image, first_number, size_of, is_memory, is_writing, note_of, IsIn}
use Rattle.ws_isa.specs.Sound.{InWave, first, turn, edge, last_op, ComesNext, PathEnds, seq, ShapeRules}
use Rattle.ws_isa.specs.Sound.{LinkRules, RippleRules}
use Rattle.annot_check.specs.declared.lasts.Lasts.{Lasts}
use Rattle.annot_check.specs.Order.{joined, agrees, LastsOk, InLasts, at_start, is_top, PassOk, EndOk}
use Rattle.annot_check.specs.Order.{first_lasts, after, passed, GoodPass, out_of, ClosedTable}
use Rattle.annot_check.proofs.Chained.Kept.{ltb_is, pass_some, end_some}
use Rattle.annot_check.proofs.Chained.Waves.{path_low, path_one, after_ok, Below, below_on}
use Rattle.ws_words.proofs.Bools.{and_left, and_right}
use Rattle.ws_isa.proofs.Steps.{first_le}

-- links that join
join_linked : (s p : Link) (x z : ℕ) → joined s p x z ≡ true → (s ≡ Is z) ⊎ (p ≡ Is x)
join_linked s p x z e = grind arith

join_succ : (s p : Link) (x z n : ℕ) → joined s p x z ≡ true → s ≡ Is n → z ≡ n
join_succ s p x z n e f = grind arith

join_pred : (s p : Link) (x z n : ℕ) → joined s p x z ≡ true → p ≡ Is n → x ≡ n
join_pred s p x z n e f = grind arith

join_ends : (s p : Link) (x z : ℕ) → joined s p x z ≡ true → s ≡ Nothing → ⊥
join_ends s p x z e f = grind arith

join_begins : (s p : Link) (x z : ℕ) → joined s p x z ≡ true → p ≡ Nothing → ⊥
join_begins s p x z e f = grind arith

module _ (image : Image) (known : ℕ → Option Lasts) (shape : ShapeRules image)
    (all : ClosedTable image known) where
  -- what is kept where a path stands
  pub record Stands (b k : ℕ) (done : List ℕ) : Type 0 where
    pub entry : Lasts
    pub has : known b ≡ Some entry
    pub left : ℕ
    pub ends : k + left ≡ first_number image (suc b)
    pub here : Lasts
    pub ok : LastsOk image b k here
    pub good : GoodPass image left k here
    pub out : passed image left k here ≡ out_of image b entry
    pub last : InLasts image here (last_op image done)
    pub below : Below image done here

  open_size : (b : ℕ) → first_number image b ≤ first_number image (suc b) →
      first_number image b + size_of image b ≡ first_number image (suc b)
  unfolding size_of
  open_size b l = omega arith

  rises : (b : ℕ) → first_number image b ≤ first_number image (suc b)
  rises b = first_le image b (suc b) (omega arith)

  begins : (b : ℕ) (done : List ℕ) (l : Lasts) → known b ≡ Some l → InLasts image l (last_op image done) →
      Below image done l → Stands b (first_number image b) done
  unfolding out_of
  begins b done l h i w = record {
    entry = l;
    has = h;
    left = size_of image b;
    ends = open_size b (rises b);
    here = l;
    ok = all.ok b l h;
    good = (all.done b l h).good;
    out = refl;
    last = i;
    below = w;
  }

  -- an instruction that a path is before
  pub record Here (b k : ℕ) (done : List ℕ) : Type 0 where
    pub entry : Lasts
    pub has : known b ≡ Some entry
    pub lasts : Lasts
    pub ok : LastsOk image b k lasts
    pub pass : is_memory image k ≡ true → PassOk lasts (note_of image k) (is_writing image k)
    pub last : InLasts image lasts (last_op image done)
    pub below : Below image done lasts

  last_on : (k : ℕ) (done : List ℕ) (l : Lasts) → 1 ≤ k → InLasts image l (last_op image done) →
      InLasts image (after image k l) (last_op image (k ∷ done))
  last_on k done l p i = go (cases_Bool (is_memory image k))
    where
      go : (is_memory image k ≡ true) ⊎ (is_memory image k ≡ false) →
          InLasts image (after image k l) (last_op image (k ∷ done))
      go (inl m) = rw m (is_top p refl)
      go (inr m) = rw m i

  on : (b k : ℕ) (done : List ℕ) → Stands b k done → k < first_number image (suc b) → 1 ≤ k → Here b k done ×
      Stands b (suc k) (k ∷ done)
  on b k done s w p = go s.left s.ends s.good s.out
    where
      go : (left : ℕ) → k + left ≡ first_number image (suc b) → GoodPass image left k s.here →
          passed image left k s.here ≡ out_of image b s.entry → Here b k done × Stands b (suc k) (k ∷ done)
      go zero e g o = absurd (omega (arith, e))
      go (suc n) e g o = (
        grind arith,
        record {
          entry = s.entry;
          has = s.has;
          left = n;
          ends = omega (arith, e);
          here = after image k s.here;
          ok = after_ok image b k s.here s.ok w;
          good = g.1;
          out = o;
          last = last_on k done s.here p s.last;
          below = below_on image k done s.here s.below;
        },
      )

  -- the end of a block
  pub record AtEnd (b : ℕ) (done : List ℕ) : Type 0 where
    pub entry : Lasts
    pub has : known b ≡ Some entry
    pub lasts : Lasts
    pub ok : LastsOk image b (first_number image (suc b)) lasts
    pub out : lasts ≡ out_of image b entry
    pub last : InLasts image lasts (last_op image done)
    pub below : Below image done lasts

  at_end : (b k : ℕ) (done : List ℕ) → Stands b k done → k ≡ first_number image (suc b) → AtEnd b done
  at_end b k done s e = go s.left s.ends s.out
    where
      go : (left : ℕ) → k + left ≡ first_number image (suc b) →
          passed image left k s.here ≡ out_of image b s.entry → AtEnd b done
      go zero f o = grind arith
      go (suc n) f o = absurd (omega (arith, f, e))

  pub stands : (b k : ℕ) (done : List ℕ) → InWave image b k done → Stands b k done
  stands b k done (first h f) = begins b [] first_lasts (all.first b h f) (at_start refl) (λ j a w. absurd a)
  stands b k done (turn {b = c} {k = l} {done = d} p w) =
      (on c l d (stands c l d p) w (path_one image c l d p)).1
  stands b k done (edge {b = c} {k = l} {done = d} p e s r f) = let a : AtEnd c d = at_end c l d (stands c l d
      p) e in grind (arith, begins)

  here : (k : ℕ) (last : Option ℕ) (f : ComesNext image last k) → Here f.block k f.done
  here k last f = grind (arith, on, stands, path_one)

  passes : (k : ℕ) (last : Option ℕ) (f : ComesNext image last k) →
      PassOk (here k last f).lasts (note_of image k) (is_writing image k)
  passes k last f = (here k last f).pass f.memory

  pair_agrees : (j k : ℕ) → ComesNext image (Some j) k → agrees (note_of image j) (note_of image k) ≡ true
  pair_agrees j k f = let h : Here f.block k f.done = here k (Some j) f in pass_some image f.block k j h.lasts
      (note_of image k) (is_writing image k) h.ok (grind arith) (h.pass f.memory)

  pair_joined : (j k : ℕ) → ComesNext image (Some j) k → joined (note_of image j).succ (note_of image k).pred
      (seq image j) (seq image k) ≡ true
  pair_joined j k f = grind (arith, and_right, pair_agrees j k f)

  starts_none : (l : Lasts) → InLasts image l None → l.none ≡ true
  starts_none l (at_start e) = e

  first_ok : (k : ℕ) → ComesNext image None k → (note_of image k).pred ≡ Nothing
  first_ok k f = let h : Here f.block k f.done = here k None f in grind (arith, starts_none)

  end_of : (last : Option ℕ) (e : PathEnds image last) → AtEnd e.block e.done
  end_of last e = at_end e.block e.next e.done (stands e.block e.next e.done e.path) e.at_end

  end_ok : (last : Option ℕ) (e : PathEnds image last) → EndOk (end_of last e).lasts
  end_ok last e = grind arith

  no_end : PathEnds image None → ⊥
  no_end e = let a : AtEnd e.block e.done = end_of None e in grind (arith, end_ok, starts_none)

  last_ok : (k : ℕ) → PathEnds image (Some k) → (note_of image k).succ ≡ Nothing
  last_ok k e = let a : AtEnd e.block e.done = end_of (Some k) e in end_some image e.block (first_number image
      (suc e.block)) k a.lasts a.ok (grind arith) (end_ok (Some k) e)

  is_in : (k : ℕ) (last : Option ℕ) (f : ComesNext image last k) → IsIn image f.block k
  is_in k last f = (path_low image f.block k f.done f.path, f.within)

  pub link_rules : LinkRules image
  link_rules = record {
    positive = λ k last f. (passes k last f).positive;
    differ = λ j k l m f g w e. all.apart f.block g.block j k (here j l f).entry (here k m g).entry
        (here j l f).has (here k m g).has (is_in j l f) (is_in k m g) f.memory g.memory w e;
    rise = λ j k f. ltb_is (seq image j) (seq image k) (and_left (ltb (seq image j) (seq image k))
        (joined (note_of image j).succ (note_of image k).pred (seq image j) (seq image k))
        (pair_agrees j k f));
    some_op = no_end;
    first_pred = first_ok;
    last_succ = last_ok;
    linked = λ j k f. join_linked (note_of image j).succ (note_of image k).pred (seq image j) (seq image k)
        (pair_joined j k f);
    succ_is = λ j k n e f. join_succ (note_of image j).succ (note_of image k).pred (seq image j)
        (seq image k) n (pair_joined j k f) e;
    succ_goes_on = λ j n e f. cc (sym e ∙ last_ok j f);
    succ_ends = λ j k e f. join_ends (note_of image j).succ (note_of image k).pred (seq image j) (seq image k)
        (pair_joined j k f) e;
    pred_is = λ j k n e f. join_pred (note_of image j).succ (note_of image k).pred (seq image j)
        (seq image k) n (pair_joined j k f) e;
    pred_is_some = λ k n e f. cc (sym e ∙ first_ok k f);
    pred_none = λ j k e f. join_begins (note_of image j).succ (note_of image k).pred (seq image j)
        (seq image k) (pair_joined j k f) e;
  }

  pub ripple_rules : RippleRules image
  ripple_rules = record {
    own = λ k last f w. (passes k last f).own w;
    above = λ b k j done path within m w a v. (let h : Here b k done = grind (arith, on, stands, path_one) in
        grind arith);
  }
