-- What is kept of more paths.
use Rattle.std.proofs.Common.{ℕ, ◌≡◌, ◌<◌, ◌≤◌, ◌⊎◌, true, ◌||◌, cond, ltb, Option, Some, None, sym, ap, ◌∙◌}
use Rattle.std.proofs.Common.{inl, inr, arith}
use Rattle.std.proofs.lemmas.Bool.{cases_eq, cases_lt, lt-ltb, le-ltb}
use Rattle.ws_isa.specs.declared.instr.Note.{Note}
use Rattle.ws_isa.specs.Image.{Image, block_at, note_of}
use Rattle.ws_isa.specs.Sound.{ShapeRules, seq}
use Rattle.annot_check.specs.declared.fault.Bad.TheVariants.{Link}
use Rattle.annot_check.specs.declared.fault.CheckFault.TheVariants.{Refused}
use Rattle.annot_check.specs.declared.lasts.Mark.{Mark}
use Rattle.annot_check.specs.declared.lasts.Lasts.{Lasts}
use Rattle.annot_check.specs.LinkBreaches.{twice}
use Rattle.annot_check.specs.Seen.{OrderBreach}
use Rattle.annot_check.specs.Order.{ComesWith, MarkIs, LastsOk, InLasts, at_start, is_top, is_less, Within}
use Rattle.annot_check.specs.Order.{added, joint, Merged}
use Rattle.annot_check.proofs.Chained.Kept.{Added, added_is}
use Rattle.annot_check.proofs.Chained.Waves.{last_came, CameIn}
use Rattle.ws_words.proofs.Bools.{or_comes, or_left, or_right}

pub within_twice : (image : Image) (a b c : Lasts) → Within image a b → Within image b c → Within image a c
within_twice image a b c f g = grind arith

joint_ok : (image : Image) (b k : ℕ) (l m : Lasts) → LastsOk image b k l → LastsOk image b k m →
    LastsOk image b k (joint l m)
joint_ok image b k l m p q = go (cases_lt l.writer.note.seq m.writer.note.seq)
  where
    none_comes : (l.none || m.none) ≡ true → ComesWith image b k None
    none_comes e = elim (or_comes l.none m.none e) [ inl f ↦ p.none_comes f | inr f ↦ q.none_comes f ]

    go : (l.writer.note.seq < m.writer.note.seq) ⊎ (m.writer.note.seq ≤ l.writer.note.seq) →
        LastsOk image b k (joint l m)
    go (inl lt) = rw (lt-ltb l.writer.note.seq m.writer.note.seq lt) (record {
      comes = p.comes;
      top_is = p.top_is;
      other_is = p.other_is;
      odd_is = p.odd_is;
      writer_is = q.writer_is;
      none_comes = none_comes;
      top_comes = p.top_comes;
      other_comes = p.other_comes;
      odd_comes = p.odd_comes;
      writer_comes = q.writer_comes;
      other_apart = p.other_apart;
      odd_apart = p.odd_apart;
    })
    go (inr le) = rw (le-ltb l.writer.note.seq m.writer.note.seq le) (record {
      comes = p.comes;
      top_is = p.top_is;
      other_is = p.other_is;
      odd_is = p.odd_is;
      writer_is = p.writer_is;
      none_comes = none_comes;
      top_comes = p.top_comes;
      other_comes = p.other_comes;
      odd_comes = p.odd_comes;
      writer_comes = p.writer_comes;
      other_apart = p.other_apart;
      odd_apart = p.odd_apart;
    })

joint_writers : (l m : Lasts) → (l.writer.note.seq ≤ (joint l m).writer.note.seq) ×
    (m.writer.note.seq ≤ (joint l m).writer.note.seq)
joint_writers l m = grind arith

joint_keeps : (image : Image) (l m : Lasts) (x : Option ℕ) → InLasts image l x → InLasts image (joint l m) x
joint_keeps image l m None (at_start e) = at_start (or_left l.none m.none e)
joint_keeps image l m (Some n) (is_top p e) = is_top p e
joint_keeps image l m (Some n) (is_less p s h) = is_less p s h

-- after one more operation, if there is one
pub record Grown (image : Image) (b k : ℕ) (l : Lasts) (x : Mark) (m : Lasts) : Type 0 where
  pub ok : LastsOk image b k m
  pub keeps : (z : Option ℕ) → InLasts image l z → InLasts image m z
  pub has : 1 ≤ x.op → InLasts image m (Some x.op)
  pub writer : m.writer ≡ l.writer

abbrev pub AddsTo : Lasts → Mark → Lasts → Type 0
AddsTo l x m = ((1 ≤ x.op → m ≡ added l x) × (x.op ≡ 0 → m ≡ l)) × (1 ≤ x.op → 1 ≤ l.top.op →
    (x.op ≡ l.top.op → ⊥) → x.note.seq ≡ l.top.note.seq → ⊥)

grown : (image : Image) (b k : ℕ) (l : Lasts) (x : Mark) (m : Lasts) → LastsOk image b k l → MarkIs image x →
    (1 ≤ x.op → ComesWith image b k (Some x.op)) → AddsTo l x m → Grown image b k l x m
grown image b k l x m ok xi xc h = go (cases_eq x.op 0)
  where
    go : (x.op ≡ 0) ⊎ (x.op ≡ 0 → ⊥) → Grown image b k l x m
    go (inl e) = grind arith
    go (inr n) = let p : 1 ≤ x.op = omega arith in let a : Added image b k l x (added l x) = added_is image b
        k l x ok xi p (xc p) (h.1 p) in grind arith

-- what is kept of all that stands for the others is kept of the others
by_marks : (image : Image) (b k : ℕ) (l r : Lasts) → LastsOk image b k l → LastsOk image b k r →
    (l.none ≡ true → r.none ≡ true) → (1 ≤ l.top.op → InLasts image r (Some l.top.op)) →
    (1 ≤ l.other.op → InLasts image r (Some l.other.op)) →
    (1 ≤ l.odd.op → InLasts image r (Some l.odd.op)) → (x : Option ℕ) → InLasts image l x → InLasts image r x
by_marks image b k l r lo ro none top other odd None (at_start e) = at_start (none e)
by_marks image b k l r lo ro none top other odd (Some m) (is_top p e) = grind arith
by_marks image b k l r lo ro none top other odd (Some m) (is_less p s h) = both (top t) (other p)
  where
    t : 1 ≤ l.top.op
    t = (lo.other_apart p).0

    succ_of : (n : Mark) → MarkIs image n → InLasts image r (Some n.op) → (n.note.succ ≡ r.top.note.succ) ⊎
        (1 ≤ r.odd.op)
    succ_of n i (is_top q e) = inl (ap (λ (y : Note). y.succ) (i ∙ (ap (note_of image) e ∙ sym ro.top_is)))
    succ_of n i (is_less q e f) = elim f [ inl g ↦ inl (ap (λ (y : Note). y.succ) i ∙ g) | inr g ↦ inr g ]

    seq_of : InLasts image r (Some l.top.op) → l.top.note.seq ≤ r.top.note.seq
    seq_of (is_top q e) = grind arith
    seq_of (is_less q e f) = omega (arith, e, ap (λ (y : Note). y.seq) lo.top_is)

    odd_of : 1 ≤ l.odd.op → InLasts image r (Some l.top.op) → 1 ≤ r.odd.op
    odd_of o i = go (succ_of l.top lo.top_is i) (succ_of l.odd lo.odd_is (odd o))
      where
        go : (l.top.note.succ ≡ r.top.note.succ) ⊎ (1 ≤ r.odd.op) → (l.odd.note.succ ≡ r.top.note.succ) ⊎
            (1 ≤ r.odd.op) → 1 ≤ r.odd.op
        go x y = grind arith

    succ_is : InLasts image r (Some l.top.op) → ((note_of image m).succ ≡ r.top.note.succ) ⊎ (1 ≤ r.odd.op)
    succ_is i = elim h [
      | inl e ↦ elim (succ_of l.top lo.top_is i) [ inl g ↦ inl (e ∙ g) | inr g ↦ inr g ]
      | inr o ↦ inr (odd_of o i)
    ]

    less : 1 ≤ r.other.op → InLasts image r (Some l.top.op) → InLasts image r (Some m)
    less q i = is_less q (omega (arith, s, seq_of i)) (succ_is i)

    both : InLasts image r (Some l.top.op) → InLasts image r (Some l.other.op) → InLasts image r (Some m)
    both (is_less q e f) y = less q (is_less q e f)
    both (is_top q e) (is_less u f g) = less u (is_top q e)
    both (is_top q e) (is_top u f) = grind arith

pub merged : (image : Image) (b k : ℕ) (l m x y z : Lasts) → LastsOk image b k l → LastsOk image b k m →
    AddsTo (joint l m) m.top x → AddsTo x m.other y → AddsTo y m.odd z → Merged image b k l m z
merged image b k l m x y z lo mo ax ay az = let j : LastsOk image b k (joint l m) = joint_ok image b k l m lo
    mo in let gx : Grown image b k (joint l m) m.top x = grown image b k (joint l m) m.top x j mo.top_is
    mo.top_comes ax in let gy : Grown image b k x m.other y = grown image b k x m.other y gx.ok mo.other_is
    mo.other_comes ay in let gz : Grown image b k y m.odd z = grown image b k y m.odd z gy.ok mo.odd_is
    mo.odd_comes az in let w : z.writer ≡ (joint l m).writer = grind arith in let ws = joint_writers l m in
    let keeps : (v : Option ℕ) → InLasts image (joint l m) v → InLasts image z v = grind arith in record {
      ok = gz.ok;
      left = grind (arith, joint_keeps);
      right = record {
        lasts = by_marks image b k m z mo gz.ok (λ e. start_of z (keeps None (at_start (or_right l.none m.none
            e)))) (grind arith) (grind arith) gz.has;
        writers = omega (arith, ws.1, ap (λ (n : Mark). n.note.seq) w);
      };
    }
  where
    start_of : (r : Lasts) → InLasts image r None → r.none ≡ true
    start_of r (at_start e) = e

-- two operations that may have been last have one number
pub same_number : (image : Image) (b k : ℕ) (l : Lasts) (x : Mark) → ShapeRules image → LastsOk image b k l →
    MarkIs image x → ComesWith image b k (Some x.op) → 1 ≤ l.top.op → (x.op ≡ l.top.op → ⊥) →
    x.note.seq ≡ l.top.note.seq →
    OrderBreach image (Refused (cond (ltb l.top.op x.op) (Link l.top.op x.op) (Link x.op l.top.op)))
same_number image b k l x s ok xi xc t n e = go (cases_lt l.top.op x.op) (cases_lt x.op l.top.op)
  where
    tc : ComesWith image b k (Some l.top.op)
    tc = ok.top_comes t

    f : CameIn image (block_at image b).wave l.top.op
    f = last_came image b k tc.done l.top.op s tc.path tc.last_is

    g : CameIn image (block_at image b).wave x.op
    g = last_came image b k xc.done x.op s xc.path xc.last_is

    one : seq image l.top.op ≡ seq image x.op
    one = ap (λ (y : Note). y.seq) (sym ok.top_is) ∙ (sym e ∙ ap (λ (y : Note). y.seq) xi)

    go : (l.top.op < x.op) ⊎ (x.op ≤ l.top.op) → (x.op < l.top.op) ⊎ (l.top.op ≤ x.op) →
        OrderBreach image (Refused (cond (ltb l.top.op x.op) (Link l.top.op x.op) (Link x.op l.top.op)))
    go (inl lt) y = rw (lt-ltb l.top.op x.op lt) (twice f.follows g.follows (f.wave ∙ sym g.wave) one lt)
    go (inr le) (inl lt) = rw (le-ltb l.top.op x.op le) (twice g.follows f.follows (g.wave ∙
        sym f.wave) (sym one) lt)
    go (inr le) (inr ge) = absurd (n (omega (arith, le, ge)))

pub grown_ok : (image : Image) (b k : ℕ) (l m x : Lasts) → LastsOk image b k l → LastsOk image b k m →
    AddsTo (joint l m) m.top x → LastsOk image b k x
grown_ok image b k l m x lo mo a = (grown image b k (joint l m) m.top x
    (joint_ok image b k l m lo mo) mo.top_is mo.top_comes a).ok

pub grown_other : (image : Image) (b k : ℕ) (x m y : Lasts) → LastsOk image b k x → LastsOk image b k m →
    AddsTo x m.other y → LastsOk image b k y
grown_other image b k x m y xo mo a = (grown image b k x m.other y xo mo.other_is mo.other_comes a).ok

pub joint_is_ok : (image : Image) (b k : ℕ) (l m : Lasts) → LastsOk image b k l → LastsOk image b k m →
    LastsOk image b k (joint l m)
joint_is_ok = joint_ok
