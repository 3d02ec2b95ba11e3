-- Paths inside waves, and what a closed table says of them.
use Rattle.std.proofs.Common.{ℕ, suc, ◌≡◌, ◌<◌, ◌≤◌, ◌⊎◌, Bool, true, false, cond, ◌&&◌, List, [], ◌∷◌}
use Rattle.std.proofs.Common.{Option, Some, refl, inl, inr, subst, arith, ltb}
use Rattle.std.proofs.lemmas.Bool.{cases_Bool, cases_lt, lt-ltb, le-ltb}
use Rattle.ws_isa.specs.Image.{Image, block_at, first_number, is_memory, is_writing, is_first, IsBlock}
use Rattle.ws_isa.specs.Sound.{InWave, first, turn, edge, last_op, ComesNext, seq, wave_at, ShapeRules}
use Rattle.annot_check.specs.declared.lasts.Lasts.{Lasts}
use Rattle.annot_check.specs.Order.{Comes, ComesWith, ComesBy, LastsOk, first_lasts, mark_at, after}
use Rattle.annot_check.proofs.Chained.Kept.{ltb_is, blank_is}
use Rattle.ws_words.proofs.Bools.{and_left, and_right}
use Rattle.ws_isa.proofs.Images.{writing_memory}
use Rattle.ws_words.specs.Items.{In}
use Rattle.ws_words.proofs.Options.{some_same}
use Rattle.ws_isa.proofs.Steps.{first_zero, first_le}

-- a path stands within its block
pub path_low : (image : Image) (b k : ℕ) (done : List ℕ) → InWave image b k done → first_number image b ≤ k
path_low image b k done (turn {b = c} {k = l} {done = d} p w) = omega (arith, path_low image c l d p)
path_low image b k done x = omega arith

pub path_one : (image : Image) (b k : ℕ) (done : List ℕ) → InWave image b k done → 1 ≤ k
path_one image b k done p = grind (
  arith,
  path_low image b k done p,
  first_le image 0 b (omega arith),
  first_zero image,
)

pub path_block : (image : Image) (b k : ℕ) (done : List ℕ) → ShapeRules image → InWave image b k done →
    IsBlock image b
path_block image b k done s (first h f) = h
path_block image b k done s (turn {b = c} {k = l} {done = d} p w) = path_block image c l d s p
path_block image b k done s (edge {b = c} {k = l} {done = d} p e t r f) =
    (s.blocks c (path_block image c l d s p)).edges.there r t

-- the last operation of a path came on a path of the same wave
pub record CameIn (image : Image) (w x : ℕ) : Type 0 where
  pub last : Option ℕ
  pub follows : ComesNext image last x
  pub wave : wave_at follows ≡ w

pub last_came : (image : Image) (b k : ℕ) (done : List ℕ) (x : ℕ) → ShapeRules image → InWave image b k done →
    last_op image done ≡ Some x → CameIn image (block_at image b).wave x
last_came image b k done x s (first h f) e = absurd (cc)
last_came image b k done x s (turn {b = c} {k = l} {done = d} p w) e =
    go (λ f. last_came image c l d x s p f) (cases_Bool (is_memory image l))
  where
    go : (last_op image d ≡ Some x → CameIn image (block_at image c).wave x) → (is_memory image l ≡ true) ⊎
        (is_memory image l ≡ false) → CameIn image (block_at image c).wave x
    go rec (inl m) = subst (CameIn image (block_at image c).wave) (some_same (rw m at e)) (record {
      last = last_op image d;
      follows = grind arith;
      wave = refl;
    })
    go rec (inr m) = rec (rw m at e)
last_came image b k done x s (edge {b = c} {k = l} {done = d} p e t r f) h = grind (
  arith,
  path_block,
  last_came image c l d x s p h,
)

comes_on : (image : Image) (b k : ℕ) → k < first_number image (suc b) → Comes image b k →
    Comes image b (suc k)
comes_on image b k w c = record { done = k ∷ c.done; path = turn c.path w }

comes_past : (image : Image) (b k : ℕ) (x : Option ℕ) → k < first_number image (suc b) →
    is_memory image k ≡ false → ComesWith image b k x → ComesWith image b (suc k) x
comes_past image b k x w m c = record { done = k ∷ c.done; path = turn c.path w; last_is = rw m c.last_is }

comes_by_on : (image : Image) (b k j : ℕ) → k < first_number image (suc b) → ComesBy image b k j →
    ComesBy image b (suc k) j
comes_by_on image b k j w c = record {
  done = k ∷ c.done;
  path = turn c.path w;
  among = inr c.among;
  writes = c.writes;
}

pub after_ok : (image : Image) (b k : ℕ) (l : Lasts) → LastsOk image b k l → k < first_number image (suc b) →
    LastsOk image b (suc k) (after image k l)
after_ok image b k l ok w = go (cases_Bool (is_memory image k))
  where
    writer_comes : (v : Bool) → (is_writing image k && ltb l.writer.note.seq (seq image k)) ≡ v →
        1 ≤ (cond v (mark_at image k) l.writer).op → ComesBy image b (suc k)
        (cond v (mark_at image k) l.writer).op
    writer_comes true e h = record {
      done = k ∷ ok.comes.done;
      path = turn ok.comes.path w;
      among = inl refl;
      writes = and_left (is_writing image k) (ltb l.writer.note.seq (seq image k)) e;
    }
    writer_comes false e h = comes_by_on image b k l.writer.op w (ok.writer_comes h)

    go : (is_memory image k ≡ true) ⊎ (is_memory image k ≡ false) → LastsOk image b (suc k) (after image k l)
    go (inr m) = grind (arith, comes_on, comes_past, comes_by_on)
    go (inl m) = rw m (record {
      comes = comes_on image b k w ok.comes;
      top_is = refl;
      other_is = blank_is image;
      odd_is = blank_is image;
      writer_is = grind arith;
      none_comes = λ h. absurd (cc);
      top_comes = λ h. record { done = k ∷ ok.comes.done; path = turn ok.comes.path w; last_is = rw m refl };
      other_comes = grind arith;
      odd_comes = grind arith;
      writer_comes = writer_comes (is_writing image k && ltb l.writer.note.seq (seq image k)) refl;
      other_apart = grind arith;
      odd_apart = grind arith;
    })

-- the writing operations on a path are at most the one that is kept
abbrev pub Below : Image → List ℕ → Lasts → Type 0
Below image done l = (j : ℕ) → In j done → is_writing image j ≡ true → seq image j ≤ l.writer.note.seq

pub below_on : (image : Image) (k : ℕ) (done : List ℕ) (l : Lasts) → Below image done l →
    Below image (k ∷ done) (after image k l)
below_on image k done l below j a w = grind (
  arith,
  cases_Bool,
  ltb_is,
  and_right,
  cases_lt,
  lt-ltb,
  le-ltb,
  writing_memory,
)

pub first_ok : (image : Image) (b : ℕ) → IsBlock image b → is_first image b ≡ true →
    LastsOk image b (first_number image b) first_lasts
first_ok image b h f = record {
  comes = record { done = []; path = first h f };
  top_is = blank_is image;
  other_is = blank_is image;
  odd_is = blank_is image;
  writer_is = blank_is image;
  none_comes = λ e. record { done = []; path = first h f; last_is = refl };
  top_comes = grind arith;
  other_comes = grind arith;
  odd_comes = grind arith;
  writer_comes = grind arith;
  other_apart = grind arith;
  odd_apart = grind arith;
}
