-- A block behind all that stand before it.
use Rattle.std.proofs.Common.{ℕ, zero, suc, ◌+◌, ◌-◌, ◌≡◌, ◌<◌, ◌≤◌, ◌⊎◌, true, false, List, ◌∷◌, length}
use Rattle.std.proofs.Common.{get_or, set, Option, Some, None, sym, ap, ◌∙◌, inl, inr, subst, arith}
use Rattle.std.proofs.lemmas.Bool.{cases_eq, cases_lt}
use Rattle.std.proofs.lemmas.List.{get_or-set_other, get_or-set_same}
use Rattle.ws_isa.specs.View as view
use Rattle.ws_isa.specs.Image.{Block, Image, no_block, block_at, first_number, target, is_first, IsIn}
use Rattle.ws_isa.specs.Image.{IsBlock}
use Rattle.ws_isa.specs.Formed.{Formed, WavesFrom, WavesInOrder}
use Rattle.ws_isa.specs.Sound.{LinkRules, RippleRules}
use Rattle.annot_check.specs.declared.lasts.Lasts.{Lasts}
use Rattle.annot_check.specs.declared.links.WaveLinks.{WaveLinks}
use Rattle.annot_check.specs.Order.{EdgePassed, BlockPassed, ClosedTable, EndOk, out_of, passed, GoodPass}
use Rattle.annot_check.specs.Order.{first_lasts}
use Rattle.annot_check.specs.Seen.{SeenOk, ApartBelow, OrderReady, OrderOk, EnteredOk, order_image, lasts_at}
use Rattle.annot_check.specs.Seen.{EndState, PassState, op_with}
use Rattle.annot_check.proofs.Chained.Waves.{first_ok}
use Rattle.annot_check.proofs.Chained.Leaving.{order_entered, edge_more}
use Rattle.annot_check.proofs.Chained.Order.{link_rules, ripple_rules}
use Rattle.ws_words.specs.Items.{nth, or_else}
use Rattle.ws_words.proofs.Options.{some_same}
use Rattle.ws_isa.proofs.Steps.{first_le}

-- waves

step_from : (w : ℕ) (bs : List Block) (k : ℕ) → WavesFrom w bs → suc k < length bs →
    ((or_else (nth bs (suc k)) no_block).wave ≡ (or_else (nth bs k) no_block).wave) ⊎
    ((or_else (nth bs (suc k)) no_block).wave ≡ suc (or_else (nth bs k) no_block).wave)
step_from w (x ∷ y ∷ bs) zero h l = h.1.0
step_from w (x ∷ bs) (suc k) h l = step_from x.wave bs k h.1 (omega arith)
step_from w bs k h l = grind arith

step_all : (bs : List Block) (k : ℕ) → WavesInOrder bs → suc k < length bs →
    ((or_else (nth bs (suc k)) no_block).wave ≡ (or_else (nth bs k) no_block).wave) ⊎
    ((or_else (nth bs (suc k)) no_block).wave ≡ suc (or_else (nth bs k) no_block).wave)
step_all (x ∷ y ∷ bs) zero h l = subst (λ (w : ℕ). (y.wave ≡ w) ⊎ (y.wave ≡ suc w)) (sym h.0) h.1.0
step_all (x ∷ bs) (suc k) h l = step_from 1 bs k h.1 (omega arith)
step_all bs k h l = grind arith

wave_step : (image : Image) (b : ℕ) → Formed image → 1 ≤ b → suc b ≤ length image.blocks →
    ((block_at image (suc b)).wave ≡ (block_at image b).wave) ⊎
    ((block_at image (suc b)).wave ≡ suc (block_at image b).wave)
unfolding block_at
wave_step image b f o l = grind (arith, step_all)

waves_rise : (image : Image) (b c : ℕ) → Formed image → 1 ≤ b → c ≤ length image.blocks → b ≤ c →
    (block_at image b).wave ≤ (block_at image c).wave
waves_rise image b zero f o l h = absurd (omega arith)
waves_rise image b (suc c) f o l h = go (λ k. waves_rise image b c f o (omega arith) k) (cases_eq b (suc c))
  where
    go : (b ≤ c → (block_at image b).wave ≤ (block_at image c).wave) → (b ≡ suc c) ⊎ (b ≡ suc c → ⊥) →
        (block_at image b).wave ≤ (block_at image (suc c)).wave
    go rec x = grind (arith, wave_step)

first_later : (image : Image) (n : ℕ) → is_first image (suc (suc n)) ≡ true →
    (block_at image (suc (suc n))).wave ≡ (block_at image (suc n)).wave → ⊥
unfolding is_first
first_later image n e f = grind arith

pub first_apart : (image : Image) (b c : ℕ) → Formed image → IsBlock image b → IsBlock image c → b < c →
    is_first image c ≡ true → (block_at image b).wave ≡ (block_at image c).wave → ⊥
first_apart image b c f hb hc l e w = let n : ℕ = c - 2 in let s : c ≡ suc (suc n) = omega (arith, hb.0) in
    grind (arith, first_later, waves_rise, wave_step)

inside_wave : (image : Image) (n : ℕ) → is_first image (suc (suc n)) ≡ false →
    (block_at image (suc (suc n))).wave ≡ (block_at image (suc n)).wave
unfolding is_first
inside_wave image n e = grind arith

pub next_wave : (image : Image) (b : ℕ) → 1 ≤ b → is_first image (b + 1) ≡ false →
    (block_at image (b + 1)).wave ≡ (block_at image b).wave
next_wave image b o e = let n : ℕ = b - 1 in let s : b + 1 ≡ suc (suc n) = omega arith in grind (
  arith,
  inside_wave,
)

-- an operation below a block's first number stands in an earlier block
pub earlier : (image : Image) (b c k : ℕ) → IsIn image b k → k < first_number image c → b < c
earlier image b c k i l = grind (arith, cases_lt, first_le)

-- a table that says the same of earlier blocks
apart_stays : (image : Image) (old new : ℕ → Option Lasts) (n : ℕ) → ((b : ℕ) → b < n → new b ≡ old b) →
    ApartBelow image old (first_number image n) → ApartBelow image new (first_number image n)
apart_stays image old new n s a b c j k l m hb hc ib ic lj lk = grind (
  arith,
  earlier image b n j ib lj,
  earlier image c n k ic lk,
)

seen_stays : (image : Image) (old new : ℕ → Option Lasts) (w n : ℕ) (seen : ℕ → Option ℕ) →
    ((b : ℕ) → b < n → new b ≡ old b) → SeenOk image old w (first_number image n) seen →
    SeenOk image new w (first_number image n) seen
seen_stays image old new w n seen s x = record {
  came = x.came;
  fewer = x.fewer;
  has = λ b k l h i lt m e. x.has b k l
      (sym (s b (earlier image b n k i lt)) ∙ h) i lt m e;
}

-- the first block of a wave is come into
pub enter_first : (old new : WaveLinks) (n : ℕ) → OrderOk old n → IsBlock (order_image old) n →
    is_first (order_image old) n ≡ true → new.image.now ≡ old.image.now → new.starts.now ≡ old.starts.now →
    new.table.items ≡ set old.table.items n (Some first_lasts) →
    ((s : ℕ) → op_with new.seen s ≡ None) → EnteredOk new n
enter_first old new n o h f i s t none = record {
  ready = order_entered old new n first_lasts o.ready i s t room h (first_ok (order_image old) n h f);
  first = λ b l k x. first_at b l (grind arith) (grind arith);
  done = λ b l k x. subst (λ (y : Image). BlockPassed y (lasts_at new.table.items) b l) forth (done_at b l k
      x);
  apart = subst (λ (y : Image). ApartBelow y (lasts_at new.table.items) (first_number y n)) forth (apart_stays
      (order_image old) (lasts_at old.table.items) (lasts_at new.table.items) n (λ b k. other b (λ e. absurd
      (omega (arith, e, k)))) o.apart);
  seen = record {
    came = λ s j e. absurd (cc (sym (none s) ∙ e));
    fewer = λ s j e. absurd (cc (sym (none s) ∙ e));
    has = λ b k l x inn lt m w. absurd (clash b k l x inn lt w);
  };
}
  where
    room : n < length old.table.items
    room = omega (arith, o.ready.table_size, h.1)

    forth : order_image old ≡ order_image new
    forth = sym (ap view.image i)

    other : (b : ℕ) → (b ≡ n → ⊥) → lasts_at new.table.items b ≡ lasts_at old.table.items b
    other b d = grind (arith, get_or-set_other)

    first_at : (b : ℕ) → b ≤ n → IsBlock (order_image old) b → is_first (order_image old) b ≡ true →
        lasts_at new.table.items b ≡ Some first_lasts
    first_at b l k x = elim (cases_eq b n) [
      | inl e ↦ grind (arith, get_or-set_same)
      | inr d ↦ other b d ∙ o.first b (omega arith) k x
    ]

    edge_at : (b r : ℕ) (l : Lasts) → is_first (order_image old) (target (order_image old) b r) ≡ false →
        EdgePassed (order_image old) (lasts_at old.table.items) b r l →
        EdgePassed (order_image old) (lasts_at new.table.items) b r l
    edge_at b r l x e = record {
      more = e.more;
      lands = other (target (order_image old) b r) (grind arith) ∙ e.lands;
      within = e.within;
    }

    done_at : (b : ℕ) (l : Lasts) → b < n → lasts_at new.table.items b ≡ Some l →
        BlockPassed (order_image old) (lasts_at new.table.items) b l
    done_at b l k x = let d : BlockPassed (order_image old) (lasts_at old.table.items) b l =
        o.done b l k (sym (other b (λ e. absurd (omega (arith, e, k)))) ∙ x) in
        record { good = d.good; edges = λ st r y. edge_at b r _ y (d.edges st r y); ends = d.ends }

    clash : (b k : ℕ) (l : Lasts) → lasts_at new.table.items b ≡ Some l → IsIn (order_image new) b k →
        k < first_number (order_image new) n → (block_at (order_image new) b).wave ≡
        (block_at (order_image new) n).wave → ⊥
    clash b k l x inn lt w = let e : b < n = earlier (order_image new) b n k inn lt in let y : IsBlock
        (order_image old) b = (o.ready.ok b l (sym (other b (grind arith)) ∙ x)).0 in first_apart (order_image
        old) b n o.ready.formed y h e f (grind arith)

-- a block that no path reaches
pub visit_none : (t : WaveLinks) (n : ℕ) → EnteredOk t n → IsBlock (order_image t) n →
    lasts_at t.table.items n ≡ None → OrderOk t (n + 1)
visit_none t n o h e = record {
  ready = o.ready;
  first = λ b l k x. o.first b (omega arith) k x;
  done = λ b l k x. o.done b l (below b l k x) x;
  apart = λ b c j k l m hb hc ib ic lj lk. o.apart b c j k l m hb hc ib ic (before b j l hb ib lj) (before c k
      m hc ic lk);
  seen = λ f. (let w : (block_at (order_image t) (n + 1)).wave ≡ (block_at (order_image t) n).wave = next_wave
      (order_image t) n h.0 f in record {
        came = grind arith;
        fewer = grind (arith, first_le);
        has = λ b k l x i lt m v. o.seen.has b k l x i (before b k l x i lt) m (v ∙ w);
      });
}
  where
    below : (b : ℕ) (l : Lasts) → b < n + 1 → lasts_at t.table.items b ≡ Some l → b < n
    below b l k x = grind arith

    before : (b k : ℕ) (l : Lasts) → lasts_at t.table.items b ≡ Some l → IsIn (order_image t) b k →
        k < first_number (order_image t) (n + 1) → k < first_number (order_image t) n
    before b k l x i lt = grind (arith, earlier, first_le)

-- a block that was passed and left
pub visit_some : (t u : WaveLinks) (n : ℕ) (start lasts : Lasts) → EnteredOk t n → IsBlock (order_image t) n →
    lasts_at t.table.items n ≡ Some start → PassState (order_image t) n start (op_with t.seen)
    (first_number (order_image t) (suc n)) lasts (op_with u.seen) →
    u.image.now ≡ t.image.now → OrderReady u → EndState (order_image t) (lasts_at t.table.items)
    (lasts_at u.table.items) n lasts → OrderOk u (n + 1)
visit_some t u n start lasts o h x p i ready e = record {
  ready = ready;
  first = grind arith;
  done = λ b l k y. subst (λ (z : Image). BlockPassed z (lasts_at u.table.items) b l) forth (done_at b l k
      (grind arith));
  apart = subst (λ (z : Image). ApartBelow z (lasts_at u.table.items) (first_number z (n + 1))) forth
      (apart_stays (order_image t) (lasts_at t.table.items) (lasts_at u.table.items) (n + 1) (grind arith)
      (subst (ApartBelow (order_image t) (lasts_at t.table.items)) one grown.1));
  seen = λ f. subst (λ (z : Image). SeenOk z (lasts_at u.table.items) (block_at z (n + 1)).wave (first_number
      z (n + 1)) (op_with u.seen)) forth (seen_stays (order_image t) (lasts_at t.table.items) (lasts_at
      u.table.items) (block_at (order_image t) (n + 1)).wave (n + 1) (op_with u.seen) (grind arith) (subst (λ
      (w : ℕ). SeenOk (order_image t) (lasts_at t.table.items) w (first_number (order_image t) (n + 1))
      (op_with u.seen)) (grind (arith, next_wave)) (subst (λ (m : ℕ). SeenOk (order_image t) (lasts_at
      t.table.items) (block_at (order_image t) n).wave m (op_with u.seen)) one grown.0)));
}
  where
    forth : order_image t ≡ order_image u
    forth = sym (ap view.image i)

    one : first_number (order_image t) (suc n) ≡ first_number (order_image t) (n + 1)
    one = ap (first_number (order_image t)) (omega arith)

    grown : SeenOk (order_image t) (lasts_at t.table.items) (block_at (order_image t) n).wave
        (first_number (order_image t) (suc n)) (op_with u.seen) ×
        ApartBelow (order_image t) (lasts_at t.table.items) (first_number (order_image t) (suc n))
    grown = p.grows (lasts_at t.table.items) start x o.seen o.apart

    nothing_left : (left : ℕ) → first_number (order_image t) (suc n) + left ≡ first_number (order_image t)
        (suc n) → left ≡ 0
    nothing_left left f = omega arith

    out_is : (left : ℕ) → left ≡ 0 → passed (order_image t) left (first_number (order_image t)
        (suc n)) lasts ≡ out_of (order_image t) n start → lasts ≡ out_of (order_image t) n start
    out_is left f g = grind arith

    out : lasts ≡ out_of (order_image t) n start
    out = out_is p.left (nothing_left p.left p.ends) p.kept

    good_of : (left : ℕ) → left ≡ 0 → GoodPass (order_image t) left (first_number (order_image t)
        (suc n)) lasts
    good_of left f = grind arith

    done_at : (b : ℕ) (l : Lasts) → b < n + 1 → lasts_at t.table.items b ≡ Some l →
        BlockPassed (order_image t) (lasts_at u.table.items) b l
    done_at b l k y = elim (cases_eq b n) [
      | inl g ↦ subst (λ (m : ℕ). BlockPassed (order_image t) (lasts_at u.table.items) m l) (sym g) (subst
          (BlockPassed (order_image t) (lasts_at u.table.items) n) (grind (arith, some_same)) (record {
            good = p.good (good_of p.left (nothing_left p.left p.ends));
            edges = λ st r f. subst (EdgePassed (order_image t) (lasts_at u.table.items) n r) out (e.edges st
                r f);
            ends = λ z. subst EndOk out (e.ends z);
          }))
      | inr d ↦ (let old_one : BlockPassed (order_image t) (lasts_at t.table.items) b l = o.done b l (omega
          arith) y in record {
            good = old_one.good;
            edges = λ st r f. edge_more (order_image t) (lasts_at t.table.items) (lasts_at u.table.items) b r
                (out_of (order_image t) b l) e.grows (old_one.edges st r f);
            ends = old_one.ends;
          })
    ]

-- all blocks are passed
pub order_rules : (t : WaveLinks) (n : ℕ) → OrderOk t n → n ≡ suc (length (order_image t).blocks) →
    LinkRules (order_image t) × RippleRules (order_image t)
order_rules t n o e = (
  link_rules (order_image t) (lasts_at t.table.items) o.ready.shape all,
  ripple_rules (order_image t) (lasts_at t.table.items) o.ready.shape all,
)
  where
    below : (b : ℕ) → IsBlock (order_image t) b → b < n
    below b h = omega (arith, h.1, e)

    all : ClosedTable (order_image t) (lasts_at t.table.items)
    all = record {
      first = grind arith;
      ok = λ b l h. (o.ready.ok b l h).1;
      done = λ b l h. o.done b l (below b (o.ready.ok b l h).0) h;
      apart = λ b c j k l m hb hc ib ic mj mk w s. o.apart b c j k l m hb hc ib ic (omega (
        arith,
        ib.1,
        first_le (order_image t) (suc b) n (below b (o.ready.ok b l hb).0),
      )) (omega (
        arith,
        ic.1,
        first_le (order_image t) (suc c) n (below c (o.ready.ok c m hc).0),
      )) mj mk w s;
    }

pub entry_read : (t : WaveLinks) (n : ℕ) (d r : Option Lasts) → EnteredOk t n → IsBlock (order_image t) n →
    r ≡ get_or t.table.items n d → lasts_at t.table.items n ≡ r
entry_read t n d r o h e = go t.table.items n (omega (arith, o.ready.table_size, h.1)) e
  where
    go : (xs : List (Option Lasts)) (n : ℕ) → n < length xs → r ≡ get_or xs n d → lasts_at xs n ≡ r
    go (x ∷ xs) (suc n) l e = go xs n (omega arith) e
    go xs n l e = grind arith
