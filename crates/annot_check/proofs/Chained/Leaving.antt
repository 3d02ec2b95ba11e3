-- The edges of a block, with what is kept at its end.
use Rattle.std.proofs.Common.{ℕ, suc, ◌+◌, ◌≡◌, ◌<◌, true, false, length, set, Option, Some, None, refl, sym}
use Rattle.std.proofs.Common.{ap, ◌∙◌, inl, inr, subst, arith, length-set}
use Rattle.std.proofs.lemmas.Bool.{cases_eq, cases_Bool}
use Rattle.std.proofs.lemmas.List.{get_or-set_other, get_or-set_same}
use Rattle.ws_isa.specs.declared.instr.Link.TheVariants.{Nothing}
use Rattle.ws_isa.specs.declared.instr.Note.{Note}
use Rattle.ws_isa.specs.Image.{Image, block_at, first_number, note_of, stops, is_stop, target, leave_to}
use Rattle.ws_isa.specs.Image.{is_first, IsBlock}
use Rattle.ws_isa.specs.View as view
use Rattle.ws_isa.specs.Sound.{edge, PathEnds, ShapeRules}
use Rattle.annot_check.specs.declared.fault.Bad.{Bad}
use Rattle.annot_check.specs.declared.fault.CheckFault.TheVariants.{Refused}
use Rattle.annot_check.specs.declared.lasts.Mark.{Mark}
use Rattle.annot_check.specs.declared.lasts.Lasts.{Lasts}
use Rattle.annot_check.specs.declared.links.WaveLinks.{WaveLinks}
use Rattle.annot_check.specs.LinkBreaches.{no_op, last}
use Rattle.annot_check.specs.Order.{ComesWith, ComesBy, MarkIs, LastsOk, Within, EndOk, EndBad, empty}
use Rattle.annot_check.specs.Order.{end_top, end_other, end_odd, EndsAt, EdgePassed}
use Rattle.annot_check.specs.Seen.{OrderBreach, OrderReady, order_image, lasts_at, Delivered, LeaveState}
use Rattle.annot_check.specs.Seen.{EndState}
use Rattle.ws_isa.specs.Formed.{Formed}
use Rattle.annot_check.specs.Table.{choices_of}
use Rattle.annot_check.proofs.Chained.Merging.{within_twice}
use Rattle.annot_check.proofs.Shaped.Edges.{same_edge, SameEdge}

same : {x y : Lasts} → Some x ≡ Some y → x ≡ y
same e = cc

-- one more entry
pub order_entered : (old new : WaveLinks) (n : ℕ) (l : Lasts) → OrderReady old → new.image.now ≡ old.image.now
    → new.starts.now ≡ old.starts.now → new.table.items ≡ set old.table.items n (Some l) → n < length
    old.table.items → IsBlock (order_image old) n → LastsOk (order_image old) n (first_number (order_image
    old) n) l → OrderReady new
order_entered old new n l r i s t w h k = let m : order_image old ≡ order_image new = sym (ap view.image i) in
    record {
      formed = subst Formed m r.formed;
      shape = subst ShapeRules m r.shape;
      starts_are = grind arith;
      table_size = ap length t ∙ (length-set old.table.items n (Some l) ∙ (grind arith));
      ok = λ b x f. subst (λ (y : Image). IsBlock y b × LastsOk y b (first_number y b) x) m (either b x (grind
          arith));
    }
  where
    either : (b : ℕ) (x : Lasts) → lasts_at (set old.table.items n (Some l)) b ≡ Some x →
        IsBlock (order_image old) b × LastsOk (order_image old) b (first_number (order_image old) b) x
    either b x f = elim (cases_eq b n) [
      | inl g ↦ grind (arith, same, get_or-set_same)
      | inr d ↦ r.ok b x (grind (arith, get_or-set_other))
    ]

-- a rule that the end of a wave breaks
ends_with : (image : Image) (b : ℕ) (x : Option ℕ) → EndsAt image b →
    ComesWith image b (first_number image (suc b)) x → PathEnds image x
ends_with image b x e c = grind arith

mark_ends : (image : Image) (m : Mark) → MarkIs image m → (m.note.succ ≡ Nothing → ⊥) →
    (note_of image m.op).succ ≡ Nothing → ⊥
mark_ends image m i n e = n (ap (λ (y : Note). y.succ) i ∙ e)

pub end_breach : (image : Image) (b : ℕ) (l : Lasts) (x : Bad) →
    LastsOk image b (first_number image (suc b)) l → EndsAt image b → EndBad l x →
    OrderBreach image (Refused x)
end_breach image b l x ok e (empty n) = no_op (ends_with image b None e (ok.none_comes n))
end_breach image b l x ok e (end_top p n) = last (ends_with image b (Some l.top.op) e (ok.top_comes p))
    (mark_ends image l.top ok.top_is n)
end_breach image b l x ok e (end_other p n) = last (ends_with image b (Some l.other.op) e (ok.other_comes p))
    (mark_ends image l.other ok.other_is n)
end_breach image b l x ok e (end_odd p n) = last (ends_with image b (Some l.odd.op) e (ok.odd_comes p))
    (mark_ends image l.odd ok.odd_is n)

-- along an edge
along : (image : Image) (b r : ℕ) (x : Option ℕ) → stops image b ≡ false →
    is_first image (target image b r) ≡ false → ComesWith image b (first_number image (suc b)) x →
    ComesWith image (target image b r) (first_number image (target image b r)) x
along image b r x s f c = record { done = c.done; path = edge c.path refl s r f; last_is = c.last_is }

pub edge_ok : (image : Image) (b r : ℕ) (l : Lasts) → stops image b ≡ false →
    is_first image (target image b r) ≡ false → LastsOk image b (first_number image (suc b)) l →
    LastsOk image (target image b r) (first_number image (target image b r)) l
edge_ok image b r l s f ok = record {
  comes = record { done = ok.comes.done; path = edge ok.comes.path refl s r f };
  top_is = ok.top_is;
  other_is = ok.other_is;
  odd_is = ok.odd_is;
  writer_is = ok.writer_is;
  none_comes = λ e. along image b r None s f (ok.none_comes e);
  top_comes = λ e. along image b r (Some l.top.op) s f (ok.top_comes e);
  other_comes = λ e. along image b r (Some l.other.op) s f (ok.other_comes e);
  odd_comes = λ e. along image b r (Some l.odd.op) s f (ok.odd_comes e);
  writer_comes = λ e. (let c : ComesBy image b (first_number image (suc b)) l.writer.op = ok.writer_comes e in
      record { done = c.done; path = edge c.path refl s r f; among = c.among; writes = c.writes });
  other_apart = ok.other_apart;
  odd_apart = ok.odd_apart;
}

pub edge_more : (image : Image) (old new : ℕ → Option Lasts) (b r : ℕ) (l : Lasts) →
    ((c : ℕ) (m : Lasts) → old c ≡ Some m → (n : Lasts) × (new c ≡ Some n) × Within image m n) →
    EdgePassed image old b r l → EdgePassed image new b r l
edge_more image old new b r l g e = grind arith

pub leave_init : (image : Image) (old : ℕ → Option Lasts) (b : ℕ) (l : Lasts) → LeaveState image old old b 0 l
leave_init image old b l = grind arith

pub leave_cross : (image : Image) (old mid new : ℕ → Option Lasts) (b r : ℕ) (l : Lasts) →
    LeaveState image old mid b r l → ((c : ℕ) → new c ≡ mid c) → is_first image (target image b r) ≡ true →
    EndOk l → LeaveState image old new b (r + 1) l
leave_cross image old mid new b r l s e f ok = grind arith

pub leave_inside : (image : Image) (old mid new : ℕ → Option Lasts) (b r : ℕ) (l : Lasts) → ShapeRules image →
    IsBlock image b → stops image b ≡ false → LeaveState image old mid b r l →
    is_first image (target image b r) ≡ false → Delivered image mid new (target image b r) l →
    LeaveState image old new b (r + 1) l
leave_inside image old mid new b r l shape h st s f d = record {
  same = λ c k. d.others c (λ e. absurd (omega (arith, ((shape.blocks b h).edges.later r st f).0, e))) ∙
      s.same c k;
  grows = λ c m k. (let g = s.grows c m k in let x = step c g.0 g.1 in grind (arith, within_twice));
  edges = λ q k x. elim (cases_eq q r) [
    | inl e ↦ grind arith
    | inr n ↦ edge_more image mid new b q l step (s.edges q (omega arith) x)
  ];
  ends = grind (arith, cases_eq);
}
  where
    step : (c : ℕ) (m : Lasts) → mid c ≡ Some m → (n : Lasts) × (new c ≡ Some n) × Within image m n
    step c m k = grind arith

target_like : (image : Image) (b r s : ℕ) → leave_to (block_at image b).exit r ≡ leave_to
    (block_at image b).exit s → target image b r ≡ target image b s
unfolding target
target_like image b r s e = e

stop_like : (image : Image) (b : ℕ) → stops image b ≡ false → is_stop (block_at image b).exit ≡ false
unfolding stops
stop_like image b e = e

-- all edges are followed when those at the first choices are
pub all_left : (image : Image) (old new : ℕ → Option Lasts) (b n : ℕ) (l : Lasts) → stops image b ≡ false →
    n ≡ choices_of (block_at image b).exit → LeaveState image old new b n l →
    ((r : ℕ) → is_first image (target image b r) ≡ false → EdgePassed image new b r l) ×
    ((r : ℕ) → is_first image (target image b r) ≡ true → EndOk l)
all_left image old new b n l st e s = (inside, outside)
  where
    like : (r : ℕ) → SameEdge (block_at image b).exit r
    like r = same_edge (block_at image b).exit r (stop_like image b st)

    to : (r : ℕ) → target image b r ≡ target image b (like r).choice
    to r = target_like image b r (like r).choice (like r).leads

    inside : (r : ℕ) → is_first image (target image b r) ≡ false → EdgePassed image new b r l
    inside r f = let x : EdgePassed image new b (like r).choice l =
        s.edges (like r).choice (omega (arith, (like r).below, e)) (ap (is_first image) (sym (to r)) ∙ f) in
        record { more = x.more; lands = ap new (to r) ∙ x.lands; within = x.within }

    outside : (r : ℕ) → is_first image (target image b r) ≡ true → EndOk l
    outside r f = s.ends (like r).choice (grind arith) (ap (is_first image) (sym (to r)) ∙ f)

pub end_goes : (image : Image) (old new : ℕ → Option Lasts) (b n : ℕ) (l : Lasts) → stops image b ≡ false →
    n ≡ choices_of (block_at image b).exit → LeaveState image old new b n l → EndState image old new b l
end_goes image old new b n l st e s = grind (arith, all_left, same)

pub end_stops : (image : Image) (old : ℕ → Option Lasts) (b : ℕ) (l : Lasts) → stops image b ≡ true →
    EndOk l → EndState image old old b l
end_stops image old b l st ok = grind arith

-- one more edge, of which it is known whether it crosses
pub leave_next : (image : Image) (old mid new : ℕ → Option Lasts) (b r : ℕ) (l : Lasts) → ShapeRules image →
    IsBlock image b → stops image b ≡ false → LeaveState image old mid b r l →
    (is_first image (target image b r) ≡ true → ((c : ℕ) → new c ≡ mid c) × EndOk l) →
    (is_first image (target image b r) ≡ false → Delivered image mid new (target image b r) l) →
    LeaveState image old new b (r + 1) l
leave_next image old mid new b r l shape h st s crosses inside = grind (
  arith,
  cases_Bool,
  leave_cross,
  leave_inside,
)
