-- In a buffer of a run none may go where none was found: the one that is next has the smallest number.
use Rattle.std.proofs.Common.{ℕ, ◌≡◌, ◌≤◌, ◌<◌, Bool, true, false, List, length, Option, Some, None}
use Rattle.std.proofs.Common.{refl, sym, ◌∙◌, inl, inr, arith}
use Rattle.std.specs.Prelude.{MatchOption, IfSome}
use Rattle.std.proofs.lemmas.Bool.{and_parts, both_ways}
use Rattle.ws_words.specs.Outside.{World}
use Rattle.ws_isa.specs.Image.{Image, instr_at, is_load, note_of}
use Rattle.ws_isa.specs.Formed.{Formed}
use Rattle.ws_isa.specs.Sound.{Sound}
use Rattle.df_core.specs.Core.{IsNext}
use Rattle.df_core.specs.Fit.{Legal, RightRequest}
use Rattle.df_core.specs.Began.{Began}
use Rattle.df_core.specs.Chains.{chain_of}
use Rattle.df_core.proofs.Telling.Firsts as L
use Rattle.store_buf.specs.declared.kept.Kept.{Kept}
use Rattle.store_buf.specs.Finding.{place_in}
use Rattle.store_buf.specs.Ordering.{kept_at, WaitsHere, GoesEarly, IsForemost, MayAt, NoneEarly, number_of}
use Rattle.store_buf.specs.Ordering.{ready_flag, ripple_of}
use Rattle.store_buf.specs.declared.order.Order.{Order}
use Rattle.part_store.specs.declared.parts.Parts.{Parts}
use Rattle.part_store.specs.Bares.{is_in}
use Rattle.part_store.specs.Contents.{asking}
use Rattle.part_store.specs.Parted.{IsAddressed, Parting, is_store_op}
use Rattle.part_store.specs.Rules.{Waits, is_past_at, operands_at}
use Rattle.part_store.specs.Parts.{PartsOk, PartsFiled, PartsStand, NoneGo, NoneGoSo, NoneSought, GoesAt}
use Rattle.part_store.specs.Parts.{content_of, go_flag, rule_flag}
use Rattle.part_store.proofs.Moving.Keeping as K
use Rattle.part_store.proofs.Queueing.Ops as O
use Rattle.part_store.proofs.Queueing.Standing as S
use Rattle.part_store.proofs.Queueing.Times as T
use Rattle.part_store.proofs.Moving.Turning as U

module _ {P : Type 0} (image : Image) (world : World) (formed : Formed image) (sound : Sound image)
    (began : List (Option Began)) (s : Parts P) (ok : PartsOk s) (stand : PartsStand image world began s)
    (going : s.fault ≡ None) where
  parting : Parting image world began (content_of s)
  parting = stand.parting

  legal : Legal image world parting.counts (asking image (content_of s)) false
      (chain_of s.order.chain) parting.memory
  legal = K.legal image world formed sound began (content_of s) parting going

  -- the operands of the walk
  record Ask (q : ℕ) : Type 0 where
    xs : List ℕ
    req : RightRequest image world (kept_at s.order q).wave (kept_at s.order q).instr xs

  module _ (q : ℕ) (here : WaitsHere s.order q) where
    waits : (b : Bool) → is_in s.bare (kept_at s.order q).wave (kept_at s.order q).instr ≡ b →
        Waits (content_of s) (kept_at s.order q) b
    waits b e = grind (arith, U.found)

    fresh : parting.counts (kept_at s.order q).wave (kept_at s.order q).instr ≡ None
    fresh = grind (arith, O.no_more, U.found)

    ask : (b : Bool) → is_in s.bare (kept_at s.order q).wave (kept_at s.order q).instr ≡ b → Ask q
    ask false e = record {
      xs = operands_at image (kept_at s.order q);
      req = K.right_of _ _ formed sound _ _ parting _ (waits _ e);
    }
    ask true e =
        let ad : IsAddressed image world (kept_at s.order q).wave (kept_at s.order q).instr
        (kept_at s.order q).first = S.bare_kept _ _ _ _ e (parting.partly.right (kept_at s.order q).wave
        (kept_at s.order q).instr (kept_at s.order q) (U.found image s.order q here.within)) in
        record {
          xs = ad.inst.operands;
          req = record {
            time = ad.time;
            inst = ad.inst;
            at = ad.at;
            operands = refl;
            memory = T.row_memory _ _ _ (O.store_row _ _ ad.store);
          };
        }

    asked : Ask q
    asked = ask (is_in s.bare (kept_at s.order q).wave (kept_at s.order q).instr) refl

  -- one that is next and one whose number isn't greater are the same
  same_place : (p q : ℕ) → WaitsHere s.order p → WaitsHere s.order q →
      IsNext (chain_of s.order.chain) (note_of image (kept_at s.order p).instr) →
      number_of image (kept_at s.order q) ≤ number_of image (kept_at s.order p) → p ≡ q
  same_place p q here there next least =
      let x = asked _ here in
      let y = asked _ there in
      let most : number_of image (kept_at s.order p) ≤ number_of image (kept_at s.order q) = L.next_first _ _
      formed sound legal _ _ _ _ _ _ x.req y.req (fresh _ there) here.current there.current next in
      let wave : (kept_at s.order p).wave ≡ (kept_at s.order q).wave = here.current ∙ sym there.current in
      let instr : (kept_at s.order p).instr ≡ (kept_at s.order q).instr = L.same_op _ _ formed sound _ _ _ _ _
      _ x.req y.req wave (omega (arith, least, most)) in
      let e : Some p ≡ Some q = sym (s.order.ok.index p here.within)
      ∙ (λ j. place_in s.order.kept.items s.order.index (wave j) (instr j))
      ∙ s.order.ok.index q there.within in
      cc

  module _ (none : NoneSought image s) (p : ℕ) (l : p < length s.order.kept.items)
      (goes : go_flag image s (kept_at s.order p) ≡ true) where
    ready : ready_flag image s.order (kept_at s.order p) ≡ true
    ready = grind (arith, and_parts)

    here : WaitsHere s.order p
    here = grind (arith, U.waits, ready, waits)

    ripple_is : is_load image (kept_at s.order p).instr ≡ true → is_past_at image (kept_at s.order p) ≡ false
        → ripple_of image (kept_at s.order p) ≡ Some ((note_of image (kept_at s.order p).instr).ripple)
    unfolding is_load
    ripple_is load within = grind arith

    contrary : ⊥
    contrary = elim (U.turn image s.order p l ready) [
      | inl next ↦ (let f = none.first p here in
          both_ways (go_flag image s (kept_at s.order f.0)) f.2
          (rw (← same_place p f.0 here f.1.here next (f.1.least p here)) goes))
      | inr e ↦ none.early p (record {
        here = here;
        ripple = (note_of image (kept_at s.order p).instr).ripple;
        is = ripple_is e.0 e.1;
        passed = e.2;
      })
    ]

  none_goes : NoneSought image s → NoneGo image s
  none_goes none p l = go _ refl
    where
      go : (b : Bool) → go_flag image s (kept_at s.order p) ≡ b → go_flag image s (kept_at s.order p) ≡ false
      go false e = e
      go true e = absurd (contrary none p l e)

pub none_so : {P : Type 0} (image : Image) (s : Parts P) → PartsOk s → s.fault ≡ None → NoneSought image s →
    NoneGoSo image s
none_so image s ok going none world began formed sound stand =
    none_goes image world formed sound began s ok stand going none

-- the rules let a load go before its turn
pub early_rule : {P : Type 0} (image : Image) (s : Parts P) → PartsFiled image s → (p : ℕ) →
    GoesEarly image s.order p → rule_flag image s (kept_at s.order p) ≡ true
early_rule image s filed p early = grind arith

-- a first one that may not go is so wherever what waits is found
pub first_on : {P : Type 0} (image : Image) (s : Parts P) (o : Order) → o ≡ record s.order { near = o.near } →
    (q : ℕ) → IsForemost image s.order q → go_flag image s (kept_at s.order q) ≡ false →
    (p : ℕ) → WaitsHere o p → (x : ℕ) × IsForemost image o x
    × (go_flag image (record s { order = o }) (kept_at o x) ≡ false)
first_on image s o same q is held = rw same (λ p h. (
  q,
  record {
    here = record { within = is.here.within; current = is.here.current; waits = is.here.waits };
    least = λ z w. is.least z (record { within = w.within; current = w.current; waits = w.waits });
  },
  held,
))

pub sought_early : {P : Type 0} (image : Image) (s : Parts P) (r : Option ℕ) → PartsFiled image s →
    MatchOption r (NoneEarly image s.order) (GoesEarly image s.order) → IfSome r (MayAt image s.order) →
    ((p : ℕ) → WaitsHere s.order p → (q : ℕ) × IsForemost image s.order q
    × (go_flag image s (kept_at s.order q) ≡ false)) → MatchOption r (NoneSought image s) (GoesAt image s)
sought_early image s r filed early may first = grind (arith, early_rule)

-- an address that gets its data is as it was, but for what it stores
pub refilled : (image : Image) (k x : Kept) → is_store_op (instr_at image x.instr).op ≡ true →
    k.instr ≡ x.instr → ripple_of image k ≡ ripple_of image x
refilled image k x store same = grind arith
