-- In a buffer of a run none may be issued where none was found: the one that is next has the smallest number.
use Rattle.std.proofs.Common.{ℕ, ◌≡◌, ◌≤◌, ◌<◌, Bool, true, false, List, [], ◌∷◌, Option, Some, None, length}
use Rattle.std.proofs.Common.{refl, sym, ap, ◌∙◌, subst, inl, inr, arith}
use Rattle.std.specs.Prelude.{is_some}
use Rattle.std.proofs.lemmas.Bool.{and_from, both_ways}
use Rattle.ws_words.specs.Outside.{Outside, World}
use Rattle.ws_isa.specs.Image.{Image, instr_at, is_load, is_past_op, note_of, ports}
use Rattle.ws_isa.specs.Formed.{Formed}
use Rattle.ws_isa.specs.Sound.{Sound}
use Rattle.df_core.specs.Core.{IsNext, has}
use Rattle.df_core.specs.Fit.{RightRequest}
use Rattle.df_core.specs.Began.{Began}
use Rattle.df_core.specs.Rights.{operands_of}
use Rattle.df_core.specs.Chains.{chain_of}
use Rattle.df_core.proofs.Telling.Firsts as L
use Rattle.store_buf.specs.declared.order.Order.{Order}
use Rattle.store_buf.specs.declared.store.Store.{Store}
use Rattle.store_buf.specs.Requests.{entry_of, kept_in, issued_in, answer_if, operands_if}
use Rattle.store_buf.specs.Finding.{place_in}
use Rattle.store_buf.specs.Ordering.{kept_at, WaitsHere, NoneFound, NoneMay, ready_flag, number_of, ripple_of}
use Rattle.store_buf.specs.Outdoors.{Holding}
use Rattle.store_buf.specs.Outers.{holding}
use Rattle.store_buf.specs.Holds.{Holds}
use Rattle.store_buf.specs.Stores.{NoneMaySo}
use Rattle.store_buf.proofs.Found as F
use Rattle.store_buf.proofs.Ordered.{ready_waits}
use Rattle.store_buf.proofs.Stepping as S
use Rattle.store_buf.proofs.Resting.{may_be}

module _ (image : Image) (world : World) (formed : Formed image) (sound : Sound image)
    (began : List (Option Began)) (o : Order) (h : Holding) (m : Outside)
    (hold : Holds image world began o false h m) where
  abbrev xs : ℕ → List ℕ
  xs q = operands_of (ports image (kept_at o q).instr) (kept_at o q).first (kept_at o q).second

  module _ (q : ℕ) (here : WaitsHere o q) where
    found : entry_of o.kept.items (kept_at o q).wave (kept_at o q).instr ≡ Some (kept_at o q)
    found = sym (F.here o.kept.items (place_in o.kept.items o.index) o.ok.index (kept_at o q).wave
        (kept_at o q).instr q (o.ok.index q here.within) here.within refl refl)

    kept_here : kept_in image o.kept.items (kept_at o q).wave (kept_at o q).instr ≡ Some (xs q)
    kept_here = ap (operands_if image) found

    fresh : issued_in o.kept.items (kept_at o q).wave (kept_at o q).instr ≡ None
    fresh = ap answer_if found ∙ here.waits

    right : RightRequest image world (kept_at o q).wave (kept_at o q).instr (xs q)
    right = hold.right (kept_at o q).wave (kept_at o q).instr (xs q) kept_here

    -- where one is next that waits, and this has no greater number, it is that one's operation
    same_next : (p : ℕ) → WaitsHere o p → RightRequest image world (kept_at o p).wave (kept_at o p).instr
        (xs p) → IsNext (chain_of o.chain) (note_of image (kept_at o p).instr)
        → number_of image (kept_at o q) ≤ number_of image (kept_at o p) →
        ready_flag image o (kept_at o q) ≡ true
    same_next p is asked next least =
        let most : number_of image (kept_at o p) ≤ number_of image (kept_at o q) =
        L.next_first image world formed sound hold.going.legal (kept_at o p).wave (kept_at o p).instr
        (xs p) (kept_at o q).wave (kept_at o q).instr (xs q) asked right fresh is.current here.current
        next in
        let same : (kept_at o p).instr ≡ (kept_at o q).instr = L.same_op image world formed sound
        (kept_at o p).wave (kept_at o p).instr (xs p) (kept_at o q).wave (kept_at o q).instr (xs q) asked
        right (is.current ∙ sym here.current) (omega (arith, least, most)) in
        may_be image world began o false h m hold (kept_at o q) kept_here here.waits
        (record {
          going = refl;
          current = here.current;
          fresh = fresh;
          turn = inl (subst (λ (i : ℕ). IsNext (chain_of o.chain) (note_of image i)) same next);
        })

  module _ (p : ℕ) (l : p < length o.kept.items) (ready : ready_flag image o (kept_at o p) ≡ true) where
    here : WaitsHere o p
    here = grind (arith, ready_waits)

    ripple_is : is_load image (kept_at o p).instr ≡ true
        → is_past_op image.arrays (instr_at image (kept_at o p).instr).op ((kept_at o p).first ∷ []) ≡ false
        → ripple_of image (kept_at o p) ≡ Some ((note_of image (kept_at o p).instr).ripple)
    unfolding is_load
    ripple_is load within = grind (arith, and_from)

    contrary : NoneFound image o → ⊥
    contrary none = elim ((S.may image world formed sound began o h m hold p l ready).turn) [
      | inl next ↦ (let f = none.first p here in
          both_ways (ready_flag image o (kept_at o f.0)) f.2
          (same_next f.0 f.1.here p here (right p here) next (f.1.least p here)))
      | inr e ↦ none.early p (record {
        here = here;
        ripple = (note_of image (kept_at o p).instr).ripple;
        is = ripple_is e.0 (sym (S.past_is image world formed sound began o h m hold p l ready) ∙ e.1);
        passed = e.2;
      })
    ]

  pub none_may : NoneFound image o → NoneMay image o
  none_may none p l = go (ready_flag image o (kept_at o p)) refl
    where
      go : (b : Bool) → ready_flag image o (kept_at o p) ≡ b → ready_flag image o (kept_at o p) ≡ false
      go false e = e
      go true e = absurd (contrary p l e none)

has_not : (f : Option ℕ) → is_some f ≡ false → has f ≡ false
has_not f e = grind arith

pub none_so : (image : Image) {P : Type 0} (s : Store P) → is_some s.fault ≡ false
    → NoneFound image s.order → NoneMaySo image s
none_so image s running none world began m formed sound stands = none_may image world formed sound began
    s.order (holding s.outer) m (subst (λ (b : Bool). Holds image world began s.order b (holding s.outer) m)
    (has_not s.fault running) stands) none
