-- Where tables and a buffer owe nothing the state for which they stand is at rest.
use Rattle.std.proofs.Common.{arith, ℕ, ◌≡◌, ◌⊎◌, Bool, true, cond, List, Option, Some, None, sym, ◌∙◌, inl}
use Rattle.std.proofs.Common.{inr}
use Rattle.std.proofs.lemmas.Bool.{and_parts}
use Rattle.ws_isa.specs.Image.{Image, is_memory}
use Rattle.ws_isa.specs.Walk.{no_ports}
use Rattle.df_core.specs.Core.{Match, Issue, Rest, operands_in}
use Rattle.df_core.specs.Shown.{Tables, Buffer, OwesNothing, NoneIssuable, owed, lists, waits_if, shown}
use Rattle.df_core.proofs.Keeping.Ports.{put_all_held, put_all_from}
use Rattle.df_core.proofs.Telling.ShownFit.{lists_true}

pub waits_cases : (o : Option ℕ) (k n : Option (List ℕ)) (xs : List ℕ) → waits_if o k n ≡ Some xs
    → (waits_if o k None ≡ Some xs) ⊎ ((k ≡ None) × (n ≡ Some xs))
waits_cases o k n xs e = grind arith

pub some_only : (b : Bool) (ys xs : List ℕ) → cond b (Some ys) None ≡ Some xs → b ≡ true
some_only b ys xs e = grind arith

pub nothing : {A : Type 0} (x : A) → None ≡ Some x → ⊥
nothing x e = cc

pub rests : (image : Image) (t : Tables) (b : Buffer) → OwesNothing image t b → NoneIssuable image b
    → Rest image (shown image t b)
unfolding shown
rests image t b owes none (Match w i p) e =
    elim (put_all_from t.held (owed image t b) no_ports w i p e.0 e.1) [
      | inl h ↦ nothing e.0 h
      | inr h ↦
          (let r = owes.tokens w i p e.0 h in
          nothing e.0 (sym (put_all_held t.held (owed image t b) no_ports w i p r.0 r.1) ∙ e.1))
    ]
rests image t b owes none (Issue w i) e = elim (waits_cases (b.issued w i) (b.kept w i) _ e.0 e.1.waits) [
  | inl h ↦
      none w i e.0 h (record {
        going = e.1.issuable.going;
        current = e.1.issuable.current;
        fresh = e.1.issuable.fresh;
        turn = e.1.issuable.turn;
      })
  | inr h ↦
      (let q = and_parts (lists t.fired w i) (is_memory image i)
      (some_only _ (operands_in image t.held w i) e.0 h.1) in
      let r = owes.requests w i (lists_true t.fired w i q.0) q.1 in
      nothing r.0 (sym h.0 ∙ r.1))
]
