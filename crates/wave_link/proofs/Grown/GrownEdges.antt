-- What an edge opens in a draft with no-ops: the draft's slots, and between them some more; the order of
-- slots doesn't
-- matter.
use Rattle.std.proofs.Common.{ℕ, zero, suc, ◌+◌, ◌≡◌, ◌<◌, ◌≤◌, ◌⊎◌, Bool, true, false, List, [], ◌∷◌}
use Rattle.std.proofs.Common.{◌++◌, refl, sym, ap, ap₂, ◌∙◌, subst, arith}
use Rattle.std.proofs.lemmas.Bool.{cases_Bool, cases_eq, eqb-true}
use Rattle.ws_isa.specs.declared.instr.Dest.{Dest}
use Rattle.ws_isa.specs.Image.{Image, edge_dests}
use Rattle.ws_isa.specs.Sound.{OpenSlots, opened, all_opened, Fresh, edge_all}
use Rattle.ws_isa.proofs.Slots.{all_opened_keeps, all_opened_append, fresh_left, fresh_right}
use Rattle.wave_link.proofs.Grown.GrownForm.{renamed}
use Rattle.wave_link.proofs.Sound.SlotsKept.{swap, all_swap, fresh_append}
use Rattle.ws_isa.proofs.Opened.{opened_here}
use Rattle.ws_words.proofs.Bools.{and_parts as and_both, no_both}

lists_swap : (xs ys : List Dest) (o : OpenSlots) → all_opened xs (all_opened ys o) ≡ all_opened ys
    (all_opened xs o)
lists_swap xs [] o = refl
lists_swap xs (y ∷ ys) o = grind (arith, all_swap, lists_swap xs ys (opened y o))

pub not_true : (v : Bool) → (v ≡ true → ⊥) → v ≡ false
not_true v h = grind arith

-- what isn't open after a list is opened wasn't before
shut_before : (ds : List Dest) (o : OpenSlots) (j q : ℕ) → all_opened ds o j q ≡ false → o j q ≡ false
shut_before ds o j q h = not_true (o j q) (λ e. no_both (all_opened_keeps ds o j q e) h)

-- a slot that a fresh list leaves shut may be opened first
fresh_opened : (bs : List Dest) (d : Dest) (o : OpenSlots) → Fresh bs o
    → all_opened bs o d.instr d.port ≡ false → Fresh bs (opened d o)
fresh_opened [] d o f h = tt
fresh_opened (b ∷ bs) d o f h =
    let ih1 = fresh_opened bs d (opened b o) f.1 h in
    grind (arith, not_true, cases_Bool, swap, no_both, and_both, opened_here, eqb-true, all_opened_keeps)

pub append_nil : {A : Type 0} (xs : List A) → xs ++ [] ≡ xs
append_nil [] = refl
append_nil (x ∷ xs) = ap (λ (l : List _). x ∷ l) (append_nil xs)

-- two lists may be opened in either order
fresh_swap : (bs cs : List Dest) (o : OpenSlots) → Fresh (bs ++ cs) o → Fresh (cs ++ bs) o
fresh_swap bs [] o f = fresh_left bs [] o f
fresh_swap bs (c ∷ cs) o f =
    let l : Fresh bs o = fresh_left bs (c ∷ cs) o f in
    let r : Fresh (c ∷ cs) (all_opened bs o) = fresh_right bs (c ∷ cs) o f in (
      shut_before bs o c.instr c.port r.0,
      fresh_swap bs cs (opened c o) (grind (arith, fresh_append, fresh_opened, all_swap)),
    )

-- the lists of n instructions from k on, one after the other
abbrev pub gather : (ℕ → List Dest) → ℕ → ℕ → List Dest
gather X k zero = []
gather X k (suc n) = X k ++ gather X (suc k) n

pub gather_none : (X : ℕ → List Dest) (k n : ℕ) → ((j : ℕ) → k ≤ j → j < k + n → X j ≡ []) → gather X k n ≡ []
gather_none X k zero h = refl
gather_none X k (suc n) h = grind (arith, gather_none X (suc k) n (λ j l m. h j (omega arith) (omega arith)))

pub gather_one : (X : ℕ → List Dest) (Y : List Dest) (s k n : ℕ) → k ≤ s → s < k + n → X s ≡ Y
    → ((j : ℕ) → k ≤ j → j < k + n → (j ≡ s → ⊥) → X j ≡ []) → gather X k n ≡ Y
gather_one X Y s k zero l m e h = absurd (omega arith)
gather_one X Y s k (suc n) l m e h =
    go (λ p. gather_one X Y s (suc k) n p (omega arith) e (λ j a b c. h j (omega arith) (omega arith) c))
    (cases_eq k s)
  where
    go : (suc k ≤ s → gather X (suc k) n ≡ Y) → (k ≡ s) ⊎ (k ≡ s → ⊥) → X k ++ gather X (suc k) n ≡ Y
    go v0 v1 = grind (arith, gather_none, append_nil)

renamed_append : (new : ℕ → ℕ) (xs ys : List Dest) → renamed new (xs ++ ys) ≡ renamed new xs ++ renamed new ys
renamed_append new [] ys = refl
renamed_append new (x ∷ xs) ys = grind (arith, renamed_append new xs ys)

module _ (draft image : Image) (new : ℕ → ℕ) (b r sh lo hi : ℕ) (X : ℕ → List Dest)
    (each : (k : ℕ) → lo ≤ k → k < hi → edge_dests image b r (k + sh) ≡ renamed new (edge_dests draft b r k)
    ++ X k) where
  next_number : (k n : ℕ) → edge_all image b r (suc (k + sh)) n ≡ edge_all image b r (suc k + sh) n
  next_number k n = grind arith

  pub all_alike : (k n : ℕ) (o : OpenSlots) → lo ≤ k → k + n ≤ hi →
      all_opened (edge_all image b r (k + sh) n) o ≡ all_opened
      (renamed new (edge_all draft b r k n) ++ gather X k n) o
  all_alike k zero o l h = refl
  all_alike k (suc n) o l h =
      let A : List Dest = renamed new (edge_dests draft b r k) in
      let x : List Dest = X k in
      let E : List Dest = edge_all image b r (suc k + sh) n in
      let D : List Dest = renamed new (edge_all draft b r (suc k) n) in
      let G : List Dest = gather X (suc k) n in
      let p : OpenSlots = all_opened A o in
      let ih : all_opened E (all_opened x p) ≡ all_opened (D ++ G) (all_opened x p) =
      all_alike (suc k) n (all_opened x p) (omega arith) (omega arith) in
      ap₂ (λ (u v : List Dest). all_opened (u ++ v) o) (each k l (omega arith)) (next_number k n)
      ∙ (grind (arith, all_opened_append, lists_swap, renamed_append))

  pub fresh_alike : (k n : ℕ) (o : OpenSlots) → lo ≤ k → k + n ≤ hi →
      Fresh (renamed new (edge_all draft b r k n) ++ gather X k n) o → Fresh (edge_all image b r (k + sh) n) o
  fresh_alike k zero o l h f = tt
  fresh_alike k (suc n) o l h f =
      let A : List Dest = renamed new (edge_dests draft b r k) in
      let x : List Dest = X k in
      let E : List Dest = edge_all image b r (suc k + sh) n in
      let D : List Dest = renamed new (edge_all draft b r (suc k) n) in
      let G : List Dest = gather X (suc k) n in
      let p : OpenSlots = all_opened A o in
      let f1 : Fresh ((A ++ D) ++ (x ++ G)) o = grind (arith, renamed_append) in
      let fAD : Fresh (A ++ D) o = fresh_left (A ++ D) (x ++ G) o f1 in
      let fxG : Fresh (x ++ G) (all_opened D p) = grind (arith, all_opened_append, fresh_right) in
      let fA : Fresh A o = fresh_left A D o fAD in
      let fD : Fresh D p = fresh_right A D o fAD in
      let fx : Fresh x (all_opened D p) = fresh_left x G (all_opened D p) fxG in
      let fG : Fresh G (all_opened x (all_opened D p)) = fresh_right x G (all_opened D p) fxG in
      let fxD : Fresh (x ++ D) p = fresh_swap D x p (fresh_append D x p fD fx) in
      let gx : Fresh x p = fresh_left x D p fxD in
      let gD : Fresh D (all_opened x p) = fresh_right x D p fxD in
      let gG : Fresh G (all_opened D (all_opened x p)) = subst (Fresh G) (sym (lists_swap D x p)) fG in
      let ih : Fresh E (all_opened x p) = fresh_alike (suc k) n (all_opened x p) (omega arith) (omega arith)
      (fresh_append D G (all_opened x p) gD gG) in
      grind (arith, fresh_append, all_opened_append, next_number)

-- an instruction that opens nothing on the edge adds nothing
pub edge_all_more : (image : Image) (b r k n : ℕ) → edge_dests image b r (k + n) ≡ []
    → edge_all image b r k (suc n) ≡ edge_all image b r k n
edge_all_more image b r k zero e = grind arith
edge_all_more image b r k (suc n) e = ap (λ (ds : List Dest). edge_dests image b r k ++ ds)
    (edge_all_more image b r (suc k) n (ap (edge_dests image b r) (omega arith) ∙ e))
