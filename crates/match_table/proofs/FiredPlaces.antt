-- Where an instance stands in a list of fired ones.
use Rattle.std.proofs.Common.{◌≡◌, ◌<◌, inl, inr, ℕ, suc, Bool, true, cond, List, [], ◌∷◌}
use Rattle.std.proofs.Common.{length, slice_index_or, refl, arith}
use Rattle.ws_isa.specs.Image.{Image, is_memory}
use Rattle.df_core.specs.Core.{Key, HasFired}
use Rattle.match_table.specs.Tables.{of_memory}

abbrev pub none_fired : Key
none_fired = record { wave = 0; instr = 0 }

pub fired_there : (ks : List Key) (k : ℕ) → k < length ks → HasFired ks (slice_index_or ks k none_fired).wave
    (slice_index_or ks k none_fired).instr
fired_there (x ∷ ks) (suc k) lt = inr (fired_there ks k (omega (arith, lt)))
fired_there v0 v1 v2 = grind arith

pub record Place (ks : List Key) (w i : ℕ) : Type 0 where
  pub place : ℕ
  pub below : place < length ks
  pub wave : (slice_index_or ks place none_fired).wave ≡ w
  pub instr : (slice_index_or ks place none_fired).instr ≡ i

pub fired_place : (ks : List Key) (w i : ℕ) → HasFired ks w i → Place ks w i
fired_place [] w i h = absurd h
fired_place (x ∷ ks) w i (inl h) = grind arith
fired_place (x ∷ ks) w i (inr h) = let r = fired_place ks w i h in
    record {
      place = suc r.place;
      below = (let b = r.below in omega (arith, b));
      wave = r.wave;
      instr = r.instr;
    }

module _ (image : Image) where
  -- one of memory that has fired is among those of memory
  pub asked_there : (ks : List Key) (w i : ℕ) → HasFired ks w i → is_memory image i ≡ true
      → HasFired (of_memory image ks) w i
  asked_there [] w i h m = absurd h
  asked_there (k ∷ ks) w i h m = go _ refl h (λ x. asked_there ks w i x m)
    where
      go : (b : Bool) → is_memory image k.instr ≡ b → HasFired (k ∷ ks) w i → (HasFired ks w i → HasFired
          (of_memory image ks) w i) → HasFired (cond b (k ∷ of_memory image ks) (of_memory image ks)) w i
      go b e h ih = grind arith

  -- and each of these has fired
  pub asked_fired : (ks : List Key) (w i : ℕ) → HasFired (of_memory image ks) w i
      → HasFired ks w i × (is_memory image i ≡ true)
  asked_fired [] w i h = absurd h
  asked_fired (k ∷ ks) w i h = go (is_memory image k.instr) refl h (λ x. asked_fired ks w i x)
    where
      go : (b : Bool) → is_memory image k.instr ≡ b
          → HasFired (cond b (k ∷ of_memory image ks) (of_memory image ks)) w i
          → (HasFired (of_memory image ks) w i → HasFired ks w i × (is_memory image i ≡ true))
          → HasFired (k ∷ ks) w i × (is_memory image i ≡ true)
      go v0 v1 v2 v3 = grind arith
