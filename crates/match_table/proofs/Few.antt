-- How many tokens can come where the walk has an end.
use Rattle.std.proofs.Common.{◌≡◌, ◌+◌, ◌*◌, ◌<◌, ◌≤◌, ℕ, suc, Bool, cond, List, [], ◌∷◌, Some, length}
use Rattle.std.proofs.Common.{eqb, inl, inr, refl, subst, eq-eqb, ne_eqb, ◌⊎◌, arith}
use Rattle.std.proofs.lemmas.Bool.{cases_eq}
use Rattle.ws_words.specs.Outside.{World}
use Rattle.ws_isa.specs.Image.{Image, Token}
use Rattle.ws_isa.specs.Formed.{Formed}
use Rattle.ws_isa.specs.Sound.{Sound}
use Rattle.ws_isa.specs.Walk.{Ports, CostAtMost, walk}
use Rattle.df_core.specs.Core.{Apart, HasFired, IsSent, Key, Once, key_of_token}
use Rattle.df_core.specs.Fit.{RightToken}
use Rattle.df_core.proofs.Walked.Facts.{WalkFacts}
use Rattle.df_core.proofs.Walked.FromSound.{facts_of}
use Rattle.df_core.proofs.Walked.PortsThere.{ports_there}
use Rattle.df_core.proofs.Telling.Counting.{count_within, keys_of, walk_has}
use Rattle.df_core.proofs.Parts.Arriving.{ports_is_op}
use Rattle.match_table.specs.Coming.{Came}
use Rattle.ws_isa.proofs.Images.{three_ports as few_ports}
use Rattle.ws_words.proofs.Places.{nth_short}

-- the instances of the tokens to one port
abbrev keys_at : ℕ → List Token → List Key
keys_at p [] = []
keys_at p (t ∷ ts) = cond (eqb t.port p) (key_of_token t ∷ keys_at p ts) (keys_at p ts)

key_sent : (p : ℕ) (ts : List Token) (w i : ℕ) → HasFired (keys_at p ts) w i → (v : ℕ) × IsSent ts w i p v
key_sent p [] w i h = absurd h
key_sent p (t ∷ ts) w i h = go (λ k. let r = key_sent p ts w i k in (r.0, inr r.1)) (cases_eq t.port p) h
  where
    go : (HasFired (keys_at p ts) w i → (v : ℕ) × IsSent (t ∷ ts) w i p v) → (t.port ≡ p) ⊎ (t.port ≡ p → ⊥)
        → HasFired (keys_at p (t ∷ ts)) w i → (v : ℕ) × IsSent (t ∷ ts) w i p v
    go later (inl e) h =
        elim (subst (λ (b : Bool). HasFired (cond b (key_of_token t ∷ keys_at p ts) (keys_at p ts)) w i)
        (eq-eqb t.port p e) h) [
          | inl x ↦ (t.value, inl (x.0, x.1, e, refl))
          | inr x ↦ later x
        ]
    go later (inr n) h = grind (arith, ne_eqb, t.port)

keys_once : (p : ℕ) (ts : List Token) → Apart ts → Once (keys_at p ts)
keys_once p [] a = tt
keys_once p (t ∷ ts) a = grind (arith, cases_eq, eq-eqb, key_sent, ne_eqb, keys_once p ts a.1)

-- how many there are to the ports 0, 1 and 2, if the first of the tokens is to port n
abbrev with_first : Token → List Token → ℕ → ℕ
with_first t ts n = length (cond (eqb n 0) (key_of_token t ∷ keys_at 0 ts) (keys_at 0 ts))
    + (length (cond (eqb n 1) (key_of_token t ∷ keys_at 1 ts) (keys_at 1 ts)) + length
    (cond (eqb n 2) (key_of_token t ∷ keys_at 2 ts) (keys_at 2 ts)))

one_more : (t : Token) (ts : List Token) (n : ℕ) → n < 3 → length ts ≤ length (keys_at 0 ts)
    + (length (keys_at 1 ts) + length (keys_at 2 ts)) → length (t ∷ ts) ≤ with_first t ts n
one_more t ts n lt r = grind arith

three_ports : (ts : List Token) → ((w i p v : ℕ) → IsSent ts w i p v → p < 3)
    → length ts ≤ length (keys_at 0 ts) + (length (keys_at 1 ts) + length (keys_at 2 ts))
three_ports [] f = omega arith
three_ports (t ∷ ts) f = one_more t ts t.port (f t.wave t.instr t.port t.value (inl (refl, refl, refl, refl)))
    (three_ports ts (λ w i p v s. f w i p v (inr s)))

module _ (image : Image) (world : World) (formed : Formed image) (sound : Sound image) where
  facts : WalkFacts image world
  facts = facts_of image world (ports_there image formed) sound

  port_below : (w i p v : ℕ) → RightToken image world w i p v → p < 3
  port_below w i p v r = grind (arith, nth_short, r.inst.operands, facts.filled, ports_is_op, few_ports)

  in_walk : (w i p v : ℕ) → RightToken image world w i p v → (t : ℕ) × HasFired (keys_of (walk image world t))
      w i
  in_walk w i p v r = grind (
    arith,
    keys_of (walk image world (suc r.time)),
    walk_has image world facts (suc
        r.time) r.time r.inst (omega arith) r.at.fires,
  )

  -- no more than three for each instance of the walk
  pub few_come : (held : Ports) → ((w i p v : ℕ) → held w i p ≡ Some v → RightToken image world w i p v)
      → (old : Ports) (count cost : ℕ) → Came old held count → CostAtMost image world cost → count ≤ 3 * cost
  few_come held right old count cost c most =
      let at_port : (p : ℕ) → length (keys_at p c.tokens) ≤ cost = λ p. (
      let k = count_within _ _ facts _ (keys_once _ _ c.apart) (λ w i h. let s = key_sent _ _ _ _ h in
      in_walk _ _ _ _ (right w i p s.0 (c.there w i p s.0 s.1))) in
      let l = k.1 in let m = most k.0 in omega (arith, l, m)) in
      let a = at_port 0 in
      let b = at_port 1 in
      let d = at_port 2 in
      let t = three_ports _ (λ w i p v s. port_below _ _ _ _ (right w i p v (c.there w i p v s))) in
      let n = c.count_is in
      omega (arith, a, b, d, t, n)
