-- The selector's names among the tails, counted from the first one.
use Rattle.std.proofs.Common.{ℕ, zero, suc, ◌+◌, ◌-◌, ◌*◌, ◌/◌, ◌≡◌, ◌≤◌, List, [], ◌∷◌, length, refl, sym}
use Rattle.std.proofs.Common.{ap, ◌∙◌, arith}
use Rattle.ws_isa.specs.declared.instr.Op.{Op}
use Rattle.ws_isa.specs.declared.instr.Op.TheVariants.{Merge, Send}
use Rattle.wave_gen.specs.Wire.{Wants, Made, Make, wire_item, wire}
use Rattle.wave_gen.specs.Plans.{Tail, operands_of, hung, hang, more, chain, selected}
use Rattle.wave_gen.specs.Tables.{bare, hangs}

pub operands_other : (op : Op) (x z : ℕ) → ((p : ℕ) → op ≡ Send p → ⊥) → operands_of op x z ≡ x ∷ z ∷ []
operands_other op x z n = grind arith

next_name : (z k p : ℕ) → 6 * z + 6 ≡ 6 * k + p → k + p / 6 ≡ suc z
next_name z k p e = omega arith

this_name : (n z k p : ℕ) → n ≤ 5 → 6 * z + 6 ≡ 6 * k + (p + suc n) → k + p / 6 ≡ z
this_name n z k p le e = omega arith

hang_at : (b n z k p : ℕ) (ts : List Tail) (w : Wants) → n ≤ 6 → 6 * z + 6 ≡ 6 * k + (p + n)
    → hang b n z ts w ≡ hangs b k p ts (bare w)
hang_at b n z k p [] w le e = refl
hang_at b zero z k p (t ∷ ts) w le e =
    grind (arith, next_name, hang_at b 5 (suc z) k (suc p) ts w (omega arith) (omega arith))
hang_at b (suc n) z k p (t ∷ ts) w le e =
    grind (arith, this_name, hang_at b n z k (suc p) ts w (omega arith) (omega arith))

more_at : (n z k p : ℕ) (t : Tail) (ts : List Tail) → n ≤ 6 → 6 * z + 6 ≡ 6 * k + (p + n)
    → z + more n (t ∷ ts) ≡ k + (p + length ts) / 6
more_at zero z k p t (u ∷ ts) le e =
    grind (arith, more_at 5 (suc z) k (suc p) u ts (omega arith) (omega arith))
more_at (suc n) z k p t (u ∷ ts) le e = grind (arith, more_at n z k (suc p) u ts (omega arith) (omega arith))
more_at n z k p t ts le e = grind (arith, next_name, this_name)

more_is : (ts : List Tail) → more 6 ts ≡ (length ts - 1) / 6
more_is [] = refl
more_is (t ∷ ts) =
    let down : (0 + length ts) / 6 ≡ (suc (length ts) - 1) / 6 = ap (λ n. n / 6) (omega arith) in
    omega (arith, more_at 6 0 0 0 t ts (omega arith) refl)

pub selected_is : (b z n : ℕ) (ts : List Tail) (w : Wants) → n ≡ (length ts - 1) / 6
    → wire b (chain z n) (hangs b z 0 ts (bare w)) ≡ selected b z ts w
selected_is b z n ts w e = grind (arith, more_is, hang_at)

-- one name more in the chain
pub chain_more : (b z n k j x y : ℕ) (s : Made) → k ≡ suc j → k ≤ n → x ≡ z + k → y ≡ x - 1
    → wire_item b (Make x Merge (y ∷ [])) (wire b (chain (z + k) (n - k)) s) ≡ wire b (chain (z + j) (n - j))
    s
chain_more b z n k j x y s ek le ex ey =
    let e : n - j ≡ suc (n - k) = omega arith in
    let at : suc (z + j) ≡ z + k = omega arith in
    let is : x ≡ suc (z + j) = omega arith in
    let before : y ≡ z + j = omega arith in
    ap (λ a. wire_item b (Make a Merge (y ∷ [])) (wire b (chain (z + k) (n - k)) s)) is
    ∙ ap (λ a. wire_item b (Make (suc (z + j)) Merge (a ∷ [])) (wire b (chain (z + k) (n - k)) s)) before
    ∙ ap (λ a. wire_item b (Make (suc (z + j)) Merge ((z + j) ∷ [])) (wire b (chain a (n - k)) s)) (sym at)
    ∙ ap (λ a. wire b (chain (z + j) a) s) (sym e)

-- the tails from one more on
pub hangs_more : (b z n y : ℕ) (t : Tail) (ts : List Tail) (s : Made) → y ≡ z + n / 6
    → hung b t y (hangs b z (suc n) ts s) ≡ hangs b z n (t ∷ ts) s
hangs_more b z n y t ts s e = ap (λ a. hung b t a (hangs b z (suc n) ts s)) e

pub chain_none : (b z n k : ℕ) (s : Made) → k ≡ 0 → wire b (chain (z + k) (n - k)) s ≡ wire b (chain z n) s
chain_none b z n k s e = grind arith

pub chain_end : (b z n : ℕ) (s : Made) → s ≡ wire b (chain (z + n) (n - n)) s
chain_end b z n s = let e : 0 ≡ n - n = omega arith in ap (λ a. wire b (chain (z + n) a) s) e
