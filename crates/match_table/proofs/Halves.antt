-- What has come to an instance, from what its halves have.
use Rattle.std.proofs.Common.{◌≡◌, ◌*◌, ◌<◌, ⊎_elim, ℕ, cond, List, [], Option, Some, None}
use Rattle.std.proofs.Common.{refl, ap, sym, subst, ◌∙◌, arith}
use Rattle.df_core.specs.Core.{same_key}
use Rattle.match_table.specs.declared.entry.Arrived.{Arrived}
use Rattle.match_table.specs.declared.entry.Half.{Half}
use Rattle.match_table.specs.Pages.{Paged, arrived_in, first_of, second_half, second_wave, seen}
use Rattle.match_table.specs.Pages.{whole}
use Rattle.match_table.specs.Ports.{set_half, with_half, with_port}
use Rattle.match_table.proofs.Arrivals.{key_cases}

-- a port behind the second is the third
pub third_half : (h : Half) (p v : ℕ) → (p ≡ 0 → ⊥) → (p ≡ 1 → ⊥) → set_half h 2 v ≡ set_half h p v
third_half v0 v1 v2 v3 v4 = grind arith

-- one value more at the first two ports
pub near_whole : (o : Option Half) (p v t : ℕ) → p < 2 → whole (Some (with_half o p v)) t
    ≡ Some (with_port (whole o t) p v)
near_whole o p v t lt = grind arith

-- or at the third
pub far_whole : (o : Option Half) (p v t : ℕ) → 1 < p → whole (Some (with_half o p v)) v
    ≡ Some (with_port (whole o t) p v)
far_whole o p v t lt = grind arith

-- a half has one value more
abbrev pub OneMore : Paged → Paged → ℕ → ℕ → ℕ → ℕ → Type 0
OneMore old new w h p v = (a b : ℕ) → seen new a b ≡ cond (same_key w h a b)
    (Some (with_half (seen old w h) p v)) (seen old a b)

-- the same beside what had as much in each half
pub from_before : (was old new : Paged) (w h k p v : ℕ)
    → ((a b : ℕ) → seen old a b ≡ seen was a b) → k ≡ h → OneMore old new w k p v
    → OneMore was new w h p v
from_before was old new w h k p v same is more a b = subst (λ x. OneMore old new w x p v) is more a b
    ∙ ap (λ (o : Option Half × Option Half). cond (same_key w h a b) (Some (with_half o.0 p v)) o.1)
    (λ j. (same w h j, same a b j))

module _ (old new : Paged) (w h p v : ℕ) (more : OneMore old new w h p v) where
  own_half : seen new w h ≡ Some (with_half (seen old w h) p v)
  own_half = grind (arith, ⊎_elim, key_cases)

  other_half : (a b : ℕ) → ((w ≡ a) × (h ≡ b) → ⊥) → seen new a b ≡ seen old a b
  other_half a b apart = grind (arith, ⊎_elim, key_cases)

-- an instance of which neither half has changed
same_halves : (old new : Paged) (a b : ℕ) → seen new a (2 * b) ≡ seen old a (2 * b)
    → seen new (second_wave a) (second_half a b) ≡ seen old (second_wave a) (second_half a b)
    → arrived_in new a b ≡ arrived_in old a b
unfolding arrived_in
same_halves old new a b first second =
    ap (λ o. whole o (first_of (seen new (second_wave a) (second_half a b)))) first
    ∙ ap (λ o. whole (seen old a (2 * b)) (first_of o)) second

first_is : (o : Option Half) (v : ℕ) → first_of (Some (with_half o 0 v)) ≡ v
first_is o v = grind arith

-- no first half has a second one's number
halves_apart : (w i b : ℕ) → second_half w i ≡ 2 * b → ⊥
halves_apart w i b e = omega (arith, e)

-- each instance has a second half of its own
own_second : (w i a b : ℕ) → second_wave w ≡ second_wave a → second_half w i ≡ second_half a b
    → (w ≡ a) × (i ≡ b)
own_second w i a b e f = grind arith

-- one instance has something else
by_key : (f g : ℕ → ℕ → Option Arrived) (w i : ℕ) (x : Option Arrived) → f w i ≡ x
    → ((a b : ℕ) → ((w ≡ a) × (i ≡ b) → ⊥) → f a b ≡ g a b) → (a b : ℕ)
    → f a b ≡ cond (same_key w i a b) x (g a b)
by_key f g w i x own others a b = grind (arith, ⊎_elim, key_cases)

-- an instance has one value more at one of its first two ports
pub near_arrived : (old new : Paged) (w i p v : ℕ) → OneMore old new w (2 * i) p v → p < 2
    → (a b : ℕ) → arrived_in new a b ≡ cond (same_key w i a b) (Some (with_port (arrived_in old w i) p v))
    (arrived_in old a b)
unfolding arrived_in
near_arrived old new w i p v more lt = by_key (arrived_in new) (arrived_in old) w i
    (Some (with_port (arrived_in old w i) p v)) (
    ap (λ o. whole o (first_of (seen new (second_wave w) (second_half w i))))
    (own_half old new w (2 * i) p v more)
    ∙ near_whole (seen old w (2 * i)) p v (first_of (seen new (second_wave w) (second_half w i))) lt
    ∙ ap (λ o. Some (with_port (whole (seen old w (2 * i)) (first_of o)) p v)) (second w i)
    ) (λ a b apart. same_halves old new a b
    (other_half old new w (2 * i) p v more a (2 * b) (λ e. let o = e.1 in apart (e.0, omega (arith, o))))
    (second a b))
  where
    second : (a b : ℕ) → seen new (second_wave a) (second_half a b)
        ≡ seen old (second_wave a) (second_half a b)
    second a b = other_half old new w (2 * i) p v more (second_wave a) (second_half a b)
        (λ e. halves_apart a b i (sym e.1))

-- or at the third
pub far_arrived : (old mid new : Paged) (w i p v : ℕ) → OneMore old mid w (2 * i) p v
    → OneMore mid new (second_wave w) (second_half w i) 0 v → 1 < p
    → (a b : ℕ) → arrived_in new a b ≡ cond (same_key w i a b) (Some (with_port (arrived_in old w i) p v))
    (arrived_in old a b)
unfolding arrived_in
far_arrived old mid new w i p v more last lt = by_key (arrived_in new) (arrived_in old) w i
    (Some (with_port (arrived_in old w i) p v)) (
    ap (λ o. whole o (first_of (seen new (second_wave w) (second_half w i))))
    (first w i ∙ own_half old mid w (2 * i) p v more)
    ∙ ap (λ t. whole (Some (with_half (seen old w (2 * i)) p v)) t)
    (ap first_of (own_half mid new (second_wave w) (second_half w i) 0 v last)
    ∙ first_is (seen mid (second_wave w) (second_half w i)) v)
    ∙ far_whole (seen old w (2 * i)) p v (first_of (seen old (second_wave w) (second_half w i))) lt
    ) (λ a b apart. same_halves old new a b
    (first a b ∙ other_half old mid w (2 * i) p v more a (2 * b)
    (λ e. let o = e.1 in apart (e.0, omega (arith, o))))
    (other_half mid new (second_wave w) (second_half w i) 0 v last (second_wave a) (second_half a b)
    (λ e. apart (own_second w i a b e.0 e.1))
    ∙ other_half old mid w (2 * i) p v more (second_wave a) (second_half a b)
    (λ e. halves_apart a b i (sym e.1))))
  where
    first : (a b : ℕ) → seen new a (2 * b) ≡ seen mid a (2 * b)
    first a b = other_half mid new (second_wave w) (second_half w i) 0 v last a (2 * b)
        (λ e. halves_apart w i b e.1)

-- nothing has come where there is no page
pub nothing_in : (wide : List ℕ) (w i : ℕ) → arrived_in (record { slots = []; wide = wide }) w i ≡ None
unfolding arrived_in
nothing_in wide w i = refl

-- where nothing has come to the first half nothing has to the instance
pub none_whole : (slots : Paged) (w i : ℕ) → None ≡ seen slots w (2 * i)
    → None ≡ arrived_in slots w i
unfolding arrived_in
none_whole slots w i none =
    ap (λ o. whole o (first_of (seen slots (second_wave w) (second_half w i)))) none

-- what has come to an instance whose first half has this, and that has this third value
pub whole_is : (slots : Paged) (w i : ℕ) (o : Option Half) (h : Half) (t : ℕ) → o ≡ Some h
    → o ≡ seen slots w (2 * i)
    → t ≡ cond h.had.third (first_of (seen slots (second_wave w) (second_half w i))) 0
    → Some (record { had = h.had; first = h.first; second = h.second; third = t }) ≡ arrived_in slots w i
unfolding arrived_in
whole_is slots w i o h t is has third =
    ap (λ n. Some (record { had = h.had; first = h.first; second = h.second; third = n })) third
    ∙ ap (λ x. whole x (first_of (seen slots (second_wave w) (second_half w i)))) (sym is ∙ has)
