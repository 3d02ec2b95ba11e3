-- What a table finds at any text after a name is put in.
use Rattle.std.proofs.Common.{◌≡◌, ℕ, List, Bool, true, false, nat_eq, Some, if◌then◌else◌, refl, sym, ap}
use Rattle.std.proofs.Common.{subst, ◌∙◌}
use Rattle.std.specs.Map.{lookup, KeepsOthers, IsKeyTest, AreApart}
use Rattle.std.specs.Cmp.Lexicographic.{pointwise, bytes_decides, nat_list_eq_equiv}
use Rattle.std.specs.Option.{option_map}

other_entries : {K X : Type 0} (eq : K → K → Bool) (test : K → Bool) (old new : List (K × X))
    → KeepsOthers eq test old new → (other : K → Bool) → IsKeyTest eq other → AreApart test other
    → lookup other new ≡ lookup other old
unfolding KeepsOthers
other_entries eq test old new h = h

apart : (bs cs ks : List ℕ) → pointwise nat_eq bs cs ≡ false → pointwise nat_eq bs ks ≡ true
    → pointwise nat_eq cs ks ≡ false
apart bs cs ks n y = nat_list_eq_equiv.symm cs ks ∙ sym (nat_list_eq_equiv.congr bs ks cs y) ∙ n

module _ {K X Y : Type 0} (items : K → List ℕ) (f : X → Y) (old new : List (K × X)) (key : K)
    (value : X) where
  put_by : (text : List ℕ) (b : Bool) → b ≡ pointwise nat_eq (items key) text
      → lookup (λ k. pointwise nat_eq (items key) (items k)) new ≡ Some value
      → KeepsOthers (λ x y. pointwise nat_eq (items x) (items y))
      (λ k. pointwise nat_eq (items key) (items k)) old new
      → option_map f (lookup (λ k. pointwise nat_eq text (items k)) new)
      ≡ (if b then Some (f value) else option_map f (lookup (λ k. pointwise nat_eq text (items k)) old))
  put_by text true is here others =
      subst (λ t. option_map f (lookup (λ k. pointwise nat_eq t (items k)) new) ≡ Some (f value))
      ((bytes_decides (items key) text).0 (sym is)) (ap (option_map f) here)
  put_by text false is here others =
      ap (option_map f) (other_entries _ _ old new others (λ k. pointwise nat_eq text (items k))
      (λ x y. nat_list_eq_equiv.congr text (items x) (items y))
      (λ k. apart (items key) text (items k) (sym is)))

  -- what is found after a name is put in
  pub found_after_put : (text : List ℕ)
      → lookup (λ k. pointwise nat_eq (items key) (items k)) new ≡ Some value
      → KeepsOthers (λ x y. pointwise nat_eq (items x) (items y))
      (λ k. pointwise nat_eq (items key) (items k)) old new
      → option_map f (lookup (λ k. pointwise nat_eq text (items k)) new)
      ≡ (if pointwise nat_eq (items key) text then Some (f value) else option_map f
      (lookup (λ k. pointwise nat_eq text (items k)) old))
  found_after_put text here others = put_by text _ refl here others
