-- The rules at one parameter or variable, as tested; and names put in one after another.
use Rattle.std.proofs.Common.{arith, ◌≡◌, ℕ, List, [], ◌∷◌, Bool, not, ◌&&◌, ◌==◌, nat_lt}
use Rattle.src_ast.specs.declared.lexeme.Name.{Name}
use Rattle.src_ast.specs.declared.fault.RefusalKind.TheVariants.{Main, Twice, Limit}
use Rattle.src_ast.specs.declared.fault.Quantity.TheVariants.{Params, Vars}
use Rattle.src_ast.specs.Rules.{Declared, is_visible, parameter_rules, variable_rules, rule}

module _ (visible : List Declared) (k : ℕ) (x : Name) (known : Bool)
    (is_known : known ≡ is_visible visible x.text) where
  -- the rules of a parameter, as tested
  pub parameter_rules_as : (main barred : Bool) → barred ≡ (main && (k == 0))
      → parameter_rules main visible k (x ∷ []) ≡ rule x.place Main (not barred) ∷ rule x.place Twice
      (not known) ∷ rule x.place (Limit Params) (nat_lt k 8) ∷ []
  parameter_rules_as main barred is_barred = grind (arith, nat_lt)

  -- the rules of a variable, as tested
  pub variable_rules_as : variable_rules visible k (x ∷ []) ≡ rule x.place Twice (not known) ∷ rule x.place
      (Limit Vars) (nat_lt k 32) ∷ []
  variable_rules_as = grind (arith, nat_lt)
