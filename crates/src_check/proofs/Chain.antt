-- Rules one after another: the first that is broken is the answer for all, and where one is kept the rest
-- decides.
use Rattle.std.proofs.Common.{◌≡◌, List, [], ◌∷◌, ◌++◌, Option, Some, None, ◌∙◌}
use Rattle.src_ast.specs.declared.fault.Refusal.{Refusal}
use Rattle.src_ast.specs.Rules.{Rule}
use Rattle.src_check.specs.Rule.{first_broken}
use Rattle.src_check.proofs.Broken.{before_broken, after_kept, leaves}

-- the first rule is broken
pub at_one : (x : Rule) (rest : List Rule) (f : Refusal) → first_broken (x ∷ []) ≡ Some f
    → first_broken (x ∷ rest) ≡ Some f
at_one x rest f h = before_broken (x ∷ []) rest f h

-- the first rule is kept
pub after_one : (x : Rule) (rest : List Rule) (o : Option Refusal) → first_broken (x ∷ []) ≡ None
    → first_broken rest ≡ o → first_broken (x ∷ rest) ≡ o
after_one x rest o h k = after_kept (x ∷ []) rest h ∙ k

-- one of the first three rules is broken
pub at_three : (x y z : Rule) (rest : List Rule) (f : Refusal) → first_broken (x ∷ y ∷ z ∷ []) ≡ Some f
    → first_broken (x ∷ y ∷ z ∷ rest) ≡ Some f
at_three x y z rest f h = before_broken (x ∷ y ∷ z ∷ []) rest f h

-- the first three rules are kept
pub after_three : (x y z : Rule) (rest : List Rule) (o : Option Refusal)
    → first_broken (x ∷ y ∷ z ∷ []) ≡ None → first_broken rest ≡ o
    → first_broken (x ∷ y ∷ z ∷ rest) ≡ o
after_three x y z rest o h k = after_kept (x ∷ y ∷ z ∷ []) rest h ∙ k

-- rules are kept, and others follow
pub after_all : (xs ys : List Rule) (o : Option Refusal) → first_broken xs ≡ None → first_broken ys ≡ o
    → first_broken (xs ++ ys) ≡ o
after_all xs ys o h k = after_kept xs ys h ∙ k

pub ruleset chain = (at_one, after_one, at_three, after_three, before_broken, after_all, leaves)
