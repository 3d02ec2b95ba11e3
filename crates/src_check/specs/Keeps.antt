-- What the checker answers on a part of a program.
use Rattle.std.specs.Prelude.{◌≡◌, List, Some, None, Result, Ok, Err}
use Rattle.src_ast.specs.declared.fault.Refusal.{Refusal}
use Rattle.src_ast.specs.Rules.{Rule}
use Rattle.src_check.specs.Rule.{first_broken}
use Rattle.src_check.specs.declared.stop.Stop.{Stop}
use Rattle.src_check.specs.declared.stop.Stop.TheVariants.{Memory, Broken}

-- all rules are kept, or the answer is the first that isn't
abbrev pub Keeps : {X : Type 0} → List Rule → Result X Refusal → Type 0
Keeps rules (Ok x) = first_broken rules ≡ None
Keeps rules (Err r) = first_broken rules ≡ Some r

-- the checker stops out of memory, or at the first rule that isn't kept
abbrev pub StopsAt : List Rule → Stop → Type 0
StopsAt rules Memory = Unit {0}
StopsAt rules (Broken r) = first_broken rules ≡ Some r

-- all rules are kept, or the checker stops
abbrev pub KeepsInMemory : {X : Type 0} → List Rule → Result X Stop → Type 0
KeepsInMemory rules (Ok x) = first_broken rules ≡ None
KeepsInMemory rules (Err stop) = StopsAt rules stop
