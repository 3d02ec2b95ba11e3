-- The first of a list of rules that isn't kept.
use Rattle.std.specs.Prelude.{List, [], ◌∷◌, Option, Some, None, if◌then◌else◌}
use Rattle.src_ast.specs.declared.fault.Refusal.{Refusal}
use Rattle.src_ast.specs.Rules.{Rule}

-- the first rule that isn't kept
unfoldable pub first_broken : List Rule → Option Refusal
first_broken [] = None
first_broken (r ∷ rs) =
    if r.kept then first_broken rs else Some (record { kind = r.kind; place = r.place })
