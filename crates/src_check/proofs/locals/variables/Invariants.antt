use Rattle.std.proofs.Common.{◌≡◌, List, take, drop}
use Rattle.src_ast.specs.Rules.{Declared, variable_rules}
use Rattle.src_check.specs.Names.{seen, StandsFor}
use Rattle.src_check.specs.Rule.{first_broken}
use Rattle.src_check.proofs.Stands.{pushed}
use Rattle.src_check.proofs.locals.variables.Given as goal

-- the variables that are left decide, with those before them put in
abbrev pub invariant-loop-name : goal.invariant-loop-name
invariant-loop-name l = record {
  rules : (visible : List Declared) → StandsFor (seen l.fn.names) visible →
      first_broken (variable_rules visible l.fn.before l.vars) ≡ first_broken
      (variable_rules (pushed (take l.name-index l.vars) visible) l.count (drop l.name-index l.vars));
  stands : (visible : List Declared) → StandsFor (seen l.fn.names) visible
      → StandsFor (seen l.names) (pushed (take l.name-index l.vars) visible);
  outer : l.names.outer ≡ l.fn.names.outer;
}
