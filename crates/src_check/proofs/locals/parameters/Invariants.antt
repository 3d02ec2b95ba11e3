use Rattle.std.proofs.Common.{◌≡◌, List, take, drop}
use Rattle.src_ast.specs.Rules.{Declared, parameter_rules}
use Rattle.src_check.specs.Names.{seen, StandsFor}
use Rattle.src_check.specs.Rule.{first_broken}
use Rattle.src_check.proofs.Stands.{pushed}
use Rattle.src_check.proofs.locals.parameters.Given as goal

-- the parameters that are left decide, with those before them put in
abbrev pub invariant-loop-name : goal.invariant-loop-name
invariant-loop-name l = record {
  rules : (visible : List Declared) → StandsFor (seen l.fn.names) visible →
      first_broken (parameter_rules l.main visible 0 l.params) ≡ first_broken
      (parameter_rules l.main (pushed (take l.name-index l.params) visible) l.count
      (drop l.name-index l.params));
  stands : (visible : List Declared) → StandsFor (seen l.fn.names) visible
      → StandsFor (seen l.names) (pushed (take l.name-index l.params) visible);
  outer : l.names.outer ≡ l.fn.names.outer;
}
