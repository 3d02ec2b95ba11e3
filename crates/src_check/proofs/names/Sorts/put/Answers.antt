use Rattle.std.proofs.Common.{◌≡◌, Some, nat_eq, if◌then◌else◌, subst, ◌∙◌}
use lib.Pointwise.{pointwise}
use Rattle.src_check.specs.Names.{sort_of, found}
use Rattle.src_check.proofs.Tables.{found_after_put}
use Rattle.src_check.proofs.names.Sorts.put.Goals as goal

pub returns-clause-ok : goal.returns-clause-ok
unfolding found
returns-clause-ok c = λ text.
    subst (λ t. found (record { sorts = c.insert.new.self }) text ≡ (if pointwise nat_eq t text
    then Some (sort_of c.args.sort) else found c.args.self.now text))
    (c.in_ok-text.ensures.items ∙ c.as_slice.ensures)
    (found_after_put (λ k. k.items) sort_of c.args.self.now.sorts.entries c.insert.new.self.entries
    c.in_ok-text.text c.args.sort text c.in_ok-insert.ensures.updates.1 c.in_ok-insert.ensures.updates.3)
