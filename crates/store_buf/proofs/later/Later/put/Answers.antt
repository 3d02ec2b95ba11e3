use Rattle.std.proofs.Common.{nat_eq, cond, Some, None, ◌∙◌, sym, ap, inl, inr, arith}
use Rattle.std.specs.HashMap.{get}
use Rattle.store_buf.proofs.Retained as R
use Rattle.store_buf.proofs.later.Later.put.Goals as goal
use Rattle.store_buf.proofs.later.Later.put.Goals.{in-Some, in-None}

pub returns-clause-kept : goal.returns-clause-kept
returns-clause-kept c = λ w n r p h. R.retained c.insert.result
    (c.insert.ensures.succeeds (let a = c.in_ok-reserve.ensures.ok in let b = c.remove.ensures.spare in
    omega (arith, a, b))) (get nat_eq c.args.self.now.map) c.remove.new.self c.insert.new.self c.args.wave
    c.match-remove.places c.put-put.new.self
    (elim c.match-remove.branch [
      | in-Some x ↦ inl (sym (c.reserve.ensures.entries.2 c.args.wave) ∙ sym x.in-Some.ensures.value
          ∙ ap (λ y. Some y) (sym x.places-is))
      | in-None x ↦ inr (sym (c.reserve.ensures.entries.2 c.args.wave) ∙ sym x.in-None.ensures.value)
    ])
    (λ q. c.remove.ensures.updates.0 q ∙ ap (λ es. cond (nat_eq c.args.wave q) None es)
    (c.reserve.ensures.entries.2 q))
    c.insert.ensures.updates c.put-put.ensures.kept w n r p h
