use Rattle.std.proofs.Common.{arith}
use Rattle.df_core.proofs.Sizes.Sends.{all_right}
use Rattle.part_store.proofs.Running.After as A
use Rattle.part_store.proofs.part.PartBuffer.address_into.Goals as goal

pub invariant_of-self : goal.invariant_of-self
invariant_of-self g c = (A.address_told _ _ _ _ c.program.ensures.image c.program.ensures.formed
    c.program.ensures.sound _ _ _ _ _ _ c.kept_address-kept.ensures.kept c.address.ensures.ok
    c.address.ensures.filed c.self.invariant c.kept_address-kept.ensures.right c.address.ensures.leads).0

pub invariant_of-answers : goal.invariant_of-answers
invariant_of-answers g c = (
  (let e = c.answers.invariant.0 in let k = c.clear.ensures.capacity in let m = c.address.ensures.room in
      omega (arith, e, k, m)),
  all_right _ _ _ (A.address_told _ _ _ _ c.program.ensures.image c.program.ensures.formed
      c.program.ensures.sound _ _ _ _ _ _ c.kept_address-kept.ensures.kept c.address.ensures.ok
      c.address.ensures.filed c.self.invariant c.kept_address-kept.ensures.right c.address.ensures.leads).1,
)

pub returns : goal.returns
returns g c = A.addressed_as _ _ _ _ _ _ (rw (← c.self.view_is) (A.address_told _ _ _ _
    c.program.ensures.image c.program.ensures.formed c.program.ensures.sound _ _ _ _ _ _
    c.kept_address-kept.ensures.kept c.address.ensures.ok c.address.ensures.filed c.self.invariant
    c.kept_address-kept.ensures.right c.address.ensures.leads).2)
