use Rattle.std.proofs.Common.{ℕ, sym, subst}
use Rattle.part_store.specs.Parted.{IsAddressed}
use Rattle.part_store.proofs.Running.After as A
use Rattle.part_store.proofs.part.kept_address.Goals as goal

pub returns-clause-right : goal.returns-clause-right
returns-clause-right g c = subst (λ (x : ℕ × ℕ × ℕ). IsAddressed g.J.Job.image g.J.Job.world x.0 x.1 x.2) (λ
    j. (sym c.wave.ensures.wave j, sym c.instr.ensures j, sym c.value.ensures j)) (A.is_address _ _ _
    c.wave.ensures.right c.requires.store c.requires.port)
