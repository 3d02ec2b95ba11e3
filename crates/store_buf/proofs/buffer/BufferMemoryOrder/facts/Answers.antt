use Rattle.std.proofs.Common.{◌≡◌, All, Some, None, false, subst}
use Rattle.store_buf.specs.Requests.{entry_of}
use Rattle.store_buf.specs.Finding.{place_in}
use Rattle.store_buf.proofs.Once.{own}
use Rattle.store_buf.specs.Contents.{Content, FailedSo, Idle}
use Rattle.store_buf.proofs.buffer.BufferMemoryOrder.facts.Goals as goal

pub returns-clause-idle : goal.returns-clause-idle
returns-clause-idle g c = subst (λ (x : Content). x.failed ≡ None → x.starved ≡ false → Idle g.J.Job.image x)
    c.self.view_is c.self.invariant.idle

pub returns-clause-once : goal.returns-clause-once
returns-clause-once g c = subst (λ (x : Content). All (λ k. entry_of x.kept k.wave k.instr ≡ Some k) x.kept)
    c.self.view_is
    (let o = c.self.inside.store.order in own o.kept.items (place_in o.kept.items o.index) o.ok.index)

pub returns-clause-failed : goal.returns-clause-failed
returns-clause-failed g c =
    subst (FailedSo g.J.Job.image g.J.Job.began) c.self.view_is c.self.invariant.failed
