use Rattle.std.proofs.Common.{ℕ, ◌≡◌, ◌∙◌, ◌&&◌, Bool, true, false, not, cond, List, Option, None, refl, ap}
use Rattle.ws_isa.specs.Image.{instr_at}
use Rattle.store_buf.specs.Requests.{issued_in}
use Rattle.store_buf.specs.Contents.{gives_word}
use Rattle.part_store.specs.declared.entry.Queued.{Queued}
use Rattle.part_store.specs.Queues.{is_queued}
use Rattle.part_store.proofs.Told.Wholly as W
use Rattle.part_store.proofs.quiet.QuietMemoryOrder.word.Goals as goal

unqueued : (b : Bool) (o : Option ℕ) → cond (b && not false) o None ≡ cond b o None
unqueued true o = refl
unqueued false o = refl

pub returns : goal.returns
returns g c =
    let inner = c.self.inside.inner in
    let b = gives_word (instr_at g.J.Job.image c.args.instr).op in
    let o = issued_in inner.kept c.args.wave c.args.instr in
    rw (← c.self.view_is) (c.word.ensures ∙ ap (λ (es : List Queued). cond (b && not (is_queued es c.args.wave
    c.args.instr)) o None) (W.empty inner c.self.invariant.0 c.facts.ensures.parted.1) ∙ unqueued b o)
