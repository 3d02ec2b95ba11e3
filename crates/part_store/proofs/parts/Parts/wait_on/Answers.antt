use Rattle.std.proofs.Common.{ℕ, ◌-◌, ◌≡◌, ◌∙◌, ap, arith}
use Rattle.ws_isa.specs.declared.instr.Op.{Op}
use Rattle.ws_isa.specs.Image.{Image, instr_at, note_of, array_at, array_of_op}
use Rattle.df_core.specs.Places.{image_of}
use Rattle.store_buf.specs.declared.kept.Kept.{Kept}
use Rattle.store_buf.specs.Ordering.{kept_at}
use Rattle.store_buf.proofs.Counted as C
use Rattle.part_store.specs.declared.entry.Queued.{Queued}
use Rattle.part_store.specs.Queues.{joined}
use Rattle.part_store.proofs.Moving.Turning as U
use Rattle.part_store.proofs.parts.Parts.wait_on.Goals as goal

pub join-requires-clause-room : goal.join-requires-clause-room
join-requires-clause-room g c = let s = C.some_wait _ _ _ c.requires.may in
    omega (arith, s, c.requires.ok.queues)

pub join-requires-clause-lines : goal.join-requires-clause-lines
join-requires-clause-lines g c = let s = C.some_wait _ _ _ c.requires.may in
    omega (arith, s, c.requires.ok.lines)

pub returns-clause-ok : goal.returns-clause-ok
returns-clause-ok g c = let o = c.args.self.now.order in record {
  early = c.issue.ensures.room;
  printed = omega (arith, c.issue.ensures.fewer, c.requires.ok.printed);
  queues =
      omega (arith, c.issue.ensures.fewer, c.requires.ok.queues, c.join.ensures.more, c.join.ensures.room);
  lines = omega (arith, c.issue.ensures.fewer, c.requires.ok.lines, c.join.ensures.lines);
  counted = c.join.ensures.ok;
  bare = λ w i e. U.still_kept (image_of c.args.program.now) o c.args.place c.requires.may.within 0
      c.issue.new.self.kept.items c.issue.ensures.kept w i (c.requires.ok.bare w i e);
}

row_so : (image : Image) (op : Op) (k m : Kept) (row : ℕ) → row ≡ array_of_op op - 1 →
    op ≡ (instr_at image k.instr).op → k ≡ m → row ≡ array_at image m.instr - 1
unfolding array_at
row_so image op k m row e f q = e ∙ ap (λ (x : Op). array_of_op x - 1) f
    ∙ ap (λ (x : Kept). array_of_op (instr_at image x.instr).op - 1) q

pub returns-clause-queued : goal.returns-clause-queued
returns-clause-queued g c =
    let image = image_of c.args.program.now in
    let q : c.request-kept.result ≡ kept_at c.args.self.now.order c.args.place = c.request-kept.ensures in
    let r : c.row_of.result ≡ array_at image (kept_at c.args.self.now.order c.args.place).instr - 1 = row_so _
    _ _ _ _ c.row_of.ensures c.op.ensures q in
    let n : c.note.result.seq ≡ (note_of image (kept_at c.args.self.now.order c.args.place).instr).seq =
    ap (λ (x : _). x.seq) c.note.ensures ∙ ap (λ (x : Kept). (note_of image x.instr).seq) q in
    c.join.ensures.entries ∙ ap (λ (e : Queued). joined e c.args.self.now.queues.entries.items)
    (λ j. record { wave = (q j).wave; instr = (q j).instr; seq = n j; row = r j; index = (q j).first })
