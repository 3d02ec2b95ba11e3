use Rattle.std.proofs.Common.{sym, ap, subst, refl, arith}
use Rattle.smallvec.specs.SmallVec.{small_vec_len}
use Rattle.df_core.specs.Places.{image_of}
use Rattle.df_core.specs.Rights.{tokens_of}
use Rattle.store_buf.specs.Earlies.{early_ops}
use Rattle.store_buf.specs.Ordering.{FiledBut}
use Rattle.store_buf.proofs.Counted as C
use Rattle.store_buf.proofs.Served as V
use Rattle.store_buf.proofs.store.Store.serve_at.Goals as goal

pub issue-requires-clause-filed : goal.issue-requires-clause-filed
issue-requires-clause-filed g c = let image = image_of c.args.program.now in
    subst (FiledBut image c.push.new.self) (sym c.requires.place)
    (c.push.ensures.filed image c.requires.ok.filed)

pub tell-requires : goal.tell-requires
tell-requires g c = let r = c.requires in let p = c.push.ensures in
    C.room_for (image_of c.args.program.now) r.formed c.destinations.result.now c.args.kept.instr
    c.destinations.ensures c.push.new.self c.args.place
    (V.may_last (image_of c.args.program.now) c.args.self.now.order c.push.new.self c.args.kept
    c.args.place r.place p.kept p.chain r.waits r.lets) (small_vec_len c.args.told.now)
    c.args.told.now.capacity (let w = p.waiting in let m = r.room in omega (arith, w, m))

pub returns-clause-room : goal.returns-clause-room
returns-clause-room g c = let r = c.requires in let p = c.push.ensures in
    let left = C.room_left (image_of c.args.program.now) r.formed c.destinations.result.now
    c.args.kept.instr c.destinations.ensures c.push.new.self c.args.place
    (V.may_last (image_of c.args.program.now) c.args.self.now.order c.push.new.self c.args.kept
    c.args.place r.place p.kept p.chain r.waits r.lets) (small_vec_len c.args.told.now)
    c.args.told.now.capacity (let w = p.waiting in let m = r.room in omega (arith, w, m))
    (small_vec_len c.tell.new.told) c.issue.new.self.waiting c.tell.ensures.count c.issue.ensures.fewer in
    let q = c.tell.ensures.room in omega (arith, q, left)

pub returns-clause-leads : goal.returns-clause-leads
returns-clause-leads g c =
    let image = image_of c.args.program.now in
    let r = c.requires in
    let p = c.push.ensures in
    let s = c.args.self.now in
    let mid = record s { order = c.push.new.self } in (
      mid,
      record {
        kept_are = p.kept;
        chain = p.chain;
        early = ap early_ops p.early;
        outer = refl;
        fault = refl;
        failed = refl;
        starved = refl;
      },
      V.leads image mid (record s { order = c.issue.new.self; outer = c.run.new.self }) c.args.place
          (V.may_last image s.order c.push.new.self c.args.kept c.args.place r.place p.kept p.chain r.waits
          r.lets) c.args.kept
          (sym (V.last_is image s.order c.push.new.self c.args.kept c.args.place r.place p.kept p.chain))
          c.op-op.result c.op-op.ensures
          (V.is_within image c.args.kept c.op-op.result c.op-op.ensures r.cell) c.in-Ok.word
          c.in-Ok.ensures.answer r.going r.going c.issue.ensures.kept c.issue.ensures.passed
          c.destinations.result.now c.destinations.ensures (tokens_of c.args.told.now.items)
          (tokens_of c.tell.new.told.items) c.tell.ensures.tokens,
    )
