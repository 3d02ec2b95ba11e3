use Rattle.std.proofs.Common.{◌∙◌, ap}
use Rattle.df_core.specs.Places.{image_of}
use Rattle.df_core.specs.Rights.{tokens_of}
use Rattle.part_store.proofs.Moving.Draining as D
use Rattle.part_store.proofs.parts.Parts.complete.Goals as goal

pub returns-clause-leads : goal.returns-clause-leads
returns-clause-leads g c = λ world began formed sound right calm idle.
    let image = image_of c.args.program.now in
    let old = c.args.self.now in
    let mid = c.put_data.new.self in
    let d = c.drain.new.self in
    let new = c.settle.new.self in
    let k = c.args.kept in
    let t0 = tokens_of c.make_room.new.told.items in
    let t1 = tokens_of c.drain.new.told.items in
    let t2 = tokens_of c.settle.new.told.items in
    let empty = ap tokens_of (c.make_room.ensures.items ∙ c.requires.told) in
    let filled = c.put_data.ensures.filled in
    let drains = c.drain.ensures.leads in
    let same = c.drain.ensures.same in
    let lead = c.settle.ensures.lead in
    let told = D.told image world began formed sound old mid d new k t0 t1 t2 filled drains same lead empty
    c.requires.running c.requires.working right calm in (
      D.calm_new image world began formed sound old mid d new k t0 t1 t2 filled drains same lead empty
          c.requires.running c.requires.working right calm,
      rw told (D.right_new image world began formed sound old mid d new
          k t0 t1 t2 filled drains same lead empty c.requires.running c.requires.working right calm),
      rw told (D.said image world began formed sound old mid d new k t0 t1 t2 filled drains same lead empty
          c.requires.running c.requires.working right calm c.settle.result c.settle.ensures.settled),
    )

pub drain-requires-clause-filed : goal.drain-requires-clause-filed
drain-requires-clause-filed g c = let f = c.put_data.ensures.filed (image_of c.args.program.now)
    c.requires.filed in record {
      filed = f.filed;
      stores = f.stores;
    }
