use Rattle.std.proofs.Common.{[], refl}
use Rattle.df_core.specs.Places.{image_of}
use Rattle.store_buf.proofs.Coming as K
use Rattle.store_buf.proofs.store.Store.put_by.Goals as goal

pub returns-in-Ok : goal.returns-in-Ok
returns-in-Ok g c = record {
  leads = λ world began formed sound ask standing.
      K.put_by (image_of c.args.program.now) world began formed sound c.args.self.now c.keep.new.self
      c.args.kept c.requires.fresh c.requires.waits ask c.in-Ok.ensures.keeps c.requires.running
      c.requires.working standing c.keep.ensures.ok c.requires.fed c.requires.held;
}

pub returns-in-Err : goal.returns-in-Err
returns-in-Err g c = record {
  leads = K.not_kept (image_of c.args.program.now) c.args.self.now c.keep.new.self c.args.kept [] refl
      c.in-Err.ensures.unchanged c.keep.ensures.ok c.requires.fresh c.requires.running c.requires.working;
}
