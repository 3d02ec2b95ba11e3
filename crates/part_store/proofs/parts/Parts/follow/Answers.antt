use Rattle.std.proofs.Common.{arith, ◌∙◌}
use Rattle.df_core.specs.Places.{image_of}
use Rattle.df_core.specs.Rights.{tokens_of}
use Rattle.part_store.proofs.Moving.Followed as F
use Rattle.part_store.proofs.parts.Parts.follow.Goals as goal

pub loop-entry-init : goal.loop-entry-init
loop-entry-init g c = grind (arith, F.none_yet)

pub finish_front-requires-clause-first : goal.finish_front-requires-clause-first
finish_front-requires-clause-first g c = F.on_its_cell _ _ _ _ c.in-Some.ensures.some.0

pub loop-entry-preserved : goal.loop-entry-preserved
loop-entry-preserved g c =
    let a = c.loop-entry.invariant.same in
    let b = c.finish_front.ensures.same in
    record {
      ok = c.finish_front.ensures.ok;
      filed = c.finish_front.ensures.filed;
      lead = F.one_more (image_of c.args.program.now) c.args.row c.args.index c.in-Some.entry c.args.self.now
          c.loop-entry.self c.finish_front.new.self (tokens_of c.args.told.now.items)
          (tokens_of c.loop-entry.told.items) (tokens_of c.finish_front.new.told.items)
          c.loop-entry.invariant.lead c.finish_front.ensures.leads c.in-Some.ensures.some.0
          c.in-Some.ensures.some.1 a.fault c.finish_front.ensures.queued b.bare;
      same = grind arith;
      room = c.finish_front.ensures.room;
      same_room = c.finish_front.ensures.same_room ∙ c.loop-entry.invariant.same_room;
    }
