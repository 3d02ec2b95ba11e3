use Rattle.std.proofs.Common.{suc, true, refl, ap}
use Rattle.ws_isa.specs.Image.{Block}
use Rattle.ws_isa.specs.View as view
use Rattle.ws_isa.specs.Shows.{image_of}
use Rattle.ws_isa.proofs.Ending.{stopped}
use Rattle.ws_isa.proofs.Programs.{stops_is, next_inside, next_ahead, next_at}
use Rattle.ws_isa.proofs.walker.Walker.leave.Goals as goal

pub cross-requires-clause-next : goal.cross-requires-clause-next
cross-requires-clause-next c =
    next_inside c.args.program.now c.requires.walks c.args.place c.requires.place
    (view.exit c.block.result.now.exit) (ap (λ (b : Block). b.exit) c.block.ensures)
    c.args.self.now.table.results c.in-Some.edge c.in-Some.ensures

pub returns-in-Some-clause-inside : goal.returns-in-Some-clause-inside
returns-in-Some-clause-inside c =
    next_inside c.args.program.now c.requires.walks c.args.place c.requires.place
    (view.exit c.block.result.now.exit) (ap (λ (b : Block). b.exit) c.block.ensures)
    c.args.self.now.table.results c.in-Some.edge c.in-Some.ensures

pub returns-in-Some-clause-ahead : goal.returns-in-Some-clause-ahead
returns-in-Some-clause-ahead c =
    next_ahead c.args.program.now c.requires.walks c.args.place c.requires.place
    (view.exit c.block.result.now.exit) (ap (λ (b : Block). b.exit) c.block.ensures)
    c.args.self.now.table.results c.in-Some.edge c.in-Some.ensures

pub returns-in-Some-clause-walk : goal.returns-in-Some-clause-walk
returns-in-Some-clause-walk c = λ world t at.
    let w = c.args.self.now in
    let x = c.cross.ensures in (
      suc t,
      next_at c.args.program.now c.requires.walks c.args.place c.requires.place
          (view.exit c.block.result.now.exit) (ap (λ (b : Block). b.exit) c.block.ensures) w.table.results
          c.in-Some.edge c.in-Some.ensures
          world t w c.cross.new.self refl at x.operands x.results x.memory x.fired x.fault,
    )

pub returns-in-None-clause-walk : goal.returns-in-None-clause-walk
returns-in-None-clause-walk c = λ world t at.
    stopped (image_of c.args.program.now) world t (suc c.args.place) c.args.self.now at
    (stops_is c.args.program.now c.requires.walks c.args.place c.requires.place
    (view.exit c.block.result.now.exit) (ap (λ (b : Block). b.exit) c.block.ensures) true
    c.in-None.ensures)
