use Rattle.std.proofs.Common.{◌-◌, arith}
use Rattle.df_core.specs.Places.{image_of}
use Rattle.df_core.proofs.Parts.Placed.{place_is, place_past, place_zero}
use Rattle.df_core.proofs.program.Program.place.Goals as goal

pub returns-then-number-eq0 : goal.returns-then-number-eq0
returns-then-number-eq0 c = place_zero (image_of c.args.self.now) c.args.number c.if-number-eq0.true

pub returns-then-at-len : goal.returns-then-at-len
returns-then-at-len c = place_is (image_of c.args.self.now) c.args.self.now.places.items
    c.args.self.now.listed c.args.number (c.args.number - 1) c.index.result.now (omega arith)
    (omega (arith, c.args.self.now.places.ok.0)) c.index.ensures

pub returns-else-at-len : goal.returns-else-at-len
returns-else-at-len c = place_past (image_of c.args.self.now) c.args.self.now.places.items
    c.args.self.now.listed c.args.number (c.args.number - 1) (omega arith)
    (omega (arith, c.args.self.now.places.ok.0))
