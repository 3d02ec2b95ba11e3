use Rattle.std.proofs.Common.{◌-◌, arith, refl}
use Rattle.df_core.specs.Places.{image_of}
use Rattle.df_core.proofs.Parts.Look.{block_none, block_is, block_past}
use Rattle.df_core.proofs.program.Program.block.Goals as goal

pub returns-then-number-eq0 : goal.returns-then-number-eq0
returns-then-number-eq0 c = block_none (image_of c.args.self.now) c.args.number c.if-number-eq0.true

pub returns-then-at-len : goal.returns-then-at-len
returns-then-at-len c = let bs = c.args.self.now.image.now.blocks in
    block_is (image_of c.args.self.now) bs.items refl c.args.number (c.args.number - 1) c.index.result.now
    (omega arith) (omega (arith, bs.ok.0)) c.index.ensures

pub returns-else-at-len : goal.returns-else-at-len
returns-else-at-len c = let bs = c.args.self.now.image.now.blocks in
    block_past (image_of c.args.self.now) bs.items refl c.args.number (c.args.number - 1) (omega arith)
    (omega (arith, bs.ok.0))
