use Rattle.std.proofs.Common.{◌≡◌, ◌-◌, suc, arith}
use Rattle.df_core.proofs.program.Program.length_of.Goals as goal
use Rattle.ws_isa.proofs.Looking.{array_found, array_past}

pub returns-then-at-len : goal.returns-then-at-len
returns-then-at-len c = let xs = c.args.self.now.image.now.arrays in
    let s : c.args.array ≡ suc (c.args.array - 1) = omega arith in
    array_found xs.items c.args.array (c.args.array - 1) c.index.result.now s (omega (arith, xs.ok.0))
    c.index.ensures

pub returns-else-at-len : goal.returns-else-at-len
returns-else-at-len c = let xs = c.args.self.now.image.now.arrays in
    let s : c.args.array ≡ suc (c.args.array - 1) = omega arith in
    array_past xs.items c.args.array (c.args.array - 1) s (omega (arith, xs.ok.0))
