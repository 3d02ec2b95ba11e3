use Rattle.std.proofs.Common.{◌≡◌, ◌-◌, suc, arith}
use Rattle.ws_isa.proofs.Looking.{array_found, array_past}
use Rattle.ws_isa.proofs.program.BlockTable.length_of.Goals as goal

pub returns-in-Some : goal.returns-in-Some
returns-in-Some c =
    let l = c.in-Some.ensures.lookup in
    let s : c.args.array ≡ suc (c.args.array - 1) = omega arith in
    array_found c.args.self.now.arrays.now c.args.array (c.args.array - 1) c.in-Some.array.now s (l.3).0 l.1

pub returns-in-None : goal.returns-in-None
returns-in-None c =
    let s : c.args.array ≡ suc (c.args.array - 1) = omega arith in
    array_past c.args.self.now.arrays.now c.args.array (c.args.array - 1) s c.in-None.ensures.lookup.3
