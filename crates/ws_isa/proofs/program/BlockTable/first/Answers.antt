use Rattle.std.proofs.Common.{◌≡◌, suc, length, arith}
use Rattle.ws_isa.proofs.Programs.{first_found, first_within}
use Rattle.ws_isa.proofs.program.BlockTable.first.Goals as goal

pub index-requires : goal.index-requires
index-requires c =
    let p = c.args.self.now in
    let e : length p.firsts.items ≡ suc (length p.blocks.now) = p.listed.firsts_length in
    omega (arith, p.firsts.ok.0)

pub returns-clause-number : goal.returns-clause-number
returns-clause-number c = first_found c.args.self.now c.args.place c.index.result.now
    c.requires c.index.ensures

pub returns-clause-within : goal.returns-clause-within
returns-clause-within c =
    let p = c.args.self.now in
    first_within p c.args.place c.index.result.now c.requires
    (first_found p c.args.place c.index.result.now c.requires c.index.ensures)
