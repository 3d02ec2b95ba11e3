use Rattle.std.proofs.Common.{◌≡◌, ◌==◌, ◌∙◌, ◌-◌, suc, true, arith}
use Rattle.std.proofs.lemmas.Bool.Decides.{nat_tests}
use Rattle.ws_isa.specs.Shows.{image_of}
use Rattle.ws_isa.proofs.Looking.{block_read, starts_one, starts_other}
use Rattle.ws_isa.proofs.program.BlockTable.starts.Goals as goal

pub returns-then-place-eq0 : goal.returns-then-place-eq0
returns-then-place-eq0 c =
    let e : (c.args.place == 0) ≡ true = grind (arith, nat_tests) in
    e ∙ starts_one (image_of c.args.self.now) c.args.place c.if-place-eq0.true

pub returns-else-place-eq0 : goal.returns-else-place-eq0
returns-else-place-eq0 c =
    let blocks = c.args.self.now.blocks.now in
    let s : c.args.place ≡ suc (c.args.place - 1) = omega arith in
    starts_other (image_of c.args.self.now) c.args.place (c.args.place - 1) _ _ s
    (block_read blocks (c.args.place - 1) _ (omega arith))
    (block_read blocks c.args.place _ (omega arith))
