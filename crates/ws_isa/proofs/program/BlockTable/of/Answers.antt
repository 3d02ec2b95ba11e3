use Rattle.std.proofs.Common.{◌≡◌, suc, length, map, sym, ap, ◌∙◌, arith}
use Rattle.std.proofs.lemmas.List.{length-map}
use Rattle.std.proofs.lemmas.Grind.{get_or_default_zero}
use Rattle.ws_isa.specs.Image.{first_of, flat}
use Rattle.ws_isa.specs.View as view
use Rattle.ws_isa.proofs.Blocks.{first_last}
use Rattle.ws_isa.proofs.program.BlockTable.of.Goals as goal

pub invariant_of-result : goal.invariant_of-result
invariant_of-result c =
    let blocks = c.args.blocks.now in
    let firsts = c.in_ok-firsts.firsts.items in
    let long : length firsts ≡ suc (length blocks) = c.in_ok-firsts.ensures.length in
    let total : c.index-total.result.now ≡ suc (length (flat (map view.block blocks))) =
    c.index-total.ensures ∙ get_or_default_zero firsts (length blocks) c.index-total.result.now (omega arith)
    ∙ c.in_ok-firsts.ensures.numbers (length blocks) (omega arith)
    ∙ ap (first_of (map view.block blocks)) (sym (length-map blocks view.block))
    ∙ first_last (map view.block blocks) in
    record {
      listed = record {
        firsts_length = long;
        firsts_are = c.in_ok-firsts.ensures.numbers;
        total_is = total;
        small = omega (arith, c.if-total.false);
      };
    }
