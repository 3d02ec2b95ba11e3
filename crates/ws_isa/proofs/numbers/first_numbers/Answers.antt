use Rattle.std.proofs.Common.{◌≡◌, [], map, suc, length, drop, ap, ◌∙◌, arith}
use Rattle.std.proofs.lemmas.List.{drop_all, length-map}
use Rattle.ws_isa.specs.View as view
use Rattle.ws_isa.proofs.Counting.{whole_length, whole_at}
use Rattle.ws_isa.proofs.numbers.first_numbers.Goals as goal

pub returns-clause-length : goal.returns-clause-length
returns-clause-length c =
    let blocks = c.args.blocks.now in
    let none : map view.block (drop c.loop-block.block-index blocks) ≡ [] =
    ap (map view.block) (drop_all c.loop-block.block-index blocks c.loop-block-test.false) in
    whole_length (map view.block blocks) _ c.loop-block.numbers.items _ c.loop-block.next
    c.in_ok-push-2.ensures.items none c.loop-block.invariant
    ∙ ap suc (length-map blocks view.block)

pub returns-clause-numbers : goal.returns-clause-numbers
returns-clause-numbers c b l =
    let blocks = c.args.blocks.now in
    let none : map view.block (drop c.loop-block.block-index blocks) ≡ [] =
    ap (map view.block) (drop_all c.loop-block.block-index blocks c.loop-block-test.false) in
    let long : length (map view.block blocks) ≡ length blocks = length-map blocks view.block in
    whole_at (map view.block blocks) _ c.loop-block.numbers.items _ c.loop-block.next
    c.in_ok-push-2.ensures.items none c.loop-block.invariant b (omega arith)
