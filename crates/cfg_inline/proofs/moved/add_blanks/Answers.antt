use Rattle.std.proofs.Common.{◌+◌, ◌-◌, ◌++◌, ◌∷◌, List, [], map, ap, sym, ◌∙◌, append_assoc, arith}
use Rattle.ws_words.proofs.Lists.{map_append}
use Rattle.cfg_core.specs.Graph as plain
use Rattle.cfg_core.specs.View as view
use Rattle.cfg_inline.specs.Inlined.{assigns, blanks}
use Rattle.cfg_inline.proofs.Blanks.{next_blank}
use Rattle.cfg_inline.proofs.moved.add_blanks.Goals as goal

pub loop-i-preserved : goal.loop-i-preserved
loop-i-preserved c =
    let before : List plain.Op = map view.op c.loop-i.ops.items in
    let rest : List plain.Term = blanks (c.args.n - (c.loop-i.i + 1)) in
    ap (λ xs. map view.op xs ++ assigns c.in_ok-x.x rest) c.in_ok-push.ensures.items
    ∙ ap (λ (zs : List plain.Op). zs ++ assigns c.in_ok-x.x rest)
    (map_append view.op c.loop-i.ops.items (_ ∷ []))
    ∙ append_assoc before (plain.Assign c.loop-i.x (plain.Number 0) ∷ []) (assigns c.in_ok-x.x rest)
    ∙ ap (λ m. before ++ plain.Assign c.loop-i.x (plain.Number 0) ∷ assigns m rest) c.in_ok-x.ensures
    ∙ ap (λ (zs : List plain.Op). before ++ zs)
    (sym (next_blank c.loop-i.x c.args.n c.loop-i.i (omega (arith, c.loop-i-test.true))))
    ∙ c.loop-i.invariant
