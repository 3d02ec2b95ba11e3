use Rattle.std.proofs.Common.{◌++◌, ◌∷◌, [], ap, ◌∙◌}
use Rattle.ws_isa.specs.Image.{Token}
use Rattle.df_core.proofs.Sizes.Sends.{sent_at, sent_behind}
use Rattle.df_core.proofs.list.TokenList.send.Goals as goal

pub right-requires : goal.right-requires
right-requires g c =
    c.requires _ _ _ _ (sent_at c.args.wave c.args.word c.args.dests.now c.loop-dest.dest-index _
    c.loop-dest-test.true)

pub loop-dest-preserved : goal.loop-dest-preserved
loop-dest-preserved g c = c.in_ok-push.ensures.ok ∙ ap (λ (t : Token). c.loop-dest.self ++ t ∷ [])
    c.right.ensures
    ∙ sent_behind c.args.self.now c.loop-dest.self c.args.wave c.args.word c.args.dests.now
    c.loop-dest.dest-index record { instr = 0; port = 0 } c.loop-dest-test.true c.loop-dest.invariant
