use Rattle.std.proofs.Common.{◌≡◌, sym, subst, ◌∙◌, arith}
use Rattle.ws_words.specs.Plain.{world_of}
use Rattle.ws_isa.specs.Image as plain
use Rattle.ws_isa.specs.View as view
use Rattle.ws_isa.specs.Formed.{Formed, most_blocks}
use Rattle.ws_isa.specs.Sound.{Sound}
use Rattle.df_core.specs.Places.{image_of}
use Rattle.df_core.specs.Answer.{RunSo}
use Rattle.df_core.specs.Told.{run_of}
use Rattle.df_core.proofs.Telling.Saying.{opened_none, answers, whole}
use Rattle.df_core.proofs.Sizes.Fine.{ok_so}
use Rattle.df_core.proofs.whole.run_checked.Goals as goal
use Rattle.ws_words.proofs.Lists.{length_map}

pub of-requires : goal.of-requires
unfolding most_blocks
of-requires c =
    let formed : Formed (view.image c.image.result.now) = subst Formed (sym c.image.ensures.image)
    c.image.ensures.formed in
    record { few = omega (arith, formed.few_blocks, length_map view.block c.image.result.now.blocks.items) }

pub run_on-requires-clause-fired : goal.run_on-requires-clause-fired
run_on-requires-clause-fired c =
    let e : image_of c.in_ok-program.program ≡ c.args.image.now = c.in_ok-program.ensures.image
    ∙ c.image.ensures.image in
    let formed : Formed (image_of c.in_ok-program.program) = subst Formed (sym e) c.image.ensures.formed in
    let sound : Sound (image_of c.in_ok-program.program) = subst Sound (sym e) c.image.ensures.sound in
    let none : c.in_ok-flow.flow.fired ≡ 0 = opened_none (image_of c.in_ok-program.program)
    (world_of c.args.world.now) c.in_ok-flow.flow (c.in_ok-flow.ensures.opening sound formed) in
    omega arith

pub returns : goal.returns
returns c =
    let e : image_of c.in_ok-program.program ≡ c.args.image.now = c.in_ok-program.ensures.image
    ∙ c.image.ensures.image in
    let formed : Formed (image_of c.in_ok-program.program) = subst Formed (sym e) c.image.ensures.formed in
    let sound : Sound (image_of c.in_ok-program.program) = subst Sound (sym e) c.image.ensures.sound in
    let so : RunSo (image_of c.in_ok-program.program) (world_of c.args.world.now) c.args.budget
    (run_of c.in_ok-finish.finish c.run_on.new.flow) =
    whole (image_of c.in_ok-program.program) (world_of c.args.world.now) c.args.budget c.in_ok-finish.finish
    c.run_on.new.flow _
    (answers (image_of c.in_ok-program.program) (world_of c.args.world.now) c.args.budget
    c.in_ok-finish.finish c.in_ok-flow.flow c.run_on.new.flow _ formed sound
    (c.in_ok-flow.ensures.opening sound formed) c.in_ok-finish.ensures.within c.in_ok-finish.ensures.finish)
    (c.run_on.ensures.gone ∙ c.in_ok-flow.ensures.gone) in
    ok_so (RunSo c.args.image.now (world_of c.args.world.now) c.args.budget)
    (run_of c.in_ok-finish.finish c.run_on.new.flow) c.run_of.result c.run_of.ensures
    (subst (λ (image : plain.Image). RunSo image (world_of c.args.world.now) c.args.budget
    (run_of c.in_ok-finish.finish c.run_on.new.flow)) e so)
