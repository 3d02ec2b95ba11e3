use Rattle.ws_isa.specs.View as view
use Rattle.asm_link.proofs.Opens.{fits}
use Rattle.asm_link.proofs.Leaves.{stays}
use Rattle.asm_link.proofs.Renoted.{lack_back}
use Rattle.asm_link.proofs.linker.with_needed.Goals as goal

pub annotate-requires : goal.annotate-requires
annotate-requires c = record {
  fit = fits (view.draft c.args.draft.now) c.requires.bare c.requires.walkable c.in_ok-fit.ensures.fit;
}

pub returns-in-Err-clause-lacks : goal.returns-in-Err-clause-lacks
returns-in-Err-clause-lacks c = lack_back (view.draft c.args.draft.now) (view.image c.in_ok-made.made)
    c.in-Err.lack c.in_ok-fit.ensures.fit c.in_ok-made.ensures.definition c.in-Err.ensures.lacks

pub returns-in-Ok-clause-formed : goal.returns-in-Ok-clause-formed
returns-in-Ok-clause-formed c = c.in_ok-made.ensures.within c.requires.limits
    (stays (view.draft c.args.draft.now).blocks (view.image c.in_ok-made.made) c.in-Ok.ensures.within)
