use Rattle.std.proofs.Common.{sym, subst}
use Rattle.src_ast.specs.View as ast
use Rattle.wave_link.specs.Numbered.{NumberedInOrder}
use Rattle.wave_link.specs.Ripples.{ExactRipples}
use Rattle.wave_build.specs.Compiled.{ShowsArrays, DoesAs, KeepsBound, HasDraft}
use Rattle.wave_build.proofs.optimizer.compile_optimized.Goals as goal

pub returns-clause-arrays : goal.returns-clause-arrays
returns-clause-arrays c = subst (ShowsArrays (ast.parts c.args.accepted.now.program.items.items))
    (sym c.from_sound.ensures) c.in_ok-made.ensures.arrays

pub returns-clause-walk : goal.returns-clause-walk
returns-clause-walk c = subst (DoesAs (ast.parts c.args.accepted.now.program.items.items))
    (sym c.from_sound.ensures) c.in_ok-made.ensures.walk

pub returns-clause-numbers : goal.returns-clause-numbers
returns-clause-numbers c = subst NumberedInOrder (sym c.from_sound.ensures) c.in_ok-made.ensures.numbers

pub returns-clause-ripples : goal.returns-clause-ripples
returns-clause-ripples c = subst ExactRipples (sym c.from_sound.ensures) c.in_ok-made.ensures.ripples

pub returns-clause-draft : goal.returns-clause-draft
returns-clause-draft c = subst HasDraft (sym c.from_sound.ensures) c.in_ok-made.ensures.draft

pub returns-clause-cost : goal.returns-clause-cost
returns-clause-cost c = subst (KeepsBound (ast.parts c.args.accepted.now.program.items.items))
    (sym c.from_sound.ensures) c.in_ok-made.ensures.cost
