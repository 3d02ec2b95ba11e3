use Rattle.std.proofs.Common.{ap, cond, sym, ◌∙◌}
use Rattle.match_table.specs.Pages.{first_of, second_half, second_wave, seen}
use Rattle.match_table.proofs.Halves.{none_whole, whole_is}
use Rattle.match_table.proofs.pages.Forest.whole.Goals as goal
use Rattle.match_table.proofs.pages.Forest.whole.Goals.{then-half, else-half}

pub returns-in_default : goal.returns-in_default
returns-in_default c = none_whole _ _ _ (sym c.in_default.is ∙ c.requires.half)

pub returns : goal.returns
returns c = let third = first_of (seen
    (record { slots = c.args.self.now.pages.slots; wide = c.args.self.now.wide.items })
    (second_wave c.args.wave) (second_half c.args.wave c.args.instr)) in
    whole_is _ _ _ _ _ _ c.in-Some.is c.requires.half
    (elim c.if-half.branch [
      | then-half w ↦ w.third-is ∙ w.third-third.ensures ∙ ap (λ b. cond b third 0) (sym w.if-half.true)
      | else-half w ↦ w.third-is ∙ ap (λ b. cond b third 0) (sym w.if-half.false)
    ])
