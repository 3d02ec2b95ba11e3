use Rattle.std.proofs.Common.{◌∙◌, refl, sym}
use Rattle.annot_check.proofs.Chained.Visiting.{enter_first}
use Rattle.annot_check.proofs.links.WaveLinks.enter.Goals as goal

pub returns-then-starts_wave-clause-entered : goal.returns-then-starts_wave-clause-entered
returns-then-starts_wave-clause-entered c =
    enter_first c.args.self.now _ c.args.number c.requires.ok c.requires.block (sym c.starts_wave.ensures ∙
    c.if-starts_wave.true) refl refl (rw c.first_block.ensures refl) c.no_numbers.ensures
