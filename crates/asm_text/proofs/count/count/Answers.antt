use Rattle.std.proofs.Common.{◌<◌, arith}
use Rattle.ws_isa.specs.Formed.{most_waves}
use Rattle.asm_text.proofs.Keeping.Counts.{waves_few}
use Rattle.asm_text.proofs.count.count.Goals as goal

pub overflow_add-state : goal.overflow_add-state
unfolding most_waves
overflow_add-state c =
    let h : c.args.state.now.waves < most_waves = waves_few c.args.state.now _
    (rw c.in-Wave.is at c.requires.within) in omega arith
