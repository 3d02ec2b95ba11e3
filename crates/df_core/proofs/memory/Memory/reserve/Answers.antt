use Rattle.df_core.proofs.Sizes.Rooms.{space_kept}
use Rattle.df_core.proofs.memory.Memory.reserve.Goals as goal

pub returns-clause-kept : goal.returns-clause-kept
returns-clause-kept c = λ n s. space_kept c.args.self.now _ n c.reserve.ensures.len c.reserve.ensures.capacity
    (c.reserve_rows.ensures.kept n) s
