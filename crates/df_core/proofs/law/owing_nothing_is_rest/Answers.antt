use Rattle.df_core.proofs.Telling.Owing.{rests}
use Rattle.df_core.proofs.law.owing_nothing_is_rest.Goals as goal

pub returns : goal.returns
returns c = λ image tables buffer owes none. rests image tables buffer owes none
