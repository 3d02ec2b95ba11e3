use Rattle.stream_top.proofs.Asked.{one_asking}
use Rattle.stream_top.proofs.laws.words_ask_once.Goals as goal

pub returns : goal.returns
returns c = one_asking
