use Rattle.std.proofs.Common.{◌≡◌, ◌++◌, take}
use Rattle.ws_isa.specs.Image.{tokens_to}
use Rattle.df_core.proofs.list.TokenList.send.Given as goal

abbrev pub invariant-loop-dest : goal.invariant-loop-dest
invariant-loop-dest g l = l.self ≡ l.initial.self ++ tokens_to l.wave l.word (take l.dest-index l.dests)
