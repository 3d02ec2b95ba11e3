-- What is seen of a part of a run.
use Rattle.std.specs.Prelude.{Bool, true, false, List}
use Rattle.ws_words.specs.Outside.{Act}
use Rattle.src_ast.specs.Turns.{PartEnd, Ended, Out, CallEnd, Returned, Stopped}

-- its acts, and whether it needs a turn
abbrev pub seen : PartEnd → List Act × Bool
seen (Ended s left) = (s.out.acts, false)
seen (Out o) = (o.acts, true)

-- the same of a call
abbrev pub call_seen : CallEnd → List Act × Bool
call_seen (Returned v o left) = (o.acts, false)
call_seen (Stopped o) = (o.acts, true)
