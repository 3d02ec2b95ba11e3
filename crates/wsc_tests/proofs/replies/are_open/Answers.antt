use Rattle.std.proofs.lemmas.List.Elements.{All-from_recursion}
use Rattle.port_set.specs.Slots.{IsOpen, contents}
use Rattle.port_set.specs.Tape.{tape_tells}
use Rattle.wsc_tests.proofs.replies.are_open.Goals as goal

pub returns : goal.returns
returns c = All-from_recursion IsOpen (contents tape_tells c.args.ports.now) c.requires
