use Rattle.std.proofs.lemmas.List.Elements.{recursion_from_All}
use Rattle.port_set.specs.Slots.{IsOpen, contents}
use Rattle.port_set.specs.Tape.{tape_tells}
use Rattle.wsc_tests.proofs.replies.stay_open.Goals as goal

pub returns : goal.returns
returns c = recursion_from_All IsOpen (contents tape_tells c.args.ports.now) c.requires
