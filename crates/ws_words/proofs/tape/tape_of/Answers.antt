use Rattle.std.proofs.Common.{◌∙◌}
use Rattle.ws_words.proofs.Held.{got, got_none}
use Rattle.ws_words.proofs.tape.tape_of.Goals as goal

pub returns-in-Some : goal.returns-in-Some
returns-in-Some c = c.new.ensures ∙ c.as_slice.ensures ∙ got c.args.left.now c.args.place c.in-Some.words.now
    c.in-Some.ensures

pub returns-in-None : goal.returns-in-None
returns-in-None c = c.new-in-None.ensures ∙ got_none c.args.left.now c.args.place c.in-None.ensures
