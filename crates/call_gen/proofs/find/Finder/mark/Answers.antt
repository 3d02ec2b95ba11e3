use Rattle.std.proofs.Common.{◌≡◌, ◌<◌, false, length, arith}
use Rattle.std.proofs.lemmas.Grind.{common_steps}
use Rattle.call_gen.proofs.Parted.Marking.{marks_one}
use Rattle.call_gen.proofs.find.Finder.mark.Goals as goal
use Rattle.ws_words.specs.Items.{flag_at}

pub returns-in_ok-push : goal.returns-in_ok-push
returns-in_ok-push c =
    let b = c.args.b in let flags = c.args.self.now.flags.items in let waits = c.args.self.now.waits.items in
    let lt : b < length flags = grind (arith, common_steps) in
    let off : flag_at flags b ≡ false = grind (arith, common_steps) in
    rw c.in_ok-push.ensures.items (marks_one flags waits b lt off)
