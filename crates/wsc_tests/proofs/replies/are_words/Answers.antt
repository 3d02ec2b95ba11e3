use Rattle.std.proofs.Common.{ℕ, ◌<◌, length, arith}
use Rattle.std.proofs.lemmas.List.Elements.{recursion_from_All, All-from_get_or}
use Rattle.ws_words.specs.Outside.{IsMachineWord}
use Rattle.wsc_tests.proofs.replies.are_words.Goals as goal

pub returns : goal.returns
returns c = recursion_from_All IsMachineWord c.args.words.now
    (All-from_get_or IsMachineWord c.args.words.now 0 (λ (k : ℕ) (h : k < length c.args.words.now).
    omega (arith, c.type_inv.words k)))
