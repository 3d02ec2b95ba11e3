use Rattle.std.proofs.Common.{◌≡◌, Err, refl, ap}
use Rattle.wsc_words.specs.declared.line.WordsFault.TheVariants.{Usage}
use Rattle.stream_top.specs.Calls as ends
use Rattle.stream_top.proofs.call.wss.Goals as goal

pub returns-in-Err-Usage-clause-ends : goal.returns-in-Err-Usage-clause-ends
returns-in-Err-Usage-clause-ends g c =
    let same : c.in-Err-Usage.field-0 ≡ Usage = cc in
    c.put.ensures _ _ (ends.IsAnswer.usage (c.in-Err-Usage.ensures.usage (ap Err same)) refl)

pub returns-in-Err-Usage-clause-caused : goal.returns-in-Err-Usage-clause-caused
returns-in-Err-Usage-clause-caused g c =
    let same : c.in-Err-Usage.field-0 ≡ Usage = cc in
    c.each_status_has_its_cause.ensures _ _ _ _
    (c.put.ensures _ _ (ends.IsAnswer.usage (c.in-Err-Usage.ensures.usage (ap Err same)) refl))

pub returns-in-Err-NoMemory-clause-ends : goal.returns-in-Err-NoMemory-clause-ends
returns-in-Err-NoMemory-clause-ends g c = ends.CallEnds.starved refl refl
