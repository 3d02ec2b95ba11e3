use Rattle.stream_top.proofs.Caused.{caused}
use Rattle.stream_top.proofs.laws.each_status_has_its_cause.Goals as goal

pub returns : goal.returns
returns c = λ words reads writes status ends. caused words reads writes c.words_ask_once.ensures
    c.each_assembly_is_read_or_refused.ensures.one c.each_assembly_is_read_or_refused.ensures.never_both
    status
    ends
