use Rattle.job_read.proofs.TextAnswers.{text_once}
use Rattle.job_read.proofs.laws.each_text_is_a_job_or_refused.Goals as goal

pub returns : goal.returns
returns c text = text_once text c.each_text_is_lexed_once.ensures c.lexemes_are_parsed_once.ensures
    c.each_program_is_checked_once.ensures
