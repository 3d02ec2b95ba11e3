use Rattle.src_parse.proofs.Loops.{named_assigns, named_stores, named_calls}
use Rattle.src_parse.proofs.simple.named_after.Goals as goal

pub returns-in-Some-clause-read : goal.returns-in-Some-clause-read
returns-in-Some-clause-read c =
    rw (named_assigns c.args.name c.args.lexemes.now c.in-Some.rest.now c.in-Some.ensures.some)
    c.assigned.ensures.read

pub returns-in-Some-after_mark-clause-read : goal.returns-in-Some-after_mark-clause-read
returns-in-Some-after_mark-clause-read c =
    rw (named_stores c.args.name c.args.lexemes.now c.in-Some-after_mark.rest.now
    c.in-Some-after_mark.ensures.some c.in_default.ensures.none) c.stored.ensures.read

pub returns-in-Some-after_mark-2-clause-read : goal.returns-in-Some-after_mark-2-clause-read
returns-in-Some-after_mark-2-clause-read c =
    rw (named_calls c.args.name c.args.lexemes.now c.in-Some-after_mark-2.rest.now
    c.in-Some-after_mark-2.ensures.some c.in_default.ensures.none c.in_default-after_mark.ensures.none)
    c.call.ensures.read
