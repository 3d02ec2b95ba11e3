use Rattle.std.proofs.Common.{arith, rules, sym, ◌∙◌}
use Rattle.std.proofs.lemmas.Result.{err_from_is_err_and}
use Rattle.src_lex.proofs.Reached.{past_gap_at, past_lexeme_at, all_read, wrong_here, beyond_here}
use Rattle.src_lex.proofs.text.read.Goals as goal

pub place_after-finish-requires-clause-line : goal.place_after-finish-requires-clause-line
place_after-finish-requires-clause-line c =
    (past_gap_at _ c.loop-alloc.invariant c.split_at.ensures.front c.split_at.ensures.back
    c.gap_length.ensures.gap c.place_after-place.ensures.following).line

pub place_after-finish-requires-clause-column : goal.place_after-finish-requires-clause-column
place_after-finish-requires-clause-column c =
    (past_gap_at _ c.loop-alloc.invariant c.split_at.ensures.front c.split_at.ensures.back
    c.gap_length.ensures.gap c.place_after-place.ensures.following).column

pub place_after-finish-requires-clause-room : goal.place_after-finish-requires-clause-room
place_after-finish-requires-clause-room c =
    let r = past_gap_at _ c.loop-alloc.invariant c.split_at.ensures.front c.split_at.ensures.back
    c.gap_length.ensures.gap c.place_after-place.ensures.following in
    omega (arith, r.room)

pub returns-then-is_end-clause-found : goal.returns-then-is_end-clause-found
returns-then-is_end-clause-found c =
    let r = past_gap_at _ c.loop-alloc.invariant c.split_at.ensures.front c.split_at.ensures.back
    c.gap_length.ensures.gap c.place_after-place.ensures.following in
    all_read r (sym c.is_end.ensures ∙ c.if-is_end.true) c.place_after-finish.ensures.following

pub returns-in_err-shape-clause-refused : goal.returns-in_err-shape-clause-refused
returns-in_err-shape-clause-refused c =
    let r = past_gap_at _ c.loop-alloc.invariant c.split_at.ensures.front c.split_at.ensures.back
    c.gap_length.ensures.gap c.place_after-place.ensures.following in
    let p = err_from_is_err_and c.from_residual.result c.from_residual.ensures.1 in
    rw (p.1, p.2) (wrong_here _ r c.in_err-shape.ensures.refused)

pub returns-in_err-counts-clause-refused : goal.returns-in_err-counts-clause-refused
returns-in_err-counts-clause-refused c =
    let r = past_gap_at _ c.loop-alloc.invariant c.split_at.ensures.front c.split_at.ensures.back
    c.gap_length.ensures.gap c.place_after-place.ensures.following in
    let p = err_from_is_err_and c.from_residual-in_err-counts.result
    c.from_residual-in_err-counts.ensures.1 in
    rw (p.1, p.2) (beyond_here _ r c.in_ok-shape.ensures.read c.in_ok-shape.ensures.short
    c.in_err-counts.ensures.refused)

pub place_after-place-requires-in-loop-alloc-clause-line :
    goal.place_after-place-requires-in-loop-alloc-clause-line
place_after-place-requires-in-loop-alloc-clause-line c =
    (past_gap_at _ c.loop-alloc.invariant c.split_at.ensures.front c.split_at.ensures.back
    c.gap_length.ensures.gap c.place_after-place.ensures.following).line

pub place_after-place-requires-in-loop-alloc-clause-column :
    goal.place_after-place-requires-in-loop-alloc-clause-column
place_after-place-requires-in-loop-alloc-clause-column c =
    (past_gap_at _ c.loop-alloc.invariant c.split_at.ensures.front c.split_at.ensures.back
    c.gap_length.ensures.gap c.place_after-place.ensures.following).column

pub place_after-place-requires-in-loop-alloc-clause-room :
    goal.place_after-place-requires-in-loop-alloc-clause-room
place_after-place-requires-in-loop-alloc-clause-room c =
    let r = past_gap_at _ c.loop-alloc.invariant c.split_at.ensures.front c.split_at.ensures.back
    c.gap_length.ensures.gap c.place_after-place.ensures.following in
    let s = c.split_at-in-loop-alloc.ensures in
    omega (arith, r.room, s.front_len, s.back_len, c.in_ok-shape.ensures.read.within)

pub loop-alloc-preserved : goal.loop-alloc-preserved
loop-alloc-preserved c =
    let r = past_gap_at _ c.loop-alloc.invariant c.split_at.ensures.front c.split_at.ensures.back
    c.gap_length.ensures.gap c.place_after-place.ensures.following in
    let s = c.split_at-in-loop-alloc.ensures in
    past_lexeme_at r c.in_ok-shape.ensures.read c.in_ok-shape.ensures.short s.front s.back
    c.place_after-place-in-loop-alloc.ensures.following (search rules) c.in_ok-counts.ensures.depth
    c.in_ok-counts.ensures.row
