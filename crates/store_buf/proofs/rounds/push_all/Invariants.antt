use Rattle.std.proofs.Common.{◌≡◌, ◌≤◌, ◌+◌, ◌++◌, length, vec_capacity, vec_len}
use Rattle.store_buf.proofs.rounds.push_all.Given as goal

abbrev pub invariant-loop-token : goal.invariant-loop-token
invariant-loop-token g l = record {
  items : l.tokens.items ++ l.sent ≡ l.initial.tokens.items ++ l.initial.sent;
  room : vec_len l.tokens + length l.sent ≤ vec_capacity l.tokens;
}

abbrev pub decreases-loop-token : goal.decreases-loop-token
decreases-loop-token g l = length l.sent
