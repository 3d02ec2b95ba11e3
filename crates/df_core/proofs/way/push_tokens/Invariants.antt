use Rattle.std.proofs.Common.{◌≡◌, ◌+◌, ◌++◌, map, drop, vec_len, vec_capacity}
use Rattle.ws_isa.specs.Image.{tokens_to}
use Rattle.df_core.specs.Ways.{token_of}
use Rattle.df_core.proofs.way.push_tokens.Given as goal

abbrev pub invariant-loop-dest : goal.invariant-loop-dest
invariant-loop-dest l = record {
  tokens : map token_of l.tokens.items ++ tokens_to l.wave l.word (drop l.dest-index l.dests) ≡ map token_of
      l.initial.tokens.items ++ tokens_to l.wave l.word l.dests;
  len : vec_len l.tokens ≡ vec_len l.initial.tokens + l.dest-index;
  room : vec_capacity l.tokens ≡ vec_capacity l.initial.tokens;
}
