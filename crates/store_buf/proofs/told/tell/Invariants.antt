use Rattle.std.proofs.Common.{◌≡◌, ◌+◌, ◌++◌, drop}
use Rattle.smallvec.specs.SmallVec.{small_vec_len}
use Rattle.ws_isa.specs.Image.{tokens_to}
use Rattle.df_core.specs.Rights.{tokens_of}
use Rattle.store_buf.proofs.told.tell.Given as goal

abbrev pub invariant-loop-dest : goal.invariant-loop-dest
invariant-loop-dest l = record {
  tokens : tokens_of l.told.items ++ tokens_to l.wave l.word (drop l.dest-index l.dests) ≡ tokens_of
      l.initial.told.items ++ tokens_to l.wave l.word l.dests;
  len : small_vec_len l.told ≡ small_vec_len l.initial.told + l.dest-index;
  room : l.told.capacity ≡ l.initial.told.capacity;
}
