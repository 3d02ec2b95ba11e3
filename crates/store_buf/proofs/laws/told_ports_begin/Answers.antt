use Rattle.store_buf.proofs.Failing.{begins, rose_at}
use Rattle.store_buf.proofs.laws.told_ports_begin.Goals as goal

pub returns : goal.returns
returns c = record {
  begin = begins;
  rose = rose_at;
}
