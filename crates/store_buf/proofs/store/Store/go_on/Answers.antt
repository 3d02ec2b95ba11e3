use Rattle.std.proofs.Common.{false, refl, arith}
use Rattle.df_core.specs.Places.{image_of}
use Rattle.df_core.specs.Rights.{tokens_of}
use Rattle.store_buf.proofs.Counted as C
use Rattle.store_buf.proofs.Turns as T
use Rattle.store_buf.proofs.store.Store.go_on.Goals as goal

pub returns-then-waiting-eq0-clause-lead : goal.returns-then-waiting-eq0-clause-lead
returns-then-waiting-eq0-clause-lead g c = let s = c.args.self.now in
    let ts = tokens_of c.args.told.now.items in
    T.in_mind (image_of c.args.program.now) s s s.failed s.failed s.starved false ts ts
    (T.none_yet (image_of c.args.program.now) s ts)

pub returns-then-waiting-eq0-clause-settled : goal.returns-then-waiting-eq0-clause-settled
returns-then-waiting-eq0-clause-settled g c = (
  c.requires.going,
  refl,
  refl,
  λ world began m formed sound stands. C.none_may (image_of c.args.program.now) c.args.self.now.order
      (omega (arith, c.waiting.ensures, c.if-waiting-eq0.true)),
)
