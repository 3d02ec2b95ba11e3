use Rattle.multi_wave.proofs.Homes.{out_back}
use Rattle.multi_wave.proofs.shelf.take_back.Goals as goal

pub returns : goal.returns
returns g c = (
  out_back _ _ _ _ c.requires.0 c.put_back.ensures.rest c.put_back.ensures.limits
      c.put_back.ensures.taker,
  out_back _ _ _ _ c.requires.1 c.put_back-2.ensures.rest c.put_back-2.ensures.limits
      c.put_back-2.ensures.taker,
  out_back _ _ _ _ c.requires.2 c.put_back-3.ensures.rest c.put_back-3.ensures.limits
      c.put_back-3.ensures.taker,
  out_back _ _ _ _ c.requires.3 c.put_back-4.ensures.rest c.put_back-4.ensures.limits
      c.put_back-4.ensures.taker,
)
