-- Worked rows: what the definitions give for the samples, by computing.
use Rattle.std.proofs.Common.{◌≡◌, refl, []}
use Rattle.ws_words.specs.Outside.{World}
use Rattle.cfg_core.specs.Graph.{spot_at, proc_at, entry_of, no_spot, no_proc}
use Rattle.cfg_core.specs.Walk.{walk, opening}
use Rattle.cfg_core.specs.Samples.{calls_twice}
use Rattle.cfg_inline.specs.Inlined.{inlined}
use Rattle.cfg_inline.specs.Samples.{all, calls_once, calls_none}

abbrev world : World
world = record { input = []; left = [] }

-- the inner call is inlined
pub once : inlined (all 3) calls_twice ≡ calls_once
unfolding spot_at proc_at entry_of no_spot no_proc
once = refl

-- then the outer one
pub none : inlined (all 6) calls_once ≡ calls_none
unfolding spot_at proc_at entry_of no_spot no_proc
none = refl

-- where there is no room, nothing changes but the room
pub no_room : (inlined (all 0) calls_twice) ≡ calls_twice
unfolding spot_at proc_at entry_of no_spot no_proc
no_room = refl

-- the walks end alike, in fewer blocks
pub walks_alike : walk calls_none 2 (opening calls_none world 2) ≡ walk calls_twice 5 (opening calls_twice
    world 2)
unfolding spot_at proc_at entry_of no_spot no_proc
walks_alike = refl
