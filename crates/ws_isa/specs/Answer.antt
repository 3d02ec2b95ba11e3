-- What the walk of a draft or an image answers.
use Rattle.std.specs.Prelude.{◌≡◌, ℕ, ◌≤◌, ◌↔◌, ◌⊎◌, true, length}
use Rattle.ws_words.specs.Outside.{World, printed_words}
use Rattle.ws_words.specs.Plain.{took_by_ports}
use Rattle.ws_isa.specs.Image.{Image}
use Rattle.ws_isa.specs.Walk.{mem, walk, CostAtMost}
use Rattle.ws_isa.specs.Operations.{fault_among}
use Rattle.ws_isa.specs.declared.walk.Walked.{Walked}

-- it reports the first so many instances of the walk, or all of them if there are fewer
pub record WalkedSo (image : Image) (world : World) (firings : ℕ) (w : Walked) : Type 0 where
  pub steps : ℕ
  pub fired : w.fired ≡ length (walk image world steps)
  pub within : w.fired ≤ firings
  pub full : (w.fired ≡ firings) ⊎ CostAtMost image world w.fired
  pub printed : w.printed ≡ printed_words (mem image world steps).acts
  pub arrays : w.arrays ≡ (mem image world steps).cells
  pub took : w.took ≡ took_by_ports (mem image world steps).acts
  pub fault : w.fault ≡ fault_among image (walk image world steps)
  pub whole : (w.whole ≡ true) ↔ CostAtMost image world firings
