-- The opening buffer.
use Rattle.std.proofs.Common.{◌≡◌, List, [], Option, arith}
use Rattle.ws_words.specs.Outside.{World}
use Rattle.ws_isa.specs.Image.{Image}
use Rattle.ws_isa.specs.Walk.{opening_memory}
use Rattle.df_core.specs.Core.{State, Reach, Once}
use Rattle.df_core.specs.Fit.{Fit, Grounded}
use Rattle.port_set.specs.Ports.{Told}
use Rattle.df_core.specs.Began.{Began}
use Rattle.store_buf.specs.Earlies.{early_ops}
use Rattle.store_buf.specs.Outdoors.{AllBegan}
use Rattle.store_buf.proofs.Opening as O
use Rattle.part_store.specs.declared.parts.Parts.{Parts}
use Rattle.part_store.specs.Contents.{opening_content}
use Rattle.part_store.specs.Parted.{Fronts, Parting}
use Rattle.part_store.specs.Rules.{NoRule}
use Rattle.part_store.specs.Parts.{PartsOk, PartsFiled, content_of, PartsStanding}

module _ (image : Image) (world : World) (began : List (Option Began))
    (reach : (state : State) → Reach image world state →
    Fit image world state × Grounded image world state × Once state.fired) (ports : List (Option Told))
    (all : AllBegan began world.left ports) where
  opening_parting : Parting image world began (opening_content image world ports)
  unfolding opening_memory
  opening_parting = grind (arith, O.opening_is image world began reach ports all)

  opening_fronts : Fronts (opening_content image world ports)
  opening_fronts e r j h = absurd (cc (h))

  opening_rule : NoRule image (opening_content image world ports)
  opening_rule = grind arith

  module _ {P : Type 0} where
    pub opening_stands : (s : Parts P) → PartsOk s → PartsFiled image s → (early_ops s.order.early) ≡ [] →
        content_of s ≡ opening_content image world ports → PartsStanding image world began s
    opening_stands s ok filed early is = grind (arith, opening_parting, opening_fronts, opening_rule)
