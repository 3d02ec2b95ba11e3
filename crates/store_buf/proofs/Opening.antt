-- The opening buffer.
use Rattle.std.proofs.Common.{ℕ, ◌≡◌, false, List, [], Option, Some, None, refl, arith}
use Rattle.std.proofs.lemmas.List.{append-nil}
use Rattle.ws_words.specs.Outside.{World}
use Rattle.ws_isa.specs.Image.{Image}
use Rattle.ws_isa.specs.Walk.{opening_memory}
use Rattle.df_core.specs.Core.{State, Reach, Once, core_opening}
use Rattle.df_core.specs.Fit.{Fit, Grounded, Legal}
use Rattle.port_set.specs.Ports.{Told}
use Rattle.df_core.specs.Began.{Began}
use Rattle.store_buf.specs.Earlies.{early_ops}
use Rattle.store_buf.specs.declared.store.Store.{Store}
use Rattle.store_buf.specs.Outdoors.{SlotIs, BeganSo, AllBegan}
use Rattle.store_buf.specs.Contents.{IsBuffer, opening_content}
use Rattle.store_buf.specs.Stores.{StoreOk, Standing, content_of}

slot_is : (b : Option Began) (left : List ℕ) (t : Option Told) → BeganSo b left t → SlotIs b left [] t
slot_is None left None h = h
slot_is None left (Some t) h = absurd h
slot_is (Some b) left None h = absurd h
slot_is (Some b) left (Some t) h = grind (arith, append-nil)

module _ (image : Image) (world : World) (began : List (Option Began))
    (reach : (state : State) → Reach image world state → Fit image world state × Grounded image world state
    × Once state.fired) where
  opening_fit : Fit image world (core_opening image world)
  opening_fit = (reach (core_opening image world) (
    [],
    record {
      held = λ w i p. refl;
      way = λ w i p. refl;
      fired = refl;
      waiting = λ w i. refl;
      issued = λ w i. refl;
      chain = refl;
      stopped = refl;
      memory = refl;
    },
  )).0

  opening_legal : Legal image world (λ w i. None) (λ w i. None) false (record { wave = 1; last = None })
      (opening_memory image world)
  unfolding core_opening
  opening_legal = opening_fit.legal

  pub opening_is : (ports : List (Option Told)) → AllBegan began world.left ports
      → IsBuffer image world began (opening_content image world ports) (opening_memory image world)
  unfolding opening_memory
  opening_is ports all = grind (arith, opening_legal, slot_is)

  module _ {P : Type 0} where
    pub opening_stands : (ports : List (Option Told)) → AllBegan began world.left ports → (s : Store P)
        → StoreOk image s → (early_ops s.order.early) ≡ [] → content_of s ≡ opening_content image world ports
        → Standing image world began s
    opening_stands ports all s ok early is = grind (arith, opening_is)
