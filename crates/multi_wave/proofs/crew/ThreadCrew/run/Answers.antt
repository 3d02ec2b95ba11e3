use Rattle.std.proofs.Common.{Option, ap, subst, sym}
use Rattle.multi_wave.specs.Fours.{Fourfold}
use Rattle.multi_wave.specs.Parts.{Alone, PortsReady}
use Rattle.multi_wave.proofs.crew.ThreadCrew.run.Goals as goal

pub open-requires-clause-part : goal.open-requires-clause-part
open-requires-clause-part g c = ap (λ (p : Fourfold (Option Alone)). p.first) c.requires.named

pub open-requires-2-clause-part : goal.open-requires-2-clause-part
open-requires-2-clause-part g c = ap (λ (p : Fourfold (Option Alone)). p.second) c.requires.named

pub open-requires-3-clause-part : goal.open-requires-3-clause-part
open-requires-3-clause-part g c = ap (λ (p : Fourfold (Option Alone)). p.third) c.requires.named

pub open-requires-4-clause-part : goal.open-requires-4-clause-part
open-requires-4-clause-part g c = ap (λ (p : Fourfold (Option Alone)). p.fourth) c.requires.named

pub open-requires-clause-ready : goal.open-requires-clause-ready
open-requires-clause-ready g c =
    subst (λ (p : Fourfold (Option Alone)). PortsReady p.first) (sym c.requires.named) c.requires.ready.0

pub open-requires-2-clause-ready : goal.open-requires-2-clause-ready
open-requires-2-clause-ready g c =
    subst (λ (p : Fourfold (Option Alone)). PortsReady p.second) (sym c.requires.named) c.requires.ready.1

pub open-requires-3-clause-ready : goal.open-requires-3-clause-ready
open-requires-3-clause-ready g c =
    subst (λ (p : Fourfold (Option Alone)). PortsReady p.third) (sym c.requires.named) c.requires.ready.2

pub open-requires-4-clause-ready : goal.open-requires-4-clause-ready
open-requires-4-clause-ready g c =
    subst (λ (p : Fourfold (Option Alone)). PortsReady p.fourth) (sym c.requires.named) c.requires.ready.3
