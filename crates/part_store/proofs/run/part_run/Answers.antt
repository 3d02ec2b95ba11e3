use Rattle.std.proofs.Common.{List, Option, ap, subst, sym}
use Rattle.ws_words.specs.Outside.{World}
use Rattle.port_set.specs.Slots.{AllOpen, contents}
use Rattle.df_core.specs.Began.{Began}
use Rattle.store_buf.specs.Outdoors.{AllBegan}
use Rattle.part_store.proofs.run.part_run.Goals as goal

pub run_over-requires-clause-ports : goal.run_over-requires-clause-ports
run_over-requires-clause-ports g c = subst (λ (x : List (Option Began) × World). AllBegan x.0 x.1.left
    (contents g.P.Port.tells c.args.ports)) (λ j. (sym c.requires.began j, sym c.requires.world j))
    (c.told_ports_begin.ensures.begin (contents g.P.Port.tells c.args.ports) c.requires.told)

pub returns-in-Err-clause-open : goal.returns-in-Err-clause-open
returns-in-Err-clause-open g c = subst AllOpen
    (sym (ap (λ s. contents g.P.Port.tells s) c.stays.ensures.ports)) c.requires.open
