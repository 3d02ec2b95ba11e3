use Rattle.std.proofs.Common.{◌∙◌, inl, sym, refl}
use Rattle.annot_check.specs.Seen.{order_image, lasts_at}
use Rattle.annot_check.proofs.Chained.Leaving.{end_breach, end_goes, end_stops}
use Rattle.annot_check.proofs.Shaped.Edges.{on_ok}
use Rattle.annot_check.proofs.links.WaveLinks.end.Goals as goal

pub returns-in-Some-clause-refused : goal.returns-in-Some-clause-refused
returns-in-Some-clause-refused c = end_breach
    (order_image c.args.self.now) c.args.number c.args.lasts.now c.in-Some.bad c.requires.comes
    (inl (sym c.stops_at.ensures ∙ c.if-not-stops_at.false)) c.in-Some.ensures.some

pub returns-in-None-clause-left : goal.returns-in-None-clause-left
returns-in-None-clause-left c = end_stops (order_image c.args.self.now)
    (lasts_at c.args.self.now.table.items) c.args.number c.args.lasts.now (sym c.stops_at.ensures ∙
    c.if-not-stops_at.false) c.in-None.ensures.none

pub returns-then-not-stops_at-clause-left : goal.returns-then-not-stops_at-clause-left
returns-then-not-stops_at-clause-left c = on_ok c.leave.result c.leave.ensures.left c.leave.ensures.ready
    (λ s r. end_goes (order_image c.args.self.now) (lasts_at c.args.self.now.table.items)
    (lasts_at c.leave.new.self.table.items) c.args.number _ c.args.lasts.now (sym c.stops_at.ensures ∙
    c.if-not-stops_at.true) refl s)
