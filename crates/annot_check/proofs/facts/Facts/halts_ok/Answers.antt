use Rattle.std.proofs.Common.{◌∙◌, sym, arith, inl, inr, suc}
use Rattle.ws_isa.specs.View as view
use Rattle.annot_check.proofs.Shaped.Shapes.{halt_begin, halt_next, halt_broken, halt_shape, halt_lacks}
use Rattle.annot_check.proofs.facts.Facts.halts_ok.Goals as goal
use Rattle.ws_words.proofs.Bools.{not_false, not_true}
use Rattle.ws_isa.proofs.Steps.{first_le}

pub loop-at-init : goal.loop-at-init
loop-at-init c = halt_begin (view.image c.args.image.now) c.args.number c.args.first

pub loop-at-preserved : goal.loop-at-preserved
loop-at-preserved c = halt_next
    (view.image c.args.image.now) c.args.number c.args.first c.loop-at.at c.loop-at.halted c.in-Some.next
    c.op.result c.stops_at-stops.result c.loop-at.invariant c.requires.one c.loop-at.auto.at
    (c.op.ensures ∙ c.requires.facts.ops c.loop-at.at) c.stops_at-stops.ensures c.in-Some.ensures.some

pub returns-in-None-clause-no : goal.returns-in-None-clause-no
returns-in-None-clause-no c x shape = halt_broken
    (view.image c.args.image.now) c.args.number c.args.first c.loop-at.at c.loop-at.halted c.op.result
    c.stops_at-stops.result c.loop-at.invariant c.requires.first
    (omega (arith, c.requires.next)) c.loop-at.auto.at (c.op.ensures ∙
    c.requires.facts.ops c.loop-at.at) c.stops_at-stops.ensures c.in-None.ensures.none shape

pub returns-then-halted-ne0-clause-yes : goal.returns-then-halted-ne0-clause-yes
returns-then-halted-ne0-clause-yes c x = halt_shape (view.image c.args.image.now) c.args.number c.args.first
    c.loop-at.at c.loop-at.halted c.loop-at.invariant c.requires.first (omega (
      arith,
      c.requires.next,
      c.requires.first,
      c.loop-at.auto.at,
      c.loop-at.auto.at-end,
      first_le (view.image c.args.image.now)
          c.args.number (suc c.args.number) (omega arith),
    )) c.requires.one (inl (omega arith))

pub returns-clause-yes : goal.returns-clause-yes
returns-clause-yes c x = halt_shape (view.image c.args.image.now) c.args.number c.args.first c.loop-at.at
    c.loop-at.halted c.loop-at.invariant c.requires.first (omega (
      arith,
      c.requires.next,
      c.requires.first,
      c.loop-at.auto.at,
      c.loop-at.auto.at-end,
      first_le (view.image c.args.image.now) c.args.number (suc
          c.args.number) (omega arith),
    )) c.requires.one (inr (sym c.stops_at-stops.ensures ∙ not_true _ x))

pub returns-clause-no : goal.returns-clause-no
returns-clause-no c x shape = halt_lacks (view.image c.args.image.now) c.args.number c.args.first c.loop-at.at
    c.loop-at.halted c.loop-at.invariant c.requires.first (omega (
      arith,
      c.requires.next,
      c.requires.first,
      c.loop-at.auto.at,
      c.loop-at.auto.at-end,
      first_le (view.image c.args.image.now) c.args.number (suc
          c.args.number) (omega arith),
    )) c.requires.one (omega arith) (sym c.stops_at-stops.ensures ∙ not_false _ x)
    shape
