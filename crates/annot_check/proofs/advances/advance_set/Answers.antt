use Rattle.std.proofs.Common.{◌∙◌, sym, arith}
use Rattle.annot_check.specs.declared.open.Open.{Open}
use Rattle.annot_check.specs.Open.{OpenOk}
use Rattle.annot_check.proofs.Slotted.Held.{shut_look, slots_blank}
use Rattle.annot_check.proofs.advances.advance_set.Goals as goal

blank_ok : (o : Open) → OpenOk o → OpenOk (record o { set = 0 })
blank_ok o k = record {
  nodes = k.nodes;
  there = omega (arith, k.nodes.room);
  depth = k.depth;
  room = k.room;
  small = k.small;
  order = k.order;
  high = k.high;
  local = k.local;
}

pub open_advances-requires-clause-blank : goal.open_advances-requires-clause-blank
open_advances-requires-clause-blank c = shut_look _ (blank_ok c.args.held.now c.requires.ok) c.requires.shut ∙
    slots_blank c.args.held.now.sets.nodes.items c.args.held.now.depth c.requires.ok.nodes

pub returns-clause-advances : goal.returns-clause-advances
returns-clause-advances c = sym (shut_look c.open_advances.new.held c.in_ok-open_advances.ensures.ok
    (c.open_advances.ensures.low ∙ (c.requires.shut ∙ sym c.in_ok-open_advances.ensures.moved.high))) ∙
    c.in_ok-open_advances.ensures.opened
