use Rattle.std.proofs.Common.{List, get_or, ap, ◌∙◌}
use Rattle.ws_isa.specs.declared.image.Pad as isa_pad
use Rattle.wave_gen.specs.Wire.{Target, Wants, dests_of}
use Rattle.wave_gen.specs.Plans.{pads_of}
use Rattle.wave_gen.specs.Numbered.{number_at}
use Rattle.wave_gen.proofs.Tables.Numberings.{pads_next}
use Rattle.wave_gen.proofs.draft.pads.Goals as goal

pub loop-place-preserved : goal.loop-place-preserved
loop-place-preserved c =
    let f = number_at c.args.numbers.now in let xs = c.args.names.now in let i = c.loop-place.place in
    let p : isa_pad.Pad = record { number = c.in_ok-number.number; dests = c.in_ok-dests.dests } in
    let dests = c.in_ok-dests.ensures ∙ ap (λ (l : List Target). dests_of f l)
    (c.list.ensures ∙ ap (λ (w : Wants). w (get_or xs i 0)) c.in_ok-table.ensures) in
    pads_next f c.args.block i c.args.entries.now xs c.loop-place.pads.items c.push.new.self.items p
    (pads_of f c.args.block 0 c.args.entries.now xs) c.loop-place-test.true c.in_ok-push.ensures.items
    (λ j. record { number = c.in_ok-number.ensures j; dests = dests j }) c.loop-place.invariant
