use Rattle.std.proofs.Common.{Some, sym, ap, ◌∙◌}
use Rattle.ws_isa.specs.Image.{ports_of}
use Rattle.df_core.specs.Core.{is_full, with_at}
use Rattle.df_core.specs.Places.{image_of}
use Rattle.df_core.specs.Partial.{partial_of}
use Rattle.df_core.proofs.Parts.Arriving.{ports_is_op}
use Rattle.df_core.proofs.quiet.fills.Goals as goal

pub returns : goal.returns
returns c =
    let t = c.args.token in
    c.is_filled.ensures
    ∙ ap (is_full
    (with_at t.wave t.instr t.port (Some t.value)
    (partial_of c.args.slots.now.slots.items c.args.slots.now.spill)) t.wave t.instr)
    (c.ports.ensures ∙ ap ports_of c.op.ensures ∙ sym (ports_is_op (image_of c.args.program.now) t.instr))
