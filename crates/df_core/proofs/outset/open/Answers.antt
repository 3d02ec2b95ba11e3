use Rattle.std.proofs.Common.{map, ◌≤◌, ◌∙◌, length, List, subst, sym, refl, arith}
use Rattle.ws_words.specs.Plain.{world_of}
use Rattle.ws_isa.specs.declared.instr.Dest.{Dest}
use Rattle.ws_words.specs.Outside.{opening_out}
use Rattle.ws_isa.specs.Image.{cells_of, tokens_to}
use Rattle.ws_isa.specs.View as view
use Rattle.df_core.specs.declared.way.Way.{Way}
use Rattle.df_core.specs.Places.{image_of}
use Rattle.df_core.specs.Ways.{SentTo}
use Rattle.df_core.proofs.Parts.Opening.{start_few, opens_so}
use Rattle.df_core.proofs.outset.open.Goals as goal
use Rattle.df_core.specs.Outdoors.{MemoryIs}

pub send-requires-clause-now : goal.send-requires-clause-now
send-requires-clause-now c =
    let f : length c.start.result.now ≤ 8 = subst (λ (ds : List Dest). length ds ≤ 8) (sym c.start.ensures)
    (start_few (image_of c.args.program.now) c.requires.formed) in
    omega (arith, f, c.in_ok-reserve.ensures.ok)

pub send-requires-clause-later : goal.send-requires-clause-later
send-requires-clause-later c =
    let f : length c.start.result.now ≤ 8 = subst (λ (ds : List Dest). length ds ≤ 8) (sym c.start.ensures)
    (start_few (image_of c.args.program.now) c.requires.formed) in
    omega (arith, f, c.in_ok-reserve-2.ensures.ok)

pub returns-clause-opening : goal.returns-clause-opening
returns-clause-opening c = λ sound formed.
    let image = image_of c.args.program.now in
    let old : Way = record { front = 0; now = c.reserve.new.self; later = c.reserve-2.new.self } in
    opens_so image (world_of c.args.world.now) old _ c.saturating_add.result c.in_ok-open.ensures.slots
    c.in_ok-open.ensures.spill (c.reserve.ensures.items ∙ c.new.ensures.items)
    (c.reserve-2.ensures.items ∙ c.new-2.ensures.items)
    (subst (λ ds. SentTo old c.send.new.self (tokens_to 0 0 ds)) c.start.ensures c.send.ensures.sent)
    c.new-3.ensures.items c.new-4.ensures.items refl refl
    (subst (λ xs. MemoryIs (opening_out (cells_of (map view.array xs)) (world_of c.args.world.now))
    c.in_ok-open-2.field-0) c.deref.ensures.value c.in_ok-open-2.ensures.memory) refl sound formed
