use Rattle.std.proofs.Common.{◌≤◌, length, List, subst, sym, refl, arith}
use Rattle.ws_isa.specs.declared.instr.Dest.{Dest}
use Rattle.df_core.specs.Places.{image_of}
use Rattle.df_core.proofs.Walked.Few.{few}
use Rattle.df_core.proofs.Sizes.Rooms.{room_sent}
use Rattle.df_core.proofs.flow.Flow.fire.Goals as goal

pub send-requires-clause-now : goal.send-requires-clause-now
send-requires-clause-now c =
    let f : length c.destinations-dests.result.now ≤ 8 = subst (λ (ds : List Dest). length ds ≤ 8)
    (sym c.destinations-dests.ensures) (few (image_of c.args.program.now) c.requires.formed c.args.instr
    c.selector.result) in
    omega (arith, f, c.requires.now)

pub send-requires-clause-later : goal.send-requires-clause-later
send-requires-clause-later c =
    let f : length c.destinations-dests.result.now ≤ 8 = subst (λ (ds : List Dest). length ds ≤ 8)
    (sym c.destinations-dests.ensures) (few (image_of c.args.program.now) c.requires.formed c.args.instr
    c.selector.result) in
    omega (arith, f, c.requires.later)

pub returns-after-is_advance-clause-weight : goal.returns-after-is_advance-clause-weight
returns-after-is_advance-clause-weight c =
    let f : length c.destinations-dests.result.now ≤ 8 = subst (λ (ds : List Dest). length ds ≤ 8)
    (sym c.destinations-dests.ensures) (few (image_of c.args.program.now) c.requires.formed c.args.instr
    c.selector.result) in
    omega (arith, f, c.send.ensures.both)

pub returns-after-is_advance-clause-room : goal.returns-after-is_advance-clause-room
returns-after-is_advance-clause-room c = λ n r.
    let f : length c.destinations-dests.result.now ≤ 8 = subst (λ (ds : List Dest). length ds ≤ 8)
    (sym c.destinations-dests.ensures) (few (image_of c.args.program.now) c.requires.formed c.args.instr
    c.selector.result) in
    room_sent c.args.self.now _ (length c.destinations-dests.result.now) n f refl refl refl refl
    c.send.ensures.both c.send.ensures.now_room c.send.ensures.later_room r
