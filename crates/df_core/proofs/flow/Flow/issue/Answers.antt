use Rattle.std.proofs.Common.{◌≡◌, ◌≤◌, ◌<◌, length, List, true, Some, refl, ap, ◌∙◌, subst, sym, arith}
use Rattle.std.specs.List.{swap_remove}
use Rattle.ws_isa.specs.declared.instr.Dest.{Dest}
use Rattle.df_core.specs.Places.{image_of}
use Rattle.df_core.specs.Core.{State, Step, Issue}
use Rattle.df_core.specs.Chains.{chain_of, may_flag}
use Rattle.ws_isa.specs.Image.{selector_of, tokens_to}
use Rattle.df_core.specs.declared.flow.Flow.{Flow}
use Rattle.df_core.specs.Places.{destinations}
use Rattle.df_core.specs.Ways.{SentTo}
use Rattle.df_core.specs.Flows.{all_of, asked_at, no_asked, FlowIs}
use Rattle.df_core.proofs.Walked.Few.{few}
use Rattle.df_core.proofs.Parts.Issuing as I
use Rattle.df_core.proofs.Telling.Bounds.{issue_wave}
use Rattle.df_core.proofs.Sizes.Rooms.{room_issued}
use Rattle.df_core.proofs.flow.Flow.issue.Goals as goal

pub returns-then-is_past-clause-leads : goal.returns-then-is_past-clause-leads
returns-then-is_past-clause-leads c = λ beside world s formed sound h.
    let old = c.args.self.now in
    let a = c.index-asked.result.now in
    let image = image_of c.args.program.now in
    let a_is : a ≡ asked_at old c.args.place = I.or_any old.asked.items c.args.place a no_asked
    c.requires.place c.index-asked.ensures in
    let new : Flow = record {
      slots = old.slots;
      way = old.way;
      asked = old.asked;
      hints = old.hints;
      early = old.early;
      chain = old.chain;
      fault = Some c.array_of.result;
      memory = old.memory;
      fired = old.fired;
    } in
    subst (λ b. (t : State) × Step image s (Issue b.wave b.instr) t × FlowIs image world beside new t) a_is
    (I.issue_stops image world formed sound beside old s h c.args.place a c.requires.place
    c.index-asked.ensures c.requires.running
    (subst (λ b. may_flag image (chain_of old.chain) b.wave b.instr b.operands.first ≡ true) (sym a_is)
    c.requires.may)
    c.op-op.result c.op-op.ensures (sym c.is_past.ensures ∙ c.if-is_past.true) c.array_of.result
    c.array_of.ensures new refl refl refl refl refl refl refl refl)

pub send-requires-clause-now : goal.send-requires-clause-now
send-requires-clause-now c =
    let f : length c.destinations-dests.result.now ≤ 8 = subst (λ (ds : List Dest). length ds ≤ 8)
    (sym c.destinations-dests.ensures) (few (image_of c.args.program.now) c.requires.going.going.formed
    c.index-asked.result.now.instr c.selector.result) in
    omega (arith, f, c.requires.room.now)

pub send-requires-clause-later : goal.send-requires-clause-later
send-requires-clause-later c =
    let f : length c.destinations-dests.result.now ≤ 8 = subst (λ (ds : List Dest). length ds ≤ 8)
    (sym c.destinations-dests.ensures) (few (image_of c.args.program.now) c.requires.going.going.formed
    c.index-asked.result.now.instr c.selector.result) in
    omega (arith, f, c.requires.room.later)

pub returns-clause-leads : goal.returns-clause-leads
returns-clause-leads c = λ beside world s formed sound h.
    let old = c.args.self.now in
    let a = c.index-asked.result.now in
    let image = image_of c.args.program.now in
    let a_is : a ≡ asked_at old c.args.place = I.or_any old.asked.items c.args.place a no_asked
    c.requires.place c.index-asked.ensures in
    let new : Flow = record {
      slots = old.slots;
      way = c.send.new.self;
      asked = c.swap_remove.new.self;
      hints = c.look_again.new.hints;
      early = c.pass_on-self.new.early;
      chain = c.pass_on-self.result;
      fault = old.fault;
      memory = c.run-word.new.self;
      fired = old.fired;
    } in
    let to : c.destinations-dests.result.now ≡ destinations image a.instr
    (selector_of c.op-op.result (all_of a.operands)) = c.destinations-dests.ensures
    ∙ ap (destinations image a.instr) c.selector.ensures in
    let taken : c.swap_remove.result ≡ a = I.or_any old.asked.items c.args.place c.swap_remove.result no_asked
    c.requires.place c.swap_remove.ensures.value ∙ sym a_is in
    let swapped : new.asked.items ≡ swap_remove old.asked.items c.args.place a =
    subst (λ b. new.asked.items ≡ swap_remove old.asked.items c.args.place b) taken
    c.swap_remove.ensures.items in
    subst (λ b. (t : State) × Step image s (Issue b.wave b.instr) t × FlowIs image world beside new t) a_is
    (I.issue_goes image world formed sound beside old s h c.args.place a c.requires.place
    c.index-asked.ensures c.requires.running
    (subst (λ b. may_flag image (chain_of old.chain) b.wave b.instr b.operands.first ≡ true) (sym a_is)
    c.requires.may)
    c.op-op.result c.op-op.ensures (sym c.is_past.ensures ∙ c.if-is_past.false) c.run-word.result new
    c.run-word.ensures.answer refl swapped refl refl c.pass_on-self.ensures.passed
    (subst (λ ds. SentTo old.way c.send.new.self (tokens_to a.wave c.run-word.result ds)) to
    c.send.ensures.sent))

pub returns-clause-weight : goal.returns-clause-weight
returns-clause-weight c =
    let f : length c.destinations-dests.result.now ≤ 8 = subst (λ (ds : List Dest). length ds ≤ 8)
    (sym c.destinations-dests.ensures) (few (image_of c.args.program.now) c.requires.going.going.formed
    c.index-asked.result.now.instr c.selector.result) in
    omega (arith, f, c.send.ensures.both, c.swap_remove.ensures.len)

pub pass_on-self-requires-clause-wave : goal.pass_on-self-requires-clause-wave
pass_on-self-requires-clause-wave c =
    let l : c.args.self.now.chain.wave < c.args.self.now.fired = issue_wave (image_of c.args.program.now)
    c.args.self.now c.args.place c.requires.going c.requires.place c.requires.may in
    omega (arith, c.requires.fired)

pub returns-clause-room : goal.returns-clause-room
returns-clause-room c = λ n r.
    let f : length c.destinations-dests.result.now ≤ 8 = subst (λ (ds : List Dest). length ds ≤ 8)
    (sym c.destinations-dests.ensures) (few (image_of c.args.program.now) c.requires.going.going.formed
    c.index-asked.result.now.instr c.selector.result) in
    room_issued c.args.self.now _ (length c.destinations-dests.result.now) n f refl
    (omega (arith, c.swap_remove.ensures.len)) c.swap_remove.ensures.capacity c.pass_on-self.ensures.fewer
    c.pass_on-self.ensures.room c.run-word.ensures.space
    c.send.ensures.both c.send.ensures.now_room c.send.ensures.later_room r
