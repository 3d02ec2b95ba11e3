use Rattle.std.proofs.Common.{◌+◌, ◌-◌, [], ◌∷◌, refl, arith}
use Rattle.df_core.specs.Places.{image_of}
use Rattle.df_core.specs.Ways.{token_of}
use Rattle.df_core.specs.declared.flow.Flow.{Flow}
use Rattle.df_core.proofs.Parts.Driving.{alone, takes_on, taken_going, going_on, follows_on}
use Rattle.df_core.proofs.Sizes.Steady.{same_parts, room_taken, room_less}
use Rattle.df_core.proofs.drive.match_next.Goals as goal

pub arrive-requires-clause-going : goal.arrive-requires-clause-going
arrive-requires-clause-going c = alone (image_of c.args.program.now) (token_of c.in-Some.token ∷ []) _
    (taken_going (image_of c.args.program.now) c.args.flow.now c.args.flow.now _ c.in-Some.token
    (same_parts c.args.flow.now) c.in-Some.ensures.taken refl refl refl refl refl refl refl c.requires.going)

pub arrive-requires-clause-room : goal.arrive-requires-clause-room
arrive-requires-clause-room c = room_taken c.args.flow.now _ 1 refl refl refl refl c.in-Some.ensures.fewer
    c.in-Some.ensures.room c.requires.room

pub issue_last-requires-clause-going : goal.issue_last-requires-clause-going
issue_last-requires-clause-going c =
    let b = c.args.flow.now in
    let mid : Flow = record {
      slots = b.slots;
      way = c.take.new.self;
      asked = b.asked;
      hints = b.hints;
      early = b.early;
      chain = b.chain;
      fault = b.fault;
      memory = b.memory;
      fired = b.fired;
    } in
    going_on (image_of c.args.program.now) b c.arrive.new.self c.requires.going
    (takes_on (image_of c.args.program.now) b b mid c.arrive.new.self c.in-Some.token (same_parts b)
    c.in-Some.ensures.taken refl refl refl refl refl refl refl c.arrive.ensures.leads)

pub issue_last-requires-clause-room : goal.issue_last-requires-clause-room
issue_last-requires-clause-room c =
    let b = c.args.flow.now in
    room_less c.arrive.new.self (1 + b.fired - c.arrive.new.self.fired) 0 (omega arith)
    (c.arrive.ensures.room 1 (1 + b.fired - c.arrive.new.self.fired)
    (omega (arith, c.arrive.ensures.count.0, c.arrive.ensures.count.1))
    (room_taken b _ 1 refl refl refl refl c.in-Some.ensures.fewer c.in-Some.ensures.room c.requires.room))

pub issue_next-requires-clause-going : goal.issue_next-requires-clause-going
issue_next-requires-clause-going c =
    let b = c.args.flow.now in
    let mid : Flow = record {
      slots = b.slots;
      way = c.take.new.self;
      asked = b.asked;
      hints = b.hints;
      early = b.early;
      chain = b.chain;
      fault = b.fault;
      memory = b.memory;
      fired = b.fired;
    } in
    going_on (image_of c.args.program.now) b c.issue_last.new.flow c.requires.going
    (follows_on (image_of c.args.program.now) b c.arrive.new.self c.issue_last.new.flow
    (takes_on (image_of c.args.program.now) b b mid c.arrive.new.self c.in-Some.token (same_parts b)
    c.in-Some.ensures.taken refl refl refl refl refl refl refl c.arrive.ensures.leads)
    c.issue_last.ensures.follows)

pub issue_next-requires-clause-room : goal.issue_next-requires-clause-room
issue_next-requires-clause-room c =
    let b = c.args.flow.now in
    c.issue_last.ensures.room 0 (room_less c.arrive.new.self (1 + b.fired - c.arrive.new.self.fired) 0
    (omega arith)
    (c.arrive.ensures.room 1 (1 + b.fired - c.arrive.new.self.fired)
    (omega (arith, c.arrive.ensures.count.0, c.arrive.ensures.count.1))
    (room_taken b _ 1 refl refl refl refl c.in-Some.ensures.fewer c.in-Some.ensures.room c.requires.room)))

pub returns-then-len-waiting-clause-follows : goal.returns-then-len-waiting-clause-follows
returns-then-len-waiting-clause-follows c =
    let b = c.args.flow.now in
    let mid : Flow = record {
      slots = b.slots;
      way = c.take.new.self;
      asked = b.asked;
      hints = b.hints;
      early = b.early;
      chain = b.chain;
      fault = b.fault;
      memory = b.memory;
      fired = b.fired;
    } in
    follows_on (image_of c.args.program.now) b c.issue_last.new.flow c.issue_next.new.flow
    (follows_on (image_of c.args.program.now) b c.arrive.new.self c.issue_last.new.flow
    (takes_on (image_of c.args.program.now) b b mid c.arrive.new.self c.in-Some.token (same_parts b)
    c.in-Some.ensures.taken refl refl refl refl refl refl refl c.arrive.ensures.leads)
    c.issue_last.ensures.follows)
    c.issue_next.ensures.follows

pub returns-then-len-waiting-clause-room : goal.returns-then-len-waiting-clause-room
returns-then-len-waiting-clause-room c = λ n m e r. c.issue_next.ensures.room m
    (c.issue_last.ensures.room m
    (c.arrive.ensures.room n m (omega (arith, e, c.issue_last.ensures.count, c.issue_next.ensures.count))
    (room_taken c.args.flow.now _ n refl refl refl refl c.in-Some.ensures.fewer c.in-Some.ensures.room r)))

pub returns-else-len-waiting-clause-follows : goal.returns-else-len-waiting-clause-follows
returns-else-len-waiting-clause-follows c =
    let b = c.args.flow.now in
    let mid : Flow = record {
      slots = b.slots;
      way = c.take.new.self;
      asked = b.asked;
      hints = b.hints;
      early = b.early;
      chain = b.chain;
      fault = b.fault;
      memory = b.memory;
      fired = b.fired;
    } in
    takes_on (image_of c.args.program.now) b b mid c.arrive.new.self c.in-Some.token (same_parts b)
    c.in-Some.ensures.taken refl refl refl refl refl refl refl c.arrive.ensures.leads

pub returns-else-len-waiting-clause-room : goal.returns-else-len-waiting-clause-room
returns-else-len-waiting-clause-room c = λ n m e r. c.arrive.ensures.room n m e
    (room_taken c.args.flow.now _ n refl refl refl refl c.in-Some.ensures.fewer c.in-Some.ensures.room r)
