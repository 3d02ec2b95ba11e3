use Rattle.std.proofs.Common.{[], ◌∷◌, ◌+◌, ◌≤◌, refl, sym, ap, subst, vec_len, vec_capacity}
use Rattle.std.proofs.Common.{arith}
use Rattle.df_core.specs.Core.{Match}
use Rattle.df_core.specs.declared.way.Way.{Way}
use Rattle.df_core.specs.Cores.{IsAt, KeepsRoom}
use Rattle.df_core.specs.Places.{image_of}
use Rattle.df_core.specs.Ways.{token_of}
use Rattle.df_core.proofs.Parts.Driving.{alone}
use Rattle.df_core.proofs.Parts.Stepping.{kept_same, not_on_way, same_way, going_match, makes_match}
use Rattle.df_core.proofs.Parts.Turning.{leads_turned}
use Rattle.df_core.proofs.Sizes.Steady.{room_still, room_taken, room_turned}
use Rattle.df_core.proofs.engine.Core.make_match.Goals as goal
use Rattle.df_core.proofs.engine.Core.make_match.Goals.{then-self-via-then-self}
use Rattle.df_core.proofs.engine.Core.make_match.Goals.{then-self-via-else-self+then-is_err}

pub returns-then-not-has-clause-refused : goal.returns-then-not-has-clause-refused
returns-then-not-has-clause-refused c = λ e. not_on_way c.args.self.now c.args.wave c.args.instr c.args.port
    (c.has.ensures c.if-not-has.true)

pub arrive-requires-clause-going : goal.arrive-requires-clause-going
arrive-requires-clause-going c = alone (image_of c.args.self.now.program) (token_of c.in-Some.token ∷ []) _
    (going_match c.args.self.now c.prepare.new.self _ c.args.wave c.args.instr c.args.port c.in-Some.token
    c.prepare.ensures.same c.in-Some.ensures.taken refl refl refl refl refl refl refl c.requires)

pub returns-in-Some-clause-made : goal.returns-in-Some-clause-made
returns-in-Some-clause-made c = makes_match c.args.self.now c.prepare.new.self _ c.args.wave c.args.instr
    c.args.port c.in-Some.token c.prepare.ensures.same c.in-Some.ensures.taken refl refl refl refl refl refl
    refl _ refl
    (leads_turned _ c.arrive.new.self _ c.turn.ensures.turned refl refl refl refl refl refl refl
    (image_of c.args.self.now.program)
    (Match c.in-Some.token.wave c.in-Some.token.instr c.in-Some.token.port) (token_of c.in-Some.token ∷ [])
    c.arrive.ensures.leads)

pub returns-in-None-clause-refused : goal.returns-in-None-clause-refused
returns-in-None-clause-refused c = λ e. not_on_way c.args.self.now c.args.wave c.args.instr c.args.port
    (same_way c.args.self.now.flow c.prepare.new.self c.args.wave c.args.instr c.args.port
    c.prepare.ensures.same c.in-None.ensures.taken.1)

pub returns-then-self-clause-kept : goal.returns-then-self-clause-kept
returns-then-self-clause-kept c = λ image world s at. elim c.then-self.branch [
  | then-self-via-then-self w ↦ subst (λ core. IsAt image world core s) (sym w.self-is) at
  | then-self-via-else-self+then-is_err w ↦ subst (λ core. IsAt image world core s) (sym w.self-is)
      (kept_same c.args.self.now w.prepare.new.self w.prepare.ensures.same image world s at)
]

pub returns-then-not-has-clause-room : goal.returns-then-not-has-clause-room
returns-then-not-has-clause-room c = room_still c.args.self.now.flow c.args.self.now.flow refl (λ n r. r)

pub returns-then-self-clause-room : goal.returns-then-self-clause-room
returns-then-self-clause-room c = elim c.then-self.branch [
  | then-self-via-then-self w ↦ subst (λ core. KeepsRoom c.args.self.now core) (sym w.self-is)
      (room_still c.args.self.now.flow c.args.self.now.flow refl (λ n r. r))
  | then-self-via-else-self+then-is_err w ↦ subst (λ core. KeepsRoom c.args.self.now core) (sym w.self-is)
      (room_still c.args.self.now.flow w.prepare.new.self w.prepare.ensures.same.fired w.prepare.ensures.kept)
]

pub returns-in-Some-clause-room : goal.returns-in-Some-clause-room
returns-in-Some-clause-room c = λ n m e r. room_turned c.arrive.new.self _ m refl refl refl refl
    c.turn.ensures.both c.turn.ensures.room
    (c.arrive.ensures.room n m (omega (arith, e, c.prepare.ensures.same.fired))
    (room_taken c.prepare.new.self _ n refl refl refl refl c.in-Some.ensures.fewer
    (λ k a b. (omega (arith, a, c.in-Some.ensures.now_room), omega (arith, b, c.in-Some.ensures.later_room)))
    (c.prepare.ensures.kept n r)))

pub returns-in-None-clause-room : goal.returns-in-None-clause-room
returns-in-None-clause-room c =
    let same = sym c.in-None.ensures.taken.0 in
    room_still c.args.self.now.flow _ c.prepare.ensures.same.fired
    (λ n r. room_turned c.prepare.new.self _ n refl refl refl refl
    (ap (λ (w : Way). vec_len w.now + vec_len w.later) c.in-None.ensures.taken.0)
    (λ m a b. subst (λ (w : Way). (m ≤ vec_capacity w.now) × (m ≤ vec_capacity w.later)) same (a, b))
    (c.prepare.ensures.kept n r))
