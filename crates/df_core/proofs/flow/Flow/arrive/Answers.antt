use Rattle.std.proofs.Common.{ℕ, zero, suc, ◌≤◌, ◌<◌, arith, ◌≡◌, refl, sym, ap, ◌∙◌, subst, true, false}
use Rattle.ws_isa.specs.Image.{ports, ports_of}
use Rattle.ws_isa.specs.Walk.{Ports, gather}
use Rattle.df_core.specs.Core.{is_full}
use Rattle.df_core.specs.Places.{image_of}
use Rattle.df_core.specs.Partial.{partial_of, listed}
use Rattle.df_core.specs.Matches.{joined}
use Rattle.df_core.proofs.Parts.Arriving.{arrived_waits, arrived_fires, arrival_free, arrival_port}
use Rattle.df_core.proofs.Parts.Arriving.{single_fires}
use Rattle.df_core.proofs.Parts.Arriving.{ports_is_op}
use Rattle.df_core.proofs.Telling.Bounds.{arrival_wave}
use Rattle.df_core.proofs.Sizes.Rooms.{room_put, asked_more}
use Rattle.df_core.proofs.flow.Flow.arrive.Goals as goal

-- the same tokens fill the same instances
full_alike : (f g : Ports) (w i n : ℕ) → ((a b q : ℕ) → f a b q ≡ g a b q)
    → is_full f w i n ≡ is_full g w i n
full_alike f g w i zero h = refl
full_alike f g w i (suc n) h = grind (arith, full_alike f g w i n h, h w i n)

pub returns-then-ports-eq1-clause-leads : goal.returns-then-ports-eq1-clause-leads
returns-then-ports-eq1-clause-leads c = λ beside world s formed sound h.
    let image = image_of c.args.program.now in
    let e = c.fire.ensures in
    let one : ports image c.args.token.instr ≡ 1 = ports_is_op image c.args.token.instr
    ∙ sym (c.ports-ports.ensures ∙ ap ports_of c.op-op.ensures) ∙ c.if-ports-eq1.true in
    single_fires image world formed sound beside c.args.token c.args.self.now s h c.fire.new.self one e.slots
    c.op-op.result c.op-op.ensures e.early e.chain e.fault e.memory e.fired e.asked e.not_sent e.not_asked
    e.sent

pub match_token-requires-clause-port : goal.match_token-requires-clause-port
match_token-requires-clause-port c = let b = c.requires.going in let g = b.going in
    let image = image_of c.args.program.now in
    let n : c.ports-ports.result ≡ ports image c.args.token.instr = c.ports-ports.ensures
    ∙ ap ports_of c.op-op.ensures ∙ sym (ports_is_op image c.args.token.instr) in
    let l : c.args.token.port < ports image c.args.token.instr =
    arrival_port image g.world g.formed g.sound b.beside c.args.token c.args.self.now g.state g.holds in
    omega (arith, l, n)

pub match_token-requires-clause-free : goal.match_token-requires-clause-free
match_token-requires-clause-free c = let b = c.requires.going in let g = b.going in
    arrival_free (image_of c.args.program.now) g.world g.formed g.sound b.beside c.args.token c.args.self.now
    g.state g.holds

pub returns-in-Some-clause-leads : goal.returns-in-Some-clause-leads
returns-in-Some-clause-leads c = λ beside world s formed sound h.
    let image = image_of c.args.program.now in
    let e = c.fire-in-Some.ensures in
    let m = c.in-Some.ensures.matched in
    let old = c.args.self.now.slots in
    let f = joined c.args.token (partial_of old.slots.items old.spill) in
    let n : c.ports-ports.result ≡ ports image c.args.token.instr = c.ports-ports.ensures
    ∙ ap ports_of c.op-op.ensures ∙ sym (ports_is_op image c.args.token.instr) in
    arrived_fires image world formed sound beside c.args.token c.args.self.now c.fire-in-Some.new.self s
    h f (λ a b q. refl)
    (subst (λ k. is_full f c.args.token.wave c.args.token.instr k ≡ true) n m.full)
    (λ a b q. ap (λ x. partial_of x.slots.items x.spill a b q) e.slots ∙ m.left a b q)
    c.op-op.result c.op-op.ensures c.in-Some.operands
    (subst (λ k. listed k c.in-Some.operands ≡ gather f c.args.token.wave c.args.token.instr 0 k) n
    m.operands)
    e.early e.chain e.fault e.memory e.fired e.asked e.not_sent e.not_asked e.sent

pub returns-in_default-clause-leads : goal.returns-in_default-clause-leads
returns-in_default-clause-leads c = λ beside world s formed sound h.
    let image = image_of c.args.program.now in
    let m = c.in_default.ensures.matched in
    let old = c.args.self.now.slots in
    let p = c.match_token.new.self in
    let f = joined c.args.token (partial_of old.slots.items old.spill) in
    let n : c.ports-ports.result ≡ ports image c.args.token.instr = c.ports-ports.ensures
    ∙ ap ports_of c.op-op.ensures ∙ sym (ports_is_op image c.args.token.instr) in
    arrived_waits image world formed sound beside c.args.token c.args.self.now _ s h m.kept
    (full_alike (partial_of p.slots.items p.spill) f c.args.token.wave c.args.token.instr _ m.kept
    ∙ subst (λ k. is_full f c.args.token.wave c.args.token.instr k ≡ false) n m.lacks)
    refl refl refl refl refl refl refl

pub fire-requires-clause-wave : goal.fire-requires-clause-wave
fire-requires-clause-wave c =
    let l : c.args.token.wave ≤ c.args.self.now.fired = arrival_wave (image_of c.args.program.now)
    c.args.token c.args.self.now c.requires.going in
    omega (arith, c.requires.fired)

pub fire-requires-in-Some-clause-wave : goal.fire-requires-in-Some-clause-wave
fire-requires-in-Some-clause-wave c =
    let l : c.args.token.wave ≤ c.args.self.now.fired = arrival_wave (image_of c.args.program.now)
    c.args.token c.args.self.now c.requires.going in
    omega (arith, c.requires.fired)

pub returns-then-ports-eq1-clause-room : goal.returns-then-ports-eq1-clause-room
returns-then-ports-eq1-clause-room c = λ n m e r.
    c.fire.ensures.room m (room_put c.args.self.now c.args.self.now n (suc m)
    (omega (arith, c.fire.ensures.fired)) (omega arith) refl refl refl refl r)

pub returns-then-ports-eq1-clause-asked : goal.returns-then-ports-eq1-clause-asked
returns-then-ports-eq1-clause-asked c = asked_more c.args.self.now c.fire.new.self c.op-op.result _
    c.fire.ensures.asked c.fire.ensures.not_asked

pub returns-in-Some-clause-room : goal.returns-in-Some-clause-room
returns-in-Some-clause-room c = λ n m e r.
    c.fire-in-Some.ensures.room m (room_put c.args.self.now _ n (suc m)
    (omega (arith, c.fire-in-Some.ensures.fired))
    (omega (arith, c.match_token.ensures.room)) refl refl refl refl r)

pub returns-in-Some-clause-asked : goal.returns-in-Some-clause-asked
returns-in-Some-clause-asked c = asked_more c.args.self.now c.fire-in-Some.new.self c.op-op.result _
    c.fire-in-Some.ensures.asked c.fire-in-Some.ensures.not_asked
