use Rattle.std.proofs.Common.{◌≡◌, ℕ, ◌+◌, true, Some, sym, ◌∙◌, subst, arith}
use Rattle.ws_isa.specs.Walk.{Ports}
use Rattle.df_core.specs.Core.{is_full, with_at}
use Rattle.df_core.specs.declared.slots.MatchStore.{MatchStore}
use Rattle.df_core.specs.declared.plain.Token.{Token}
use Rattle.df_core.specs.Partial.{partial_of}
use Rattle.df_core.proofs.Parts.Quietly.{full_more, not_full}
use Rattle.df_core.proofs.quiet.is_filled.Goals as goal

abbrev with_token : MatchStore → Token → Ports
with_token slots t = with_at t.wave t.instr t.port (Some t.value) (partial_of slots.slots.items slots.spill)

pub loop-port-preserved : goal.loop-port-preserved
loop-port-preserved c =
    full_more (with_token c.args.slots.now c.args.token) c.args.token.wave c.args.token.instr c.loop-port.port
    (c.loop-port.port + 1) (omega arith) (sym c.has_with.ensures ∙ c.if-not-has_with.false)
    c.loop-port.invariant

pub returns-then-not-has_with : goal.returns-then-not-has_with
returns-then-not-has_with c =
    sym (not_full (with_token c.args.slots.now c.args.token) c.args.token.wave c.args.token.instr
    c.loop-port.port c.args.ports c.loop-port-test.true (sym c.has_with.ensures ∙ c.if-not-has_with.true))

pub returns : goal.returns
returns c =
    let e : c.loop-port.port ≡ c.args.ports = omega (
      arith,
      c.loop-port-test.false,
      c.loop-port.auto.port-end,
    ) in
    sym (subst (λ (n : ℕ). is_full (with_token c.args.slots.now c.args.token) c.args.token.wave
    c.args.token.instr n ≡ true) e c.loop-port.invariant)
