use Rattle.std.proofs.Common.{ap, ◌∙◌, arith}
use Rattle.match_table.specs.Pages.{PageStore, seen}
use Rattle.match_table.proofs.Halves.{far_arrived, from_before, near_arrived}
use Rattle.match_table.proofs.pages.Pages.put.Goals as goal
use Rattle.match_table.proofs.pages.Pages.put.Goals.{in-Some, in-None}

pub returns-then-port-gt1-clause-arrived : goal.returns-then-port-gt1-clause-arrived
returns-then-port-gt1-clause-arrived c = far_arrived c.args.self.now.entries c.set_port.new.self.entries
    c.put_third.new.self.entries c.args.wave c.args.instr c.args.port c.args.value
    (from_before c.args.self.now.entries c.match-key.self.entries c.set_port.new.self.entries c.args.wave _
    c.first_half-half.result c.args.port c.args.value (λ a h. elim c.match-key.branch [
      | in-Some w ↦ ap (λ (s : PageStore). seen s.entries a h) w.self-is
      | in-None w ↦ ap (λ (s : PageStore). seen s.entries a h) w.self-is ∙ w.add-key.ensures.seen a h
    ]) c.first_half-half.ensures.number c.set_port.ensures.seen) c.put_third.ensures.seen c.if-port-gt1.true

pub returns-else-port-gt1-clause-arrived : goal.returns-else-port-gt1-clause-arrived
returns-else-port-gt1-clause-arrived c = let apart = c.if-port-gt1.false in
    near_arrived c.args.self.now.entries c.set_port.new.self.entries c.args.wave c.args.instr c.args.port
    c.args.value (from_before c.args.self.now.entries c.match-key.self.entries c.set_port.new.self.entries
    c.args.wave _ c.first_half-half.result c.args.port c.args.value (λ a h. elim c.match-key.branch [
      | in-Some w ↦ ap (λ (s : PageStore). seen s.entries a h) w.self-is
      | in-None w ↦ ap (λ (s : PageStore). seen s.entries a h) w.self-is ∙ w.add-key.ensures.seen a h
    ]) c.first_half-half.ensures.number c.set_port.ensures.seen) (omega (arith, apart))
