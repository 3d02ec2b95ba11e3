use Rattle.std.proofs.Common.{◌≡◌, ℕ, List, true, ◌∙◌, arith}
use Rattle.ws_isa.specs.Walk.{gather}
use Rattle.df_core.specs.Core.{is_full}
use Rattle.match_table.specs.declared.entry.Arrived.{Arrived}
use Rattle.match_table.specs.Ports.{alone}
use Rattle.match_table.proofs.Held.{full_one, full_two, full_three}
use Rattle.match_table.proofs.meeting.operands_of.Goals as goal

pub returns-then-not-have_all : goal.returns-then-not-have_all
returns-then-not-have_all c = let a = c.args.arrived in c.have_all.ensures a.first a.second a.third
    ∙ c.if-not-have_all.true

-- what is listed is what is gathered, where the ports are so many
of_ports : (a : Arrived) (ports n : ℕ) (xs : List ℕ) → ports ≡ n → is_full (alone a) 0 0 ports ≡ true
    → (is_full (alone a) 0 0 n ≡ true → xs ≡ gather (alone a) 0 0 0 n) → (is_full (alone a) 0 0 ports ≡ true)
    × (xs ≡ gather (alone a) 0 0 0 ports)
of_ports a ports n xs are full list = grind arith

pub returns-then-ports-eq1 : goal.returns-then-ports-eq1
returns-then-ports-eq1 c = let a = c.args.arrived in of_ports a c.args.ports _ _ c.if-ports-eq1.true
    (c.have_all.ensures a.first a.second a.third ∙ c.if-not-have_all.false) (full_one a)

pub returns-then-ports-eq2 : goal.returns-then-ports-eq2
returns-then-ports-eq2 c = let a = c.args.arrived in of_ports a c.args.ports _ _ c.if-ports-eq2.true
    (c.have_all.ensures a.first a.second a.third ∙ c.if-not-have_all.false) (full_two a)

pub returns-else-ports-eq2 : goal.returns-else-ports-eq2
returns-else-ports-eq2 c =
    let a = c.args.arrived in
    let three : c.args.ports ≡ 3 = (let p = c.requires in let u = c.if-ports-eq1.false in
    let v = c.if-ports-eq2.false in omega (arith, p.0, p.1, u, v)) in
    of_ports a c.args.ports _ _ three (c.have_all.ensures a.first a.second a.third ∙ c.if-not-have_all.false)
    (full_three a)
