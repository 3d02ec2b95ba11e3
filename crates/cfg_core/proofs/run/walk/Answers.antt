use Rattle.std.proofs.Common.{refl, subst}
use Rattle.cfg_core.specs.Walk as walks
use Rattle.cfg_core.specs.Walk.{step}
use Rattle.cfg_core.specs.View as view
use Rattle.cfg_core.specs.Shows.{NextIs}
use Rattle.cfg_core.specs.Tables.{graph_in}
use Rattle.cfg_core.specs.declared.exits.Next.{Next}
use Rattle.cfg_core.proofs.Walking.{walk_next, walk_over, walk_going, still_held, falls}
use Rattle.cfg_core.proofs.run.walk.Goals as goal

pub loop-b-init : goal.loop-b-init
loop-b-init c = record {
  held = c.requires.held;
  upto = λ s frames k sh. record {
    blocks = 0;
    state = s;
    frames = frames;
    left = k;
    shows = sh;
    same = refl;
  };
}

pub loop-b-smaller : goal.loop-b-smaller
loop-b-smaller c =
    let g = view.graph (graph_in c.args.table.now) in
    falls g c.requires.rules c.loop-b.at c.in-At.b c.loop-b.walker c.pass.new.self c.loop-b.invariant.held
    (λ s frames k sh. subst (λ (x : Next). NextIs (step g (walks.starts c.loop-b.at s frames k)) x
    c.pass.new.self) c.in-At.is (c.in_ok-b.ensures s frames k sh))

pub loop-b-preserved : goal.loop-b-preserved
loop-b-preserved c =
    let g = view.graph (graph_in c.args.table.now) in record {
      held = still_held g c.loop-b.at c.in-At.b c.loop-b.walker c.pass.new.self c.loop-b.invariant.held
          (λ s frames k sh. subst (λ (x : Next). NextIs (step g (walks.starts c.loop-b.at s frames k)) x
          c.pass.new.self) c.in-At.is (c.in_ok-b.ensures s frames k sh));
      upto = λ t fs j th. walk_next g (walks.starts c.args.start t fs j) c.loop-b.at c.in-At.b c.loop-b.walker
          c.pass.new.self (c.loop-b.invariant.upto t fs j th)
          (λ s frames k sh. subst (λ (x : Next). NextIs (step g (walks.starts c.loop-b.at s frames k)) x
          c.pass.new.self) c.in-At.is (c.in_ok-b.ensures s frames k sh));
    }

pub returns-in-Over : goal.returns-in-Over
returns-in-Over c = λ t fs j th.
    let g = view.graph (graph_in c.args.table.now) in
    walk_over g (walks.starts c.args.start t fs j) c.loop-b.at c.loop-b.walker c.pass.new.self
    (c.loop-b.invariant.upto t fs j th)
    (λ s frames k sh. subst (λ (x : Next). NextIs (step g (walks.starts c.loop-b.at s frames k)) x
    c.pass.new.self) c.in-Over.is (c.in_ok-b.ensures s frames k sh))

pub returns-in-Going : goal.returns-in-Going
returns-in-Going c = λ t fs j th.
    let g = view.graph (graph_in c.args.table.now) in
    walk_going g (walks.starts c.args.start t fs j) c.loop-b.at c.loop-b.walker c.pass.new.self
    (c.loop-b.invariant.upto t fs j th)
    (λ s frames k sh. subst (λ (x : Next). NextIs (step g (walks.starts c.loop-b.at s frames k)) x
    c.pass.new.self) c.in-Going.is (c.in_ok-b.ensures s frames k sh))
