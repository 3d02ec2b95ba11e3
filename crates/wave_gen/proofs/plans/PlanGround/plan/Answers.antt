use Rattle.std.proofs.Common.{◌∙◌, ap, List, ℕ, cond, map, suc, ◌∷◌, [], ◌||◌, eqb}
use Rattle.wave_gen.specs.Plans.{pulse}
use Rattle.wave_gen.specs.declared.plan.Plan.{Plan}
use Rattle.wave_gen.proofs.OfGraphs.Outlined.{plan_made}
use Rattle.wave_gen.proofs.plans.PlanGround.plan.Goals as goal
use Rattle.ws_words.specs.Items.{flag_at}

pub returns : goal.returns
returns c =
    let o = c.args.self.now in let b = c.args.b in let x = c.spot_there-spot.result in
    let s = c.spot_there-spot.ensures in
    let p : Plan = record {
      wave = c.turned.result;
      first = c.first.result;
      joined = c.is_joined.result;
      entries = c.in_ok-entries.field-0;
      pads = c.in_ok-pads.field-0;
      items = c.in_ok-code.code.items;
      exit = c.in_ok-code.code.exit;
      test = c.in_ok-code.code.next;
    } in
    plan_made o c.requires.outline b c.requires.there x s p
    c.turned.ensures c.first.ensures c.is_joined.ensures c.in_ok-entries.ensures
    (c.in_ok-pads.ensures ∙ ap (λ (xs : List ℕ). cond (eqb b o.start || flag_at o.landed.items b)
    (pulse ∷ map suc xs) []) c.deref.ensures.value)
    c.in_ok-code.ensures.items c.in_ok-code.ensures.exit c.in_ok-code.ensures.next
