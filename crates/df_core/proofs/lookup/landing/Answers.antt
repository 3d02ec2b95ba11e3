use Rattle.std.proofs.Common.{rules, ◌≡◌, ◌∙◌, ◌-◌, length, min, slice_index}
use Rattle.df_core.proofs.lookup.landing.Goals as goal
use Rattle.ws_isa.proofs.Looking.{landing_found}

pub returns : goal.returns
returns c =
    let e : c.unwrap_or.result ≡ slice_index c.args.landings.now
    (min c.args.address (length c.args.landings.now - 1)) = search rules in
    e ∙ landing_found c.args.landings.now c.args.address
