use Rattle.std.proofs.Common.{◌≡◌, true, sym, subst}
use Rattle.df_core.specs.declared.plain.Asked.{Asked}
use Rattle.df_core.specs.Places.{image_of}
use Rattle.df_core.specs.Chains.{chain_of, may_flag}
use Rattle.df_core.specs.Flows.{asked_at, no_asked}
use Rattle.df_core.proofs.Parts.Issuing.{or_any}
use Rattle.df_core.proofs.Parts.Stepping.{may_enabled}
use Rattle.df_core.proofs.Parts.Quietly.{issue_quietly}
use Rattle.df_core.proofs.engine.Core.issue.Goals as goal

pub returns-in-Some : goal.returns-in-Some
returns-in-Some c =
    let flow = c.args.self.now.flow in
    let a_is : c.index-asked.result.now ≡ asked_at flow c.in-Some.place =
    or_any flow.asked.items c.in-Some.place c.index-asked.result.now no_asked c.in-Some.ensures.0
    c.index-asked.ensures in
    issue_quietly c.args.self.now c.index-asked.result.now.wave c.index-asked.result.now.instr
    (may_enabled c.args.self.now c.in-Some.place c.index-asked.result.now c.in-Some.ensures.0
    c.index-asked.ensures c.in-Some.ensures.1
    (subst (λ (b : Asked). may_flag (image_of c.args.self.now.program) (chain_of flow.chain) b.wave b.instr
    b.operands.first ≡ true) (sym a_is) c.in-Some.ensures.2))
