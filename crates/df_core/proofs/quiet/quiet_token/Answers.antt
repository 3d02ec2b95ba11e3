use Rattle.std.proofs.Common.{List, map, subst}
use Rattle.df_core.specs.Core.{IsSent}
use Rattle.df_core.specs.declared.plain.Token.{Token}
use Rattle.df_core.specs.Places.{image_of}
use Rattle.df_core.specs.Ways.{token_of}
use Rattle.df_core.specs.Quiet.{AllFill}
use Rattle.df_core.proofs.Parts.Quietly.{sent_left, quiet_or}
use Rattle.df_core.proofs.quiet.quiet_token.Goals as goal

pub returns-in-Some : goal.returns-in-Some
returns-in-Some c = (
  sent_left (map token_of c.args.flow.now.way.now.items) (map token_of c.args.flow.now.way.later.items) _ _ _
      _
      (subst (λ (ts : List Token). IsSent (map token_of ts) c.in-Some.token.wave c.in-Some.token.instr
      c.in-Some.token.port c.in-Some.token.value) c.deref.ensures.value c.in-Some.ensures.0),
  c.in-Some.ensures.1,
)

pub returns-in-None : goal.returns-in-None
returns-in-None c =
    quiet_or (image_of c.args.program.now) c.args.flow.now.slots c.args.flow.now.way
    c.quiet_among-in-None.result c.deref-in-None.result.now c.deref-in-None.ensures.value
    (subst (λ (ts : List Token). AllFill (image_of c.args.program.now) c.args.flow.now.slots
    (map token_of ts)) c.deref.ensures.value c.in-None.ensures)
    c.quiet_among-in-None.ensures
