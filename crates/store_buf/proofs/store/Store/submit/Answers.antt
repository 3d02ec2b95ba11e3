use Rattle.std.proofs.Common.{List, ap, sym, subst}
use Rattle.ws_isa.specs.Image.{Token}
use Rattle.df_core.specs.Places.{image_of}
use Rattle.df_core.specs.Rights.{tokens_of}
use Rattle.store_buf.specs.Stores.{SubmitLeads}
use Rattle.store_buf.proofs.store.Store.submit.Goals as goal

pub returns-else-lets-2-clause-leads : goal.returns-else-lets-2-clause-leads
returns-else-lets-2-clause-leads g c = let image = image_of c.args.program.now in
    subst (λ (ts : List Token). SubmitLeads image c.args.self.now c.args.kept ts c.put_by.result
    c.put_by.new.self) (sym (ap tokens_of c.requires.told)) c.put_by.ensures.leads
