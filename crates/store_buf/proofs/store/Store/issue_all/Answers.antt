use Rattle.std.proofs.Common.{◌∙◌, sym, ap, subst, refl, inr, arith}
use Rattle.df_core.specs.Places.{image_of}
use Rattle.df_core.specs.Rights.{tokens_of}
use Rattle.store_buf.specs.declared.order.Order.{Order}
use Rattle.store_buf.specs.Stores.{AllLead}
use Rattle.store_buf.proofs.Foremost as M
use Rattle.store_buf.proofs.Turns as T
use Rattle.store_buf.proofs.store.Store.issue_all.Goals as goal

pub loop-next-init : goal.loop-next-init
loop-next-init g c = record {
  ok = c.requires.ok;
  lead = T.none_yet (image_of c.args.program.now) c.args.self.now (tokens_of c.args.told.now.items);
  grow = λ slot. omega arith;
  failed = refl;
  starved = refl;
  room = c.requires.room;
  next = c.requires.first;
  same_room = refl;
}

pub loop-next-preserved : goal.loop-next-preserved
loop-next-preserved g c =
    let sought = T.sought (image_of c.args.program.now) c.args.self.now c.loop-next.self
    c.this_or_issuable.new.self.near (tokens_of c.args.told.now.items) (tokens_of c.loop-next.told.items)
    c.loop-next.invariant.lead in
    let found = subst (λ (o : Order). AllLead (image_of c.args.program.now) c.args.self.now
    (record c.loop-next.self { order = o }) (tokens_of c.args.told.now.items)
    (tokens_of c.loop-next.told.items)) (sym c.this_or_issuable.ensures.same) sought in
    record {
      ok = c.issue.ensures.ok;
      lead = T.one_more (image_of c.args.program.now) c.args.self.now
          (record c.loop-next.self { order = c.this_or_issuable.new.self }) c.issue.new.self
          (tokens_of c.args.told.now.items) (tokens_of c.loop-next.told.items)
          (tokens_of c.issue.new.told.items) found c.in_ok-issue-in-Some.ensures.leads;
      grow = λ slot. (let a = c.loop-next.invariant.grow slot in let b = c.issue.ensures.counted slot in
          omega (arith, a, b));
      failed = c.issue.ensures.failed ∙ c.loop-next.invariant.failed;
      starved = c.issue.ensures.starved ∙ c.loop-next.invariant.starved;
      room = c.issue.ensures.room;
      next = tt;
      same_room = c.issue.ensures.same_room ∙ c.loop-next.invariant.same_room;
    }

pub returns-in_err-issue-in-Some-clause-lead : goal.returns-in_err-issue-in-Some-clause-lead
returns-in_err-issue-in-Some-clause-lead g c =
    let sought = T.sought (image_of c.args.program.now) c.args.self.now c.loop-next.self
    c.this_or_issuable.new.self.near (tokens_of c.args.told.now.items) (tokens_of c.loop-next.told.items)
    c.loop-next.invariant.lead in
    let found = subst (λ (o : Order). AllLead (image_of c.args.program.now) c.args.self.now
    (record c.loop-next.self { order = o }) (tokens_of c.args.told.now.items)
    (tokens_of c.loop-next.told.items)) (sym c.this_or_issuable.ensures.same) sought in
    subst (λ ts. AllLead (image_of c.args.program.now) c.args.self.now c.issue.new.self
    (tokens_of c.args.told.now.items) ts) (sym (ap tokens_of c.in_err-issue-in-Some.ensures.untold))
    (T.still (image_of c.args.program.now) c.args.self.now
    (record c.loop-next.self { order = c.this_or_issuable.new.self }) c.issue.new.self
    (tokens_of c.args.told.now.items) (tokens_of c.loop-next.told.items) found
    c.in_err-issue-in-Some.ensures.stays c.in_err-issue-in-Some.ensures.order
    c.in_err-issue-in-Some.ensures.fault)

pub returns-in-None-clause-lead : goal.returns-in-None-clause-lead
returns-in-None-clause-lead g c =
    let sought = T.sought (image_of c.args.program.now) c.args.self.now c.loop-next.self
    c.this_or_issuable.new.self.near (tokens_of c.args.told.now.items) (tokens_of c.loop-next.told.items)
    c.loop-next.invariant.lead in
    subst (λ (o : Order). AllLead (image_of c.args.program.now) c.args.self.now
    (record c.loop-next.self { order = o }) (tokens_of c.args.told.now.items)
    (tokens_of c.loop-next.told.items)) (sym c.this_or_issuable.ensures.same) sought

pub returns-in-None-clause-none : goal.returns-in-None-clause-none
returns-in-None-clause-none g c = inr (M.none_so (image_of c.args.program.now) (record c.loop-next.self {
  order = c.this_or_issuable.new.self;
}) c.loop-next-test.ensures c.in-None.ensures.may)
