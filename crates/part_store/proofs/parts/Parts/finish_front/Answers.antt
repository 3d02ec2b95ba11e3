use Rattle.std.proofs.Common.{◌≡◌, ◌∙◌, List, [], sym, ap, subst, cond, slice_set, arith}
use Rattle.std.proofs.lemmas.List.{append-nil}
use Rattle.ws_words.specs.Outside.{row, with_row}
use Rattle.ws_isa.specs.declared.instr.Dest.{Dest}
use Rattle.ws_isa.specs.declared.instr.Op.{Op}
use Rattle.ws_isa.specs.Image.{Token, instr_at, tokens_to}
use Rattle.df_core.specs.Places.{image_of}
use Rattle.df_core.specs.Rights.{tokens_of}
use Rattle.part_store.specs.Contents.{cell}
use Rattle.part_store.specs.Parted.{is_store_op}
use Rattle.part_store.specs.Rules.{Moves}
use Rattle.part_store.specs.Parts.{Beside, content_of, PartsStand}
use Rattle.part_store.proofs.Queueing.Fronts as F
use Rattle.part_store.proofs.Moving.Finishing as N
use Rattle.part_store.proofs.Queueing.Times as T
use Rattle.part_store.proofs.parts.Parts.finish_front.Goals as goal
use Rattle.df_core.proofs.Walked.Few.{few_sent}

pub returns-in_default-clause-leads : goal.returns-in_default-clause-leads
returns-in_default-clause-leads g c = (
  [],
  sym (append-nil (tokens_of c.args.told.now.items)),
  λ world began formed sound st going fol. let e = c.args.entry in let q = N.counts _ _ _ _ st.parting _
      (F.front_in
      _ _ _ _ fol.first).0 in absurd
      (c.in_default.ensures.none q.request q.answer q.is_kept q.answered),
)

pub tell-requires : goal.tell-requires
tell-requires g c = grind (
  arith,
  few_sent (image_of c.args.program.now) c.requires.formed
      c.destinations.result.now c.args.entry.instr c.destinations.ensures,
)

pub returns-clause-room : goal.returns-clause-room
returns-clause-room g c = grind (
  arith,
  few_sent (image_of c.args.program.now) c.requires.formed
      c.destinations.result.now c.args.entry.instr c.destinations.ensures,
)

pub returns-clause-leads : goal.returns-clause-leads
returns-clause-leads g c = (
  tokens_to c.args.entry.wave c.use_cell-word.result c.destinations.result.now,
  c.tell.ensures.tokens,
  λ world began formed sound st going fol.
      let image = image_of c.args.program.now in
      let old = c.args.self.now in
      let new = c.answer_at.new.self in
      let e = c.args.entry in
      let p = c.in-Some.place in
      let k = c.request-kept.ensures in
      let word = c.use_cell-word.result in
      let word_is : word ≡ cond (is_store_op (instr_at image e.instr).op) 0
      (cell old.outer.cells e.row e.index) = c.use_cell-word.ensures.word
      ∙ ap (λ (op : Op). cond (is_store_op op) 0 (cell old.outer.cells e.row e.index)) c.op.ensures in
      let cells = ap (λ (o : _). o.cells) c.answer_at.ensures.outer ∙ c.use_cell-word.ensures.cells
      ∙ (λ j. cond (is_store_op (c.op.ensures j))
      (with_row old.outer.cells e.row (slice_set (row old.outer.cells e.row) e.index (k j).second))
      old.outer.cells) in
      let input = ap (λ (o : _). o.input) c.answer_at.ensures.outer ∙ c.use_cell-word.ensures.input in
      let read = ap (λ (o : _). o.read) c.answer_at.ensures.outer ∙ c.use_cell-word.ensures.read in
      let printed = ap (λ (o : _). o.printed) c.answer_at.ensures.outer ∙ c.use_cell-word.ensures.printed in
      let ports = ap (λ (o : _). o.ports) c.answer_at.ensures.outer ∙ c.use_cell-word.ensures.ports in
      let queued = ap (λ (x : _). x.entries.items) c.answer_at.ensures.queues ∙ c.leave.ensures.entries
      ∙ T.first_leaves image world formed sound old.queues.entries.items e.row e.index e
      st.parting.partly.rising fol.first in
      let b = c.answer_at.ensures.same in
      let beside : Beside old new = grind arith in
      let told = ap (λ (ds : List Dest). tokens_to e.wave word ds) c.destinations.ensures
      ∙ N.told_are image world formed sound began old new e p st going fol
      c.in-Some.ensures.within c.in-Some.ensures.is word c.answer_at.ensures.kept word_is cells input read
      printed ports queued beside in
      subst (λ (ts : List Token). Moves image (content_of old) ts (content_of new) ×
      PartsStand image world began new) (sym told)
      (N.finishes image world formed sound began old new e p st going fol
      c.in-Some.ensures.within c.in-Some.ensures.is word c.answer_at.ensures.kept word_is cells input read
      printed ports queued beside),
)

pub returns-clause-filed : goal.returns-clause-filed
returns-clause-filed g c = c.answer_at.ensures.filed (image_of c.args.program.now) (record {
  filed = c.requires.filed.filed;
  stores = c.requires.filed.stores;
})
