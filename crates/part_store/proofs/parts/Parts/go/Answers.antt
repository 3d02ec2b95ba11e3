use Rattle.std.proofs.Common.{ℕ, ◌<◌, ◌≡◌, ◌∙◌, ◌⊎◌, Bool, refl, true}
use Rattle.std.proofs.Common.{false, [], ◌∷◌, length, ap, sym, subst, arith}
use Rattle.std.proofs.lemmas.List.{append-nil}
use Rattle.std.proofs.lemmas.Result.{err_from_is_err_and}
use Rattle.ws_isa.specs.declared.instr.Op.{Op}
use Rattle.ws_isa.specs.Image.{Image, instr_at, is_past_op, sends, tokens_to, array_of_op, array_at}
use Rattle.df_core.specs.Places.{destinations, image_of}
use Rattle.df_core.specs.Rights.{tokens_of}
use Rattle.store_buf.specs.declared.fault.Silent.{Silent}
use Rattle.store_buf.specs.declared.kept.Kept.{Kept}
use Rattle.store_buf.specs.Outdoors.{SilentAt}
use Rattle.store_buf.specs.Ordering.{kept_at, ready_flag}
use Rattle.store_buf.proofs.Within.{port_in}
use Rattle.store_buf.proofs.Counted as C
use Rattle.store_buf.proofs.Silence.{port_waits}
use Rattle.part_store.specs.declared.parts.Parts.{Parts}
use Rattle.part_store.specs.Bares.{is_in}
use Rattle.part_store.specs.Contents.{holds_op}
use Rattle.part_store.specs.Rules.{is_past_at, operands_at}
use Rattle.part_store.specs.Parts.{PartsSilentSo}
use Rattle.part_store.proofs.Moving.Goes as G
use Rattle.part_store.proofs.Moving.Sending as N
use Rattle.part_store.proofs.Moving.Turning as U
use Rattle.part_store.proofs.parts.Parts.go.Goals as goal
use Rattle.part_store.proofs.parts.Parts.go.Goals.{then-is_alone-via-then-is_alone}
use Rattle.part_store.proofs.parts.Parts.go.Goals.{then-is_alone-via-else-is_alone+then-holds}
use Rattle.df_core.proofs.Walked.Few.{few_sent}
use Rattle.ws_words.proofs.Results.{on_err}

past_so : (image : Image) (op : Op) (k m : Kept) (b : Bool) → is_past_op image.arrays op (k.first ∷ []) ≡ b →
    op ≡ (instr_at image k.instr).op → k ≡ m → is_past_at image m ≡ b
past_so image op k m b e f q = rw (← q) (rw (← f) e)

array_so : (image : Image) (op : Op) (k m : Kept) (a : ℕ) → a ≡ array_of_op op →
    op ≡ (instr_at image k.instr).op → k ≡ m → array_at image m.instr ≡ a
unfolding array_at
array_so image op k m a e f q = sym (e ∙ ap array_of_op f
    ∙ ap (λ (x : Kept). array_of_op (instr_at image x.instr).op) q)

pub returns-then-is_past-clause-leads : goal.returns-then-is_past-clause-leads
returns-then-is_past-clause-leads g c =
    let image = image_of c.args.program.now in
    let old = c.args.self.now in
    let m = kept_at old.order c.args.place in
    let past : is_past_at image m ≡ true = past_so image c.op-op.result c.request-kept.result m true (sym
    c.is_past.ensures ∙ c.if-is_past.true) c.op-op.ensures c.request-kept.ensures in
    let a : array_at image m.instr ≡ c.array_of.result = array_so image c.op-op.result c.request-kept.result m
    c.array_of.result c.array_of.ensures c.op-op.ensures c.request-kept.ensures in (
      [],
      sym (append-nil (tokens_of c.args.told.now.items)),
      λ world began formed sound calm. rw (← a) (G.stops_now image world formed sound began old c.requires.ok
          calm c.requires.going c.args.place c.requires.goes past),
    )

bare_so : {P : Type 0} (s : Parts P) (k m : Kept) (b r : Bool) → r ≡ is_in s.bare k.wave k.instr → r ≡ b →
    k ≡ m → is_in s.bare m.wave m.instr ≡ b
bare_so s k m b r e f q = subst (λ (x : Kept). is_in s.bare x.wave x.instr ≡ b) q (sym e ∙ f)

held_so : {P : Type 0} (image : Image) (s : Parts P) (op : Op) (k m : Kept) (b r : Bool) →
    r ≡ holds_op s.queues.entries.items op k.first → r ≡ b → op ≡ (instr_at image k.instr).op → k ≡ m →
    holds_op s.queues.entries.items (instr_at image m.instr).op m.first ≡ b
held_so image s op k m b r e f at q = subst (λ (x : Kept). holds_op s.queues.entries.items (instr_at image
    x.instr).op x.first ≡ b) q (rw (← at) (sym e ∙ f))

pub returns-then-is_alone-clause-leads : goal.returns-then-is_alone-clause-leads
returns-then-is_alone-clause-leads g c =
    let image = image_of c.args.program.now in
    let old = c.args.self.now in
    let m = kept_at old.order c.args.place in
    let within : is_past_at image m ≡ false =
    past_so image c.op-op.result c.request-kept.result m false
    (sym c.is_past.ensures ∙ c.if-is_past.false) c.op-op.ensures c.request-kept.ensures in
    let which : (is_in old.bare m.wave m.instr ≡ true) ⊎
    ((is_in old.bare m.wave m.instr ≡ false) ×
    (holds_op old.queues.entries.items (instr_at image m.instr).op m.first ≡ true)) = grind (
      arith,
      then-is_alone-via-then-is_alone,
      bare_so,
      then-is_alone-via-else-is_alone+then-holds,
      held_so,
    ) in (
      [],
      sym (append-nil (tokens_of c.args.told.now.items)),
      λ world began formed sound calm. G.waits_on image world formed sound began old c.requires.ok calm
          c.requires.going c.args.place c.requires.goes c.wait_on.new.self within c.wait_on.ensures.kept
          c.wait_on.ensures.passed c.wait_on.ensures.bare c.wait_on.ensures.fault c.wait_on.ensures.outer
          c.wait_on.ensures.queued which,
    )

pub run-requires-clause-port : goal.run-requires-clause-port
run-requires-clause-port g c = rw c.op-op.ensures (port_in _ _ c.requires.formed)

pub run-requires-clause-room : goal.run-requires-clause-room
run-requires-clause-room g c = let s = C.some_wait _ _ _ c.requires.goes.may in
    omega (arith, s, c.requires.ok.printed)

pub returns-in_err-word-clause-stays : goal.returns-in_err-word-clause-stays
returns-in_err-word-clause-stays g c = on_err c.from_residual.result (λ world began calm.
    let n : Parts g.row.P.Denot = record {
      order = c.args.self.now.order;
      bare = c.args.self.now.bare;
      queues = c.args.self.now.queues;
      outer = c.run.new.self;
      fault = c.args.self.now.fault;
      failed = c.args.self.now.failed;
      starved = c.args.self.now.starved;
    } in
    G.still_calm _ _ _ _ _ calm refl refl refl refl (λ b o h. c.in_err-word.ensures.kept b o h))

silent_so : (image : Image) {P : Type 0} (old new : Parts P) (op : Op) (k : Kept) (why : Silent) →
    (q : ℕ) → q < length old.order.kept.items →
    ready_flag image old.order (kept_at old.order q) ≡ true → k ≡ kept_at old.order q →
    op ≡ (instr_at image k.instr).op →
    new.order ≡ old.order → SilentAt op old.outer.ports new.outer.ports why → PartsSilentSo image old new why
silent_so v0 v1 v2 v3 v4 v5 v6 v7 v8 v9 v10 v11 v12 = grind (arith, port_waits)

pub returns-in_err-word-clause-silent : goal.returns-in_err-word-clause-silent
returns-in_err-word-clause-silent g c = let o = c.args.self.now.order in
    let new : Parts g.row.P.Denot = record {
      order = o;
      bare = c.args.self.now.bare;
      queues = c.args.self.now.queues;
      outer = c.run.new.self;
      fault = c.args.self.now.fault;
      failed = c.args.self.now.failed;
      starved = c.args.self.now.starved;
    } in
    let e = err_from_is_err_and c.from_residual.result c.from_residual.ensures.1 in
    rw (e.1, e.2) (silent_so (image_of c.args.program.now) c.args.self.now new c.op-op.result
    c.request-kept.result _
    c.args.place c.requires.goes.may.within
    c.requires.goes.may.ready c.request-kept.ensures c.op-op.ensures refl c.in_err-word.ensures.silent)

pub tell-requires : goal.tell-requires
tell-requires g c = let f = few_sent _ c.requires.formed _ _ c.destinations.ensures in
    let s = C.some_wait _ _ _ c.requires.goes.may in
    let r = c.requires.room in omega (arith, f, s, r)

pub returns-clause-room : goal.returns-clause-room
returns-clause-room g c = let f = few_sent _ c.requires.formed _ _ c.destinations.ensures in
    let l = c.issue.ensures.fewer in let n = c.tell.ensures.count in let q = c.tell.ensures.room in
    let r = c.requires.room in omega (arith, f, l, n, q, r)

pub returns-clause-ok : goal.returns-clause-ok
returns-clause-ok g c = let o = c.args.self.now.order in record {
  early = c.issue.ensures.room;
  printed = grind arith;
  queues = omega (arith, c.issue.ensures.fewer, c.requires.ok.queues);
  lines = omega (arith, c.issue.ensures.fewer, c.requires.ok.lines);
  counted = c.requires.ok.counted;
  bare = λ w i e. U.still_kept (image_of c.args.program.now) o
      c.args.place c.requires.goes.may.within
      c.in_ok-word.word c.issue.new.self.kept.items c.issue.ensures.kept w i (c.requires.ok.bare w i e);
}

pub returns-clause-leads : goal.returns-clause-leads
returns-clause-leads g c =
    let image = image_of c.args.program.now in
    let old = c.args.self.now in
    let m = kept_at old.order c.args.place in
    let k = c.request-kept.result in
    let word = c.in_ok-word.word in
    let n : Parts g.row.P.Denot = record {
      order = c.issue.new.self;
      bare = old.bare;
      queues = old.queues;
      outer = c.run.new.self;
      fault = old.fault;
      failed = old.failed;
      starved = old.starved;
    } in
    let within : is_past_at image m ≡ false = past_so image c.op-op.result k m false (sym c.is_past.ensures ∙
    c.if-is_past.false) c.op-op.ensures c.request-kept.ensures in
    let whole : is_in old.bare m.wave m.instr ≡ false =
    bare_so old k m false c.is_alone.result c.is_alone.ensures c.if-is_alone.false c.request-kept.ensures in
    let held : holds_op old.queues.entries.items (instr_at image m.instr).op m.first ≡ false =
    held_so image old c.op-op.result k m false c.holds.result c.holds.ensures c.if-holds.false
    c.op-op.ensures c.request-kept.ensures in (
      tokens_to k.wave word c.destinations.result.now,
      c.tell.ensures.tokens,
      λ world began formed sound calm. let told : tokens_to k.wave word c.destinations.result.now ≡ sends
          image m.wave m.instr (operands_at image m) word = ap (tokens_to k.wave word)
          c.destinations.ensures ∙ ap (λ (x : Kept). tokens_to x.wave word (destinations image x.instr 0))
          c.request-kept.ensures ∙ N.sent image m word (G.is_memory_now image world formed sound began old
          c.requires.ok calm c.requires.going c.args.place c.requires.goes whole) in rw told
          (G.issues_now image world formed sound began old c.requires.ok calm c.requires.going
          c.args.place c.requires.goes n word within c.issue.ensures.kept c.issue.ensures.passed refl refl
          refl whole held (λ b o h. rw (← c.request-kept.ensures) (rw (← c.op-op.ensures)
          (c.in_ok-word.ensures.answer b o 0 h)))),
    )
