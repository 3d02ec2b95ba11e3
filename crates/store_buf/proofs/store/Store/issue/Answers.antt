use Rattle.std.proofs.Common.{ℕ, ◌<◌, Some, refl, cond, ◌≡◌, ◌+◌, vec_len, vec_capacity, ◌≤◌, ◌∙◌, true}
use Rattle.std.proofs.Common.{false, [], ◌∷◌, length, ap, sym, subst, inr, arith}
use Rattle.std.proofs.lemmas.List.{append-nil}
use Rattle.std.proofs.lemmas.Result.{err_from_is_err_and}
use Rattle.smallvec.specs.SmallVec.{small_vec_len}
use Rattle.ws_isa.specs.declared.instr.Op.{Op}
use Rattle.ws_isa.specs.Image.{Image, instr_at, is_past_op, array_of_op}
use Rattle.df_core.specs.Rights.{tokens_of}
use Rattle.df_core.specs.Chains.{chain_of}
use Rattle.df_core.specs.Places.{image_of}
use Rattle.df_core.specs.Core.{has}
use Rattle.store_buf.specs.declared.fault.Silent.{Silent}
use Rattle.store_buf.specs.declared.fault.Silent.TheVariants.{Failed, NoMemory}
use Rattle.store_buf.specs.declared.kept.Kept.{Kept}
use Rattle.store_buf.specs.declared.store.Store.{Store}
use Rattle.store_buf.specs.Outdoors.{PortIn, SilentAt, port_of}
use Rattle.store_buf.specs.Contents.{FaultIs, PortWaits}
use Rattle.store_buf.specs.Stores.{SilentSo}
use Rattle.store_buf.specs.Outers.{holding}
use Rattle.store_buf.specs.Holds.{Holds}
use Rattle.store_buf.specs.Ordering.{kept_at, ready_flag}
use Rattle.store_buf.proofs.Within.{port_in}
use Rattle.store_buf.proofs.Counted as C
use Rattle.store_buf.proofs.Silence.{port_waits}
use Rattle.store_buf.proofs.Stepping as S
use Rattle.store_buf.proofs.Served as V
use Rattle.store_buf.proofs.store.Store.issue.Goals as goal
use Rattle.ws_words.proofs.Results.{on_err}

pub run-requires-clause-port : goal.run-requires-clause-port
run-requires-clause-port g c = subst PortIn (sym c.op-op.ensures)
    (port_in (image_of c.args.program.now) c.request-kept.result.instr c.requires.formed)

pub run-requires-clause-room : goal.run-requires-clause-room
run-requires-clause-room g c = let s = C.some_wait (image_of c.args.program.now) c.args.self.now.order
    c.args.place c.requires.may in (λ e. omega (arith, s, c.requires.ok.printed))

pub returns-in_err-word-clause-ok : goal.returns-in_err-word-clause-ok
returns-in_err-word-clause-ok g c = record {
  filed = c.requires.ok.filed;
  early = c.requires.ok.early;
  printed = subst (λ v. vec_len v + c.args.self.now.order.waiting ≤ vec_capacity v)
      (sym c.in_err-word.ensures.unprinted) c.requires.ok.printed;
}

pub returns-then-is_past-clause-leads : goal.returns-then-is_past-clause-leads
returns-then-is_past-clause-leads g c = (
  [],
  sym (append-nil (tokens_of c.args.told.now.items)),
  λ world began m formed sound stands.
      let o = c.args.self.now.order in
      let image = image_of c.args.program.now in
      let p = c.args.place in
      let k = c.request-kept.ensures in
      let array_is : c.array_of.result ≡ array_of_op (instr_at image (kept_at o c.args.place).instr).op =
      c.array_of.ensures ∙ ap array_of_op c.op-op.ensures ∙ ap (λ x. array_of_op (instr_at image x.instr).op)
      k in
      let past : is_past_op image.arrays (instr_at image (kept_at o c.args.place).instr).op
      ((kept_at o c.args.place).first ∷ []) ≡ true =
      subst (λ x. is_past_op image.arrays (instr_at image x.instr).op (x.first ∷ []) ≡ true) k
      (subst (λ op. is_past_op image.arrays op (c.request-kept.result.first ∷ []) ≡ true) c.op-op.ensures
      (sym c.is_past.ensures ∙ c.if-is_past.true)) in
      let hold : Holds image world began o false (holding c.args.self.now.outer) m =
      subst (λ f. Holds image world began o (has f) (holding c.args.self.now.outer) m) c.requires.going
      stands in
      let r = S.stops image world formed sound began o (holding c.args.self.now.outer) m hold p
      c.requires.may.within c.requires.may.ready past in
      record {
        wave = (kept_at o c.args.place).wave;
        instr = (kept_at o c.args.place).instr;
        memory = m;
        event = inr (rw c.requires.going r.0, refl);
        right = λ w i p v e. absurd e;
        fault = subst (λ a. FaultIs image world (Some a)) (sym array_is) (S.fault_is image world formed sound
            began o (holding c.args.self.now.outer) m hold p c.requires.may.within c.requires.may.ready past);
        stands = r.1;
      },
)

pub returns-in_err-word-clause-stays : goal.returns-in_err-word-clause-stays
returns-in_err-word-clause-stays g c = on_err c.from_residual.result (λ world began m stands. record {
  going = stands.going;
  right = stands.right;
  outside = c.in_err-word.ensures.kept began m stands.outside;
})

pub returns-clause-leads : goal.returns-clause-leads
returns-clause-leads g c = let s = c.args.self.now in V.leads (image_of c.args.program.now) s (record s {
  order = c.issue.new.self;
  outer = c.run.new.self;
}) c.args.place c.requires.may c.request-kept.result c.request-kept.ensures c.op-op.result c.op-op.ensures
    (sym c.is_past.ensures ∙ c.if-is_past.false) c.in_ok-word.word c.in_ok-word.ensures.answer
    c.requires.going c.requires.going c.issue.ensures.kept c.issue.ensures.passed c.destinations.result.now
    c.destinations.ensures (tokens_of c.args.told.now.items) (tokens_of c.tell.new.told.items)
    c.tell.ensures.tokens

pub tell-requires : goal.tell-requires
tell-requires g c = C.room_for (image_of c.args.program.now) c.requires.formed c.destinations.result.now
    c.request-kept.result.instr c.destinations.ensures c.args.self.now.order c.args.place c.requires.may
    (small_vec_len c.args.told.now) c.args.told.now.capacity c.requires.room

pub returns-clause-room : goal.returns-clause-room
returns-clause-room g c = let r = C.room_left (image_of c.args.program.now) c.requires.formed
    c.destinations.result.now c.request-kept.result.instr c.destinations.ensures c.args.self.now.order
    c.args.place c.requires.may (small_vec_len c.args.told.now) c.args.told.now.capacity c.requires.room
    (small_vec_len c.tell.new.told) c.issue.new.self.waiting c.tell.ensures.count c.issue.ensures.fewer in
    let q = c.tell.ensures.room in omega (arith, q, r)

silent_so : (image : Image) {P : Type 0} (old new : Store P) (op : Op) (k : Kept) (why : Silent)
    → (q : ℕ) → q < length old.order.kept.items
    → ready_flag image old.order (kept_at old.order q) ≡ true → k ≡ kept_at old.order q
    → op ≡ (instr_at image k.instr).op →
    new.order ≡ old.order → SilentAt op old.outer.ports new.outer.ports why → SilentSo image old new why
silent_so image old new op k (Failed p) q l ready is at same s = (
  subst (λ o. PortWaits image o.kept.items (chain_of o.chain) p) (sym same) (port_waits image old.order q
      l ready p (ap (λ x. port_of (instr_at image x.instr).op) (sym is) ∙ ap port_of (sym at) ∙ s.0)),
  s.1,
)
silent_so image old new op k (NoMemory p) q l ready is at same s = subst (λ o. PortWaits image o.kept.items
    (chain_of o.chain) p) (sym same) (port_waits image old.order q l ready p (ap (λ x. port_of (instr_at image
    x.instr).op) (sym is) ∙ ap port_of (sym at) ∙ s))

less : (a b n : ℕ) → a < b → a + n < b + n
less a b n l = omega arith

pub returns-then-is_past-clause-fewer : goal.returns-then-is_past-clause-fewer
returns-then-is_past-clause-fewer g c = subst (λ f. c.args.self.now.order.waiting + 0 <
    c.args.self.now.order.waiting + cond (has f) 0 1) (sym c.requires.going) (omega arith)

pub returns-clause-fewer : goal.returns-clause-fewer
returns-clause-fewer g c = less c.issue.new.self.waiting c.args.self.now.order.waiting
    (cond (has c.args.self.now.fault) 0 1) c.issue.ensures.fewer

pub returns-in_err-word-clause-silent : goal.returns-in_err-word-clause-silent
returns-in_err-word-clause-silent g c = let o = c.args.self.now.order in
    let new : Store g.row.P.Denot = record {
      order = o;
      outer = c.run.new.self;
      fault = c.args.self.now.fault;
      failed = c.args.self.now.failed;
      starved = c.args.self.now.starved;
    } in
    let e = err_from_is_err_and c.from_residual.result c.from_residual.ensures.1 in
    rw (e.1, e.2) (silent_so (image_of c.args.program.now) c.args.self.now new c.op-op.result
    c.request-kept.result _ c.args.place c.requires.may.within c.requires.may.ready
    c.request-kept.ensures c.op-op.ensures refl c.in_err-word.ensures.silent)
