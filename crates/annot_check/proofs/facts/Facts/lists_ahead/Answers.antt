use Rattle.std.proofs.Common.{◌≡◌, ◌+◌, ◌<◌, suc, inl, inr, length, arith, ap, ◌∙◌, sym, subst}
use Rattle.std.proofs.lemmas.Bool.{cases_eq}
use Rattle.ws_isa.specs.View as view
use Rattle.ws_isa.specs.Image.{Instr, instr_at, first_number}
use Rattle.ws_isa.specs.Formed.{most_instrs}
use Rattle.ws_isa.specs.Sound.{HasDest, IsAhead}
use Rattle.annot_check.proofs.Slotted.Entries.{instrs_read, instrs_count}
use Rattle.annot_check.proofs.Chained.Passing.{instr_here, within_read, ends_read}
use Rattle.annot_check.proofs.facts.Facts.lists_ahead.Goals as goal
use Rattle.ws_isa.proofs.Steps.{first_le}
use Rattle.ws_isa.proofs.Blocks.{number_last}

pub returns-then-not-all_ahead-clause-no : goal.returns-then-not-all_ahead-clause-no
returns-then-not-all_ahead-clause-no c x all =
    let e : c.deref-instr-items.result.now ≡ c.block.result.now.instrs.items =
    c.deref-instr-items.ensures.value in
    let k : c.loop-instr.op ≡ first_number
    (view.image c.args.image.now) c.args.number + c.loop-instr.instr-index =
    omega (arith, c.loop-instr.invariant.op, c.requires.first) in
    let at : instr_at (view.image c.args.image.now) c.loop-instr.op ≡ view.instr c.instr-item.result =
    instr_here
    (view.image c.args.image.now) c.args.number c.loop-instr.op c.loop-instr.instr-index
    c.deref-instr-items.result.now c.instr-item.result c.requires.block
    (instrs_read (view.image c.args.image.now) c.args.number c.block.result.now
    c.deref-instr-items.result.now c.block.ensures e) k c.loop-instr-test.true c.instr-item.is in
    let w : c.loop-instr.op < first_number (view.image c.args.image.now) (suc c.args.number) =
    within_read
    (view.image c.args.image.now) c.args.number c.loop-instr.op c.loop-instr.instr-index _ c.requires.block k
    (instrs_count
    (view.image c.args.image.now) c.args.number c.block.result.now c.deref-instr-items.result.now
    c.block.ensures e) c.loop-instr-test.true in
    c.all_ahead.ensures.no c.if-not-all_ahead.true (λ j q h. all.dests c.loop-instr.op j q (omega arith, w)
    (subst
    (λ (i : Instr). HasDest i.dests j q) (sym at) (rw c.deref.ensures.value at h)))

pub returns-then-not-all_ahead-2-clause-no : goal.returns-then-not-all_ahead-2-clause-no
returns-then-not-all_ahead-2-clause-no c x all =
    let e : c.deref-instr-items.result.now ≡ c.block.result.now.instrs.items =
    c.deref-instr-items.ensures.value in
    let k : c.loop-instr.op ≡ first_number
    (view.image c.args.image.now) c.args.number + c.loop-instr.instr-index =
    omega (arith, c.loop-instr.invariant.op, c.requires.first) in
    let at : instr_at (view.image c.args.image.now) c.loop-instr.op ≡ view.instr c.instr-item.result =
    instr_here
    (view.image c.args.image.now) c.args.number c.loop-instr.op c.loop-instr.instr-index
    c.deref-instr-items.result.now c.instr-item.result c.requires.block
    (instrs_read (view.image c.args.image.now) c.args.number c.block.result.now
    c.deref-instr-items.result.now c.block.ensures e) k c.loop-instr-test.true c.instr-item.is in
    let w : c.loop-instr.op < first_number (view.image c.args.image.now) (suc c.args.number) =
    within_read
    (view.image c.args.image.now) c.args.number c.loop-instr.op c.loop-instr.instr-index _ c.requires.block k
    (instrs_count
    (view.image c.args.image.now) c.args.number c.block.result.now c.deref-instr-items.result.now
    c.block.ensures e) c.loop-instr-test.true in
    c.all_ahead-in-loop-instr.ensures.no c.if-not-all_ahead-2.true
    (λ j q h. all.others c.loop-instr.op j q (omega arith, w) (subst
    (λ (i : Instr). HasDest i.others j q) (sym at) (rw c.deref-in-loop-instr.ensures.value at h)))

pub overflow_add-op : goal.overflow_add-op
unfolding most_instrs
overflow_add-op c =
    let e : c.deref-instr-items.result.now ≡ c.block.result.now.instrs.items =
    c.deref-instr-items.ensures.value in
    let k : c.loop-instr.op ≡ first_number
    (view.image c.args.image.now) c.args.number + c.loop-instr.instr-index =
    omega (arith, c.loop-instr.invariant.op, c.requires.first) in
    let w : c.loop-instr.op < first_number (view.image c.args.image.now) (suc c.args.number) =
    within_read
    (view.image c.args.image.now) c.args.number c.loop-instr.op c.loop-instr.instr-index _ c.requires.block k
    (instrs_count
    (view.image c.args.image.now) c.args.number c.block.result.now c.deref-instr-items.result.now
    c.block.ensures e) c.loop-instr-test.true in
    omega (
      arith,
      w,
      c.requires.formed.few_instrs,
      number_last (view.image c.args.image.now),
      first_le (view.image c.args.image.now) (suc c.args.number)
          (suc (length (view.image c.args.image.now).blocks)) (omega (arith, c.requires.block.1)),
    )

pub loop-instr-preserved : goal.loop-instr-preserved
loop-instr-preserved c =
    let e : c.deref-instr-items.result.now ≡ c.block.result.now.instrs.items =
    c.deref-instr-items.ensures.value in
    let k : c.loop-instr.op ≡ first_number
    (view.image c.args.image.now) c.args.number + c.loop-instr.instr-index =
    omega (arith, c.loop-instr.invariant.op, c.requires.first) in
    let at : instr_at (view.image c.args.image.now) c.loop-instr.op ≡ view.instr c.instr-item.result =
    instr_here
    (view.image c.args.image.now) c.args.number c.loop-instr.op c.loop-instr.instr-index
    c.deref-instr-items.result.now c.instr-item.result c.requires.block
    (instrs_read (view.image c.args.image.now) c.args.number c.block.result.now
    c.deref-instr-items.result.now c.block.ensures e) k c.loop-instr-test.true c.instr-item.is in
    record {
      op = omega (arith, c.loop-instr.invariant.op);
      dests = λ n j q i l h. elim (cases_eq n c.loop-instr.op) [
        | inl f ↦ subst (λ m. IsAhead (view.image c.args.image.now) c.args.number m j) (sym f)
            (c.all_ahead.ensures.yes c.if-not-all_ahead.false j q (rw c.deref.ensures.value (subst (λ (x :
            Instr). HasDest x.dests j q) (ap (instr_at (view.image c.args.image.now)) f ∙ at) h)))
        | inr d ↦ c.loop-instr.invariant.dests n j q i (omega arith) h
      ];
      others = λ n j q i l h. elim (cases_eq n c.loop-instr.op) [
        | inl f ↦ subst (λ m. IsAhead (view.image c.args.image.now) c.args.number m j) (sym f)
            (c.all_ahead-in-loop-instr.ensures.yes c.if-not-all_ahead-2.false j q (rw
            c.deref-in-loop-instr.ensures.value (subst (λ (x : Instr). HasDest x.others j q) (ap (instr_at
            (view.image c.args.image.now)) f ∙ at) h)))
        | inr d ↦ c.loop-instr.invariant.others n j q i (omega arith) h
      ];
    }

pub returns-clause-dests : goal.returns-clause-dests
returns-clause-dests c x n j q i =
    let e : c.deref-instr-items.result.now ≡ c.block.result.now.instrs.items =
    c.deref-instr-items.ensures.value in
    let k : c.loop-instr.op ≡ first_number
    (view.image c.args.image.now) c.args.number + c.loop-instr.instr-index =
    omega (arith, c.loop-instr.invariant.op, c.requires.first) in
    let w : c.loop-instr.op ≡ first_number (view.image c.args.image.now) (suc c.args.number) =
    ends_read (view.image c.args.image.now) c.args.number c.loop-instr.op c.loop-instr.instr-index _
    c.requires.block k (instrs_count (view.image c.args.image.now) c.args.number c.block.result.now
    c.deref-instr-items.result.now c.block.ensures e) (omega arith) in
    c.loop-instr.invariant.dests n j q i (omega (arith, w, i.1))

pub returns-clause-others : goal.returns-clause-others
returns-clause-others c x n j q i =
    let e : c.deref-instr-items.result.now ≡ c.block.result.now.instrs.items =
    c.deref-instr-items.ensures.value in
    let k : c.loop-instr.op ≡ first_number
    (view.image c.args.image.now) c.args.number + c.loop-instr.instr-index =
    omega (arith, c.loop-instr.invariant.op, c.requires.first) in
    let w : c.loop-instr.op ≡ first_number (view.image c.args.image.now) (suc c.args.number) =
    ends_read (view.image c.args.image.now) c.args.number c.loop-instr.op c.loop-instr.instr-index _
    c.requires.block k (instrs_count (view.image c.args.image.now) c.args.number c.block.result.now
    c.deref-instr-items.result.now c.block.ensures e) (omega arith) in
    c.loop-instr.invariant.others n j q i (omega (arith, w, i.1))
