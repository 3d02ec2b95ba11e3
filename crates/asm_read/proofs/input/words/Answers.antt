use Rattle.std.proofs.Common.{arith, refl, ap, length, length-append}
use Rattle.asm_read.proofs.Inputs.{reads_end, reads_fault, reads_word, one_list, no_fault_in_words}
use Rattle.asm_read.proofs.Inputs.{empty_is}
use Rattle.asm_read.proofs.input.words.Goals as goal

pub returns-then-is_empty-clause-ok : goal.returns-then-is_empty-clause-ok
returns-then-is_empty-clause-ok c = reads_end _ _ _ _ _ _ _ c.items.invariant.read c.blanks.ensures.whole
    c.blanks.ensures.blank (empty_is _ _ c.is_empty.ensures c.if-is_empty.true)

pub returns-then-is_empty-clause-only : goal.returns-then-is_empty-clause-only
returns-then-is_empty-clause-only c words h = one_list _ _ _ _ (reads_end _ _ _ _ _ _ _ c.items.invariant.read
    c.blanks.ensures.whole c.blanks.ensures.blank (empty_is _ _ c.is_empty.ensures c.if-is_empty.true)) h

pub returns-in_default-clause-only : goal.returns-in_default-clause-only
returns-in_default-clause-only c words h = no_fault_in_words _ _ _ _ h (reads_fault _ _ _ _ _ _ _ _ _ _
    c.items.invariant.read c.blanks.ensures.whole c.blanks.ensures.blank c.blanks.ensures.longest
    c.place_after-place.ensures.following c.item.ensures.whole c.item.ensures.item (λ word w.
    omega (arith, c.in_default.ensures.none w.0, w.1, w.2)))

pub returns-in_default-clause-refused : goal.returns-in_default-clause-refused
returns-in_default-clause-refused c = (
  refl,
  reads_fault _ _ _ _ _ _ _ _ _ _ c.items.invariant.read c.blanks.ensures.whole c.blanks.ensures.blank
      c.blanks.ensures.longest c.place_after-place.ensures.following c.item.ensures.whole
      c.item.ensures.item (λ word w. omega (arith, c.in_default.ensures.none w.0, w.1, w.2)),
)

pub items-preserved : goal.items-preserved
items-preserved c = record {
  read = reads_word _ _ _ _ _ _ _ _ _ _ _ _ c.in-Some.word c.items.invariant.read c.blanks.ensures.whole
      c.blanks.ensures.blank c.place_after-place.ensures.following c.item.ensures.whole c.item.ensures.item
      (c.in-Some.ensures.some.0, c.in-Some.ensures.some.1, omega arith)
      c.place_after-place-in-items.ensures.following c.in_ok-push.ensures.ok;
  line = c.place_after-place-in-items.ensures.line;
  column = c.place_after-place-in-items.ensures.column;
  room = omega (
    arith,
    ap length c.blanks.ensures.whole,
    ap length c.item.ensures.whole,
    length-append c.blanks.result.0.now c.blanks.result.1.now,
    length-append c.item.result.0.now
        c.item.result.1.now,
  );
}
