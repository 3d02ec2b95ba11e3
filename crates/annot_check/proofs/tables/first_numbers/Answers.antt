use Rattle.std.proofs.Common.{◌≡◌, ◌∙◌, ◌+◌, ◌<◌, ◌++◌, ◌∷◌, [], ℕ, List, length, length-append, get_or, sym}
use Rattle.std.proofs.Common.{ap, arith}
use Rattle.ws_isa.specs.View as view
use Rattle.ws_isa.specs.declared.image.Block.{Block as CodeBlock}
use Rattle.ws_isa.specs.Image.{first_number}
use Rattle.ws_isa.specs.Formed.{most_instrs}
use Rattle.annot_check.proofs.Shaped.Blocks.{pushed, first_zero, first_one_is, size_read, number_below}
use Rattle.annot_check.proofs.tables.first_numbers.Goals as goal

pub loop-block-init : goal.loop-block-init
loop-block-init c =
    let e : c.push.new.self.items ≡ 1 ∷ [] = c.in_ok-push.ensures.items ∙
    ap (λ (xs : List ℕ). xs ++ 1 ∷ []) c.new-starts.ensures.items in
    record {
      size = ap length e;
      starts = λ b l. (let z : b ≡ 0 = omega arith in ap (λ (k : ℕ). get_or c.push.new.self.items k 0) z ∙
          (ap (λ (xs : List ℕ). get_or xs 0 0) e ∙ sym (first_zero (view.image c.args.image.now) b l)));
      number = first_one_is (view.image c.args.image.now);
    }

pub overflow_cast-number : goal.overflow_cast-number
unfolding most_instrs
overflow_cast-number c =
    let below : c.loop-block.block-index < length c.args.image.now.blocks.items =
    omega (arith, ap length c.deref-block-items.ensures.value) in
    let l : c.len.result ≡ length c.block-item.result.instrs.items = omega (arith, c.len.ensures) in
    omega (
      arith,
      c.requires.few_instrs,
      number_below c.args.image.now c.loop-block.block-index below,
      size_read c.args.image.now c.loop-block.block-index c.len.result c.block-item.result below
          (c.block-item.is ∙ ap (λ (xs : List CodeBlock).
          get_or xs c.loop-block.block-index c.block-item.result) c.deref-block-items.ensures.value) l,
    )

pub overflow_add-number : goal.overflow_add-number
unfolding most_instrs
overflow_add-number c =
    let below : c.loop-block.block-index < length c.args.image.now.blocks.items =
    omega (arith, ap length c.deref-block-items.ensures.value) in
    let l : c.len.result ≡ length c.block-item.result.instrs.items = omega (arith, c.len.ensures) in
    omega (
      arith,
      c.requires.few_instrs,
      c.loop-block.invariant.number,
      number_below c.args.image.now c.loop-block.block-index below,
      size_read c.args.image.now c.loop-block.block-index c.len.result c.block-item.result below
          (c.block-item.is ∙ ap (λ (xs : List CodeBlock).
          get_or xs c.loop-block.block-index c.block-item.result) c.deref-block-items.ensures.value) l,
    )

pub loop-block-preserved : goal.loop-block-preserved
loop-block-preserved c =
    let below : c.loop-block.block-index < length c.args.image.now.blocks.items =
    omega (arith, ap length c.deref-block-items.ensures.value) in
    let l : c.len.result ≡ length c.block-item.result.instrs.items = omega (arith, c.len.ensures) in
    let s = size_read c.args.image.now c.loop-block.block-index c.len.result c.block-item.result below
    (c.block-item.is ∙ ap (λ (xs : List CodeBlock).
    get_or xs c.loop-block.block-index c.block-item.result) c.deref-block-items.ensures.value) l in
    record {
      size = ap length c.in_ok-push-2.ensures.items ∙ (length-append c.loop-block.starts.items
          (c.loop-block.number ∷ []) ∙ omega (arith, c.loop-block.invariant.size));
      starts = λ b k. pushed (first_number (view.image c.args.image.now)) c.loop-block.starts.items
          c.push-in-loop-block.new.self.items c.loop-block.number (c.loop-block.block-index + 1)
          c.in_ok-push-2.ensures.items c.loop-block.invariant.size (λ q m. c.loop-block.invariant.starts q
          (omega arith)) c.loop-block.invariant.number b (omega arith);
      number = omega (arith, s, c.loop-block.invariant.number);
    }
