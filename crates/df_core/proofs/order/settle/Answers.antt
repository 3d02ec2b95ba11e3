use Rattle.std.proofs.Common.{ℕ, ◌≡◌, ◌<◌, List, length, slice_index, ap, sym, subst, ◌∙◌, arith}
use Rattle.ws_isa.specs.Image.{note_of}
use Rattle.df_core.specs.Core as plain
use Rattle.df_core.specs.Core.{IsNext}
use Rattle.df_core.specs.Stands.{done, left_after}
use Rattle.df_core.specs.Chains.{chain_of}
use Rattle.df_core.specs.Places.{image_of}
use Rattle.df_core.proofs.Keeping.Settled.{one_more, index_is, all_passed, same_wave}
use Rattle.df_core.proofs.order.settle.Goals as goal
use Rattle.ws_words.specs.Items.{In}

pub returns-then-is_nothing-clause-settles : goal.returns-then-is_nothing-clause-settles
returns-then-is_nothing-clause-settles c =
    let image = image_of c.args.program.now in
    let items = c.loop-place.early.items in
    let k = c.in-Some.place in
    let e : c.deref.result.now ≡ items = c.deref.ensures.value in
    let l : k < length items = subst (λ xs. k < length xs) e c.in-Some.ensures.0 in
    let nx : IsNext (chain_of c.loop-place.at) (note_of image (slice_index items k)) =
    subst (λ xs. IsNext (chain_of c.loop-place.at) (note_of image (slice_index xs k))) e
    c.in-Some.ensures.1 in
    let n : c.note-note.result ≡ note_of image (slice_index items k) = c.note-note.ensures
    ∙ ap (note_of image) (index_is items k c.index.result.now l c.index.ensures) in
    c.loop-place.invariant.settles (chain_of c.pass-at.result) c.forget.new.early.items
    (one_more image (chain_of c.loop-place.at) (chain_of c.pass-at.result) (chain_of c.pass-at.result) items
    c.forget.new.early.items c.forget.new.early.items k c.note-note.result l nx n
    (c.forget.ensures.left ∙ ap (left_after c.note-note.result) c.remove.ensures.items) c.pass-at.ensures
    (all_passed image (chain_of c.pass-at.result) c.note-note.result c.remove.new.self.items
    c.forget.new.early.items (sym c.is_nothing.ensures ∙ c.if-is_nothing.true) c.forget.ensures.left))

pub loop-place-preserved : goal.loop-place-preserved
loop-place-preserved c =
    let image = image_of c.args.program.now in
    let items = c.loop-place.early.items in
    let k = c.in-Some.place in
    let e : c.deref.result.now ≡ items = c.deref.ensures.value in
    let l : k < length items = subst (λ xs. k < length xs) e c.in-Some.ensures.0 in
    let nx : IsNext (chain_of c.loop-place.at) (note_of image (slice_index items k)) =
    subst (λ xs. IsNext (chain_of c.loop-place.at) (note_of image (slice_index xs k))) e
    c.in-Some.ensures.1 in
    let n : c.note-note.result ≡ note_of image (slice_index items k) = c.note-note.ensures
    ∙ ap (note_of image) (index_is items k c.index.result.now l c.index.ensures) in
    record {
      settles = λ d left s. c.loop-place.invariant.settles d left
          (one_more image (chain_of c.loop-place.at) d (chain_of c.pass-at.result) items
          c.forget.new.early.items left k c.note-note.result l nx n
          (c.forget.ensures.left ∙ ap (left_after c.note-note.result) c.remove.ensures.items)
          c.pass-at.ensures s);
      wave = ap (λ (d : plain.Chain). d.wave) c.pass-at.ensures ∙ same_wave (chain_of c.loop-place.at)
          c.note-note.result (sym c.is_nothing.ensures ∙ c.if-is_nothing.false) ∙ c.loop-place.invariant.wave;
      fewer = omega (arith, c.forget.ensures.fewer, c.remove.ensures.len, c.loop-place.invariant.fewer);
      room = c.forget.ensures.room ∙ c.remove.ensures.capacity ∙ c.loop-place.invariant.room;
    }

pub returns-clause-settles : goal.returns-clause-settles
returns-clause-settles c = c.loop-place.invariant.settles (chain_of c.loop-place.at) c.loop-place.early.items
    (done (λ i h nx. c.in_default.ensures i (subst (λ (xs : List ℕ). In i xs) (sym c.deref.ensures.value) h)
    nx))
