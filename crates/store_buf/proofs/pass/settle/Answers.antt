use Rattle.std.proofs.Common.{ℕ, ◌≡◌, ◌⊎◌, ◌∙◌, subst, sym, ap, arith}
use Rattle.ws_isa.specs.Image.{note_of}
use Rattle.df_core.specs.Core as plain
use Rattle.df_core.specs.Core.{IsNext, pass}
use Rattle.df_core.specs.Chains.{chain_of, next_flag, is_nothing}
use Rattle.df_core.specs.Places.{image_of}
use Rattle.df_core.specs.Stands.{Settles, done}
use Rattle.df_core.proofs.Parts.Nexts.{next_is, next_not}
use Rattle.df_core.proofs.Keeping.Settled.{none_by, all_by, same_wave}
use Rattle.store_buf.specs.Earlies.{StandsUnder, early_ops}
use Rattle.store_buf.proofs.Earlies as E
use Rattle.store_buf.proofs.pass.settle.Goals.{then-number-position+else-not-is_next+else-is_nothing}
use Rattle.store_buf.proofs.pass.settle.Goals.{else-number-position}
use Rattle.store_buf.proofs.pass.settle.Goals as goal
use Rattle.ws_words.specs.Items.{In}

pub returns-then-not-is_next-clause-settles : goal.returns-then-not-is_next-clause-settles
returns-then-not-is_next-clause-settles c =
    let image = image_of c.args.program.now in
    let at = chain_of c.loop-number.at in
    c.loop-number.invariant.settles at (early_ops c.loop-number.early)
    (E.first_rests image c.loop-number.early c.in-Some.number c.in-Some.instr c.loop-number.invariant.numbered
    c.in-Some.ensures at
    (let e = c.position.ensures in let l = c.if-number-position.true in omega (arith, e, l))
    (next_not at (note_of image c.in-Some.instr) (ap (next_flag at) (sym c.note-note.ensures)
    ∙ sym c.is_next.ensures ∙ c.if-not-is_next.true)))

pub returns-then-is_nothing-clause-settles : goal.returns-then-is_nothing-clause-settles
returns-then-is_nothing-clause-settles c =
    let image = image_of c.args.program.now in
    let at = chain_of c.loop-number.at in
    let i = c.in-Some.instr in
    c.loop-number.invariant.settles (chain_of c.pass-at.result) (early_ops c.clear.new.self)
    (E.first_ends image c.loop-number.early c.in-Some.number i c.loop-number.invariant.numbered
    c.in-Some.ensures at (chain_of c.pass-at.result) (early_ops c.clear.new.self)
    (subst (IsNext at) c.note-note.ensures
    (next_is at c.note-note.result (sym c.is_next.ensures ∙ c.if-not-is_next.false)))
    (c.pass-at.ensures ∙ ap (pass at) c.note-note.ensures)
    (none_by (note_of image i).succ (early_ops c.loop-number.early)
    (ap (λ n. is_nothing n.succ) (sym c.note-note.ensures) ∙ sym c.is_nothing.ensures
    ∙ c.if-is_nothing.true))
    c.clear.ensures.none)

pub loop-number-smaller : goal.loop-number-smaller
loop-number-smaller c = c.drop_top.ensures.fewer c.in-Some.number c.in-Some.instr c.in-Some.ensures

pub loop-number-preserved : goal.loop-number-preserved
loop-number-preserved c =
    let image = image_of c.args.program.now in
    let at = chain_of c.loop-number.at in
    let i = c.in-Some.instr in
    let others : (a b : ℕ) → StandsUnder c.loop-number.early a b → ((c.in-Some.number ≡ a) × (i ≡ b))
    ⊎ StandsUnder c.drop_top.new.self a b =
    λ a b h. c.drop_top.ensures.others c.in-Some.number i a b c.in-Some.ensures h in
    record {
      settles = λ d left s. c.loop-number.invariant.settles d left (elim c.if-number-position.branch [
        | then-number-position+else-not-is_next+else-is_nothing w ↦ E.first_goes image c.loop-number.early
            c.in-Some.number i c.loop-number.invariant.numbered c.in-Some.ensures c.drop_top.new.self others
            c.drop_top.ensures.back at (chain_of c.if-number-position.at) d left (subst (IsNext at)
            w.note-note.ensures (next_is at w.note-note.result (sym w.is_next.ensures ∙
            w.if-not-is_next.false))) (ap chain_of w.at-is ∙ w.pass-at.ensures ∙ ap (pass at)
            w.note-note.ensures) (all_by (note_of image i).succ (early_ops c.drop_top.new.self) (ap (λ n.
            is_nothing n.succ) (sym w.note-note.ensures) ∙ sym w.is_nothing.ensures ∙ w.if-is_nothing.false))
            s
        | else-number-position w ↦ E.first_drops image c.loop-number.early c.in-Some.number i
            c.loop-number.invariant.numbered c.in-Some.ensures c.drop_top.new.self others
            c.drop_top.ensures.back at d left (let e = c.position.ensures in let l =
            w.if-number-position.false in
            omega (arith, e, l))
            (subst (λ x. Settles image x (early_ops c.drop_top.new.self) d left) (ap chain_of w.at-is) s)
      ]);
      numbered = E.rest_numbered image c.loop-number.early c.in-Some.number i c.loop-number.invariant.numbered
          c.in-Some.ensures c.drop_top.new.self others c.drop_top.ensures.back;
      wave = elim c.if-number-position.branch [
        | then-number-position+else-not-is_next+else-is_nothing w ↦ ap (λ x. x.wave) (ap chain_of w.at-is) ∙
            ap (λ (x : plain.Chain). x.wave) w.pass-at.ensures ∙ same_wave at w.note-note.result (sym
            w.is_nothing.ensures ∙ w.if-is_nothing.false) ∙ c.loop-number.invariant.wave
        | else-number-position w ↦ ap (λ x. x.wave) w.at-is ∙ c.loop-number.invariant.wave
      ];
      fewer = (let a = c.drop_top.ensures.fewer c.in-Some.number i c.in-Some.ensures in
          let b = c.loop-number.invariant.fewer in omega (arith, a, b));
      room = c.drop_top.ensures.room ∙ c.loop-number.invariant.room;
    }

pub returns-clause-settles : goal.returns-clause-settles
returns-clause-settles c = c.loop-number.invariant.settles (chain_of c.loop-number.at)
    (early_ops c.loop-number.early) (done (λ i h nx. absurd (subst (In i) c.in_default.ensures h)))
