use Rattle.std.proofs.Common.{suc, ◌+◌, ◌≡◌, ◌≤◌, ◌∷◌, drop, slice_index, ap, sym, ◌∙◌, length, arith}
use Rattle.cfg_core.specs.Walk as walks
use Rattle.cfg_core.proofs.Leaving.{drop_word, landed_next, landed_past}
use Rattle.cfg_core.proofs.exits.fill.Goals as goal
use Rattle.cfg_core.proofs.exits.fill.Goals.{then-i-len, else-i-len}

pub loop-i-preserved : goal.loop-i-preserved
loop-i-preserved c =
    let named = c.args.named.now in let words = c.args.words.now in let i = c.loop-i.i in
    let one : i + 1 ≡ suc i = omega arith in
    elim c.if-i-len.branch [
      | then-i-len w ↦
          let x = slice_index named i in
          let next : drop i named ≡ x ∷ drop (i + 1) named = drop_word named i (omega arith)
          ∙ ap (λ n. x ∷ drop n named) (sym one) in
          landed_next named words c.loop-i.vars c.if-i-len.vars _ i (i + 1) x w.word.result one next
          (omega (arith, w.if-i-len.true, c.len.ensures)) w.word.ensures (w.vars-is ∙ w.set.ensures)
          c.loop-i.invariant
      | else-i-len w ↦
          let past : length words ≤ i = omega (arith, w.if-i-len.false, c.len.ensures) in
          ap (λ vs. walks.landed (drop (i + 1) named) (drop (i + 1) words) vs) w.vars-is
          ∙ landed_past named words c.loop-i.vars _ i (i + 1) (omega arith) past c.loop-i.invariant
    ]
