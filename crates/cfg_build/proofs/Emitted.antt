-- What steps add to a builder is their blocks.
use Rattle.std.proofs.Common.{suc, ◌+◌, ◌≡◌, List, [], ◌∷◌, ◌++◌, refl, sym, ap, ◌∙◌, append_assoc}
use Rattle.std.proofs.Common.{length-append, arith}
use Rattle.std.proofs.lemmas.List.{append-nil}
use Rattle.seq_run.specs.Resolved.{Do, Call, If, While, Steps, Nothing, Then}
use Rattle.cfg_core.specs.Graph as graph
use Rattle.cfg_core.specs.Graph.{Op, Exit, Block, Tick, Goto, Branch}
use Rattle.cfg_build.specs.Lowered.{BlockRest, goes_to, op, begun, Made, whole, made}
use Rattle.cfg_build.specs.Building.{Builder, number, closed, with_op, emit, ended}

-- the finished blocks, then the steps' blocks, the first of which begins with the operations at hand
abbrev pub added_to : Builder → Made → List Block
added_to d m = d.done ++ record { named = []; ops = d.ops ++ m.front.ops; exit = m.front.exit } ∷ m.blocks

pub number_closed : (exit : Exit) (d : Builder) → number (closed exit d) ≡ suc (number d)
number_closed exit d = grind (arith, length-append)

pub number_emit : (st : Steps) (d : Builder) → number (emit st d) ≡ number d + begun st
number_emit Nothing d = omega arith
number_emit (Then (Do a) rest) d = number_emit rest _
number_emit (Then (Call x f ts) rest) d =
    let call = graph.Call x f ts (suc (number d)) in
    let e = number_emit rest (closed call (with_op (Tick 1) d)) in
    let s = number_closed call (with_op (Tick 1) d) in
    omega (arith, e, s)
number_emit (Then (If t a b) rest) d =
    let c = number d in
    let second = suc (suc c + begun a) in let join = suc (second + begun b) in
    let d1 : Builder = closed (Branch t (suc c) second) (with_op (Tick 1) d) in
    let d2 : Builder = emit a d1 in
    let d3 : Builder = closed (Goto join) d2 in
    let d4 : Builder = emit b d3 in
    let d5 : Builder = closed (Goto join) d4 in
    let e1 : number d1 ≡ suc c = number_closed (Branch t (suc c) second) (with_op (Tick 1) d) in
    let e2 : number d2 ≡ number d1 + begun a = number_emit a d1 in
    let e3 : number d3 ≡ suc (number d2) = number_closed (Goto join) d2 in
    let e4 : number d4 ≡ number d3 + begun b = number_emit b d3 in
    let e5 : number d5 ≡ suc (number d4) = number_closed (Goto join) d4 in
    let e6 : number (emit rest d5) ≡ number d5 + begun rest = number_emit rest d5 in
    omega (arith, e1, e2, e3, e4, e5, e6)
number_emit (Then (While t body) rest) d =
    let c = number d in
    let inside = suc (suc c) in let after = suc (inside + begun body) in
    let d1 : Builder = closed (Goto (suc c)) d in
    let d2 : Builder = closed (Branch t inside after) (with_op (Tick 1) d1) in
    let d3 : Builder = emit body d2 in
    let d4 : Builder = closed (Goto (suc c)) d3 in
    let e1 : number d1 ≡ suc c = number_closed (Goto (suc c)) d in
    let e2 : number d2 ≡ suc (number d1) = number_closed (Branch t inside after) (with_op (Tick 1) d1) in
    let e3 : number d3 ≡ number d2 + begun body = number_emit body d2 in
    let e4 : number d4 ≡ suc (number d3) = number_closed (Goto (suc c)) d3 in
    let e5 : number (emit rest d4) ≡ number d4 + begun rest = number_emit rest d4 in
    omega (arith, e1, e2, e3, e4, e5)

-- a block closed by an exit is one that a part without operations ends
closed_is : (d : Builder) (exit : Exit) → (closed exit d).done ≡ ended d (record { ops = []; exit = exit })
closed_is d exit = grind (arith, append-nil)

pub emit_made : (st : Steps) (d : Builder) (rest : BlockRest) → ended (emit st d) rest ≡ added_to d
    (made st (number d) rest)
emit_made Nothing d rest = refl
emit_made (Then (Do a) next) d rest = emit_made next _ rest ∙ ap (λ (ops : List Op). d.done ++ record {
  named = [];
  ops = ops;
  exit = (made next (number d) rest).front.exit;
} ∷ (made next (number d) rest).blocks)
    (append_assoc (d.ops ++ Tick 1 ∷ []) (op a ∷ []) (made next (number d) rest).front.ops
    ∙ append_assoc d.ops (Tick 1 ∷ []) _)
emit_made (Then (Call x f ts) next) d rest =
    let call = graph.Call x f ts (suc (number d)) in
    let d1 : Builder = closed call (with_op (Tick 1) d) in
    let e1 : number d1 ≡ suc (number d) = number_closed call (with_op (Tick 1) d) in
    emit_made next d1 rest
    ∙ ap (λ n. added_to d1 (made next n rest)) e1
    ∙ append_assoc d.done (record { named = []; ops = d.ops ++ Tick 1 ∷ []; exit = call } ∷ [])
    (whole (made next (suc (number d)) rest))
emit_made (Then (If t a b) next) d rest =
    let c = number d in
    let second = suc (suc c + begun a) in let join = suc (second + begun b) in
    let fork = Branch t (suc c) second in
    let d1 : Builder = closed fork (with_op (Tick 1) d) in
    let d2 : Builder = emit a d1 in
    let d3 : Builder = closed (Goto join) d2 in
    let d4 : Builder = emit b d3 in
    let d5 : Builder = closed (Goto join) d4 in
    let e1 : number d1 ≡ suc c = number_closed fork (with_op (Tick 1) d) in
    let e2 : number d2 ≡ number d1 + begun a = number_emit a d1 in
    let e3 : number d3 ≡ suc (number d2) = number_closed (Goto join) d2 in
    let e4 : number d4 ≡ number d3 + begun b = number_emit b d3 in
    let e5 : number d5 ≡ suc (number d4) = number_closed (Goto join) d4 in
    let at_second : number d3 ≡ second = omega (arith, e1, e2, e3) in
    let at_join : number d5 ≡ join = omega (arith, at_second, e4, e5) in
    let wa = whole (made a (suc c) (goes_to join)) in let wb = whole (made b second (goes_to join)) in
    let wn = whole (made next join rest) in
    let x3 : d3.done ≡ d1.done ++ wa = closed_is d2 (Goto join) ∙ emit_made a d1 (goes_to join)
    ∙ ap (λ n. d1.done ++ whole (made a n (goes_to join))) e1 in
    let x5 : d5.done ≡ d3.done ++ wb = closed_is d4 (Goto join) ∙ emit_made b d3 (goes_to join)
    ∙ ap (λ n. d3.done ++ whole (made b n (goes_to join))) at_second in
    emit_made next d5 rest
    ∙ ap (λ n. d5.done ++ whole (made next n rest)) at_join
    ∙ ap (λ (bs : List Block). bs ++ wn) (x5 ∙ ap (λ (bs : List Block). bs ++ wb) x3)
    ∙ append_assoc (d1.done ++ wa) wb wn
    ∙ append_assoc d1.done wa (wb ++ wn)
    ∙ append_assoc d.done (record { named = []; ops = d.ops ++ Tick 1 ∷ []; exit = fork } ∷ [])
    (wa ++ (wb ++ wn))
emit_made (Then (While t body) next) d rest =
    let c = number d in
    let inside = suc (suc c) in let after = suc (inside + begun body) in
    let fork = Branch t inside after in
    let d1 : Builder = closed (Goto (suc c)) d in
    let d2 : Builder = closed fork (with_op (Tick 1) d1) in
    let d3 : Builder = emit body d2 in
    let d4 : Builder = closed (Goto (suc c)) d3 in
    let e1 : number d1 ≡ suc c = number_closed (Goto (suc c)) d in
    let e2 : number d2 ≡ suc (number d1) = number_closed fork (with_op (Tick 1) d1) in
    let e3 : number d3 ≡ number d2 + begun body = number_emit body d2 in
    let e4 : number d4 ≡ suc (number d3) = number_closed (Goto (suc c)) d3 in
    let at_inside : number d2 ≡ inside = omega (arith, e1, e2) in
    let at_after : number d4 ≡ after = omega (arith, at_inside, e3, e4) in
    let head : Block = record { named = []; ops = Tick 1 ∷ []; exit = fork } in
    let first : Block = record { named = []; ops = d.ops; exit = Goto (suc c) } in
    let wb = whole (made body inside (goes_to (suc c))) in let wn = whole (made next after rest) in
    let x4 : d4.done ≡ d2.done ++ wb = closed_is d3 (Goto (suc c)) ∙ emit_made body d2 (goes_to (suc c))
    ∙ ap (λ n. d2.done ++ whole (made body n (goes_to (suc c)))) at_inside in
    emit_made next d4 rest
    ∙ ap (λ n. d4.done ++ whole (made next n rest)) at_after
    ∙ ap (λ (bs : List Block). bs ++ wn) x4
    ∙ append_assoc d2.done wb wn
    ∙ append_assoc d1.done (head ∷ []) (wb ++ wn)
    ∙ append_assoc d.done (first ∷ []) (head ∷ (wb ++ wn))
    ∙ ap (λ (ops : List Op). d.done ++ record { named = []; ops = ops; exit = Goto (suc c) }
    ∷ (head ∷ (wb ++ wn))) (sym (append-nil d.ops))
