use Rattle.std.proofs.Common.{◌≡◌, suc, [], ◌∷◌, ◌++◌, List, length, map, sym, ap, ◌∙◌, subst, append_assoc}
use Rattle.std.proofs.Common.{arith}
use Rattle.std.proofs.lemmas.List.{length_push, nil_from_length}
use Rattle.wave_gen.specs.declared.tails.Tail.{Tail}
use Rattle.wave_gen.specs.Wire.{Made}
use Rattle.wave_gen.specs.Tables.{HasMade, tail_of, hangs}
use Rattle.wave_gen.proofs.Tables.Hanging.{hangs_more}
use Rattle.wave_gen.proofs.maker.Maker.hang_all.Goals as goal

pub loop-tail-preserved : goal.loop-tail-preserved
loop-tail-preserved c =
    let ts = c.loop-tail.tails.items in let us = c.pop.new.self.items in let t = c.in-Some.tail in
    let rest = c.loop-tail.invariant.0 in
    let was : ts ≡ us ++ t ∷ [] = c.in-Some.ensures.items in
    let long : length ts ≡ suc (length us) = ap length was ∙ omega (arith, length_push us t) in (
      t ∷ rest,
      c.loop-tail.invariant.1 ∙ ap (λ (l : List Tail). l ++ rest) was ∙ append_assoc us (t ∷ []) rest,
      λ b s st. subst (λ (x : Made). HasMade b c.hang.new.self x)
          (hangs_more b c.args.test (length us) c.in-Some-checked_add.selector (tail_of t) (map tail_of rest)
          s (omega (arith, c.in-Some-checked_add.ensures, c.pop.new.self.ok.0)))
          (c.in_ok-hang.ensures b (hangs b c.args.test (suc (length us)) (map tail_of rest) s)
          (subst (λ n. HasMade b c.loop-tail.self (hangs b c.args.test n (map tail_of rest) s)) long
          (c.loop-tail.invariant.2 b s st))),
    )

pub returns : goal.returns
returns c b s st =
    let ts = c.loop-tail.tails.items in
    let rest = c.loop-tail.invariant.0 in
    let none : length ts ≡ 0 = omega (arith, c.in_default.ensures.cases, c.loop-tail.tails.ok.0) in
    let all : rest ≡ c.args.tails.items = ap (λ (l : List Tail). l ++ rest) (sym (nil_from_length ts none))
    ∙ sym c.loop-tail.invariant.1 in
    subst (λ (l : List Tail). HasMade b c.loop-tail.self (hangs b c.args.test 0 (map tail_of l) s)) all
    (subst (λ n. HasMade b c.loop-tail.self (hangs b c.args.test n (map tail_of rest) s)) none
    (c.loop-tail.invariant.2 b s st))
