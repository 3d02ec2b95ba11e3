-- Steps of the code, one after another and with steps inside, and what each adds to a builder.
use Rattle.std.proofs.Common.{◌≡◌, ℕ, ◌+◌, ◌<◌, ◌^◌, suc, List, ◌∷◌, length, drop, slice_index_or, ap, ◌∙◌}
use Rattle.std.proofs.Common.{subst, arith}
use Rattle.std.proofs.lemmas.List.{drop_more}
use Rattle.std.specs.Prelude.{Vec}
use Rattle.std.specs.declared.alloc.Global.{Global}
use Rattle.seq_run.specs.Resolved.{If, While, Steps, Nothing, Then}
use Rattle.seq_run.specs.Resolved as resolved
use Rattle.seq_run.specs.View as source
use Rattle.seq_run.specs.Weight.{weight, heft}
use Rattle.cfg_core.specs.View as view
use Rattle.cfg_core.specs.declared.blocks.Term.{Term}
use Rattle.seq_run.specs.declared.tree.Step.{Step}
use Rattle.seq_run.specs.declared.tree.Step.TheVariants as code
use Rattle.cfg_core.specs.Graph.{Op, Exit}
use Rattle.cfg_build.specs.Lowered.{begun}
use Rattle.cfg_build.specs.Building.{Builder, number, closed, with_op, emit_one, emit, StepFits, StepsFit}
use Rattle.cfg_build.proofs.Emitted.{number_closed, number_emit}
use Rattle.seq_run.proofs.Follows.{heft_some, if_view, while_view}

-- the next step, and those after it
next_step : (ss : List Step) (i : ℕ) (x : Step) → i < length ss → x ≡ slice_index_or ss i x
    → source.steps (drop i ss) ≡ Then (source.step x) (source.steps (drop (i + 1) ss))
next_step ss i x lt is = grind (arith, drop_more)

-- the step of the code is an `if` with these arms
pub if_is : (st : Step) (t : Term) (a b : Vec Step Global) (xs ys : List Step) → st ≡ code.If t a b
    → xs ≡ a.items → ys ≡ b.items → source.step st ≡ If (view.term t) (source.steps xs) (source.steps ys)
if_is st t a b xs ys is ex ey = grind (arith, if_view)

pub while_is : (st : Step) (t : Term) (a : Vec Step Global) (xs : List Step) → st ≡ code.While t a
    → xs ≡ a.items → source.step st ≡ While (view.term t) (source.steps xs)
while_is st t a xs is ex = grind (arith, while_view)

begun_then : (s : resolved.Step) (rest : Steps) → begun (Then s rest) ≡ begun (Then s Nothing) + begun rest
begun_then s rest = grind arith

-- a step among others weighs less than all of them
pub step_lighter : (ss : List Step) (i : ℕ) (x : Step) → i < length ss → x ≡ slice_index_or ss i x
    → weight (source.step x) + 1 < heft (source.steps ss)
step_lighter (y ∷ ss) (suc i) x lt is = let h = step_lighter ss i x (omega arith) is in omega arith
step_lighter ss i x lt is = grind (arith, heft_some)

-- where the next step is this one, the blocks that begin in it come first
pub begun_next : (ss : List Step) (i : ℕ) (x : Step) → i < length ss → x ≡ slice_index_or ss i x
    → begun (source.steps (drop i ss)) ≡ begun (Then (source.step x) Nothing) + begun
    (source.steps (drop (i + 1) ss))
begun_next ss i x lt is = grind (arith, next_step, begun_then)

-- the number of the block at hand after an operation, the end of a block, a step, and steps
pub after_op : (o : Op) (d e : Builder) → e ≡ with_op o d → number e ≡ number d
after_op o d e is = ap number is

pub after_exit : (exit : Exit) (d e : Builder) → e ≡ closed exit d → number e ≡ suc (number d)
after_exit exit d e is = ap number is ∙ number_closed exit d

after_step : (s : resolved.Step) (d e : Builder) → e ≡ emit_one s d
    → number e ≡ number d + begun (Then s Nothing)
after_step s d e is = ap number is ∙ number_emit (Then s Nothing) d

pub after_steps : (st : Steps) (d e : Builder) → e ≡ emit st d → number e ≡ number d + begun st
after_steps st d e is = ap number is ∙ number_emit st d

-- the next step is added
module _ (ss : List Step) (i : ℕ) (x : Step) (lt : i < length ss) (is : x ≡ slice_index_or ss i x) where
  pub emitted_next : (d e whole : Builder) → e ≡ emit_one (source.step x) d
      → emit (source.steps (drop i ss)) d ≡ whole → emit (source.steps (drop (i + 1) ss)) e ≡ whole
  emitted_next d e whole made all = grind (arith, next_step)

  pub room_here : (n : ℕ) → n + begun (source.steps (drop i ss)) < 2 ^ 32
      → n + begun (Then (source.step x) Nothing) < 2 ^ 32
  room_here n room = let b = begun_next ss i x lt is in omega (arith, b, room)

  pub room_next : (d e : Builder) → e ≡ emit_one (source.step x) d
      → number d + begun (source.steps (drop i ss)) < 2 ^ 32
      → number e + begun (source.steps (drop (i + 1) ss)) < 2 ^ 32
  room_next d e made room = grind (arith, begun_next, after_step)

  pub fit_here : StepsFit (source.steps (drop i ss)) → StepFits (source.step x)
      × StepsFit (source.steps (drop (i + 1) ss))
  fit_here fit = subst (λ (st : Steps). StepsFit st) (next_step ss i x lt is) fit
