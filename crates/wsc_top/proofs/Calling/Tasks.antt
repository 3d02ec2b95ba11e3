-- Words ask for one task at most.
use Rattle.std.specs.Prelude.{◌≡◌, ℕ, List, Option, Some, IfSome}
use Rattle.std.proofs.Common.{sym, ap, ◌∙◌, subst}
use Rattle.wsc_words.specs.Lines as lines
use Rattle.wsc_words.specs.declared.line.Invocation.{Invocation}
use Rattle.wsc_top.specs.declared.task.Task.{Task}
use Rattle.wsc_top.specs.Tasks.{task_of, AsksFor}

-- words are one line at most
abbrev pub OneLine : Type 0
OneLine = (words : List (List ℕ)) (l m : Invocation) → lines.IsLine words l → lines.IsLine words m → l ≡ m

-- so they ask for one task
pub same_task_by : OneLine → (words : List (List ℕ)) (c d : Task) → AsksFor words c → AsksFor words d → c ≡ d
same_task_by one words c d (l, h, e) (m, k, f) =
    let same : l ≡ m = one words l m h k in sym e ∙ ap task_of same ∙ f

-- what is found is asked for
pub found_line : (words : List (List ℕ)) (found : Option Task) (t : Task)
    → IfSome found (λ t. AsksFor words t) → found ≡ Some t
    → AsksFor words t
found_line words found t h e = subst (λ f. IfSome f (λ t. AsksFor words t)) e h
