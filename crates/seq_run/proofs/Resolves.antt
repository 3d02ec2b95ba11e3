-- The tree that the code makes is the tree with numbers.
use Rattle.std.proofs.Common.{◌≡◌, ℕ, zero, suc, ◌+◌, ◌<◌, List, [], ◌∷◌, ◌++◌, length, take, map}
use Rattle.std.proofs.Common.{slice_index_or, refl, sym, ap, ◌∙◌, arith}
use Rattle.std.specs.Prelude.{Vec}
use Rattle.std.specs.declared.alloc.Global.{Global}
use Rattle.src_ast.specs.declared.tree.Expr.{Expr}
use Rattle.src_ast.specs.declared.tree.Stmt.{Stmt}
use Rattle.src_ast.specs.declared.tree.Form.{Form}
use Rattle.src_ast.specs.declared.tree.Form.TheVariants as forms
use Rattle.src_ast.specs.View as ast
use Rattle.src_ast.specs.Syntax as syntax
use Rattle.src_ast.specs.Meaning.{Scope}
use Rattle.seq_run.specs.Resolved as resolved
use Rattle.seq_run.specs.Resolved.{Steps, Nothing, Then}
use Rattle.seq_run.specs.Resolving as resolving
use Rattle.cfg_core.specs.View as graph
use Rattle.seq_run.specs.View as view
use Rattle.cfg_core.specs.declared.blocks.Term.{Term}
use Rattle.cfg_core.specs.Graph as plain
use Rattle.seq_run.specs.declared.tree.Step.{Step}
use Rattle.src_ast.proofs.Views.{if_view, while_view}

-- a choice with numbers
pub if_resolves : (scope : Scope) (s : Stmt) (t : Expr) (a b : Vec Stmt Global) (x : plain.Term) (y z : Steps)
    → s.form ≡ forms.If t a b → x ≡ resolving.term scope (ast.expression t)
    → y ≡ resolving.all scope (ast.statements a.items) → z ≡ resolving.all scope (ast.statements b.items)
    → resolved.If x y z ≡ resolving.one scope (ast.statement s)
if_resolves scope s t a b x y z is ex ey ez =
    ap (λ (u : plain.Term). resolved.If u y z) ex
    ∙ ap (λ (u : Steps). resolved.If (resolving.term scope (ast.expression t)) u z) ey
    ∙ ap (λ (u : Steps). resolved.If (resolving.term scope (ast.expression t))
    (resolving.all scope (ast.statements a.items)) u) ez
    ∙ ap (λ (u : syntax.Statement). resolving.one scope u)
    (sym (ap (λ (f : Form). ast.statement_of s.place f) is ∙ if_view s.place t a b))

-- a loop with numbers
pub while_resolves : (scope : Scope) (s : Stmt) (t : Expr) (a : Vec Stmt Global) (x : plain.Term) (y : Steps)
    → s.form ≡ forms.While t a → x ≡ resolving.term scope (ast.expression t)
    → y ≡ resolving.all scope (ast.statements a.items) → resolved.While x y ≡ resolving.one scope
    (ast.statement s)
while_resolves scope s t a x y is ex ey =
    ap (λ (u : plain.Term). resolved.While u y) ex
    ∙ ap (λ (u : Steps). resolved.While (resolving.term scope (ast.expression t)) u) ey
    ∙ ap (λ (u : syntax.Statement). resolving.one scope u)
    (sym (ap (λ (f : Form). ast.statement_of s.place f) is ∙ while_view s.place t a))

-- a term more
pub terms_more : (scope : Scope) (es : List Expr) (i : ℕ) (e : Expr) (list now : List Term) (t : Term)
    → i < length es → e ≡ slice_index_or es i e → map graph.term list ≡ resolving.terms scope
    (map ast.expression (take i es)) → graph.term t ≡ resolving.term scope (ast.expression e)
    → now ≡ list ++ t ∷ [] → map graph.term now ≡ resolving.terms scope (map ast.expression (take (i + 1) es))
terms_more scope es i e list now t lt is so st en =
    ap (map graph.term) en ∙ pushed list ∙ ap (λ (us : List plain.Term). us ++ graph.term t ∷ []) so
    ∙ ap (λ (u : plain.Term). resolving.terms scope (map ast.expression (take i es)) ++ u ∷ []) st
    ∙ at es i lt is ∙ ap (λ (n : ℕ). resolving.terms scope (map ast.expression (take n es)))
    (let z : suc i ≡ i + 1 = omega arith in z)
  where
    pushed : (xs : List Term) → map graph.term (xs ++ t ∷ []) ≡ map graph.term xs ++ graph.term t ∷ []
    pushed [] = refl
    pushed (x ∷ xs) = ap (λ (us : List plain.Term). graph.term x ∷ us) (pushed xs)

    at : (es : List Expr) (i : ℕ) → i < length es → e ≡ slice_index_or es i e
        → resolving.terms scope (map ast.expression (take i es)) ++ resolving.term scope (ast.expression e)
        ∷ [] ≡ resolving.terms scope (map ast.expression (take (suc i) es))
    at [] i lt is = absurd (omega arith)
    at (x ∷ es) zero lt is = ap (λ (y : Expr). resolving.term scope (ast.expression y) ∷ []) is
    at (x ∷ es) (suc i) lt is = ap (λ (us : List plain.Term). resolving.term scope (ast.expression x) ∷ us)
        (at es i (omega arith) is)

abbrev with_last : Steps → resolved.Step → Steps
with_last Nothing s = Then s Nothing
with_last (Then x rest) s = Then x (with_last rest s)

-- a step more
pub steps_more : (scope : Scope) (ss : List Stmt) (i : ℕ) (s : Stmt) (list now : List Step) (t : Step)
    → i < length ss → s ≡ slice_index_or ss i s → view.steps list ≡ resolving.all scope
    (ast.statements (take i ss)) → view.step t ≡ resolving.one scope (ast.statement s) → now ≡ list ++ t ∷ []
    → view.steps now ≡ resolving.all scope (ast.statements (take (i + 1) ss))
steps_more scope ss i s list now t lt is so st en =
    ap view.steps en ∙ pushed list ∙ ap (λ (u : Steps). with_last u (view.step t)) so
    ∙ ap (λ (u : resolved.Step). with_last (resolving.all scope (ast.statements (take i ss))) u) st
    ∙ at ss i lt is ∙ ap (λ (n : ℕ). resolving.all scope (ast.statements (take n ss)))
    (let z : suc i ≡ i + 1 = omega arith in z)
  where
    pushed : (xs : List Step) → view.steps (xs ++ t ∷ []) ≡ with_last (view.steps xs) (view.step t)
    pushed [] = refl
    pushed (x ∷ xs) = ap (λ (u : Steps). Then (view.step x) u) (pushed xs)

    at : (ss : List Stmt) (i : ℕ) → i < length ss → s ≡ slice_index_or ss i s
        → with_last (resolving.all scope (ast.statements (take i ss))) (resolving.one scope (ast.statement s))
        ≡ resolving.all scope (ast.statements (take (suc i) ss))
    at (x ∷ ss) (suc i) lt is = ap (λ (u : Steps). Then (resolving.one scope (ast.statement x)) u)
        (at ss i (omega arith) is)
    at ss i lt is = grind arith
