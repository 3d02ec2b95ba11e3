-- Where the rules are kept, each number in the body of a procedure names something.
use Rattle.std.proofs.Common.{◌≡◌, ℕ, suc, ◌+◌, ◌<◌, ◌≤◌, nat_le, true, List, [], ◌∷◌, ◌++◌, Option}
use Rattle.std.proofs.Common.{Some, None, length, refl, sym, ap, ◌∙◌, arith}
use Rattle.std.proofs.lemmas.List.Folds.{list_all-append}
use Rattle.std.proofs.lemmas.Bool.{ltb-true, leb-true}
use Rattle.std.specs.List.{list_all, AllByRecursion}
use Rattle.src_ast.specs.declared.lexeme.Name.{Name}
use Rattle.src_ast.specs.Syntax.{Expression, Cell, Signed, Binary, Statement, Assign, Store}
use Rattle.src_ast.specs.Syntax.{Print, Read, Give, Take, Call, If, While, Statements, Nothing, Then, Last}
use Rattle.src_ast.specs.Rules.{Rule, Sort, variable, array, procedure, Declared, has_sort, use_rules}
use Rattle.src_ast.specs.Rules.{expression_rules, argument_rules, statement_rule, port_rule, statement_rules}
use Rattle.src_ast.specs.Rules.{body_rules, ending_rules, size_of, size_of_all, size_of_ending}
use Rattle.src_ast.specs.Meaning.{Scope, place_of, var_number, array_number, proc_number}
use Rattle.seq_run.specs.Resolved.{Proc, nth_proc}
use Rattle.cfg_core.specs.Graph.{Term}
use Rattle.src_ast.specs.declared.tree.Unary.{Unary}
use Rattle.seq_run.specs.Resolving.{signed, term, terms, one, all, result}
use Rattle.cfg_core.specs.Rules.{IsArray, IsPort, TermIn}
use Rattle.seq_run.specs.InRange.{ResultIn, StepIn, StepsIn, size, size_all}
use Rattle.ws_words.proofs.Bools.{and_left as first_holds, and_right as second_holds}

-- all of these rules are kept
abbrev pub Kept : List Rule → Type 0
Kept rs = list_all (λ r. r.kept) rs ≡ true

-- the rules of the first list
pub kept_front : (xs ys : List Rule) → Kept (xs ++ ys) → Kept xs
kept_front xs ys h = first_holds _ _ (sym (list_all-append (λ r. r.kept) xs ys) ∙ h)

-- the rules of the second list
pub kept_after : (xs ys : List Rule) → Kept (xs ++ ys) → Kept ys
kept_after xs ys h = grind (arith, second_holds, list_all-append)

-- the first rule
pub kept_one : (r : Rule) (rs : List Rule) → Kept (r ∷ rs) → r.kept ≡ true
kept_one r rs h = first_holds r.kept _ h

-- the rules after it
pub kept_rest : (r : Rule) (rs : List Rule) → Kept (r ∷ rs) → Kept rs
kept_rest r rs h = second_holds r.kept _ h

pub length_terms : (scope : Scope) (es : List Expression) → length (terms scope es) ≡ length es
length_terms scope [] = refl
length_terms scope (e ∷ es) = ap suc (length_terms scope es)

-- what is visible has a place among so many variables and arrays, and these procedures
pub record Seen (scope : Scope) (visible : List Declared) (arrays : ℕ) (procs : List Proc)
    (home vars : ℕ) : Type 0 where
  pub var_seen : (text : List ℕ) → has_sort visible text variable ≡ true → place_of scope.names text < vars
  pub array_seen : (text : List ℕ) → has_sort visible text array ≡ true → place_of scope.arrays text < arrays
  pub proc_seen : (text : List ℕ) (n : ℕ) → has_sort visible text (procedure n) ≡ true
      → place_of scope.procs text < home
  pub count_seen : (text : List ℕ) (n : ℕ) → has_sort visible text (procedure n) ≡ true
      → n ≡ (nth_proc procs (place_of scope.procs text)).params

module _ (scope : Scope) (visible : List Declared) (arrays : ℕ) (procs : List Proc) (home vars : ℕ)
    (seen : Seen scope visible arrays procs home vars) where
  used : (x : Name) (s : Sort) → Kept (use_rules visible x s) → has_sort visible x.text s ≡ true
  used x s h = grind (arith, first_holds, second_holds)

  var_in : (x : Name) → Kept (use_rules visible x variable) → var_number scope x < vars
  var_in x h = seen.var_seen x.text (used x variable h)

  array_in : (a : Name) → Kept (use_rules visible a array) → IsArray arrays (array_number scope a)
  array_in a h = let lt = seen.array_seen a.text (used a array h) in (omega arith, omega (arith, lt))

  port_in : (port : ℕ) (at : _) → Kept (port_rule port at ∷ []) → IsPort port
  port_in port at h = grind (arith, first_holds, nat_le, leb-true, second_holds)

  signed_in : (u : Unary) (t : Term) → TermIn arrays vars t → TermIn arrays vars (signed u t)
  signed_in u t h = grind arith

  pub term_in : (e : Expression) → Kept (expression_rules visible e) → TermIn arrays vars (term scope e)
  term_in (Cell a e) h =
      let us = use_rules visible a array in let es = expression_rules visible e in
      (array_in a (kept_front us es h), term_in e (kept_after us es h))
  term_in (Signed s e) h = signed_in s (term scope e) (term_in e h)
  term_in (Binary op a b) h =
      let xs = expression_rules visible a in let ys = expression_rules visible b in
      (term_in a (kept_front xs ys h), term_in b (kept_after xs ys h))
  term_in e h = grind (arith, var_in)

  terms_in : (es : List Expression) → Kept (argument_rules visible es) → AllByRecursion (TermIn arrays vars)
      (terms scope es)
  terms_in [] h = tt
  terms_in (e ∷ es) h =
      let xs = expression_rules visible e in let ys = argument_rules visible es in
      grind (arith, term_in, kept_front, kept_after, terms_in es (kept_after xs ys h))

  call_in : (f : Name) (es : List Expression) → Kept (use_rules visible f (procedure (length es)))
      → length (terms scope es) ≡ (nth_proc procs (proc_number scope f)).params
  call_in f es h = grind (arith, length_terms, seen.count_seen, used)

  mutual
    one_in : (k : ℕ) (s : Statement) → Kept (statement_rules visible k s)
        → StepIn arrays procs home vars (one scope s)
    one_in k (Assign at x e) h =
        let us = use_rules visible x variable in let es = expression_rules visible e in
        let r = statement_rule k at in
        (var_in x (kept_front us (r ∷ es) h), term_in e (kept_rest r es (kept_after us (r ∷ es) h)))
    one_in k (Store at a i e) h =
        let us = use_rules visible a array in let r = statement_rule k at in
        let xs = expression_rules visible i in let ys = expression_rules visible e in
        let both = kept_rest r (xs ++ ys) (kept_after us (r ∷ (xs ++ ys)) h) in (
          array_in a (kept_front us (r ∷ (xs ++ ys)) h),
          term_in i (kept_front xs ys both),
          term_in e (kept_after xs ys both),
        )
    one_in k (Print at e) h = term_in e (kept_rest (statement_rule k at) (expression_rules visible e) h)
    one_in k (Read at x) h = var_in x (kept_rest (statement_rule k at) (use_rules visible x variable) h)
    one_in k (Give at n p x) h =
        let us = use_rules visible x variable in let r = port_rule n p in
        let both = kept_rest (statement_rule k at) (r ∷ us) h in
        (port_in n p (kept_front (r ∷ []) us both), var_in x (kept_rest r us both))
    one_in k (Take at n p e) h =
        let es = expression_rules visible e in let r = port_rule n p in
        let both = kept_rest (statement_rule k at) (r ∷ es) h in
        (port_in n p (kept_front (r ∷ []) es both), term_in e (kept_rest r es both))
    one_in k (Call at None f es) h =
        let us = use_rules visible f (procedure (length es)) in let xs = argument_rules visible es in
        let r = statement_rule k at in
        let named = kept_front us (r ∷ xs) h in (
          tt,
          seen.proc_seen f.text (length es) (used f (procedure (length es)) named),
          call_in f es named,
          terms_in es (kept_rest r xs (kept_after us (r ∷ xs) h)),
        )
    one_in k (Call at (Some x) f es) h =
        let vs = use_rules visible x variable in let us = use_rules visible f (procedure (length es)) in
        let xs = argument_rules visible es in let r = statement_rule k at in
        let both = kept_rest r (us ++ xs) (kept_after vs (r ∷ (us ++ xs)) h) in
        let named = kept_front us xs both in (
          var_in x (kept_front vs (r ∷ (us ++ xs)) h),
          seen.proc_seen f.text (length es)
              (used f (procedure (length es)) named),
          call_in f es named,
          terms_in es (kept_after us xs both),
        )
    one_in k (If at e a b) h =
        let es = expression_rules visible e in let xs = body_rules visible (suc k) a in let ys =
        body_rules visible (suc k + size_of_all a) b in
        let rest = kept_rest (statement_rule k at) (es ++ (xs ++ ys)) h in
        let both = kept_after es (xs ++ ys) rest in (
          term_in e (kept_front es (xs ++ ys) rest),
          all_in (suc k) a (kept_front xs ys both),
          all_in (suc k + size_of_all a) b (kept_after xs ys both),
        )
    one_in k (While at e body) h =
        let es = expression_rules visible e in let xs = body_rules visible (suc k) body in
        let rest = kept_rest (statement_rule k at) (es ++ xs) h in
        (term_in e (kept_front es xs rest), all_in (suc k) body (kept_after es xs rest))

    -- the numbers in statements name something
    pub all_in : (k : ℕ) (b : Statements) → Kept (body_rules visible k b)
        → StepsIn arrays procs home vars (all scope b)
    all_in k Nothing h = tt
    all_in k (Then s rest) h =
        let xs = statement_rules visible k s in let ys = body_rules visible (k + size_of s) rest in
        (one_in k s (kept_front xs ys h), all_in (k + size_of s) rest (kept_after xs ys h))

  -- so in a result
  pub result_in : (k : ℕ) (r : Option Last) → Kept (ending_rules visible k r)
      → ResultIn arrays vars (result scope r)
  result_in k r h = grind (arith, term_in, kept_rest)

-- A statement is as large as its step.
mutual
  one_size : (scope : Scope) (s : Statement) → size (one scope s) ≡ size_of s
  one_size scope (Assign at x e) = refl
  one_size scope (Store at a i e) = refl
  one_size scope (Print at e) = refl
  one_size scope (Read at x) = refl
  one_size scope (Give at n p x) = refl
  one_size scope (Take at n p e) = refl
  one_size scope (Call at x f es) = refl
  one_size scope (If at e a b) = let h = body_size scope a in let i = body_size scope b in omega (arith, h, i)
  one_size scope (While at e body) = ap suc (body_size scope body)

  -- numbers for names leave the count of steps
  pub body_size : (scope : Scope) (b : Statements) → size_all (all scope b) ≡ size_of_all b
  body_size scope Nothing = refl
  body_size scope (Then s rest) = let h = one_size scope s in let i = body_size scope rest in
      omega (arith, h, i)

-- Where the rules are kept, there are few statements.
module _ (visible : List Declared) where
  room : (k : ℕ) (at : _) (rs : List Rule) → Kept (statement_rule k at ∷ rs) → k < 2048
  room k at rs h = ltb-true k 2048 (kept_one (statement_rule k at) rs h)

  mutual
    one_few : (k : ℕ) (s : Statement) → Kept (statement_rules visible k s) → k + size_of s ≤ 2048
    one_few k (Assign at x e) h = let lt = room k at (expression_rules visible e)
        (kept_after (use_rules visible x variable) (statement_rule k at ∷ expression_rules visible e) h) in
        omega (arith, lt)
    one_few k (Store at a i e) h =
        let es = expression_rules visible i ++ expression_rules visible e in
        let lt = room k at es (kept_after (use_rules visible a array) (statement_rule k at ∷ es) h) in
        omega (arith, lt)
    one_few k (Print at e) h = let lt = room k at (expression_rules visible e) h in omega (arith, lt)
    one_few k (Read at x) h = let lt = room k at (use_rules visible x variable) h in omega (arith, lt)
    one_few k (Give at n p x) h = let lt = room k at (port_rule n p ∷ use_rules visible x variable) h in
        omega (arith, lt)
    one_few k (Take at n p e) h = let lt = room k at (port_rule n p ∷ expression_rules visible e) h in
        omega (arith, lt)
    one_few k (Call at None f es) h =
        let xs = argument_rules visible es in
        let lt = room k at xs (kept_after (use_rules visible f (procedure (length es)))
        (statement_rule k at ∷ xs) h) in omega (arith, lt)
    one_few k (Call at (Some x) f es) h =
        let xs = use_rules visible f (procedure (length es)) ++ argument_rules visible es in
        let lt = room k at xs (kept_after (use_rules visible x variable) (statement_rule k at ∷ xs) h) in
        omega (arith, lt)
    one_few k (If at e a b) h =
        let es = expression_rules visible e in let xs = body_rules visible (suc k) a in let ys =
        body_rules visible (suc k + size_of_all a) b in
        let lt = room k at (es ++ (xs ++ ys)) h in
        let both = kept_after es (xs ++ ys) (kept_rest (statement_rule k at) (es ++ (xs ++ ys)) h) in
        let first = body_few (suc k) a (omega (arith, lt)) (kept_front xs ys both) in
        let second = body_few (suc k + size_of_all a) b first (kept_after xs ys both) in
        omega (arith, second)
    one_few k (While at e body) h =
        let es = expression_rules visible e in let xs = body_rules visible (suc k) body in
        let lt = room k at (es ++ xs) h in
        let i = body_few (suc k) body (omega (arith, lt))
        (kept_after es xs (kept_rest (statement_rule k at) (es ++ xs) h)) in
        omega (arith, i)

    -- there are few enough statements
    pub body_few : (k : ℕ) (b : Statements) → k ≤ 2048 → Kept (body_rules visible k b)
        → k + size_of_all b ≤ 2048
    body_few k Nothing le h = omega (arith, le)
    body_few k (Then s rest) le h =
        let xs = statement_rules visible k s in let ys = body_rules visible (k + size_of s) rest in
        let i = body_few (k + size_of s) rest (one_few k s (kept_front xs ys h)) (kept_after xs ys h) in
        omega (arith, i)

  -- with a result too
  pub ending_few : (k : ℕ) (r : Option Last) → k ≤ 2048 → Kept (ending_rules visible k r)
      → k + size_of_ending r ≤ 2048
  ending_few k r le h = grind (arith, room)
