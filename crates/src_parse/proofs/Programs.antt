-- The reader of programs is exact.
use Rattle.std.specs.Prelude.{◌≡◌, ℕ, zero, suc, ◌<◌, length, List, [], ◌∷◌, ◌++◌, Option, Some, None, Bool}
use Rattle.std.specs.Prelude.{true, false, refl, codes, if◌then◌else◌}
use Rattle.std.proofs.Common.{ap, append_assoc, append-nil, arith, length-append}
use Rattle.src_ast.specs.declared.lexeme.Name.{Name}
use Rattle.src_ast.specs.declared.lexeme.Lexeme.{Lexeme}
use Rattle.src_ast.specs.declared.lexeme.Shape.TheVariants as shape
use Rattle.src_ast.specs.declared.lexeme.Mark.TheVariants as mark
use Rattle.src_ast.specs.Syntax.{Last, Part, Array, Proc, Statements}
use Rattle.src_ast.specs.Grammar.{Is, IsWord, Separated, SpelledName, SpelledStatements, SpelledEnding}
use Rattle.src_ast.specs.Grammar.{no_ending, ending, SpelledVars, no_vars, vars, SpelledItem, array, proc}
use Rattle.src_ast.specs.Grammar.{Tree, no_items, items}
use Rattle.src_parse.specs.Reading.{Reader, Done, ◌|>◌, is_word, expect, name_at, count_at}
use Rattle.src_parse.specs.Lists.{separated_at, enclosed_at}
use Rattle.src_parse.specs.Statements.{value_at, statements_at}
use Rattle.src_parse.specs.Programs.{array_at, line_at, vars_by, vars_in, vars_at, ending_at, inside_at}
use Rattle.src_parse.specs.Programs.{proc_at, item_at, items_by, items_in, program_at}
use Rattle.src_parse.proofs.Exact.{Exact, exact_done_end, exact_stuck_end, exact_done, exact_stuck}
use Rattle.src_parse.proofs.Exact.{exact_shift, exact_never}
use Rattle.src_parse.proofs.Tokens.{Alone, lexeme_with}
use Rattle.src_parse.proofs.Steady.{Alike, shrinks, bind_alike}
use Rattle.src_parse.proofs.Ready.{Ready, ready_next, ready_done, ready_token, exact_unbounded}
use Rattle.src_parse.proofs.Ready.{alike_unbounded, exact_as_cons}
use Rattle.src_parse.proofs.Names.{OneName, letter, letter_name, is_letter, ready_name, ready_spelled_name}
use Rattle.src_parse.proofs.Names.{OneCount, nought, ready_count, word-is}
use Rattle.src_parse.proofs.Lists.{Enclosed, ready_separated, ready_enclosed}
use Rattle.src_parse.proofs.Statements.{ready_value, ready_statements}

-- names with a semicolon
pub record Line (ks : List Lexeme) (xs : List Name) : Type 0 where
  pub inside : List Lexeme
  pub last : Lexeme
  pub is : ks ≡ inside ++ last ∷ []
  pub spelled : Separated SpelledName inside xs
  pub closing : Is mark.Semi last

ready_line : Ready Line line_at
unfolding line_at
ready_line =
    ready_next (Separated SpelledName) Line (separated_at name_at)
    (λ xs r. (expect mark.Semi r |> λ _ r. Done xs r))
    (ready_separated SpelledName name_at ready_spelled_name)
    (λ us xs h. ready_next (Alone mark.Semi) (λ vs b. Line (us ++ vs) b) (expect mark.Semi) (λ _ r. Done xs r)
    (ready_token mark.Semi)
    (λ vs u k. ready_done (λ ws b. Line (us ++ (vs ++ ws)) b) xs
    (record {
      inside = us;
      last = k.lexeme;
      is = ap (λ v. us ++ (v ++ [])) k.one;
      spelled = h;
      closing = k.mark;
    })))

ready_vars_after : (rest : Reader (List Name)) → Ready SpelledVars rest → (l : Lexeme)
    → IsWord (codes "var") l
    → Ready (λ ws zs. SpelledVars (l ∷ ws) zs) (λ x. line_at x |> λ xs r.
    (rest r |> λ ys r. Done (xs ++ ys) r))
ready_vars_after rest g l h =
    ready_next Line (λ ws zs. SpelledVars (l ∷ ws) zs) line_at (λ xs r. (rest r |> λ ys r. Done (xs ++ ys) r))
    ready_line
    (λ us xs t. ready_next SpelledVars (λ ws zs. SpelledVars (l ∷ (us ++ ws)) zs) rest
    (λ ys r. Done (xs ++ ys) r) g
    (λ vs ys k. ready_done (λ ws zs. SpelledVars (l ∷ (us ++ (vs ++ ws))) zs) (xs ++ ys)
    (rw (t.is, append-nil)
    (vars l t.last t.inside vs xs ys (ap (λ v. l ∷ v) (append_assoc t.inside (t.last ∷ []) vs)) refl h
    t.spelled t.closing k))))

ready_vars_by : (rest : Reader (List Name)) → Ready SpelledVars rest → Ready SpelledVars (vars_by rest)
unfolding vars_by
ready_vars_by rest g = record { phrase = []; tree = []; spelled = no_vars; exact = all }
  where
    all : (x : List Lexeme) → Exact SpelledVars (vars_by rest) x
    all [] = exact_done_end SpelledVars (vars_by rest) [] refl no_vars
    all (l ∷ ls) = go (is_word (codes "var") l.shape) refl
      where
        go : (t : Bool) → is_word (codes "var") l.shape ≡ t → Exact SpelledVars (vars_by rest) (l ∷ ls)
        go true e =
            exact_shift SpelledVars (λ ws zs. SpelledVars (l ∷ ws) zs) (vars_by rest)
            (λ x. line_at x |> λ xs r. (rest r |> λ ys r. Done (xs ++ ys) r)) l ls (λ x. rw e refl)
            (λ ws b k. k)
            ((ready_vars_after rest g l (word-is (codes "var") l.shape e)).exact ls)
        go false e = exact_done SpelledVars (vars_by rest) [] l ls (λ x. rw e refl) no_vars

ready_vars_in : (k : ℕ) → Ready SpelledVars (vars_in k)
unfolding vars_in
ready_vars_in zero = record {
  phrase = [];
  tree = [];
  spelled = no_vars;
  exact = λ x. exact_never SpelledVars (vars_in zero) [] [] x (λ _. refl) no_vars;
}
ready_vars_in (suc k) = ready_vars_by (vars_in k) (ready_vars_in k)

alike_vars : (n : ℕ) (rest rest' : Reader (List Name)) → Alike n rest rest'
    → Alike (suc n) (vars_by rest) (vars_by rest')
unfolding vars_by
alike_vars n rest rest' h [] lt = refl
alike_vars n rest rest' h (l ∷ ls) lt =
    ap (λ y. if is_word (codes "var") l.shape then y else Done [] (l ∷ ls))
    (bind_alike n line_at line_at (λ xs r. (rest r |> λ ys r. Done (xs ++ ys) r))
    (λ xs r. (rest' r |> λ ys r. Done (xs ++ ys) r)) (shrinks Line line_at ready_line.exact) (λ x _. refl)
    (λ xs x lt. ap (λ y. y |> λ ys r. Done (xs ++ ys) r) (h x lt)) ls (omega arith))

steady_vars : (k : ℕ) → Alike k (vars_in (suc k)) (vars_in k)
unfolding vars_in
steady_vars zero x lt = absurd (omega arith)
steady_vars (suc k) x lt = alike_vars k (vars_in (suc k)) (vars_in k) (steady_vars k) x lt

ready_vars : Ready SpelledVars vars_at
unfolding vars_at
ready_vars = record {
  phrase = [];
  tree = [];
  spelled = no_vars;
  exact = exact_unbounded SpelledVars vars_in vars_at (λ k. (ready_vars_in k).exact)
      (alike_unbounded vars_in steady_vars);
}

-- what the reader of variables does, with no bound
pub vars_at_is : (x : List Lexeme) → vars_at x ≡ vars_by vars_at x
unfolding vars_at vars_in
vars_at_is x = alike_vars (length x) (vars_in (length x)) vars_at
    (alike_unbounded vars_in steady_vars (length x)) x (omega arith)

ready_ending : Ready SpelledEnding ending_at
unfolding ending_at
ready_ending = record { phrase = []; tree = None; spelled = no_ending; exact = all }
  where
    all : (x : List Lexeme) → Exact SpelledEnding ending_at x
    all [] = exact_done_end SpelledEnding ending_at None refl no_ending
    all (l ∷ ls) = go (is_word (codes "return") l.shape) refl
      where
        go : (t : Bool) → is_word (codes "return") l.shape ≡ t → Exact SpelledEnding ending_at (l ∷ ls)
        go true e =
            exact_shift SpelledEnding (λ ws b. SpelledEnding (l ∷ ws) b) ending_at
            (value_at (λ e. Some (record { place = l.place; value = e }))) l ls (λ x. rw e refl)
            (λ ws b k. k)
            ((ready_value (λ ws b. SpelledEnding (l ∷ ws) b)
            (λ e. Some (record { place = l.place; value = e }))
            (λ us v last a b. ending l last us v refl (word-is (codes "return") l.shape e) a b)).exact ls)
        go false e = exact_done SpelledEnding ending_at None l ls (λ x. rw e refl) no_ending

ready_array : (l : Lexeme) → IsWord (codes "array") l → Ready (λ ws a. SpelledItem (l ∷ ws) a) array_at
unfolding array_at
ready_array l h =
    ready_next OneName (λ ws a. SpelledItem (l ∷ ws) a) name_at
    (λ x r. (expect mark.LSquare r |> λ _ r.
    (count_at r |> λ n r.
    (expect mark.RSquare r |> λ _ r. (expect mark.Semi r |> λ _ r. Done (Array x n.number n.place) r)))))
    ready_name
    (λ v1 x k1. ready_next (Alone mark.LSquare) (λ ws a. SpelledItem (l ∷ (v1 ++ ws)) a) (expect mark.LSquare)
    (λ _ r. (count_at r |> λ n r.
    (expect mark.RSquare r |> λ _ r. (expect mark.Semi r |> λ _ r. Done (Array x n.number n.place) r))))
    (ready_token mark.LSquare)
    (λ v2 u2 k2. ready_next OneCount (λ ws a. SpelledItem (l ∷ (v1 ++ (v2 ++ ws))) a) count_at
    (λ n r. (expect mark.RSquare r |> λ _ r.
    (expect mark.Semi r |> λ _ r. Done (Array x n.number n.place) r))) ready_count
    (λ v3 n k3. ready_next (Alone mark.RSquare) (λ ws a. SpelledItem (l ∷ (v1 ++ (v2 ++ (v3 ++ ws)))) a)
    (expect mark.RSquare) (λ _ r. (expect mark.Semi r |> λ _ r. Done (Array x n.number n.place) r))
    (ready_token mark.RSquare)
    (λ v4 u4 k4. ready_next (Alone mark.Semi) (λ ws a. SpelledItem (l ∷ (v1 ++ (v2 ++ (v3 ++ (v4 ++ ws))))) a)
    (expect mark.Semi) (λ _ r. Done (Array x n.number n.place) r) (ready_token mark.Semi)
    (λ v5 u5 k5. ready_done (λ ws a. SpelledItem (l ∷ (v1 ++ (v2 ++ (v3 ++ (v4 ++ (v5 ++ ws)))))) a)
    (Array x n.number n.place)
    (rw (k1.one, k2.one, k3.one, k4.one, k5.one, ← k3.place) (array l k1.lexeme k2.lexeme k3.lexeme k4.lexeme
    k5.lexeme x n.number refl h k1.name k2.mark k3.number k4.mark k5.mark)))))))

abbrev made : Name → List Name → List Name → Statements → Option Last → Part
made x ps vs b e = Proc (record { name = x; params = ps; vars = vs; body = b; ending = e })

ready_inside : (N : List Lexeme → Part → Type 0) (x : Name) (ps : List Name)
    → ((us bs es : List Lexeme) (vs : List Name) (b : Statements) (e : Option Last) (close : Lexeme)
    → SpelledVars us vs → SpelledStatements bs b → SpelledEnding es e → Is mark.RBrace close
    → N (us ++ (bs ++ (es ++ close ∷ []))) (made x ps vs b e))
    → Ready N (inside_at x ps)
unfolding inside_at
ready_inside N x ps join =
    ready_next SpelledVars N vars_at
    (λ vs r. (statements_at r |> λ b r.
    (ending_at r |> λ e r. (expect mark.RBrace r |> λ _ r. Done (made x ps vs b e) r)))) ready_vars
    (λ us vs hv. ready_next SpelledStatements (λ ws a. N (us ++ ws) a) statements_at
    (λ b r. (ending_at r |> λ e r. (expect mark.RBrace r |> λ _ r. Done (made x ps vs b e) r)))
    ready_statements
    (λ bs b hb. ready_next SpelledEnding (λ ws a. N (us ++ (bs ++ ws)) a) ending_at
    (λ e r. (expect mark.RBrace r |> λ _ r. Done (made x ps vs b e) r)) ready_ending
    (λ es e he. ready_next (Alone mark.RBrace) (λ ws a. N (us ++ (bs ++ (es ++ ws))) a) (expect mark.RBrace)
    (λ _ r. Done (made x ps vs b e) r) (ready_token mark.RBrace)
    (λ v u k. ready_done (λ ws a. N (us ++ (bs ++ (es ++ (v ++ ws)))) a) (made x ps vs b e)
    (rw k.one (join us bs es vs b e k.lexeme hv hb he k.mark))))))

ready_proc : (l : Lexeme) → IsWord (codes "proc") l → Ready (λ ws a. SpelledItem (l ∷ ws) a) proc_at
unfolding proc_at
ready_proc l h =
    ready_next OneName (λ ws a. SpelledItem (l ∷ ws) a) name_at
    (λ x r. (expect mark.LParen r |> λ _ r.
    (enclosed_at name_at r |> λ ps r. (expect mark.LBrace r |> λ _ r. inside_at x ps r)))) ready_name
    (λ v1 x k1. ready_next (Alone mark.LParen) (λ ws a. SpelledItem (l ∷ (v1 ++ ws)) a) (expect mark.LParen)
    (λ _ r. (enclosed_at name_at r |> λ ps r. (expect mark.LBrace r |> λ _ r. inside_at x ps r)))
    (ready_token mark.LParen)
    (λ v2 u2 k2. ready_next (Enclosed SpelledName) (λ ws a. SpelledItem (l ∷ (v1 ++ (v2 ++ ws))) a)
    (enclosed_at name_at) (λ ps r. (expect mark.LBrace r |> λ _ r. inside_at x ps r))
    (ready_enclosed SpelledName name_at ready_spelled_name)
    (λ v3 ps k3. ready_next (Alone mark.LBrace) (λ ws a. SpelledItem (l ∷ (v1 ++ (v2 ++ (v3 ++ ws)))) a)
    (expect mark.LBrace) (λ _ r. inside_at x ps r) (ready_token mark.LBrace)
    (λ v4 u4 k4. ready_inside (λ ws a. SpelledItem (l ∷ (v1 ++ (v2 ++ (v3 ++ (v4 ++ ws))))) a) x ps
    (λ us bs es vs b e close hv hb he hc.
    rw (k1.one, k2.one, k3.is, k4.one) (proc l k1.lexeme k2.lexeme k3.last k4.lexeme close k3.inside us bs es
    x ps vs b e
    (ap (λ v. l ∷ k1.lexeme ∷ k2.lexeme ∷ v) (append_assoc k3.inside (k3.last ∷ [])
    (k4.lexeme ∷ (us ++ (bs ++ (es ++ close ∷ []))))))
    h k1.name k2.mark k3.spelled k3.closing k4.mark hv hb he hc))))))

abbrev some_array : List Lexeme
some_array = lexeme_with (shape.Word (codes "array")) ∷ letter ∷ lexeme_with (shape.Mark mark.LSquare)
    ∷ nought ∷ lexeme_with (shape.Mark mark.RSquare) ∷ lexeme_with (shape.Mark mark.Semi) ∷ []

spelled_some_array : SpelledItem some_array (Array letter_name 0 nought.place)
spelled_some_array = array (lexeme_with (shape.Word (codes "array"))) letter
    (lexeme_with (shape.Mark mark.LSquare)) nought (lexeme_with (shape.Mark mark.RSquare))
    (lexeme_with (shape.Mark mark.Semi)) letter_name 0 refl refl is_letter refl refl refl refl

ready_item : Ready SpelledItem item_at
unfolding item_at
ready_item = record {
  phrase = some_array;
  tree = Array letter_name 0 nought.place;
  spelled = spelled_some_array;
  exact = all;
}
  where
    all : (x : List Lexeme) → Exact SpelledItem item_at x
    all [] = exact_stuck_end SpelledItem item_at some_array (Array letter_name 0 nought.place) refl
        spelled_some_array
    all (l ∷ ls) = go (is_word (codes "proc") l.shape) refl
      where
        second : is_word (codes "proc") l.shape ≡ false → (t : Bool) → is_word (codes "array") l.shape ≡ t
            → Exact SpelledItem item_at (l ∷ ls)
        second e1 true e = exact_shift SpelledItem (λ ws a. SpelledItem (l ∷ ws) a) item_at array_at l ls
            (λ x. rw (e1, e) refl) (λ ws b k. k) ((ready_array l (word-is (codes "array") l.shape e)).exact
            ls)
        second e1 false e = exact_stuck SpelledItem item_at some_array (Array letter_name 0 nought.place) l ls
            (λ x. rw (e1, e) refl) spelled_some_array

        go : (t : Bool) → is_word (codes "proc") l.shape ≡ t → Exact SpelledItem item_at (l ∷ ls)
        go true e = exact_shift SpelledItem (λ ws a. SpelledItem (l ∷ ws) a) item_at proc_at l ls
            (λ x. rw e refl) (λ ws b k. k) ((ready_proc l (word-is (codes "proc") l.shape e)).exact ls)
        go false e = second e (is_word (codes "array") l.shape) refl

ready_items_by : (rest : Reader (List Part)) → Ready Tree rest → Ready Tree (items_by rest)
unfolding items_by
ready_items_by rest g = record { phrase = []; tree = []; spelled = no_items; exact = all }
  where
    longer : Ready Tree (λ x. item_at x |> λ a r. (rest r |> λ all r. Done (a ∷ all) r))
    longer =
        ready_next SpelledItem Tree item_at (λ a r. (rest r |> λ all r. Done (a ∷ all) r)) ready_item
        (λ us a h. ready_next Tree (λ ws b. Tree (us ++ ws) b) rest (λ all r. Done (a ∷ all) r) g
        (λ vs all k. ready_done (λ ws b. Tree (us ++ (vs ++ ws)) b) (a ∷ all)
        (rw append-nil (items us vs a all refl h k))))

    all : (x : List Lexeme) → Exact Tree (items_by rest) x
    all [] = exact_done_end Tree (items_by rest) [] refl no_items
    all (l ∷ ls) = exact_as_cons Tree (items_by rest) (λ x. item_at x |> λ a r.
        (rest r |> λ all r. Done (a ∷ all) r)) l ls (λ x. refl) (longer.exact (l ∷ ls))

ready_items_in : (k : ℕ) → Ready Tree (items_in k)
unfolding items_in
ready_items_in zero = record {
  phrase = [];
  tree = [];
  spelled = no_items;
  exact = λ x. exact_never Tree (items_in zero) [] [] x (λ _. refl) no_items;
}
ready_items_in (suc k) = ready_items_by (items_in k) (ready_items_in k)

item_nonempty : (ks : List Lexeme) (a : Part) → SpelledItem ks a → 0 < length ks
item_nonempty ks s m = grind arith

item_shrinks : (x : List Lexeme) (a : Part) (r : List Lexeme) → item_at x ≡ Done a r → length r < length x
item_shrinks x a r e = grind (arith, item_at, ready_item.exact, item_nonempty, length-append)

alike_items : (n : ℕ) (rest rest' : Reader (List Part)) → Alike n rest rest'
    → Alike (suc n) (items_by rest) (items_by rest')
unfolding items_by
alike_items n rest rest' h i lt = grind (arith, item_at, item_shrinks)

steady_items : (k : ℕ) → Alike k (items_in (suc k)) (items_in k)
unfolding items_in
steady_items zero x lt = absurd (omega arith)
steady_items (suc k) x lt = alike_items k (items_in (suc k)) (items_in k) (steady_items k) x lt

-- a program
pub ready_program : Ready Tree program_at
unfolding program_at
ready_program = record {
  phrase = [];
  tree = [];
  spelled = no_items;
  exact = exact_unbounded Tree items_in program_at (λ k. (ready_items_in k).exact)
      (alike_unbounded items_in steady_items);
}

-- the program reader, one item on
pub program_at_is : (x : List Lexeme) → program_at x ≡ items_by program_at x
unfolding program_at items_in
program_at_is x = alike_items (length x) (items_in (length x)) program_at
    (alike_unbounded items_in steady_items (length x)) x (omega arith)
