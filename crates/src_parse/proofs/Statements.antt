-- The reader of statements is exact.
use Rattle.std.specs.Prelude.{◌≡◌, ℕ, zero, suc, ◌<◌, length, List, [], ◌∷◌, ◌++◌, Option, Some, None, Bool}
use Rattle.std.specs.Prelude.{true, false, refl, codes, if◌then◌else◌}
use Rattle.std.proofs.Common.{sym, ◌∙◌, ap, subst, append_assoc, append-nil, arith, length-append}
use Rattle.src_ast.specs.declared.lexeme.Name.{Name}
use Rattle.src_ast.specs.declared.lexeme.Place.{Place}
use Rattle.src_ast.specs.declared.lexeme.Lexeme.{Lexeme}
use Rattle.src_ast.specs.declared.lexeme.Shape.{Shape}
use Rattle.src_ast.specs.declared.lexeme.Shape.TheVariants as shape
use Rattle.src_ast.specs.declared.lexeme.Mark.TheVariants as mark
use Rattle.src_ast.specs.Syntax.{Expression, Number, Variable, Statement, Assign, Store, Print, Read, Give}
use Rattle.src_ast.specs.Syntax.{Take, Call, If, While, Statements, Nothing, Then}
use Rattle.src_ast.specs.Grammar.{Is, IsName, IsWord, Spelled, number, variable, Listed, SpelledStatement}
use Rattle.src_ast.specs.Grammar.{assign, store, print, read, give, take, call, called, choice, while}
use Rattle.src_ast.specs.Grammar.{SpelledBlock, block, SpelledElse, no_else, with_else, SpelledStatements}
use Rattle.src_ast.specs.Grammar.{nothing, first_then}
use Rattle.src_parse.specs.declared.keyword.Keyword.{Keyword}
use Rattle.src_parse.specs.declared.keyword.Keyword.TheVariants as keyword
use Rattle.src_parse.specs.Keywords.{spelling_of, keyword_of}
use Rattle.src_parse.specs.Reading.{Reading, Reader, Done, Stuck, ◌|>◌, is_mark, is_word, expect, name_in}
use Rattle.src_parse.specs.Reading.{name_at, count_at}
use Rattle.src_parse.specs.Expressions.{named, operators_in, operators_at, expression_at}
use Rattle.src_parse.specs.Lists.{enclosed_at}
use Rattle.src_parse.specs.Statements.{ended_at, value_at, call_at, named_value, assigned_by, assigned_at}
use Rattle.src_parse.specs.Statements.{stored_at, named_statement, read_at, give_at, take_at, block_by}
use Rattle.src_parse.specs.Statements.{test_at, else_by, if_by, while_by, statement_word, statement_shape}
use Rattle.src_parse.specs.Statements.{statement_by, starts, statements_by, statements_in, statements_at}
use Rattle.src_parse.proofs.Exact.{Exact, ExactAt, exact_done_end, exact_stuck_end, exact_done, exact_stuck}
use Rattle.src_parse.proofs.Exact.{exact_shift, exact_never, exact_bind}
use Rattle.src_parse.proofs.Tokens.{Alone, exact_expect, lexeme_with, is_mark-true}
use Rattle.src_parse.proofs.Keywords.{keyword_of-is, keyword_free}
use Rattle.src_parse.proofs.Expressions.{Behind, after_nothing, exact_named, exact_operators_in, below_9}
use Rattle.src_parse.proofs.Steady.{Alike, shrinks, bind_alike, alike_operators_at}
use Rattle.src_parse.proofs.Ready.{Ready, ready_next, ready_done, ready_token, ready_expression}
use Rattle.src_parse.proofs.Ready.{exact_unbounded, alike_unbounded, exact_as_end, exact_as_cons}
use Rattle.src_parse.proofs.Names.{OneName, ready_name, OneCount, ready_count, name_in-is, word-is}
use Rattle.src_parse.proofs.Lists.{Enclosed, ready_enclosed}

-- an expression with its semicolon
pub record Ended (ks : List Lexeme) (e : Expression) : Type 0 where
  pub inside : List Lexeme
  pub last : Lexeme
  pub is : ks ≡ inside ++ last ∷ []
  pub spelled : Spelled 0 inside e
  pub closing : Is mark.Semi last

pub ready_ended : Ready Ended ended_at
unfolding ended_at
ready_ended =
    ready_next (Spelled 0) Ended (expression_at 0) (λ e r. (expect mark.Semi r |> λ _ r. Done e r))
    ready_expression
    (λ us e h. ready_next (Alone mark.Semi) (λ vs b. Ended (us ++ vs) b) (expect mark.Semi) (λ _ r. Done e r)
    (ready_token mark.Semi)
    (λ vs u k. ready_done (λ ws b. Ended (us ++ (vs ++ ws)) b) e
    (record {
      inside = us;
      last = k.lexeme;
      is = ap (λ v. us ++ (v ++ [])) k.one;
      spelled = h;
      closing = k.mark;
    })))

-- an expression and its semicolon
pub ready_value : {A : Type 0} (N : List Lexeme → A → Type 0) (f : Expression → A)
    → ((us : List Lexeme) (e : Expression) (last : Lexeme) → Spelled 0 us e → Is mark.Semi last
    → N (us ++ last ∷ []) (f e)) → Ready N (value_at f)
unfolding value_at
ready_value N f join =
    ready_next Ended N ended_at (λ e r. Done (f e) r) ready_ended
    (λ us e h. ready_done (λ ws b. N (us ++ ws) b) (f e)
    (rw (append-nil, h.is) (join h.inside e h.last h.spelled h.closing)))

pub ready_call : (N : List Lexeme → Statement → Type 0) (f : List Expression → Statement)
    → ((us : List Lexeme) (es : List Expression) (last semi : Lexeme) → Listed (Spelled 0) us es
    → Is mark.RParen last → Is mark.Semi semi → N (us ++ last ∷ semi ∷ []) (f es))
    → Ready N (call_at f)
unfolding call_at
ready_call N f join =
    ready_next (Enclosed (Spelled 0)) N (enclosed_at (expression_at 0))
    (λ es r. (expect mark.Semi r |> λ _ r. Done (f es) r))
    (grind (arith, ready_enclosed, expression_at, ready_expression))
    (λ us es h. ready_next (Alone mark.Semi) (λ vs b. N (us ++ vs) b) (expect mark.Semi)
    (λ _ r. Done (f es) r) (ready_token mark.Semi)
    (λ vs u k. ready_done (λ ws b. N (us ++ (vs ++ ws)) b) (f es)
    (rw (k.one, h.is, append_assoc) (join h.inside es h.last k.lexeme h.spelled h.closing k.mark))))

-- a phrase of one statement, for where none has begun
abbrev some_print : List Lexeme
some_print = lexeme_with (shape.Word (codes "print")) ∷ lexeme_with (shape.Number 0) ∷ lexeme_with
    (shape.Mark mark.Semi) ∷ []

spelled_some_print : SpelledStatement some_print (Print (lexeme_with (shape.Word (codes "print"))).place
    (Number 0))
spelled_some_print =
    print (lexeme_with (shape.Word (codes "print"))) (lexeme_with (shape.Mark mark.Semi))
    (lexeme_with (shape.Number 0) ∷ []) (Number 0) refl refl
    (number (lexeme_with (shape.Number 0)) 0 refl) refl

-- an expression that begins with a name
ready_rest : (p : Lexeme) (y : Name) → IsName y p → Ready (λ ws e. Spelled 0 (p ∷ ws) e)
    (λ x. named (expression_at 0) y x |> operators_at 0)
ready_rest p y h =
    let whole = ready_expression.exact in
    let first : (x : List Lexeme) → Exact (λ ws e. Spelled 8 (p ∷ ws) e) (named (expression_at 0) y) x =
    exact_named 8 (expression_at 0) whole p y h in
    record {
      phrase = [];
      tree = Variable y;
      spelled = variable p y h;
      exact = λ x. exact_bind (λ ws e. Spelled 8 (p ∷ ws) e) (Behind 8 0) (λ ws e. Spelled 0 (p ∷ ws) e)
          (named (expression_at 0) y) (operators_at 0) x
          (λ us vs a b h k. k (p ∷ us) h) (λ us a h. ([], a, after_nothing 8 0 a (omega arith) (p ∷ us) h))
          (first x)
          (λ a rest _. exact_unbounded (Behind 8 0 a) (λ k. operators_in k 0 a) (operators_at 0 a)
          (λ k x. exact_operators_in k 0 8 a (omega arith) (omega arith) x (below_9 x))
          (λ k. alike_operators_at k 0 a) rest);
    }

exact_named_value : (N : List Lexeme → Statement → Type 0) (f : Expression → Statement) (g : List Expression
    → Statement) (p : Lexeme) (y : Name) → IsName y p
    → ((us : List Lexeme) (e : Expression) (last : Lexeme) → Spelled 0 us e → Is mark.Semi last
    → N (us ++ last ∷ []) (f e))
    → ((first : Lexeme) (us : List Lexeme) (es : List Expression) (last semi : Lexeme) → Is mark.LParen first
    → Listed (Spelled 0) us es → Is mark.RParen last → Is mark.Semi semi
    → N (p ∷ first ∷ (us ++ last ∷ semi ∷ [])) (g es))
    → (ls : List Lexeme) → Exact (λ ws b. N (p ∷ ws) b) (named_value f g y) ls
unfolding named_value
exact_named_value N f g p y h value called' = all
  where
    plain : Ready (λ ws b. N (p ∷ ws) b) (λ x. (named (expression_at 0) y x |> operators_at 0) |> λ e r.
        (expect mark.Semi r |> λ _ r. Done (f e) r))
    plain =
        ready_next (λ ws e. Spelled 0 (p ∷ ws) e) (λ ws b. N (p ∷ ws) b)
        (λ x. named (expression_at 0) y x |> operators_at 0)
        (λ e r. (expect mark.Semi r |> λ _ r. Done (f e) r)) (ready_rest p y h)
        (λ us e k. ready_next (Alone mark.Semi) (λ vs b. N (p ∷ (us ++ vs)) b) (expect mark.Semi)
        (λ _ r. Done (f e) r) (ready_token mark.Semi)
        (λ vs u q. ready_done (λ ws b. N (p ∷ (us ++ (vs ++ ws))) b) (f e)
        (subst (λ v. N (p ∷ (us ++ (v ++ []))) (f e)) (sym q.one) (value (p ∷ us) e q.lexeme k q.mark))))

    all : (ls : List Lexeme) → Exact (λ ws b. N (p ∷ ws) b) (named_value f g y) ls
    all [] = exact_as_end (λ ws b. N (p ∷ ws) b) (named_value f g y)
        (λ x. (named (expression_at 0) y x |> operators_at 0) |> λ e r.
        (expect mark.Semi r |> λ _ r. Done (f e) r)) refl (plain.exact [])
    all (l ∷ ls) = go (is_mark mark.LParen l.shape) refl
      where
        go : (t : Bool) → is_mark mark.LParen l.shape ≡ t → Exact (λ ws b. N (p ∷ ws) b) (named_value f g y)
            (l ∷ ls)
        go true e =
            exact_shift (λ ws b. N (p ∷ ws) b) (λ ws b. N (p ∷ l ∷ ws) b) (named_value f g y) (call_at g) l ls
            (λ x. rw e refl) (λ ws b k. k)
            ((ready_call (λ ws b. N (p ∷ l ∷ ws) b) g (λ us es last semi h z s.
            called' l us es last semi (is_mark-true mark.LParen l.shape e) h z s)).exact ls)
        go false e =
            exact_as_cons (λ ws b. N (p ∷ ws) b) (named_value f g y)
            (λ x. (named (expression_at 0) y x |> operators_at 0) |> λ e r.
            (expect mark.Semi r |> λ _ r. Done (f e) r)) l ls
            (λ x. rw e refl) (plain.exact (l ∷ ls))

exact_assigned : (N : List Lexeme → Statement → Type 0) (f : Expression → Statement)
    (g : Name → List Expression → Statement)
    → ((us : List Lexeme) (e : Expression) (last : Lexeme) → Spelled 0 us e → Is mark.Semi last
    → N (us ++ last ∷ []) (f e))
    → ((name first : Lexeme) (y : Name) (us : List Lexeme) (es : List Expression) (last semi : Lexeme)
    → IsName y name → Is mark.LParen first → Listed (Spelled 0) us es → Is mark.RParen last
    → Is mark.Semi semi
    → N (name ∷ first ∷ (us ++ last ∷ semi ∷ [])) (g y es))
    → (ls : List Lexeme) → Exact N (assigned_at f g) ls
unfolding assigned_at assigned_by
exact_assigned N f g value called' [] = exact_as_end N (assigned_at f g) (value_at f) refl
    ((ready_value N f value).exact [])
exact_assigned N f g value called' (p ∷ ls) = go (name_in p.shape p) refl
  where
    go : (o : Option Name) → name_in p.shape p ≡ o → Exact N (assigned_at f g) (p ∷ ls)
    go None e = exact_as_cons N (assigned_at f g) (value_at f) p ls (λ x. ap (λ o. assigned_by f g o p x) e)
        ((ready_value N f value).exact (p ∷ ls))
    go (Some y) e =
        exact_shift N (λ ws b. N (p ∷ ws) b) (assigned_at f g) (named_value f (g y) y) p ls
        (λ x. ap (λ o. assigned_by f g o p x) e) (λ ws b k. k)
        (let h = name_in-is p.shape p y refl e in
        exact_named_value N f (g y) p y h value (λ first us es last semi a b c d. called' p first y us es last
        semi h a b c d) ls)

ready_stored : (l m : Lexeme) (x : Name) → IsName x l → Is mark.LSquare m
    → Ready (λ ws s. SpelledStatement (l ∷ m ∷ ws) s) (stored_at x)
unfolding stored_at
ready_stored l m x h q =
    ready_next (Spelled 0) (λ ws s. SpelledStatement (l ∷ m ∷ ws) s) (expression_at 0)
    (λ i r. (expect mark.RSquare r |> λ _ r.
    (expect mark.Assign r |> λ _ r. value_at (Store x.place x i) r))) ready_expression
    (λ js i hi. ready_next (Alone mark.RSquare) (λ vs s. SpelledStatement (l ∷ m ∷ (js ++ vs)) s)
    (expect mark.RSquare) (λ _ r. (expect mark.Assign r |> λ _ r. value_at (Store x.place x i) r))
    (ready_token mark.RSquare)
    (λ v1 u1 k1. ready_next (Alone mark.Assign) (λ vs s. SpelledStatement (l ∷ m ∷ (js ++ (v1 ++ vs))) s)
    (expect mark.Assign) (λ _ r. value_at (Store x.place x i) r) (ready_token mark.Assign)
    (λ v2 u2 k2. ready_value (λ vs s. SpelledStatement (l ∷ m ∷ (js ++ (v1 ++ (v2 ++ vs)))) s)
    (Store x.place x i)
    (λ us e last he hs. rw (k1.one, k2.one) (store l m k1.lexeme k2.lexeme last js us x i e refl h q hi
    k1.mark k2.mark he hs)))))

exact_named_statement : (l : Lexeme) (x : Name) → IsName x l → (ls : List Lexeme)
    → Exact (λ ws s. SpelledStatement (l ∷ ws) s) (named_statement x) ls
unfolding named_statement
exact_named_statement l x h = all
  where
    fallback : SpelledStatement (l ∷ lexeme_with (shape.Mark mark.Assign) ∷ lexeme_with (shape.Number 0)
        ∷ lexeme_with (shape.Mark mark.Semi) ∷ []) (Assign x.place x (Number 0))
    fallback = assign l (lexeme_with (shape.Mark mark.Assign)) (lexeme_with (shape.Mark mark.Semi))
        (lexeme_with (shape.Number 0) ∷ []) x (Number 0) refl h refl
        (number (lexeme_with (shape.Number 0)) 0 refl) refl

    all : (ls : List Lexeme) → Exact (λ ws s. SpelledStatement (l ∷ ws) s) (named_statement x) ls
    all [] = exact_stuck_end (λ ws s. SpelledStatement (l ∷ ws) s) (named_statement x)
        (lexeme_with (shape.Mark mark.Assign) ∷ lexeme_with (shape.Number 0) ∷ lexeme_with
        (shape.Mark mark.Semi) ∷ []) (Assign x.place x (Number 0)) refl fallback
    all (m ∷ ls) = go (is_mark mark.Assign m.shape) refl
      where
        third : is_mark mark.Assign m.shape ≡ false → is_mark mark.LSquare m.shape ≡ false → (t : Bool)
            → is_mark mark.LParen m.shape ≡ t → Exact (λ ws s. SpelledStatement (l ∷ ws) s)
            (named_statement x) (m ∷ ls)
        third e1 e2 true e =
            exact_shift (λ ws s. SpelledStatement (l ∷ ws) s) (λ ws s. SpelledStatement (l ∷ m ∷ ws) s)
            (named_statement x) (call_at (Call x.place None x)) m ls (λ r. rw (e1, e2, e) refl)
            (λ ws b k. k)
            ((ready_call (λ ws s. SpelledStatement (l ∷ m ∷ ws) s) (Call x.place None x)
            (λ us es last semi a b c. call l m last semi us x es refl h (is_mark-true mark.LParen m.shape e) a
            b c)).exact ls)
        third e1 e2 false e =
            exact_stuck (λ ws s. SpelledStatement (l ∷ ws) s) (named_statement x)
            (lexeme_with (shape.Mark mark.Assign) ∷ lexeme_with (shape.Number 0) ∷ lexeme_with
            (shape.Mark mark.Semi) ∷ []) (Assign x.place x (Number 0)) m ls
            (λ r. rw (e1, e2, e) refl) fallback

        second : is_mark mark.Assign m.shape ≡ false → (t : Bool) → is_mark mark.LSquare m.shape ≡ t
            → Exact (λ ws s. SpelledStatement (l ∷ ws) s) (named_statement x) (m ∷ ls)
        second e1 true e =
            exact_shift (λ ws s. SpelledStatement (l ∷ ws) s) (λ ws s. SpelledStatement (l ∷ m ∷ ws) s)
            (named_statement x)
            (stored_at x) m ls (λ r. rw (e1, e) refl) (λ ws b k. k)
            ((ready_stored l m x h (is_mark-true mark.LSquare m.shape e)).exact ls)
        second e1 false e = third e1 e (is_mark mark.LParen m.shape) refl

        go : (t : Bool) → is_mark mark.Assign m.shape ≡ t → Exact (λ ws s. SpelledStatement (l ∷ ws) s)
            (named_statement x) (m ∷ ls)
        go true e =
            let equals = is_mark-true mark.Assign m.shape e in
            exact_shift (λ ws s. SpelledStatement (l ∷ ws) s) (λ ws s. SpelledStatement (l ∷ m ∷ ws) s)
            (named_statement x) (assigned_at (Assign x.place x) (Call x.place (Some x))) m ls
            (λ r. rw e refl) (λ ws b k. k)
            (exact_assigned (λ ws s. SpelledStatement (l ∷ m ∷ ws) s) (Assign x.place x)
            (Call x.place (Some x))
            (λ us v last a b. assign l m last us x v refl h equals a b)
            (λ name first y us es last semi a b c d f. called l m name first last semi us x y es refl h equals
            a b c d f) ls)
        go false e = second e (is_mark mark.LSquare m.shape) refl

ready_read : (l : Lexeme) → IsWord (codes "read") l → Ready (λ ws s. SpelledStatement (l ∷ ws) s)
    (read_at l.place)
unfolding read_at
ready_read l h =
    ready_next OneName (λ ws s. SpelledStatement (l ∷ ws) s) name_at
    (λ x r. (expect mark.Semi r |> λ _ r. Done (Read l.place x) r)) ready_name
    (λ v1 x k1. ready_next (Alone mark.Semi) (λ ws s. SpelledStatement (l ∷ (v1 ++ ws)) s) (expect mark.Semi)
    (λ _ r. Done (Read l.place x) r) (ready_token mark.Semi)
    (λ v2 u2 k2. ready_done (λ ws s. SpelledStatement (l ∷ (v1 ++ (v2 ++ ws))) s) (Read l.place x)
    (rw (k1.one, k2.one) (read l k1.lexeme k2.lexeme x refl h k1.name k2.mark))))

ready_give : (l : Lexeme) → IsWord (codes "give") l → Ready (λ ws s. SpelledStatement (l ∷ ws) s)
    (give_at l.place)
unfolding give_at
ready_give l h =
    ready_next OneCount (λ ws s. SpelledStatement (l ∷ ws) s) count_at
    (λ n r. (expect mark.Comma r |> λ _ r.
    (name_at r |> λ x r. (expect mark.Semi r |> λ _ r. Done (Give l.place n.number n.place x) r))))
    ready_count
    (λ v1 n k1. ready_next (Alone mark.Comma) (λ ws s. SpelledStatement (l ∷ (v1 ++ ws)) s)
    (expect mark.Comma)
    (λ _ r. (name_at r |> λ x r. (expect mark.Semi r |> λ _ r. Done (Give l.place n.number n.place x) r)))
    (ready_token mark.Comma)
    (λ v2 u2 k2. ready_next OneName (λ ws s. SpelledStatement (l ∷ (v1 ++ (v2 ++ ws))) s) name_at
    (λ x r. (expect mark.Semi r |> λ _ r. Done (Give l.place n.number n.place x) r)) ready_name
    (λ v3 x k3. ready_next (Alone mark.Semi) (λ ws s. SpelledStatement (l ∷ (v1 ++ (v2 ++ (v3 ++ ws)))) s)
    (expect mark.Semi) (λ _ r. Done (Give l.place n.number n.place x) r) (ready_token mark.Semi)
    (λ v4 u4 k4. ready_done (λ ws s. SpelledStatement (l ∷ (v1 ++ (v2 ++ (v3 ++ (v4 ++ ws))))) s)
    (Give l.place n.number n.place x)
    (rw (k1.one, k2.one, k3.one, k4.one, ← k1.place) (give l k1.lexeme k2.lexeme k3.lexeme k4.lexeme n.number
    x refl h k1.number k2.mark k3.name k4.mark))))))

ready_take : (l : Lexeme) → IsWord (codes "take") l → Ready (λ ws s. SpelledStatement (l ∷ ws) s)
    (take_at l.place)
unfolding take_at
ready_take l h =
    ready_next OneCount (λ ws s. SpelledStatement (l ∷ ws) s) count_at
    (λ n r. (expect mark.Comma r |> λ _ r. value_at (Take l.place n.number n.place) r)) ready_count
    (λ v1 n k1. ready_next (Alone mark.Comma) (λ ws s. SpelledStatement (l ∷ (v1 ++ ws)) s)
    (expect mark.Comma) (λ _ r. value_at (Take l.place n.number n.place) r) (ready_token mark.Comma)
    (λ v2 u2 k2. ready_value (λ ws s. SpelledStatement (l ∷ (v1 ++ (v2 ++ ws))) s)
    (Take l.place n.number n.place)
    (λ us e last he hs. rw (k1.one, k2.one, ← k1.place) (take l k1.lexeme k2.lexeme last us n.number e refl h
    k1.number k2.mark he hs))))

-- blocks
pub ready_block : (body : Reader Statements) → Ready SpelledStatements body
    → Ready SpelledBlock (block_by body)
unfolding block_by
ready_block body g =
    ready_next (Alone mark.LBrace) SpelledBlock (expect mark.LBrace)
    (λ _ r. (body r |> λ b r. (expect mark.RBrace r |> λ _ r. Done b r))) (ready_token mark.LBrace)
    (λ v1 u1 k1. ready_next SpelledStatements (λ ws b. SpelledBlock (v1 ++ ws) b) body
    (λ b r. (expect mark.RBrace r |> λ _ r. Done b r)) g
    (λ us b h. ready_next (Alone mark.RBrace) (λ ws b. SpelledBlock (v1 ++ (us ++ ws)) b) (expect mark.RBrace)
    (λ _ r. Done b r) (ready_token mark.RBrace)
    (λ v2 u2 k2. ready_done (λ ws b. SpelledBlock (v1 ++ (us ++ (v2 ++ ws))) b) b
    (rw (k1.one, k2.one) (block k1.lexeme k2.lexeme us b refl k1.mark h k2.mark)))))

pub ready_else : (body : Reader Statements) → Ready SpelledStatements body → Ready SpelledElse (else_by body)
unfolding else_by
ready_else body g = record { phrase = []; tree = Nothing; spelled = no_else; exact = all }
  where
    all : (ls : List Lexeme) → Exact SpelledElse (else_by body) ls
    all [] = exact_done_end SpelledElse (else_by body) Nothing refl no_else
    all (l ∷ ls) = go (is_word (codes "else") l.shape) refl
      where
        go : (t : Bool) → is_word (codes "else") l.shape ≡ t → Exact SpelledElse (else_by body) (l ∷ ls)
        go true e = exact_shift SpelledElse SpelledBlock (else_by body) (block_by body) l ls (λ x. rw e refl)
            (λ ws b k. with_else l ws b (word-is (codes "else") l.shape e) k) ((ready_block body g).exact ls)
        go false e = exact_done SpelledElse (else_by body) Nothing l ls (λ x. rw e refl) no_else

pub record Tested (ks : List Lexeme) (e : Expression) : Type 0 where
  pub first : Lexeme
  pub inside : List Lexeme
  pub last : Lexeme
  pub is : ks ≡ first ∷ (inside ++ last ∷ [])
  pub opening : Is mark.LParen first
  pub spelled : Spelled 0 inside e
  pub closing : Is mark.RParen last

pub ready_test : Ready Tested test_at
unfolding test_at
ready_test =
    ready_next (Alone mark.LParen) Tested (expect mark.LParen)
    (λ _ r. (expression_at 0 r |> λ e r. (expect mark.RParen r |> λ _ r. Done e r)))
    (ready_token mark.LParen)
    (λ v1 u1 k1. ready_next (Spelled 0) (λ ws b. Tested (v1 ++ ws) b) (expression_at 0)
    (λ e r. (expect mark.RParen r |> λ _ r. Done e r)) ready_expression
    (λ us e h. ready_next (Alone mark.RParen) (λ ws b. Tested (v1 ++ (us ++ ws)) b) (expect mark.RParen)
    (λ _ r. Done e r) (ready_token mark.RParen)
    (λ v2 u2 k2. ready_done (λ ws b. Tested (v1 ++ (us ++ (v2 ++ ws))) b) e
    (record {
      first = k1.lexeme;
      inside = us;
      last = k2.lexeme;
      is = rw (k1.one, k2.one) refl;
      opening = k1.mark;
      spelled = h;
      closing = k2.mark;
    }))))

-- a lexeme that is this word of the language
word : (l : Lexeme) (w : List ℕ) (k : Keyword) → l.shape ≡ shape.Word w → keyword_of w ≡ Some k
    → IsWord (spelling_of k) l
word l w k h e = h ∙ ap (λ w. shape.Word w) (keyword_of-is w k e)

ready_if : (body : Reader Statements) → Ready SpelledStatements body → (l : Lexeme) → IsWord (codes "if") l
    → Ready (λ ws s. SpelledStatement (l ∷ ws) s) (if_by body l.place)
unfolding if_by
ready_if body g l q =
    ready_next Tested (λ ws s. SpelledStatement (l ∷ ws) s) test_at
    (λ e r. (block_by body r |> λ a r. (else_by body r |> λ b r. Done (If l.place e a b) r))) ready_test
    (λ us e t. ready_next SpelledBlock (λ ws s. SpelledStatement (l ∷ (us ++ ws)) s) (block_by body)
    (λ a r. (else_by body r |> λ b r. Done (If l.place e a b) r)) (ready_block body g)
    (λ xs a ha. ready_next SpelledElse (λ ws s. SpelledStatement (l ∷ (us ++ (xs ++ ws))) s) (else_by body)
    (λ b r. Done (If l.place e a b) r) (ready_else body g)
    (λ ys b hb. ready_done (λ ws s. SpelledStatement (l ∷ (us ++ (xs ++ (ys ++ ws)))) s) (If l.place e a b)
    (rw (t.is, append-nil) (choice l t.first t.last t.inside xs ys e a b
    (ap (λ v. l ∷ t.first ∷ v) (append_assoc t.inside (t.last ∷ []) (xs ++ ys))) q t.opening t.spelled
    t.closing ha hb)))))

ready_while : (body : Reader Statements) → Ready SpelledStatements body → (l : Lexeme)
    → IsWord (codes "while") l → Ready (λ ws s. SpelledStatement (l ∷ ws) s) (while_by body l.place)
unfolding while_by
ready_while body g l q =
    ready_next Tested (λ ws s. SpelledStatement (l ∷ ws) s) test_at
    (λ e r. (block_by body r |> λ b r. Done (While l.place e b) r)) ready_test
    (λ us e t. ready_next SpelledBlock (λ ws s. SpelledStatement (l ∷ (us ++ ws)) s) (block_by body)
    (λ b r. Done (While l.place e b) r) (ready_block body g)
    (λ xs a ha. ready_done (λ ws s. SpelledStatement (l ∷ (us ++ (xs ++ ws))) s) (While l.place e a)
    (rw (t.is, append-nil)
    (while l t.first t.last t.inside xs e a
    (ap (λ v. l ∷ t.first ∷ v) (append_assoc t.inside (t.last ∷ []) xs)) q t.opening t.spelled t.closing
    ha))))

-- the first lexeme is read, and what is after it goes by another reader
begun : (l : Lexeme) (P Q : Reader Statement) → ((x : List Lexeme) → P (l ∷ x) ≡ Q x)
    → Ready (λ ws s. SpelledStatement (l ∷ ws) s) Q → (ls : List Lexeme) → Exact SpelledStatement P (l ∷ ls)
begun l P Q p g ls = exact_shift SpelledStatement (λ ws s. SpelledStatement (l ∷ ws) s) P Q l ls p
    (λ ws b k. k) (g.exact ls)

-- no statement begins with it
not_begun : (l : Lexeme) (P : Reader Statement) → ((x : List Lexeme) → P (l ∷ x) ≡ Stuck (l ∷ x))
    → (ls : List Lexeme) → Exact SpelledStatement P (l ∷ ls)
not_begun l P p ls = exact_stuck SpelledStatement P some_print
    (Print (lexeme_with (shape.Word (codes "print"))).place (Number 0)) l ls p spelled_some_print

exact_statement_word : (body : Reader Statements) → Ready SpelledStatements body
    → (w : List ℕ) (o : Option Keyword) → keyword_of w ≡ o → (l : Lexeme) → l.shape ≡ shape.Word w
    → (P : Reader Statement) → ((x : List Lexeme) → P (l ∷ x) ≡ statement_word body o w l x)
    → (ls : List Lexeme) → Exact SpelledStatement P (l ∷ ls)
unfolding statement_word
exact_statement_word body g w (Some keyword.Print) e l h P p ls =
    begun l P (value_at (Print l.place)) p
    (ready_value (λ ws s. SpelledStatement (l ∷ ws) s) (Print l.place)
    (λ us v last a b. print l last us v refl (word l w keyword.Print h e) a b)) ls
exact_statement_word body g w (Some keyword.Read) e l h P p ls = begun l P (read_at l.place) p
    (ready_read l (word l w keyword.Read h e)) ls
exact_statement_word body g w (Some keyword.Give) e l h P p ls = begun l P (give_at l.place) p
    (ready_give l (word l w keyword.Give h e)) ls
exact_statement_word body g w (Some keyword.Take) e l h P p ls = begun l P (take_at l.place) p
    (ready_take l (word l w keyword.Take h e)) ls
exact_statement_word body g w (Some keyword.If) e l h P p ls = begun l P (if_by body l.place) p
    (ready_if body g l (word l w keyword.If h e)) ls
exact_statement_word body g w (Some keyword.While) e l h P p ls = begun l P (while_by body l.place) p
    (ready_while body g l (word l w keyword.While h e)) ls
exact_statement_word body g w (Some _) e l h P p ls = not_begun l P p ls
exact_statement_word body g w None e l h P p ls =
    exact_shift SpelledStatement (λ ws s. SpelledStatement (l ∷ ws) s) P
    (named_statement (record { text = w; place = l.place })) l ls p (λ ws b k. k)
    (exact_named_statement l (record { text = w; place = l.place })
    (record { word = h; place = refl; free = keyword_free w e }) ls)

exact_statement_shape : (body : Reader Statements) → Ready SpelledStatements body → (s : Shape) (l : Lexeme)
    → l.shape ≡ s
    → (P : Reader Statement) → ((x : List Lexeme) → P (l ∷ x) ≡ statement_shape body s l x)
    → (ls : List Lexeme) → Exact SpelledStatement P (l ∷ ls)
unfolding statement_shape
exact_statement_shape body g (shape.Word w) l h P p ls = exact_statement_word body g w (keyword_of w) refl l h
    P p ls
exact_statement_shape body g (shape.Number n) l h P p ls = not_begun l P p ls
exact_statement_shape body g (shape.Mark m) l h P p ls = not_begun l P p ls

ready_statement : (body : Reader Statements) → Ready SpelledStatements body
    → Ready SpelledStatement (statement_by body)
unfolding statement_by
ready_statement body g =
    record {
      phrase = some_print;
      tree = Print (lexeme_with (shape.Word (codes "print"))).place (Number 0);
      spelled = spelled_some_print;
      exact = all;
    }
  where
    all : (ls : List Lexeme) → Exact SpelledStatement (statement_by body) ls
    all [] = exact_stuck_end SpelledStatement (statement_by body) some_print
        (Print (lexeme_with (shape.Word (codes "print"))).place (Number 0)) refl spelled_some_print
    all (l ∷ ls) = exact_statement_shape body g l.shape l refl (statement_by body) (λ x. refl) ls

ready_statements_by : (body : Reader Statements) → Ready SpelledStatements body
    → Ready SpelledStatements (statements_by body)
unfolding statements_by
ready_statements_by body g = record { phrase = []; tree = Nothing; spelled = nothing; exact = all }
  where
    longer : Ready SpelledStatements (λ x. statement_by body x |> λ s r.
        (body r |> λ rest r. Done (Then s rest) r))
    longer =
        ready_next SpelledStatement SpelledStatements (statement_by body)
        (λ s r. (body r |> λ rest r. Done (Then s rest) r)) (ready_statement body g)
        (λ us s h. ready_next SpelledStatements (λ ws b. SpelledStatements (us ++ ws) b) body
        (λ rest r. Done (Then s rest) r) g
        (λ vs rest k. ready_done (λ ws b. SpelledStatements (us ++ (vs ++ ws)) b) (Then s rest)
        (rw append-nil (first_then us vs s rest refl h k))))

    all : (ls : List Lexeme) → Exact SpelledStatements (statements_by body) ls
    all [] = exact_done_end SpelledStatements (statements_by body) Nothing refl nothing
    all (l ∷ ls) = go (starts l.shape) refl
      where
        go : (t : Bool) → starts l.shape ≡ t → Exact SpelledStatements (statements_by body) (l ∷ ls)
        go true e = exact_as_cons SpelledStatements (statements_by body)
            (λ x. statement_by body x |> λ s r. (body r |> λ rest r. Done (Then s rest) r)) l ls
            (λ x. rw e refl) (longer.exact (l ∷ ls))
        go false e = exact_done SpelledStatements (statements_by body) Nothing l ls (λ x. rw e refl) nothing

ready_statements_in : (k : ℕ) → Ready SpelledStatements (statements_in k)
unfolding statements_in
ready_statements_in zero = record {
  phrase = [];
  tree = Nothing;
  spelled = nothing;
  exact = λ x. exact_never SpelledStatements (statements_in zero) [] Nothing x (λ _. refl) nothing;
}
ready_statements_in (suc k) = ready_statements_by (statements_in k) (ready_statements_in k)

-- a statement has a lexeme
nonempty : (ks : List Lexeme) (s : Statement) → SpelledStatement ks s → 0 < length ks
nonempty ks s k = grind arith

statement_shrinks : (body : Reader Statements) → Ready SpelledStatements body
    → (x : List Lexeme) (s : Statement) (r : List Lexeme) → statement_by body x ≡ Done s r
    → length r < length x
statement_shrinks body g x s r e =
    let h = subst (ExactAt SpelledStatement (statement_by body) x) e ((ready_statement body g).exact x) in
    let n = nonempty h.front s h.spelled in
    omega (arith, length-append h.front r, ap length h.is, n)

alike_block : (n : ℕ) (body body' : Reader Statements) → Alike n body body'
    → Alike n (block_by body) (block_by body')
unfolding block_by
alike_block n body body' h = grind (arith, bind_alike, expect, shrinks, exact_expect)

alike_else : (n : ℕ) (body body' : Reader Statements) → Alike n body body'
    → Alike n (else_by body) (else_by body')
unfolding else_by
alike_else n body body' h i lt = grind (arith, alike_block)

alike_if : (n : ℕ) (body body' : Reader Statements) → Ready SpelledStatements body → Alike n body body'
    → (at : Place) → Alike n (if_by body at) (if_by body' at)
unfolding if_by
alike_if n body body' g h at =
    bind_alike n test_at test_at
    (λ e r. (block_by body r |> λ a r. (else_by body r |> λ b r. Done (If at e a b) r)))
    (λ e r. (block_by body' r |> λ a r. (else_by body' r |> λ b r. Done (If at e a b) r)))
    (shrinks Tested test_at ready_test.exact) (λ x _. refl)
    (λ e. bind_alike n (block_by body) (block_by body')
    (λ a r. (else_by body r |> λ b r. Done (If at e a b) r))
    (λ a r. (else_by body' r |> λ b r. Done (If at e a b) r))
    (shrinks SpelledBlock (block_by body) (ready_block body g).exact) (alike_block n body body' h)
    (λ a x lt. ap (λ y. y |> λ b r. Done (If at e a b) r) (alike_else n body body' h x lt)))

alike_while : (n : ℕ) (body body' : Reader Statements) → Alike n body body' → (at : Place)
    → Alike n (while_by body at) (while_by body' at)
unfolding while_by
alike_while n body body' h at =
    bind_alike n test_at test_at (λ e r. (block_by body r |> λ b r. Done (While at e b) r))
    (λ e r. (block_by body' r |> λ b r. Done (While at e b) r))
    (shrinks Tested test_at ready_test.exact) (λ x _. refl)
    (grind (arith, alike_block))

alike_word : (n : ℕ) (body body' : Reader Statements) → Ready SpelledStatements body → Alike n body body'
    → (o : Option Keyword) (w : List ℕ) (l : Lexeme) (ls : List Lexeme) → length ls < n
    → statement_word body o w l ls ≡ statement_word body' o w l ls
unfolding statement_word
alike_word n body body' g h o w l ls lt = grind (arith, alike_if, l.place, alike_while)

alike_statement : (n : ℕ) (body body' : Reader Statements) → Ready SpelledStatements body → Alike n body body'
    → Alike (suc n) (statement_by body) (statement_by body')
unfolding statement_by statement_shape
alike_statement n body body' g h i lt = grind (arith, alike_word)

alike_statements : (n : ℕ) (body body' : Reader Statements) → Ready SpelledStatements body
    → Alike n body body' → Alike (suc n) (statements_by body) (statements_by body')
unfolding statements_by
alike_statements n body body' g h [] lt = refl
alike_statements n body body' g h (l ∷ ls) lt =
    ap (λ y. if starts l.shape then y else Done Nothing (l ∷ ls))
    (ap (λ y. y |> λ s r. (body r |> λ rest r. Done (Then s rest) r)) refl
    ∙ go (statement_by body (l ∷ ls)) refl)
  where
    go : (y : Reading Statement) → statement_by body (l ∷ ls) ≡ y
        → (y |> λ s r. (body r |> λ rest r. Done (Then s rest) r)) ≡ (statement_by body' (l ∷ ls) |> λ s r.
        (body' r |> λ rest r. Done (Then s rest) r))
    go (Done s r) e =
        let lt' = statement_shrinks body g (l ∷ ls) s r e in
        let same : statement_by body' (l ∷ ls) ≡ Done s r = sym (alike_statement n body body' g h (l ∷ ls) lt)
        ∙ e in
        rw same (ap (λ y. y |> λ rest r. Done (Then s rest) r) (h r (omega (arith, lt'))))
    go (Stuck r) e = let same : statement_by body' (l ∷ ls) ≡ Stuck r =
        sym (alike_statement n body body' g h (l ∷ ls) lt) ∙ e in rw same refl

steady_statements : (k : ℕ) → Alike k (statements_in (suc k)) (statements_in k)
unfolding statements_in
steady_statements zero x lt = absurd (omega arith)
steady_statements (suc k) x lt = alike_statements k (statements_in (suc k)) (statements_in k)
    (ready_statements_in (suc k)) (steady_statements k) x lt

-- statements
pub ready_statements : Ready SpelledStatements statements_at
unfolding statements_at
ready_statements = record {
  phrase = [];
  tree = Nothing;
  spelled = nothing;
  exact = exact_unbounded SpelledStatements statements_in statements_at (λ k. (ready_statements_in k).exact)
      (alike_unbounded statements_in steady_statements);
}

-- what the reader of statements does, with no bound
pub statements_at_is : (x : List Lexeme) → statements_at x ≡ statements_by statements_at x
unfolding statements_at statements_in
statements_at_is x = alike_statements (length x) (statements_in (length x)) statements_at
    (ready_statements_in (length x)) (alike_unbounded statements_in steady_statements (length x)) x
    (omega arith)
