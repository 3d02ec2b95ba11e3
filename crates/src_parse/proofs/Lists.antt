-- Lists with commas: their reader is exact, and reads what is spelled so.
use Rattle.std.specs.Prelude.{◌≡◌, ℕ, zero, suc, length, List, [], ◌∷◌, ◌++◌, Bool, true, false, refl}
use Rattle.std.proofs.Common.{sym, ◌∙◌, ap, subst, append_assoc, append-nil, arith}
use Rattle.src_ast.specs.declared.lexeme.Name.{Name}
use Rattle.src_ast.specs.declared.lexeme.Lexeme.{Lexeme}
use Rattle.src_ast.specs.declared.lexeme.Shape.TheVariants as shape
use Rattle.src_ast.specs.declared.lexeme.Mark.{Mark}
use Rattle.src_ast.specs.declared.lexeme.Mark.TheVariants as mark
use Rattle.src_ast.specs.declared.tree.Unary.{Unary}
use Rattle.src_ast.specs.Syntax.{Expression}
use Rattle.src_ast.specs.Grammar.{sign_mark, Is, Spelled, number, variable, cell, round, signed, binary}
use Rattle.src_ast.specs.Grammar.{Separated, one, more, Listed, none, some, SpelledName, name}
use Rattle.src_parse.specs.Reading.{Reader, Done, ◌|>◌, is_mark, expect, name_at}
use Rattle.src_parse.specs.Expressions.{expression_at}
use Rattle.src_parse.specs.Lists.{comma_or_end, separated_in, separated_at, some_enclosed, enclosed_at}
use Rattle.src_parse.proofs.Exact.{Exact, exact_done_end, exact_done, exact_shift, exact_always, exact_never}
use Rattle.src_parse.proofs.Tokens.{Alone, is_mark-true, is_mark-same}
use Rattle.src_parse.proofs.Steady.{Alike, Shrinks, shrinks, bind_alike}
use Rattle.src_parse.proofs.Complete.{Closes, comma, paren, expect_mark, whole}
use Rattle.src_parse.proofs.Ready.{Ready, ready_next, ready_done, ready_token, ready_expression}
use Rattle.src_parse.proofs.Ready.{exact_unbounded, alike_unbounded, exact_as_end, exact_as_cons}
use Rattle.src_parse.proofs.Names.{ready_spelled_name, name_done}

ready_comma : {A : Type 0} (L : List Lexeme → A → Type 0) (rest : Reader (List A)) → Ready (Separated L) rest
    → (us : List Lexeme) (a : A) → L us a
    → Ready (λ vs b. Separated L (us ++ vs) b) (comma_or_end rest a)
unfolding comma_or_end
ready_comma {A} L rest g us a h = record { phrase = []; tree = a ∷ []; spelled = alone; exact = all }
  where
    alone : Separated L (us ++ []) (a ∷ [])
    alone = rw append-nil (one us a h)

    all : (x : List Lexeme) → Exact (λ vs b. Separated L (us ++ vs) b) (comma_or_end rest a) x
    all [] = exact_done_end (λ vs b. Separated L (us ++ vs) b) (comma_or_end rest a) (a ∷ []) refl alone
    all (l ∷ ls) = go (is_mark mark.Comma l.shape) refl
      where
        go : (t : Bool) → is_mark mark.Comma l.shape ≡ t → Exact (λ vs b. Separated L (us ++ vs) b)
            (comma_or_end rest a) (l ∷ ls)
        go true e =
            exact_shift (λ vs b. Separated L (us ++ vs) b) (λ vs b. Separated L (us ++ (l ∷ vs)) b)
            (comma_or_end rest a) (λ x. rest x |> λ all r. Done (a ∷ all) r) l ls
            (λ x. rw e refl) (λ ws b k. k)
            ((ready_next (Separated L) (λ vs b. Separated L (us ++ (l ∷ vs)) b) rest
            (λ all r. Done (a ∷ all) r) g
            (λ ws as' k. ready_done (λ vs b. Separated L (us ++ (l ∷ (ws ++ vs))) b) (a ∷ as')
            (more l us ws a as' (rw append-nil refl) h (is_mark-true mark.Comma l.shape e) k))).exact ls)
        go false e = exact_done (λ vs b. Separated L (us ++ vs) b) (comma_or_end rest a) (a ∷ []) l ls
            (λ x. rw e refl) alone

ready_separated_in : {A : Type 0} (L : List Lexeme → A → Type 0) (item : Reader A) → Ready L item → (k : ℕ)
    → Ready (Separated L) (separated_in item k)
unfolding separated_in
ready_separated_in L item g zero = record {
  phrase = g.phrase;
  tree = g.tree ∷ [];
  spelled = one g.phrase g.tree g.spelled;
  exact = λ x. exact_never (Separated L) (separated_in item zero) g.phrase (g.tree ∷ []) x (λ _. refl)
      (one g.phrase g.tree g.spelled);
}
ready_separated_in L item g (suc k) =
    ready_next L (Separated L) item (comma_or_end (separated_in item k)) g
    (λ us a h. ready_comma L (separated_in item k) (ready_separated_in L item g k) us a h)

alike_comma : {A : Type 0} (n : ℕ) (rest rest' : Reader (List A)) → Alike n rest rest' → (a : A)
    → Alike (suc n) (comma_or_end rest a) (comma_or_end rest' a)
unfolding comma_or_end
alike_comma n rest rest' h a i lt = grind arith

steady_separated : {A : Type 0} (item : Reader A) → Shrinks item → (k : ℕ)
    → Alike k (separated_in item (suc k)) (separated_in item k)
unfolding separated_in
steady_separated item s zero x lt = absurd (omega arith)
steady_separated item s (suc k) x lt =
    bind_alike (suc k) item item (comma_or_end (separated_in item (suc k)))
    (comma_or_end (separated_in item k)) s (λ x _. refl)
    (λ a. alike_comma k (separated_in item (suc k)) (separated_in item k) (steady_separated item s k) a) x lt

-- one or more, with commas between them
pub ready_separated : {A : Type 0} (L : List Lexeme → A → Type 0) (item : Reader A) → Ready L item
    → Ready (Separated L) (separated_at item)
unfolding separated_at
ready_separated L item g = record {
  phrase = g.phrase;
  tree = g.tree ∷ [];
  spelled = one g.phrase g.tree g.spelled;
  exact = exact_unbounded (Separated L) (separated_in item) (separated_at item)
      (λ k. (ready_separated_in L item g k).exact)
      (alike_unbounded (separated_in item) (steady_separated item (shrinks L item g.exact)));
}

-- the list reader, one item on
pub separated_at_is : {A : Type 0} (L : List Lexeme → A → Type 0) (item : Reader A) → Ready L item
    → (x : List Lexeme) → separated_at item x ≡ (item x |> comma_or_end (separated_at item))
unfolding separated_at separated_in
separated_at_is L item g x =
    let s : Shrinks item = shrinks L item g.exact in
    bind_alike (suc (length x)) item item (comma_or_end (separated_in item (length x)))
    (comma_or_end (separated_at item)) s (λ x _. refl)
    (λ a. alike_comma (length x) (separated_in item (length x)) (separated_at item)
    (alike_unbounded (separated_in item) (steady_separated item s) (length x)) a) x (omega arith)

-- a list with its closing parenthesis
pub record Enclosed {A : Type 0} (L : List Lexeme → A → Type 0) (ks : List Lexeme) (all : List A) : Type
    0 where
  pub inside : List Lexeme
  pub last : Lexeme
  pub is : ks ≡ inside ++ last ∷ []
  pub spelled : Listed L inside all
  pub closing : Is mark.RParen last

ready_some : {A : Type 0} (L : List Lexeme → A → Type 0) (item : Reader A) → Ready L item
    → Ready (Enclosed L) (some_enclosed item)
ready_some L item g =
    ready_next (Separated L) (Enclosed L) (separated_at item)
    (λ all r. (expect mark.RParen r |> λ _ r. Done all r)) (ready_separated L item g)
    (λ us all h. ready_next (Alone mark.RParen) (λ vs b. Enclosed L (us ++ vs) b) (expect mark.RParen)
    (λ _ r. Done all r) (ready_token mark.RParen)
    (λ vs u k. ready_done (λ ws b. Enclosed L (us ++ (vs ++ ws)) b) all
    (record {
      inside = us;
      last = k.lexeme;
      is = ap (λ v. us ++ (v ++ [])) k.one;
      spelled = some us all h;
      closing = k.mark;
    })))

-- a list and its closing parenthesis
pub ready_enclosed : {A : Type 0} (L : List Lexeme → A → Type 0) (item : Reader A) → Ready L item
    → Ready (Enclosed L) (enclosed_at item)
unfolding enclosed_at
ready_enclosed {A} L item g = record {
  phrase = inner.phrase;
  tree = inner.tree;
  spelled = inner.spelled;
  exact = all;
}
  where
    inner : Ready (Enclosed L) (some_enclosed item)
    inner = ready_some L item g

    all : (x : List Lexeme) → Exact (Enclosed L) (enclosed_at item) x
    all [] = exact_as_end (Enclosed L) (enclosed_at item) (some_enclosed item) refl (inner.exact [])
    all (l ∷ ls) = go (is_mark mark.RParen l.shape) refl
      where
        go : (t : Bool) → is_mark mark.RParen l.shape ≡ t → Exact (Enclosed L) (enclosed_at item) (l ∷ ls)
        go true e =
            exact_shift (Enclosed L) (λ ws b. (ws ≡ []) × (b ≡ [])) (enclosed_at item) (λ x. Done [] x) l ls
            (λ x. rw e refl)
            (λ ws b k. record {
              inside = [];
              last = l;
              is = ap (λ w. l ∷ w) k.0;
              spelled = subst (Listed L []) (sym k.1) none;
              closing = is_mark-true mark.RParen l.shape e;
            })
            (exact_always (λ ws b. (ws ≡ []) × (b ≡ [])) (λ x. Done [] x) [] ls (λ x. refl) (refl, refl))
        go false e = exact_as_cons (Enclosed L) (enclosed_at item) (some_enclosed item) l ls (λ x. rw e refl)
            (inner.exact (l ∷ ls))

-- the first lexeme is no closing parenthesis
abbrev pub Opens : List Lexeme → Type 0
Opens [] = ⊥
Opens (l ∷ ls) = is_mark mark.RParen l.shape ≡ false

opens_after : (ls ts : List Lexeme) → Opens ls → Opens (ls ++ ts)
opens_after ls ts h = grind arith

-- an item that is read whole in front of each mark that ends an expression
pub record Listable {A : Type 0} (L : List Lexeme → A → Type 0) (item : Reader A) : Type 0 where
  pub ready : Ready L item
  pub whole : (m : Mark) → Closes m → (ls : List Lexeme) (a : A) (last : Lexeme) (ts : List Lexeme)
      → Is m last → L ls a → item (ls ++ (last ∷ ts)) ≡ Done a (last ∷ ts)
  pub opens : (ls : List Lexeme) (a : A) → L ls a → Opens ls

opens_sign : (s : Unary) → is_mark mark.RParen (shape.Mark (sign_mark s)) ≡ false
opens_sign s = grind arith

opens_expression : (n : ℕ) (ls : List Lexeme) (e : Expression) → Spelled n ls e → Opens ls
opens_expression n ls e (number l v h) = ap (is_mark mark.RParen) h
opens_expression n ls e (variable l x h) = ap (is_mark mark.RParen) h.word
opens_expression n ls e (cell l first last js a i eq h f s z) = grind arith
opens_expression n ls e (round first last js eq f s z) = subst Opens (sym eq) (ap (is_mark mark.RParen) f)
opens_expression n ls e (signed l js s i lt h k) = ap (is_mark mark.RParen) h ∙ opens_sign s
opens_expression n ls e (binary l js rs op a b lt eq h p q) =
    grind (arith, opens_after, opens_expression _ js a p)

-- expressions can be listed
pub expressions : Listable (Spelled 0) (expression_at 0)
expressions = record { ready = ready_expression; whole = whole; opens = opens_expression 0 }

whole_name : (ls : List Lexeme) (x : Name) (last : Lexeme) (ts : List Lexeme) → SpelledName ls x
    → name_at (ls ++ (last ∷ ts)) ≡ Done x (last ∷ ts)
whole_name ls x last ts (name l y h) = name_done x l (last ∷ ts) h

opens_name : (ls : List Lexeme) (x : Name) → SpelledName ls x → Opens ls
opens_name ls x (name l y h) = ap (is_mark mark.RParen) h.word

-- names can be listed
pub names : Listable SpelledName name_at
names = grind (arith, ready_spelled_name, whole_name, opens_name)

-- a list that is spelled is read
pub complete_separated : {A : Type 0} (L : List Lexeme → A → Type 0) (item : Reader A) → Listable L item
    → (m : Mark) → Closes m → is_mark mark.Comma (shape.Mark m) ≡ false
    → (ls : List Lexeme) (all : List A) (last : Lexeme) (ts : List Lexeme) → Separated L ls all → Is m last
    → separated_at item (ls ++ (last ∷ ts)) ≡ Done all (last ∷ ts)
unfolding comma_or_end
complete_separated L item g m c n ls all last ts (one js a s) z =
    let other : is_mark mark.Comma last.shape ≡ false = ap (is_mark mark.Comma) z ∙ n in
    separated_at_is L item g.ready (ls ++ (last ∷ ts)) ∙ rw (g.whole m c ls a last ts z s, other) refl
complete_separated L item g m c n ls all last ts (more d js rs a as' eq s h k) z =
    ap (λ x. separated_at item (x ++ (last ∷ ts))) eq ∙ ap (separated_at item)
    (append_assoc js (d ∷ rs) (last ∷ ts))
    ∙ separated_at_is L item g.ready (js ++ (d ∷ (rs ++ (last ∷ ts))))
    ∙ rw (
      g.whole mark.Comma comma js a d (rs ++ (last ∷ ts)) h s,
      is_mark-same mark.Comma d.shape h,
      complete_separated L item g m c n rs as' last ts k z,
    ) refl

opens_list : {A : Type 0} (L : List Lexeme → A → Type 0) (item : Reader A) → Listable L item
    → (ls : List Lexeme) (all : List A) → Separated L ls all → Opens ls
opens_list L item g ls all i = grind (arith, g.opens, opens_after)

list_then_paren : {A : Type 0} (item : Reader A) (x : List Lexeme) (all : List A) (last : Lexeme)
    (ts : List Lexeme) → Opens x → Is mark.RParen last
    → separated_at item x ≡ Done all (last ∷ ts) → enclosed_at item x ≡ Done all ts
unfolding enclosed_at
list_then_paren item x all last ts o z e = grind (arith, expect_mark)

enclosed_nothing : {A : Type 0} (item : Reader A) (last : Lexeme) (ts : List Lexeme) → Is mark.RParen last
    → enclosed_at item (last ∷ ts) ≡ Done [] ts
unfolding enclosed_at
enclosed_nothing item last ts z = rw (is_mark-same mark.RParen last.shape z) refl

-- so is one with its closing parenthesis
pub complete_enclosed : {A : Type 0} (L : List Lexeme → A → Type 0) (item : Reader A) → Listable L item
    → (ls : List Lexeme) (all : List A) (last : Lexeme) (ts : List Lexeme) → Listed L ls all
    → Is mark.RParen last → enclosed_at item (ls ++ (last ∷ ts)) ≡ Done all ts
complete_enclosed L item g ls all last ts none z = enclosed_nothing item last ts z
complete_enclosed L item g ls all last ts (some js bs s) z =
    list_then_paren item (ls ++ (last ∷ ts)) all last ts
    (opens_after ls (last ∷ ts) (opens_list L item g ls all s)) z
    (complete_separated L item g mark.RParen paren refl ls all last ts s z)
