-- Programs that are spelled so are read so.
use Rattle.std.proofs.Common.{arith, ◌∙◌, ap, append_assoc}
use Rattle.std.specs.Prelude.{◌≡◌, ℕ, List, [], ◌∷◌, ◌++◌, Option, Some, None, false, refl, codes}
use Rattle.src_ast.specs.declared.lexeme.Name.{Name}
use Rattle.src_ast.specs.declared.lexeme.Lexeme.{Lexeme}
use Rattle.src_ast.specs.declared.lexeme.Shape.TheVariants as shape
use Rattle.src_ast.specs.declared.lexeme.Mark.TheVariants as mark
use Rattle.src_ast.specs.Syntax.{Last, Part, Proc, Statements}
use Rattle.src_ast.specs.Grammar.{Is, IsName, IsWord, Separated, Listed, SpelledName, SpelledStatements}
use Rattle.src_ast.specs.Grammar.{SpelledEnding, ending, SpelledVars, no_vars, vars, SpelledItem}
use Rattle.src_ast.specs.Grammar.{array, proc, Tree, no_items, items}
use Rattle.src_parse.specs.Reading.{Done, is_word, name_at}
use Rattle.src_parse.specs.Statements.{value_at, starts_at}
use Rattle.src_parse.specs.Programs.{array_at, line_at, vars_by, vars_at, ending_at, inside_at, proc_at}
use Rattle.src_parse.specs.Programs.{item_at, items_by, program_at}
use Rattle.src_parse.proofs.Complete.{semi, expect_mark}
use Rattle.src_parse.proofs.Names.{name_done, count_done}
use Rattle.src_parse.proofs.Lists.{names, complete_separated, complete_enclosed}
use Rattle.src_parse.proofs.CompleteStatements.{NoWord, complete_value, complete_statements, statements_other}
use Rattle.src_parse.proofs.Programs.{vars_at_is, program_at_is}

complete_line : (ls : List Lexeme) (xs : List Name) (last : Lexeme) (ts : List Lexeme)
    → Separated SpelledName ls xs → Is mark.Semi last → line_at (ls ++ (last ∷ ts)) ≡ Done xs ts
unfolding line_at
complete_line ls xs last ts s z =
    rw (
      complete_separated SpelledName name_at names mark.Semi semi refl ls xs last ts s z,
      expect_mark mark.Semi last ts z,
    ) refl

vars_stay : (ts : List Lexeme) → NoWord (codes "var") ts → vars_at ts ≡ Done [] ts
unfolding vars_by
vars_stay ts n = grind (arith, vars_at_is)

vars_go : (l : Lexeme) (x r q : List Lexeme) (xs ys : List Name) → IsWord (codes "var") l
    → line_at x ≡ Done xs r → vars_at r ≡ Done ys q → vars_at (l ∷ x) ≡ Done (xs ++ ys) q
unfolding vars_by
vars_go l x r q xs ys h e k = vars_at_is (l ∷ x) ∙ rw (h, e, k) refl

complete_vars : (ks : List Lexeme) (zs : List Name) → SpelledVars ks zs → (ts : List Lexeme)
    → NoWord (codes "var") ts → vars_at (ks ++ ts) ≡ Done zs ts
complete_vars ks zs no_vars ts n = vars_stay ts n
complete_vars ks zs (vars l last ls rs xs ys eq both h s z k) ts n =
    grind (arith, append_assoc, vars_go, complete_line, complete_vars rs ys k ts n)

ending_return : (l : Lexeme) (x : List Lexeme) → IsWord (codes "return") l
    → ending_at (l ∷ x) ≡ value_at (λ e. Some (record { place = l.place; value = e })) x
unfolding ending_at
ending_return l x h = rw h refl

ending_none : (l : Lexeme) (x : List Lexeme) → Is mark.RBrace l → ending_at (l ∷ x) ≡ Done None (l ∷ x)
unfolding ending_at
ending_none l x h = rw h refl

complete_ending : (es : List Lexeme) (e : Option Last) → SpelledEnding es e
    → (close : Lexeme) (ts : List Lexeme) → Is mark.RBrace close → ending_at (es ++ (close ∷ ts))
    ≡ Done e (close ∷ ts)
complete_ending es e h close ts z = grind (arith, ending_none, append_assoc, ending_return, complete_value)

ending_other : (v : List ℕ) → is_word v (shape.Word (codes "return")) ≡ false
    → (es : List Lexeme) (e : Option Last) → SpelledEnding es e → (close : Lexeme) (ts : List Lexeme)
    → Is mark.RBrace close → NoWord v (es ++ (close ∷ ts))
ending_other v o es e h close ts z = grind arith

ending_starts : (es : List Lexeme) (e : Option Last) → SpelledEnding es e
    → (close : Lexeme) (ts : List Lexeme) → Is mark.RBrace close → starts_at (es ++ (close ∷ ts)) ≡ false
ending_starts es e h close ts z = grind arith

inside_done : (x : Name) (ps : List Name) (us bs es : List Lexeme) (vs : List Name) (b : Statements)
    (e : Option Last) (close : Lexeme) (ts : List Lexeme)
    → SpelledVars us vs → SpelledStatements bs b → SpelledEnding es e → Is mark.RBrace close
    → inside_at x ps (us ++ (bs ++ (es ++ (close ∷ ts)))) ≡ Done
    (Proc (record { name = x; params = ps; vars = vs; body = b; ending = e })) ts
unfolding inside_at
inside_done x ps us bs es vs b e close ts hv hb he hc =
    rw (
      complete_vars us vs hv (bs ++ (es ++ (close ∷ ts)))
          (statements_other (codes "var") refl bs b hb (es ++ (close ∷ ts))
          (ending_other (codes "var") refl es e he close ts hc)),
      complete_statements bs b hb (es ++ (close ∷ ts)) (ending_other (codes "else") refl es e he close ts hc)
          (ending_starts es e he close ts hc),
      complete_ending es e he close ts hc,
      expect_mark mark.RBrace close ts hc,
    ) refl

proc_done : (x : Name) (name first last op : Lexeme) (qs : List Lexeme) (ps : List Name)
    (inside : List Lexeme) (a : Part) (ts : List Lexeme)
    → IsName x name → Is mark.LParen first → Listed SpelledName qs ps → Is mark.RParen last
    → Is mark.LBrace op → inside_at x ps inside ≡ Done a ts
    → proc_at (name ∷ first ∷ (qs ++ (last ∷ op ∷ inside))) ≡ Done a ts
unfolding proc_at
proc_done x name first last op qs ps inside a ts h f s z o k =
    rw (
      name_done x name (first ∷ (qs ++ (last ∷ op ∷ inside))) h,
      expect_mark mark.LParen first (qs ++ (last ∷ op ∷ inside)) f,
      complete_enclosed SpelledName name_at names qs ps last (op ∷ inside) s z,
      expect_mark mark.LBrace op inside o,
    ) k

item_array : (l : Lexeme) (x : List Lexeme) → IsWord (codes "array") l → item_at (l ∷ x) ≡ array_at x
unfolding item_at
item_array l x h = rw h refl

item_proc : (l : Lexeme) (x : List Lexeme) → IsWord (codes "proc") l → item_at (l ∷ x) ≡ proc_at x
unfolding item_at
item_proc l x h = rw h refl

-- a procedure's lexemes in front of others
in_front : (qs us bs es ts : List Lexeme) (last op close : Lexeme)
    → (qs ++ (last ∷ op ∷ (us ++ (bs ++ (es ++ close ∷ []))))) ++ ts ≡ qs
    ++ (last ∷ op ∷ (us ++ (bs ++ (es ++ (close ∷ ts)))))
in_front qs us bs es ts last op close = grind (arith, append_assoc)

complete_item : (ks : List Lexeme) (a : Part) → SpelledItem ks a → (ts : List Lexeme)
    → item_at (ks ++ ts) ≡ Done a ts
unfolding array_at
complete_item ks s (array l name first size last end x n eq a b c d f g) ts =
    rw eq (item_array l (name ∷ first ∷ size ∷ last ∷ end ∷ ts) a
    ∙ rw (
      name_done x name (first ∷ size ∷ last ∷ end ∷ ts) b,
      expect_mark mark.LSquare first
          (size ∷ last ∷ end ∷ ts) c,
      count_done n size (last ∷ end ∷ ts) d,
      expect_mark mark.RSquare last (end ∷ ts) f,
      expect_mark mark.Semi end ts g,
    ) refl)
complete_item ks s (proc l name first last op close qs us bs es x ps vs body e eq a b c d f g hv hb he hc)
    ts =
    rw eq (ap (λ v. item_at (l ∷ name ∷ first ∷ v)) (in_front qs us bs es ts last op close)
    ∙ item_proc l (name ∷ first ∷ (qs ++ (last ∷ op ∷ (us ++ (bs ++ (es ++ (close ∷ ts))))))) a
    ∙ proc_done x name first last op qs ps (us ++ (bs ++ (es ++ (close ∷ ts)))) s ts b c d f g
    (inside_done x ps us bs es vs body e close ts hv hb he hc))

items_go : (x r : List Lexeme) (a : Part) (all : List Part) → item_at x ≡ Done a r
    → program_at r ≡ Done all [] → program_at x ≡ Done (a ∷ all) []
unfolding items_by item_at
items_go x r a all e k = grind (arith, program_at_is, program_at)

-- what is spelled as a program is read as it
pub complete_program : (ks : List Lexeme) (all : List Part) → Tree ks all → program_at ks ≡ Done all []
unfolding items_by
complete_program ks all no_items = program_at_is []
complete_program ks all (items ls rs a more eq h k) =
    rw eq (items_go (ls ++ rs) rs a more (complete_item ls a h rs) (complete_program rs more k))
