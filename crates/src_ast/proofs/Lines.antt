-- Texts with commas, and lines of a level.
use Rattle.std.proofs.Common.{◌≡◌, ℕ, zero, suc, ◌+◌, ◌<◌, List, ◌∷◌, ◌++◌, length, get_or, drop, map, codes}
use Rattle.std.proofs.Common.{refl, sym, arith, append_assoc, append-nil, add-one, []}
use Rattle.src_ast.specs.declared.lexeme.Name.{Name}
use Rattle.src_ast.specs.declared.tree.Expr.{Expr}
use Rattle.src_ast.specs.declared.tree.Stmt.{Stmt}
use Rattle.src_ast.specs.View.{expression, statements}
use Rattle.src_ast.specs.Printed.{separated_text, line, else_lines, argument_texts, name_texts}
use Rattle.src_ast.specs.Printed.{expression_text, indent}
use Rattle.src_ast.specs.Commas.{comma_text}

-- the first item has no comma before it
pub separated_is : (t : List ℕ) (ts : List (List ℕ)) → separated_text (t ∷ ts) ≡ t ++ comma_text ts
separated_is t [] = sym (append-nil t)
separated_is t (u ∷ ts) = grind (arith, append_assoc, separated_is u ts)

-- names with commas, from the first on
pub names_from : (xs : List Name) (x : Name) → 0 < length xs → x ≡ get_or xs 0 x
    → separated_text (name_texts xs) ≡ x.text ++ comma_text (name_texts (drop 1 xs))
names_from xs x h e = grind (arith, separated_is)

-- arguments with commas, from the first on
pub args_from : (xs : List Expr) (x : Expr) → 0 < length xs → x ≡ get_or xs 0 x
    → separated_text (argument_texts (map expression xs)) ≡ expression_text (expression x) ++ comma_text
    (argument_texts (map expression (drop 1 xs)))
args_from xs x h e = grind (arith, separated_is)

-- one level more
pub indent_more : (n : ℕ) → indent (n + 1) ≡ indent n ++ codes "  "
indent_more zero = refl
indent_more (suc n) = grind (arith, add-one, indent_more n)

-- an empty second arm is left out
pub else_empty : (n : ℕ) (xs : List Stmt) (text : List ℕ) → length xs ≡ 0
    → else_lines n (statements xs) text ≡ line n (codes "}")
else_empty n [] text h = refl
else_empty n (x ∷ xs) text h = absurd (omega arith)

-- a second arm stands between its braces
pub else_full : (n : ℕ) (xs : List Stmt) (text : List ℕ) → 0 < length xs
    → else_lines n (statements xs) text ≡ line n (codes "} else {") ++ text ++ line n (codes "}")
else_full n [] text h = absurd (omega arith)
else_full n (x ∷ xs) text h = refl
