-- What the reader of programs says of the grammar.
use Rattle.std.proofs.Common.{arith, sym, ◌∙◌, ap, subst, append_assoc}
use Rattle.std.specs.Prelude.{◌≡◌, ℕ, suc, length, Result, Ok, Err, List, [], ◌∷◌, ◌++◌, refl}
use Rattle.src_ast.specs.declared.lexeme.Place.{Place}
use Rattle.src_ast.specs.declared.lexeme.Lexeme.{Lexeme}
use Rattle.src_ast.specs.Syntax.{Part}
use Rattle.src_ast.specs.Grammar.{Tree, Begins}
use Rattle.src_ast.specs.Faults.{SyntaxAt, here, at_end, IsTreeAnswer}
use Rattle.src_ast.specs.Once.{ExactlyOne}
use Rattle.src_parse.specs.Programs.{item_at, items_by, items_in, program_at, place_of}
use Rattle.src_parse.specs.Reading.{Reading, Reader, Done, Stuck, ◌|>◌}
use Rattle.src_parse.proofs.Programs.{ready_program}
use Rattle.src_parse.proofs.CompletePrograms.{complete_program}
use Rattle.src_parse.proofs.Whole.{whole_found, whole_place, whole_end, whole_one}

-- what is read as a program is spelled as it
pub parse_found : (ls : List Lexeme) (all : List Part) → program_at ls ≡ Done all [] → Tree ls all
parse_found ls all e = whole_found Tree program_at ready_program ls all e

-- what is spelled is what was read
pub parse_same : (ls : List Lexeme) (all parts : List Part) → program_at ls ≡ Done all [] → Tree ls parts
    → all ≡ parts
parse_same ls all parts e t = grind (arith, complete_program)

-- where the reader is stuck, no program is spelled
pub parse_never : (ls r : List Lexeme) (parts : List Part) → program_at ls ≡ Stuck r → Tree ls parts → ⊥
parse_never ls r parts e t = grind (arith, complete_program)

-- where the reader is stuck, the lexemes are wrong
pub parse_fault : (ls r : List Lexeme) (finish : Place) → program_at ls ≡ Stuck r
    → SyntaxAt ls finish (place_of r finish)
parse_fault ls [] finish e = let h = whole_end Tree program_at ready_program complete_program ls e in
    at_end h.0 h.1
parse_fault ls (l ∷ following) finish e = let h = whole_place Tree program_at ready_program complete_program
    ls l following e in here h.front following l h.is h.begins h.no_more

-- a text has at most one tree
pub one_tree : (ls : List Lexeme) (a b : List Part) → Tree ls a → Tree ls b → a ≡ b
one_tree = whole_one Tree program_at complete_program

-- a text that has a tree has no place where it is wrong
pub no_fault_in_a_tree : (ls : List Lexeme) (finish p : Place) (all : List Part) → Tree ls all
    → SyntaxAt ls finish p → ⊥
no_fault_in_a_tree ls finish p all t (here front following l e b n) =
    n (following, all, subst (λ x. Tree x all) (e ∙ sym (append_assoc front (l ∷ []) following)) t)
no_fault_in_a_tree ls finish p all t (at_end b n) = n all t

-- where of two fronts each goes on to begin a program, and neither does with one lexeme more, that lexeme is
-- the same
same_lexeme : (B : List Lexeme → Type 0) → ((xs ys : List Lexeme) → B (xs ++ ys) → B xs)
    → (xs ys xs' ys' : List Lexeme) (l m : Lexeme) → xs ++ (l ∷ xs') ≡ ys ++ (m ∷ ys')
    → B xs → (B (xs ++ (l ∷ [])) → ⊥) → B ys → (B (ys ++ (m ∷ [])) → ⊥) → l ≡ m
same_lexeme B less [] [] xs' ys' l m e b n c o = cc
same_lexeme B less [] (y ∷ ys) xs' ys' l m e b n c o =
    let one : y ≡ l = cc in
    absurd (n (subst (λ l. B (l ∷ [])) one (less (y ∷ []) ys c)))
same_lexeme B less (x ∷ xs) [] xs' ys' l m e b n c o =
    let one : x ≡ m = cc in
    absurd (o (subst (λ l. B (l ∷ [])) one (less (x ∷ []) xs b)))
same_lexeme B less (x ∷ xs) (y ∷ ys) xs' ys' l m e b n c o =
    let one : y ≡ x = cc in
    let rest : xs ++ (l ∷ xs') ≡ ys ++ (m ∷ ys') = cc in
    same_lexeme (λ zs. B (x ∷ zs)) (λ us vs. less (x ∷ us) vs) xs ys xs' ys' l m rest b n
    (subst (λ y. B (y ∷ ys)) one c) (λ h. o (subst (λ y. B (y ∷ (ys ++ (m ∷ [])))) (sym one) h))

begins_less : (xs ys : List Lexeme) → Begins (xs ++ ys) → Begins xs
begins_less xs ys b = (grind (arith, append_assoc))

-- the front of a text that begins a program begins one
front_begins : (ls front following : List Lexeme) (l : Lexeme) → ls ≡ front ++ (l ∷ following) → Begins ls
    → Begins (front ++ (l ∷ []))
front_begins ls front following l e b = begins_less (front ++ (l ∷ [])) following
    (grind (arith, append_assoc))

-- there is one place where a text is wrong
pub one_place : (ls : List Lexeme) (finish a b : Place) → SyntaxAt ls finish a → SyntaxAt ls finish b → a ≡ b
one_place ls finish a b (here f r l e g n) (here f' r' m e' g' n') =
    ap (λ l. l.place) (same_lexeme Begins begins_less f f' r r' l m (sym e ∙ e') g n g' n')
one_place ls finish a b (here f r l e g n) (at_end g' n') = absurd (n (front_begins ls f r l e g'))
one_place ls finish a b (at_end g n) (here f' r' m e' g' n') = absurd (n' (front_begins ls f' r' m e' g))
one_place ls finish a b (at_end g n) (at_end g' n') = refl

none_left : (a : Part) (y : Reading (List Part)) (all : List Part) (rest : List Lexeme)
    → ((b : List Part) (r : List Lexeme) → y ≡ Done b r → r ≡ [])
    → (y |> λ b r. Done (a ∷ b) r) ≡ Done all rest → rest ≡ []
none_left a y all rest h e = grind arith

none_left_after : (f : Reader (List Part)) → ((ls : List Lexeme) (b : List Part) (r : List Lexeme)
    → f ls ≡ Done b r → r ≡ [])
    → (x : Reading Part) (all : List Part) (rest : List Lexeme) → (x |> λ a r. (f r |> λ b r. Done (a ∷ b) r))
    ≡ Done all rest → rest ≡ []
none_left_after f h x all rest e = grind (arith, none_left)

-- the reader of a program leaves no lexeme
nothing_left : (k : ℕ) (ls : List Lexeme) (all : List Part) (rest : List Lexeme)
    → items_in k ls ≡ Done all rest → rest ≡ []
unfolding items_in items_by
nothing_left (suc k) (l ∷ ls) all rest e = grind (arith, none_left_after, items_in, item_at, nothing_left k)
nothing_left k ls all rest e = grind arith

whole_program : (ls : List Lexeme) (all : List Part) (rest : List Lexeme) → program_at ls ≡ Done all rest
    → program_at ls ≡ Done all []
unfolding program_at
whole_program ls all rest e = e ∙ ap (λ r. Done all r) (nothing_left (suc (length ls)) ls all rest e)

-- a tree, or a place where the lexemes are wrong, by what the reader gives
answer_by : (ls : List Lexeme) (finish : Place) (r : Reading (List Part)) → program_at ls ≡ r
    → (answer : Result (List Part) Place) × IsTreeAnswer ls finish answer
answer_by ls finish (Done all rest) e = (Ok all, parse_found ls all (whole_program ls all rest e))
answer_by ls finish (Stuck r) e = (Err (place_of r finish), parse_fault ls r finish e)

same_answer : (ls : List Lexeme) (finish : Place) (a b : Result (List Part) Place) → IsTreeAnswer ls finish a
    → IsTreeAnswer ls finish b → a ≡ b
same_answer ls finish a b x y = grind (arith, one_tree, no_fault_in_a_tree, one_place)

-- lexemes have one tree, or one place where they are wrong
pub parsed_once : (ls : List Lexeme) (finish : Place) → ExactlyOne (IsTreeAnswer ls finish)
parsed_once ls finish = let a = answer_by ls finish (program_at ls) refl in grind (arith, same_answer)
