-- Items one after another.
use Rattle.std.proofs.Common.{◌≡◌, ℕ, zero, suc, ◌+◌, ◌<◌, List, [], ◌∷◌, ◌++◌, Option, ◌≤◌, length, take}
use Rattle.std.proofs.Common.{map, slice_index_or, refl, sym, ap, ◌∙◌, subst, append_assoc, length-append}
use Rattle.std.proofs.Common.{◌-◌, arith}
use Rattle.std.specs.List.{AllByRecursion}
use Rattle.std.proofs.lemmas.List.{append-nil}
use Rattle.src_ast.specs.declared.lexeme.Place.{Place}
use Rattle.src_ast.specs.declared.lexeme.Name.{Name}
use Rattle.src_ast.specs.declared.tree.Item.{Item}
use Rattle.src_ast.specs.declared.tree.Item.TheVariants as items
use Rattle.src_ast.specs.View as ast
use Rattle.src_ast.specs.declared.tree.Stmt.{Stmt}
use Rattle.src_ast.specs.Syntax.{Part, Array, Proc, Procedure, Last}
use Rattle.src_ast.specs.Meaning.{scope_of, arrays_of, lengths_of, procs_of, names_of}
use Rattle.cfg_core.specs.Graph as plain
use Rattle.seq_run.specs.Resolved as resolved
use Rattle.seq_run.specs.Resolving as resolving
use Rattle.seq_run.specs.Tables.{IsTable, FewVars}
use Rattle.seq_run.specs.View as view
use Rattle.seq_run.specs.declared.table.NameNumbers.{NameNumbers}
use Rattle.seq_run.specs.declared.tree.ArrayShape.{ArrayShape}
use Rattle.seq_run.specs.declared.tree.Proc.{Proc as CodeProc}
use Rattle.src_ast.specs.Printed.{name_texts}

-- the first items, and one more
pub taken_more : {X : Type 0} (xs : List X) (i : ℕ) (x : X) → i < length xs → x ≡ slice_index_or xs i x
    → take (i + 1) xs ≡ take i xs ++ x ∷ []
taken_more {X} xs i x lt is = ap (λ (n : ℕ). take n xs) (let z : i + 1 ≡ suc i = omega arith in z)
    ∙ at xs i lt is
  where
    at : (xs : List X) (i : ℕ) → i < length xs → x ≡ slice_index_or xs i x
        → take (suc i) xs ≡ take i xs ++ x ∷ []
    at (y ∷ xs) (suc i) lt is = ap (λ (zs : List X). y ∷ zs) (at xs i (omega arith) is)
    at xs i lt is = grind arith

map_append : (f : Item → Part) (xs ys : List Item) → map f (xs ++ ys) ≡ map f xs ++ map f ys
map_append f [] ys = refl
map_append f (x ∷ xs) ys = ap (λ (ps : List Part). f x ∷ ps) (map_append f xs ys)

-- the parts up to the next item
pub parts_more : (xs : List Item) (i : ℕ) (x : Item) → i < length xs → x ≡ slice_index_or xs i x
    → ast.parts (take (i + 1) xs) ≡ ast.parts (take i xs) ++ ast.part x ∷ []
parts_more xs i x lt is = ap ast.parts (taken_more xs i x lt is) ∙ map_append ast.part (take i xs) (x ∷ [])

-- the arrays of parts, one list after another
pub arrays_append : (xs ys : List Part) → arrays_of (xs ++ ys) ≡ arrays_of xs ++ arrays_of ys
arrays_append [] ys = refl
arrays_append (Array x n at ∷ xs) ys = ap (λ (ns : List Name). x ∷ ns) (arrays_append xs ys)
arrays_append (Proc p ∷ xs) ys = arrays_append xs ys

lengths_append : (xs ys : List Part) → lengths_of (xs ++ ys) ≡ lengths_of xs ++ lengths_of ys
lengths_append [] ys = refl
lengths_append (Array x n at ∷ xs) ys = ap (λ (ns : List ℕ). n ∷ ns) (lengths_append xs ys)
lengths_append (Proc p ∷ xs) ys = lengths_append xs ys

-- so the procedures
pub procs_append : (xs ys : List Part) → procs_of (xs ++ ys) ≡ procs_of xs ++ procs_of ys
procs_append [] ys = refl
procs_append (Array x n at ∷ xs) ys = procs_append xs ys
procs_append (Proc p ∷ xs) ys = ap (λ (ps : List Procedure). p ∷ ps) (procs_append xs ys)

-- so the names of procedures
pub names_append : (xs ys : List Procedure) → names_of (xs ++ ys) ≡ names_of xs ++ names_of ys
names_append [] ys = refl
names_append (p ∷ xs) ys = ap (λ (ns : List Name). p.name ∷ ns) (names_append xs ys)

texts_append : (xs ys : List Name) → name_texts (xs ++ ys) ≡ name_texts xs ++ name_texts ys
texts_append [] ys = refl
texts_append (x ∷ xs) ys = ap (λ (ts : List (List ℕ)). x.text ∷ ts) (texts_append xs ys)

view_names_append : (xs ys : List ArrayShape) → view.names (xs ++ ys) ≡ view.names xs ++ view.names ys
view_names_append [] ys = refl
view_names_append (x ∷ xs) ys = ap (λ (ts : List (List ℕ)). x.name ∷ ts) (view_names_append xs ys)

view_lengths_append : (xs ys : List ArrayShape) → view.lengths (xs ++ ys) ≡ view.lengths xs ++ view.lengths ys
view_lengths_append [] ys = refl
view_lengths_append (x ∷ xs) ys = ap (λ (ns : List ℕ). x.length ∷ ns) (view_lengths_append xs ys)

view_procs_append : (xs ys : List CodeProc) → view.procs (xs ++ ys) ≡ view.procs xs ++ view.procs ys
view_procs_append [] ys = refl
view_procs_append (x ∷ xs) ys = ap (λ (ps : List resolved.Proc). view.proc x ∷ ps) (view_procs_append xs ys)

resolving_append : (arrays names : List Name) (xs ys : List Procedure)
    → resolving.procs arrays names (xs ++ ys) ≡ resolving.procs arrays names xs ++ resolving.procs arrays
    names ys
resolving_append arrays names [] ys = refl
resolving_append arrays names (p ∷ xs) ys =
    ap (λ (ps : List resolved.Proc).
    resolving.proc (record { names = p.params ++ p.vars; arrays = arrays; procs = names }) p ∷ ps)
    (resolving_append arrays names xs ys)

-- one name more
pub one_further : (first i next now : ℕ) → next ≡ first + i → now ≡ next + 1 → now ≡ first + (i + 1)
one_further first i next now e d = omega (arith, e, d)

-- tables of names
pub declared_more : (first : ℕ) (names list : List Name) (i : ℕ) (x : Name) (table : NameNumbers)
    → i < length list → x ≡ slice_index_or list i x → IsTable first ((names ++ take i list) ++ x ∷ []) table
    → IsTable first (names ++ take (i + 1) list) table
declared_more first names list i x table lt is h = grind (arith, append_assoc, taken_more)

length_take : {X : Type 0} (xs : List X) (i : ℕ) → length (take i xs) ≤ i
length_take [] zero = omega arith
length_take [] (suc i) = omega arith
length_take (x ∷ xs) zero = omega arith
length_take (x ∷ xs) (suc i) = let h = length_take xs i in omega (arith, h)

-- a part for each item
pub length_parts : (xs : List Item) → length (ast.parts xs) ≡ length xs
length_parts [] = refl
length_parts (x ∷ xs) = ap suc (length_parts xs)

-- among the first items are no more arrays than items
pub few_arrays : (xs : List Item) (i : ℕ) → length (arrays_of (ast.parts (take i xs))) ≤ i
few_arrays xs i = let h = at (take i xs) in let l = length_take xs i in omega (arith, h, l)
  where
    at : (ys : List Item) → length (arrays_of (ast.parts ys)) ≤ length ys
    at [] = omega arith
    at (items.Array x n p ∷ ys) = let h = at ys in omega (arith, h)
    at (items.Proc x ps vs body ending ∷ ys) = let h = at ys in omega (arith, h)

-- and no more procedures
pub few_procs : (xs : List Item) (i : ℕ) → length (names_of (procs_of (ast.parts (take i xs)))) ≤ i
few_procs xs i = let h = at (take i xs) in let l = length_take xs i in omega (arith, h, l)
  where
    at : (ys : List Item) → length (names_of (procs_of (ast.parts ys))) ≤ length ys
    at [] = omega arith
    at (items.Array x n p ∷ ys) = let h = at ys in omega (arith, h)
    at (items.Proc x ps vs body ending ∷ ys) = let h = at ys in omega (arith, h)

-- each procedure among items has few enough variables
pub few_at : (xs : List Item) (i : ℕ) (x : Item) (p : Procedure)
    → AllByRecursion FewVars (procs_of (ast.parts xs)) → i < length xs → x ≡ slice_index_or xs i x
    → ast.part x ≡ Proc p → FewVars p
few_at (items.Array z n at ∷ ys) (suc i) x p h lt is e = few_at ys i x p h (omega arith) is e
few_at (items.Proc z ps vs body ending ∷ ys) (suc i) x p h lt is e = few_at ys i x p h.1 (omega arith) is e
few_at xs i x p h lt is e = grind arith

-- all items are taken
pub take_whole : {X : Type 0} (xs : List X) (i : ℕ) → length xs ≤ i → take i xs ≡ xs
take_whole [] zero le = refl
take_whole [] (suc i) le = refl
take_whole (x ∷ xs) zero le = absurd (omega arith)
take_whole (x ∷ xs) (suc i) le = ap (λ ys. x ∷ ys) (take_whole xs i (omega arith))

module _ (xs : List Item) (i : ℕ) (x : Item) (lt : i < length xs) (is : x ≡ slice_index_or xs i x) where
  more : {X : Type 0} (f : List Part → List X) → ((ps qs : List Part) → f (ps ++ qs) ≡ f ps ++ f qs)
      → (f (ast.parts (take (i + 1) xs)) ≡ f (ast.parts (take i xs)) ++ f (ast.part x ∷ []))
  more f h = ap f (parts_more xs i x lt is) ∙ h (ast.parts (take i xs)) (ast.part x ∷ [])

  proc_names_more : names_of (procs_of (ast.parts (take (i + 1) xs))) ≡ names_of
      (procs_of (ast.parts (take i xs))) ++ names_of (procs_of (ast.part x ∷ []))
  proc_names_more = more (λ ps. names_of (procs_of ps)) (grind (arith, procs_append, names_append))

  -- an array more
  module _ (name : Name) (n : ℕ) (at : Place) (isa : x ≡ items.Array name n at) where
    -- an array is one more name of arrays
    pub array_more : (table : NameNumbers) → IsTable 1 (arrays_of (ast.parts (take i xs)) ++ name ∷ []) table
        → IsTable 1 (arrays_of (ast.parts (take (i + 1) xs))) table
    array_more table h = subst (λ (ns : List Name). IsTable 1 ns table)
        (sym (more arrays_of arrays_append
        ∙ ap (λ (y : Item). arrays_of (ast.parts (take i xs)) ++ arrays_of (ast.part y ∷ [])) isa)) h

    -- and none of procedures
    pub array_no_proc : (table : NameNumbers) → IsTable 0 (names_of (procs_of (ast.parts (take i xs)))) table
        → IsTable 0 (names_of (procs_of (ast.parts (take (i + 1) xs)))) table
    array_no_proc table h = grind (arith, proc_names_more, append-nil)

    -- its name
    pub shape_name : (list now : List ArrayShape) (s : ArrayShape)
        → view.names list ≡ name_texts (arrays_of (ast.parts (take i xs))) → now ≡ list ++ s ∷ []
        → s.name ≡ name.text → view.names now ≡ name_texts (arrays_of (ast.parts (take (i + 1) xs)))
    shape_name list now s so en es =
        ap view.names en ∙ view_names_append list (s ∷ []) ∙ ap (λ (ts : List (List ℕ)). ts ++ s.name ∷ []) so
        ∙ ap (λ (t : List ℕ). name_texts (arrays_of (ast.parts (take i xs))) ++ t ∷ []) es
        ∙ sym (more (λ ps. name_texts (arrays_of ps)) (grind (arith, arrays_append, texts_append))
        ∙ ap (λ (y : Item). name_texts (arrays_of (ast.parts (take i xs))) ++ name_texts
        (arrays_of (ast.part y ∷ []))) isa)

    -- its length
    pub shape_length : (list now : List ArrayShape) (s : ArrayShape)
        → view.lengths list ≡ lengths_of (ast.parts (take i xs)) → now ≡ list ++ s ∷ [] → s.length ≡ n
        → view.lengths now ≡ lengths_of (ast.parts (take (i + 1) xs))
    shape_length list now s so en es =
        ap view.lengths en ∙ view_lengths_append list (s ∷ []) ∙ ap (λ (ts : List ℕ). ts ++ s.length ∷ []) so
        ∙ ap (λ (t : ℕ). lengths_of (ast.parts (take i xs)) ++ t ∷ []) es
        ∙ sym (more lengths_of lengths_append
        ∙ ap (λ (y : Item). lengths_of (ast.parts (take i xs)) ++ lengths_of (ast.part y ∷ [])) isa)

    -- it leaves the procedures as they are
    pub array_procs_same : (arrays names : List Name) → resolving.procs arrays names
        (procs_of (ast.parts (take (i + 1) xs))) ≡ resolving.procs arrays names
        (procs_of (ast.parts (take i xs)))
    array_procs_same arrays names =
        more (λ ps. resolving.procs arrays names (procs_of ps))
        (grind (arith, procs_append, resolving_append))
        ∙ ap (λ (y : Item). resolving.procs arrays names (procs_of (ast.parts (take i xs))) ++ resolving.procs
        arrays names (procs_of (ast.part y ∷ []))) isa
        ∙ append-nil (resolving.procs arrays names (procs_of (ast.parts (take i xs))))

  -- a procedure more
  module _ (p : Procedure) (isp : ast.part x ≡ Proc p) where
    -- a procedure is one more name of procedures
    pub proc_more : (table : NameNumbers)
        → IsTable 0 (names_of (procs_of (ast.parts (take i xs))) ++ p.name ∷ []) table
        → IsTable 0 (names_of (procs_of (ast.parts (take (i + 1) xs)))) table
    proc_more table h = grind (arith, proc_names_more)

    -- and none of arrays
    pub proc_no_array : (table : NameNumbers) → IsTable 1 (arrays_of (ast.parts (take i xs))) table
        → IsTable 1 (arrays_of (ast.parts (take (i + 1) xs))) table
    proc_no_array table h = subst (λ (ns : List Name). IsTable 1 ns table)
        (sym (more arrays_of arrays_append
        ∙ ap (λ (y : Part). arrays_of (ast.parts (take i xs)) ++ arrays_of (y ∷ [])) isp
        ∙ append-nil (arrays_of (ast.parts (take i xs))))) h

    -- it leaves the names of arrays
    pub proc_no_name : name_texts (arrays_of (ast.parts (take (i + 1) xs))) ≡ name_texts
        (arrays_of (ast.parts (take i xs)))
    proc_no_name =
        ap name_texts (more arrays_of arrays_append
        ∙ ap (λ (y : Part). arrays_of (ast.parts (take i xs)) ++ arrays_of (y ∷ [])) isp
        ∙ append-nil (arrays_of (ast.parts (take i xs))))

    -- and their lengths
    pub proc_no_length : lengths_of (ast.parts (take (i + 1) xs)) ≡ lengths_of (ast.parts (take i xs))
    proc_no_length = more lengths_of lengths_append
        ∙ ap (λ (y : Part). lengths_of (ast.parts (take i xs)) ++ lengths_of (y ∷ [])) isp
        ∙ append-nil (lengths_of (ast.parts (take i xs)))

    -- one procedure more
    pub procs_more : (arrays names : List Name) (list now : List CodeProc) (q : CodeProc)
        → view.procs list ≡ resolving.procs arrays names (procs_of (ast.parts (take i xs)))
        → now ≡ list ++ q ∷ []
        → view.proc q ≡ resolving.proc (record { names = p.params ++ p.vars; arrays = arrays; procs = names })
        p → view.procs now ≡ resolving.procs arrays names (procs_of (ast.parts (take (i + 1) xs)))
    procs_more arrays names list now q so en eq =
        ap view.procs en ∙ view_procs_append list (q ∷ [])
        ∙ ap (λ (ts : List resolved.Proc). ts ++ view.proc q ∷ []) so
        ∙ ap (λ (t : resolved.Proc). resolving.procs arrays names (procs_of (ast.parts (take i xs))) ++ t
        ∷ []) eq
        ∙ sym (more (λ ps. resolving.procs arrays names (procs_of ps))
        (grind (arith, procs_append, resolving_append))
        ∙ ap (λ (y : Part). resolving.procs arrays names (procs_of (ast.parts (take i xs)))
        ++ resolving.procs arrays names (procs_of (y ∷ []))) isp)

-- a procedure by its parts
pub same_proc : (params locals n m : ℕ) (body steps : resolved.Steps) (result term : Option plain.Term)
    → params ≡ n → locals ≡ m → body ≡ steps → result ≡ term
    → ◌≡◌ {A = resolved.Proc} (record { params = params; locals = locals; body = body; result = result })
    (record { params = n; locals = m; body = steps; result = term })
same_proc params locals n m body steps result term a b c d = cc

-- how many parameters there are
pub count_front : (xs : List Name) (n : ℕ) → n ≡ 0 + length xs → n ≡ length xs
count_front xs n e = omega (arith, e)

-- no more than variables in all
pub front_at_most : (xs ys : List Name) (n m : ℕ) → n ≡ 0 + length xs → m ≡ 0 + length (xs ++ ys) → n ≤ m
front_at_most xs ys n m e d = let l = length-append xs ys in omega (arith, e, d, l)

-- the rest are no parameters
pub count_back : (xs ys : List Name) (n m : ℕ) → n ≡ 0 + length xs → m ≡ 0 + length (xs ++ ys)
    → m - n ≡ length ys
count_back xs ys n m e d = let l = length-append xs ys in omega (arith, e, d, l)

abbrev procedure : Name → List Name → List Name → List Stmt → Option Last → Procedure
procedure name params vars body ending = record {
  name = name;
  params = params;
  vars = vars;
  body = ast.statements body;
  ending = ending;
}

-- a procedure, whatever names its parts go by
pub moved : (arrays procs : List Name) (name : Name) (ending : Option Last) (q : resolved.Proc)
    (a b c d : List Name) (s t : List Stmt) → a ≡ b → c ≡ d → s ≡ t
    → q ≡ resolving.proc (scope_of arrays procs (procedure name a c s ending)) (procedure name a c s ending)
    → q ≡ resolving.proc (scope_of arrays procs (procedure name b d t ending)) (procedure name b d t ending)
moved arrays procs name ending q a b c d s t ab cd st h = grind arith
