-- The lexemes of printed statements and programs have a tree, which is the same program.
use Rattle.std.proofs.Common.{arith, ◌≡◌, ℕ, suc, List, ◌∷◌, ◌++◌, Option, Some, None, codes, decimal, refl}
use Rattle.std.proofs.Common.{sym, ap, ◌∙◌, append_assoc, append-nil, []}
use Rattle.src_ast.specs.declared.lexeme.Name.{Name}
use Rattle.src_ast.specs.declared.lexeme.Place.{Place}
use Rattle.src_ast.specs.declared.lexeme.Lexeme.{Lexeme}
use Rattle.src_ast.specs.declared.lexeme.Shape.TheVariants.{Word, Mark}
use Rattle.src_ast.specs.declared.lexeme.Shape.TheVariants as shape
use Rattle.src_ast.specs.declared.lexeme.Mark.TheVariants as mark
use Rattle.src_ast.specs.declared.lexeme.Mark.TheVariants.{LParen, RParen, LBrace, RBrace, LSquare, RSquare}
use Rattle.src_ast.specs.declared.lexeme.Mark.TheVariants.{Comma, Semi}
use Rattle.src_ast.specs.Lexemes.{after, start}
use Rattle.src_ast.specs.Grammar.{Is, SpelledStatement, SpelledStatements, SpelledElse, assign, store, print}
use Rattle.src_ast.specs.Grammar.{read, give, take, call, called, choice, while, block, no_else, with_else}
use Rattle.src_ast.specs.Grammar.{nothing, first_then, SpelledEnding, no_ending, ending, SpelledVars, no_vars}
use Rattle.src_ast.specs.Grammar.{vars, SpelledItem, array, proc, Tree, no_items, items}
use Rattle.src_ast.specs.Syntax.{Expression, Statement, Assign, Store, Print, Read, Give, Take, Call, If}
use Rattle.src_ast.specs.Syntax.{While, Statements, Nothing, Then, Last, Procedure, Part, Array, Proc}
use Rattle.src_ast.specs.Same.{bare, bare_names, bare_statement, bare_statements, bare_ending, bare_part}
use Rattle.src_ast.specs.Same.{bare_parts}
use Rattle.src_ast.specs.Printed.{indent}
use Rattle.src_ast.specs.Written.{IsWrittenName, AreWrittenNames, IsWrittenExpression, AreWrittenExpressions}
use Rattle.src_ast.specs.Written.{IsWrittenStatement, AreWrittenStatements, IsWrittenEnding}
use Rattle.src_ast.proofs.Nearly.{IsNearlyProcedure, IsNearlyPart, AreNearlyWritten}
use Rattle.src_ast.proofs.Pieces.{Piece, gap, lexeme, placed}
use Rattle.src_ast.proofs.Printing as p
use Rattle.src_ast.proofs.Printing.{space, newline, finish}
use Rattle.src_ast.proofs.Regrown.{Reads, here, named, past_mark, past_space, past_line, good_name}
use Rattle.src_ast.proofs.Regrown.{loosest_reads, arguments_read, names_read, some_names_read}

abbrev ReadsStatement : Statement → Place → List Piece → List Piece → Type 0
ReadsStatement s = Reads SpelledStatement (λ again. bare_statement s ≡ bare_statement again)

abbrev ReadsBody : Statements → Place → List Piece → List Piece → Type 0
ReadsBody b = Reads SpelledStatements (λ again. bare_statements b ≡ bare_statements again)

assign_reads : (n : ℕ) (s : Place) (x : Name) (e : Expression) → IsWrittenName x.text → IsWrittenExpression e
    → (at : Place) (qs : List Piece)
    → ReadsStatement (Assign s x e) at (p.statement n (Assign s x e) qs) qs
assign_reads n s x e g h at qs =
    let l = here (after at (indent n)) (Word x.text) in
    let equals = here (past_space (after l.place x.text)) (Mark mark.Assign) in
    let r = loosest_reads e h (past_space (past_mark equals.place mark.Assign)) (finish qs) in
    let semi = here r.following (Mark Semi) in
    record {
      ls = l ∷ equals ∷ (r.ls ++ semi ∷ []);
      following = past_line (past_mark r.following Semi);
      is = ap (λ t. l ∷ equals ∷ t) r.is ∙ simp append_assoc;
      again = Assign l.place (named x l.place) r.again;
      spelled = assign l equals semi r.ls (named x l.place) r.again refl (good_name x l.place g) refl
          r.spelled refl;
      same = ap (λ e. Assign start (bare x) e) r.same;
    }

store_reads : (n : ℕ) (s : Place) (a : Name) (i e : Expression) → IsWrittenName a.text → IsWrittenExpression i
    → IsWrittenExpression e → (at : Place) (qs : List Piece)
    → ReadsStatement (Store s a i e) at (p.statement n (Store s a i e) qs) qs
store_reads n s a i e g gi ge at qs =
    let l = here (after at (indent n)) (Word a.text) in
    let first = here (after l.place a.text) (Mark LSquare) in
    let r = loosest_reads i gi (past_mark first.place LSquare)
    (lexeme (Mark RSquare) ∷ gap space ∷ lexeme (Mark mark.Assign) ∷ gap space ∷ p.expression e
    (finish qs)) in
    let last = here r.following (Mark RSquare) in
    let equals = here (past_space (past_mark last.place RSquare)) (Mark mark.Assign) in
    let t = loosest_reads e ge (past_space (past_mark equals.place mark.Assign)) (finish qs) in
    let semi = here t.following (Mark Semi) in
    record {
      ls = l ∷ first ∷ (r.ls ++ last ∷ equals ∷ (t.ls ++ semi ∷ []));
      following = past_line (past_mark t.following Semi);
      is = ap (λ x. l ∷ first ∷ x) (r.is ∙ ap (λ x. r.ls ++ last ∷ equals ∷ x) t.is) ∙ simp append_assoc;
      again = Store l.place (named a l.place) r.again t.again;
      spelled = store l first last equals semi r.ls t.ls (named a l.place) r.again t.again refl
          (good_name a l.place g) refl r.spelled refl refl t.spelled refl;
      same = grind arith;
    }

print_reads : (n : ℕ) (s : Place) (e : Expression) → IsWrittenExpression e → (at : Place) (qs : List Piece)
    → ReadsStatement (Print s e) at (p.statement n (Print s e) qs) qs
print_reads n s e h at qs =
    let l = here (after at (indent n)) (Word (codes "print")) in
    let r = loosest_reads e h (past_space (after l.place (codes "print"))) (finish qs) in
    let semi = here r.following (Mark Semi) in
    record {
      ls = l ∷ (r.ls ++ semi ∷ []);
      following = past_line (past_mark r.following Semi);
      is = ap (λ t. l ∷ t) r.is ∙ simp append_assoc;
      again = Print l.place r.again;
      spelled = print l semi r.ls r.again refl refl r.spelled refl;
      same = ap (λ e. Print start e) r.same;
    }

read_reads : (n : ℕ) (s : Place) (x : Name) → IsWrittenName x.text → (at : Place) (qs : List Piece)
    → ReadsStatement (Read s x) at (p.statement n (Read s x) qs) qs
read_reads n s x g at qs =
    let l = here (after at (indent n)) (Word (codes "read")) in
    let m = here (past_space (after l.place (codes "read"))) (Word x.text) in
    let semi = here (after m.place x.text) (Mark Semi) in
    record {
      ls = l ∷ m ∷ semi ∷ [];
      following = past_line (past_mark semi.place Semi);
      is = refl;
      again = Read l.place (named x m.place);
      spelled = read l m semi (named x m.place) refl refl (good_name x m.place g) refl;
      same = refl;
    }

give_reads : (n : ℕ) (s : Place) (port : ℕ) (ps : Place) (x : Name) → IsWrittenName x.text
    → (at : Place) (qs : List Piece)
    → ReadsStatement (Give s port ps x) at (p.statement n (Give s port ps x) qs) qs
give_reads n s port ps x g at qs =
    let l = here (after at (indent n)) (Word (codes "give")) in
    let v = here (past_space (after l.place (codes "give"))) (shape.Number port) in
    let comma = here (after v.place (decimal port)) (Mark Comma) in
    let m = here (past_space (past_mark comma.place Comma)) (Word x.text) in
    let semi = here (after m.place x.text) (Mark Semi) in
    record {
      ls = l ∷ v ∷ comma ∷ m ∷ semi ∷ [];
      following = past_line (past_mark semi.place Semi);
      is = refl;
      again = Give l.place port v.place (named x m.place);
      spelled = give l v comma m semi port (named x m.place) refl refl refl refl (good_name x m.place g) refl;
      same = refl;
    }

take_reads : (n : ℕ) (s : Place) (port : ℕ) (ps : Place) (e : Expression) → IsWrittenExpression e
    → (at : Place) (qs : List Piece)
    → ReadsStatement (Take s port ps e) at (p.statement n (Take s port ps e) qs) qs
take_reads n s port ps e h at qs =
    let l = here (after at (indent n)) (Word (codes "take")) in
    let v = here (past_space (after l.place (codes "take"))) (shape.Number port) in
    let comma = here (after v.place (decimal port)) (Mark Comma) in
    let r = loosest_reads e h (past_space (past_mark comma.place Comma)) (finish qs) in
    let semi = here r.following (Mark Semi) in
    record {
      ls = l ∷ v ∷ comma ∷ (r.ls ++ semi ∷ []);
      following = past_line (past_mark r.following Semi);
      is = ap (λ t. l ∷ v ∷ comma ∷ t) r.is ∙ simp append_assoc;
      again = Take l.place port v.place r.again;
      spelled = take l v comma semi r.ls port r.again refl refl refl refl r.spelled refl;
      same = ap (λ e. Take start port start e) r.same;
    }

call_reads : (n : ℕ) (s : Place) (f : Name) (es : List Expression) → IsWrittenName f.text
    → AreWrittenExpressions es → (at : Place) (qs : List Piece)
    → ReadsStatement (Call s None f es) at (p.statement n (Call s None f es) qs) qs
call_reads n s f es g h at qs =
    let m = here (after at (indent n)) (Word f.text) in
    let first = here (after m.place f.text) (Mark LParen) in
    let r = arguments_read es h (past_mark first.place LParen) (lexeme (Mark RParen) ∷ finish qs) in
    let last = here r.following (Mark RParen) in
    let semi = here (past_mark last.place RParen) (Mark Semi) in
    record {
      ls = m ∷ first ∷ (r.ls ++ last ∷ semi ∷ []);
      following = past_line (past_mark semi.place Semi);
      is = ap (λ t. m ∷ first ∷ t) r.is ∙ simp append_assoc;
      again = Call m.place None (named f m.place) r.again;
      spelled = call m first last semi r.ls (named f m.place) r.again refl (good_name f m.place g) refl
          r.spelled refl refl;
      same = ap (λ es. Call start None (bare f) es) r.same;
    }

called_reads : (n : ℕ) (s : Place) (x f : Name) (es : List Expression) → IsWrittenName x.text
    → IsWrittenName f.text → AreWrittenExpressions es → (at : Place) (qs : List Piece)
    → ReadsStatement (Call s (Some x) f es) at (p.statement n (Call s (Some x) f es) qs) qs
called_reads n s x f es gx g h at qs =
    let l = here (after at (indent n)) (Word x.text) in
    let equals = here (past_space (after l.place x.text)) (Mark mark.Assign) in
    let m = here (past_space (past_mark equals.place mark.Assign)) (Word f.text) in
    let first = here (after m.place f.text) (Mark LParen) in
    let r = arguments_read es h (past_mark first.place LParen) (lexeme (Mark RParen) ∷ finish qs) in
    let last = here r.following (Mark RParen) in
    let semi = here (past_mark last.place RParen) (Mark Semi) in
    record {
      ls = l ∷ equals ∷ m ∷ first ∷ (r.ls ++ last ∷ semi ∷ []);
      following = past_line (past_mark semi.place Semi);
      is = ap (λ t. l ∷ equals ∷ m ∷ first ∷ t) r.is ∙ simp append_assoc;
      again = Call l.place (Some (named x l.place)) (named f m.place) r.again;
      spelled = called l equals m first last semi r.ls (named x l.place) (named f m.place) r.again refl
          (good_name x l.place gx) refl (good_name f m.place g) refl r.spelled refl refl;
      same = ap (λ es. Call start (Some (bare x)) (bare f) es) r.same;
    }

-- the brace that closes the first arm, and the second arm
record EndsArms (ls : List Lexeme) (b : Statements) : Type 0 where
  close : Lexeme
  ys : List Lexeme
  all : ls ≡ close ∷ ys
  brace : Is RBrace close
  arm : SpelledElse ys b

second_arm_reads : (n : ℕ) (b : Statements) (f : List Piece → List Piece)
    → ((at : Place) (qs : List Piece) → ReadsBody b at (f qs) qs)
    → (at : Place) (qs : List Piece) → Reads EndsArms (λ again. bare_statements b ≡ bare_statements again) at
    (p.second_arm n b f qs) qs
second_arm_reads n Nothing f h at qs =
    let close = here (after at (indent n)) (Mark RBrace) in
    record {
      ls = close ∷ [];
      following = past_line (past_mark close.place RBrace);
      is = refl;
      again = Nothing;
      spelled = record { close = close; ys = []; all = refl; brace = refl; arm = no_else };
      same = refl;
    }
second_arm_reads n (Then s rest) f h at qs =
    let close = here (after at (indent n)) (Mark RBrace) in
    let word = here (past_space (past_mark close.place RBrace)) (Word (codes "else")) in
    let first = here (past_space (after word.place (codes "else"))) (Mark LBrace) in
    let r = h (past_line (past_mark first.place LBrace)) (p.closing n qs) in
    let last = here (after r.following (indent n)) (Mark RBrace) in
    record {
      ls = close ∷ word ∷ first ∷ (r.ls ++ last ∷ []);
      following = past_line (past_mark last.place RBrace);
      is = ap (λ t. close ∷ word ∷ first ∷ t) r.is ∙ simp append_assoc;
      again = r.again;
      spelled = record {
        close = close;
        ys = word ∷ first ∷ (r.ls ++ last ∷ []);
        all = refl;
        brace = refl;
        arm = with_else word (first ∷ (r.ls ++ last ∷ [])) r.again refl
            (block first last r.ls r.again refl refl r.spelled refl);
      };
      same = r.same;
    }

mutual
  pub statement_reads : (n braces : ℕ) (s : Statement) → IsWrittenStatement braces s
      → (at : Place) (qs : List Piece) → ReadsStatement s at (p.statement n s qs) qs
  statement_reads n braces (Assign s x e) h at qs = assign_reads n s x e h.0 h.1 at qs
  statement_reads n braces (Store s a i e) h at qs = store_reads n s a i e h.0 h.1 h.2 at qs
  statement_reads n braces (Print s e) h at qs = print_reads n s e h.0 at qs
  statement_reads n braces (Read s x) h at qs = read_reads n s x h at qs
  statement_reads n braces (Give s port ps x) h at qs = give_reads n s port ps x h.1 at qs
  statement_reads n braces (Take s port ps e) h at qs = take_reads n s port ps e h.1 at qs
  statement_reads n braces (Call s None f es) h at qs = call_reads n s f es h.0 h.1 at qs
  statement_reads n braces (Call s (Some x) f es) h at qs = called_reads n s x f es h.0 h.1 h.2 at qs
  statement_reads n braces (If s e a b) h at qs =
      let l = here (after at (indent n)) (Word (codes "if")) in
      let first = here (past_space (after l.place (codes "if"))) (Mark LParen) in
      let inner = p.body (suc n) a (p.second_arm n b (p.body (suc n) b) qs) in
      let r = loosest_reads e h.0 (past_mark first.place LParen)
      (lexeme (Mark RParen) ∷ gap space ∷ lexeme (Mark LBrace) ∷ gap newline ∷ inner) in
      let last = here r.following (Mark RParen) in
      let open' = here (past_space (past_mark last.place RParen)) (Mark LBrace) in
      let x = body_reads (suc n) (suc braces) a h.3 (past_line (past_mark open'.place LBrace))
      (p.second_arm n b (p.body (suc n) b) qs) in
      let y = second_arm_reads n b (p.body (suc n) b) (body_reads (suc n) (suc braces) b h.4) x.following
      qs in
      let ends = y.spelled in
      record {
        ls = l ∷ first ∷ (r.ls ++ last ∷ ((open' ∷ (x.ls ++ ends.close ∷ [])) ++ ends.ys));
        following = y.following;
        is = grind (arith, placed, append_assoc);
        again = If l.place r.again x.again y.again;
        spelled = choice l first last r.ls (open' ∷ (x.ls ++ ends.close ∷ [])) ends.ys r.again x.again y.again
            refl refl refl r.spelled refl
            (block open' ends.close x.ls x.again refl refl x.spelled ends.brace) ends.arm;
        same = grind arith;
      }
  statement_reads n braces (While s e a) h at qs =
      let l = here (after at (indent n)) (Word (codes "while")) in
      let first = here (past_space (after l.place (codes "while"))) (Mark LParen) in
      let inner = p.body (suc n) a (p.closing n qs) in
      let r = loosest_reads e h.0 (past_mark first.place LParen)
      (lexeme (Mark RParen) ∷ gap space ∷ lexeme (Mark LBrace) ∷ gap newline ∷ inner) in
      let last = here r.following (Mark RParen) in
      let open' = here (past_space (past_mark last.place RParen)) (Mark LBrace) in
      let x = body_reads (suc n) (suc braces) a h.3 (past_line (past_mark open'.place LBrace))
      (p.closing n qs) in
      let close = here (after x.following (indent n)) (Mark RBrace) in
      record {
        ls = l ∷ first ∷ (r.ls ++ last ∷ (open' ∷ (x.ls ++ close ∷ [])));
        following = past_line (past_mark close.place RBrace);
        is = ap (λ t. l ∷ first ∷ t) (r.is ∙ ap (λ t. r.ls ++ last ∷ open' ∷ t) x.is) ∙ simp append_assoc;
        again = While l.place r.again x.again;
        spelled = while l first last r.ls (open' ∷ (x.ls ++ close ∷ [])) r.again x.again refl refl refl
            r.spelled refl
            (block open' close x.ls x.again refl refl x.spelled refl);
        same = grind arith;
      }

  pub body_reads : (n braces : ℕ) (b : Statements) → AreWrittenStatements braces b
      → (at : Place) (qs : List Piece) → ReadsBody b at (p.body n b qs) qs
  body_reads n braces Nothing h at qs = record {
    ls = [];
    following = at;
    is = refl;
    again = Nothing;
    spelled = nothing;
    same = refl;
  }
  body_reads n braces (Then s rest) h at qs =
      let r = statement_reads n braces s h.0 at (p.body n rest qs) in
      let t = body_reads n braces rest h.1 r.following qs in
      record {
        ls = r.ls ++ t.ls;
        following = t.following;
        is = r.is ∙ ap (λ x. r.ls ++ x) t.is ∙ simp append_assoc;
        again = Then r.again t.again;
        spelled = first_then r.ls t.ls r.again t.again refl r.spelled t.spelled;
        same = grind arith;
      }

variables_read : (xs : List Name) → AreWrittenNames xs → (at : Place) (qs : List Piece)
    → Reads SpelledVars (λ again. bare_names xs ≡ bare_names again) at (p.variables xs qs) qs
variables_read [] h at qs = record {
  ls = [];
  following = at;
  is = refl;
  again = [];
  spelled = no_vars;
  same = refl;
}
variables_read (x ∷ xs) h at qs =
    let l = here (after at (indent 1)) (Word (codes "var")) in
    let r = some_names_read x xs h.0 h.1 (past_space (after l.place (codes "var"))) (finish qs) in
    let semi = here r.following (Mark Semi) in
    record {
      ls = l ∷ (r.ls ++ semi ∷ []);
      following = past_line (past_mark semi.place Semi);
      is = ap (λ t. l ∷ t) r.is ∙ simp append_assoc;
      again = r.again;
      spelled = vars l semi r.ls [] r.again [] refl (sym (append-nil r.again)) refl r.spelled refl no_vars;
      same = r.same;
    }

ending_reads : (e : Option Last) → IsWrittenEnding e → (at : Place) (qs : List Piece)
    → Reads SpelledEnding (λ again. bare_ending e ≡ bare_ending again) at (p.ending e qs) qs
ending_reads None h at qs = record {
  ls = [];
  following = at;
  is = refl;
  again = None;
  spelled = no_ending;
  same = refl;
}
ending_reads (Some last) h at qs =
    let l = here (after at (indent 1)) (Word (codes "return")) in
    let r = loosest_reads last.value h.0 (past_space (after l.place (codes "return"))) (finish qs) in
    let semi = here r.following (Mark Semi) in
    record {
      ls = l ∷ (r.ls ++ semi ∷ []);
      following = past_line (past_mark semi.place Semi);
      is = ap (λ t. l ∷ t) r.is ∙ simp append_assoc;
      again = Some (record { place = l.place; value = r.again });
      spelled = ending l semi r.ls r.again refl refl r.spelled refl;
      same = ap (λ e. Some (record { place = start; value = e })) r.same;
    }

abbrev ReadsPart : Part → Place → List Piece → List Piece → Type 0
ReadsPart a = Reads SpelledItem (λ again. bare_part a ≡ bare_part again)

array_reads : (x : Name) (n : ℕ) (s : Place) → IsWrittenName x.text → (at : Place) (qs : List Piece)
    → ReadsPart (Array x n s) at (p.part (Array x n s) qs) qs
array_reads x n s g at qs =
    let l = here at (Word (codes "array")) in
    let m = here (past_space (after at (codes "array"))) (Word x.text) in
    let first = here (after m.place x.text) (Mark LSquare) in
    let size = here (past_mark first.place LSquare) (shape.Number n) in
    let last = here (after size.place (decimal n)) (Mark RSquare) in
    let semi = here (past_mark last.place RSquare) (Mark Semi) in
    record {
      ls = l ∷ m ∷ first ∷ size ∷ last ∷ semi ∷ [];
      following = past_line (past_mark semi.place Semi);
      is = refl;
      again = Array (named x m.place) n size.place;
      spelled = array l m first size last semi (named x m.place) n refl refl (good_name x m.place g) refl refl
          refl refl;
      same = refl;
    }

same_procedure : (x : Name) (ps ps' vs vs' : List Name) (b b' : Statements) (e e' : Option Last) → ps ≡ ps'
    → vs ≡ vs' → b ≡ b' → e ≡ e'
    → Proc (record { name = x; params = ps; vars = vs; body = b; ending = e })
    ≡ Proc (record { name = x; params = ps'; vars = vs'; body = b'; ending = e' })
same_procedure x ps ps' vs vs' b b' e e' i j k l = cc

procedure_reads : (a : Procedure) → IsNearlyProcedure a → (at : Place) (qs : List Piece)
    → ReadsPart (Proc a) at (p.part (Proc a) qs) qs
procedure_reads a h at qs =
    let f = a.name in
    let l = here at (Word (codes "proc")) in
    let m = here (past_space (after at (codes "proc"))) (Word f.text) in
    let first = here (after m.place f.text) (Mark LParen) in
    let endings = p.ending a.ending (p.closing 0 qs) in
    let bodies = p.body 1 a.body endings in
    let variables = p.variables a.vars bodies in
    let ps = names_read a.params h.params (past_mark first.place LParen)
    (lexeme (Mark RParen) ∷ gap space ∷ lexeme (Mark LBrace) ∷ gap newline ∷ variables) in
    let last = here ps.following (Mark RParen) in
    let open' = here (past_space (past_mark last.place RParen)) (Mark LBrace) in
    let vs = variables_read a.vars h.vars (past_line (past_mark open'.place LBrace)) bodies in
    let bs = body_reads 1 1 a.body h.body vs.following endings in
    let es = ending_reads a.ending h.ending bs.following (p.closing 0 qs) in
    let close = here es.following (Mark RBrace) in
    record {
      ls = l ∷ m ∷ first ∷ (ps.ls ++ last ∷ open' ∷ (vs.ls ++ (bs.ls ++ (es.ls ++ close ∷ []))));
      following = past_line (past_mark close.place RBrace);
      is = grind (arith, append_assoc);
      again = Proc (record {
        name = named f m.place;
        params = ps.again;
        vars = vs.again;
        body = bs.again;
        ending = es.again;
      });
      spelled = proc l m first last open' close ps.ls vs.ls bs.ls es.ls (named f m.place) ps.again vs.again
          bs.again es.again refl
          refl (good_name f m.place h.name) refl ps.spelled refl refl vs.spelled bs.spelled es.spelled refl;
      same = same_procedure (bare f) _ _ _ _ _ _ _ _ ps.same vs.same bs.same es.same;
    }

-- the pieces of an array or a procedure spell the same
pub part_reads : (a : Part) → IsNearlyPart a → (at : Place) (qs : List Piece)
    → ReadsPart a at (p.part a qs) qs
part_reads v0 v1 v2 v3 = grind (arith, array_reads, procedure_reads)

-- the pieces of a program spell the same program
pub parts_read : (all : List Part) → AreNearlyWritten all → (at : Place)
    → (again : List Part) × Tree (placed at (p.parts all)) again × (bare_parts all ≡ bare_parts again)
parts_read [] h at = ([], no_items, refl)
parts_read (a ∷ all) h at =
    let r = part_reads a h.0 at (p.parts all) in
    let t = parts_read all h.1 r.following in (
      r.again ∷ t.0,
      items r.ls (placed r.following (p.parts all)) r.again t.0 r.is r.spelled t.1,
      ap (λ x. x ∷ bare_parts all) r.same ∙ ap (λ xs. bare_part r.again ∷ xs) t.2,
    )
