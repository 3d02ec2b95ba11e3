-- What makes a reader exact: it reads a phrase, or stops where a phrase has begun, and sees no more than the
-- next lexeme.
use Rattle.std.proofs.Common.{arith, sym, ◌∙◌, ap, subst, append_assoc}
use Rattle.std.specs.Prelude.{◌≡◌, List, [], ◌∷◌, ◌++◌, Option, Some, None, refl}
use Rattle.src_ast.specs.declared.lexeme.Lexeme.{Lexeme}
use Rattle.src_parse.specs.Reading.{Reading, Reader, Done, Stuck, ◌|>◌}

-- the first lexeme
abbrev pub head : List Lexeme → Option Lexeme
head [] = None
head (l ∷ ls) = Some l

-- a phrase was read: a front of the lexemes, which is read so before any lexemes that begin alike
pub record Good {A : Type 0} (L : List Lexeme → A → Type 0) (P : Reader A) (input : List Lexeme) (a : A)
    (rest : List Lexeme) : Type 0 where
  pub front : List Lexeme
  pub is : input ≡ front ++ rest
  pub spelled : L front a
  pub local : (c : List Lexeme) → head c ≡ head rest → P (front ++ c) ≡ Done a c

pub record Bad {A : Type 0} (L : List Lexeme → A → Type 0) (P : Reader A) (input : List Lexeme)
    (rest : List Lexeme) : Type 0 where
  pub front : List Lexeme
  pub is : input ≡ front ++ rest
  pub more : List Lexeme
  pub tree : A
  pub spelled : L (front ++ more) tree
  pub local : (c : List Lexeme) → head c ≡ head rest → P (front ++ c) ≡ Stuck c

-- what was read is a phrase, or a front that some phrase begins with
abbrev pub ExactAt : {A : Type 0} → (List Lexeme → A → Type 0) → Reader A → List Lexeme → Reading A → Type 0
ExactAt L P input (Done a rest) = Good L P input a rest
ExactAt L P input (Stuck rest) = Bad L P input rest

-- so it is for this input
abbrev pub Exact : {A : Type 0} → (List Lexeme → A → Type 0) → Reader A → List Lexeme → Type 0
Exact L P input = ExactAt L P input (P input)

-- lexemes with no first are none
pub head-nil : (c : List Lexeme) → head c ≡ None → c ≡ []
head-nil c e = grind arith

-- lexemes with a first begin with it
pub head-cons : (c : List Lexeme) (l : Lexeme) → head c ≡ Some l → (d : List Lexeme) × (c ≡ l ∷ d)
head-cons c l e = grind arith

-- the first of two lists is that of the first list, or else of the second
pub head-following : (vs c r : List Lexeme) → head c ≡ head r → head (vs ++ c) ≡ head (vs ++ r)
head-following [] c r e = e
head-following (v ∷ vs) c r e = refl

-- a reader that answers, or stops, without reading
pub exact_done_end : {A : Type 0} (L : List Lexeme → A → Type 0) (P : Reader A) (a : A) → P [] ≡ Done a []
    → L [] a → Exact L P []
exact_done_end L P a e h = grind (arith, head-nil)

-- stuck at the end
pub exact_stuck_end : {A : Type 0} (L : List Lexeme → A → Type 0) (P : Reader A) (more : List Lexeme) (a : A)
    → P [] ≡ Stuck [] → L more a → Exact L P []
exact_stuck_end L P more a e h =
    subst (ExactAt L P []) (sym e) (record {
      front = [];
      is = refl;
      more = more;
      tree = a;
      spelled = h;
      local = λ c s. subst (λ d. P d ≡ Stuck d) (sym (head-nil c s)) e;
    })

-- done before a lexeme
pub exact_done : {A : Type 0} (L : List Lexeme → A → Type 0) (P : Reader A) (a : A) (l : Lexeme)
    (ls : List Lexeme)
    → ((x : List Lexeme) → P (l ∷ x) ≡ Done a (l ∷ x)) → L [] a → Exact L P (l ∷ ls)
exact_done L P a l ls e h = grind (arith, head-cons)

-- stuck at a lexeme
pub exact_stuck : {A : Type 0} (L : List Lexeme → A → Type 0) (P : Reader A) (more : List Lexeme) (a : A)
    (l : Lexeme) (ls : List Lexeme)
    → ((x : List Lexeme) → P (l ∷ x) ≡ Stuck (l ∷ x)) → L more a → Exact L P (l ∷ ls)
exact_stuck L P more a l ls e h =
    subst (ExactAt L P (l ∷ ls)) (sym (e ls)) (record {
      front = [];
      is = refl;
      more = more;
      tree = a;
      spelled = h;
      local = grind (arith, head-cons);
    })

-- a reader that reads nothing and answers always
pub exact_always : {A : Type 0} (L : List Lexeme → A → Type 0) (P : Reader A) (a : A) (ls : List Lexeme)
    → ((x : List Lexeme) → P x ≡ Done a x) → L [] a → Exact L P ls
exact_always L P a ls e h = grind arith

-- a reader that stops always
pub exact_never : {A : Type 0} (L : List Lexeme → A → Type 0) (P : Reader A) (more : List Lexeme) (a : A)
    (ls : List Lexeme)
    → ((x : List Lexeme) → P x ≡ Stuck x) → L more a → Exact L P ls
exact_never L P more a ls e h =
    subst (ExactAt L P ls) (sym (e ls)) (record {
      front = [];
      is = refl;
      more = more;
      tree = a;
      spelled = h;
      local = λ c s. e c;
    })

-- one lexeme is read, and the rest goes by another reader
shift_at : {A : Type 0} (L M : List Lexeme → A → Type 0) (P Q : Reader A) (l : Lexeme) (ls : List Lexeme)
    → ((x : List Lexeme) → P (l ∷ x) ≡ Q x) → ((ws : List Lexeme) (a : A) → M ws a → L (l ∷ ws) a)
    → (x : Reading A) → ExactAt M Q ls x → ExactAt L P (l ∷ ls) x
shift_at L M P Q l ls e m (Done a rest) h = grind (arith, h.front, h.local)
shift_at L M P Q l ls e m (Stuck rest) h = record {
  front = l ∷ h.front;
  is = ap (λ r. l ∷ r) h.is;
  more = h.more;
  tree = h.tree;
  spelled = m (h.front ++ h.more) h.tree h.spelled;
  local = λ c s. e (h.front ++ c) ∙ h.local c s;
}

-- a reader that reads one lexeme more
pub exact_shift : {A : Type 0} (L M : List Lexeme → A → Type 0) (P Q : Reader A) (l : Lexeme)
    (ls : List Lexeme)
    → ((x : List Lexeme) → P (l ∷ x) ≡ Q x) → ((ws : List Lexeme) (a : A) → M ws a → L (l ∷ ws) a)
    → Exact M Q ls → Exact L P (l ∷ ls)
exact_shift L M P Q l ls e m h = grind (arith, shift_at)

-- one reader after another
bind_after : {A B : Type 0} (L : List Lexeme → A → Type 0) (M : List Lexeme → B → Type 0) (N : List Lexeme → B
    → Type 0)
    (P : Reader A) (Q : A → Reader B) (input : List Lexeme) (a : A) (rest : List Lexeme)
    → Good L P input a rest
    → ((us vs : List Lexeme) (b : B) → L us a → M vs b → N (us ++ vs) b)
    → (y : Reading B) → ExactAt M (Q a) rest y → ExactAt N (λ i. P i |> Q) input y
bind_after L M N P Q input a rest g join (Done b rest') h = record {
  front = g.front ++ h.front;
  is = grind (arith, append_assoc, g.front, h.front);
  spelled = join g.front h.front b g.spelled h.spelled;
  local = grind (arith, append_assoc, g.local, head-following, h.front, h.local);
}
bind_after L M N P Q input a rest g join (Stuck rest') h = record {
  front = g.front ++ h.front;
  is = grind (arith, append_assoc, g.front, h.front);
  more = h.more;
  tree = h.tree;
  spelled = rw append_assoc (join g.front (h.front ++ h.more) h.tree g.spelled h.spelled);
  local = grind (arith, append_assoc, g.local, head-following, h.front, h.local);
}

bind_at : {A B : Type 0} (L : List Lexeme → A → Type 0) (M : A → List Lexeme → B → Type 0)
    (N : List Lexeme → B → Type 0)
    (P : Reader A) (Q : A → Reader B) (input : List Lexeme)
    → ((us vs : List Lexeme) (a : A) (b : B) → L us a → M a vs b → N (us ++ vs) b)
    → ((us : List Lexeme) (a : A) → L us a → (vs : List Lexeme) × (b : B) × N (us ++ vs) b)
    → (x : Reading A) → P input ≡ x → ExactAt L P input x
    → ((a : A) (rest : List Lexeme) → P input ≡ Done a rest → Exact (M a) (Q a) rest)
    → ExactAt N (λ i. P i |> Q) input (x |> Q)
bind_at L M N P Q input join fill (Done a rest) e g q =
    bind_after L (M a) N P Q input a rest g (λ us vs b. join us vs a b) (Q a rest) (q a rest e)
bind_at L M N P Q input join fill (Stuck rest) e g q = grind (arith, append_assoc, g.front, g.more, g.local)

-- Where both are exact. A phrase of the first has something after it that makes a whole one.
pub exact_bind : {A B : Type 0} (L : List Lexeme → A → Type 0) (M : A → List Lexeme → B → Type 0)
    (N : List Lexeme → B → Type 0)
    (P : Reader A) (Q : A → Reader B) (input : List Lexeme)
    → ((us vs : List Lexeme) (a : A) (b : B) → L us a → M a vs b → N (us ++ vs) b)
    → ((us : List Lexeme) (a : A) → L us a → (vs : List Lexeme) × (b : B) × N (us ++ vs) b)
    → Exact L P input
    → ((a : A) (rest : List Lexeme) → P input ≡ Done a rest → Exact (M a) (Q a) rest)
    → Exact N (λ i. P i |> Q) input
exact_bind L M N P Q input join fill g q = bind_at L M N P Q input join fill (P input) refl g q
