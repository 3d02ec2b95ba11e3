-- The first blocks of waves that are come to.
use Rattle.std.proofs.Common.{ℕ, suc, ◌≡◌, ◌<◌, Bool, true, false, List, [], ◌∷◌, ◌++◌, length, get_or, set}
use Rattle.std.proofs.Common.{sym, ap, ◌∙◌, inl, inr, arith, length-append, length-set}
use Rattle.std.proofs.lemmas.Bool.{cases_eq}
use Rattle.std.proofs.lemmas.List.{get_or-set_other, get_or-set_same}
use Rattle.annot_check.specs.declared.worklist.Waves.{Waves}
use Rattle.annot_check.specs.Table.{MoreCome, unmarked}
use Rattle.annot_check.proofs.Slotted.Entries.{has_left, has_last, has_either}
use Rattle.ws_words.specs.Items.{flag_at}

pub read_false : (marks : List Bool) (n : ℕ) (v : Bool) → n < length marks → v ≡ get_or marks n v → v ≡ false
    → flag_at marks n ≡ false
read_false (x ∷ marks) (suc n) v l e f = read_false marks n v (omega arith) e f
read_false marks n v l e f = grind arith

marked : (marks : List Bool) (n : ℕ) → n < length marks → flag_at marks n ≡ false →
    unmarked marks ≡ suc (unmarked (set marks n true))
marked (false ∷ marks) (suc n) l h = ap suc (marked marks n (omega arith) h)
marked (true ∷ marks) (suc n) l h = marked marks n (omega arith) h
marked marks n l h = grind arith

-- one more is come to
pub come_more : (old new : Waves) (n : ℕ) → n < length old.come.items → flag_at old.come.items n ≡ false →
    new.come.items ≡ set old.come.items n true → new.todo.items ≡ old.todo.items ++ n ∷ [] → MoreCome old new
come_more old new n l f e t = record {
  size = ap length e ∙ length-set old.come.items n true;
  keeps = grind (arith, cases_eq, get_or-set_other);
  is_new = grind (arith, cases_eq, has_last, get_or-set_other);
  todo = grind (arith, has_left);
  todo_come = λ b h. elim (has_either old.todo.items n b (rw t at h)) [
    | inl g ↦ inl g
    | inr g ↦ inr (ap (flag_at new.come.items) (sym g) ∙ there)
  ];
  less = grind (arith, marked, length-append);
}
  where
    there : flag_at new.come.items n ≡ true
    there = ap (λ (x : List Bool). flag_at x n) e ∙ get_or-set_same old.come.items n true false l

pub come_twice : (a b c : Waves) → MoreCome a b → MoreCome b c → MoreCome a c
come_twice a b c f g = grind arith
