-- The short branches that are found are those that the relation has.
use Rattle.std.proofs.Common.{ℕ, suc, ◌≡◌, ◌+◌, ◌<◌, ◌≤◌, ◌∙◌, ◌==◌, ◌&&◌, Bool, true, false, if◌then◌else◌}
use Rattle.std.proofs.Common.{List, [], Option, Some, None, refl, sym, ap, subst, arith}
use Rattle.std.proofs.lemmas.Bool.Decides.{nat_tests}
use Rattle.cfg_core.specs.Graph.{Term, Op, Exit, Goto, Graph, block_at}
use Rattle.phi_conv.specs.Short.{Short, all_light, all_nodes, most_nodes, goes_to, is_arm, goal, are_few}
use Rattle.phi_conv.specs.Short.{is_lone_arm, are_two_arms, two_arms, short_to}
use Rattle.phi_conv.specs.IsShort.{Way, direct, through, IsShort}
use Rattle.ws_words.proofs.Bools.{and_left as left_true, and_right as right_true, no_both}
use Rattle.ws_words.proofs.Numbers.{is_self}

goes : (x : Exit) (d : ℕ) → goes_to x d ≡ true → x ≡ Goto d
goes x d e = grind (arith, nat_tests)

by_arm : (g : Graph) (b j : ℕ) → is_arm (block_at g b) j ≡ true → Way g b j (block_at g b).ops
by_arm g b j e = grind (arith, goes, left_true, right_true)

few_are : (n : ℕ) → are_few n ≡ true → n ≤ most_nodes
few_are n e = let lt : n < suc most_nodes = grind (arith, nat_tests) in omega (arith, lt)

are_few_too : (n : ℕ) → n ≤ most_nodes → are_few n ≡ true
are_few_too n le = grind (arith, nat_tests)

-- each arm that goes on to j passes the test
arm_is : (g : Graph) (b j : ℕ) → (block_at g b).exit ≡ Goto j → all_light (block_at g b).ops ≡ true
    → is_arm (block_at g b) j ≡ true
arm_is g b j e light = grind (arith, is_self)

some_same : (a b : Short) → Some a ≡ Some b → a ≡ b
some_same a b e = cc

module _ (g : Graph) (t : Term) (c d : ℕ) (s : Short) where
  at_second : (j : ℕ) → are_two_arms (block_at g c) (block_at g d) j ≡ true → is_arm (block_at g d) j ≡ true
  at_second j h = grind (arith, left_true, right_true)

  at_few : (j : ℕ) → are_two_arms (block_at g c) (block_at g d) j ≡ true
      → all_nodes (block_at g c).ops + all_nodes (block_at g d).ops ≤ most_nodes
  at_few j h = few_are _ (grind (arith, right_true))

  two : (x : Option ℕ) → two_arms g t c d x ≡ Some s → IsShort g t c d s
  two x e = grind (arith, some_same, by_arm, left_true, at_second, at_few)

  -- a branch that is found is short
  pub ways : short_to g t c d ≡ Some s → IsShort g t c d s
  ways e = at_once (c == d) refl e
    where
      none : Short
      none = record { test = t; first = []; second = []; join = d }

      one : Short
      one = record { test = t; first = (block_at g c).ops; second = []; join = d }

      other : Short
      other = record { test = t; first = []; second = (block_at g d).ops; join = c }

      last : (b : Bool) → is_lone_arm (block_at g d) c ≡ b
          → (if b then Some other else two_arms g t c d (goal (block_at g c).exit)) ≡ Some s
          → IsShort g t c d s
      last true h e = subst (IsShort g t c d) (some_same other s e)
          (record {
            test = refl;
            first = direct refl refl;
            second = by_arm g d c
                (left_true (is_arm (block_at g d) c) (are_few (all_nodes (block_at g d).ops))
                h);
            few = let n = few_are (all_nodes (block_at g d).ops)
                (right_true (is_arm (block_at g d) c) _ h) in omega (arith, n);
          })
      last false h e = two (goal (block_at g c).exit) e

      next : (b : Bool) → is_lone_arm (block_at g c) d ≡ b
          → (if b then Some one else if is_lone_arm (block_at g d) c then Some other
          else two_arms g t c d (goal (block_at g c).exit)) ≡ Some s → IsShort g t c d s
      next b h e = grind (arith, some_same, by_arm, left_true, few_are, right_true, last)

      at_once : (b : Bool) → (c == d) ≡ b → (if b then Some none else if is_lone_arm (block_at g c) d
          then Some one else if is_lone_arm (block_at g d) c then Some other
          else two_arms g t c d (goal (block_at g c).exit)) ≡ Some s → IsShort g t c d s
      at_once b h e = grind (arith, nat_tests, some_same, next)

  -- a branch that the relation has is found
  pub found : IsShort g t c d s → (r : Short) × (short_to g t c d ≡ Some r)
  found i = at_once (c == d) refl
    where
      none : Short
      none = record { test = t; first = []; second = []; join = d }

      one : Short
      one = record { test = t; first = (block_at g c).ops; second = []; join = d }

      other : Short
      other = record { test = t; first = []; second = (block_at g d).ops; join = c }

      both : ℕ → Short
      both j = record { test = t; first = (block_at g c).ops; second = (block_at g d).ops; join = j }

      lone : (b j : ℕ) (ops : List Op) → ops ≡ (block_at g b).ops → (block_at g b).exit ≡ Goto j
          → all_light ops ≡ true → all_nodes ops ≤ most_nodes → is_lone_arm (block_at g b) j ≡ true
      lone b j ops same exit light few =
          ap (λ x. x && are_few (all_nodes (block_at g b).ops))
          (arm_is g b j exit (subst (λ (o : List Op). all_light o ≡ true) same light))
          ∙ are_few_too (all_nodes (block_at g b).ops) (subst (λ (o : List Op). all_nodes o ≤ most_nodes) same
          few)

      -- neither way is direct
      last : (c ≡ d → ⊥) → is_lone_arm (block_at g c) d ≡ false → is_lone_arm (block_at g d) c ≡ false
          → Way g c s.join s.first → Way g d s.join s.second → (r : Short)
          × (two_arms g t c d (goal (block_at g c).exit) ≡ Some r)
      last ne no_first no_second (direct e empty) (direct f blank) = absurd (ne (e ∙ sym f))
      last ne no_first no_second (direct e empty) (through same exit light) =
          absurd (no_both (lone d c s.second same (subst (λ n. (block_at g d).exit ≡ Goto n) (sym e) exit)
          light (let n = i.few in omega (arith, n))) no_second)
      last ne no_first no_second (through same exit light) (direct f blank) =
          absurd (no_both (lone c d s.first same (subst (λ n. (block_at g c).exit ≡ Goto n) (sym f) exit)
          light (let n = i.few in omega (arith, n))) no_first)
      last ne no_first no_second (through same exit light) (through alike leave bright) = (
        both s.join,
        ap (λ (x : Exit). two_arms g t c d (goal x)) exit ∙ ap (λ (x : Bool). if x then Some (both s.join)
            else None) (
            ap (λ x. x
            && (is_arm (block_at g d) s.join && are_few
            (all_nodes (block_at g c).ops + all_nodes (block_at g d).ops)))
            (arm_is g c s.join exit (subst (λ (o : List Op). all_light o ≡ true) same light))
            ∙ ap (λ x. x && are_few (all_nodes (block_at g c).ops + all_nodes (block_at g d).ops))
            (arm_is g d s.join leave (subst (λ (o : List Op). all_light o ≡ true) alike bright))
            ∙ are_few_too _ (subst (λ (o : List Op). all_nodes o + all_nodes (block_at g d).ops ≤ most_nodes)
            same (subst (λ (o : List Op). all_nodes s.first + all_nodes o ≤ most_nodes) alike i.few))
            ),
      )

      at_second : (b : Bool) → (c ≡ d → ⊥) → is_lone_arm (block_at g c) d ≡ false
          → is_lone_arm (block_at g d) c ≡ b
          → (r : Short) × ((if b then Some other else two_arms g t c d (goal (block_at g c).exit)) ≡ Some r)
      at_second true ne no_first e = (other, refl)
      at_second false ne no_first e = last ne no_first e i.first i.second

      at_first : (b : Bool) → (c ≡ d → ⊥) → is_lone_arm (block_at g c) d ≡ b
          → (r : Short)
          × ((if b then Some one else if is_lone_arm (block_at g d) c then Some other
          else two_arms g t c d (goal (block_at g c).exit)) ≡ Some r)
      at_first true ne e = (one, refl)
      at_first false ne e = at_second (is_lone_arm (block_at g d) c) ne e refl

      at_once : (b : Bool) → (c == d) ≡ b
          → (r : Short)
          × ((if b then Some none else if is_lone_arm (block_at g c) d then Some one
          else if is_lone_arm (block_at g d) c then Some other else two_arms g t c d
          (goal (block_at g c).exit)) ≡ Some r)
      at_once true e = (none, refl)
      at_once false e = at_first (is_lone_arm (block_at g c) d) (λ q. grind (arith, nat_tests)) refl
