-- Blocks that are found, one after another.
use Rattle.std.proofs.Common.{ℕ, suc, ◌-◌, ◌≡◌, ◌<◌, ◌⊎◌, Bool, true, false, List, [], ◌∷◌, ◌++◌, length, set}
use Rattle.std.proofs.Common.{replicate, refl, sym, ◌∙◌, subst, inl, inr, Option, arith}
use Rattle.std.proofs.lemmas.Bool.{cases_eq}
use Rattle.std.proofs.lemmas.List.{get_or-set_same, get_or-set_other, length-set, length_push}
use Rattle.cfg_core.specs.Graph.{Graph, Branch, Call, spots, block_at, entry_of, no_spot}
use Rattle.cfg_core.specs.Rules.{IsGraph}
use Rattle.call_gen.specs.Keeps.{HasNoSend}
use Rattle.call_gen.specs.Reached.{Reached, start, follow, enter}
use Rattle.call_gen.specs.Part.{AreReached, unset, FlagsMore, LeadsOrEnters, Finding}
use Rattle.call_gen.proofs.Parted.PartReached.{reached_there}
use Rattle.ws_words.specs.Items.{In, flag_at}
use Rattle.ws_words.proofs.Places.{in_left}

in_last : (b : ℕ) (xs : List ℕ) → In b (xs ++ b ∷ [])
in_last b [] = inl refl
in_last b (x ∷ xs) = inr (in_last b xs)

in_split : (b c : ℕ) (xs : List ℕ) → In b (xs ++ c ∷ []) → In b xs ⊎ (b ≡ c)
in_split b c [] (inl e) = inr e
in_split b c [] (inr i) = absurd i
in_split b c (x ∷ xs) (inl e) = inl (inl e)
in_split b c (x ∷ xs) (inr i) = elim (in_split b c xs i) [ inl j ↦ inl (inr j) | inr e ↦ inr e ]

one_less : (flags : List Bool) (b : ℕ) → b < length flags → flag_at flags b ≡ false
    → unset flags ≡ suc (unset (set flags b true))
one_less (v ∷ flags) (suc b) lt e = omega (arith, one_less flags b (omega arith) e)
one_less flags b lt e = grind arith

-- a new block is flagged and waits
pub marks_one : (flags : List Bool) (waits : List ℕ) (b : ℕ) → b < length flags → flag_at flags b ≡ false
    → FlagsMore (λ c. c ≡ b) flags (set flags b true) waits (waits ++ b ∷ [])
marks_one flags waits b lt off =
    grind (
      arith,
      length-set,
      cases_eq,
      get_or-set_same,
      get_or-set_other,
      in_left,
      in_split,
      in_last,
      one_less,
      length_push,
    )

-- nothing is flagged where nothing is said, or where it is flagged already
pub marks_none : (P : ℕ → Type 0) (flags : List Bool) (waits : List ℕ)
    → ((c : ℕ) → c < length flags → P c → flag_at flags c ≡ true) → FlagsMore P flags flags waits waits
marks_none P flags waits all = grind arith

-- one after another
pub marks_both : (P Q R : ℕ → Type 0) (o m n : List Bool) (u v w : List ℕ) → ((c : ℕ) → P c → R c)
    → ((c : ℕ) → Q c → R c) → ((c : ℕ) → R c → P c ⊎ Q c) → FlagsMore P o m u v → FlagsMore Q m n v w
    → FlagsMore R o n u w
marks_both P Q R o m n u v w left right split p q = grind arith

-- the two arms of a branch, and a call's callee and return block
pub marks_arms : (g : Graph) (t : Rattle.cfg_core.specs.Graph.Term) (a b : ℕ) (o m n : List Bool)
    (u v w : List ℕ) → FlagsMore (λ c. c ≡ a) o m u v → FlagsMore (λ c. c ≡ b) m n v w
    → FlagsMore (LeadsOrEnters g (Branch t a b)) o n u w
marks_arms g t a b o m n u v w p q = grind (arith, marks_both)

pub marks_call : (g : Graph) (r : Option ℕ) (f : ℕ) (ts : List Rattle.cfg_core.specs.Graph.Term)
    (back entry : ℕ) (o m n : List Bool) (u v w : List ℕ) → entry ≡ entry_of g f
    → FlagsMore (λ c. c ≡ entry) o m u v → FlagsMore (λ c. c ≡ back) m n v w
    → FlagsMore (LeadsOrEnters g (Call r f ts back)) o n u w
marks_call g r f ts back entry o m n u v w is p q = grind (arith, marks_both)

-- past the last block nothing is led to
pub marks_beyond : (g : Graph) (b : ℕ) (flags : List Bool) (waits : List ℕ)
    → Rattle.cfg_core.specs.Graph.spot_at g b ≡ no_spot → FlagsMore (LeadsOrEnters g (block_at g b).exit)
    flags flags waits waits
unfolding no_spot
marks_beyond g b flags waits e = grind (arith, marks_none)

-- In the loop.

module _ (g : Graph) (rules : IsGraph g) (no_send : HasNoSend g) where
  none_flagged : (n b : ℕ) → flag_at (replicate n false) b ≡ true → ⊥
  none_flagged (suc n) (suc b) h = none_flagged n b h
  none_flagged n b h = cc

  -- main's first block is found
  pub found_main : (n main : ℕ) (new : List Bool) (waits : List ℕ) → n ≡ length (spots g)
      → length (replicate n false) ≡ n → main ≡ entry_of g (length g.procs - 1)
      → FlagsMore (λ c. c ≡ main) (replicate n false) new [] waits → Finding g new waits
  found_main n main new waits en el em m = record {
    count = m.count ∙ el ∙ en;
    main = subst (λ k. flag_at new k ≡ true) em (m.all main
        (omega (arith, el, en, em, reached_there g rules no_send (entry_of g (length g.procs - 1)) start))
        refl);
    only = λ b h. elim (m.only b h) [
      | inl i ↦ absurd (none_flagged n b i)
      | inr e ↦ subst (λ k. Reached g k) (sym (e ∙ em)) start
    ];
    waiting = grind arith;
    led = grind (arith, none_flagged);
  }

  next_reached : (b c : ℕ) → Reached g b → LeadsOrEnters g (block_at g b).exit c → Reached g c
  next_reached b c r (inl l) = follow b c r l
  next_reached b c r (inr l) = enter b c r l

  -- a block that waited is looked at
  pub found_more : (b : ℕ) (old new : List Bool) (waited rest waits : List ℕ) → waited ≡ rest ++ b ∷ []
      → Finding g old waited → FlagsMore (LeadsOrEnters g (block_at g b).exit) old new rest waits
      → Finding g new waits
  found_more b old new waited rest waits e f m =
      let here : flag_at old b ≡ true =
      grind (arith, in_last) in
      record {
        count = m.count ∙ f.count;
        main = grind arith;
        only = grind (arith, next_reached);
        waiting = grind (arith, in_left);
        led = λ c d h lt l. elim (m.fresh c h) [
          | inr i ↦ inl i
          | inl i ↦ elim (f.led c d i lt l) [
            | inr k ↦ inr (m.keeps d k)
            | inl w ↦ grind (arith, in_split)
          ]
        ];
      }

  -- nothing waits: all that is reached is flagged
  pub found_all : (flags : List Bool) (waits : List ℕ) → waits ≡ [] → Finding g flags waits
      → AreReached g flags
  found_all flags waits e f = record { count = f.count; only = f.only; all = λ b lt r. all b r }
    where
      step : (b c : ℕ) → flag_at flags b ≡ true → Reached g c → LeadsOrEnters g (block_at g b).exit c
          → flag_at flags c ≡ true
      step b c h r l = grind (arith, reached_there)

      all : (b : ℕ) → Reached g b → flag_at flags b ≡ true
      all _ start = f.main
      all _ (follow b c r l) = step b c (all b r) (follow b c r l) (inl l)
      all _ (enter b c r l) = step b c (all b r) (enter b c r l) (inr l)
