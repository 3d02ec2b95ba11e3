-- The reached blocks are a closed part, and each block of it is reached there.
use Rattle.std.proofs.Common.{ℕ, ◌-◌, ◌≡◌, ◌<◌, Bool, true, List, [], length, refl, sym, ap, ◌∙◌, subst, inl}
use Rattle.std.proofs.Common.{inr, arith}
use Rattle.cfg_core.specs.Graph.{Exit, Goto, Branch, Call, Graph, Spot, spots, spot_at, block_at, entry_of}
use Rattle.cfg_core.specs.Rules.{StaysIn, Leads, IsGraph}
use Rattle.call_gen.specs.Keeps.{NoSend, HasNoSend}
use Rattle.call_gen.specs.Reached.{Enters, Reached, start, follow, enter, AllReached}
use Rattle.call_gen.specs.Part.{before, name, part, AreReached}
use Rattle.call_gen.proofs.Spelled.Facts.{Placed}
use Rattle.call_gen.proofs.Spelled.Places.{all_placed}
use Rattle.call_gen.proofs.Parted.PartWalk.{Closed, exit_in, block_is, entry_is, main_is}
use Rattle.call_gen.proofs.Parted.PartRules.{kept_at}
use Rattle.ws_words.specs.Items.{flag_at}

module _ (g : Graph) (rules : IsGraph g) (no_send : HasNoSend g) where
  F : Placed g []
  F = all_placed g [] rules

  -- an edge stays in its procedure
  edge_stays : (b c : ℕ) (x : Exit) → (block_at g b).exit ≡ x → Leads x c → StaysIn g (spot_at g b).home c
  edge_stays b c (Goto d) e l = subst (λ n. StaysIn g (spot_at g b).home n) (sym l)
      (exit_in g rules b (Goto d) e)
  edge_stays b c (Branch t d f) e (inl l) = subst (λ n. StaysIn g (spot_at g b).home n) (sym l)
      (exit_in g rules b (Branch t d f) e).1
  edge_stays b c (Branch t d f) e (inr l) = subst (λ n. StaysIn g (spot_at g b).home n) (sym l)
      (exit_in g rules b (Branch t d f) e).2
  edge_stays b c (Call r f ts back) e l = subst (λ n. StaysIn g (spot_at g b).home n) (sym l)
      (exit_in g rules b (Call r f ts back) e).4
  edge_stays b c x e l = grind arith

  -- a call enters the first block of a procedure
  entered : (b c : ℕ) (x : Exit) → (block_at g b).exit ≡ x → Enters g x c → (f : ℕ) × (f < length g.procs)
      × (c ≡ entry_of g f)
  entered b c (Call r f ts back) e l = (f, (exit_in g rules b (Call r f ts back) e).1, l)
  entered b c x e l = absurd l

  abbrev main : ℕ
  main = length g.procs - 1

  main_low : main < length g.procs
  main_low = omega arith

  pub reached_there : (b : ℕ) → Reached g b → b < length (spots g)
  reached_there _ start = (F.first main main_low).0
  reached_there _ (follow b c r l) = (edge_stays b c (block_at g b).exit refl l).0
  reached_there _ (enter b c r l) =
      let f = entered b c (block_at g b).exit refl l in
      subst (λ n. n < length (spots g)) (sym f.2) (F.first f.0 f.1).0

  -- with a block its procedure's first one is reached
  reached_home : (b : ℕ) → Reached g b → Reached g (entry_of g (spot_at g b).home)
  reached_home _ start = rw (F.first main main_low).1 start
  reached_home _ (follow b c r l) = grind (arith, edge_stays, reached_home b r)
  reached_home _ (enter b c r l) =
      let f = entered b c (block_at g b).exit refl l in
      let home : f.0 ≡ (spot_at g c).home = sym (ap (λ n. (spot_at g n).home) f.2 ∙ (F.first f.0 f.1).1) in
      subst (λ n. Reached g (entry_of g n)) home (subst (λ n. Reached g n) f.2 (enter b c r l))

  module _ (flags : List Bool) (A : AreReached g flags) where
    abbrev keep : ℕ → Bool
    keep = flag_at flags

    all : (b : ℕ) → Reached g b → keep b ≡ true
    all b r = A.all b (reached_there b r) r

    pub closed : Closed g keep
    closed = record {
      there = λ b k. reached_there b (A.only b k);
      main = all (entry_of g main) start;
      edge = λ b c k l. all c (follow b c (A.only b k) l);
      call = λ b c k l. all c (enter b c (A.only b k) l);
      home = λ b k. all (entry_of g (spot_at g b).home) (reached_home b (A.only b k));
    }

    abbrev h : Graph
    h = part g keep

    abbrev place : ℕ → ℕ
    place = before keep

    exit_is : (b : ℕ) → Reached g b → (block_at h (place b)).exit ≡ name g keep (block_at g b).exit
    exit_is b r = ap (λ (s : Spot). s.block.exit) (block_is g keep rules closed b (all b r))

    named_leads : (x : Exit) (c : ℕ) → NoSend x → Leads x c → Leads (name g keep x) (place c)
    named_leads x c n l = grind arith

    named_enters : (b c : ℕ) → Reached g b → (x : Exit) → (block_at g b).exit ≡ x → Enters g x c
        → Enters h (name g keep x) (place c)
    named_enters b c r (Call s f ts back) e l =
        let there = (exit_in g rules b (Call s f ts back) e).1 in
        let k : keep (entry_of g f) ≡ true =
        all (entry_of g f)
        (enter b (entry_of g f) r (subst (λ (x : Exit). Enters g x (entry_of g f)) (sym e) refl)) in
        ap place l ∙ sym (entry_is g keep rules closed f there k)
    named_enters b c r x e l = absurd l

    reached_place : (b : ℕ) → Reached g b → Reached h (place b)
    reached_place _ start =
        let e : entry_of h (length h.procs - 1) ≡ place (entry_of g main) =
        grind (arith, main_is, closed, entry_is, main_low, all) in
        subst (λ n. Reached h n) e start
    reached_place _ (follow b c r l) = follow (place b) (place c) (reached_place b r)
        (grind (arith, exit_is, named_leads))
    reached_place _ (enter b c r l) = enter (place b) (place c) (reached_place b r)
        (grind (arith, exit_is, named_enters))

    pub all_reached : AllReached h
    all_reached k lt = let f = kept_at g keep rules closed no_send k lt in grind (arith, reached_place)
