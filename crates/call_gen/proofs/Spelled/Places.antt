-- The places of blocks and cells in the spelled graph, together.
use Rattle.std.proofs.Common.{ℕ, zero, suc, ◌+◌, ◌-◌, ◌==◌, ◌&&◌, ◌≡◌, ◌<◌, ◌≤◌, Bool, true, if◌then◌else◌}
use Rattle.std.proofs.Common.{List, ◌∷◌, length, ap, ◌∙◌, subst, Option, Some, arith}
use Rattle.std.specs.List.{AllByRecursion}
use Rattle.cfg_core.specs.Graph.{Term, Exit, Call, Graph, Spot, spots, no_spot, spot_at, block_at, proc_at}
use Rattle.cfg_core.specs.Graph.{entry_of}
use Rattle.cfg_core.specs.Rules.{calls, CallsEarlier, IsGraph}
use Rattle.cfg_core.specs.Walk.{landing}
use Rattle.call_gen.specs.Spelled.{callee_is, is_called, is_calling, moved, door, landings, address}
use Rattle.call_gen.specs.Spelled.{own_cells, first_cell, cells_in_all, spelled}
use Rattle.call_gen.proofs.Spelled.Facts.{Placed, Celled}
use Rattle.call_gen.proofs.Spelled.Placing.{AtPlace, placed, home_is, doors_placed, entries_are, procs_count}
use Rattle.call_gen.proofs.Spelled.Placing.{vars_are, first_is, landing_in, some_in, in_some}
use Rattle.ws_words.proofs.Numbers.{is_self}
use Rattle.ws_words.specs.Items.{nth, or_else}
use Rattle.ws_words.proofs.Places.{nth_there}

module _ (g : Graph) (live : List (List ℕ)) (rules : IsGraph g) where
  spot_is : (b : ℕ) → b < length (spots g) → nth (spots g) b ≡ Some (spot_at g b)
  unfolding spot_at
  spot_is b lt = grind (arith, nth_there (spots g) b lt)

  spot_from : (h : Graph) (k : ℕ) (s : Spot) → nth (spots h) k ≡ Some s → spot_at h k ≡ s
  unfolding spot_at
  spot_from h k s e = ap (λ (o : Option Spot). or_else o no_spot) e

  at_place : (b : ℕ) → b < length (spots g) → AtPlace g live (spots (spelled g live)) (moved g b)
      (spot_at g b) b
  unfolding moved
  at_place b lt =
      let z : 0 + b ≡ b = omega arith in
      subst (λ n. AtPlace g live (spots (spelled g live)) (moved g b) (spot_at g b) n) z
      (placed g live 0 0 g.procs b (moved g b) (spot_at g b) (spot_is b lt) (omega arith))

  homes : (b : ℕ) → b < length (spots g) → ((spot_at g b).home < length g.procs)
      × ((spot_at g b).vars ≡ (proc_at g (spot_at g b).home).vars)
  unfolding proc_at
  homes b lt = grind (arith, home_is g live 0 g.procs b (spot_at g b) (spot_is b lt), spot_is b lt)

  callee_true : (r : Option ℕ) (f : ℕ) (ts : List Term) (back : ℕ) (x : Exit) → x ≡ Call r f ts back
      → callee_is x f ≡ true
  callee_true r f ts back x e = ap (λ (y : Exit). callee_is y f) e ∙ is_self f

  called_calling : (b : ℕ) (r : Option ℕ) (f : ℕ) (ts : List Term) (back : ℕ) → b < length (spots g)
      → (block_at g b).exit ≡ Call r f ts back → (is_called g f ≡ true)
      × (is_calling g (spot_at g b).home ≡ true)
  unfolding is_called is_calling
  called_calling b r f ts back lt e = (
    some_in (λ s. callee_is s.block.exit f) (spots g) b (spot_at g b) (spot_is b lt)
        (callee_true r f ts back (block_at g b).exit e),
    some_in (λ s. (s.home == (spot_at g b).home) && calls s.block.exit) (spots g) b (spot_at g b)
        (spot_is b lt) (ap (λ v. v && calls (block_at g b).exit) (is_self (spot_at g b).home) ∙ ap calls e),
  )

  caller : (x : Exit) (f : ℕ) → callee_is x f ≡ true → (home : ℕ) → CallsEarlier home x → f < home
  caller x f h home lt = grind arith

  each_nth : {A : Type 0} (P : A → Type 0) (xs : List A) → AllByRecursion P xs → (k : ℕ) (x : A)
      → nth xs k ≡ Some x → P x
  each_nth P (y ∷ xs) h (suc k) x e = each_nth P xs h.1 k x e
  each_nth P xs h k x e = grind arith

  not_last : (f : ℕ) → is_called g f ≡ true → suc f < length g.procs
  unfolding is_called
  not_last f h =
      let c = in_some (λ s. callee_is s.block.exit f) (spots g) h in
      let earlier = each_nth (λ (s : Spot). CallsEarlier s.home s.block.exit) (spots g) rules.earlier c.0 c.1
      c.2 in
      let up : f < c.1.home = caller c.1.block.exit f c.3 c.1.home earlier in
      let home = home_is g live 0 g.procs c.0 c.1 c.2 in
      omega arith

  landing_is : (b : ℕ) (r : Option ℕ) (f : ℕ) (ts : List Term) (back : ℕ) → b < length (spots g)
      → (block_at g b).exit ≡ Call r f ts back → landing (address g f b) (landings g f) ≡ suc (moved g b)
  unfolding address landings moved
  landing_is b r f ts back lt e =
      let l = landing_in f 0 0 (spots g) b (spot_at g b) (spot_is b lt) (grind (arith, callee_true)) in
      grind arith

  first_block : (f : ℕ) → f < length g.procs → (entry_of g f < length (spots g))
      × ((spot_at g (entry_of g f)).home ≡ f)
  unfolding entry_of
  first_block f lt = let r = first_is 0 g.procs f rules.numbers.procs lt in
      (there (spots g) (entry_of g f) r.0 r.1, grind (arith, spot_from))
    where
      there : {A : Type 0} (xs : List A) (k : ℕ) (x : A) → nth xs k ≡ Some x → k < length xs
      there (y ∷ xs) (suc k) x e = omega (arith, there xs k x e)
      there xs k x e = grind arith

  door_spot : (f : ℕ) → f < length g.procs → nth (spots (spelled g live)) (door g f)
      ≡ Some (Rattle.call_gen.proofs.Spelled.Placing.door_of g live f (proc_at g f))
  unfolding door entry_of proc_at
  door_spot f lt = grind (arith, doors_placed)

  entry_is : (f : ℕ) → f < length g.procs → entry_of (spelled g live) f ≡ door g f
  unfolding door entry_of
  entry_is f lt = entries_are g live 0 0 g.procs f lt

  proc_vars : (f : ℕ) → f < length g.procs → (proc_at (spelled g live) f).vars ≡ suc (proc_at g f).vars
  unfolding proc_at
  proc_vars f lt = vars_are g live 0 0 g.procs f lt

  pub all_placed : Placed g live
  all_placed = record {
    plain = λ b lt. spot_from (spelled g live) (moved g b) _ (at_place b lt).plain;
    point = λ b r f ts back lt e. spot_from (spelled g live) (suc (moved g b)) _
        ((at_place b lt).point r f ts back e);
    entry = λ f lt. spot_from (spelled g live) (door g f) _ (door_spot f lt);
    entry_is = entry_is;
    count = procs_count g live 0 0 g.procs;
    vars = proc_vars;
    landing = landing_is;
    home = homes;
    first = first_block;
    called = called_calling;
    last = not_last;
  }

  more_cells : (f d n : ℕ) → n ≡ f + d → first_cell g f ≤ first_cell g n
  more_cells f zero n e = let same : f ≡ n = omega arith in omega (arith, ap (first_cell g) same)
  more_cells f (suc d) zero e = absurd (omega arith)
  more_cells f (suc d) (suc n) e = omega (arith, more_cells f d n (omega arith))

  own : (f : ℕ) → is_calling g f ≡ true → own_cells g f ≡ suc (proc_at g f).vars
  unfolding own_cells
  own f h = ap (λ (v : Bool). if v then suc (proc_at g f).vars else 0) h

  pub all_celled : Celled g
  unfolding cells_in_all
  all_celled = record {
    there = λ f x lt c le. omega (
      arith,
      own f c,
      more_cells (suc f) (length g.procs - suc f) (length g.procs)
          (omega arith),
      le,
    );
    apart = λ e f x y up lt c le same.
        omega (arith, own e c, more_cells (suc e) (f - suc e) f (omega arith), le, same);
  }
