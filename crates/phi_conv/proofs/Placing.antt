-- Where blocks and procedures stand in the joined graph: where they stood.
use Rattle.std.proofs.Common.{ℕ, suc, ◌+◌, ◌≡◌, ◌<◌, List, [], ◌∷◌, ◌++◌, length, map, Option}
use Rattle.std.proofs.Common.{refl, sym, ap, ◌∙◌, arith}
use Rattle.cfg_core.specs.Graph.{Block, GraphProc, Graph, Spot, spots_in, spots_from, spots, no_spot, no_proc}
use Rattle.cfg_core.specs.Graph.{spot_at, block_at, proc_at, entry_from, entry_of}
use Rattle.phi_conv.specs.Short.{Short}
use Rattle.phi_conv.specs.Joined.{more_vars, joined_if, joined_block, joined_proc, joined}
use Rattle.phi_conv.specs.Keeps.{SameOrGoto, ExitsKept}
use Rattle.ws_words.proofs.Lists.{map_append as map_both, length_map as map_count}
use Rattle.ws_words.specs.Items.{nth, or_else}

module _ (g : Graph) (live : List (List ℕ)) where
  -- a block with the number of its procedure and its count of variables, joined
  abbrev pub joined_spot : Spot → Spot
  joined_spot s = record {
    home = s.home;
    vars = more_vars s.vars;
    block = joined_block g live s.vars
        s.block;
  }

  in_proc : (home v : ℕ) (bs : List Block) → spots_in home (more_vars v) (map (joined_block g live v) bs)
      ≡ map joined_spot (spots_in home v bs)
  in_proc home v [] = refl
  in_proc home v (b ∷ bs) = ap (λ (zs : List Spot). joined_spot (record { home = home; vars = v; block = b })
      ∷ zs) (in_proc home v bs)

  in_procs : (home : ℕ) (ps : List GraphProc) → spots_from home (map (joined_proc g live) ps)
      ≡ map joined_spot (spots_from home ps)
  in_procs home [] = refl
  in_procs home (p ∷ ps) =
      ap (λ (zs : List Spot). zs ++ spots_from (suc home) (map (joined_proc g live) ps))
      (in_proc home p.vars p.blocks)
      ∙ ap (λ (zs : List Spot). map joined_spot (spots_in home p.vars p.blocks) ++ zs)
      (in_procs (suc home) ps)
      ∙ sym (map_both joined_spot (spots_in home p.vars p.blocks) (spots_from (suc home) ps))

  -- the blocks of the joined graph
  pub spots_are : spots (joined g live) ≡ map joined_spot (spots g)
  spots_are = in_procs 0 g.procs

  -- there are as many blocks
  pub spots_count : length (spots (joined g live)) ≡ length (spots g)
  spots_count = ap (λ (zs : List Spot). length zs) spots_are ∙ map_count joined_spot (spots g)

  block_in : (xs : List Spot) (k : ℕ) → (or_else (nth (map joined_spot xs) k) no_spot).block ≡ joined_block g
      live (or_else (nth xs k) no_spot).vars (or_else (nth xs k) no_spot).block
  unfolding no_spot
  block_in (x ∷ xs) (suc k) = block_in xs k
  block_in xs k = grind arith

  spot_in : (xs : List Spot) (k : ℕ) → k < length xs → or_else (nth (map joined_spot xs) k) no_spot
      ≡ joined_spot (or_else (nth xs k) no_spot)
  spot_in (x ∷ xs) (suc k) lt = spot_in xs k (omega arith)
  spot_in xs k lt = grind arith

  -- a block stands where it stood
  pub block_is : (b : ℕ) → block_at (joined g live) b ≡ joined_block g live (spot_at g b).vars (block_at g b)
  unfolding spot_at
  block_is b = ap (λ (zs : List Spot). (or_else (nth zs b) no_spot).block) spots_are ∙ block_in (spots g) b

  -- so it does with its procedure
  pub spot_is : (b : ℕ) → b < length (spots g) → spot_at (joined g live) b ≡ joined_spot (spot_at g b)
  unfolding spot_at
  spot_is b lt = ap (λ (zs : List Spot). or_else (nth zs b) no_spot) spots_are ∙ spot_in (spots g) b lt

  entry_in : (first : ℕ) (ps : List GraphProc) (f : ℕ) → entry_from first (map (joined_proc g live) ps) f
      ≡ entry_from first ps f
  entry_in first (p ∷ ps) (suc f) = grind (arith, map_count, entry_in (first + length p.blocks) ps f)
  entry_in first ps f = grind arith

  -- a procedure begins where it began
  pub entry_is : (f : ℕ) → entry_of (joined g live) f ≡ entry_of g f
  unfolding entry_of
  entry_is f = entry_in 0 g.procs f

  proc_in : (ps : List GraphProc) (k : ℕ) → k < length ps → or_else (nth (map (joined_proc g live) ps) k)
      no_proc ≡ joined_proc g live (or_else (nth ps k) no_proc)
  proc_in (x ∷ xs) (suc k) lt = proc_in xs k (omega arith)
  proc_in ps k lt = grind arith

  -- a procedure stands where it stood
  pub proc_is : (f : ℕ) → f < length g.procs → proc_at (joined g live) f ≡ joined_proc g live (proc_at g f)
  unfolding proc_at
  proc_is f lt = proc_in g.procs f lt

  kept_if : (v : ℕ) (b : Block) (s : Option Short) → SameOrGoto b.exit (joined_if live v b s).exit
  kept_if v b s = grind arith

  -- each exit is the old one or a Goto
  pub exits_kept : ExitsKept g (joined g live)
  exits_kept = grind (arith, block_is, kept_if)
