-- The last graph's draft leaves room: its numbers are within the limits of an image.
use Rattle.std.proofs.Common.{ℕ, suc, ◌+◌, ◌/◌, ◌≡◌, ◌<◌, ◌≤◌, nat_lt, Bool, true, false, if◌then◌else◌, List}
use Rattle.std.proofs.Common.{[], ◌∷◌, length, map, refl, sym, ap, subst, arith}
use Rattle.std.specs.List.{AllByRecursion}
use Rattle.src_ast.specs.Syntax.{Part}
use Rattle.src_ast.specs.LanguageLimits.{most_parameters, most_array_cells, most_statements}
use Rattle.src_ast.specs.Written.{IsWritten}
use Rattle.cfg_core.specs.Graph.{Exit, GraphArray, Graph, Spot, spots, no_spot, spot_at, block_at}
use Rattle.cfg_core.specs.Shown.{shown_arrays}
use Rattle.cfg_core.specs.Weights.{first_block}
use Rattle.ws_isa.specs.Image.{Array, Image, Pad, Block, flat}
use Rattle.ws_isa.specs.Formed as formed
use Rattle.ws_isa.specs.Formed.{most_instrs, most_blocks, most_waves, most_length, most_dests, most_pads}
use Rattle.ws_isa.specs.Formed.{most_landings, total_length, ArraysFormed}
use Rattle.call_gen.specs.Keeps.{SendsAtMost}
use Rattle.call_gen.specs.Sizes.{cell_count, Sizes, LandingsAtMost, BlockWithin, KeepsSizes, larger}
use Rattle.call_gen.specs.Sizes.{most_hidden_arrays, hidden_cells, spelled_sizes}
use Rattle.live_vars.specs.Marks.{has}
use Rattle.cfg_build.specs.Keeps as program
use Rattle.wave_gen.specs.Limits.{BringsAtMost, LandsAtMost, KeepsLimits}
use Rattle.wave_gen.specs.Lists.{ListsFit}
use Rattle.wave_gen.specs.Words.{GraphOfWords, array_of, arrays_of}
use Rattle.wave_link.specs.Room.{LeavesRoom}
use Rattle.wave_build.specs.Small.{sizes_with, most_vars}
use Rattle.wave_build.proofs.Named.{names_formed}
use Rattle.ws_words.proofs.Lists.{length_map as map_count}
use Rattle.cfg_core.proofs.Spots.{each_at}

lengths_of : (n : ℕ) (arrays : List GraphArray) → AllByRecursion (λ a. a.length ≤ n) arrays
    → AllByRecursion (λ (a : Array). a.length ≤ n) (map array_of arrays)
lengths_of n [] h = tt
lengths_of n (a ∷ arrays) h = (h.0, lengths_of n arrays h.1)

cells_of : (arrays : List GraphArray) → total_length (map array_of arrays) ≡ cell_count arrays
cells_of [] = refl
cells_of (a ∷ arrays) = ap (λ n. a.length + n) (cells_of arrays)

all_less : (A : Type 0) (f : A → ℕ) (m n : ℕ) → m < n → (xs : List A) → AllByRecursion (λ x. f x ≤ m) xs
    → AllByRecursion (λ x. f x < n) xs
all_less A f m n lt [] h = tt
all_less A f m n lt (x ∷ xs) h = ((let a = h.0 in omega (arith, a, lt)), all_less A f m n lt xs h.1)

all_most : (A : Type 0) (f : A → ℕ) (m n : ℕ) → m ≤ n → (xs : List A) → AllByRecursion (λ x. f x ≤ m) xs
    → AllByRecursion (λ x. f x ≤ n) xs
all_most A f m n le [] h = tt
all_most A f m n le (x ∷ xs) h = ((let a = h.0 in omega (arith, a, le)), all_most A f m n le xs h.1)

pads_less : (m n : ℕ) → m < n → (bs : List Block)
    → AllByRecursion (λ b. AllByRecursion (λ p. p.number ≤ m) b.pads) bs
    → AllByRecursion (λ b. AllByRecursion (λ p. p.number < n) b.pads) bs
pads_less m n lt [] h = tt
pads_less m n lt (b ∷ bs) h = (all_less Pad (λ p. p.number) m n lt b.pads h.0, pads_less m n lt bs h.1)

larger_few : (m n k : ℕ) → m ≤ k → n ≤ k → larger m n ≤ k
larger_few m n k h i = by_test (nat_lt m n)
  where
    by_test : (c : Bool) → (if c then n else m) ≤ k
    by_test true = i
    by_test false = h

module _ (parts : List Part) (s : Graph) (live : List (List ℕ)) (written : IsWritten parts)
    (vars ops nodes : ℕ) (few : vars ≤ most_vars)
    (W : KeepsSizes (spelled_sizes (sizes_with vars ops nodes)) s)
    (start : (block_at s (first_block s)).named ≡ []) where
  abbrev z : Sizes
  z = spelled_sizes (sizes_with vars ops nodes)

  within_at : (b : ℕ) → BlockWithin z (block_at s b)
  unfolding spot_at no_spot
  within_at b = each_at (λ (x : Spot). BlockWithin z x.block) (spots s) no_spot W.blocks
      (record { ops = omega arith; nodes = omega arith; values = tt; landings = tt }) b

  brings : BringsAtMost (suc most_parameters) s
  brings = record {
    sends = λ b t ts ls e. subst (λ (x : Exit). SendsAtMost z.values x) e (within_at b).values;
    start = let n = ap length start in omega (arith, n);
  }

  lands : LandsAtMost most_statements s
  lands = λ b t ts ls e. subst (λ (x : Exit). LandingsAtMost z.landings x) e (within_at b).landings

  arrays_formed : shown_arrays s.arrays ≡ program.arrays_of parts → ArraysFormed (arrays_of s)
  unfolding most_length formed.most_arrays formed.most_cells
  arrays_formed shown =
      let arrays = W.arrays in
      let cells = W.cells in
      let count = map_count array_of s.arrays in
      let total = cells_of s.arrays in
      record {
        few = omega (arith, arrays, count);
        names = names_formed parts s.arrays written shown;
        lengths = lengths_of 65536 s.arrays (all_most GraphArray (λ a. a.length) z.length 65536
            (larger_few most_array_cells
            (suc (hidden_cells (sizes_with vars ops nodes) / most_hidden_arrays)) 65536 (omega arith)
            (omega (arith, few))) s.arrays W.lengths);
        cells = omega (arith, cells, total, few);
      }

  pub leaves_room : shown_arrays s.arrays ≡ program.arrays_of parts → GraphOfWords s → (draft : Image)
      → KeepsLimits s (has live) draft → ListsFit draft → draft.arrays ≡ arrays_of s
      → length (flat draft.blocks) + length draft.blocks ≤ most_instrs → LeavesRoom draft
  unfolding most_blocks most_waves most_dests most_pads most_landings
  leaves_room shown words draft keeps lists same room =
      let blocks = W.count_blocks in
      let few_blocks = keeps.blocks in
      record {
        limits = record {
          arrays = subst ArraysFormed (sym same) (arrays_formed shown);
          blocks = omega (arith, few_blocks, blocks);
          waves = λ b there. let w = keeps.waves b there in omega (arith, w, few_blocks, blocks);
          consts = keeps.consts words;
          sends = λ b i p there inside e. let le = keeps.sends (suc most_parameters) brings b i p there inside
              e in omega (arith, le);
          numbers = pads_less (suc most_parameters) 16 (omega arith) draft.blocks
              (keeps.pads (suc most_parameters) brings);
          pads = λ b p there i. let h = lists.pads b p there i in omega (arith, h);
          rise = keeps.rise;
          landings = λ b i ls there e. keeps.landings most_statements lands b i ls there e;
        };
        instrs = room;
        dests = λ b i there inside. let h = lists.dests b i there inside in omega (arith, h);
        others = λ b i there inside. let h = lists.others b i there inside in omega (arith, h);
      }
