-- What the contracts of the passes say of the graphs of one program, one after another.
use Rattle.std.specs.Prelude.{◌≡◌, ℕ, suc, ◌<◌, ◌≤◌, List, [], length}
use Rattle.src_ast.specs.Syntax.{Part}
use Rattle.src_ast.specs.Bound.{widest, most_variables}
use Rattle.src_ast.specs.LanguageLimits.{most_parameters}
use Rattle.cfg_core.specs.Graph.{Exit, Call, Graph, spots, block_at}
use Rattle.cfg_core.specs.Rules.{IsGraph}
use Rattle.cfg_core.specs.Shape.{IsShaped, ArmsAlone}
use Rattle.cfg_core.specs.Weights.{first_block, TwoBlocksATurn, TurnsPayWork, WalksWeigh}
use Rattle.cfg_build.specs.Keeps.{IsFirstForm}
use Rattle.cfg_build.specs.Sizes.{IsSmall}
use Rattle.live_vars.specs.Live.{Live}
use Rattle.live_vars.specs.Marks.{AreLive}
use Rattle.wave_cut.specs.Cut.{Cut, IsCut, AreWaves}
use Rattle.phi_conv.specs.Joined as phi
use Rattle.phi_conv.specs.Keeps.{NoCopyLive, ShortJoined, SizesKept}
use Rattle.call_gen.specs.Keeps.{HasNoCall, NoneLiveAcross, ParamsAtMost, SendsAtMost}
use Rattle.call_gen.specs.Sizes.{Sizes, KeepsSizes, spelled_sizes}
use Rattle.call_gen.specs.Charged.{CallsCharged, ReachedInPlace}
use Rattle.wave_build.specs.Charges.{charge, base, pay}

-- the graph of an accepted program, as `lower` gives it
pub record Lowered (parts : List Part) (lowered : Graph) : Type 0 where
  pub rules : IsGraph lowered
  pub shape : IsShaped lowered
  pub turns : TwoBlocksATurn lowered
  pub work : TurnsPayWork lowered (widest parts)
  pub small : IsSmall parts lowered
  pub form : IsFirstForm lowered

-- the graph with its short branches joined, by sets of live variables, as `join_short` gives it
pub record Joined (given joined : Graph) : Type 0 where
  pub sets : List (List ℕ)
  pub is : joined ≡ phi.joined given sets
  pub rules : IsGraph joined
  pub short : ShortJoined given joined
  pub sizes : SizesKept given joined
  pub copies : NoCopyLive given joined
  pub arms : ArmsAlone given → ArmsAlone joined
  pub turns : TwoBlocksATurn given → TwoBlocksATurn joined

-- the part that walks can reach, as `reached` gives it
pub record ReachedPart (given kept : Graph) : Type 0 where
  pub rules : IsGraph kept
  pub arms : ArmsAlone given → ArmsAlone kept
  pub sizes : (z : Sizes) → KeepsSizes z given → KeepsSizes z kept
  pub places : ReachedInPlace given kept

-- the graph with calls spelled out, by sets of live variables, as `spell_calls` gives it
pub record CallsSpelled (given : Graph) (sets : List (List ℕ)) (spelled : Graph) : Type 0 where
  pub rules : IsGraph spelled
  pub no_call : HasNoCall spelled
  pub across : NoneLiveAcross spelled
  pub values : (n : ℕ) → ParamsAtMost n given →
      (b : ℕ) → SendsAtMost (suc n) (block_at spelled b).exit
  pub sizes : (z : Sizes) → KeepsSizes z given → KeepsSizes (spelled_sizes z) spelled
  pub arms : ArmsAlone given → ArmsAlone spelled
  pub start : (block_at spelled (first_block spelled)).named ≡ []
  pub charged : CallsCharged given sets spelled

-- a call has no more values than a procedure of the program has variables, or may have parameters
abbrev pub CallsFew : ℕ → Exit → Type 0
CallsFew v (Call x f ts back) = (length ts ≤ v) × (length ts ≤ most_parameters)
CallsFew v _ = Unit {0}

-- What the cost of a program's image rests on, of the graph before unreached blocks are dropped: what is
-- live at a block are variables of the program, and walks are charged no more than the program allows.
pub record Costed (parts : List Part) (g : Graph) : Type 0 where
  pub rules : IsGraph g
  pub low : (b x : ℕ) → b < length (spots g) → Live g b x → x < most_variables parts
  pub calls : (b : ℕ) → CallsFew (most_variables parts) (block_at g b).exit
  pub paid : WalksWeigh g (charge (most_variables parts) g) (base (most_variables parts))
      (pay (most_variables parts) (widest parts))

-- The graphs from the one before unreached blocks are dropped: kept and spelled out; the sets of live
-- variables of these two, and the waves of the last.
pub record LastGraphs (given kept spelled : Graph) (needed live : List (List ℕ)) (cut : Cut) : Type 0 where
  pub keeping : ReachedPart given kept
  pub needing : AreLive kept needed
  pub spelling : CallsSpelled kept needed spelled
  pub living : AreLive spelled live
  pub cutting : IsCut spelled cut
  pub waving : AreWaves spelled cut

-- The graphs of a program after each pass: lowered and joined, and those from there on.
pub record PassGraphs (parts : List Part) (lowered joined kept spelled : Graph)
    (needed live : List (List ℕ)) (cut : Cut) : Type 0 where
  pub lowering : Lowered parts lowered
  pub joining : Joined lowered joined
  pub last : LastGraphs joined kept spelled needed live cut
