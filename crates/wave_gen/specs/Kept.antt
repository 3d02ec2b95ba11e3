-- What is kept of blocks that are made.
use Rattle.std.specs.Prelude.{ℕ, zero, suc, ◌≡◌, ◌<◌, false, List, [], ◌∷◌, ◌++◌, drop, map, reverse}
use Rattle.wave_gen.specs.declared.kept.Want.{Want}
use Rattle.wave_gen.specs.declared.kept.Kept.{Kept}
use Rattle.wave_gen.specs.declared.fork.Arms.{Arms}
use Rattle.wave_gen.specs.declared.fork.Ending.{Ending}
use Rattle.wave_gen.specs.Wire.{Target, Wants, Made, with_wants}
use Rattle.wave_gen.specs.Plans.{HowLeft, Onto, Either, Plan, plan_at, behind_source, starts_at}
use Rattle.wave_gen.specs.Plans.{blocks_from, steers, past, tails_of, end_wants}
use Rattle.wave_gen.specs.Tables.{listed, line_of, tail_of, behind_of}

-- the lists of names, entry by entry
abbrev pub wanted : List Want → Wants
wanted [] x = []
wanted (p ∷ ps) x = with_wants (wanted ps) p.name (p.spot ∷ wanted ps p.name) x

abbrev pub wants_of : ℕ → List Target → List Want
wants_of x [] = []
wants_of x (p ∷ ps) = record { name = x; spot = p } ∷ wants_of x ps

-- those of the names below n
abbrev pub wants_below : Wants → ℕ → List Want
wants_below w zero = []
wants_below w (suc n) = wants_below w n ++ wants_of n (w n)

-- how many instructions of block b stand behind the one by which its edge is chosen
abbrev pub behind_at : ℕ → List Plan → ℕ → ℕ
behind_at width ps b =
    behind_of b (plan_at ps b).exit (behind_source width (starts_at width ps) b (plan_at ps b))

pub record IsKept (width : ℕ) (ps : List Plan) (b : ℕ) (k : Kept) (s : Made) : Type 0 where
  pub code : reverse (map line_of k.code.items) ≡ s.code
  pub wants : ◌≡◌ {A = Wants} (wanted k.wants.items) s.wants
  pub behind : k.behind ≡ behind_at width ps b

-- blocks from b on, in order
abbrev pub AreKept : ℕ → List Plan → ℕ → List Kept → List Made → Type 0
AreKept width ps b [] [] = Unit {0}
AreKept width ps b (k ∷ ks) (s ∷ ss) = IsKept width ps b k s × AreKept width ps (suc b) ks ss
AreKept width ps b _ _ = ⊥

-- the blocks behind b, kept from the last one to the first
abbrev pub KeptBehind : ℕ → List Plan → ℕ → List Kept → Type 0
KeptBehind width ps b ks =
    AreKept width ps (suc b) (reverse ks) (blocks_from width ps (suc b) (drop b ps))

-- these names are steered, and wanted at neither arm any more
pub record Forked (w v : Wants) (xs : List ℕ) (f : Arms) : Type 0 where
  pub tails : reverse (map tail_of f.tails.items) ≡ steers w v xs
  pub some : ◌≡◌ {A = Wants} (listed f.some.lists.items) (past xs w)
  pub none : ◌≡◌ {A = Wants} (listed f.none.lists.items) (past xs v)

-- what is sent along the edges of an exit, and what goes past it
pub record EndingIs (width : ℕ) (starts : ℕ → Wants) (x : HowLeft) (e : Ending) : Type 0 where
  pub tails : map tail_of e.tails.items ≡ tails_of width starts x
  pub past : ◌≡◌ {A = Wants} (listed e.past.lists.items) (end_wants width starts x)

-- an edge to a block that isn't the first of its wave leads ahead
abbrev pub Ahead : List Plan → ℕ → ℕ → Type 0
Ahead ps b c = (plan_at ps c).first ≡ false → b < c

abbrev pub LeadsAhead : List Plan → ℕ → HowLeft → Type 0
LeadsAhead ps b (Onto c) = Ahead ps b c
LeadsAhead ps b (Either op from c d) = Ahead ps b c × Ahead ps b d
LeadsAhead ps b _ = Unit {0}
