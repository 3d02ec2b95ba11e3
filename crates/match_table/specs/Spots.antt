-- Instances by where they stand. A spot is the key of an instance's page, times sixteen, and the place of its
-- wave in the page.
use Rattle.std.specs.Prelude.{◌-◌, ◌≡◌, ◌+◌, ◌*◌, ◌/◌, ◌%◌, ◌^◌, ◌<◌, ℕ, List, [], ◌∷◌, ◌++◌, map, All}
use Rattle.std.specs.Prelude.{Option, Some, None, ⊤}
use Rattle.df_core.specs.Core.{Key}
use Rattle.match_table.specs.declared.entry.Instance.{Instance}
use Rattle.match_table.specs.declared.instances.Listed.{Listed}
use Rattle.match_table.specs.declared.instances.Listed.TheVariants.{Spot, Other}
use Rattle.match_table.specs.Pages.{IsNamed, PageContent, name_for, place_of, under}

-- the instance with this place in a page
abbrev pub instance_of : Option PageContent → ℕ → Key
instance_of None place = record { wave = 0; instr = 0 }
instance_of (Some p) place = record {
  wave = p.name.wave + 16 * (place / 4) + place % 4;
  instr = p.name.part / 2 - place % 4;
}

-- the instance at a spot
abbrev pub at_spot : List (Option PageContent) → ℕ → Key
at_spot slots s = instance_of (under slots (s / 16)) (s % 16)

-- this is the spot of the instance
pub record IsSpot (slots : List (Option PageContent)) (s w i : ℕ) : Type 0 where
  pub page : IsNamed slots (s / 16) (name_for w (2 * i))
  pub place : s % 16 ≡ place_of w
  pub wave : w < 2 ^ 64
  pub instr : i < 2 ^ 32

-- some instance stands there
abbrev pub IsPlaced : List (Option PageContent) → ℕ → Type 0
IsPlaced slots s = (w : ℕ) × (i : ℕ) × IsSpot slots s w i

-- A list of instances, first those that stand there by their spots, then others, and how many more may be
-- listed with no allocation.
pub record InstanceList : Type 0 where
  pub spots : List ℕ
  pub others : List Instance
  pub spare : ℕ

-- an instance's wave and instruction
abbrev pub instance_key : Instance → Key
instance_key f = record { wave = f.wave; instr = f.instr }

-- the instances of the list
abbrev pub instances : List (Option PageContent) → InstanceList → List Key
instances slots l = map (at_spot slots) l.spots ++ map instance_key l.others

abbrev pub AllPlaced : List (Option PageContent) → InstanceList → Type 0
AllPlaced slots l = All (IsPlaced slots) l.spots

-- it is listed behind the others
pub record IsListed (slots : List (Option PageContent)) (old new : InstanceList) (f : Instance) : Type 0 where
  pub placed : AllPlaced slots new
  pub more : instances slots new ≡ instances slots old ++ instance_key f ∷ []

-- the instance that is listed so
abbrev pub key_in : List (Option PageContent) → Listed → Key
key_in slots (Spot s) = at_spot slots s
key_in slots (Other f) = instance_key f

-- where it is listed by its spot it stands there
abbrev pub PlacedSo : List (Option PageContent) → Listed → Type 0
PlacedSo slots (Spot s) = IsPlaced slots s
PlacedSo slots (Other f) = ⊤
