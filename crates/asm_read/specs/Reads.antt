-- What a source gives of which an assembly is to be read.
use Rattle.std.specs.Prelude.{◌≡◌, ℕ, ◌+◌, ◌≤◌, List, [], ◌∷◌, length, Option}
use Rattle.ws_words.specs.Outside.{World}
use Rattle.ws_io.specs.Streams.{Rose, Takes, TakesAll}
use Rattle.ws_isa.specs.Image.{Image}
use Rattle.asm_read.specs.declared.source.Unread.{Unread}
use Rattle.asm_read.specs.declared.source.Unread.TheVariants.{Failed, TooLong, Refused, NoMemory}
use Rattle.asm_read.specs.Assembly.{assembly_limit, IsAssembly, RefusesAssembly}

-- a source before and after a call: the bytes that it has left, if it reports them, and its faults
pub record SourceCall : Type 0 where
  pub left : Option (List ℕ)
  pub after : Option (List ℕ)
  pub faults : ℕ
  pub counted : ℕ

-- what a source reports of itself before and after a call
abbrev pub reading : {S : Type 0} → (S → Option (List ℕ)) → (S → ℕ) → S → S → SourceCall
reading left faults old new = record {
  left = left old;
  after = left new;
  faults = faults old;
  counted = faults new;
}

-- the whole text that a source gives was read: a sound image, and its input words
pub record GivesAssembly (reads : SourceCall) (image : Image) (input : List ℕ) : Type 0 where
  pub text : List ℕ
  pub short : length text ≤ assembly_limit
  pub takes : TakesAll reads.left text reads.after
  pub assembly : IsAssembly text image input

-- Why it wasn't: reading failed, one byte more than a text may have was read, the whole text was read and is
-- refused so, or memory ran out.
abbrev pub IsUnread : SourceCall → Unread → Type 0
IsUnread reads Failed = (bytes : List ℕ) × Rose reads.faults reads.counted
    × (length bytes ≤ assembly_limit) × Takes reads.left bytes reads.after
IsUnread reads TooLong = (bytes : List ℕ) × (length bytes ≡ assembly_limit + 1)
    × Takes reads.left bytes reads.after
IsUnread reads (Refused why) = (text : List ℕ) × (length text ≤ assembly_limit)
    × TakesAll reads.left text reads.after × RefusesAssembly text why
IsUnread reads NoMemory = (bytes : List ℕ) × (length bytes ≤ assembly_limit + 1)
    × Takes reads.left bytes reads.after

-- what a run without ports is given: these words, and nothing left in any port
abbrev pub world_of : List ℕ → World
world_of words = record { input = words; left = [] ∷ [] ∷ [] ∷ [] ∷ [] ∷ [] ∷ [] ∷ [] }
