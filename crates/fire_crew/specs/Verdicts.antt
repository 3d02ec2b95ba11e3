-- What a crew finds after a phase.
use Rattle.std.specs.Prelude.{ℕ, ◌≡◌, ◌<◌, ◌≤◌, suc, true, List, Option, None}
use Rattle.ws_words.specs.Outside.{World}
use Rattle.ws_isa.specs.Image.{Image, Token}
use Rattle.ws_isa.specs.Walk.{Ports}
use Rattle.df_core.specs.Core.{Key, has}
use Rattle.df_core.specs.Shown.{Tables as Part}
use Rattle.df_core.specs.Began.{Began}
use Rattle.store_buf.specs.Contents.{Content}
use Rattle.match_table.specs.Coming.{Came}
use Rattle.fire_crew.specs.Ends.{AllRun, SomeRun, IsGoing}
use Rattle.fire_crew.specs.Owing.{IsMissing}
use Rattle.fire_crew.specs.declared.judge.Ending.{Ending}
use Rattle.fire_crew.specs.declared.judge.Ending.TheVariants as ending
use Rattle.fire_crew.specs.declared.judge.Verdict.{Verdict}
use Rattle.fire_crew.specs.declared.judge.Verdict.TheVariants.{Go, Ends}

-- in so many phases each but the last has brought a token that was held nowhere
abbrev pub MovedOn : Ports → Ports → ℕ → Type 0
MovedOn old new phases = (count : ℕ) × (phases ≤ suc count) × Came old new count

-- a token has come that was held nowhere
abbrev pub BroughtOne : Ports → Ports → Type 0
BroughtOne old new = (w : ℕ) × (i : ℕ) × (p : ℕ) × (old w i p ≡ None) × (has (new w i p) ≡ true)

-- so a run has ended with so many firings left
abbrev pub EndingSo : Image → World → List (Option Began) → List Key → ℕ → Content → Ending → Type 0
EndingSo image world began listed left c ending.Whole = AllRun image world began listed c.outside
EndingSo image world began listed left c ending.Spent =
    (left ≡ 0) × SomeRun image world began listed c.outside
EndingSo image world began listed left c ending.Stopped = IsGoing c → ⊥
EndingSo image world began listed left c ending.Starved = Unit {0}

module _ {J : Type 0} where
  -- a run goes on, and this is the token that it names
  abbrev pub GoesWith : Token → Verdict J → Type 0
  GoesWith t (Go token tokens) = token ≡ t
  GoesWith t (Ends e) = ⊥

  -- a run goes on where some may fire and no table has had the token that it names, or it has ended
  abbrev pub CourseSo : Image → World → List (Option Began) → Part → ℕ → Content → Verdict J → Type 0
  CourseSo image world began part left c (Go token tokens) = (0 < left) × IsMissing part.held token
  CourseSo image world began part left c (Ends e) = EndingSo image world began part.fired left c e
