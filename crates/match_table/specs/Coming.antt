-- Tokens that are brought to tables between two phases and in them.
use Rattle.std.specs.Prelude.{ℕ, ◌≡◌, ◌+◌, ◌%◌, List, Some, None, length, slice_set}
use Rattle.ws_isa.specs.Image.{Image, Token}
use Rattle.ws_isa.specs.Walk.{Ports}
use Rattle.df_core.specs.Core.{Apart, IsSent}
use Rattle.match_table.specs.declared.table.Results.{Results}
use Rattle.match_table.specs.declared.table.Took.{Took}
use Rattle.match_table.specs.Matching.{TookAs, FiresSo, will_fire}
use Rattle.match_table.specs.Growth.{content_at}
use Rattle.match_table.specs.Tables.{TableContent}

-- the number of the table that serves a token's instance
abbrev pub served : Token → ℕ
served t = (t.wave + t.instr) % 16

-- the table that serves the token's instance has answered so, and the others are as they were
abbrev pub BroughtSo : {J : Type 0} → Image → List TableContent → Token → List TableContent → Results J →
    Took → Type 0
BroughtSo image old t new rs took = (new ≡ slice_set old (served t) (content_at new (served t)))
    × TookAs image (content_at old (served t)) t (content_at new (served t)) rs took
    × FiresSo took (will_fire image (content_at old (served t)) t)

-- so many tokens have come, no two to one port: what is held now has them, and what was held before had none
-- of them
pub record Came (old new : Ports) (count : ℕ) : Type 0 where
  pub tokens : List Token
  pub count_is : length tokens ≡ count
  pub apart : Apart tokens
  pub fresh : (w i p v : ℕ) → IsSent tokens w i p v → old w i p ≡ None
  pub there : (w i p v : ℕ) → IsSent tokens w i p v → new w i p ≡ Some v
