-- Tokens in flight, as the code holds them.
use Rattle.std.specs.Prelude.{ℕ, slice_index_or, ◌≡◌, ◌⊎◌, List, [], ◌∷◌, ◌++◌, map}
use Rattle.ws_isa.specs.Image as plain
use Rattle.df_core.specs.Core.{IsSent}
use Rattle.df_core.specs.declared.plain.Token.{Token}
use Rattle.df_core.specs.declared.way.Way.{Way}

abbrev pub token_of : Token → plain.Token
token_of t = record { wave = t.wave; instr = t.instr; port = t.port; value = t.value }

abbrev pub way_of : Way → List plain.Token
way_of w = map token_of w.now.items ++ map token_of w.later.items

-- these tokens came behind those of one list
abbrev pub SentTo : Way → Way → List plain.Token → Type 0
SentTo old new ts =
    ((map token_of new.now.items ≡ map token_of old.now.items ++ ts)
    × (new.later.items ≡ old.later.items))
    ⊎ ((new.now.items ≡ old.now.items)
    × (map token_of new.later.items ≡ map token_of old.later.items ++ ts))

-- this token was the last of the first list, or of the second where the first had none
abbrev pub TakenFrom : Way → Way → Token → Type 0
TakenFrom old new t =
    ((old.now.items ≡ new.now.items ++ t ∷ []) × (new.later.items ≡ old.later.items))
    ⊎ ((old.now.items ≡ []) × (old.later.items ≡ new.now.items ++ t ∷ []) × (new.later.items ≡ []))

-- no token of the list is at the port of the instance
abbrev pub NoneAt : List plain.Token → ℕ → ℕ → ℕ → Type 0
NoneAt ts w i p = (v : ℕ) → IsSent ts w i p v → ⊥

abbrev pub no_token : Token
no_token = record { wave = 0; instr = 0; port = 0; value = 0 }

-- the token at a place of a list is at the port of the instance
pub record IsTokenAt (ts : List Token) (k w i p : ℕ) : Type 0 where
  pub wave : (slice_index_or ts k no_token).wave ≡ w
  pub instr : (slice_index_or ts k no_token).instr ≡ i
  pub port : (slice_index_or ts k no_token).port ≡ p

-- this token, at the port of the instance, was taken out of its place
pub record TakenAt (old new : Way) (w i p : ℕ) (t : Token) : Type 0 where
  pub before : List plain.Token
  pub behind : List plain.Token
  pub old_is : way_of old ≡ before ++ token_of t ∷ behind
  pub new_is : way_of new ≡ before ++ behind
  pub wave : t.wave ≡ w
  pub instr : t.instr ≡ i
  pub port : t.port ≡ p
