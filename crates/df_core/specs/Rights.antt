-- Right tokens and requests, as contracts see them.
use Rattle.std.specs.Prelude.{ℕ, zero, suc, List, [], ◌∷◌, map}
use Rattle.ws_words.specs.Outside.{World}
use Rattle.ws_isa.specs.Image.{Image, Token, ports}
use Rattle.df_core.specs.Fit.{RightToken, RightRequest}

abbrev pub IsRight : Image → World → Token → Type 0
IsRight image world t = RightToken image world t.wave t.instr t.port t.value

-- the operands of a memory operation with one port or two
abbrev pub operands_of : ℕ → ℕ → ℕ → List ℕ
operands_of zero first second = []
operands_of (suc zero) first second = first ∷ []
operands_of (suc (suc n)) first second = first ∷ second ∷ []

-- a request: its instance, and its operands; the second is 0 where there is one
pub record Asked : Type 0 where
  pub wave : ℕ
  pub instr : ℕ
  pub first : ℕ
  pub second : ℕ

abbrev pub IsAsked : Image → World → Asked → Type 0
IsAsked image world r = RightRequest image world r.wave r.instr
    (operands_of (ports image r.instr) r.first r.second)

-- a token as a list of them keeps it
abbrev pub token_of : ℕ × ℕ × ℕ × ℕ → Token
token_of t = record { wave = t.0; instr = t.1; port = t.2; value = t.3 }

abbrev pub tokens_of : List (ℕ × ℕ × ℕ × ℕ) → List Token
tokens_of ts = map token_of ts
