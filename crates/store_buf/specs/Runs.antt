-- Tokens in flight, and what a run over tables and a buffer has done and what is outstanding.
use Rattle.std.specs.Prelude.{ℕ, ◌≡◌, ◌⊎◌, false, true, List, Some, Result, Ok, Err}
use Rattle.ws_isa.specs.Image.{Image, Token, is_memory, result_of, sends}
use Rattle.ws_isa.specs.Walk.{Ports, start_tokens}
use Rattle.df_core.specs.Core.{HasFired, IsSent, operands_in}
use Rattle.df_core.specs.Shown.{Tables}
use Rattle.store_buf.specs.declared.fault.BufFault.{BufFault}
use Rattle.store_buf.specs.declared.fault.BufFault.TheVariants as fault

-- the other list has each token of the one
abbrev pub Covers : List Token → List Token → Type 0
Covers some all = (w i p v : ℕ) → IsSent some w i p v → IsSent all w i p v

-- a token has arrived at the port, or is in flight to it
abbrev pub IsOnItsWay : Ports → List Token → ℕ → ℕ → ℕ → Type 0
IsOnItsWay held way w i p = ((v : ℕ) × (held w i p ≡ Some v)) ⊎ ((v : ℕ) × IsSent way w i p v)

-- each of these has come, or one is in flight to its port
abbrev pub AllReach : Ports → List Token → List Token → Type 0
AllReach held way ts = (w i p v : ℕ) → IsSent ts w i p v → IsOnItsWay held way w i p

-- The start pulse has been sent; each instance that has fired has sent its result tokens, or its request is
-- known; and the outstanding tokens of a buffer have been sent, list by list.
pub record PaidOf (image : Image) (t : Tables) (known : ℕ → ℕ → Type 0) (owes : List Token → Type 0)
    (way : List Token) : Type 0 where
  pub start : AllReach t.held way (start_tokens image)
  pub told : (w i : ℕ) → HasFired t.fired w i → is_memory image i ≡ false → AllReach t.held way
      (sends image w i (operands_in image t.held w i) (result_of image i (operands_in image t.held w i)))
  pub asked : (w i : ℕ) → HasFired t.fired w i → is_memory image i ≡ true → known w i
  pub answered : (ts : List Token) → owes ts → AllReach t.held way ts

-- what a buffer answered is in flight, and what was there
abbrev pub IsOffered : Result (List Token) BufFault → List Token → List Token → Type 0
IsOffered (Ok tokens) old new = Covers old new × Covers tokens new
IsOffered (Err fault.NoMemory) old new = ⊥
IsOffered (Err _) old new = new ≡ old
