-- A buffer's order: what is issued and what waits, and what is true of it whenever no call is at work.
use Rattle.std.specs.Prelude.{ℕ, Bool, List, Option}
use Rattle.ws_words.specs.Outside.{Outside, World}
use Rattle.ws_isa.specs.Image.{Image}
use Rattle.df_core.specs.Core.{Chain}
use Rattle.df_core.specs.Fit.{Legal}
use Rattle.df_core.specs.Stands.{HasEarly, EarlyIssued}

-- it is legal, and the issued loads that the chain hasn't passed are listed
pub record OrderGoes (image : Image) (world : World) (issued : ℕ → ℕ → Option ℕ)
    (waiting : ℕ → ℕ → Option (List ℕ)) (stopped : Bool) (chain : Chain) (memory : Outside)
    (early : List ℕ) : Type 0 where
  pub legal : Legal image world issued waiting stopped chain memory
  pub early_issued : EarlyIssued issued chain early
  pub early_all : HasEarly image world issued chain early
