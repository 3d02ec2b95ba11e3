-- Each token that is told is right.
use Rattle.std.proofs.Common.{ℕ, List, [], ◌∷◌, inl, inr, arith}
use Rattle.std.specs.List.{AllByRecursion}
use Rattle.ws_words.specs.Outside.{World}
use Rattle.ws_isa.specs.Image.{Image, Token}
use Rattle.df_core.specs.Core.{IsSent}
use Rattle.df_core.specs.Fit.{RightToken}
use Rattle.df_core.specs.Rights.{IsRight}

pub each_right : (image : Image) (world : World) (ts : List Token) → AllByRecursion (IsRight image world) ts
    → (w i p v : ℕ) → IsSent ts w i p v → RightToken image world w i p v
each_right image world [] all w i p v e = absurd e
each_right image world (t ∷ ts) all w i p v (inl e) = grind arith
each_right image world (t ∷ ts) all w i p v (inr e) = each_right image world ts all.1 w i p v e
