-- What a source and a sink tell of a call that has read a text and written another.
use Rattle.std.proofs.Common.{◌≡◌, ℕ, List, [], Option, Some, sym, subst}
use Rattle.ws_io.specs.Streams.{Adds, TakesAll}

-- what went out where nothing was held before
pub wrote_is : (held holds : Option (List ℕ)) (bytes out : List ℕ) → held ≡ Some [] → holds ≡ Some out
    → Adds held bytes holds → bytes ≡ out
wrote_is held holds bytes out before after adds =
    let whole : holds ≡ Some bytes = subst (λ (h : Option (List ℕ)). Adds h bytes holds) before adds in cc

-- the text that is told was read
pub read_is : (left : Option (List ℕ)) (after : Option (List ℕ)) (text whole : List ℕ) → left ≡ Some text
    → TakesAll left whole after → whole ≡ text
read_is left after text whole given takes =
    let both : (text ≡ whole) × (after ≡ Some []) =
    subst (λ (o : Option (List ℕ)). TakesAll o whole after) given takes in
    sym both.0
