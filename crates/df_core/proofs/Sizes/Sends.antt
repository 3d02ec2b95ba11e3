-- Tokens to a list of destinations, one after another.
use Rattle.std.proofs.Common.{◌≡◌, ◌+◌, ◌<◌, ℕ, zero, suc, List, [], ◌∷◌, ◌++◌, All, length, take, get_or}
use Rattle.std.proofs.Common.{refl, ap, inl, inr, arith, add-one}
use Rattle.std.proofs.lemmas.List.{append_assoc}
use Rattle.ws_isa.specs.declared.instr.Dest.{Dest}
use Rattle.ws_words.specs.Outside.{World}
use Rattle.ws_isa.specs.Image.{Image, Token, tokens_to}
use Rattle.df_core.specs.Core.{IsSent}
use Rattle.df_core.specs.Fit.{RightToken}
use Rattle.df_core.specs.Rights.{IsRight}

abbrev token : ℕ → ℕ → Dest → Token
token w v d = record { wave = w; instr = d.instr; port = d.port; value = v }

tokens_suc : (w v : ℕ) (ds : List Dest) (k : ℕ) (d : Dest) → k < length ds
    → tokens_to w v (take (suc k) ds) ≡ tokens_to w v (take k ds) ++ token w v (get_or ds k d) ∷ []
tokens_suc w v [] k d lt = absurd (omega arith)
tokens_suc w v (x ∷ ds) zero d lt = refl
tokens_suc w v (x ∷ ds) (suc k) d lt = grind (arith, token, tokens_suc w v ds k d (omega (arith, lt)))

tokens_more : (w v : ℕ) (ds : List Dest) (k : ℕ) (d : Dest) → k < length ds
    → tokens_to w v (take (k + 1) ds) ≡ tokens_to w v (take k ds) ++ token w v (get_or ds k d) ∷ []
tokens_more w v ds k d lt = rw (add-one k) (tokens_suc w v ds k d lt)

pub sent_at : (w v : ℕ) (ds : List Dest) (k : ℕ) (d : Dest) → k < length ds
    → IsSent (tokens_to w v ds) w (get_or ds k d).instr (get_or ds k d).port v
sent_at w v [] k d lt = absurd (omega arith)
sent_at w v (x ∷ ds) zero d lt = inl (refl, refl, refl, refl)
sent_at w v (x ∷ ds) (suc k) d lt = inr (sent_at w v ds k d (omega arith))

-- one more token at the end
pub sent_behind : (old now : List Token) (w v : ℕ) (ds : List Dest) (k : ℕ) (d : Dest) → k < length ds
    → now ≡ old ++ tokens_to w v (take k ds) → now ++ token w v (get_or ds k d) ∷ [] ≡ old ++ tokens_to w v
    (take (k + 1) ds)
sent_behind old now w v ds k d lt is = grind (arith, token, append_assoc, tokens_more)

is_there : (ts : List Token) (k : ℕ) (d : Token) → k < length ts → IsSent ts (get_or ts k d).wave
    (get_or ts k d).instr (get_or ts k d).port (get_or ts k d).value
is_there [] k d lt = absurd (omega arith)
is_there (t ∷ ts) zero d lt = inl (refl, refl, refl, refl)
is_there (t ∷ ts) (suc k) d lt = inr (is_there ts k d (omega arith))

-- where each token that is sent is right, all of the list are
pub all_right : (image : Image) (world : World) (ts : List Token)
    → ((w i p v : ℕ) → IsSent ts w i p v → RightToken image world w i p v) → All (IsRight image world) ts
all_right image world ts right k d lt = grind (arith, is_there)

-- a token for each destination
pub tokens_count : (w v : ℕ) (ds : List Dest) → length ds ≡ length (tokens_to w v ds)
tokens_count w v [] = refl
tokens_count w v (d ∷ ds) = ap suc (tokens_count w v ds)
