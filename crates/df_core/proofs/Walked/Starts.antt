-- The start pulse's tokens.
use Rattle.std.proofs.Common.{arith, ◌≡◌, ℕ, List, ap, ◌∙◌}
use Rattle.ws_words.specs.Outside.{World}
use Rattle.ws_isa.specs.declared.instr.Dest.{Dest}
use Rattle.ws_isa.specs.Image.{Image, tokens_to, start_dests}
use Rattle.ws_isa.specs.Formed.{Formed}
use Rattle.ws_isa.specs.Sound.{Sound}
use Rattle.ws_isa.specs.Walk.{start_tokens}
use Rattle.df_core.specs.Core.{IsSent}
use Rattle.df_core.specs.Fit.{RightToken}
use Rattle.df_core.proofs.Walked.FromSound.{facts_of}
use Rattle.df_core.proofs.Walked.PortsThere.{ports_there}

pub starts_are : (image im : Image) (dests : List Dest) → dests ≡ start_dests im → im ≡ image
    → tokens_to 0 0 dests ≡ start_tokens image
unfolding start_tokens
starts_are image im dests is same = ap (tokens_to 0 0) (is ∙ ap start_dests same)

pub starts_right : (image im : Image) (world : World) (dests : List Dest) → Formed image → Sound image
    → dests ≡ start_dests im → im ≡ image → (w i p v : ℕ) → IsSent (tokens_to 0 0 dests) w i p v
    → RightToken image world w i p v
starts_right image im world dests formed sound is same w i p v sent =
    (facts_of image world (ports_there image formed) sound).start w i p v
    (grind (arith, starts_are))
