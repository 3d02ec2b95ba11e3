-- The chain passes at most one end of a wave at once.
use Rattle.std.proofs.Common.{ℕ, suc, ◌≡◌, ◌≤◌, ◌⊎◌, List, [], refl, arith}
use Rattle.ws_isa.specs.declared.instr.Link.{Link}
use Rattle.ws_isa.specs.declared.instr.Note.{Note}
use Rattle.ws_isa.specs.Image.{Image, note_of}
use Rattle.df_core.specs.Core.{Chain, pass, pass_by}
use Rattle.df_core.specs.Stands.{left_by, left_after, Settles, done, rests, drops, goes}
use Rattle.df_core.specs.Chains.{PassedOn}
use Rattle.ws_words.specs.Items.{In}

-- the wave stays, or it is over and nothing is left
link_cases : (c : Chain) (n : Note) (l : Link) (early : List ℕ) → ((pass_by c n l).wave ≡ c.wave)
    ⊎ (((pass_by c n l).wave ≡ suc c.wave) × (left_by l early ≡ []))
link_cases c n l early = grind arith

none_left : (image : Image) (c d : Chain) (early left : List ℕ) → ((i : ℕ) → In i early → ⊥)
    → Settles image c early d left → d.wave ≡ c.wave
none_left image c d early left none (drops mid back forth rest) = none_left image c d mid left
    (λ j k. none j (back j k)) rest
none_left image c d early left none (goes i mid h nx back forth rest) = absurd (none i h)
none_left image c d early left none x = refl

pub settles_few : (image : Image) (c d : Chain) (early left : List ℕ) → Settles image c early d left
    → (c.wave ≤ d.wave) × (d.wave ≤ suc c.wave)
settles_few image c d early left (done n) = (omega arith, omega arith)
settles_few image c d early left (rests i h not_next ahead least) = (omega arith, omega arith)
settles_few image c d early left (drops mid back forth rest) = settles_few image c d mid left rest
settles_few image c d early left (goes i mid h nx back forth rest) =
    grind (
      arith,
      link_cases,
      none_left,
      settles_few image (pass c (note_of image i)) d (left_after (note_of image i) mid) left rest,
    )

pub passed_few : (image : Image) (c d : Chain) (i : ℕ) (early left : List ℕ) → PassedOn image c i early d left
    → (c.wave ≤ d.wave) × (d.wave ≤ suc c.wave)
passed_few image c d i early left x = grind (arith, link_cases, settles_few, none_left)
