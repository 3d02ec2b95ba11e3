-- What breaks the rules on links and ripples, with the paths on which it does. Operations are named
-- in the order of the paths, with 0 for the start and the end of a wave.
use Rattle.std.specs.Prelude.{ℕ, suc, ◌≡◌, ◌<◌, ◌≤◌, true, false, List, Option, Some, None}
use Rattle.ws_isa.specs.declared.instr.Link.TheVariants.{Nothing, Is}
use Rattle.ws_isa.specs.Image.{Image, first_number, is_memory, is_writing, note_of}
use Rattle.ws_isa.specs.Sound.{InWave, ComesNext, PathEnds, seq, wave_at}
use Rattle.ws_words.specs.Items.{In}

-- operation k follows operation j, and their annotations don't allow it
pub data Disagree (image : Image) (j k : ℕ) : Type 0 where
  falls : seq image k ≤ seq image j → Disagree image j k
  apart : ((note_of image j).succ ≡ Is (seq image k) → ⊥) →
      ((note_of image k).pred ≡ Is (seq image j) → ⊥) → Disagree image j k
  other_succ : {n : ℕ} → (note_of image j).succ ≡ Is n → (seq image k ≡ n → ⊥) → Disagree image j k
  no_succ : (note_of image j).succ ≡ Nothing → Disagree image j k
  other_pred : {n : ℕ} → (note_of image k).pred ≡ Is n → (seq image j ≡ n → ⊥) → Disagree image j k
  no_pred : (note_of image k).pred ≡ Nothing → Disagree image j k

-- operations j and k break a rule on links; 0 stands for the start and the end of a wave
pub data LinkBreach (image : Image) : ℕ → ℕ → Type 0 where
  not_positive : {k : ℕ} {last : Option ℕ} → ComesNext image last k → seq image k ≡ 0 →
      LinkBreach image k k
  twice : {j k : ℕ} {l m : Option ℕ} (f : ComesNext image l j) (g : ComesNext image m k) →
      wave_at f ≡ wave_at g → seq image j ≡ seq image k → j < k → LinkBreach image j k
  pair : {j k : ℕ} → ComesNext image (Some j) k → Disagree image j k → LinkBreach image j k
  no_op : PathEnds image None → LinkBreach image 0 0
  first : {k : ℕ} → ComesNext image None k → ((note_of image k).pred ≡ Nothing → ⊥) →
      LinkBreach image 0 k
  last : {k : ℕ} → PathEnds image (Some k) → ((note_of image k).succ ≡ Nothing → ⊥) →
      LinkBreach image k 0

-- writing operation k has another ripple than its own number, or k has one below that of a writing
-- operation j before it
pub data RippleBreach (image : Image) : ℕ → ℕ → Type 0 where
  not_own : {k : ℕ} {last : Option ℕ} → ComesNext image last k → is_writing image k ≡ true →
      ((note_of image k).ripple ≡ seq image k → ⊥) → RippleBreach image k k
  below : {b k j : ℕ} {done : List ℕ} → InWave image b k done → k < first_number image (suc b) →
      is_memory image k ≡ true → is_writing image k ≡ false → In j done →
      is_writing image j ≡ true →
      (note_of image k).ripple < seq image j → RippleBreach image k j
