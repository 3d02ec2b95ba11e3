-- What a run is given and what it leaves, as plain data.
use Rattle.std.specs.Prelude.{ℕ, zero, suc, ◌==◌, Bool, true, false, List, [], ◌∷◌, if◌then◌else◌}
use Rattle.ws_words.specs.Outside as outside
use Rattle.ws_words.specs.Outside.{Act, takes}
use Rattle.ws_words.specs.declared.plain.World.{World}
use Rattle.ws_words.specs.declared.plain.Plain.{Plain}
use Rattle.ws_words.specs.declared.plain.Plain.TheVariants.{Ended, Fault, Going}

abbrev pub world_of : World → outside.World
world_of w = record { input = w.input; left = w.left }

-- the words that acts take for a port, in order
abbrev pub took_words : ℕ → List Act → List ℕ
took_words port [] = []
took_words port (takes p w ∷ acts) =
    if p == port then w ∷ took_words port acts else took_words port acts
took_words port (_ ∷ acts) = took_words port acts

-- the same for so many ports, from this one on
abbrev pub took_from : ℕ → ℕ → List Act → List (List ℕ)
took_from port zero acts = []
took_from port (suc n) acts = took_words port acts ∷ took_from (suc port) n acts

-- the same for each of the ports 1 to 7
abbrev pub took_by_ports : List Act → List (List ℕ)
took_by_ports acts = took_from 1 7 acts

-- a fact of an answer that ended: of what it printed, its arrays, what its ports took and its turns
abbrev pub IfEnded : Plain → (List ℕ → List (List ℕ) → List (List ℕ) → ℕ → Type 0) → Type 0
IfEnded (Ended printed arrays took turns) P = P printed arrays took turns
IfEnded (Fault array printed arrays took turns) P = Unit {0}
IfEnded (Going printed) P = Unit {0}

-- a fact of an answer that is going: of what it printed
abbrev pub IfGoing : Plain → (List ℕ → Type 0) → Type 0
IfGoing (Ended printed arrays took turns) P = Unit {0}
IfGoing (Fault array printed arrays took turns) P = Unit {0}
IfGoing (Going printed) P = P printed

abbrev pub has_ended : Plain → Bool
has_ended (Ended printed arrays took turns) = true
has_ended (Fault array printed arrays took turns) = false
has_ended (Going printed) = false

abbrev pub has_faulted : Plain → Bool
has_faulted (Ended printed arrays took turns) = false
has_faulted (Fault array printed arrays took turns) = true
has_faulted (Going printed) = false
