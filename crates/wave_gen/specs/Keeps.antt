-- What a draft keeps of the graph that it is drawn from.
use Rattle.std.specs.Prelude.{ℕ, suc, ◌*◌, ◌≡◌, ◌<◌, true, false, List, length}
use Rattle.ws_words.specs.Outside.{Outside, ProcState, World}
use Rattle.ws_words.specs.Past.{ActsBegin}
use Rattle.ws_isa.specs.Image.{Image}
use Rattle.ws_isa.specs.Walk.{mem, has_ended, CostAtMost}
use Rattle.ws_isa.specs.Walk.{walk as instances}
use Rattle.cfg_core.specs.Graph.{Graph}
use Rattle.cfg_core.specs.Walk.{At, Over, Going, Frame, walk, opening, Goes}

-- Where the graph's walk has ended after m blocks, the draft's walk ends and leaves the same, acts
-- included. Where it is at a block after m blocks, the draft's walk hasn't ended and has what the
-- graph's has outside, and has fired an instruction for each so many of these blocks. Where it is
-- out of turns, the draft's walk does first what it has done.
pub record KeepsWalk (g : Graph) (draft : Image) (world : World) (turns : ℕ) : Type 0 where
  pub ends : (m : ℕ) (o : Outside) (left : ℕ) → walk g m (opening g world turns) ≡ Over o left →
      (t : ℕ) × (has_ended draft world t ≡ true) × (mem draft world t ≡ o)
      × CostAtMost draft world (length (instances draft world t))
  pub goes_on : (m b : ℕ) (st : ProcState) (frames : List Frame) (left : ℕ) →
      walk g m (opening g world turns) ≡ At b st frames left →
      (t : ℕ) × (has_ended draft world t ≡ false) × (mem draft world t ≡ st.out)
      × (m < length draft.blocks * suc (length (instances draft world t)))
  pub out_of_turns : (m : ℕ) (o : Outside) → walk g m (opening g world turns) ≡ Going o →
      (t : ℕ) × ActsBegin o.acts (mem draft world t).acts

-- A draft's walk costs no bounded number of instances where the graph's takes every turn.
abbrev pub EndlessWith : Graph → Image → World → Type 0
EndlessWith g draft world = ((turns : ℕ) → (o : Outside) × Goes g world turns o) →
    (k : ℕ) → CostAtMost draft world k → ⊥
