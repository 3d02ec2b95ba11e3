-- What is missing in a draft whose shape and slots are right, so that it can't be annotated.
use Rattle.std.specs.Prelude.{ℕ, suc, ◌-◌, Bool, true, false, cond, not, ◌&&◌, ◌||◌, eqb, ltb, List, []}
use Rattle.std.specs.Prelude.{◌∷◌, get_or, Option, Some, None}
use Rattle.ws_isa.specs.Image.{Instr, Exit, Goto, Branch, Landings, Stop, Block, Image}
use Rattle.ws_words.specs.Items.{nth}
use Rattle.wave_link.specs.Grown.{added_in, annotated}
use Rattle.asm_link.specs.declared.fault.Unfit.{Unfit}
use Rattle.asm_link.specs.declared.fault.Unfit.TheVariants.{Arm, Trigger, Full, Many}
use Rattle.asm_link.specs.Ways.{any_giving, hits_of, marks_of}
use Rattle.asm_link.specs.Room.{full_in, count_in}

abbrev pub wave_of : Option Block → ℕ
wave_of None = 0
wave_of (Some b) = b.wave

-- the wave of the block with this number
abbrev pub wave_in : List Block → ℕ → ℕ
wave_in bs n = cond (eqb n 0) 0 (wave_of (nth bs (n - 1)))

-- it is the first of its wave
abbrev pub starts_in : List Block → ℕ → Bool
starts_in bs n = cond (eqb n 0) false (cond (eqb n 1) true (not (eqb (wave_in bs n) (wave_in bs (n - 1)))))

-- it is not, and one edge leads to it
abbrev pub is_arm : List Block → List ℕ → ℕ → Bool
is_arm bs hits c = not (starts_in bs c) && eqb (get_or hits c 0) 1

-- both edges of a branch lead to arms, or both out of the wave
abbrev pub forks_or_ends : List Block → List ℕ → Exit → Bool
forks_or_ends bs hits (Goto b) = true
forks_or_ends bs hits (Branch s x y) =
    (is_arm bs hits x && is_arm bs hits y) || (starts_in bs x && starts_in bs y)
forks_or_ends bs hits (Landings s ls) = true
forks_or_ends bs hits Stop = true

-- a no-op at its end could get a token: from an instruction of the block, or, where it isn't the first of
-- its wave, from a steer of the block from which the one edge comes
abbrev pub is_triggered : List Block → List ℕ → List Bool → ℕ → List Instr → Bool
is_triggered bs hits marks b is =
    any_giving is || (is_arm bs hits b && get_or marks b false)

-- what is missing in block n, where the first is block 0; `added` says which get a no-op
abbrev pub of_block : List Block → List ℕ → List Bool → List Bool → ℕ → Block → Option Unfit
of_block bs hits marks added n x = cond (forks_or_ends bs hits x.exit)
    (cond (not (get_or added n false) || is_triggered bs hits marks (suc n) x.instrs) None
    (Some (Trigger (suc n))))
    (Some (Arm (suc n)))

abbrev pub or_next : Option Unfit → Option Unfit → Option Unfit
or_next None o = o
or_next (Some x) o = Some x

-- block n and those after it
abbrev pub of_blocks : List Block → List ℕ → List Bool → List Bool → ℕ → List Block → Option Unfit
of_blocks bs hits marks added n [] = None
of_blocks bs hits marks added n (x ∷ xs) =
    or_next (of_block bs hits marks added n x) (of_blocks bs hits marks added (suc n) xs)

-- the first block in which something is missing
abbrev pub lack_in : List Block → Option Unfit
lack_in bs = of_blocks bs (hits_of bs) (marks_of bs) (added_in bs) 0 bs

abbrev pub full_as : Option ℕ → Option Unfit → Option Unfit
full_as None o = o
full_as (Some k) o = Some (Full k)

-- where an image of these blocks passes a limit; 4,194,304 are the most instructions
abbrev pub room_in : List Block → List Block → Option Unfit
room_in bs cs = full_as (full_in 1 0 bs cs) (cond (ltb 4194304 (count_in cs)) (Some Many) None)

-- what is missing in a draft
unfoldable pub lacks : Image → Option Unfit
lacks draft = or_next (lack_in draft.blocks) (room_in draft.blocks (annotated draft).blocks)
