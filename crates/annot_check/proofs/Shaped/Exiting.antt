-- The exit of a block, by its kind.
use Rattle.std.proofs.Common.{ℕ, suc, ◌≡◌, ◌<◌, true, false, List, ◌∷◌, refl, subst, arith}
use Rattle.std.specs.List.{AllByRecursion}
use Rattle.ws_isa.specs.declared.instr.Op.TheVariants.{Send}
use Rattle.ws_isa.specs.Formed.{Formed, InstrWithin, most_pads}
use Rattle.ws_isa.specs.Image.{Instr, no_instr, instr_at, Goto, Branch, Landings, Stop, Image, block_at}
use Rattle.ws_isa.specs.Image.{stops, is_stop, target, leave_to, is_first, is_giving, IsIn, IsBlock}
use Rattle.ws_isa.specs.Sound.{IsLater, EdgeShape, ExitShape}
use Rattle.annot_check.specs.Table.{choices_of}
use Rattle.annot_check.proofs.Shaped.Edges.{same_edge, SameEdge}
use Rattle.annot_check.proofs.Slotted.Suits.{targets_in}
use Rattle.ws_words.specs.Items.{nth, or_else}

pub stop_of : (image : Image) (b : ℕ) → stops image b ≡ is_stop (block_at image b).exit
unfolding stops
stop_of image b = refl

target_of : (image : Image) (b r : ℕ) → target image b r ≡ leave_to (block_at image b).exit r
unfolding target
target_of image b r = refl

-- what holds for the edges at the choices of an exit holds for all
pub each_edge : (P : ℕ → Type 0) (image : Image) (b : ℕ) → stops image b ≡ false →
    ((r : ℕ) → r < choices_of (block_at image b).exit → P (target image b r)) → (r : ℕ) → P (target image b r)
each_edge P image b g h r = let s : SameEdge (block_at image b).exit r = grind (arith, same_edge, stop_of) in
    subst P (grind (arith, target_of)) (h s.choice s.below)

abbrev pub Later : Image → ℕ → ℕ → Type 0
Later image b t = is_first image t ≡ false → (b < t) × ((block_at image t).wave ≡ (block_at image b).wave)

pub edge_shape : (image : Image) (b : ℕ) → Formed image → IsBlock image b → stops image b ≡ false →
    ((r : ℕ) → r < choices_of (block_at image b).exit → IsLater image b r) → EdgeShape image b
edge_shape image b f h g l = record {
  there = λ r s. targets_in image b r f.suited h s;
  later = λ r s. each_edge (Later image b) image b g l r;
}

pub stop_edges : (image : Image) (b : ℕ) → stops image b ≡ true → EdgeShape image b
stop_edges image b g = grind arith

pub goto_shape : (image : Image) (b n : ℕ) → (block_at image b).exit ≡ Goto n → ExitShape image b
goto_shape image b n e = grind arith

pub branch_shape : (image : Image) (b s x y : ℕ) → (block_at image b).exit ≡ Branch s x y →
    IsIn image b s × (is_giving image s ≡ true) → ExitShape image b
branch_shape image b s x y e i = grind arith

pub landings_shape : (image : Image) (b s : ℕ) (ls : List ℕ) → (block_at image b).exit ≡ Landings s ls →
    IsIn image b s × (is_giving image s ≡ true) → ExitShape image b
landings_shape image b s ls e i = grind arith

pub stop_shape : (image : Image) (b : ℕ) → (block_at image b).exit ≡ Stop → ExitShape image b
stop_shape image b e = grind arith

pub landing_goes : (image : Image) (b s : ℕ) (ls : List ℕ) → (block_at image b).exit ≡ Landings s ls →
    stops image b ≡ true → ⊥
landing_goes image b s ls e g = grind (arith, stop_of)

send_small : (is : List Instr) (k p : ℕ) → AllByRecursion InstrWithin is →
    (or_else (nth is k) no_instr).op ≡ Send p → p < 16
unfolding no_instr most_pads
send_small (i ∷ is) (suc k) p a e = send_small is k p a.1 e
send_small is k p a e = grind arith

-- the pad of a send is below 16
pub send_below : (image : Image) → Formed image → (k p : ℕ) → (instr_at image k).op ≡ Send p → p < 16
unfolding instr_at no_instr
send_below image f k p e = grind (arith, send_small)
