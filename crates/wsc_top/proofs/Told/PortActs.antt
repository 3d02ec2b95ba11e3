-- What acts leave in ports.
use Rattle.std.specs.Prelude.{◌≡◌, ℕ, suc, ◌-◌, false, List, [], ◌∷◌, Option, Some, refl}
use Rattle.std.proofs.Common.{arith}
use Rattle.std.proofs.Math.Nat.{eq-or-lt_of_le}
use Rattle.ws_words.specs.Outside.{Act, loads, stores, reads, prints, gives, takes, Outside, World, row}
use Rattle.ws_words.specs.Outside.{with_row, rest_of}
use Rattle.ws_words.specs.Past.{after_act, after_acts}
use Rattle.ws_words.specs.Plain.{took_words}
use Rattle.ws_isa.specs.declared.instr.Op.{Op}
use Rattle.ws_isa.specs.declared.instr.Op.TheVariants.{Give, Take}
use Rattle.ws_isa.specs.Image.{Array, Image, instr_at, acts_of_op, is_past, is_past_op}
use Rattle.ws_isa.specs.Walk.{Inst, fires}
use Rattle.ws_isa.specs.Operations.{past}
use Rattle.df_core.specs.Ends.{FirstWithin}
use Rattle.cfg_core.specs.Graph.{GraphArray}
use Rattle.cfg_core.specs.Shown.{shown_acts}
use Rattle.df_core.specs.Began.{Began}
use Rattle.port_set.specs.Ports.{Told}
use Rattle.store_buf.specs.Outdoors.{SlotsAre, port_of}
use Rattle.wsc_top.specs.Answers.{IsOnPort}

-- ports are where they are left by whatever leaves the same there
pub ports_moved : (began : List (Option Began)) (o p : Outside) (back : List (Option Told)) → o.left ≡ p.left
    → ((slot : ℕ) → took_words slot o.acts ≡ took_words slot p.acts) → SlotsAre began o back
    → SlotsAre began p back
ports_moved began o p back l t h slot a b = grind arith

-- the words that acts leave in ports
abbrev left_after : List (List ℕ) → List Act → List (List ℕ)
left_after left [] = left
left_after left (loads a i ∷ acts) = left_after left acts
left_after left (stores a i w ∷ acts) = left_after left acts
left_after left (reads ∷ acts) = left_after left acts
left_after left (prints w ∷ acts) = left_after left acts
left_after left (gives p ∷ acts) = left_after (with_row left (p - 1) (rest_of (row left (p - 1)))) acts
left_after left (takes p w ∷ acts) = left_after left acts

left_is : (o : Outside) (acts : List Act) → (after_acts o acts).left ≡ left_after o.left acts
left_is o [] = refl
left_is o (loads a i ∷ acts) = left_is (after_act o (loads a i)) acts
left_is o (stores a i w ∷ acts) = left_is (after_act o (stores a i w)) acts
left_is o (reads ∷ acts) = left_is (after_act o reads) acts
left_is o (prints w ∷ acts) = left_is (after_act o (prints w)) acts
left_is o (gives p ∷ acts) = left_is (after_act o (gives p)) acts
left_is o (takes p w ∷ acts) = left_is (after_act o (takes p w)) acts

module _ (arrays : List GraphArray) where
  -- what isn't shown leaves ports alone
  shown_left : (left : List (List ℕ)) (acts : List Act) → left_after left (shown_acts arrays acts)
      ≡ left_after left acts
  shown_left left [] = refl
  shown_left left (loads a i ∷ acts) = grind (arith, shown_left left acts)
  shown_left left (stores a i w ∷ acts) = grind (arith, shown_left left acts)
  shown_left left (reads ∷ acts) = shown_left left acts
  shown_left left (prints w ∷ acts) = shown_left left acts
  shown_left left (gives p ∷ acts) = shown_left (with_row left (p - 1) (rest_of (row left (p - 1)))) acts
  shown_left left (takes p w ∷ acts) = shown_left left acts

  pub shown_took : (slot : ℕ) (acts : List Act) → took_words slot (shown_acts arrays acts) ≡ took_words slot
      acts
  shown_took slot [] = refl
  shown_took slot (loads a i ∷ acts) = grind (arith, shown_took slot acts)
  shown_took slot (stores a i w ∷ acts) = grind (arith, shown_took slot acts)
  shown_took slot (reads ∷ acts) = shown_took slot acts
  shown_took slot (prints w ∷ acts) = shown_took slot acts
  shown_took slot (gives p ∷ acts) = shown_took slot acts
  shown_took slot (takes p w ∷ acts) = grind (arith, shown_took slot acts)

  -- what is left after acts is left after what is shown of them
  pub left_shown : (o p : Outside) (acts : List Act) → o.left ≡ p.left → (after_acts o acts).left
      ≡ (after_acts p (shown_acts arrays acts)).left
  left_shown o p acts e = grind (arith, left_is, shown_left)

-- an operation on a port is never past the end
port_within : (arrays : List Array) (op : Op) (xs : List ℕ) (port : ℕ) → port_of op ≡ Some port
    → is_past_op arrays op xs ≡ false
port_within arrays op xs port e = grind arith

-- it has one act, on that port
pub record PortAct (op : Op) (xs : List ℕ) (port : ℕ) : Type 0 where
  pub act : Act
  pub is : acts_of_op op xs ≡ act ∷ []
  pub on : IsOnPort port act
  pub shown : (arrays : List GraphArray) → shown_acts arrays (act ∷ []) ≡ act ∷ []

pub port_act : (op : Op) (xs : List ℕ) (port : ℕ) → port_of op ≡ Some port → PortAct op xs port
port_act (Give p) xs port e = record {
  act = _;
  is = refl;
  on = (let same : p ≡ port = cc in same);
  shown = λ arrays. refl;
}
port_act (Take p) xs port e = record {
  act = _;
  is = refl;
  on = (let same : p ≡ port = cc in same);
  shown = λ arrays. refl;
}
port_act op xs port e = absurd (cc)

-- so the steps up to it are within where those before it are
pub within_next : (image : Image) (world : World) (t port : ℕ) (x : Inst) → fires image world t ≡ Some x
    → port_of (instr_at image x.instr).op ≡ Some port → FirstWithin image world t
    → FirstWithin image world (suc t)
unfolding past is_past
within_next image world t port x e on first u y l f = grind (arith, eq-or-lt_of_le, port_within)
