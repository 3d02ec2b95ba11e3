-- What may stand where, and what the limits allow there.
use Rattle.std.proofs.Common.{◌≡◌, ℕ, ◌<◌, ◌≤◌, length, Bool, true, false, List, [], ◌∷◌, ◌++◌, map, Option}
use Rattle.std.proofs.Common.{Some, None, sym, append_assoc, arith, suc, ◌⊎◌}
use Rattle.std.proofs.lemmas.Bool.{eq-eqb, ne_eqb}
use Rattle.ws_isa.specs.declared.instr.Op.{Op}
use Rattle.ws_isa.specs.Image.{ports_of}
use Rattle.ws_isa.specs.Formed.{most_dests, most_pads, OpIn, SendWithin, RiseFrom, PadsRise}
use Rattle.asm_text.specs.declared.state.Expected.{Expected}
use Rattle.asm_text.specs.State.{next_place, is_above, is_within_op, limit}
use Rattle.asm_text.specs.Spelling.{Wave, wave_items}
use Rattle.std.proofs.lemmas.List.{map-append}
use Rattle.asm_text.specs.declared.line.Label.{Label}
use Rattle.ws_isa.specs.Image as plain
use Rattle.asm_text.specs.declared.line.Line.TheVariants as line
use Rattle.asm_text.specs.declared.state.Expected.TheVariants as place

abbrev pub port_count : plain.Instr → ℕ
port_count i = ports_of i.op

unfoldable pub last_pad : Option ℕ → List plain.Pad → Option ℕ
last_pad last [] = last
last_pad last (p ∷ ps) = last_pad (Some p.number) ps

abbrev pub Rise : Option ℕ → List plain.Pad → Type 0
Rise None ps = PadsRise ps
Rise (Some n) ps = RiseFrom n ps

pub rise_first : (last : Option ℕ) (p : plain.Pad) (ps : List plain.Pad) → Rise last (p ∷ ps)
    → is_above last p.number ≡ true
rise_first last p ps h = grind arith

pub rise_rest : (last : Option ℕ) (p : plain.Pad) (ps : List plain.Pad) → Rise last (p ∷ ps)
    → Rise (Some p.number) ps
rise_rest last p ps h = grind arith

abbrev pub PadWithin : plain.Pad → Type 0
PadWithin p = (p.number < most_pads) × (length p.dests ≤ most_dests)

-- among the instructions of a block, or before them
abbrev pub Inside : Expected → Type 0
Inside place.Pads = Unit {0}
Inside place.Instrs = Unit {0}
Inside p = ⊥

unfoldable pub behind_instrs : Expected → List plain.Instr → Expected
behind_instrs p [] = p
behind_instrs p (i ∷ is) = place.Instrs

pub still_inside : (p : Expected) (is : List plain.Instr) → Inside p → Inside (behind_instrs p is)
unfolding behind_instrs
still_inside p is h = grind arith

pub still_instrs : (is : List plain.Instr) → behind_instrs place.Instrs is ≡ place.Instrs
unfolding behind_instrs
still_instrs is = grind arith

pub op_within : (image : plain.Image) (op : Op) → OpIn image op → SendWithin op → is_within_op op ≡
    true
op_within image op o s = grind arith

-- where a block may begin: behind an exit, or with a new wave
abbrev pub Open : Expected → ℕ → ℕ → Type 0
Open place.Exited w k = (k ≡ w) ⊎ (k ≡ suc w)
Open place.Arrays w k = k ≡ suc w
Open p w k = ⊥

-- where the line of a block may stand
abbrev pub Begun : Expected → Type 0
Begun place.Exited = Unit {0}
Begun place.Wave = Unit {0}
Begun p = ⊥

-- the ports of instructions behind those of a block
pub ports_on : (ports : List ℕ) (is js : List plain.Instr)
    → ports ++ map port_count (is ++ js) ≡ (ports ++ map port_count is) ++ map port_count js
ports_on ports is js = grind (arith, map-append, append_assoc)

-- Limits of the version.

pub limit_of : (v : Bool) (n few most : ℕ) → (v ≡ false → n ≤ few) → n ≤ most → n ≤ limit v few most
limit_of v n few most h k = grind arith

-- Exits stand inside a block.

pub go_next : (p : Expected) (l : Label) → Inside p → next_place p (line.Go l) ≡ Some place.Exited
unfolding next_place
go_next p l h = grind arith

pub branch_next : (p : Expected) (l m n : Label) → Inside p → next_place p (line.If l m n) ≡ Some
    place.Exited
unfolding next_place
branch_next p l m n h = grind arith

pub send_next : (p : Expected) (l : Label) (ls : List Label) → Inside p → next_place p (line.Send l ls)
    ≡
    Some place.Exited
unfolding next_place
send_next p l ls h = grind arith

pub stop_next : (p : Expected) → Inside p → next_place p line.Stop ≡ Some place.Exited
unfolding next_place
stop_next p h = grind arith

-- Waves.

pub same_wave : (last wave : ℕ) → wave ≡ last → wave_items last wave ≡ []
same_wave last wave e = rw (eq-eqb last wave (sym e))

pub new_wave : (last wave : ℕ) → wave ≡ suc last → wave_items last wave ≡ Wave wave ∷ []
new_wave last wave e = rw (ne_eqb last wave (λ d. absurd (omega (arith, d, e))))

pub begun_next : (p : Expected) (l : Label) → Begun p → next_place p (line.Block l) ≡ Some place.Pads
unfolding next_place
begun_next p l h = grind arith
