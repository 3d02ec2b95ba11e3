-- What is read is formed.
use Rattle.std.proofs.Common.{◌≡◌, ℕ, suc, ◌<◌, ◌≤◌, true, IfOk, List, [], ◌∷◌, ◌++◌, length, map, slice_get}
use Rattle.std.proofs.Common.{Some, None, Result, Ok, Err, refl, ap, subst, ◌∙◌, append-nil, arith}
use Rattle.std.specs.List.{AllByRecursion}
use Rattle.std.proofs.lemmas.Bool.{ltb-true}
use Rattle.std.proofs.lemmas.Result.{IfOk-at_ok}
use Rattle.ws_isa.specs.declared.instr.Op.{Op}
use Rattle.ws_isa.specs.declared.instr.Op.TheVariants as op
use Rattle.ws_isa.specs.declared.instr.Dest.{Dest}
use Rattle.ws_isa.specs.Image.{Image, Block, Pad, Instr, Exit, flat, no_instr, instr_at, ports, ports_of}
use Rattle.ws_isa.specs.Image.{IsBlock, IsInstr}
use Rattle.ws_isa.specs.Formed.{DestIn, DestsIn, OpIn, ExitIn, BlockWithin, WavesFrom, WavesInOrder, RiseFrom}
use Rattle.ws_isa.specs.Formed.{PadsRise, Formed}
use Rattle.asm_text.specs.declared.state.Expected.{Expected}
use Rattle.asm_text.specs.declared.state.Expected.TheVariants as place
use Rattle.asm_text.specs.declared.state.TextState.{TextState}
use Rattle.asm_text.specs.State.{opening}
use Rattle.ws_isa.specs.View as view
use Rattle.asm_text.specs.declared.build.Builder.{Builder}
use Rattle.asm_text.specs.Building.{◌>>=◌, Built, or_zero, ports_at, view_of}
use Rattle.asm_text.specs.Reading.{lines_of, passed, made, nothing, is_ended, read, Fault}
use Rattle.asm_text.proofs.Keeping.HeldSteps.{then_ok}
use Rattle.asm_text.proofs.Keeping.HeldNames.{NamesThere, Among, DestFor, passed_names}
use Rattle.asm_text.proofs.Keeping.Held.{DestsFor, OpFor, ExitFor, PadHeld, Rises, BlockHeld, Exited, Stands}
use Rattle.asm_text.proofs.Keeping.Held.{so_far}
use Rattle.asm_text.proofs.Keeping.HeldTexts.{AtEnd, nothing_held, lines_held}
use Rattle.ws_words.proofs.Lists.{all_with, length_map}
use Rattle.ws_words.specs.Items.{nth, or_else}

-- the ports of instructions
abbrev ports_in : List Instr → List ℕ
ports_in is = map (λ i. ports_of i.op) is

ports_same : (is : List Instr) (k : ℕ) → k < length is
    → or_zero (slice_get (ports_in is) k) ≡ ports_of (or_else (nth is k) no_instr).op
ports_same (i ∷ is) (suc k) h = ports_same is k (omega arith)
ports_same is k h = grind arith

port_there : (image : Image) (n : ℕ) → IsInstr image n
    → ports_at (ports_in (flat image.blocks)) n ≡ ports image n
unfolding ports instr_at
port_there image n h = grind (arith, ports_same)

-- the state has the counts of the image
record Counts (s : TextState) (image : Image) : Type 0 where
  ports : s.ports ≡ ports_in (flat image.blocks)
  instrs : length s.ports ≡ length (flat image.blocks)
  blocks : s.blocks ≡ length image.blocks
  arrays : s.arrays ≡ length image.arrays

module _ (s : TextState) (image : Image) (c : Counts s image) where
  instr_there : (n : ℕ) → Among (length s.ports) n → IsInstr image n
  instr_there n h = subst (λ m. Among m n) c.instrs h

  block_there : (n : ℕ) → Among s.blocks n → IsBlock image n
  block_there n h = subst (λ m. Among m n) c.blocks h

  dest_there : (d : Dest) → DestFor s d → DestIn image d
  dest_there d h = grind (arith, instr_there, port_there)

  dests_there : (ds : List Dest) → DestsFor s ds → DestsIn image ds
  dests_there ds h = all_with (DestFor s) (DestIn image) dest_there ds h

  op_there : (o : Op) → OpFor s o → OpIn image o
  op_there o h = grind arith

  exit_there : (e : Exit) → ExitFor s e → ExitIn image e
  exit_there e h = grind (arith, block_there, instr_there, all_with)

  pads_there : (pads : List Pad) → AllByRecursion (PadHeld s) pads
      → AllByRecursion (λ p. DestsIn image p.dests) pads
  pads_there pads h = grind (arith, all_with, dests_there)

block_within : (s : TextState) (b : Block) → BlockHeld s b → BlockWithin b
block_within s b h = grind (arith, all_with)

rise_from : (n : ℕ) (pads : List Pad) → Rises (Some n) pads → RiseFrom n pads
rise_from n [] h = tt
rise_from n (p ∷ pads) h = (ltb-true n p.number h.0, rise_from p.number pads h.1)

pads_rise : (pads : List Pad) → Rises None pads → PadsRise pads
pads_rise pads h = grind (arith, rise_from)

waves_in_order : (s : TextState) (blocks : List Block) → 1 ≤ length blocks
    → AllByRecursion (BlockHeld s) blocks
    → WavesFrom 0 blocks → WavesInOrder blocks
waves_in_order s blocks some h w = grind arith

at_end : (p : Expected) (s : TextState) (b : Built) → is_ended p ≡ true → Stands p s b → Exited s b
at_end p s b e h = grind arith

-- what is built behind all lines is formed
end_formed : (s : TextState) (b : Built) → AtEnd s b
    → Formed (record { arrays = b.arrays; blocks = b.blocks })
end_formed s b h =
    let held = h.0 in
    let exited = at_end s.place s b h.1 held.stands in
    let image : Image = record { arrays = b.arrays; blocks = b.blocks } in
    let all : so_far b ≡ flat b.blocks =
    ap (λ is. flat b.blocks ++ is) (exited.0).1 ∙ append-nil (flat b.blocks) in
    grind (
      arith,
      length_map,
      all_with,
      block_within,
      dests_there,
      op_there,
      pads_there,
      exit_there,
      waves_in_order,
      pads_rise,
    )

-- the image of what is built
abbrev image_of : Built → Image
image_of b = record { arrays = b.arrays; blocks = b.blocks }

text_formed : (text : List ℕ) → IfOk (read text) Formed
unfolding read
text_formed text = by (passed opening 0 (lines_of text)) refl
  where
    by : (r : Result TextState Fault) → passed opening 0 (lines_of text) ≡ r
        → IfOk (r >>= λ s. made s nothing 0 (lines_of text) >>= λ b. Ok (image_of b)) Formed
    by (Err k) e = tt
    by (Ok s) e = then_ok (AtEnd s) Formed (made s nothing 0 (lines_of text)) _ (lines_held s opening nothing
        0 (lines_of text) (IfOk-at_ok NamesThere e (passed_names (lines_of text))) (nothing_held s) e) (λ b h.
        end_formed s b h)

pub read_formed : (text : List ℕ) (image : Image) → read text ≡ Ok image → Formed image
read_formed text image e = IfOk-at_ok Formed e (text_formed text)

-- what the code builds of a text is formed
pub made_formed : (text : List ℕ) (s : TextState) (b : Builder) → passed opening 0 (lines_of text) ≡ Ok s
    → made s nothing 0 (lines_of text) ≡ Ok (view_of b)
    → Formed (view.parts b.arrays.items b.blocks.items)
unfolding read
made_formed text s b e f = read_formed text (view.parts b.arrays.items b.blocks.items) (rw (e, f))
