-- A text of version 1 keeps the limits of version 1.
use Rattle.std.proofs.Common.{◌≡◌, ℕ, ◌<◌, ◌≤◌, nat_lt, nat_le, length, length-append, Bool, true, false}
use Rattle.std.proofs.Common.{IfOk, List, [], ◌∷◌, Option, Some, None, refl, arith}
use Rattle.std.specs.List.{list_all}
use Rattle.std.proofs.lemmas.Bool.{and_from, le-leb}
use Rattle.std.proofs.lemmas.List.Folds.{list_all-append}
use Rattle.ws_isa.specs.Image as plain
use Rattle.ws_isa.specs.Image.{flat, ports_of}
use Rattle.ws_isa.specs.Formed.{most_waves}
use Rattle.asm_text.specs.declared.line.Label.{Label}
use Rattle.asm_text.specs.declared.line.InstrLine.{InstrLine}
use Rattle.asm_text.specs.declared.line.Line.{Line}
use Rattle.asm_text.specs.declared.line.Line.TheVariants as line
use Rattle.asm_text.specs.declared.state.Expected.{Expected}
use Rattle.asm_text.specs.declared.state.Expected.TheVariants as place
use Rattle.asm_text.specs.declared.state.TextState.{TextState}
use Rattle.asm_text.specs.Limits.{first_most_instrs, first_most_blocks, first_most_waves, first_most_landings}
use Rattle.asm_text.specs.State.{next_place, limit, is_within, counted}
use Rattle.asm_text.specs.Building.{Maybe, Built, dests_of, instr_of, exit_of, with_exit, built}
use Rattle.asm_text.specs.Printed.{few_landings, keeps_first_block, keeps_first_limits}
use Rattle.asm_text.proofs.Keeping.Held.{Held, after}
use Rattle.asm_text.proofs.Keeping.HeldSteps.{if_ok, then_ok}
use Rattle.asm_text.proofs.Keeping.Pairing.{blocks_for}
use Rattle.asm_text.proofs.Accepting.Labels.{pairs_length}
use Rattle.asm_text.proofs.Accepting.Told.{Lacks, Taken}

pub record FirstOk (t : TextState) (b : Built) : Type 0 where
  pub ports : length t.ports ≤ first_most_instrs
  pub blocks : t.blocks ≤ first_most_blocks
  pub waves : t.waves ≤ first_most_waves
  pub each : list_all keeps_first_block b.blocks ≡ true

abbrev pub FirstHeld : TextState → Built → Type 0
FirstHeld t b = t.named ≡ false → FirstOk t b

any_ok : {A : Type 0} (r : Maybe A) → IfOk r (λ _. Unit {0})
any_ok r = grind arith

below_first : (v : Bool) (n few most : ℕ) → v ≡ false → nat_lt n (limit v few most) ≡ true → n < few
below_first v n few most e h = grind arith

start_named : (t : TextState) (b : Built) (n : ℕ) (q p : Expected) → next_place q (line.Version n) ≡ Some p
    → Lacks q t b → t.named ≡ false
unfolding next_place
start_named t b n q p e l = grind arith

wave_first : (t : TextState) (k : ℕ) → t.named ≡ false → is_within t (line.Wave k) ≡ true → t.waves <
    first_most_waves
unfolding is_within
wave_first t k e h = below_first t.named t.waves first_most_waves most_waves e h

block_first : (t : TextState) (l : Label) → t.named ≡ false → is_within t (line.Block l) ≡ true →
    t.blocks < first_most_blocks
unfolding is_within
block_first t l e h = grind arith

instr_first : (t : TextState) (i : InstrLine) → t.named ≡ false → is_within t (line.Instr i) ≡ true →
    length t.ports < first_most_instrs
unfolding is_within
instr_first t i e h = grind arith

send_first : (t : TextState) (l : Label) (ls : List Label) → t.named ≡ false → is_within t
    (line.Send l ls) ≡ true → nat_le (length ls) first_most_landings ≡ true
unfolding is_within
send_first t l ls e h = grind arith

-- An exit ends a block.

abbrev FewExit : TextState → Option plain.Exit → Type 0
FewExit t None = Unit {0}
FewExit t (Some e) = t.named ≡ false → few_landings e ≡ true

exit_first : (t : TextState) (b : Built) (e : Maybe (Option plain.Exit)) (p : Expected) → t.waves ≡ b.wave
    → FirstHeld t b → IfOk e (FewExit t) → IfOk (with_exit b e) (FirstHeld (record t { place = p }))
exit_first t b e p w h x = grind (arith, le-leb, and_from, list_all-append)

pub line_first : (s t : TextState) (b : Built) (l : Line) (p : Expected) → Held s t b → Lacks t.place t b →
    FirstHeld t b → Taken t l p → IfOk (built s b l) (FirstHeld (after t l p))
unfolding built exit_of counted
line_first s t b (line.Version n) p held a h g = grind (arith, start_named)
line_first s t b (line.Wave n) p held a h g = grind (arith, wave_first)
line_first s t b (line.Block l) p held a h g = grind (arith, block_first)
line_first s t b (line.Instr i) p held a h g =
    grind (
      arith,
      after t (line.Instr i) p,
      if_ok,
      then_ok,
      any_ok (dests_of s i.dests),
      any_ok (dests_of s i.others),
      instr_first,
      length-append t.ports (ports_of i.op ∷ []),
    )
line_first s t b (line.Go l) p held a h g = grind (arith, exit_first, then_ok, any_ok)
line_first s t b (line.If l m o) p held a h g = grind (arith, exit_first, then_ok, any_ok)
line_first s t b (line.Send l ls) p held a h g =
    grind (arith, exit_first, then_ok, any_ok (instr_of s l), blocks_for s ls, pairs_length, send_first)
line_first s t b line.Stop p held a h g = exit_first t b (exit_of s line.Stop) p held.wave.0 h (λ e. refl)
line_first s t b l p held a h g = grind arith

-- what is built of a whole text of version 1 keeps its limits
pub first_kept : (s : TextState) (b : Built) → FirstOk s b → s.blocks ≡ length b.blocks → length s.ports
    ≡ length (flat b.blocks)
    → keeps_first_limits (record { arrays = b.arrays; blocks = b.blocks }) ≡ true
unfolding keeps_first_limits
first_kept s b k e f = grind arith
