-- Each kind of line keeps what holds of the state and of what is built.
use Rattle.std.proofs.Common.{◌≡◌, ℕ, suc, ◌+◌, ◌<◌, ◌≤◌, ◌&&◌, nat_lt, nat_le, Bool, true, IfOk, List, []}
use Rattle.std.proofs.Common.{◌∷◌, ◌++◌, length, Option, Some, None, refl, ap, subst, ◌∙◌, append_assoc}
use Rattle.std.proofs.Common.{append-nil, arith}
use Rattle.std.proofs.lemmas.Bool.{and_parts, ltb-true, eqb-true}
use Rattle.std.proofs.lemmas.Bool.Decides.{nat_tests}
use Rattle.std.proofs.lemmas.Option.{none-some, same_Some}
use Rattle.ws_isa.specs.declared.instr.Op.{Op}
use Rattle.ws_isa.specs.declared.instr.Op.TheVariants as op
use Rattle.ws_isa.specs.declared.instr.Dest.{Dest}
use Rattle.ws_isa.specs.Image.{Array, Block, Instr, Exit, flat, ports_of, Stop}
use Rattle.ws_isa.specs.Formed.{most_arrays, most_length, most_cells, most_instrs, most_waves, most_dests}
use Rattle.ws_isa.specs.Formed.{most_landings, most_name, NameFormed, SendWithin, ExitWithin, SomeLanding}
use Rattle.asm_text.specs.declared.line.Label.{Label}
use Rattle.asm_text.specs.declared.line.Target.{Target}
use Rattle.asm_text.specs.declared.line.InstrLine.{InstrLine}
use Rattle.asm_text.specs.declared.line.Line.{Line}
use Rattle.asm_text.specs.declared.line.Line.TheVariants as line
use Rattle.asm_text.specs.declared.state.Expected.{Expected}
use Rattle.asm_text.specs.declared.state.Expected.TheVariants as place
use Rattle.asm_text.specs.declared.state.TextState.{TextState}
use Rattle.asm_text.specs.Limits.{first_most_instrs, first_most_landings}
use Rattle.asm_text.specs.State.{next_place, is_numbered, is_within, is_within_cells, is_within_op, is_short}
use Rattle.asm_text.specs.State.{are_few, limit, counted}
use Rattle.asm_text.specs.Building.{Maybe, Built, dests_of, is_known, with_array, with_pad, with_instr}
use Rattle.asm_text.specs.Building.{closed, exit_of, with_exit, built}
use Rattle.asm_text.proofs.Keeping.Counts.{waves_few, blocks_few, instrs_few}
use Rattle.asm_text.proofs.Scanning.FormedLines.{LineFits, InstrFits}
use Rattle.asm_text.proofs.Keeping.HeldSteps.{if_ok, then_ok}
use Rattle.asm_text.proofs.Keeping.HeldNames.{NamesThere, DestFor, EachOf, instr_in, block_in, dests_in}
use Rattle.asm_text.proofs.Keeping.HeldNames.{blocks_in, dests_suit, others_suit}
use Rattle.asm_text.proofs.Keeping.Held.{ExitFor, OpFor, ExitHeld, InstrHeld, InstrsHeld, last_pad, last_wave}
use Rattle.asm_text.proofs.Keeping.Held.{Inside, Stands, so_far, Held, after}
use Rattle.asm_text.proofs.Keeping.HeldLists.{arrays_more, instrs_more, flat_snoc, last_pad_snoc, pads_more}
use Rattle.asm_text.proofs.Keeping.HeldLists.{last_wave_snoc, blocks_more}

at_place : (P : Expected → Type 0) (q p : Expected) → Some q ≡ Some p → P q → P p
at_place P q p e h = subst P (same_Some q p e) h

nowhere : {P : Type 0} (p : Expected) → None ≡ Some p → P
nowhere p e = absurd (none-some p e)

-- Lines without a block.

version_held : (s t : TextState) (b : Built) (n : ℕ) (p : Expected) → Held s t b
    → next_place t.place (line.Version n) ≡ Some p → Held s (after t (line.Version n) p) b
unfolding counted next_place
version_held s t b n p h e = grind arith

cells_keep : (t : TextState) (n : ℕ) → is_within_cells t n ≡ true
    → (t.arrays < most_arrays) × (n ≤ most_length) × (t.cells + n ≤ most_cells)
cells_keep t n e = (grind (arith, nat_tests), grind (arith, nat_tests), grind (arith, nat_tests))

-- the state behind an array, at this place
abbrev with_cells : TextState → ℕ → Expected → TextState
with_cells t n p = record t { place = p; arrays = t.arrays + 1; cells = t.cells + n }

-- an array, with or without a name
array_held : (s t : TextState) (b : Built) (o : Option (List ℕ)) (n : ℕ) (p : Expected) → Held s t b
    → NameFormed o
    → is_within_cells t n ≡ true
    → Stands p (with_cells t n p) (with_array b o n)
    → Held s (with_cells t n p) (with_array b o n)
array_held s t b o n p h name within stands =
    let x : Array = record { name = o; length = n } in
    let k = cells_keep t n within in
    record {
      arrays = arrays_more t.arrays t.cells b.arrays x h.arrays name k.0 k.1 k.2;
      instrs = h.instrs;
      pads = h.pads;
      blocks = h.blocks;
      wave = h.wave;
      few = h.few;
      stands = stands;
    }

array_stands : (t : TextState) (b : Built) (w : List ℕ) (o : Option (List ℕ)) (n : ℕ) (q p : Expected)
    → next_place q (line.Array w n) ≡ Some p → Stands q t b
    → Stands p (with_cells t n p) (with_array b o n)
unfolding next_place
array_stands t b w o n q p e k = grind arith

hidden_place : (q : Expected) (n : ℕ) → next_place q (line.Hidden n) ≡ next_place q (line.Array [] n)
unfolding next_place
hidden_place q n = grind arith

wave_held : (s t : TextState) (b : Built) (k : ℕ) (p : Expected) → Held s t b
    → next_place t.place (line.Wave k) ≡ Some p → is_numbered t (line.Wave k) ≡ true
    → is_within t (line.Wave k) ≡ true
    → Held s (after t (line.Wave k) p) (record b { wave = k })
unfolding counted next_place is_numbered
wave_held s t b k p h e n w = grind (arith, eqb-true, waves_few, after, at_place, nowhere)

-- A block begins.

block_held : (s t : TextState) (b : Built) (l : Label) (p : Expected) → Held s t b
    → next_place t.place (line.Block l) ≡ Some p → is_within t (line.Block l) ≡ true
    → Held s (after t (line.Block l) p) b
unfolding counted next_place
block_held s t b l p h e w = grind (arith, blocks_few, last_pad, after, at_place, nowhere)

-- Inside a block.

few_targets : (ts : List Target) (ds : List Dest) → length ds ≡ length ts → are_few ts ≡ true
    → length ds ≤ most_dests
few_targets ts ds e h = grind arith

pad_held : (s t : TextState) (b : Built) (k : ℕ) (ts : List Target) (ds : List Dest) (p : Expected)
    → Held s t b
    → EachOf (DestFor s) ts ds
    → next_place t.place (line.Pad k ts) ≡ Some p → is_numbered t (line.Pad k ts) ≡ true
    → is_within t (line.Pad k ts) ≡ true
    → Held s (after t (line.Pad k ts) p) (with_pad b k ds)
unfolding counted next_place is_numbered is_within
pad_held s t b k ts ds p h each e n w = grind (
  arith,
  and_parts,
  ltb-true,
  few_targets,
  pads_more,
  last_pad,
  nowhere,
  after,
  at_place,
  last_pad_snoc,
)

-- the array of an operation is there, and its port is one of the seven
op_for : (s : TextState) (o : Op) → is_known s o ≡ true → is_within_op o ≡ true → OpFor s o
op_for s o k w = grind arith

send_within : (o : Op) → is_within_op o ≡ true → SendWithin o
send_within o w = grind arith

six : (a b c d e f : Bool) → (a && b && c && d && e && f) ≡ true → (c ≡ true) × (e ≡ true) × (f ≡ true)
six a b c d e f h = grind arith

-- an instruction with its destinations
abbrev resolved : InstrLine → List Dest → List Dest → Instr
resolved i ds os = record { op = i.op; note = i.note; dests = ds; others = os }

instr_held : (s t : TextState) (b : Built) (i : InstrLine) (ds os : List Dest) (p : Expected) → Held s t b
    → InstrFits i → is_known s i.op ≡ true
    → EachOf (DestFor s) i.dests ds → EachOf (DestFor s) i.others os
    → next_place t.place (line.Instr i) ≡ Some p → is_within t (line.Instr i) ≡ true
    → Held s (after t (line.Instr i) p) (with_instr b (resolved i ds os))
unfolding counted next_place is_within
instr_held s t b i ds os p h fits known each other e w =
    let x = resolved i ds os in
    let parts =
    six (nat_lt (length t.ports) (limit t.named first_most_instrs most_instrs)) (is_short i.own)
    (is_within_op i.op) i.fits (are_few i.dests) (are_few i.others) w
    in
    let held : InstrHeld s x = grind (arith, few_targets, send_within, op_for, dests_suit, others_suit) in
    record {
      arrays = h.arrays;
      instrs = subst (InstrsHeld s (t.ports ++ ports_of i.op ∷ [])) (grind (arith, append_assoc)) (instrs_more
          s t.ports (so_far b) x h.instrs (instrs_few t i w) held);
      pads = h.pads;
      blocks = h.blocks;
      wave = h.wave;
      few = h.few;
      stands = by t.place e h.stands;
    }
  where
    more : Built
    more = with_instr b (resolved i ds os)

    by : (q : Expected) → next_place q (line.Instr i) ≡ Some p → Stands q t b
        → Stands p (after t (line.Instr i) p) more
    by q e k = grind arith

-- A block ends.

-- the block at hand, with this exit
abbrev ended_by : Built → Exit → Block
ended_by b exit = record { wave = b.wave; pads = b.pads; instrs = b.instrs; exit = exit }

closed_so_far : (b : Built) (exit : Exit) → so_far (closed b exit) ≡ so_far b
closed_so_far b exit =
    append-nil (flat (b.blocks ++ ended_by b exit ∷ [])) ∙ flat_snoc b.blocks (ended_by b exit)

closed_held : (s t : TextState) (b : Built) (exit : Exit) → Held s t b → Inside t b → ExitHeld s exit
    → Held s (record t { place = place.Exited }) (closed b exit)
closed_held s t b exit h k held =
    let x = ended_by b exit in
    let w : t.waves ≡ b.wave = h.wave.0 in
    let most : t.waves ≤ most_waves = h.wave.1 in
    let some : 1 ≤ t.waves = k.2 in
    let many = length_more b.blocks x in
    grind (arith, closed_so_far, blocks_more, last_wave, last_wave_snoc)
  where
    length_more : (bs : List Block) (x : Block) → length (bs ++ x ∷ []) ≡ length bs + 1
    length_more [] x = refl
    length_more (b ∷ bs) x = ap suc (length_more bs x) ∙ omega arith

exit_of_parts : (s : TextState) (e : Exit) → ExitFor s e → ExitWithin e → SomeLanding e → ExitHeld s e
exit_of_parts s e h k l = record { there = h; few = k; landing = l }

abbrev SomeExit : TextState → Option Exit → Type 0
SomeExit s None = ⊥
SomeExit s (Some exit) = ExitHeld s exit

exit_held : (s t : TextState) (b : Built) (e : Maybe (Option Exit)) (p : Expected) → Held s t b
    → IfOk e (SomeExit s) → (place.Exited ≡ p) × Inside t b
    → IfOk (with_exit b e) (Held s (record t { place = p }))
exit_held s t b e p h x i = grind (arith, closed_held)

go_at : (t : TextState) (b : Built) (l : Label) (q p : Expected) → next_place q (line.Go l) ≡ Some p
    → Stands q t b
    → (place.Exited ≡ p) × Inside t b
unfolding next_place
go_at t b l q p e k = grind arith

branch_at : (t : TextState) (b : Built) (l m n : Label) (q p : Expected)
    → next_place q (line.If l m n) ≡ Some p
    → Stands q t b → (place.Exited ≡ p) × Inside t b
unfolding next_place
branch_at t b l m n q p e k = grind arith

send_at : (t : TextState) (b : Built) (l : Label) (ls : List Label) (q p : Expected)
    → next_place q (line.Send l ls) ≡ Some p → Stands q t b → (place.Exited ≡ p) × Inside t b
unfolding next_place
send_at t b l ls q p e k = grind arith

stop_at : (t : TextState) (b : Built) (q p : Expected) → next_place q line.Stop ≡ Some p → Stands q t b
    → (place.Exited ≡ p) × Inside t b
unfolding next_place
stop_at t b q p e k = grind arith

end_held : (s t : TextState) (b : Built) (p : Expected) → Held s t b → next_place t.place line.End ≡ Some p
    → Held s (after t line.End p) b
unfolding counted next_place
end_held s t b p h e = grind arith

few_landings : (b : Bool) (n : ℕ) → nat_le n (limit b first_most_landings most_landings) ≡ true
    → n ≤ most_landings
unfolding first_most_landings most_landings
few_landings b n h = grind arith

middle : (a b c : Bool) → (a && b && c) ≡ true → b ≡ true
middle a b c h = grind arith

send_few : (t : TextState) (l : Label) (ls : List Label) → is_within t (line.Send l ls) ≡ true
    → length ls ≤ most_landings
unfolding is_within
send_few t l ls w = grind (arith, few_landings, middle)

array_parts : (t : TextState) (v : List ℕ) (n : ℕ) → is_within t (line.Array v n) ≡ true
    → (is_within_cells t n ≡ true) × (length v ≤ most_name)
unfolding is_within
array_parts t v n w = grind arith

hidden_part : (t : TextState) (n : ℕ) → is_within t (line.Hidden n) ≡ true → is_within_cells t n ≡ true
unfolding is_within
hidden_part t n w = w

-- what is built of a line that is taken
pub line_held : (s t : TextState) (b : Built) (l : Line) (p : Expected) → NamesThere s → Held s t b
    → LineFits l
    → next_place t.place l ≡ Some p → is_numbered t l ≡ true → is_within t l ≡ true
    → IfOk (built s b l) (Held s (after t l p))
unfolding built exit_of counted
line_held s t b (line.Version n) p names h f e d w = version_held s t b n p h e
line_held s t b (line.Array v n) p names h f e d w = let parts = array_parts t v n w in array_held s t b (Some
    v) n p h (f, parts.1) parts.0 (grind (arith, array_stands))
line_held s t b (line.Hidden n) p names h f e d w = array_held s t b None n p h tt (hidden_part t n w) (grind
    (arith, array_stands, hidden_place))
line_held s t b (line.Wave k) p names h f e d w = wave_held s t b k p h e d w
line_held s t b (line.Block l) p names h f e d w = block_held s t b l p h e w
line_held s t b (line.Pad k ts) p names h f e d w = then_ok (EachOf (DestFor s) ts) (Held s (after t (line.Pad
    k ts) p)) (dests_of s ts) _ (dests_in s ts names) (λ ds each. pad_held s t b k ts ds p h each e d w)
line_held s t b (line.Instr i) p names h f e d w = if_ok (Held s (after t (line.Instr i) p)) (is_known s i.op)
    _ _ (λ known. then_ok (EachOf (DestFor s) i.dests) (Held s (after t (line.Instr i) p)) (dests_of s
    i.dests) _ (dests_in s i.dests names) (λ ds each. then_ok (EachOf (DestFor s) i.others) (Held s (after t
    (line.Instr i) p)) (dests_of s i.others) _ (dests_in s i.others names) (λ os other. instr_held s t b i ds
    os p h f known each other e w))) (λ _. tt)
line_held s t b (line.Go l) p names h f e d w =
    grind (arith, exit_held, then_ok, block_in s l names, exit_of_parts, go_at t b l t.place p e h.stands)
line_held s t b (line.If l m o) p names h f e d w = grind (
  arith,
  exit_held,
  then_ok,
  instr_in s l names,
  block_in s m names,
  block_in s o names,
  exit_of_parts,
  branch_at t b l m o t.place p e h.stands,
)
line_held s t b (line.Send l ls) p names h f e d w = grind (
  arith,
  exit_held,
  then_ok,
  instr_in s l names,
  blocks_in s ls names,
  exit_of_parts,
  send_few t l ls w,
  send_at t b l ls t.place p e h.stands,
)
line_held s t b line.Stop p names h f e d w = exit_held s t b (exit_of s line.Stop) p h (exit_of_parts s Stop
    tt tt tt) (stop_at t b t.place p e h.stands)
line_held s t b line.End p names h f e d w = end_held s t b p h e
