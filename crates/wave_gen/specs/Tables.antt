-- What the code keeps while a block is made: its instructions from the last to the first, and what
-- is wanted by name.
use Rattle.std.specs.Prelude.{ℕ, zero, suc, ◌+◌, ◌/◌, ◌≡◌, cond, List, [], ◌∷◌, length, map, reverse, Vec}
use Rattle.std.specs.declared.alloc.Global.{Global}
use Rattle.wave_gen.specs.declared.spot.Line.{Line}
use Rattle.wave_gen.specs.declared.maker.Maker.{Maker}
use Rattle.wave_gen.specs.Wire as plain
use Rattle.wave_gen.specs.Wire.{Target, Wants, Made, emit, rest, make, with_rooms}
use Rattle.ws_isa.specs.declared.instr.Op.TheVariants.{Merge, Halt}
use Rattle.wave_gen.specs.declared.tails.Tail.{Tail}
use Rattle.wave_gen.specs.Plans as plans
use Rattle.wave_gen.specs.Plans.{HowLeft, Onto, Either, Lands, Halts, Plan, pulse, hung}
use Rattle.wave_gen.specs.Plans.{operands_needed, advances, renew, merges}

-- the lists of the first names; those beyond want nothing
abbrev pub listed : List (Vec Target Global) → Wants
listed [] x = []
listed (v ∷ vs) zero = v.items
listed (v ∷ vs) (suc x) = listed vs x

abbrev pub line_of : Line → plain.WiredInstr
line_of l = record { op = l.op; dests = l.dests.items; others = l.others.items }

-- what a maker has made of block b is s, without its steps
pub record HasMade (b : ℕ) (m : Maker) (s : Made) : Type 0 where
  pub block : m.block ≡ b
  pub code : reverse (map line_of m.code.items) ≡ s.code
  pub wants : ◌≡◌ {A = Wants} (listed m.wants.lists.items) s.wants

-- nothing is made yet
abbrev pub bare : Wants → Made
bare w = record { code = []; steps = []; wants = w }

abbrev pub tail_of : Tail → plans.Tail
tail_of t = record { held = t.held; line = line_of t.line }

-- tails before s, the first of which has place p among those of its block: six share a name
abbrev pub hangs : ℕ → ℕ → ℕ → List plans.Tail → Made → Made
hangs b z p [] s = s
hangs b z p (t ∷ ts) s = hung b t (z + p / 6) (hangs b z (suc p) ts s)

-- the instruction by which an edge is chosen, or a halt, before s
abbrev pub leaves_made : ℕ → ℕ → HowLeft → Made → Made
leaves_made b z (Onto c) s = s
leaves_made b z (Either op from c d) s = make b z op from s
leaves_made b z (Lands op from values landings) s = make b z op from s
leaves_made b z Halts s = rest b (record { op = Halt; dests = []; others = [] }) (pulse ∷ []) s

-- how many instructions stand behind the one by which an edge is chosen
abbrev pub behind_of : ℕ → HowLeft → Made → ℕ
behind_of b exit s =
    length (with_rooms b (length (operands_needed exit)) (operands_needed exit) s).code

-- the start of a block, before s
abbrev pub begun : ℕ → Plan → Made → Made
begun b p s = cond p.first (advances b p.entries (renew b p.entries s))
    (cond (merges p s) (emit b pulse Merge (pulse ∷ []) s) s)
