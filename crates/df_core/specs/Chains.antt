-- The chain, as the code holds it.
use Rattle.std.specs.Prelude.{◌≡◌, ℕ, Bool, true, false, ◌||◌, ◌&&◌, ◌==◌, ◌⊎◌, not, nat_le, List, [], ◌∷◌}
use Rattle.std.specs.Prelude.{Option, Some, None}
use Rattle.ws_isa.specs.declared.instr.Link.{Link}
use Rattle.ws_isa.specs.declared.instr.Link.TheVariants.{Nothing, Is}
use Rattle.ws_isa.specs.declared.instr.Note.{Note}
use Rattle.ws_isa.specs.Image.{Image, instr_at, note_of, is_load_op, is_past_op}
use Rattle.df_core.specs.Core as plain
use Rattle.df_core.specs.Stands.{Settles, left_after}
use Rattle.df_core.specs.declared.chain.Chain.{Chain}
use Rattle.ws_words.specs.Items.{In}

abbrev pub chain_of : Chain → plain.Chain
chain_of c = record { wave = c.wave; last = c.last }

abbrev pub names : Link → ℕ → Bool
names (Is n) seq = n == seq
names _ seq = false

abbrev pub is_nothing : Link → Bool
is_nothing Nothing = true
is_nothing _ = false

abbrev pub next_after : Option Note → Note → Bool
next_after None n = is_nothing n.pred
next_after (Some m) n = names m.succ n.seq || names n.pred m.seq

-- whether an operation of the current wave is next
abbrev pub next_flag : plain.Chain → Note → Bool
next_flag c n = next_after c.last n

-- the same operations, with one more
abbrev pub HasOneMore : ℕ → List ℕ → List ℕ → Type 0
HasOneMore i old new = ((j : ℕ) → In j new → (i ≡ j) ⊎ In j old) × In i new × ((j : ℕ) → In j old → In j new)

-- an issued operation is next, and the chain passes it and issued ones behind it; or it isn't, and
-- is kept
abbrev pub PassedOn : Image → plain.Chain → ℕ → List ℕ → plain.Chain → List ℕ → Type 0
PassedOn image c i early d left =
    (plain.IsNext c (note_of image i)
    × Settles image (plain.pass c (note_of image i))
    (left_after (note_of image i) early) d left)
    ⊎ ((plain.IsNext c (note_of image i) → ⊥) × (d ≡ c) × HasOneMore i early left)

-- whether a request may be issued where the chain isn't stopped
abbrev pub may_flag : Image → plain.Chain → ℕ → ℕ → ℕ → Bool
may_flag image c w i first =
    (w == c.wave)
    && (next_flag c (note_of image i)
    || (is_load_op (instr_at image i).op
    && not (is_past_op image.arrays (instr_at image i).op (first ∷ []))
    && nat_le (note_of image i).ripple (plain.position_after c.last)))
