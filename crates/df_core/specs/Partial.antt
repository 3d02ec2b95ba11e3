-- The tokens that have arrived at instances that aren't full: each instruction has a slot for one
-- instance, and others are spilled.
use Rattle.std.specs.Prelude.{ℕ, zero, suc, Bool, cond, ◌&&◌, ◌==◌, eqb, List, [], ◌∷◌, Option, Some, None}
use Rattle.std.specs.Prelude.{is_none, unwrap_or, slice_index_or}
use Rattle.std.specs.declared.hash.FoldHasher.{FoldHasher}
use Rattle.std.specs.declared.hash.BuildHasherDefault.{BuildHasherDefault}
use Rattle.std.specs.HashMap.{get, HashMap}
use Rattle.ws_isa.specs.Walk.{Ports}
use Rattle.df_core.specs.declared.plain.Operands.{Operands}
use Rattle.df_core.specs.declared.slots.Slot.{Slot}
use Rattle.ws_words.specs.Items.{first_some}

abbrev pub empty_slot : Slot
empty_slot = record { wave = 0; first = None; second = None; third = None }

abbrev pub is_empty_slot : Slot → Bool
is_empty_slot s = is_none s.first && is_none s.second && is_none s.third

abbrev pub port_of : Slot → ℕ → Option ℕ
port_of s zero = s.first
port_of s (suc zero) = s.second
port_of s (suc (suc zero)) = s.third
port_of s (suc (suc (suc p))) = None

-- with a token at one of the three ports
abbrev pub with_port : Slot → ℕ → ℕ → ℕ → Slot
with_port s w zero v = record { wave = w; first = Some v; second = s.second; third = s.third }
with_port s w (suc zero) v = record { wave = w; first = s.first; second = Some v; third = s.third }
with_port s w (suc (suc p)) v =
    record { wave = w; first = s.first; second = s.second; third = Some v }

abbrev pub in_slot : Slot → ℕ → ℕ → Option ℕ
in_slot s w p = cond (eqb s.wave w) (port_of s p) None

abbrev pub slot_at : List Slot → ℕ → Slot
slot_at slots i = slice_index_or slots i empty_slot

-- the tokens in slots
abbrev pub slotted : List Slot → Ports
slotted slots w i p = in_slot (slot_at slots i) w p

-- the tokens of instances, by wave number and instruction
abbrev pub Spill : Type 0
Spill = HashMap (ℕ × ℕ) Slot (BuildHasherDefault FoldHasher)

-- those of one instance
abbrev pub spilled_at : Spill → ℕ → ℕ → Slot
spilled_at spill w i =
    unwrap_or (get (λ a b. (a.0 == b.0) && (a.1 == b.1)) spill (w, i)) empty_slot

-- the tokens that are spilled
abbrev pub spilled : Spill → Ports
spilled spill w i p = port_of (spilled_at spill w i) p

abbrev pub partial_of : List Slot → Spill → Ports
partial_of slots spill w i p = first_some (slotted slots w i p) (spilled spill w i p)

-- the operands of an instance with so many ports
abbrev pub listed : ℕ → Operands → List ℕ
listed zero o = []
listed (suc zero) o = o.first ∷ []
listed (suc (suc zero)) o = o.first ∷ o.second ∷ []
listed (suc (suc (suc n))) o = o.first ∷ o.second ∷ o.third ∷ []
