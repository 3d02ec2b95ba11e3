-- The parts of the opening state.
use Rattle.std.proofs.Common.{arith, ℕ, suc, ◌≡◌, ◌≤◌, Bool, cond, List, [], length, replicate, Option, None}
use Rattle.std.proofs.Common.{slice_index_or, refl, is_some}
use Rattle.std.proofs.lemmas.List.{append-nil}
use Rattle.std.specs.HashMap.{IsEmpty}
use Rattle.ws_words.specs.Outside.{World, opening_out}
use Rattle.ws_isa.specs.Image as plain
use Rattle.ws_isa.specs.Image.{Image, pad_of, block_at, start_dests, tokens_to, cells_of}
use Rattle.ws_isa.specs.Formed.{Formed}
use Rattle.ws_isa.specs.Walk.{start_tokens, opening_memory}
use Rattle.ws_isa.specs.Sound.{Sound}
use Rattle.df_core.specs.Core.{core_opening}
use Rattle.df_core.proofs.Walked.FromSound.{facts_of}
use Rattle.df_core.proofs.Walked.PortsThere.{ports_there}
use Rattle.df_core.proofs.Parts.Moving.{opens, stands_alike}
use Rattle.df_core.specs.declared.way.Way.{Way}
use Rattle.df_core.specs.declared.flow.Flow.{Flow}
use Rattle.df_core.specs.Partial.{Spill, empty_slot, port_of, partial_of}
use Rattle.df_core.specs.Ways.{way_of, SentTo}
use Rattle.df_core.specs.Chains.{chain_of}
use Rattle.df_core.proofs.Walked.Few.{pad_few}
use Rattle.df_core.specs.Flows.{FlowIs}
use Rattle.df_core.specs.Outdoors.{MemoryIs}

no_port : (p : ℕ) → port_of empty_slot p ≡ None
no_port p = grind arith

empty_at : (n i : ℕ) → slice_index_or (replicate n empty_slot) i empty_slot ≡ empty_slot
empty_at (suc n) (suc i) = empty_at n i
empty_at n i = grind arith

either_none : (b : Bool) (o : Option ℕ) → o ≡ None → cond b o None ≡ None
either_none b o e = grind arith

nothing_kept : (n : ℕ) (spill : Spill) → IsEmpty spill → (w i p : ℕ) → partial_of (replicate n empty_slot)
    spill w i p ≡ None
nothing_kept n spill e w i p = grind (arith, empty_at, either_none, empty_slot, no_port)

pub start_is : (image : Image) → pad_of (block_at image 1).pads 0 ≡ start_dests image
unfolding start_dests
start_is image = refl

pub start_few : (image : Image) → Formed image → length (start_dests image) ≤ 8
start_few image formed = rw (start_is image) at (pad_few image formed 1 0)

sent_first : (old new : Way) (ts : List plain.Token) → old.now.items ≡ [] → old.later.items ≡ []
    → SentTo old new ts → way_of new ≡ ts
sent_first old new ts a b i = grind (arith, append-nil)

pub opens_so : (image : Image) (world : World) (old : Way) (new : Flow) (n : ℕ)
    → new.slots.slots.items ≡ replicate n empty_slot → IsEmpty new.slots.spill → old.now.items ≡ []
    → old.later.items ≡ [] →
    SentTo old new.way (tokens_to 0 0 (start_dests image)) → new.asked.items ≡ [] → new.early.items ≡ []
    → chain_of new.chain ≡ record { wave = 1; last = None } → new.fault ≡ None
    → MemoryIs (opening_out (cells_of image.arrays) world) new.memory → new.fired ≡ 0 →
    Sound image → Formed image → FlowIs image world [] new (core_opening image world)
unfolding core_opening start_tokens opening_memory
opens_so image world old new n slots spill now later sent asked early chain stopped memory fired sound
    formed =
    let st = opens image world (facts_of image world (ports_there image formed) sound) in
    grind (arith, sent_first, new.way, stands_alike, empty_slot, nothing_kept, new.slots.spill, is_some)
