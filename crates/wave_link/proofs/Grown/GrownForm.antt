-- An image that is a draft with no-ops added.
use Rattle.std.proofs.Common.{ℕ, suc, ◌+◌, ◌≡◌, Bool, true, false, cond, List, [], ◌∷◌, ◌++◌, Option, Some}
use Rattle.std.proofs.Common.{None, ltb, eqb}
use Rattle.ws_isa.specs.declared.instr.Dest.{Dest}
use Rattle.ws_isa.specs.Image.{Image, first_number, ports, is_advance, stops, target, now_dests, is_first}
use Rattle.ws_isa.specs.Image.{start_dests, IsIn, IsBlock}
use Rattle.ws_isa.specs.Sound.{OpenSlots, HasDest, all_opened, Fresh, opens_at}

-- what triggers a block's no-op: nothing, if it has none; an instruction of the block; a steer of the block
-- before
pub data Trigger : Type 0 where
  Whole : Trigger
  Own : ℕ → Trigger
  Before : Trigger

abbrev pub renamed : (ℕ → ℕ) → List Dest → List Dest
renamed new [] = []
renamed new (d ∷ ds) = record { instr = new d.instr; port = d.port } ∷ renamed new ds

abbrev pub nop_slot : ℕ → List Dest
nop_slot n = record { instr = n; port = 0 } ∷ []

-- instruction k opens the no-op of its block
abbrev pub own_slot : Trigger → ℕ → ℕ → List Dest
own_slot (Own t) n k = cond (eqb t k) (nop_slot n) []
own_slot _ n k = []

abbrev pub before_slot : Trigger → ℕ → List Dest
before_slot Before n = nop_slot n
before_slot _ n = []

abbrev pub extra : Trigger → ℕ
extra Whole = 0
extra _ = 1

-- before instruction k the block's no-op has its token
abbrev pub is_pending : Trigger → ℕ → Bool
is_pending Whole k = false
is_pending (Own t) k = ltb t k
is_pending Before k = true

-- the draft's slots at the image's numbers
abbrev pub at_origin : Option ℕ → OpenSlots → ℕ → Bool
at_origin None o q = false
at_origin (Some k) o q = o k q

abbrev pub lift : (ℕ → Option ℕ) → OpenSlots → OpenSlots
lift origin o m q = at_origin (origin m) o q

pub record Grown (draft image : Image) : Type 0 where
  pub trigger : ℕ → Trigger
  pub shift : ℕ → ℕ
  pub new : ℕ → ℕ
  pub origin : ℕ → Option ℕ
  pub nop : ℕ → ℕ
  pub blocks : (b : ℕ) → IsBlock draft b → IsBlock image b
  pub first_block : IsBlock draft 1
  pub edges : (b r : ℕ) → IsBlock draft b → stops draft b ≡ false → IsBlock draft (target draft b r)
  -- numbers
  pub first : (b : ℕ) → IsBlock draft b → first_number image b ≡ first_number draft b + shift b
  pub ends : (b : ℕ) → IsBlock draft b → first_number image (suc b) ≡ extra (trigger b)
      + (first_number draft (suc b) + shift b)
  pub nop_is : (b : ℕ) → IsBlock draft b → nop b ≡ first_number draft (suc b) + shift b
  pub new_is : (b k : ℕ) → IsBlock draft b → IsIn draft b k → new k ≡ k + shift b
  pub origin_real : (b k : ℕ) → IsBlock draft b → IsIn draft b k → origin (new k) ≡ Some k
  pub origin_only : (m k : ℕ) → origin m ≡ Some k → m ≡ new k
  pub origin_in : (m k : ℕ) → origin m ≡ Some k → (b : ℕ) × IsBlock draft b × IsIn draft b k
  pub origin_nop : (b : ℕ) → IsBlock draft b → extra (trigger b) ≡ 1 → origin (nop b) ≡ None
  pub own_in : (b t : ℕ) → IsBlock draft b → trigger b ≡ Own t → IsIn draft b t
  pub before_inside : (b : ℕ) → IsBlock draft b → trigger b ≡ Before → is_first draft b ≡ false
  -- instructions
  pub ports_are : (b k : ℕ) → IsBlock draft b → IsIn draft b k → ports image (k + shift b) ≡ ports draft k
  pub advance_are : (b k : ℕ) → IsBlock draft b → IsIn draft b k → is_advance image (k + shift b) ≡ is_advance
      draft k
  pub nop_ports : (b : ℕ) → IsBlock draft b → extra (trigger b) ≡ 1 → ports image (nop b) ≡ 1
  pub nop_advance : (b : ℕ) → IsBlock draft b → extra (trigger b) ≡ 1 → is_advance image (nop b) ≡ false
  pub nop_now : (b : ℕ) → IsBlock draft b → extra (trigger b) ≡ 1 → now_dests image (nop b) ≡ []
  pub now : (b k : ℕ) → IsBlock draft b → IsIn draft b k → now_dests image (k + shift b) ≡ renamed new
      (now_dests draft k) ++ own_slot (trigger b) (nop b) k
  pub now_real : (b k j q : ℕ) → IsBlock draft b → IsIn draft b k → HasDest (now_dests draft k) j q
      → origin (new j) ≡ Some j
  pub start : start_dests image ≡ renamed new (start_dests draft)
  pub start_real : (j q : ℕ) → HasDest (start_dests draft) j q → origin (new j) ≡ Some j
  -- edges
  pub stops_are : (b : ℕ) → stops image b ≡ stops draft b
  pub targets_are : (b r : ℕ) → target image b r ≡ target draft b r
  pub firsts_are : (b : ℕ) → is_first image b ≡ is_first draft b
  pub edge_real : (b r j q : ℕ) → IsBlock draft b → HasDest (opens_at draft b r) j q → origin (new j) ≡ Some j
  pub edge_opens : (b r : ℕ) (o : OpenSlots) → IsBlock draft b → stops draft b ≡ false →
      all_opened (opens_at image b r) o ≡ all_opened (renamed new (opens_at draft b r) ++ before_slot
      (trigger (target draft b r)) (nop (target draft b r))) o
  pub edge_fresh : (b r : ℕ) (o : OpenSlots) → IsBlock draft b → stops draft b ≡ false →
      Fresh (renamed new (opens_at draft b r) ++ before_slot (trigger (target draft b r))
      (nop (target draft b r))) o → Fresh (opens_at image b r) o
