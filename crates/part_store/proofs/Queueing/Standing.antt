-- A buffer with queues: what its operations that count as issued are to the walk.
use Rattle.std.proofs.Common.{ℕ, ◌≡◌, ◌<◌, ◌≤◌, Bool, true, false, List, Option, Some, ap, ◌∙◌}
use Rattle.std.proofs.Common.{arith}
use Rattle.std.proofs.lemmas.Bool.{both_ways}
use Rattle.ws_words.specs.Outside.{Outside, World}
use Rattle.ws_isa.specs.Image.{Image, instr_at, is_memory, note_of}
use Rattle.ws_isa.specs.Formed.{Formed}
use Rattle.ws_isa.specs.Sound.{Sound}
use Rattle.df_core.specs.Core.{Chain, Issuable, IsNext}
use Rattle.df_core.specs.Fit.{IssuedOp, Legal, RightRequest, NoOp, chain_at}
use Rattle.df_core.proofs.Walked.Facts.{WalkFacts}
use Rattle.df_core.proofs.Keeping.Settling.{one_time}
use Rattle.store_buf.specs.declared.kept.Kept.{Kept}
use Rattle.part_store.specs.Parted.{OnCell, IsKept, IsAddressed, is_store_op}
use Rattle.part_store.specs.Rules.{operands_at}
use Rattle.part_store.proofs.Queueing.Times as T
use Rattle.part_store.proofs.Queueing.Ops as O
use Rattle.part_store.proofs.Queueing.Cells as C

-- an address comes from a store
bare_store : (image : Image) (world : World) (b : Bool) (k : Kept) → b ≡ true → IsKept image world b k →
    IsAddressed image world k.wave k.instr k.first
bare_store image world b k e h = grind arith

pub bare_kept : (image : Image) (world : World) (b : Bool) (k : Kept) → b ≡ true → IsKept image world b k →
    IsAddressed image world k.wave k.instr k.first
bare_kept = bare_store

pub whole_kept : (image : Image) (world : World) (b : Bool) (k : Kept) → b ≡ false → IsKept image world b k →
    RightRequest image world k.wave k.instr (operands_at image k)
whole_kept image world b k e h = grind arith

-- an answer doesn't matter
pub kept_alike : (image : Image) (world : World) (b : Bool) (k : Kept) (a : Option ℕ) →
    IsKept image world b k → IsKept image world b
    (record { wave = k.wave; instr = k.instr; first = k.first; second = k.second; answer = a })
kept_alike image world b k a h = grind arith

module _ (image : Image) (world : World) (formed : Formed image) (sound : Sound image) (stopped : Bool)
    (waiting : ℕ → ℕ → Option (List ℕ)) (counts : ℕ → ℕ → Option ℕ) (chain : Chain) (memory : Outside)
    (legal : Legal image world counts waiting stopped chain memory) where
  abbrev facts : WalkFacts image world
  facts = T.facts image world formed sound

  pub place_of : (w i a t r j : ℕ) → counts w i ≡ Some a → OnCell image world w i r j t →
      (op : IssuedOp image world legal.cut w i a) × (op.time ≡ t)
  place_of w i a t r j e on =
      let op = legal.ordered.others w i a e in
      (op, one_time image world facts w i op.time t op.inst on.inst op.at on.at)

  -- a store that counts is passed
  pub store_passed : (w i a t r j : ℕ) → counts w i ≡ Some a → is_store_op (instr_at image i).op ≡ true →
      OnCell image world w i r j t → t < legal.cut
  store_passed w i a t r j e s on = grind (arith, place_of _ _ _ _ _ _ e on, both_ways, O.store_no_load _ _ s)

  -- a store on a cell before the passed operations' end counts
  pub passed_counts : (r j k : ℕ) → (s : C.StoreAt image world facts r j k) → k < legal.cut →
      counts s.inst.wave s.inst.instr ≡ Some s.inst.result
  passed_counts r j k s l = legal.ordered.passed k s.inst l s.fires (T.row_memory image s.inst.instr r s.row)

  pub store_on : (r j k : ℕ) → (s : C.StoreAt image world facts r j k) →
      OnCell image world s.inst.wave s.inst.instr r j k
  store_on r j k s = grind arith

  -- no store is between the passed operations and another one that counts
  pub none_before_early : (w i a t r j : ℕ) → counts w i ≡ Some a → OnCell image world w i r j t →
      (q l k : ℕ) → legal.cut ≤ k → k < t → C.StoreAt image world facts q l k → ⊥
  none_before_early w i a t r j e on q l k from to s =
      grind (arith, place_of w i a t r j e on, from, O.store_writes image s.inst.instr s.store)

  -- a request that may be issued
  module _ (w i : ℕ) (xs : List ℕ) (req : RightRequest image world w i xs)
      (may : Issuable image counts chain false w i xs) where
    pub from : legal.cut ≤ req.time
    from = grind arith

    -- where it is next all before it are passed
    pub first : IsNext chain (note_of image i) → NoOp image world legal.cut req.time
    first nx =
        let mx : is_memory image req.inst.instr ≡ true = ap (is_memory image) req.at.instr ∙ req.memory in
        let wv : req.inst.wave ≡ (chain_at image world legal.cut).wave = req.at.wave ∙ may.current
        ∙ ap (λ (d : Chain). d.wave) legal.ordered.chain in
        let ny : IsNext (chain_at image world legal.cut) (note_of image req.inst.instr) = rw (←
        legal.ordered.chain) (rw req.at.instr nx) in
        facts.only_first legal.cut req.time req.inst req.at.fires mx wv ny
