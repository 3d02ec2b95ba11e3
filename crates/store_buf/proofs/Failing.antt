-- Ports as they are handed in, and those that have failed since.
use Rattle.std.proofs.Common.{ℕ, zero, suc, ◌-◌, ◌≡◌, ◌≤◌, List, [], ◌∷◌, Option, Some, None, slice_index_or}
use Rattle.std.proofs.Common.{refl, sym, ◌∙◌, inl, inr, arith}
use Rattle.ws_io.specs.Streams.{Rose}
use Rattle.ws_words.specs.Outside.{Outside, row}
use Rattle.ws_isa.specs.declared.instr.Op.{Op}
use Rattle.ws_isa.specs.Image.{Image}
use Rattle.port_set.specs.Ports.{Told}
use Rattle.df_core.specs.Began.{Began}
use Rattle.store_buf.specs.Outdoors.{Holding, HoldsOut, SlotIs, PortIn, RoseAt, RoseSince, BeganSo, AllBegan}
use Rattle.store_buf.specs.Outdoors.{TellsLeft, AllTell, began_at, began_of, left_at, lefts_of, words_or_none}
use Rattle.store_buf.specs.Outdoors.{failures, failed_before, port_of}
use Rattle.store_buf.specs.Contents.{Content, FailedSo, PortWaits}

-- a port begins as it was handed in
told_words : (o : Option (List ℕ)) → (words : List ℕ) × (o ≡ Some words) → o ≡ Some (words_or_none o)
told_words o t = grind arith

begins_so : (p : Option Told) → TellsLeft p → BeganSo (began_at p) (left_at p) p
begins_so p t = grind (arith, told_words)

begins_at : (ports : List (Option Told)) (k : ℕ) → AllTell ports →
    BeganSo (slice_index_or (began_of ports) k None) (row (lefts_of ports) k) (slice_index_or ports k None)
begins_at [] k all = refl
begins_at (p ∷ ports) zero all = begins_so p (all 0 None (omega arith))
begins_at (p ∷ ports) (suc k) all = begins_at ports k (λ j d l. all (suc j) d (omega (arith, l)))

pub begins : (ports : List (Option Told)) → AllTell ports → AllBegan (began_of ports) (lefts_of ports) ports
begins ports all slot l m = begins_at ports (slot - 1) all

failed_one : (p : Option Told) → failed_before (began_at p) ≡ failures p
failed_one p = grind arith

failed_at : (ports : List (Option Told)) (k : ℕ) →
    failed_before (slice_index_or (began_of ports) k None) ≡ failures (slice_index_or ports k None)
failed_at (p ∷ ports) (suc k) = failed_at ports k
failed_at ports k = grind (arith, failed_one)

pub rose_at : (handed back : List (Option Told)) (port : ℕ) → RoseSince (began_of handed) port back →
    RoseAt port handed back
rose_at handed back port rose = grind (arith, failed_at)

-- in a run counts of faults don't fall
counted : (b : Option Began) (left took : List ℕ) (p : Option Told) → SlotIs b left took p →
    failed_before b ≤ failures p
counted b left took p h = grind arith

pub rose_from : (a b c : ℕ) → a ≤ b → Rose b c → Rose a c
rose_from a b c le r = elim r [ inl l ↦ inl (omega (arith, le, l)) | inr e ↦ inr e ]

pub in_seven : (op : Op) (p : ℕ) → port_of op ≡ Some p → PortIn op → (1 ≤ p) × (p ≤ 7)
in_seven op p e h = grind arith

pub rose_since : (began : List (Option Began)) (m : Outside) (h : Holding) → HoldsOut began m h → (port : ℕ)
    (new : List (Option Told)) (op : Op) → PortIn op → port_of op ≡ Some port → RoseAt port h.ports new →
    RoseSince began port new
rose_since began m h out port new op inside is rose = grind (arith, in_seven, rose_from, counted)

pub none_failed : (image : Image) (began : List (Option Began)) (c : Content) → c.failed ≡ None →
    FailedSo image began c
none_failed image began c none port e = absurd (let f : None ≡ Some port = sym none ∙ e in cc)

-- this port has failed, and no other
pub one_failed : (image : Image) (began : List (Option Began)) (c : Content) (port : ℕ) →
    c.failed ≡ Some port → PortWaits image c.kept c.chain port → RoseSince began port c.outside.ports →
    FailedSo image began c
one_failed image began c port is waits rose p e = grind arith
