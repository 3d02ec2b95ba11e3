-- A block's run by its list is the path through the block.
use Rattle.std.proofs.Common.{ℕ, suc, ◌-◌, ◌≡◌, ◌<◌, List, [], ◌∷◌, length, refl, inl, inr, subst, arith}
use Rattle.ws_isa.specs.declared.instr.Dest.{Dest}
use Rattle.ws_isa.specs.declared.instr.Op.{Op}
use Rattle.ws_isa.specs.Image.{Instr, Image, block_at, first_number, ports, ports_of, target, now_dests}
use Rattle.ws_isa.specs.Image.{now_of, edge_dests, edge_of, size_of, IsBlock}
use Rattle.ws_isa.specs.Sound.{OpenSlots, all_opened, closed, edge_all, opens_at, Opens, turn}
use Rattle.annot_check.specs.Runs.{run, BadTurn, BadRun, edge_list, lacks, opens}
use Rattle.annot_check.specs.Breaches.{PortBreach, lacks as path_lacks, opens as path_opens}
use Rattle.annot_check.proofs.Shaped.Blocks.{Tail, whole, tail_head, tail_rest}
use Rattle.ws_isa.specs.Shows.{edge_by}

pub now_tail : (image : Image) (b k : ℕ) (i : Instr) (is : List Instr) → Tail image b k (i ∷ is) →
    now_dests image k ≡ now_of i.op i.dests
unfolding now_dests
now_tail image b k i is t = rw (tail_head image b k i is t) refl

pub ports_tail : (image : Image) (b k : ℕ) (i : Instr) (is : List Instr) → Tail image b k (i ∷ is) →
    ports image k ≡ ports_of i.op
unfolding ports
ports_tail image b k i is t = rw (tail_head image b k i is t) refl

pub within_tail : (image : Image) (b k : ℕ) (i : Instr) (is : List Instr) → Tail image b k (i ∷ is) →
    k < first_number image (suc b)
within_tail image b k i is t = omega (arith, t.ends)

pub run_path : (image : Image) (b k : ℕ) (is : List Instr) (o : OpenSlots) → Tail image b k is →
    Opens image b k o → Opens image b (first_number image (suc b)) (run is k o)
run_path image b k [] o t p = subst (λ (m : ℕ). Opens image b m o) (omega (arith, t.ends)) p
run_path image b k (i ∷ is) o t p = run_path image b (suc k) is (all_opened (now_of i.op i.dests) (closed k
    o)) (tail_rest image b k i is t) (subst (λ (ds : List Dest). Opens image b (suc k) (all_opened ds (closed
    k o))) (now_tail image b k i is t) (turn p (within_tail image b k i is t)))

bad_turn : (image : Image) (b k : ℕ) (i : Instr) (is : List Instr) (o : OpenSlots) → Tail image b k (i ∷ is) →
    Opens image b k o → (j q : ℕ) → BadTurn i k o j q → PortBreach image j q
bad_turn image b k i is o t p j q (lacks l h) = path_lacks p (within_tail image b k i is t)
    (rw (ports_tail image b k i is t) l) h
bad_turn image b k i is o t p j q (opens h) = path_opens p (within_tail image b k i is t)
    (rw (now_tail image b k i is t) h)

pub bad_path : (image : Image) (b k : ℕ) (is : List Instr) (o : OpenSlots) → Tail image b k is →
    Opens image b k o → (j q : ℕ) → BadRun is k o j q → PortBreach image j q
bad_path image b k [] o t p j q h = absurd h
bad_path image b k (i ∷ is) o t p j q (inl h) = bad_turn image b k i is o t p j q h
bad_path image b k (i ∷ is) o t p j q (inr h) = bad_path image b (suc k) is (all_opened (now_of i.op i.dests)
    (closed k o)) (tail_rest image b k i is t) (subst (λ (ds : List Dest). Opens image b (suc k) (all_opened
    ds (closed k o))) (now_tail image b k i is t) (turn p (within_tail image b k i is t))) j q h

sent_is : (image : Image) (b r : ℕ) (i : Instr) (op : Op) →
    edge_of image b r i op ≡ edge_by (block_at image (target image b r)).pads r i op
sent_is image b r i op = grind arith

edge_tail : (image : Image) (b r k : ℕ) (is : List Instr) → Tail image b k is →
    edge_all image b r k (length is) ≡ edge_list (block_at image (target image b r)).pads r is
unfolding edge_dests
edge_tail image b r k [] t = refl
edge_tail image b r k (i ∷ is) t = grind (
  arith,
  tail_head image b k i is t,
  tail_rest image b k i is t,
  sent_is image b r i i.op,
  edge_tail image b r (suc k) is (tail_rest image b k i is t),
)

-- what the edge at r opens, by the block's list
pub edge_is : (image : Image) (b r : ℕ) → IsBlock image b →
    opens_at image b r ≡ edge_list (block_at image (target image b r)).pads r (block_at image b).instrs
unfolding opens_at size_of
edge_is image b r i = let t : Tail image b (first_number image b) (block_at image b).instrs = whole image b i
    in let n : first_number image (suc b) - first_number image b ≡ length (block_at image b).instrs = omega
    (arith, t.ends) in grind (arith, edge_tail)
