-- What it means to come into a block.
use Rattle.std.proofs.Common.{ℕ, suc, ◌≡◌, ◌<◌, ◌≤◌, ◌⊎◌, true, false, not, cond, List, [], ◌∷◌, refl, sym}
use Rattle.std.proofs.Common.{inr, subst, arith}
use Rattle.std.proofs.lemmas.Bool.{cases_eq, cases_Bool}
use Rattle.ws_isa.specs.declared.instr.Dest.{Dest}
use Rattle.ws_isa.specs.Image.{Instr, Image, block_at, first_number, is_advance, is_advance_op, is_first}
use Rattle.ws_isa.specs.Image.{target, IsBlock}
use Rattle.ws_isa.specs.Sound.{OpenSlots, none_open, opened, all_opened, HasDest, Opens, begin, edge}
use Rattle.ws_isa.specs.Sound.{EdgeInto, AdvancesOpen}
use Rattle.annot_check.specs.Runs.{advance_list}
use Rattle.annot_check.specs.Breaches.{Astray, PortBreach, begins, crossing, PendingBreach}
use Rattle.annot_check.specs.Table.{Arrives, at_start, by_edge}
use Rattle.annot_check.proofs.Shaped.Blocks.{Tail, whole, tail_head, tail_rest}
use Rattle.ws_isa.proofs.Slots.{all_opened_has as is_opened}
use Rattle.ws_isa.proofs.Certified.{first_is}

pub is_dest : (d : Dest) (j q : ℕ) → ((d.instr ≡ j) × (d.port ≡ q)) ⊎ ((d.instr ≡ j) × (d.port ≡ q) → ⊥)
is_dest d j q = grind arith

opened_there : (d : Dest) (o : OpenSlots) (j q : ℕ) → ((d.instr ≡ j) × (d.port ≡ q) → ⊥)
    → opened d o j q ≡ o j q
opened_there d o j q n = grind arith

-- what is open was opened, or open before
pub was_opened : (ds : List Dest) (o : OpenSlots) (j q : ℕ) → all_opened ds o j q ≡ true → HasDest ds j q ⊎
    (o j q ≡ true)
was_opened [] o j q e = inr e
was_opened (d ∷ ds) o j q e = grind (arith, is_dest, opened_there, was_opened ds (opened d o) j q e)

pub record IsAdvanceSlot (image : Image) (b k j q : ℕ) : Type 0 where
  pub low : k ≤ j
  pub high : j < first_number image (suc b)
  pub advance : is_advance image j ≡ true
  pub port : q ≡ 0

advance_at : (image : Image) (b k : ℕ) (i : Instr) (is : List Instr) → Tail image b k (i ∷ is) →
    is_advance image k ≡ is_advance_op i.op
unfolding is_advance
advance_at image b k i is t = rw (tail_head image b k i is t) refl

advance_in : (image : Image) (b k : ℕ) (is : List Instr) → Tail image b k is → (j q : ℕ) →
    HasDest (advance_list is k) j q → IsAdvanceSlot image b k j q
advance_in image b k [] t j q h = absurd h
advance_in image b k (i ∷ is) t j q h = go (λ x. advance_in image b (suc k) is
    (tail_rest image b k i is t) j q x) (cases_Bool (is_advance_op i.op)) h
  where
    go : (HasDest (advance_list is (suc k)) j q → IsAdvanceSlot image b (suc k) j q) → (is_advance_op i.op ≡
        true) ⊎ (is_advance_op i.op ≡ false) → HasDest (cond (is_advance_op i.op) (record {
          instr = k;
          port = 0;
        } ∷ advance_list is (suc k)) (advance_list is (suc k))) j q → IsAdvanceSlot image b k j q
    go rec x h = grind (arith, advance_at)

advance_has : (image : Image) (b k : ℕ) (is : List Instr) → Tail image b k is → (j q : ℕ) →
    IsAdvanceSlot image b k j q → HasDest (advance_list is k) j q
advance_has image b k [] t j q a = absurd (omega (arith, t.ends, a.low, a.high))
advance_has image b k (i ∷ is) t j q a = go (λ x. advance_has image b (suc k) is
    (tail_rest image b k i is t) j q x) (cases_Bool (is_advance_op i.op)) (cases_eq k j)
  where
    go : (IsAdvanceSlot image b (suc k) j q → HasDest (advance_list is (suc k)) j q) → (is_advance_op i.op ≡
        true) ⊎ (is_advance_op i.op ≡ false) → (k ≡ j) ⊎ (k ≡ j → ⊥) → HasDest (cond (is_advance_op i.op)
        (record {
          instr = k;
          port = 0;
        } ∷ advance_list is (suc k)) (advance_list is (suc k))) j q
    go rec x y = grind (arith, advance_at)

-- the slots of a block's advances
pub advances_open : (image : Image) (b : ℕ) → IsBlock image b →
    AdvancesOpen image b (all_opened (advance_list (block_at image b).instrs
    (first_number image b)) none_open)
advances_open image b h j q = grind (arith, was_opened, is_opened, advance_has, whole, advance_in)

pub edge_path : (image : Image) (from b : ℕ) (o : OpenSlots) → EdgeInto image from b o →
    Opens image b (first_number image b) o
edge_path image from b o e = subst (λ (m : ℕ). Opens image m (first_number image m) o) e.to
    (subst (Opens image (target image from e.choice) (first_number image
    (target image from e.choice))) e.opens (edge e.path refl e.goes_on e.choice))

pub arrives_path : (image : Image) (from b : ℕ) (o : OpenSlots) → Arrives image from b o →
    Opens image b (first_number image b) o
arrives_path image from b o (at_start e f) = subst (λ (m : ℕ). Opens image m (first_number image m) o) (sym e)
    (subst (Opens image 1 (first_number image 1)) f begin)
arrives_path image from b o (by_edge e) = edge_path image from b o e

pub edge_of_arrival : (image : Image) (from b : ℕ) (o : OpenSlots) → Arrives image from b o →
    is_first image b ≡ false → EdgeInto image from b o
edge_of_arrival image from b o x f = grind (arith, first_is)

-- at a slot at which other slots differ from the advances'
pub astray : (image : Image) (b : ℕ) (o p : OpenSlots) (j q : ℕ) → AdvancesOpen image b p
    → o j q ≡ not (p j q) →
    Astray image b o j q
astray image b o p j q a e = grind arith

-- the first block of a wave is entered with other slots than its advances'
pub crossing_bad : (image : Image) (from b : ℕ) (o : OpenSlots) (j q : ℕ) → Arrives image from b o →
    is_first image b ≡ true → Astray image b o j q → PortBreach image j q
crossing_bad image from b o j q (at_start g k) f a = begins (grind arith)
crossing_bad image from b o j q (by_edge d) f a = crossing d f a

pub join_bad : (image : Image) (from c b : ℕ) (o p : OpenSlots) (j q : ℕ) → c ≤ from
    → is_first image b ≡ false →
    EdgeInto image c b p → EdgeInto image from b o → o j q ≡ not (p j q) → PendingBreach image c from
join_bad image from c b o p j q l f r a x = grind arith

pub join_back : (image : Image) (from c b : ℕ) (o p : OpenSlots) (j q : ℕ) → from ≤ c
    → is_first image b ≡ false →
    EdgeInto image c b p → EdgeInto image from b o → o j q ≡ not (p j q) → PendingBreach image from c
join_back image from c b o p j q l f r a x = grind arith
