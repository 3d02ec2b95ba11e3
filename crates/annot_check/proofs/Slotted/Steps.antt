-- A trace that has grown.
use Rattle.std.proofs.Common.{ℕ, suc, ◌+◌, ◌*◌, ◌^◌, ◌≡◌, ◌<◌, ◌≤◌, ◌⊎◌, Bool, true, List, ◌∷◌, length}
use Rattle.std.proofs.Common.{get_or, Option, refl, sym, ap, inl, inr, subst, arith}
use Rattle.std.proofs.lemmas.Bool.{cases_eq}
use Rattle.ws_isa.specs.View as view
use Rattle.ws_isa.specs.Image.{Instr, Block, Exit, Image, block_at, first_number, stops, IsBlock}
use Rattle.ws_isa.specs.Formed.{Formed, ExitWithin, BlockWithin, most_landings}
use Rattle.ws_isa.specs.Sound.{OpenSlots, Opens, none_open}
use Rattle.annot_check.specs.declared.trace.Entry.{Entry}
use Rattle.annot_check.specs.declared.trace.Trace.{Trace}
use Rattle.annot_check.specs.Sets.{NodesKept}
use Rattle.annot_check.specs.Runs.{run, BadRun, AllRunOn}
use Rattle.annot_check.specs.Open.{look, nodes_of, Moved}
use Rattle.annot_check.specs.declared.open.Open.{Open}
use Rattle.annot_check.specs.declared.sets.Sets.{Sets}
use Rattle.annot_check.specs.Breaches.{PortBreach, stop}
use Rattle.annot_check.specs.Done.{EdgeDone, Ended}
use Rattle.annot_check.specs.Table.{image_of, trace_nodes, set_slots, known, entry_at, StartsOf, board_size}
use Rattle.annot_check.specs.Table.{Ready, Grows, Shut, length_of}
use Rattle.annot_check.proofs.Slotted.Held.{shut_look}
use Rattle.annot_check.proofs.Shaped.Blocks.{whole}
use Rattle.annot_check.proofs.Shaped.Paths.{run_path, bad_path}
use Rattle.annot_check.proofs.Slotted.Suits.{block_on}
use Rattle.annot_check.proofs.Slotted.Entries.{set_stays, edge_grows}
use Rattle.ws_isa.proofs.Blocks.{at_block}
use Rattle.ws_isa.proofs.Steps.{first_le}

pub grows_not : (t : Trace) → Ready t → Grows t t
grows_not t r = grind arith

same_image : (a b : Trace) → Grows a b → image_of a ≡ image_of b
same_image a b g = sym (ap view.image g.image)

pub block_stays : (a b : Trace) → Grows a b → (n : ℕ) → IsBlock (image_of a) n → IsBlock (image_of b) n
block_stays a b g n h = subst (λ (x : Image). IsBlock x n) (same_image a b g) h

pub stops_stay : (a b : Trace) → Grows a b → (n : ℕ) (v : Bool) → stops (image_of a) n ≡ v →
    stops (image_of b) n ≡ v
stops_stay a b g n v h = subst (λ (x : Image). stops x n ≡ v) (same_image a b g) h

pub base_stays : (a b : Trace) → Grows a b → (set : ℕ) → set < length (trace_nodes a) →
    set < length (trace_nodes b)
base_stays a b g set l = omega (arith, l, g.nodes.more)

-- the slots at hand before, by their set
pub at_hand : (a b : Trace) → Ready a → Shut a → Grows a b → (set : ℕ) → set ≡ a.held.set →
    set_slots b set ≡ look a.held
at_hand a b r s g set e = grind (arith, set_stays, shut_look)

pub path_stays : (a b : Trace) → Ready a → Shut a → Grows a b → (n set : ℕ) → set ≡ a.held.set →
    Opens (image_of a) n (first_number (image_of a) (suc n)) (look a.held) →
    Opens (image_of b) n (first_number (image_of b) (suc n)) (set_slots b set)
path_stays a b r s g n set e p = grind (arith, same_image, at_hand)

-- one more edge is done
pub more_done : (a b c : Trace) → Ready a → Shut a → Ready b → Grows a b → Grows b c → (n r set : ℕ) →
    set ≡ a.held.set →
    ((q : ℕ) → q < r → EdgeDone (image_of b) (known b) n q (look a.held)) →
    EdgeDone (image_of c) (known c) n r (set_slots b set) → (q : ℕ) → q < r + 1 →
    EdgeDone (image_of c) (known c) n q (look a.held)
more_done a b c ra s rb g h n r set e before last q l = go (cases_eq q r)
  where
    go : (q ≡ r) ⊎ (q ≡ r → ⊥) → EdgeDone (image_of c) (known c) n q (look a.held)
    go (inl f) = grind (arith, at_hand a b ra s g set e)
    go (inr f) = edge_grows b c rb h n q (look a.held) (before q (omega arith))

landings_few : (x : Exit) → ExitWithin x → length_of x < 2 ^ 30
unfolding most_landings
landings_few x h = grind arith

pub few_landings : (image : Image) (b : ℕ) (x : Block) → Formed image → IsBlock image b →
    x ≡ block_at image b → length_of x.exit < 2 ^ 30
few_landings image b x f h e = grind (arith, landings_few, at_block BlockWithin image b f.blocks h)

pub stop_bad : (image : Image) (b : ℕ) (o : OpenSlots) (j q : ℕ) → Opens image b (first_number image (suc b))
    o →
    stops image b ≡ true → o j q ≡ true → PortBreach image j q
stop_bad image b o j q p s e = stop p refl s e

pub ended_stop : (image : Image) (known : ℕ → Option OpenSlots) (b : ℕ) (o : OpenSlots) → stops image b ≡ true
    → o ≡ none_open → Ended image known b o
ended_stop image known b o s e = grind arith

-- the path through a block from its entry on, and a breach on it
pub visit_path : (image : Image) (b : ℕ) (s o p : OpenSlots) (is : List Instr) (k : ℕ) → IsBlock image b →
    Opens image b (first_number image b) s → is ≡ (block_at image b).instrs → k ≡ first_number image b →
    o ≡ s → p ≡ run is k o → Opens image b (first_number image (suc b)) p
visit_path image b s o p is k h r f g e i = grind (arith, run_path, whole)

pub visit_bad : (image : Image) (b : ℕ) (s o : OpenSlots) (is : List Instr) (k j q : ℕ) → IsBlock image b →
    Opens image b (first_number image b) s → is ≡ (block_at image b).instrs → k ≡ first_number image b →
    o ≡ s → BadRun is k o j q → PortBreach image j q
visit_bad image b s o is k j q h r f g e x = grind (arith, bad_path, whole)

pub entry_of : (t : List (Option Entry)) (n : ℕ) (d r : Option Entry) → n < length t → r ≡ get_or t n d →
    entry_at t n ≡ r
entry_of (x ∷ t) (suc n) d r l e = entry_of t n d r (omega arith) e
entry_of t n d r l e = grind arith

pub in_table : (t : Trace) (b : ℕ) → Ready t → IsBlock (image_of t) b → b < length t.table.items
in_table t b r h = omega (arith, r.table_size, h.1)

pub starts_order : (image : Image) (starts : List ℕ) (b : ℕ) → StartsOf image starts → IsBlock image b →
    get_or starts b 0 ≤ get_or starts (b + 1) 0
starts_order image starts b s h = grind (arith, first_le)

pub starts_sum : (image : Image) (starts : List ℕ) (b n : ℕ) → StartsOf image starts → IsBlock image b →
    n ≡ length (block_at image b).instrs → get_or starts b 0 + n ≡ get_or starts (b + 1) 0
starts_sum image starts b n s h e = grind (arith, whole)

pub starts_room : (image : Image) (starts : List ℕ) (b n : ℕ) → StartsOf image starts → IsBlock image b →
    n ≡ board_size image → 4 * get_or starts (b + 1) 0 ≤ n
unfolding board_size
starts_room image starts b n s h e = grind (arith, first_le)

pub run_on_read : (image : Image) (b n k : ℕ) (is : List Instr) → Formed image → IsBlock image b →
    n ≡ board_size image → is ≡ (block_at image b).instrs → k ≡ first_number image b → AllRunOn n is k
run_on_read image b n k is f h e g i = grind (arith, block_on)

pub kept_after_load : (a b c : Open) → b.sets ≡ a.sets → Moved b c → NodesKept (nodes_of a) (nodes_of c)
kept_after_load a b c e m = subst (λ (x : Sets). NodesKept x.nodes.items (nodes_of c)) e m.kept
