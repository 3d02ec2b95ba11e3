-- Slots that are held in a set alone.
use Rattle.std.proofs.Common.{ℕ, ◌*◌, ◌/◌, ◌%◌, ◌≡◌, ◌<◌, ◌≤◌, not, List, length, ap, arith}
use Rattle.std.proofs.Math.Path.{fun_ext}
use Rattle.ws_isa.specs.Sound.{none_open}
use Rattle.annot_check.specs.declared.sets.Node.{Node}
use Rattle.annot_check.specs.declared.open.Open.{Open}
use Rattle.annot_check.specs.Sets.{member, NodesOk, NodesKept}
use Rattle.annot_check.specs.Open.{seen, nodes_of, look, slots_in, OpenOk}
use Rattle.annot_check.proofs.Slotted.Members.{set_kept, none_in_blank}

-- while nothing is open on the board, the slots are those of the set
pub shut_look : (o : Open) → OpenOk o → o.low ≡ o.high → look o ≡ slots_in (nodes_of o) o.depth o.set
unfolding look slots_in
shut_look o ok e = grind arith

pub slots_kept : (old new : List Node) (depth set : ℕ) → NodesOk old → NodesKept old new → set < length old →
    slots_in new depth set ≡ slots_in old depth set
unfolding slots_in
slots_kept old new depth set o k l = ap seen (set_kept old new o k depth set l)

pub slots_blank : (nodes : List Node) (depth : ℕ) → NodesOk nodes → slots_in nodes depth 0 ≡ none_open
unfolding slots_in
slots_blank nodes depth o = grind (arith, fun_ext, none_in_blank)

-- the slot of a key that one of two sets lacks
pub key_differs : (nodes : List Node) (depth set other key : ℕ) →
    member nodes depth set key ≡ not (member nodes depth other key) →
    slots_in nodes depth set (key / 4) (key % 4) ≡ not (slots_in nodes depth other (key / 4) (key % 4))
unfolding slots_in
key_differs nodes depth set other key e = grind arith

pub sets_same : (nodes : List Node) (depth set other : ℕ) →
    member nodes depth set ≡ member nodes depth other → slots_in nodes depth set ≡ slots_in nodes depth other
unfolding slots_in
sets_same nodes depth set other e = ap seen e

pub loaded : (o : Open) (set low high : ℕ) → OpenOk o → o.low ≡ o.high →
    look (record o { set = set; low = low; high = high }) ≡ slots_in (nodes_of o) o.depth set
unfolding look slots_in
loaded o set low high ok e = grind arith

pub loaded_ok : (o : Open) (set low high : ℕ) → OpenOk o → o.low ≡ o.high → set < length (nodes_of o) →
    low ≤ high → 4 * high ≤ length o.board.items → OpenOk (record o { set = set; low = low; high = high })
loaded_ok o set low high ok e s l h = grind arith
