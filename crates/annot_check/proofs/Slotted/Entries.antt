-- One more entry of the table, and what stays of the others.
use Rattle.std.proofs.Common.{ℕ, zero, suc, ◌+◌, ◌*◌, map, ◌≡◌, ◌<◌, ◌≤◌, ◌⊎◌, true, List, [], ◌∷◌, ◌++◌}
use Rattle.std.proofs.Common.{length, Option, Some, None, set, get_or, drop, drop-cons, add-one, refl, sym}
use Rattle.std.proofs.Common.{ap, ◌∙◌, inl, inr, subst, arith, length-append, length-set}
use Rattle.std.proofs.lemmas.Bool.{cases_eq}
use Rattle.std.proofs.lemmas.List.{get_or-set_other, get_or-set_same}
use Rattle.ws_isa.specs.declared.instr.Instr.{Instr as CodeInstr}
use Rattle.ws_isa.specs.declared.image.Block.{Block as CodeBlock}
use Rattle.ws_isa.specs.Image.{Instr, Block, Image, block_at, first_number, is_first, IsBlock}
use Rattle.annot_check.specs.declared.open.Open.{Open}
use Rattle.ws_isa.specs.View as view
use Rattle.ws_isa.specs.Sound.{OpenSlots, none_open, all_opened, Opens, AdvancesOpen}
use Rattle.annot_check.specs.declared.trace.Entry.{Entry}
use Rattle.annot_check.specs.declared.trace.Trace.{Trace}
use Rattle.annot_check.specs.Sets.{NodesOk, NodesKept}
use Rattle.annot_check.specs.Runs.{advance_list}
use Rattle.annot_check.specs.Open.{slots_in, nodes_of, look, OpenOk, Moved}
use Rattle.annot_check.specs.Done.{EdgeDone}
use Rattle.annot_check.specs.Table.{image_of, trace_nodes, set_slots, entry_at, entry_slots, known}
use Rattle.annot_check.specs.Table.{board_size, free, HasNumber, TableGrows, Grows, Reached, Ready, Shut}
use Rattle.annot_check.specs.Table.{Arrives}
use Rattle.annot_check.proofs.Slotted.Held.{slots_kept, shut_look}
use Rattle.annot_check.proofs.Shaped.Blocks.{whole}
use Rattle.annot_check.proofs.Slotted.Coming.{arrives_path, edge_of_arrival, advances_open}
use Rattle.ws_words.proofs.Lists.{length_map}
use Rattle.ws_isa.proofs.Steps.{first_le}

pub has_left : (xs ys : List ℕ) (b : ℕ) → HasNumber xs b → HasNumber (xs ++ ys) b
has_left [] ys b h = absurd h
has_left (x ∷ xs) ys b (inl e) = inl e
has_left (x ∷ xs) ys b (inr h) = inr (has_left xs ys b h)

pub has_last : (xs : List ℕ) (b : ℕ) → HasNumber (xs ++ b ∷ []) b
has_last [] b = inl refl
has_last (x ∷ xs) b = inr (has_last xs b)

pub has_either : (xs : List ℕ) (n b : ℕ) → HasNumber (xs ++ n ∷ []) b → HasNumber xs b ⊎ (n ≡ b)
has_either [] n b (inl e) = inr e
has_either [] n b (inr h) = absurd h
has_either (x ∷ xs) n b (inl e) = inl (inl e)
has_either (x ∷ xs) n b (inr h) = elim (has_either xs n b h) [ inl g ↦ inl (inr g) | inr g ↦ inr g ]

pub number_there : (xs : List ℕ) (n d : ℕ) → n < length xs → HasNumber xs (get_or xs n d)
number_there (x ∷ xs) (suc n) d l = inr (number_there xs n d (omega (arith, l)))
number_there xs n d l = grind arith

-- the numbers from the nth on: that one, and those from the next one on
pub number_step : (xs : List ℕ) (n d b : ℕ) → n < length xs → HasNumber (drop n xs) b →
    (get_or xs n d ≡ b) ⊎ HasNumber (drop (n + 1) xs) b
number_step xs n d b l h = grind (arith, drop-cons, add-one)

pub number_past : (xs : List ℕ) (n b : ℕ) → length xs ≤ n → HasNumber (drop n xs) b → ⊥
number_past [] zero b l h = h
number_past [] (suc n) b l h = h
number_past (x ∷ xs) zero b l h = absurd (omega arith)
number_past (x ∷ xs) (suc n) b l h = number_past xs n b (omega (arith, l)) h

free_set : (t : List (Option Entry)) (n : ℕ) (e : Entry) → n < length t → entry_at t n ≡ None →
    free t ≡ suc (free (set t n (Some e)))
free_set (None ∷ t) (suc n) e l h = ap suc (free_set t n e (omega arith) h)
free_set (Some x ∷ t) (suc n) e l h = free_set t n e (omega arith) h
free_set t n e l h = grind arith

pub enter_grows : (t : List (Option Entry)) (n : ℕ) (e : Entry) (todo todo' : List ℕ) → n < length t →
    entry_at t n ≡ None → todo' ≡ todo ++ n ∷ [] → TableGrows t (set t n (Some e)) todo todo'
enter_grows t n e todo todo' l h f = record {
  size = length-set t n (Some e);
  keeps = grind (arith, cases_eq, get_or-set_other);
  is_new = grind (arith, cases_eq, has_last, get_or-set_other);
  todo = λ b k. rw f (has_left todo (n ∷ []) b k);
  todo_new = λ b k. elim (has_either todo n b (rw f at k)) [
    | inl g ↦ inl g
    | inr g ↦ inr (e, grind (arith, get_or-set_same))
  ];
  less = grind (arith, free_set, length-append);
}

pub grows_twice : (a b c : Trace) → Grows a b → Grows b c → Grows a c
grows_twice a b c f g = grind arith

-- the same set has the same slots once nodes were added
pub set_stays : (old new : Trace) → NodesOk (trace_nodes old) →
    NodesKept (trace_nodes old) (trace_nodes new) → new.held.depth ≡ old.held.depth → (set : ℕ) →
    set < length (trace_nodes old) → set_slots new set ≡ set_slots old set
set_stays old new o k e set l = grind (arith, slots_kept)

pub reached_stays : (old new : Trace) → NodesOk (trace_nodes old) →
    NodesKept (trace_nodes old) (trace_nodes new) → new.held.depth ≡ old.held.depth →
    new.image.now ≡ old.image.now → (b : ℕ) (e : Entry) → Reached old b e → Reached new b e
reached_stays old new o k d i b e r = grind (arith, set_stays)

-- nodes were added, and nothing else has changed but the slots at hand
pub ready_stays : (old new : Trace) → Ready old → NodesKept (trace_nodes old) (trace_nodes new) →
    new.held.depth ≡ old.held.depth → new.image.now ≡ old.image.now → new.starts.now ≡ old.starts.now →
    length new.held.board.items ≡ length old.held.board.items → OpenOk new.held →
    new.table.items ≡ old.table.items → Ready new
ready_stays old new r k d i s l h t = let m : image_of old ≡ image_of new = sym (ap view.image i) in record {
  formed = grind arith;
  starts_are = grind arith;
  size = grind arith;
  held = h;
  table_size = grind arith;
  table_ok = λ b e f. reached_stays old new r.held.nodes k d i b e (r.table_ok b e (grind arith));
}

-- a new entry
pub ready_entered : (old new : Trace) (n : ℕ) (e : Entry) → Ready old → new.held ≡ old.held →
    new.image.now ≡ old.image.now → new.starts.now ≡ old.starts.now →
    new.table.items ≡ set old.table.items n (Some e) → n < length old.table.items → Reached old n e →
    Ready new
ready_entered old new n e r h i s t l reached = let m : image_of old ≡ image_of new = sym (ap view.image i) in
    let k : NodesKept (trace_nodes old) (trace_nodes new) = grind arith in record {
      formed = grind arith;
      starts_are = grind arith;
      size = grind arith;
      held = subst OpenOk (sym h) r.held;
      table_size = ap length t ∙ (length-set old.table.items n (Some e) ∙ (grind arith));
      table_ok = λ b x f. reached_stays old new r.held.nodes k (grind arith) i b x (old_or_new b x (grind
          arith));
    }
  where
    old_or_new : (b : ℕ) (x : Entry) → entry_at (set old.table.items n (Some e)) b ≡ Some x → Reached old b x
    old_or_new b x f = elim (cases_eq b n) [
      | inl g ↦ grind (arith, get_or-set_same)
      | inr m ↦ r.table_ok b x (grind (arith, get_or-set_other))
    ]

pub known_grows : (old new : Trace) → Ready old → Grows old new → (b : ℕ) (s : OpenSlots)
    → known old b ≡ Some s →
    known new b ≡ Some s
known_grows old new r g b s h = go (entry_at old.table.items b) refl h
  where
    go : (x : Option Entry) → entry_at old.table.items b ≡ x → entry_slots old x ≡ Some s →
        known new b ≡ Some s
    go None e h = absurd (cc)
    go (Some x) e h = ap (entry_slots new) (g.table.keeps b x e) ∙
        (ap Some (set_stays old new r.held.nodes g.nodes g.depth x.set (r.table_ok b x e).there) ∙ h)

pub edge_grows : (old new : Trace) → Ready old → Grows old new → (b r : ℕ) (o : OpenSlots) →
    EdgeDone (image_of old) (known old) b r o → EdgeDone (image_of new) (known new) b r o
edge_grows old new ready g b r o d = subst (λ (x : Image). EdgeDone x (known new) b r o) (sym (ap view.image
    g.image)) (record {
      fresh = d.fresh;
      slots = d.slots;
      lands = grind (arith, known_grows);
      leaves = d.leaves;
      crossing = d.crossing;
    })

-- a block that is entered with the slots at hand
pub entered : (t : Trace) (from b : ℕ) → Ready t → Shut t → IsBlock (image_of t) b →
    Arrives (image_of t) from b (look t.held) → (is_first (image_of t) b ≡ true →
    AdvancesOpen (image_of t) b (look t.held)) →
    Reached t b (record { from = from; set = t.held.set })
entered t from b r s h a f = let e : look t.held ≡ set_slots t t.held.set = shut_look t.held r.held s in
    record {
      here = h;
      there = r.held.there;
      path = subst (Opens (image_of t) b (first_number (image_of t) b)) e (arrives_path (image_of t) from b
          (look t.held) a);
      came = grind (arith, edge_of_arrival);
      crossing = λ x. subst (AdvancesOpen (image_of t) b) e (f x);
    }

pub block_room : (image : Image) (b k n : ℕ) → IsBlock image b → k ≡ first_number image b →
    n ≡ length (block_at image b).instrs → 4 * (k + n) + 4 ≤ board_size image
unfolding board_size
block_room image b k n h e f = grind (
  arith,
  whole image b h,
  first_le image (suc b) (suc (length
      image.blocks)) (omega (arith, h.1)),
)

-- the instructions of a block as the code reads them
pub instrs_read : (image : Image) (b : ℕ) (x : CodeBlock) (is : List CodeInstr) →
    view.block x ≡ block_at image b → is ≡ x.instrs.items → map view.instr is ≡ (block_at image b).instrs
instrs_read image b x is e f = ap (map view.instr) f ∙ ap (λ (y : Block). y.instrs) e

pub instrs_count : (image : Image) (b : ℕ) (x : CodeBlock) (is : List CodeInstr) →
    view.block x ≡ block_at image b → is ≡ x.instrs.items → length is ≡ length (block_at image b).instrs
instrs_count image b x is e f = sym (length_map view.instr is) ∙ ap length (instrs_read image b x is e f)

pub advances_known : (image : Image) (b k : ℕ) (is : List Instr) (o : OpenSlots) → IsBlock image b →
    is ≡ (block_at image b).instrs → k ≡ first_number image b → o ≡ all_opened (advance_list is k) none_open →
    AdvancesOpen image b o
advances_known image b k is o h e f g = subst (AdvancesOpen image b) (grind arith) (advances_open image b h)

-- the slots at hand stay the same while nodes are added
pub look_stays : (old new : Open) → OpenOk old → OpenOk new → Moved old new → old.low ≡ old.high →
    new.low ≡ old.low → new.set ≡ old.set → look new ≡ look old
look_stays old new o n m s l e = grind (arith, shut_look, slots_kept)

-- the slots of another set at hand
pub base_ok : (o : Open) (set : ℕ) → OpenOk o → set < length (nodes_of o) → OpenOk (record o { set = set })
base_ok o set k l = grind arith

pub base_look : (o : Open) (set : ℕ) → OpenOk o → o.low ≡ o.high → set < length (nodes_of o) →
    look (record o { set = set }) ≡ slots_in (nodes_of o) o.depth set
base_look o set k e l = shut_look (record o { set = set }) (base_ok o set k l) e
