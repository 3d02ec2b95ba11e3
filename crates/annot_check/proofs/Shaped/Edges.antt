-- One edge of a block, and all of them.
use Rattle.std.proofs.Common.{ℕ, zero, suc, ◌-◌, ◌≡◌, ◌<◌, ◌≤◌, ◌⊎◌, false, List, [], ◌∷◌, length, Option}
use Rattle.std.proofs.Common.{Some, Result, OnOk, refl, sym, ap, ◌∙◌, inl, inr, subst, arith, eqb, ne_eqb}
use Rattle.std.proofs.lemmas.Bool.{cases_lt}
use Rattle.ws_isa.specs.declared.instr.Dest.{Dest}
use Rattle.ws_isa.specs.declared.instr.Op.{Op}
use Rattle.ws_isa.specs.Image.{Instr, Exit, Goto, Branch, Landings, Stop, Pad, Image, block_at, first_number}
use Rattle.ws_isa.specs.Image.{stops, is_stop, target, leave_to, IsBlock}
use Rattle.ws_isa.specs.Sound.{OpenSlots, all_opened, Fresh, Opens, opens_at}
use Rattle.annot_check.specs.declared.trace.Trace.{Trace}
use Rattle.annot_check.specs.Breaches.{Taken, PortBreach, edge}
use Rattle.annot_check.specs.Runs.{edge_list}
use Rattle.annot_check.specs.Done.{EdgeDone}
use Rattle.annot_check.specs.Table.{image_of, entry_at, entry_slots, known, set_slots, Arrives, Ready, Lands}
use Rattle.annot_check.specs.Table.{choices_of}
use Rattle.annot_check.proofs.Shaped.Exits.{landing_last}
use Rattle.annot_check.proofs.Shaped.Paths.{edge_is}
use Rattle.ws_isa.specs.Shows.{edge_by}

pub edge_arrives : (image : Image) (b r t : ℕ) (o p : OpenSlots) (ds : List Dest) → stops image b ≡ false →
    Opens image b (first_number image (suc b)) o → t ≡ target image b r → ds ≡ opens_at image b r →
    p ≡ all_opened ds o → Arrives image b t p
edge_arrives image b r t o p ds s path e f g = grind arith

pub edge_bad : (image : Image) (b r j q : ℕ) (o : OpenSlots) (ds : List Dest) → stops image b ≡ false →
    Opens image b (first_number image (suc b)) o → ds ≡ opens_at image b r → Taken ds o j q →
    PortBreach image j q
edge_bad image b r j q o ds s path f t = edge path refl s r (subst (λ (x : List Dest). Taken x o j q) f t)

pub edge_done : (t : Trace) (b r n : ℕ) (o p : OpenSlots) (ds : List Dest) → Ready t →
    n ≡ target (image_of t) b r → ds ≡ opens_at (image_of t) b r → Fresh ds o → p ≡ all_opened ds o →
    Lands t n p → EdgeDone (image_of t) (known t) b r o
edge_done t b r n o p ds ready e f fresh g l = let same : all_opened (opens_at (image_of t) b r) o ≡ set_slots
    t l.entry.set = grind arith in let has : entry_at t.table.items (target (image_of t) b r) ≡ Some l.entry =
    grind arith in record {
      fresh = grind arith;
      slots = set_slots t l.entry.set;
      lands = ap (entry_slots t) has;
      leaves = same;
      crossing = (ready.table_ok (target (image_of t) b r) l.entry has).crossing;
    }

sent_same : (pads : List Pad) (r s : ℕ) (i : Instr) (op : Op) → eqb r 0 ≡ eqb s 0 →
    edge_by pads r i op ≡ edge_by pads s i op
sent_same pads r s i op e = grind arith

edge_list_same : (pads : List Pad) (r s : ℕ) (is : List Instr) → eqb r 0 ≡ eqb s 0 →
    edge_list pads r is ≡ edge_list pads s is
edge_list_same pads r s [] e = refl
edge_list_same pads r s (i ∷ is) e = grind (arith, sent_same, edge_list_same pads r s is e)

pub record SameEdge (x : Exit) (r : ℕ) : Type 0 where
  pub choice : ℕ
  pub below : choice < choices_of x
  pub leads : leave_to x r ≡ leave_to x choice
  pub zero_too : eqb r 0 ≡ eqb choice 0

pub same_edge : (x : Exit) (r : ℕ) → is_stop x ≡ false → SameEdge x r
same_edge (Goto b) (suc r) e = record {
  choice = 1;
  below = omega arith;
  leads = refl;
  zero_too = ne_eqb (suc r) 0 (λ h. absurd (omega arith)) ∙ sym (ne_eqb 1 0 (λ h. absurd (omega arith)));
}
same_edge (Branch s b c) (suc r) e =
    let z : eqb (suc r) 0 ≡ false = ne_eqb (suc r) 0 (λ h. absurd (omega arith)) in
    record {
      choice = 1;
      below = omega arith;
      leads = rw z refl;
      zero_too = z ∙ sym (ne_eqb 1 0 (λ h. absurd (omega arith)));
    }
same_edge (Landings s ls) r e = go (cases_lt r (length ls))
  where
    go : (r < length ls) ⊎ (length ls ≤ r) → SameEdge (Landings s ls) r
    go (inl l) = record { choice = r; below = omega arith; leads = refl; zero_too = refl }
    go (inr l) = past ls r l
      where
        past : (ls : List ℕ) (r : ℕ) → length ls ≤ r → SameEdge (Landings s ls) r
        past [] zero l = record { choice = 0; below = omega arith; leads = refl; zero_too = refl }
        past [] (suc r) l = record {
          choice = 1;
          below = omega arith;
          leads = refl;
          zero_too =
              ne_eqb (suc r) 0 (λ h. absurd (omega arith)) ∙ sym (ne_eqb 1 0 (λ h. absurd (omega arith)));
        }
        past (x ∷ xs) r l = record {
          choice = length (x ∷ xs);
          below = omega arith;
          leads = sym (landing_last (x ∷ xs) r (length (x ∷ xs) - 1) l refl) ∙
              landing_last (x ∷ xs) (length (x ∷ xs)) (length (x ∷ xs) - 1) (omega arith) refl;
          zero_too = ne_eqb r 0 (λ h. absurd (omega arith)) ∙
              sym (ne_eqb (length (x ∷ xs)) 0 (λ h. absurd (omega arith)));
        }
same_edge Stop r e = absurd (cc)
same_edge x zero e = record { choice = 0; below = omega arith; leads = refl; zero_too = refl }

target_same : (image : Image) (b r s : ℕ) → leave_to (block_at image b).exit r ≡ leave_to
    (block_at image b).exit s → target image b r ≡ target image b s
unfolding target
target_same image b r s e = e

stop_is : (image : Image) (b : ℕ) → stops image b ≡ false → is_stop (block_at image b).exit ≡ false
unfolding stops
stop_is image b e = e

-- all edges are done when those at the first choices are
pub all_edges : (image : Image) (known : ℕ → Option OpenSlots) (b n : ℕ) (o : OpenSlots) → IsBlock image b →
    stops image b ≡ false → n ≡ choices_of (block_at image b).exit → ((r : ℕ) → r < n →
    EdgeDone image known b r o) → (r : ℕ) → EdgeDone image known b r o
all_edges image known b n o h st e done r = let s : SameEdge (block_at image b).exit r =
    grind (arith, same_edge, stop_is) in let d : EdgeDone image known b s.choice o = omega arith in let t :
    target image b r ≡ target image b s.choice = target_same image b r s.choice s.leads in let l : opens_at
    image b r ≡ opens_at image b s.choice = grind (arith, edge_is, edge_list_same) in record {
      fresh = grind arith;
      slots = d.slots;
      lands = ap known t ∙ d.lands;
      leaves = grind arith;
      crossing = grind arith;
    }

-- what is known of a value where the call succeeded
pub on_ok : {A E : Type 0} {P Q R : Type 0} (r : Result A E) → OnOk r P → OnOk r Q → (P → Q → R) → OnOk r R
on_ok r p q f = grind arith

pub on_ok_three : {A E : Type 0} {P Q R S : Type 0} (r : Result A E) → OnOk r P → OnOk r Q → OnOk r R →
    (P → Q → R → S) → OnOk r S
on_ok_three r p q s f = grind arith

pub on_ok_four : {A E : Type 0} {P Q R S T : Type 0} (r : Result A E) → OnOk r P → OnOk r Q → OnOk r R →
    OnOk r S → (P → Q → R → S → T) → OnOk r T
on_ok_four r p q s t f = grind arith
