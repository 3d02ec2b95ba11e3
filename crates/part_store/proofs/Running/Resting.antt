-- Where none may go no rule is applicable, and where none is it stays so.
use Rattle.std.proofs.Common.{ℕ, ◌≡◌, ◌<◌, ◌≤◌, ◌⊎◌, Bool, true, false, not, ◌&&◌, ◌||◌, nat_eq, nat_le, List}
use Rattle.std.proofs.Common.{[], ◌∷◌, length, Some, None, sym, ap, ◌∙◌, subst, inl, inr, eq-eqb, arith}
use Rattle.std.proofs.lemmas.Bool.{and_from, both_ways, le-leb}
use Rattle.ws_isa.specs.Image.{Image, instr_at, is_load, is_load_op, is_past_op, note_of}
use Rattle.df_core.specs.Core.{Chain, IsNext, Issuable, position_after}
use Rattle.df_core.specs.Chains.{chain_of, may_flag, next_flag}
use Rattle.df_core.proofs.Parts.Nexts.{is_next_flag}
use Rattle.store_buf.specs.declared.kept.Kept.{Kept}
use Rattle.store_buf.specs.Requests.{entry_of, issued_in}
use Rattle.store_buf.specs.Ordering.{ready_flag}
use Rattle.store_buf.proofs.Found.{entry_case}
use Rattle.store_buf.proofs.Coming.{entry_push}
use Rattle.part_store.specs.declared.entry.Queued.{Queued}
use Rattle.part_store.specs.declared.parts.Parts.{Parts}
use Rattle.part_store.specs.Bares.{is_in}
use Rattle.part_store.specs.Queues.{open_queues}
use Rattle.part_store.specs.Contents.{is_bare, holds_op, PartContent}
use Rattle.part_store.specs.Parted.{Fronts}
use Rattle.part_store.specs.Rules.{GoesByChain, NoRule, Waits, is_past_at, operands_at, ComesIn}
use Rattle.part_store.specs.Parts.{NoneGo, content_of, go_flag, rule_flag}
use Rattle.part_store.proofs.Queueing.Keys.{key_cases}
use Rattle.ws_words.proofs.Bools.{or_left, or_right}
use Rattle.df_core.proofs.Parts.Driving.{false_not}

none_long : (es : List Queued) → es ≡ [] → nat_eq (length es) 0 ≡ true
none_long es e = ap (λ (xs : List Queued). nat_eq (length xs) 0) e

load_is_op : (image : Image) (i : ℕ) → is_load image i ≡ true → is_load_op (instr_at image i).op ≡ true
unfolding is_load
load_is_op image i e = e

module _ {P : Type 0} (image : Image) (s : Parts P) (none : NoneGo image s) where
  stays : (k : Kept) → entry_of s.order.kept.items k.wave k.instr ≡ Some k → go_flag image s k ≡ false
  stays k e = grind (arith, entry_case)

  ready : (k : Kept) → k.answer ≡ None → k.wave ≡ s.order.chain.wave →
      (next_flag (chain_of s.order.chain)
      (note_of image k.instr) || (is_load_op (instr_at image k.instr).op && not
      (is_past_at image k) && nat_le (note_of image k.instr).ripple (position_after s.order.chain.last)))
      ≡ true →
      ready_flag image s.order k ≡ true
  ready k waits current turn = grind arith

  next_ready : (k : Kept) → k.answer ≡ None → k.wave ≡ s.order.chain.wave →
      IsNext (chain_of s.order.chain) (note_of image k.instr) → ready_flag image s.order k ≡ true
  next_ready k waits current next = grind (arith, ready, or_left, is_next_flag)

  goes_ready : (k : Kept) → GoesByChain image (content_of s) k → ready_flag image s.order k ≡ true
  goes_ready k g = ready k g.waits.waits g.may.current (elim g.may.turn [
    | inl n ↦ or_left _ _ (is_next_flag (chain_of s.order.chain) (note_of image k.instr) n)
    | inr l ↦ or_right (next_flag (chain_of s.order.chain) (note_of image k.instr)) _
        (and_from _ _ (and_from _ _ (load_is_op image k.instr l.0) (false_not _ g.within)) (le-leb _ _ l.2))
  ])

  bare_rule : (k : Kept) → is_in s.bare k.wave k.instr ≡ true → is_past_at image k ≡ false →
      (holds_op s.queues.entries.items (instr_at image k.instr).op k.first ≡ true) ⊎
      (open_queues s.queues.entries.items < 16) → rule_flag image s k ≡ true
  bare_rule k bare within room = grind arith

  whole_rule : (k : Kept) → is_in s.bare k.wave k.instr ≡ false →
      (nat_eq (length s.queues.entries.items) 0 || not (is_past_at image k)) ≡ true →
      rule_flag image s k ≡ true
  whole_rule k whole may = grind arith

  pub no_rule : Fronts (content_of s) → NoRule image (content_of s)
  no_rule fronts = record {
    opens = λ k o. both_ways (go_flag image s k) (stays k o.waits.kept) (and_from _ _ (next_ready k
        o.waits.waits o.current o.next) (bare_rule k o.waits.bare_is o.within o.room));
    goes = λ k g. both_ways (go_flag image s k) (stays k g.waits.kept) (and_from _ _ (goes_ready k g)
        (whole_rule k g.waits.bare_is (or_right _ _ (false_not _ g.within))));
    follows = λ e f. both_ways (is_bare (content_of s) e.wave e.instr) f.whole
        (fronts e e.row e.index f.first);
    faults = λ k f. both_ways (go_flag image s k) (stays k f.waits.kept)
        (and_from _ _ (next_ready k f.waits.waits f.current f.next)
        (whole_rule k f.waits.bare_is (or_left _ _ (none_long s.queues.entries.items f.none))));
  }

-- where the chain is stopped no rule is applicable
pub no_rule_stopped : (image : Image) (c : PartContent) (array : ℕ) → c.fault ≡ Some array → Fronts c →
    NoRule image c
no_rule_stopped image c array stopped fronts = grind arith

-- what the chain lets issue has its flag
pub next_lets : (image : Image) (c : Chain) (w i first : ℕ) → w ≡ c.wave → IsNext c (note_of image i) →
    may_flag image c w i first ≡ true
next_lets image c w i first current next = grind (arith, and_from, eq-eqb, or_left, is_next_flag)

pub load_lets : (image : Image) (c : Chain) (w i first : ℕ) → w ≡ c.wave → is_load image i ≡ true →
    is_past_op image.arrays (instr_at image i).op (first ∷ []) ≡ false →
    (note_of image i).ripple ≤ position_after c.last → may_flag image c w i first ≡ true
load_lets image c w i first current load within ripple =
    grind (arith, and_from, eq-eqb, or_right, load_is_op, false_not, le-leb)

-- a request or an address has come that the chain doesn't let go
module _ (image : Image) (c d : PartContent) (k : Kept) (b : Bool) (come : ComesIn c k b d)
    (none : NoRule image c)
    (held : may_flag image c.chain k.wave k.instr k.first ≡ false) where
  waits_old : (x : Kept) (v : Bool) → Waits d x v → may_flag image c.chain x.wave x.instr x.first ≡ true →
      Waits c x v
  waits_old x v w lets = grind (arith, key_cases, entry_push, both_ways)

  next_old : (x : Kept) → IsNext d.chain (note_of image x.instr) → IsNext c.chain (note_of image x.instr)
  next_old x n = subst (λ (y : Chain). IsNext y (note_of image x.instr)) come.chain n

  may_old : (x : Kept) → Waits c x false →
      Issuable image (issued_in d.kept) d.chain false x.wave x.instr (operands_at image x) →
      Issuable image (issued_in c.kept) c.chain false x.wave x.instr (operands_at image x)
  may_old x w may = grind arith

  lets_old : (x : Kept) → x.wave ≡ d.chain.wave → IsNext d.chain (note_of image x.instr) →
      may_flag image c.chain x.wave x.instr x.first ≡ true
  lets_old x current n = grind (arith, next_lets, next_old)

  goes_lets : (x : Kept) → GoesByChain image d x → may_flag image c.chain x.wave x.instr x.first ≡ true
  goes_lets x g = grind (arith, lets_old, load_lets)

  pub no_rule_held : Fronts d → NoRule image d
  no_rule_held fronts = record {
    opens = λ x o. none.opens x (record {
      waits = waits_old x true o.waits (lets_old x o.current o.next);
      current = o.current ∙ ap (λ (y : Chain). y.wave) come.chain;
      next = next_old x o.next;
      within = o.within;
      going = sym come.fault ∙ o.going;
      room = rw (← come.queued) o.room;
    });
    goes = λ x g. let w = waits_old x false g.waits (goes_lets x g) in none.goes x (record {
      waits = w;
      may = may_old x w g.may;
      within = g.within;
      going = sym come.fault ∙ g.going;
    });
    follows = λ e f. both_ways (is_bare d e.wave e.instr) f.whole (fronts e e.row e.index f.first);
    faults = λ x f. none.faults x (record {
      waits = waits_old x false f.waits (lets_old x f.current f.next);
      current = f.current ∙ ap (λ (y : Chain). y.wave) come.chain;
      next = next_old x f.next;
      past = f.past;
      going = sym come.fault ∙ f.going;
      none = sym come.queued ∙ f.none;
    });
  }
