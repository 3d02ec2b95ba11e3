-- Where no request may be issued, nothing that waits is issuable.
use Rattle.std.proofs.Common.{ℕ, ◌≡◌, Bool, true, List, Option, Some, None, sym, ap, ◌∙◌, subst, arith}
use Rattle.std.specs.Prelude.{is_none}
use Rattle.std.proofs.lemmas.Bool.{and_from, both_ways}
use Rattle.ws_words.specs.Outside.{Outside, World}
use Rattle.ws_isa.specs.Image.{Image, instr_at, is_memory, ports}
use Rattle.df_core.specs.Core.{Chain, Issuable}
use Rattle.df_core.specs.Shown.{NoneIssuable, waits_if}
use Rattle.df_core.specs.Began.{Began}
use Rattle.df_core.specs.Rights.{operands_of}
use Rattle.df_core.specs.Partial.{listed}
use Rattle.df_core.specs.Chains.{chain_of, may_flag}
use Rattle.df_core.proofs.Parts.Driving.{flagged}
use Rattle.df_core.proofs.Parts.Arriving.{ports_is_op, memory_is_op}
use Rattle.store_buf.specs.declared.kept.Kept.{Kept}
use Rattle.store_buf.specs.declared.order.Order.{Order}
use Rattle.store_buf.specs.Requests.{kept_in, issued_in, answer_if, operands_if}
use Rattle.store_buf.specs.Ordering.{NoneMay, ready_flag}
use Rattle.store_buf.specs.Outdoors.{Holding}
use Rattle.store_buf.specs.Holds.{Holds, part}
use Rattle.store_buf.proofs.Found.{entry_case}
use Rattle.store_buf.proofs.Stepping.{two_ports}

-- the chain lets a request that is issuable issue
pub lets_issuable : (image : Image) (issued : ℕ → ℕ → Option ℕ) (c : Chain) (stopped : Bool) (k : Kept)
    → is_memory image k.instr ≡ true →
    Issuable image issued c stopped k.wave k.instr (operands_of (ports image k.instr) k.first k.second)
    → may_flag image c k.wave k.instr k.first ≡ true
lets_issuable image issued c stopped k memory may =
    let xs : listed (ports image k.instr) (record { first = k.first; second = k.second; third = 0 })
    ≡ operands_of (ports image k.instr) k.first k.second =
    subst (λ (n : ℕ). listed n (record { first = k.first; second = k.second; third = 0 }) ≡ operands_of n
    k.first k.second) (sym (ports_is_op image k.instr))
    (two_ports (instr_at image k.instr).op k.first k.second (sym (memory_is_op image k.instr) ∙ memory)) in
    flagged image issued c stopped
    (record {
      wave = k.wave;
      instr = k.instr;
      operands = record {
        first = k.first;
        second = k.second;
        third = 0;
      };
    })
    (subst (λ (ys : List ℕ). Issuable image issued c stopped k.wave k.instr ys) (sym xs) may)

module _ (image : Image) (world : World) (began : List (Option Began)) (o : Order) (stopped : Bool)
    (h : Holding) (m : Outside) (hold : Holds image world began o stopped h m) where
  -- a request that waits is kept, has no answer, and has these operands
  waits_so : (e : Option Kept) (xs : List ℕ) → waits_if (answer_if e) (operands_if image e) None ≡ Some xs
      → (k : Kept) × (e ≡ Some k) × (k.answer ≡ None)
      × (operands_of (ports image k.instr) k.first k.second ≡ xs)
  waits_so None xs w = absurd (let f : None ≡ Some xs = w in cc)
  waits_so (Some k) xs w = grind arith

  -- a kept request that is issuable may be issued
  pub may_be : (k : Kept) → kept_in image o.kept.items k.wave k.instr ≡ Some
      (operands_of (ports image k.instr) k.first k.second) → k.answer ≡ None →
      Issuable image (issued_in o.kept.items) (chain_of o.chain) stopped k.wave k.instr
      (operands_of (ports image k.instr) k.first k.second) → ready_flag image o k ≡ true
  may_be k e a may =
      let r = hold.right k.wave k.instr (operands_of (ports image k.instr) k.first k.second) e in
      and_from (is_none k.answer) _ (ap is_none a) (lets_issuable image (issued_in o.kept.items)
      (chain_of o.chain) stopped k r.memory may)

  pub none_issuable : NoneMay image o
      → NoneIssuable image (part image o.kept.items (chain_of o.chain) stopped m)
  none_issuable none w i xs waits may = grind (arith, entry_case, waits_so, both_ways, may_be)
