-- What the issue of a request leads to.
use Rattle.std.proofs.Common.{ℕ, ◌≡◌, List, [], ◌∷◌, ◌++◌, Option, Some, None, Result, Ok, Err, slice_set}
use Rattle.std.proofs.Common.{◌<◌, length, slice_index_or, is_none, not, true, false, sym, ap, ◌∙◌}
use Rattle.std.proofs.Common.{subst, inl, arith}
use Rattle.std.proofs.lemmas.Bool.{and_from, and_parts}
use Rattle.ws_words.specs.Outside.{Outside}
use Rattle.ws_isa.specs.declared.instr.Op.{Op}
use Rattle.ws_isa.specs.declared.instr.Dest.{Dest}
use Rattle.ws_isa.specs.Image.{Image, Token, instr_at, is_past_op, ports, sends, answer, tokens_to}
use Rattle.port_set.specs.Ports.{Told}
use Rattle.df_core.specs.Began.{Began}
use Rattle.df_core.specs.Chains.{chain_of, may_flag, PassedOn}
use Rattle.df_core.specs.declared.chain.Chain as code
use Rattle.df_core.specs.Core.{has}
use Rattle.df_core.specs.Effect.{effect_after}
use Rattle.df_core.specs.Places.{destinations}
use Rattle.df_core.specs.Rights.{operands_of}
use Rattle.store_buf.specs.declared.fault.BufFault.{BufFault}
use Rattle.store_buf.specs.declared.fault.BufFault.TheVariants as fault
use Rattle.store_buf.specs.declared.kept.Kept.{Kept}
use Rattle.store_buf.specs.declared.order.Order.{Order}
use Rattle.store_buf.specs.declared.store.Store.{Store}
use Rattle.store_buf.specs.Contents.{FaultIs, RightTokens}
use Rattle.store_buf.specs.Holds.{Holds, Issued, part}
use Rattle.store_buf.specs.Ordering.{MayAt, kept_at, early_of, no_request, on_cell, ready_flag}
use Rattle.store_buf.specs.Outdoors.{HoldsOut, Performed, RoseAt, is_cell_op}
use Rattle.store_buf.specs.Outers.{holding}
use Rattle.store_buf.specs.Stores.{IssueLeads, SettledSo, StoreKeeps}
use Rattle.store_buf.proofs.Stepping as S
use Rattle.store_buf.proofs.Lists.{push_here}
use Rattle.ws_words.proofs.Lists.{push_length}
use Rattle.ws_words.proofs.Bools.{not_true as not_false}

-- the request that came last, and that the chain lets issue
module _ (image : Image) (o new : Order) (k : Kept) (place : ℕ) (place_is : place ≡ length o.kept.items)
    (kept : new.kept.items ≡ o.kept.items ++ k ∷ []) (chain : new.chain ≡ o.chain) where
  pub last_is : kept_at new place ≡ k
  last_is = ap (λ (ks : List Kept). slice_index_or ks place no_request) kept
      ∙ subst (λ (n : ℕ). slice_index_or (o.kept.items ++ k ∷ []) n no_request ≡ k) (sym place_is)
      (push_here o.kept.items k no_request)

  pub may_last : k.answer ≡ None → may_flag image (chain_of o.chain) k.wave k.instr k.first ≡ true
      → MayAt image new place
  may_last waits lets = record {
    within = subst (λ (ks : List Kept). place < length ks) (sym kept)
        (let l = push_length o.kept.items k in omega (arith, l, place_is));
    ready = subst (λ (x : Kept). ready_flag image new x ≡ true) (sym last_is)
        (and_from (is_none k.answer) (may_flag image (chain_of new.chain) k.wave k.instr k.first)
        (ap is_none waits)
        (subst (λ (c : code.Chain). may_flag image (chain_of c) k.wave k.instr k.first ≡ true) (sym chain)
        lets));
  }

module _ (image : Image) {P : Type 0} (old new : Store P) (p : ℕ) (may : MayAt image old.order p) (k : Kept)
    (k_is : k ≡ kept_at old.order p) (op : Op) (op_is : op ≡ (instr_at image k.instr).op)
    (inside : is_past_op image.arrays op (k.first ∷ []) ≡ false) (word : ℕ)
    (answered : (began : List (Option Began)) (o : Outside) (third : ℕ) → HoldsOut began o (holding old.outer)
    → Performed began op (k.first ∷ k.second ∷ third ∷ []) o word (holding new.outer))
    (going : old.fault ≡ None) (still : new.fault ≡ None)
    (kept : new.order.kept.items ≡ slice_set old.order.kept.items p
    (record (kept_at old.order p) { answer = Some word }))
    (passed : PassedOn image (chain_of old.order.chain) (kept_at old.order p).instr (early_of old.order)
    (chain_of new.order.chain) (early_of new.order)) (dests : List Dest)
    (dests_are : dests ≡ destinations image k.instr 0) (before after : List Token)
    (told : after ≡ before ++ tokens_to k.wave word dests) where
  pub leads : IssueLeads image old new before after
  leads = (
    tokens_to k.wave word dests,
    told,
    λ world began m formed sound stands.
        let o = old.order in
        let within : is_past_op image.arrays (instr_at image (kept_at o p).instr).op
        ((kept_at o p).first ∷ []) ≡ false =
        subst (λ x. is_past_op image.arrays (instr_at image x.instr).op (x.first ∷ []) ≡ false) k_is
        (subst (λ y. is_past_op image.arrays y (k.first ∷ []) ≡ false) op_is inside) in
        let answers : Performed began (instr_at image (kept_at o p).instr).op
        ((kept_at o p).first ∷ (kept_at o p).second ∷ 0 ∷ []) m word (holding new.outer) =
        subst (λ x. Performed began (instr_at image x.instr).op (x.first ∷ x.second ∷ 0 ∷ []) m word
        (holding new.outer)) k_is
        (subst (λ y. Performed began y (k.first ∷ k.second ∷ 0 ∷ []) m word (holding new.outer)) op_is
        (answered began m 0 stands.outside)) in
        let hold : Holds image world began o false (holding old.outer) m =
        subst (λ f. Holds image world began o (has f) (holding old.outer) m) going stands in
        let r = S.issues image world formed sound began o (holding old.outer) m hold p may.within may.ready
        within word new.order (holding new.outer) answers kept passed in
        let xs = operands_of (ports image (kept_at o p).instr) (kept_at o p).first (kept_at o p).second in
        let sent : tokens_to k.wave word dests ≡ sends image (kept_at o p).wave (kept_at o p).instr xs
        (answer image (kept_at o p).instr xs m) =
        ap (tokens_to k.wave word) dests_are
        ∙ ap (λ x. tokens_to x.wave word (destinations image x.instr 0)) k_is
        ∙ S.tokens_are image world formed sound began o (holding old.outer) m hold p may.within may.ready
        within word new.order (holding new.outer) answers kept passed in
        record {
          wave = (kept_at o p).wave;
          instr = (kept_at o p).instr;
          memory = effect_after image (kept_at o p).instr xs m;
          event = inl (subst (λ (x : List Token × Option ℕ × Option ℕ). Issued image (part image o.kept.items
              (chain_of o.chain) (has x.1) m) (kept_at o p).wave (kept_at o p).instr x.0 (part image
              new.order.kept.items (chain_of new.order.chain) (has x.2) (effect_after image
              (kept_at o p).instr xs m))) (λ j. (sym sent j, sym going j, sym still j)) r.0);
          right = subst (RightTokens image world) (sym sent) (S.sent_right image world formed sound began o
              (holding old.outer) m hold p may.within may.ready);
          fault = subst (FaultIs image world) (sym still) tt;
          stands = subst (λ f. Holds image world began new.order (has f) (holding new.outer) (effect_after
              image (kept_at o p).instr xs m)) (sym still) r.1;
        },
  )

-- room was made, and a request came
pub keeps_on : {P : Type 0} (a b c : Store P) (k : Kept) → StoreKeeps a a.order.kept.items b
    → StoreKeeps b (b.order.kept.items ++ k ∷ []) c → StoreKeeps a (a.order.kept.items ++ k ∷ []) c
keeps_on a b c k one two = record {
  kept_are = two.kept_are ∙ ap (λ (ks : List Kept). ks ++ k ∷ []) one.kept_are;
  chain = two.chain ∙ one.chain;
  early = two.early ∙ one.early;
  outer = two.outer ∙ one.outer;
  fault = two.fault ∙ one.fault;
  failed = two.failed ∙ one.failed;
  starved = two.starved ∙ one.starved;
}

-- how issues end after one that changes no port
pub settled_from : (image : Image) {P : Type 0} (old mid new : Store P) (r : Result (Unit {0}) BufFault)
    → mid.failed ≡ old.failed → mid.outer.ports ≡ old.outer.ports → SettledSo image mid r new
    → SettledSo image old r new
settled_from image old mid new (Ok u) failed ports s = (s.0, s.1 ∙ failed, s.2, s.3)
settled_from image old mid new (Err (fault.Index array)) failed ports s = (s.0, s.1 ∙ failed, s.2)
settled_from image old mid new (Err (fault.Port port)) failed ports s = (
  s.0,
  s.1,
  s.2,
  subst (λ (x : List (Option Told)). RoseAt port x new.outer.ports) ports s.3,
  s.4,
)
settled_from image old mid new (Err fault.NoMemory) failed ports s = (s.0, s.1 ∙ failed, s.2, s.3)
settled_from image old mid new r failed ports s = absurd s

pub is_within : (image : Image) (k : Kept) (op : Op) → op ≡ (instr_at image k.instr).op
    → on_cell image k ≡ true → is_past_op image.arrays op (k.first ∷ []) ≡ false
is_within image k op is cell = subst (λ (x : Op). is_past_op image.arrays x (k.first ∷ []) ≡ false) (sym is)
    (not_false (is_past_op image.arrays (instr_at image k.instr).op (k.first ∷ []))
    (and_parts (is_cell_op (instr_at image k.instr).op)
    (not (is_past_op image.arrays (instr_at image k.instr).op (k.first ∷ []))) cell).1)
