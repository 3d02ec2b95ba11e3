use Rattle.std.proofs.Common.{arith, ◌≡◌, ℕ, true, ap, sym, subst}
use Rattle.ws_isa.specs.Image.{instr_at}
use Rattle.df_core.specs.Core.{same_key}
use Rattle.store_buf.specs.declared.kept.Kept.{Kept}
use Rattle.store_buf.specs.Ordering.{kept_at}
use Rattle.part_store.specs.Parted.{is_store_op}
use Rattle.part_store.proofs.Moving.Answering as A
use Rattle.part_store.proofs.Running.Sought as S
use Rattle.part_store.proofs.parts.Parts.put_data.Goals as goal

pub returns-clause-ok : goal.returns-clause-ok
returns-clause-ok g c = let e = c.change.ensures in let ok = c.requires.ok in let k = c.args.kept in
    let q = c.request-old.ensures in record {
      early = rw (e.early, e.waiting) ok.early;
      printed = rw e.waiting ok.printed;
      queues = rw e.waiting ok.queues;
      lines = rw e.waiting ok.lines;
      counted = ok.counted;
      bare = λ w i b. A.kept_still c.args.self.now.order _ _ c.in-Some.ensures.within
          (ap (λ (x : Kept). x.wave) q) (ap (λ (x : Kept). x.instr) q) _ e.kept w i
          (ok.bare w i (A.still_in (same_key k.wave k.instr w i) _ _ (c.forget.ensures w i) b));
    }

pub returns-clause-filled : goal.returns-clause-filled
returns-clause-filled g c = grind (arith, A.key_flagged, A.found_at, A.replaced)

pub returns-clause-filed : goal.returns-clause-filed
returns-clause-filed g c = λ image f.
    let o = c.args.self.now.order in
    let p = c.in-Some.place in
    let k = c.args.kept in
    let is = A.key_flagged o p k.wave k.instr c.in-Some.ensures.is in
    let store : is_store_op (instr_at image (kept_at o p).instr).op ≡ true =
    subst (λ (i : ℕ). is_store_op (instr_at image i).op ≡ true) (sym is.1)
    (f.stores k.wave k.instr c.requires.bare) in
    record {
      filed = c.change.ensures.filed image (S.refilled image
          (record c.request-old.result { first = k.first; second = k.second }) (kept_at o p) store
          (ap (λ (x : Kept). x.instr) c.request-old.ensures)) f.filed;
      stores = λ w i e. f.stores w i
          (A.still_in (same_key k.wave k.instr w i) _ _ (c.forget.ensures w i) e);
    }
