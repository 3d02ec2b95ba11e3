use Rattle.std.proofs.Common.{suc, ◌-◌, ◌≡◌, ◌/◌, true, false, sym, ap, ◌∙◌, subst, arith}
use Rattle.df_core.specs.Core.{same_key}
use Rattle.store_buf.specs.Requests.{no_request, request_at}
use Rattle.store_buf.specs.Trees.{LeadsTo, child_of, leaf, node_at, root_of, seek}
use Rattle.store_buf.proofs.Lists.{or_any}
use Rattle.store_buf.proofs.Searched.{grown_same, is_other, leads_on, seek_on}
use Rattle.store_buf.proofs.index.Index.hook.Goals as goal

pub loop-left-init : goal.loop-left-init
loop-left-init c = record {
  within = omega (arith, c.if-at-len.false, c.len.ensures);
  leads = λ more new g. ap (λ r. seek more new 33 r c.args.instr c.args.wave c.args.instr)
      (sym c.root-at.ensures);
}

pub returns-then-is_of : goal.returns-then-is_of
returns-then-is_of c = let ks = c.args.kept.now in
    let l = c.loop-left.invariant.within in
    let e = or_any ks c.loop-left.at _ no_request (omega (arith, l, c.requires)) in (
      l,
      subst (λ x. same_key x.wave x.instr c.args.wave c.args.instr ≡ true) e
          (sym c.is_of.ensures ∙ c.if-is_of.true),
      (c.loop-left.left, c.loop-left.key, c.loop-left.invariant.leads),
    )

pub returns-then-next-len : goal.returns-then-next-len
returns-then-next-len c = let ks = c.args.kept.now in let ns = c.args.self.now.nodes.items in
    let w = c.args.wave in
    let i = c.args.instr in
    let root = root_of c.args.self.now.roots.items w in
    let l = c.loop-left.invariant.within in
    let b : c.child-next.result ≡ child_of (node_at ns c.loop-left.at) c.loop-left.key = c.child-next.ensures
    ∙ ap (λ x. child_of x c.loop-left.key) (c.index.ensures ∙ or_any ns c.loop-left.at _ leaf l) in
    let n : suc c.loop-left.left ≡ suc (suc (c.loop-left.left - 1)) =
    omega (arith, c.loop-left-test.true) in
    let e = or_any ks c.loop-left.at _ no_request (omega (arith, l, c.requires)) in (
      l,
      subst (λ x. same_key x.wave x.instr w i ≡ false) e (sym c.is_of.ensures ∙ c.if-is_of.false),
      omega (arith, b, c.if-next-len.true, c.len-in-loop-left.ensures),
      (
        c.loop-left.left - 1,
        subst (λ x. LeadsTo ks ns root w i x c.loop-left.at c.loop-left.key) n
            c.loop-left.invariant.leads,
      ),
    )

pub loop-left-preserved : goal.loop-left-preserved
loop-left-preserved c = let ks = c.args.kept.now in let ns = c.args.self.now.nodes.items in
    let w = c.args.wave in let i = c.args.instr in
    let root = root_of c.args.self.now.roots.items w in
    let l = c.loop-left.invariant.within in
    let e = or_any ks c.loop-left.at _ no_request (omega (arith, l, c.requires)) in
    let b : c.child-next.result ≡ child_of (node_at ns c.loop-left.at) c.loop-left.key = c.child-next.ensures
    ∙ ap (λ x. child_of x c.loop-left.key) (c.index.ensures ∙ or_any ns c.loop-left.at _ leaf l) in
    let other : same_key (request_at ks c.loop-left.at).wave (request_at ks c.loop-left.at).instr w i
    ≡ false = subst (λ x. same_key x.wave x.instr w i ≡ false) e (sym c.is_of.ensures ∙ c.if-is_of.false) in
    let n : c.loop-left.left ≡ suc (c.loop-left.left - 1) = omega (arith, c.loop-left-test.true) in
    record {
      within = omega (arith, c.if-next-len.false, c.len-in-loop-left.ensures);
      leads = subst (λ x. LeadsTo ks ns root w i x c.child-next.result (c.loop-left.key / 2)) n
          (subst (λ x. LeadsTo ks ns root w i c.loop-left.left x (c.loop-left.key / 2)) (sym b)
          (leads_on ks ns root w i c.loop-left.left c.loop-left.at c.loop-left.key
          c.loop-left.invariant.leads l other
          (omega (arith, b, c.if-next-len.false, c.len-in-loop-left.ensures))));
    }

pub returns-then-is_of-2 : goal.returns-then-is_of-2
returns-then-is_of-2 c = let ks = c.args.kept.now in
    let l = c.loop-left.invariant.within in
    let e = or_any ks c.loop-left.at _ no_request (omega (arith, l, c.requires)) in (
      l,
      subst (λ x. same_key x.wave x.instr c.args.wave c.args.instr ≡ true) e
          (sym c.is_of-2.ensures ∙ c.if-is_of-2.true),
      (c.loop-left.left, c.loop-left.key, c.loop-left.invariant.leads),
    )

pub returns : goal.returns
returns c = let ks = c.args.kept.now in let ns = c.args.self.now.nodes.items in let w = c.args.wave in
    let i = c.args.instr in
    let root = root_of c.args.self.now.roots.items w in
    let l = c.loop-left.invariant.within in
    let e = or_any ks c.loop-left.at _ no_request (omega (arith, l, c.requires)) in
    let other : same_key (request_at ks c.loop-left.at).wave (request_at ks c.loop-left.at).instr w i
    ≡ false = subst (λ x. same_key x.wave x.instr w i ≡ false) e
    (sym c.is_of-2.ensures ∙ c.if-is_of-2.false) in
    let n : suc c.loop-left.left ≡ 1 = omega (arith, c.loop-left-test.false) in
    subst (λ x. LeadsTo ks ns root w i x c.loop-left.at c.loop-left.key) n c.loop-left.invariant.leads ks ns
    (grown_same ks ns)
    ∙ seek_on ks ns 0 c.loop-left.at c.loop-left.key w i l (is_other _ _ w i other)
