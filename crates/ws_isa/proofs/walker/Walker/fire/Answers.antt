use Rattle.std.proofs.Common.{ℕ, ◌≡◌, ◌+◌, ◌*◌, [], ◌∷◌, ◌∙◌, slice_index, slice_set, sym, ap, subst, arith}
use Rattle.ws_isa.specs.Image.{now_of}
use Rattle.ws_isa.specs.View as view
use Rattle.ws_words.specs.declared.memory.Memory.{Memory}
use Rattle.ws_isa.specs.declared.table.PortValues.{PortValues}
use Rattle.ws_words.specs.Memory.{OutIs}
use Rattle.ws_isa.specs.Shows.{Resulted, looked, delivered, image_of}
use Rattle.ws_isa.proofs.Firing.{fired_at, third_unread}
use Rattle.ws_isa.proofs.walker.Walker.fire.Goals as goal

pub returns-clause-walk : goal.returns-clause-walk
returns-clause-walk c = λ world t b at l is.
    let w = c.args.self.now in
    let image = image_of c.args.program.now in
    let i = view.instr c.args.instr.now in
    let word = c.in_ok-word.word in
    let f0 = slice_index w.table.operands (4 * c.args.k) in
    let f1 = slice_index w.table.operands (4 * c.args.k + 1) in
    let f2 = slice_index w.table.operands (4 * c.args.k + 2) in
    let m = c.value.new.self.memory in
    let table : c.value.new.self.table ≡ w.table = c.in_ok-word.ensures.table ∙ c.look.ensures.table in
    fired_at image world c.requires.walks t b c.args.k word i w _ at l is (record {
      operands = c.send.ensures.operands
          ∙ ap (λ (x : PortValues). delivered (now_of i.op i.dests) word x.operands) table;
      results = c.send.ensures.results ∙ ap (λ (x : PortValues). slice_set x.results c.args.k word) table;
      outcome = λ o h.
          (let r = c.in_ok-word.ensures.result o
          (subst (λ (x : Memory). OutIs o x) (sym c.look.ensures.memory) h) in
          let r1 = subst (λ (n : ℕ). Resulted i.op (n ∷ c.word-second.result ∷ c.third-third.result ∷ []) o
          word m) c.word-first.ensures r in
          let r2 = subst (λ (n : ℕ). Resulted i.op (f0 ∷ n ∷ c.third-third.result ∷ []) o word m)
          c.word-second.ensures r1 in
          let r3 = third_unread i.op f0 f1 c.third-third.result f2 o word m c.third-third.ensures r2 in
          subst (λ (x : Memory). Resulted i.op (f0 ∷ f1 ∷ f2 ∷ []) o word x) (sym c.send.ensures.memory) r3);
      fired = (let e : c.send.new.self.fired ≡ w.fired = c.send.ensures.fired ∙ c.in_ok-word.ensures.fired
          ∙ c.look.ensures.fired in omega arith);
      fault = c.send.ensures.fault ∙ c.in_ok-word.ensures.fault ∙ c.look.ensures.fault
          ∙ ap (λ (n : ℕ). looked image.arrays i.op (n ∷ []) w.fault) c.word-first.ensures;
    })
