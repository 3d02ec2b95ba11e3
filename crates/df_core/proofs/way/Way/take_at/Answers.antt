use Rattle.std.proofs.Common.{◌<◌, map, length, refl, subst}
use Rattle.df_core.specs.Ways.{token_of, NoneAt, IsTokenAt, no_token}
use Rattle.df_core.proofs.Parts.Issuing.{or_any}
use Rattle.df_core.proofs.Parts.Found.{none_both, taken_now, taken_later}
use Rattle.df_core.proofs.way.Way.take_at.Goals as goal

pub returns-in-Some-clause-taken : goal.returns-in-Some-clause-taken
returns-in-Some-clause-taken c =
    let items = c.args.self.now.now.items in
    let l : c.in-Some.place < length items = subst (λ ts. c.in-Some.place < length ts) c.deref.ensures.value
    c.in-Some.ensures.0 in
    let at : IsTokenAt items c.in-Some.place c.args.wave c.args.instr c.args.port =
    subst (λ ts. IsTokenAt ts c.in-Some.place c.args.wave c.args.instr c.args.port) c.deref.ensures.value
    c.in-Some.ensures.1 in
    taken_now c.args.self.now _ c.in-Some.place c.remove.result c.args.wave c.args.instr c.args.port l
    c.remove.ensures.items (or_any items c.in-Some.place c.remove.result no_token l
    c.remove.ensures.value) refl at

pub returns-in-Some-find_token-clause-taken : goal.returns-in-Some-find_token-clause-taken
returns-in-Some-find_token-clause-taken c =
    let items = c.args.self.now.later.items in
    let l : c.in-Some-find_token.place < length items = subst (λ ts. c.in-Some-find_token.place < length ts)
    c.deref-2.ensures.value c.in-Some-find_token.ensures.0 in
    let at : IsTokenAt items c.in-Some-find_token.place c.args.wave c.args.instr c.args.port =
    subst (λ ts. IsTokenAt ts c.in-Some-find_token.place c.args.wave c.args.instr c.args.port)
    c.deref-2.ensures.value c.in-Some-find_token.ensures.1 in
    taken_later c.args.self.now _ c.in-Some-find_token.place c.remove-in-Some-find_token.result c.args.wave
    c.args.instr c.args.port l c.remove-in-Some-find_token.ensures.items
    (or_any items c.in-Some-find_token.place c.remove-in-Some-find_token.result no_token l
    c.remove-in-Some-find_token.ensures.value) refl at

pub returns-in-None-clause-taken : goal.returns-in-None-clause-taken
returns-in-None-clause-taken c = (
  refl,
  none_both (map token_of c.args.self.now.now.items) (map token_of c.args.self.now.later.items) c.args.wave
      c.args.instr c.args.port
      (subst (λ ts. NoneAt (map token_of ts) c.args.wave c.args.instr c.args.port) c.deref.ensures.value
      c.in_default.ensures)
      (subst (λ ts. NoneAt (map token_of ts) c.args.wave c.args.instr c.args.port) c.deref-2.ensures.value
      c.in-None.ensures),
)
