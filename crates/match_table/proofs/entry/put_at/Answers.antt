use Rattle.std.proofs.Common.{ℕ, sym, ap, get_or, ◌∙◌, arith}
use Rattle.match_table.specs.declared.entry.Pair.{Pair}
use Rattle.match_table.specs.Pages.{PageContent, code_of}
use Rattle.match_table.specs.Ports.{set_half}
use Rattle.match_table.proofs.Entries.{entry, first_more, page_is, second_more, third_more, third_set}
use Rattle.match_table.proofs.Entries.{value_set}
use Rattle.match_table.proofs.Halves.{third_half}
use Rattle.match_table.proofs.entry.put_at.Goals as goal

pub returns-then-port-eq0 : goal.returns-then-port-eq0
returns-then-port-eq0 c = let half = entry c.page.inside.had c.page.inside.values c.args.place in
    let code = code_of c.args.is_wide c.args.word in let more = c.with_had.ensures.first c.if-port-eq0.true in
    let v : Pair = get_or c.page.inside.values c.args.place (record { first = 0; second = 0 }) in
    page_is _ _ _ _ _ _ _ c.page.view_is
    (value_set c.page.inside.had c.page.inside.values c.args.place c.args.port code c.with_had.result
    (record { first = c.args.word; second = v.second }) c.args.page.now
    (ap (λ (x : PageContent). x.entries) c.page.view_is)
    c.page.invariant.0 c.page.invariant.1 c.requires
    (first_more _ _ c.args.word c.args.is_wide v more.0 more.1 more.2
    ∙ ap (λ (k : ℕ). set_half half k code) (sym c.if-port-eq0.true)))

pub returns-then-port-eq1 : goal.returns-then-port-eq1
returns-then-port-eq1 c = let half = entry c.page.inside.had c.page.inside.values c.args.place in
    let code = code_of c.args.is_wide c.args.word in
    let more = c.with_had.ensures.second c.if-port-eq1.true in
    let v : Pair = get_or c.page.inside.values c.args.place (record { first = 0; second = 0 }) in
    page_is _ _ _ _ _ _ _ c.page.view_is
    (value_set c.page.inside.had c.page.inside.values c.args.place c.args.port code c.with_had.result
    (record { first = v.first; second = c.args.word }) c.args.page.now
    (ap (λ (x : PageContent). x.entries) c.page.view_is)
    c.page.invariant.0 c.page.invariant.1 c.requires
    (second_more _ _ c.args.word c.args.is_wide v more.0 more.1 more.2
    ∙ ap (λ (k : ℕ). set_half half k code) (sym c.if-port-eq1.true)))

pub returns-else-port-eq1 : goal.returns-else-port-eq1
returns-else-port-eq1 c = let half = entry c.page.inside.had c.page.inside.values c.args.place in
    let code = code_of c.args.is_wide c.args.word in
    let near = c.if-port-eq0.false in let next = c.if-port-eq1.false in
    let more = c.with_had.ensures.third (omega (arith, near, next)) in
    page_is _ _ _ _ _ _ _ c.page.view_is
    (third_set c.page.inside.had c.page.inside.values c.args.place c.args.port code c.with_had.result
    c.args.page.now (ap (λ (x : PageContent). x.entries) c.page.view_is)
    c.page.invariant.0 c.page.invariant.1 c.requires
    (third_more _ _ code _ more.0 more.1 more.2 ∙ third_half half c.args.port code near next))
