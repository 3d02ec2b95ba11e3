use Rattle.std.proofs.Common.{◌≡◌, ◌-◌, ◌/◌, length, map, sym, ap, ◌∙◌, subst}
use Rattle.std.proofs.lemmas.Result.{on_ok_weaker}
use Rattle.std.proofs.lemmas.List.{length-map}
use Rattle.wave_gen.specs.Wire.{Made}
use Rattle.wave_gen.specs.Tables.{HasMade, bare, tail_of, hangs}
use Rattle.wave_gen.proofs.Tables.Hanging.{selected_is}
use Rattle.wave_gen.proofs.maker.Maker.select.Goals as goal

pub returns : goal.returns
returns c =
    let ts = c.args.tails.items in let z = c.args.test in
    let long : c.len.result ≡ length (map tail_of ts) = c.len.ensures ∙ c.args.tails.ok.0
    ∙ sym (length-map ts tail_of) in
    let links : c.saturating_sub-links.result / 6 ≡ (length (map tail_of ts) - 1) / 6 =
    ap (λ n. n / 6) (c.saturating_sub-links.ensures ∙ ap (λ n. n - 1) long) in
    on_ok_weaker c.link.result (λ e b w st.
    subst (λ (x : Made). HasMade b c.link.new.self x) (selected_is b z (c.saturating_sub-links.result / 6)
    (map tail_of ts) w links)
    (e b (hangs b z 0 (map tail_of ts) (bare w)) (c.in_ok-hang_all.ensures b (bare w) st))) c.link.ensures
