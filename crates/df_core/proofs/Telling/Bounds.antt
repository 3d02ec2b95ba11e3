-- Wave numbers are at most the number of instances that have fired.
use Rattle.std.proofs.Common.{ℕ, zero, suc, ◌≡◌, ◌<◌, ◌≤◌, ◌==◌, List, [], ◌∷◌, length, map, slice_index_or}
use Rattle.std.proofs.Common.{refl, inl, inr, eqb-true, arith}
use Rattle.std.proofs.lemmas.Bool.{and_parts}
use Rattle.ws_isa.specs.Image.{Image, ports}
use Rattle.df_core.specs.Core.{HasFired}
use Rattle.df_core.proofs.Walked.FromSound.{facts_of}
use Rattle.df_core.proofs.Walked.PortsThere.{ports_there}
use Rattle.df_core.proofs.Telling.Waves.{fired_wave, way_wave}
use Rattle.df_core.specs.declared.plain.Token.{Token}
use Rattle.df_core.specs.declared.plain.Asked.{Asked}
use Rattle.df_core.specs.declared.flow.Flow.{Flow}
use Rattle.df_core.specs.Stands.{HasRequest}
use Rattle.df_core.specs.Partial.{listed}
use Rattle.df_core.specs.Ways.{token_of}
use Rattle.df_core.specs.Flows.{request_of, GoingBeside, no_asked, asked_at, AskedMay}

pub arrival_wave : (image : Image) (tok : Token) (flow : Flow) → GoingBeside image (token_of tok ∷ []) flow
    → tok.wave ≤ flow.fired
arrival_wave image tok flow b =
    let g = b.going in
    let st = g.holds.stands in
    let l : tok.wave ≤ length g.state.fired =
    way_wave image g.world (facts_of image g.world (ports_there image g.formed) g.sound) g.state st.fit
    st.grounded tok.wave tok.instr tok.port tok.value
    (st.way_from tok.wave tok.instr tok.port tok.value (inl (refl, refl, refl, refl))) in
    omega (arith, g.holds.count_is)

pub has_asked : (image : Image) (held : List Asked) (k : ℕ) → k < length held →
    HasRequest (map (request_of image) held) (slice_index_or held k no_asked).wave
    (slice_index_or held k no_asked).instr
    (listed (ports image (slice_index_or held k no_asked).instr) (slice_index_or held k no_asked).operands)
has_asked image [] k l = absurd (omega arith)
has_asked image (a ∷ held) zero l = inl (refl, refl, refl)
has_asked image (a ∷ held) (suc k) l = inr (has_asked image held k (omega arith))

pub issue_wave : (image : Image) (flow : Flow) (k : ℕ) → GoingBeside image [] flow
    → k < length flow.asked.items → AskedMay image flow k → flow.chain.wave < flow.fired
issue_wave image flow k b l may =
    let g = b.going in
    let st = g.holds.stands in
    let a : Asked = asked_at flow k in
    let h : HasFired g.state.fired (asked_at flow k).wave (asked_at flow k).instr =
    st.grounded.requests (asked_at flow k).wave (asked_at flow k).instr
    (listed (ports image (asked_at flow k).instr) (asked_at flow k).operands)
    (st.asked_from (asked_at flow k).wave (asked_at flow k).instr
    (listed (ports image (asked_at flow k).instr) (asked_at flow k).operands)
    (has_asked image flow.asked.items k l)) in
    let w : (asked_at flow k).wave < length g.state.fired = fired_wave image g.world
    (facts_of image g.world (ports_there image g.formed) g.sound) g.state st.fit st.grounded
    (asked_at flow k).wave (asked_at flow k).instr h in
    let e : (asked_at flow k).wave ≡ flow.chain.wave = eqb-true (asked_at flow k).wave flow.chain.wave
    (and_parts ((asked_at flow k).wave == flow.chain.wave) _ may).0 in
    omega (arith, g.holds.count_is)
