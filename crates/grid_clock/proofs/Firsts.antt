-- The first in the chain of the operations that may be issued.
use Rattle.std.proofs.Common.{ℕ, suc, ◌≡◌, ◌<◌, ◌≤◌, ◌⊎◌, true, false, List, length, [], Option, Some}
use Rattle.std.proofs.Common.{is_some, IfSome, MatchOption, sym, ap, ◌∙◌, subst, eqb-true, ◌==◌, arith}
use Rattle.std.proofs.lemmas.Bool.{cases_Bool, cases_eq, and_parts}
use Rattle.ws_words.specs.Outside.{World}
use Rattle.ws_isa.specs.Image as plain
use Rattle.ws_isa.specs.Image.{Image, ports, note_of}
use Rattle.ws_isa.specs.Sound.{seq}
use Rattle.df_core.specs.Core.{Chain, State, Issuable, IsNext}
use Rattle.df_core.specs.declared.flow.Flow.{Flow}
use Rattle.df_core.specs.Chains.{chain_of, next_flag}
use Rattle.df_core.specs.Flows.{GoingBeside, asked_at, AskedMay, NoneAskedMay, FlowIs}
use Rattle.df_core.specs.Partial.{listed}
use Rattle.df_core.proofs.Parts.Driving.{has_at, flagged}
use Rattle.df_core.proofs.Telling.Bounds.{has_asked}
use Rattle.df_core.proofs.Parts.Nexts.{next_is}
use Rattle.df_core.proofs.Telling.Firsts.{next_first}
use Rattle.grid_clock.specs.Schedule.{FirstIssue}
use Rattle.grid_clock.specs.During.{IsFirst, Least}

-- as the code holds it: where a request is next, it comes first of those that may be issued
pub next_is_first : (image : Image) (flow : Flow) (place : ℕ) → GoingBeside image [] flow
    → place < length flow.asked.items → AskedMay image flow place →
    next_flag (chain_of flow.chain) (note_of image (asked_at flow place).instr) ≡ true
    → IsFirst image flow place
next_is_first image flow place g l may next k b may_k =
    let h = g.going.holds in
    let st = h.stands in
    let s : State = g.going.state in
    let waits = st.asked_from (asked_at flow place).wave (asked_at flow place).instr (listed (ports image
    (asked_at flow place).instr) (asked_at flow place).operands) (has_asked image flow.asked.items place l) in
    let waits_k = st.asked_from (asked_at flow k).wave (asked_at flow k).instr (listed (ports image (asked_at
    flow k).instr) (asked_at flow k).operands) (has_asked image flow.asked.items k b) in
    let w : (asked_at flow place).wave ≡ flow.chain.wave = eqb-true (asked_at flow place).wave flow.chain.wave
    (and_parts ((asked_at flow place).wave == flow.chain.wave) _ may).0 in
    let a : (asked_at flow k).wave ≡ flow.chain.wave = eqb-true (asked_at flow k).wave flow.chain.wave
    (and_parts ((asked_at flow k).wave == flow.chain.wave) _ may_k).0 in
    let c : flow.chain.wave ≡ s.chain.wave = ap (λ (d : Chain). d.wave) (sym h.chain_is) in
    let n : IsNext s.chain (note_of image (asked_at flow place).instr) =
    subst (λ (d : Chain). IsNext d (note_of image (asked_at flow place).instr)) (sym h.chain_is)
    (next_is (chain_of flow.chain) (note_of image (asked_at flow place).instr) next) in
    next_first _ _ g.going.formed g.going.sound st.fit.legal _ _ _ _ _ _ (st.fit.request_right (asked_at flow
    place).wave (asked_at flow place).instr (listed (ports image (asked_at flow place).instr) (asked_at flow
    place).operands) waits) (st.fit.request_right (asked_at flow k).wave (asked_at flow k).instr (listed
    (ports image (asked_at flow k).instr) (asked_at flow k).operands) waits_k) (st.unissued (asked_at flow
    k).wave (asked_at flow k).instr (listed (ports image (asked_at flow k).instr) (asked_at flow k).operands)
    waits_k) (w ∙ c) (a ∙ c) n

-- what comes first of those comes first of the issues that are enabled
pub first_of : (image : Image) (world : World) (beside : List plain.Token) (flow : Flow) (s : State)
    → FlowIs image world beside flow s → (place : ℕ) → IsFirst image flow place
    → FirstIssue image s (asked_at flow place).instr
first_of image world beside flow s h place first a j e =
    let r = has_at image flow.asked.items a j e.0 (h.stands.asked_to a j e.0 e.1.waits) in
    let m1 : Issuable image s.issued (chain_of flow.chain) s.stopped a j e.0 =
    rw (← h.chain_is) e.1.issuable in
    let m2 : Issuable image s.issued (chain_of flow.chain) s.stopped (asked_at flow r.0).wave
    (asked_at flow r.0).instr (listed (ports image (asked_at flow r.0).instr)
    (asked_at flow r.0).operands) = rw (r.2, r.4, r.3) m1 in
    rw (← r.3) (first r.0 r.1 (flagged image s.issued (chain_of flow.chain) s.stopped (asked_at flow r.0) m2))

-- one more request is looked at
pub least_taken : (image : Image) (flow : Flow) (n m : ℕ) (other : Option ℕ) → m ≡ suc n
    → n < length flow.asked.items → Least image flow n other → AskedMay image flow n →
    IfSome other (λ o. seq image (asked_at flow n).instr < seq image (asked_at flow o).instr)
    → Least image flow m (Some n)
least_taken image flow n m other e l least may before = grind (arith, cases_eq)

pub least_kept : (image : Image) (flow : Flow) (n m : ℕ) (other : Option ℕ) → m ≡ suc n
    → Least image flow n other →
    MatchOption other (AskedMay image flow n → ⊥) (λ o. AskedMay image flow n
    → seq image (asked_at flow o).instr ≤ seq image (asked_at flow n).instr) → Least image flow m other
least_kept image flow n m other e least ahead = grind (arith, cases_eq)

least_none : (image : Image) (flow : Flow) → ((k : ℕ) → k < length flow.asked.items → AskedMay image flow k
    → ⊥) → NoneAskedMay image flow
least_none image flow f k l = grind (arith, cases_Bool)

-- all have been looked at
pub least_found : (image : Image) (flow : Flow) (n : ℕ) (first : Option ℕ) → n ≡ length flow.asked.items
    → is_some flow.fault ≡ false → Least image flow n first
    → MatchOption first ((is_some flow.fault ≡ true) ⊎ NoneAskedMay image flow)
    (λ place. (place < length flow.asked.items) × (is_some flow.fault ≡ false) × AskedMay image flow place
    × IsFirst image flow place)
least_found image flow n first e going least = grind (arith, least_none)
