-- What leads from parts to parts, put together.
use Rattle.std.proofs.Common.{ℕ, suc, ◌+◌, ◌≡◌, ◌<◌, ◌⊎◌, Bool, true, false, not, List, [], ◌∷◌, ◌++◌, length}
use Rattle.std.proofs.Common.{map, Option, slice_index_or, refl, sym, ap, ◌∙◌, subst, inl, inr, arith, eq-eqb}
use Rattle.std.proofs.Common.{eqb-true, ◌==◌, ◌≤◌, if◌then◌else◌, is_some, vec_len}
use Rattle.std.proofs.lemmas.Bool.{both_ways, and_from, le-leb}
use Rattle.std.proofs.lemmas.List.{append-nil}
use Rattle.ws_words.specs.Outside.{Outside, World}
use Rattle.ws_isa.specs.Image as plain
use Rattle.ws_isa.specs.Image.{Image, instr_at, note_of, ports, is_load, is_load_op, is_past, is_past_op}
use Rattle.ws_isa.specs.Formed.{Formed}
use Rattle.ws_isa.specs.Walk.{Ports}
use Rattle.ws_isa.specs.Sound.{Sound}
use Rattle.df_core.specs.Core as law
use Rattle.df_core.specs.Core.{State, Event, Match, Issue, IsSent, Issuable, Rest, Enabled}
use Rattle.df_core.specs.Stands.{Request, HasRequest, Stands}
use Rattle.df_core.proofs.Walked.FromSound.{facts_of}
use Rattle.df_core.proofs.Walked.PortsThere.{ports_there}
use Rattle.df_core.proofs.Parts.Moving.{stands_alike, stands_reordered, to_front, at_rest}
use Rattle.df_core.specs.declared.plain.Token.{Token}
use Rattle.df_core.specs.declared.plain.Asked.{Asked}
use Rattle.df_core.specs.declared.way.Way.{Way}
use Rattle.df_core.specs.declared.flow.Flow.{Flow}
use Rattle.df_core.specs.Partial.{partial_of, listed}
use Rattle.df_core.specs.Ways.{token_of, way_of, TakenFrom}
use Rattle.df_core.specs.Chains.{chain_of, next_flag, may_flag}
use Rattle.df_core.specs.Flows.{request_of, Going, GoingBeside, EventLeads, SameParts, Reaches, stays, steps}
use Rattle.df_core.specs.Flows.{RunsOn, no_asked, NoneAskedMay, FlowIs}
use Rattle.df_core.specs.declared.memory.Memory.{Memory}
use Rattle.df_core.specs.Outdoors.{SameOut, MemoryIs}
use Rattle.df_core.specs.Finishes.{IsSpent, FinishIs, Ended, is_budget, stopped_at}
use Rattle.df_core.specs.declared.drive.Finish.{Finish}
use Rattle.df_core.specs.declared.drive.Finish.TheVariants as finish
use Rattle.df_core.proofs.Parts.Nexts.{is_next_flag}
use Rattle.df_core.proofs.Parts.Issuing.{same_past}
use Rattle.df_core.proofs.Parts.Arriving.{ports_is_op}
use Rattle.ws_words.proofs.Bools.{or_left, or_right}

reaches_on : (image : Image) (s t u : State) → Reaches image s t → Reaches image t u → Reaches image s u
reaches_on image s t u stays r = r
reaches_on image s t u (steps {t = m} e st rest) r = steps e st (reaches_on image m t u rest r)

pub follows_on : (image : Image) (a b c : Flow) → RunsOn image a b → RunsOn image b c → RunsOn image a c
follows_on image a b c f g world s formed sound h =
    let r = f world s formed sound h in
    let q = g world r.0 formed sound r.2 in
    (q.0, reaches_on image s r.0 q.0 r.1 q.1, q.2)

pub follows_none : (image : Image) (a : Flow) → RunsOn image a a
follows_none image a world s formed sound h = (s, stays, h)

pub going_on : (image : Image) (a b : Flow) → Going image [] a → RunsOn image a b → Going image [] b
going_on image a b g f = let r = f g.world g.state g.formed g.sound g.holds in
    record { world = g.world; state = r.0; formed = g.formed; sound = g.sound; holds = r.2 }

out_same : (o : Outside) (old new : Memory) → SameOut old new → MemoryIs o old → MemoryIs o new
out_same o old new e h = grind arith

-- the same parts stand for the same
pub same_holds : (image : Image) (world : World) (taken : List plain.Token) (a b : Flow) (s : State)
    → SameParts a b → FlowIs image world taken a s → FlowIs image world taken b s
same_holds image world taken a b s e h = grind (arith, stands_alike, out_same)

-- a token is taken off the way
token_front : (xs : List Token) (t : Token) → map token_of (xs ++ t ∷ []) ≡ map token_of xs ++ token_of t ∷ []
token_front [] t = refl
token_front (x ∷ xs) t = ap (λ ys. token_of x ∷ ys) (token_front xs t)

taken_way : (image : Image) (world : World) (old new : Way) (tok : Token) (f : Ports) (asked : List Request)
    (early : List ℕ) (s : State) → TakenFrom old new tok → Stands image world f (way_of old) asked early s
    → Stands image world f (token_of tok ∷ way_of new) asked early s
taken_way image world old new tok f asked early s (inl e) st =
    let a : way_of old ≡ (map token_of new.now.items ++ token_of tok ∷ []) ++ map token_of new.later.items =
    ap (λ xs. map token_of xs ++ map token_of old.later.items) e.0
    ∙ ap (λ xs. xs ++ map token_of old.later.items) (token_front new.now.items tok)
    ∙ ap (λ xs. (map token_of new.now.items ++ token_of tok ∷ []) ++ map token_of xs) (sym e.1) in
    stands_reordered image world f ((map token_of new.now.items ++ token_of tok ∷ []) ++ map token_of
    new.later.items) (token_of tok ∷ way_of new) asked early s
    (to_front (map token_of new.now.items) (token_of tok) (map token_of new.later.items))
    (subst (λ ws. Stands image world f ws asked early s) a st)
taken_way image world old new tok f asked early s (inr e) st =
    let a : way_of old ≡ (map token_of new.now.items ++ token_of tok ∷ []) ++ map token_of new.later.items =
    ap (λ xs. map token_of xs ++ map token_of old.later.items) e.0 ∙ ap (map token_of) e.1
    ∙ token_front new.now.items tok ∙ sym (append-nil (map token_of new.now.items ++ token_of tok ∷ []))
    ∙ ap (λ xs. (map token_of new.now.items ++ token_of tok ∷ []) ++ map token_of xs) (sym e.2) in
    stands_reordered image world f ((map token_of new.now.items ++ token_of tok ∷ []) ++ map token_of
    new.later.items) (token_of tok ∷ way_of new) asked early s
    (to_front (map token_of new.now.items) (token_of tok) (map token_of new.later.items))
    (subst (λ ws. Stands image world f ws asked early s) a st)

pub taken_holds : (image : Image) (world : World) (old new : Flow) (tok : Token) (s : State)
    → TakenFrom old.way new.way tok → new.slots ≡ old.slots → new.asked ≡ old.asked → new.early ≡ old.early
    → new.chain ≡ old.chain → new.fault ≡ old.fault → new.memory ≡ old.memory → new.fired ≡ old.fired →
    FlowIs image world [] old s → FlowIs image world (token_of tok ∷ []) new s
taken_holds image world old new tok s taken slots asked early chain stopped memory fired h = record {
  stands = rw (slots, asked, early) (taken_way image world old.way new.way tok
      (partial_of old.slots.slots.items old.slots.spill) (map (request_of image) old.asked.items)
      old.early.items s taken h.stands);
  chain_is = h.chain_is ∙ ap chain_of (sym chain);
  stopped_is = h.stopped_is ∙ ap is_some (sym stopped);
  fault_is = rw stopped h.fault_is;
  memory_is = rw memory h.memory_is;
  count_is = h.count_is ∙ sym fired;
}

-- where the test says no, no request may be issued
pub has_at : (image : Image) (held : List Asked) (w i : ℕ) (xs : List ℕ)
    → HasRequest (map (request_of image) held) w i xs → (k : ℕ) × (k < length held)
    × ((slice_index_or held k no_asked).wave ≡ w) × ((slice_index_or held k no_asked).instr ≡ i)
    × (listed (ports image (slice_index_or held k no_asked).instr) (slice_index_or held k no_asked).operands
    ≡ xs)
has_at image [] w i xs h = absurd h
has_at image (a ∷ held) w i xs (inl h) = (0, omega arith, h.0, h.1, h.2)
has_at image (a ∷ held) w i xs (inr h) = let r = has_at image held w i xs h in
    (suc r.0, (let l : r.0 < length held = r.1 in omega arith), r.2, r.3, r.4)

pub false_not : (b : Bool) → b ≡ false → not b ≡ true
false_not b e = grind (arith, both_ways)

load_is_op : (image : Image) (k : ℕ) → is_load image k ≡ is_load_op (instr_at image k).op
unfolding is_load
load_is_op image k = refl

past_is : (image : Image) (a : Asked) → is_past image a.instr (listed (ports image a.instr) a.operands)
    ≡ is_past_op image.arrays (instr_at image a.instr).op (a.operands.first ∷ [])
unfolding is_past
past_is image a = grind (arith, ports_is_op, same_past)

pub flagged : (image : Image) (issued : ℕ → ℕ → Option ℕ) (c : law.Chain) (stopped : Bool) (a : Asked)
    → Issuable image issued c stopped a.wave a.instr (listed (ports image a.instr) a.operands)
    → may_flag image c a.wave a.instr a.operands.first ≡ true
flagged image issued c stopped a m = and_from _ _ (eq-eqb a.wave c.wave m.current) (elim m.turn [
  | inl n ↦ or_left _ _ (is_next_flag c (note_of image a.instr) n)
  | inr l ↦ or_right (next_flag c (note_of image a.instr)) _
      (and_from _ _ (and_from _ _ (sym (load_is_op image a.instr) ∙ l.0)
      (false_not _ (sym (past_is image a) ∙ l.1))) (le-leb _ _ l.2))
])

pub none_issuable : (image : Image) (world : World) (taken : List plain.Token) (flow : Flow) (s : State)
    → FlowIs image world taken flow s → NoneAskedMay image flow → (w i : ℕ) (xs : List ℕ)
    → HasRequest (map (request_of image) flow.asked.items) w i xs → Issuable image s.issued s.chain s.stopped
    w i xs → ⊥
none_issuable image world taken flow s h none w i xs has may =
    let r = has_at image flow.asked.items w i xs has in
    let a : Asked = slice_index_or flow.asked.items r.0 no_asked in
    let m1 : Issuable image s.issued (chain_of flow.chain) s.stopped w i xs =
    subst (λ (c : law.Chain). Issuable image s.issued c s.stopped w i xs) h.chain_is may in
    let m2 : Issuable image s.issued (chain_of flow.chain) s.stopped
    (slice_index_or flow.asked.items r.0 no_asked).wave
    (slice_index_or flow.asked.items r.0 no_asked).instr
    (listed (ports image (slice_index_or flow.asked.items r.0 no_asked).instr)
    (slice_index_or flow.asked.items r.0 no_asked).operands) = rw (r.2, r.4, r.3) m1 in
    both_ways _ (none r.0 r.1) (flagged image s.issued (chain_of flow.chain) s.stopped
    (slice_index_or flow.asked.items r.0 no_asked) m2)

pub rests : (image : Image) (world : World) (flow : Flow) (s : State) → Formed image → Sound image
    → FlowIs image world [] flow s → way_of flow.way ≡ [] → NoneAskedMay image flow → Rest image s
rests image world flow s formed sound h empty none = at_rest image world
    (facts_of image world (ports_there image formed) sound) s
    (partial_of flow.slots.slots.items flow.slots.spill) (map (request_of image) flow.asked.items)
    flow.early.items
    (subst (λ (ws : List plain.Token). Stands image world (partial_of flow.slots.slots.items flow.slots.spill)
    ws (map (request_of image) flow.asked.items) flow.early.items s) empty h.stands)
    (none_issuable image world [] flow s h none)

pub none_enabled : (image : Image) (world : World) (taken : List plain.Token) (flow : Flow) (s : State)
    → FlowIs image world taken flow s → NoneAskedMay image flow → (w i : ℕ) → Enabled image s (Issue w i) → ⊥
none_enabled image world taken flow s h none w i e = none_issuable image world taken flow s h none w i e.0
    (h.stands.asked_to w i e.0 e.1.waits) e.1.issuable

-- an event leads on
pub leads_on : (image : Image) (event : Event) (a b c : Flow) → SameParts a b → EventLeads image event [] b c
    → RunsOn image a c
leads_on image event a b c e f world s formed sound h =
    let r = f [] world s formed sound (same_holds image world [] a b s e h) in
    (r.0, steps event r.1 stays, r.2)

-- nothing lies elsewhere
pub alone : (image : Image) (taken : List plain.Token) (flow : Flow) → Going image (taken ++ []) flow
    → GoingBeside image taken flow
alone image taken flow g = record { beside = []; going = g }

-- a token is taken and arrives
pub takes_on : (image : Image) (a b mid c : Flow) (tok : Token) → SameParts a b → TakenFrom b.way mid.way tok
    → mid.slots ≡ b.slots → mid.asked ≡ b.asked → mid.early ≡ b.early → mid.chain ≡ b.chain
    → mid.fault ≡ b.fault → mid.memory ≡ b.memory → mid.fired ≡ b.fired →
    EventLeads image (Match tok.wave tok.instr tok.port) (token_of tok ∷ []) mid c → RunsOn image a c
takes_on image a b mid c tok e t p1 p2 p3 p4 p5 p6 p7 f world s formed sound h =
    let r = f [] world s formed sound (taken_holds image world b mid tok s t p1 p2 p3 p4 p5 p6 p7
    (same_holds image world [] a b s e h)) in
    (r.0, steps (Match tok.wave tok.instr tok.port) r.1 stays, r.2)

pub taken_going : (image : Image) (a b mid : Flow) (tok : Token) → SameParts a b → TakenFrom b.way mid.way tok
    → mid.slots ≡ b.slots → mid.asked ≡ b.asked → mid.early ≡ b.early → mid.chain ≡ b.chain
    → mid.fault ≡ b.fault → mid.memory ≡ b.memory → mid.fired ≡ b.fired →
    Going image [] a → Going image (token_of tok ∷ []) mid
taken_going image a b mid tok e t p1 p2 p3 p4 p5 p6 p7 g = record {
  world = g.world;
  state = g.state;
  formed = g.formed;
  sound = g.sound;
  holds = taken_holds image g.world b mid tok g.state t p1 p2 p3 p4 p5
      p6 p7 (same_holds image g.world [] a b g.state e g.holds);
}

-- a way without tokens, and one with some
pub empty_way : (w : Way) → length w.now.items + length w.later.items ≡ 0 → way_of w ≡ []
empty_way w e = nothing w.now.items w.later.items e
  where
    nothing : (xs ys : List Token) → length xs + length ys ≡ 0 → map token_of xs ++ map token_of ys ≡ []
    nothing [] [] e = refl
    nothing [] (y ∷ ys) e = absurd (omega arith)
    nothing (x ∷ xs) ys e = absurd (omega arith)

pub record SomeToken (ts : List plain.Token) : Type 0 where
  pub wave : ℕ
  pub instr : ℕ
  pub port : ℕ
  pub value : ℕ
  pub is : IsSent ts wave instr port value

pub some_way : (w : Way) → (length w.now.items + length w.later.items ≡ 0 → ⊥) → SomeToken (way_of w)
some_way w n = some w.now.items w.later.items n
  where
    first : (t : plain.Token) (ts : List plain.Token) → SomeToken (t ∷ ts)
    first t ts = record {
      wave = t.wave;
      instr = t.instr;
      port = t.port;
      value = t.value;
      is = inl (refl, refl, refl, refl);
    }

    some : (xs ys : List Token) → (length xs + length ys ≡ 0 → ⊥)
        → SomeToken (map token_of xs ++ map token_of ys)
    some (x ∷ xs) ys n = first (token_of x) (map token_of xs ++ map token_of ys)
    some [] (y ∷ ys) n = first (token_of y) (map token_of ys)
    some [] [] n = absurd (n (omega arith))

pub spent : (image : Image) (world : World) (flow : Flow) (s : State) (budget : ℕ)
    → FlowIs image world [] flow s → is_some flow.fault ≡ false → flow.fired ≡ budget
    → (length flow.way.now.items + length flow.way.later.items ≡ 0 → ⊥) → NoneAskedMay image flow
    → IsSpent image budget s
spent image world flow s budget h going fired some none =
    let t : SomeToken (way_of flow.way) = some_way flow.way some in
    record {
      going = h.stopped_is ∙ going;
      count = h.count_is ∙ fired;
      wave = t.wave;
      instr = t.instr;
      port = t.port;
      value = t.value;
      on_way = h.stands.way_from t.wave t.instr t.port t.value t.is;
      settled = none_enabled image world [] flow s h none;
    }

-- where no more instances may fire, and no request may be issued
pub stands_still : (image : Image) (world : World) (flow : Flow) (s : State) (budget : ℕ) → Formed image
    → Sound image → FlowIs image world [] flow s → is_some flow.fault ≡ false → NoneAskedMay image flow
    → flow.fired ≤ budget
    → (vec_len flow.way.now + vec_len flow.way.later ≡ 0) ⊎ (budget ≤ flow.fired)
    → FinishIs image world budget (stopped_at flow) s
stands_still image world flow s budget formed sound h going none within still =
    by_way (vec_len flow.way.now + vec_len flow.way.later == 0) refl
  where
    by_way : (b : Bool) → (vec_len flow.way.now + vec_len flow.way.later == 0) ≡ b
        → FinishIs image world budget (if b then finish.Rest else finish.Budget) s
    by_way true e =
        let n : length flow.way.now.items + length flow.way.later.items ≡ 0 =
        omega (arith, eqb-true _ _ e, flow.way.now.ok.0, flow.way.later.ok.0) in
        (rests image world flow s formed sound h (empty_way flow.way n) none, h.stopped_is ∙ going)
    by_way false e =
        let some : length flow.way.now.items + length flow.way.later.items ≡ 0
        → ⊥ = λ n. both_ways _ e (eq-eqb (vec_len flow.way.now + vec_len flow.way.later) 0
        (omega (arith, n, flow.way.now.ok.0, flow.way.later.ok.0))) in
        let fired : flow.fired ≡ budget = elim still [
          | inl n ↦ absurd (some (omega (arith, n, flow.way.now.ok.0, flow.way.later.ok.0)))
          | inr le ↦ omega (arith, le, within)
        ] in
        spent image world flow s budget h going fired some none

pub none_may : (image : Image) (flow : Flow) → is_some flow.fault ≡ false → (is_some flow.fault ≡ true)
    ⊎ NoneAskedMay image flow → NoneAskedMay image flow
none_may image flow going h = grind (arith, both_ways)

-- a run that goes on
pub same_follows : (image : Image) (a b : Flow) → SameParts a b → RunsOn image a b
same_follows image a b e world s formed sound h = (s, stays, same_holds image world [] a b s e h)

pub ended_follows : (image : Image) (until : ℕ) (a b : Flow) (finish : Finish) → Ended image until a b finish
    → RunsOn image a b
ended_follows image until a b finish e world s formed sound h = grind arith

other_budget : (image : Image) (world : World) (until budget : ℕ) (ended : Finish) (s : State)
    → (until ≡ budget) ⊎ (is_budget ended ≡ false) → FinishIs image world until ended s
    → FinishIs image world budget ended s
other_budget image world until budget ended s e f = grind (arith, both_ways)

pub ended_on : (image : Image) (until budget : ℕ) (a b c : Flow) (ended : Finish)
    → (until ≡ budget) ⊎ (is_budget ended ≡ false) → RunsOn image a b → Ended image until b c ended
    → Ended image budget a c ended
ended_on image until budget a b c ended e f g world s formed sound h =
    let r = f world s formed sound h in
    let q = g world r.0 formed sound r.2 in
    (q.0, reaches_on image s r.0 q.0 r.1 q.1, q.2, other_budget image world until budget ended q.0 e q.3)
