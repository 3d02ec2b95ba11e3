-- The parts behind a match stand for the state behind it.
use Rattle.std.proofs.Common.{ℕ, suc, ◌+◌, ◌≡◌, ◌<◌, ◌≤◌, true, false, cond, ◌&&◌, List, [], ◌∷◌, ◌++◌}
use Rattle.std.proofs.Common.{length, map, Option, Some, None, refl, sym, ap, ◌∙◌, subst, inl, inr, arith}
use Rattle.std.proofs.Common.{append_assoc, is_some}
use Rattle.std.proofs.lemmas.Bool.{cases_Bool}
use Rattle.ws_words.specs.Outside.{World}
use Rattle.ws_isa.specs.declared.instr.Op.{Op}
use Rattle.ws_isa.specs.Image as plain
use Rattle.ws_isa.specs.Image.{Image, instr_at, ports, ports_of, is_memory, is_memory_op, is_advance}
use Rattle.ws_isa.specs.Image.{is_advance_op, result_of, result_of_op, selector, selector_of, tokens_to}
use Rattle.ws_isa.specs.Image.{sends}
use Rattle.ws_isa.specs.Formed.{Formed}
use Rattle.ws_isa.specs.Walk.{Ports, gather}
use Rattle.ws_isa.specs.Sound.{Sound}
use Rattle.df_core.specs.Core.{State, HasFired, Match, Step, has, is_full, with_at}
use Rattle.df_core.specs.Fit.{RightToken}
use Rattle.df_core.specs.Stands.{Request, AllOnce, HasRequest, cleared, Stands}
use Rattle.df_core.proofs.Walked.Facts.{WalkFacts}
use Rattle.df_core.proofs.Walked.FromSound.{facts_of}
use Rattle.df_core.proofs.Walked.PortsThere.{ports_there}
use Rattle.df_core.proofs.Keeping.Ports.{with_at_cases, with_at_same}
use Rattle.df_core.proofs.Parts.StandsMatch.{way_unfired, cleared_cases}
use Rattle.df_core.proofs.Parts.Moving.{Alike, stands_asked, stands_reordered, behind_first, waits, calls}
use Rattle.df_core.proofs.Parts.Moving.{fires_on}
use Rattle.df_core.specs.declared.plain.Token.{Token}
use Rattle.df_core.specs.declared.plain.Operands.{Operands}
use Rattle.df_core.specs.declared.slots.MatchStore.{MatchStore}
use Rattle.df_core.specs.declared.way.Way.{Way}
use Rattle.df_core.specs.declared.flow.Flow.{Flow}
use Rattle.df_core.specs.Partial.{partial_of, listed}
use Rattle.df_core.specs.Places.{destinations}
use Rattle.df_core.specs.Ways.{token_of, way_of, SentTo}
use Rattle.df_core.specs.Chains.{chain_of}
use Rattle.df_core.specs.Flows.{request_of, all_of, FlowIs}
use Rattle.ws_isa.proofs.Images.{tokens_append}
use Rattle.ws_words.specs.Items.{or_else}
use Rattle.ws_words.proofs.Lists.{map_push}
use Rattle.ws_words.proofs.Places.{nth_short}

-- the operands beyond an operation's ports don't matter
pub same_result : (op : Op) (o : Operands) → is_memory_op op ≡ false
    → result_of_op op (listed (ports_of op) o) ≡ result_of_op op (all_of o)
same_result op o e = grind arith

pub same_selector : (op : Op) (o : Operands) → selector_of op (listed (ports_of op) o) ≡ selector_of op
    (all_of o)
same_selector op o = grind arith

pub sends_are : (image : Image) (w k : ℕ) (xs : List ℕ) (v : ℕ)
    → tokens_to (cond (is_advance_op (instr_at image k).op) (suc w) w) v
    (destinations image k (selector_of (instr_at image k).op xs)) ≡ sends image w k xs v
unfolding destinations sends selector is_advance
sends_are image w k xs v = grind (arith, tokens_append)

pub memory_is_op : (image : Image) (k : ℕ) → is_memory image k ≡ is_memory_op (instr_at image k).op
unfolding is_memory
memory_is_op image k = refl

pub ports_is_op : (image : Image) (k : ℕ) → ports image k ≡ ports_of (instr_at image k).op
unfolding ports
ports_is_op image k = refl

pub result_is_op : (image : Image) (k : ℕ) (xs : List ℕ) → result_of image k xs ≡ result_of_op
    (instr_at image k).op xs
unfolding result_of
result_is_op image k xs = refl

-- a request more, at the end
pushed_to : (a : List Request) (r : Request) (w i : ℕ) (os : List ℕ) → HasRequest (r ∷ a) w i os
    → HasRequest (a ++ r ∷ []) w i os
pushed_to [] r w i os h = h
pushed_to (x ∷ a) r w i os (inl h) = inr (pushed_to a r w i os (inl h))
pushed_to (x ∷ a) r w i os (inr (inl h)) = inl h
pushed_to (x ∷ a) r w i os (inr (inr h)) = inr (pushed_to a r w i os (inr h))

pushed_from : (a : List Request) (r : Request) (w i : ℕ) (os : List ℕ) → HasRequest (a ++ r ∷ []) w i os
    → HasRequest (r ∷ a) w i os
pushed_from [] r w i os h = h
pushed_from (x ∷ a) r w i os (inl h) = inr (inl h)
pushed_from (x ∷ a) r w i os (inr h) = elim (pushed_from a r w i os h) [ inl g ↦ inl g | inr g ↦ inr (inr g) ]

pushed_once : (a : List Request) (r : Request) → AllOnce (r ∷ a) → AllOnce (a ++ r ∷ [])
pushed_once [] r o = o
pushed_once (x ∷ a) r o = (
  (λ os h. elim (pushed_from a r x.wave x.instr os h) [
    | inl g ↦ o.0 x.operands (inl (sym g.0, sym g.1, refl))
    | inr g ↦ o.1.0 os g
  ]),
  pushed_once a r ((λ os h. o.0 os (inr h)), o.1.1),
)

pub pushed : (a : List Request) (r : Request) → Alike (r ∷ a) (a ++ r ∷ [])
pushed a r = record { to = pushed_to a r; from = pushed_from a r; once = pushed_once a r }

-- and so do others beside them
pub sent_beside : (image : Image) (world : World) (f : Ports) (beside : List plain.Token) (old new : Way)
    (ts : List plain.Token) (asked : List Request) (early : List ℕ) (t : State) → SentTo old new ts
    → Stands image world f ((beside ++ way_of old) ++ ts) asked early t
    → Stands image world f (beside ++ way_of new) asked early t
sent_beside image world f beside old new ts asked early t (inl h) st =
    let n = map token_of old.now.items in
    let l = map token_of old.later.items in
    let e : ((beside ++ n) ++ ts) ++ l ≡ beside ++ way_of new =
    ap (λ (xs : List plain.Token). xs ++ l) (append_assoc beside n ts) ∙ append_assoc beside (n ++ ts) l
    ∙ ap (λ (xs : List plain.Token). beside ++ (xs ++ l)) (sym h.0)
    ∙ ap (λ (xs : List Token). beside ++ (map token_of new.now.items ++ map token_of xs)) (sym h.1) in
    subst (λ (ws : List plain.Token). Stands image world f ws asked early t) e
    (stands_reordered image world f (((beside ++ n) ++ l) ++ ts) (((beside ++ n) ++ ts) ++ l) asked early t
    (behind_first (beside ++ n) l ts)
    (subst (λ (ws : List plain.Token). Stands image world f (ws ++ ts) asked early t)
    (sym (append_assoc beside n l)) st))
sent_beside image world f beside old new ts asked early t (inr h) st = grind (arith, append_assoc)

module _ (image : Image) (world : World) (formed : Formed image) (sound : Sound image)
    (beside : List plain.Token) where
  facts : WalkFacts image world
  facts = facts_of image world (ports_there image formed) sound

  module _ (tok : Token) (old new : Flow) (s : State) (h : FlowIs image world (token_of tok ∷ beside) old
      s) where
    -- its instance isn't full
    pub arrived_waits : ((a b q : ℕ) → partial_of new.slots.slots.items new.slots.spill a b q
        ≡ with_at tok.wave tok.instr tok.port (Some tok.value)
        (partial_of old.slots.slots.items old.slots.spill) a b q) →
        is_full (partial_of new.slots.slots.items new.slots.spill) tok.wave tok.instr (ports image tok.instr)
        ≡ false →
        new.way ≡ old.way → new.asked ≡ old.asked → new.early ≡ old.early → new.chain ≡ old.chain
        → new.fault ≡ old.fault → new.memory ≡ old.memory → new.fired ≡ old.fired →
        (t : State) × Step image s (Match tok.wave tok.instr tok.port) t × FlowIs image world beside new t
    arrived_waits f_is less way asked early chain stopped memory fired =
        let m = waits image world facts s (partial_of old.slots.slots.items old.slots.spill)
        (beside ++ way_of old.way) (map (request_of image) old.asked.items) old.early.items tok.wave
        tok.instr tok.port tok.value h.stands
        (partial_of new.slots.slots.items new.slots.spill) f_is less in
        let st : Stands image world (partial_of new.slots.slots.items new.slots.spill)
        (beside ++ way_of old.way) (map (request_of image) old.asked.items) old.early.items m.new =
        m.stands in (
          m.new,
          m.step,
          record {
            stands = rw (way, asked, early) st;
            chain_is = m.chain_is ∙ h.chain_is ∙ ap chain_of (sym chain);
            stopped_is = m.stopped_is ∙ h.stopped_is ∙ ap is_some (sym stopped);
            fault_is = rw stopped h.fault_is;
            memory_is = rw (m.memory_is, memory) h.memory_is;
            count_is = m.count_is ∙ h.count_is ∙ sym fired;
          },
        )

    -- its instance fires
    pub arrived_fires : (f : Ports)
        → ((a b q : ℕ) → f a b q ≡ with_at tok.wave tok.instr tok.port (Some tok.value)
        (partial_of old.slots.slots.items old.slots.spill) a b q) →
        is_full f tok.wave tok.instr (ports image tok.instr) ≡ true
        → ((a b q : ℕ) → partial_of new.slots.slots.items new.slots.spill a b q ≡ cleared tok.wave
        tok.instr f a b q) →
        (op : Op) → op ≡ (instr_at image tok.instr).op → (o : Operands)
        → listed (ports image tok.instr) o ≡ gather f tok.wave tok.instr 0 (ports image tok.instr) →
        new.early ≡ old.early → new.chain ≡ old.chain → new.fault ≡ old.fault → new.memory ≡ old.memory
        → new.fired ≡ old.fired + 1 →
        (is_memory_op op ≡ true → new.asked.items ≡ old.asked.items ++ record {
          wave = tok.wave;
          instr = tok.instr;
          operands = o;
        } ∷ []) → (is_memory_op op ≡ true → new.way ≡ old.way) →
        (is_memory_op op ≡ false → new.asked ≡ old.asked) →
        (is_memory_op op ≡ false
        → SentTo old.way new.way (tokens_to (cond (is_advance_op op) (suc tok.wave) tok.wave)
        (result_of_op op (all_of o)) (destinations image tok.instr (selector_of op (all_of o))))) →
        (t : State) × Step image s (Match tok.wave tok.instr tok.port) t × FlowIs image world beside new t
    arrived_fires f f_is full g_is op op_is o o_are early chain stopped memory fired asked not_sent not_asked
        sent = elim (cases_Bool (is_memory image tok.instr)) [
          | inl mem ↦ (let me : is_memory_op op ≡ true = ap is_memory_op op_is
              ∙ sym (memory_is_op image tok.instr) ∙ mem in
              let m = calls image world facts s (partial_of old.slots.slots.items old.slots.spill)
              (beside ++ way_of old.way) (map (request_of image) old.asked.items) old.early.items tok.wave
              tok.instr tok.port tok.value h.stands
              f f_is full (partial_of new.slots.slots.items new.slots.spill) g_is
              (listed (ports image tok.instr) o) o_are mem in
              let r : Request = record {
                wave = tok.wave;
                instr = tok.instr;
                operands = listed (ports image tok.instr) o;
              } in
              let e : map (request_of image) old.asked.items ++ r ∷ [] ≡ map (request_of image)
              new.asked.items =
              sym (map_push (request_of image) old.asked.items
              (record { wave = tok.wave; instr = tok.instr; operands = o }))
              ∙ ap (map (request_of image)) (sym (asked me)) in
              let st : Stands image world (partial_of new.slots.slots.items new.slots.spill)
              (beside ++ way_of old.way) (map (request_of image) old.asked.items ++ r ∷ []) old.early.items
              m.new =
              stands_asked image world (partial_of new.slots.slots.items new.slots.spill)
              (beside ++ way_of old.way) (r ∷ map (request_of image) old.asked.items)
              (map (request_of image) old.asked.items ++ r ∷ []) old.early.items m.new
              (pushed (map (request_of image) old.asked.items) r) m.stands in (
                m.new,
                m.step,
                record {
                  stands = rw (not_sent me, early)
                      (rw e at st);
                  chain_is = m.chain_is ∙ h.chain_is ∙ ap chain_of (sym chain);
                  stopped_is = m.stopped_is ∙ h.stopped_is ∙ ap is_some (sym stopped);
                  fault_is = rw stopped h.fault_is;
                  memory_is = rw (m.memory_is, memory) h.memory_is;
                  count_is = m.count_is ∙ count fired;
                },
              ))
          | inr mem ↦ (let me : is_memory_op op ≡ false = ap is_memory_op op_is
              ∙ sym (memory_is_op image tok.instr) ∙ mem in
              let xs : List ℕ = listed (ports image tok.instr) o in
              let m = fires_on image world facts s (partial_of old.slots.slots.items old.slots.spill)
              (beside ++ way_of old.way) (map (request_of image) old.asked.items) old.early.items tok.wave
              tok.instr tok.port tok.value h.stands
              f f_is full (partial_of new.slots.slots.items new.slots.spill) g_is
              (listed (ports image tok.instr) o) o_are mem in
              let e : tokens_to (cond (is_advance_op op) (suc tok.wave) tok.wave) (result_of_op op (all_of o))
              (destinations image tok.instr (selector_of op (all_of o))) ≡ sends image tok.wave tok.instr
              (listed (ports image tok.instr) o)
              (result_of image tok.instr (listed (ports image tok.instr) o)) =
              same_tokens op op_is o me in
              let st : Stands image world (partial_of new.slots.slots.items new.slots.spill)
              (beside ++ way_of new.way) (map (request_of image) old.asked.items) old.early.items m.new =
              sent_beside image world (partial_of new.slots.slots.items new.slots.spill) beside old.way
              new.way
              (sends image tok.wave tok.instr (listed (ports image tok.instr) o)
              (result_of image tok.instr (listed (ports image tok.instr) o)))
              (map (request_of image) old.asked.items) old.early.items m.new
              (subst (SentTo old.way new.way) e (sent me)) m.stands in (
                m.new,
                m.step,
                record {
                  stands = rw (not_asked me, early) st;
                  chain_is = m.chain_is ∙ h.chain_is ∙ ap chain_of (sym chain);
                  stopped_is = m.stopped_is ∙ h.stopped_is ∙ ap is_some (sym stopped);
                  fault_is = rw stopped h.fault_is;
                  memory_is = rw (m.memory_is, memory) h.memory_is;
                  count_is = m.count_is ∙ count fired;
                },
              ))
        ]
      where
        count : new.fired ≡ old.fired + 1 → suc (length s.fired) ≡ new.fired
        count e = let c : length s.fired ≡ old.fired = h.count_is in omega arith

        same_tokens : (op : Op) → op ≡ (instr_at image tok.instr).op → (o : Operands)
            → is_memory_op op ≡ false →
            tokens_to (cond (is_advance_op op) (suc tok.wave) tok.wave) (result_of_op op (all_of o))
            (destinations image tok.instr (selector_of op (all_of o)))
            ≡ sends image tok.wave tok.instr (listed (ports image tok.instr) o)
            (result_of image tok.instr (listed (ports image tok.instr) o))
        same_tokens op e o me =
            let pe : listed (ports_of op) o ≡ listed (ports image tok.instr) o =
            ap (λ (n : ℕ). listed n o) (ap ports_of e ∙ sym (ports_is_op image tok.instr)) in
            let re : result_of_op op (all_of o) ≡ result_of image tok.instr
            (listed (ports image tok.instr) o) = sym (same_result op o me) ∙ ap (result_of_op op) pe
            ∙ ap (λ (x : Op). result_of_op x (listed (ports image tok.instr) o)) e
            ∙ sym (result_is_op image tok.instr (listed (ports image tok.instr) o)) in
            let se : selector_of op (all_of o) ≡ selector_of (instr_at image tok.instr).op
            (listed (ports image tok.instr) o) = sym (same_selector op o) ∙ ap (selector_of op) pe
            ∙ ap (λ (x : Op). selector_of x (listed (ports image tok.instr) o)) e in
            ap (λ (v : ℕ). tokens_to (cond (is_advance_op op) (suc tok.wave) tok.wave) v
            (destinations image tok.instr (selector_of op (all_of o)))) re
            ∙ ap (λ (n : ℕ). tokens_to (cond (is_advance_op op) (suc tok.wave) tok.wave)
            (result_of image tok.instr (listed (ports image tok.instr) o))
            (destinations image tok.instr n)) se
            ∙ ap (λ (x : Op). tokens_to (cond (is_advance_op x) (suc tok.wave) tok.wave)
            (result_of image tok.instr (listed (ports image tok.instr) o))
            (destinations image tok.instr (selector_of (instr_at image tok.instr).op
            (listed (ports image tok.instr) o)))) e
            ∙ sends_are image tok.wave tok.instr (listed (ports image tok.instr) o)
            (result_of image tok.instr (listed (ports image tok.instr) o))

  module _ (tok : Token) (old : Flow) (s : State) (h : FlowIs image world (token_of tok ∷ beside) old s) where
    there : s.way tok.wave tok.instr tok.port ≡ Some tok.value
    there = h.stands.way_from tok.wave tok.instr tok.port tok.value (inl (refl, refl, refl, refl))

    unfired : HasFired s.fired tok.wave tok.instr → ⊥
    unfired = way_unfired image world facts s h.stands.fit tok.wave tok.instr tok.port tok.value there

    -- its port is one of the instruction
    pub arrival_port : tok.port < ports image tok.instr
    arrival_port =
        let r : RightToken image world tok.wave tok.instr tok.port tok.value =
        grind (arith, h.stands.fit.way_right, tok.instr, tok.port, tok.value, there) in
        let l : tok.port < length r.inst.operands = nth_short r.inst.operands tok.port tok.value r.operand in
        let n : length r.inst.operands ≡ ports image tok.instr = facts.filled r.time r.inst r.at.fires
        ∙ ap (ports image) r.at.instr in
        omega arith

    not_held : (o : Option ℕ) → s.held tok.wave tok.instr tok.port ≡ o → s.held tok.wave tok.instr tok.port
        ≡ None
    not_held o e = grind (arith, there, h.stands.fit.one, tok.instr, tok.port)

    -- and has no token
    pub arrival_free : partial_of old.slots.slots.items old.slots.spill tok.wave tok.instr tok.port ≡ None
    arrival_free = grind (arith, h.stands.held, tok.instr, tok.port, unfired, not_held, s.held)

    few_ports : (op : Op) → ports_of op ≤ 3
    few_ports op = grind arith

    pub arrival_below : tok.port < 3
    arrival_below = grind (arith, arrival_port, ports_is_op, few_ports)

    -- of an instance with one port nothing is kept
    held_below : (q : ℕ) (o : Option ℕ) → s.held tok.wave tok.instr q ≡ o → ports image tok.instr ≡ 1
        → s.held tok.wave tok.instr q ≡ None
    held_below q None e one = e
    held_below q (Some u) e one =
        let r : RightToken image world tok.wave tok.instr q u = h.stands.fit.held_right tok.wave tok.instr q u
        e in
        let l : q < length r.inst.operands = nth_short r.inst.operands q u r.operand in
        let n : length r.inst.operands ≡ ports image tok.instr = facts.filled r.time r.inst r.at.fires
        ∙ ap (ports image) r.at.instr in
        let p : tok.port < ports image tok.instr = arrival_port in
        let same : q ≡ tok.port = omega arith in
        ap (s.held tok.wave tok.instr) same ∙ not_held (s.held tok.wave tok.instr tok.port) refl

    single_cleared : ports image tok.instr ≡ 1 → (a b q : ℕ) → partial_of old.slots.slots.items
        old.slots.spill a b q ≡ cleared tok.wave tok.instr
        (with_at tok.wave tok.instr tok.port (Some tok.value)
        (partial_of old.slots.slots.items old.slots.spill)) a b q
    single_cleared one a b q =
        elim (cleared_cases tok.wave tok.instr (with_at tok.wave tok.instr tok.port (Some tok.value)
        (partial_of old.slots.slots.items old.slots.spill)) a b q) [
          | inl k ↦ rw (← k.0.wave, ← k.0.instr) (sym (h.stands.held tok.wave tok.instr q unfired)
              ∙ held_below q (s.held tok.wave tok.instr q) refl one) ∙ sym k.1
          | inr k ↦
              (elim (with_at_cases tok.wave tok.instr tok.port (Some tok.value)
              (partial_of old.slots.slots.items old.slots.spill) a b q) [
                | inl m ↦ absurd (k.0 (record { wave = m.0.wave; instr = m.0.instr }))
                | inr m ↦ sym m.1
              ]) ∙ sym k.1
        ]

    single_port : ports image tok.instr ≡ 1 → tok.port ≡ 0
    single_port one = let p : tok.port < ports image tok.instr = arrival_port in omega arith

    here : with_at tok.wave tok.instr tok.port (Some tok.value)
        (partial_of old.slots.slots.items old.slots.spill) tok.wave tok.instr tok.port ≡ Some tok.value
    here = grind (arith, with_at_same, tok.instr, tok.port, old.slots.slots.items)

    pub single_fires : (new : Flow) → ports image tok.instr ≡ 1 → new.slots ≡ old.slots →
        (op : Op) → op ≡ (instr_at image tok.instr).op →
        new.early ≡ old.early → new.chain ≡ old.chain → new.fault ≡ old.fault → new.memory ≡ old.memory
        → new.fired ≡ old.fired + 1 →
        (is_memory_op op ≡ true → new.asked.items ≡ old.asked.items ++ record {
          wave = tok.wave;
          instr = tok.instr;
          operands = record { first = tok.value; second = 0; third = 0 };
        } ∷ [])
        → (is_memory_op op ≡ true → new.way ≡ old.way) →
        (is_memory_op op ≡ false → new.asked ≡ old.asked) →
        (is_memory_op op ≡ false
        → SentTo old.way new.way (tokens_to (cond (is_advance_op op) (suc tok.wave) tok.wave)
        (result_of_op op (tok.value ∷ 0 ∷ 0 ∷ []))
        (destinations image tok.instr (selector_of op (tok.value ∷ 0 ∷ 0 ∷ []))))) →
        (t : State) × Step image s (Match tok.wave tok.instr tok.port) t × FlowIs image world beside new t
    single_fires new one slots op op_is early chain stopped memory fired asked not_sent not_asked sent =
        let f : Ports = with_at tok.wave tok.instr tok.port (Some tok.value)
        (partial_of old.slots.slots.items old.slots.spill) in
        let e : with_at tok.wave tok.instr tok.port (Some tok.value)
        (partial_of old.slots.slots.items old.slots.spill) tok.wave tok.instr 0 ≡ Some tok.value =
        ap (λ (q : ℕ). with_at tok.wave tok.instr tok.port (Some tok.value)
        (partial_of old.slots.slots.items old.slots.spill) tok.wave tok.instr q) (sym (single_port one))
        ∙ here in
        arrived_fires tok old new s h (with_at tok.wave tok.instr tok.port (Some tok.value)
        (partial_of old.slots.slots.items old.slots.spill)) (λ a b q. refl)
        (subst (λ (n : ℕ). is_full (with_at tok.wave tok.instr tok.port (Some tok.value)
        (partial_of old.slots.slots.items old.slots.spill)) tok.wave tok.instr n ≡ true) (sym one)
        (ap (λ (o : Option ℕ). has o && true) e))
        (λ a b q. ap (λ (x : MatchStore). partial_of x.slots.items x.spill a b q) slots
        ∙ single_cleared one a b q)
        op op_is (record { first = tok.value; second = 0; third = 0 })
        (subst (λ (n : ℕ). listed n (record { first = tok.value; second = 0; third = 0 })
        ≡ gather (with_at tok.wave tok.instr tok.port (Some tok.value)
        (partial_of old.slots.slots.items old.slots.spill)) tok.wave tok.instr 0 n) (sym one)
        (ap (λ (o : Option ℕ). or_else o 0 ∷ []) (sym e)))
        early chain stopped memory fired asked not_sent not_asked sent
