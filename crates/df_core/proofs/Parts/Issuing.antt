-- The parts behind an issue stand for the state behind it.
use Rattle.std.proofs.Common.{ℕ, zero, suc, ◌≡◌, ◌<◌, ◌≤◌, ◌⊎◌, Bool, true, false, cond, not, ◌&&◌, ◌||◌}
use Rattle.std.proofs.Common.{◌==◌, nat_le, eqb-true, is_some, Some, List, [], ◌∷◌, ◌++◌, length, map, take}
use Rattle.std.proofs.Common.{drop, slice_index_or, slice_set, refl, sym, ap, ◌∙◌, subst, inl, inr, arith}
use Rattle.std.specs.List.{swap_remove}
use Rattle.std.proofs.lemmas.Bool.{both_ways, and_parts, leb-true}
use Rattle.std.proofs.lemmas.List.{append-nil}
use Rattle.ws_words.specs.Outside.{Act, loads, stores, reads, prints, gives, takes, Outside, World}
use Rattle.ws_words.specs.Outside.{printed_words}
use Rattle.ws_words.specs.Plain.{took_words, took_by_ports}
use Rattle.ws_isa.specs.declared.instr.Op.{Op}
use Rattle.ws_isa.specs.Image as plain
use Rattle.ws_isa.specs.Image.{Image, Array, instr_at, array_at, array_of_op, note_of, ports, ports_of}
use Rattle.ws_isa.specs.Image.{is_memory, is_memory_op, is_load, is_load_op, is_past, is_past_op}
use Rattle.ws_isa.specs.Image.{is_advance_op, answer, answer_op, after, after_op, selector_of, tokens_to}
use Rattle.ws_isa.specs.Image.{sends}
use Rattle.ws_isa.specs.Formed.{Formed}
use Rattle.ws_isa.specs.Walk.{Ports}
use Rattle.ws_isa.specs.Operations.{without_loads, effect_of}
use Rattle.ws_isa.specs.Sound.{Sound}
use Rattle.df_core.specs.Effect.{effect_after}
use Rattle.df_core.specs.Core as law
use Rattle.df_core.specs.Core.{State, Issue, Step, IsNext, Issuable, position_after}
use Rattle.df_core.specs.Stands.{Request, left_after, Settles, Stands}
use Rattle.df_core.specs.Ends.{Meets}
use Rattle.df_core.proofs.Keeping.IssueKept.{stop_fault}
use Rattle.df_core.proofs.Walked.Facts.{WalkFacts}
use Rattle.df_core.proofs.Walked.FromSound.{facts_of}
use Rattle.df_core.proofs.Walked.PortsThere.{ports_there}
use Rattle.df_core.proofs.Parts.StandsIssue as I
use Rattle.df_core.proofs.Parts.Moving.{AlikeBoth, both_same, both_trans, both_cons, both_picked}
use Rattle.df_core.proofs.Parts.Moving.{stands_asked, stops_at, goes_next, goes_early}
use Rattle.df_core.specs.declared.plain.Asked.{Asked}
use Rattle.df_core.specs.declared.plain.Operands.{Operands}
use Rattle.df_core.specs.declared.memory.Memory.{Memory}
use Rattle.df_core.specs.declared.flow.Flow.{Flow}
use Rattle.df_core.specs.Partial.{partial_of, listed}
use Rattle.df_core.specs.Places.{destinations}
use Rattle.df_core.specs.Ways.{way_of, SentTo}
use Rattle.df_core.specs.Chains.{chain_of, next_flag, may_flag, PassedOn}
use Rattle.df_core.specs.Outdoors.{CarriesOut, MemoryIs}
use Rattle.df_core.specs.Flows.{request_of, all_of, FlowIs}
use Rattle.df_core.proofs.Parts.Nexts.{next_is}
use Rattle.df_core.proofs.Parts.Arriving.{same_selector, sends_are, memory_is_op, ports_is_op, sent_beside}
use Rattle.ws_words.proofs.Lists.{map_append}
use Rattle.ws_words.proofs.Bools.{or_comes as either}
use Rattle.ws_words.specs.Items.{In}
use Rattle.df_core.specs.Moves.{StateMoves}

-- the operands beyond an operation's ports don't matter
pub same_answer : (op : Op) (o : Operands) (m : Outside) → answer_op op (listed (ports_of op) o) m ≡ answer_op
    op (all_of o) m
same_answer op o m = grind arith

pub same_after : (op : Op) (o : Operands) (m : Outside) → after_op op (listed (ports_of op) o) m ≡ after_op op
    (all_of o) m
same_after op o m = grind arith

pub same_past : (arrays : List Array) (op : Op) (o : Operands) → is_past_op arrays op (listed (ports_of op) o)
    ≡ is_past_op arrays op (o.first ∷ [])
same_past arrays op o = grind arith

pub no_advance : (op : Op) (w : ℕ) → is_memory_op op ≡ true → cond (is_advance_op op) (suc w) w ≡ w
no_advance op w e = grind (arith, both_ways)

array_at_is : (image : Image) (k : ℕ) → array_at image k ≡ array_of_op (instr_at image k).op
unfolding array_at
array_at_is image k = refl

-- loads print nothing, and take nothing
pub printed_alike : (acts : List Act) → printed_words (without_loads acts) ≡ printed_words acts
printed_alike [] = refl
printed_alike (loads a i ∷ acts) = printed_alike acts
printed_alike (stores a i v ∷ acts) = printed_alike acts
printed_alike (reads ∷ acts) = printed_alike acts
printed_alike (prints v ∷ acts) = ap (λ (ws : List ℕ). v ∷ ws) (printed_alike acts)
printed_alike (gives p ∷ acts) = printed_alike acts
printed_alike (takes p v ∷ acts) = printed_alike acts

pub took_alike : (q : ℕ) (acts : List Act) → took_words q (without_loads acts) ≡ took_words q acts
took_alike q [] = refl
took_alike q (loads a i ∷ acts) = took_alike q acts
took_alike q (stores a i v ∷ acts) = took_alike q acts
took_alike q (reads ∷ acts) = took_alike q acts
took_alike q (prints v ∷ acts) = took_alike q acts
took_alike q (gives p ∷ acts) = took_alike q acts
took_alike q (takes p v ∷ acts) = grind (arith, took_alike q acts)

pub ports_alike : (acts : List Act) → took_by_ports (without_loads acts) ≡ took_by_ports acts
ports_alike acts = grind (arith, took_alike)

out_effect : (o : Outside) (m : Memory) → MemoryIs o m → MemoryIs (effect_of o) m
out_effect o m h = grind (arith, printed_alike, ports_alike)

pub split_at : {A : Type 0} (xs : List A) (k : ℕ) (d : A) → k < length xs
    → take k xs ++ slice_index_or xs k d ∷ drop (suc k) xs ≡ xs
split_at (x ∷ xs) (suc k) d l = ap (λ ys. x ∷ ys) (split_at xs k d (omega arith))
split_at xs k d l = grind arith

stands_early : (image : Image) (world : World) (f : Ports) (way : List plain.Token) (asked : List Request)
    (xs ys : List ℕ) (s : State) → ((j : ℕ) → In j xs → In j ys) → ((j : ℕ) → In j ys → In j xs)
    → Stands image world f way asked xs s → Stands image world f way asked ys s
stands_early image world f way asked xs ys s to from st = grind arith

pub or_any : {A : Type 0} (xs : List A) (k : ℕ) (x d : A) → k < length xs → x ≡ slice_index_or xs k x
    → x ≡ slice_index_or xs k d
or_any (y ∷ xs) (suc k) x d l e = or_any xs k x d (omega arith) e
or_any xs k x d l e = grind arith

-- the last of a list, and those before it
last_of : (x : Asked) (xs : List Asked) (d : Asked) → x ∷ xs ≡ take (length xs) (x ∷ xs) ++ slice_index_or
    (x ∷ xs) (length xs) d ∷ []
last_of x [] d = refl
last_of x (y ∷ xs) d = ap (λ ys. x ∷ ys) (last_of y xs d)

swap_is : (x : Asked) (xs : List Asked) (k : ℕ) (d : Asked) → swap_remove (x ∷ xs) k d ≡ take (length xs)
    (slice_set (x ∷ xs) k (slice_index_or (x ∷ xs) (length xs) d))
swap_is x xs k d = grind arith

-- a request is taken out, and the last one takes its place
taken_out : (image : Image) (xs : List Asked) (k : ℕ) (a : Asked) → k < length xs → a ≡ slice_index_or xs k a
    → AlikeBoth (map (request_of image) xs) (request_of image a ∷ map (request_of image) (swap_remove xs k a))
taken_out image [] k a l e = absurd (omega arith)
taken_out image (x ∷ []) zero a l e = grind (arith, AlikeBoth, swap_is, both_same)
taken_out image (x ∷ []) (suc k) a l e = absurd (omega arith)
taken_out image (x ∷ y ∷ ys) zero a l e =
    let z : Asked = slice_index_or (y ∷ ys) (length ys) a in
    let front : List Asked = take (length ys) (y ∷ ys) in
    let split : map (request_of image) (y ∷ ys) ≡ map (request_of image) front ++ request_of image z ∷ [] =
    ap (map (request_of image)) (last_of y ys a) ∙ map_append (request_of image) front (z ∷ []) in
    let moved : AlikeBoth (map (request_of image) front ++ request_of image z ∷ [])
    (request_of image z ∷ map (request_of image) front) =
    subst (λ (rs : List Request). AlikeBoth (map (request_of image) front ++ request_of image z ∷ [])
    (request_of image z ∷ rs)) (append-nil (map (request_of image) front))
    (both_picked (map (request_of image) front) [] (request_of image z)) in
    let behind : AlikeBoth (map (request_of image) (y ∷ ys))
    (request_of image z ∷ map (request_of image) front) =
    subst (λ (rs : List Request). AlikeBoth rs (request_of image z ∷ map (request_of image) front))
    (sym split) moved in
    subst (λ (rest : List Asked). AlikeBoth (map (request_of image) (x ∷ y ∷ ys))
    (request_of image a ∷ map (request_of image) rest)) (sym (swap_is x (y ∷ ys) zero a))
    (subst (λ (b : Asked). AlikeBoth (map (request_of image) (x ∷ y ∷ ys))
    (request_of image b ∷ request_of image z ∷ map (request_of image) front)) (sym e)
    (both_cons (request_of image x) (map (request_of image) (y ∷ ys))
    (request_of image z ∷ map (request_of image) front) behind))
taken_out image (x ∷ y ∷ ys) (suc k) a l e =
    let left : List Request = map (request_of image) (swap_remove (y ∷ ys) k a) in
    let on : swap_remove (x ∷ y ∷ ys) (suc k) a ≡ x ∷ swap_remove (y ∷ ys) k a = swap_is x (y ∷ ys) (suc k) a
    ∙ ap (λ (rest : List Asked). x ∷ rest) (sym (swap_is y ys k a)) in
    rw on
    (both_trans (map (request_of image) (x ∷ y ∷ ys)) (request_of image x ∷ request_of image a ∷ left)
    (request_of image a ∷ request_of image x ∷ left)
    (both_cons (request_of image x) (map (request_of image) (y ∷ ys)) (request_of image a ∷ left)
    (taken_out image (y ∷ ys) k a (omega arith) e))
    (both_picked (request_of image x ∷ []) left (request_of image a)))

module _ (image : Image) (world : World) (formed : Formed image) (sound : Sound image)
    (beside : List plain.Token) (old : Flow) (s : State) (h : FlowIs image world beside old s) (k : ℕ)
    (a : Asked) (l : k < length old.asked.items) (a_is : a ≡ slice_index_or old.asked.items k a)
    (running : is_some old.fault ≡ false) (flag : may_flag image (chain_of old.chain) a.wave a.instr
    a.operands.first ≡ true) where
  facts : WalkFacts image world
  facts = facts_of image world (ports_there image formed) sound

  abbrev rest : List Request
  rest = map (request_of image) (swap_remove old.asked.items k a)

  abbrev xs : List ℕ
  xs = listed (ports image a.instr) a.operands

  abbrev partial : Ports
  partial = partial_of old.slots.slots.items old.slots.spill

  mixed : AlikeBoth (map (request_of image) old.asked.items) (request_of image a ∷ rest)
  mixed = taken_out image old.asked.items k a l a_is

  abbrev Picked : Type 0
  Picked = Stands image world partial (beside ++ way_of old.way) (request_of image a ∷ rest) old.early.items s

  st : Picked
  st = stands_asked image world partial (beside ++ way_of old.way) (map (request_of image) old.asked.items)
      (request_of image a ∷ rest) old.early.items s mixed.0 h.stands

  op_is : is_load image a.instr ≡ is_load_op (instr_at image a.instr).op
  unfolding is_load
  op_is = refl

  past_is_op : is_past image a.instr xs ≡ is_past_op image.arrays (instr_at image a.instr).op
      (a.operands.first ∷ [])
  unfolding is_past
  past_is_op = grind (arith, ports_is_op, same_past)

  same_chain : chain_of old.chain ≡ s.chain
  same_chain = sym h.chain_is

  flags : ((a.wave == old.chain.wave) ≡ true)
      × ((next_flag (chain_of old.chain) (note_of image a.instr)
      || (is_load_op (instr_at image a.instr).op && not (is_past_op image.arrays (instr_at image a.instr).op
      (a.operands.first ∷ [])) && nat_le (note_of image a.instr).ripple (position_after old.chain.last)))
      ≡ true)
  flags = and_parts _ _ flag

  not_false : (b : Bool) → not b ≡ true → b ≡ false
  not_false b e = grind (arith, both_ways)

  turn : IsNext s.chain (note_of image a.instr)
      ⊎ ((is_load image a.instr ≡ true) × (is_past image a.instr xs ≡ false)
      × ((note_of image a.instr).ripple ≤ position_after s.chain.last))
  turn = grind (arith, either, nat_le, same_chain, next_is, and_parts, op_is, past_is_op, not_false, leb-true)

  pub may : Issuable image s.issued s.chain s.stopped a.wave a.instr xs
  may = record {
    going = h.stopped_is ∙ running;
    current = eqb-true a.wave old.chain.wave flags.0 ∙ ap (λ (c : law.Chain). c.wave) same_chain;
    fresh = I.fresh image world facts s partial (beside ++ way_of old.way) a.wave a.instr xs rest
        old.early.items st;
    turn = turn;
  }

  -- past the end the chain stops
  pub issue_stops : (op : Op) → op ≡ (instr_at image a.instr).op
      → is_past_op image.arrays op (a.operands.first ∷ []) ≡ true → (array : ℕ) → array ≡ array_of_op op
      → (new : Flow) → new.slots ≡ old.slots → new.way ≡ old.way → new.asked ≡ old.asked
      → new.early ≡ old.early → new.chain ≡ old.chain → new.fault ≡ Some array →
      new.memory ≡ old.memory → new.fired ≡ old.fired → (t : State) × Step image s (Issue a.wave a.instr) t
      × FlowIs image world beside new t
  issue_stops op op_is past array array_is new slots way asked early chain stopped memory fired =
      let p : is_past image a.instr xs ≡ true = past_is_op
      ∙ ap (λ (o : Op). is_past_op image.arrays o (a.operands.first ∷ [])) (sym op_is) ∙ past in
      let meet : Meets image world a.wave a.instr = stop_fault image world facts s h.stands.fit a.wave a.instr
      xs (I.waits image world facts s partial (beside ++ way_of old.way) a.wave a.instr xs rest
      old.early.items st) may p in
      let m = stops_at image world facts s partial (beside ++ way_of old.way) a.wave a.instr xs rest
      old.early.items st may p in
      let e : Stands image world partial (beside ++ way_of old.way) (map (request_of image) old.asked.items)
      old.early.items m.new =
      stands_asked image world partial (beside ++ way_of old.way) (request_of image a ∷ rest)
      (map (request_of image) old.asked.items) old.early.items m.new mixed.1 m.stands in (
        m.new,
        m.step,
        record {
          stands = rw (slots, way, asked, early) e;
          chain_is = m.chain_is ∙ h.chain_is ∙ ap chain_of (sym chain);
          stopped_is = m.stopped_is ∙ ap is_some (sym stopped);
          fault_is = rw stopped (record {
            time = meet.time;
            fault = meet.fault;
            array_is = array_is ∙ ap array_of_op op_is ∙ sym (array_at_is image a.instr)
                ∙ ap (array_at image) (sym meet.instr);
          });
          memory_is = rw (m.memory_is, memory) h.memory_is;
          count_is = m.count_is ∙ h.count_is ∙ sym fired;
        },
      )

  memory_op : is_memory image a.instr ≡ true
  memory_op =
      (h.stands.fit.request_right a.wave a.instr xs
      (I.waits image world facts s partial (beside ++ way_of old.way) a.wave a.instr xs rest old.early.items
      st)).memory

  -- else it takes its effect
  module _ (op : Op) (op_is' : op ≡ (instr_at image a.instr).op)
      (within : is_past_op image.arrays op (a.operands.first ∷ []) ≡ false) (word : ℕ) (new : Flow)
      (answers : (o : Outside) (third : ℕ) → MemoryIs o old.memory
      → CarriesOut op (a.operands.first ∷ a.operands.second ∷ third ∷ []) o word new.memory)
      (slots : new.slots ≡ old.slots) (asked : new.asked.items ≡ swap_remove old.asked.items k a)
      (stopped : new.fault ≡ old.fault) (fired : new.fired ≡ old.fired)
      (passed : PassedOn image (chain_of old.chain) a.instr old.early.items (chain_of new.chain)
      new.early.items)
      (sent : SentTo old.way new.way
      (tokens_to a.wave word (destinations image a.instr (selector_of op (all_of a.operands))))) where
    inside : is_past image a.instr xs ≡ false
    inside = grind (arith, past_is_op)

    xs_is : listed (ports_of op) a.operands ≡ xs
    xs_is = ap (λ (n : ℕ). listed n a.operands) (ap ports_of op_is' ∙ sym (ports_is_op image a.instr))

    done : CarriesOut op (a.operands.first ∷ a.operands.second ∷ a.operands.third ∷ []) s.memory word
        new.memory
    done = answers s.memory a.operands.third h.memory_is

    answer_is : word ≡ answer image a.instr xs s.memory
    unfolding answer
    answer_is = grind (arith, done, same_answer, xs_is, xs)

    after_is : MemoryIs (effect_after image a.instr xs s.memory) new.memory
    unfolding effect_after after
    after_is = out_effect (after_op (instr_at image a.instr).op xs s.memory) new.memory
        (subst (λ (o : Outside). MemoryIs o new.memory) (sym (same_after op a.operands s.memory)
        ∙ ap (λ (ys : List ℕ). after_op op ys s.memory) xs_is ∙ ap (λ (o : Op). after_op o xs s.memory)
        op_is') done.after)

    sent_is : tokens_to a.wave word (destinations image a.instr (selector_of op (all_of a.operands)))
        ≡ sends image a.wave a.instr xs (answer image a.instr xs s.memory)
    sent_is =
        let se : selector_of op (all_of a.operands) ≡ selector_of (instr_at image a.instr).op xs =
        sym (same_selector op a.operands) ∙ ap (selector_of op) xs_is
        ∙ ap (λ (x : Op). selector_of x xs) op_is' in
        let w : cond (is_advance_op (instr_at image a.instr).op) (suc a.wave) a.wave ≡ a.wave =
        no_advance (instr_at image a.instr).op a.wave (sym (memory_is_op image a.instr) ∙ memory_op) in
        ap (λ (v : ℕ). tokens_to a.wave v (destinations image a.instr (selector_of op (all_of a.operands))))
        answer_is
        ∙ ap (λ (n : ℕ). tokens_to a.wave (answer image a.instr xs s.memory) (destinations image a.instr n))
        se
        ∙ ap (λ (n : ℕ). tokens_to n (answer image a.instr xs s.memory)
        (destinations image a.instr (selector_of (instr_at image a.instr).op xs))) (sym w)
        ∙ sends_are image a.wave a.instr xs (answer image a.instr xs s.memory)

    rest_is : rest ≡ map (request_of image) new.asked.items
    rest_is = ap (map (request_of image)) (sym asked)

    finish : (left : List ℕ) → StateMoves image world s (Issue a.wave a.instr) partial
        ((beside ++ way_of old.way) ++ sends image a.wave a.instr xs (answer image a.instr xs s.memory)) rest
        left (chain_of new.chain) s.stopped (effect_after image a.instr xs s.memory) (length s.fired) →
        ((j : ℕ) → In j left → In j new.early.items) → ((j : ℕ) → In j new.early.items → In j left)
        → (t : State) × Step image s (Issue a.wave a.instr) t × FlowIs image world beside new t
    finish left m to from =
        let e1 : Stands image world partial (beside ++ way_of new.way) rest left m.new =
        sent_beside image world partial beside old.way new.way
        (sends image a.wave a.instr xs (answer image a.instr xs s.memory)) rest left m.new
        (subst (SentTo old.way new.way) sent_is sent) m.stands in
        let e2 : Stands image world partial (beside ++ way_of new.way)
        (map (request_of image) new.asked.items) left m.new =
        subst (λ (rs : List Request). Stands image world partial (beside ++ way_of new.way) rs left m.new)
        rest_is e1 in
        let e3 : Stands image world partial (beside ++ way_of new.way)
        (map (request_of image) new.asked.items) new.early.items m.new =
        stands_early image world partial (beside ++ way_of new.way)
        (map (request_of image) new.asked.items) left new.early.items m.new to from e2 in (
          m.new,
          m.step,
          record {
            stands = rw slots e3;
            chain_is = m.chain_is;
            stopped_is = m.stopped_is ∙ h.stopped_is ∙ ap is_some (sym stopped);
            fault_is = rw stopped h.fault_is;
            memory_is = rw m.memory_is after_is;
            count_is = m.count_is ∙ h.count_is ∙ sym fired;
          },
        )

    by_load : (IsNext s.chain (note_of image a.instr) → ⊥) → is_load image a.instr ≡ true
    by_load n = elim turn [ inl e ↦ absurd (n e) | inr e ↦ e.0 ]

    pub issue_goes : (t : State) × Step image s (Issue a.wave a.instr) t × FlowIs image world beside new t
    issue_goes = elim passed [
      | inl p ↦
          (let nx : IsNext s.chain (note_of image a.instr) =
          subst (λ (c : law.Chain). IsNext c (note_of image a.instr)) same_chain p.0 in
          let se : Settles image (law.pass s.chain (note_of image a.instr))
          (left_after (note_of image a.instr) old.early.items) (chain_of new.chain) new.early.items =
          rw same_chain at p.1 in
          finish new.early.items (goes_next image world facts s partial (beside ++ way_of old.way) a.wave
          a.instr xs rest old.early.items st may inside nx (chain_of new.chain) new.early.items se)
          (λ j g. g) (λ j g. g))
      | inr p ↦ (let n : IsNext s.chain (note_of image a.instr) → ⊥ = λ e.
          p.0 (subst (λ (c : law.Chain). IsNext c (note_of image a.instr)) (sym same_chain) e) in
          let m = goes_early image world facts s partial (beside ++ way_of old.way) a.wave a.instr xs rest
          old.early.items st may inside n (by_load n) in
          let c : s.chain ≡ chain_of new.chain = h.chain_is ∙ sym p.1 in
          finish (a.instr ∷ old.early.items)
          (subst (λ (d : law.Chain). StateMoves image world s (Issue a.wave a.instr) partial
          ((beside ++ way_of old.way) ++ sends image a.wave a.instr xs (answer image a.instr xs s.memory))
          rest (a.instr ∷ old.early.items) d s.stopped (effect_after image a.instr xs s.memory)
          (length s.fired)) c m)
          (λ j g. elim g [
            | inl e ↦ rw e p.2.1
            | inr r ↦
                p.2.2 j r
          ])
          (λ j g. elim (p.2.0 j g) [ inl e ↦ inl (sym e) | inr r ↦ inr r ]))
    ]
