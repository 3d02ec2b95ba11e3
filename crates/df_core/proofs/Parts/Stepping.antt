-- The core's steps, event by event.
use Rattle.std.proofs.Common.{arith, ℕ, ◌≡◌, List, [], ◌∷◌, ◌++◌, map, is_some, slice_index_or, sym, ap, ◌∙◌}
use Rattle.std.proofs.Common.{subst, inl, inr, true, false, ◌⊎◌, ◌<◌, length, Result, Ok, Err, OnOk, OnErr}
use Rattle.std.proofs.lemmas.Bool.{both_ways}
use Rattle.ws_words.specs.Outside.{World}
use Rattle.ws_isa.specs.Image as plain
use Rattle.ws_isa.specs.Image.{Image, ports}
use Rattle.ws_isa.specs.Formed.{Formed}
use Rattle.ws_isa.specs.Walk.{Ports}
use Rattle.ws_isa.specs.Sound.{Sound}
use Rattle.df_core.specs.Core as law
use Rattle.df_core.specs.Core.{State, Event, Match, Issue, Step, MatchStep, Issuable, Ready, Enabled, IsSent}
use Rattle.df_core.specs.declared.plain.Token.{Token}
use Rattle.df_core.specs.declared.plain.Asked.{Asked}
use Rattle.df_core.specs.declared.way.Way.{Way}
use Rattle.df_core.specs.declared.flow.Flow.{Flow}
use Rattle.df_core.specs.declared.engine.Core.{Core}
use Rattle.df_core.specs.Stands.{Request, HasRequest, Stands}
use Rattle.df_core.specs.Partial.{partial_of, listed}
use Rattle.df_core.specs.Places.{image_of}
use Rattle.df_core.specs.Chains.{chain_of, may_flag}
use Rattle.df_core.specs.Ways.{token_of, way_of, NoneAt, TakenAt}
use Rattle.df_core.specs.Flows.{request_of, Going, GoingBeside, EventLeads, SameParts, NotReady, no_asked}
use Rattle.df_core.specs.Flows.{NoneAskedMay, FlowIs}
use Rattle.df_core.specs.Cores.{IsAt, Makes, NotEnabled, IsEnabled, IsAtRest, SameStates, IsRunning}
use Rattle.df_core.proofs.Parts.Moving.{Reordered, stands_reordered, to_front}
use Rattle.df_core.proofs.Parts.Driving.{same_holds, has_at, flagged, none_enabled, alone}
use Rattle.df_core.proofs.Telling.Bounds.{has_asked}
use Rattle.df_core.proofs.Parts.Issuing as I
use Rattle.df_core.proofs.Parts.Issuing.{or_any}
use Rattle.ws_words.proofs.Lists.{append_on}

-- the same parts stand for the same
pub kept_same : (core : Core) (flow : Flow) → SameParts core.flow flow
    → SameStates core (record { program = core.program; flow = flow })
kept_same core flow same image world s at = grind (arith, same_holds)

pub runs_same : (core : Core) (flow : Flow) → SameParts core.flow flow → IsRunning core
    → IsRunning (record { program = core.program; flow = flow })
runs_same core flow same r = record {
  image = r.image;
  world = r.world;
  state = r.state;
  at = kept_same core flow same r.image r.world r.state r.at;
}

-- an event was made, or nothing
pub runs_on : {A E : Type 0} (event : Event) (old new : Core) (r : Result A E) → IsRunning old
    → OnOk r (Makes event old new) → OnErr r (SameStates old new) → IsRunning new
runs_on event old new (Ok x) r made kept = let m = made r.image r.world r.state r.at in
    record { image = r.image; world = r.world; state = m.0; at = m.2 }
runs_on event old new (Err x) r made kept = record {
  image = r.image;
  world = r.world;
  state = r.state;
  at = kept r.image r.world r.state r.at;
}

pub not_on_way : (core : Core) (w i p : ℕ) → NoneAt (way_of core.flow.way) w i p
    → NotEnabled (Match w i p) core
not_on_way core w i p none image world s at e = none e.0 (at.holds.stands.way_to w i p e.0 e.1)

pub same_way : (old new : Flow) (w i p : ℕ) → SameParts old new → NoneAt (way_of new.way) w i p
    → NoneAt (way_of old.way) w i p
same_way old new w i p e none = grind arith

taken_way : (image : Image) (world : World) (old new : Way) (w i p : ℕ) (tok : Token) (f : Ports)
    (asked : List Request) (early : List ℕ) (s : State) → TakenAt old new w i p tok
    → Stands image world f (way_of old) asked early s → Stands image world f (token_of tok ∷ way_of new) asked
    early s
taken_way image world old new w i p tok f asked early s e st =
    subst (λ (ts : List plain.Token). Stands image world f (token_of tok ∷ ts) asked early s) (sym e.new_is)
    (stands_reordered image world f (e.before ++ token_of tok ∷ e.behind)
    (token_of tok ∷ (e.before ++ e.behind)) asked early s
    (subst (λ (ts : List plain.Token). Reordered ts (token_of tok ∷ (e.before ++ e.behind)))
    (append_on e.before (token_of tok ∷ []) e.behind) (to_front e.before (token_of tok) e.behind))
    (subst (λ (ts : List plain.Token). Stands image world f ts asked early s) e.old_is st))

taken_at : (image : Image) (world : World) (old new : Flow) (w i p : ℕ) (tok : Token) (s : State)
    → TakenAt old.way new.way w i p tok → new.slots ≡ old.slots → new.asked ≡ old.asked
    → new.early ≡ old.early → new.chain ≡ old.chain → new.fault ≡ old.fault → new.memory ≡ old.memory
    → new.fired ≡ old.fired →
    FlowIs image world [] old s → FlowIs image world (token_of tok ∷ []) new s
taken_at image world old new w i p tok s taken slots asked early chain stopped memory fired h = record {
  stands = rw (slots, asked, early) (taken_way image world old.way new.way w i p tok
      (partial_of old.slots.slots.items old.slots.spill) (map (request_of image) old.asked.items)
      old.early.items s taken h.stands);
  chain_is = h.chain_is ∙ ap chain_of (sym chain);
  stopped_is = h.stopped_is ∙ ap is_some (sym stopped);
  fault_is = rw stopped h.fault_is;
  memory_is = rw memory h.memory_is;
  count_is = h.count_is ∙ sym fired;
}

module _ (core : Core) (prepared mid : Flow) (w i p : ℕ) (tok : Token) (same : SameParts core.flow prepared)
    (taken : TakenAt prepared.way mid.way w i p tok)
    (slots : mid.slots ≡ prepared.slots) (asked : mid.asked ≡ prepared.asked)
    (early : mid.early ≡ prepared.early) (chain : mid.chain ≡ prepared.chain)
    (stopped : mid.fault ≡ prepared.fault) (memory : mid.memory ≡ prepared.memory)
    (fired : mid.fired ≡ prepared.fired) where
  holds_mid : (image : Image) (world : World) (s : State) → IsAt image world core s
      → FlowIs (image_of core.program) world (token_of tok ∷ []) mid s
  holds_mid image world s at = taken_at (image_of core.program) world prepared mid w i p tok s taken slots
      asked early chain stopped memory fired
      (same_holds (image_of core.program) world [] core.flow prepared s same
      (subst (λ (im : Image). FlowIs im world [] core.flow s) (sym at.image_is) at.holds))

  pub going_match : IsRunning core → Going (image_of core.program) (token_of tok ∷ []) mid
  going_match r = record {
    world = r.world;
    state = r.state;
    formed = subst Formed (sym r.at.image_is) r.at.formed;
    sound = subst Sound (sym r.at.image_is) r.at.sound;
    holds = holds_mid r.image r.world r.state r.at;
  }

  pub makes_match : (new : Core) → new.program ≡ core.program → EventLeads (image_of core.program)
      (Match tok.wave tok.instr tok.port) (token_of tok ∷ []) mid new.flow → Makes (Match w i p) core new
  makes_match new program leads image world s at =
      let r = leads [] world s (subst Formed (sym at.image_is) at.formed)
      (subst Sound (sym at.image_is) at.sound) (holds_mid image world s at) in
      let st : MatchStep (image_of core.program) s w i p r.0 =
      subst (λ (q : ℕ). MatchStep (image_of core.program) s w i q r.0) taken.port
      (subst (λ (j : ℕ). MatchStep (image_of core.program) s w j tok.port r.0) taken.instr
      (subst (λ (v : ℕ). MatchStep (image_of core.program) s v tok.instr tok.port r.0) taken.wave r.1)) in (
        r.0,
        subst (λ (im : Image). MatchStep im s w i p r.0) at.image_is st,
        record {
          image_is = ap image_of program ∙ at.image_is;
          formed = at.formed;
          sound = at.sound;
          holds = subst (λ (im : Image). FlowIs im world [] new.flow r.0) at.image_is r.2;
        },
      )

pub not_ready : (core : Core) (w i : ℕ) → NotReady (image_of core.program) core.flow w i
    → NotEnabled (Issue w i) core
not_ready core w i (inl e) image world s at on = both_ways _ on.1.issuable.going (at.holds.stopped_is ∙ e)
not_ready core w i (inr f) image world s at on =
    let here : Image = image_of core.program in
    let holds : FlowIs (image_of core.program) world [] core.flow s =
    subst (λ (im : Image). FlowIs im world [] core.flow s) (sym at.image_is) at.holds in
    let ready : Ready (image_of core.program) s w i on.0 = subst (λ (im : Image). Ready im s w i on.0)
    (sym at.image_is) on.1 in
    let r = has_at (image_of core.program) core.flow.asked.items w i on.0
    (holds.stands.asked_to w i on.0 ready.waits) in
    let m1 : Issuable (image_of core.program) s.issued (chain_of core.flow.chain) s.stopped w i on.0 =
    subst (λ (c : law.Chain). Issuable (image_of core.program) s.issued c s.stopped w i on.0)
    holds.chain_is ready.issuable in
    let m2 : Issuable (image_of core.program) s.issued (chain_of core.flow.chain) s.stopped
    (slice_index_or core.flow.asked.items r.0 no_asked).wave
    (slice_index_or core.flow.asked.items r.0 no_asked).instr
    (listed (ports (image_of core.program) (slice_index_or core.flow.asked.items r.0 no_asked).instr)
    (slice_index_or core.flow.asked.items r.0 no_asked).operands) = rw (r.2, r.4, r.3) m1 in
    f r.0 r.1 r.2 r.3 (flagged (image_of core.program) s.issued (chain_of core.flow.chain) s.stopped
    (slice_index_or core.flow.asked.items r.0 no_asked) m2)

-- a request that may be issued
pub may_enabled : (core : Core) (k : ℕ) (a : Asked) → k < length core.flow.asked.items
    → a ≡ slice_index_or core.flow.asked.items k a → is_some core.flow.fault ≡ false
    → may_flag (image_of core.program) (chain_of core.flow.chain) a.wave a.instr a.operands.first ≡ true
    → IsEnabled (Issue a.wave a.instr) core
may_enabled core k a l is running flag image world s at =
    let holds : FlowIs (image_of core.program) world [] core.flow s =
    subst (λ (im : Image). FlowIs im world [] core.flow s) (sym at.image_is) at.holds in
    let has =
    subst (λ (b : Asked). HasRequest (map (request_of (image_of core.program)) core.flow.asked.items)
    b.wave b.instr (listed (ports (image_of core.program) b.instr) b.operands))
    (sym (or_any core.flow.asked.items k a no_asked l is))
    (has_asked (image_of core.program) core.flow.asked.items k l) in
    subst (λ (im : Image). Enabled im s (Issue a.wave a.instr)) at.image_is (
      listed (ports (image_of core.program) a.instr) a.operands,
      record {
        waits = holds.stands.asked_from a.wave a.instr (listed (ports (image_of core.program) a.instr)
            a.operands) has;
        issuable = I.may (image_of core.program) world (subst Formed (sym at.image_is) at.formed)
            (subst Sound (sym at.image_is) at.sound) [] core.flow s holds k a l is running flag;
      },
    )

-- room was made, and a request is issued
module _ (core : Core) (prepared : Flow) (same : SameParts core.flow prepared) where
  holds_prepared : (image : Image) (world : World) (s : State) → IsAt image world core s
      → FlowIs (image_of core.program) world [] prepared s
  holds_prepared image world s at = grind (arith, same_holds)

  pub going_prepared : IsRunning core → GoingBeside (image_of core.program) [] prepared
  going_prepared r = alone (image_of core.program) [] prepared (record {
    world = r.world;
    state = r.state;
    formed = subst Formed (sym r.at.image_is) r.at.formed;
    sound = subst Sound (sym r.at.image_is) r.at.sound;
    holds = holds_prepared r.image r.world r.state r.at;
  })

  pub makes_issue : (new : Core) (a : Asked) (w i : ℕ) → new.program ≡ core.program → a.wave ≡ w → a.instr ≡ i
      → EventLeads (image_of core.program) (Issue a.wave a.instr) [] prepared new.flow
      → Makes (Issue w i) core new
  makes_issue new a w i program aw ai leads image world s at =
      let r = leads [] world s (subst Formed (sym at.image_is) at.formed)
      (subst Sound (sym at.image_is) at.sound) (holds_prepared image world s at) in
      let st : Step (image_of core.program) s (Issue w i) r.0 =
      subst (λ (j : ℕ). Step (image_of core.program) s (Issue w j) r.0) ai
      (subst (λ (v : ℕ). Step (image_of core.program) s (Issue v a.instr) r.0) aw r.1) in (
        r.0,
        subst (λ (im : Image). Step im s (Issue w i) r.0) at.image_is st,
        record {
          image_is = ap image_of program ∙ at.image_is;
          formed = at.formed;
          sound = at.sound;
          holds = subst (λ (im : Image). FlowIs im world [] new.flow r.0) at.image_is r.2;
        },
      )

pub token_enabled : (core : Core) (tok : Token) → IsSent (way_of core.flow.way) tok.wave tok.instr tok.port
    tok.value → IsEnabled (Match tok.wave tok.instr tok.port) core
token_enabled core tok h image world s at = grind arith

pub core_rests : (core : Core) → way_of core.flow.way ≡ [] → (is_some core.flow.fault ≡ true)
    ⊎ NoneAskedMay (image_of core.program) core.flow → IsAtRest core
core_rests core empty none image world s at (Match w i p) e =
    subst (λ (ts : List plain.Token). IsSent ts w i p e.0) empty (at.holds.stands.way_to w i p e.0 e.1)
core_rests core empty (inl f) image world s at (Issue w i) e = both_ways _ e.1.issuable.going
    (at.holds.stopped_is ∙ f)
core_rests core empty (inr none) image world s at (Issue w i) e =
    none_enabled (image_of core.program) world [] core.flow s
    (subst (λ (im : Image). FlowIs im world [] core.flow s) (sym at.image_is) at.holds) none w i
    (subst (λ (im : Image). Enabled im s (Issue w i)) (sym at.image_is) e)
