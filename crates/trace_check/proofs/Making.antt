-- Events made one after the other.
use Rattle.std.proofs.Common.{◌≡◌, ℕ, zero, suc, ◌<◌, ◌≤◌, List, [], ◌∷◌, ◌++◌, length, get_or, take, drop}
use Rattle.std.proofs.Common.{refl, sym, ap, subst, append-nil, append_assoc, arith}
use Rattle.ws_words.specs.Outside.{World}
use Rattle.ws_isa.specs.Image.{Image}
use Rattle.df_core.specs.Core.{State, Event, Run}
use Rattle.df_core.specs.declared.engine.Core.{Core}
use Rattle.df_core.specs.Cores.{IsAt, Makes}
use Rattle.trace_check.specs.declared.events.Lined.{Lined}
use Rattle.trace_check.specs.declared.replaying.ReplayFault.{ReplayFault}
use Rattle.trace_check.specs.declared.replaying.ReplayFault.TheVariants.{Illegal, NoMemory}
use Rattle.trace_check.specs.Replays.{events_of, event_in, MakesAll, IsEventFault, IsMakingFault}
use Rattle.df_core.proofs.Keeping.Same.{same_refl}

-- Events have led from a state to one at which the core stands: whatever goes on from there goes on
-- from the first.
pub record Along (image : Image) (world : World) (s : State) (events : List Event) (core : Core)
    : Type 0 where
  pub state : State
  pub run : (es : List Event) (u : State) → Run image state es u → Run image s (events ++ es) u
  pub at : IsAt image world core state

abbrev pub LedAlong : List Event → Core → Core → Type 0
LedAlong events old core = (image : Image) (world : World) (s : State) → IsAt image world old s →
    Along image world s events core

pub none_made : (core : Core) → LedAlong [] core core
none_made core image world s at = record { state = s; run = λ es u r. r; at = at }

pub one_made : (events : List Event) (event : Event) (old core new : Core) → LedAlong events old core →
    Makes event core new → LedAlong (events ++ event ∷ []) old new
one_made events event old core new along makes image world s at =
    let a = along image world s at in
    let m = makes image world a.state a.at in
    record {
      state = m.0;
      run = λ es u r. subst (λ (xs : List Event). Run image s xs u)
          (sym (append_assoc events (event ∷ []) es))
          (a.run (event ∷ es) u (m.0, m.1, r));
      at = m.2;
    }

pub run_along : (image : Image) (world : World) (s : State) (events : List Event) (core : Core)
    (a : Along image world s events core) →
    Run image s events a.state
run_along image world s events core a =
    subst (λ (xs : List Event). Run image s xs a.state) (append-nil events)
    (a.run [] a.state (same_refl a.state))

pub all_made : (trace : List Lined) (events : List Event) (old core : Core) → events ≡ events_of trace
    → LedAlong events old core → MakesAll trace old core
all_made trace events old core e along image world s at =
    let a = along image world s at in (
      a.state,
      subst (λ (xs : List Event). Run image s xs a.state) e (run_along image world s events core a),
      a.at,
    )

-- the first events, one more
pub events_more : (xs : List Lined) (k n : ℕ) (d : Lined) → n ≡ suc k → k < length xs
    → events_of (take n xs) ≡ events_of (take k xs) ++ event_in (get_or xs k d) ∷ []
events_more [] k n d e l = absurd (omega arith)
events_more (x ∷ xs) zero n d e l = rw e refl
events_more (x ∷ xs) (suc k) n d e l =
    rw e (ap (λ (es : List Event). event_in x ∷ es) (events_more xs k (suc k) d refl (omega arith)))

split_at : (xs : List Lined) (k : ℕ) (d : Lined) → k < length xs → xs ≡ take k xs ++ get_or xs k d ∷ drop
    (suc k) xs
split_at [] k d l = absurd (omega arith)
split_at (x ∷ xs) zero d l = refl
split_at (x ∷ xs) (suc k) d l = ap (λ (ys : List Lined). x ∷ ys) (split_at xs k d (omega arith))

pub take_all : (xs : List Lined) (k : ℕ) → length xs ≤ k → take k xs ≡ xs
take_all [] zero l = refl
take_all [] (suc k) l = refl
take_all (x ∷ xs) zero l = absurd (omega arith)
take_all (x ∷ xs) (suc k) l = ap (λ (ys : List Lined). x ∷ ys) (take_all xs k (omega arith))

-- the event at a place isn't made
pub not_made : (xs : List Lined) (k : ℕ) (d : Lined) (old core : Core) (fault : ReplayFault) → k < length xs
    → LedAlong (events_of (take k xs)) old core → IsEventFault (get_or xs k d) core fault
    → IsMakingFault xs old fault
not_made xs k d old core NoMemory l along h = tt
not_made xs k d old core (Illegal line) l along h = λ image world s at.
    let a = along image world s at in
    record {
      before = take k xs;
      event = get_or xs k d;
      behind = drop (suc k) xs;
      whole = split_at xs k d l;
      line_is = h.0;
      state = a.state;
      run = run_along image world s (events_of (take k xs)) core a;
      refused = h.1 image world a.state a.at;
    }
