-- What a match and an issue do to a core's parts, put together.
use Rattle.std.proofs.Common.{arith, ℕ, suc, ◌≡◌, ◌⊎◌, true, false, List, [], ◌∷◌, ◌++◌, length, Option, Some}
use Rattle.std.proofs.Common.{None, refl, sym, ◌∙◌, subst, inl, inr}
use Rattle.ws_words.specs.Outside.{World}
use Rattle.ws_isa.specs.Image.{Image, Token, ports, is_memory, is_load, is_past, note_of, result_of, answer}
use Rattle.ws_isa.specs.Image.{sends}
use Rattle.ws_isa.specs.Walk.{Inst, Ports, gather, no_ports, start_tokens}
use Rattle.df_core.specs.Effect.{effect_after}
use Rattle.df_core.specs.Core.{Apart, State, Chain, Match, Issue, IsSent, IsNext, Same, pass, with_at}
use Rattle.df_core.specs.Core.{is_full, arrived, asks, tells, matched, Issuable, issue, Rest, core_opening}
use Rattle.df_core.specs.Fit.{FiresAt, RightRequest}
use Rattle.df_core.specs.Stands.{AllOnce, Request, HasRequest, cleared, left_after, Settles, Stands}
use Rattle.df_core.proofs.Walked.Facts.{WalkFacts}
use Rattle.df_core.proofs.Walked.SlotLists.{is_sent_append_left, is_sent_append_right, is_sent_append_cases}
use Rattle.df_core.proofs.Keeping.Ports.{with_at_cases}
use Rattle.df_core.proofs.Keeping.Reachable.{opening_fit, opening_grounded, start_sent, start_there'}
use Rattle.df_core.proofs.Parts.StandsMatch as M
use Rattle.df_core.proofs.Parts.StandsMatch.{apart_append, full_agree, gather_agree}
use Rattle.df_core.proofs.Parts.StandsIssue as I
use Rattle.df_core.specs.Moves.{StateMoves}

pub same_of : (s t : State) → s ≡ t → Same s t
same_of s t e =
    subst (Same s) e (record {
      held = λ w i p. refl;
      way = λ w i p. refl;
      fired = refl;
      waiting = λ w i. refl;
      issued = λ w i. refl;
      chain = refl;
      stopped = refl;
      memory = refl;
    })

-- ports that answer alike, and lists with the same tokens
pub stands_alike : (image : Image) (world : World) (f g : Ports) (way : List Token) (asked : List Request)
    (early : List ℕ) (s : State) → ((w i p : ℕ) → g w i p ≡ f w i p) → Stands image world f way asked early s
    → Stands image world g way asked early s
stands_alike image world f g way asked early s e st = grind (arith, st.held, st.gone)

pub record Reordered (xs ys : List Token) : Type 0 where
  pub to : (w i p v : ℕ) → IsSent xs w i p v → IsSent ys w i p v
  pub from : (w i p v : ℕ) → IsSent ys w i p v → IsSent xs w i p v
  pub apart : Apart xs → Apart ys

pub stands_reordered : (image : Image) (world : World) (f : Ports) (xs ys : List Token) (asked : List Request)
    (early : List ℕ) (s : State) → Reordered xs ys → Stands image world f xs asked early s
    → Stands image world f ys asked early s
stands_reordered image world f xs ys asked early s r st = grind arith

apart_left : (xs ys : List Token) → Apart (xs ++ ys) → Apart xs
apart_left [] ys a = tt
apart_left (x ∷ xs) ys a = (
  (λ v h. a.0 v (is_sent_append_left xs ys x.wave x.instr x.port v h)),
  apart_left xs ys a.1,
)

apart_right : (xs ys : List Token) → Apart (xs ++ ys) → Apart ys
apart_right [] ys a = a
apart_right (x ∷ xs) ys a = apart_right xs ys a.1

pub apart_cross : (xs ys : List Token) → Apart (xs ++ ys) → (w i p a b : ℕ) → IsSent xs w i p a
    → IsSent ys w i p b → ⊥
apart_cross [] ys a w i p c d h k = h
apart_cross (x ∷ xs) ys a w i p c d (inl h) k = a.0 d (is_sent_append_right xs ys x.wave x.instr x.port d
    (subst (λ (n : ℕ). IsSent ys x.wave x.instr n d) (sym h.2)
    (subst (λ (n : ℕ). IsSent ys x.wave n p d) (sym h.1)
    (subst (λ (n : ℕ). IsSent ys n i p d) (sym h.0) k))))
apart_cross (x ∷ xs) ys a w i p c d (inr h) k = apart_cross xs ys a.1 w i p c d h k

sent_swap : (xs ys : List Token) (w i p v : ℕ) → IsSent (xs ++ ys) w i p v → IsSent (ys ++ xs) w i p v
sent_swap xs ys w i p v h = grind (arith, is_sent_append_cases, is_sent_append_right, is_sent_append_left)

apart_swap : (xs ys : List Token) → Apart (xs ++ ys) → Apart (ys ++ xs)
apart_swap xs ys a = grind (arith, apart_append, apart_right, apart_left, apart_cross)

-- two lists change places
pub swapped : (xs ys : List Token) → Reordered (xs ++ ys) (ys ++ xs)
swapped xs ys = record { to = sent_swap xs ys; from = sent_swap ys xs; apart = apart_swap xs ys }

-- a token between two lists stands before them
pub to_front : (xs : List Token) (t : Token) (ys : List Token) → Reordered ((xs ++ t ∷ []) ++ ys)
    (t ∷ (xs ++ ys))
to_front xs t ys = record {
  to = grind (arith, is_sent_append_cases, is_sent_append_left, is_sent_append_right);
  from = grind (arith, is_sent_append_left, is_sent_append_right, is_sent_append_cases);
  apart = λ a. (
    (λ v h. elim (is_sent_append_cases xs ys t.wave t.instr t.port v h) [
      | inl g ↦ apart_cross xs (t ∷ []) (apart_left (xs ++ t ∷ []) ys a) t.wave t.instr t.port v t.value g
          (inl (refl, refl, refl, refl))
      | inr g ↦ apart_cross (xs ++ t ∷ []) ys a t.wave t.instr t.port t.value v
          (is_sent_append_right xs (t ∷ []) t.wave t.instr t.port t.value (inl (refl, refl, refl, refl))) g
    ]),
    apart_append xs ys (apart_left xs (t ∷ []) (apart_left (xs ++ t ∷ []) ys a))
        (apart_right (xs ++ t ∷ []) ys a)
        (λ w i p c d h k. apart_cross (xs ++ t ∷ []) ys a w i p c d
        (is_sent_append_left xs (t ∷ []) w i p c h) k),
  );
}

-- tokens that came behind two lists stand behind the first
pub behind_first : (xs ys ts : List Token) → Reordered ((xs ++ ys) ++ ts) ((xs ++ ts) ++ ys)
behind_first xs ys ts = record {
  to = to;
  from = from;
  apart = λ a. apart_append (xs ++ ts) ys (apart_append xs ts (apart_left xs ys (apart_left (xs ++ ys) ts a))
      (apart_right (xs ++ ys) ts a)
      (λ w i p c d h k. apart_cross (xs ++ ys) ts a w i p c d (is_sent_append_left xs ys w i p c h) k))
      (apart_right xs ys (apart_left (xs ++ ys) ts a))
      (λ w i p c d h k. elim (is_sent_append_cases xs ts w i p c h) [
        | inl g ↦ apart_cross xs ys (apart_left (xs ++ ys) ts a) w i p c d g k
        | inr g ↦ apart_cross (xs ++ ys) ts a w i p d c (is_sent_append_right xs ys w i p d k) g
      ]);
}
  where
    to : (w i p v : ℕ) → IsSent ((xs ++ ys) ++ ts) w i p v → IsSent ((xs ++ ts) ++ ys) w i p v
    to w i p v h = grind (arith, is_sent_append_cases, is_sent_append_left, is_sent_append_right)

    from : (w i p v : ℕ) → IsSent ((xs ++ ts) ++ ys) w i p v → IsSent ((xs ++ ys) ++ ts) w i p v
    from w i p v h = grind (arith, is_sent_append_cases, is_sent_append_left, is_sent_append_right)

-- requests in another order
pub record Alike (xs ys : List Request) : Type 0 where
  pub to : (w i : ℕ) (os : List ℕ) → HasRequest xs w i os → HasRequest ys w i os
  pub from : (w i : ℕ) (os : List ℕ) → HasRequest ys w i os → HasRequest xs w i os
  pub once : AllOnce xs → AllOnce ys

pub stands_asked : (image : Image) (world : World) (f : Ports) (way : List Token) (xs ys : List Request)
    (early : List ℕ) (s : State) → Alike xs ys → Stands image world f way xs early s
    → Stands image world f way ys early s
stands_asked image world f way xs ys early s r st = grind arith

has_in : (a b : List Request) (w i : ℕ) (os : List ℕ) → HasRequest (a ++ b) w i os
    → HasRequest a w i os ⊎ HasRequest b w i os
has_in [] b w i os h = inr h
has_in (x ∷ a) b w i os (inl h) = inl (inl h)
has_in (x ∷ a) b w i os (inr h) = grind (arith, has_in a b w i os h)

in_left : (a b : List Request) (w i : ℕ) (os : List ℕ) → HasRequest a w i os → HasRequest (a ++ b) w i os
in_left [] b w i os h = absurd h
in_left (x ∷ a) b w i os (inl h) = inl h
in_left (x ∷ a) b w i os (inr h) = inr (in_left a b w i os h)

in_right : (a b : List Request) (w i : ℕ) (os : List ℕ) → HasRequest b w i os → HasRequest (a ++ b) w i os
in_right [] b w i os h = h
in_right (x ∷ a) b w i os h = inr (in_right a b w i os h)

-- the request stands in the list, and the others as before
picked_to : (a b : List Request) (r : Request) (w i : ℕ) (os : List ℕ) → HasRequest (a ++ r ∷ b) w i os
    → HasRequest (r ∷ (a ++ b)) w i os
picked_to a b r w i os h = grind (arith, has_in, in_left, in_right)

picked_from : (a b : List Request) (r : Request) (w i : ℕ) (os : List ℕ) → HasRequest (r ∷ (a ++ b)) w i os
    → HasRequest (a ++ r ∷ b) w i os
picked_from a b r w i os j = grind (arith, in_right, has_in, in_left)

picked_once : (a b : List Request) (r : Request) → AllOnce (a ++ r ∷ b) → AllOnce (r ∷ (a ++ b))
picked_once [] b r o = o
picked_once (x ∷ a) b r o =
    let ih : AllOnce (r ∷ (a ++ b)) = picked_once a b r o.1 in (
      (λ os h. elim h [
        | inl g ↦ o.0 r.operands (in_right a (r ∷ b) x.wave x.instr r.operands (inl (sym g.0, sym g.1, refl)))
        | inr g ↦ ih.0 os g
      ]),
      ((λ os h. o.0 os (picked_from a b r x.wave x.instr os (inr h))), ih.1),
    )

pub picked : (a b : List Request) (r : Request) → Alike (a ++ r ∷ b) (r ∷ (a ++ b))
picked a b r = record { to = picked_to a b r; from = picked_from a b r; once = picked_once a b r }

unpicked_once : (a b : List Request) (r : Request) → AllOnce (r ∷ (a ++ b)) → AllOnce (a ++ r ∷ b)
unpicked_once [] b r o = o
unpicked_once (x ∷ a) b r o = (
  (λ os h. elim (picked_to a b r x.wave x.instr os h) [
    | inl g ↦ o.0 x.operands (inl (sym g.0, sym g.1, refl))
    | inr g ↦ o.1.0 os g
  ]),
  unpicked_once a b r ((λ os h. o.0 os (inr h)), o.1.1),
)

pub unpicked : (a b : List Request) (r : Request) → Alike (r ∷ (a ++ b)) (a ++ r ∷ b)
unpicked a b r = record { to = picked_from a b r; from = picked_to a b r; once = unpicked_once a b r }

-- one list and another are alike, both ways
abbrev pub AlikeBoth : List Request → List Request → Type 0
AlikeBoth xs ys = Alike xs ys × Alike ys xs

pub both_same : (xs : List Request) → AlikeBoth xs xs
both_same xs = grind arith

alike_trans : (xs ys zs : List Request) → Alike xs ys → Alike ys zs → Alike xs zs
alike_trans xs ys zs a b = grind (arith, b.to, a.to, a.from, b.from, b.once, a.once)

alike_cons : (r : Request) (xs ys : List Request) → Alike xs ys → Alike (r ∷ xs) (r ∷ ys)
alike_cons r xs ys a = grind (arith, a.to, a.from, r.instr, a.once)

pub both_trans : (xs ys zs : List Request) → AlikeBoth xs ys → AlikeBoth ys zs → AlikeBoth xs zs
both_trans xs ys zs a b = (grind (arith, alike_trans))

pub both_cons : (r : Request) (xs ys : List Request) → AlikeBoth xs ys → AlikeBoth (r ∷ xs) (r ∷ ys)
both_cons r xs ys a = (alike_cons r xs ys a.0, alike_cons r ys xs a.1)

-- one of a list stands before the others
pub both_picked : (a b : List Request) (r : Request) → AlikeBoth (a ++ r ∷ b) (r ∷ (a ++ b))
both_picked a b r = (picked a b r, unpicked a b r)

cleared_with : (w i p : ℕ) (o : Option ℕ) (f : Ports) (a b q : ℕ) → cleared w i (with_at w i p o f) a b q
    ≡ cleared w i f a b q
cleared_with w i p o f a b q = grind (arith, M.cleared_cases, with_at_cases)

cleared_same : (w i : ℕ) (f g : Ports) → ((a b q : ℕ) → f a b q ≡ g a b q) → (a b q : ℕ)
    → cleared w i f a b q ≡ cleared w i g a b q
cleared_same w i f g e a b q = grind (arith, M.cleared_cases)

module _ (image : Image) (world : World) (facts : WalkFacts image world) (s : State) (partial : Ports) where
  module _ (rest : List Token) (asked : List Request) (early : List ℕ) (w i p v : ℕ)
      (st : Stands image world partial (record { wave = w; instr = i; port = p; value = v } ∷ rest) asked
      early s)
      (f : Ports) (f_is : (a b q : ℕ) → f a b q ≡ with_at w i p (Some v) partial a b q) where
    full_is : is_full f w i (ports image i) ≡ is_full (with_at w i p (Some v) partial) w i (ports image i)
    full_is = full_agree f (with_at w i p (Some v) partial) w i (ports image i) (λ q. f_is w i q)

    operands_are : gather f w i 0 (ports image i) ≡ gather (with_at w i p (Some v) partial) w i 0
        (ports image i)
    operands_are = gather_agree f (with_at w i p (Some v) partial) w i 0 (ports image i) (λ q. f_is w i q)

    pub waits : is_full f w i (ports image i) ≡ false → StateMoves image world s (Match w i p) f rest asked
        early s.chain s.stopped s.memory (length s.fired)
    waits less = record {
      new = arrived s w i p v;
      step = record {
        value = v;
        on_way = M.on_way image world facts s partial rest asked early w i p v st;
        becomes = same_of (arrived s w i p v) (matched image s w i p v)
            (sym (M.waits_is image world facts s partial rest asked early w i p v st (sym full_is ∙ less)));
      };
      stands = stands_alike image world (with_at w i p (Some v) partial) f rest asked early
          (arrived s w i p v) f_is (M.waits_stands image world facts s partial rest asked early w i p v st
          (sym full_is ∙ less));
      chain_is = refl;
      stopped_is = refl;
      memory_is = refl;
      count_is = refl;
    }

    module _ (full : is_full f w i (ports image i) ≡ true) (g : Ports) (g_is : (a b q : ℕ)
        → g a b q ≡ cleared w i f a b q) (xs : List ℕ) (xs_are : xs ≡ gather f w i 0 (ports image i)) where
      gone : (a b q : ℕ) → g a b q ≡ cleared w i partial a b q
      gone a b q = grind (arith, cleared_same, cleared_with)

      pub calls : is_memory image i ≡ true → StateMoves image world s (Match w i p) g rest
          (record { wave = w; instr = i; operands = xs } ∷ asked) early s.chain s.stopped s.memory
          (suc (length s.fired))
      calls memory = record {
        new = asks image w i (arrived s w i p v);
        step = record {
          value = v;
          on_way = M.on_way image world facts s partial rest asked early w i p v st;
          becomes = same_of (asks image w i (arrived s w i p v)) (matched image s w i p v)
              (sym (M.asks_is image world facts s partial rest asked early w i p v st (sym full_is ∙ full)
              memory));
        };
        stands = stands_alike image world (cleared w i partial) g rest
            (record { wave = w; instr = i; operands = xs } ∷ asked) early (asks image w i (arrived s w i p v))
            gone
            (subst (λ (os : List ℕ). Stands image world (cleared w i partial) rest
            (record { wave = w; instr = i; operands = os } ∷ asked) early
            (asks image w i (arrived s w i p v))) (sym (xs_are ∙ operands_are))
            (M.asks_stands image world facts s partial rest asked early w i p v st (sym full_is ∙ full)
            memory));
        chain_is = refl;
        stopped_is = refl;
        memory_is = refl;
        count_is = refl;
      }

      pub fires_on : is_memory image i ≡ false → StateMoves image world s (Match w i p) g
          (rest ++ sends image w i xs (result_of image i xs)) asked early s.chain s.stopped s.memory
          (suc (length s.fired))
      unfolding M.listed
      fires_on plain = record {
        new = tells image w i (arrived s w i p v);
        step = record {
          value = v;
          on_way = M.on_way image world facts s partial rest asked early w i p v st;
          becomes = same_of (tells image w i (arrived s w i p v)) (matched image s w i p v)
              (sym (M.tells_is image world facts s partial rest asked early w i p v st (sym full_is ∙ full)
              plain));
        };
        stands = stands_alike image world (cleared w i partial) g
            (rest ++ sends image w i xs (result_of image i xs)) asked early
            (tells image w i (arrived s w i p v)) gone
            (subst (λ (os : List ℕ). Stands image world (cleared w i partial)
            (rest ++ sends image w i os (result_of image i os)) asked early
            (tells image w i (arrived s w i p v))) (sym (xs_are ∙ operands_are))
            (M.tells_stands image world facts s partial rest asked early w i p v st (sym full_is ∙ full)
            plain));
        chain_is = refl;
        stopped_is = refl;
        memory_is = refl;
        count_is = refl;
      }

  module _ (way : List Token) (w i : ℕ) (xs : List ℕ) (rest : List Request) (early : List ℕ)
      (st : Stands image world partial way (record { wave = w; instr = i; operands = xs } ∷ rest) early s)
      (may : Issuable image s.issued s.chain s.stopped w i xs) where
    pub stops_at : is_past image i xs ≡ true → StateMoves image world s (Issue w i) partial way
        (record { wave = w; instr = i; operands = xs } ∷ rest) early s.chain true s.memory (length s.fired)
    stops_at beyond = record {
      new = record s { stopped = true };
      step = inl
          (record {
            operands = xs;
            ready = record {
              waits = I.waits image world facts s partial way w i xs rest early st;
              issuable = may;
            };
            past = beyond;
            becomes = same_of _ _ refl;
          });
      stands = I.stop_stands image world facts s partial way w i xs rest early st may beyond;
      chain_is = refl;
      stopped_is = refl;
      memory_is = refl;
      count_is = refl;
    }

    takes_effect : (inside : is_past image i xs ≡ false) (u : ℕ) (x : Inst) (at : FiresAt image world w i u x)
        (xs_are : x.operands ≡ xs) (mi : is_memory image i ≡ true) (d : Chain) (left : List ℕ) →
        I.Ends image world facts s partial way w i xs rest early st may inside u x at xs_are mi d left →
        StateMoves image world s (Issue w i) partial (way ++ sends image w i xs (answer image i xs s.memory))
        rest left d s.stopped (effect_after image i xs s.memory) (length s.fired)
    unfolding issue I.listed
    takes_effect inside u x at xs_are mi d left ends = record {
      new = issue image s w i xs d;
      step = inr
          (record {
            operands = xs;
            ready = record {
              waits = I.waits image world facts s partial way w i xs rest early st;
              issuable = may;
            };
            within = inside;
            chain = d;
            passed = ends.passed;
            becomes = same_of _ _ refl;
          });
      stands = I.issue_stands image world facts s partial way w i xs rest early st may inside u x at xs_are mi
          d left ends;
      chain_is = refl;
      stopped_is = refl;
      memory_is = refl;
      count_is = refl;
    }

    pub goes_next : is_past image i xs ≡ false → IsNext s.chain (note_of image i)
        → (d : Chain) (left : List ℕ) → Settles image (pass s.chain (note_of image i))
        (left_after (note_of image i) early) d left →
        StateMoves image world s (Issue w i) partial (way ++ sends image w i xs (answer image i xs s.memory))
        rest left d s.stopped (effect_after image i xs s.memory) (length s.fired)
    goes_next inside nx d left settles =
        let r : RightRequest image world w i xs = st.fit.request_right w i xs
        (I.waits image world facts s partial way w i xs rest early st) in
        takes_effect inside r.time r.inst r.at r.operands r.memory d left
        (I.next_ends image world facts s partial way w i xs rest early st may inside r.time r.inst r.at
        r.operands r.memory d left nx settles)

    pub goes_early : is_past image i xs ≡ false → (IsNext s.chain (note_of image i) → ⊥)
        → is_load image i ≡ true →
        StateMoves image world s (Issue w i) partial (way ++ sends image w i xs (answer image i xs s.memory))
        rest (i ∷ early) s.chain s.stopped (effect_after image i xs s.memory) (length s.fired)
    goes_early inside not_next load =
        let r : RightRequest image world w i xs = st.fit.request_right w i xs
        (I.waits image world facts s partial way w i xs rest early st) in
        takes_effect inside r.time r.inst r.at r.operands r.memory s.chain (i ∷ early)
        (I.early_ends image world facts s partial way w i xs rest early st may inside r.time r.inst r.at
        r.operands r.memory not_next load)

  -- nothing is on the way, and no request may be issued
  pub at_rest : (asked : List Request) (early : List ℕ) → Stands image world partial [] asked early s
      → ((w i : ℕ) (xs : List ℕ) → HasRequest asked w i xs → Issuable image s.issued s.chain s.stopped w i xs
      → ⊥) → Rest image s
  at_rest asked early st none (Match w i p) e = st.way_to w i p e.0 e.1
  at_rest asked early st none (Issue w i) e = none w i e.0 (st.asked_to w i e.0 e.1.waits) e.1.issuable

-- the parts of the opening state
module _ (image : Image) (world : World) (facts : WalkFacts image world) where
  pub opens : Stands image world no_ports (start_tokens image) [] [] (core_opening image world)
  unfolding core_opening
  opens = record {
    fit = opening_fit image world facts;
    grounded = opening_grounded image world facts;
    once = tt;
    held = λ w i p n. refl;
    gone = λ w i p h. absurd h;
    way_to = start_sent image world facts;
    way_from = λ w i p v h. elim (start_there' image world facts w i p v h)
        [ inl e ↦ absurd (let f : None ≡ Some v = e in cc) | inr e ↦ e ];
    way_apart = facts.start_apart;
    asked_to = λ w i xs e. cc;
    asked_from = λ w i xs h. absurd h;
    asked_once = tt;
    unissued = λ w i xs e. cc;
    early_issued = λ i h. absurd h;
    early_all = grind arith;
  }
