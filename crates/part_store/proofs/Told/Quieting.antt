-- What comes of a request where no address is without data.
use Rattle.std.proofs.Common.{ℕ, ◌≡◌, ◌⊎◌, Bool, true, false, cond, List, Option, Some, None, Result, Ok, Err}
use Rattle.std.proofs.Common.{refl, sym, ap, ◌∙◌, subst, inl, inr, arith}
use Rattle.std.specs.List.{list_any}
use Rattle.std.proofs.lemmas.Bool.{both_ways}
use Rattle.ws_words.specs.Outside.{Outside, World}
use Rattle.ws_isa.specs.Image.{Image, Token}
use Rattle.ws_isa.specs.Formed.{Formed}
use Rattle.ws_isa.specs.Sound.{Sound}
use Rattle.df_core.specs.Core.{Chain, has}
use Rattle.df_core.specs.Fit.{Legal}
use Rattle.df_core.proofs.Keeping.Ports.{with_key_cases}
use Rattle.df_core.specs.Began.{Began}
use Rattle.df_core.specs.Rights.{Asked, IsAsked}
use Rattle.store_buf.specs.declared.fault.BufFault.{BufFault}
use Rattle.store_buf.specs.declared.fault.BufFault.TheVariants as fault
use Rattle.store_buf.specs.declared.kept.Kept.{Kept}
use Rattle.store_buf.specs.Finding.{pair_eq}
use Rattle.store_buf.specs.Requests.{entry_of, issued_in, kept_in, operands_if}
use Rattle.store_buf.specs.Holds.{Issues, part, waiting_in}
use Rattle.store_buf.specs.Outdoors.{HoldsOut}
use Rattle.store_buf.specs.Contents as whole
use Rattle.store_buf.specs.Stores.{asked_of}
use Rattle.store_buf.proofs.Coming.{entry_push, issued_push, kept_push}
use Rattle.part_store.specs.Contents.{NoBare, is_bare, whole_of, PartContent}
use Rattle.part_store.specs.Parted.{Parted}
use Rattle.part_store.specs.Rules.{ComesIn}
use Rattle.part_store.specs.Calls.{SameAs, SubmittedSo, request_of, PartTookSo}
use Rattle.part_store.proofs.Queueing.Keys.{key_cases}
use Rattle.part_store.proofs.Queueing.Standing as S
use Rattle.part_store.proofs.Told.Wholly as W
use Rattle.part_store.proofs.Told.Wholly.{Own}

-- where nothing has changed
same_whole : (c d : PartContent) → SameAs c d → whole_of d ≡ whole_of c
same_whole c d s j = record {
  kept = s.kept j;
  chain = s.chain j;
  fault = s.fault j;
  failed = s.failed j;
  starved = s.starved j;
  outside = s.outside j;
}

module _ (image : Image) (world : World) (formed : Formed image) (sound : Sound image)
    (began : List (Option Began)) (old new : PartContent) (r : Asked) (ask : IsAsked image world r)
    (none : NoBare old) (before : Parted image world began old) (after : Parted image world began new)
    (own : Own new.kept) where
  abbrev k : Kept
  k = record { wave = r.wave; instr = r.instr; first = r.first; second = r.second; answer = None }

  module _ (tokens : List Token) (f p : Option ℕ) (s : Bool)
      (took : PartTookSo image old (request_of r) tokens f p s new) where
    running : old.fault ≡ None
    running = took.0.0

    come : ComesIn old (request_of r) false took.1.0
    come = grind arith

    issued_same : issued_in took.1.0.kept ≡ issued_in old.kept
    issued_same j = λ w i. (ap (λ (x : List Kept). issued_in x w i) come.kept
        ∙ issued_push image old.kept k come.fresh refl w i) j

    module _ (m : Outside) (is : whole.IsBuffer image world began (whole_of old) m) where
      on_old : W.On image world formed sound began old false m
      on_old = record {
        bare = none;
        queued = W.empty old none before.1;
        halts = ap has running;
        legal = rw (← ap has running) is.ok.legal;
        right = λ w i x e. S.whole_kept image world (is_bare old w i) x (none w i)
            (before.0.partly.right w i x e);
        outside = is.outside;
      }

      on_mid : W.On image world formed sound began took.1.0 false m
      on_mid = let l = on_old.legal in record {
        bare = λ w i. come.bare_is w i ∙ elim (key_cases r.wave r.instr w i) [
          | inl y ↦ ap (λ (v : Bool). cond v false (is_bare old w i)) y.0
          | inr y ↦ ap (λ (v : Bool). cond v false (is_bare old w i)) y.0 ∙ none w i
        ];
        queued = come.queued ∙ on_old.queued;
        halts = ap has come.fault ∙ on_old.halts;
        legal = subst (λ (x : (ℕ → ℕ → Option ℕ) × Chain). Legal image world x.0 (waiting_in image
            took.1.0.kept) false x.1 m) (λ j. (sym issued_same j, sym come.chain j)) (record {
              cut = l.cut;
              ordered = l.ordered;
              settled = l.settled;
              halted = λ e. absurd (both_ways false refl e);
            });
        right = λ w i x e. elim (with_key_cases r.wave r.instr (Some k) (entry_of old.kept) w i) [
          | inl h ↦ (let q : Some k ≡ Some x = sym (ap (λ (ks : List Kept). entry_of ks w i) come.kept ∙
              entry_push old.kept k come.fresh w i ∙ h.1) ∙ e in
              let z : k ≡ x = cc in
              subst (λ (y : Kept). IsAsked image world (asked_of y)) z ask)
          | inr h ↦ on_old.right w i x (sym (ap (λ (ks : List Kept). entry_of ks w i) come.kept ∙ entry_push
              old.kept k come.fresh w i ∙ h.1) ∙ e)
        ];
        outside = subst (HoldsOut began m) (sym come.outside) on_old.outside;
      }

      way : W.Way image world formed sound began took.1.0 m tokens took.1.2.mid
      way = W.way _ world formed sound began _ _ _ took.1.2.moves (come.fault ∙ running) _ on_mid

      on_new : W.On image world formed sound began new (has new.fault) way.memory
      on_new = let a = took.1.2.alike in record {
        bare = λ w i. ap (list_any (pair_eq (w, i))) a.bare ∙ way.on.bare w i;
        queued = a.queued ∙ way.on.queued;
        halts = refl;
        legal = subst (λ (x : List Kept × Chain × Option ℕ).
            Legal image world (issued_in x.0) (waiting_in image x.0) (has x.2) x.1 way.memory)
            (λ j. (sym a.kept j, sym a.chain j, sym a.fault j)) way.on.legal;
        right = λ w i x e. way.on.right w i x (subst (λ (ks : List Kept). entry_of ks w i ≡ Some x) a.kept e);
        outside = a.ports began way.memory way.on.outside;
      }

      submitted : whole.Submitted image world began (whole_of old) m r tokens (whole_of new)
      submitted = let a = took.1.2.alike in record {
        arrived = part image took.1.0.kept took.1.0.chain (has took.1.0.fault) m;
        arrives = record {
          fresh = ap (operands_if image) come.fresh;
          kept = λ w i. ap (λ (x : List Kept). kept_in image x w i) come.kept
              ∙ kept_push image old.kept k come.fresh refl w i;
          issued = λ w i. ap (λ (x : List Kept). issued_in x w i) come.kept
              ∙ issued_push image old.kept k come.fresh refl w i;
          chain = come.chain;
          stopped = ap has come.fault;
          memory = refl;
        };
        memory = way.memory;
        issues = subst (λ (x : List Kept × Chain × Option ℕ). Issues image (part image took.1.0.kept
            took.1.0.chain (has took.1.0.fault) m) tokens (part image x.0 x.1 (has x.2) way.memory)) (λ j.
            (sym a.kept j, sym a.chain j, sym a.fault j)) way.issues;
        is = W.buffer_so _ _ formed sound _ _ _ _ on_new own after.0.fault;
      }

    pub said : whole.Comes image world began (whole_of old) r tokens f p s (whole_of new)
    said = (took.0, come.fresh, submitted, took.2, took.3, took.4)

    pub still_none : (m : Outside) → whole.IsBuffer image world began (whole_of old) m → NoBare new
    still_none m is = (on_new m is).bare

  module _ (own_old : Own old.kept) where
    old_is : whole.IsBuffer image world began (whole_of old) before.0.memory
    old_is = W.buffer_so image world formed sound began old (has old.fault) before.0.memory
        (W.on_now image world formed sound began old none before) own_old before.0.fault

    same_none : SameAs old new → NoBare new
    same_none s w i = s.bare w i ∙ none w i

    equal_none : new ≡ old → NoBare new
    equal_none e = subst NoBare (sym e) none

    pub bare_after : (a : Result (List Token) BufFault) → SubmittedSo image old (request_of r) a new →
        NoBare new
    bare_after (Ok tokens) x = still_none tokens None None false x.0 before.0.memory old_is
    bare_after (Err (fault.Index array)) x = still_none x.0 (Some array) None false x.1 before.0.memory old_is
    bare_after (Err (fault.Port port)) x = still_none x.0 None (Some port) false x.1.0 before.0.memory old_is
    bare_after (Err fault.NoMemory) (tokens, inl x) = same_none x.2
    bare_after (Err fault.NoMemory) (tokens, inr x) = still_none _ _ _ _ x.0 _ old_is
    bare_after (Err fault.Old) x = equal_none x.1.3
    bare_after (Err (fault.Stopped port)) x = equal_none x.1.2
    bare_after (Err (fault.Ended array)) x = equal_none x.1.1

    new_or_none : (entry_of old.kept r.wave r.instr ≡ None) ⊎ (is_bare old r.wave r.instr ≡ true) →
        entry_of old.kept r.wave r.instr ≡ None
    new_or_none x = grind arith

    pub submit_so : (a : Result (List Token) BufFault) → SubmittedSo image old (request_of r) a new →
        whole.SubmitSo image world began (whole_of old) r a (whole_of new)
    submit_so (Ok tokens) x = (
      said tokens None None false x.0,
      W.idle_so image world formed sound began new (has new.fault) after.0.memory (W.on_now image world
          formed sound began new (bare_after (Ok tokens) x) after) x.1,
    )
    submit_so (Err (fault.Index array)) x = (x.0, said x.0 (Some array) None false x.1)
    submit_so (Err (fault.Port port)) x = ((x.0, said x.0 None (Some port) false x.1.0), x.1.1, x.1.2)
    submit_so (Err fault.NoMemory) (tokens, inl x) = inl (x.0, new_or_none x.1, same_whole old new x.2)
    submit_so (Err fault.NoMemory) (tokens, inr x) = inr ((tokens, said tokens None None true x.0), x.1)
    submit_so (Err fault.Old) x = (x.1.0, x.1.1, ap whole_of x.1.3)
    submit_so (Err (fault.Stopped port)) x = (x.1.0, x.1.1, ap whole_of x.1.2)
    submit_so (Err (fault.Ended array)) x = (x.1.0, ap whole_of x.1.1)
